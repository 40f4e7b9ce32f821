-- The search in Colussi's order.
use Rattle.std.specs.Prelude.{List, ℕ, length}
use Rattle.words.specs.Tables.{noholes, place, shift, next}
use Rattle.rules.specs.Rules.{Plan, Search, text_source, search}

-- The plan of document 01's tables: the known edge moves on leaving with a rank of d or more.
abbrev pub colussi_plan : List ℕ → Plan
colussi_plan w = record { m = length w; place = place w; shift = shift w; next = next w; edge_from = noholes w }

unfoldable pub colussi : Search
unfolding search noholes place shift next
colussi w t cap size = search (colussi_plan w) (text_source w t) cap size
