-- Document 02, C-20: the search in a custom order. Its shifts are those of source document 000, section 3.
use Rattle.std.specs.Prelude.{ℕ, suc, ◌-◌, Bool, not, ◌&&◌, ◌||◌, List, ltb, leb, eqb, length, get_or}
use Rattle.words.specs.Numbers.{first, some}
use Rattle.words.specs.Tables.{letter}
use Rattle.rules.specs.Rules.{Plan, Search, text_source, search}

-- Moved on by k, the pattern has its letter p - k where it had letter p, if k is at most p. A match at place p rules the distance k out, if that
-- is another letter: the source's set N(p).
unfoldable pub match_rules_out : List ℕ → ℕ → ℕ → Bool
match_rules_out w p k = leb k p && not (eqb (letter w p) (letter w (p - k)))

-- A mismatch at p rules it out, if it is the same letter: the set P(p). So distance 0 always is.
unfoldable pub mismatch_rules_out : List ℕ → ℕ → ℕ → Bool
mismatch_rules_out w p k = leb k p && eqb (letter w p) (letter w (p - k))

-- The mismatch at rank i rules k out. With rank m, after an occurrence, there is none.
unfoldable pub present_rules_out : List ℕ → List ℕ → ℕ → ℕ → Bool
unfolding mismatch_rules_out
present_rules_out w order i k = ltb i (length w) && mismatch_rules_out w (get_or order i 0) k

-- The match at some earlier rank does. With rank m every place has matched.
unfoldable pub earlier_rule_out : List ℕ → List ℕ → ℕ → ℕ → Bool
unfolding some match_rules_out
earlier_rule_out w order i k = some 0 i λ j. match_rules_out w (get_or order j 0) k

-- Once a window is left with rank i, one of the two rules k out.
unfoldable pub ruled_out : List ℕ → List ℕ → ℕ → ℕ → Bool
unfolding present_rules_out earlier_rule_out
ruled_out w order i k = present_rules_out w order i k || earlier_rule_out w order i k

-- The shift: the least distance from 1 that is not ruled out. Distance m never is.
unfoldable pub custom_shift : List ℕ → List ℕ → ℕ → ℕ
unfolding first ruled_out
custom_shift w order i = first 1 (length w) λ k. not (ruled_out w order i k)

-- Each window is compared afresh, and no edge is known: no rank is above m.
abbrev pub custom_plan : List ℕ → List ℕ → Plan
custom_plan order w = record {
  m = length w;
  place = λ i. get_or order i 0;
  shift = custom_shift w order;
  next = λ i. 0;
  edge_from = suc (length w);
}

unfoldable pub custom : List ℕ → Search
unfolding search custom_shift
custom order w t cap size = search (custom_plan order w) (text_source w t) cap size
