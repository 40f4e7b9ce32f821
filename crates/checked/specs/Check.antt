-- When a pattern is one that preparation gives: the test behind refusal 4 of document 01.
use Rattle.std.specs.Prelude.{ℕ, ◌≡◌, Bool, true, false, ◌&&◌, List, [], ◌∷◌, eqb, Result, Ok, Err, IsOkAnd}
use Rattle.intake.specs.Sizes.{scratch_size}
use Rattle.pattern.specs.Letters.{own_bytes}
use Rattle.pattern.specs.declared.Built.{Built}
use Rattle.pattern.specs.declared.Pattern.{Pattern}
use Rattle.preparation.specs.Prepared.{prepared, plain_prepared}
use Rattle.refusal.specs.declared.Refusal.{Refusal}

unfoldable pub same_list : List ℕ → List ℕ → Bool
same_list [] [] = true
same_list [] (y ∷ t) = false
same_list (x ∷ s) [] = false
same_list (x ∷ s) (y ∷ t) = eqb x y && same_list s t

-- Two patterns are the same in every field: in their classes, and in all others.
unfoldable pub same_tables : Pattern → Pattern → Bool
unfolding same_list
same_tables a b =
    eqb a.len b.len && (eqb a.noholes b.noholes
    && (same_list a.bytes b.bytes && (same_list a.order b.order
    && (same_list a.shift b.shift && (same_list a.next b.next && same_list a.marks b.marks)))))

unfoldable pub same_pattern : Pattern → Pattern → Bool
unfolding same_list same_tables
same_pattern a b = same_list a.classes b.classes && same_tables a b

-- What preparation answers to its own bytes and classes, with a scratch that is long enough. (Of a length above 256 these are 256 bytes, and
-- their pattern differs from p in its length.) What preparation costs is no part of a pattern, and the test does not ask for it.
unfoldable pub prepared_again : Pattern → Result Built Refusal
unfolding prepared
prepared_again p = prepared (own_bytes p) p.classes scratch_size

-- As a test: it is not refused, and no field differs.
unfoldable pub is_prepared : Pattern → Bool
unfolding prepared_again same_pattern
is_prepared p = elim (prepared_again p) [ Ok own ↦ same_pattern p own.pattern | Err why ↦ false ]

-- In plain terms: an answer gives the pattern p. The pattern is prepared if that answer does.
abbrev pub Gives : Result Built Refusal → Pattern → Type 0
Gives a p = IsOkAnd a (λ own. own.pattern ≡ p)

unfoldable pub IsPrepared : Pattern → Type 0
IsPrepared p = Gives (prepared_again p) p

-- The same of a pattern whose classes give each value itself, as it was without classes.
unfoldable pub PlainIsPrepared : Pattern → Type 0
unfolding plain_prepared
PlainIsPrepared p = Gives (plain_prepared (own_bytes p) scratch_size) p
