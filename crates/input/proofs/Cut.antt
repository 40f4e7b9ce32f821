-- The parts of an input as code cuts them out of it, where its length byte is len. Assumes nothing.
use Prim.Native.Nat.{ℕ, ◌+◌, ◌-◌}
use mathlib.Core.Path.{◌≡◌, refl, ◌∙◌}
use mathlib.Core.List.{List}
use native.Mathlib.Numerals.{one-add}
use native.Mathlib.Omega.{arith}
use lib.ListN.{length, take, drop, length-drop}
use lib.Seq.{take_all}
use Rattle.input.specs.Parsed.{length_in, pattern_in, text_in}

abbrev pub pattern_cut : List ℕ → ℕ → List ℕ
pattern_cut input len = take (1 + len - 1) (drop 1 input)

abbrev pub text_cut : List ℕ → ℕ → List ℕ
text_cut input len = take (length input - (1 + len)) (drop (1 + len) input)

module _ (input : List ℕ) (len : ℕ) (first : len ≡ length_in input) where
  pub pattern_cut_lem : pattern_cut input len ≡ pattern_in input
  pattern_cut_lem = let n : 1 + len - 1 ≡ length_in input = omega (arith, first) in rw n refl

  pub text_cut_lem : text_cut input len ≡ text_in input
  text_cut_lem =
      take_all (length input - (1 + len)) (drop (1 + len) input) (omega (arith, length-drop (1 + len) input)) ∙ rw (one-add, first) refl
