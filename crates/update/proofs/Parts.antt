-- A part of a text: what occurs in it occurs in the text, moved by the part's start. Assumes nothing.
use Prim.Native.Nat.{ℕ, ◌+◌, ◌-◌, ◌≤◌, ◌<◌}
use mathlib.Core.Path.{◌≡◌, sym, ◌∙◌}
use mathlib.Core.List.{List}
use native.Mathlib.Omega.{arith}
use lib.ListN.{length, take, drop, length-drop}
use lib.Seq.{length-take-le, get_or-take, get_or-drop}
use Rattle.words.specs.Tables.{letter}
use Rattle.rules.specs.Occurs.{Occurs}

-- From place a on and below place e.
abbrev pub part : ℕ → ℕ → List ℕ → List ℕ
part a e t = take (e - a) (drop a t)

module _ (t : List ℕ) (a e : ℕ) (from : a ≤ e) (upto : e ≤ length t) where
  pub length_part : length (part a e t) ≡ e - a
  length_part = length-take-le (e - a) (drop a t) (omega (arith, length-drop a t))

  letter_part : (p : ℕ) → p < e - a → letter (part a e t) p ≡ letter t (a + p)
  letter_part p l = get_or-take (e - a) (drop a t) p 0 l ∙ get_or-drop a t p 0

  module _ (w : List ℕ) (b : ℕ) where
    again : (p : ℕ) → letter t (a + (b + p)) ≡ letter t (a + b + p)
    again p = let z : a + (b + p) ≡ a + b + p = omega arith in rw z

    pub occurs_in_text : Occurs w (part a e t) b → Occurs w t (a + b)
    occurs_in_text O = record {
      inside = omega (arith, O.inside, length_part);
      same = λ p l. O.same p l ∙ letter_part (b + p) (omega (arith, O.inside, length_part)) ∙ again p;
    }

    pub occurs_in_part : a + b + length w ≤ e → Occurs w t (a + b) → Occurs w (part a e t) b
    occurs_in_part within O = record {
      inside = omega (arith, length_part);
      same = λ p l. O.same p l ∙ sym (again p) ∙ sym (letter_part (b + p) (omega arith));
    }
