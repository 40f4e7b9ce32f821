-- The letters that a search compares, in terms of bytes. Assumes nothing.
use Prim.Native.Nat.{ℕ}
use mathlib.Core.Path.{◌≡◌, refl, ap, ◌∙◌}
use mathlib.Core.List.{List}
use lib.ListN.{length}
use Rattle.classes.specs.Classes.{through, identity}
use Rattle.classes.proofs.Through.{length_through}
use Rattle.classes.proofs.Identity.{through_identity}
use Rattle.pattern.specs.Letters.{own_bytes, word_of, text_of}
use Rattle.pattern.specs.declared.Pattern.{Pattern}

module _ (p : Pattern) where
  pub word_through : word_of p ≡ through p.classes (own_bytes p)
  unfolding word_of
  word_through = refl

  pub text_through : (t : List ℕ) → text_of p t ≡ through p.classes t
  unfolding text_of
  text_through t = refl

  pub length_word : length (word_of p) ≡ length (own_bytes p)
  unfolding word_of
  length_word = length_through p.classes (own_bytes p)

  pub length_text : (t : List ℕ) → length (text_of p t) ≡ length t
  unfolding text_of
  length_text t = length_through p.classes t

  -- Through the classes that give each value itself, letters are the bytes.
  module _ (e : p.classes ≡ identity) where
    pub word_plain : word_of p ≡ own_bytes p
    unfolding word_of
    word_plain = ap (λ (c : List ℕ). through c (own_bytes p)) e ∙ through_identity (own_bytes p)

    pub text_plain : (t : List ℕ) → text_of p t ≡ t
    unfolding text_of
    text_plain t = ap (λ (c : List ℕ). through c t) e ∙ through_identity t
