-- What a count of patterns says in plain terms: packed again they are the same bytes. Assumes nothing.
use Prim.Native.Nat.{ℕ, zero, suc}
use mathlib.Core.Path.{◌≡◌, refl, sym, ap, ◌∙◌}
use mathlib.Core.Bool.{Bool, true, false}
use mathlib.Core.Logic.{◌↔◌}
use mathlib.Core.List.{List, [], ◌∷◌, ◌++◌}
use Rattle.std.specs.Prelude.{Option, Some, None, IfSome}
use native.Mathlib.Omega.{arith}
use lib.ListN.{length, take, length-append}
use lib.Seq.{length-take-le, take-append_seam, drop-append_seam}
use Rattle.words.proofs.Cases.{not_both}
use Rattle.packed.specs.Packed.{patterns, patterns_after, whole, whole_after, counted, packing, PackedFrom, NotPacked}
use Rattle.packed.proofs.Splitting.{patterns_cons, whole_cons, whole_room}

-- ---- Patterns packed are whole, and read back as they were

pub whole_packing : (ws : List (List ℕ)) → whole (packing ws) ≡ true
unfolding packing whole whole_after
whole_packing [] = refl
whole_packing (w ∷ ws) =
    whole_cons (length w) (w ++ packing ws) (omega (arith, length-append w (packing ws)))
    ∙ ap whole (drop-append_seam w (packing ws)) ∙ whole_packing ws

pub patterns_packing : (ws : List (List ℕ)) → patterns (packing ws) ≡ ws
unfolding packing patterns patterns_after
patterns_packing [] = refl
patterns_packing (w ∷ ws) =
    patterns_cons (length w) (w ++ packing ws)
    ∙ rw (take-append_seam w (packing ws), drop-append_seam w (packing ws), patterns_packing ws) refl

-- ---- A whole batch is its patterns packed

-- Once n bytes of an earlier pattern are passed: these, and the patterns after them, packed.
packing_after : (n : ℕ) (s : List ℕ) → whole_after n s ≡ true → take n s ++ packing (patterns_after n s) ≡ s
unfolding packing patterns_after whole_after whole
packing_after zero [] all = refl
packing_after zero (len ∷ rest) all =
    rw (length-take-le len rest (whole_room len rest all)) (ap (λ (l : List ℕ). len ∷ l) (packing_after len rest all))
packing_after (suc n) [] all = absurd (not_both false all refl)
packing_after (suc n) (x ∷ rest) all = ap (λ (l : List ℕ). x ∷ l) (packing_after n rest all)

pub packing_patterns : (packed : List ℕ) → whole packed ≡ true → packing (patterns packed) ≡ packed
unfolding patterns whole
packing_patterns packed all = packing_after 0 packed all

-- ---- Counted

module _ (packed : List ℕ) where
  pub counted_cut : whole packed ≡ false → counted packed ≡ None
  unfolding counted
  counted_cut e = rw (e, counted) refl

  pub counted_all : whole packed ≡ true → counted packed ≡ Some (length (patterns packed))
  unfolding counted
  counted_all e = rw (e, counted) refl

  -- And back.
  pub counted_is_cut : counted packed ≡ None → whole packed ≡ false
  counted_is_cut e = go (whole packed) refl
    where
      go : (b : Bool) → whole packed ≡ b → whole packed ≡ false
      go false h = h
      go true h = let p = counted_all h in let z : ◌≡◌ {A = ℕ} 0 1 = cc in absurd (omega arith)

  pub counted_is_all : {k : ℕ} → counted packed ≡ Some k → (whole packed ≡ true) × (k ≡ length (patterns packed))
  counted_is_all {k} e = go (whole packed) refl
    where
      go : (b : Bool) → whole packed ≡ b → (whole packed ≡ true) × (k ≡ length (patterns packed))
      go true h = let p = counted_all h in (h, cc)
      go false h = let p = counted_cut h in let z : ◌≡◌ {A = ℕ} 0 1 = cc in absurd (omega arith)

  pub packed_from : {k : ℕ} → whole packed ≡ true → k ≡ length (patterns packed) → PackedFrom packed k
  packed_from all e = record {
    number = sym e;
    again = packing_patterns packed all;
    only = λ ws p. sym (patterns_packing ws) ∙ ap patterns p;
  }

  not_packed : whole packed ≡ false → NotPacked packed
  not_packed e ws p = not_both (whole packed) (ap whole (sym p) ∙ whole_packing ws) e

  -- What `count` ensures of its answer r.
  module _ {r : Option ℕ} (e : r ≡ counted packed) where
    pub means : IfSome r (PackedFrom packed)
    means = go r e
      where
        go : (r : Option ℕ) → r ≡ counted packed → IfSome r (PackedFrom packed)
        go (Some k) e = let all = counted_is_all (sym e) in packed_from all.0 all.1
        go None e = tt

    pub cut_means : (r ≡ None) ↔ NotPacked packed
    cut_means = (λ n. not_packed (counted_is_cut (sym e ∙ n)), go (whole packed) refl)
      where
        go : (b : Bool) → whole packed ≡ b → NotPacked packed → r ≡ None
        go true all = λ no. absurd (no (patterns packed) (packing_patterns packed all))
        go false cut = λ no. e ∙ counted_cut cut
