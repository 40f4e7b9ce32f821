-- A run of entries copied into a list, within it and from without. Assumes nothing.
use Prim.Native.Nat.{ℕ, ◌+◌, ◌-◌, ◌≤◌}
use mathlib.Core.Path.{◌≡◌, refl, sym, ap, ◌∙◌}
use mathlib.Core.List.{List, ◌++◌, append_assoc}
use native.Mathlib.Omega.{arith}
use lib.ListN.{length, take, drop, length-append, length-drop, take-append-drop}
use lib.Seq.{paste, length_paste_head, length-take-le, take-append-le, take-take, take-length, drop_at, drop-drop}
use Rattle.std.proofs.lemmas.List.{drop-take}
use Rattle.correct.specs.Internal.{replaced}

-- Copied to where it stands, it changes nothing.
pub paste_same : (d : List ℕ) (at n : ℕ) → at + n ≤ length d → paste d at (drop at d) n ≡ d
paste_same d at n room =
    let inner = take-append-drop n (drop at d) in
    rw append_assoc (ap (λ (r : List ℕ). take at d ++ (take n (drop at d) ++ r)) (sym (drop-drop n at d)) ∙ ap (λ (r : List ℕ). take at d ++ r) inner ∙ take-append-drop at d)

-- ---- A part of the entries in use replaced

module _ (l s : List ℕ) (used low high : ℕ) (order : low ≤ high) (within : high ≤ used) (fits : used ≤ length l) where
  abbrev new : List ℕ
  new = replaced (take used l) low high s

  pub length_replaced : length new ≡ low + length s + (used - high)
  length_replaced =
      length-append (take low (take used l)) (s ++ drop high (take used l))
      ∙ omega (
        arith,
        length-append s (drop high (take used l)),
        length-take-le low (take used l) (omega (arith, length-take-le used l fits)),
        length-drop high (take used l),
        length-take-le used l fits,
      )

  module _ (room : low + length s + (used - high) ≤ length l) where
    slid : List ℕ
    slid = paste l (low + length s) (drop high l) (used - high)

    take_slid : take low slid ≡ take low l
    unfolding slid
    take_slid =
        let h = length_paste_head l (low + length s) (drop high l) (used - high) (omega arith) (omega (arith, length-drop high l)) in
        take-append-le low (take (low + length s) l ++ take (used - high) (drop high l)) (drop (low + length s + (used - high)) l) (omega (arith, h))
        ∙ take-append-le low (take (low + length s) l) (take (used - high) (drop high l)) (omega (arith, length-take-le (low + length s) l (omega arith)))
        ∙ take-take low (low + length s) l (omega arith)

    drop_slid : drop (low + length s) slid ≡ take (used - high) (drop high l) ++ drop (low + length s + (used - high)) l
    unfolding slid
    drop_slid =
        rw append_assoc
        (drop_at (take (low + length s) l) (take (used - high) (drop high l) ++ drop (low + length s + (used - high)) l) (low + length s)
        (length-take-le (low + length s) l (omega arith)))

    -- The entries from high on are moved, and the new ones put before them.
    pub moved_and_put : paste (paste l (low + length s) (drop high l) (used - high)) low s (length s) ≡ new ++ drop (length new) l
    unfolding slid
    moved_and_put =
        let z : high + (used - high) ≡ used = omega arith in
        let above = rw z at (drop-take high (used - high) l) in
        rw (length_replaced, take_slid, drop_slid, take-length s, take-take low used l (omega arith), above)
        (simp append_assoc refl)
