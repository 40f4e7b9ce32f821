-- The shift and the next rank of each rank. Assumes nothing.
use Prim.Native.Nat.{ℕ, zero, suc, ◌+◌, ◌-◌, ◌≤◌, ◌<◌}
use mathlib.Core.Path.{◌≡◌, refl, ap, ◌∙◌}
use mathlib.Core.Logic.{⊎_elim}
use mathlib.Core.Bool.{false}
use mathlib.Core.List.{List}
use native.Mathlib.Omega.{arith}
use lib.ListN.{length}
use borrow.Author.Tests.{lt-ltb, le-ltb}
use Rattle.words.specs.Tables.{letter, hmax, nohole, below, noholes, place, kmin, rmin, shift, next}
use Rattle.words.proofs.Cases.{less_or, true_or_false}
use Rattle.words.proofs.Periods.{MaxPP}
use Rattle.words.proofs.Noholes.{Hmax, hmax_is, nohole_of, nohole_is, kmin_least, rmin_is}
use Rattle.words.proofs.Ranks.{below_le, below_grows, below_nohole, NoholeRank, nohole_rank, place_from, hole_rank}

module _ (w : List ℕ) where
  -- ---- By the kind of the rank

  pub shift_nohole : (i : ℕ) → i < noholes w → shift w i ≡ kmin w (place w i)
  unfolding shift
  shift_nohole i l = rw (lt-ltb i (noholes w) l, shift) refl

  pub shift_hole : (i : ℕ) → noholes w ≤ i → i < length w → shift w i ≡ rmin w (place w i)
  unfolding shift
  shift_hole i l h = rw (le-ltb i (noholes w) l, lt-ltb i (length w) h, shift) refl

  pub noholes_le : noholes w ≤ length w
  unfolding noholes
  noholes_le = below_le w (length w)

  pub shift_last : shift w (length w) ≡ rmin w 0
  unfolding shift
  shift_last = rw (le-ltb (length w) (noholes w) noholes_le, le-ltb (length w) (length w) (omega arith), shift) refl

  pub next_nohole : (i : ℕ) → i < noholes w → next w i ≡ below w (place w i - kmin w (place w i))
  unfolding next
  next_nohole i l = rw (lt-ltb i (noholes w) l, next) refl

  pub next_hole : (i : ℕ) → noholes w ≤ i → next w i ≡ below w (length w - shift w i)
  unfolding next
  next_hole i l = rw (le-ltb i (noholes w) l, next) refl

  -- ---- The first rank

  -- Where there are noholes, the first is hmax(1): before it all letters are equal. So rank 0 shifts by 1, and goes on with rank 0.
  module _ (any : 0 < noholes w) where
    h : ℕ
    h = place w 0

    N : NoholeRank w 0 h
    N = unfold h in nohole_rank w 0 any

    M : MaxPP (letter w) (kmin w h) h
    M = nohole_is w h N.is

    H : Hmax w 1 (hmax w 1)
    H = hmax_is w 1 (omega arith) (omega (arith, N.inside))

    -- The first hmax(1) letters are all equal.
    equal : (n x : ℕ) → n + x < hmax w 1 → letter w (n + x) ≡ letter w x
    equal zero x l = ap (letter w) (omega arith)
    equal (suc n) x l = H.periodic (n + x) (suc n + x) (omega arith) l ∙ equal n x (omega arith)

    -- hmax(1) is not past h, which differs from an earlier letter,
    not_past : hmax w 1 ≤ h
    not_past = ⊎_elim
        (λ (a : h < hmax w 1).
        let x : ℕ = h - kmin w h in
        let e : kmin w h + x ≡ h = omega (arith, M.from) in
        absurd (M.breaks x (omega (arith, M.from)) (rw e at (equal (kmin w h) x (omega arith)))))
        (λ (a : hmax w 1 ≤ h). a)
        (less_or h (hmax w 1))

    -- nor before it, since no nohole is.
    not_before : h ≤ hmax w 1
    not_before = ⊎_elim
        (λ (a : hmax w 1 < h).
        let y = nohole_of w 1 (hmax w 1) (omega (arith, N.inside)) (H.longest (omega (arith, N.inside))) in
        absurd (omega (arith, below_nohole w (hmax w 1) y, below_grows w (suc (hmax w 1)) h a, N.index)))
        (λ (a : h ≤ hmax w 1). a)
        (less_or (hmax w 1) h)

    first_kmin : kmin w h ≡ 1
    first_kmin = ⊎_elim
        (λ (a : 1 < kmin w h). absurd (kmin_least w h 1 (omega arith) a (omega (arith, not_past, not_before))))
        (λ (a : kmin w h ≤ 1). omega (arith, M.positive))
        (less_or 1 (kmin w h))

    pub shift_first : shift w 0 ≡ 1
    shift_first = shift_nohole 0 any ∙ unfold h in first_kmin

    pub next_first : next w 0 ≡ 0
    unfolding h
    next_first = next_nohole 0 any ∙ omega (arith, below_grows w (h - kmin w h) h (omega arith), N.index)

  -- So no nohole lies below hmax(1), whether there are any or not.
  pub none_below_first : (x : ℕ) → 1 ≤ length w → x ≤ hmax w 1 → below w x ≡ 0
  unfolding noholes h
  none_below_first x pos l = ⊎_elim
      (λ (a : 0 < noholes w). omega (arith, below_grows w x (h a) (omega (arith, not_past a)), (N a).index))
      (λ (a : noholes w ≤ 0). omega (arith, below_grows w x (length w) (omega (arith, (hmax_is w 1 (omega arith) pos).upto))))
      (less_or 0 (noholes w))

  pub hole_before_first : (x : ℕ) → 1 ≤ length w → x < hmax w 1 → nohole w x ≡ false
  hole_before_first x pos l = ⊎_elim
      (λ e. absurd (omega (arith, below_nohole w x e, none_below_first (suc x) pos l)))
      (λ e. e)
      (true_or_false (nohole w x))

  -- ---- Ranges

  -- A shift moves the window on, by at most the pattern's length.
  pub record Moves (s : ℕ) : Type 0 where
    pub on : 1 ≤ s
    pub upto : s ≤ length w

  pub shift_moves : (i : ℕ) → 1 ≤ length w → i ≤ length w → Moves (shift w i)
  shift_moves i pos l = ⊎_elim
      (λ (a : i < noholes w).
      let R = nohole_rank w i a in
      let M = nohole_is w (place w i) R.is in
      rw (shift_nohole i a) record { on = M.positive; upto = omega (arith, R.inside) })
      (λ (a : noholes w ≤ i). ⊎_elim
      (λ (b : i < length w).
      let L = rmin_is w (place w i) (hole_rank w i a b).inside in
      rw (shift_hole i a b) record { on = omega (arith, L.above); upto = L.upto })
      (λ (b : length w ≤ i).
      let L = rmin_is w 0 pos in
      let e : i ≡ length w = omega arith in
      rw (e, shift_last) record { on = L.above; upto = L.upto })
      (less_or i (length w)))
      (less_or i (noholes w))

  -- A window begins with a nohole's rank, or past all of them.
  pub next_early : (i : ℕ) → next w i ≤ noholes w
  unfolding noholes
  next_early i = ⊎_elim
      (λ (a : i < noholes w). rw (next_nohole i a) (below_grows w (place w i - kmin w (place w i)) (length w) (omega (arith, (nohole_rank w i a).inside))))
      (λ (a : noholes w ≤ i). rw (next_hole i a) (below_grows w (length w - shift w i) (length w) (omega arith)))
      (less_or i (noholes w))

  pub next_upto : (i : ℕ) → next w i ≤ length w
  next_upto i = omega (arith, next_early i, noholes_le)

  -- A window that begins with a nohole compares it no further left than the place at which the window before missed; or, where that was a
  -- hole or none, past that window.
  pub next_past_miss : (i : ℕ) → i < noholes w → next w i < noholes w → place w i ≤ shift w i + place w (next w i)
  next_past_miss i early l =
      let from = place_from w (place w i - kmin w (place w i)) (rw (next_nohole i early) at l) in
      rw (next_nohole i early, shift_nohole i early) (omega (arith, from))

  pub next_past_window : (i : ℕ) → noholes w ≤ i → next w i < noholes w → length w ≤ shift w i + place w (next w i)
  next_past_window i late l =
      let from = place_from w (length w - shift w i) (rw (next_hole i late) at l) in
      rw (next_hole i late) (omega (arith, from))
