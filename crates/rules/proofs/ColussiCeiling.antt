-- The search in Colussi's order is under its ceiling, whoever answers its comparisons: the account asks for no text. Assumes nothing.
use Prim.Native.Nat.{ℕ, suc, ◌+◌, ◌-◌, ◌*◌, ◌≤◌, ◌<◌}
use mathlib.Core.Path.{◌≡◌, refl, ap, ◌∙◌}
use mathlib.Core.Logic.{⊎_elim}
use mathlib.Core.List.{List}
use native.Mathlib.Omega.{arith}
use lib.ListN.{length}
use Rattle.words.specs.Tables.{below, noholes, kmin, rmin, place, shift, next}
use Rattle.words.proofs.Cases.{less_or}
use Rattle.words.proofs.Ranks.{holes_grow, nohole_rank, hole_rank, rank_room}
use Rattle.words.proofs.Shifts.{shift_nohole, shift_hole, shift_last, noholes_le, next_nohole, next_hole, shift_moves}
use Rattle.rules.specs.Rules.{Source, text_source, State, Turn, edge_after, leave, listed, compared, matched, missed, turn, search}
use Rattle.rules.specs.Colussi.{colussi_plan, colussi}
use Rattle.rules.specs.Promise.{Ceiling}
use Rattle.rules.specs.declared.Ending.{Ending}
use Rattle.rules.proofs.Turns.{Keeps}
use Rattle.rules.proofs.Rules.{Rule, past, fills, lists, spends, matches, misses, rule, edge_kept, edge_moved, search_keeps}
use Rattle.rules.proofs.Ceiling.{Paid, paid, begins_paid, paid_matched, paid_due, paid_after, paid_missed}

module _ (w : List ℕ) (some : 1 ≤ length w) (n : ℕ) where
  -- The bound in window b.
  abbrev Under : ℕ → ℕ → Type 0
  Under b c = 2 * c ≤ 3 * b + 2 * length w

  -- A window bounds the count; with no window nothing is compared.
  record Bounded (c : ℕ) : Type 0 where
    pub window : length w ≤ n → (b : ℕ) × (b + length w ≤ n) × Under b c
    pub idle : n < length w → c ≡ 0

  -- At rank i of window b, with the known edge e: what is paid, and the rank leaves room for the holes left of the edge.
  record Accounts (b i e c : ℕ) : Type 0 where
    pub account : Paid w b i e c
    pub room : i + (e - b) ≤ length w + below w (e - b)
    pub bounded : Bounded c

  begins : Accounts 0 0 0 0
  begins = record {
    account = begins_paid w;
    room = omega arith;
    bounded = record { window = λ l. (0, omega arith, omega arith); idle = λ l. refl };
  }

  module _ {b i e c : ℕ} (A : Accounts b i e c) where
    under : Under b c
    under = omega (arith, paid w b i e c A.account, A.room)

    -- The window is left with rank r, by what its shift, its next rank and the edge then are.
    left_with : (r : ℕ) {s j e' c' : ℕ} → shift w r ≡ s → next w r ≡ j → edge_after (colussi_plan w) r b e ≡ e' → Accounts (b + s) j e' c'
        → Accounts (b + shift w r) (next w r) (edge_after (colussi_plan w) r b e) c'
    left_with r S J E B = rw (S, J, E) B

    -- After a mismatch at the hole h, or an occurrence, with a count under the ceiling.
    left_after : (h : ℕ) → h < length w → {c' : ℕ} → Under b c' → Bounded c' → Accounts (b + rmin w h) (below w (length w - rmin w h)) (b + length w) c'
    left_after h inside {c'} l bounded =
        let z : b + length w - (b + rmin w h) ≡ length w - rmin w h = omega arith in
        record { account = paid_after w b h c' inside l; room = rw z (omega arith); bounded = bounded }

    after_listed : Accounts (b + shift w (length w)) (next w (length w)) (edge_after (colussi_plan w) (length w) b e) c
    after_listed = left_with (length w) (shift_last w)
        (next_hole w (length w) (noholes_le w) ∙ ap (λ s. below w (length w - s)) (shift_last w))
        (edge_moved (colussi_plan w) (length w) b e (noholes_le w))
        (left_after 0 some under A.bounded)

    -- A comparison is made.
    module _ (fits : b + length w ≤ n) (rank : i < length w) (beyond : e ≤ b + place w i) where
      one_more : Bounded (suc c)
      one_more = record {
        window = λ l. (b, fits, paid_due w b i e c A.account rank beyond);
        idle = λ l. absurd (omega arith);
      }

      after_matched : Accounts b (suc i) e (suc c)
      after_matched = record {
        account = paid_matched w b i e c A.account;
        room = omega (arith, rank_room w i (e - b) rank (omega arith));
        bounded = one_more;
      }

      after_missed : Accounts (b + shift w i) (next w i) (edge_after (colussi_plan w) i b e) (suc c)
      after_missed = ⊎_elim
          (λ (early : i < noholes w).
          let N = nohole_rank w i early in
          left_with i (shift_nohole w i early) (next_nohole w i early) (edge_kept (colussi_plan w) i b e early)
          record {
            account = paid_missed w b i e c (place w i) N.inside N.is N.index beyond A.account;
            room = omega (arith, holes_grow w (e - (b + kmin w (place w i))) (place w i - kmin w (place w i)) (omega arith), N.inside);
            bounded = one_more;
          })
          (λ (late : noholes w ≤ i).
          left_with i (shift_hole w i late rank)
          (next_hole w i late ∙ ap (λ s. below w (length w - s)) (shift_hole w i late rank))
          (edge_moved (colussi_plan w) i b e late)
          (left_after (place w i) (hole_rank w i late rank).inside (paid_due w b i e c A.account rank beyond) one_more))
          (less_or i (noholes w))

-- Demand 3, by any source.
module _ (w : List ℕ) (some : 1 ≤ length w) (source : Source) (cap size : ℕ) where
  abbrev Inv : State → Type 0
  Inv s = Accounts w some source.n s.window s.rank s.edge (length s.made)

  abbrev AtEnd : Ending → State → Type 0
  AtEnd e s = Ceiling (length w) source.n e (length s.made)

  keeps : (s : State) → Inv s → Keeps Inv AtEnd s (turn (colussi_plan w) source cap size s)
  unfolding listed matched missed compared leave
  keeps s A = at (turn (colussi_plan w) source cap size s) (rule (colussi_plan w) source cap size s)
    where
      at : (T : Turn) → Rule (colussi_plan w) source cap size s T → Keeps Inv AtEnd s T
      at _ (past l) = (λ m. let u = A.bounded.window m in omega (arith, u.1, u.2), A.bounded.idle)
      at _ (fills fits k l) = under w some source.n A
      at _ (lists fits k l) = after_listed w some source.n A
      at _ (spends fits d e) = under w some source.n A
      at _ (matches fits d e q) = after_matched w some source.n A fits d.rank d.beyond
      at _ (misses fits d e q) = after_missed w some source.n A fits d.rank d.beyond

  pub ceiling_by : Ceiling (length w) source.n (search (colussi_plan w) source cap size).ending (length (search (colussi_plan w) source cap size).last.made)
  ceiling_by = search_keeps (colussi_plan w) source (λ i l. (shift_moves w i some l).on) cap size Inv AtEnd keeps (begins w some source.n)

-- And so in a text.
pub colussi_ceiling : (w t : List ℕ) → 1 ≤ length w → (cap size : ℕ)
    → Ceiling (length w) (length t) (colussi w t cap size).ending (length (colussi w t cap size).last.made)
unfolding colussi
colussi_ceiling w t some cap size = ceiling_by w some (text_source w t) cap size
