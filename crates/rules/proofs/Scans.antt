-- A scan by code that counts the comparisons, and those of one column, and does not keep them: `Follows`, in the variables of the code, whoever
-- answers the comparisons. Assumes nothing.
use Prim.Native.Nat.{ℕ, suc, ◌+◌, ◌≤◌, ◌<◌}
use mathlib.Core.Path.{◌≡◌, refl, sym, ap, ◌∙◌}
use mathlib.Core.Bool.{Bool, true, false, cond}
use mathlib.Core.List.{List, [], ◌∷◌}
use native.Mathlib.Omega.{arith}
use lib.ListN.{length, set}
use Rattle.rules.specs.Rules.{Plan, Source, Compared, edge_after, search}
use Rattle.rules.specs.Internal.Passing.{Established, Due, one, Passes}
use Rattle.rules.specs.Columns.{made_at}
use Rattle.rules.specs.Report.{Reported}
use Rattle.rules.specs.declared.Ending.{Ending}
use Rattle.rules.specs.declared.Ending.TheVariants.{Done, Spent, Full}
use Rattle.rules.proofs.Columns.{made_none, made_more, made_upto, Split}
use Rattle.rules.proofs.Following.{Ranges, stands_on, stands_matched, stands_missed, Follows, follows_start, follows_on, follows_listed, reports_done, reports_spent, reports_full}

-- The count c is that of the comparisons made, and x of those at places that pass q.
pub record Scans (q : ℕ → Bool) (plan : Plan) (source : Source) (cap : ℕ) (before after : List ℕ) (b i e c x k : ℕ) : Type 0 where
  pub made : List Compared
  pub count : length made ≡ c
  pub column : made_at q made ≡ x
  pub follows : Follows plan source cap before after b i e made k

module _ {q : ℕ → Bool} {plan : Plan} {source : Source} {cap : ℕ} {before after : List ℕ} {b i e c x k : ℕ}
    (F : Scans q plan source cap before after b i e c x k) where
  pub rank_upto : i ≤ plan.m
  rank_upto = F.follows.stands.rank

  pub capped : c ≤ cap
  capped = omega (arith, F.follows.stands.capped, F.count)

  pub column_upto : x ≤ c
  column_upto = omega (arith, made_upto q F.made, F.count, F.column)

  -- The count and the column as other expressions have them.
  pub scans_as : {c' x' : ℕ} → c' ≡ c → x' ≡ x → Scans q plan source cap before after b i e c' x' k
  scans_as count column = rw (count, column) F

module _ (q : ℕ → Bool) (plan : Plan) (source : Source) (cap : ℕ) (before : List ℕ) where
  pub scans_start : Scans q plan source cap before before 0 0 0 0 0 0
  scans_start = record { made = []; count = refl; column = made_none q; follows = follows_start _ _ _ before }

  module _ (R : Ranges plan) {after : List ℕ} {b i e c x k : ℕ} (F : Scans q plan source cap before after b i e c x k) where
    -- On to other comparisons made, of which the code has the count and the column.
    pub scans_on : {b' i' e' c' x' : ℕ} (made' : List Compared) → length made' ≡ c' → made_at q made' ≡ x'
        → Passes plan source cap b i e F.made b' i' e' made' → b' ≤ source.n → i' ≤ plan.m → c' ≤ cap
        → Scans q plan source cap before after b' i' e' c' x' k
    scans_on made' count column P window rank capped = record {
      made = made';
      count = count;
      column = column;
      follows = follows_on _ _ cap before R F.follows (stands_on _ _ cap _ R F.follows.stands P window rank (omega arith));
    }

    -- The search ends here, with the columns u and v of a pattern w.
    module _ {w : List ℕ} {u v : ℕ} (S : Split w F.made u v) where
      abbrev Ends : Ending → Type 0
      Ends x = Reported w (search plan source cap (length before)) before after
          record { ending = x; count = c; noholes = u; holes = v; written = k }

      pub scans_done : source.n < b + plan.m → Ends Done
      scans_done l = rw (F.count, S.noholes, S.holes) at (reports_done _ _ cap before R F.follows w l)

      module _ (fits : b + plan.m ≤ source.n) where
        pub scans_spent : Due plan b i e → c ≡ cap → Ends (Spent b)
        scans_spent due l = rw (F.count, S.noholes, S.holes) at (reports_spent _ _ cap before R F.follows fits w due (F.count ∙ l))

        pub scans_full : Established plan b i e → k ≡ length after → Ends (Full b)
        scans_full established l = rw (F.count, S.noholes, S.holes) at (reports_full _ _ cap before R F.follows fits established w l)

    module _ (fits : b + plan.m ≤ source.n) where
      -- A comparison is made, and the column has x' then.
      module _ (due : Due plan b i e) (more : c ≡ cap → ⊥) {x' : ℕ} (adds : x' ≡ cond (q (plan.place i)) 1 0 + x) where
        column_more : (equal : Bool) → made_at q (one plan b i equal ∷ F.made) ≡ x'
        column_more equal = made_more q (one plan b i equal) F.made ∙ ap (λ n. cond (q (plan.place i)) 1 0 + n) F.column ∙ sym adds

        answer : (a : Bool) → source.agree b (plan.place i) c ≡ a → source.agree b (plan.place i) (length F.made) ≡ a
        answer a q = ap (source.agree b (plan.place i)) F.count ∙ q

        pub scans_matched : source.agree b (plan.place i) c ≡ true → Scans q plan source cap before after b (suc i) e (suc c) x' k
        scans_matched a = record {
          made = one plan b i true ∷ F.made;
          count = ap suc F.count;
          column = column_more true;
          follows = follows_on _ _ cap before R F.follows
              (stands_matched _ _ cap _ R F.follows.stands fits due (λ z. more (sym F.count ∙ z)) (answer true a));
        }

        pub scans_missed : source.agree b (plan.place i) c ≡ false
            → Scans q plan source cap before after (b + plan.shift i) (plan.next i) (edge_after plan i b e) (suc c) x' k
        scans_missed a = record {
          made = one plan b i false ∷ F.made;
          count = ap suc F.count;
          column = column_more false;
          follows = follows_on _ _ cap before R F.follows
              (stands_missed _ _ cap _ R F.follows.stands fits due (λ z. more (sym F.count ∙ z)) (answer false a));
        }

      pub scans_listed : Established plan b i e → (k ≡ length after → ⊥) → Scans q plan source cap before (set after k b)
          (b + plan.shift plan.m) (plan.next plan.m) (edge_after plan plan.m b e) c x (k + 1)
      scans_listed established l = record {
        made = F.made;
        count = F.count;
        column = F.column;
        follows = follows_listed _ _ cap before R F.follows fits established l;
      }
