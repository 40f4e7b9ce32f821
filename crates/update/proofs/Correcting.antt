-- The list brought up to date keeps its promises. Assumes nothing.
use Prim.Native.Nat.{ℕ, ◌+◌, ◌≤◌}
use mathlib.Core.Path.{◌≡◌, sym, ◌∙◌}
use mathlib.Core.Logic.{◌⊎◌, inl, inr, ⊎_elim}
use mathlib.Core.Bool.{Bool, not}
use mathlib.Core.List.{List}
use native.Mathlib.Omega.{arith}
use lib.ListN.{length}
use Rattle.words.specs.Tables.{letter}
use Rattle.lists.specs.Lists.{Listed, Ascending, keep}
use Rattle.lists.proofs.Ascending.{same_entries}
use Rattle.lists.proofs.Keeping.{kept_is, keeps, kept_ascends, length_kept}
use Rattle.lists.proofs.Merging.{merged_is, merges_new, merges_old, merged_ascends, length_merged}
use Rattle.rules.specs.Occurs.{Occurs, occurrences}
use Rattle.update.specs.Update.{covers, covering, updated}
use Rattle.update.specs.Promise.{Covers, DifferAtMost, Corrected}
use Rattle.update.proofs.Covering.{covers_is, covers_or, apart_of, apart_is, few_cover, all_listed, listed_occurs, covering_ascends, covering_lists, covering_is}

module _ (w t : List ℕ) (place : ℕ) (l : List ℕ) where
  abbrev apart : ℕ → Bool
  apart x = not (covers (length w) (length t) place x)

  -- The entries that are kept.
  abbrev others : List ℕ
  others = keep apart l

  -- An entry comes from one of the two.
  updated_cases : {b : ℕ} → Listed (updated w t place l) b → (Covers (length w) (length t) place b × Occurs w t b) ⊎ (Listed l b × (Covers (length w) (length t) place b → ⊥))
  unfolding updated
  updated_cases {b} h = ⊎_elim
      (λ g. inl (covering_is w t place g))
      (λ g. let k = kept_is apart l g in inr (k.0, apart_is _ _ _ b k.1))
      (merged_is (covering w t place) others h)

  in_covering : (b : ℕ) → Covers (length w) (length t) place b → Occurs w t b → Listed (updated w t place l) b
  unfolding updated
  in_covering b C O = merges_new (covering w t place) others (covering_lists w t place b C O)

  in_others : (b : ℕ) → (Covers (length w) (length t) place b → ⊥) → Listed l b → Listed (updated w t place l) b
  unfolding updated
  in_others b none h = merges_old (covering w t place) others (keeps apart l h (apart_of _ _ _ b none))

  length_updated : length (updated w t place l) ≡ length (covering w t place) + length others
  unfolding updated
  length_updated = length_merged (covering w t place) others

  module _ (A : Ascending l) where
    updated_ascends : Ascending (updated w t place l)
    unfolding updated
    updated_ascends = merged_ascends (covering w t place) others (covering_ascends w t place) (kept_ascends apart l A)
        (λ x h g. apart_is _ _ _ x (kept_is apart l g).1 (covering_is w t place h).0)

    few_found : length (covering w t place) ≤ length w
    few_found = few_cover (length w) (length t) place (covering w t place) (covering_ascends w t place) (λ b h. (covering_is w t place h).0)

    few_lost : length (keep (covers (length w) (length t) place) l) ≤ length w
    few_lost = few_cover (length w) (length t) place (keep (covers (length w) (length t) place) l) (kept_ascends (covers (length w) (length t) place) l A)
        (λ b h. covers_is _ _ _ b (kept_is (covers (length w) (length t) place) l h).1)

    pub corrected : Corrected w t place l (updated w t place l)
    corrected = record {
      ascend = updated_ascends;
      covered = λ b C. (
        λ h. ⊎_elim (λ k. k.1) (λ k. absurd (k.1 C)) (updated_cases h),
        λ O. in_covering b C O,
      );
      kept = λ b none. (
        λ h. ⊎_elim (λ k. absurd (none k.0)) (λ k. k.0) (updated_cases h),
        λ h. in_others b none h,
      );
      more = omega (arith, length_updated, few_found, length_kept (covers (length w) (length t) place) l);
      fewer = omega (arith, length_updated, few_lost, length_kept (covers (length w) (length t) place) l);
    }

-- ---- The full list of a text becomes the full list of one that differs from it at most at the place

-- What does not cover the place occurs in both or in neither.
module _ (w s t : List ℕ) (place : ℕ) (size : length s ≡ length t) (same : (x : ℕ) → (x ≡ place → ⊥) → letter s x ≡ letter t x) where
  still_occurs : (b : ℕ) → (Covers (length w) (length t) place b → ⊥) → Occurs w s b → Occurs w t b
  still_occurs b none O = record {
    inside = omega (arith, O.inside);
    same = λ p l. O.same p l ∙ same (b + p) (λ e. none record { from = omega arith; upto = omega arith; inside = omega (arith, O.inside) });
  }

module _ (w old t : List ℕ) (place : ℕ) (D : DifferAtMost place old t) where
  back : (b : ℕ) → (Covers (length w) (length t) place b → ⊥) → Occurs w t b → Occurs w old b
  back b none O = still_occurs w t old place (sym D.size) (λ x n. sym (D.same x n)) b (λ C. none (rw D.size at C)) O

  pub full_list : updated w t place (occurrences w old) ≡ occurrences w t
  full_list =
      let before : List ℕ = occurrences w old in
      let C = corrected w t place before (all_listed w old).ascend in
      same_entries (updated w t place before) (occurrences w t) C.ascend (all_listed w t).ascend
      (λ x h. (all_listed w t).all x tt (⊎_elim
      (λ k. k.1)
      (λ k. still_occurs w old t place D.size D.same x k.1 (listed_occurs w old k.0))
      (updated_cases w t place before h)))
      (λ x h. let O = listed_occurs w t h in ⊎_elim
      (λ k. (C.covered x k).1 O)
      (λ none. (C.kept x none).1 ((all_listed w old).all x tt (back x none O)))
      (covers_or (length w) (length t) place x))
