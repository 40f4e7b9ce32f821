-- What preparation answers in each case, and what it leaves in the scratch. Assumes nothing.
use Prim.Native.Nat.{ℕ, ◌*◌, ◌≤◌}
use mathlib.Core.Path.{◌≡◌, refl, sym, ◌∙◌}
use mathlib.Core.Logic.{◌↔◌}
use mathlib.Core.List.{List, ◌++◌}
use native.Mathlib.Omega.{arith}
use lib.ListN.{length, take, drop, replicate, length-replicate}
use lib.Seq.{length-take-le, take-append_seam, drop-append_seam}
use Rattle.std.specs.Prelude.{Result, Ok, Err, IsOk, IfOk}
use Rattle.classes.specs.Classes.{through, identity}
use Rattle.classes.proofs.Through.{length_through}
use Rattle.classes.proofs.Identity.{through_identity}
use Rattle.intake.specs.Sizes.{longest_pattern, scratch_size}
use Rattle.intake.specs.Outcomes.{outcome_of}
use Rattle.intake.proofs.Outcomes.{Taken, ready_is, answers, plain_outcome}
use Rattle.hmax.specs.FastMethod.{comparisons, FewCompared}
use Rattle.hmax.proofs.FastRun.{comparisons_few}
use Rattle.pattern.specs.Built.{built_with, built, built_from, scratch_with}
use Rattle.pattern.specs.declared.Built.{Built}
use Rattle.pattern.proofs.Building.{build_answer, build_kept}
use Rattle.refusal.specs.Tests.{Tested, passed}
use Rattle.refusal.specs.declared.Refusal.{Refusal}
use Rattle.refusal.proofs.Tests.{passed_iff}
use Rattle.preparation.specs.Prepared.{prepared_with, prepared, plain_prepared, scratch_by, scratch_after, plain_scratch, Cleared}

-- ---- The answer

module _ (w c : List ℕ) (n : ℕ) where
  pub refused_answer : {why : Refusal} → outcome_of w c n ≡ Err why → prepared w c n ≡ Err why
  unfolding prepared prepared_with
  refused_answer e = rw (e, prepared) refl

  pub ready_answer : outcome_of w c n ≡ passed → prepared w c n ≡ Ok (built w c)
  unfolding prepared prepared_with built
  ready_answer e = rw (e, prepared) refl

  -- In both cases:
  by_outcome : (P : Result Built Refusal → Type 0) → ((why : Refusal) → outcome_of w c n ≡ Err why → P (Err why))
      → (outcome_of w c n ≡ passed → P (Ok (built w c))) → P (prepared w c n)
  by_outcome P refused taken = go (outcome_of w c n) refl
    where
      go : (t : Tested) → outcome_of w c n ≡ t → P (prepared w c n)
      go (Ok tt) e = rw (ready_answer e) (taken e)
      go (Err why) e = rw (refused_answer e) (refused why e)

  -- it is Ok where the tests are passed,
  ok_is : IsOk (prepared w c n) ↔ IsOk (outcome_of w c n)
  ok_is = by_outcome (λ a. IsOk a ↔ IsOk (outcome_of w c n)) (λ why e. rw e (λ k. k, λ k. k)) (λ e. rw e (λ k. refl, λ k. refl))

  pub ready : {b : Built} → prepared w c n ≡ Ok b → outcome_of w c n ≡ passed
  ready e = (passed_iff (outcome_of w c n)).1 (ok_is.0 (rw e refl))

  -- which says in plain terms who is taken,
  pub taken : {r : Result Built Refusal} → r ≡ prepared w c n → IsOk r ↔ Taken w c n
  taken e =
      let tests = (answers w c n refl).1 in
      rw e (λ k. tests.0 (ok_is.0 k), λ h. ok_is.1 (tests.1 h))

  -- and its comparisons are few.
  letters_few : FewCompared (length w) (comparisons (through c w))
  letters_few = rw (length_through c w) at (comparisons_few (through c w))

  pub few : {r : Result Built Refusal} → r ≡ prepared w c n → IfOk r (λ b. FewCompared (length w) b.compared)
  unfolding built built_with
  few e = rw e (by_outcome (λ a. IfOk a (λ b. FewCompared (length w) b.compared)) (λ why e. tt) (λ e. letters_few))

  -- The number is small whatever is asked: a pattern is short.
  pub compared_small : {r : Result Built Refusal} → r ≡ prepared w c n → IfOk r (λ b. b.compared ≤ 2 * longest_pattern)
  unfolding built built_with
  compared_small e =
      rw e (by_outcome (λ a. IfOk a (λ b. b.compared ≤ 2 * longest_pattern)) (λ why e. tt) (λ e.
      let good = (ready_is w c n e).0 in
      omega (arith, letters_few.asked good.some, good.short)))

-- ---- What follows from the tests: for the answer

module _ (w c : List ℕ) (n : ℕ) where
  pub room : passed ≡ outcome_of w c n → scratch_size ≤ n
  room tested = (ready_is w c n (sym tested)).2

  pub success : {b : Built} → passed ≡ outcome_of w c n → b ≡ built_from w c n → Ok b ≡ prepared w c n
  success tested q =
      let good = ready_is w c n (sym tested) in
      rw (q, build_answer w c n good.0.some good.0.short good.1.size good.2) (sym (ready_answer w c n (sym tested)))

  pub refusal : {why : Refusal} → Err why ≡ outcome_of w c n → Err why ≡ prepared w c n
  refusal tested = sym (refused_answer w c n (sym tested))

-- ---- For the scratch

-- n numbers v and what follows them, told apart again.
seam : (n v : ℕ) (l : List ℕ) → (take n (replicate n v ++ l) ≡ replicate n v) × (drop n (replicate n v ++ l) ≡ l)
seam n v l =
    let size = length-replicate n v in (
      rw size at (take-append_seam (replicate n v) l),
      rw size at (drop-append_seam (replicate n v) l),
    )

module _ (w c s : List ℕ) where
  after_ready : outcome_of w c (length s) ≡ passed → scratch_after w c s ≡ replicate scratch_size 0 ++ drop scratch_size s
  unfolding scratch_after scratch_by
  after_ready e = rw (e, scratch_after) refl

  after_refused : {why : Refusal} → outcome_of w c (length s) ≡ Err why → scratch_after w c s ≡ s
  unfolding scratch_after scratch_by
  after_refused e = rw (e, scratch_after) refl

  -- In plain terms, where the tests are passed.
  pub cleared : {t : List ℕ} → t ≡ scratch_after w c s → outcome_of w c (length s) ≡ passed → Cleared s t
  cleared after told =
      let parts = seam scratch_size 0 (drop scratch_size s) in
      rw (after, after_ready told) (record { zeros = parts.0; rest = parts.1 })

  -- The first part of t, what building left in the scratch, was filled with zeros.
  pub zeroed : {part : List ℕ} (t : List ℕ) → passed ≡ outcome_of w c (length s) → t ≡ scratch_with w c s
      → part ≡ replicate (length (take scratch_size t)) 0 → part ++ drop scratch_size t ≡ scratch_after w c s
  zeroed t tested b f =
      let kept = build_kept w c s b in
      let long = room w c (length s) tested in
      rw (f, length-take-le scratch_size t (omega (arith, kept.size)), kept.rest) (sym (after_ready (sym tested)))

  pub kept : {why : Refusal} → Err why ≡ outcome_of w c (length s) → s ≡ scratch_after w c s
  kept tested = sym (after_refused (sym tested))

-- ---- The classes that give each value itself return what was answered without classes.

pub plain_prepared_lem : (w : List ℕ) (n : ℕ) → prepared w identity n ≡ plain_prepared w n
unfolding prepared plain_prepared
plain_prepared_lem w n = rw (plain_outcome w n, through_identity w) refl

plain_scratch_lem : (w s : List ℕ) → scratch_after w identity s ≡ plain_scratch w s
unfolding scratch_after plain_scratch
plain_scratch_lem w s = rw (plain_outcome w (length s)) refl

-- What `prepare_alone` ensures of its answer r.
pub ensured_alone : (w c : List ℕ) {r : Result Built Refusal} → r ≡ prepared w c scratch_size
    → (r ≡ prepared w c scratch_size) × (c ≡ identity → r ≡ plain_prepared w scratch_size)
ensured_alone w c answer = (answer, λ e. answer ∙ rw e (plain_prepared_lem w scratch_size))

-- ---- What `prepare` ensures follows from its answer r and its scratch t.

pub record Ensured (w c s t : List ℕ) (r : Result Built Refusal) : Type 0 where
  pub answer : r ≡ prepared w c (length s)
  pub scratched : t ≡ scratch_after w c s
  pub taken : IsOk r ↔ Taken w c (length s)
  pub cleared : IsOk r → Cleared s t
  pub few : IfOk r (λ b. FewCompared (length w) b.compared)
  pub plain : c ≡ identity → (r ≡ plain_prepared w (length s)) × (t ≡ plain_scratch w s)

pub ensured : (w c s : List ℕ) {t : List ℕ} {r : Result Built Refusal} → r ≡ prepared w c (length s) → t ≡ scratch_after w c s → Ensured w c s t r
ensured w c s answer after = record {
  answer = answer;
  scratched = after;
  taken = taken w c (length s) answer;
  cleared = λ k. cleared w c s after ((passed_iff (outcome_of w c (length s))).1 ((ok_is w c (length s)).0 (rw answer at k)));
  few = few w c (length s) answer;
  plain = λ e. (answer ∙ rw e (plain_prepared_lem w (length s)), after ∙ rw e (plain_scratch_lem w s));
}
