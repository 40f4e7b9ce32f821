-- The places of an order as they are seen, one after the other, in the terms of the code. Assumes nothing.
use Prim.Native.Nat.{ℕ, ◌+◌, ◌≤◌, ◌<◌}
use mathlib.Core.Path.{◌≡◌, sym, ◌∙◌}
use mathlib.Core.Logic.{◌↔◌, ⊎_elim}
use mathlib.Core.Bool.{Bool, true, false, true≢false}
use mathlib.Core.List.{List}
use native.Mathlib.Omega.{arith}
use lib.ListN.{length, get_or, set, replicate, length-set, length-replicate, get_or-replicate}
use lib.Dec.{eqb}
use lib.Seq.{get_or-set_same, get_or-set_other}
use borrow.Author.Count.{below_more}
use borrow.Author.Tests.{eqb-true, eqb-false}
use Rattle.words.proofs.Cases.{true_or_false}
use Rattle.custom.specs.Order.{Arrangement, arranged}
use Rattle.custom.specs.Table.{named_places}
use Rattle.custom.proofs.Arrangements.{NewPlace, arranged_is}

-- Once place p is marked, what holds of each mark holds of that of place q.
after_mark : (seen : List Bool) (p : ℕ) (P : Bool → Type 0) (q : ℕ) → p < length seen → (q ≡ p → P true) → ((q ≡ p → ⊥) → P (get_or seen q false))
    → P (get_or (set seen p true) q false)
after_mark seen p P q l here there = ⊎_elim
    (λ e. let same = eqb-true q p e in rw (same, get_or-set_same seen p true false l) (here same))
    (λ e. let other = eqb-false q p e in rw (get_or-set_other seen p q true false other) (there other))
    (true_or_false (eqb q p))

module _ (m : ℕ) (order : List ℕ) where
  -- What `is_arrangement` ensures of its answer r.
  abbrev Answers : Bool → Type 0
  Answers r = (r ≡ arranged m order) × ((r ≡ true) ↔ Arrangement m order)

  answers : {r : Bool} → r ≡ arranged m order → Answers r
  answers e = (e, rw e (arranged_is m order))

  refused : (Arrangement m order → ⊥) → Answers false
  refused none = answers (⊎_elim
      (λ (e : arranged m order ≡ true). absurd (none ((arranged_is m order).0 e)))
      (λ (e : arranged m order ≡ false). sym e)
      (true_or_false (arranged m order)))

  -- The first i entries are new places, and marked in a list of all that a byte can name; no others are.
  pub record Seen (seen : List Bool) (i : ℕ) : Type 0 where
    pub size : length seen ≡ named_places
    pub new : (j : ℕ) → j < i → NewPlace m order j
    pub marked : (q : ℕ) → q < named_places → get_or seen q false ≡ true → (j : ℕ) × (j < i) × (get_or order j 0 ≡ q)
    pub unmarked : (q : ℕ) → get_or seen q false ≡ false → (j : ℕ) → j < i → get_or order j 0 ≡ q → ⊥

  pub seen_none : Seen (replicate named_places false) 0
  seen_none = record {
    size = length-replicate named_places false;
    new = λ j l. absurd (omega arith);
    marked = λ q l e. absurd (true≢false (sym e ∙ get_or-replicate named_places q false false l));
    unmarked = λ q e j l. absurd (omega arith);
  }

  pub wrong_size : (length order ≡ m → ⊥) → Answers false
  wrong_size ne = refused (λ A. ne A.size)

  module _ {seen : List Bool} {i : ℕ} (S : Seen seen i) where
    -- Entry i is p.
    module _ {p : ℕ} (read : p ≡ get_or order i 0) (named : p < named_places) where
      pub outside : i < m → m ≤ p → Answers false
      outside l past = refused (λ A. omega (arith, A.inside i l))

      pub seen_before : i < m → get_or seen p false ≡ true → Answers false
      seen_before l some = let r = S.marked p named some in refused (λ A. A.apart r.0 i r.1 l (r.2 ∙ read))

      -- It is marked.
      pub seen_more : p < m → get_or seen p false ≡ false → Seen (set seen p true) (i + 1)
      seen_more inside none = record {
        size = length-set seen p true ∙ S.size;
        new = below_more _ i S.new record { inside = rw read at inside; apart = λ j l same. S.unmarked p none j l (same ∙ sym read) };
        marked = λ q l. after_mark seen p (λ x. x ≡ true → (j : ℕ) × (j < i + 1) × (get_or order j 0 ≡ q)) q (omega (arith, S.size))
            (λ same e. (i, omega arith, sym read ∙ sym same))
            (λ other e. let r = S.marked q l e in (r.0, omega (arith, r.1), r.2));
        unmarked = λ q. after_mark seen p (λ x. x ≡ false → (j : ℕ) → j < i + 1 → get_or order j 0 ≡ q → ⊥) q (omega (arith, S.size))
            (λ same e. absurd (true≢false e))
            (λ other e. below_more _ i (S.unmarked q e) (λ here. other (sym here ∙ sym read)));
      }

    pub all_seen : length order ≡ m → m ≤ i → Answers true
    all_seen size end =
        let A : Arrangement m order = record {
          size = size;
          inside = λ j l. (S.new j (omega arith)).inside;
          apart = λ j k l g. (S.new k (omega arith)).apart j l;
        } in
        answers (sym ((arranged_is m order).1 A))
