-- The entries as they are written. Assumes nothing.
use Prim.Native.Nat.{ℕ, ◌+◌, ◌-◌, ◌≤◌, ◌<◌}
use mathlib.Core.Path.{◌≡◌, refl, sym, ◌∙◌}
use mathlib.Core.Logic.{⊎_elim}
use mathlib.Core.List.{List}
use native.Mathlib.Omega.{arith}
use lib.ListN.{length, set}
use lib.Seq.{get_or-set_other}
use Rattle.words.proofs.Cases.{less_or}
use Rattle.hmax.proofs.Stores.{KeptFrom, kept_later, kept_store, after_store}
use Rattle.prefixes.specs.Longest.{longest, lengths_in}
use Rattle.prefixes.proofs.Entries.{lengths_of}
use Rattle.lengths.specs.Internal.Steps.{Writes}
use Rattle.lengths.specs.Internal.Scan.{Right}

module _ (entry : ℕ → ℕ) (before : List ℕ) (b : ℕ) where
  pub writes_none : Writes entry before before b 0
  writes_none = record { here = λ k l. absurd (omega arith); front = λ x l. refl; rest = refl; size = refl }

  -- One entry more is stored.
  pub writes_one : {s : List ℕ} {k v : ℕ} → b + k < length s → v ≡ entry k → Writes entry before s b k → Writes entry before (set s (b + k) v) b (k + 1)
  writes_one {s} {k} {v} l e W =
      let K : KeptFrom (b + k) before s = record { rest = W.rest; size = W.size } in
      let L = kept_store s (b + k) v {n = b + (k + 1)} (omega arith) (kept_later (omega arith) K) in
      record {
        here = λ q h. after_store s (b + k) v (λ x. x ≡ entry q) (b + q) l
            (λ same. let z : k ≡ q = omega arith in rw z at e)
            (λ other. W.here q (omega arith));
        front = λ x h. get_or-set_other s (b + k) x v 0 (λ z. omega arith) ∙ W.front x h;
        rest = L.rest;
        size = L.size;
      }

module _ (w t before : List ℕ) where
  pub right_start : Right w t before before 0
  right_start = record { entries = λ x l. absurd (omega arith); rest = refl; size = refl }

  -- More entries are written, and they are right.
  pub right_more : {s after : List ℕ} {b k : ℕ} {entry : ℕ → ℕ} → Right w t before s b → Writes entry s after b k → b + k ≤ length t
      → ((j : ℕ) → j < k → longest w t (b + j) ≡ entry j) → Right w t before after (b + k)
  right_more {s} {after} {b} {k} R W inside is =
      let K : KeptFrom (length t) s after = kept_later inside record { rest = W.rest; size = W.size } in
      record {
        entries = λ x l. ⊎_elim
            (λ (a : x < b). W.front x a ∙ R.entries x a)
            (λ (a : b ≤ x). let e : b + (x - b) ≡ x = omega arith in rw e at (W.here (x - b) (omega arith) ∙ sym (is (x - b) (omega arith))))
            (less_or x b);
        rest = K.rest ∙ R.rest;
        size = K.size ∙ R.size;
      }

  -- At the text's end all are.
  pub right_all : {after : List ℕ} → Right w t before after (length t) → length t ≤ length before → after ≡ lengths_in w t before
  right_all {after} R room = lengths_of w t before after (omega (arith, R.size)) R.entries R.rest
