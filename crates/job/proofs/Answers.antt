-- What the program's work answers and leaves in the buffer. Assumes nothing.
use Prim.Native.Nat.{ℕ, ◌≤◌, ◌<◌}
use mathlib.Core.Path.{◌≡◌, refl, ap, ◌∙◌}
use mathlib.Core.List.{List, ◌++◌}
use native.Mathlib.Nat.{zero-add}
use native.Mathlib.Omega.{arith}
use lib.ListN.{length, drop}
use borrow.Author.Tests.{lt-ltb, le-ltb}
use Rattle.std.specs.Prelude.{Ok, Err}
use Rattle.job.specs.Limits.{buffer_size}
use Rattle.job.specs.Printed.{printed}
use Rattle.job.specs.Answer.{answer_of, buffer_after}
use Rattle.job.specs.Internal.Writing.{Puts}
use Rattle.job.proofs.Writing.{length_kept}

module _ (input lent : List ℕ) where
  pub short_buffer : length lent < buffer_size → (Err record {} ≡ answer_of input (length lent)) × (lent ≡ buffer_after input lent)
  unfolding answer_of buffer_after
  short_buffer l = (rw (lt-ltb (length lent) buffer_size l, answer_of) refl, rw (lt-ltb (length lent) buffer_size l, buffer_after) refl)

  module _ (room : buffer_size ≤ length lent) where
    answer_wrote : answer_of input (length lent) ≡ Ok (length (printed input))
    unfolding answer_of
    answer_wrote = rw (le-ltb (length lent) buffer_size room, answer_of) refl

    buffer_printed : buffer_after input lent ≡ printed input ++ drop (length (printed input)) lent
    unfolding buffer_after
    buffer_printed = rw (le-ltb (length lent) buffer_size room, buffer_after) refl

    -- The bytes s were put at the buffer's start.
    module _ {s after : List ℕ} {r : ℕ} (e : printed input ≡ s) (P : Puts lent after 0 s r) where
      pub wrote_answer : Ok r ≡ answer_of input (length lent)
      wrote_answer = rw (answer_wrote, e) (ap Ok (P.place ∙ zero-add (length s)))

      pub wrote_buffer : after ≡ buffer_after input lent
      wrote_buffer = rw (buffer_printed, e) (rw zero-add at P.bytes)

      pub wrote_within : r ≤ length after
      wrote_within = omega (arith, P.inside, length_kept P)
