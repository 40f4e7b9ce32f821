-- What the program's work answers, and what it leaves in the lent buffer.
use Rattle.std.specs.Prelude.{ℕ, true, false, List, ◌++◌, ltb, length, drop, Result, Ok, Err}
use Rattle.job.specs.Limits.{buffer_size}
use Rattle.job.specs.Printed.{printed}
use Rattle.job.specs.declared.ShortBuffer.{ShortBuffer}

-- The number of bytes written, if the buffer, of n bytes, has room for the longest output.
unfoldable pub answer_of : List ℕ → ℕ → Result ℕ ShortBuffer
unfolding printed
answer_of input n = elim (ltb n buffer_size) [ true ↦ Err record {} | false ↦ Ok (length (printed input)) ]

-- The buffer begins with what is printed, and is unchanged after that; one that is too short is unchanged.
unfoldable pub buffer_after : List ℕ → List ℕ → List ℕ
unfolding printed
buffer_after input lent = elim (ltb (length lent) buffer_size) [
  | true ↦ lent
  | false ↦ printed input ++ drop (length (printed input)) lent
]
