-- The program's sample of document 01, and its refusals, by computation. Assumes nothing.
use mathlib.Core.Path.{◌≡◌, refl}
use mathlib.Core.List.{[], ◌∷◌}
use Rattle.job.specs.Text.{ascii}
use Rattle.job.specs.Printed.{printed}

-- Input 03 61 62 61 61 62 61 62 61.
pub sample : printed (3 ∷ 97 ∷ 98 ∷ 97 ∷ 97 ∷ 98 ∷ 97 ∷ 98 ∷ 97 ∷ []) ≡ ascii "end done\ncount 5\ncharge 1\nplaces 2\n0\n2\n"
unfolding printed
sample = refl

-- No input, and a length of 0.
pub empty : printed [] ≡ ascii "refused 1\n"
unfolding printed
empty = refl

pub no_length : printed (0 ∷ 97 ∷ []) ≡ ascii "refused 1\n"
unfolding printed
no_length = refl

-- Fewer pattern bytes than announced, and just as many.
pub short_input : printed (2 ∷ 97 ∷ []) ≡ ascii "refused 6\n"
unfolding printed
short_input = refl

pub no_text : printed (1 ∷ 97 ∷ []) ≡ ascii "end done\ncount 0\ncharge 0\nplaces 0\n"
unfolding printed
no_text = refl

-- A byte 0 in the pattern; and one where a byte is missing too.
pub zero_in_pattern : printed (2 ∷ 97 ∷ 0 ∷ 97 ∷ []) ≡ ascii "refused 10\n"
unfolding printed
zero_in_pattern = refl

pub short_with_zero : printed (2 ∷ 0 ∷ []) ≡ ascii "refused 6\n"
unfolding printed
short_with_zero = refl

-- A byte 0 in the text.
pub zero_in_text : printed (1 ∷ 97 ∷ 97 ∷ 0 ∷ 97 ∷ []) ≡ ascii "end done\ncount 3\ncharge 1\nplaces 2\n0\n2\n"
unfolding printed
zero_in_text = refl
