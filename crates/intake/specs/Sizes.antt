-- Sizes, each in one place.
use Rattle.std.specs.Prelude.{ℕ}

-- The longest pattern, in bytes.
abbrev pub longest_pattern : ℕ
longest_pattern = 256

-- The least scratch, in numbers, as document 02 (C-18) has it.
abbrev pub scratch_size : ℕ
scratch_size = 514
