-- The program's limits, each in one place; that of the text is `input`'s. That of the list is document 01's.
use Rattle.std.specs.Prelude.{ℕ}

-- The entries of the list of its search.
abbrev pub list_size : ℕ
list_size = 8192

-- The bytes of a buffer that has room for the longest output.
abbrev pub buffer_size : ℕ
buffer_size = 196608
