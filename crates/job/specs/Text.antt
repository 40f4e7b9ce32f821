-- Bytes that are printed: quoted text, and numbers in decimal.
use Rattle.std.specs.Prelude.{ℕ, zero, suc, ◌+◌, ◌/◌, ◌%◌, true, false, List, [], ◌∷◌, ◌++◌, ltb}
use Prim.Native.Char.{code}
use Prim.Native.String.{String, [] as empty, ◌∷◌ as starts}

-- The bytes of a text in ASCII.
unfoldable pub ascii : String → List ℕ
ascii empty = []
ascii (starts c s) = code c ∷ ascii s

-- A number of at most k digits, in decimal: its last digit after those of a tenth of it.
unfoldable pub digits : ℕ → ℕ → List ℕ
digits zero n = []
digits (suc k) n = elim (ltb n 10) [ true ↦ (48 + n) ∷ [] | false ↦ digits k (n / 10) ++ ((48 + n % 10) ∷ []) ]

-- A number below 10^20, which every 64-bit number is.
unfoldable pub decimal : ℕ → List ℕ
unfolding digits
decimal n = digits 20 n
