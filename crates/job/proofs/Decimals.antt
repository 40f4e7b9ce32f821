-- A number in decimal is at most 20 bytes long, and one of 64 bits is what the library prints. Assumes nothing.
use Prim.Native.Nat.{ℕ, zero, suc, ◌+◌, ◌/◌, ◌%◌, ◌^◌, ◌≤◌, ◌<◌}
use mathlib.Core.Path.{◌≡◌, refl, sym, ap}
use mathlib.Core.Logic.{⊎_elim}
use mathlib.Core.List.{[], ◌∷◌, ◌++◌}
use native.Mathlib.Omega.{arith}
use lib.ListN.{length, length-append}
use borrow.Author.Tests.{lt-ltb, le-ltb}
use Rattle.std.specs.Fmt.{decimal as printed}
use Rattle.std.proofs.lemmas.Fmt.{decimal_from_appends, length-decimal-le}
use Rattle.words.proofs.Cases.{less_or}
use Rattle.job.specs.Text.{digits, decimal}

one_digit : (k n : ℕ) → n < 10 → digits (suc k) n ≡ (48 + n) ∷ []
unfolding digits
one_digit k n h = rw (lt-ltb n 10 h, digits) refl

last_digit : (k n : ℕ) → 10 ≤ n → digits (suc k) n ≡ digits k (n / 10) ++ ((48 + n % 10) ∷ [])
unfolding digits
last_digit k n h = rw (le-ltb n 10 h, digits) refl

length_digits : (k n : ℕ) → length (digits k n) ≤ k
unfolding digits
length_digits zero n = omega arith
length_digits (suc k) n = ⊎_elim
    (λ (a : n < 10). omega (arith, ap length (one_digit k n a)))
    (λ (a : 10 ≤ n).
    omega (arith, ap length (last_digit k n a), length-append (digits k (n / 10)) ((48 + n % 10) ∷ []), length_digits k (n / 10)))
    (less_or n 10)

pub length_decimal : (n : ℕ) → length (decimal n) ≤ 20
unfolding decimal
length_decimal n = length_digits 20 n

pub printed_decimal : (n : ℕ) → n < 2 ^ 64 → printed n ≡ decimal n
unfolding decimal
printed_decimal n h =
    sym (decimal_from_appends digits record { one = one_digit; more = last_digit } 20 n h (length-decimal-le 20 n (omega arith) (omega arith) h))
