-- Two letters compared.
use Rattle.std.specs.Prelude.{ℕ, ◌≡◌, Bool, true, false}

-- A test tells whether they are the same.
pub record Agrees (x y : ℕ) (r : Bool) : Type 0 where
  pub yes : r ≡ true → x ≡ y
  pub no : r ≡ false → x ≡ y → ⊥
