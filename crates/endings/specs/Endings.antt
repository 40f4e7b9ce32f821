-- How a search ended, as numbers, as document 02 (C-17) has them in a row.
use Rattle.std.specs.Prelude.{ℕ, zero, suc}
use Rattle.rules.specs.declared.Ending.{Ending}
use Rattle.rules.specs.declared.Ending.TheVariants.{Done, Spent, Full}

abbrev pub ending_number : Ending → ℕ
ending_number Done = 0
ending_number (Spent b) = 1
ending_number (Full b) = 2

-- The window at which a search was cut off, or 0.
abbrev pub ending_window : Ending → ℕ
ending_window Done = 0
ending_window (Spent b) = b
ending_window (Full b) = b

-- Read back: the ending that a number and a window stand for.
abbrev pub ending_of : ℕ → ℕ → Ending
ending_of zero b = Done
ending_of (suc zero) b = Spent b
ending_of (suc (suc n)) b = Full b
