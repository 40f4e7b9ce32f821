-- An ending is read back as it was. Assumes nothing.
use mathlib.Core.Path.{◌≡◌, refl}
use Rattle.rules.specs.declared.Ending.{Ending}
use Rattle.rules.specs.declared.Ending.TheVariants.{Done, Spent, Full}
use Rattle.endings.specs.Endings.{ending_number, ending_window, ending_of}

pub ending_back : (e : Ending) → ending_of (ending_number e) (ending_window e) ≡ e
ending_back Done = refl
ending_back (Spent b) = refl
ending_back (Full b) = refl
