-- The refusals by their numbers in document 01's table "Turned away", to which document 02 adds rows.
use Rattle.std.specs.Prelude.{ℕ}
use Rattle.refusal.specs.declared.Refusal.{Refusal}
use Rattle.refusal.specs.declared.Refusal.TheVariants.{NoPattern, LongPattern, ShortScratch, FalsePattern, LongText, ShortInput, NoTrailer, FalseDirectory, RecordsApart, ZeroInPattern, ShortLengths, ClassesNot256, ZeroClassShared, FalseOrder, ShortJournal, FalseJournal, FalseList, ShortList}

abbrev pub number_of : Refusal → ℕ
number_of NoPattern = 1
number_of LongPattern = 2
number_of ShortScratch = 3
number_of FalsePattern = 4
number_of LongText = 5
number_of ShortInput = 6
number_of NoTrailer = 7
number_of FalseDirectory = 8
number_of RecordsApart = 9
number_of ZeroInPattern = 10
number_of ShortLengths = 11
number_of ClassesNot256 = 14
number_of ZeroClassShared = 15
number_of FalseOrder = 16
number_of ShortJournal = 17
number_of FalseJournal = 18
number_of FalseList = 19
number_of ShortList = 20
