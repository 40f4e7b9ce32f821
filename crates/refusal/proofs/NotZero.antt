-- No refusal has the number 0, which may therefore stand for none. Assumes nothing.
use mathlib.Core.Path.{◌≡◌}
use native.Mathlib.Omega.{arith}
use Rattle.refusal.specs.declared.Refusal.{Refusal}
use Rattle.refusal.specs.declared.Refusal.TheVariants.{NoPattern, LongPattern, ShortScratch, FalsePattern, LongText, ShortInput, NoTrailer, FalseDirectory, RecordsApart, ZeroInPattern, ShortLengths, ClassesNot256, ZeroClassShared, FalseOrder, ShortJournal, FalseJournal, FalseList, ShortList}
use Rattle.refusal.specs.Numbers.{number_of}

pub number_not_0 : (why : Refusal) → number_of why ≡ 0 → ⊥
number_not_0 NoPattern e = omega arith
number_not_0 LongPattern e = omega arith
number_not_0 ShortScratch e = omega arith
number_not_0 FalsePattern e = omega arith
number_not_0 LongText e = omega arith
number_not_0 ShortInput e = omega arith
number_not_0 NoTrailer e = omega arith
number_not_0 FalseDirectory e = omega arith
number_not_0 RecordsApart e = omega arith
number_not_0 ZeroInPattern e = omega arith
number_not_0 ShortLengths e = omega arith
number_not_0 ClassesNot256 e = omega arith
number_not_0 ZeroClassShared e = omega arith
number_not_0 FalseOrder e = omega arith
number_not_0 ShortJournal e = omega arith
number_not_0 FalseJournal e = omega arith
number_not_0 FalseList e = omega arith
number_not_0 ShortList e = omega arith
