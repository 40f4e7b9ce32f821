-- Few records are a number that fits.
use native.Mathlib.Omega.{arith}
use Rattle.carried.proofs.archives.archive_directory.Goals as goal

pub overflow_cast-result : goal.overflow_cast-result
overflow_cast-result c = omega (arith, ((c.read_directory.ensures.meaning _).0 c.in-Ok.is).few)
