-- What passed is Ok, and nothing else is. Assumes nothing.
use Rattle.std.proofs.Common.{◌≡◌, ◌↔◌, Result, Ok, Err, IsOk, refl}
use Rattle.refusal.specs.Tests.{Tested, passed}

pub passed_iff : (t : Tested) → (t ≡ passed) ↔ IsOk t
passed_iff (Ok tt) = (λ e. refl, λ e. refl)
passed_iff (Err why) = (λ e. (cc), λ e. (cc))
