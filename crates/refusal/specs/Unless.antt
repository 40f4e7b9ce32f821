-- Tests in their order, each with the answer of those that it refuses.
use Rattle.std.specs.Prelude.{Bool, true, false}

-- The refusal, unless a test passes; then what comes after it.
abbrev pub unless : {A : Type 0} → Bool → A → A → A
unless true refusal then = then
unless false refusal then = refusal
