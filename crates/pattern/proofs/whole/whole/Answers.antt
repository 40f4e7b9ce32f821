-- The letters are the bytes read through the classes; they stand at the start of 256 entries.
use Rattle.std.proofs.Common.{ℕ, ◌≡◌, length, take, replicate, arith}
use Rattle.std.proofs.lemmas.List.{length-replicate}
use Rattle.classes.specs.Classes.{through}
use Rattle.classes.proofs.Letters.{letters_read}
use Rattle.intake.specs.Sizes.{longest_pattern}
use Rattle.pattern.specs.Built.{built}
use Rattle.pattern.proofs.whole.whole.Goals as goal
use Rattle.pattern.proofs.whole.whole.Goals.{After-put_letters}

letters : (c : After-put_letters) → take (length c.args.bytes.now) c.put_letters.new.letters ≡ through c.args.classes.now c.args.bytes.now
letters c =
    let size : length {A = ℕ} (replicate longest_pattern 0) ≡ longest_pattern = length-replicate {A = ℕ} longest_pattern 0 in
    (letters_read _ _ (replicate longest_pattern 0) (omega (arith, c.requires.sizes.short, size)) c.requires.classes_len c.put_letters.ensures.put).1

pub returns-clause-value : goal.returns-clause-value
unfolding built
returns-clause-value c = rw (letters (goal.at.returns-clause-value c).After-put_letters) at c.of_letters.ensures.value

pub returns-clause-scratch_after : goal.returns-clause-scratch_after
returns-clause-scratch_after c = rw (letters (goal.at.returns-clause-scratch_after c).After-put_letters) at c.of_letters.ensures.scratch_after
