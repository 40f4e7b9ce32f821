-- The directory that is carried is that of the archive.
use mathlib.Core.Path.{ap, ◌∙◌}
use Rattle.carried.specs.Carried.{carried_directory}
use Rattle.carried.specs.declared.ArchiveDirectory.{ArchiveDirectory}
use Rattle.carried.proofs.Carrying.{directory_back}
use Rattle.directory.proofs.Reading.{read_is, read_of}
use Rattle.poqewan_archives.proofs.poqewan_read_directory.Goals as goal

pub returns : goal.returns
returns c =
    let C = c.archive_directory.ensures.answer in
    record {
      answer = C;
      read = λ none. read_is _ _ (directory_back _ C none);
      taken = λ d A. ap (λ (r : ArchiveDirectory). r.refusal) (C ∙ ap carried_directory (read_of _ d A));
    }
