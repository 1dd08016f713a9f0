use Rattle.std.proofs.Common.{ap}
use Rattle.file_spec.specs.Records.{shown_files}
use Rattle.file_spec.specs.Steps.{Torn, Cut}
use Rattle.file_spec.specs.RecordsLaws.{fewer-images}
use Rattle.file_spec.specs.StepsLaws.{sound-changes, sound-torn, sound-cut, images-keep, torn-keeps, cut-keeps}
use Rattle.file_spec.specs.ShownLaws.{shown-changes, shown-torn, shown-cut}
use Rattle.file_spec.specs.TrailsLaws.{FailsStill-now, FailsStill-images}
use Rattle.file_spec.proofs.crash_laws.failed_calls_leave.Goals as goal

pub returns-clause-torn : goal.returns-clause-torn
returns-clause-torn c name at n r q sound changes = (
  shown-torn name at n r q (shown-changes (Torn at n) name r q sound (sound-changes (Torn at n) name r q (sound-torn at n) sound changes) changes),
  images-keep (Torn at n) name r q (torn-keeps at n) changes,
)

pub returns-clause-cut : goal.returns-clause-cut
returns-clause-cut c name n r q sound changes = (
  shown-cut name n r q (shown-changes (Cut n) name r q sound (sound-changes (Cut n) name r q (sound-cut n) sound changes) changes),
  images-keep (Cut n) name r q (cut-keeps n) changes,
)

pub returns-clause-still : goal.returns-clause-still
returns-clause-still c file call a b fails = (ap shown_files (FailsStill-now file call a b fails), FailsStill-images file call a b fails)

pub returns-clause-part : goal.returns-clause-part
returns-clause-part c = fewer-images
