-- What a crash while a command runs may leave, and what one at its end.
use Rattle.std.specs.Prelude.{◌≡◌, is_some}
use Rattle.file_spec.specs.declared.FileName.{FileName}
use Rattle.file_spec.specs.Files.{Files}
use Rattle.file_spec.specs.Records.{Record, IsImage, Every, shown_files}
use Rattle.file_spec.specs.Trails.{Trail, IsImageSince, clock}
use Rattle.update_spec.specs.View.{KeepsView}
use Rattle.update_spec.specs.Update.{Update, SeesOldOrNew}

-- each image shows a reader what the shown files do
abbrev pub ImagesKeepView : Record → Type 0
ImagesKeepView r = Every (KeepsView (shown_files r)) r

-- Where each image at the start shows the old database, each image of every moment since shows the old database or all of the new one.
abbrev pub LeavesOldOrNew : Update → Trail → Trail → Type 0
LeavesOldOrNew update before after =
    ImagesKeepView before.now.at → (left : Files) → IsImageSince (clock before) after left → SeesOldOrNew update (shown_files before.now.at) left

-- Each image of every moment since could be left at the start.
abbrev pub LeavesNoMore : Trail → Trail → Type 0
LeavesNoMore before after = (left : Files) → IsImageSince (clock before) after left → IsImage before.now.at left

-- each image has a file under the names that show one, and under no others
abbrev pub HasShownNames : Record → Type 0
HasShownNames r = Every (λ left. (name : FileName) → is_some (left name) ≡ is_some (shown_files r name)) r

-- each image has under this name what is shown
abbrev pub HasShownFile : FileName → Record → Type 0
HasShownFile name r = Every (λ left. left name ≡ shown_files r name) r
