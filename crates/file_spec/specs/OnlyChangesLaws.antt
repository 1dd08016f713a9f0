-- At most one file changes, call by call, where a disk tells its files: crates above cite these facts in their proofs.
use Rattle.std.proofs.Common.{◌≡◌, ℕ, List, Option, Some}
use Rattle.common_spec.specs.Told.{Leads}
use Rattle.common_spec.specs.ToldLaws.{Leads-same, Leads-then, Leads-weaken}
use Rattle.file_spec.specs.declared.FileName.{FileName}
use Rattle.byte_fields.specs.Bytes.{overwritten}
use Rattle.file_spec.specs.Files.{Files, content, after_write, after_create, OnlyChanges}
use Rattle.file_spec.specs.FilesLaws.{OnlyChanges-none, OnlyChanges-then}
use Rattle.file_spec.specs.Faults.{AfterTornWrite}
use Rattle.file_spec.specs.FaultsLaws.{OnlyChanges-torn}

-- nothing changes
pub only-same : (name : FileName) {before after : Option Files} → after ≡ before → Leads (OnlyChanges name) before after
only-same name same = Leads-same same (OnlyChanges-none name)

-- a write
pub only-written : (name : FileName) (at : ℕ) (bytes : List ℕ) {before after : Option Files} → Leads (λ f g. g ≡ after_write f name at bytes) before after
    → Leads (OnlyChanges name) before after
only-written name at bytes written = Leads-weaken written (λ f g made. (Some (overwritten (content f name) at bytes), made))

-- a write that failed
pub only-torn : (name : FileName) (at n : ℕ) {before after : Option Files} → Leads (AfterTornWrite name at n) before after → Leads (OnlyChanges name) before after
only-torn name at n torn = Leads-weaken torn (OnlyChanges-torn name at n)

-- a file is made
pub only-created : (name : FileName) {before after : Option Files} → Leads (λ f g. g ≡ after_create f name) before after → Leads (OnlyChanges name) before after
only-created name created = Leads-weaken created (λ f g made. (Some (content f name), made))

-- one step after another
pub only-then : (name : FileName) {before between after : Option Files} → Leads (OnlyChanges name) before between → Leads (OnlyChanges name) between after
    → Leads (OnlyChanges name) before after
only-then name first second = Leads-then first second (OnlyChanges-then name)
