-- What the calls on a disk make of its moments, and what is shown as its records have it: crates above cite these facts in their proofs.
use Rattle.std.proofs.Common.{◌≡◌, Option, option_map, Result, Ok, Err, OnOk, IfSome, sym, ap, subst}
use Rattle.common_spec.specs.Told.{Leads}
use Rattle.common_spec.specs.ToldLaws.{Leads-weaken, part-Leads, part-IfSome}
use Rattle.file_spec.specs.declared.FileName.{FileName}
use Rattle.file_spec.specs.declared.DiskCall.{DiskCall}
use Rattle.file_spec.specs.Files.{Files}
use Rattle.file_spec.specs.Records.{Record, shown_files}
use Rattle.file_spec.specs.Trails.{Trail, Passes, Adds}
use Rattle.file_spec.specs.TrailsLaws.{Adds-passes, Fails-passes, FailsStill-passes}
use Rattle.file_spec.specs.Steps.{Fails, FailsStill}
use Rattle.rbu_disk.specs.declared.disk.Disk.{Ghosts}
use Rattle.rbu_disk.specs.Call.{LeadsBy}

module _ {D : Type 0} (d : Ghosts D) (tied : (disk : D) → d.shown disk ≡ option_map (λ (t : Trail). shown_files t.now.at) (d.trail disk)) where
  -- what is said of the shown files, said of the records
  pub records-go : (R : Files → Files → Type 0) (before after : D) → Leads R (d.shown before) (d.shown after) →
      Leads (λ a b. R (shown_files a.now.at) (shown_files b.now.at)) (d.trail before) (d.trail after)
  records-go R before after led =
      part-Leads (λ (t : Trail). shown_files t.now.at) R (d.trail before) (d.trail after)
      (subst (λ f. Leads R f (option_map (λ (t : Trail). shown_files t.now.at) (d.trail after))) (tied before) (subst (λ f. Leads R (d.shown before) f) (tied after) led))

  pub records-have : (P : Files → Type 0) (disk : D) → IfSome (d.shown disk) P → IfSome (d.trail disk) (λ t. P (shown_files t.now.at))
  records-have P disk p = part-IfSome (λ (t : Trail). shown_files t.now.at) P (d.trail disk) (subst (λ f. IfSome f P) (tied disk) p)

-- what a call makes of the moments, however it ended
pub led-by : {T E : Type 0} (x y : Option Trail) (result : Result T E) (Done Failed S : Trail → Trail → Type 0) → LeadsBy result Done Failed x y →
    ((a b : Trail) → Done a b → S a b) → ((a b : Trail) → Failed a b → S a b) → Leads S x y
led-by x y (Ok v) Done Failed S led done failed = Leads-weaken led done
led-by x y (Err e) Done Failed S led done failed = Leads-weaken led failed

-- what a call that ended well makes of them
pub led-ok : {T E : Type 0} (x y : Option Trail) (result : Result T E) (Done Failed : Trail → Trail → Type 0) → LeadsBy result Done Failed x y → OnOk result (Leads Done x y)
led-ok x y (Ok v) Done Failed led = led
led-ok x y (Err e) Done Failed led = tt

-- and what follows
pub led-then : {T E Q : Type 0} {x y : Option Trail} (Done Failed : Trail → Trail → Type 0) (result : Result T E) → LeadsBy result Done Failed x y → (Leads Done x y → Q) → OnOk result Q
led-then Done Failed (Ok v) led w = w led
led-then Done Failed (Err e) led w = tt

-- the record that a call left
pub Adds-now : (file : FileName) (which : DiskCall) (R : Record → Record → Type 0) (a b : Trail) → Adds file which R a b → R a.now.at b.now.at
Adds-now file which R a b adds = subst (R a.now.at) (sym (ap (λ (t : Trail). t.now.at) adds.is)) adds.step

-- A fact that a call keeps is one of each moment that it adds: where it ended well, where it failed and may have changed a part, and where it then changes nothing.
module _ (file : FileName) (call : DiskCall) (R : Record → Record → Type 0) (Q : Record → Type 0) where
  pub adds-keep : ((r q : Record) → Q r → R r q → Q q) → (a b : Trail) → Adds file call R a b → Q a.now.at → Passes Q a b
  adds-keep keeps a b adds here = Adds-passes file call R Q a b (λ r step. keeps a.now.at r here step) adds

  pub fails-keep : ((r q : Record) → Q r → R r q → Q q) → (a b : Trail) → Fails file call R a b → Q a.now.at → Passes Q a b
  fails-keep keeps a b fails here = Fails-passes file call R Q a b here (λ r step. keeps a.now.at r here step) fails

pub still-keep : (file : FileName) (call : DiskCall) (Q : Record → Type 0) (a b : Trail) → FailsStill file call a b → Q a.now.at → Passes Q a b
still-keep file call Q a b fails here = FailsStill-passes file call Q a b here fails
