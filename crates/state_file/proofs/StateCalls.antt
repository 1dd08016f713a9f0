-- What each call of a save makes of the files and of the moments, and how they join.
use Rattle.std.proofs.Common.{◌≡◌, ℕ, ◌+◌, ◌-◌, List, ◌++◌, length, take, drop, replicate, Option, Some, None, Result, Ok, Err, OnOk, IfSome, refl, sym, ap, ◌∙◌, subst, inl, inr, arith, length-append}
use Rattle.std.proofs.lemmas.List.{take_at}
use Rattle.common_spec.specs.Told.{Leads}
use Rattle.common_spec.specs.ToldLaws.{Leads-then, Leads-weaken, Leads-known, Leads-both}
use Rattle.byte_fields.specs.Bytes.{resized, overwritten}
use Rattle.byte_fields.specs.BytesLaws.{overwritten-front, resized-short}
use Rattle.file_spec.specs.declared.FileName.{FileName}
use Rattle.file_spec.specs.declared.FileName.TheVariants.{Target, State, StateTemp}
use Rattle.file_spec.specs.declared.DiskCall.{DiskCall}
use Rattle.file_spec.specs.declared.DiskCall.TheVariants as call
use Rattle.file_spec.specs.Files.{Files, content, with_file, after_write, after_set_len, OnlyChanges}
use Rattle.file_spec.specs.FilesLaws.{OnlyChanges-none, with_file-again}
use Rattle.file_spec.specs.Faults.{AfterFailedSetLen}
use Rattle.file_spec.specs.Records.{Stored, Names, MayName, Record, Every, IsImage, IsSound, shown_files}
use Rattle.file_spec.specs.Trails.{Trail, Passes, Adds}
use Rattle.file_spec.specs.TrailsLaws.{Passes-kept, Passes-then, Passes-weaken, Passes-now, Adds-passes, Fails-passes, FailsStill-passes}
use Rattle.file_spec.specs.Steps.{Changes, Written, Torn, LengthSet, Cut, Fails, synced_at, renamed_at, folder_synced, AfterWrite, AfterFailedWrite, AfterSetLen, AfterFailedLength, AfterSync, AfterFailedSync, AfterRename, AfterFailedRename, AfterFolderSync, AfterFailedFolderSync}
use Rattle.rbu_disk.specs.Call.{LeadsBy}
use Rattle.rbu_disk.specs.DiskLaws.{led-by, Adds-now}
use Rattle.state_file.specs.Saving.{HasFirmNames, LeavesOldOrNew, CrashesSaving, LeavesNew}
use Rattle.state_file.specs.Phases.{IsWriting, IsTaking, HasTemporary, KeepsWriting, KeepsTaking, TakesName, HasTaken}
use Rattle.state_file.proofs.StateSteps.{writing-start, writing-changes, writing-synced, writing-whole, taking-renamed, renamed-state, taking-settled, settled-state, writing-image, taking-image, taken-image, synced-temporary}

-- a change of length
pub only-length : (n : ℕ) {x y : Option Files} → Leads (λ f g. g ≡ after_set_len f StateTemp n) x y → Leads (OnlyChanges StateTemp) x y
only-length n set = Leads-weaken set (λ f g made. (Some (resized (content f StateTemp) n), made))

only_cut : (n : ℕ) (f g : Files) → AfterFailedSetLen StateTemp n f g → OnlyChanges StateTemp f g
only_cut n f g (inl same) = subst (OnlyChanges StateTemp f) (sym same) (OnlyChanges-none StateTemp f)
only_cut n f g (inr cut) = (Some cut.0, cut.1)

pub only-cut : (n : ℕ) {x y : Option Files} → Leads (AfterFailedSetLen StateTemp n) x y → Leads (OnlyChanges StateTemp) x y
only-cut n cut = Leads-weaken cut (only_cut n)

-- bytes written from the front, and the length set to theirs
whole : (old bytes : List ℕ) → resized (overwritten old 0 bytes) (length bytes) ≡ bytes
whole old bytes =
    let front = overwritten-front old bytes in
    resized-short (overwritten old 0 bytes) (length bytes) (omega (arith, ap length front, length-append bytes (drop (length bytes) old)))
    ∙ ap (take (length bytes)) front ∙ take_at bytes (drop (length bytes) old) (length bytes) refl

pub Wrote : (bytes : List ℕ) {x y z : Option Files} → Leads (λ f g. g ≡ after_write f StateTemp 0 bytes) x y → Leads (λ f g. g ≡ after_set_len f StateTemp (length bytes)) y z
    → Leads (λ f g. g ≡ with_file f StateTemp (Some bytes)) x z
Wrote bytes written set =
    Leads-then written set (λ f g h w s.
    s ∙ ap (λ (files : Files). after_set_len files StateTemp (length bytes)) w
    ∙ with_file-again f StateTemp (Some (overwritten (content f StateTemp) 0 bytes)) (Some (resized (overwritten (content f StateTemp) 0 bytes) (length bytes)))
    ∙ ap (λ (b : List ℕ). with_file f StateTemp (Some b)) (whole (content f StateTemp) bytes))

-- while the temporary file is written
pub writing-then : {x y z : Option Trail} → Leads KeepsWriting x y → Leads KeepsWriting y z → Leads KeepsWriting x z
writing-then first second = Leads-then first second (λ a b c p q start here. Passes-kept (IsWriting start) a b c (p start) (q start) here)

-- a call that changes the temporary file, as it ends well and as it fails
writing-changed : {E : Type 0} {x y : Option Trail} (which : DiskCall) (Done Failed : Stored → Stored → Type 0) (result : Result Unit E)
    → LeadsBy result (Adds StateTemp which (Changes Done StateTemp)) (Fails StateTemp which (Changes Failed StateTemp)) x y → Leads KeepsWriting x y
writing-changed {x = x} {y = y} which Done Failed result led =
    led-by x y result (Adds StateTemp which (Changes Done StateTemp)) (Fails StateTemp which (Changes Failed StateTemp)) KeepsWriting led
    (λ a b done start here. Adds-passes StateTemp which (Changes Done StateTemp) (IsWriting start) a b (λ r step. writing-changes start Done a.now.at r here step) done)
    (λ a b failed start here. Fails-passes StateTemp which (Changes Failed StateTemp) (IsWriting start) a b here (λ r step. writing-changes start Failed a.now.at r here step) failed)

pub writing-written : {E : Type 0} {x y : Option Trail} (result : Result Unit E) (at : ℕ) (bytes : List ℕ) → LeadsBy result (AfterWrite StateTemp at bytes) (AfterFailedWrite StateTemp at (length bytes)) x y → Leads KeepsWriting x y
writing-written result at bytes led = writing-changed call.Write (Written at bytes) (Torn at (length bytes)) result led

pub writing-length : {E : Type 0} {x y : Option Trail} (result : Result Unit E) (n : ℕ) → LeadsBy result (AfterSetLen StateTemp n) (AfterFailedLength StateTemp n) x y → Leads KeepsWriting x y
writing-length result n led = writing-changed call.SetLen (LengthSet n) (Cut n) result led

pub writing-stable : {E : Type 0} {x y : Option Trail} (result : Result Unit E) → LeadsBy result (AfterSync StateTemp) (AfterFailedSync StateTemp) x y → Leads KeepsWriting x y
writing-stable {x = x} {y = y} result led =
    led-by x y result (AfterSync StateTemp) (AfterFailedSync StateTemp) KeepsWriting led
    (λ a b done start here.
    Adds-passes StateTemp call.Sync (λ r after. after ≡ synced_at r (r.names StateTemp)) (IsWriting start) a b (λ r step. subst (IsWriting start) (sym step) (writing-synced start a.now.at here)) done)
    (λ a b failed start here. FailsStill-passes StateTemp call.Sync (IsWriting start) a b here failed)

-- a sync of the temporary file that shows these bytes
pub temporary-stable : (bytes : List ℕ) {x y z : Option Trail} → Leads (λ a b. shown_files b.now.at StateTemp ≡ Some bytes) x y → Leads (AfterSync StateTemp) y z → Leads (λ a c. HasTemporary bytes c.now.at) x z
temporary-stable bytes shown synced =
    Leads-then shown synced (λ a b c is adds.
    subst (HasTemporary bytes) (sym (Adds-now StateTemp call.Sync (λ r after. after ≡ synced_at r (r.names StateTemp)) b c adds)) (synced-temporary b.now.at bytes is))

-- while it takes the name
pub takes-renamed : {E : Type 0} {x y : Option Trail} (result : Result Unit E) → LeadsBy result (AfterRename StateTemp State) (AfterFailedRename StateTemp) x y → Leads TakesName x y
takes-renamed {x = x} {y = y} result led =
    led-by x y result (AfterRename StateTemp State) (AfterFailedRename StateTemp) TakesName led
    (λ a b done start temporary bytes here is.
    Adds-passes StateTemp call.Rename (λ r after. after ≡ renamed_at r StateTemp State (r.names StateTemp)) (IsTaking start temporary bytes) a b
    (λ r step. subst (IsTaking start temporary bytes) (sym step) (taking-renamed start temporary bytes a.now.at here is)) done)
    (λ a b failed start temporary bytes here is. FailsStill-passes StateTemp call.Rename (IsTaking start temporary bytes) a b here failed)

pub taking-folder : {E : Type 0} {x y : Option Trail} (result : Result Unit E) → LeadsBy result AfterFolderSync AfterFailedFolderSync x y → Leads KeepsTaking x y
taking-folder {x = x} {y = y} result led =
    led-by x y result AfterFolderSync AfterFailedFolderSync KeepsTaking led
    (λ a b done start temporary bytes here.
    Adds-passes Target call.SyncFolder (λ r after. after ≡ folder_synced r) (IsTaking start temporary bytes) a b
    (λ r step. subst (IsTaking start temporary bytes) (sym step) (taking-settled start temporary bytes a.now.at here)) done)
    (λ a b failed start temporary bytes here. FailsStill-passes Target call.SyncFolder (IsTaking start temporary bytes) a b here failed)

pub takes-then : {x y z : Option Trail} → Leads TakesName x y → Leads KeepsTaking y z → Leads TakesName x z
takes-then first second = Leads-then first second (λ a b c p q start temporary bytes here is.
    Passes-kept (IsTaking start temporary bytes) a b c (λ at. p start temporary bytes at is) (q start temporary bytes) here)

-- a rename and a sync of the folder leave the name to every image
pub taken : {x y z : Option Trail} → Leads (AfterRename StateTemp State) x y → Leads AfterFolderSync y z → Leads HasTaken x z
taken rename folder = Leads-then rename folder (λ a b c ren fol start temporary bytes here is.
    let renamed = Adds-now StateTemp call.Rename (λ r after. after ≡ renamed_at r StateTemp State (r.names StateTemp)) a b ren in
    let settled = Adds-now Target call.SyncFolder (λ r after. after ≡ folder_synced r) b c fol in
    let between : IsTaking start temporary bytes b.now.at = subst (IsTaking start temporary bytes) (sym renamed) (taking-renamed start temporary bytes a.now.at here is) in
    let named : b.now.at.names State ≡ Some temporary = ap (λ (r : Record). r.names State) renamed ∙ renamed-state start temporary bytes a.now.at is in (
      subst (IsTaking start temporary bytes) (sym settled) (taking-settled start temporary bytes b.now.at between),
      subst (λ (r : Record). (names : Names) → MayName r names → names State ≡ Some temporary) (sym settled) (settled-state start temporary bytes b.now.at named),
    ))

-- a save: the temporary file is written from a sound record whose names are firm
pub saving-written : (bytes : List ℕ) {x y : Option Trail} → IfSome x (λ t. IsSound t.now.at) → Leads KeepsWriting x y → Leads (CrashesSaving bytes) x y
saving-written bytes sound kept =
    Leads-known sound (Leads-weaken kept (λ a b keeps sound firm.
    Passes-weaken (IsWriting a.now.at) (Every (LeavesOldOrNew bytes a.now.at)) a b (λ r here left image. writing-image a.now.at r bytes sound here left image) (keeps a.now.at (writing-start a.now.at sound firm))))

-- and takes the name
pub saving-taken : (bytes : List ℕ) {x y z : Option Trail} → IfSome x (λ t. IsSound t.now.at) → Leads KeepsWriting x y → Leads (λ a b. HasTemporary bytes b.now.at) x y → Leads TakesName y z → Leads (CrashesSaving bytes) x z
saving-taken bytes sound kept stable takes =
    Leads-known sound (Leads-then (Leads-both kept stable) takes (λ a b c written named sound firm.
    let began = writing-start a.now.at sound firm in
    let first = written.0 a.now.at began in
    let here = Passes-now (IsWriting a.now.at) a b began first in
    let at = writing-whole a.now.at b.now.at bytes here written.1 in
    Passes-then (Every (LeavesOldOrNew bytes a.now.at)) a b c
    (Passes-weaken (IsWriting a.now.at) (Every (LeavesOldOrNew bytes a.now.at)) a b (λ r is left image. writing-image a.now.at r bytes sound is left image) first)
    (Passes-weaken (IsTaking a.now.at written.1.id bytes) (Every (LeavesOldOrNew bytes a.now.at)) b c (λ r is left image. taking-image a.now.at r written.1.id bytes sound is left image)
    (named a.now.at written.1.id bytes at written.1.named))))

-- and then a crash leaves it
pub saving-done : (bytes : List ℕ) {x y z : Option Trail} → IfSome x (λ t. IsSound t.now.at) → Leads KeepsWriting x y → Leads (λ a b. HasTemporary bytes b.now.at) x y → Leads HasTaken y z → Leads (LeavesNew bytes) x z
saving-done bytes sound kept stable takes =
    Leads-known sound (Leads-then (Leads-both kept stable) takes (λ a b c written has sound firm left image.
    let began = writing-start a.now.at sound firm in
    let here = Passes-now (IsWriting a.now.at) a b began (written.0 a.now.at began) in
    let now = has a.now.at written.1.id bytes (writing-whole a.now.at b.now.at bytes here written.1) written.1.named in
    (taking-image a.now.at c.now.at written.1.id bytes sound now.0 left image, taken-image a.now.at c.now.at written.1.id bytes now.0 now.1 left image)))

-- a fact that holds in any case holds after Ok
pub on-ok : {X E : Type 0} {P : Type 0} (r : Result X E) → P → OnOk r P
on-ok (Ok x) p = p
on-ok (Err e) p = tt
