-- What each call of the handover makes of the moments, and how they join.
use Rattle.std.proofs.Common.{◌≡◌, ℕ, List, length, Option, Some, None, option_map, Result, IfSome, sym, ap, ◌∙◌, subst}
use Rattle.common_spec.specs.Told.{Leads}
use Rattle.common_spec.specs.ToldLaws.{Leads-here, Leads-then, IfSome-led}
use Rattle.file_spec.specs.declared.FileName.{FileName}
use Rattle.file_spec.specs.declared.FileName.TheVariants.{Target, Oal, Wal}
use Rattle.file_spec.specs.declared.DiskCall.{DiskCall}
use Rattle.file_spec.specs.declared.DiskCall.TheVariants as call
use Rattle.file_spec.specs.Records.{Stored, MayHold, Record, HoldsAt, shown_files}
use Rattle.file_spec.specs.RecordsLaws.{stable-only, settled-images, settled-names}
use Rattle.file_spec.specs.Trails.{Trail, Adds}
use Rattle.file_spec.specs.TrailsLaws.{Passes-none, Passes-kept, Adds-passes, FailsStill-passes}
use Rattle.file_spec.specs.Steps.{Changes, Written, Torn, synced_at, removed_at, renamed_at, folder_synced, AfterCreate, AfterFailedCreate, AfterWrite, AfterFailedWrite, AfterSync, AfterFailedSync, AfterRename, AfterFailedRename, AfterRemove, AfterFailedRemove, AfterFolderSync, AfterFailedFolderSync}
use Rattle.rbu_disk.specs.Call.{LeadsBy}
use Rattle.update_spec.specs.Crashes.{HasShownNames, HasShownFile}
use Rattle.rbu_run.specs.Phases.{Building, Between, Logged, HasStable, KeepsBuilding, KeepsBetween, MovesLog, HasMovedLog, KeepsLogged}
use Rattle.rbu_run.proofs.Moments.{led-by, adds-keeps, fails-keeps}
use Rattle.rbu_run.proofs.PhaseSteps.{synced-stable, building-changes, building-synced, between-renamed, renamed-log, between-settled, between-logged, between-removed, logged-changes, logged-synced}

-- the record that a call left
Adds-now : (file : FileName) (which : DiskCall) (R : Record → Record → Type 0) (a b : Trail) → Adds file which R a b → R a.now.at b.now.at
Adds-now file which R a b adds = subst (R a.now.at) (sym (ap (λ (t : Trail). t.now.at) adds.is)) adds.step

-- while the log is built
pub building-none : {x : Option Trail} → Leads KeepsBuilding x x
building-none = Leads-here (λ a t held here. Passes-none (Building t held) a)

pub building-then : {x y z : Option Trail} → Leads KeepsBuilding x y → Leads KeepsBuilding y z → Leads KeepsBuilding x z
building-then first second = Leads-then first second (λ a b c p q t held here. Passes-kept (Building t held) a b c (p t held) (q t held) here)

pub building-created : {E : Type 0} {x y : Option Trail} (result : Result Unit E) → LeadsBy result (AfterCreate Oal) (AfterFailedCreate Oal) x y → Leads KeepsBuilding x y
building-created {x = x} {y = y} result led =
    led-by x y result (AfterCreate Oal) (AfterFailedCreate Oal) KeepsBuilding led
    (λ a b done t held here. adds-keeps Oal call.Create (Changes (λ s after. after ≡ s) Oal) (Building t held) (building-changes t held (λ s after. after ≡ s)) a b done here)
    (λ a b failed t held here. FailsStill-passes Oal call.Create (Building t held) a b here failed)

pub building-written : {E : Type 0} {x y : Option Trail} (result : Result Unit E) (at : ℕ) (bytes : List ℕ) → LeadsBy result (AfterWrite Oal at bytes) (AfterFailedWrite Oal at (length bytes)) x y → Leads KeepsBuilding x y
building-written {x = x} {y = y} result at bytes led =
    led-by x y result (AfterWrite Oal at bytes) (AfterFailedWrite Oal at (length bytes)) KeepsBuilding led
    (λ a b done t held here. adds-keeps Oal call.Write (Changes (Written at bytes) Oal) (Building t held) (building-changes t held (Written at bytes)) a b done here)
    (λ a b failed t held here. fails-keeps Oal call.Write (Changes (Torn at (length bytes)) Oal) (Building t held) (building-changes t held (Torn at (length bytes))) a b failed here)

pub building-stable : {E : Type 0} {x y : Option Trail} (result : Result Unit E) → LeadsBy result (AfterSync Oal) (AfterFailedSync Oal) x y → Leads KeepsBuilding x y
building-stable {x = x} {y = y} result led =
    led-by x y result (AfterSync Oal) (AfterFailedSync Oal) KeepsBuilding led
    (λ a b done t held here. adds-keeps Oal call.Sync (λ r after. after ≡ synced_at r (r.names Oal)) (Building t held) (λ r q b e. subst (Building t held) (sym e) (building-synced t held r b)) a b done here)
    (λ a b failed t held here. FailsStill-passes Oal call.Sync (Building t held) a b here failed)

-- a sync of a file that shows these bytes
pub shown-stable : (If : Record → Type 0) (name : FileName) (bytes : List ℕ) {x y z : Option Trail} → Leads (λ a b. If a.now.at → shown_files b.now.at name ≡ Some bytes) x y →
    Leads (AfterSync name) y z → Leads (λ a c. If a.now.at → HasStable name bytes c.now.at) x z
shown-stable If name bytes shown synced =
    Leads-then shown synced (λ a b c is adds holds.
    subst (HasStable name bytes) (sym (Adds-now name call.Sync (λ r after. after ≡ synced_at r (r.names name)) b c adds)) (synced-stable b.now.at name bytes (is holds)))

-- while the log takes its name, or loses it
pub between-then : {x y z : Option Trail} → Leads KeepsBetween x y → Leads KeepsBetween y z → Leads KeepsBetween x z
between-then first second = Leads-then first second (λ a b c p q t held log bytes here. Passes-kept (Between t held log bytes) a b c (p t held log bytes) (q t held log bytes) here)

pub moves-then : {x y z : Option Trail} → Leads MovesLog x y → Leads KeepsBetween y z → Leads MovesLog x z
moves-then first second = Leads-then first second (λ a b c p q t held log bytes here is.
    Passes-kept (Between t held log bytes) a b c (λ at. p t held log bytes at is) (q t held log bytes) here)

pub moves-renamed : {E : Type 0} {x y : Option Trail} (result : Result Unit E) → LeadsBy result (AfterRename Oal Wal) (AfterFailedRename Oal) x y → Leads MovesLog x y
moves-renamed {x = x} {y = y} result led =
    led-by x y result (AfterRename Oal Wal) (AfterFailedRename Oal) MovesLog led
    (λ a b done t held log bytes here is.
    Adds-passes Oal call.Rename (λ r after. after ≡ renamed_at r Oal Wal (r.names Oal)) (Between t held log bytes) a b
    (λ r step. subst (Between t held log bytes) (sym step) (between-renamed t held log bytes a.now.at here is)) done)
    (λ a b failed t held log bytes here is. FailsStill-passes Oal call.Rename (Between t held log bytes) a b here failed)

pub between-folder : {E : Type 0} {x y : Option Trail} (result : Result Unit E) → LeadsBy result AfterFolderSync AfterFailedFolderSync x y → Leads KeepsBetween x y
between-folder {x = x} {y = y} result led =
    led-by x y result AfterFolderSync AfterFailedFolderSync KeepsBetween led
    (λ a b done t held log bytes here.
    adds-keeps Target call.SyncFolder (λ r after. after ≡ folder_synced r) (Between t held log bytes)
    (λ r q b e. subst (Between t held log bytes) (sym e) (between-settled t held log bytes r b)) a b done here)
    (λ a b failed t held log bytes here. FailsStill-passes Target call.SyncFolder (Between t held log bytes) a b here failed)

pub between-gone : {E : Type 0} {x y : Option Trail} (result : Result Unit E) → LeadsBy result (AfterRemove Wal) (AfterFailedRemove Wal) x y → Leads KeepsBetween x y
between-gone {x = x} {y = y} result led =
    led-by x y result (AfterRemove Wal) (AfterFailedRemove Wal) KeepsBetween led
    (λ a b done t held log bytes here.
    adds-keeps Wal call.Remove (λ r after. after ≡ removed_at r Wal (r.names Wal)) (Between t held log bytes)
    (λ r q b e. subst (Between t held log bytes) (sym e) (between-removed t held log bytes r b)) a b done here)
    (λ a b failed t held log bytes here. FailsStill-passes Wal call.Remove (Between t held log bytes) a b here failed)

-- a rename and a sync of the folder leave the log to every image
pub moved-log : {x y z : Option Trail} → Leads (AfterRename Oal Wal) x y → Leads AfterFolderSync y z → Leads HasMovedLog x z
moved-log rename folder = Leads-then rename folder (λ a b c ren fol t held log bytes here is.
    let renamed = Adds-now Oal call.Rename (λ r after. after ≡ renamed_at r Oal Wal (r.names Oal)) a b ren in
    let settled = Adds-now Target call.SyncFolder (λ r after. after ≡ folder_synced r) b c fol in
    subst (Logged t log bytes) (sym settled)
    (between-logged t held log bytes b.now.at (subst (Between t held log bytes) (sym renamed) (between-renamed t held log bytes a.now.at here is))
    (ap (λ (r : Record). r.names Wal) renamed ∙ renamed-log t held log bytes a.now.at is)))

-- while the pages are copied
pub logged-then : {x y z : Option Trail} → Leads KeepsLogged x y → Leads KeepsLogged y z → Leads KeepsLogged x z
logged-then first second = Leads-then first second (λ a b c p q t log bytes here. Passes-kept (Logged t log bytes) a b c (p t log bytes) (q t log bytes) here)

pub logged-written : {E : Type 0} {x y : Option Trail} (result : Result Unit E) (at : ℕ) (bytes : List ℕ) → LeadsBy result (AfterWrite Target at bytes) (AfterFailedWrite Target at (length bytes)) x y → Leads KeepsLogged x y
logged-written {x = x} {y = y} result at page led =
    led-by x y result (AfterWrite Target at page) (AfterFailedWrite Target at (length page)) KeepsLogged led
    (λ a b done t log bytes here. adds-keeps Target call.Write (Changes (Written at page) Target) (Logged t log bytes) (logged-changes t log bytes (Written at page)) a b done here)
    (λ a b failed t log bytes here. fails-keeps Target call.Write (Changes (Torn at (length page)) Target) (Logged t log bytes) (logged-changes t log bytes (Torn at (length page))) a b failed here)

pub logged-stable : {E : Type 0} {x y : Option Trail} (result : Result Unit E) → LeadsBy result (AfterSync Target) (AfterFailedSync Target) x y → Leads KeepsLogged x y
logged-stable {x = x} {y = y} result led =
    led-by x y result (AfterSync Target) (AfterFailedSync Target) KeepsLogged led
    (λ a b done t log bytes here.
    adds-keeps Target call.Sync (λ r after. after ≡ synced_at r (r.names Target)) (Logged t log bytes)
    (λ r q b e. subst (Logged t log bytes) (sym e) (logged-synced t log bytes r b)) a b done here)
    (λ a b failed t log bytes here. FailsStill-passes Target call.Sync (Logged t log bytes) a b here failed)

-- what a sync of the folder leaves
pub folder-names : {x y : Option Trail} → Leads AfterFolderSync x y → IfSome y (λ t. HasShownNames t.now.at)
folder-names folder = IfSome-led _ folder (λ a b fol.
    subst HasShownNames (sym (Adds-now Target call.SyncFolder (λ r after. after ≡ folder_synced r) a b fol)) (λ left image. settled-names a.now.at left image))

HasStable-removed : (r : Record) (number : Option ℕ) (bytes : List ℕ) → HasStable Target bytes r → HasStable Target bytes (removed_at r Wal number)
HasStable-removed r None bytes stands = stands
HasStable-removed r (Some id) bytes stands = stands

HasStable-settled : (r : Record) (bytes : List ℕ) → HasStable Target bytes r → HasShownFile Target (folder_synced r)
HasStable-settled r bytes stands left image =
    let there : HoldsAt r.stored (Some stands.0) (left Target) = subst (λ number. HoldsAt r.stored number (left Target)) stands.1 (settled-images r left image Target) in
    let held : there.0 ≡ bytes = stable-only bytes there.0 (subst (λ (s : Stored). MayHold s there.0) stands.2 there.2) in
    let shown : shown_files r Target ≡ Some bytes = ap (option_map (λ i. (r.stored i).shown)) stands.1 ∙ ap (λ (s : Stored). Some s.shown) stands.2 in
    there.1 ∙ ap Some held ∙ sym shown

pub gone-target : {x y z : Option Trail} → Leads (AfterRemove Wal) x y → Leads AfterFolderSync y z →
    Leads (λ a c. (bytes : List ℕ) → HasStable Target bytes a.now.at → HasShownFile Target c.now.at) x z
gone-target gone folder = Leads-then gone folder (λ a b c rem fol bytes stands.
    let removed = Adds-now Wal call.Remove (λ r after. after ≡ removed_at r Wal (r.names Wal)) a b rem in
    let settled = Adds-now Target call.SyncFolder (λ r after. after ≡ folder_synced r) b c fol in
    subst (HasShownFile Target) (sym settled) (HasStable-settled b.now.at bytes (subst (HasStable Target bytes) (sym removed) (HasStable-removed a.now.at (a.now.at.names Wal) bytes stands))))
