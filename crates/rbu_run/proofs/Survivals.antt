-- What a crash may leave however the update ended.
use Rattle.std.proofs.Common.{◌≡◌, ℕ, List, Option, Result, Ok, Err, IsErrAnd, IfSome, sym, ap, ◌∙◌, subst, inl, inr}
use Rattle.common_spec.specs.Told.{Leads}
use Rattle.common_spec.specs.ToldLaws.{Leads-here, Leads-then, Leads-weaken, Leads-known, Leads-both, Leads-ending}
use Rattle.file_spec.specs.declared.FileName.TheVariants.{Target}
use Rattle.file_spec.specs.declared.DiskCall.TheVariants.{SyncFolder}
use Rattle.file_spec.specs.Files.{Files}
use Rattle.file_spec.specs.Records.{Record, Names, IsImage, Every, shown_files}
use Rattle.file_spec.specs.RecordsLaws.{settled-names}
use Rattle.file_spec.specs.Trails.{Trail, Passes}
use Rattle.file_spec.specs.TrailsLaws.{Passes-none, Passes-then, Passes-weaken, Adds-passes, FailsStill-passes}
use Rattle.file_spec.specs.Steps.{folder_synced, AfterFolderSync, AfterFailedFolderSync}
use Rattle.file_spec.specs.StepsLaws.{settled-fewer}
use Rattle.format_spec.specs.Log.{AreWords}
use Rattle.update_spec.specs.declared.Outcome.{Outcome}
use Rattle.update_spec.specs.declared.Outcome.TheVariants.{Done}
use Rattle.update_spec.specs.ViewLaws.{KeepsView-parts}
use Rattle.update_spec.specs.Update.{SeesOldOrNew}
use Rattle.update_spec.specs.Crashes.{ImagesKeepView, HasShownNames, HasShownFile}
use Rattle.small_spec.specs.SmallUpdate.{AreNewBytes, small_inserts}
use Rattle.small_spec.specs.SmallLaws.{view-small, sees_new-bytes}
use Rattle.rbu_query.specs.declared.halt.Halt.{Halt}
use Rattle.rbu_run.specs.Handover.{IsAlone}
use Rattle.rbu_run.specs.Crash.{HasFirmNames, IsImageMidway, CrashesMidway, MomentsShow, IsStableEnd, Survives, Rests}
use Rattle.rbu_run.proofs.Endings.{view-logged}

-- each image of a handover shows the old database or the new one
pub shows-midway : (salt : ℕ × ℕ) (r : Record) (bytes : List ℕ) → AreWords salt → AreNewBytes (shown_files r) bytes → ImagesKeepView r →
    (left : Files) → IsImageMidway salt bytes r left → SeesOldOrNew small_inserts (shown_files r) left
shows-midway salt r bytes words new keeps left (inl (old, image, target, wal)) = inl (KeepsView-parts (shown_files r) old left target wal (keeps old image))
shows-midway salt r bytes words new keeps left (inr (inl logged)) =
    inr (sees_new-bytes (shown_files r) left bytes new (view-logged salt left bytes words new.holds_rows.file.long logged))
shows-midway salt r bytes words new keeps left (inr (inr (target, none))) =
    inr (sees_new-bytes (shown_files r) left bytes new (view-small left bytes new.holds_rows.file.header target none))

-- a handover of the new bytes
pub midway-shows : (salt : ℕ × ℕ) (bytes : List ℕ) (a b : Trail) → AreWords salt → AreNewBytes (shown_files a.now.at) bytes → Passes (Every (IsImageMidway salt bytes a.now.at)) a b → MomentsShow a b
midway-shows salt bytes a b words new passes keeps =
    Passes-weaken (Every (IsImageMidway salt bytes a.now.at)) (Every (SeesOldOrNew small_inserts (shown_files a.now.at))) a b
    (λ r each left image. shows-midway salt a.now.at bytes words new keeps left (each left image)) passes

-- where no change of a name is pending, each image has the names that are shown
pub firm-names : (r : Record) → HasFirmNames r → HasShownNames r
firm-names r firm =
    let settled : r ≡ folder_synced r = ap (λ (older : List Names). let q : Record = record { stored = r.stored; names = r.names; older = older } in q) firm in
    subst HasShownNames (sym settled) (λ left image. settled-names r left image)

-- nothing changed
pub Survives-unchanged : (IsEnd : Record → Type 0) (a : Trail) → IsEnd a.now.at → Survives IsEnd a a
Survives-unchanged IsEnd a ends = record { moments = λ keeps. Passes-none (Every (SeesOldOrNew small_inserts (shown_files a.now.at))) a; end = ends }

-- nothing is said behind a halt
pub halted-end : (P : Halt → Type 0) (result : Result Outcome Halt) (r : Record) → IsErrAnd result P → IsStableEnd result r
halted-end P (Ok outcome) r h = absurd h
halted-end P (Err halt) r h = tt

-- the folder's sync, with which the update begins
AfterFolderSync-now : (a b : Trail) → AfterFolderSync a b → b.now.at ≡ folder_synced a.now.at
AfterFolderSync-now a b adds = ap (λ (t : Trail). t.now.at) adds.is ∙ adds.step

settled-keeps : (r : Record) → ImagesKeepView r → ImagesKeepView (folder_synced r)
settled-keeps r keeps left image = keeps left (settled-fewer r left image)

settled-shows : (a b : Trail) → AfterFolderSync a b → MomentsShow a b
settled-shows a b adds keeps =
    Adds-passes Target SyncFolder (λ r q. q ≡ folder_synced r) (Every (SeesOldOrNew small_inserts (shown_files a.now.at))) a b
    (λ r step. subst (Every (SeesOldOrNew small_inserts (shown_files a.now.at))) (sym step) (λ left image. inl (settled-keeps a.now.at keeps left image))) adds

pub settled-kept : (IsEnd : Record → Type 0) {x y : Option Trail} → ((r : Record) → IsEnd (folder_synced r)) → Leads AfterFolderSync x y → Leads (Survives IsEnd) x y
settled-kept IsEnd ends folder = Leads-weaken folder (λ a b adds. record { moments = settled-shows a b adds; end = subst IsEnd (sym (AfterFolderSync-now a b adds)) (ends a.now.at) })

pub settled-names-end : (r : Record) → HasShownNames (folder_synced r)
settled-names-end r left image = settled-names r left image

pub failed-kept : (IsEnd : Record → Type 0) {x y : Option Trail} → ((r : Record) → IsEnd r) → Leads AfterFailedFolderSync x y → Leads (Survives IsEnd) x y
failed-kept IsEnd ends failed = Leads-weaken failed (λ a b fails. record {
  moments = λ keeps. FailsStill-passes Target SyncFolder (Every (SeesOldOrNew small_inserts (shown_files a.now.at))) a b (λ left image. inl (keeps left image)) fails;
  end = ends b.now.at;
})

-- and what comes behind it
pub settled-then : (IsEnd : Record → Type 0) (Known : Files → Type 0) {x y z : Option Trail} → Leads AfterFolderSync x y → IfSome y (λ t. Known (shown_files t.now.at)) →
    Leads (λ a b. HasFirmNames a.now.at → Known (shown_files a.now.at) → Survives IsEnd a b) y z → Leads (Survives IsEnd) x z
settled-then IsEnd Known {y = y} {z = z} folder known rest =
    let from_firm : Leads (λ a b. Known (shown_files a.now.at) → HasFirmNames a.now.at → Survives IsEnd a b) y z = Leads-weaken rest (λ a b s k firm. s firm k) in
    let behind : Leads (λ a b. HasFirmNames a.now.at → Survives IsEnd a b) y z = Leads-known known from_firm in
    Leads-then folder behind (λ a b c adds s.
    let is : b.now.at ≡ folder_synced a.now.at = AfterFolderSync-now a b adds in
    let shown : shown_files b.now.at ≡ shown_files a.now.at = ap shown_files is in
    let survives = s (ap (λ (r : Record). r.older) is) in
    record {
      moments = λ keeps.
          Passes-then (Every (SeesOldOrNew small_inserts (shown_files a.now.at))) a b c (settled-shows a b adds keeps)
          (subst (λ (f : Files). Passes (Every (SeesOldOrNew small_inserts f)) b c) shown (survives.moments (subst ImagesKeepView (sym is) (settled-keeps a.now.at keeps))));
      end = survives.end;
    })

-- the installation of the new bytes, as it ended well and as it stopped
module _ (salt : ℕ × ℕ) (bytes : List ℕ) (words : AreWords salt) (Known : Files → Type 0) (alone : (f : Files) → Known f → IsAlone f) (new : (f : Files) → Known f → AreNewBytes f bytes) where
  pub done-survives : {x y : Option Trail} → Leads (CrashesMidway salt bytes) x y → Leads (λ a b. IsAlone (shown_files a.now.at) → HasShownFile Target b.now.at) x y →
      IfSome y (λ t. HasShownNames t.now.at) → Leads (λ a b. HasFirmNames a.now.at → Known (shown_files a.now.at) → Survives (IsStableEnd (Ok Done)) a b) x y
  done-survives moments target names =
      Leads-weaken (Leads-ending (Leads-both moments target) names) (λ a b all firm known. record {
        moments = midway-shows salt bytes a b words (new (shown_files a.now.at) known) (all.0.0 firm (alone (shown_files a.now.at) known));
        end = (all.1, all.0.1 (alone (shown_files a.now.at) known));
      })

  pub fault-survives : (halt : Halt) {x y : Option Trail} → Leads (CrashesMidway salt bytes) x y →
      Leads (λ a b. HasFirmNames a.now.at → Known (shown_files a.now.at) → Survives (IsStableEnd (Err halt)) a b) x y
  fault-survives halt moments = Leads-weaken moments (λ a b m firm known. record {
    moments = midway-shows salt bytes a b words (new (shown_files a.now.at) known) (m firm (alone (shown_files a.now.at) known));
    end = tt;
  })

-- a decision that changes nothing
pub decided-survives : (IsEnd : Record → Type 0) (Known : Files → Type 0) {x : Option Trail} → ((r : Record) → HasFirmNames r → IsEnd r) →
    Leads (λ a b. HasFirmNames a.now.at → Known (shown_files a.now.at) → Survives IsEnd a b) x x
decided-survives IsEnd Known ends = Leads-here (λ a firm known. Survives-unchanged IsEnd a (ends a.now.at firm))

-- a command that only reads: what its moments leave shows the old database, and its folder's sync leaves no more than before
pub rests-shows : (a b : Trail) → Passes (Every (IsImage a.now.at)) a b → MomentsShow a b
rests-shows a b passes keeps =
    Passes-weaken (Every (IsImage a.now.at)) (Every (SeesOldOrNew small_inserts (shown_files a.now.at))) a b (λ r each left image. inl (keeps left (each left image))) passes

pub settled-rests : (IsEnd : Record → Type 0) {x y : Option Trail} → ((r : Record) → IsEnd (folder_synced r)) → Leads AfterFolderSync x y → Leads (Rests IsEnd) x y
settled-rests IsEnd ends folder = Leads-weaken folder (λ a b adds. record {
  moments = Adds-passes Target SyncFolder (λ r q. q ≡ folder_synced r) (Every (IsImage a.now.at)) a b
      (λ r step. subst (Every (IsImage a.now.at)) (sym step) (λ left image. settled-fewer a.now.at left image)) adds;
  end = subst IsEnd (sym (AfterFolderSync-now a b adds)) (ends a.now.at);
})

pub failed-rests : (IsEnd : Record → Type 0) {x y : Option Trail} → ((r : Record) → IsEnd r) → Leads AfterFailedFolderSync x y → Leads (Rests IsEnd) x y
failed-rests IsEnd ends failed = Leads-weaken failed (λ a b fails. record {
  moments = FailsStill-passes Target SyncFolder (Every (IsImage a.now.at)) a b (λ left image. image) fails;
  end = ends b.now.at;
})
