-- What is true of the files however the update ended.
use Rattle.std.proofs.Common.{◌≡◌, ℕ, true, false, if◌then◌else◌, List, ◌++◌, length, take, drop, Option, Some, None, IsSome, refl, sym, ap, ◌∙◌, subst, inl, inr, arith, lit<, length-take, length-drop}
use Rattle.std.proofs.lemmas.List.{take-append-drop}
use Rattle.file_spec.specs.declared.FileName.{FileName}
use Rattle.file_spec.specs.declared.FileName.TheVariants.{Target, Oal, Wal}
use Rattle.file_spec.specs.declared.DiskCall.{DiskCall}
use Rattle.file_spec.specs.Files.{Files, content, is_name, with_file}
use Rattle.format_spec.specs.PageMap.{PageMap, pages_of}
use Rattle.format_spec.specs.Log.{AreWords, IsFrame, IsOverlay, committed}
use Rattle.format_spec.specs.LogLaws.{log-of_frames}
use Rattle.wal_codec.specs.LogLaws.{overlay-of_two_pages}
use Rattle.update_spec.specs.View.{IsView, KeepsView, pages_below}
use Rattle.update_spec.specs.ViewLaws.{KeepsView-same}
use Rattle.update_spec.specs.Update.{SeesOldOrNew, AfterFault}
use Rattle.update_spec.specs.declared.Outcome.TheVariants.{Done, KeyPresent, Refused}
use Rattle.update_spec.specs.declared.Answer.{Answer}
use Rattle.update_spec.specs.declared.Answer.TheVariants.{Usage, Ended, Printed, Fault, NoMemory}
use Rattle.small_spec.specs.SmallUpdate.{AreNewBytes, small_inserts}
use Rattle.small_spec.specs.SmallLaws.{view-small, sees_new-bytes, IsFinished-done}
use Rattle.rbu_run.specs.Handover.{log_of, page_frames, IsMidway, KeepsOthers, LeavesLog}
use Rattle.rbu_run.specs.Ending.{EndsAs}
use Rattle.rbu_run.specs.Status.{IsOutcomeOf}

pub none-there : {X : Type 0} (o : Option X) → ¬ IsSome o → o ≡ None
none-there None h = refl
none-there (Some x) h = absurd (h refl)

-- a change under one name is none under another
with_file-elsewhere : (changed name : FileName) → is_name changed name ≡ false → (f : Files) (bytes : Option (List ℕ)) → with_file f changed bytes name ≡ f name
with_file-elsewhere changed name e f bytes = ap (λ there. if there then bytes else f name) e

module _ (salt : ℕ × ℕ) where
  -- a reader sees the pages where they are in the write-ahead log, whatever the target holds
  pub view-logged : (g : Files) (pages : List ℕ) → AreWords salt → length pages ≡ 8192 → g Wal ≡ Some (log_of salt pages) → IsView g (pages_of 4096 2 pages)
  view-logged g pages words long wal =
      let first : length (take 4096 pages) ≡ 4096 = omega (arith, length-take 4096 pages) in
      let second : length (drop 4096 pages) ≡ 4096 = omega (arith, length-drop 4096 pages) in
      let base : PageMap = pages_below 4096 (committed (page_frames pages)) (content g Target) in
      let over : IsOverlay base (page_frames pages) (pages_of 4096 2 (take 4096 pages ++ drop 4096 pages)) =
      overlay-of_two_pages base (take 4096 pages) (drop 4096 pages) 4096 refl first second in
      let seen : IsOverlay base (page_frames pages) (pages_of 4096 2 pages) =
      subst (λ (b : List ℕ). IsOverlay base (page_frames pages) (pages_of 4096 2 b)) (take-append-drop 4096 pages) over in
      let front : IsFrame 4096 (record { number = 1; commit = 0; page = take 4096 pages }) = record { of_page = lit< tt; number_fits = lit< tt; commit_fits = lit< tt; whole = first } in
      let back : IsFrame 4096 (record { number = 2; commit = 2; page = drop 4096 pages }) = record { of_page = lit< tt; number_fits = lit< tt; commit_fits = lit< tt; whole = second } in
      rw wal (4096, page_frames pages, log-of_frames true 4096 0 salt (page_frames pages) (lit< tt) (lit< tt) words (front, (back, tt)), seen)

  -- the log of a handover that stopped, from files whose update was due
  AreNewBytes-no_wal : (f : Files) (bytes : List ℕ) → AreNewBytes f bytes → f Wal ≡ None
  AreNewBytes-no_wal f bytes new = none-there (f Wal) (λ there. new.new_rows.can_insert.small.alone (inr (inr (inl there))))

  sees-midway : (f g : Files) (bytes : List ℕ) → AreWords salt → AreNewBytes f bytes → IsMidway salt bytes f g → SeesOldOrNew small_inserts f g
  sees-midway f g bytes words new (inl hidden) = inl (subst (KeepsView f) (sym hidden.1) (KeepsView-same f f refl))
  sees-midway f g bytes words new (inr (inl logged)) =
      inr (sees_new-bytes f g bytes new (view-logged g bytes words new.holds_rows.file.long (ap (λ (files : Files). files Wal) logged.1)))
  sees-midway f g bytes words new (inr (inr copied)) =
      inr (sees_new-bytes f g bytes new (view-small g bytes new.holds_rows.file.header
      (ap (λ (files : Files). files Target) copied) (ap (λ (files : Files). files Wal) copied ∙ AreNewBytes-no_wal f bytes new)))

  others-midway : (f g : Files) (bytes : List ℕ) → IsMidway salt bytes f g → KeepsOthers f g
  others-midway f g bytes (inl hidden) name x y z = ap (λ (files : Files). files name) hidden.1 ∙ with_file-elsewhere Oal name y f hidden.0
  others-midway f g bytes (inr (inl logged)) name x y z =
      ap (λ (files : Files). files name) logged.1 ∙ with_file-elsewhere Target name x (with_file f Wal (Some (log_of salt bytes))) logged.0 ∙ with_file-elsewhere Wal name z f (Some (log_of salt bytes))
  others-midway f g bytes (inr (inr copied)) name x y z = ap (λ (files : Files). files name) copied ∙ with_file-elsewhere Target name x f (Some bytes)

  log-midway : (f g : Files) (bytes : List ℕ) → AreNewBytes f bytes → IsMidway salt bytes f g → LeavesLog salt f g
  log-midway f g bytes new (inl hidden) = inl (ap (λ (files : Files). files Wal) hidden.1)
  log-midway f g bytes new (inr (inl logged)) = inr (bytes, new, ap (λ (files : Files). files Wal) logged.1)
  log-midway f g bytes new (inr (inr copied)) = inl (ap (λ (files : Files). files Wal) copied)

  -- a reader sees the old database or the new one
  pub sees-ends : (answer : Answer) (f g : Files) → EndsAs salt answer f g → SeesOldOrNew small_inserts f g
  sees-ends Usage f g ends = absurd ends
  sees-ends (Ended Done) f g ends = inr (IsFinished-done f g ends.0).sees_new
  sees-ends (Ended (KeyPresent table id)) f g ends = inl (KeepsView-same f g ends.0.1)
  sees-ends (Ended (Refused refusal)) f g ends = inl (KeepsView-same f g ends.0.1)
  sees-ends (Printed text) f g ends = absurd ends
  sees-ends (Fault file call) f g (inl same) = inl (KeepsView-same f g same)
  sees-ends (Fault file call) f g (inr stops) = sees-midway f g stops.1.bytes stops.1.salt_fits stops.1.new_bytes stops.1.midway
  sees-ends NoMemory f g same = inl (KeepsView-same f g same)

  -- no other file is changed
  pub others-ends : (answer : Answer) (f g : Files) → EndsAs salt answer f g → KeepsOthers f g
  others-ends Usage f g ends = absurd ends
  others-ends (Ended Done) f g ends = λ name x y z. ends.0.others name x
  others-ends (Ended (KeyPresent table id)) f g ends = λ name x y z. ap (λ (files : Files). files name) ends.0.1
  others-ends (Ended (Refused refusal)) f g ends = λ name x y z. ap (λ (files : Files). files name) ends.0.1
  others-ends (Printed text) f g ends = absurd ends
  others-ends (Fault file call) f g (inl same) = λ name x y z. ap (λ (files : Files). files name) same
  others-ends (Fault file call) f g (inr stops) = others-midway f g stops.1.bytes stops.1.midway
  others-ends NoMemory f g same = λ name x y z. ap (λ (files : Files). files name) same

  -- a log that is left is whole, and has the new bytes
  pub log-ends : (answer : Answer) (f g : Files) → EndsAs salt answer f g → LeavesLog salt f g
  log-ends Usage f g ends = absurd ends
  log-ends (Ended Done) f g ends = inl (ends.0.no_wal ∙ sym (AreNewBytes-no_wal f ends.0.bytes ends.0.new_bytes))
  log-ends (Ended (KeyPresent table id)) f g ends = inl (ap (λ (files : Files). files Wal) ends.0.1)
  log-ends (Ended (Refused refusal)) f g ends = inl (ap (λ (files : Files). files Wal) ends.0.1)
  log-ends (Printed text) f g ends = absurd ends
  log-ends (Fault file call) f g (inl same) = inl (ap (λ (files : Files). files Wal) same)
  log-ends (Fault file call) f g (inr stops) = log-midway f g stops.1.bytes stops.1.new_bytes stops.1.midway
  log-ends NoMemory f g same = inl (ap (λ (files : Files). files Wal) same)

  -- the answer is the outcome of the files
  pub outcome-ends : (answer : Answer) (f g : Files) → EndsAs salt answer f g → IsOutcomeOf answer f
  outcome-ends Usage f g ends = absurd ends
  outcome-ends (Ended outcome) f g ends = ends.1
  outcome-ends (Printed text) f g ends = absurd ends
  outcome-ends (Fault file call) f g ends = λ other has. tt
  outcome-ends NoMemory f g ends = λ other has. tt

  -- what a fault leaves
  pub fault-ends : (file : FileName) (call : DiskCall) (f g : Files) → EndsAs salt (Fault file call) f g → AfterFault small_inserts call f g
  fault-ends file call f g (inl same) = inl same
  fault-ends file call f g (inr stops) =
      let due = stops.1.new_bytes.new_rows in
      inr (stops.0, (due.old, due.prepared, due.can_insert, due.none_present), sees-midway f g stops.1.bytes stops.1.salt_fits stops.1.new_bytes stops.1.midway)
