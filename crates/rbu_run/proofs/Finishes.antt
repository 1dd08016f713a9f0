-- What a decision on small files leaves of them.
use Rattle.std.proofs.Common.{◌≡◌, ◌≤◌, ℕ, ℤ, List, Vec, Global, Result, Ok, Err, IsErrAnd, IfErr, Some, refl, sym, ap, ◌∙◌, subst, inl, inr, false}
use Rattle.file_spec.specs.declared.FileName.{FileName}
use Rattle.file_spec.specs.declared.FileName.TheVariants.{Target, Oal, Wal, Journal, Rbu, State, StateTemp}
use Rattle.file_spec.specs.Files.{Files, content, is_name, with_file}
use Rattle.format_spec.specs.Log.{AreWords}
use Rattle.refusal.specs.declared.Part.TheVariants as part
use Rattle.refusal.specs.declared.Refusal.TheVariants.{NotYet}
use Rattle.rbu_disk.specs.declared.disk.DiskFault.{DiskFault}
use Rattle.rbu_disk.specs.Call.{Failures}
use Rattle.rbu_disk.specs.Disk.{IsCause}
use Rattle.update_spec.specs.declared.Outcome.{Outcome}
use Rattle.update_spec.specs.declared.Outcome.TheVariants.{Done, KeyPresent, Refused}
use Rattle.update_spec.specs.Update.{IsLook}
use Rattle.small_spec.specs.declared.TargetRow.{TargetRow}
use Rattle.small_spec.specs.declared.PreparedRow.{PreparedRow}
use Rattle.small_spec.specs.SmallFile.{IsSmallTarget}
use Rattle.small_spec.specs.Inserts.{HasDistinctKeys, all_rows, new_pages, page_room}
use Rattle.small_spec.specs.SmallUpdate.{CanInsert, AreNewBytes}
use Rattle.small_update.specs.SmallAgain.{UpdateLeavesSmallTarget}
use Rattle.small_update.specs.Decision.{Decides}
use Rattle.small_update.specs.declared.Decision.TheVariants as decision
use Rattle.rbu_query.specs.declared.halt.Halt.{Halt}
use Rattle.rbu_query.specs.declared.halt.Halt.TheVariants.{Fault, Memory}
use Rattle.rbu_query.specs.Answers.{fault_in}
use Rattle.rbu_run.specs.Handover.{IsAlone, HasPages, IsMidway}
use Rattle.rbu_run.specs.Ending.{AfterHalt, Ends}
use Rattle.rbu_run.specs.Inspection.{IsSmallWith}
use Rattle.rbu_run.proofs.Endings.{none-there}
use Rattle.rbu_run.proofs.Outcomes.{HasOnly-decided}

-- want of memory changes nothing
pub memory-ends : (salt : ℕ × ℕ) (result : Result Outcome Halt) → IsErrAnd result (λ halt. halt ≡ Memory) → (f : Files) → Ends salt result f f
memory-ends salt (Ok outcome) h f = absurd h
memory-ends salt (Err halt) h f = subst (λ (x : Halt). AfterHalt salt x f f) (sym h) refl

-- and has no fault of the disk as its cause
pub memory-cause : (result : Result Outcome Halt) → IsErrAnd result (λ halt. halt ≡ Memory) → (failures : Failures) → IfErr result (λ error. IsCause (fault_in error) failures failures)
memory-cause (Ok outcome) h failures = tt
memory-cause (Err halt) h failures = subst (λ (x : Halt). IsCause (fault_in x) failures failures) (sym h) refl

module _ (salt : ℕ × ℕ) (target : List ℕ) (old : List TargetRow) (prepared : List PreparedRow) where
  pub shared-ends : Decides old prepared decision.SharedKey → (f : Files) → IsSmallWith target old prepared f → Ends salt (Ok (Refused (NotYet part.Rows))) f f
  shared-ends decides f known = (((part.Rows, refl, (old, prepared, known.small, decides)), refl), HasOnly-decided f target old prepared known decision.SharedKey decides)

  pub room-ends : Decides old prepared decision.NoRoom → (f : Files) → IsSmallWith target old prepared f → Ends salt (Ok (Refused (NotYet part.Room))) f f
  room-ends decides f known = (((part.Room, refl, (old, prepared, known.small, decides.0, decides.1)), refl), HasOnly-decided f target old prepared known decision.NoRoom decides)

  -- small files whose prepared rows can be inserted
  IsSmallWith-can_insert : (f : Files) → IsSmallWith target old prepared f → HasDistinctKeys prepared → page_room (all_rows old prepared) ≤ 4096 → CanInsert f old prepared
  IsSmallWith-can_insert f known keys room = record { small = known.small; keys = keys; room = room }

  pub present-ends : (table : List ℕ) (id : ℤ) → Decides old prepared (decision.KeyPresent table id) → (f : Files) → IsSmallWith target old prepared f →
      Ends salt (Ok (KeyPresent table id)) f f
  present-ends table id decides f known = (
    ((old, prepared, decides.2.0, IsSmallWith-can_insert f known decides.0 decides.1, decides.2.1, decides.2.2, decides.2.3), refl),
    HasOnly-decided f target old prepared known (decision.KeyPresent table id) decides,
  )

  pub IsSmallWith-alone : (f : Files) → IsSmallWith target old prepared f → IsAlone f
  IsSmallWith-alone f known = record {
    no_oal = none-there (f Oal) (λ there. known.small.alone (inr (inr (inr (inl there)))));
    no_wal = none-there (f Wal) (λ there. known.small.alone (inr (inr (inl there))));
    two_pages_long = known.small.target.file.long;
  }

  module _ (law : UpdateLeavesSmallTarget) (rows : Vec TargetRow Global) (decides : Decides old prepared (decision.Merged rows)) where
    -- the new database's bytes
    pub IsSmallWith-new_bytes : (f : Files) → IsSmallWith target old prepared f → AreNewBytes f (new_pages target rows.items)
    IsSmallWith-new_bytes f known = record {
      rows = rows.items;
      new_rows = record { old = old; prepared = prepared; can_insert = IsSmallWith-can_insert f known decides.0 decides.1; none_present = decides.2; merged = decides.3 };
      pages_are = ap (λ (bytes : List ℕ). new_pages bytes rows.items) known.target_is;
      holds_rows = law target (content f Rbu) old rows.items prepared (subst (λ (bytes : List ℕ). IsSmallTarget bytes old) (sym known.target_is) known.small.target)
          known.small.rbu decides.3 decides.4;
    }

    pub done-ends : (f g : Files) → (IsAlone f → HasPages (new_pages target rows.items) f g) → IsSmallWith target old prepared f → Ends salt (Ok Done) f g
    done-ends f g hands known =
        let same : g ≡ with_file f Target (Some (new_pages target rows.items)) = hands (IsSmallWith-alone f known) in (
          record {
            bytes = new_pages target rows.items;
            new_bytes = IsSmallWith-new_bytes f known;
            target = ap (λ (files : Files). files Target) same;
            no_oal = ap (λ (files : Files). files Oal) same ∙ (IsSmallWith-alone f known).no_oal;
            no_wal = ap (λ (files : Files). files Wal) same ∙ (IsSmallWith-alone f known).no_wal;
            others = λ name other. ap (λ (files : Files). files name) same ∙ elsewhere name other f (new_pages target rows.items);
          },
          HasOnly-decided f target old prepared known (decision.Merged rows) decides,
        )
      where
        elsewhere : (name : FileName) → is_name Target name ≡ false → (f : Files) (bytes : List ℕ) → with_file f Target (Some bytes) name ≡ f name
        elsewhere Target e f bytes = absurd (cc)
        elsewhere Oal e f bytes = refl
        elsewhere Wal e f bytes = refl
        elsewhere Journal e f bytes = refl
        elsewhere Rbu e f bytes = refl
        elsewhere State e f bytes = refl
        elsewhere StateTemp e f bytes = refl

    pub fault-stops : (fault : DiskFault) → (¬ IsLook fault.call) → AreWords salt → (f g : Files) → (IsAlone f → IsMidway salt (new_pages target rows.items) f g) →
        IsSmallWith target old prepared f → Ends salt (Err (Fault fault)) f g
    fault-stops fault change words f g stops known =
        inr (change, record { salt_fits = words; bytes = new_pages target rows.items; new_bytes = IsSmallWith-new_bytes f known; midway = stops (IsSmallWith-alone f known) })
