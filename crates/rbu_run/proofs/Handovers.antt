-- How the log, its rename, the copying and its removal join.
use Rattle.std.proofs.Common.{◌≡◌, ◌⊎◌, ℕ, List, length, Option, Some, None, refl, sym, ap, ◌∙◌, subst, inl, inr}
use Rattle.std.proofs.Math.Path.{fun_ext}
use Rattle.common_spec.specs.Told.{Leads}
use Rattle.common_spec.specs.ToldLaws.{Leads-then, Leads-weaken}
use Rattle.file_spec.specs.declared.FileName.{FileName}
use Rattle.file_spec.specs.declared.FileName.TheVariants.{Target, Oal, Wal, Journal, Rbu, State, StateTemp}
use Rattle.file_spec.specs.Files.{Files, content, with_file, after_rename, after_remove, OnlyChanges}
use Rattle.file_spec.specs.FilesLaws.{OnlyChanges-none}
use Rattle.rbu_run.specs.Handover.{log_of, IsAlone, HasPages, IsMidway}

module _ (salt : ℕ × ℕ) (pages : List ℕ) where
  -- the hidden log was written
  abbrev pub LogWritten : Files → Files → Type 0
  LogWritten f g = f Oal ≡ None → g ≡ with_file f Oal (Some (log_of salt pages))

  -- it is the write-ahead log
  abbrev pub LogMoved : Files → Files → Type 0
  LogMoved f g = IsAlone f → g ≡ with_file f Wal (Some (log_of salt pages))

  -- and the target has the pages too
  abbrev pub PagesCopied : Files → Files → Type 0
  PagesCopied f g = IsAlone f → g ≡ with_file (with_file f Wal (Some (log_of salt pages))) Target (Some pages)

  -- the handover is done, or stopped midway
  abbrev pub HandedOver : Files → Files → Type 0
  HandedOver f g = IsAlone f → HasPages pages f g

  abbrev pub Stopped : Files → Files → Type 0
  Stopped f g = IsAlone f → IsMidway salt pages f g

  after_rename-alone : (f : Files) → IsAlone f → after_rename (with_file f Oal (Some (log_of salt pages))) Oal Wal ≡ with_file f Wal (Some (log_of salt pages))
  after_rename-alone f alone = fun_ext at
    where
      at : (name : FileName) → after_rename (with_file f Oal (Some (log_of salt pages))) Oal Wal name ≡ with_file f Wal (Some (log_of salt pages)) name
      at Target = refl
      at Oal = sym alone.no_oal
      at Wal = refl
      at Journal = refl
      at Rbu = refl
      at State = refl
      at StateTemp = refl

  after_remove-alone : (f : Files) → IsAlone f → after_remove (with_file (with_file f Wal (Some (log_of salt pages))) Target (Some pages)) Wal ≡ with_file f Target (Some pages)
  after_remove-alone f alone = fun_ext at
    where
      at : (name : FileName) → after_remove (with_file (with_file f Wal (Some (log_of salt pages))) Target (Some pages)) Wal name ≡ with_file f Target (Some pages) name
      at Target = refl
      at Oal = refl
      at Wal = sym alone.no_wal
      at Journal = refl
      at Rbu = refl
      at State = refl
      at StateTemp = refl

  pub log-moved : {a b c : Option Files} → Leads LogWritten a b → Leads (λ f g. g ≡ after_rename f Oal Wal) b c → Leads LogMoved a c
  log-moved wrote rename =
      Leads-then wrote rename (λ f g h written moved alone. moved ∙ ap (λ (files : Files). after_rename files Oal Wal) (written alone.no_oal) ∙ after_rename-alone f alone)

  pub pages-copied : {a b c : Option Files} → Leads LogMoved a b → Leads (λ f g. length (content f Target) ≡ 8192 → HasPages pages f g) b c → Leads PagesCopied a c
  pages-copied moved copy =
      Leads-then moved copy (λ f g h is copies alone.
      let same : content g Target ≡ content f Target = ap (λ (files : Files). content files Target) (is alone) in
      copies (ap length same ∙ alone.two_pages_long) ∙ ap (λ (files : Files). with_file files Target (Some pages)) (is alone))

  pub handed-over : {a b c : Option Files} → Leads PagesCopied a b → Leads (λ f g. g ≡ after_remove f Wal) b c → Leads HandedOver a c
  handed-over copied remove =
      Leads-then copied remove (λ f g h is gone alone. gone ∙ ap (λ (files : Files). after_remove files Wal) (is alone) ∙ after_remove-alone f alone)

  -- a fault while the log is written
  pub stopped-log : {a b : Option Files} → Leads (OnlyChanges Oal) a b → Leads Stopped a b
  stopped-log only = Leads-weaken only (λ f g changed alone. inl changed)

  move-stops : (f g h : Files) → LogWritten f g → (h ≡ g) ⊎ (h ≡ after_rename g Oal Wal) → Stopped f h
  move-stops f g h written (inl same) alone = inl (Some (log_of salt pages), same ∙ written alone.no_oal)
  move-stops f g h written (inr moved) alone =
      let is : h ≡ with_file f Wal (Some (log_of salt pages)) = moved ∙ ap (λ (files : Files). after_rename files Oal Wal) (written alone.no_oal) ∙ after_rename-alone f alone in
      inr (inl (subst (OnlyChanges Target (with_file f Wal (Some (log_of salt pages)))) (sym is) (OnlyChanges-none Target (with_file f Wal (Some (log_of salt pages))))))

  -- a fault of the rename, or of the sync behind it
  pub stopped-move : {a b c : Option Files} → Leads LogWritten a b → Leads (λ f g. (g ≡ f) ⊎ (g ≡ after_rename f Oal Wal)) b c → Leads Stopped a c
  stopped-move wrote move = Leads-then wrote move move-stops

  -- a fault of the copying
  pub stopped-copy : {a b c : Option Files} → Leads LogMoved a b → Leads (OnlyChanges Target) b c → Leads Stopped a c
  stopped-copy moved only =
      Leads-then moved only (λ f g h is changed alone. inr (inl (subst (λ (files : Files). OnlyChanges Target files h) (is alone) changed)))

  drop-stops : (f g h : Files) → PagesCopied f g → (h ≡ g) ⊎ (h ≡ after_remove g Wal) → Stopped f h
  drop-stops f g h copied (inl same) alone = inr (inl (Some pages, same ∙ copied alone))
  drop-stops f g h copied (inr gone) alone = inr (inr (gone ∙ ap (λ (files : Files). after_remove files Wal) (copied alone) ∙ after_remove-alone f alone))

  -- a fault of the removal, or of the sync behind it
  pub stopped-drop : {a b c : Option Files} → Leads PagesCopied a b → Leads (λ f g. (g ≡ f) ⊎ (g ≡ after_remove f Wal)) b c → Leads Stopped a c
  stopped-drop copied drop = Leads-then copied drop drop-stops
