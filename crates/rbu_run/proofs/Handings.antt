-- What a crash may leave while the handover goes from phase to phase.
use Rattle.std.proofs.Common.{◌≡◌, ◌⊎◌, ℕ, List, [], length, Option, Some, None, option_map, unwrap_or, IfSome, refl, sym, ap, ◌∙◌, subst, inl, inr, arith}
use Rattle.common_spec.specs.Told.{Leads}
use Rattle.common_spec.specs.ToldLaws.{Leads-then, Leads-weaken, Leads-known, Leads-both}
use Rattle.file_spec.specs.declared.FileName.{FileName}
use Rattle.file_spec.specs.declared.FileName.TheVariants.{Target, Oal, Wal, Journal, Rbu, State, StateTemp}
use Rattle.file_spec.specs.Files.{Files, content, with_file}
use Rattle.file_spec.specs.Records.{Names, Record, MayName, IsAmong, HoldsAt, Every, IsSound, shown_files, stable}
use Rattle.file_spec.specs.RecordsLaws.{stable-only}
use Rattle.file_spec.specs.Trails.{Trail, Passes}
use Rattle.file_spec.specs.TrailsLaws.{Passes-now, Passes-then, Passes-weaken}
use Rattle.update_spec.specs.Crashes.{HasShownFile}
use Rattle.rbu_run.specs.Handover.{log_of, IsAlone}
use Rattle.rbu_run.specs.Crash.{HasFirmNames, LooksAsBefore, IsImageMidway, CrashesMidway}
use Rattle.rbu_run.specs.Phases.{Building, Between, Logged, HasStable, KeepsBuilding, KeepsBetween, MovesLog, HasMovedLog, KeepsLogged}
use Rattle.rbu_run.proofs.PhaseSteps.{IsUnlogged, building-whole, building-image, between-image, logged-image, logged-copied}

-- a name that shows no file has none
names-of_no_file : (r : Record) (name : FileName) → shown_files r name ≡ None → r.names name ≡ None
names-of_no_file r name = at (r.names name)
  where
    at : (number : Option ℕ) → option_map (λ id. (r.stored id).shown) number ≡ None → number ≡ None
    at None e = refl
    at (Some id) e = absurd (let lost = e in cc)

-- and one that shows bytes has one
names-of_two_pages : (r : Record) (name : FileName) → length (content (shown_files r) name) ≡ 8192 → (id : ℕ) × (r.names name ≡ Some id)
names-of_two_pages r name = at (r.names name)
  where
    at : (number : Option ℕ) → length (unwrap_or (option_map (λ id. (r.stored id).shown) number) []) ≡ 8192 → (id : ℕ) × (number ≡ Some id)
    at None long = absurd (omega (arith, long))
    at (Some id) long = (id, refl)

-- the names of all images are those that are shown
only-shown : (r : Record) → HasFirmNames r → (n : Names) → MayName r n → n ≡ r.names
only-shown r firm n may = at (subst (λ older. (n ≡ r.names) ⊎ IsAmong n older) firm may)
  where
    at : (n ≡ r.names) ⊎ ⊥ → n ≡ r.names
    at (inl same) = same
    at (inr none) = absurd none

-- the record at the start: the names are firm, and the target stands without a log
pub record Starts (r : Record) : Type 0 where
  pub firm : HasFirmNames r
  pub alone : IsAlone (shown_files r)
  pub sound : IsSound r

module _ (r : Record) (starts : Starts r) where
  pub target-number : (id : ℕ) × (r.names Target ≡ Some id)
  target-number = names-of_two_pages r Target starts.alone.two_pages_long

  pub Starts-building : (id : ℕ) → r.names Target ≡ Some id → Building id (r.stored id) r
  Starts-building id is = record {
    named = λ n may.
        let same : n ≡ r.names = only-shown r starts.firm n may in
        (ap (λ (m : Names). m Target) same ∙ is, ap (λ (m : Names). m Wal) same ∙ names-of_no_file r Wal starts.alone.no_wal);
    still = refl;
    apart = λ one. let lost : None ≡ Some id = sym (names-of_no_file r Oal starts.alone.no_oal) ∙ one in absurd (cc);
  }

  HoldsAt-shown : (number : Option ℕ) → HoldsAt r.stored number (option_map (λ id. (r.stored id).shown) number)
  HoldsAt-shown None = refl
  HoldsAt-shown (Some id) = ((r.stored id).shown, refl, starts.sound.shows id)

  -- an image without a log has the target of one from before
  pub unlogged-before : (id : ℕ) → r.names Target ≡ Some id → (left : Files) → IsUnlogged (r.stored id) left → LooksAsBefore r left
  unlogged-before id is left image = (with_file (shown_files r) Target (Some image.bytes), (r.names, inl refl, holds), image.target, image.no_log ∙ sym starts.alone.no_wal)
    where
      holds : (name : FileName) → HoldsAt r.stored (r.names name) (with_file (shown_files r) Target (Some image.bytes) name)
      holds Target = subst (λ number. HoldsAt r.stored number (Some image.bytes)) (sym is) (image.bytes, refl, image.may)
      holds Oal = HoldsAt-shown (r.names Oal)
      holds Wal = HoldsAt-shown (r.names Wal)
      holds Journal = HoldsAt-shown (r.names Journal)
      holds Rbu = HoldsAt-shown (r.names Rbu)
      holds State = HoldsAt-shown (r.names State)
      holds StateTemp = HoldsAt-shown (r.names StateTemp)

module _ (salt : ℕ × ℕ) (pages : List ℕ) where
  -- each image of the moments that came is one of those that a handover may leave
  abbrev pub Midway : Trail → Trail → Type 0
  Midway a b = Passes (Every (IsImageMidway salt pages a.now.at)) a b

  abbrev pub Stopped : Trail → Trail → Type 0
  Stopped a b = Starts a.now.at → Midway a b

  -- the log is whole and stable under its hidden name
  pub record Whole (a b : Trail) : Type 0 where
    pub midway : Midway a b
    pub target : ℕ
    pub log : ℕ
    pub target_is : a.now.at.names Target ≡ Some target
    pub between : Between target (a.now.at.stored target) log (log_of salt pages) b.now.at
    pub log_is : b.now.at.names Oal ≡ Some log

  -- it is the write-ahead log whatever a crash leaves
  pub record Moved (a b : Trail) : Type 0 where
    pub midway : Midway a b
    pub target : ℕ
    pub log : ℕ
    pub logged : Logged target log (log_of salt pages) b.now.at

  -- and the target is stable with the pages
  pub record Copied (a b : Trail) : Type 0 where
    pub midway : Midway a b
    pub target : ℕ
    pub log : ℕ
    pub between : Between target (stable pages) log (log_of salt pages) b.now.at

  -- the moments of each phase
  building-midway : (a b : Trail) → KeepsBuilding a b → Starts a.now.at → Midway a b
  building-midway a b keeps starts =
      let t = target-number a.now.at starts in
      Passes-weaken (Building t.0 (a.now.at.stored t.0)) (Every (IsImageMidway salt pages a.now.at)) a b
      (λ r b left image. inl (unlogged-before a.now.at starts t.0 t.1 left (building-image t.0 (a.now.at.stored t.0) r left b image)))
      (keeps t.0 (a.now.at.stored t.0) (Starts-building a.now.at starts t.0 t.1))

  old-or-logged : (a : Trail) → Starts a.now.at → (target log : ℕ) → a.now.at.names Target ≡ Some target →
      (r : Record) → Between target (a.now.at.stored target) log (log_of salt pages) r → Every (IsImageMidway salt pages a.now.at) r
  old-or-logged a starts target log is r between left image = at (between-image target (a.now.at.stored target) log (log_of salt pages) r left between image)
    where
      at : IsUnlogged (a.now.at.stored target) left ⊎ (left Wal ≡ Some (log_of salt pages)) → IsImageMidway salt pages a.now.at left
      at (inl old) = inl (unlogged-before a.now.at starts target is left old)
      at (inr there) = inr (inl there)

  new-or-logged : (a : Trail) → (target log : ℕ) (r : Record) → Between target (stable pages) log (log_of salt pages) r → Every (IsImageMidway salt pages a.now.at) r
  new-or-logged a target log r between left image = at (between-image target (stable pages) log (log_of salt pages) r left between image)
    where
      at : IsUnlogged (stable pages) left ⊎ (left Wal ≡ Some (log_of salt pages)) → IsImageMidway salt pages a.now.at left
      at (inl new) = inr (inr (new.target ∙ ap Some (stable-only pages new.bytes new.may), new.no_log))
      at (inr there) = inr (inl there)

  -- the log is written
  pub stopped-log : {x y : Option Trail} → Leads KeepsBuilding x y → Leads Stopped x y
  stopped-log keeps = Leads-weaken keeps building-midway

  pub log-whole : {x y : Option Trail} → Leads KeepsBuilding x y → Leads (λ a b. shown_files a.now.at Oal ≡ None → HasStable Oal (log_of salt pages) b.now.at) x y →
      Leads (λ a b. Starts a.now.at → Whole a b) x y
  log-whole keeps stands = Leads-weaken (Leads-both keeps stands) (λ a b both starts.
      let t = target-number a.now.at starts in
      let whole = both.1 starts.alone.no_oal in
      let begun = Starts-building a.now.at starts t.0 t.1 in
      let now = Passes-now (Building t.0 (a.now.at.stored t.0)) a b begun (both.0 t.0 (a.now.at.stored t.0) begun) in
      record {
        midway = building-midway a b both.0 starts;
        target = t.0;
        log = whole.0;
        target_is = t.1;
        between = building-whole t.0 (a.now.at.stored t.0) b.now.at (log_of salt pages) now whole;
        log_is = whole.1;
      })

  -- it takes its name
  moving-midway : (a b c : Trail) → Starts a.now.at → Whole a b → MovesLog b c → Midway a c
  moving-midway a b c starts whole moves =
      Passes-then (Every (IsImageMidway salt pages a.now.at)) a b c whole.midway
      (Passes-weaken (Between whole.target (a.now.at.stored whole.target) whole.log (log_of salt pages)) (Every (IsImageMidway salt pages a.now.at)) b c
      (old-or-logged a starts whole.target whole.log whole.target_is)
      (moves whole.target (a.now.at.stored whole.target) whole.log (log_of salt pages) whole.between whole.log_is))

  pub stopped-move : {x y z : Option Trail} → Leads (λ a b. Starts a.now.at → Whole a b) x y → Leads MovesLog y z → Leads Stopped x z
  stopped-move wrote moves = Leads-then wrote moves (λ a b c whole m starts. moving-midway a b c starts (whole starts) m)

  pub log-moved : {x y z : Option Trail} → Leads (λ a b. Starts a.now.at → Whole a b) x y → Leads MovesLog y z → Leads HasMovedLog y z → Leads (λ a c. Starts a.now.at → Moved a c) x z
  log-moved wrote moves moved = Leads-then wrote (Leads-both moves moved) (λ a b c whole both starts.
      let w = whole starts in
      record {
        midway = moving-midway a b c starts w both.0;
        target = w.target;
        log = w.log;
        logged = both.1 w.target (a.now.at.stored w.target) w.log (log_of salt pages) w.between w.log_is;
      })

  -- the pages are copied
  copying-midway : (a b c : Trail) → Moved a b → KeepsLogged b c → Midway a c
  copying-midway a b c moved keeps =
      Passes-then (Every (IsImageMidway salt pages a.now.at)) a b c moved.midway
      (Passes-weaken (Logged moved.target moved.log (log_of salt pages)) (Every (IsImageMidway salt pages a.now.at)) b c
      (λ r l left image. inr (inl (logged-image moved.target moved.log (log_of salt pages) r left l image)))
      (keeps moved.target moved.log (log_of salt pages) moved.logged))

  pub stopped-copy : {x y z : Option Trail} → Leads (λ a c. Starts a.now.at → Moved a c) x y → Leads KeepsLogged y z → Leads Stopped x z
  stopped-copy moved keeps = Leads-then moved keeps (λ a b c m k starts. copying-midway a b c (m starts) k)

  pub pages-copied : {x y z : Option Trail} → Leads (λ a b. Starts a.now.at → Moved a b) x y → Leads KeepsLogged y z →
      Leads (λ a c. IsAlone (shown_files a.now.at) → HasStable Target pages c.now.at) x z → Leads (λ a c. Starts a.now.at → Copied a c) x z
  pages-copied moved keeps stands =
      Leads-weaken (Leads-both (Leads-then {Q = λ a c. Starts a.now.at → Moved a c} moved keeps copied) stands)
      (λ a c both starts.
      let there = both.0 starts in
      record {
        midway = there.midway;
        target = there.target;
        log = there.log;
        between = logged-copied there.target there.log (log_of salt pages) c.now.at pages there.logged (both.1 starts.alone);
      })
    where
      copied : (a b c : Trail) → (Starts a.now.at → Moved a b) → KeepsLogged b c → Starts a.now.at → Moved a c
      copied a b c m k starts =
          let there = m starts in
          record {
            midway = copying-midway a b c there k;
            target = there.target;
            log = there.log;
            logged = Passes-now (Logged there.target there.log (log_of salt pages)) b c there.logged (k there.target there.log (log_of salt pages) there.logged);
          }

  -- the log goes
  pub stopped-drop : {x y z : Option Trail} → Leads (λ a b. Starts a.now.at → Copied a b) x y → Leads KeepsBetween y z → Leads Stopped x z
  stopped-drop copied keeps = Leads-then copied keeps (λ a b c there k starts.
      let at = there starts in
      Passes-then (Every (IsImageMidway salt pages a.now.at)) a b c at.midway
      (Passes-weaken (Between at.target (stable pages) at.log (log_of salt pages)) (Every (IsImageMidway salt pages a.now.at)) b c
      (new-or-logged a at.target at.log)
      (k at.target (stable pages) at.log (log_of salt pages) at.between)))

  -- the target is stable once it has the pages, and so it stays until the names are
  pub copied-stable : {x y z : Option Trail} →
      Leads (λ a b. IsAlone (shown_files a.now.at) → shown_files b.now.at ≡ with_file (shown_files a.now.at) Wal (Some (log_of salt pages))) x y →
      Leads (λ a b. length (content (shown_files a.now.at) Target) ≡ 8192 → HasStable Target pages b.now.at) y z →
      Leads (λ a c. IsAlone (shown_files a.now.at) → HasStable Target pages c.now.at) x z
  copied-stable moved copy = Leads-then moved copy (λ a b c is stands alone.
      stands (ap (λ (files : Files). length (content files Target)) (is alone) ∙ alone.two_pages_long))

  pub target-settled : {x y z : Option Trail} → Leads (λ a b. IsAlone (shown_files a.now.at) → HasStable Target pages b.now.at) x y →
      Leads (λ a b. (bytes : List ℕ) → HasStable Target bytes a.now.at → HasShownFile Target b.now.at) y z →
      Leads (λ a c. IsAlone (shown_files a.now.at) → HasShownFile Target c.now.at) x z
  target-settled stands settles = Leads-then stands settles (λ a b c s shows alone. shows pages (s alone))

  -- every record of a disk is sound
  pub stopped-midway : {x y : Option Trail} → IfSome x (λ t. IsSound t.now.at) → Leads Stopped x y → Leads (CrashesMidway salt pages) x y
  stopped-midway sound stopped = Leads-known sound (Leads-weaken stopped (λ a b s is firm alone. s (record { firm = firm; alone = alone; sound = is })))
