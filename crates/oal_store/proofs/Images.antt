-- What a crash leaves while the hidden log grows, and after a commit.
use Rattle.std.proofs.Common.{◌≡◌, ℕ, true, false, List, [], ◌∷◌, ◌++◌, drop, Option, Some, None, unwrap_or, option_map, IfSome, refl, sym, ap, ap₂, ◌∙◌, subst, inl, arith}
use Rattle.common_spec.specs.Told.{Leads}
use Rattle.common_spec.specs.ToldLaws.{Leads-weaken, Leads-known, Leads-both}
use Rattle.file_spec.specs.declared.FileName.{FileName}
use Rattle.file_spec.specs.declared.FileName.TheVariants.{Target, Oal, Wal, Journal, Rbu, State, StateTemp}
use Rattle.file_spec.specs.declared.DiskCall.TheVariants as call
use Rattle.file_spec.specs.Files.{Files, content, is_name, with_file}
use Rattle.file_spec.specs.FilesLaws.{with_file-again, with_file-same}
use Rattle.file_spec.specs.Records.{Stored, MayHold, stable, Names, Record, IsAmong, MayName, HoldsAt, HoldsAll, IsImage, Every, IsSound, IsStill, shown_files}
use Rattle.file_spec.specs.RecordsLaws.{HoldsAt-weaken, shown-image, stable-only, stored-here}
use Rattle.file_spec.specs.Trails.{Trail}
use Rattle.file_spec.specs.TrailsLaws.{Passes-weaken, Passes-now}
use Rattle.file_spec.specs.Steps.{AfterSync, synced_at}
use Rattle.format_spec.specs.Log.{Frame, IsOverlay}
use Rattle.format_spec.specs.PageMap.{pages_of}
use Rattle.rbu_disk.specs.DiskLaws.{Adds-now}
use Rattle.std.specs.BTreeMap.{get}
use Rattle.std.specs.Ordering.{nat_cmp}
use Rattle.byte_fields.specs.Bytes.{resized}
use Rattle.byte_fields.specs.Numbers.{page_at}
use Rattle.oal_store.specs.declared.log.OalLog.{OalLog}
use Rattle.oal_store.specs.declared.store.OalStore.{OalStore}
use Rattle.oal_store.specs.Growing.{BeginsWith, IsGrowing, KeepsGrowing, HasStableLog}
use Rattle.oal_store.specs.OalLog.{page_by_place}
use Rattle.oal_store.specs.Stored.{KeepsLog, changed_page, stored_map, IsCommitted, LeavesLog, CrashesCommitting, CommitsInImages}
use Rattle.oal_store.proofs.GrowingSteps.{growing-start}

-- names that a crash may leave now it could leave at the start
growing-may : (start : Record) (id : ℕ) (front : List ℕ) (r : Record) → IsGrowing start id front r → (names : Names) → MayName r names → MayName start names
growing-may start id front r growing names may = subst (IsAmong names) (ap₂ (λ (n : Names) (ns : List Names). n ∷ ns) growing.names growing.older) may

-- an image has the log, and else the files of one at the start
pub growing-image : (start : Record) (id : ℕ) (front : List ℕ) (r : Record) → IsSound start → IsGrowing start id front r → (left : Files) → IsImage r left → LeavesLog start front left
growing-image start id front r sound growing left image = record {
  begins = subst (BeginsWith front) (sym (ap (λ (file : Option (List ℕ)). unwrap_or file []) held.1)) (growing.begins held.0 held.2);
  old = with_file left Oal (Some (start.stored id).shown);
  image = (image.0, may, holds);
  only = (left Oal, sym (with_file-again left Oal (Some (start.stored id).shown) (left Oal) ∙ with_file-same left Oal (left Oal) refl));
}
  where
    may : MayName start image.0
    may = growing-may start id front r growing image.0 image.1

    is : image.0 Oal ≡ Some id
    is = growing.log image.0 may

    held : HoldsAt r.stored (Some id) (left Oal)
    held = subst (λ number. HoldsAt r.stored number (left Oal)) is (image.2 Oal)

    other : (name : FileName) → is_name Oal name ≡ false → HoldsAt start.stored (image.0 name) (left name)
    other name apart =
        HoldsAt-weaken r.stored start.stored (image.0 name) (left name)
        (λ i e bytes held. subst (λ (s : Stored). MayHold s bytes)
        (growing.others i (λ same. let lost : true ≡ false = ap (is_name Oal) (sound.apart image.0 may Oal name id is (e ∙ ap Some (sym same))) ∙ apart in absurd (cc))) held)
        (image.2 name)

    holds : HoldsAll start.stored image.0 (with_file left Oal (Some (start.stored id).shown))
    holds Target = other Target refl
    holds Oal = subst (λ number. HoldsAt start.stored number (Some (start.stored id).shown)) (sym is) ((start.stored id).shown, refl, sound.shows id)
    holds Wal = other Wal refl
    holds Journal = other Journal refl
    holds Rbu = other Rbu refl
    holds State = other State refl
    holds StateTemp = other StateTemp refl

-- each moment that came leaves the log
pub growing-crashes : (store : OalStore) {x y : Option Trail} → IfSome x (λ t. IsSound t.now.at) → Leads (KeepsGrowing store.log.size) x y → Leads (CrashesCommitting store) x y
growing-crashes store sound kept =
    Leads-known sound (Leads-weaken kept (λ a b keeps sound still front long every.
    Passes-weaken (IsGrowing a.now.at still.id front) (Every (LeavesLog a.now.at front)) a b (λ r here left image. growing-image a.now.at still.id front r sound here left image)
    (keeps a.now.at still.id front long (growing-start a.now.at still front sound every))))

-- the moment now is one that came
now_growing : (size : ℕ) (a b : Trail) (still : IsStill Oal a.now.at) → IsSound a.now.at → KeepsGrowing size a b → IsGrowing a.now.at still.id [] b.now.at
now_growing size a b still sound keeps =
    let start : IsGrowing a.now.at still.id [] a.now.at = growing-start a.now.at still [] sound (λ left image. refl) in
    Passes-now (IsGrowing a.now.at still.id []) a b start (keeps a.now.at still.id [] (omega arith) start)

-- no change of the log's name is pending then either
still_now : (start : Record) (still : IsStill Oal start) (r : Record) → IsGrowing start still.id [] r → IsStill Oal r
still_now start still r growing = record {
  id = still.id;
  is = λ names may. still.is names (growing-may start still.id [] r growing names may);
  alone = λ names may other e. still.alone names (growing-may start still.id [] r growing names may) other e;
}

pub growing-still : (size : ℕ) {x y : Option Trail} → IfSome x (λ t. IsSound t.now.at) → Leads (KeepsGrowing size) x y → Leads (λ a b. IsStill Oal a.now.at → IsStill Oal b.now.at) x y
growing-still size sound kept =
    Leads-known sound (Leads-weaken kept (λ a b keeps sound still. still_now a.now.at still b.now.at (now_growing size a b still sound keeps)))

-- a sync makes the log stable
pub stable-log : (b c : Trail) → AfterSync Oal b c → HasStableLog c.now.at
stable-log b c synced = subst HasStableLog (sym (Adds-now Oal call.Sync (λ (r after : Record). after ≡ synced_at r (r.names Oal)) b c synced)) (at (b.now.at.names Oal) refl)
  where
    r : Record
    r = b.now.at

    at : (number : Option ℕ) → r.names Oal ≡ number → HasStableLog (synced_at r number)
    at None none id e = let lost : None ≡ Some id = sym none ∙ e in absurd (cc)
    at (Some i) is id e =
        let same : Some i ≡ Some id = sym is ∙ e in
        let one : i ≡ id = cc in
        let here : (synced_at r (Some i)).stored i ≡ stable (r.stored i).shown = stored-here r i (stable (r.stored i).shown) in
        subst (λ (k : ℕ). (synced_at r (Some i)).stored k ≡ stable ((synced_at r (Some i)).stored k).shown) one (here ∙ ap (λ (s : Stored). stable s.shown) (sym here))

-- a page by its place is one of the hidden log and the target alone
same_place : (log : OalLog) (g left : Files) (n : ℕ) → content left Oal ≡ content g Oal → content left Target ≡ content g Target → (place : Option ℕ) → page_by_place log left n place ≡ page_by_place log g n place
same_place log g left n oal target None = ap (page_at log.page_size n) target
same_place log g left n oal target (Some place) = ap (λ (b : List ℕ). resized (drop place b) log.page_size) oal

-- and so is what was committed
committed_same : (old new : OalStore) (frames : List Frame) (f g left : Files) → content left Oal ≡ content g Oal → content left Target ≡ content g Target → IsCommitted old new frames f g → IsCommitted old new frames f left
committed_same old new frames f g left log target is = record {
  more = is.more;
  keeps = record { front = is.keeps.front; rest = is.keeps.rest; has = is.keeps.has; whole = log ∙ is.keeps.whole };
  pages = subst (λ (t : List ℕ). IsOverlay (pages_of new.log.page_size new.log.target_pages t) (frames ++ is.more) (stored_map old f)) (sym target) is.pages;
  stay = record {
    size = is.stay.size;
    count = is.stay.count;
    each = λ n low high. ap (unwrap_or (changed_page new n)) (same_place new.log g left n log target (get nat_cmp new.log.places n)) ∙ is.stay.each n low high;
  };
  within = is.within;
  within_last = is.within_last;
}

abbrev bytes_of : Option (List ℕ) → List ℕ
bytes_of file = unwrap_or file []

-- after a commit every image has what was committed
pub committed-images : (old new : OalStore) (size : ℕ) {x y : Option Trail} → IfSome x (λ t. IsSound t.now.at) → Leads (KeepsGrowing size) x y → Leads (λ a b. HasStableLog b.now.at) x y
    → Leads (λ a b. (frames : List Frame) → KeepsLog old frames (shown_files a.now.at) → IsCommitted old new frames (shown_files a.now.at) (shown_files b.now.at)) x y
    → Leads (CommitsInImages old new) x y
committed-images old new size sound kept synced done =
    Leads-known sound (Leads-weaken (Leads-both kept (Leads-both synced done)) (λ a b all sound still target frames keeps left image.
    let r = b.now.at in
    let growing : IsGrowing a.now.at still.id [] r = now_growing size a b still sound all.0 in
    let kept_target : (files : Files) → IsImage r files → files Target ≡ shown_files a.now.at Target = λ files is.
    let leaves = growing-image a.now.at still.id [] r sound growing files is in
    ap (λ (f : Files). f Target) leaves.only.1 ∙ target leaves.old leaves.image in
    let shown_target : shown_files r Target ≡ shown_files a.now.at Target = kept_target (shown_files r) (shown-image r growing.sound) in
    let named : r.names Oal ≡ Some still.id = growing.log r.names (growing-may a.now.at still.id [] r growing r.names (inl refl)) in
    let whole : r.stored still.id ≡ stable (r.stored still.id).shown = all.1.0 still.id named in
    let held : HoldsAt r.stored (Some still.id) (left Oal) =
    subst (λ number. HoldsAt r.stored number (left Oal)) (growing.log image.0 (growing-may a.now.at still.id [] r growing image.0 image.1)) (image.2 Oal) in
    let log : left Oal ≡ shown_files r Oal =
    held.1 ∙ ap Some (stable-only (r.stored still.id).shown held.0 (subst (λ (s : Stored). MayHold s held.0) whole held.2)) ∙ sym (ap (option_map (λ i. (r.stored i).shown)) named) in
    committed_same old new frames (shown_files a.now.at) (shown_files r) left (ap bytes_of log) (ap bytes_of (kept_target left image ∙ sym shown_target)) (all.1.1 frames keeps)))
