-- What a write behind the log leaves of its bytes and of the moments.
use Rattle.std.proofs.Common.{◌≡◌, ℕ, ◌+◌, ◌≤◌, Bool, List, [], ◌∷◌, ◌++◌, length, take, drop, Option, Result, sym, ap, ◌∙◌, subst, arith, append_assoc, append-nil, length-append}
use Rattle.std.proofs.lemmas.List.{take_at}
use Rattle.common_spec.specs.Told.{Leads}
use Rattle.common_spec.specs.ToldLaws.{Leads-here, Leads-then}
use Rattle.byte_fields.specs.BytesLaws.{resized-short}
use Rattle.file_spec.specs.declared.FileName.TheVariants.{Oal}
use Rattle.file_spec.specs.declared.DiskCall.TheVariants as call
use Rattle.file_spec.specs.Files.{Files, content, after_write}
use Rattle.file_spec.specs.Records.{Record}
use Rattle.file_spec.specs.Trails.{Trail}
use Rattle.file_spec.specs.TrailsLaws.{Passes-none, Passes-kept}
use Rattle.file_spec.specs.Steps.{Changes, Written, Torn, AfterWrite, AfterFailedWrite, AfterSync, AfterFailedSync, synced_at}
use Rattle.format_spec.specs.Log.{Frame, frame_sums, frame_bytes, frames_bytes}
use Rattle.rbu_disk.specs.Call.{LeadsBy}
use Rattle.rbu_disk.specs.DiskLaws.{led-by, adds-keep, fails-keep, still-keep}
use Rattle.oal_store.specs.Appending.{Appends}
use Rattle.oal_store.specs.Growing.{IsGrowing, KeepsGrowing}
use Rattle.oal_store.proofs.GrowingSteps.{growing-written, growing-torn, growing-synced}

-- nothing is appended
pub appends-none : (at : ℕ) (f : Files) → Appends at [] f f
appends-none at f front rest is long = (rest, is ∙ ap (λ (x : List ℕ). x ++ rest) (sym (append-nil front)))

-- a write at the place where the log ends
pub appends-written : (at : ℕ) (bytes : List ℕ) (f g : Files) → g ≡ after_write f Oal at bytes → Appends at bytes f g
appends-written at bytes f g written front rest is long =
    let old : List ℕ = content f Oal in
    let kept : take at old ≡ front = ap (take at) is ∙ take_at front rest at long in
    let enough : at ≤ length old = omega (arith, ap length is, length-append front rest, long) in
    let now : content g Oal ≡ (front ++ bytes) ++ drop (at + length bytes) old =
    ap (λ (h : Files). content h Oal) written ∙ ap (λ (x : List ℕ). (x ++ bytes) ++ drop (at + length bytes) old) (resized-short old at enough ∙ kept) in
    (drop (at + length bytes) old, now)

-- one part behind another
pub appends-then : (at : ℕ) (a b : List ℕ) (f g h : Files) → Appends at a f g → Appends (at + length a) b g h → Appends at (a ++ b) f h
appends-then at a b f g h first second front rest is long =
    let one = first front rest is long in
    let two = second (front ++ a) one.0 one.1 (omega (arith, length-append front a, long)) in
    (two.0, two.1 ∙ ap (λ (x : List ℕ). x ++ two.0) (append_assoc front a b))

-- one frame, and the frames that are left
pub appended-more : (size at next : ℕ) (all : List ℕ) (big : Bool) (salt sums after : ℕ × ℕ) (frame : Frame) (frames : List Frame) {x y z : Option Files}
    → Leads (λ f h. (k : Files) → Appends at (frames_bytes big salt sums (frame ∷ frames)) h k → Appends size all f k) x y → Leads (Appends at (frame_bytes big salt sums frame)) y z
    → after ≡ frame_sums big sums frame.number frame.commit frame.page → next ≡ at + length (frame_bytes big salt sums frame)
    → Leads (λ f h. (k : Files) → Appends next (frames_bytes big salt after frames) h k → Appends size all f k) x z
appended-more size at next all big salt sums after frame frames first second summed placed =
    let behind : ℕ × ℕ = frame_sums big sums frame.number frame.commit frame.page in
    Leads-then first second (λ f h k whole one l rest.
    whole l (appends-then at (frame_bytes big salt sums frame) (frames_bytes big salt behind frames) h k l one
    (subst (λ (n : ℕ). Appends n (frames_bytes big salt behind frames) k l) placed (subst (λ (s : ℕ × ℕ). Appends next (frames_bytes big salt s frames) k l) summed rest))))

-- the moments that come while the log is written
pub growing-none : {x : Option Trail} (size : ℕ) → Leads (KeepsGrowing size) x x
growing-none size = Leads-here (λ a start id front behind here. Passes-none (IsGrowing start id front) a)

pub growing-then : {x y z : Option Trail} (size more : ℕ) → size ≤ more → Leads (KeepsGrowing size) x y → Leads (KeepsGrowing more) y z → Leads (KeepsGrowing size) x z
growing-then size more longer first second =
    Leads-then first second (λ a b c p q start id front behind here.
    Passes-kept (IsGrowing start id front) a b c (p start id front behind) (q start id front (omega (arith, behind, longer))) here)

pub growing-write : {E : Type 0} {x y : Option Trail} (result : Result Unit E) (at : ℕ) (bytes : List ℕ) → LeadsBy result (AfterWrite Oal at bytes) (AfterFailedWrite Oal at (length bytes)) x y
    → Leads (KeepsGrowing at) x y
growing-write {x = x} {y = y} result at bytes led =
    led-by x y result (AfterWrite Oal at bytes) (AfterFailedWrite Oal at (length bytes)) (KeepsGrowing at) led
    (λ a b done start id front behind here.
    adds-keep Oal call.Write (Changes (Written at bytes) Oal) (IsGrowing start id front) (λ r q is step. growing-written at bytes start id front r q behind is step) a b done here)
    (λ a b failed start id front behind here.
    fails-keep Oal call.Write (Changes (Torn at (length bytes)) Oal) (IsGrowing start id front) (λ r q is step. growing-torn at (length bytes) start id front r q behind is step) a b failed here)

pub growing-sync : {E : Type 0} {x y : Option Trail} (result : Result Unit E) (size : ℕ) → LeadsBy result (AfterSync Oal) (AfterFailedSync Oal) x y → Leads (KeepsGrowing size) x y
growing-sync {x = x} {y = y} result size led =
    led-by x y result (AfterSync Oal) (AfterFailedSync Oal) (KeepsGrowing size) led
    (λ a b done start id front behind here.
    adds-keep Oal call.Sync (λ (r after : Record). after ≡ synced_at r (r.names Oal)) (IsGrowing start id front)
    (λ r q is step. subst (IsGrowing start id front) (sym step) (growing-synced start id front r is)) a b done here)
    (λ a b failed start id front behind here. still-keep Oal call.Sync (IsGrowing start id front) a b failed here)
