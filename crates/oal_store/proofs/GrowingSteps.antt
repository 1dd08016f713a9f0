-- A write behind the hidden log keeps it in every image, and so does a sync.
use Rattle.std.proofs.Common.{◌≡◌, ℕ, ◌≤◌, List, ◌++◌, length, take, drop, slice_index, Some, refl, sym, ap, ◌∙◌, subst, inl, inr, arith}
use Rattle.std.proofs.lemmas.Bool.{cases_lt}
use Rattle.std.proofs.lemmas.List.{places, length-take-le, get_or-take, get_or_append_left, take_at}
use Rattle.file_spec.specs.declared.FileName.TheVariants.{Oal}
use Rattle.file_spec.specs.Files.{content, with_file}
use Rattle.file_spec.specs.Records.{Stored, MayHold, stable, Names, Record, Every, IsSound, IsStill, shown_files}
use Rattle.file_spec.specs.RecordsLaws.{stable-only, shown-image, stored-here, stored-other, others-stay, more-images}
use Rattle.file_spec.specs.Steps.{write_pending, Written, Torn, with_stored, ChangesAt, Changes, synced_at}
use Rattle.file_spec.specs.StepsLaws.{sound-changes, sound-written, sound-torn, sound-synced}
use Rattle.oal_store.specs.Growing.{BeginsWith, IsGrowing}

-- every way in which a crash may leave a file begins with these bytes
abbrev Begins : List ℕ → Stored → Type 0
Begins front s = (bytes : List ℕ) → MayHold s bytes → BeginsWith front bytes

-- bytes that begin with others are no shorter
begins-long : (front bytes : List ℕ) → BeginsWith front bytes → length front ≤ length bytes
begins-long front bytes begins = grind (arith, places, ap length begins)

-- a file that begins so in every way has that length in every way
least-long : (front : List ℕ) (s : Stored) → MayHold s s.shown → Begins front s → length front ≤ s.least
least-long front s may begins =
    let enough : s.least ≤ length s.shown = may.no_shorter in
    let long : length (take s.least s.shown) ≡ s.least = length-take-le s.least s.shown enough in
    let least : MayHold s (take s.least s.shown) = record {
      no_shorter = omega (arith, long);
      no_longer = omega (arith, long, may.no_longer, enough);
      rest = λ i synced inside untouched.
          get_or-take s.least s.shown i 0 (omega (arith, inside, long)) ∙ may.rest i synced (omega (arith, inside, long, enough)) untouched;
    } in
    omega (arith, begins-long front (take s.least s.shown) (begins (take s.least s.shown) least), long)

-- and so begins every way in which it may be left while a write behind these bytes is pending
begins-pending : (front : List ℕ) (at n : ℕ) (s : Stored) (shown bytes : List ℕ) → length front ≤ at → MayHold s s.shown → Begins front s
    → MayHold (write_pending at n shown s) bytes → BeginsWith front bytes
begins-pending front at n s shown bytes behind may begins left =
    let size = length front in
    let in_shown : size ≤ length s.shown = begins-long front s.shown (begins s.shown may) in
    let least : size ≤ s.least = least-long front s may begins in
    let long : size ≤ length bytes = omega (arith, least, behind, left.no_shorter) in
    let head : length (take size bytes) ≡ size = length-take-le size bytes long in
    let mixed : List ℕ = take size bytes ++ drop size s.shown in
    let whole : length mixed ≡ length s.shown = grind (arith, places, in_shown, head) in
    let held : MayHold s mixed = record {
      no_shorter = omega (arith, whole, may.no_shorter);
      no_longer = omega (arith, whole, may.no_longer);
      rest = λ i synced inside untouched. elim (cases_lt i size) [
        | inl low ↦
            get_or_append_left (take size bytes) (drop size s.shown) 0 i (omega (arith, low, head)) ∙ get_or-take size bytes i 0 low
            ∙ left.rest i synced (omega (arith, low, long)) (inl (omega (arith, low, behind, in_shown)), untouched)
        | inr high ↦
            let same : slice_index mixed i ≡ slice_index s.shown i = grind (arith, places, high, inside, whole, head, in_shown) in
            same ∙ may.rest i synced (omega (arith, inside, whole)) untouched
      ];
    } in
    sym (take_at (take size bytes) (drop size s.shown) size head) ∙ begins mixed held

-- a call on the log that keeps what it begins with
growing-changes : (R : Stored → Stored → Type 0) (start : Record) (id : ℕ) (front : List ℕ) (r q : Record) → ((s t : Stored) → MayHold s s.shown → R s t → MayHold t t.shown)
    → ((s t : Stored) → MayHold s s.shown → Begins front s → R s t → Begins front t) → IsGrowing start id front r → Changes R Oal r q → IsGrowing start id front q
growing-changes R start id front r q shows keeps growing changes = after
  where
    named : r.names Oal ≡ Some id
    named = ap (λ (n : Names). n Oal) growing.names ∙ growing.log start.names (inl refl)

    changed : ChangesAt R Oal (Some id) r q
    changed = subst (λ number. ChangesAt R Oal number r q) named changes

    made : q ≡ with_stored r id changed.0
    made = changed.2

    here : q.stored id ≡ changed.0
    here = ap (λ (p : Record). p.stored id) made ∙ stored-here r id changed.0

    after : IsGrowing start id front q
    after = record {
      names = ap (λ (p : Record). p.names) made ∙ growing.names;
      older = ap (λ (p : Record). p.older) made ∙ growing.older;
      log = growing.log;
      others = λ other apart. ap (λ (p : Record). p.stored other) made ∙ stored-other r id other changed.0 apart ∙ growing.others other apart;
      begins = subst (Begins front) (sym here) (keeps (r.stored id) changed.0 (growing.sound.shows id) growing.begins changed.1);
      sound = sound-changes R Oal r q shows growing.sound changes;
    }

pub growing-written : (at : ℕ) (bytes : List ℕ) (start : Record) (id : ℕ) (front : List ℕ) (r q : Record) → length front ≤ at
    → IsGrowing start id front r → Changes (Written at bytes) Oal r q → IsGrowing start id front q
growing-written at bytes start id front r q behind =
    growing-changes (Written at bytes) start id front r q (sound-written at bytes)
    (λ s t may begins e left held. begins-pending front at (length bytes) s t.shown left behind may begins (subst (λ (u : Stored). MayHold u left) (e ∙ ap (λ (x : List ℕ). write_pending at (length bytes) x s) (sym (ap (λ (u : Stored). u.shown) e))) held))

pub growing-torn : (at n : ℕ) (start : Record) (id : ℕ) (front : List ℕ) (r q : Record) → length front ≤ at
    → IsGrowing start id front r → Changes (Torn at n) Oal r q → IsGrowing start id front q
growing-torn at n start id front r q behind =
    growing-changes (Torn at n) start id front r q (sound-torn at n)
    (λ s t may begins torn left held. begins-pending front at n s torn.0 left behind may begins (subst (λ (u : Stored). MayHold u left) torn.2 held))

pub growing-synced : (start : Record) (id : ℕ) (front : List ℕ) (r : Record) → IsGrowing start id front r → IsGrowing start id front (synced_at r (r.names Oal))
growing-synced start id front r growing = subst (λ number. IsGrowing start id front (synced_at r number)) (sym named) synced
  where
    named : r.names Oal ≡ Some id
    named = ap (λ (n : Names). n Oal) growing.names ∙ growing.log start.names (inl refl)

    bytes : List ℕ
    bytes = (r.stored id).shown

    synced : IsGrowing start id front (synced_at r (Some id))
    synced = record {
      names = growing.names;
      older = growing.older;
      log = growing.log;
      others = λ other apart. stored-other r id other (stable bytes) apart ∙ growing.others other apart;
      begins = λ left held.
          subst (BeginsWith front) (sym (stable-only bytes left (subst (λ (s : Stored). MayHold s left) (stored-here r id (stable bytes)) held))) (growing.begins bytes (growing.sound.shows id));
      sound = sound-synced r (Some id) growing.sound;
    }

-- at the start: where every image has the log
pub growing-start : (r : Record) (still : IsStill Oal r) (front : List ℕ) → IsSound r → Every (λ left. BeginsWith front (content left Oal)) r → IsGrowing r still.id front r
growing-start r still front sound every = record {
  names = refl;
  older = refl;
  log = still.is;
  others = λ other apart. refl;
  begins = λ bytes may.
      every (with_file (shown_files r) Oal (Some bytes))
      (others-stay r Oal still (r.stored still.id) bytes may (shown_files r)
      (more-images r still.id (r.stored still.id) (λ b m. m) (shown_files r) (shown-image r sound)));
  sound = sound;
}
