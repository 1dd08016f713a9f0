-- What the calls leave of what is shown and of the images: crates above cite these facts in their proofs.
use Rattle.std.proofs.Common.{◌≡◌, ◌≢◌, ℕ, ◌==◌, ◌+◌, ◌<◌, ◌≤◌, min, max, Bool, true, false, if◌then◌else◌, List, [], length, Option, Some, None, option_map, inl, inr, ◌⊎◌, refl, sym, ap, ◌∙◌, subst, arith}
use Rattle.std.proofs.lemmas.Bool.{cases_Bool}
use Rattle.std.proofs.lemmas.List.{places}
use Rattle.common_spec.specs.Maps.{set_at}
use Rattle.common_spec.specs.MapsLaws.{IsEquality-numbers, set_at-other}
use Rattle.byte_fields.specs.Bytes.{resized, overwritten}
use Rattle.file_spec.specs.declared.FileName.{FileName}
use Rattle.file_spec.specs.Files.{Files, is_name}
use Rattle.file_spec.specs.FilesLaws.{IsEquality-names, is_name-same}
use Rattle.file_spec.specs.Faults.{IsTorn, IsCut}
use Rattle.file_spec.specs.Records.{Range, Untouched, Stored, MayHold, stable, Names, Record, MayName, HoldsAt, IsImage, shown_files, IsApart, IsSound, IsStill}
use Rattle.file_spec.specs.RecordsLaws.{stable-itself, stable-only, HoldsAt-weaken, stored-here, stored-other, fewer-images, more-images}
use Rattle.file_spec.specs.Steps.{pending, write_pending, length_pending, Written, Torn, LengthSet, Cut, with_stored, with_names, with_new, ChangesAt, Changes, synced_at, removed_at, renamed_at, folder_synced}

-- what a crash may leave before a change it may leave while that is pending
pub pending-keeps : (s : Stored) (range : Range) (n : ℕ) (shown bytes : List ℕ) → MayHold s bytes → MayHold (pending s range n shown) bytes
pending-keeps s range n shown bytes may = record {
  no_shorter = omega (arith, may.no_shorter);
  no_longer = omega (arith, may.no_longer);
  rest = λ i synced inside untouched. may.rest i synced inside untouched.1;
}

-- any bytes in the range of a write, and any length between, whether it ended well or failed
pub torn-may : (at n : ℕ) (s : Stored) (shown bytes : List ℕ) → MayHold s s.shown → IsTorn at n s.shown bytes → MayHold (write_pending at n shown s) bytes
torn-may at n s shown bytes may torn = record {
  no_shorter = omega (arith, may.no_shorter, torn.no_shorter);
  no_longer = omega (arith, torn.no_longer);
  rest = λ i synced inside untouched. elim untouched.0 [
    | inl before ↦ torn.before i (omega (arith, before)) ∙ may.rest i synced (omega (arith, before)) untouched.1
    | inr behind ↦ torn.behind i behind ∙ may.rest i synced (omega (arith, behind, inside, torn.no_longer)) untouched.1
  ];
}

-- and so for a change of length
pub cut-may : (n : ℕ) (s : Stored) (shown bytes : List ℕ) → MayHold s s.shown → IsCut n s.shown bytes → MayHold (length_pending n shown s) bytes
cut-may n s shown bytes may cut = record {
  no_shorter = omega (arith, may.no_shorter, cut.no_shorter);
  no_longer = omega (arith, may.no_longer, cut.no_longer);
  rest = λ i synced inside untouched. elim untouched.0 [
    | inl before ↦ cut.before i before ∙ may.rest i synced (omega (arith, before)) untouched.1
    | inr behind ↦ absurd (omega (arith, behind, inside, cut.no_longer))
  ];
}

-- a write that ended well is one of these, with all its bytes
pub overwritten-torn : (at : ℕ) (old bytes : List ℕ) → IsTorn at (length bytes) old (overwritten old at bytes)
overwritten-torn at old bytes = record {
  no_shorter = grind (arith, places);
  no_longer = grind (arith, places);
  before = λ i h. grind (arith, places);
  behind = λ i h. grind (arith, places);
}

pub resized-cut : (n : ℕ) (old : List ℕ) → IsCut n old (resized old n)
resized-cut n old = record {
  no_shorter = grind (arith, places);
  no_longer = grind (arith, places);
  before = λ i h. grind (arith, places);
}

-- what was cut and has grown again is pending: a crash may leave any bytes there
pub cut_and_grown : (s : Stored) (n m : ℕ) (bytes : List ℕ) (i : ℕ) → n ≤ i → i < m → ¬ (Untouched (length_pending m bytes (length_pending n (resized s.shown n) s)).ranges i)
cut_and_grown s n m bytes i from to untouched =
    let long : length (resized s.shown n) ≡ n = grind (arith, places) in
    elim untouched.0 [ inl before ↦ omega (arith, before, long, from) | inr behind ↦ omega (arith, behind, long, to, from) ]

-- one file's record changes, and what it shows is one that a crash may leave
pub sound-stored : (r : Record) (id : ℕ) (s : Stored) → IsSound r → MayHold s s.shown → IsSound (with_stored r id s)
sound-stored r id s sound may = record { shows = shows; apart = sound.apart }
  where
    shows : (i : ℕ) → MayHold ((with_stored r id s).stored i) ((with_stored r id s).stored i).shown
    shows i = elim (cases_Bool (id == i)) [
      | inl same ↦ subst (λ j. MayHold ((with_stored r id s).stored j) ((with_stored r id s).stored j).shown) (IsEquality-numbers.same id i same)
          (subst (λ (t : Stored). MayHold t t.shown) (sym (stored-here r id s)) may)
      | inr apart ↦ subst (λ (t : Stored). MayHold t t.shown) (sym (set_at-other (λ (x y : ℕ). x == y) r.stored id i s apart)) (sound.shows i)
    ]

-- the names change, and no two of them have one file
pub sound-named : (r : Record) (names : Names) → IsSound r → IsApart names → IsSound (with_names r names)
sound-named r names sound apart = record { shows = sound.shows; apart = each }
  where
    each : (n : Names) → MayName (with_names r names) n → IsApart n
    each n (inl e) = subst IsApart (sym e) apart
    each n (inr among) = sound.apart n among

pub sound-settled : (r : Record) → IsSound r → IsSound (folder_synced r)
sound-settled r sound = record { shows = sound.shows; apart = each }
  where
    each : (n : Names) → MayName (folder_synced r) n → IsApart n
    each n (inl e) = sound.apart n (inl e)
    each n (inr none) = absurd none

-- what stands under a name after a change under one
given_at : (names : Names) (name : FileName) (number : Option ℕ) (other : FileName) (i : ℕ) → set_at is_name names name number other ≡ Some i
    → ((name ≡ other) × (number ≡ Some i)) ⊎ ((is_name name other ≡ false) × (names other ≡ Some i))
given_at names name number other i e = elim (cases_Bool (is_name name other)) [
  | inl same ↦ inl (is_name-same name other same, sym (ap (λ (c : Bool). if c then number else names other) same) ∙ e)
  | inr apart ↦ inr (apart, sym (set_at-other is_name names name other number apart) ∙ e)
]

-- a name is given a file that none has
apart-given : (names : Names) (name : FileName) (id : ℕ) → IsApart names → ((other : FileName) → names other ≢ Some id) → IsApart (set_at is_name names name (Some id))
apart-given names name id apart free a b i in_a in_b =
    elim (given_at names name (Some id) a i in_a) [
      | inl at_a ↦ elim (given_at names name (Some id) b i in_b) [
        | inl at_b ↦ sym at_a.0 ∙ at_b.0
        | inr at_b ↦ absurd (free b (at_b.1 ∙ sym at_a.1))
      ]
      | inr at_a ↦ elim (given_at names name (Some id) b i in_b) [
        | inl at_b ↦ absurd (free a (at_a.1 ∙ sym at_b.1))
        | inr at_b ↦ apart a b i at_a.1 at_b.1
      ]
    ]

-- a name is given no file
apart-gone : (names : Names) (name : FileName) → IsApart names → IsApart (set_at is_name names name None)
apart-gone names name apart a b i in_a in_b =
    elim (given_at names name None a i in_a) [
      | inl none ↦ absurd (let e = none.1 in cc)
      | inr at_a ↦ elim (given_at names name None b i in_b) [
        | inl none ↦ absurd (let e = none.1 in cc)
        | inr at_b ↦ apart a b i at_a.1 at_b.1
      ]
    ]

-- a name that is given no file has none
free-gone : (names : Names) (name : FileName) (id : ℕ) → IsApart names → names name ≡ Some id → (other : FileName) → set_at is_name names name None other ≢ Some id
free-gone names name id apart is other e =
    elim (given_at names name None other id e) [
      | inl none ↦ let f = none.1 in absurd (cc)
      | inr at ↦
          let one : name ≡ other = apart name other id is at.1 in
          let itself : is_name other other ≡ true = IsEquality-names.itself other in
          let found : is_name name other ≡ true = ap (λ o. is_name o other) one ∙ itself in
          let lost = at.0 in absurd (cc)
    ]

-- every call keeps a record sound
pub sound-changes : (R : Stored → Stored → Type 0) (name : FileName) (r q : Record) → ((s t : Stored) → MayHold s s.shown → R s t → MayHold t t.shown)
    → IsSound r → Changes R name r q → IsSound q
sound-changes R name r q shows sound changes = at (r.names name) changes
  where
    at : (number : Option ℕ) → ChangesAt R name number r q → IsSound q
    at (Some id) (s, step, e) = subst IsSound (sym e) (sound-stored r id s sound (shows (r.stored id) s (sound.shows id) step))
    at None (id, fresh, rest) = subst IsSound (sym rest.2)
        (sound-stored (with_names r (set_at is_name r.names name (Some id))) id rest.0
        (sound-named r (set_at is_name r.names name (Some id)) sound (apart-given r.names name id (sound.apart r.names (inl refl)) (fresh r.names (inl refl))))
        (shows (stable []) rest.0 (stable-itself []) rest.1))

pub sound-written : (at : ℕ) (bytes : List ℕ) (s t : Stored) → MayHold s s.shown → Written at bytes s t → MayHold t t.shown
sound-written at bytes s t may e = subst (λ (u : Stored). MayHold u u.shown) (sym e) (torn-may at (length bytes) s (overwritten s.shown at bytes) (overwritten s.shown at bytes) may (overwritten-torn at s.shown bytes))

pub sound-torn : (at n : ℕ) (s t : Stored) → MayHold s s.shown → Torn at n s t → MayHold t t.shown
sound-torn at n s t may (bytes, torn, e) = subst (λ (u : Stored). MayHold u u.shown) (sym e) (torn-may at n s bytes bytes may torn)

pub sound-length : (n : ℕ) (s t : Stored) → MayHold s s.shown → LengthSet n s t → MayHold t t.shown
sound-length n s t may e = subst (λ (u : Stored). MayHold u u.shown) (sym e) (cut-may n s (resized s.shown n) (resized s.shown n) may (resized-cut n s.shown))

pub sound-cut : (n : ℕ) (s t : Stored) → MayHold s s.shown → Cut n s t → MayHold t t.shown
sound-cut n s t may (bytes, cut, e) = subst (λ (u : Stored). MayHold u u.shown) (sym e) (cut-may n s bytes bytes may cut)

pub sound-same : (s t : Stored) → MayHold s s.shown → t ≡ s → MayHold t t.shown
sound-same s t may e = subst (λ (u : Stored). MayHold u u.shown) (sym e) may

pub sound-synced : (r : Record) (number : Option ℕ) → IsSound r → IsSound (synced_at r number)
sound-synced r None sound = sound
sound-synced r (Some id) sound = sound-stored r id (stable (r.stored id).shown) sound (stable-itself (r.stored id).shown)

pub sound-removed : (r : Record) (name : FileName) (number : Option ℕ) → IsSound r → IsSound (removed_at r name number)
sound-removed r name None sound = sound
sound-removed r name (Some id) sound = sound-named r (set_at is_name r.names name None) sound (apart-gone r.names name (sound.apart r.names (inl refl)))

pub sound-renamed : (r : Record) (from to : FileName) → IsSound r → IsSound (renamed_at r from to (r.names from))
sound-renamed r from to sound = at (r.names from) refl
  where
    at : (number : Option ℕ) → r.names from ≡ number → IsSound (renamed_at r from to number)
    at None e = sound
    at (Some id) e = sound-named r (set_at is_name (set_at is_name r.names from None) to (Some id)) sound
        (apart-given (set_at is_name r.names from None) to id (apart-gone r.names from (sound.apart r.names (inl refl))) (free-gone r.names from id (sound.apart r.names (inl refl)) e))

-- what a crash may leave before a change of one file it may leave while that is pending, also where the file is new
pub images-keep : (R : Stored → Stored → Type 0) (name : FileName) (r q : Record) → ((s t : Stored) → R s t → (bytes : List ℕ) → MayHold s bytes → MayHold t bytes)
    → Changes R name r q → (files : Files) → IsImage r files → IsImage q files
images-keep R name r q keeps changes files image = at (r.names name) changes
  where
    at : (number : Option ℕ) → ChangesAt R name number r q → IsImage q files
    at (Some id) (s, step, e) = subst (λ (p : Record). IsImage p files) (sym e) (more-images r id s (keeps (r.stored id) s step) files image)
    at None (id, fresh, rest) = subst (λ (p : Record). IsImage p files) (sym rest.2) (
      image.0,
      inr image.1,
      λ other. HoldsAt-weaken r.stored (with_new r name id rest.0).stored (image.0 other) (files other)
          (λ i has bytes may. subst (λ (t : Stored). MayHold t bytes) (sym (stored-other r id i rest.0 (λ same. fresh image.0 image.1 other (has ∙ ap Some (sym same))))) may)
          (image.2 other),
    )

-- after a sync every image has the file's shown bytes, under whichever name it has the file
pub synced-images : (r : Record) (id : ℕ) (files : Files) (image : IsImage (synced_at r (Some id)) files) (name : FileName) → image.0 name ≡ Some id → files name ≡ Some (r.stored id).shown
synced-images r id files image name e =
    let holds = subst (λ x. HoldsAt (synced_at r (Some id)).stored x (files name)) e (image.2 name) in
    holds.1 ∙ ap Some (stable-only (r.stored id).shown holds.0 (subst (λ (s : Stored). MayHold s holds.0) (stored-here r id (stable (r.stored id).shown)) holds.2))

-- and under its own, where the name is still
pub synced-still : (r : Record) (name : FileName) (still : IsStill name r) (files : Files) → IsImage (synced_at r (r.names name)) files → files name ≡ shown_files r name
synced-still r name still files image =
    let is : r.names name ≡ Some still.id = still.is r.names (inl refl) in
    let after : IsImage (synced_at r (Some still.id)) files = subst (λ x. IsImage (synced_at r x) files) is image in
    synced-images r still.id files after name (still.is after.0 after.1) ∙ sym (ap (option_map (λ i. (r.stored i).shown)) is)

-- a sync adds no image; nor does one that failed, whatever part of the file it made stable
pub synced-fewer : (r : Record) (number : Option ℕ) → IsSound r → (files : Files) → IsImage (synced_at r number) files → IsImage r files
synced-fewer r None sound files image = image
synced-fewer r (Some id) sound files image =
    fewer-images r id (stable (r.stored id).shown) (λ bytes may. subst (MayHold (r.stored id)) (sym (stable-only (r.stored id).shown bytes may)) (sound.shows id)) files image

-- a sync of the folder adds none
pub settled-fewer : (r : Record) (files : Files) → IsImage (folder_synced r) files → IsImage r files
settled-fewer r files (n, inl e, holds) = (n, inl e, holds)
settled-fewer r files (n, inr none, holds) = absurd none

-- pending changes stay with a file whose name changes
pub renamed-stored : (r : Record) (from to : FileName) (number : Option ℕ) → (renamed_at r from to number).stored ≡ r.stored
renamed-stored r from to None = refl
renamed-stored r from to (Some id) = refl

-- what a crash may leave before a call that failed, it may leave after it
pub torn-keeps : (at n : ℕ) (s t : Stored) → Torn at n s t → (bytes : List ℕ) → MayHold s bytes → MayHold t bytes
torn-keeps at n s t (shown, torn, e) bytes may = subst (λ (u : Stored). MayHold u bytes) (sym e)
    (pending-keeps s (record { from = min at (length s.shown); to = at + n }) (max (length s.shown) (at + n)) shown bytes may)

pub cut-keeps : (n : ℕ) (s t : Stored) → Cut n s t → (bytes : List ℕ) → MayHold s bytes → MayHold t bytes
cut-keeps n s t (shown, cut, e) bytes may = subst (λ (u : Stored). MayHold u bytes) (sym e)
    (pending-keeps s (record { from = min (length s.shown) n; to = max (length s.shown) n }) n shown bytes may)
