-- The files that a record shows after each call are those that the call leaves of the files shown before: crates above cite these facts in their proofs.
use Rattle.std.proofs.Common.{◌≡◌, ◌≢◌, ℕ, Bool, true, false, if◌then◌else◌, List, [], Option, Some, None, option_map, unwrap_or, inl, inr, refl, sym, ap, ◌∙◌, subst}
use Rattle.std.proofs.Math.Path.{fun_ext}
use Rattle.std.proofs.lemmas.Bool.{cases_Bool}
use Rattle.common_spec.specs.Maps.{set_at}
use Rattle.common_spec.specs.MapsLaws.{set_at-itself, set_at-other}
use Rattle.byte_fields.specs.Bytes.{resized, overwritten}
use Rattle.file_spec.specs.declared.FileName.{FileName}
use Rattle.file_spec.specs.Files.{Files, content, is_name, with_file, after_write, after_set_len, after_create, after_remove, after_rename, moved}
use Rattle.file_spec.specs.FilesLaws.{IsEquality-names, is_name-same, with_file-again}
use Rattle.file_spec.specs.Faults.{IsTorn, IsCut, OneFile}
use Rattle.file_spec.specs.Records.{Stored, stable, Names, Record, shown_files, IsApart, IsSound}
use Rattle.file_spec.specs.RecordsLaws.{stored-here, stored-other}
use Rattle.file_spec.specs.Steps.{Written, Torn, LengthSet, Cut, with_stored, with_names, with_new, ChangesAt, Changes, synced_at, removed_at, renamed_at, folder_synced}

-- a name changes its file
pub shown-named : (r : Record) (names : Names) (name : FileName) (number : Option ℕ)
    → shown_files (with_names r (set_at is_name names name number)) ≡ with_file (shown_files (with_names r names)) name (option_map (λ id. (r.stored id).shown) number)
shown-named r names name number = fun_ext (λ other. at (is_name name other) (names other))
  where
    at : (c : Bool) (old : Option ℕ) → option_map (λ id. (r.stored id).shown) (if c then number else old) ≡ (if c then option_map (λ id. (r.stored id).shown) number else option_map (λ id. (r.stored id).shown) old)
    at true old = refl
    at false old = refl

-- a file's record changes
pub shown-stored : (r : Record) (name : FileName) (id : ℕ) (s : Stored) → IsApart r.names → r.names name ≡ Some id
    → shown_files (with_stored r id s) ≡ with_file (shown_files r) name (Some s.shown)
shown-stored r name id s apart is = fun_ext each
  where
    here : shown_files (with_stored r id s) name ≡ Some s.shown
    here = ap (option_map (λ i. ((with_stored r id s).stored i).shown)) is ∙ ap (λ (t : Stored). Some t.shown) (stored-here r id s)

    elsewhere : (number : Option ℕ) → (number ≢ Some id) → option_map (λ i. ((with_stored r id s).stored i).shown) number ≡ option_map (λ i. (r.stored i).shown) number
    elsewhere None ne = refl
    elsewhere (Some i) ne = ap (λ (t : Stored). Some t.shown) (stored-other r id i s (λ e. ne (ap Some (sym e))))

    each : (other : FileName) → shown_files (with_stored r id s) other ≡ with_file (shown_files r) name (Some s.shown) other
    each other = elim (cases_Bool (is_name name other)) [
      | inl same ↦ subst (λ (o : FileName). shown_files (with_stored r id s) o ≡ with_file (shown_files r) name (Some s.shown) o) (is_name-same name other same)
          (here ∙ sym (set_at-itself is_name (shown_files r) name (Some s.shown) IsEquality-names))
      | inr differs ↦ elsewhere (r.names other)
          (λ e.
          let one : name ≡ other = apart name other id is e in
          let itself : is_name other other ≡ true = IsEquality-names.itself other in
          let found : is_name name other ≡ true = ap (λ o. is_name o other) one ∙ itself in absurd (cc))
          ∙ sym (set_at-other is_name (shown_files r) name other (Some s.shown) differs)
    ]

-- a name gets a file that is new
pub shown-new : (r : Record) (name : FileName) (id : ℕ) (s : Stored) → IsApart (set_at is_name r.names name (Some id)) → shown_files (with_new r name id s) ≡ with_file (shown_files r) name (Some s.shown)
shown-new r name id s apart =
    shown-stored (with_names r (set_at is_name r.names name (Some id))) name id s apart (set_at-itself is_name r.names name (Some id) IsEquality-names)
    ∙ ap (λ files. with_file files name (Some s.shown)) (shown-named r r.names name (Some id))
    ∙ with_file-again (shown_files r) name (Some (r.stored id).shown) (Some s.shown)

-- what a change of one file shows: that file as R leaves it, and the others as before
pub record Shows (R : Stored → Stored → Type 0) (name : FileName) (r q : Record) : Type 0 where
  pub old : Stored
  pub new : Stored
  pub step : R old new
  pub was : old.shown ≡ content (shown_files r) name
  pub is : shown_files q ≡ with_file (shown_files r) name (Some new.shown)

pub shown-changes : (R : Stored → Stored → Type 0) (name : FileName) (r q : Record) → IsSound r → IsSound q → Changes R name r q → Shows R name r q
shown-changes R name r q sound after changes = at (r.names name) refl changes
  where
    at : (number : Option ℕ) → r.names name ≡ number → ChangesAt R name number r q → Shows R name r q
    at (Some id) e (s, step, is) = record {
      old = r.stored id;
      new = s;
      step = step;
      was = sym (ap (λ n. unwrap_or (option_map (λ i. (r.stored i).shown) n) []) e);
      is = ap shown_files is ∙ shown-stored r name id s (sound.apart r.names (inl refl)) e;
    }
    at None e (id, fresh, rest) = record {
      old = stable [];
      new = rest.0;
      step = rest.1;
      was = sym (ap (λ n. unwrap_or (option_map (λ i. (r.stored i).shown) n) []) e);
      is = ap shown_files rest.2 ∙ shown-new r name id rest.0 ((subst IsSound rest.2 after).apart (set_at is_name r.names name (Some id)) (inl refl));
    }

pub shown-written : (name : FileName) (at : ℕ) (bytes : List ℕ) (r q : Record) → Shows (Written at bytes) name r q → shown_files q ≡ after_write (shown_files r) name at bytes
shown-written name at bytes r q shows =
    shows.is ∙ ap (λ (s : Stored). with_file (shown_files r) name (Some s.shown)) shows.step ∙ ap (λ old. with_file (shown_files r) name (Some (overwritten old at bytes))) shows.was

pub shown-length : (name : FileName) (n : ℕ) (r q : Record) → Shows (LengthSet n) name r q → shown_files q ≡ after_set_len (shown_files r) name n
shown-length name n r q shows =
    shows.is ∙ ap (λ (s : Stored). with_file (shown_files r) name (Some s.shown)) shows.step ∙ ap (λ old. with_file (shown_files r) name (Some (resized old n))) shows.was

pub shown-created : (name : FileName) (r q : Record) → Shows (λ s t. t ≡ s) name r q → shown_files q ≡ after_create (shown_files r) name
shown-created name r q shows =
    shows.is ∙ ap (λ (s : Stored). with_file (shown_files r) name (Some s.shown)) shows.step ∙ ap (λ old. with_file (shown_files r) name (Some old)) shows.was

pub shown-torn : (name : FileName) (at n : ℕ) (r q : Record) → Shows (Torn at n) name r q → OneFile (IsTorn at n) name (shown_files r) (shown_files q)
shown-torn name at n r q shows = inr (
  shows.step.0,
  shows.is ∙ ap (λ (s : Stored). with_file (shown_files r) name (Some s.shown)) shows.step.2,
  subst (λ old. IsTorn at n old shows.step.0) shows.was shows.step.1,
)

pub shown-cut : (name : FileName) (n : ℕ) (r q : Record) → Shows (Cut n) name r q → OneFile (IsCut n) name (shown_files r) (shown_files q)
shown-cut name n r q shows = inr (
  shows.step.0,
  shows.is ∙ ap (λ (s : Stored). with_file (shown_files r) name (Some s.shown)) shows.step.2,
  subst (λ old. IsCut n old shows.step.0) shows.was shows.step.1,
)

-- a sync changes nothing that is shown
pub shown-synced : (r : Record) (name : FileName) → IsSound r → shown_files (synced_at r (r.names name)) ≡ shown_files r
shown-synced r name sound = at (r.names name) refl
  where
    at : (number : Option ℕ) → r.names name ≡ number → shown_files (synced_at r number) ≡ shown_files r
    at None e = refl
    at (Some id) e =
        shown-stored r name id (stable (r.stored id).shown) (sound.apart r.names (inl refl)) e
        ∙ ap (with_file (shown_files r) name) (sym (ap (option_map (λ i. (r.stored i).shown)) e))
        ∙ same (shown_files r)
      where
        same : (files : Files) → with_file files name (files name) ≡ files
        same files = fun_ext (λ other. elim (cases_Bool (is_name name other)) [
          | inl one ↦ subst (λ (o : FileName). with_file files name (files name) o ≡ files o) (is_name-same name other one) (set_at-itself is_name files name (files name) IsEquality-names)
          | inr differs ↦ set_at-other is_name files name other (files name) differs
        ])

pub shown-removed : (r : Record) (name : FileName) → shown_files (removed_at r name (r.names name)) ≡ after_remove (shown_files r) name
shown-removed r name = at (r.names name) refl
  where
    at : (number : Option ℕ) → r.names name ≡ number → shown_files (removed_at r name number) ≡ after_remove (shown_files r) name
    at None e = fun_ext (λ other. elim (cases_Bool (is_name name other)) [
      | inl one ↦ subst (λ (o : FileName). shown_files r o ≡ with_file (shown_files r) name None o) (is_name-same name other one)
          (ap (option_map (λ i. (r.stored i).shown)) e ∙ sym (set_at-itself is_name (shown_files r) name None IsEquality-names))
      | inr differs ↦ sym (set_at-other is_name (shown_files r) name other None differs)
    ])
    at (Some id) e = shown-named r r.names name None

pub shown-renamed : (r : Record) (from to : FileName) → shown_files (renamed_at r from to (r.names from)) ≡ after_rename (shown_files r) from to
shown-renamed r from to = at (r.names from) refl
  where
    at : (number : Option ℕ) → r.names from ≡ number → shown_files (renamed_at r from to number) ≡ after_rename (shown_files r) from to
    at None e = sym (ap (moved (shown_files r) from to) (ap (option_map (λ i. (r.stored i).shown)) e))
    at (Some id) e =
        shown-named r (set_at is_name r.names from None) to (Some id)
        ∙ ap (λ files. with_file files to (Some (r.stored id).shown)) (shown-named r r.names from None)
        ∙ sym (ap (moved (shown_files r) from to) (ap (option_map (λ i. (r.stored i).shown)) e))

-- a sync of the folder changes nothing that is shown
pub shown-settled : (r : Record) → shown_files (folder_synced r) ≡ shown_files r
shown-settled r = refl
