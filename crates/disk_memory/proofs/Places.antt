-- Files by the places of their names.
use Rattle.std.proofs.Common.{◌≡◌, ℕ, List, [], ◌∷◌, ◌++◌, map, Bool, true, false, cond, Option, Some, None, inl, inr, refl, sym, ap, ◌∙◌, arith}
use Rattle.std.proofs.Math.Path.{fun_ext}
use Rattle.std.proofs.lemmas.Grind.{common_steps}
use Rattle.std.proofs.lemmas.Bool.Decides.{nat_tests}
use Rattle.std.proofs.lemmas.Bool.{cases_Bool}
use Rattle.std.proofs.lemmas.List.{map-append}
use Rattle.file_spec.specs.declared.FileName.{FileName}
use Rattle.file_spec.specs.Files.{Files, after_rename, is_name, moved, with_file}
use Rattle.disk_memory.specs.Volume.{Entry, files_at, first_entries}

-- the first of two values that is there
abbrev pub first_of : Option (List ℕ) → Option (List ℕ) → Option (List ℕ)
first_of None later = later
first_of (Some bytes) later = Some bytes

pub first_of-none : (first : Option (List ℕ)) → first_of first None ≡ first
first_of-none None = refl
first_of-none (Some bytes) = refl

-- a last entry counts where no entry before it has its name
first_entries-push : (entries : List Entry) (entry : Entry) (name : FileName) → first_entries (entries ++ entry ∷ []) name ≡ first_of (first_entries entries name) (cond (is_name entry.0 name) (Some entry.1) None)
first_entries-push [] entry name = refl
first_entries-push (x ∷ xs) entry name =
    elim (cases_Bool (is_name x.0 name)) [
      | inl e ↦ rw e refl
      | inr e ↦ rw e (first_entries-push xs entry name)
    ]

first_of-cond : (b : Bool) (bytes : List ℕ) (later : Option (List ℕ)) → cond b (Some bytes) later ≡ first_of (cond b (Some bytes) None) later
first_of-cond true bytes later = refl
first_of-cond false bytes later = refl

first_of-assoc : (a b c : Option (List ℕ)) → first_of (first_of a b) c ≡ first_of a (first_of b c)
first_of-assoc None b c = refl
first_of-assoc (Some x) b c = refl

-- the last entry is put in its place
first_entries-one_more : (entries : List Entry) (entry : Entry) (before after : Files) → after ≡ with_file before entry.0 (Some entry.1) → (name : FileName) → first_of (first_entries entries name) (after name) ≡ first_of (first_entries (entries ++ entry ∷ []) name) (before name)
first_entries-one_more entries entry before after puts name =
    ap (λ files. first_of (first_entries entries name) (files name)) puts
    ∙ ap (first_of (first_entries entries name)) (first_of-cond (is_name entry.0 name) entry.1 (before name))
    ∙ sym (first_of-assoc (first_entries entries name) (cond (is_name entry.0 name) (Some entry.1) None) (before name))
    ∙ ap (λ first. first_of first (before name)) (sym (first_entries-push entries entry name))

-- the same where the entries are seen by view, and the last is taken off
pub first_entries-last_taken : {X : Type 0} (view : X → Entry) (all rest : List X) (x : X) (file : List ℕ) (before after : Files) → all ≡ rest ++ x ∷ [] → file ≡ (view x).1 → after ≡ with_file before (view x).0 (Some file) → (name : FileName) → first_of (first_entries (map view rest) name) (after name) ≡ first_of (first_entries (map view all) name) (before name)
first_entries-last_taken view all rest x file before after split same puts name =
    first_entries-one_more (map view rest) (view x) before after (puts ∙ ap (λ bytes. with_file before (view x).0 (Some bytes)) same) name
    ∙ ap (λ entries. first_of (first_entries entries name) (before name)) (sym (ap (map view) split ∙ map-append view rest (x ∷ [])))

-- where no file was, removing it changes nothing
with_file-of_missing : (places : List (Option (List ℕ))) (from other : FileName) → files_at places from ≡ None → with_file (files_at places) from None other ≡ files_at places other
with_file-of_missing places from other missing = grind (arith, common_steps, nat_tests)

-- a rename of a missing file leaves what removing it leaves
pub after_rename-of_missing : (places : List (Option (List ℕ))) (from to : FileName) → files_at places from ≡ None → with_file (files_at places) from None ≡ after_rename (files_at places) from to
after_rename-of_missing places from to missing =
    fun_ext (λ other. with_file-of_missing places from other missing) ∙ ap (moved (files_at places) from to) (sym missing)
