-- What a crash may leave of a record: crates above cite these facts in their proofs.
use Rattle.std.proofs.Common.{◌≡◌, ℕ, ◌==◌, ◌<◌, ◌≤◌, true, List, [], length, take, slice_index, slice_index_or, Option, Some, None, is_some, option_map, unwrap_or, inl, inr, ◌⊎◌, refl, sym, ap, ◌∙◌, subst, arith, ne_eqb}
use Rattle.std.proofs.Math.Path.{fun_ext}
use Rattle.std.proofs.lemmas.Bool.{cases_Bool}
use Rattle.std.proofs.lemmas.List.{ext_get_or, get_or-take, length-take-le}
use Rattle.common_spec.specs.MapsLaws.{IsEquality-numbers, set_at-itself, set_at-other}
use Rattle.file_spec.specs.declared.FileName.{FileName}
use Rattle.file_spec.specs.declared.FileName.TheVariants.{Target, Oal, Wal, Journal, Rbu, State, StateTemp}
use Rattle.file_spec.specs.Files.{Files, content, is_name, name_index, with_file}
use Rattle.file_spec.specs.FilesLaws.{IsEquality-names, is_name-same}
use Rattle.file_spec.specs.Records.{Untouched, Stored, MayHold, stable, Names, Record, MayName, HoldsAt, HoldsAll, IsImage, shown_files, IsApart, IsSound, IsStill, IsFirm, all_names, at_rest}
use Rattle.file_spec.specs.Steps.{with_stored, with_names, folder_synced}

-- stable bytes are what a crash leaves, and all that it may leave
pub stable-itself : (bytes : List ℕ) → MayHold (stable bytes) bytes
stable-itself bytes = record { no_shorter = omega arith; no_longer = omega arith; rest = λ i h k u. refl }

pub stable-only : (bytes left : List ℕ) → MayHold (stable bytes) left → left ≡ bytes
stable-only bytes left may =
    ext_get_or 0 left bytes (omega (arith, may.no_shorter, may.no_longer))
    (λ i h. may.rest i (omega (arith, h, may.no_longer, may.no_shorter)) h tt)

-- a byte that no pending range reaches is the same whatever a crash leaves
pub untouched_byte : (s : Stored) (a b : List ℕ) (i : ℕ) → MayHold s a → MayHold s b → i < length s.synced → i < length a → i < length b → Untouched s.ranges i
    → slice_index a i ≡ slice_index b i
untouched_byte s a b i may also synced in_a in_b untouched = may.rest i synced in_a untouched ∙ sym (also.rest i synced in_b untouched)

-- and so are the first bytes, where they are firm
pub firm_bytes : (n : ℕ) (s : Stored) (a b : List ℕ) → IsFirm n s → MayHold s a → MayHold s b → take n a ≡ take n b
firm_bytes n s a b firm may also =
    let enough_a : n ≤ length a = omega (arith, firm.long, may.no_shorter) in
    let enough_b : n ≤ length b = omega (arith, firm.long, also.no_shorter) in
    ext_get_or 0 (take n a) (take n b) (length-take-le n a enough_a ∙ sym (length-take-le n b enough_b))
    (λ i h.
    let below : i < n = omega (arith, h, length-take-le n a enough_a) in
    get_or-take n a i 0 below
    ∙ untouched_byte s a b i may also (omega (arith, below, firm.within)) (omega (arith, below, enough_a)) (omega (arith, below, enough_b)) (firm.untouched i below)
    ∙ sym (get_or-take n b i 0 below))

-- a name shows what a crash may leave of another record of its file
pub HoldsAt-weaken : (stored other : ℕ → Stored) (number : Option ℕ) (file : Option (List ℕ))
    → ((id : ℕ) → number ≡ Some id → (bytes : List ℕ) → MayHold (stored id) bytes → MayHold (other id) bytes) → HoldsAt stored number file → HoldsAt other number file
HoldsAt-weaken stored other None file w holds = holds
HoldsAt-weaken stored other (Some id) file w holds = (holds.0, holds.1, w id refl holds.0 holds.2)

-- the files that are shown are an image
shown_at : (stored : ℕ → Stored) (number : Option ℕ) → ((id : ℕ) → MayHold (stored id) (stored id).shown) → HoldsAt stored number (option_map (λ id. (stored id).shown) number)
shown_at stored None shows = refl
shown_at stored (Some id) shows = ((stored id).shown, refl, shows id)

pub shown-image : (r : Record) → IsSound r → IsImage r (shown_files r)
shown-image r sound = (r.names, inl refl, λ name. shown_at r.stored (r.names name) sound.shows)

-- one file's record changes
pub stored-here : (r : Record) (id : ℕ) (s : Stored) → (with_stored r id s).stored id ≡ s
stored-here r id s = set_at-itself (λ (x y : ℕ). x == y) r.stored id s IsEquality-numbers

pub stored-other : (r : Record) (id other : ℕ) (s : Stored) → (id ≡ other → ⊥) → (with_stored r id s).stored other ≡ r.stored other
stored-other r id other s apart = set_at-other (λ (x y : ℕ). x == y) r.stored id other s (ne_eqb id other apart)

-- a change of one still file leaves the other files of every image
pub others-stay : (r : Record) (name : FileName) (still : IsStill name r) (s : Stored) (bytes : List ℕ) → MayHold (r.stored still.id) bytes
    → (files : Files) → IsImage (with_stored r still.id s) files → IsImage r (with_file files name (Some bytes))
others-stay r name still s bytes may files image = (image.0, image.1, holds)
  where
    here : HoldsAt r.stored (image.0 name) (with_file files name (Some bytes) name)
    here = subst (λ x. HoldsAt r.stored x (with_file files name (Some bytes) name)) (sym (still.is image.0 image.1))
        (bytes, set_at-itself is_name files name (Some bytes) IsEquality-names, may)

    elsewhere : (other : FileName) → (name ≡ other → ⊥) → HoldsAt r.stored (image.0 other) (files other)
    elsewhere other apart = HoldsAt-weaken (with_stored r still.id s).stored r.stored (image.0 other) (files other)
        (λ id e held it. subst (λ (t : Stored). MayHold t held) (stored-other r still.id id s (λ same. apart (sym (still.alone image.0 image.1 other (e ∙ ap Some (sym same)))))) it)
        (image.2 other)

    holds : HoldsAll r.stored image.0 (with_file files name (Some bytes))
    holds other = elim (cases_Bool (is_name name other)) [
      | inl same ↦ subst (λ (o : FileName). HoldsAt r.stored (image.0 o) (with_file files name (Some bytes) o)) (is_name-same name other same) here
      | inr apart ↦ subst (λ x. HoldsAt r.stored (image.0 other) x) (sym (set_at-other is_name files name other (Some bytes) apart))
          (elsewhere other (λ e. let itself : is_name other other ≡ true = IsEquality-names.itself other in let found : is_name name other ≡ true = ap (λ o. is_name o other) e ∙ itself in absurd (cc)))
    ]

-- where a file may be left as less than before, so are the images
pub fewer-images : (r : Record) (id : ℕ) (s : Stored) → ((bytes : List ℕ) → MayHold s bytes → MayHold (r.stored id) bytes) → (files : Files) → IsImage (with_stored r id s) files → IsImage r files
fewer-images r id s within files image = (image.0, image.1, λ name. HoldsAt-weaken (with_stored r id s).stored r.stored (image.0 name) (files name) at (image.2 name))
  where
    at : {x : Option ℕ} → (i : ℕ) → x ≡ Some i → (bytes : List ℕ) → MayHold ((with_stored r id s).stored i) bytes → MayHold (r.stored i) bytes
    at i e bytes may = elim (cases_Bool (id == i)) [
      | inl same ↦ subst (λ j. MayHold (r.stored j) bytes) (IsEquality-numbers.same id i same)
          (within bytes (subst (λ (t : Stored). MayHold t bytes) (stored-here r id s) (subst (λ j. MayHold ((with_stored r id s).stored j) bytes) (sym (IsEquality-numbers.same id i same)) may)))
      | inr apart ↦ subst (λ (t : Stored). MayHold t bytes) (set_at-other (λ (x y : ℕ). x == y) r.stored id i s apart) may
    ]

-- and where as more, they are more
pub more-images : (r : Record) (id : ℕ) (s : Stored) → ((bytes : List ℕ) → MayHold (r.stored id) bytes → MayHold s bytes) → (files : Files) → IsImage r files → IsImage (with_stored r id s) files
more-images r id s within files image = (image.0, image.1, λ name. HoldsAt-weaken r.stored (with_stored r id s).stored (image.0 name) (files name) at (image.2 name))
  where
    at : {x : Option ℕ} → (i : ℕ) → x ≡ Some i → (bytes : List ℕ) → MayHold (r.stored i) bytes → MayHold ((with_stored r id s).stored i) bytes
    at i e bytes may = elim (cases_Bool (id == i)) [
      | inl same ↦ subst (λ j. MayHold ((with_stored r id s).stored j) bytes) (IsEquality-numbers.same id i same)
          (subst (λ (t : Stored). MayHold t bytes) (sym (stored-here r id s)) (within bytes (subst (λ j. MayHold (r.stored j) bytes) (sym (IsEquality-numbers.same id i same)) may)))
      | inr apart ↦ subst (λ (t : Stored). MayHold t bytes) (sym (set_at-other (λ (x y : ℕ). x == y) r.stored id i s apart)) may
    ]

-- an image after a change of names is one from before it, or has all names as they are now; and each of these is one
pub named-images : (r : Record) (names : Names) (files : Files) → IsImage (with_names r names) files → IsImage r files ⊎ HoldsAll r.stored names files
named-images r names files (n, inl e, holds) = inr (subst (λ (m : Names). HoldsAll r.stored m files) e holds)
named-images r names files (n, inr there, holds) = inl (n, there, holds)

pub images-named : (r : Record) (names : Names) (files : Files) → IsImage r files ⊎ HoldsAll r.stored names files → IsImage (with_names r names) files
images-named r names files (inl image) = (image.0, inr image.1, image.2)
images-named r names files (inr holds) = (names, inl refl, holds)

-- after a sync of the folder every image has the names that are shown
pub settled-images : (r : Record) (files : Files) → IsImage (folder_synced r) files → HoldsAll r.stored r.names files
settled-images r files (n, inl e, holds) = subst (λ (m : Names). HoldsAll r.stored m files) e holds
settled-images r files (n, inr none, holds) = absurd none

there : (stored : ℕ → Stored) (number : Option ℕ) (file : Option (List ℕ)) → HoldsAt stored number file → is_some file ≡ is_some (option_map (λ id. (stored id).shown) number)
there stored None file holds = ap is_some holds
there stored (Some id) file holds = ap is_some holds.1

pub settled-names : (r : Record) (files : Files) → IsImage (folder_synced r) files → (name : FileName) → is_some (files name) ≡ is_some (shown_files r name)
settled-names r files image name = there r.stored (r.names name) (files name) (settled-images r files image name)

-- a name is found again by its place
pub name-at : (name : FileName) → slice_index_or all_names (name_index name) Target ≡ name
name-at Target = refl
name-at Oal = refl
name-at Wal = refl
name-at Journal = refl
name-at Rbu = refl
name-at State = refl
name-at StateTemp = refl

-- a disk at rest shows its files, which are its only image
rest_shown : (stored : ℕ → Stored) (id : ℕ) (file : Option (List ℕ)) → stored id ≡ stable (unwrap_or file []) → option_map (λ id. (stored id).shown) (option_map (λ _. id) file) ≡ file
rest_shown stored id None e = refl
rest_shown stored id (Some bytes) e = ap (λ (s : Stored). Some s.shown) e

rest_holds : (stored : ℕ → Stored) (id : ℕ) (file left : Option (List ℕ)) → stored id ≡ stable (unwrap_or file []) → HoldsAt stored (option_map (λ _. id) file) left → left ≡ file
rest_holds stored id None left e holds = holds
rest_holds stored id (Some bytes) left e holds = holds.1 ∙ ap Some (stable-only bytes holds.0 (subst (λ (s : Stored). MayHold s holds.0) e holds.2))

rest_stored : (files : Files) (name : FileName) → (at_rest files).stored (name_index name) ≡ stable (content files name)
rest_stored files name = ap (λ (n : FileName). stable (content files n)) (name-at name)

pub rest-shown : (files : Files) → shown_files (at_rest files) ≡ files
rest-shown files = fun_ext (λ name. rest_shown (at_rest files).stored (name_index name) (files name) (rest_stored files name))

pub rest-only : (files left : Files) → IsImage (at_rest files) left → left ≡ files
rest-only files left (names, inl e, holds) =
    fun_ext (λ name. rest_holds (at_rest files).stored (name_index name) (files name) (left name) (rest_stored files name)
    (subst (λ (n : Names). HoldsAt (at_rest files).stored (n name) (left name)) e (holds name)))
rest-only files left (names, inr none, holds) = absurd none

pub rest-sound : (files : Files) → IsSound (at_rest files)
rest-sound files = record {
  shows = λ id. stable-itself (content files (slice_index_or all_names id Target));
  apart = apart;
}
  where
    number : (name : FileName) (file : Option (List ℕ)) (id : ℕ) → option_map (λ _. name_index name) file ≡ Some id → name_index name ≡ id
    number name None id e = absurd (cc)
    number name (Some bytes) id e = cc

    apart : (names : Names) → MayName (at_rest files) names → IsApart names
    apart names (inl same) a b id in_a in_b =
        let at_a : name_index a ≡ id = number a (files a) id (ap (λ (n : Names). n a) (sym same) ∙ in_a) in
        let at_b : name_index b ≡ id = number b (files b) id (ap (λ (n : Names). n b) (sym same) ∙ in_b) in
        sym (name-at a) ∙ ap (λ i. slice_index_or all_names i Target) (at_a ∙ sym at_b) ∙ name-at b
    apart names (inr none) a b id in_a in_b = absurd none
