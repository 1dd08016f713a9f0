-- What a replay leaves by a choice, name by name.
use Rattle.std.proofs.Common.{◌≡◌, ℕ, zero, suc, ◌+◌, ◌-◌, ◌/◌, ◌%◌, ◌<◌, ◌≤◌, true, List, [], ◌∷◌, ◌++◌, length, map, get_or, slice_index_or, Option, Some, None, option_map, IfSome, refl, sym, ap, ◌∙◌, subst, inl, inr, arith, length-append}
use Rattle.std.proofs.Math.Nat.{mod-lt}
use Rattle.std.proofs.lemmas.Bool.{cases_Bool, cases_lt}
use Rattle.std.proofs.lemmas.Grind.{common_steps}
use Rattle.std.proofs.lemmas.List.{get_or-map}
use Rattle.common_spec.specs.MapsLaws.{set_at-itself, set_at-other}
use Rattle.file_spec.specs.declared.FileName.{FileName}
use Rattle.file_spec.specs.declared.FileName.TheVariants.{Target}
use Rattle.file_spec.specs.Files.{Files, content, is_name, name_index, with_file}
use Rattle.file_spec.specs.FilesLaws.{IsEquality-names, is_name-same}
use Rattle.file_spec.specs.Records.{MayHold, Names, Record, Stored, all_names, at_rest, stable}
use Rattle.file_spec.specs.RecordsLaws.{name-at}
use Rattle.file_spec.specs.Trails.{Trail}
use Rattle.disk_memory.specs.declared.replay.Kept.{Kept}
use Rattle.disk_memory.specs.declared.replay.Replay.{Replay}
use Rattle.disk_memory.specs.Volume.{AllNumbers, IsFine}
use Rattle.disk_memory.specs.Crash.{LeavesAt, filling_of, kept_names}
use Rattle.disk_memory.specs.CrashLaws.{kept-may}
use Rattle.disk_memory.specs.Replay.{Agrees, StandsAt, in_time, kept_at, numbers_at}

-- each name stands at its place
pub index-at : (i : ℕ) (other : FileName) → i < 7 → name_index (slice_index_or all_names i other) ≡ i
index-at zero other less = refl
index-at (suc zero) other less = refl
index-at (suc (suc zero)) other less = refl
index-at (suc (suc (suc zero))) other less = refl
index-at (suc (suc (suc (suc zero)))) other less = refl
index-at (suc (suc (suc (suc (suc zero))))) other less = refl
index-at (suc (suc (suc (suc (suc (suc zero)))))) other less = refl
index-at (suc (suc (suc (suc (suc (suc (suc n))))))) other less = absurd (omega (arith, less))

-- names at one place are one
one-name : (this name : FileName) → name_index this ≡ name_index name → this ≡ name
one-name this name e = sym (name-at this) ∙ ap (λ i. slice_index_or all_names i Target) e ∙ name-at name

in_time-long : (ns : List Names) → length (in_time ns) ≡ length ns
in_time-long [] = refl
in_time-long (n ∷ ns) = let long = in_time-long ns in omega (arith, long, length-append (in_time ns) (n ∷ []))

in_time-at : (ns : List Names) (i : ℕ) (d : Names) → i < length ns → get_or (in_time ns) i d ≡ get_or ns (length ns - 1 - i) d
in_time-at [] i d less = absurd (omega (arith, less))
in_time-at (n ∷ ns) i d less = elim (cases_lt i (length ns)) [
  | inl before ↦
      let front : get_or (in_time ns ++ n ∷ []) i d ≡ get_or (in_time ns) i d = (let long = in_time-long ns in grind (arith, common_steps)) in
      let place : length (n ∷ ns) - 1 - i ≡ suc (length ns - 1 - i) = omega (arith, before) in
      front ∙ in_time-at ns i d before ∙ ap (λ j. get_or (n ∷ ns) j d) (sym place)
  | inr behind ↦
      let last : get_or (in_time ns ++ n ∷ []) i d ≡ n = (let long = in_time-long ns in grind (arith, common_steps)) in
      let place : length (n ∷ ns) - 1 - i ≡ 0 = omega (arith, behind) in
      last ∙ ap (λ j. get_or (n ∷ ns) j d) (sym place)
]

module _ (choice len : ℕ) (items : List (List (Option ℕ))) (r : Record) (past : map numbers_at items ≡ in_time r.older) (long : len ≡ length items) where
  pub older-long : len ≡ length r.older
  older-long = let l = ap length past in let k = in_time-long r.older in grind (arith, common_steps, long, l, k)

  -- the names before a change that is not kept, or the last ones
  pub kept-before : (d : List (Option ℕ)) → choice % (len + 1) < len → numbers_at (get_or items (choice % (len + 1)) d) ≡ kept_names choice r
  kept-before d less =
      let inside : choice % (len + 1) < length items = omega (arith, less, long) in
      let place : length r.older - choice % (len + 1) ≡ suc (length r.older - 1 - choice % (len + 1)) = omega (arith, less, older-long) in
      sym (get_or-map numbers_at items (choice % (len + 1)) d r.names inside)
      ∙ ap (λ (l : List Names). get_or l (choice % (len + 1)) r.names) past
      ∙ in_time-at r.older (choice % (len + 1)) r.names (omega (arith, less, older-long))
      ∙ ap (λ j. get_or (r.names ∷ r.older) j r.names) (sym place)
      ∙ ap (λ k. get_or (r.names ∷ r.older) (length r.older - choice % (k + 1)) r.names) older-long

  pub kept-last : len ≤ choice % (len + 1) → r.names ≡ kept_names choice r
  kept-last behind =
      let below : choice % (len + 1) < len + 1 = mod-lt choice (omega arith) in
      let place : length r.older - choice % (len + 1) ≡ 0 = omega (arith, below, behind, older-long) in
      ap (λ j. get_or (r.names ∷ r.older) j r.names) (sym place)
      ∙ ap (λ k. get_or (r.names ∷ r.older) (length r.older - choice % (k + 1)) r.names) older-long

  pub filling-is : choice / (len + 1) % 3 ≡ filling_of choice r
  filling-is = ap (λ k. choice / (k + 1) % 3) older-long

pub if-some : {X : Type 0} {P : X → Type 0} (o : Option X) → ((x : X) → o ≡ Some x → P x) → IfSome o P
if-some None f = tt
if-some (Some x) f = f x refl

-- a number that is kept is that of a file, which agrees with the record
module _ (replay : Replay) (choice : ℕ) (t : Trail) (fine : IsFine t) (stands : StandsAt replay t) (numbers : Names) (kept : numbers ≡ kept_names choice t.now.at) (name : FileName) (id : ℕ)
    (is : numbers name ≡ Some id) where
  kept_names-named : kept_names choice t.now.at name ≡ Some id
  kept_names-named = ap (λ (m : Names). m name) (sym kept) ∙ is

  pub left-within : id < length replay.files.items
  left-within = let less = fine.below (kept_names choice t.now.at) (kept-may choice t.now.at) name id kept_names-named in omega (arith, less, stands.long)

  pub left-known : MayHold (t.now.at.stored id) (t.now.at.stored id).shown × Agrees (kept_at replay.files.items id) (t.now.at.stored id)
  left-known = (fine.sound.shows id, stands.fits.agree (kept_names choice t.now.at) (kept-may choice t.now.at) name id kept_names-named)

-- the files that were given
pub first-agree : (files : Files) (kept : List Kept) → ((name : FileName) → Agrees (kept_at kept (name_index name)) (stable (content files name))) →
    AllNumbers (λ id. Agrees (kept_at kept id) ((at_rest files).stored id)) (at_rest files)
first-agree files kept each names (inr none) name id e = absurd none
first-agree files kept each names (inl same) name id e =
    subst (λ j. Agrees (kept_at kept j) ((at_rest files).stored j)) (number (files name) (ap (λ (m : Names). m name) (sym same) ∙ e))
    (subst (λ (n : FileName). Agrees (kept_at kept (name_index name)) (stable (content files n))) (sym (name-at name)) (each name))
  where
    number : (file : Option (List ℕ)) → option_map (λ _. name_index name) file ≡ Some id → name_index name ≡ id
    number None e = absurd (cc)
    number (Some bytes) e = cc

-- one name more
pub crash-step : (filling : ℕ) (stored : ℕ → Stored) (numbers : Names) (files after : Files) (this name : FileName) (i : ℕ) (file : Option (List ℕ)) → name_index this ≡ i →
    after ≡ with_file files this file → name_index name < i + 1 → (name_index name < i → LeavesAt filling stored (numbers name) (files name)) → LeavesAt filling stored (numbers this) file →
    LeavesAt filling stored (numbers name) (after name)
crash-step filling stored numbers files after this name i file place puts less before here = elim (cases_Bool (is_name this name)) [
  | inl same ↦
      let one : this ≡ name = is_name-same this name same in
      let at : after this ≡ file = ap (λ (f : Files). f this) puts ∙ set_at-itself is_name files this file IsEquality-names in
      subst (λ (n : FileName). LeavesAt filling stored (numbers n) (after n)) one (subst (LeavesAt filling stored (numbers this)) (sym at) here)
  | inr apart ↦
      let at : after name ≡ files name = ap (λ (f : Files). f name) puts ∙ set_at-other is_name files this name file apart in
      subst (LeavesAt filling stored (numbers name)) (sym at) (elim (cases_lt (name_index name) i) [
        | inl less ↦ before less
        | inr behind ↦
            let one : this ≡ name = one-name this name (omega (arith, place, less, behind)) in
            let itself : is_name this this ≡ true = IsEquality-names.itself this in
            let found : is_name this name ≡ true = ap (is_name this) (sym one) ∙ itself in
            absurd (cc)
      ])
]

pub files-step : (files after : List Kept) (kept : Kept) (this name : FileName) (i : ℕ) (given : Files) → length files ≡ i → after ≡ files ++ kept ∷ [] → name_index this ≡ i →
    Agrees kept (stable (content given this)) → name_index name < i + 1 → (name_index name < i → Agrees (kept_at files (name_index name)) (stable (content given name))) →
    Agrees (kept_at after (name_index name)) (stable (content given name))
files-step files after kept this name i given long adds place here less before = elim (cases_lt (name_index name) i) [
  | inl less ↦
      let at : kept_at (files ++ kept ∷ []) (name_index name) ≡ kept_at files (name_index name) = grind (arith, common_steps) in
      subst (λ (k : Kept). Agrees k (stable (content given name))) (sym (ap (λ (l : List Kept). kept_at l (name_index name)) adds ∙ at)) (before less)
  | inr behind ↦
      let one : this ≡ name = one-name this name (omega (arith, place, less, behind)) in
      let last : name_index name ≡ length files = omega (arith, less, behind, long) in
      let at : kept_at (files ++ kept ∷ []) (length files) ≡ kept = grind (arith, common_steps) in
      subst (λ (k : Kept). Agrees k (stable (content given name))) (sym (ap (λ (l : List Kept). kept_at l (name_index name)) adds ∙ ap (kept_at (files ++ kept ∷ [])) last ∙ at))
      (subst (λ (n : FileName). Agrees kept (stable (content given n))) one here)
]
