-- How each call on the disk keeps the phase of a save, or leads to the next.
use Rattle.std.proofs.Common.{◌≡◌, ◌≢◌, ◌⊎◌, ℕ, Bool, true, false, List, Option, Some, None, option_map, refl, sym, ap, ◌∙◌, subst, inl, inr}
use Rattle.common_spec.specs.Maps.{set_at}
use Rattle.common_spec.specs.MapsLaws.{set_at-other}
use Rattle.file_spec.specs.declared.FileName.{FileName}
use Rattle.file_spec.specs.declared.FileName.TheVariants.{Target, Oal, Wal, Journal, Rbu, State, StateTemp}
use Rattle.file_spec.specs.Files.{Files, is_name, with_file}
use Rattle.file_spec.specs.FilesLaws.{IsEquality-names}
use Rattle.file_spec.specs.Records.{Stored, MayHold, Names, Record, MayName, HoldsAt, HoldsAll, IsImage, IsApart, IsSound, shown_files, stable}
use Rattle.file_spec.specs.RecordsLaws.{stable-only, stored-here, stored-other}
use Rattle.file_spec.specs.Steps.{with_stored, with_names, with_new, ChangesAt, Changes, synced_at, renamed_at, folder_synced}
use Rattle.state_file.specs.Saving.{HasFirmNames, HasOldOrNew, LeavesOldOrNew}
use Rattle.state_file.specs.Phases.{IsOther, KeepsNames, IsWriting, KeepsOrTakes, IsTaking, HasTemporary}

-- the temporary name is itself
not_itself : (name : FileName) → name ≡ StateTemp → is_name StateTemp name ≡ false → ⊥
not_itself name e apart = let itself : is_name StateTemp name ≡ true = ap (is_name StateTemp) e in absurd (cc)

-- at the start
pub writing-start : (r : Record) → IsSound r → HasFirmNames r → IsWriting r r
writing-start r sound firm = record {
  names = λ names may. record { old = names; may = may; same = λ name apart. refl };
  older = λ names may. record { old = names; may = may; same = λ name apart. refl };
  stored = λ id other. refl;
  apart = λ id is other.
      let here : other.names StateTemp ≡ Some id = firm.temporary other.names other.may ∙ is in
      not_itself other.name (sound.apart other.names other.may other.name StateTemp id other.is here) other.apart;
}

module _ (start : Record) where
  -- a file of the start has its name still
  other-named : (r : Record) → IsWriting start r → (id : ℕ) → IsOther start id → IsOther r id
  other-named r writing id other =
      let kept = writing.older other.names other.may in
      record { names = kept.old; may = kept.may; name = other.name; apart = other.apart; is = sym (kept.same other.name other.apart) ∙ other.is }

  -- a change of the temporary file
  pub writing-changes : (R : Stored → Stored → Type 0) (r q : Record) → IsWriting start r → Changes R StateTemp r q → IsWriting start q
  writing-changes R r q writing changes = at (r.names StateTemp) refl changes
    where
      at : (number : Option ℕ) → r.names StateTemp ≡ number → ChangesAt R StateTemp number r q → IsWriting start q
      at (Some id) e (s, step, is) = subst (IsWriting start) (sym is) (record {
        names = writing.names;
        older = λ names may. let kept = writing.older names may in record { old = kept.old; may = kept.may; same = kept.same };
        stored = λ i other. stored-other r id i s (λ same. writing.apart id e (subst (IsOther start) (sym same) other)) ∙ writing.stored i other;
        apart = writing.apart;
      })
      at None e (id, fresh, rest) = subst (IsWriting start) (sym rest.2) (record {
        names = names;
        older = λ n may. let kept = writing.older n may in record { old = kept.old; may = inr kept.may; same = kept.same };
        stored = λ i other.
            stored-other (with_names r (set_at is_name r.names StateTemp (Some id))) id i rest.0
            (λ same. let named = other-named r writing i other in fresh named.names named.may named.name (named.is ∙ ap Some (sym same)))
            ∙ writing.stored i other;
        apart = λ i is other.
            let named = other-named r writing i other in
            let one : Some id ≡ Some i = is in
            fresh named.names named.may named.name (named.is ∙ sym one);
      })
        where
          names : (n : Names) → MayName (with_new r StateTemp id rest.0) n → KeepsNames start n
          names n (inl now) =
              let kept = writing.names r.names (inl refl) in
              record { old = kept.old; may = kept.may; same = λ name apart. ap (λ (m : Names). m name) now ∙ set_at-other is_name r.names StateTemp name (Some id) apart ∙ kept.same name apart }
          names n (inr there) = writing.names n there

  pub writing-synced : (r : Record) → IsWriting start r → IsWriting start (synced_at r (r.names StateTemp))
  writing-synced r writing = at (r.names StateTemp) refl
    where
      at : (number : Option ℕ) → r.names StateTemp ≡ number → IsWriting start (synced_at r number)
      at None e = writing
      at (Some id) e = record {
        names = writing.names;
        older = λ names may. let kept = writing.older names may in record { old = kept.old; may = kept.may; same = kept.same };
        stored = λ i other. stored-other r id i (stable (r.stored id).shown) (λ same. writing.apart id e (subst (IsOther start) (sym same) other)) ∙ writing.stored i other;
        apart = writing.apart;
      }

  -- the temporary file is whole
  pub writing-whole : (r : Record) (bytes : List ℕ) → IsWriting start r → (whole : HasTemporary bytes r) → IsTaking start whole.id bytes r
  writing-whole r bytes writing whole = record {
    names = λ names may. let kept = writing.names names may in record { old = kept.old; may = kept.may; state = inl (kept.same State refl); same = λ name apart other. kept.same name other };
    stored = writing.stored;
    whole = whole.whole;
  }

  module _ (temporary : ℕ) (bytes : List ℕ) where
    -- it takes the name, and a crash may still leave that out
    pub taking-renamed : (r : Record) → IsTaking start temporary bytes r → r.names StateTemp ≡ Some temporary → IsTaking start temporary bytes (renamed_at r StateTemp State (r.names StateTemp))
    taking-renamed r taking is = subst (λ number. IsTaking start temporary bytes (renamed_at r StateTemp State number)) (sym is) (record { names = names; stored = taking.stored; whole = taking.whole })
      where
        names : (n : Names) → MayName (renamed_at r StateTemp State (Some temporary)) n → KeepsOrTakes start temporary n
        names n (inl now) =
            let kept = taking.names r.names (inl refl) in
            record {
              old = kept.old;
              may = kept.may;
              state = inr (ap (λ (m : Names). m State) now);
              same = λ name apart other.
                  ap (λ (m : Names). m name) now
                  ∙ set_at-other is_name (set_at is_name r.names StateTemp None) State name (Some temporary) apart
                  ∙ set_at-other is_name r.names StateTemp name None other
                  ∙ kept.same name apart other;
            }
        names n (inr there) = taking.names n there

    pub renamed-state : (r : Record) → r.names StateTemp ≡ Some temporary → (renamed_at r StateTemp State (r.names StateTemp)).names State ≡ Some temporary
    renamed-state r is = subst (λ number. (renamed_at r StateTemp State number).names State ≡ Some temporary) (sym is) refl

    -- a sync of the folder leaves the names that are shown
    pub taking-settled : (r : Record) → IsTaking start temporary bytes r → IsTaking start temporary bytes (folder_synced r)
    taking-settled r taking = record { names = names; stored = taking.stored; whole = taking.whole }
      where
        names : (n : Names) → MayName (folder_synced r) n → KeepsOrTakes start temporary n
        names n (inl now) = taking.names n (inl now)
        names n (inr none) = absurd none

    pub settled-state : (r : Record) → r.names State ≡ Some temporary → (n : Names) → MayName (folder_synced r) n → n State ≡ Some temporary
    settled-state r is n (inl now) = ap (λ (m : Names). m State) now ∙ is
    settled-state r is n (inr none) = absurd none

-- a file of the start, under a name that has it
kept_file : (start r : Record) (names : Names) → MayName start names → ((id : ℕ) → IsOther start id → r.stored id ≡ start.stored id)
    → (name : FileName) → is_name StateTemp name ≡ false → (number : Option ℕ) → names name ≡ number → (file : Option (List ℕ)) → HoldsAt r.stored number file → HoldsAt start.stored number file
kept_file start r names may stored name apart None e file holds = holds
kept_file start r names may stored name apart (Some id) e file holds =
    (holds.0, holds.1, subst (λ (s : Stored). MayHold s holds.0) (stored id (record { names = names; may = may; name = name; apart = apart; is = e })) holds.2)

-- what is shown is what a crash may leave
shown_file : (r : Record) → IsSound r → (number : Option ℕ) → HoldsAt r.stored number (option_map (λ id. (r.stored id).shown) number)
shown_file r sound None = refl
shown_file r sound (Some id) = ((r.stored id).shown, refl, sound.shows id)

-- an image of names that are those of the start, but for the temporary one and maybe the state file
image_before : (start r : Record) (names old : Names) (left : Files) → IsSound start → MayName start old → ((id : ℕ) → IsOther start id → r.stored id ≡ start.stored id)
    → HoldsAll r.stored names left → ((name : FileName) → is_name State name ≡ false → is_name StateTemp name ≡ false → names name ≡ old name)
    → (state : Option (List ℕ)) → HoldsAt start.stored (old State) state
    → IsImage start (with_file (with_file left StateTemp (option_map (λ id. (start.stored id).shown) (old StateTemp))) State state)
image_before start r names old left sound may stored holds same state holds_state = (old, may, each)
  where
    other : (name : FileName) → is_name State name ≡ false → is_name StateTemp name ≡ false → HoldsAt start.stored (old name) (left name)
    other name apart also =
        kept_file start r old may stored name also (old name) refl (left name) (subst (λ number. HoldsAt r.stored number (left name)) (same name apart also) (holds name))

    each : HoldsAll start.stored old (with_file (with_file left StateTemp (option_map (λ id. (start.stored id).shown) (old StateTemp))) State state)
    each Target = other Target refl refl
    each Oal = other Oal refl refl
    each Wal = other Wal refl refl
    each Journal = other Journal refl refl
    each Rbu = other Rbu refl refl
    each State = holds_state
    each StateTemp = shown_file start sound (old StateTemp)

old_or_new : (bytes : List ℕ) (left : Files) (x y : Option (List ℕ)) → (left State ≡ y) ⊎ (left State ≡ Some bytes) → HasOldOrNew bytes (with_file (with_file left StateTemp x) State y) left
old_or_new bytes left x y state = record {
  state = state;
  others = λ name apart also. sym (set_at-other is_name (with_file left StateTemp x) State name y apart ∙ set_at-other is_name left StateTemp name x also);
}

-- an image while the temporary file is written has the old state
pub writing-image : (start r : Record) (bytes : List ℕ) → IsSound start → IsWriting start r → (left : Files) → IsImage r left → LeavesOldOrNew bytes start left
writing-image start r bytes sound writing left image =
    let kept = writing.names image.0 image.1 in
    let state : HoldsAt start.stored (kept.old State) (left State) =
    kept_file start r kept.old kept.may writing.stored State refl (kept.old State) refl (left State) (subst (λ number. HoldsAt r.stored number (left State)) (kept.same State refl) (image.2 State)) in (
      with_file (with_file left StateTemp (option_map (λ id. (start.stored id).shown) (kept.old StateTemp))) State (left State),
      image_before start r image.0 kept.old left sound kept.may writing.stored image.2 (λ name apart also. kept.same name also) (left State) state,
      old_or_new bytes left (option_map (λ id. (start.stored id).shown) (kept.old StateTemp)) (left State) (inl refl),
    )

-- the state file of an image whose names give it the temporary one
taken_state : (r : Record) (temporary : ℕ) (bytes : List ℕ) (names : Names) (left : Files) → r.stored temporary ≡ stable bytes → names State ≡ Some temporary → HoldsAll r.stored names left → left State ≡ Some bytes
taken_state r temporary bytes names left whole is holds =
    let there : HoldsAt r.stored (Some temporary) (left State) = subst (λ number. HoldsAt r.stored number (left State)) is (holds State) in
    there.1 ∙ ap Some (stable-only bytes there.0 (subst (λ (s : Stored). MayHold s there.0) whole there.2))

-- an image while it takes the name has the old state or the new
pub taking-image : (start r : Record) (temporary : ℕ) (bytes : List ℕ) → IsSound start → IsTaking start temporary bytes r → (left : Files) → IsImage r left → LeavesOldOrNew bytes start left
taking-image start r temporary bytes sound taking left image = at kept.state
  where
    kept : KeepsOrTakes start temporary image.0
    kept = taking.names image.0 image.1

    at : (image.0 State ≡ kept.old State) ⊎ (image.0 State ≡ Some temporary) → LeavesOldOrNew bytes start left
    at (inl same) =
        let state : HoldsAt start.stored (kept.old State) (left State) =
        kept_file start r kept.old kept.may taking.stored State refl (kept.old State) refl (left State) (subst (λ number. HoldsAt r.stored number (left State)) same (image.2 State)) in (
          with_file (with_file left StateTemp (option_map (λ id. (start.stored id).shown) (kept.old StateTemp))) State (left State),
          image_before start r image.0 kept.old left sound kept.may taking.stored image.2 kept.same (left State) state,
          old_or_new bytes left (option_map (λ id. (start.stored id).shown) (kept.old StateTemp)) (left State) (inl refl),
        )
    at (inr is) =
        let shown : Option (List ℕ) = option_map (λ id. (start.stored id).shown) (kept.old State) in (
          with_file (with_file left StateTemp (option_map (λ id. (start.stored id).shown) (kept.old StateTemp))) State shown,
          image_before start r image.0 kept.old left sound kept.may taking.stored image.2 kept.same shown (shown_file start sound (kept.old State)),
          old_or_new bytes left (option_map (λ id. (start.stored id).shown) (kept.old StateTemp)) shown (inr (taken_state r temporary bytes image.0 left taking.whole is image.2)),
        )

-- and the new one where every crash leaves the name
pub taken-image : (start r : Record) (temporary : ℕ) (bytes : List ℕ) → IsTaking start temporary bytes r → ((n : Names) → MayName r n → n State ≡ Some temporary)
    → (left : Files) → IsImage r left → left State ≡ Some bytes
taken-image start r temporary bytes taking named left image = taken_state r temporary bytes image.0 left taking.whole (named image.0 image.1) image.2

-- a sync makes what is shown stable
pub synced-temporary : (r : Record) (bytes : List ℕ) → shown_files r StateTemp ≡ Some bytes → HasTemporary bytes (synced_at r (r.names StateTemp))
synced-temporary r bytes shown = at (r.names StateTemp) refl
  where
    at : (number : Option ℕ) → r.names StateTemp ≡ number → HasTemporary bytes (synced_at r number)
    at None e = let lost : None ≡ Some bytes = sym (ap (option_map (λ i. (r.stored i).shown)) e) ∙ shown in absurd (cc)
    at (Some id) e =
        let held : Some (r.stored id).shown ≡ Some bytes = sym (ap (option_map (λ i. (r.stored i).shown)) e) ∙ shown in
        let same : (r.stored id).shown ≡ bytes = cc in
        record { id = id; named = e; whole = stored-here r id (stable (r.stored id).shown) ∙ ap stable same }
