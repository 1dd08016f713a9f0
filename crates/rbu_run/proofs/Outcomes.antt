-- The files have one outcome.
use Rattle.std.proofs.Common.{◌≡◌, ◌<◌, ◌≤◌, ◌≤ℤ◌, ℕ, List, get_or, refl, sym, ap, ap₂, ◌∙◌, subst, ⊎_elim, arith}
use Rattle.std.proofs.lemmas.Int.{ints}
use Rattle.std.proofs.lemmas.Bool.{cases_lt}
use Rattle.std.specs.List.{Contains}
use Rattle.std.proofs.lemmas.List.Elements.{at_from_Contains}
use Rattle.file_spec.specs.declared.FileName.TheVariants.{Target, Rbu}
use Rattle.file_spec.specs.Files.{Files, content}
use Rattle.refusal.specs.declared.Part.{Part}
use Rattle.refusal.specs.declared.Part.TheVariants as part
use Rattle.refusal.specs.declared.Refusal.{Refusal}
use Rattle.refusal.specs.declared.Refusal.TheVariants.{NotYet}
use Rattle.update_spec.specs.declared.Outcome.{Outcome}
use Rattle.update_spec.specs.declared.Outcome.TheVariants.{Done, KeyPresent, Refused}
use Rattle.small_spec.specs.declared.TargetRow.{TargetRow}
use Rattle.small_spec.specs.declared.PreparedRow.{PreparedRow}
use Rattle.small_spec.specs.SmallFile.{IsSmallTarget, IsSmallRbu, target_table}
use Rattle.small_spec.specs.Inserts.{HasDistinctKeys, NonePresent, all_rows, page_room, IsFirstPresent}
use Rattle.small_spec.specs.SmallUpdate.{HasOtherFile, NeedsPart, HasOutcome}
use Rattle.small_update.specs.Decision.{Decides}
use Rattle.small_update.specs.declared.Decision.{Decision}
use Rattle.small_update.specs.declared.Decision.TheVariants as decision
use Rattle.rbu_run.specs.Inspection.{HasOnly, IsSmallWith}

-- files are refused for a part alone
refused-part : (f : Files) (outcome : Outcome) → ((p : Part) → NeedsPart f p → Refused (NotYet p) ≡ outcome) → (refusal : Refusal) → HasOutcome f (Refused refusal) → Refused refusal ≡ outcome
refused-part f outcome each refusal h = ap Refused h.1 ∙ each h.0 h.2

pub HasOnly-files : (f : Files) → HasOtherFile f → HasOnly f (Refused (NotYet part.Files))
HasOnly-files f other Done (old, prepared, can, none) = absurd (can.small.alone other)
HasOnly-files f other (KeyPresent table id) (old, prepared, row, can, first, name, same) = absurd (can.small.alone other)
HasOnly-files f other (Refused refusal) h = refused-part f (Refused (NotYet part.Files)) each refusal h
  where
    each : (p : Part) → NeedsPart f p → Refused (NotYet p) ≡ Refused (NotYet part.Files)
    each part.Words h = absurd h
    each part.Files h = refl
    each part.Target h = absurd (h.0 other)
    each part.Rbu h = absurd (h.0 other)
    each part.Rows (old, prepared, small, shares) = absurd (small.alone other)
    each part.Room (old, prepared, small, keys, room) = absurd (small.alone other)
    each part.Log h = absurd h
    each part.Name h = absurd h

pub HasOnly-target : (f : Files) → (¬ HasOtherFile f) → ((old : List TargetRow) → ¬ IsSmallTarget (content f Target) old) → HasOnly f (Refused (NotYet part.Target))
HasOnly-target f alone none Done (old, prepared, can, absent) = absurd (none old can.small.target)
HasOnly-target f alone none (KeyPresent table id) (old, prepared, row, can, first, name, same) = absurd (none old can.small.target)
HasOnly-target f alone none (Refused refusal) h = refused-part f (Refused (NotYet part.Target)) each refusal h
  where
    each : (p : Part) → NeedsPart f p → Refused (NotYet p) ≡ Refused (NotYet part.Target)
    each part.Words h = absurd h
    each part.Files h = absurd (alone h)
    each part.Target h = refl
    each part.Rbu h = absurd (none h.1.0 h.1.1)
    each part.Rows (old, prepared, small, shares) = absurd (none old small.target)
    each part.Room (old, prepared, small, keys, room) = absurd (none old small.target)
    each part.Log h = absurd h
    each part.Name h = absurd h

pub HasOnly-rbu : (f : Files) → (¬ HasOtherFile f) → (old : List TargetRow) → IsSmallTarget (content f Target) old →
    ((prepared : List PreparedRow) → ¬ IsSmallRbu (content f Rbu) prepared) → HasOnly f (Refused (NotYet part.Rbu))
HasOnly-rbu f alone rows small none Done (old, prepared, can, absent) = absurd (none prepared can.small.rbu)
HasOnly-rbu f alone rows small none (KeyPresent table id) (old, prepared, row, can, first, name, same) = absurd (none prepared can.small.rbu)
HasOnly-rbu f alone rows small none (Refused refusal) h = refused-part f (Refused (NotYet part.Rbu)) each refusal h
  where
    each : (p : Part) → NeedsPart f p → Refused (NotYet p) ≡ Refused (NotYet part.Rbu)
    each part.Words h = absurd h
    each part.Files h = absurd (alone h)
    each part.Target h = absurd (h.1 rows small)
    each part.Rbu h = refl
    each part.Rows (old, prepared, both, shares) = absurd (none prepared both.rbu)
    each part.Room (old, prepared, both, keys, room) = absurd (none prepared both.rbu)
    each part.Log h = absurd h
    each part.Name h = absurd h

-- two places with one key are one place
distinct_keys-one_place : (prepared : List PreparedRow) → HasDistinctKeys prepared → (r s : PreparedRow) → Contains prepared r → Contains prepared s → r.key ≡ s.key → r.data_rowid ≡ s.data_rowid
distinct_keys-one_place prepared keys r s in_r in_s same =
    let j = at_from_Contains prepared r in_r in
    let k = at_from_Contains prepared s in_s in
    let key_r : (get_or prepared j.0 r).key ≡ r.key = ap (λ (x : PreparedRow). x.key) (j.2 r) in
    let key_s : (get_or prepared k.0 r).key ≡ s.key = ap (λ (x : PreparedRow). x.key) (k.2 r) in
    ⊎_elim
    (λ (below : j.0 < k.0). absurd (keys j.0 k.0 r below k.1 (key_r ∙ same ∙ sym key_s)))
    (λ (above : k.0 ≤ j.0). ⊎_elim
    (λ (apart : k.0 < j.0). absurd (keys k.0 j.0 r apart j.1 (key_s ∙ sym same ∙ sym key_r)))
    (λ (not_below : j.0 ≤ k.0).
    let one : j.0 ≡ k.0 = omega arith in
    let row : r ≡ s = sym (j.2 r) ∙ ap (λ (i : ℕ). get_or prepared i r) one ∙ k.2 r in
    ap (λ (x : PreparedRow). x.data_rowid) row)
    (cases_lt k.0 j.0))
    (cases_lt j.0 k.0)

-- of the keys that are present only one is the least
IsFirstPresent-one : (old : List TargetRow) (prepared : List PreparedRow) → HasDistinctKeys prepared → (r s : PreparedRow) → IsFirstPresent old prepared r → IsFirstPresent old prepared s → r.data_rowid ≡ s.data_rowid
IsFirstPresent-one old prepared keys r s first_r first_s =
    let low : r.key ≤ℤ s.key = first_r.least s first_s.among first_s.present in
    let high : s.key ≤ℤ r.key = first_s.least r first_r.among first_r.present in
    distinct_keys-one_place prepared keys r s first_r.among first_s.among (omega (arith, ints))

-- the outcome of a decision
abbrev pub outcome_of : Decision → Outcome
outcome_of decision.SharedKey = Refused (NotYet part.Rows)
outcome_of decision.NoRoom = Refused (NotYet part.Room)
outcome_of (decision.KeyPresent table id) = KeyPresent table id
outcome_of (decision.Merged rows) = Done

module _ (old : List TargetRow) (prepared : List PreparedRow) where
  outcome_of-done : (d : Decision) → Decides old prepared d → HasDistinctKeys prepared → page_room (all_rows old prepared) ≤ 4096 → NonePresent old prepared → Done ≡ outcome_of d
  outcome_of-done decision.SharedKey h keys room none = absurd (h keys)
  outcome_of-done decision.NoRoom h keys room none = absurd (omega (arith, h.1, room))
  outcome_of-done (decision.KeyPresent table id) h keys room none = absurd (none h.2.0 h.2.1.among h.2.1.present)
  outcome_of-done (decision.Merged rows) h keys room none = refl

  outcome_of-present : (d : Decision) → Decides old prepared d → HasDistinctKeys prepared → page_room (all_rows old prepared) ≤ 4096 →
      (row : PreparedRow) → IsFirstPresent old prepared row → KeyPresent target_table.name row.data_rowid ≡ outcome_of d
  outcome_of-present decision.SharedKey h keys room row first = absurd (h keys)
  outcome_of-present decision.NoRoom h keys room row first = absurd (omega (arith, h.1, room))
  outcome_of-present (decision.KeyPresent table id) h keys room row first = ap₂ KeyPresent (sym h.2.2) (IsFirstPresent-one old prepared keys row h.2.0 first h.2.1 ∙ h.2.3)
  outcome_of-present (decision.Merged rows) h keys room row first = absurd (h.2 row first.among first.present)

  outcome_of-rows : (d : Decision) → Decides old prepared d → ¬ HasDistinctKeys prepared → Refused (NotYet part.Rows) ≡ outcome_of d
  outcome_of-rows decision.SharedKey h shares = refl
  outcome_of-rows decision.NoRoom h shares = absurd (shares h.0)
  outcome_of-rows (decision.KeyPresent table id) h shares = absurd (shares h.0)
  outcome_of-rows (decision.Merged rows) h shares = absurd (shares h.0)

  outcome_of-room : (d : Decision) → Decides old prepared d → HasDistinctKeys prepared → 4096 < page_room (all_rows old prepared) → Refused (NotYet part.Room) ≡ outcome_of d
  outcome_of-room decision.SharedKey h keys room = absurd (h keys)
  outcome_of-room decision.NoRoom h keys room = refl
  outcome_of-room (decision.KeyPresent table id) h keys room = absurd (omega (arith, h.1, room))
  outcome_of-room (decision.Merged rows) h keys room = absurd (omega (arith, h.1, room))

-- a fact of rows that are these
rows-carried : {o old : List TargetRow} {p prepared : List PreparedRow} (P : List TargetRow → List PreparedRow → Type 0) → (o ≡ old) × (p ≡ prepared) → P o p → P old prepared
rows-carried {old = old} {p = p} P e fact = subst (P old) e.1 (subst (λ rows. P rows p) e.0 fact)

-- the outcome of what was decided is the only one
pub HasOnly-decided : (f : Files) (target : List ℕ) (old : List TargetRow) (prepared : List PreparedRow) → IsSmallWith target old prepared f →
    (d : Decision) → Decides old prepared d → HasOnly f (outcome_of d)
HasOnly-decided f target old prepared known d decides Done (o, p, can, absent) =
    let same = known.only o p can.small in
    outcome_of-done old prepared d decides
    (rows-carried (λ _ q. HasDistinctKeys q) same can.keys) (rows-carried (λ r q. page_room (all_rows r q) ≤ 4096) same can.room) (rows-carried NonePresent same absent)
HasOnly-decided f target old prepared known d decides (KeyPresent table id) (o, p, row, can, first, named, rowid) =
    let same = known.only o p can.small in
    ap₂ KeyPresent named (sym rowid)
    ∙ outcome_of-present old prepared d decides
    (rows-carried (λ _ q. HasDistinctKeys q) same can.keys) (rows-carried (λ r q. page_room (all_rows r q) ≤ 4096) same can.room) row (rows-carried (λ r q. IsFirstPresent r q row) same first)
HasOnly-decided f target old prepared known d decides (Refused refusal) h = refused-part f (outcome_of d) each refusal h
  where
    each : (p : Part) → NeedsPart f p → Refused (NotYet p) ≡ outcome_of d
    each part.Words h = absurd h
    each part.Files h = absurd (known.small.alone h)
    each part.Target h = absurd (h.1 old known.small.target)
    each part.Rbu h = absurd (h.2 prepared known.small.rbu)
    each part.Rows (o, p, both, shares) =
        outcome_of-rows old prepared d decides (rows-carried (λ _ q. ¬ HasDistinctKeys q) (known.only o p both) shares)
    each part.Room (o, p, both, keys, room) =
        outcome_of-room old prepared d decides (rows-carried (λ _ q. HasDistinctKeys q) (known.only o p both) keys) (rows-carried (λ r q. 4096 < page_room (all_rows r q)) (known.only o p both) room)
    each part.Log h = absurd h
    each part.Name h = absurd h
