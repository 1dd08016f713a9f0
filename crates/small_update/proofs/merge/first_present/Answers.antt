use Rattle.std.proofs.Common.{◌≡◌, ◌≤ℤ◌, get_or, ap, rules, arith, sym, ◌∙◌, subst, inl, inr, map, ℤ, w64, SFits}
use Rattle.small_spec.specs.declared.TargetRow.{TargetRow}
use Rattle.std.specs.List.{Contains}
use Rattle.std.proofs.lemmas.Bool.{cases_lt, false≢true}
use Rattle.std.proofs.lemmas.Int.{ints, to_z-of_z}
use Rattle.std.proofs.lemmas.List.{get_or_default}
use Rattle.small_spec.specs.declared.PreparedRow.{PreparedRow}
use Rattle.small_spec.specs.Inserts.{IsPresent}
use Rattle.small_update.proofs.Keys.{sorted-le}
use Rattle.small_update.proofs.merge.first_present.Goals as goal

pub returns-then-is_present-clause-present : goal.returns-then-is_present-clause-present
returns-then-is_present-clause-present c =
    let rows = c.args.rows.now in
    let row = c.row-item.result in
    let i = c.loop-row.row-index in
    let fits : SFits w64 row.key = search rules in
    let here : IsPresent c.args.old.now row = subst (λ (key : ℤ). Contains (map (λ (target : TargetRow). target.rowid) c.args.old.now) key) (to_z-of_z w64 row.key fits) (c.is_present.ensures.0 c.if-is_present.true) in
    let least : (other : PreparedRow) → Contains rows other → IsPresent c.args.old.now other → row.key ≤ℤ other.key =
    λ other at present. elim (cases_lt at.0 i) [
      | inl below ↦ absurd (c.loop-row.invariant at.0 other below (subst (λ (x : PreparedRow). IsPresent c.args.old.now x) (sym at.2) present))
      | inr above ↦
          let le = sorted-le (λ (x : PreparedRow). x.key) rows c.requires.sorted i at.0 row above at.1 in
          let first = ap (λ (x : PreparedRow). x.key) c.row-item.is in
          let second = ap (λ (x : PreparedRow). x.key) (get_or_default rows at.0 row other at.1 ∙ at.2) in
          omega (arith, ints)
    ] in
    (row, record { among = (i, c.loop-row-test.true, sym c.row-item.is); present = here; least = least }, omega (arith, ints))

pub loop-row-preserved : goal.loop-row-preserved
loop-row-preserved c k d below present =
    let i = c.loop-row.row-index in
    elim (cases_lt k i) [
      | inl earlier ↦ c.loop-row.invariant k d earlier present
      | inr later ↦
          let row = c.row-item.result in
          let fits : SFits w64 row.key = search rules in
          let at_k : k ≡ i = omega arith in
          let same : get_or c.args.rows.now k d ≡ row = rw at_k (get_or_default c.args.rows.now i d row c.loop-row-test.true ∙ sym c.row-item.is) in
          let here : IsPresent c.args.old.now row = subst (λ (x : PreparedRow). IsPresent c.args.old.now x) same present in
          absurd (false≢true (sym c.if-is_present.false ∙ c.is_present.ensures.1 (subst (λ (key : ℤ). Contains (map (λ (target : TargetRow). target.rowid) c.args.old.now) key) (sym (to_z-of_z w64 row.key fits)) here)))
    ]

pub returns-clause-none : goal.returns-clause-none
returns-clause-none c row at present = c.loop-row.invariant at.0 row (omega arith) (subst (λ (x : PreparedRow). IsPresent c.args.old.now x) (sym at.2) present)
