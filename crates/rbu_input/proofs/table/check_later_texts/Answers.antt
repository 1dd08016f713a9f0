use Rattle.std.proofs.Common.{◌≡◌, ℕ, List, ◌∷◌, map, None, Result, Err, subst}
use Rattle.schema_spec.specs.declared.schema.SqlFault.{SqlFault}
use Rattle.schema_spec.specs.declared.schema.Index.{Index}
use Rattle.prepared_spec.specs.DataTables.{first_fault, meaning_fault}
use Rattle.rbu_input.specs.Tables.{Tells, meanings_faults}
use Rattle.rbu_input.proofs.Telling.{tells-front, tells-behind}
use Rattle.rbu_input.proofs.table.check_later_texts.Goals as goal

pub returns-in-Err : goal.returns-in-Err
returns-in-Err c =
    let named = c.args.named.now in
    let rest = meaning_fault c.args.source.now c.args.own.now ∷ meanings_faults c.args.source.now named named.entry.meaning c.args.own.now in
    tells-front (map (λ (index : ℕ × Result Index SqlFault). meaning_fault named.name index.1) named.entry.indexes) rest c.in-Err.fault
    (subst (λ (name : List ℕ). Tells (first_fault (map (λ (index : ℕ × Result Index SqlFault). meaning_fault name index.1) named.entry.indexes)) (Err c.in-Err.fault)) c.as_slice.ensures
    (subst (λ (indexes : List (ℕ × Result Index SqlFault)). Tells (first_fault (map (λ (index : ℕ × Result Index SqlFault). meaning_fault c.as_slice.result.now index.1) indexes)) (Err c.in-Err.fault)) c.as_slice-2.ensures
    c.in-Err.ensures))

pub returns : goal.returns
returns c =
    let named = c.args.named.now in
    let rest = meaning_fault c.args.source.now c.args.own.now ∷ meanings_faults c.args.source.now named named.entry.meaning c.args.own.now in
    tells-behind (map (λ (index : ℕ × Result Index SqlFault). meaning_fault named.name index.1) named.entry.indexes) rest c.check_own_text.result
    (subst (λ (name : List ℕ). first_fault (map (λ (index : ℕ × Result Index SqlFault). meaning_fault name index.1) named.entry.indexes) ≡ None) c.as_slice.ensures
    (subst (λ (indexes : List (ℕ × Result Index SqlFault)). first_fault (map (λ (index : ℕ × Result Index SqlFault). meaning_fault c.as_slice.result.now index.1) indexes) ≡ None) c.as_slice-2.ensures
    c.in-Ok.ensures))
    c.check_own_text.ensures
