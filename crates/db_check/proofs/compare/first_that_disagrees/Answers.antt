use Rattle.std.proofs.Common.{◌≡◌, ◌∙◌, List, Some, slice_get, refl, sym, ap, of_z, to_z, subst, SFits, rules}
use Rattle.std.specs.Int.{w64}
use Rattle.std.specs.Prelude.{Bool}
use Rattle.std.proofs.lemmas.Int.{to_z-of_z}
use Rattle.std.proofs.lemmas.Option.{slice_get-get_or, slice_get_past}
use Rattle.std.proofs.Math.Path.{subst⁻¹}
use Rattle.rbu_value.specs.declared.order.Collation.{Collation}
use Rattle.rbu_value.specs.declared.value.Value.{Value}
use Rattle.db_check.proofs.Compared.{IsRowidIn, none-there, tells-none, tells-row, tells-told}
use Rattle.db_check.proofs.compare.first_that_disagrees.Goals as goal

pub returns-then-is_some : goal.returns-then-is_some
returns-then-is_some c = λ index rows members entries same unique are proj is.
    tells-told c.args.tree.now index rows members entries same unique are proj c.args.compared.now is c.args.compared.now.told refl (sym c.is_some.ensures ∙ c.if-is_some.true)

pub returns-in-Some : goal.returns-in-Some
returns-in-Some c = λ index rows members entries same unique are proj is.
    let tree = c.args.tree.now in
    let look = c.in-Some.ensures.lookup in
    let p = c.in-Some.row.now in
    let there : slice_get tree.expected.now c.args.compared.now.agreed ≡ Some p = slice_get-get_or tree.expected.now c.args.compared.now.agreed p look.3.0 ∙ ap Some (sym look.1) in
    let fits : SFits w64 c.rowid_of.result = search rules in
    let rowid = subst (λ (v : List Value). IsRowidIn c.as_slice.result.now v c.rowid_of.result) c.as_slice-in-Some.ensures c.rowid_of.ensures in
    tells-row tree index rows members entries same unique are proj c.args.compared.now is (none-there c.args.compared.now.told (sym c.is_some.ensures ∙ c.if-is_some.false)) p (to_z w64 (of_z w64 c.rowid_of.result)) there
    (subst⁻¹ (IsRowidIn tree.columns p) (to_z-of_z w64 c.rowid_of.result fits) (subst (λ (cs : List (Collation × Bool)). IsRowidIn cs p c.rowid_of.result) c.as_slice.ensures rowid))

pub returns-in-None : goal.returns-in-None
returns-in-None c = λ index rows members entries same unique are proj is.
    tells-none c.args.tree.now index rows members entries same unique are proj c.args.compared.now is (none-there c.args.compared.now.told (sym c.is_some.ensures ∙ c.if-is_some.false))
    (slice_get_past c.args.tree.now.expected.now c.args.compared.now.agreed c.in-None.ensures.lookup.3)
