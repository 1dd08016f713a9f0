use Rattle.std.proofs.Common.{◌≡◌, ◌∙◌, List, Some, slice_get, sym, ap, of_z, to_z, subst, SFits, rules}
use Rattle.std.specs.Int.{w64}
use Rattle.std.specs.Prelude.{Bool}
use Rattle.std.proofs.lemmas.Int.{to_z-of_z}
use Rattle.std.proofs.lemmas.Option.{slice_get-get_or, slice_get_past}
use Rattle.std.proofs.Math.Path.{subst⁻¹}
use Rattle.rbu_value.specs.declared.order.Collation.{Collation}
use Rattle.rbu_value.specs.declared.value.Value.{Value}
use Rattle.database_spec.specs.ItemsLaws.{true-false}
use Rattle.db_check.specs.Compares.{FirstOf}
use Rattle.db_check.proofs.Compared.{IsRowidIn, next-agrees, next-clash, next-entry, next-first}
use Rattle.db_check.proofs.compare.told_at.Goals as goal

pub returns-in_default-clause-tells : goal.returns-in_default-clause-tells
returns-in_default-clause-tells c = λ entries is.
    let tree = c.args.tree.now in
    let e = c.args.entry.now in
    let fits : SFits w64 c.rowid_of.result = search rules in
    next-entry tree entries c.args.compared.now is c.requires e (to_z w64 (of_z w64 c.rowid_of.result)) (slice_get_past tree.expected.now c.args.compared.now.agreed c.in_default.ensures.lookup.3)
    (subst⁻¹ (IsRowidIn tree.columns e) (to_z-of_z w64 c.rowid_of.result fits) (subst (λ (cs : List (Collation × Bool)). IsRowidIn cs e c.rowid_of.result) c.as_slice-columns.ensures c.rowid_of.ensures))

pub returns-then-not-are_same-clause-tells : goal.returns-then-not-are_same-clause-tells
returns-then-not-are_same-clause-tells c = λ entries is.
    let tree = c.args.tree.now in
    let e = c.args.entry.now in
    let p = c.in-Some.row.now in
    let look = c.in-Some.ensures.lookup in
    let there : slice_get tree.expected.now c.args.compared.now.agreed ≡ Some p = slice_get-get_or tree.expected.now c.args.compared.now.agreed p look.3.0 ∙ ap Some (sym look.1) in
    let fits : SFits w64 c.first_of.result = search rules in
    let first = subst (λ (v : List Value). FirstOf c.as_slice-columns.result.now e v c.first_of.result) c.as_slice-then-not-are_same.ensures c.first_of.ensures in
    next-first tree entries c.args.compared.now is c.requires e p (to_z w64 (of_z w64 c.first_of.result)) there
    (λ both. c.are_same.ensures.unlike c.if-not-are_same.true (both ∙ sym c.as_slice.ensures))
    (subst⁻¹ (FirstOf tree.columns e p) (to_z-of_z w64 c.first_of.result fits) (subst (λ (cs : List (Collation × Bool)). FirstOf cs e p c.first_of.result) c.as_slice-columns.ensures first))

pub returns-then-clashes-clause-tells : goal.returns-then-clashes-clause-tells
returns-then-clashes-clause-tells c = λ entries is.
    let tree = c.args.tree.now in
    let e = c.args.entry.now in
    let p = c.in-Some.row.now in
    let look = c.in-Some.ensures.lookup in
    let there : slice_get tree.expected.now c.args.compared.now.agreed ≡ Some p = slice_get-get_or tree.expected.now c.args.compared.now.agreed p look.3.0 ∙ ap Some (sym look.1) in
    let same : e ≡ p = c.are_same.ensures.same c.if-not-are_same.false ∙ c.as_slice.ensures in
    let clashes = c.clashes.ensures.0 c.if-clashes.true in
    let fits : SFits w64 c.rowid_of-then-clashes.result = search rules in
    next-clash tree entries c.args.compared.now is c.requires e p (to_z w64 (of_z w64 c.rowid_of-then-clashes.result)) there same clashes.0 clashes.1
    (subst⁻¹ (IsRowidIn tree.columns e) (to_z-of_z w64 c.rowid_of-then-clashes.result fits)
    (subst (λ (cs : List (Collation × Bool)). IsRowidIn cs e c.rowid_of-then-clashes.result) c.as_slice-columns.ensures c.rowid_of-then-clashes.ensures))

pub returns-clause-tells : goal.returns-clause-tells
returns-clause-tells c = λ entries is.
    let tree = c.args.tree.now in
    let e = c.args.entry.now in
    let p = c.in-Some.row.now in
    let look = c.in-Some.ensures.lookup in
    let there : slice_get tree.expected.now c.args.compared.now.agreed ≡ Some p = slice_get-get_or tree.expected.now c.args.compared.now.agreed p look.3.0 ∙ ap Some (sym look.1) in
    let same : e ≡ p = c.are_same.ensures.same c.if-not-are_same.false ∙ c.as_slice.ensures in
    next-agrees tree entries c.args.compared.now is c.requires e p there same (λ unique clash. true-false c.clashes.result (c.clashes.ensures.1 (unique, clash)) c.if-clashes.false)
