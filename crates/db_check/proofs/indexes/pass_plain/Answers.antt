use Rattle.std.proofs.Common.{refl, sym, subst}
use Rattle.std.proofs.Math.Path.{subst⁻¹}
use Rattle.database_spec.specs.FileFindings.{Content}
use Rattle.database_spec.specs.Walks.{members_found}
use Rattle.tree_spec.specs.declared.TreeKind.TheVariants.{Index as IndexTree}
use Rattle.db_check.specs.declared.walk.CheckedTree.{CheckedTree}
use Rattle.db_check.specs.declared.walk.Members.TheVariants.{Entries}
use Rattle.db_check.specs.Steps.{AreCompared, IsOf}
use Rattle.db_check.specs.CallsLaws.{sees-one}
use Rattle.db_check.proofs.indexes.pass_plain.Goals as goal

pub returns-in-Ok-clause-pages : goal.returns-in-Ok-clause-pages
returns-in-Ok-clause-pages g c =
    let index = c.args.index.now in
    let tree : CheckedTree = record { kind = IndexTree; members = Entries; columns = c.args.columns; unique = index.unique; expected = c.args.expected } in
    sees-one g.S.PageRead c.in-Ok.ensures.pages (λ m step subject rows before content root_is fresh marked findings walk.
    let ended = step subject before (subst⁻¹ (IsOf tree) content (refl, c.requires.columns)) root_is fresh marked findings walk in
    let members = members_found findings in
    let are = subst (λ (k : Content). AreCompared tree k members c.in-Ok.compared) content ended.2 in (
      ended.0,
      ended.1,
      λ projection. c.first_that_disagrees.ensures index rows members are.0 (sym c.requires.columns) refl are.1 projection are.2,
    ))

pub returns-clause-pages : goal.returns-clause-pages
returns-clause-pages g c =
    let index = c.args.index.now in
    let tree : CheckedTree = record { kind = IndexTree; members = Entries; columns = c.args.columns; unique = index.unique; expected = c.args.expected } in
    sees-one g.S.PageRead c.in-Err.ensures.pages (λ m wrong subject rows before content root_is fresh marked findings walk.
    wrong subject before (subst⁻¹ (IsOf tree) content (refl, c.requires.columns)) root_is fresh marked findings walk)
