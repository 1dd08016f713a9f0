use Rattle.std.proofs.Common.{ℕ, List, subst}
use Rattle.std.proofs.Math.Path.{subst⁻¹}
use Rattle.tree_walk.specs.Stores.{sizes_of, paged}
use Rattle.db_check.specs.declared.fault.CheckFault.{CheckFault}
use Rattle.db_check.specs.Steps.{Refuses, Steps, Ended}
use Rattle.db_check.specs.TreeSteps.{HoldsMember, MemberAt}
use Rattle.db_check.specs.CallsLaws.{sees-one}
use Rattle.db_check.proofs.Steps.{steps-from}
use Rattle.db_check.proofs.TreeCells.{member-read, member-refused}
use Rattle.db_check.proofs.cells.read_member.Goals as goal

pub returns-in-Ok-clause-pages : goal.returns-in-Ok-clause-pages
returns-in-Ok-clause-pages g c =
    let a = c.args in
    let store = a.store.now in
    let tree = a.tree.now in
    let page = a.page.now in
    let payload = c.in-Ok.payload in
    sees-one g.S.PageRead c.in-Ok.ensures.pages (λ m reads flags.
    let sizes = sizes_of g.S.PageRead store in
    let base = paged g.S.PageRead store m in
    steps-from tree (MemberAt sizes base tree.kind page a.at) (HoldsMember page.number payload) Ended flags flags a.walk.now c.take_member.new.walk c.take_member.result
    (member-read sizes base tree.kind page c.requires.kind a.at g.row.S-Fault.Denot payload reads)
    (subst (λ (p : List ℕ). Steps {F = g.row.S-Fault.Denot} tree (HoldsMember page.number p) Ended flags flags a.walk.now c.take_member.new.walk c.take_member.result) c.as_slice.ensures (c.take_member.ensures.steps flags)))

pub returns-in-Err-clause-pages : goal.returns-in-Err-clause-pages
returns-in-Err-clause-pages g c =
    let a = c.args in
    let store = a.store.now in
    let tree = a.tree.now in
    let page = a.page.now in
    sees-one g.S.PageRead c.in-Err.ensures.pages (λ m bad flags.
    let sizes = sizes_of g.S.PageRead store in
    let base = paged g.S.PageRead store m in
    subst⁻¹ (λ (f : CheckFault g.row.S-Fault.Denot). Refuses tree (MemberAt sizes base tree.kind page a.at) flags a.walk.now f) c.told.ensures.is
    (member-refused sizes base tree.kind page c.requires.kind a.at tree flags a.walk.now c.in-Err.fault bad))
