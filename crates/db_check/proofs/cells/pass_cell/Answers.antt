use Rattle.std.proofs.Common.{◌≡◌, ◌-◌, ℕ, List, Bool, Ok, Err, subst, arith}
use Rattle.tree_walk.specs.Stores.{sizes_of, paged}
use Rattle.db_check.specs.Passes.{PassesChain}
use Rattle.db_check.specs.Steps.{Steps, Ended}
use Rattle.db_check.specs.TreeSteps.{CellAt, MemberAt}
use Rattle.db_check.specs.CallsLaws.{sees-both, sees-one}
use Rattle.db_check.proofs.Steps.{steps-then}
use Rattle.db_check.proofs.TreeCells.{chain-left, chain-refused}
use Rattle.db_check.proofs.cells.pass_cell.Goals as goal

pub returns-in-Ok-clause-pages : goal.returns-in-Ok-clause-pages
returns-in-Ok-clause-pages g c =
    let a = c.args in
    let store = a.store.now in
    let page = a.page.now in
    let kind = a.tree.now.kind in
    let view = c.view_at-view.result in
    let rest : c.saturating_sub-rest.result ≡ view.payload - view.local = omega (arith, c.saturating_sub-rest.ensures, c.from.ensures) in
    let first = c.in-Ok.ensures in
    let second = c.pass_member.ensures in
    sees-both g.S.PageRead
    (λ sizes base. (flags : List Bool) → Steps a.tree.now (MemberAt sizes base kind page a.at) Ended flags flags a.walk.now c.pass_member.new.walk c.pass_member.result) first.pages first.owes.stays second.pages
    (λ m passed member.
    let sizes = sizes_of g.S.PageRead store in
    let base = paged g.S.PageRead store m in
    let chained = subst (λ (n : ℕ). PassesChain sizes.size sizes.usable base.count {F = g.row.S-Fault.Denot} page.number view.overflow n a.flags.now c.pass_overflow.new.flags (Ok tt) m) rest passed in
    steps-then a.tree.now (CellAt sizes base kind page a.at) (MemberAt sizes base kind page a.at) Ended a.flags.now c.pass_overflow.new.flags c.pass_overflow.new.flags a.walk.now a.walk.now c.pass_member.new.walk c.pass_member.result
    (chain-left sizes base kind page c.requires.kind a.at g.row.S-Fault.Denot a.tree.now a.flags.now c.pass_overflow.new.flags a.walk.now view c.view_at-view.ensures chained)
    (member c.pass_overflow.new.flags))

pub returns-in-Err-clause-pages : goal.returns-in-Err-clause-pages
returns-in-Err-clause-pages g c =
    let a = c.args in
    let store = a.store.now in
    let page = a.page.now in
    let kind = a.tree.now.kind in
    let view = c.view_at-view.result in
    let rest : c.saturating_sub-rest.result ≡ view.payload - view.local = omega (arith, c.saturating_sub-rest.ensures, c.from.ensures) in
    sees-one g.S.PageRead c.in-Err.ensures.pages
    (λ m passed.
    let sizes = sizes_of g.S.PageRead store in
    let base = paged g.S.PageRead store m in
    let chained = subst (λ (n : ℕ). PassesChain sizes.size sizes.usable base.count {F = g.row.S-Fault.Denot} page.number view.overflow n a.flags.now c.pass_overflow.new.flags (Err c.in-Err.fault) m) rest passed in
    chain-refused sizes base kind page c.requires.kind a.at a.tree.now a.flags.now c.pass_overflow.new.flags a.walk.now view c.in-Err.fault c.view_at-view.ensures chained)
