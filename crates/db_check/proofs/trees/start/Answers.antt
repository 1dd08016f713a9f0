use Rattle.std.proofs.Common.{true, false, sym, ◌∙◌}
use Rattle.database_spec.specs.ItemsLaws.{true-false}
use Rattle.tree_walk.specs.Places.{low_bound}
use Rattle.db_check.specs.TreeSteps.{InPage, CellsFrom, ChildrenFrom, GoesInto}
use Rattle.db_check.proofs.Steps.{leaves-to}
use Rattle.db_check.proofs.TreePages.{kind-refused}
use Rattle.db_check.proofs.trees.start.Goals as goal

pub returns-then-not-has_kind-clause-steps : goal.returns-then-not-has_kind-clause-steps
returns-then-not-has_kind-clause-steps g c = λ sizes base flags.
    let tree = c.args.tree.now in
    kind-refused sizes base tree.kind c.args.spot c.args.page.now g.row.F.Denot tree flags c.args.walk.now (λ same. true-false c.has_kind.result (c.has_kind.ensures.1 same) c.if-not-has_kind.true)

pub returns-in-Ok-clause-steps : goal.returns-in-Ok-clause-steps
returns-in-Ok-clause-steps g c = λ sizes base flags.
    let tree = c.args.tree.now in
    let page = c.args.page.now in
    let kind_is = c.has_kind.ensures.0 c.if-not-has_kind.false in
    let leaf = sym c.is_leaf.ensures ∙ c.if-is_leaf.true in
    leaves-to tree (InPage sizes base tree.kind c.args.spot page) (CellsFrom sizes base tree.kind page 0) (GoesInto sizes base tree.kind c.args.spot page true) flags flags c.args.walk.now c.start_leaf.new.walk
    (λ findings is. (leaf, kind_is, is)) (c.in-Ok.ensures.steps sizes base tree flags kind_is)

pub returns-in-Err-clause-steps : goal.returns-in-Err-clause-steps
returns-in-Err-clause-steps g c = λ sizes base flags.
    c.in-Err.ensures.steps sizes base c.args.tree.now flags (c.has_kind.ensures.0 c.if-not-has_kind.false)

pub returns-in-Ok-start_interior-clause-steps : goal.returns-in-Ok-start_interior-clause-steps
returns-in-Ok-start_interior-clause-steps g c = λ sizes base flags.
    let tree = c.args.tree.now in
    let page = c.args.page.now in
    let spot = c.args.spot in
    let kind_is = c.has_kind.ensures.0 c.if-not-has_kind.false in
    let inner = sym c.is_leaf.ensures ∙ c.if-is_leaf.false in
    leaves-to tree (InPage sizes base tree.kind spot page) (ChildrenFrom sizes base tree.kind spot.left page (low_bound spot.low) spot.high 0) (GoesInto sizes base tree.kind spot page false) flags flags c.args.walk.now c.args.walk.now
    (λ findings is. (inner, kind_is, is)) (c.in-Ok-start_interior.ensures.steps sizes base tree flags c.args.walk.now kind_is)

pub returns-in-Err-start_interior-clause-steps : goal.returns-in-Err-start_interior-clause-steps
returns-in-Err-start_interior-clause-steps g c = λ sizes base flags.
    c.in-Err-start_interior.ensures.steps sizes base c.args.tree.now flags c.args.walk.now (c.has_kind.ensures.0 c.if-not-has_kind.false)
