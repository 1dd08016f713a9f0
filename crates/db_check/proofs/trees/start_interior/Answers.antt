use Rattle.database_spec.specs.ItemsLaws.{true-false}
use Rattle.db_check.proofs.TreePages.{interior-starts, interior-bare}
use Rattle.db_check.proofs.trees.start_interior.Goals as goal

pub returns-then-is_bare-clause-steps : goal.returns-then-is_bare-clause-steps
returns-then-is_bare-clause-steps g c = λ sizes base tree flags walk kind_is.
    let bare = c.is_bare.ensures.0 c.if-is_bare.true in
    interior-bare sizes base tree.kind c.args.spot c.args.page.now g.row.F.Denot tree flags walk kind_is c.requires.interior bare.0 bare.1 bare.2

pub returns-clause-steps : goal.returns-clause-steps
returns-clause-steps g c = λ sizes base tree flags walk kind_is.
    interior-starts sizes base tree.kind c.args.spot c.args.page.now tree flags walk c.in_order.result kind_is c.requires.interior
    (λ is_root apart empty. true-false c.is_bare.result (c.is_bare.ensures.1 (is_root, apart, empty)) c.if-is_bare.false) c.in_order.ensures.answer
