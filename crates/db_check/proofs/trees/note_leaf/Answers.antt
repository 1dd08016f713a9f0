use Rattle.std.proofs.Common.{◌≢◌, Some, refl, ap, ◌∙◌, arith}
use Rattle.db_check.proofs.Taken.{leaf-first, leaf-again, leaf-elsewhere}
use Rattle.db_check.proofs.trees.note_leaf.Goals as goal

pub returns-in-None-clause-steps : goal.returns-in-None-clause-steps
returns-in-None-clause-steps g c = λ tree flags.
    leaf-first tree flags c.args.walk.now (record { leaf = Some c.args.depth; compared = c.args.walk.now.compared }) c.args.page c.args.depth refl c.in-None.is refl

pub returns-then-leaf-depth-clause-steps : goal.returns-then-leaf-depth-clause-steps
returns-then-leaf-depth-clause-steps g c = λ tree flags.
    let apart : c.in-Some.leaf ≢ c.args.depth = λ e. omega (arith, e, c.if-leaf-depth.true) in
    leaf-elsewhere g.row.F.Denot tree flags c.args.walk.now c.args.page c.args.depth c.in-Some.leaf c.in-Some.is apart

pub returns-else-leaf-depth-clause-steps : goal.returns-else-leaf-depth-clause-steps
returns-else-leaf-depth-clause-steps g c = λ tree flags.
    let same = c.in-Some.is ∙ ap Some (omega (arith, c.if-leaf-depth.false)) in
    leaf-again tree flags c.args.walk.now c.args.walk.now c.args.page c.args.depth refl same same
