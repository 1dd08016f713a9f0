use Rattle.std.proofs.Common.{None}
use Rattle.tree_spec.specs.Bounds.{greatest_rowid}
use Rattle.tree_walk.proofs.Calls.{root-misplaced, stands-kind, stands-root}
use Rattle.tree_walk.proofs.entering.stand_at_root.Goals as goal

pub returns-then-not-has_kind-clause-answer : goal.returns-then-not-has_kind-clause-answer
returns-then-not-has_kind-clause-answer g c = λ bytes number usable decoded.
    root-misplaced bytes number usable c.args.kind c.args.page c.damaged.result c.damaged.ensures.is decoded (λ same. let bad = c.has_kind.ensures.1 same in cc)

pub returns-clause-answer : goal.returns-clause-answer
returns-clause-answer g c = λ bytes number usable decoded.
    stands-root bytes number usable c.args.kind c.args.page c.stand.result (c.has_kind.ensures.0 c.if-not-has_kind.false) c.stand.ensures.answer decoded

pub returns-clause-of_kind : goal.returns-clause-of_kind
returns-clause-of_kind g c = stands-kind c.args.kind None greatest_rowid c.args.page c.stand.result (c.has_kind.ensures.0 c.if-not-has_kind.false) c.stand.ensures.answer
