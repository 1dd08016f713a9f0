use Rattle.std.proofs.Common.{rules, FitsSigned, sym, ◌∙◌}
use Rattle.std.specs.Int.{w64}
use Rattle.std.proofs.lemmas.Int.{to_z-of_z}
use mir.Val.{to_z, of_z}
use Rattle.refusal.specs.declared.Rule.TheVariants as broken
use Rattle.tree_walk.specs.Pages.{tree_kind}
use Rattle.tree_walk.specs.Places.{low_at, high_at}
use Rattle.tree_walk.proofs.Calls.{misplaced, stands-below}
use Rattle.tree_walk.proofs.entering.stand_below.Goals as goal

pub returns-then-not-has_kind-clause-answer : goal.returns-then-not-has_kind-clause-answer
returns-then-not-has_kind-clause-answer g c = λ bytes number usable decoded.
    let parent = c.args.parent.now in
    misplaced bytes number usable (tree_kind parent.page.kind) (low_at parent) (high_at parent) c.args.page broken.Kind c.damaged.result c.damaged.ensures.is decoded
    (λ same. let bad = c.has_kind.ensures.1 (same ∙ sym c.tree_kind.ensures) in cc)

pub returns-then-has_no_cell-clause-answer : goal.returns-then-has_no_cell-clause-answer
returns-then-has_no_cell-clause-answer g c = λ bytes number usable decoded.
    let parent = c.args.parent.now in
    misplaced bytes number usable (tree_kind parent.page.kind) (low_at parent) (high_at parent) c.args.page broken.Empty c.damaged-then-has_no_cell.result c.damaged-then-has_no_cell.ensures.is decoded
    (c.has_kind.ensures.0 c.if-not-has_kind.false ∙ c.tree_kind.ensures, c.has_no_cell.ensures.0 c.if-has_no_cell.true)

pub returns-clause-answer : goal.returns-clause-answer
returns-clause-answer g c = λ bytes number usable decoded.
    let fits : FitsSigned w64 c.high_of_child.result = search rules in
    stands-below bytes number usable c.args.parent.now c.low_of_child.result (to_z w64 (of_z w64 c.high_of_child.result)) c.args.page c.stand.result c.low_of_child.ensures (to_z-of_z w64 c.high_of_child.result fits ∙ c.high_of_child.ensures)
    (c.has_kind.ensures.0 c.if-not-has_kind.false ∙ c.tree_kind.ensures) (λ none. let bad = c.has_no_cell.ensures.1 none in cc) c.stand.ensures.answer decoded
