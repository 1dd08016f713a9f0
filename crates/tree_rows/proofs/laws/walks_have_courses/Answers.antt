use Rattle.walk_laws.specs.WalksMadeLaws.{walk-found}
use Rattle.tree_rows.specs.CoursesLaws.{walk-course}
use Rattle.tree_rows.proofs.laws.walks_have_courses.Goals as goal

pub returns-clause-found : goal.returns-clause-found
returns-clause-found c = walk-course

pub returns-clause-some : goal.returns-clause-some
returns-clause-some c = λ sizes base kind root.
    let walk = walk-found sizes base kind root in
    let found = walk-course sizes base kind root walk.0 walk.1 in
    (found.0, found.1)
