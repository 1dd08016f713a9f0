use Rattle.tree_walk.proofs.Lengths.{course-found}
use Rattle.tree_walk.proofs.laws.stores_have_courses.Goals as goal

pub returns : goal.returns
returns c = course-found
