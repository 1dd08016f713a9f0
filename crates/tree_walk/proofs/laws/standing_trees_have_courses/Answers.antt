use Rattle.tree_walk.proofs.Sought.{sought-course}
use Rattle.tree_walk.proofs.TreeCourses.{tree-course}
use Rattle.tree_walk.proofs.laws.standing_trees_have_courses.Goals as goal

pub returns-clause-first : goal.returns-clause-first
returns-clause-first c = λ sizes base root kind depth members numbers is. let found = tree-course sizes base root kind depth members numbers is in (found.course, found.walk, found.members_are)

pub returns-clause-sought : goal.returns-clause-sought
returns-clause-sought c = λ sizes base root depth members numbers rowid is. let found = sought-course sizes base rowid root depth members numbers is in (found.course, found.walk, found.members_are)
