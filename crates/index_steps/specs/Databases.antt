-- Where a step of an index stands among the steps of a transaction.
use Rattle.std.specs.Prelude.{◌≡◌, ◌≢◌, ℕ, ◌+◌, ◌==◌, if◌then◌else◌, List, ◌∷◌, ◌++◌, length, map, sum_by}
use Rattle.std.specs.List.{AllByRecursion}
use Rattle.tree_spec.specs.Trees.{Member}
use Rattle.prepared_spec.specs.declared.violation.Change.{Change}
use Rattle.prepared_spec.specs.MembersLaws.{Has}
use Rattle.prepared_spec.specs.Plans.{IndexPlan, TablePlan, plan_steps, row_steps}

-- the list at a root is another one
abbrev pub with_list : ℕ → List Member → ℕ × List Member → ℕ × List Member
with_list root members list = if list.0 == root then (list.0, members) else list

-- a list stands at a root
abbrev pub HasRoot : List (ℕ × List Member) → ℕ → Type 0
HasRoot lists root = Has root (map (λ (list : ℕ × List Member). list.0) lists)

-- the trees of the plans in front of one, its table and its indexes in front of another stand at other roots than this
pub record AreApart (earlier : List TablePlan) (plan : TablePlan) (before : List IndexPlan) (root : ℕ) : Type 0 where
  pub plans : AllByRecursion (λ (other : TablePlan). (other.root ≢ root) × AllByRecursion (λ (index : IndexPlan). index.root ≢ root) other.indexes) earlier
  pub table : plan.root ≢ root
  pub indexes : AllByRecursion (λ (index : IndexPlan). index.root ≢ root) before

-- Behind so many steps a change of an index of a plan is due, behind others of it that are done.
pub record IsDue (plans : List TablePlan) (n : ℕ) (plan : TablePlan) (index : IndexPlan) (done : List Change) (change : Change) (left : List Change) : Type 0 where
  pub earlier : List TablePlan
  pub later : List TablePlan
  pub plans_are : plans ≡ earlier ++ plan ∷ later
  pub before : List IndexPlan
  pub behind : List IndexPlan
  pub indexes_are : plan.indexes ≡ before ++ index ∷ behind
  pub changes_are : index.changes ≡ done ++ change ∷ left
  pub count : n ≡ sum_by plan_steps earlier + (row_steps plan + (sum_by (λ other. length other.changes) before + length done))
  pub apart : AreApart earlier plan before index.root
