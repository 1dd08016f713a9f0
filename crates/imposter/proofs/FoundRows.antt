-- What is found of the row of a rowid, read as values.
use Rattle.std.proofs.Common.{◌≡◌, ℕ, ℤ, List, Option, Some, None, Result, Ok, Err, ◌∙◌, subst, inl, inr}
use Rattle.std.proofs.Math.Path.{subst⁻¹}
use Rattle.std.specs.Prelude.{Contains, MatchResult}
use Rattle.rbu_value.specs.declared.value.Value.{Value}
use Rattle.tree_spec.specs.declared.fault.TreeFault.{TreeFault}
use Rattle.tree_spec.specs.Standing.{Sizes, Paged}
use Rattle.tree_walk.specs.declared.cursor.Row.{Row}
use Rattle.found_row.specs.Finds.{FindsRow}
use Rattle.pass_fault.specs.declared.fault.PassFault.{PassFault}
use Rattle.pass_fault.specs.declared.fault.PassFault.TheVariants.{Tree}
use Rattle.row_values.specs.Values.{HasValues, member_with}
use Rattle.imposter.specs.declared.target.Target.{Target}
use Rattle.imposter.specs.Finds.{FindsMet, IsMetIn, IsMissedIn, IsUnreadRow, ReadsMet}

module _ {F : Type 0} (sizes : Sizes) (base : Paged) (target : Target) (rowid : ℤ) where
  pub met-found : (found : Option Row) (result : Result (Option (ℤ × List Value)) (PassFault F)) → FindsRow {F = F} sizes base target.root rowid (Ok found) → ReadsMet target found result
      → FindsMet sizes base target rowid result
  met-found None result first reads = λ depth members numbers is.
      subst⁻¹ (λ (r : Result (Option (ℤ × List Value)) (PassFault F)). MatchResult r (IsMetIn target.table rowid members) (IsMissedIn target rowid members)) reads (first depth members numbers is)
  met-found (Some row) (Ok met) first reads = λ depth members numbers is.
      let own = first depth members numbers is in
      subst⁻¹ (IsMetIn target.table rowid members) reads.1
      (reads.2 ∙ own.0, (row.payload, subst (λ (z : ℤ). Contains members (member_with z row.payload)) own.0 own.1, subst (λ (z : ℤ). HasValues target.table z row.payload reads.0.1) own.0 reads.3))
  met-found (Some row) (Err fault) first reads = λ depth members numbers is.
      let own = first depth members numbers is in
      elim reads [
        | inl wants ↦ inl wants
        | inr unread ↦ inr (row.payload, subst (λ (z : ℤ). Contains members (member_with z row.payload)) own.0 own.1, subst (λ (z : ℤ). IsUnreadRow target z row.payload fault) own.0 unread)
      ]

  pub met-refused : (fault : TreeFault F) → FindsRow {F = F} sizes base target.root rowid (Err fault) → FindsMet sizes base target rowid (Err (Tree fault))
  met-refused fault first = λ depth members numbers is. inl (first depth members numbers is)
