use Rattle.std.proofs.Common.{Bool, List, subst}
use Rattle.std.specs.List.Sorted.{IsSortedBy}
use Rattle.std.specs.Ordering.{is_lt}
use Rattle.rbu_value.specs.declared.order.Collation.{Collation}
use Rattle.rbu_value.specs.declared.value.Value.{Value}
use Rattle.tree_rows.specs.Rows.{members_of}
use Rattle.db_check.specs.Projections.{HaveEntries, by_entry}
use Rattle.db_check.proofs.Projected.{sorted-projection}
use Rattle.db_check.proofs.projections.project_rows.Goals as goal

pub returns-clause-found : goal.returns-clause-found
returns-clause-found c =
    let members = members_of c.args.rows.now in
    let have : HaveEntries c.args.table.now c.args.index.now members c.in-Ok-Some.entries.items = rw c.in-Ok-Some.field-0-is at c.in-Ok-Some.ensures.found in
    let sorted = c.sort_entries.new.entries.items in
    sorted-projection c.args.index.now c.args.table.now members c.in-Ok-Some.entries.items sorted have c.sort_entries.ensures.permutes
    (subst (λ (columns : List (Collation × Bool)). IsSortedBy (λ (a b : List Value). is_lt (by_entry columns a b)) sorted) c.requires c.sort_entries.ensures.sorted)
