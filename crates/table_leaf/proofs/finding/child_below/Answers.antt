use Rattle.std.proofs.Common.{ℤ, subst, to_z, of_z}
use Rattle.std.proofs.lemmas.Int.{to_z-of_z}
use Rattle.std.proofs.lemmas.Option.{IfSome_then}
use Rattle.std.specs.Int.{w64}
use Rattle.put_spec.specs.Children.{Belongs}
use Rattle.put_spec.specs.Steps.{views_in}
use Rattle.table_leaf.proofs.finding.child_below.Goals as goal

pub returns : goal.returns
returns c =
    let at = c.in-Some.at in
    IfSome_then c.child_at.result c.child_at.ensures (λ child names. λ cells right bound are climbs. (
      at,
      subst (λ (r : ℤ). Belongs r at (views_in cells)) (to_z-of_z w64 c.args.rowid c.ranges.rowid) (c.in-Some.ensures.index cells right bound are climbs),
      names cells right are,
    ))
