use Rattle.std.proofs.Common.{reverse, refl}
use Rattle.tree_walk.proofs.Paths.{path-moved}
use Rattle.tree_walk.proofs.path.Cursor.aim.Goals as goal

pub invariant_of-self : goal.invariant_of-self
invariant_of-self c = let old = c.args.self.now in record { path = path-moved (reverse old.above.items) old.here _ (record { page_is = refl; low_is = refl; high_is = refl }) old.path }
