use Rattle.std.proofs.Common.{ℕ, refl}
use Rattle.std.proofs.Math.Path.{subst⁻¹}
use Rattle.tree_walk.specs.Stores.{sizes_of, paged}
use Rattle.db_check.specs.TreeSteps.{IsFresh}
use Rattle.db_check.proofs.Passed.{knows-start, tree-ended}
use Rattle.db_check.specs.CallsLaws.{sees-one}
use Rattle.db_check.proofs.trees.pass_tree.Goals as goal

pub returns-in-Ok-clause-pages : goal.returns-in-Ok-clause-pages
returns-in-Ok-clause-pages g c =
    let store = c.args.store.now in
    sees-one g.S.PageRead c.in-Ok.ensures.pages (λ m step subject before of root_is fresh marked findings walk.
    let own = subst⁻¹ (λ (r : ℕ). IsFresh r before) root_is fresh in
    tree-ended c.args.tree.now subject before own (sizes_of g.S.PageRead store) (paged g.S.PageRead store m) g.row.S-Fault.Denot findings c.visit.new.flags c.visit.new.walk
    (step subject before of (knows-start c.args.tree.now subject before own c.args.flags.now _ marked refl (c.new-compared.ensures c.args.tree.now)) findings walk))

pub returns-in-Err-clause-pages : goal.returns-in-Err-clause-pages
returns-in-Err-clause-pages g c =
    sees-one g.S.PageRead c.in-Err.ensures.pages (λ m wrong subject before of root_is fresh marked findings walk.
    let own = subst⁻¹ (λ (r : ℕ). IsFresh r before) root_is fresh in
    wrong subject before of (knows-start c.args.tree.now subject before own c.args.flags.now _ marked refl (c.new-compared.ensures c.args.tree.now)) findings walk)
