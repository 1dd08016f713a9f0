use Rattle.std.proofs.Math.Path.{subst⁻¹}
use Rattle.tree_spec.specs.declared.TreeKind.{TreeKind}
use Rattle.tree_walk.specs.Stores.{sizes_of, paged}
use Rattle.database_spec.specs.Walks.{IsWalk}
use Rattle.db_check.proofs.Indexed.{of-members}
use Rattle.db_check.specs.CallsLaws.{sees-one}
use Rattle.db_check.proofs.indexes.pass_members.Goals as goal

pub returns-in-Ok-clause-pages : goal.returns-in-Ok-clause-pages
returns-in-Ok-clause-pages g c =
    let tree = c.tree_of-tree.result in
    sees-one g.S.PageRead c.in-Ok.ensures.pages (λ m step subject before has root_is fresh marked findings walk.
    let own = subst⁻¹ (λ (kind : TreeKind). IsWalk (sizes_of g.S.PageRead c.args.store.now) (paged g.S.PageRead c.args.store.now m) kind c.args.root findings) c.tree_of-tree.ensures.kind walk in
    let ended = step subject before (of-members c.args.members subject.content has tree c.tree_of-tree.ensures.members) root_is fresh marked findings own in (ended.0, ended.1))

pub returns-clause-pages : goal.returns-clause-pages
returns-clause-pages g c =
    let tree = c.tree_of-tree.result in
    sees-one g.S.PageRead c.in-Err.ensures.pages (λ m wrong subject before has root_is fresh marked findings walk.
    let own = subst⁻¹ (λ (kind : TreeKind). IsWalk (sizes_of g.S.PageRead c.args.store.now) (paged g.S.PageRead c.args.store.now m) kind c.args.root findings) c.tree_of-tree.ensures.kind walk in
    wrong subject before (of-members c.args.members subject.content has tree c.tree_of-tree.ensures.members) root_is fresh marked findings own)
