use Rattle.std.proofs.Common.{rules, subst, ℤ, to_z, of_z, w64}
use Rattle.std.specs.List.Sorted.{IsBinarySearchResult}
use Rattle.std.specs.Ordering.{int_cmp}
use Rattle.std.proofs.lemmas.Int.{to_z-of_z}
use Rattle.std.proofs.lemmas.List.Sorted.{answers_always}
use Rattle.small_spec.specs.declared.TargetRow.{TargetRow}
use Rattle.small_update.proofs.Keys.{search-found}
use Rattle.small_update.proofs.merge.is_present.Goals as goal

pub returns : goal.returns
returns c =
    let position : IsBinarySearchResult (λ (row : TargetRow). int_cmp row.rowid (to_z w64 (of_z w64 c.args.key))) c.args.old.now c.binary_search_by_key.result = c.binary_search_by_key.ensures.position (λ (row : TargetRow). row.rowid) (answers_always _ _ _ (λ f a r g h. search rules)) in
    let found = search-found (λ (row : TargetRow). row.rowid) c.args.old.now c.args.key c.binary_search_by_key.result c.requires c.binary_search_by_key.ensures.bound (subst (λ (key : ℤ). IsBinarySearchResult (λ (row : TargetRow). int_cmp row.rowid key) c.args.old.now c.binary_search_by_key.result) (to_z-of_z w64 c.args.key c.ranges.key) position) in
    rw c.is_ok.ensures.value found
