use Rattle.std.proofs.Common.{◌≡◌, ◌∙◌, ◌++◌, ◌∷◌, [], ℤ, map, sym, ap, subst}
use Rattle.std.proofs.lemmas.List.{append_assoc}
use Rattle.std.proofs.lemmas.Map.Iter.{rest_more}
use Rattle.std.proofs.lemmas.Map.Keys.{sorted_head, sorted_tail}
use Rattle.std.specs.BTreeMap.{get}
use Rattle.std.specs.List.{AllByRecursion}
use Rattle.std.specs.List.Sorted.{IsStrictlySortedBy}
use Rattle.std.specs.Map.Iter.{deref}
use Rattle.std.specs.Ordering.{int_cmp}
use Rattle.index_changes.specs.declared.pairs.OldNew.{OldNew}
use Rattle.group_rows.specs.Sides.{pair_at, row_at}
use Rattle.group_rows.proofs.Rowids.{pair-is, rows-left}
use Rattle.group_rows.proofs.pairs.pairs_of.Goals as goal

pub loop-rowid-preserved : goal.loop-rowid-preserved
loop-rowid-preserved c =
    let inv = c.loop-rowid.invariant in
    let rowid : ℤ = c.in-Some.rowid.now in
    let rest = c.next.new.self in
    let before = c.args.before.items in
    let behind = c.args.behind.items in
    let split : c.loop-rowid.rowid-iterator ≡ rowid ∷ rest = rest_more deref c.loop-rowid.rowid-iterator rest c.next.result c.in-Some.rowid c.in-Some.is c.next.ensures.steps in
    let rise = subst (IsStrictlySortedBy int_cmp) split inv.rise in
    let olds = subst (AllByRecursion (λ (z : ℤ). get int_cmp c.loop-rowid.old z ≡ row_at before z)) split inv.olds in
    let news = subst (AllByRecursion (λ (z : ℤ). get int_cmp c.loop-rowid.new z ≡ row_at behind z)) split inv.news in
    let made = c.loop-rowid.pairs.items in
    record {
      rise = sorted_tail int_cmp rowid rest rise;
      made = ap (λ l. l ++ map (pair_at before behind) rest)
          (c.in_ok-push.ensures.items
          ∙ ap (λ (p : OldNew). made ++ p ∷ []) (pair-is c.take_row-old_row.result c.take_row-new_row.result before behind rowid (c.take_row-old_row.ensures.taken ∙ olds.0) (c.take_row-new_row.ensures.taken ∙ news.0)))
          ∙ append_assoc made (pair_at before behind rowid ∷ []) (map (pair_at before behind) rest) ∙ ap (λ l. made ++ map (pair_at before behind) l) (sym split) ∙ inv.made;
      olds = rows-left rowid rest (get int_cmp c.loop-rowid.old) (get int_cmp c.take_row-old_row.new.rows) (row_at before) (sorted_head int_cmp rowid rest rise) olds.1 c.take_row-old_row.ensures.left;
      news = rows-left rowid rest (get int_cmp c.loop-rowid.new) (get int_cmp c.take_row-new_row.new.rows) (row_at behind) (sorted_head int_cmp rowid rest rise) news.1 c.take_row-new_row.ensures.left;
    }
