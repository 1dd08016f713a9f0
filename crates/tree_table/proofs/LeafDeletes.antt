-- A row that is taken out of a leaf alone.
use Rattle.std.proofs.Common.{◌≡◌, ◌≢◌, ℕ, ℤ, zero, suc, List, [], Option, Some, None, inl, subst, ◌∙◌, arith}
use Rattle.page_spec.specs.Pages.{Pages}
use Rattle.tree_spec.specs.declared.TreeKind.TheVariants.{Table}
use Rattle.tree_spec.specs.declared.fault.TreeFault.{TreeFault}
use Rattle.tree_spec.specs.Bounds.{InOrder}
use Rattle.tree_spec.specs.Trees.{IsFullRoot, Member, TreeOf, page_of}
use Rattle.tree_spec.specs.Standing.{Sizes, Paged, Stands}
use Rattle.delete_spec.specs.Steps.{DeleteAt, GrowsUnder}
use Rattle.table_leaf.specs.Leaves.{LeadsTo}
use Rattle.table_leaf.specs.LeavesLaws.{deletes-alone}
use Rattle.tree_table.specs.declared.taking.Taken.{Taken}
use Rattle.tree_table.specs.Deletes.{DeletesFrom, DeletesInto, DeletesTable, gone_of}
use Rattle.tree_table.specs.Needs.{IsOtherTable, IsShortRoot, IsShortTable}

-- The same delete, with its numbers under other names.
pub alone-same : (s z : Sizes) (page number : ℕ) (r rowid : ℤ) (k count : ℕ) (row : Taken) (pages : Pages) (new : Paged) → s ≡ z → page ≡ number → r ≡ rowid → k ≡ count
    → GrowsUnder s (gone_of r row) page (record { count = k; pages = pages }) new [] row.old.first row.old.bytes
    → GrowsUnder z (gone_of rowid row) number (record { count = count; pages = pages }) new [] row.old.first row.old.bytes
alone-same s z page number r rowid k count row pages new sizes is same counts grows =
    subst (λ (x : Sizes). GrowsUnder x (gone_of rowid row) number (record { count = count; pages = pages }) new [] row.old.first row.old.bytes) sizes
    (subst (λ (n : ℕ). GrowsUnder s (gone_of rowid row) n (record { count = count; pages = pages }) new [] row.old.first row.old.bytes) is
    (subst (λ (q : ℤ). GrowsUnder s (gone_of q row) page (record { count = count; pages = pages }) new [] row.old.first row.old.bytes) same
    (subst (λ (n : ℕ). GrowsUnder s (gone_of r row) page (record { count = n; pages = pages }) new [] row.old.first row.old.bytes) counts grows)))

-- A row out of the leaf in which its rowid belongs, which is not the root, is out of the table.
pub table-deleted : (sizes : Sizes) (base new : Paged) (rowid : ℤ) (root leaf : ℕ) (row : Taken) → leaf ≢ root → LeadsTo sizes base rowid root leaf
    → GrowsUnder sizes (gone_of rowid row) leaf base new [] row.old.first row.old.bytes → DeletesTable sizes root rowid row base new
table-deleted sizes base new rowid root leaf row other leads grows zero tree low high is stands order full = absurd (other (leads zero tree low high is stands order ∙ is))
table-deleted sizes base new rowid root leaf row other leads grows (suc levels) tree low high is stands order full =
    subst (λ (p : ℕ). DeleteAt sizes (gone_of rowid row) (suc levels) p base new row.old.first row.old.bytes) is
    (deletes-alone sizes base rowid leaf (gone_of rowid row) levels tree new row.old.first row.old.bytes (leads (suc levels) tree low high is stands order) stands full.below
    (λ inner. full.root (omega arith) inner) (grows zero))

pub from-into : (sizes : Sizes) (root : ℕ) (rowid : ℤ) (taken : Option Taken) (old new : Paged) → DeletesInto sizes root rowid taken old new → DeletesFrom sizes root rowid taken old new
from-into sizes root rowid None old new deletes = deletes
from-into sizes root rowid (Some row) old new deletes = λ levels tree low high is stands order full. deletes levels

-- What is refused of each table is refused of each whose rowids are in order.
pub table-short : {F : Type 0} (s z : Sizes) (most more limit page k count now : ℕ) (pages : Pages) (fault : TreeFault F) → s ≡ z → k ≡ count
    → IsShortRoot s most more limit page (record { count = k; pages = pages }) now fault → IsShortTable z most more limit page (record { count = count; pages = pages }) now fault
table-short s z most more limit page k count now pages fault sizes counts short levels tree trunks low high order =
    let over = subst (λ (x : Sizes). IsShortRoot x most more limit page (record { count = count; pages = pages }) now fault) sizes
    (subst (λ (n : ℕ). IsShortRoot s most more limit page (record { count = n; pages = pages }) now fault) counts short) in
    over levels tree trunks

pub other-short : {F : Type 0} (sizes : Sizes) (most more limit root count : ℕ) (base : Paged) (fault : TreeFault F) → IsOtherTable sizes root base fault → IsShortTable sizes most more limit root base count fault
other-short sizes most more limit root count base fault other levels tree trunks low high order few is full free ready = inl (other levels tree low high is ready.stands order)
