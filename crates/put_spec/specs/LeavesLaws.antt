-- A cell is put among the cells of a leaf: crates above cite these facts in their proofs.
use Rattle.std.proofs.Common.{◌≡◌, ℕ, ℤ, zero, suc, ◌+◌, ◌-◌, ◌<◌, ◌≤◌, ◌<ℤ◌, ◌≤ℤ◌, List, [], ◌∷◌, length, map, set, slice_index_or, refl, subst, arith}
use Rattle.std.proofs.Math.Path.{subst⁻¹}
use Rattle.std.specs.List.{AllByRecursion, insert}
use Rattle.std.proofs.lemmas.Int.{ints}
use Rattle.tree_spec.specs.declared.TreeKind.{TreeKind}
use Rattle.tree_spec.specs.declared.TreeKind.TheVariants.{Table, Index}
use Rattle.page_spec.specs.Counts.{times}
use Rattle.page_spec.specs.CountsLaws.{times-append}
use Rattle.tree_spec.specs.Trees.{TreeCell, leaf_kind, chain_pages, pages_of, member}
use Rattle.tree_spec.specs.Bounds.{RisesIn}
use Rattle.tree_spec.specs.Standing.{Sizes, IsHeld}
use Rattle.tree_spec.specs.StandingLaws.{chain-none}
use Rattle.tree_spec.specs.ChangesLaws.{Turns-same}
use Rattle.put_spec.specs.Children.{PutIn, Belongs, Meets, views_of}
use Rattle.put_spec.specs.ChildrenLaws.{put-behind}
use Rattle.put_spec.specs.Puts.{InBounds, Before, hand_before, hand_after, leaf_after, IsReady, IsOpened}

abbrev rowids : List TreeCell → List ℤ
rowids cells = map (λ (cell : TreeCell). cell.view.rowid) cells

-- a cell at its place, where it replaces none
pub record IsInserted (P : TreeCell → Type 0) (kind : TreeKind) (put : TreeCell) (cells new : List TreeCell) : Type 0 where
  pub count : (n : ℕ) → times n (chain_pages new) ≡ times n (chain_pages cells) + times n put.chain
  pub held : AllByRecursion P cells → P put → AllByRecursion P new
  pub list : PutIn kind (member put) (map member cells) (map member new)
  pub some : 0 < length new

module _ (P : TreeCell → Type 0) (kind : TreeKind) (put : TreeCell) where
  pub inserted : (i : ℕ) (cells : List TreeCell) → i ≤ length cells → IsInserted P kind put cells (insert cells i put)
  inserted zero [] within = record {
    count = λ n. omega (arith, times-append n put.chain []);
    held = λ all one. (one, tt);
    list = record { front = []; replaced = []; back = []; old_is = refl; new_is = refl; same = tt; few = omega arith };
    some = omega arith;
  }
  inserted (suc i) [] within = absurd (omega arith)
  inserted zero (cell ∷ cells) within = record {
    count = λ n. omega (arith, times-append n put.chain (chain_pages (cell ∷ cells)));
    held = λ all one. (one, all);
    list = record { front = []; replaced = []; back = map member (cell ∷ cells); old_is = refl; new_is = refl; same = tt; few = omega arith };
    some = omega arith;
  }
  inserted (suc i) (cell ∷ cells) within =
      let rest = inserted i cells (omega arith) in
      record {
        count = λ n. omega (arith, times-append n cell.chain (chain_pages cells), times-append n cell.chain (chain_pages (insert cells i put)), rest.count n);
        held = λ all one. (all.0, rest.held all.1 one);
        list = put-behind kind (member put) (member cell) (map member cells) (map member (insert cells i put)) rest.list;
        some = omega arith;
      }

  pub inserted-rises : (i : ℕ) (cells : List TreeCell) → Belongs put.view.rowid i (views_of cells) → (Meets put.view.rowid i (views_of cells) → ⊥) → (low high : ℤ) → low <ℤ put.view.rowid
      → put.view.rowid ≤ℤ high → RisesIn low high (rowids cells) → RisesIn low high (rowids (insert cells i put))
  inserted-rises zero [] here new low high over under rises = (over, under)
  inserted-rises (suc i) [] here new low high over under rises = absurd (omega (arith, here))
  inserted-rises zero (cell ∷ cells) here new low high over under rises =
      let less : put.view.rowid <ℤ cell.view.rowid = grind (arith, ints, here, new) in
      (over, (less, rises.1))
  inserted-rises (suc i) (cell ∷ cells) here new low high over under rises = (rises.0, inserted-rises i cells here.1 new cell.view.rowid high here.0 under rises.1)

-- the place where a rowid belongs lies among the cells or behind them
pub belongs-within : (rowid : ℤ) (i : ℕ) (cells : List TreeCell) → Belongs rowid i (views_of cells) → i ≤ length cells
belongs-within rowid zero [] here = omega arith
belongs-within rowid (suc i) [] here = absurd (omega (arith, here))
belongs-within rowid zero (cell ∷ cells) here = omega arith
belongs-within rowid (suc i) (cell ∷ cells) here = omega (arith, belongs-within rowid i cells here.1)

-- a cell in place of the one of its rowid
pub record IsReplacedBy (P : TreeCell → Type 0) (put : TreeCell) (i : ℕ) (cells : List TreeCell) : Type 0 where
  pub was : TreeCell
  pub at : (other : TreeCell) → slice_index_or cells i other ≡ was
  pub count : (n : ℕ) → times n (chain_pages (set cells i put)) + times n was.chain ≡ times n (chain_pages cells) + times n put.chain
  pub held : AllByRecursion P cells → P put → AllByRecursion P (set cells i put) × P was
  pub rises : (low high : ℤ) → RisesIn low high (rowids cells) → RisesIn low high (rowids (set cells i put))
  pub list : PutIn Table (member put) (map member cells) (map member (set cells i put))
  pub some : 0 < length (set cells i put)

pub replaced : (P : TreeCell → Type 0) (put : TreeCell) (i : ℕ) (cells : List TreeCell) → Meets put.view.rowid i (views_of cells) → IsReplacedBy P put i cells
replaced P put i [] meets = absurd meets
replaced P put zero (cell ∷ cells) meets = record {
  was = cell;
  at = λ other. refl;
  count = λ n. omega (arith, times-append n put.chain (chain_pages cells), times-append n cell.chain (chain_pages cells));
  held = λ all one. ((one, all.1), all.0);
  rises = λ low high rises. (subst (λ (x : ℤ). low <ℤ x) meets rises.0, subst (λ (x : ℤ). RisesIn x high (rowids cells)) meets rises.1);
  list = record { front = []; replaced = member cell ∷ []; back = map member cells; old_is = refl; new_is = refl; same = (meets, tt); few = omega arith };
  some = omega arith;
}
replaced P put (suc i) (cell ∷ cells) meets =
    let rest = replaced P put i cells meets in
    record {
      was = rest.was;
      at = rest.at;
      count = λ n. omega (arith, times-append n cell.chain (chain_pages cells), times-append n cell.chain (chain_pages (set cells i put)), rest.count n);
      held = λ all one. let both = rest.held all.1 one in ((all.0, both.0), both.1);
      rises = λ low high rises. (rises.0, rest.rises cell.view.rowid high rises.1);
      list = put-behind Table (member put) (member cell) (map member cells) (map member (set cells i put)) rest.list;
      some = omega arith;
    }

module _ (sizes : Sizes) (kind : TreeKind) where
  bounds-inserted : (k : TreeKind) (before : Before zero) (i : ℕ)
      → (k ≡ Table → Belongs before.cell.view.rowid i (views_of before.tree.cells) × (Meets before.cell.view.rowid i (views_of before.tree.cells) → ⊥)) → (low high : ℤ) → low <ℤ before.cell.view.rowid
      → before.cell.view.rowid ≤ℤ high → InBounds k zero low high before.tree → InBounds k zero low high (record { page = before.tree.page; cells = insert before.tree.cells i before.cell })
  bounds-inserted Table before i here low high over under rises =
      inserted-rises (IsHeld sizes before.base (leaf_kind Table)) Table before.cell i before.tree.cells (here refl).0 (here refl).1 low high over under rises
  bounds-inserted Index before i here low high over under rises = tt

  -- A leaf into which a cell was put, but for the writing of its page.
  pub leaf-inserted : (before : Before zero) (i : ℕ) → IsReady sizes kind zero before → i ≤ length before.tree.cells
      → (kind ≡ Table → Belongs before.cell.view.rowid i (views_of before.tree.cells) × (Meets before.cell.view.rowid i (views_of before.tree.cells) → ⊥))
      → IsOpened sizes kind zero before (leaf_after before (insert before.tree.cells i before.cell) 0 0 [])
  leaf-inserted before i ready within here =
      let cells = insert before.tree.cells i before.cell in
      let after = leaf_after before cells 0 0 [] in
      let is = inserted (IsHeld sizes before.base (leaf_kind kind)) kind before.cell i before.tree.cells within in
      record {
        within = ready.within;
        turns = Turns-same sizes before.base (hand_before before) (hand_after after) before.trunks
            (λ n. omega (arith, times-append n (pages_of zero before.tree) before.cell.chain, times-append n (pages_of zero after.home) [], is.count n));
        page = refl;
        siblings = tt;
        below = is.held ready.stands.1 ready.held;
        freed = chain-none sizes before.base;
        bounds = bounds-inserted kind before i here;
        list = is.list;
        full = λ _. (tt, tt);
        some = λ _. is.some;
      }

-- A leaf of a table in which a cell stands in place of the one of its rowid, whose chain is in hand then.
pub leaf-replaced : (sizes : Sizes) (before : Before zero) (i : ℕ) → IsReady sizes Table zero before
    → (is : IsReplacedBy (IsHeld sizes before.base (leaf_kind Table)) before.cell i before.tree.cells)
    → IsOpened sizes Table zero before (leaf_after before (set before.tree.cells i before.cell) is.was.view.overflow (is.was.view.payload - is.was.view.local) is.was.chain)
leaf-replaced sizes before i ready is =
    let after = leaf_after before (set before.tree.cells i before.cell) is.was.view.overflow (is.was.view.payload - is.was.view.local) is.was.chain in
    let held = is.held ready.stands.1 ready.held in
    record {
      within = ready.within;
      turns = Turns-same sizes before.base (hand_before before) (hand_after after) before.trunks
          (λ n. omega (arith, times-append n (pages_of zero before.tree) before.cell.chain, times-append n (pages_of zero after.home) is.was.chain, is.count n));
      page = refl;
      siblings = tt;
      below = held.0;
      freed = held.1.is_chain;
      bounds = λ low high over under rises. is.rises low high rises;
      list = is.list;
      full = λ _. (tt, tt);
      some = λ _. is.some;
    }

-- the same, by the place of the cell
pub leaf-met : (sizes : Sizes) (before : Before zero) (i : ℕ) → IsReady sizes Table zero before → Meets before.cell.view.rowid i (views_of before.tree.cells)
    → let was = slice_index_or before.tree.cells i before.cell in
    IsOpened sizes Table zero before (leaf_after before (set before.tree.cells i before.cell) was.view.overflow (was.view.payload - was.view.local) was.chain)
leaf-met sizes before i ready meets =
    let is = replaced (IsHeld sizes before.base (leaf_kind Table)) before.cell i before.tree.cells meets in
    subst⁻¹ (λ (was : TreeCell). IsOpened sizes Table zero before (leaf_after before (set before.tree.cells i before.cell) was.view.overflow (was.view.payload - was.view.local) was.chain)) (is.at before.cell)
    (leaf-replaced sizes before i ready is)
