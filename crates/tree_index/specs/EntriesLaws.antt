-- An entry is put below a page, level by level: crates above cite these facts in their proofs.
use Rattle.std.proofs.Common.{◌≡◌, ℕ, zero, suc, ◌≤◌, List, [], ◌∷◌, ◌++◌, length, map, take, drop, refl, sym, ap, ◌∙◌, arith, append_assoc}
use Rattle.std.proofs.lemmas.List.{append-nil}
use Rattle.std.specs.List.{insert}
use Rattle.tree_spec.specs.declared.TreeKind.TheVariants.{Table, Index}
use Rattle.tree_spec.specs.Trees.{Member, TreeCell, TreeOf, member, leaf_kind, page_of, list_of, list_beside}
use Rattle.tree_spec.specs.Standing.{Sizes, Paged}
use Rattle.tree_spec.specs.Worlds.{IsFree}
use Rattle.put_spec.specs.Children.{child_at, children_with, last_with}
use Rattle.put_spec.specs.ChildrenLaws.{list-join}
use Rattle.put_spec.specs.Puts.{Before, IsReady, child_before}
use Rattle.put_spec.specs.Steps.{Spelled, spelled, HasCells, IsSettled, IsRooted, with_dividers}
use Rattle.put_spec.specs.SettledLaws.{ListedPut, opened-rooted, opened-settled, root-done}
use Rattle.put_spec.specs.ParentsLaws.{HasChildAt, child-opened, child-untouched}
use Rattle.put_spec.specs.StepsLaws.{entry-opens}
use Rattle.tree_index.specs.Entries.{EntryDone, EntryRooted, members_before, members_behind}

-- the members of a leaf with one more
insert-member : (cells : List TreeCell) (at : ℕ) (cell : TreeCell) → at ≤ length cells → map member (insert cells at cell) ≡ map member (take at cells) ++ member cell ∷ map member (drop at cells)
insert-member cells zero cell low = refl
insert-member [] (suc at) cell low = absurd (omega (arith, low))
insert-member (c ∷ cells) (suc at) cell low = ap (λ (l : List Member). member c ∷ l) (insert-member cells at cell (omega (arith, low)))

-- the members of an interior page, around a child
pub members-around : (levels at : ℕ) (children : List (TreeOf levels × TreeCell)) (last : TreeOf levels)
    → list_beside Index levels children last ≡ members_before levels at children ++ (list_of Index levels (child_at at children last) ++ members_behind levels at children last)
members-around levels at [] last = sym (append-nil (list_of Index levels last))
members-around levels zero (child ∷ children) last = list-join Index levels [] children child.0 last child.1
members-around levels (suc at) (child ∷ children) last =
    let here = list_of Index levels child.0 ++ member child.1 ∷ [] in
    append_assoc here _ (list_of Index levels last) ∙ ap (λ (l : List Member). here ++ l) (members-around levels at children last)
    ∙ sym (append_assoc here (members_before levels at children) (list_of Index levels (child_at at children last) ++ members_behind levels at children last))

-- and around what it has become
pub members-with : (levels at : ℕ) (children siblings : List (TreeOf levels × TreeCell)) (last home : TreeOf levels)
    → list_beside Index levels (children_with at children siblings home) (last_with at children last home)
    ≡ members_before levels at children ++ (list_beside Index levels siblings home ++ members_behind levels at children last)
members-with levels at [] siblings last home = sym (append-nil (list_beside Index levels siblings home))
members-with levels zero (child ∷ children) siblings last home = list-join Index levels siblings children home last child.1
members-with levels (suc at) (child ∷ children) siblings last home =
    let here = list_of Index levels child.0 ++ member child.1 ∷ [] in
    append_assoc here _ (list_of Index levels (last_with at children last home)) ∙ ap (λ (l : List Member). here ++ l) (members-with levels at children siblings last home)
    ∙ sym (append_assoc here (members_before levels at children) (list_beside Index levels siblings home ++ members_behind levels at children last))

module _ (sizes : Sizes) where
  -- An entry among the cells of a leaf, which are then settled.
  pub entry-in_leaf : (before : Before zero) (page : ℕ) (cells : List Spelled) (right at : ℕ) (new : Paged) (dividers : List Spelled) → HasCells sizes before.base (leaf_kind Index) page cells right → at ≤ length cells
      → at ≤ length before.tree.cells → page_of zero before.tree ≡ page → IsFree sizes before.base before.trunks → IsReady sizes Index zero before
      → IsSettled sizes zero Index page 0 (insert cells at (spelled before.cell)) before.base new dividers
      → EntryDone sizes zero before new dividers (map member (take at before.tree.cells)) (map member (drop at before.tree.cells))
  entry-in_leaf before page cells right at new dividers has within low is free ready settle =
      let o = entry-opens sizes before page cells right at has within is free ready in
      let d = opened-settled sizes Index zero page before (insert cells at (spelled before.cell)) 0 0 0 before.base new dividers is o.0 settle in
      record { done = d.0; list = d.1 ∙ o.1 ∙ insert-member before.tree.cells at before.cell low }

  pub entry-in_leaf_root : (before : Before zero) (page : ℕ) (cells : List Spelled) (right at : ℕ) (new : Paged) → HasCells sizes before.base (leaf_kind Index) page cells right → at ≤ length cells
      → at ≤ length before.tree.cells → page_of zero before.tree ≡ page → IsFree sizes before.base before.trunks → IsReady sizes Index zero before
      → IsRooted sizes zero Index page 0 (insert cells at (spelled before.cell)) before.base new
      → EntryRooted sizes zero before new (map member (take at before.tree.cells)) (map member (drop at before.tree.cells))
  entry-in_leaf_root before page cells right at new has within low is free ready rooted =
      let o = entry-opens sizes before page cells right at has within is free ready in
      let d = opened-rooted sizes Index zero page before (insert cells at (spelled before.cell)) 0 0 0 before.base new is o.0 rooted in
      record { done = d.0; list = d.1 ∙ o.1 ∙ insert-member before.tree.cells at before.cell low }

  -- no entry of an index has a rowid that would have to be looked at
  no-table : {A : Type 0} → Index ≡ Table → A
  no-table same = absurd (let h : ⊥ = cc in h)

  module _ (levels : ℕ) (before : Before (suc levels)) (cells : List Spelled) (right at : ℕ) (between : Paged) (grew : List Spelled) (front back : List Member) (told : HasChildAt sizes Index levels before.tree before.base cells right at)
      (free : IsFree sizes before.base before.trunks) (ready : IsReady sizes Index (suc levels) before) (below : EntryDone sizes levels (child_before levels before at) between grew front back) where
    abbrev before_it : List Member
    before_it = members_before levels at before.tree.children ++ front

    abbrev behind_it : List Member
    behind_it = back ++ members_behind levels at before.tree.children before.tree.last

    grown-list : list_beside Index levels (children_with at before.tree.children below.done.siblings below.done.home) (last_with at before.tree.children before.tree.last below.done.home)
        ≡ before_it ++ member before.cell ∷ behind_it
    grown-list =
        members-with levels at before.tree.children below.done.siblings before.tree.last below.done.home
        ∙ ap (λ (l : List Member). members_before levels at before.tree.children ++ (l ++ members_behind levels at before.tree.children before.tree.last)) below.list
        ∙ simp append_assoc

    -- An entry below a child, and the page with the dividers that came, which is then settled.
    pub entry-in_page : (page : ℕ) (new : Paged) (dividers : List Spelled) → at ≤ length cells → page_of (suc levels) before.tree ≡ page
        → IsSettled sizes (suc levels) Index page right (with_dividers cells at grew) between new dividers → EntryDone sizes (suc levels) before new dividers before_it behind_it
    entry-in_page page new dividers within is settle =
        let o = child-opened sizes Index levels before cells right at between grew 0 0 told within no-table free ready below.done in
        let d = opened-settled sizes Index (suc levels) page before (with_dividers cells at grew) right 0 0 between new dividers is o.0 settle in
        record { done = d.0; list = d.1 ∙ o.1 ∙ grown-list }

    pub entry-in_root : (page : ℕ) (new : Paged) → at ≤ length cells → page_of (suc levels) before.tree ≡ page → IsRooted sizes (suc levels) Index page right (with_dividers cells at grew) between new
        → EntryRooted sizes (suc levels) before new before_it behind_it
    entry-in_root page new within is rooted =
        let o = child-opened sizes Index levels before cells right at between grew 0 0 told within no-table free ready below.done in
        let d = opened-rooted sizes Index (suc levels) page before (with_dividers cells at grew) right 0 0 between new is o.0 rooted in
        record { done = d.0; list = d.1 ∙ o.1 ∙ grown-list }

  -- Where none came, the page stays as it is.
  module _ (levels : ℕ) (before : Before (suc levels)) (cells : List Spelled) (right at : ℕ) (new : Paged) (front back : List Member) (told : HasChildAt sizes Index levels before.tree before.base cells right at)
      (free : IsFree sizes before.base before.trunks) (ready : IsReady sizes Index (suc levels) before) (below : EntryDone sizes levels (child_before levels before at) new [] front back) where
    untouched : ListedPut sizes Index (suc levels) before new [] 0 0 (before_it levels before cells right at new [] front back told free ready below ++ member before.cell ∷ behind_it levels before cells right at new [] front back told free ready below)
    untouched =
        let d = child-untouched sizes Index levels before cells right at new 0 0 told no-table ready below.done in
        (d.0, d.1 ∙ grown-list levels before cells right at new [] front back told free ready below)

    pub entry-leaves_page : EntryDone sizes (suc levels) before new [] (members_before levels at before.tree.children ++ front) (back ++ members_behind levels at before.tree.children before.tree.last)
    entry-leaves_page = record { done = untouched.0; list = untouched.1 }

    pub entry-leaves_root : EntryRooted sizes (suc levels) before new (members_before levels at before.tree.children ++ front) (back ++ members_behind levels at before.tree.children before.tree.last)
    entry-leaves_root =
        let d = root-done sizes Index (suc levels) before new 0 0 _ untouched in
        record { done = d.0; list = d.1 }
