-- An entry that was put into a leaf alone was put into its index.
use Rattle.std.proofs.Common.{◌≡◌, ℕ, zero, suc, ◌≤◌, List, [], ◌∷◌, ◌++◌, length, map, take, drop, refl, ap, ◌∙◌, subst, arith, append_assoc}
use Rattle.std.specs.List.{insert}
use Rattle.format_spec.specs.declared.PageKind.TheVariants.{IndexLeaf}
use Rattle.format_spec.specs.Page.{IsPage}
use Rattle.index_leaf.specs.declared.placing.Attempt.{Attempt}
use Rattle.index_leaf.specs.declared.placing.Attempt.TheVariants as attempt
use Rattle.index_leaf.specs.Leaves.{HasPut, OfLeaf, TriesAlone}
use Rattle.key_order.specs.declared.order.KeyOrder.{KeyOrder}
use Rattle.key_order.specs.Orders.{IsEntry, IsHigh, IsLow, IsRising}
use Rattle.page_shape.specs.OwnCellsLaws.{own-has}
use Rattle.page_spec.specs.Freelists.{Trunk}
use Rattle.put_spec.specs.Children.{child_at}
use Rattle.put_spec.specs.ChildrenLaws.{child-stands, child-within}
use Rattle.put_spec.specs.ImagesLaws.{length-of}
use Rattle.put_spec.specs.Puts.{Before}
use Rattle.put_spec.specs.Steps.{Spelled, bytes_in, spelled}
use Rattle.put_spec.specs.SettledLaws.{root-done}
use Rattle.put_spec.specs.ParentsLaws.{HasChildAt, child-told}
use Rattle.put_spec.specs.StepsLaws.{insert-map}
use Rattle.tree_spec.specs.declared.TreeKind.TheVariants.{Index}
use Rattle.tree_spec.specs.Trees.{Member, TreeCell, TreeOf, cells_behind, list_of, member, page_of, pages_of}
use Rattle.tree_spec.specs.Standing.{Paged, Sizes, Stands}
use Rattle.tree_spec.specs.Worlds.{IsFree}
use Rattle.tree_spec.specs.WorldsLaws.{all-join}
use Rattle.tree_spec.specs.Changes.{Within}
use Rattle.tree_index.specs.Entries.{EntryDone, EntryRooted, members_before, members_behind}
use Rattle.tree_index.specs.EntriesLaws.{entry-in_leaf, entry-leaves_page, members-around}
use Rattle.tree_index.specs.Puts.{IsEntered, MakesCell, PutsRoot, TriesInto, entry_before}
use Rattle.tree_index.proofs.Entering.{ready-after}
use Rattle.tree_index.specs.PlacesLaws.{child-rises, leaf-high, leaf-list, leaf-low, page-high, page-low}

-- where no divider came, the tree of a root has the entry
rooted : (sizes : Sizes) (levels : ℕ) (before : Before levels) (new : Paged) (front back : List Member) → EntryDone sizes levels before new [] front back → EntryRooted sizes levels before new front back
rooted sizes levels before new front back e =
    let d = root-done sizes Index levels before new 0 0 (front ++ member before.cell ∷ back) (e.done, e.list) in
    record { done = d.0; list = d.1 }

module _ (sizes : Sizes) (order : KeyOrder) (payload : List ℕ) (entry : IsEntry order payload) (cell : List ℕ) (old new : Paged) (makes : MakesCell sizes payload cell old old) where
  -- the entry stands below a page, and no divider came
  abbrev Done : (levels : ℕ) → Before levels → List Member → List Member → Type 0
  Done levels before front back = EntryDone sizes levels before new [] front back

  entered : (levels : ℕ) (tree : TreeOf levels) (trunks : List Trunk) → Stands sizes old Index levels tree → IsFree sizes old trunks → Within sizes old (pages_of levels tree) trunks → IsRising order (list_of Index levels tree)
      → OfLeaf order payload (HasPut order payload sizes cell old new) levels tree → IsEntered sizes order payload levels tree trunks old (Done levels)
  entered zero tree trunks stands free within rises put =
      let made = makes trunks free in
      let own : TreeCell = record { bytes = cell; view = made.view; payload = payload; chain = made.chain } in
      let at = put.at in
      let place = put.place in
      let cells = map spelled tree.cells in
      let few : at ≤ length cells = omega (arith, place.within, length-of spelled tree.cells) in
      let is_page : IsPage (new.pages tree.page) tree.page sizes.usable IndexLeaf (bytes_in (insert cells at (spelled own))) 0 =
      subst (λ (l : List (List ℕ)). IsPage (new.pages tree.page) tree.page sizes.usable IndexLeaf l 0) (insert-map (λ (c : Spelled). c.bytes) cells at (spelled own) few) put.is_page in
      record {
        mid = old;
        cell = own;
        rest = made.rest;
        written = made.turns;
        held = made.held;
        payload_is = refl;
        front = map member (take at tree.cells);
        back = map member (drop at tree.cells);
        list = leaf-list order payload entry tree.cells at;
        low = leaf-low order payload entry tree.cells at place.within (λ before e. place.less before _ e) (λ low. place.greater _ low) rises;
        high = leaf-high order payload entry tree.cells at place.within (λ before e. place.less before _ e) (λ low. place.greater _ low) rises;
        put = entry-in_leaf sizes (entry_before old tree made.rest own) tree.page cells 0 at new [] (own-has sizes Index old zero tree stands) few place.within refl (made.turns.freelist free)
            (ready-after sizes old old zero tree trunks made.rest own within stands made.turns made.held) (put.writes, is_page);
      }
  entered (suc levels) tree trunks stands free within rises put =
      let at = put.0 in
      let place = put.1 in
      let children = tree.children in
      let cells = map spelled (cells_behind children) in
      let before = members_before levels at children in
      let behind = members_behind levels at children tree.last in
      let e = entered levels (child_at at children tree.last) trunks (child-stands sizes Index old levels at children tree.last stands.1.0 stands.1.1.1) free (λ n. omega (arith, within n, child-within n levels at children tree.last))
      (child-rises order payload entry levels at children tree.last place.within (λ before e. place.less before _ e) (λ low. place.greater _ low) rises) put.2 in
      let told = child-told sizes Index levels tree.page tree old cells (page_of levels tree.last) at refl (own-has sizes Index old (suc levels) tree stands) stands in
      let here : HasChildAt sizes Index levels tree e.mid cells (page_of levels tree.last) at = record { cells_are = told.cells_are; right_is = told.right_is; child_is = told.child_is } in
      record {
        mid = e.mid;
        cell = e.cell;
        rest = e.rest;
        written = e.written;
        held = e.held;
        payload_is = e.payload_is;
        front = before ++ e.front;
        back = e.back ++ behind;
        list = members-around levels at children tree.last ∙ ap (λ (l : List Member). before ++ (l ++ behind)) e.list ∙ simp append_assoc;
        low = all-join (IsLow order payload) before e.front (page-low order payload entry levels at children tree.last place.within (λ before e. place.less before _ e) (λ low. place.greater _ low) rises) e.low;
        high = all-join (IsHigh order payload) e.back behind e.high (page-high order payload entry levels at children tree.last place.within (λ before e. place.less before _ e) (λ low. place.greater _ low) rises);
        put = entry-leaves_page sizes levels (entry_before e.mid tree e.rest e.cell) cells (page_of levels tree.last) at new e.front e.back here (e.written.freelist free)
            (ready-after sizes old e.mid (suc levels) tree trunks e.rest e.cell within stands e.written e.held) e.put;
      }

  entered-root : (levels : ℕ) (tree : TreeOf levels) (trunks : List Trunk) → IsEntered sizes order payload levels tree trunks old (Done levels) → IsEntered sizes order payload levels tree trunks old (PutsRoot sizes order payload levels new)
  entered-root levels tree trunks e = record {
    mid = e.mid;
    cell = e.cell;
    rest = e.rest;
    written = e.written;
    held = e.held;
    payload_is = e.payload_is;
    front = e.front;
    back = e.back;
    list = e.list;
    low = e.low;
    high = e.high;
    put = rooted sizes levels (entry_before e.mid tree e.rest e.cell) new e.front e.back e.put;
  }

  pub tries-into : (root : ℕ) (did : Attempt) → TriesAlone order payload sizes cell root did old new → TriesInto sizes order payload root did old new
  tries-into root attempt.Put tried = λ levels tree trunks is stands free within rises. entered-root levels tree trunks (entered levels tree trunks stands free within rises (tried levels tree is stands rises))
  tries-into root attempt.Present tried = (tried.0, λ levels tree trunks is stands free within rises. tried.1 levels tree is stands rises)
  tries-into root attempt.GivenUp tried = tried
