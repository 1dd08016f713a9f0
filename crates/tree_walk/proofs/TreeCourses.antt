-- The walk over a standing tree comes to the cells of its members, and to its end.
use Rattle.std.proofs.Common.{◌≡◌, ℕ, zero, suc, ◌+◌, ◌-◌, ◌<◌, ◌≤◌, Bool, true, false, cond, List, [], ◌∷◌, ◌++◌, length, map, drop, slice_index_or, refl, sym, ap, ap₂, ◌∙◌, subst, inr, arith, append_assoc}
use Rattle.std.proofs.Math.Path.{subst⁻¹}
use Rattle.std.specs.List.{AllZip}
use Rattle.std.proofs.lemmas.List.{length-map, append-nil, drop_all}
use Rattle.byte_fields.specs.Bytes.{part_of}
use Rattle.byte_fields.specs.BytesLaws.{part_of-part_of}
use Rattle.format_spec.specs.declared.CellView.{CellView}
use Rattle.format_spec.specs.Page.{cell_place}
use Rattle.page_spec.specs.Chains.{chain_bytes}
use Rattle.page_layout.specs.ViewsLaws.{view-size}
use Rattle.refusal.specs.declared.Rule.{Rule}
use Rattle.tree_spec.specs.declared.TreeKind.{TreeKind}
use Rattle.tree_spec.specs.declared.TreeKind.TheVariants.{Table, Index}
use Rattle.tree_spec.specs.Trees.{TreeCell, TreeOf, Rooted, Member, member, between, kind_at, interior_kind, page_of, root_of, own_cells, cells_behind, list_of, list_in, IsFullBelow}
use Rattle.tree_spec.specs.Standing.{Sizes, Paged, IsHeld, Stands, IsRoot, IsTree}
use Rattle.tree_walk.specs.declared.place.Place.{Place}
use Rattle.tree_walk.specs.Pages.{PageView, view_of, is_leaf, has_dividers}
use Rattle.tree_walk.specs.Payloads.{IsPayload, part_at}
use Rattle.tree_walk.specs.Places.{most_above, IsBadRoot, IsRootPlace}
use Rattle.tree_walk.specs.Courses.{Spot, Course, ends, stops, spots_from, cells_left, cells_then, cell_then, next_of, Enters, Behind, From, FromRoot}
use Rattle.tree_walk.specs.Walks.{IsMember, HasMembers}
use Rattle.tree_walk.proofs.Lists.{zip-join}
use Rattle.tree_walk.specs.PayloadsLaws.{local_part}
use Rattle.tree_walk.proofs.TreeFacts.{CellAt, cell-at, all-at, views_of, child_tree, behind_child, from_child-all, from_child-cut, behind-past, behind-cell, tree_kind-at, leaf-at, interior-at, held-own, child-stands, child-full}
use Rattle.tree_walk.proofs.TreePlaces.{IsPlace, place-views, interior-views, child-place, step-not_refused, moved-place, root-place, root-not_refused}
use Rattle.tree_walk.specs.CoursesLaws.{to_leaf, to_inner, to_place}
use Rattle.tree_walk.proofs.Courses.{FromChild}

-- these cells, and then what is behind them
abbrev pub joined : List Spot → Course → Course
joined spots later = record { spots = spots ++ later.spots; damage = later.damage }

pub joined-more : (front back : List Spot) (later : Course) → joined (front ++ back) later ≡ joined front (joined back later)
joined-more front back later = ap (λ (spots : List Spot). let c : Course = record { spots = spots; damage = later.damage } in c) (append_assoc front back later.spots)

module _ (sizes : Sizes) (base : Paged) (kind : TreeKind) where
  -- a tree's own page, as a walk sees it
  abbrev pub own_view : (levels : ℕ) → TreeOf levels → PageView
  own_view levels tree = record { number = page_of levels tree; kind = kind_at kind levels; bytes = base.pages (page_of levels tree); views = views_of (own_cells levels tree) }

  pub place-view : (levels : ℕ) (tree : TreeOf levels) (place : Place) → IsPlace sizes base kind levels tree place → view_of place.page ≡ own_view levels tree
  place-view levels tree place is = λ i. record { number = is.number_is i; kind = is.kind_is i; bytes = is.bytes_are i; views = is.views_are i }

  module _ (levels : ℕ) (tree : TreeOf levels) (stands : Stands sizes base kind levels tree) (at : ℕ) (low : at < length (own_cells levels tree)) where
    abbrev here : CellAt (own_cells levels tree) at
    here = cell-at (own_cells levels tree) at low

    held : IsHeld sizes base (kind_at kind levels) here.cell
    held = subst (IsHeld sizes base (kind_at kind levels)) (here.is_at here.cell)
        (all-at (IsHeld sizes base (kind_at kind levels)) (own_cells levels tree) at here.cell low (held-own sizes base kind levels tree stands.1))

    abbrev start : ℕ
    start = cell_place (base.pages (page_of levels tree)) (page_of levels tree) (kind_at kind levels) at

    its_bytes : part_of (base.pages (page_of levels tree)) start (length here.cell.bytes) ≡ here.cell.bytes
    its_bytes =
        let there = stands.0.each at (omega (arith, low, length-map (own_cells levels tree) (λ (c : TreeCell). c.bytes))) in
        subst (λ (b : List ℕ). part_of (base.pages (page_of levels tree)) start (length b) ≡ b) here.bytes_are there.stands

    part_is : part_at (own_view levels tree) at here.cell.view ≡ part_of here.cell.bytes here.cell.view.local_at here.cell.view.local
    part_is =
        let view = here.cell.view in
        let inside : view.local_at + view.local ≤ length here.cell.bytes =
        omega (arith, local_part (kind_at kind levels) sizes.usable here.cell.bytes view held.is_cell, view-size (kind_at kind levels) sizes.usable here.cell.bytes view held.is_cell) in
        sym (part_of-part_of (base.pages (page_of levels tree)) start (length here.cell.bytes) view.local_at view.local inside)
        ∙ ap (λ (b : List ℕ). part_of b view.local_at view.local) its_bytes

    abbrev rest : List ℕ
    rest = chain_bytes base.pages sizes.usable here.cell.chain (here.cell.view.payload - here.cell.view.local)

    -- a cell of the page is its member
    pub own-member : IsMember sizes base kind (record { page = own_view levels tree; at = at }) (member here.cell)
    own-member = record {
      kind_is = tree_kind-at kind levels;
      rowid_is = λ d. ap (λ (v : CellView). v.rowid) (here.view_is d);
      payload_is = λ d.
          subst⁻¹ (λ (v : CellView). IsPayload base.pages sizes.size sizes.usable base.count (own_view levels tree) at v here.cell.payload) (here.view_is d)
          (inr (rest, (here.cell.chain, held.is_chain, refl), held.whole ∙ ap (λ (part : List ℕ). part ++ rest) (sym part_is)));
    }

  -- the cells of a leaf from an index on
  pub leaf-members : (tree : TreeOf 0) → Stands sizes base kind 0 tree → (at left : ℕ) → at + left ≡ length (own_cells 0 tree)
      → AllZip (IsMember sizes base kind) (spots_from (own_view 0 tree) at left) (map member (drop at (own_cells 0 tree)))
  leaf-members tree stands at zero whole = subst⁻¹ (λ (cells : List TreeCell). AllZip (IsMember sizes base kind) [] (map member cells)) (drop_all at (own_cells 0 tree) (omega (arith, whole))) tt
  leaf-members tree stands at (suc left) whole =
      let low : at < length (own_cells 0 tree) = omega (arith, whole) in
      subst⁻¹ (λ (cells : List TreeCell). AllZip (IsMember sizes base kind) (spots_from (own_view 0 tree) at (suc left)) (map member cells)) (cell-at (own_cells 0 tree) at low).from
      (own-member 0 tree stands at low, leaf-members tree stands (suc at) left (omega (arith, whole)))

  -- these cells are members, and then a walk goes on with what is behind them
  pub record Covers (Walks : Course → Course → Type 0) (members : List Member) : Type 0 where
    pub spots : List Spot
    pub cells : AllZip (IsMember sizes base kind) spots members
    pub walks : (later : Course) → Walks later (joined spots later)

  -- the child of a place is entered, and is not refused
  pub enters : (Inside : Place → Course → Course → Type 0) (above levels : ℕ) (tree : TreeOf (suc levels)) (place : Place) (is : IsPlace sizes base kind (suc levels) tree place) → above < most_above
      → (at : ℕ) → place.at ≡ at → at ≤ length tree.children → (behind course : Course)
      → ((child : Place) → IsPlace sizes base kind levels (child_tree tree.children tree.last at) child → child.at ≡ 0 → Inside child behind course)
      → Enters sizes base Inside above place behind course
  enters Inside above levels tree place is few at at_is within behind course inside =
      let low : place.at ≤ length place.page.views = omega (arith, at_is, within, interior-views sizes base kind levels tree place is) in
      record {
        refused = λ page rule bad. absurd (step-not_refused sizes base kind levels tree place is low above few page rule bad);
        entered = λ child in_range room is_child.
            inside child
            (subst (λ (k : ℕ). IsPlace sizes base kind levels (child_tree tree.children tree.last k) child) at_is (child-place sizes base kind levels tree place is low child is_child))
            is_child.entered.first;
      }

  -- the entry of an interior page's cell, if it is one
  abbrev entry_spots : PageView → ℕ → List Spot
  entry_spots page at = cond (has_dividers page.kind) [] (record { page = page; at = at } ∷ [])

  cell-joined : (place : Place) (page : PageView) (at : ℕ) (spots : List Spot) (later : Course) → view_of place.page ≡ page → place.at ≡ at
      → joined (entry_spots page at ++ spots) later ≡ cell_then place (joined spots later)
  cell-joined place page at spots later page_is at_is =
      ap₂ (λ (p : PageView) (k : ℕ). joined (entry_spots p k ++ spots) later) (sym page_is) (sym at_is) ∙ by (has_dividers place.page.kind)
    where
      by : (divides : Bool) → joined (cond divides [] (record { page = view_of place.page; at = place.at } ∷ []) ++ spots) later
          ≡ cond divides (joined spots later) (record { spots = record { page = view_of place.page; at = place.at } ∷ (spots ++ later.spots); damage = later.damage })
      by true = refl
      by false = refl

  entry-members : (levels : ℕ) (tree : TreeOf (suc levels)) → Stands sizes base kind (suc levels) tree → (at : ℕ) (d : TreeCell) → at < length tree.children
      → AllZip (IsMember sizes base kind) (entry_spots (own_view (suc levels) tree) at) (between kind (slice_index_or (cells_behind tree.children) at d))
  entry-members levels tree stands at d low =
      let within : at < length (cells_behind tree.children) = omega (arith, low, length-map tree.children (λ (c : TreeOf levels × TreeCell). c.1)) in
      let one = own-member (suc levels) tree stands at within in
      let is = (cell-at (cells_behind tree.children) at within).is_at d in
      subst⁻¹ (λ (c : TreeCell). AllZip (IsMember sizes base kind) (entry_spots (own_view (suc levels) tree) at) (between kind c)) is (by kind (record { page = own_view (suc levels) tree; at = at }) (cell-at (cells_behind tree.children) at within).cell one)
    where
      by : (k : TreeKind) (spot : Spot) (cell : TreeCell) → IsMember sizes base kind spot (member cell)
          → AllZip (IsMember sizes base kind) (cond (has_dividers (interior_kind k)) [] (spot ∷ [])) (between k cell)
      by Table spot cell one = tt
      by Index spot cell one = (one, tt)

  module _ (room levels : ℕ)
      (below : (child : TreeOf levels) → Stands sizes base kind levels child → IsFullBelow levels child
      → Covers (λ later course. (place : Place) → IsPlace sizes base kind levels child place → place.at ≡ 0 → From sizes base room place later course) (list_of kind levels child)) where
    -- what is behind the child at an index
    pub behind-covers : (tree : TreeOf (suc levels)) → Stands sizes base kind (suc levels) tree → IsFullBelow (suc levels) tree → (at left : ℕ) → at + left ≡ length tree.children
        → Covers (λ later course. (place : Place) → IsPlace sizes base kind (suc levels) tree place → place.at ≡ at → Behind sizes base (From sizes base room) (most_above - suc room) left place later course)
        (behind_child kind levels tree.children tree.last at)
    behind-covers tree stands full at zero whole = record {
      spots = [];
      cells = subst⁻¹ (AllZip (IsMember sizes base kind) []) (behind-past kind levels tree.children tree.last at (omega (arith, whole))) tt;
      walks = λ later place is at_is. refl;
    }
    behind-covers tree stands full at (suc left) whole =
        let next = behind-covers tree stands full (suc at) left (omega (arith, whole)) in
        let child = child_tree tree.children tree.last (suc at) in
        let inside = below child (child-stands sizes base kind levels tree.children tree.last (suc at) stands.1.0 stands.1.1).1 (child-full levels tree.children tree.last (suc at) full.0 full.1).1 in
        let low : at < length tree.children = omega (arith, whole) in
        let d = (cell-at (cells_behind tree.children) at (omega (arith, low, length-map tree.children (λ (c : TreeOf levels × TreeCell). c.1)))).cell in
        let members : behind_child kind levels tree.children tree.last at
        ≡ between kind (slice_index_or (cells_behind tree.children) at d) ++ (list_of kind levels child ++ behind_child kind levels tree.children tree.last (suc at)) =
        behind-cell kind levels tree.children tree.last at d low
        ∙ ap (λ (ms : List Member). between kind (slice_index_or (cells_behind tree.children) at d) ++ ms) (from_child-cut kind levels tree.children tree.last (suc at)) in
        let entry = entry_spots (own_view (suc levels) tree) at in
        record {
          spots = entry ++ (inside.spots ++ next.spots);
          cells = subst⁻¹ (AllZip (IsMember sizes base kind) (entry ++ (inside.spots ++ next.spots))) members
              (zip-join (IsMember sizes base kind) entry (inside.spots ++ next.spots) (between kind (slice_index_or (cells_behind tree.children) at d))
              (list_of kind levels child ++ behind_child kind levels tree.children tree.last (suc at)) (entry-members levels tree stands at d low)
              (zip-join (IsMember sizes base kind) inside.spots next.spots (list_of kind levels child) (behind_child kind levels tree.children tree.last (suc at)) inside.cells next.cells));
          walks = λ later place is at_is.
              let further = moved-place sizes base kind (suc levels) tree place (place.at + 1) is in
              let next_at : place.at + 1 ≡ suc at = omega (arith, at_is) in
              let behind = joined next.spots later in (
                joined inside.spots behind,
                (
                  behind,
                  (
                    next.walks later (next_of place) further next_at,
                    enters (From sizes base room) (most_above - suc room) levels tree (next_of place) further (omega arith) (suc at) next_at (omega (arith, whole)) behind (joined inside.spots behind) (inside.walks behind),
                  ),
                ),
                cell-joined place (own_view (suc levels) tree) at (inside.spots ++ next.spots) later (place-view (suc levels) tree place is) at_is
                    ∙ ap (cell_then place) (joined-more inside.spots next.spots later),
              );
        }

  -- a walk over a standing tree
  pub tree-covers : (room levels : ℕ) → levels ≤ room → (tree : TreeOf levels) → Stands sizes base kind levels tree → IsFullBelow levels tree
      → Covers (λ later course. (place : Place) → IsPlace sizes base kind levels tree place → place.at ≡ 0 → From sizes base room place later course) (list_of kind levels tree)
  tree-covers room zero deep tree stands full = record {
    spots = spots_from (own_view 0 tree) 0 (length (own_cells 0 tree));
    cells = leaf-members tree stands 0 (length (own_cells 0 tree)) (omega arith);
    walks = λ later place is at_is.
        let left : cells_left place ≡ length (own_cells 0 tree) = omega (arith, at_is, place-views sizes base kind 0 tree place is) in
        let cells : joined (spots_from (own_view 0 tree) 0 (length (own_cells 0 tree))) later ≡ cells_then place later =
        ap₂ (λ (at n : ℕ). joined (spots_from (own_view 0 tree) at n) later) (sym at_is) (sym left)
        ∙ ap (λ (page : PageView). joined (spots_from page place.at (cells_left place)) later) (sym (place-view 0 tree place is)) in
        to_place sizes base room place later (joined (spots_from (own_view 0 tree) 0 (length (own_cells 0 tree))) later)
        (to_leaf (is_leaf place.page.kind) (joined (spots_from (own_view 0 tree) 0 (length (own_cells 0 tree))) later ≡ cells_then place later)
        (FromChild sizes base room place later (joined (spots_from (own_view 0 tree) 0 (length (own_cells 0 tree))) later)) (ap is_leaf is.kind_is ∙ leaf-at kind) cells);
  }
  tree-covers zero (suc levels) deep tree stands full = absurd (omega (arith, deep))
  tree-covers (suc room) (suc levels) deep tree stands full =
      let below = λ (child : TreeOf levels) (s : Stands sizes base kind levels child) (f : IsFullBelow levels child). tree-covers room levels (omega (arith, deep)) child s f in
      let next = behind-covers room levels below tree stands full 0 (length tree.children) (omega arith) in
      let child = child_tree tree.children tree.last 0 in
      let inside = below child (child-stands sizes base kind levels tree.children tree.last 0 stands.1.0 stands.1.1).1 (child-full levels tree.children tree.last 0 full.0 full.1).1 in
      let members : list_of kind (suc levels) tree ≡ list_of kind levels child ++ behind_child kind levels tree.children tree.last 0 =
      sym (from_child-all kind levels tree.children tree.last) ∙ from_child-cut kind levels tree.children tree.last 0 in
      record {
        spots = inside.spots ++ next.spots;
        cells = subst⁻¹ (AllZip (IsMember sizes base kind) (inside.spots ++ next.spots)) members
            (zip-join (IsMember sizes base kind) inside.spots next.spots (list_of kind levels child) (behind_child kind levels tree.children tree.last 0) inside.cells next.cells);
        walks = λ later place is at_is.
            let behind = joined next.spots later in
            let left : length tree.children ≡ cells_left place = omega (arith, at_is, interior-views sizes base kind levels tree place is) in
            let walk : FromChild sizes base (suc room) place later (joined inside.spots behind) = (
              behind,
              (
                subst (λ (n : ℕ). Behind sizes base (From sizes base room) (most_above - suc room) n place later behind) left (next.walks later place is at_is),
                enters (From sizes base room) (most_above - suc room) levels tree place is (omega arith) 0 at_is (omega arith) behind (joined inside.spots behind) (inside.walks behind),
              ),
            ) in
            subst⁻¹ (From sizes base (suc room) place later) (joined-more inside.spots next.spots later)
            (to_inner (is_leaf place.page.kind) (joined inside.spots behind ≡ cells_then place later) (FromChild sizes base (suc room) place later (joined inside.spots behind)) (ap is_leaf is.kind_is ∙ interior-at kind levels) walk);
      }

-- The tree at a root.

-- a course from a root comes to the cells of these members, and to its end
pub record HasCourse (sizes : Sizes) (base : Paged) (kind : TreeKind) (Walk : Course → Type 0) (members : List Member) : Type 0 where
  pub course : Course
  pub walk : Walk course
  pub members_are : HasMembers sizes base kind members course

abbrev pub AtEntered : Sizes → Paged → TreeKind → ℕ → (Place → Course → Type 0) → Course → Type 0
AtEntered sizes base kind root Walk course =
    ((page : ℕ) (rule : Rule) → IsBadRoot (base.pages root) root sizes.usable kind page rule → course ≡ stops page rule)
    × ((place : Place) → IsRootPlace (base.pages root) root sizes.usable kind place → Walk place course)

-- nothing is behind the tree of a root
pub covers-root : (sizes : Sizes) (base : Paged) (rooted : Rooted) (is : IsRoot sizes base rooted) (Walk : Place → Course → Course → Type 0) (members : List Member)
    → Covers sizes base rooted.kind (λ later course. (place : Place) → IsPlace sizes base rooted.kind rooted.levels rooted.tree place → place.at ≡ 0 → Walk place later course) members
    → HasCourse sizes base rooted.kind (AtEntered sizes base rooted.kind (root_of rooted) (λ place course. Walk place ends course)) members
covers-root sizes base rooted is Walk members covers = record {
  course = joined covers.spots ends;
  walk = (
    λ page rule bad. absurd (root-not_refused sizes base rooted is page rule bad),
    λ place at_root. covers.walks ends place (root-place sizes base rooted is place at_root.entered) at_root.entered.first,
  );
  members_are = record { cells = subst⁻¹ (λ (spots : List Spot). AllZip (IsMember sizes base rooted.kind) spots members) (append-nil covers.spots) covers.cells; undamaged = refl };
}

-- a standing tree has a course
pub tree-course : (sizes : Sizes) (base : Paged) (root : ℕ) (kind : TreeKind) (depth : ℕ) (members : List Member) (numbers : List ℕ) → IsTree sizes base root kind depth members numbers
    → HasCourse sizes base kind (FromRoot sizes base kind root) members
tree-course sizes base root kind depth members numbers is =
    let rooted = is.rooted in
    let covers = tree-covers sizes base rooted.kind most_above rooted.levels (omega (arith, is.deep, is.depth_is)) rooted.tree is.is_root.stands is.is_root.full.below in
    let found = covers-root sizes base rooted is.is_root (From sizes base most_above) (list_in rooted) covers in
    let at_root = subst (λ (k : TreeKind). AtEntered sizes base k root (λ place course. From sizes base most_above place ends course) found.course) is.kind_is
    (subst (λ (n : ℕ). AtEntered sizes base rooted.kind n (λ place course. From sizes base most_above place ends course) found.course) is.root_is found.walk) in
    record {
      course = found.course;
      walk = record { refused = at_root.0; entered = at_root.1 };
      members_are = subst (λ (k : TreeKind). HasMembers sizes base k members found.course) is.kind_is
          (subst (λ (ms : List Member). HasMembers sizes base rooted.kind ms found.course) is.members_are found.members_are);
    }
