-- Where a rowid belongs in a standing table, and the walk from there on.
use Rattle.std.proofs.Common.{◌≡◌, ℕ, ℤ, zero, suc, ◌-◌, ◌≤◌, ◌<ℤ◌, ◌≤ℤ◌, int_le, Bool, T, true, false, cond, List, [], ◌∷◌, ◌++◌, length, map, drop, slice_get, Option, None, refl, sym, ap, ap₂, ◌∙◌, subst, arith, append_assoc}
use Rattle.std.proofs.Math.Path.{subst⁻¹}
use Rattle.std.specs.Int.Signed.{le_z_yes}
use Rattle.std.specs.List.{flat_map, AllZip}
use Rattle.std.proofs.lemmas.Int.{ints}
use Rattle.std.proofs.lemmas.List.{length-map, append-nil}
use Rattle.std.proofs.lemmas.List.Elements.{filter-append}
use Rattle.format_spec.specs.declared.CellView.{CellView}
use Rattle.tree_spec.specs.declared.TreeKind.{TreeKind}
use Rattle.tree_spec.specs.declared.TreeKind.TheVariants.{Table, Index}
use Rattle.tree_spec.specs.Trees.{TreeCell, TreeOf, Rooted, Member, member, between, page_of, own_cells, cells_behind, list_of, list_beside, IsFullBelow}
use Rattle.tree_spec.specs.Bounds.{RisesIn, BesideIn, InOrder, greatest_rowid}
use Rattle.tree_spec.specs.BoundsLaws.{rises-bounds, InOrder-rises, rowids as member_rowids}
use Rattle.tree_spec.specs.Standing.{Sizes, Paged, Stands, IsRoot, IsTree}
use Rattle.tree_walk.specs.declared.place.Place.{Place}
use Rattle.tree_walk.specs.Pages.{PageView, is_leaf}
use Rattle.tree_walk.specs.Places.{rowids, low_bound, low_in, rowid_or, most_above}
use Rattle.tree_walk.specs.Courses.{Course, ends, spots_from, cells_left, cells_then, Enters, Behind, From, Below}
use Rattle.tree_walk.specs.Seeks.{not_less, IsIndexOf}
use Rattle.tree_walk.specs.SoughtCourses.{place_at, FromAimed, FromSought, Deeper, FromRowid}
use Rattle.tree_walk.specs.Walks.{IsMember, HasMembers}
use Rattle.tree_walk.proofs.Lists.{zip-join}
use Rattle.tree_walk.proofs.Loops.{not_le}
use Rattle.tree_walk.proofs.TreeFacts.{views_of, child_tree, behind_child, from_child-all, IsWithin, leaf-at, interior-at, tree-rises, child-stands, child-full, child-within}
use Rattle.tree_walk.proofs.TreePlaces.{IsPlace, place-views, interior-views, moved-place, root_within_is}
use Rattle.tree_walk.proofs.TreeCourses.{joined, joined-more, own_view, place-view, leaf-members, Covers, enters, behind-covers, tree-covers, HasCourse, AtEntered, covers-root}
use Rattle.tree_walk.specs.CoursesLaws.{to_leaf, to_inner}

-- Comparisons.

yes : (b : Bool) → T b → b ≡ true
yes true t = refl
yes false t = absurd t

no : (b : Bool) → (T b → ⊥) → b ≡ false
no true not = absurd (not tt)
no false not = refl

le-true : (a b : ℤ) → a ≤ℤ b → int_le a b ≡ true
le-true a b le = yes (int_le a b) le.le

le-false : (a b : ℤ) → b <ℤ a → int_le a b ≡ false
le-false a b less = no (int_le a b) (λ t. let le : a ≤ℤ b = le_z_yes t in omega (arith, ints, less, le))

-- Members.

kept : (x : ℤ) (m : Member) (ms : List Member) → x ≤ℤ m.rowid → not_less x (m ∷ ms) ≡ m ∷ not_less x ms
kept x m ms le = ap (λ (b : Bool). cond b (m ∷ not_less x ms) (not_less x ms)) (le-true x m.rowid le)

skipped : (x : ℤ) (m : Member) (ms : List Member) → m.rowid <ℤ x → not_less x (m ∷ ms) ≡ not_less x ms
skipped x m ms less = ap (λ (b : Bool). cond b (m ∷ not_less x ms) (not_less x ms)) (le-false x m.rowid less)

-- members within bounds of which the greatest is less
none-not_less : (x low high : ℤ) (ms : List Member) → RisesIn low high (member_rowids ms) → high <ℤ x → not_less x ms ≡ []
none-not_less x low high [] rises less = refl
none-not_less x low high (m ∷ ms) rises less =
    let within = rises-bounds m.rowid high (member_rowids ms) rises.1 in
    skipped x m ms (omega (arith, ints, within, less)) ∙ none-not_less x m.rowid high ms rises.1 less

-- members above a bound that is not less
all-not_less : (x low high : ℤ) (ms : List Member) → RisesIn low high (member_rowids ms) → x ≤ℤ low → not_less x ms ≡ ms
all-not_less x low high [] rises le = refl
all-not_less x low high (m ∷ ms) rises le =
    let above : x ≤ℤ m.rowid = omega (arith, ints, rises.0, le) in
    kept x m ms above ∙ ap (λ (rest : List Member). m ∷ rest) (all-not_less x m.rowid high ms rises.1 above)

-- the cells of a leaf
leaf-not_less : (x low high : ℤ) (cells : List TreeCell) (at : ℕ) → RisesIn low high (rowids (views_of cells)) → IsIndexOf x (rowids (views_of cells)) at
    → not_less x (map member cells) ≡ map member (drop at cells)
leaf-not_less x low high [] at rises index = sym (ap (λ (n : ℕ). map member (drop n [])) index)
leaf-not_less x low high (c ∷ cells) zero rises index =
    kept x (member c) (map member cells) index ∙ ap (λ (rest : List Member). member c ∷ rest) (all-cells c.view.rowid cells rises.1 index)
  where
    all-cells : (low : ℤ) (cells : List TreeCell) → RisesIn low high (rowids (views_of cells)) → x ≤ℤ low → not_less x (map member cells) ≡ map member cells
    all-cells low [] rises le = refl
    all-cells low (c ∷ cells) rises le =
        let above : x ≤ℤ c.view.rowid = omega (arith, ints, rises.0, le) in
        kept x (member c) (map member cells) above ∙ ap (λ (rest : List Member). member c ∷ rest) (all-cells c.view.rowid cells rises.1 above)
leaf-not_less x low high (c ∷ cells) (suc at) rises index =
    skipped x (member c) (map member cells) index.0 ∙ leaf-not_less x c.view.rowid high cells at rises.1 index.1

-- An index is the number of rowids that are less.
pub index-within : (x : ℤ) (xs : List ℤ) (at : ℕ) → IsIndexOf x xs at → at ≤ length xs
index-within x [] at index = omega (arith, index)
index-within x (y ∷ ys) zero index = omega arith
index-within x (y ∷ ys) (suc at) index = omega (arith, index-within x ys at index.1)

-- the members of a child, and of what stands beside it
beside-parts : (levels : ℕ) (x : ℤ) (child : TreeOf levels × TreeCell) (children : List (TreeOf levels × TreeCell)) (last : TreeOf levels)
    → not_less x (list_beside Table levels (child ∷ children) last) ≡ not_less x (list_of Table levels child.0) ++ not_less x (list_beside Table levels children last)
beside-parts levels x child children last =
    let here = list_of Table levels child.0 in
    let front = flat_map (λ (c : TreeOf levels × TreeCell). list_of Table levels c.0 ++ between Table c.1) children in
    ap (not_less x) (append_assoc (here ++ []) front (list_of Table levels last) ∙ append_assoc here [] (list_beside Table levels children last))
    ∙ filter-append (λ (m : Member). int_le x m.rowid) here (list_beside Table levels children last)

-- the trees beside one another: all before the child at the index is less, and nothing behind it
beside-not_less : (levels : ℕ) (x low high : ℤ) (children : List (TreeOf levels × TreeCell)) (last : TreeOf levels) (at : ℕ) → BesideIn (InOrder levels) low high children last
    → IsIndexOf x (rowids (views_of (cells_behind children))) at
    → not_less x (list_beside Table levels children last) ≡ not_less x (list_of Table levels (child_tree children last at)) ++ behind_child Table levels children last at
beside-not_less levels x low high [] last at beside index = sym (append-nil (not_less x (list_of Table levels last)))
beside-not_less levels x low high (child ∷ children) last zero beside index =
    let rest = list_beside Table levels children last in
    let rises = InOrder-rises (suc levels) child.1.view.rowid high (record { page = 0; children = children; last = last }) beside.1 in
    beside-parts levels x child children last
    ∙ ap (λ (r : List Member). not_less x (list_of Table levels child.0) ++ r) (all-not_less x child.1.view.rowid high rest rises index ∙ sym (from_child-all Table levels children last))
beside-not_less levels x low high (child ∷ children) last (suc at) beside index =
    beside-parts levels x child children last
    ∙ ap (λ (r : List Member). r ++ not_less x (list_beside Table levels children last))
    (none-not_less x low child.1.view.rowid (list_of Table levels child.0) (InOrder-rises levels low child.1.view.rowid child.0 beside.0) index.0)
    ∙ beside-not_less levels x child.1.view.rowid high children last at beside.1 index.1

-- The index at which a rowid belongs.
abbrev pub index_in : ℤ → List ℤ → ℕ
index_in x [] = 0
index_in x (y ∷ ys) = cond (int_le x y) 0 (suc (index_in x ys))

pub index-is : (x : ℤ) (xs : List ℤ) → IsIndexOf x xs (index_in x xs)
index-is x [] = refl
index-is x (y ∷ ys) = by (int_le x y) refl (index-is x ys)
  where
    by : (b : Bool) → int_le x y ≡ b → IsIndexOf x ys (index_in x ys) → IsIndexOf x (y ∷ ys) (cond b 0 (suc (index_in x ys)))
    by true is later = le_z_yes (subst⁻¹ T is tt)
    by false is later = (not_le x y (λ le. let e : false ≡ true = sym is ∙ le-true x y le in cc), later)

pub index-one : (x : ℤ) (xs : List ℤ) (a b : ℕ) → IsIndexOf x xs a → IsIndexOf x xs b → a ≡ b
index-one x [] a b one two = one ∙ sym two
index-one x (y ∷ ys) zero zero one two = refl
index-one x (y ∷ ys) zero (suc b) one two = absurd (omega (arith, ints, one, two.0))
index-one x (y ∷ ys) (suc a) zero one two = absurd (omega (arith, ints, one.0, two))
index-one x (y ∷ ys) (suc a) (suc b) one two = ap suc (index-one x ys a b one.1 two.1)

module _ (sizes : Sizes) (base : Paged) (x : ℤ) where
  at_index : (room : ℕ) (place : Place) (later course : Course)
      → ((at : ℕ) → IsIndexOf x (rowids place.page.views) at → FromAimed sizes base x (Deeper sizes base x room) room (place_at place at) later course) → FromSought sizes base x room place later course
  at_index zero place later course from = from
  at_index (suc room) place later course from = from

  abbrev index_of : List TreeCell → ℕ
  index_of cells = index_in x (rowids (views_of cells))

  index_of-is : (cells : List TreeCell) → IsIndexOf x (rowids (views_of cells)) (index_of cells)
  index_of-is cells = index-is x (rowids (views_of cells))

  index_of-within : (cells : List TreeCell) → index_of cells ≤ length cells
  index_of-within cells =
      omega (
        arith,
        index-within x (rowids (views_of cells)) (index_of cells) (index_of-is cells),
        length-map (views_of cells) (λ (v : CellView). v.rowid),
        length-map cells (λ (c : TreeCell). c.view),
      )

  index_of-one : (levels : ℕ) (tree : TreeOf levels) (place : Place) (at : ℕ) → IsPlace sizes base Table levels tree place → IsIndexOf x (rowids place.page.views) at → at ≡ index_of (own_cells levels tree)
  index_of-one levels tree place at is index =
      index-one x (rowids (views_of (own_cells levels tree))) at (index_of (own_cells levels tree))
      (subst (λ (views : List CellView). IsIndexOf x (rowids views) at) is.views_are index) (index_of-is (own_cells levels tree))

  abbrev Inner : ℕ → Place → Course → Course → Type 0
  Inner room place later course = (behind : Course)
      × (Behind sizes base (Below sizes base room) (most_above - room) (cells_left place) place later behind × Enters sizes base (Deeper sizes base x room) (most_above - room) place behind course)

  sought-covers : (room levels : ℕ) → levels ≤ room → (tree : TreeOf levels) → Stands sizes base Table levels tree → IsFullBelow levels tree → (low : Option ℤ) (high : ℤ) → IsWithin Table levels low high tree
      → Covers sizes base Table (λ later course. (place : Place) → IsPlace sizes base Table levels tree place → FromSought sizes base x room place later course) (not_less x (list_of Table levels tree))
  sought-covers room zero deep tree stands full low high within =
      let k = index_of tree.cells in
      let some = index_of-within tree.cells in
      let left = length tree.cells - k in
      let spots = spots_from (own_view sizes base Table 0 tree) k left in
      let rises = tree-rises Table 0 low high tree full within in
      record {
        spots = spots;
        cells = subst⁻¹ (AllZip (IsMember sizes base Table) spots) (leaf-not_less x (low_bound low) high tree.cells k rises (index_of-is tree.cells))
            (leaf-members sizes base Table tree stands k left (omega (arith, some)));
        walks = λ later place is.
            at_index room place later (joined spots later) (λ at index.
            let at_is = index_of-one 0 tree place at is index in
            let its_left : cells_left (place_at place at) ≡ left = omega (arith, at_is, place-views sizes base Table 0 tree place is) in
            let cells : joined spots later ≡ cells_then (place_at place at) later =
            ap₂ (λ (i n : ℕ). joined (spots_from (own_view sizes base Table 0 tree) i n) later) (sym at_is) (sym its_left)
            ∙ ap (λ (page : PageView). joined (spots_from page at (cells_left (place_at place at))) later) (sym (place-view sizes base Table 0 tree place is)) in
            to_leaf (is_leaf place.page.kind) (joined spots later ≡ cells_then (place_at place at) later) (Inner room (place_at place at) later (joined spots later)) (ap is_leaf is.kind_is ∙ leaf-at Table) cells);
      }
  sought-covers zero (suc levels) deep tree stands full low high within = absurd (omega (arith, deep))
  sought-covers (suc room) (suc levels) deep tree stands full low high within =
      let cells = cells_behind tree.children in
      let k = index_of cells in
      let few : k ≤ length tree.children = omega (arith, index_of-within cells, length-map tree.children (λ (c : TreeOf levels × TreeCell). c.1)) in
      let child = child_tree tree.children tree.last k in
      let below = λ (c : TreeOf levels) (s : Stands sizes base Table levels c) (f : IsFullBelow levels c). tree-covers sizes base Table room levels (omega (arith, deep)) c s f in
      let next = behind-covers sizes base Table room levels below tree stands full k (length tree.children - k) (omega (arith, few)) in
      let inside = sought-covers room levels (omega (arith, deep)) child (child-stands sizes base Table levels tree.children tree.last k stands.1.0 stands.1.1).1
      (child-full levels tree.children tree.last k full.0 full.1).1 (low_in low (views_of cells) k) (rowid_or high (slice_get (views_of cells) k)) (child-within Table levels tree low high k few within) in
      record {
        spots = inside.spots ++ next.spots;
        cells = subst⁻¹ (AllZip (IsMember sizes base Table) (inside.spots ++ next.spots)) (beside-not_less levels x (low_bound low) high tree.children tree.last k within (index_of-is cells))
            (zip-join (IsMember sizes base Table) inside.spots next.spots (not_less x (list_of Table levels child)) (behind_child Table levels tree.children tree.last k) inside.cells next.cells);
        walks = λ later place is.
            at_index (suc room) place later (joined (inside.spots ++ next.spots) later) (λ at index.
            let at_is = index_of-one (suc levels) tree place at is index in
            let there = moved-place sizes base Table (suc levels) tree place at is in
            let behind = joined next.spots later in
            let left : length tree.children - k ≡ cells_left (place_at place at) = omega (arith, at_is, interior-views sizes base Table levels tree place is) in
            let walk : Inner (suc room) (place_at place at) later (joined inside.spots behind) = (
              behind,
              (
                subst (λ (n : ℕ). Behind sizes base (From sizes base room) (most_above - suc room) n (place_at place at) later behind) left (next.walks later (place_at place at) there at_is),
                enters sizes base Table (FromSought sizes base x room) (most_above - suc room) levels tree (place_at place at) there (omega arith) k at_is few behind (joined inside.spots behind)
                    (λ entered its_place first. inside.walks behind entered its_place),
              ),
            ) in
            subst⁻¹ (FromAimed sizes base x (Deeper sizes base x (suc room)) (suc room) (place_at place at) later) (joined-more inside.spots next.spots later)
            (to_inner (is_leaf place.page.kind) (joined inside.spots behind ≡ cells_then (place_at place at) later) (Inner (suc room) (place_at place at) later (joined inside.spots behind))
            (ap is_leaf is.kind_is ∙ interior-at Table levels) walk));
      }

  -- a standing table has a course from where a rowid belongs
  pub sought-course : (root depth : ℕ) (members : List Member) (numbers : List ℕ) → IsTree sizes base root Table depth members numbers → HasCourse sizes base Table (FromRowid sizes base x root) (not_less x members)
  sought-course root depth members numbers is =
      let found = by is.rooted.kind is.rooted.levels is.rooted.tree is.kind_is is.is_root (omega (arith, is.deep, is.depth_is)) in
      let at_root = subst (λ (n : ℕ). AtEntered sizes base Table n (λ place course. FromSought sizes base x most_above place ends course) found.course) is.root_is found.walk in
      record {
        course = found.course;
        walk = record { refused = at_root.0; entered = at_root.1 };
        members_are = subst (λ (ms : List Member). HasMembers sizes base Table (not_less x ms) found.course) is.members_are found.members_are;
      }
    where
      by : (kind : TreeKind) (levels : ℕ) (tree : TreeOf levels) → kind ≡ Table → IsRoot sizes base (record { kind = kind; levels = levels; tree = tree }) → levels ≤ most_above
          → HasCourse sizes base Table (AtEntered sizes base Table (page_of levels tree) (λ place course. FromSought sizes base x most_above place ends course)) (not_less x (list_of kind levels tree))
      by Index levels tree is root deep = absurd (let e : Index ≡ Table = is in cc)
      by Table levels tree is root deep =
          let rooted : Rooted = record { kind = Table; levels = levels; tree = tree } in
          let covers = sought-covers most_above levels deep tree root.stands root.full.below None greatest_rowid (root_within_is sizes base rooted root) in
          covers-root sizes base rooted root (FromSought sizes base x most_above) (not_less x (list_of Table levels tree))
          (record { spots = covers.spots; cells = covers.cells; walks = λ later place its_place first. covers.walks later place its_place })
