-- One tree stands at a root: crates above cite these facts in their proofs.
use Rattle.std.proofs.Common.{◌≡◌, ◌≢◌, ℕ, zero, suc, ◌-◌, List, [], ◌∷◌, ◌++◌, map, slice_index, refl, sym, ap, ◌∙◌, subst, arith}
use Rattle.std.proofs.Math.Path.{subst⁻¹}
use Rattle.std.specs.List.{AllByRecursion}
use Rattle.byte_fields.specs.Bytes.{part_of}
use Rattle.format_spec.specs.declared.PageKind.{PageKind}
use Rattle.format_spec.specs.declared.CellView.{CellView}
use Rattle.format_spec.specs.Page.{IsPage, header_place, kind_byte}
use Rattle.page_spec.specs.Chains.{IsChain, chain_bytes}
use Rattle.page_spec.specs.ChainsLaws.{same_chain}
use Rattle.cell_codec.specs.CellLaws.{cell-same}
use Rattle.tree_spec.specs.declared.TreeKind.{TreeKind}
use Rattle.tree_spec.specs.declared.TreeKind.TheVariants.{Table, Index}
use Rattle.tree_spec.specs.Trees.{TreeCell, TreeOf, Rooted, Member, leaf_kind, interior_kind, kind_at, page_of, own_cells, own_right, cells_behind, root_of, depth_of, list_in, pages_in}
use Rattle.tree_spec.specs.Standing.{Sizes, Paged, IsHeld, HasOwnPage, Stands, StandsBefore, IsTree}
use Rattle.tree_spec.specs.PagesLaws.{page-same}

-- the bytes of these cells
abbrev bytes_of : List TreeCell → List (List ℕ)
bytes_of cells = map (λ cell. cell.bytes) cells

same-cell : (a b : TreeCell) → a.bytes ≡ b.bytes → a.view ≡ b.view → a.payload ≡ b.payload → a.chain ≡ b.chain → a ≡ b
same-cell a b p q r s = λ i. record { bytes = p i; view = q i; payload = r i; chain = s i }

module _ (sizes : Sizes) (base : Paged) where
  -- what a cell with these bytes and this chain holds
  abbrev held_payload : List ℕ → CellView → List ℕ → List ℕ
  held_payload bytes view chain = part_of bytes view.local_at view.local ++ chain_bytes base.pages sizes.usable chain (view.payload - view.local)

  -- bytes are one cell, with one chain and one payload
  pub held-one : (page_kind : PageKind) (a b : TreeCell) → a.bytes ≡ b.bytes → IsHeld sizes base page_kind a → IsHeld sizes base page_kind b → a ≡ b
  held-one page_kind a b bytes one two =
      let view : a.view ≡ b.view = (cell-same page_kind sizes.usable a.bytes b.bytes [] [] a.view b.view one.is_cell two.is_cell (ap (λ (x : List ℕ). x ++ []) bytes)).1 in
      let also = subst⁻¹ (λ (v : CellView). IsChain base.pages sizes.size sizes.usable base.count v.overflow (v.payload - v.local) b.chain) view two.is_chain in
      let chain : a.chain ≡ b.chain = same_chain base.pages sizes.size base.count sizes.usable a.view.overflow (a.view.payload - a.view.local) a.chain b.chain one.is_chain also in
      let payload : held_payload a.bytes a.view a.chain ≡ held_payload b.bytes b.view b.chain = λ i. held_payload (bytes i) (view i) (chain i) in
      same-cell a b bytes view (one.whole ∙ payload ∙ sym two.whole) chain

  cells-one : (page_kind : PageKind) (xs ys : List TreeCell) → bytes_of xs ≡ bytes_of ys → AllByRecursion (IsHeld sizes base page_kind) xs → AllByRecursion (IsHeld sizes base page_kind) ys → xs ≡ ys
  cells-one page_kind [] [] bytes one two = refl
  cells-one page_kind [] (y ∷ ys) bytes one two = absurd (let h : ⊥ = cc in h)
  cells-one page_kind (x ∷ xs) [] bytes one two = absurd (let h : ⊥ = cc in h)
  cells-one page_kind (x ∷ xs) (y ∷ ys) bytes one two =
      let first : x.bytes ≡ y.bytes = cc in
      let rest : bytes_of xs ≡ bytes_of ys = cc in
      let cell = held-one page_kind x y first one.0 two.0 in
      let cells = cells-one page_kind xs ys rest one.1 two.1 in
      λ i. cell i ∷ cells i

  module _ (kind : TreeKind) where
    children-one : (levels : ℕ) → ((a b : TreeOf levels) → page_of levels a ≡ page_of levels b → Stands sizes base kind levels a → Stands sizes base kind levels b → a ≡ b)
        → (xs ys : List (TreeOf levels × TreeCell)) → bytes_of (cells_behind xs) ≡ bytes_of (cells_behind ys)
        → AllByRecursion (StandsBefore sizes base kind levels) xs → AllByRecursion (StandsBefore sizes base kind levels) ys → xs ≡ ys
    children-one levels below [] [] bytes one two = refl
    children-one levels below [] (y ∷ ys) bytes one two = absurd (let h : ⊥ = cc in h)
    children-one levels below (x ∷ xs) [] bytes one two = absurd (let h : ⊥ = cc in h)
    children-one levels below (x ∷ xs) (y ∷ ys) bytes one two =
        let first : x.1.bytes ≡ y.1.bytes = cc in
        let rest : bytes_of (cells_behind xs) ≡ bytes_of (cells_behind ys) = cc in
        let cell = held-one (interior_kind kind) x.1 y.1 first one.0.0.held two.0.0.held in
        let page : page_of levels x.0 ≡ page_of levels y.0 = sym one.0.0.names ∙ ap (λ (c : TreeCell). c.view.child) cell ∙ two.0.0.names in
        let tree = below x.0 y.0 page one.0.1 two.0.1 in
        let children = children-one levels below xs ys rest one.1 two.1 in
        λ i. (tree i, cell i) ∷ children i

    own-one : (levels : ℕ) (a b : TreeOf levels) → page_of levels a ≡ page_of levels b → HasOwnPage sizes base kind levels a → HasOwnPage sizes base kind levels b
        → (bytes_of (own_cells levels a) ≡ bytes_of (own_cells levels b)) × (own_right levels a ≡ own_right levels b)
    own-one levels a b page one two =
        let bytes = bytes_of (own_cells levels b) in
        let also = subst⁻¹ (λ (p : ℕ). IsPage (base.pages p) p sizes.usable (kind_at kind levels) bytes (own_right levels b)) page two in
        page-same (base.pages (page_of levels a)) (page_of levels a) sizes.usable (kind_at kind levels) (bytes_of (own_cells levels a)) bytes (own_right levels a) (own_right levels b) one also

    -- one tree of a kind and of so many levels stands at a page
    pub Stands-one : (levels : ℕ) (a b : TreeOf levels) → page_of levels a ≡ page_of levels b → Stands sizes base kind levels a → Stands sizes base kind levels b → a ≡ b
    Stands-one zero a b page one two =
        let own = own-one zero a b page one.0 two.0 in
        let cells = cells-one (leaf_kind kind) a.cells b.cells own.0 one.1 two.1 in
        λ i. record { page = page i; cells = cells i }
    Stands-one (suc levels) a b page one two =
        let own = own-one (suc levels) a b page one.0 two.0 in
        let children = children-one levels (Stands-one levels) a.children b.children own.0 one.1.0 two.1.0 in
        let last = Stands-one levels a.last b.last own.1 one.1.1.1 two.1.1.1 in
        λ i. record { page = page i; children = children i; last = last i }

  kind-leaf : (k l : TreeKind) → kind_byte (leaf_kind k) ≡ kind_byte (leaf_kind l) → k ≡ l
  kind-leaf Table Table e = refl
  kind-leaf Table Index e = absurd (omega (arith, e))
  kind-leaf Index Table e = absurd (omega (arith, e))
  kind-leaf Index Index e = refl

  kind-interior : (k l : TreeKind) → kind_byte (interior_kind k) ≡ kind_byte (interior_kind l) → k ≡ l
  kind-interior Table Table e = refl
  kind-interior Table Index e = absurd (omega (arith, e))
  kind-interior Index Table e = absurd (omega (arith, e))
  kind-interior Index Index e = refl

  kinds-apart : (k l : TreeKind) → kind_byte (leaf_kind k) ≡ kind_byte (interior_kind l) → ⊥
  kinds-apart Table Table e = omega (arith, e)
  kinds-apart Table Index e = omega (arith, e)
  kinds-apart Index Table e = omega (arith, e)
  kinds-apart Index Index e = omega (arith, e)

  -- the byte of a page says the kind of both trees
  bytes-one : (k l : TreeKind) (m n : ℕ) (a : TreeOf m) (b : TreeOf n) → page_of m a ≡ page_of n b → HasOwnPage sizes base k m a → HasOwnPage sizes base l n b
      → kind_byte (kind_at k m) ≡ kind_byte (kind_at l n)
  bytes-one k l m n a b page one two = sym one.kind_is ∙ ap (λ (p : ℕ). slice_index (base.pages p) (header_place p)) page ∙ two.kind_is

  -- a tree whose own page is a leaf has no levels, and one whose own page is interior has some
  pub leaf-levels : (kind : TreeKind) (levels page : ℕ) (tree : TreeOf levels) (cells : List (List ℕ)) (right : ℕ) → page_of levels tree ≡ page
      → IsPage (base.pages page) page sizes.usable (leaf_kind kind) cells right → HasOwnPage sizes base kind levels tree → levels ≡ 0
  leaf-levels kind zero page tree cells right is told own = refl
  leaf-levels kind (suc levels) page tree cells right is told own =
      absurd (kinds-apart kind kind (sym told.kind_is ∙ ap (λ (p : ℕ). slice_index (base.pages p) (header_place p)) (sym is) ∙ own.kind_is))

  pub interior-levels : (kind : TreeKind) (levels page : ℕ) (tree : TreeOf levels) (cells : List (List ℕ)) (right : ℕ) → page_of levels tree ≡ page
      → IsPage (base.pages page) page sizes.usable (interior_kind kind) cells right → HasOwnPage sizes base kind levels tree → levels ≢ 0
  interior-levels kind zero page tree cells right is told own none =
      kinds-apart kind kind (sym own.kind_is ∙ ap (λ (p : ℕ). slice_index (base.pages p) (header_place p)) is ∙ told.kind_is)
  interior-levels kind (suc levels) page tree cells right is told own none = omega arith

  -- trees that stand at one page have one kind and as many levels
  pub levels-one : (k l : TreeKind) (m n : ℕ) (a : TreeOf m) (b : TreeOf n) → page_of m a ≡ page_of n b → Stands sizes base k m a → Stands sizes base l n b → (k ≡ l) × (m ≡ n)
  levels-one k l zero zero a b page one two = (kind-leaf k l (bytes-one k l zero zero a b page one.0 two.0), refl)
  levels-one k l zero (suc n) a b page one two = absurd (kinds-apart k l (bytes-one k l zero (suc n) a b page one.0 two.0))
  levels-one k l (suc m) zero a b page one two = absurd (kinds-apart l k (sym (bytes-one k l (suc m) zero a b page one.0 two.0)))
  levels-one k l (suc m) (suc n) a b page one two =
      let kind : k ≡ l = kind-interior k l (bytes-one k l (suc m) (suc n) a b page one.0 two.0) in
      let moved = subst⁻¹ (λ (p : ℕ). IsPage (base.pages p) p sizes.usable (interior_kind l) (bytes_of (cells_behind b.children)) (page_of n b.last)) page two.0 in
      let also = subst⁻¹ (λ (t : TreeKind). IsPage (base.pages a.page) a.page sizes.usable (interior_kind t) (bytes_of (cells_behind b.children)) (page_of n b.last)) kind moved in
      let last = (page-same (base.pages a.page) a.page sizes.usable (interior_kind k) (bytes_of (cells_behind a.children)) (bytes_of (cells_behind b.children))
      (page_of m a.last) (page_of n b.last) one.0 also).1 in
      (kind, ap suc (levels-one k l m n a.last b.last last one.1.1.1 two.1.1.1).1)

  -- one tree stands at a root
  pub rooted-one : (a b : Rooted) → root_of a ≡ root_of b → Stands sizes base a.kind a.levels a.tree → Stands sizes base b.kind b.levels b.tree → a ≡ b
  rooted-one a b root one two =
      let same = levels-one a.kind b.kind a.levels b.levels a.tree b.tree root one two in
      subst (λ (k : TreeKind). (n : ℕ) (tree : TreeOf n) → a.levels ≡ n → root_of a ≡ page_of n tree → Stands sizes base k n tree → a ≡ record { kind = k; levels = n; tree = tree }) same.0
      (λ n tree levels. subst (λ (m : ℕ). (t : TreeOf m) → root_of a ≡ page_of m t → Stands sizes base a.kind m t → a ≡ record { kind = a.kind; levels = m; tree = t }) levels
      (λ t page stands. ap (λ (u : TreeOf a.levels). record { kind = a.kind; levels = a.levels; tree = u }) (Stands-one a.kind a.levels a.tree t page one stands)) tree)
      b.levels b.tree same.1 root two

  -- and so its kind, its depth, its list and its pages are one
  pub IsTree-one : (root : ℕ) (kind other : TreeKind) (depth deep : ℕ) (members also : List Member) (numbers more : List ℕ)
      → IsTree sizes base root kind depth members numbers → IsTree sizes base root other deep also more → (kind ≡ other) × (depth ≡ deep) × (members ≡ also) × (numbers ≡ more)
  IsTree-one root kind other depth deep members also numbers more one two =
      let same = rooted-one one.rooted two.rooted (one.root_is ∙ sym two.root_is) one.is_root.stands two.is_root.stands in (
        sym one.kind_is ∙ ap (λ (r : Rooted). r.kind) same ∙ two.kind_is,
        sym one.depth_is ∙ ap depth_of same ∙ two.depth_is,
        sym one.members_are ∙ ap list_in same ∙ two.members_are,
        sym one.numbers_are ∙ ap pages_in same ∙ two.numbers_are,
      )
