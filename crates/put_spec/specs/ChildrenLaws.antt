-- An interior page of which one child has become several: crates above cite these facts in their proofs.
use Rattle.std.proofs.Common.{◌≡◌, ℕ, ℤ, zero, suc, ◌+◌, ◌<◌, ◌≤◌, ◌<ℤ◌, ◌≤ℤ◌, List, [], ◌∷◌, ◌++◌, length, sym, ap, ◌∙◌, arith, append_assoc}
use Rattle.std.proofs.Math.Path.{subst⁻¹}
use Rattle.std.specs.List.{flat_map, AllByRecursion}
use Rattle.std.proofs.lemmas.List.{append-nil}
use Rattle.std.proofs.lemmas.List.Concat.{flat_map-append}
use Rattle.page_spec.specs.Pages.{IsInRange}
use Rattle.tree_spec.specs.declared.TreeKind.{TreeKind}
use Rattle.tree_spec.specs.declared.TreeKind.TheVariants.{Table, Index}
use Rattle.page_spec.specs.Counts.{times}
use Rattle.page_spec.specs.CountsLaws.{times-append}
use Rattle.tree_spec.specs.Trees.{TreeCell, TreeOf, Member, interior_kind, cells_behind, page_of, pages_of, pages_beside, between, list_of, list_beside}
use Rattle.tree_spec.specs.Bounds.{BesideIn, InOrder}
use Rattle.tree_spec.specs.Standing.{Sizes, Paged, SamePage, Keeps, IsBehind, Stands, StandsBefore, StandsLast}
use Rattle.tree_spec.specs.StandingLaws.{Stands-kept, behind-kept, last-kept}
use Rattle.page_spec.specs.FreelistsLaws.{IsInRange-wider}
use Rattle.tree_spec.specs.WorldsLaws.{all-join}
use Rattle.put_spec.specs.Children.{PutIn, Belongs, views_of, child_at, children_with, last_with}
use Rattle.put_spec.specs.Puts.{InBounds}

-- Pages.

abbrev part : (levels : ℕ) → TreeOf levels × TreeCell → List ℕ
part levels child = pages_of levels child.0 ++ child.1.chain

pub beside-first : (n levels : ℕ) (child : TreeOf levels × TreeCell) (children : List (TreeOf levels × TreeCell)) (last : TreeOf levels)
    → times n (pages_beside levels (child ∷ children) last) ≡ times n (pages_of levels child.0) + times n child.1.chain + times n (pages_beside levels children last)
beside-first n levels child children last =
    let one = times-append n (part levels child ++ flat_map (part levels) children) (pages_of levels last) in
    let two = times-append n (part levels child) (flat_map (part levels) children) in
    let three = times-append n (pages_of levels child.0) child.1.chain in
    let four = times-append n (flat_map (part levels) children) (pages_of levels last) in
    omega arith

pub beside-join : (n levels : ℕ) (xs ys : List (TreeOf levels × TreeCell)) (home last : TreeOf levels) (cell : TreeCell)
    → times n (pages_beside levels (xs ++ (home, cell) ∷ ys) last) ≡ times n (pages_beside levels xs home) + times n cell.chain + times n (pages_beside levels ys last)
beside-join n levels [] ys home last cell = beside-first n levels (home, cell) ys last
beside-join n levels (x ∷ xs) ys home last cell =
    let rest = beside-join n levels xs ys home last cell in
    let one = beside-first n levels x (xs ++ (home, cell) ∷ ys) last in
    let two = beside-first n levels x xs home in
    omega arith

pub child-within : (n levels i : ℕ) (children : List (TreeOf levels × TreeCell)) (last : TreeOf levels)
    → times n (pages_of levels (child_at i children last)) ≤ times n (pages_beside levels children last)
child-within n levels i [] last = omega arith
child-within n levels zero (child ∷ children) last = omega (arith, beside-first n levels child children last)
child-within n levels (suc i) (child ∷ children) last = omega (arith, beside-first n levels child children last, child-within n levels i children last)

pub count-with : (n levels i : ℕ) (children siblings : List (TreeOf levels × TreeCell)) (last home : TreeOf levels)
    → times n (pages_beside levels (children_with i children siblings home) (last_with i children last home)) + times n (pages_of levels (child_at i children last))
    ≡ times n (pages_beside levels children last) + times n (pages_beside levels siblings home)
count-with n levels i [] siblings last home = omega arith
count-with n levels zero (child ∷ children) siblings last home =
    omega (arith, beside-first n levels child children last, beside-join n levels siblings children home last child.1)
count-with n levels (suc i) (child ∷ children) siblings last home =
    omega (
      arith,
      beside-first n levels child children last,
      beside-first n levels child (children_with i children siblings home) (last_with i children last home),
      count-with n levels i children siblings last home,
    )

-- Standing.

-- pages of which others are as they were too
pub keeps-fewer : (old new : Paged) (xs ys : List ℕ) → ((n : ℕ) → 0 < times n ys → 0 < times n xs) → Keeps xs old new → Keeps ys old new
keeps-fewer old new xs ys fewer keeps = record { same = λ n some. keeps.same n (fewer n some); grows = keeps.grows }

module _ (sizes : Sizes) (kind : TreeKind) (old new : Paged) (levels : ℕ) where
  -- a child that stays where it is
  child-kept : (child : TreeOf levels × TreeCell) (numbers : List ℕ) → ((n : ℕ) → times n (pages_of levels child.0) + times n child.1.chain ≤ times n numbers) → Keeps numbers old new
      → StandsBefore sizes old kind levels child → StandsBefore sizes new kind levels child
  child-kept child numbers within keeps stands = (
    behind-kept sizes old new (interior_kind kind) child.1 (page_of levels child.0) (keeps-fewer old new numbers child.1.chain (λ n some. omega (arith, within n)) keeps) stands.0,
    Stands-kept sizes old new kind levels child.0 (keeps-fewer old new numbers (pages_of levels child.0) (λ n some. omega (arith, within n)) keeps) stands.1,
  )

  pub beside-kept : (children : List (TreeOf levels × TreeCell)) (last : TreeOf levels) → Keeps (pages_beside levels children last) old new
      → AllByRecursion (StandsBefore sizes old kind levels) children → StandsLast sizes old kind levels last
      → AllByRecursion (StandsBefore sizes new kind levels) children × StandsLast sizes new kind levels last
  beside-kept [] last keeps all stands = (tt, last-kept sizes old new kind levels (Stands-kept sizes old new kind levels) last keeps stands)
  beside-kept (child ∷ children) last keeps all stands =
      let rest = beside-kept children last (keeps-fewer old new (pages_beside levels (child ∷ children) last) (pages_beside levels children last) (λ n some. omega (arith, beside-first n levels child children last)) keeps)
      all.1 stands in
      ((child-kept child (pages_beside levels (child ∷ children) last) (λ n. omega (arith, beside-first n levels child children last)) keeps all.0, rest.0), rest.1)

  -- one child has become several, and all pages outside it stay
  pub stands-with : (i : ℕ) (children siblings : List (TreeOf levels × TreeCell)) (last home : TreeOf levels) → old.count ≤ new.count
      → ((n : ℕ) → times n (pages_of levels (child_at i children last)) < times n (pages_beside levels children last) → SamePage n (old.pages n) (new.pages n))
      → AllByRecursion (StandsBefore sizes old kind levels) children → StandsLast sizes old kind levels last
      → AllByRecursion (StandsBefore sizes new kind levels) siblings → Stands sizes new kind levels home → page_of levels home ≡ page_of levels (child_at i children last)
      → AllByRecursion (StandsBefore sizes new kind levels) (children_with i children siblings home) × StandsLast sizes new kind levels (last_with i children last home)
  stands-with i [] siblings last home grows same all stands beside top page =
      (beside, (subst⁻¹ (λ (p : ℕ). IsInRange sizes.size new.count p) page (IsInRange-wider sizes.size old.count new.count (page_of levels last) grows stands.0), top))
  stands-with zero (child ∷ children) siblings last home grows same all stands beside top page =
      let rest = beside-kept children last (record { same = λ n some. same n (omega (arith, beside-first n levels child children last)); grows = grows }) all.1 stands in (
        all-join (StandsBefore sizes new kind levels) siblings ((home, child.1) ∷ children) beside (
          (
            subst⁻¹ (IsBehind sizes new (interior_kind kind) child.1) page
                (behind-kept sizes old new (interior_kind kind) child.1 (page_of levels child.0) (record { same = λ n some. same n (omega (arith, beside-first n levels child children last)); grows = grows }) all.0.0),
            top,
          ),
          rest.0,
        ),
        rest.1,
      )
  stands-with (suc i) (child ∷ children) siblings last home grows same all stands beside top page =
      let rest = stands-with i children siblings last home grows (λ n less. same n (omega (arith, beside-first n levels child children last))) all.1 stands beside top page in
      let apart : Keeps (part levels child) old new = record {
        same = λ n some. same n (omega (arith, beside-first n levels child children last, child-within n levels i children last, times-append n (pages_of levels child.0) child.1.chain));
        grows = grows;
      } in
      ((child-kept child (part levels child) (λ n. omega (arith, times-append n (pages_of levels child.0) child.1.chain)) apart all.0, rest.0), rest.1)

pub child-stands : (sizes : Sizes) (kind : TreeKind) (base : Paged) (levels i : ℕ) (children : List (TreeOf levels × TreeCell)) (last : TreeOf levels)
    → AllByRecursion (StandsBefore sizes base kind levels) children → Stands sizes base kind levels last → Stands sizes base kind levels (child_at i children last)
child-stands sizes kind base levels i [] last all stands = stands
child-stands sizes kind base levels zero (child ∷ children) last all stands = all.0.1
child-stands sizes kind base levels (suc i) (child ∷ children) last all stands = child-stands sizes kind base levels i children last all.1 stands

pub all-with : {Child : Type 0} (P : Child → Type 0) (i : ℕ) (children siblings : List (Child × TreeCell)) (last home : Child)
    → AllByRecursion (λ child. P child.0) children → P last → AllByRecursion (λ child. P child.0) siblings → P home
    → AllByRecursion (λ child. P child.0) (children_with i children siblings home) × P (last_with i children last home)
all-with P i [] siblings last home all end new one = (new, one)
all-with P zero (child ∷ children) siblings last home all end new one = (all-join (λ child. P child.0) siblings ((home, child.1) ∷ children) new (one, all.1), end)
all-with P (suc i) (child ∷ children) siblings last home all end new one = let rest = all-with P i children siblings last home all.1 end new one in ((all.0, rest.0), rest.1)

pub all-child : {Child : Type 0} (P : Child → Type 0) (i : ℕ) (children : List (Child × TreeCell)) (last : Child) → AllByRecursion (λ child. P child.0) children → P last → P (child_at i children last)
all-child P i [] last all end = end
all-child P zero (child ∷ children) last all end = all.0
all-child P (suc i) (child ∷ children) last all end = all-child P i children last all.1 end

some-append : {Child : Type 0} (xs : List (Child × TreeCell)) (y : Child × TreeCell) (ys : List (Child × TreeCell)) → 0 < length (cells_behind (xs ++ y ∷ ys))
some-append [] y ys = omega arith
some-append (x ∷ xs) y ys = omega arith

pub some-with : {Child : Type 0} (i : ℕ) (children siblings : List (Child × TreeCell)) (home : Child) → 0 < length (cells_behind children)
    → 0 < length (cells_behind (children_with i children siblings home))
some-with i [] siblings home some = absurd (omega arith)
some-with zero (child ∷ children) siblings home some = some-append siblings (home, child.1) children
some-with (suc i) (child ∷ children) siblings home some = omega arith

-- Bounds.

-- an index has no bounds
pub bounds-none : (levels : ℕ) (low high : ℤ) (children : List (TreeOf levels × TreeCell)) (last : TreeOf levels) → BesideIn (InBounds Index levels) low high children last
bounds-none levels low high [] last = tt
bounds-none levels low high (child ∷ children) last = (tt, bounds-none levels child.1.view.rowid high children last)

pub bounds-join : (kind : TreeKind) (levels : ℕ) (low high : ℤ) (children back : List (TreeOf levels × TreeCell)) (home last : TreeOf levels) (cell : TreeCell)
    → BesideIn (InBounds kind levels) low cell.view.rowid children home → BesideIn (InBounds kind levels) cell.view.rowid high back last
    → BesideIn (InBounds kind levels) low high (children ++ (home, cell) ∷ back) last
bounds-join kind levels low high [] back home last cell one two = (one, two)
bounds-join kind levels low high (child ∷ children) back home last cell one two = (one.0, bounds-join kind levels child.1.view.rowid high children back home last cell one.1 two)

-- where the rowid of the put belongs to the child that has become several, the children are in order again
pub order-with : (rowid : ℤ) (levels i : ℕ) (low high : ℤ) (children siblings : List (TreeOf levels × TreeCell)) (last home : TreeOf levels)
    → Belongs rowid i (views_of (cells_behind children)) → low <ℤ rowid → rowid ≤ℤ high
    → ((a b : ℤ) → a <ℤ rowid → rowid ≤ℤ b → InOrder levels a b (child_at i children last) → BesideIn (InOrder levels) a b siblings home)
    → BesideIn (InOrder levels) low high children last
    → BesideIn (InOrder levels) low high (children_with i children siblings home) (last_with i children last home)
order-with rowid levels i low high [] siblings last home here above under grown order = grown low high above under order
order-with rowid levels zero low high (child ∷ children) siblings last home here above under grown order =
    bounds-join Table levels low high siblings children home last child.1 (grown low child.1.view.rowid above here order.0) order.1
order-with rowid levels (suc i) low high (child ∷ children) siblings last home here above under grown order =
    (order.0, order-with rowid levels i child.1.view.rowid high children siblings last home here.1 here.0 under grown order.1)

-- Lists.

abbrev gives : TreeKind → (levels : ℕ) → TreeOf levels × TreeCell → List Member
gives kind levels child = list_of kind levels child.0 ++ between kind child.1

pub list-join : (kind : TreeKind) (levels : ℕ) (xs ys : List (TreeOf levels × TreeCell)) (home last : TreeOf levels) (cell : TreeCell)
    → list_beside kind levels (xs ++ (home, cell) ∷ ys) last ≡ list_beside kind levels xs home ++ (between kind cell ++ list_beside kind levels ys last)
list-join kind levels xs ys home last cell =
    ap (λ (l : List Member). l ++ list_of kind levels last) (flat_map-append (gives kind levels) xs ((home, cell) ∷ ys))
    ∙ simp append_assoc

-- the members around a child
pub record Around (kind : TreeKind) (levels i : ℕ) (children : List (TreeOf levels × TreeCell)) (last : TreeOf levels) : Type 0 where
  pub before : List Member
  pub after : List Member
  pub old : list_beside kind levels children last ≡ before ++ (list_of kind levels (child_at i children last) ++ after)
  pub new : (siblings : List (TreeOf levels × TreeCell)) (home : TreeOf levels)
      → list_beside kind levels (children_with i children siblings home) (last_with i children last home) ≡ before ++ (list_beside kind levels siblings home ++ after)

pub list-with : (kind : TreeKind) (levels i : ℕ) (children : List (TreeOf levels × TreeCell)) (last : TreeOf levels) → Around kind levels i children last
list-with kind levels i [] last = record {
  before = [];
  after = [];
  old = sym (append-nil (list_of kind levels last));
  new = λ siblings home. sym (append-nil (list_beside kind levels siblings home));
}
list-with kind levels zero (child ∷ children) last = record {
  before = [];
  after = between kind child.1 ++ list_beside kind levels children last;
  old = list-join kind levels [] children child.0 last child.1;
  new = λ siblings home. list-join kind levels siblings children home last child.1;
}
list-with kind levels (suc i) (child ∷ children) last =
    let here = gives kind levels child in
    let rest = list-with kind levels i children last in
    record {
      before = here ++ rest.before;
      after = rest.after;
      old = append_assoc here (flat_map (gives kind levels) children) (list_of kind levels last)
          ∙ ap (λ (l : List Member). here ++ l) rest.old ∙ sym (append_assoc here rest.before (list_of kind levels (child_at i children last) ++ rest.after));
      new = λ siblings home. append_assoc here (flat_map (gives kind levels) (children_with i children siblings home)) (list_of kind levels (last_with i children last home))
          ∙ ap (λ (l : List Member). here ++ l) (rest.new siblings home) ∙ sym (append_assoc here rest.before (list_beside kind levels siblings home ++ rest.after));
    }

pub put-within : (kind : TreeKind) (put : Member) (front back xs ys : List Member) → PutIn kind put xs ys → PutIn kind put (front ++ (xs ++ back)) (front ++ (ys ++ back))
put-within kind put front back xs ys is = record {
  front = front ++ is.front;
  replaced = is.replaced;
  back = is.back ++ back;
  old_is = ap (λ (l : List Member). front ++ (l ++ back)) is.old_is ∙ simp append_assoc;
  new_is = ap (λ (l : List Member). front ++ (l ++ back)) is.new_is ∙ simp append_assoc;
  same = is.same;
  few = is.few;
}

-- a member in front of both lists
pub put-behind : (kind : TreeKind) (put first : Member) (xs ys : List Member) → PutIn kind put xs ys → PutIn kind put (first ∷ xs) (first ∷ ys)
put-behind kind put first xs ys is = record {
  front = first ∷ is.front;
  replaced = is.replaced;
  back = is.back;
  old_is = ap (λ (l : List Member). first ∷ l) is.old_is;
  new_is = ap (λ (l : List Member). first ∷ l) is.new_is;
  same = is.same;
  few = is.few;
}
