-- What is left of cells while their fronts go to pages that are taken.
use Rattle.std.proofs.Common.{◌≡◌, ◌≢◌, ℕ, zero, suc, ◌+◌, ◌-◌, ◌*◌, ◌^◌, ◌<◌, ◌≤◌, List, [], ◌∷◌, ◌++◌, Result, Ok, Err, OnOk, length, max, take, drop, slice_index_or, refl, sym, ap, ◌∙◌, subst, arith}
use Rattle.std.proofs.Math.Path.{subst⁻¹}
use Rattle.std.proofs.lemmas.List.{map-append, drop-drop, length-drop, length-take, length-take-le, get_or-take, get_or-drop, take_all}
use Rattle.std.specs.List.{All}
use Rattle.format_spec.specs.declared.PageKind.{PageKind}
use Rattle.format_spec.specs.declared.PageKind.TheVariants.{IndexInterior, TableInterior, IndexLeaf, TableLeaf}
use Rattle.format_spec.specs.Cell.{IsCell}
use Rattle.format_spec.specs.Page.{IsPage, header_place, header_length, cell_room}
use Rattle.page_spec.specs.Rooms.{IsOneCell, needs, right_kept, free_bytes, IsWritten}
use Rattle.page_spec.specs.Pages.{IsInRange}
use Rattle.tree_spec.specs.declared.TreeKind.{TreeKind}
use Rattle.tree_spec.specs.Trees.{interior_kind, kind_at}
use Rattle.tree_spec.specs.Standing.{Sizes, Paged, IsNumber}
use Rattle.tree_spec.specs.PagesLaws.{page-kept, header_place-none}
use Rattle.tree_spec.specs.WorldsLaws.{all-join}
use Rattle.tree_balance.specs.Cuts.{risen, page_room}
use Rattle.tree_balance.specs.NeedsLaws.{cell-need, needs-parts, thrice-below}
use Rattle.std.proofs.Math.Nat.{mul-le-mul_left}
use Rattle.std.proofs.lemmas.Bool.Decides.{nat_tests}
use Rattle.format_spec.specs.Sizes.{IsUsable}
use Rattle.tree_spec.specs.declared.TreeKind.TheVariants.{Table, Index}
use Rattle.put_spec.specs.Steps.{Spelled, bytes_in, Took, IsFronted}
use Rattle.put_spec.specs.SpelledLaws.{took-written}
use Rattle.put_spec.specs.SpreadsLaws.{spread-then, spread-settled}
use Rattle.page_spec.specs.Freelists.{Trunk}
use Rattle.tree_spec.specs.declared.fault.TreeFault.{TreeFault}
use Rattle.tree_spec.specs.Worlds.{IsFree}
use Rattle.tree_spec.specs.ChangesLaws.{free-within}
use Rattle.tree_pages.specs.Takes.{IsShort, TakesAtMost}
use Rattle.tree_pages.specs.TakesLaws.{short-then, slack-taken, spread-takes, takes-more}
use Rattle.put_spec.specs.ImagesLaws.{length-of}
use Rattle.tree_level.specs.declared.writing.Node.{Node}
use Rattle.tree_level.specs.Levels.{AreSpelled, WritesPage, WritesNode, IsDivider, left_child, SpreadsTo, Spreads, Settles, MovesOut, above_kind}
use Rattle.tree_level.proofs.Raised.{front-cut}

pub on-ok_map : {T E P Q : Type 0} (result : Result T E) → (P → Q) → OnOk result P → OnOk result Q
on-ok_map (Ok x) more holds = more holds
on-ok_map (Err e) more holds = tt

pub on-ok_all : {T E P : Type 0} (result : Result T E) → P → OnOk result P
on-ok_all (Ok x) holds = holds
on-ok_all (Err e) holds = tt

-- a page that was laid out is written
pub node-written : (sizes : Sizes) (node : Node) (cells : List (List ℕ)) (page : List ℕ) (usable : ℕ) (a b : Paged) → usable ≡ sizes.usable
    → IsWritten page node.number usable node.kind cells (right_kept node.kind node.right) → WritesPage node.number page a b → WritesNode sizes node cells a b
node-written sizes node cells page usable a b same written writes = record {
  writes = writes.writes;
  is_page = subst (λ (u : ℕ). IsPage (b.pages node.number) node.number u node.kind cells (right_kept node.kind node.right)) same
      (page-kept node.number page (b.pages node.number) writes.same usable node.kind cells (right_kept node.kind node.right) written.is_page);
}

-- the room of a page that is not page 1
pub room-other : (number usable : ℕ) (kind : PageKind) → 2 ≤ number → free_bytes number usable kind [] ≡ page_room kind usable
room-other number usable kind behind = omega (arith, header_place-none number behind, header_place-none 2 (omega arith))

right-kept : (kind : PageKind) (cell : List ℕ) → right_kept kind (left_child kind cell) ≡ left_child kind cell
right-kept TableLeaf cell = refl
right-kept TableInterior cell = refl
right-kept IndexLeaf cell = refl
right-kept IndexInterior cell = refl

-- the cells of a front, and those behind it
pub cells-front : (P : List ℕ → Type 0) (n : ℕ) (cells : List (List ℕ)) → All P cells → All P (take n cells)
cells-front P n cells all k d low =
    let size = length-take n cells in
    subst⁻¹ P (get_or-take n cells k d (omega (arith, size))) (all k d (omega (arith, size)))

pub cells-behind : (P : List ℕ → Type 0) (n : ℕ) (cells : List (List ℕ)) → All P cells → All P (drop n cells)
cells-behind P n cells all k d low = subst⁻¹ P (get_or-drop n cells k d) (all (n + k) d (omega (arith, length-drop n cells)))

-- the cells from a place on, as a slice has them
pub rest-of : {A : Type 0} (n : ℕ) (xs : List A) → take (length xs - n) (drop n xs) ≡ drop n xs
rest-of n xs = take_all (length xs - n) (drop n xs) (omega (arith, length-drop n xs))

-- A front is on its page.
module _ (sizes : Sizes) (bytes : List (List ℕ)) (front child : ℕ) (divider : List ℕ) (old taken new : Paged) (fits : child < 2 ^ 32) (in_range : IsNumber sizes taken child)
    (took : Took sizes child old taken) where
  abbrev Fronted : PageKind → Type 0
  Fronted page_kind = WritesNode sizes (record { number = child; kind = page_kind; right = left_child page_kind (slice_index_or bytes front []) }) (take front bytes) taken new

  front-on_page : (levels : ℕ) (kind : TreeKind) (cells : List Spelled) → 1 ≤ front → front + risen (kind_at kind levels) < length bytes → IsDivider (kind_at kind levels) sizes.usable bytes front child divider
      → Fronted (kind_at kind levels) → AreSpelled (kind_at kind levels) sizes.usable cells bytes
      → SpreadsTo sizes levels kind cells (divider ∷ []) (drop (front + risen (kind_at kind levels)) bytes) old new
  front-on_page levels kind cells some within is written are =
      let page_kind = kind_at kind levels in
      let right = left_child page_kind (slice_index_or bytes front []) in
      let f = front-cut levels kind sizes.usable cells bytes front child divider fits are some within is in
      let head : length f.head ≡ front = sym (spelled-length f.head) ∙ ap length f.head_are ∙ length-take-le front bytes (omega arith) in
      let back : length f.back ≡ length bytes - (front + risen page_kind) = sym (spelled-length f.back) ∙ ap length f.back_are.bytes_are ∙ length-drop (front + risen page_kind) bytes in
      let page = subst⁻¹ (λ (l : List (List ℕ)). IsPage (new.pages child) child sizes.usable page_kind l right) f.head_are
      (subst (λ (r : ℕ). IsPage (new.pages child) child sizes.usable page_kind (take front bytes) r) (right-kept page_kind (slice_index_or bytes front [])) written.is_page) in
      let range = subst⁻¹ (λ (n : ℕ). IsInRange sizes.size n child) written.writes.count in_range in
      let fronted : IsFronted sizes levels kind cells f.up f.back old new = record {
        front = f.head;
        right = right;
        parts = f.parts;
        took = subst⁻¹ (λ (n : ℕ). Took sizes n old new) f.child_is (took-written sizes child old taken new took written.writes);
        in_range = subst⁻¹ (λ (n : ℕ). IsInRange sizes.size new.count n) f.child_is range;
        is_page = subst⁻¹ (λ (n : ℕ). IsPage (new.pages n) n sizes.usable page_kind (bytes_in f.head) right) f.child_is page;
        is_cell = f.is_cell;
        front_some = omega arith;
        back_some = omega arith;
      } in
      record {
        up = f.up ∷ [];
        back = f.back;
        up_are = record { bytes_are = ap (λ (l : List ℕ). l ∷ []) f.up_is; are_cells = (f.is_cell, tt) };
        back_are = f.back_are;
        spread = (f.back, new, fronted, (refl, refl));
      }
    where
      spelled-length : (cells : List Spelled) → length (bytes_in cells) ≡ length cells
      spelled-length [] = refl
      spelled-length (cell ∷ cells) = omega (arith, spelled-length cells)

  pub front-spread : (page_kind : PageKind) → 1 ≤ front → front + risen page_kind < length bytes → IsDivider page_kind sizes.usable bytes front child divider → Fronted page_kind
      → Spreads sizes page_kind bytes (divider ∷ []) (drop (front + risen page_kind) bytes) old new
  front-spread page_kind some within is written levels kind cells same =
      subst (λ (k : PageKind). front + risen k < length bytes → IsDivider k sizes.usable bytes front child divider → Fronted k → AreSpelled k sizes.usable cells bytes
      → SpreadsTo sizes levels kind cells (divider ∷ []) (drop (front + risen k) bytes) old new) same (front-on_page levels kind cells some) within is written

-- cells that are cells of a kind can be read
pub spelled-of : (kind : PageKind) (usable : ℕ) (bytes : List (List ℕ)) → All (IsOneCell kind usable) bytes → (cells : List Spelled) × AreSpelled kind usable cells bytes
spelled-of kind usable [] all = ([], record { bytes_are = refl; are_cells = tt })
spelled-of kind usable (x ∷ xs) all =
    let one = all 0 x (omega arith) in
    let rest = spelled-of kind usable xs (λ k d low. all (suc k) d (omega arith)) in
    let cell : Spelled = record { bytes = x; view = one.0 } in
    (cell ∷ rest.0, record { bytes_are = ap (λ (l : List (List ℕ)). x ∷ l) rest.1.bytes_are; are_cells = (one.1, rest.1.are_cells) })

above-at : (levels : ℕ) (kind : TreeKind) → above_kind (kind_at kind levels) ≡ interior_kind kind
above-at zero Table = refl
above-at zero Index = refl
above-at (suc levels) Table = refl
above-at (suc levels) Index = refl

levels-of : (page_kind : PageKind) → (levels : ℕ) × (kind : TreeKind) × (kind_at kind levels ≡ page_kind)
levels-of TableLeaf = (0, Table, refl)
levels-of TableInterior = (1, Table, refl)
levels-of IndexLeaf = (0, Index, refl)
levels-of IndexInterior = (1, Index, refl)

-- the cell that goes up is one of the pages above
pub divider-cell : (page_kind : PageKind) (usable : ℕ) (bytes : List (List ℕ)) (front child : ℕ) (divider : List ℕ) → child < 2 ^ 32 → All (IsOneCell page_kind usable) bytes → 1 ≤ front
    → front + risen page_kind < length bytes → IsDivider page_kind usable bytes front child divider → IsOneCell (above_kind page_kind) usable divider
divider-cell page_kind usable bytes front child divider fits all =
    let of = levels-of page_kind in
    subst (λ (k : PageKind). All (IsOneCell k usable) bytes → 1 ≤ front → front + risen k < length bytes → IsDivider k usable bytes front child divider → IsOneCell (above_kind k) usable divider) of.2
    (at of.0 of.1) all
  where
    at : (levels : ℕ) (kind : TreeKind) → All (IsOneCell (kind_at kind levels) usable) bytes → 1 ≤ front → front + risen (kind_at kind levels) < length bytes
        → IsDivider (kind_at kind levels) usable bytes front child divider → IsOneCell (above_kind (kind_at kind levels)) usable divider
    at levels kind all some within is =
        let s = spelled-of (kind_at kind levels) usable bytes all in
        let f = front-cut levels kind usable s.0 bytes front child divider fits s.1 some within is in
        subst⁻¹ (λ (k : PageKind). IsOneCell k usable divider) (above-at levels kind)
        (f.up.view, subst (λ (l : List ℕ). IsCell (interior_kind kind) usable l f.up.view) f.up_is f.is_cell)

pub all-more : {A : Type 0} (P : A → Type 0) (xs : List A) (x : A) → All P xs → P x → All P (xs ++ x ∷ [])
all-more P [] x all p zero d low = p
all-more P [] x all p (suc k) d low = absurd (omega arith)
all-more P (y ∷ ys) x all p zero d low = all 0 d (omega arith)
all-more P (y ∷ ys) x all p (suc k) d low = all-more P ys x (λ k d low. all (suc k) d (omega arith)) p k d (omega arith)

-- no front is cut off yet
pub spreads-none : (sizes : Sizes) (page_kind : PageKind) (bytes : List (List ℕ)) (a : Paged) → Spreads sizes page_kind bytes [] bytes a a
spreads-none sizes page_kind bytes a levels kind cells same are = record {
  up = [];
  back = cells;
  up_are = record { bytes_are = refl; are_cells = tt };
  back_are = subst⁻¹ (λ (k : PageKind). AreSpelled k sizes.usable cells bytes) same are;
  spread = (refl, refl);
}

-- one front after another
pub spreads-then : (sizes : Sizes) (page_kind : PageKind) (bytes mid left dividers more : List (List ℕ)) (a b c : Paged) → Spreads sizes page_kind bytes dividers mid a b
    → Spreads sizes page_kind mid more left b c → Spreads sizes page_kind bytes (dividers ++ more) left a c
spreads-then sizes page_kind bytes mid left dividers more a b c one two levels kind cells same are =
    let s = one levels kind cells same are in
    let t = two levels kind s.back same (subst (λ (k : PageKind). AreSpelled k sizes.usable s.back mid) same s.back_are) in
    record {
      up = s.up ++ t.up;
      back = t.back;
      up_are = record {
        bytes_are = map-append (λ (cell : Spelled). cell.bytes) s.up t.up ∙ ap (λ (l : List (List ℕ)). l ++ bytes_in t.up) s.up_are.bytes_are ∙ ap (λ (l : List (List ℕ)). dividers ++ l) t.up_are.bytes_are;
        are_cells = all-join (λ (cell : Spelled). IsCell (interior_kind kind) sizes.usable cell.bytes cell.view) s.up t.up s.up_are.are_cells t.up_are.are_cells;
      };
      back_are = t.back_are;
      spread = spread-then sizes levels kind s.up t.up cells s.back t.back a b c s.spread t.spread;
    }

-- and at last the page itself
pub spreads-settled : (sizes : Sizes) (node : Node) (bytes left dividers : List (List ℕ)) (a b c : Paged) → Spreads sizes node.kind bytes dividers left a b → WritesNode sizes node left b c
    → Settles sizes node bytes dividers a c
spreads-settled sizes node bytes left dividers a b c spreads written levels kind cells same are =
    let s = spreads levels kind cells same are in
    let right = right_kept node.kind node.right in
    record {
      up = s.up;
      up_are = s.up_are;
      settled = spread-settled sizes levels kind s.up node.number right cells s.back a b c s.spread written.writes
          (subst⁻¹ (λ (k : PageKind). IsPage (c.pages node.number) node.number sizes.usable k (bytes_in s.back) right) same
          (subst⁻¹ (λ (l : List (List ℕ)). IsPage (c.pages node.number) node.number sizes.usable node.kind l right) s.back_are.bytes_are written.is_page));
    }

-- or, at a root, they are moved out
pub spreads-moved : (sizes : Sizes) (root : Node) (fresh : ℕ) (bytes left dividers : List (List ℕ)) (a b c d e : Paged) → Spreads sizes root.kind bytes dividers left a b → Took sizes fresh b c
    → IsNumber sizes c fresh → WritesNode sizes (record { number = fresh; kind = root.kind; right = root.right }) left c d
    → WritesNode sizes (record { number = root.number; kind = above_kind root.kind; right = fresh }) dividers d e → 0 < length left → (root.number ≢ 1 → 0 < length dividers)
    → MovesOut sizes root bytes a e
spreads-moved sizes root fresh bytes left dividers a b c d e spreads took in_range below above some many levels kind cells same are =
    let s = spreads levels kind cells same are in
    let right = right_kept root.kind root.right in
    let kind_is : above_kind root.kind ≡ interior_kind kind = ap above_kind (sym same) ∙ above-at levels kind in
    record {
      dividers = s.up;
      left = s.back;
      spread_out = b;
      fresh = fresh;
      between = d;
      spread = s.spread;
      took = took-written sizes fresh b c d took below.writes;
      in_range = subst⁻¹ (λ (n : ℕ). IsInRange sizes.size n fresh) below.writes.count in_range;
      is_page = subst⁻¹ (λ (k : PageKind). IsPage (d.pages fresh) fresh sizes.usable k (bytes_in s.back) right) same
          (subst⁻¹ (λ (l : List (List ℕ)). IsPage (d.pages fresh) fresh sizes.usable root.kind l right) s.back_are.bytes_are below.is_page);
      writes = above.writes;
      root_page = subst (λ (k : PageKind). IsPage (e.pages root.number) root.number sizes.usable k (bytes_in s.up) fresh) kind_is
          (subst⁻¹ (λ (l : List (List ℕ)). IsPage (e.pages root.number) root.number sizes.usable (above_kind root.kind) l fresh) s.up_are.bytes_are
          (subst (λ (r : ℕ). IsPage (e.pages root.number) root.number sizes.usable (above_kind root.kind) dividers r) (kept-above root.kind fresh) above.is_page));
      left_some = omega (arith, some, spelled-long s.back, ap length s.back_are.bytes_are);
      some = λ other. omega (arith, many other, spelled-long s.up, ap length s.up_are.bytes_are);
    }
  where
    kept-above : (kind : PageKind) (right : ℕ) → right_kept (above_kind kind) right ≡ right
    kept-above TableLeaf right = refl
    kept-above TableInterior right = refl
    kept-above IndexLeaf right = refl
    kept-above IndexInterior right = refl

    spelled-long : (cells : List Spelled) → length (bytes_in cells) ≡ length cells
    spelled-long [] = refl
    spelled-long (cell ∷ cells) = omega (arith, spelled-long cells)

-- two cells of an interior page have room in any page, also in page 1
pub two-fit : (kind : PageKind) (number usable : ℕ) (cells : List (List ℕ)) → IsUsable usable → All (IsOneCell (above_kind kind) usable) cells → length cells ≤ 2
    → needs cells ≤ free_bytes number usable (above_kind kind) []
two-fit kind number usable cells sizes all few = omega (arith, by kind all, header_place-most number, above-header kind, sizes.least)
  where
    above-header : (kind : PageKind) → header_length (above_kind kind) ≡ 12
    above-header TableLeaf = refl
    above-header TableInterior = refl
    above-header IndexLeaf = refl
    above-header IndexInterior = refl

    header_place-most : (number : ℕ) → header_place number ≤ 100
    header_place-most number = grind (arith, nat_tests)

    third : (interior : PageKind) (room : ℕ) (cells : List (List ℕ)) → All (λ cell. 3 * (cell_room cell + 2) ≤ room) cells → length cells ≤ 2 → 3 * needs cells ≤ 2 * room
    third interior room cells all few = omega (arith, thrice-below room cells all, mul-le-mul_left room few)

    by : (kind : PageKind) → All (IsOneCell (above_kind kind) usable) cells → 3 * needs cells ≤ 2 * (usable - 12)
    by TableLeaf all = third TableInterior (usable - 12) cells (λ k d low. omega (arith, cell-need TableInterior usable (slice_index_or cells k d) sizes (all k d low))) few
    by TableInterior all = third TableInterior (usable - 12) cells (λ k d low. omega (arith, cell-need TableInterior usable (slice_index_or cells k d) sizes (all k d low))) few
    by IndexLeaf all = third IndexInterior (usable - 12) cells (λ k d low. omega (arith, cell-need IndexInterior usable (slice_index_or cells k d) sizes (all k d low))) few
    by IndexInterior all = third IndexInterior (usable - 12) cells (λ k d low. omega (arith, cell-need IndexInterior usable (slice_index_or cells k d) sizes (all k d low))) few

-- How many fronts there may be.

-- after so many fronts the cells that are left need so much
abbrev pub AreFew : ℕ → ℕ → List (List ℕ) → Type 0
AreFew room zero left = needs left ≤ 2 * room
AreFew room (suc zero) left = needs (drop 1 left) ≤ room
AreFew room (suc (suc zero)) left = needs left ≤ room
AreFew room (suc (suc (suc n))) left = ⊥

needs-drop : (n : ℕ) (cells : List (List ℕ)) → needs (drop n cells) ≤ needs cells
needs-drop n cells = omega (arith, needs-parts cells n)

pub few-more : (room n used : ℕ) (left : List (List ℕ)) → 1 ≤ used → room < needs left → (needs left ≤ 2 * room → 2 * needs (drop (used + 1) left) ≤ needs left)
    → AreFew room n left → AreFew room (suc n) (drop used left)
few-more room zero used left some over half few =
    let behind : needs (drop 1 (drop used left)) ≡ needs (drop (used + 1) left) = ap needs (drop-drop 1 used left) in
    omega (arith, behind, half few)
few-more room (suc zero) used left some over half few =
    let behind : needs (drop (used - 1) (drop 1 left)) ≡ needs (drop used left) = ap needs (drop-drop (used - 1) 1 left ∙ ap (λ (n : ℕ). drop n left) (omega arith)) in
    omega (arith, behind, needs-drop (used - 1) (drop 1 left))
few-more room (suc (suc zero)) used left some over half few = omega arith
few-more room (suc (suc (suc n))) used left some over half few = few

pub few-most : (room n : ℕ) (left : List (List ℕ)) → AreFew room n left → n ≤ 2
few-most room zero left few = omega arith
few-most room (suc zero) left few = omega arith
few-most room (suc (suc zero)) left few = omega arith
few-most room (suc (suc (suc n))) left few = absurd few

pub few-less : (room n : ℕ) (left : List (List ℕ)) → AreFew room n left → room < needs left → n ≤ 1
few-less room zero left few over = omega arith
few-less room (suc zero) left few over = omega arith
few-less room (suc (suc zero)) left few over = absurd (omega arith)
few-less room (suc (suc (suc n))) left few over = absurd few

-- Where cells of a table's interior page need no more than one page and a third have room for, there is one front at most.

-- after so many fronts the cells that are left need so much
abbrev pub AreOnce : ℕ → ℕ → List (List ℕ) → Type 0
AreOnce room zero left = 3 * needs left ≤ 4 * room
AreOnce room (suc zero) left = needs left ≤ room
AreOnce room (suc (suc n)) left = ⊥

-- a cell of such a page needs a third of its room at most
pub head-need : (kind : PageKind) (usable : ℕ) (cells : List (List ℕ)) → kind ≡ TableInterior → IsUsable usable → All (IsOneCell kind usable) cells → 3 * needs (take 1 cells) ≤ page_room kind usable
head-need kind usable cells same fits all =
    subst⁻¹ (λ (k : PageKind). 3 * needs (take 1 cells) ≤ page_room k usable) same (head cells (subst (λ (k : PageKind). All (IsOneCell k usable) cells) same all))
  where
    head : (xs : List (List ℕ)) → All (IsOneCell TableInterior usable) xs → 3 * needs (take 1 xs) ≤ page_room TableInterior usable
    head [] each = omega arith
    head (x ∷ xs) each = omega (arith, cell-need TableInterior usable x fits (each 0 x (omega arith)))

pub once-more : (room n used : ℕ) (left : List (List ℕ)) → 3 * needs (take 1 (drop used left)) ≤ room → room < needs left → (needs left ≤ 2 * room → 2 * needs (drop (used + 1) left) ≤ needs left)
    → AreOnce room n left → AreOnce room (suc n) (drop used left)
once-more room zero used left head over half once =
    let behind : needs (drop 1 (drop used left)) ≡ needs (drop (used + 1) left) = ap needs (drop-drop 1 used left) in
    omega (arith, behind, needs-parts (drop used left) 1, head, half (omega (arith, once)), once)
once-more room (suc zero) used left head over half once = omega (arith, once, over)
once-more room (suc (suc n)) used left head over half once = once

pub once-most : (room n : ℕ) (left : List (List ℕ)) → AreOnce room n left → n ≤ 1
once-most room zero left once = omega arith
once-most room (suc zero) left once = omega arith
once-most room (suc (suc n)) left once = absurd once

-- How many pages the fronts take.

pub spreads-takes : (sizes : Sizes) (page_kind : PageKind) (bytes dividers left : List (List ℕ)) (a b : Paged) (trunks : List Trunk) → Spreads sizes page_kind bytes dividers left a b
    → All (IsOneCell page_kind sizes.usable) bytes → IsFree sizes a trunks → TakesAtMost sizes (length dividers) [] a trunks b
spreads-takes sizes page_kind bytes dividers left a b trunks spreads all free =
    let of = levels-of page_kind in
    let cells = spelled-of page_kind sizes.usable bytes all in
    let s = spreads of.0 of.1 cells.0 of.2 cells.1 in
    takes-more sizes a b [] trunks (length s.up) (length dividers) (omega (arith, length-of (λ (cell : Spelled). cell.bytes) s.up, ap length s.up_are.bytes_are))
    (spread-takes sizes of.0 of.1 s.up cells.0 s.back a b [] trunks s.spread free (free-within sizes a trunks free))

-- where no page is left behind them, no more could be taken before than they took
pub spreads-short : {F : Type 0} (sizes : Sizes) (most limit count : ℕ) (a b : Paged) (trunks : List Trunk) (fault : TreeFault F) → IsFree sizes a trunks → b.count ≤ max limit a.count
    → (takes : TakesAtMost sizes most [] a trunks b) → IsShort sizes 1 limit b takes.rest count fault → IsShort sizes (most + 1) limit a trunks count fault
spreads-short sizes most limit count a b trunks fault free limited takes short =
    short-then sizes limit count fault a b trunks takes.rest most 1 (slack-taken sizes a b [] trunks most limit (free-within sizes a trunks free) takes limited) short
