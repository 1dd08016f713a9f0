-- What changing the cells of one page leaves.
use Rattle.std.specs.Prelude.{◌≡◌, ◌≤◌, ℕ, suc, Bool, true, false, List, ◌++◌, length, take, drop}
use Rattle.std.specs.List.{AllByRecursion}
use Rattle.format_spec.specs.Cell.{IsCell}
use Rattle.format_spec.specs.Page.{IsPage}
use Rattle.page_spec.specs.Rooms.{right_kept}
use Rattle.tree_spec.specs.declared.TreeKind.{TreeKind}
use Rattle.tree_spec.specs.Trees.{kind_at}
use Rattle.tree_spec.specs.Standing.{Sizes, Paged}
use Rattle.put_spec.specs.Steps.{Spelled, bytes_in, views_in, IsRooted}
use Rattle.tree_walk.specs.declared.page.TreePage.{TreePage}
use Rattle.tree_level.specs.declared.cells.Change.{Change}
use Rattle.tree_level.specs.declared.writing.Node.{Node}
use Rattle.tree_level.specs.Levels.{AreSpelled, SettlesTo, WritesNode}

-- the index behind the cell that goes; where none goes, the index itself
abbrev pub behind : ℕ → Bool → ℕ
behind at true = suc at
behind at false = at

-- a list of which at an index one item goes, or none does, and others come
abbrev pub changed : {A : Type 0} → List A → ℕ → Bool → List A → List A
changed items at goes comes = take at items ++ (comes ++ drop (behind at goes) items)

-- A page that was read has these cells, spelled so.
pub record HasSpelled (usable : ℕ) (page : TreePage) (cells : List Spelled) : Type 0 where
  pub is_page : IsPage page.bytes page.number usable page.kind (bytes_in cells) page.right
  pub are_cells : AllByRecursion (λ cell. IsCell page.kind usable cell.bytes cell.view) cells
  pub views_are : views_in cells ≡ page.views

-- A page that was read has cells, which lie in its bytes.
pub record IsReadable (page : TreePage) : Type 0 where
  pub usable : ℕ
  pub cells : List Spelled
  pub has : HasSpelled usable page cells
  pub within : usable ≤ length page.bytes

-- what is written of a page that was changed, but for its cells
abbrev pub node_of : TreePage → Change → Node
node_of page change = record { number = page.number; kind = page.kind; right = change.right }

-- the bytes that the cells of a page are to be
abbrev pub bytes_changed : List Spelled → Change → List (List ℕ) → List (List ℕ)
bytes_changed cells change comes = changed (bytes_in cells) change.at change.goes comes

-- The page was written with the cells that it is to have.
abbrev pub WritesChange : Sizes → TreePage → Change → List (List ℕ) → Paged → Paged → Type 0
WritesChange sizes page change comes old new =
    (cells : List Spelled) → HasSpelled sizes.usable page cells → WritesNode sizes (node_of page change) (bytes_changed cells change comes) old new

-- Of the cells of a page that was read one goes, or none does, and others come. They stand in a page of this number, and before it in a new page for each divider: so it is whatever tree has a page of this kind, and however the cells are read.
abbrev pub ChangesAt : Sizes → ℕ → TreePage → Change → List (List ℕ) → List (List ℕ) → Paged → Paged → Type 0
ChangesAt sizes number page change bytes dividers old new =
    (levels : ℕ) (kind : TreeKind) (cells comes : List Spelled) → kind_at kind levels ≡ page.kind → HasSpelled sizes.usable page cells → AreSpelled page.kind sizes.usable comes bytes
    → SettlesTo sizes levels kind number (right_kept page.kind change.right) (changed cells change.at change.goes comes) dividers old new

-- in that page itself
abbrev pub Changes : Sizes → TreePage → Change → List (List ℕ) → List (List ℕ) → Paged → Paged → Type 0
Changes sizes page change bytes dividers old new = ChangesAt sizes page.number page change bytes dividers old new

-- The cells of a page that was read stand in another page too; or that has no room for them, which is so of page 1 alone, and nothing changed.
abbrev pub MovesTo : Sizes → TreePage → ℕ → Bool → Paged → Paged → Type 0
MovesTo sizes page number true old new =
    (cells : List Spelled) → HasSpelled sizes.usable page cells → WritesNode sizes (record { number = number; kind = page.kind; right = page.right }) (bytes_in cells) old new
MovesTo sizes page number false old new = (new ≡ old) × (number ≡ 1)

-- the same of the page of a root: they stand in it, or are moved out
abbrev pub ChangesRoot : Sizes → TreePage → Change → List (List ℕ) → Paged → Paged → Type 0
ChangesRoot sizes page change bytes old new =
    (levels : ℕ) (kind : TreeKind) (cells comes : List Spelled) → kind_at kind levels ≡ page.kind → HasSpelled sizes.usable page cells → AreSpelled page.kind sizes.usable comes bytes
    → IsRooted sizes levels kind page.number (right_kept page.kind change.right) (changed cells change.at change.goes comes) old new
