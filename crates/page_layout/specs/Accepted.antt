-- Pages that are accepted, and what is known of the cells of one.
use Rattle.std.specs.Prelude.{ℕ, ◌≤◌, List, length}
use Rattle.format_spec.specs.declared.PageKind.{PageKind}
use Rattle.format_spec.specs.Page.{IsPage}
use Rattle.format_spec.specs.Sizes.{IsUsable}

-- the page is accepted
pub record IsAccepted (page : List ℕ) (number usable : ℕ) : Type 0 where
  pub kind : PageKind
  pub cells : List (List ℕ)
  pub right : ℕ
  pub is_page : IsPage page number usable kind cells right

-- the page may be changed in place: it is accepted, and its bytes are those of one page at most
pub record IsChangeable (page : List ℕ) (number usable : ℕ) : Type 0 where
  pub usable_is : IsUsable usable
  pub whole : usable ≤ length page
  pub long : length page ≤ 65536
  pub accepted : IsAccepted page number usable

-- a fact about the kind, the cells and the right child that the page has
abbrev pub OfCells : List ℕ → ℕ → ℕ → (PageKind → List (List ℕ) → ℕ → Type 0) → Type 0
OfCells page number usable P = (kind : PageKind) (cells : List (List ℕ)) (right : ℕ) → IsPage page number usable kind cells right → P kind cells right
