-- Cells that are put into a page one behind the other.
use Rattle.std.proofs.Common.{◌≡◌, ℕ, suc, ◌+◌, ◌<◌, ◌≤◌, Bool, false, List, [], ◌∷◌, length, drop, get_or, refl, sym, ap, ◌∙◌, subst, arith}
use Rattle.std.specs.List.{insert}
use Rattle.std.proofs.lemmas.List.{drop_more}
use Rattle.std.proofs.lemmas.List.Edits.{length-insert}
use Rattle.std.proofs.lemmas.List.Sums.{sum_by-cons, sum_by-insert}
use Rattle.format_spec.specs.declared.PageKind.{PageKind}
use Rattle.format_spec.specs.Page.{IsPage, cell_room}
use Rattle.page_spec.specs.Rooms.{IsWritten, free_bytes, needs}
use Rattle.tree_level.specs.Changes.{changed}
use Rattle.tree_level.specs.ChangesLaws.{changed-first, changed-none, needs-changed}

-- The page has some cells, and has room for those that are left: with these put in at a place it has the cells that are wanted.
pub record IsComing (page : List ℕ) (number usable : ℕ) (kind : PageKind) (right place : ℕ) (left wanted : List (List ℕ)) : Type 0 where
  pub now : List (List ℕ)
  pub is_page : IsPage page number usable kind now right
  pub within : place ≤ length now
  pub room : needs now + needs left ≤ free_bytes number usable kind []
  pub same : changed now place false left ≡ wanted

module _ (number usable : ℕ) (kind : PageKind) (right : ℕ) where
  pub coming-first : (page : List ℕ) (place : ℕ) (cells left : List (List ℕ)) → IsPage page number usable kind cells right → place ≤ length cells
      → needs cells + needs left ≤ free_bytes number usable kind [] → IsComing page number usable kind right place left (changed cells place false left)
  coming-first page place cells left is within room = record { now = cells; is_page = is; within = within; room = room; same = refl }

  pub coming-more : (old new : List ℕ) (place : ℕ) (cell : List ℕ) (left wanted : List (List ℕ)) (is : IsComing old number usable kind right place (cell ∷ left) wanted)
      → IsWritten new number usable kind (insert is.now place cell) right → IsComing new number usable kind right (place + 1) left wanted
  coming-more old new place cell left wanted is written =
      let next : place + 1 ≡ suc place = omega arith in
      let long = length-insert is.now place cell is.within in
      record {
        now = insert is.now place cell;
        is_page = written.is_page;
        within = omega (arith, long, is.within);
        room = omega (arith, is.room, long, sum_by-insert cell_room is.now place cell, sum_by-cons cell_room cell left);
        same = ap (λ (n : ℕ). changed (insert is.now place cell) n false left) next ∙ changed-first is.now place cell left is.within ∙ is.same;
      }

  pub coming-last : (page : List ℕ) (place : ℕ) (wanted : List (List ℕ)) → IsComing page number usable kind right place [] wanted → IsPage page number usable kind wanted right
  coming-last page place wanted is =
      subst (λ (l : List (List ℕ)). IsPage page number usable kind l right) is.same (subst (λ (l : List (List ℕ)). IsPage page number usable kind l right) (sym (changed-none is.now place)) is.is_page)

  -- there is room for the next one
  pub coming-fits : (page : List ℕ) (place : ℕ) (cell : List ℕ) (left wanted : List (List ℕ)) (is : IsComing page number usable kind right place (cell ∷ left) wanted) → cell_room cell + 2 ≤ free_bytes number usable kind is.now
  coming-fits page place cell left wanted is = omega (arith, is.room, sum_by-cons cell_room cell left)

-- the cells that are left begin with the next one
pub left-next : (cells : List (List ℕ)) (i : ℕ) (item cell : List ℕ) → i < length cells → item ≡ get_or cells i item → cell ≡ item → drop i cells ≡ cell ∷ drop (i + 1) cells
left-next cells i item cell low is same = drop_more cells i item low ∙ ap (λ (x : List ℕ). x ∷ drop (i + 1) cells) (sym (same ∙ is))

-- a page that cells were taken out of, and its room for those that come
pub room-left : (xs ys : List (List ℕ)) (at : ℕ) (goes : Bool) → needs (changed xs at goes []) + needs ys ≡ needs (changed xs at goes ys)
room-left xs ys at goes = omega (arith, needs-changed xs at goes [], needs-changed xs at goes ys)
