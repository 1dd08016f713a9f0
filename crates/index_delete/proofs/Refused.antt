-- What stands in the page of a root once a delete below it is done.
use Rattle.std.proofs.Common.{◌≡◌, ℕ, zero, suc, ◌<◌, ◌∙◌, false, List, [], ◌∷◌, drop, sym, ap, subst, arith}
use Rattle.std.proofs.Math.Path.{subst⁻¹}
use Rattle.std.specs.List.{All}
use Rattle.format_spec.specs.Header.{freelist_trunk}
use Rattle.format_spec.specs.Page.{header_place}
use Rattle.format_spec.specs.declared.PageKind.{PageKind}
use Rattle.format_spec.specs.declared.PageKind.TheVariants.{IndexInterior, IndexLeaf}
use Rattle.page_spec.specs.Counts.{hit, times}
use Rattle.page_spec.specs.CountsLaws.{hit-itself}
use Rattle.page_spec.specs.Freelists.{Trunk, free_pages}
use Rattle.page_spec.specs.FreelistsLaws.{first-not_free}
use Rattle.page_spec.specs.Rooms.{IsOneCell, right_kept}
use Rattle.tree_spec.specs.Trees.{TreeOf, page_of, pages_of}
use Rattle.tree_spec.specs.Standing.{Sizes, Paged, IsNumber}
use Rattle.tree_spec.specs.Worlds.{IsFree}
use Rattle.tree_spec.specs.Changes.{Within, Writes}
use Rattle.tree_spec.specs.ChangesLaws.{Turns-within, Turns-write, freelist-kept}
use Rattle.index_delete_spec.specs.Deletes.{After, hand_after}
use Rattle.index_delete_spec.specs.Steps.{IsReady, cell_of as held_of}
use Rattle.tree_walk.specs.declared.page.TreePage.{TreePage}
use Rattle.tree_walk.specs.Pages.{IsDecoded}
use Rattle.tree_level.specs.declared.cells.Change.{Change}
use Rattle.tree_level.specs.ChangesLaws.{spelled-read}
use Rattle.index_cells.specs.declared.cells.Taken.{Taken}
use Rattle.index_cells.specs.Respelling.{cell_of}
use Rattle.index_delete.specs.Deletes.{Opens}
use Rattle.index_delete.specs.Needs.{HasOnly}
use Rattle.index_delete.specs.NeighboursLaws.{after-own, hit-some, standing-kind}
use Rattle.index_delete.proofs.Readings.{spelled-all}

module _ (sizes : Sizes) (a b : Paged) (trunks : List Trunk) where
  -- page 1, which is never free, was written
  pub first-written : Writes 1 a b → IsFree sizes a trunks → IsFree sizes b trunks
  first-written writes free =
      let none = first-not_free sizes.size sizes.usable a.pages a.count (freelist_trunk (a.pages 1)) trunks free.named in
      freelist-kept sizes a b trunks
      (
      record {
        same = λ n some. ap (drop (header_place n)) (writes.others n (λ is. let same = ap (λ (m : ℕ). times m (free_pages trunks)) is in omega (arith, some, same, none)));
        grows = omega (arith, writes.count);
      }) (λ k low. writes.front k low) free

  -- a page in hand was
  pub hand-written : (number : ℕ) → Within sizes a (number ∷ []) trunks → Writes number a b → IsFree sizes a trunks → IsFree sizes b trunks
  hand-written number within writes free = (Turns-write sizes a b number (number ∷ []) trunks within (omega (arith, hit-itself number)) writes).freelist free

-- the last child of a page that is opened stands, and the page is in hand
pub opened-only : (sizes : Sizes) (page : TreePage) → IsDecoded page.bytes page.number sizes.usable page → page.kind ≡ IndexInterior → (old : Paged) → old.pages page.number ≡ page.bytes → (row : Taken) (change : Change) (bytes : List (List ℕ)) (mid : Paged)
    → All (IsOneCell IndexInterior sizes.usable) bytes → Opens sizes false row page change bytes old mid → (levels : ℕ) (tree : TreeOf levels) (trunks : List Trunk) → page_of levels tree ≡ page.number → IsFree sizes old trunks
    → IsReady sizes levels old tree trunks → (rest : List Trunk) × IsFree sizes mid rest × HasOnly sizes page.number change.right mid rest
opened-only sizes page decoded kind old there row change bytes mid all opens zero tree trunks is free ready =
    absurd (
    let other : IndexLeaf ≡ page.kind = standing-kind sizes old page.number zero tree page is ready.stands (subst⁻¹ (λ (b : List ℕ). IsDecoded b page.number sizes.usable page) there decoded) in
    let no : ⊥ = cc in no)
opened-only sizes page decoded kind old there row change bytes mid all opens (suc below) tree trunks is free ready =
    let read = spelled-read sizes.usable page decoded in
    let coming = spelled-all page.kind sizes.usable bytes (subst⁻¹ (λ (k : PageKind). All (IsOneCell k sizes.usable) bytes) kind all) in
    let d = opens read.0 coming.0 read.1 coming.1 (suc below) tree trunks is free ready in
    let after : After (suc below) = record { base = mid; siblings = []; home = d.home; trunks = d.rest; out = held_of (cell_of row) d.payload d.chain } in
    let later = Turns-within sizes old mid (pages_of (suc below) tree) (hand_after after) trunks d.rest ready.within d.opened.turns in
    let some : 0 < times page.number (hand_after after) = omega (arith, after-own page.number (suc below) after, ap (λ (p : ℕ). hit p page.number) (d.page ∙ is), hit-itself page.number) in
    let right_is : change.right ≡ page_of below d.home.last = subst (λ (k : PageKind). right_kept k change.right ≡ page_of below d.home.last) kind d.right_is in (
      d.rest,
      d.opened.turns.freelist free,
      record {
        levels = below;
        tree = d.home.last;
        page_is = sym right_is;
        stands = d.opened.below.1.1;
        in_range = subst⁻¹ (λ (p : ℕ). IsNumber sizes mid p) right_is d.opened.below.1.0;
        within = λ n. omega (arith, hit-some page.number n (hand_after after) some, later n);
      },
    )
