-- A page of a store is written: crates above cite these facts in their proofs.
use Rattle.std.proofs.Common.{◌≡◌, ℕ, ◌<◌, List, slice_index, sym, ap, ◌∙◌}
use Rattle.format_spec.specs.Page.{header_place}
use Rattle.page_spec.specs.Pages.{Pages, with_page}
use Rattle.page_spec.specs.PagesLaws.{with_page-itself, with_page-other}
use Rattle.tree_spec.specs.Standing.{Paged}
use Rattle.tree_spec.specs.Changes.{Writes}

module _ (number : ℕ) (was bytes : List ℕ) (old new : Paged) (count : new.count ≡ old.count) (pages : new.pages ≡ with_page old.pages number bytes) where
  pub page-there : new.pages number ≡ bytes
  page-there = ap (λ (p : Pages). p number) pages ∙ with_page-itself old.pages number bytes

  -- in front of page 1 the database header stays
  pub page-written : was ≡ old.pages number → ((k : ℕ) → k < header_place number → slice_index bytes k ≡ slice_index was k) → Writes number old new
  page-written there front = record {
    count = count;
    others = λ n other. ap (λ (p : Pages). p n) pages ∙ with_page-other old.pages number n bytes (λ same. other (sym same));
    front = λ k low. ap (λ (b : List ℕ). slice_index b k) page-there ∙ front k low ∙ ap (λ (b : List ℕ). slice_index b k) there;
  }
