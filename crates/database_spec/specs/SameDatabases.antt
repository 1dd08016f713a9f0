-- Pages that are the same as far as they matter: as many, and the same bytes in each page up to the last, but for the lock-byte page (Database File Format, section 1.5).
use Rattle.std.specs.Prelude.{◌≡◌, ◌≢◌, ℕ, ◌≤◌}
use Rattle.page_spec.specs.Pages.{lock_byte_page}
use Rattle.tree_spec.specs.Standing.{Sizes, Paged}

pub record SameDatabase (sizes : Sizes) (old new : Paged) : Type 0 where
  pub count : new.count ≡ old.count
  pub first : new.pages 1 ≡ old.pages 1
  pub each : (n : ℕ) → 1 ≤ n → n ≤ old.count → n ≢ lock_byte_page sizes.size → new.pages n ≡ old.pages n
