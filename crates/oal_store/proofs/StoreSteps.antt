-- The pages of a store after one was written.
use Rattle.std.proofs.Common.{◌≡◌, ℕ, ◌==◌, Bool, if◌then◌else◌, List, [], Option, Some, None, option_map, unwrap_or, Vec, ap, ◌∙◌, inl, inr, ne_eqb, eq-eqb, ◌⊎◌}
use Rattle.std.specs.Global.{Global}
use Rattle.std.specs.Map.{lookup}
use Rattle.std.specs.BTreeMap.{is_at}
use Rattle.std.specs.Ordering.{nat_cmp}
use Rattle.std.proofs.lemmas.Bool.{cases_eq}
use Rattle.common_spec.specs.Maps.{set_at}
use Rattle.file_spec.specs.Files.{Files}
use Rattle.oal_store.specs.declared.log.OalLog.{OalLog}
use Rattle.oal_store.specs.declared.store.OalStore.{OalStore}
use Rattle.oal_store.specs.OalLog.{logged_page}
use Rattle.oal_store.specs.Stored.{changed_page, stored_pages, SameStore, HasPagesOf}
use Rattle.oal_store.proofs.PageFrames.{Entry}

-- a page that is written as it is leaves all pages as they are
pub put-same : (old new : OalStore) (files : Files) (number : ℕ) (bytes : List ℕ) → SameStore old new
    → ((n : ℕ) → changed_page new n ≡ set_at (λ (x y : ℕ). x == y) (changed_page old) number (Some bytes) n) → bytes ≡ stored_pages old files number → HasPagesOf old new files
put-same old new files number bytes same page is n =
    ap (λ (l : OalLog). unwrap_or (changed_page new n) (logged_page l files n)) same.log
    ∙ ap (λ (o : Option (List ℕ)). unwrap_or o (logged_page old.log files n)) (page n)
    ∙ at (cases_eq number n)
  where
    at : (number ≡ n) ⊎ ((number ≡ n) → ⊥) → unwrap_or (if number == n then Some bytes else changed_page old n) (logged_page old.log files n) ≡ stored_pages old files n
    at (inl e) =
        ap (λ (b : Bool). unwrap_or (if b then Some bytes else changed_page old n) (logged_page old.log files n)) (eq-eqb number n e) ∙ is ∙ ap (stored_pages old files) e
    at (inr apart) = ap (λ (b : Bool). unwrap_or (if b then Some bytes else changed_page old n) (logged_page old.log files n)) (ne_eqb number n apart)

-- no page is found among none
pub none-found : (n : ℕ) (es : List Entry) → es ≡ [] → option_map (λ (page : Vec ℕ Global). page.items) (lookup (is_at (nat_cmp n)) es) ≡ None
none-found n es empty = ap (λ (xs : List Entry). option_map (λ (page : Vec ℕ Global). page.items) (lookup (is_at (nat_cmp n)) xs)) empty
