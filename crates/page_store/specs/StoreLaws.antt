-- What is told of a store whose pages are known, and of one that calls leave: crates above cite these facts in their proofs.
use Rattle.std.proofs.Common.{◌≡◌, ℕ, Option, Some, None, IfSome, subst}
pub use Rattle.common_spec.specs.ToldLaws.{IfSome-told, Leads-told, IfSome-led}
use Rattle.page_store.specs.declared.store.PageRead.{Ghosts}
use Rattle.page_store.specs.Store.{Stays}

-- what holds of every state holds of the one that is told
pub some-all : {S : Type 0} (told : Option S) {P : S → Type 0} → ((f : S) → P f) → IfSome told P
some-all None all = tt
some-all (Some f) all = all f

-- what is said of the sizes and the count after calls that leave them
pub at-sizes : {P F : Type 0} (g : Ghosts P F) {before after : P} → Stays g before after → g.count after ≡ g.count before → (Q : ℕ → ℕ → ℕ → Type 0)
    → Q (g.size after) (g.usable after) (g.count after) → Q (g.size before) (g.usable before) (g.count before)
at-sizes g {before} {after} stays count Q q =
    subst (λ (s : ℕ). Q s (g.usable before) (g.count before)) stays.size
    (subst (λ (u : ℕ). Q (g.size after) u (g.count before)) stays.usable (subst (λ (n : ℕ). Q (g.size after) (g.usable after) n) count q))
