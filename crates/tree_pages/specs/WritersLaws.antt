-- What is said of a store stays said where its sizes, its count and its pages are the same: crates above cite these facts in their proofs.
use Rattle.std.proofs.Common.{◌≡◌, ℕ, ap₂, ◌∙◌, subst}
use Rattle.page_store.specs.declared.store.PageRead.{Ghosts}
use Rattle.page_store.specs.Store.{Stays}
use Rattle.tree_spec.specs.Standing.{Sizes, Paged}
use Rattle.tree_pages.specs.Writers.{Becomes, paged, sizes_of}

module _ {P F : Type 0} (g : Ghosts P F) where
  -- a call changes no size
  pub sizes-same : (before after : P) → Stays g before after → sizes_of g after ≡ sizes_of g before
  sizes-same before after stays = ap₂ (λ (size usable : ℕ). let s : Sizes = record { size = size; usable = usable } in s) stays.size stays.usable

  -- what came after a call that only read
  pub becomes-read : (R : Sizes → Paged → Paged → Type 0) (a b c : P) → sizes_of g b ≡ sizes_of g a → g.count b ≡ g.count a → g.pages b ≡ g.pages a
      → Becomes g b c (R (sizes_of g b)) → Becomes g a c (R (sizes_of g a))
  becomes-read R a b c sizes count pages went old told =
      let r = went old (pages ∙ told) in (
        r.0,
        r.1,
        subst (λ (n : ℕ). R (sizes_of g a) (record { count = n; pages = old }) (paged g c r.0)) count
            (subst (λ (s : Sizes). R s (paged g b old) (paged g c r.0)) sizes r.2),
      )

  -- what a call does is also what is said in other words of it
  pub Becomes-weaken : {R Q : Paged → Paged → Type 0} (a b : P) → ((x y : Paged) → R x y → Q x y) → Becomes g a b R → Becomes g a b Q
  Becomes-weaken a b more went old told = let r = went old told in (r.0, r.1, more (paged g a old) (paged g b r.0) r.2)

  -- two calls one after the other
  pub Becomes-then : {R Q U : Paged → Paged → Type 0} (a b c : P) → Becomes g a b R → Becomes g b c Q → ((x y z : Paged) → R x y → Q y z → U x z) → Becomes g a c U
  Becomes-then a b c one two joined old told =
      let r = one old told in
      let q = two r.0 r.1 in
      (q.0, q.1, joined (paged g a old) (paged g b r.0) (paged g c q.0) r.2 q.2)
