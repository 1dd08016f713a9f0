-- A whole file is one database: crates above cite these facts in their proofs.
use Rattle.std.proofs.Common.{◌≡◌, List, [], ◌∷◌, map, refl, sym, ap, ap₂, ◌∙◌}
use Rattle.std.specs.List.{AllByRecursion}
use Rattle.common_spec.specs.ReadingLaws.{IsOne}
use Rattle.tree_spec.specs.Trees.{Rooted, root_of, list_in}
use Rattle.tree_spec.specs.Standing.{Sizes, Paged, IsRoot}
use Rattle.tree_spec.specs.OneTreeLaws.{rooted-one}
use Rattle.database_spec.specs.declared.catalog.Catalog.{Catalog}
use Rattle.database_spec.specs.Databases.{IsWhole}

-- trees with the same roots are the same
trees-one : (sizes : Sizes) (base : Paged) (xs ys : List Rooted) → map root_of xs ≡ map root_of ys → AllByRecursion (IsRoot sizes base) xs → AllByRecursion (IsRoot sizes base) ys → xs ≡ ys
trees-one sizes base [] [] e p q = refl
trees-one sizes base [] (y ∷ ys) e p q = absurd (let h : ⊥ = cc in h)
trees-one sizes base (x ∷ xs) [] e p q = absurd (let h : ⊥ = cc in h)
trees-one sizes base (x ∷ xs) (y ∷ ys) e p q =
    let root : root_of x ≡ root_of y = cc in
    let rest : map root_of xs ≡ map root_of ys = cc in
    ap₂ (λ (t : Rooted) (ts : List Rooted). t ∷ ts) (rooted-one sizes base x y root p.0.stands q.0.stands) (trees-one sizes base xs ys rest p.1 q.1)

-- pages that are whole by a catalog are one database
pub whole-one : (sizes : Sizes) (base : Paged) (catalog : Catalog) → IsOne (IsWhole sizes base catalog)
whole-one sizes base catalog a b p q =
    let trees = trees-one sizes base p.world.trees q.world.trees (p.roots ∙ sym q.roots) p.is_world.trees q.is_world.trees in
    let header : a.header ≡ b.header = p.header ∙ sym q.header in
    let lists : a.lists ≡ b.lists = p.lists ∙ ap (map (λ (rooted : Rooted). (root_of rooted, list_in rooted))) trees ∙ sym q.lists in
    λ i. record { header = header i; lists = lists i }
