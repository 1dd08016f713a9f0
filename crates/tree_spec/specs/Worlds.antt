-- All pages of a database: its trees and its free pages, each page once (Database File Format, sections 1.4 to 1.6).
use Rattle.std.specs.Prelude.{◌≡◌, ℕ, ◌^◌, ◌<◌, ◌≤◌, List, ◌∷◌, ◌++◌, map, AllPairs}
use Rattle.std.specs.List.{flat_map, AllByRecursion}
use Rattle.page_spec.specs.Freelists.{Trunk, IsFreelist, free_pages}
use Rattle.page_spec.specs.Counts.{times}
use Rattle.page_spec.specs.FreePages.{due, slack as slack_of}
use Rattle.tree_spec.specs.Trees.{Rooted, root_of, pages_in}
use Rattle.tree_spec.specs.Standing.{Sizes, Paged, IsRoot}

-- the trees in order of their roots, and the freelist
pub record World : Type 0 where
  pub trees : List Rooted
  pub trunks : List Trunk

-- all pages of trees, of their chains and of the freelist
abbrev pub all_pages : World → List ℕ
all_pages world = flat_map pages_in world.trees ++ free_pages world.trunks

-- a world with one of its trees named
abbrev pub with_tree : List Rooted → Rooted → List Rooted → List Trunk → World
with_tree front rooted back trunks = record { trees = front ++ rooted ∷ back; trunks = trunks }

-- the most pages of a world
abbrev pub greatest_count : ℕ
greatest_count = 2 ^ 24

module _ (sizes : Sizes) where
  -- the freelist of a database is that of these trunks
  abbrev pub IsFree : Paged → List Trunk → Type 0
  IsFree base trunks = IsFreelist base.pages sizes.size sizes.usable base.count trunks

  -- all pages are those of the trees and of the freelist, each once
  pub record IsWorld (base : Paged) (world : World) : Type 0 where
    pub trees : AllByRecursion (IsRoot sizes base) world.trees
    pub rise : AllPairs (λ (x y : ℕ). x < y) (map root_of world.trees)
    pub freelist : IsFree base world.trunks
    pub once : (n : ℕ) → times n (all_pages world) ≡ due sizes.size base.count n
    pub few : base.count ≤ greatest_count

  -- how many pages can still be taken where there may be `limit` of them: the free ones, and those behind the last
  abbrev pub slack : Paged → ℕ → List Trunk → ℕ
  slack base limit trunks = slack_of sizes.size base.count limit (free_pages trunks)
