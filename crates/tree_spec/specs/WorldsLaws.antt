-- Which pages are due, and how deep the trees of a world are: crates above cite these facts in their proofs.
use Rattle.std.proofs.Common.{◌≡◌, ℕ, zero, suc, ◌+◌, ◌-◌, ◌^◌, ◌<◌, ◌≤◌, List, [], ◌∷◌, ◌++◌, length, refl, ap, inl, inr, arith}
use Rattle.std.specs.List.{flat_map, AllByRecursion}
use Rattle.std.proofs.lemmas.Bool.{cases_lt}
use Rattle.std.proofs.lemmas.List.Concat.{flat_map-append}
use Rattle.page_spec.specs.Freelists.{Trunk, free_pages}
use Rattle.page_spec.specs.FreePages.{due}
use Rattle.page_spec.specs.FreePagesLaws.{due-past, due-first, due-within, due-other, due-counted, due_pages-most}
use Rattle.page_spec.specs.Counts.{times}
use Rattle.page_spec.specs.CountsLaws.{times-append, hit-itself, up_to-le, times-counted}
use Rattle.tree_spec.specs.Trees.{TreeOf, Rooted, page_of, pages_of, root_of, pages_in, list_in, depth_of, greatest_depth}
use Rattle.tree_spec.specs.TreesLaws.{IsFullRoot-pages}
use Rattle.tree_spec.specs.Standing.{Sizes, Paged, IsRootNumber, IsRoot, IsTree}
use Rattle.tree_spec.specs.Worlds.{all_pages, with_tree, greatest_count, IsWorld}

power-grows : (m k : ℕ) → 2 ^ m ≤ 2 ^ (m + k)
power-grows m zero = let none : m + 0 ≡ m = omega arith in omega (arith, ap (λ (n : ℕ). 2 ^ n) none)
power-grows m (suc k) =
    let more : m + suc k ≡ suc (m + k) = omega arith in
    let double : 2 ^ suc (m + k) ≡ 2 ^ (m + k) + 2 ^ (m + k) = grind arith in
    omega (arith, ap (λ (n : ℕ). 2 ^ n) more, double, power-grows m k)

few-levels : (levels : ℕ) → 2 ^ levels ≤ greatest_count → levels ≤ 24
few-levels levels few =
    elim (cases_lt 24 levels) [
      | inl above ↦
          let whole : 25 + (levels - 25) ≡ levels = omega arith in
          absurd (omega (arith, power-grows 25 (levels - 25), ap (λ (n : ℕ). 2 ^ n) whole))
      | inr below ↦ below
    ]

-- how often a page stands in a world, by its parts
pub times-world : (n : ℕ) (front : List Rooted) (rooted : Rooted) (back : List Rooted) (trunks : List Trunk)
    → times n (all_pages (with_tree front rooted back trunks))
    ≡ times n (flat_map pages_in front) + times n (pages_in rooted) + times n (flat_map pages_in back) + times n (free_pages trunks)
times-world n front rooted back trunks =
    let cut = ap (times n) (flat_map-append pages_in front (rooted ∷ back)) in
    let one = times-append n (flat_map pages_in (front ++ rooted ∷ back)) (free_pages trunks) in
    let two = times-append n (flat_map pages_in front) (pages_in rooted ++ flat_map pages_in back) in
    let three = times-append n (pages_in rooted) (flat_map pages_in back) in
    omega arith

pub all-front : {A : Type 0} (P : A → Type 0) (front back : List A) → AllByRecursion P (front ++ back) → AllByRecursion P front
all-front P [] back all = tt
all-front P (x ∷ xs) back all = (all.0, all-front P xs back all.1)

pub all-back : {A : Type 0} (P : A → Type 0) (front back : List A) → AllByRecursion P (front ++ back) → AllByRecursion P back
all-back P [] back all = all
all-back P (x ∷ xs) back all = all-back P xs back all.1

pub all-join : {A : Type 0} (P : A → Type 0) (front back : List A) → AllByRecursion P front → AllByRecursion P back → AllByRecursion P (front ++ back)
all-join P [] back one two = two
all-join P (x ∷ xs) back one two = (one.0, all-join P xs back one.1 two)

-- a root stands among the pages of its tree
root-some : (rooted : Rooted) → 0 < times (root_of rooted) (pages_in rooted)
root-some rooted = at rooted.levels rooted.tree
  where
    at : (levels : ℕ) (tree : TreeOf levels) → 0 < times (page_of levels tree) (pages_of levels tree)
    at zero tree = omega (arith, hit-itself tree.page)
    at (suc levels) tree = omega (arith, hit-itself tree.page)

module _ (sizes : Sizes) (base : Paged) (front : List Rooted) (rooted : Rooted) (back : List Rooted) (trunks : List Trunk) where
  -- a tree of a world and its free pages stand among the due pages, each once at most
  pub world-within : IsWorld sizes base (with_tree front rooted back trunks) → (n : ℕ) → times n (pages_in rooted) + times n (free_pages trunks) ≤ due sizes.size base.count n
  world-within world n = omega (arith, times-world n front rooted back trunks, world.once n)

  pub world-root : IsWorld sizes base (with_tree front rooted back trunks) → IsRoot sizes base rooted
  world-root world = (all-back (IsRoot sizes base) front (rooted ∷ back) world.trees).0

  -- a tree of a world has no more pages than the world
  world-pages : IsWorld sizes base (with_tree front rooted back trunks) → length (pages_in rooted) ≤ base.count
  world-pages world =
      let within = world-within world in
      omega (
        arith,
        times-counted (pages_in rooted) base.count (λ n past. omega (arith, within n, due-past sizes.size base.count n past)),
        up_to-le (λ n. times n (pages_in rooted)) (due sizes.size base.count) base.count (λ n. omega (arith, within n)),
        due-counted sizes.size base.count base.count (omega arith),
        due_pages-most sizes.size base.count,
      )

  -- so no tree of a world is deeper than a cursor can go
  pub world-deep : IsWorld sizes base (with_tree front rooted back trunks) → depth_of rooted ≤ greatest_depth
  world-deep world =
      let full = IsFullRoot-pages rooted.levels rooted.tree (world-root world).full in
      let few = few-levels rooted.levels (omega (arith, full, world-pages world, world.few)) in
      omega arith

  -- the root of a tree of a world is a page of it
  pub world-number : IsWorld sizes base (with_tree front rooted back trunks) → IsRootNumber sizes base (root_of rooted)
  world-number world =
      let some : 0 < due sizes.size base.count (root_of rooted) = omega (arith, root-some rooted, world-within world (root_of rooted)) in
      record { first = due-first sizes.size base.count (root_of rooted) some; within = due-within sizes.size base.count (root_of rooted) some; not_lock_byte = due-other sizes.size base.count (root_of rooted) some }

  pub world-tree : IsWorld sizes base (with_tree front rooted back trunks) → IsTree sizes base (root_of rooted) rooted.kind (depth_of rooted) (list_in rooted) (pages_in rooted)
  world-tree world = record {
    rooted = rooted;
    is_root = world-root world;
    root_is = refl;
    root_number = world-number world;
    kind_is = refl;
    depth_is = refl;
    deep = world-deep world;
    members_are = refl;
    numbers_are = refl;
  }
