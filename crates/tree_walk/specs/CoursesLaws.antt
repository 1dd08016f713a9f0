-- Where a walk is in a leaf, and where in an interior page: crates above cite these facts in their proofs.
use Rattle.std.proofs.Common.{◌≡◌, ℕ, zero, suc, ◌-◌, Bool, true, false}
use Rattle.tree_spec.specs.Standing.{Sizes, Paged}
use Rattle.tree_walk.specs.declared.place.Place.{Place}
use Rattle.tree_walk.specs.Places.{most_above}
use Rattle.tree_walk.specs.Courses.{Course, OnLeaf, FromPlace, From, Below}

pub on_leaf : (leaf : Bool) (A B : Type 0) → leaf ≡ true → OnLeaf leaf A B → A
on_leaf true A B is on = on
on_leaf false A B is on = absurd (let e : false ≡ true = is in cc)

pub on_inner : (leaf : Bool) (A B : Type 0) → leaf ≡ false → OnLeaf leaf A B → B
on_inner true A B is on = absurd (let e : true ≡ false = is in cc)
on_inner false A B is on = on

pub to_leaf : (leaf : Bool) (A B : Type 0) → leaf ≡ true → A → OnLeaf leaf A B
to_leaf true A B is a = a
to_leaf false A B is a = absurd (let e : false ≡ true = is in cc)

pub to_inner : (leaf : Bool) (A B : Type 0) → leaf ≡ false → B → OnLeaf leaf A B
to_inner true A B is b = absurd (let e : true ≡ false = is in cc)
to_inner false A B is b = b

module _ (sizes : Sizes) (base : Paged) where
  pub from_place : (room : ℕ) (place : Place) (later course : Course) → From sizes base room place later course → FromPlace sizes base (Below sizes base room) (most_above - room) place later course
  from_place zero place later course from = from
  from_place (suc room) place later course from = from

  pub to_place : (room : ℕ) (place : Place) (later course : Course) → FromPlace sizes base (Below sizes base room) (most_above - room) place later course → From sizes base room place later course
  to_place zero place later course from = from
  to_place (suc room) place later course from = from
