-- Paths are facts: the field of a cursor that says so may be a ghost.
use Rattle.std.specs.Prelude.{ℤ, List, [], ◌∷◌, Option}
use Rattle.std.proofs.Props.{props}
use Rattle.std.specs.Coded.{×_prop, Unit-prop}
use Rattle.format_spec.specs.declared.CellView.{CellView}
use Rattle.tree_spec.specs.declared.TreeKind.{TreeKind}
use Rattle.tree_spec.specs.declared.TreeKind.TheVariants.{Table, Index}
use Rattle.tree_spec.specs.Bounds.{RisesIn}
use Rattle.tree_walk.specs.declared.place.Place.{Place}
use Rattle.tree_walk.specs.Pages.{tree_kind}
use Rattle.tree_walk.specs.Places.{Rises, low_bound, rowids}
use Rattle.tree_walk.specs.Paths.{IsUnder, IsPath}

rises-prop : (low high : ℤ) (xs : List ℤ) → IsProp (RisesIn low high xs)
rises-prop low high [] = hlevel props
rises-prop low high (x ∷ xs) = ×_prop (hlevel props) (rises-prop x high xs)

kept-prop : (kind : TreeKind) (low : Option ℤ) (high : ℤ) (views : List CellView) → IsProp (Rises kind low high views)
kept-prop Table low high views = rises-prop (low_bound low) high (rowids views)
kept-prop Index low high views = Unit-prop

under-prop : (parent child : Place) → IsProp (IsUnder parent child)
under-prop parent child = hlevel props

pub path-prop : (parents : List Place) (place : Place) → IsProp (IsPath parents place)
path-prop [] place = kept-prop (tree_kind place.page.kind) place.low place.high place.page.views
path-prop (parent ∷ parents) place =
    ×_prop (kept-prop (tree_kind place.page.kind) place.low place.high place.page.views) (×_prop (under-prop parent place) (path-prop parents parent))
