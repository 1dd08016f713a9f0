-- The bounds that the pages on a cursor's path give one another, whatever the store holds.
use Rattle.std.specs.Prelude.{◌≡◌, false, List, [], ◌∷◌}
use Rattle.tree_walk.specs.declared.place.Place.{Place}
use Rattle.tree_walk.specs.Pages.{is_leaf, tree_kind}
use Rattle.tree_walk.specs.Places.{Rises, low_at, high_at}

-- the rowids of a place's page keep its bounds
abbrev pub IsKept : Place → Type 0
IsKept place = Rises (tree_kind place.page.kind) place.low place.high place.page.views

-- a page below an interior one has its kind, and the bounds that it gives
pub record IsUnder (parent child : Place) : Type 0 where
  pub inner : is_leaf parent.page.kind ≡ false
  pub kind_is : tree_kind child.page.kind ≡ tree_kind parent.page.kind
  pub low_is : child.low ≡ low_at parent
  pub high_is : child.high ≡ high_at parent

-- each page on a path is under the one above it; the places above are given from the nearest on
abbrev pub IsPath : List Place → Place → Type 0
IsPath [] place = IsKept place
IsPath (parent ∷ parents) place = IsKept place × (IsUnder parent place × IsPath parents parent)

-- the first place of a page that was entered below another
pub record IsFirstUnder (parent child : Place) : Type 0 where
  pub kept : IsKept child
  pub kind_is : tree_kind child.page.kind ≡ tree_kind parent.page.kind
  pub low_is : child.low ≡ low_at parent
  pub high_is : child.high ≡ high_at parent
  pub first : child.at ≡ 0
