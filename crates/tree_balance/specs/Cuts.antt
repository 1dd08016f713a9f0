-- What a page has room for, and how many cells leave it for its parent where it is cut (Database File Format, section 1.6).
use Rattle.std.specs.Prelude.{ℕ, []}
use Rattle.format_spec.specs.declared.PageKind.{PageKind}
use Rattle.format_spec.specs.declared.PageKind.TheVariants.{IndexInterior, TableInterior, IndexLeaf, TableLeaf}
use Rattle.page_spec.specs.Rooms.{free_bytes}

-- how many cells go up where a page of a kind is cut: a table's leaf keeps them all
abbrev pub risen : PageKind → ℕ
risen TableLeaf = 0
risen TableInterior = 1
risen IndexLeaf = 1
risen IndexInterior = 1

-- the bytes that a page other than page 1 has for cells and their places
abbrev pub page_room : PageKind → ℕ → ℕ
page_room kind usable = free_bytes 2 usable kind []
