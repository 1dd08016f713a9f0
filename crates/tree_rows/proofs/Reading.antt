-- What `next_row` leaves of a walk.
use Rattle.std.proofs.Common.{◌↔◌, Option, Some, None, IsNone, Result, Ok, Err, refl}
use Rattle.tree_spec.specs.declared.fault.TreeFault.{TreeFault}
use Rattle.tree_spec.specs.Standing.{Sizes, Paged}
use Rattle.tree_walk.specs.declared.path.Cursor.{Cursor}
use Rattle.tree_walk.specs.declared.cursor.Row.{Row}
use Rattle.tree_walk.specs.Courses.{IsPast, MovesOver, ReadsFirst}
use Rattle.tree_rows.specs.RemainingLaws.{past-remains, row-remains, torn-remains, next-remains, stopped-remains, ended-remains}
use Rattle.tree_rows.specs.Rows.{LeavesRow}

module _ (sizes : Sizes) (base : Paged) (T F : Type 0) (old new : Cursor) where
  -- a row was read, or none is left, and the cursor moved on
  pub row-left : (row : Option Row) (moved : T) → (IsNone row ↔ IsPast old) → (let read : Result (Option Row) (TreeFault F) = Ok row in ReadsFirst sizes base old read)
      → (let on : Result T (TreeFault F) = Ok moved in MovesOver sizes base old new on) → (let left : Result (Option Row) (TreeFault F) = Ok row in LeavesRow sizes base old new left)
  row-left (Some row) moved none reads moves = λ kind findings remains.
      let taken = row-remains sizes base kind findings old remains F row reads in
      (taken.rest, next-remains sizes base kind findings old remains T F row taken new moved moves, taken.members, taken.stops_are)
  row-left None moved none reads moves = λ kind findings remains. past-remains sizes base kind findings old remains (none.0 refl)

  -- the cursor did not move on
  pub row-stopped : (row : Option Row) (fault : TreeFault F) → (IsNone row ↔ IsPast old) → (let read : Result (Option Row) (TreeFault F) = Ok row in ReadsFirst sizes base old read)
      → (let on : Result T (TreeFault F) = Err fault in MovesOver sizes base old new on) → (let left : Result (Option Row) (TreeFault F) = Err fault in LeavesRow sizes base old new left)
  row-stopped (Some row) fault none reads moves = λ kind findings remains.
      stopped-remains sizes base kind findings old remains T F row (row-remains sizes base kind findings old remains F row reads) new fault moves
  row-stopped None fault none reads moves = λ kind findings remains. ended-remains sizes base kind findings old remains T F (none.0 refl) new fault moves

  -- the row was not read
  pub row-refused : (fault : TreeFault F) → (let read : Result (Option Row) (TreeFault F) = Err fault in ReadsFirst sizes base old read) → (let left : Result (Option Row) (TreeFault F) = Err fault in LeavesRow sizes base old new left)
  row-refused fault reads = λ kind findings remains. torn-remains sizes base kind findings old remains fault reads
