-- That a log suits pages, and may be read, are facts: the fields of a store that say so may be ghosts.
use Rattle.std.specs.Prelude.{ℕ, Bool, Option, Some, None}
use Rattle.std.proofs.Props.{props}
use Rattle.std.specs.Coded.{Unit-prop}
use Rattle.wal_codec.specs.declared.log.Log.{Log}
use Rattle.file_pages.specs.Overlay.{Suits, Allows}

pub suits-prop : (log : Option Log) (size : ℕ) → IsProp (Suits log size)
suits-prop None size = Unit-prop
suits-prop (Some log) size = hlevel props

pub allows-prop : (log : Option Log) (allowed : Bool) → IsProp (Allows log allowed)
allows-prop None allowed = Unit-prop
allows-prop (Some log) allowed = hlevel props
