-- What a crash by a choice leaves is an image.
use Rattle.std.proofs.Common.{◌≡◌, ◌⊎◌, ℕ, zero, suc, ◌+◌, ◌-◌, ◌%◌, ◌<◌, List, [], ◌∷◌, length, slice_index_or, Option, Some, None, inl, inr, refl, ◌∙◌, arith}
use Rattle.file_spec.specs.Files.{Files}
use Rattle.file_spec.specs.Records.{HoldsAt, IsAmong, IsImage, IsSound, MayHold, MayName, Names, Record, Stored}
use Rattle.disk_memory.specs.Crash.{IsFilled, LeavesAt, LeavesBy, filling_of, kept_names, pending_byte}

-- names that are found in a list are among it
at-among : (all : List Names) (i : ℕ) (other : Names) → (slice_index_or all i other ≡ other) ⊎ IsAmong (slice_index_or all i other) all
at-among [] i other = inl refl
at-among (n ∷ ns) zero other = inr (inl refl)
at-among (n ∷ ns) (suc i) other = elim (at-among ns i other) [ inl same ↦ inl same | inr among ↦ inr (inr among) ]

pub kept-may : (choice : ℕ) (r : Record) → MayName r (kept_names choice r)
kept-may choice r = elim (at-among (r.names ∷ r.older) (length r.older - choice % (length r.older + 1)) r.names) [ inl same ↦ inl same | inr among ↦ among ]

filled-may : (fill : ℕ → ℕ) (s : Stored) (bytes : List ℕ) → MayHold s s.shown → IsFilled fill s bytes → MayHold s bytes
filled-may fill s bytes may filled = record {
  no_shorter = omega (arith, filled.long, may.no_shorter);
  no_longer = omega (arith, filled.long, may.no_longer);
  rest = λ i synced inside untouched.
      let shown : i < length s.shown = omega (arith, filled.long, inside) in
      filled.rest i shown synced untouched ∙ may.rest i synced shown untouched;
}

leaves-holds : (filling : ℕ) (stored : ℕ → Stored) (number : Option ℕ) (file : Option (List ℕ)) → ((id : ℕ) → MayHold (stored id) (stored id).shown) → LeavesAt filling stored number file → HoldsAt stored number file
leaves-holds filling stored None file shows leaves = leaves
leaves-holds filling stored (Some id) file shows leaves = (leaves.0, leaves.1, filled-may (pending_byte filling (stored id)) (stored id) leaves.0 (shows id) leaves.2)

pub leaves-image : (choice : ℕ) (r : Record) (files : Files) → IsSound r → LeavesBy choice r files → IsImage r files
leaves-image choice r files sound leaves =
    (kept_names choice r, kept-may choice r, λ name. leaves-holds (filling_of choice r) r.stored (kept_names choice r name) (files name) sound.shows (leaves name))
