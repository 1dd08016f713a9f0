use Rattle.std.proofs.Common.{◌≡◌, List, ℕ, Option, sym, ap, ◌∙◌, subst}
use Rattle.file_spec.specs.Trails.{Trail}
use Rattle.disk_memory.specs.Volume.{files_at, first_trail, trail_from, trail_of}
use Rattle.disk_memory.specs.VolumeLaws.{fine-first, fine-from}
use Rattle.disk_memory.specs.Crash.{LeavesBy}
use Rattle.disk_memory.proofs.volume.Volume.crash.Goals as goal

pub crash-requires : goal.crash-requires
crash-requires c = (
  trail_from (first_trail (files_at c.self.inside.start)) c.as_slice.result.now,
  fine-from (first_trail (files_at c.self.inside.start)) c.as_slice.result.now (fine-first (files_at c.self.inside.start)),
  c.in_ok-replay.ensures,
)

pub returns-clause-left : goal.returns-clause-left
returns-clause-left c =
    let start : Trail = first_trail (files_at c.self.inside.start) in
    let made : Trail = trail_from start c.as_slice.result.now in
    let is : made ≡ trail_of c.args.self.now = ap (trail_from start) c.as_slice.ensures.value ∙ ap trail_of c.self.view_is in
    let left : LeavesBy c.args.choice made.now.at (files_at c.in_ok-crash.field-0) =
    c.in_ok-crash.ensures made (fine-from start c.as_slice.result.now (fine-first (files_at c.self.inside.start))) c.in_ok-replay.ensures in
    subst (λ (t : Trail). LeavesBy c.args.choice t.now.at (files_at c.from_places.result.start)) is
    (subst (λ (places : List (Option (List ℕ))). LeavesBy c.args.choice made.now.at (files_at places)) (sym c.from_places.ensures.start) left)
