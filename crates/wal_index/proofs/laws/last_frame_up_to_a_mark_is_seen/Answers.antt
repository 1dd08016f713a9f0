use Rattle.wal_index.specs.OverlayLaws.{mark-page, mark-none, mark-count}
use Rattle.wal_index.proofs.laws.last_frame_up_to_a_mark_is_seen.Goals as goal

pub returns : goal.returns
returns c = record { page = mark-page; none = mark-none; count = mark-count }
