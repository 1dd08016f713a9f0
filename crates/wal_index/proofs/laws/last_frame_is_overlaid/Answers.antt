use Rattle.wal_index.specs.OverlayLaws.{last_frame-page, last_frame-none}
use Rattle.wal_index.proofs.laws.last_frame_is_overlaid.Goals as goal

pub returns : goal.returns
returns c = record { page = last_frame-page; none = last_frame-none }
