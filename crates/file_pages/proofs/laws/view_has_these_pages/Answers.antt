use Rattle.file_pages.specs.OverlayLaws.{overlaid-by_header, view-by_header, view-alone}
use Rattle.file_pages.proofs.laws.view_has_these_pages.Goals as goal

pub returns : goal.returns
returns c = record { logged = view-by_header; alone = view-alone; overlaid = overlaid-by_header }
