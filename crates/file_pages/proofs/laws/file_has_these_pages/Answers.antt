use Rattle.file_pages.specs.FileMapLaws.{file_pages-by_header}
use Rattle.file_pages.proofs.laws.file_has_these_pages.Goals as goal

pub returns : goal.returns
returns c = file_pages-by_header
