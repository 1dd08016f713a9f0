use Rattle.std.proofs.Common.{length, refl}
use Rattle.byte_fields.specs.BytesLaws.{overwritten-end}
use Rattle.file_spec.specs.FilesLaws.{with_file-again}
use Rattle.file_spec.proofs.writes_join.Goals as goal

pub returns-clause-again : goal.returns-clause-again
returns-clause-again c = with_file-again

pub returns-clause-append : goal.returns-clause-append
returns-clause-append c old bytes = overwritten-end old (length old) bytes refl
