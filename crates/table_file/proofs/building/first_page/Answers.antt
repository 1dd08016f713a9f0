use Rattle.std.proofs.Common.{refl, arith}
use Rattle.table_file.proofs.building.first_page.Goals as goal

pub write_header-requires-clause-size : goal.write_header-requires-clause-size
write_header-requires-clause-size c = record { power = (9, refl); least = omega arith; most = omega arith }
