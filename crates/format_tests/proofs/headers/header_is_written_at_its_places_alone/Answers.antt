use Rattle.std.proofs.Common.{refl, arith}
use Rattle.format_tests.proofs.headers.header_is_written_at_its_places_alone.Goals as goal

pub write_header-requires-clause-size : goal.write_header-requires-clause-size
write_header-requires-clause-size c = record { power = (9, refl); least = omega arith; most = omega arith }

pub write_header-requires-2-clause-size : goal.write_header-requires-2-clause-size
write_header-requires-2-clause-size c = record { power = (16, refl); least = omega arith; most = omega arith }
