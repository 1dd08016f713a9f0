use Rattle.std.proofs.Common.{[], ◌∷◌, refl, arith, rules}
use Rattle.format_spec.proofs.sqlite_rows.worked_spellings.Goals as goal

pub returns-clause-shortest : goal.returns-clause-shortest
returns-clause-shortest c = record { front = 0x82 ∷ []; last = 0x2c; whole = refl; at_most_nine = omega arith; high = search rules; low = omega arith; sum = refl }

pub returns-clause-longer : goal.returns-clause-longer
returns-clause-longer c = record { front = 0x80 ∷ []; last = 1; whole = refl; at_most_nine = omega arith; high = search rules; low = omega arith; sum = refl }

pub returns-clause-nine : goal.returns-clause-nine
returns-clause-nine c = record { front = 0xff ∷ 0xff ∷ 0xff ∷ 0xff ∷ 0xff ∷ 0xff ∷ 0xff ∷ 0xff ∷ []; last = 0xff; whole = refl; at_most_nine = omega arith; high = search rules; low = omega arith; sum = refl }
