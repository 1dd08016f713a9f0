use Rattle.std.proofs.Common.{refl}
use Rattle.db_check.proofs.Compared.{compared-none}
use Rattle.db_check.proofs.walk.Comparison.new.Goals as goal

pub returns : goal.returns
returns c = λ tree. compared-none tree _ refl refl refl
