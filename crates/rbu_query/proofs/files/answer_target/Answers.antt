use Rattle.file_spec.specs.declared.FileName.TheVariants.{Target}
use Rattle.rbu_disk.specs.Uses.{Reads}
use Rattle.rbu_query.proofs.Loans.{header-sized}
use Rattle.rbu_query.proofs.files.answer_target.Goals as goal

pub invariant_of-pages-clause-allowed : goal.invariant_of-pages-clause-allowed
invariant_of-pages-clause-allowed g c = c.requires.allowed (Reads Target)

pub invariant_of-pages-clause-sized : goal.invariant_of-pages-clause-sized
invariant_of-pages-clause-sized g c = header-sized c.args.header c.requires.header
