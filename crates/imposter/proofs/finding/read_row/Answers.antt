use Rattle.imposter.proofs.Faults.{unread-refused}
use Rattle.imposter.proofs.finding.read_row.Goals as goal

pub returns-in-Err-clause-reads : goal.returns-in-Err-clause-reads
returns-in-Err-clause-reads g c = unread-refused c.args.target.now c.args.row.now.rowid c.args.row.now.payload c.in-Err.unread c.refuse_record.result c.in-Err.ensures.fault c.refuse_record.ensures.refuses
