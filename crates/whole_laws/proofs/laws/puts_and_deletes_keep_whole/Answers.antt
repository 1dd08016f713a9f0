use Rattle.whole_laws.specs.KeptLaws.{whole-deleted, whole-put}
use Rattle.whole_laws.proofs.laws.puts_and_deletes_keep_whole.Goals as goal

pub returns-clause-put : goal.returns-clause-put
returns-clause-put c sizes old new catalog front table back trunks row whole kind other readable grows put =
    whole-put sizes old new catalog front table back trunks row whole kind other readable grows put

pub returns-clause-delete : goal.returns-clause-delete
returns-clause-delete c sizes old new catalog front table back trunks gone whole kind other grows deleted =
    whole-deleted sizes old new catalog front table back trunks gone whole kind other grows deleted
