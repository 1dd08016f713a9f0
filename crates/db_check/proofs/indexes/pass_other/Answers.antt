use Rattle.std.proofs.Common.{refl}
use Rattle.db_check.specs.CallsLaws.{sees-one}
use Rattle.db_check.proofs.indexes.pass_other.Goals as goal

pub returns-in-Ok-clause-pages : goal.returns-in-Ok-clause-pages
returns-in-Ok-clause-pages g c =
    sees-one g.S.PageRead c.in-Ok.ensures.pages (λ m step subject before content root_is fresh marked findings walk.
    let ended = step subject before content root_is fresh marked findings walk in (ended.0, ended.1, refl))

pub returns-in-Err-clause-pages : goal.returns-in-Err-clause-pages
returns-in-Err-clause-pages g c =
    sees-one g.S.PageRead c.in-Err.ensures.pages (λ m wrong subject before content root_is fresh marked findings walk. wrong subject before content root_is fresh marked findings walk)
