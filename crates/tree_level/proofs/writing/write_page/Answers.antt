use Rattle.std.proofs.lemmas.Result.{err_from_is_err_and}
use Rattle.tree_level.proofs.writing.write_page.Goals as goal

pub returns-in_err-refresh-clause-other : goal.returns-in_err-refresh-clause-other
returns-in_err-refresh-clause-other g c = let p = err_from_is_err_and c.from_residual.result c.from_residual.ensures.1 in rw (p.1, p.2) c.in_err-refresh.ensures.other
