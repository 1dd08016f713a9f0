use Rattle.std.proofs.lemmas.Result.{err_from_is_err_and}
use Rattle.tree_level.proofs.writing.refresh_header.Goals as goal

pub returns-in_err-buffer-clause-other : goal.returns-in_err-buffer-clause-other
returns-in_err-buffer-clause-other g c = let p = err_from_is_err_and c.from_residual.result c.from_residual.ensures.1 in rw (p.1, p.2) tt
