use Rattle.std.proofs.Common.{true, inl, length, ap, arith}
use Rattle.std.proofs.lemmas.Result.{IfOk-weaker}
use Rattle.index_delete.proofs.Endings.{if-ok_both}
use Rattle.index_delete.proofs.ending.take_last_of_leaf.Goals as goal

pub returns-clause-of : goal.returns-clause-of
returns-clause-of g c = IfOk-weaker c.take_from_leaf.result _ _ (λ removed is. inl is) c.take_from_leaf.ensures.of

pub returns-clause-left : goal.returns-clause-left
returns-clause-left g c =
    let made = c.take_from_leaf.ensures in
    if-ok_both c.take_from_leaf.result (λ removed is_row shrinks. λ old told.
    let n = shrinks old told in
    (n.0, n.1, λ there. n.2 true removed.row there is_row (λ e. omega (arith, c.in_ok-check_some.ensures.some, ap length c.as_slice.ensures)))) made.row made.left
