use Rattle.std.proofs.Common.{◌≡◌, ◌∙◌, true, ℕ, length, sym, ap}
use Rattle.std.proofs.Math.Path.{subst⁻¹}
use Rattle.std.proofs.lemmas.List.Sorted.{length_permutation}
use Rattle.group_rows.specs.Runs.{Stands, skipped}
use Rattle.group_rows.proofs.Groups.{skip-is}
use Rattle.group_rows.proofs.progress.Progress.take_batch.Goals as goal

pub returns-then-self : goal.returns-then-self
returns-then-self c run ordered stands is have =
    let table = c.args.table.now in
    let g = c.args.g.now in
    let yes : run.stopped ≡ true = sym stands.was_stopped ∙ c.if-self.true in
    let long : length ordered ≡ length c.args.rows.now = length_permutation c.args.rows.now ordered is.all in
    subst⁻¹ (Stands table c.skip.new.self) (skip-is table g ordered run yes ∙ ap (λ (n : ℕ). skipped n run) long) (c.in_ok-skip.ensures table run stands)
