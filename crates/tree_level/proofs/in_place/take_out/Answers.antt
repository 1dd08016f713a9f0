use Rattle.std.proofs.Common.{Bool, []}
use Rattle.std.proofs.Math.Path.{subst⁻¹}
use Rattle.format_spec.specs.Page.{IsPage}
use Rattle.tree_level.specs.Changes.{changed}
use Rattle.tree_level.proofs.in_place.take_out.Goals as goal

pub returns-then-goes : goal.returns-then-goes
returns-then-goes c kind cells right is =
    let a = c.args in
    subst⁻¹ (λ (b : Bool). IsPage c.remove_cell.new.page a.number a.usable kind (changed cells a.at b []) right) c.if-goes.true (c.remove_cell.ensures.written kind cells right is).is_page
