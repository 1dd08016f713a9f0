use Rattle.std.proofs.Common.{◌≡◌, List, length, arith}
use Rattle.std.proofs.Math.Path.{subst⁻¹}
use Rattle.std.specs.Vec.Iter.{into_iter_items}
use Rattle.std.proofs.lemmas.List.{nil_from_length}
use Rattle.schema_read.specs.Entries.{StandAll}
use Rattle.schema_read.specs.declared.check.Placed.{Placed}
use Rattle.schema_read.proofs.Grouping.{stand-next, stand-none}
use Rattle.schema_read.proofs.catalog.stand_all.Goals as goal

pub loop-one-preserved : goal.loop-one-preserved
loop-one-preserved c = λ after stands.
    c.loop-one.invariant after
    (subst⁻¹ (λ (l : List Placed). StandAll c.loop-one.found l after) c.in-Some.ensures.steps.0
    (stand-next c.loop-one.found c.stand.new.found after c.in-Some.one (into_iter_items c.next.new.self) c.in_ok-stand.ensures stands))

pub returns : goal.returns
returns c =
    let none : length (into_iter_items c.loop-one.one-iterator) ≡ 0 = omega (arith, c.in-None.ensures.steps, c.loop-one.one-iterator.rest.ok) in
    c.loop-one.invariant c.loop-one.found
    (subst⁻¹ (λ (l : List Placed). StandAll c.loop-one.found l c.loop-one.found) (nil_from_length (into_iter_items c.loop-one.one-iterator) none) (stand-none c.loop-one.found))
