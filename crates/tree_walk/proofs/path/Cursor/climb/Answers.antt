use Rattle.std.proofs.Common.{ap, refl, sym, ◌∙◌, inl, inr}
use Rattle.arrayvec.specs.ArrayVec.{ArrayVec}
use Rattle.tree_walk.specs.declared.place.Place.{Place}
use Rattle.tree_walk.proofs.Lists.{none_popped}
use Rattle.tree_walk.proofs.Courses.{left-up, same-on}
use Rattle.tree_walk.proofs.Paths.{path-up, past-high}
use Rattle.tree_walk.proofs.path.Cursor.climb.Goals as goal

pub loop-self-init : goal.loop-self-init
loop-self-init c = record { walk = λ sizes base course on. on; bound = record { kind_is = refl; high_is = refl }; inner = inl refl }

pub loop-self-preserved : goal.loop-self-preserved
loop-self-preserved c =
    let inv = c.loop-self.invariant in
    let old = c.loop-self.self in
    let past = c.is_past.ensures.0 c.loop-self-test.true in
    let up = path-up old.above.items c.pop.new.self.items c.in-Some.parent old.here c.in-Some.ensures.items old.path in
    record {
      walk = λ sizes base course on. left-up sizes base course old _ c.in-Some.parent past c.in-Some.ensures.items refl up.0.inner (inv.walk sizes base course on);
      bound = record { kind_is = sym up.0.kind_is ∙ inv.bound.kind_is; high_is = sym up.0.high_is ∙ sym (past-high old.here past) ∙ inv.bound.high_is };
      inner = inr up.0.inner;
    }

pub returns-in-None-clause-ends : goal.returns-in-None-clause-ends
returns-in-None-clause-ends c = λ past.
    none_popped c.loop-self.self.above.items c.pop.new.self.items (ap (λ (above : ArrayVec Place). above.items) c.in-None.ensures.empty) (λ some. let bad = c.in-None.ensures.variant.1 some in cc)

pub returns-in-None-clause-walk : goal.returns-in-None-clause-walk
returns-in-None-clause-walk c = λ sizes base course on.
    same-on sizes base course c.loop-self.self _ (ap (λ (above : ArrayVec Place). above.items) c.in-None.ensures.empty) refl (c.loop-self.invariant.walk sizes base course on)
