use Rattle.std.proofs.Common.{◌++◌, ◌∷◌, [], ℕ, ap, ◌∙◌, subst}
use Rattle.std.proofs.Math.Path.{subst⁻¹}
use Rattle.std.proofs.lemmas.Option.{IfSome_then}
use Rattle.tree_walk.specs.declared.place.Place.{Place}
use Rattle.tree_spec.specs.Faults.{IsDamageOrOther}
use Rattle.tree_walk.specs.Places.{IsBadStep, IsChild}
use Rattle.tree_walk.proofs.path.Cursor.step_down.Goals as goal

pub returns-in-Ok-clause-pages : goal.returns-in-Ok-clause-pages
returns-in-Ok-clause-pages g c =
    let a = c.args in
    let store = a.store.now in
    let old = a.self.now in
    let enters = c.in-Ok.ensures.pages in
    let above = c.push.ensures.items ∙ ap (λ (place : Place). old.above.items ++ place ∷ []) c.replace-parent.ensures.value in
    record {
      same = enters.same;
      count = enters.count;
      answer = IfSome_then (g.S.PageRead.pages store) enters.answer (λ m child. (above, subst⁻¹ (IsChild m (g.S.PageRead.usable store) old.here) c.replace-parent.ensures.after child));
    }

pub returns-in-Err-clause-pages : goal.returns-in-Err-clause-pages
returns-in-Err-clause-pages g c =
    let a = c.args in
    let store = a.store.now in
    let old = a.self.now in
    let enters = c.in-Err.ensures.pages in
    record {
      same = enters.same;
      count = enters.count;
      answer = IfSome_then (g.S.PageRead.pages store) enters.answer (λ m bad.
          subst (λ (n : ℕ). IsDamageOrOther (IsBadStep m (g.S.PageRead.size store) (g.S.PageRead.usable store) (g.S.PageRead.count store) old.here n) c.in-Err.fault) c.len.ensures.value bad);
    }
