use Rattle.std.proofs.Common.{◌∙◌, ℕ}
use Rattle.tree_index.specs.ReadsLaws.{child-named}
use Rattle.page_spec.specs.Pages.{IsInRange}
use Rattle.std.proofs.Math.Path.{subst⁻¹}
use Rattle.tree_index.proofs.descending.child_number.Goals as goal

pub returns-clause-child : goal.returns-clause-child
returns-clause-child g c usable cells has =
    let page = c.args.page.now in
    c.child_of-child.ensures ∙ child-named page cells c.args.at has.views_are

pub returns-then-not-is_in_range-clause-out : goal.returns-then-not-is_in_range-clause-out
returns-then-not-is_in_range-clause-out g c = λ is.
    let S = g.S.PageRead in
    let here : IsInRange c.page_size.result c.count.result c.child_of-child.result =
    subst⁻¹ (λ (s : ℕ). IsInRange s c.count.result c.child_of-child.result) c.page_size.ensures
    (subst⁻¹ (λ (n : ℕ). IsInRange (S.size c.args.store.now) n c.child_of-child.result) c.count.ensures (subst⁻¹ (IsInRange (S.size c.args.store.now) (S.count c.args.store.now)) c.child_of-child.ensures is)) in
    let bad = c.is_in_range.ensures.1 here in
    let no : ⊥ = cc in
    no
