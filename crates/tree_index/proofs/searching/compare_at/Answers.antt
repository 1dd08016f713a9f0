use Rattle.std.proofs.Common.{◌≡◌, ◌-◌, ℕ, List, Result, slice_index_or, inl, refl, ap, arith}
use Rattle.std.proofs.Math.Path.{subst⁻¹}
use Rattle.std.specs.declared.cmp.Ordering.{Ordering}
use Rattle.std.proofs.lemmas.Option.{IfSome_then}
use Rattle.format_spec.specs.declared.CellView.{CellView}
use Rattle.page_store.specs.StoreLaws.{some-all}
use Rattle.tree_spec.specs.declared.fault.TreeFault.{TreeFault}
use Rattle.tree_index.specs.Searches.{PayloadAt}
use Rattle.tree_index.proofs.Halves.{judged}
use Rattle.tree_index.proofs.searching.compare_at.Goals as goal

pub returns-then-view-from-clause-pages : goal.returns-then-view-from-clause-pages
returns-then-view-from-clause-pages g c =
    let S = g.S.PageRead in
    let a = c.args.store.now in
    let page = c.args.page.now in
    let at = c.args.at in
    let found : Result Ordering (TreeFault g.row.S-Fault.Denot) = c.judge.result in
    let whole : (d : CellView) → (slice_index_or page.views at d).payload - (slice_index_or page.views at d).local ≡ 0 =
    λ d. omega (arith, c.if-view-from.true, c.from.ensures, ap (λ (v : CellView). v.payload) (c.view_at-view.ensures d), ap (λ (v : CellView). v.local) (c.view_at-view.ensures d)) in
    record {
      same = refl;
      count = refl;
      answer = some-all (S.pages a) (λ m. judged m (S.size a) (S.usable a) (S.count a) page c.args.order.now c.args.payload.now at c.local_part.result.now found (λ d. inl (whole d, c.local_part.ensures d)) c.judge.ensures.answer);
    }

pub returns-in-Ok-clause-pages : goal.returns-in-Ok-clause-pages
returns-in-Ok-clause-pages g c =
    let S = g.S.PageRead in
    let a = c.args.store.now in
    let page = c.args.page.now in
    let at = c.args.at in
    let reads = c.in-Ok.ensures.pages in
    let found : Result Ordering (TreeFault g.row.S-Fault.Denot) = c.judge-in-Ok.result in
    record {
      same = reads.same;
      count = reads.count;
      answer = IfSome_then (S.pages a) reads.answer (λ m is. judged m (S.size a) (S.usable a) (S.count a) page c.args.order.now c.args.payload.now at c.as_slice.result.now found
          (subst⁻¹ (λ (e : List ℕ). PayloadAt m (S.size a) (S.usable a) (S.count a) page at e) c.as_slice.ensures is) c.judge-in-Ok.ensures.answer);
    }
