use Rattle.std.proofs.Common.{◌≡◌, Some, None, sym, ◌∙◌, arith}
use Rattle.std.proofs.lemmas.List.{with_items_is}
use Rattle.std.proofs.lemmas.Option.{IfSome_then}
use Rattle.oal_store.proofs.StoreSteps.{put-same, none-found}
use Rattle.oal_store.proofs.store.OalStore.fill_first.Goals as goal

pub returns-clause-pages : goal.returns-clause-pages
returns-clause-pages g c =
    let page = c.in_ok-read.ensures.page in
    record {
      same = page.same;
      answer = IfSome_then (g.D.Disk.shown c.args.disk.now) page.answer (λ f is.
          put-same c.args.self.now c.put.new.self f 1 c.as_slice.result.now c.put.ensures.same c.in_ok-put.ensures.page (c.as_slice.ensures.value ∙ with_items_is c.in_ok-page.page c.read.new.into (omega (arith, c.read.auto.into, c.as_mut_slice.ensures.len)) ∙ is));
      moments = page.moments;
      test = page.test;
    }

pub returns-clause-spare : goal.returns-clause-spare
returns-clause-spare g c empty =
    let lost : None ≡ Some c.as_slice.result.now = sym (none-found 1 c.put.new.self.changed.entries empty) ∙ c.in_ok-put.ensures.page 1 in
    absurd (cc)
