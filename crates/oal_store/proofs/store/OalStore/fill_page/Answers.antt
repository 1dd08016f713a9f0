use Rattle.std.proofs.lemmas.Option.{IfSome_then}
use Rattle.oal_store.proofs.StoreSteps.{put-same}
use Rattle.oal_store.proofs.store.OalStore.fill_page.Goals as goal

pub returns-clause-pages : goal.returns-clause-pages
returns-clause-pages g c =
    let page = c.in_ok-read.ensures.page in
    record {
      same = page.same;
      answer = IfSome_then (g.D.Disk.shown c.args.disk.now) page.answer (λ f is. put-same c.args.self.now c.put.new.self f c.args.number c.read.new.into c.put.ensures.same c.in_ok-put.ensures.page is);
      moments = page.moments;
      test = page.test;
    }
