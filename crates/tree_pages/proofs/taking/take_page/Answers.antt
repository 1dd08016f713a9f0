use Rattle.tree_pages.specs.Writers.{sizes_of}
use Rattle.tree_pages.proofs.Taken.{took, refusal, short, stays-refused}
use Rattle.tree_pages.proofs.taking.take_page.Goals as goal

pub returns-in-Ok-clause-took : goal.returns-in-Ok-clause-took
returns-in-Ok-clause-took g c = λ old told.
    let a = c.args.store.now in
    let e = c.in-Ok.ensures in
    took (record { size = g.S.PageRead.size a; usable = g.S.PageRead.usable a }) c.args.limit c.in-Ok.page (g.S.PageRead.count a) _ old _ e.count (e.changes old told) (λ trunks free. e.takes old trunks told free)

pub returns-in-Err-clause-refuses : goal.returns-in-Err-clause-refuses
returns-in-Err-clause-refuses g c = λ m trunks told free.
    let S = g.S.PageRead in
    let a = c.args.store.now in
    let e = c.in-Err.ensures in
    short (sizes_of S a) c.args.limit (S.count a) (S.count c.allocate.new.store) m trunks c.of_freelist.result (stays-refused c.in-Err.fault c.of_freelist.result c.of_freelist.ensures e.stays)
    (refusal m (S.size a) (S.usable a) (S.count a) c.args.limit _ c.in-Err.fault c.of_freelist.result trunks c.of_freelist.ensures free (e.answer m told))

pub returns-in-Err-clause-stays : goal.returns-in-Err-clause-stays
returns-in-Err-clause-stays g c = stays-refused c.in-Err.fault c.of_freelist.result c.of_freelist.ensures c.in-Err.ensures.stays
