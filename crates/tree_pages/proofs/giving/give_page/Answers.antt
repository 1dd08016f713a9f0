use Rattle.tree_pages.specs.Writers.{sizes_of}
use Rattle.tree_pages.proofs.Given.{released, refused-release}
use Rattle.tree_pages.proofs.giving.give_page.Goals as goal

pub returns-in-Ok-clause-released : goal.returns-in-Ok-clause-released
returns-in-Ok-clause-released g c = λ old told.
    let S = g.S.PageRead in
    let a = c.args.store.now in
    let e = c.in-Ok.ensures in
    released (sizes_of S a) c.args.number (S.count a) _ old _ e.count (e.changes old told) (λ trunks free apart. e.gives old trunks 0 told free apart)

pub returns-in-Err-clause-sound : goal.returns-in-Err-clause-sound
returns-in-Err-clause-sound g c = λ m trunks told free.
    let S = g.S.PageRead in
    let a = c.args.store.now in
    refused-release m (S.size a) (S.usable a) (S.count a) _ c.in-Err.fault _ trunks c.of_freelist.ensures free (c.in-Err.ensures.answer m told)
