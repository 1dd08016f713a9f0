use Rattle.std.proofs.Common.{◌≡◌, ◌^◌, ◌<◌, ◌≤◌, ◌⊎◌, IfOk, IfErr, OnOk, IfSome, length, sym, ap, ◌∙◌, arith}
use Rattle.std.proofs.lemmas.Result.{on_ok_weaker}
use Rattle.common_spec.specs.Told.{Leads}
use Rattle.format_spec.specs.Header.{freelist_trunk}
use Rattle.page_spec.specs.FreePages.{due_pages, page_past}
use Rattle.page_store.specs.StoreLaws.{IfSome-told}
use Rattle.free_list.specs.Answers.{IsOther, IsTakeFault}
use Rattle.free_list.specs.Written.{Appends, TakesFrom}
use Rattle.free_list.proofs.Calls.{sizes-stayed, past-rises, past-taken, past-few, take-taken, take-few, take-answers}
use Rattle.free_list.proofs.allocating.allocate.Goals as goal

pub returns-then-trunk-eq0-clause-takes : goal.returns-then-trunk-eq0-clause-takes
returns-then-trunk-eq0-clause-takes g c =
    let a = c.args in
    let size = g.S.PageRead.size a.store.now in
    let usable = g.S.PageRead.usable a.store.now in
    let count = g.S.PageRead.count a.store.now in
    let read = c.in_ok-read.ensures in
    let first = c.read.new.page in
    let found = g.S.PageRead.pages c.read.new.store in
    let same : found ≡ g.S.PageRead.pages a.store.now = read.pages.pages.same in
    let long : length first ≡ size = c.read.auto.page ∙ ap length c.as_mut_slice-first.ensures.value ∙ c.in_ok-first_buffer.ensures ∙ c.page_size.ensures in
    let after = g.S.PageRead.pages c.append.new.store in
    let none : freelist_trunk first ≡ 0 = sym c.u32_at-trunk.ensures ∙ c.if-trunk-eq0.true in
    λ m trunks told is.
    let is_first : first ≡ m 1 = IfSome-told (λ p. first ≡ p 1) m told read.pages.pages.answer in
    past-taken g.row.S-Fault.Denot size usable a.limit count m first is_first c.requires.sizes.usable c.requires.sizes.within long c.append.result found after (g.S.PageRead.count c.append.new.store) (same ∙ told) none (omega (arith, a.limit, c.ranges.limit)) c.requires.some
    (sizes-stayed (λ s u n. IfOk c.append.result (λ page. (page ≡ page_past s n) × (page ≤ a.limit))) read.owes.stays.size read.owes.stays.usable read.pages.count c.append.ensures.next)
    c.append.ensures.count
    (sizes-stayed (λ s u n. IfOk c.append.result (λ page. Leads (Appends n first page) found after)) read.owes.stays.size read.owes.stays.usable read.pages.count c.append.ensures.pages) trunks is

pub returns-then-trunk-eq0-clause-changes : goal.returns-then-trunk-eq0-clause-changes
returns-then-trunk-eq0-clause-changes g c =
    let a = c.args in
    let size = g.S.PageRead.size a.store.now in
    let usable = g.S.PageRead.usable a.store.now in
    let count = g.S.PageRead.count a.store.now in
    let read = c.in_ok-read.ensures in
    let first = c.read.new.page in
    let found = g.S.PageRead.pages c.read.new.store in
    let same : found ≡ g.S.PageRead.pages a.store.now = read.pages.pages.same in
    let long : length first ≡ size = c.read.auto.page ∙ ap length c.as_mut_slice-first.ensures.value ∙ c.in_ok-first_buffer.ensures ∙ c.page_size.ensures in
    let after = g.S.PageRead.pages c.append.new.store in
    let none : freelist_trunk first ≡ 0 = sym c.u32_at-trunk.ensures ∙ c.if-trunk-eq0.true in
    λ m told.
    let is_first : first ≡ m 1 = IfSome-told (λ p. first ≡ p 1) m told read.pages.pages.answer in
    past-few g.row.S-Fault.Denot size usable a.limit count m first is_first c.requires.sizes.usable c.requires.sizes.within long c.append.result found after (same ∙ told)
    (sizes-stayed (λ s u n. IfOk c.append.result (λ page. Leads (Appends n first page) found after)) read.owes.stays.size read.owes.stays.usable read.pages.count c.append.ensures.pages)

pub returns-then-trunk-eq0-clause-rises : goal.returns-then-trunk-eq0-clause-rises
returns-then-trunk-eq0-clause-rises g c =
    let a = c.args in
    let S = g.S.PageRead in
    let read = c.in_ok-read.ensures in
    past-rises (S.size a.store.now) (S.count a.store.now) a.limit (S.count c.append.new.store) c.append.result
    (sizes-stayed (λ s u n. IfOk c.append.result (λ page. (page ≡ page_past s n) × (page ≤ a.limit))) read.owes.stays.size read.owes.stays.usable read.pages.count c.append.ensures.next)
    c.append.ensures.count

pub returns-clause-rises : goal.returns-clause-rises
returns-clause-rises g c =
    let S = g.S.PageRead in
    on_ok_weaker c.take.result (λ same. omega (arith, ap (due_pages (S.size c.args.store.now)) (same ∙ c.in_ok-read.ensures.pages.count))) c.take.ensures.count

pub returns-clause-answer : goal.returns-clause-answer
returns-clause-answer g c =
    let a = c.args in
    let size = g.S.PageRead.size a.store.now in
    let usable = g.S.PageRead.usable a.store.now in
    let count = g.S.PageRead.count a.store.now in
    let read = c.in_ok-read.ensures in
    let first = c.read.new.page in
    let found = g.S.PageRead.pages c.read.new.store in
    let same : found ≡ g.S.PageRead.pages a.store.now = read.pages.pages.same in
    let long : length first ≡ size = c.read.auto.page ∙ ap length c.as_mut_slice-first.ensures.value ∙ c.in_ok-first_buffer.ensures ∙ c.page_size.ensures in
    let after = g.S.PageRead.pages c.take.new.store in
    let trunk = c.u32_at-trunk.result in
    λ m told.
    let is_first : first ≡ m 1 = IfSome-told (λ p. first ≡ p 1) m told read.pages.pages.answer in
    take-answers g.row.S-Fault.Denot size usable a.limit count m first is_first c.requires.sizes.usable c.requires.sizes.within long trunk c.u32_at-trunk.ensures c.if-trunk-eq0.false c.take.result found after (same ∙ told)
    (sizes-stayed (λ s u n. IfOk c.take.result (λ page. Leads (TakesFrom s u n trunk first page) found after)) read.owes.stays.size read.owes.stays.usable read.pages.count c.take.ensures.pages)
    (sizes-stayed (λ s u n. IfErr c.take.result (λ fault. IfSome found (λ p. IsOther fault ⊎ IsTakeFault p s u n trunk fault))) read.owes.stays.size read.owes.stays.usable read.pages.count c.take.ensures.refuses)

pub returns-clause-takes : goal.returns-clause-takes
returns-clause-takes g c =
    let a = c.args in
    let size = g.S.PageRead.size a.store.now in
    let usable = g.S.PageRead.usable a.store.now in
    let count = g.S.PageRead.count a.store.now in
    let read = c.in_ok-read.ensures in
    let first = c.read.new.page in
    let found = g.S.PageRead.pages c.read.new.store in
    let same : found ≡ g.S.PageRead.pages a.store.now = read.pages.pages.same in
    let long : length first ≡ size = c.read.auto.page ∙ ap length c.as_mut_slice-first.ensures.value ∙ c.in_ok-first_buffer.ensures ∙ c.page_size.ensures in
    let after = g.S.PageRead.pages c.take.new.store in
    let trunk = c.u32_at-trunk.result in
    λ m trunks told is.
    let is_first : first ≡ m 1 = IfSome-told (λ p. first ≡ p 1) m told read.pages.pages.answer in
    take-taken g.row.S-Fault.Denot size usable a.limit count m first is_first c.requires.sizes.usable c.requires.sizes.within long trunk c.u32_at-trunk.ensures c.if-trunk-eq0.false c.take.result found after (same ∙ told)
    (sizes-stayed (λ s u n. IfOk c.take.result (λ page. Leads (TakesFrom s u n trunk first page) found after)) read.owes.stays.size read.owes.stays.usable read.pages.count c.take.ensures.pages)
    (g.S.PageRead.count c.take.new.store) (on_ok_weaker c.take.result (λ e. e ∙ read.pages.count) c.take.ensures.count)
    (sizes-stayed (λ s u n. OnOk c.take.result (n < 2 ^ 32)) read.owes.stays.size read.owes.stays.usable read.pages.count c.take.ensures.fits) trunks is

pub returns-clause-changes : goal.returns-clause-changes
returns-clause-changes g c =
    let a = c.args in
    let size = g.S.PageRead.size a.store.now in
    let usable = g.S.PageRead.usable a.store.now in
    let count = g.S.PageRead.count a.store.now in
    let read = c.in_ok-read.ensures in
    let first = c.read.new.page in
    let found = g.S.PageRead.pages c.read.new.store in
    let same : found ≡ g.S.PageRead.pages a.store.now = read.pages.pages.same in
    let long : length first ≡ size = c.read.auto.page ∙ ap length c.as_mut_slice-first.ensures.value ∙ c.in_ok-first_buffer.ensures ∙ c.page_size.ensures in
    let after = g.S.PageRead.pages c.take.new.store in
    let trunk = c.u32_at-trunk.result in
    λ m told.
    let is_first : first ≡ m 1 = IfSome-told (λ p. first ≡ p 1) m told read.pages.pages.answer in
    take-few g.row.S-Fault.Denot size usable a.limit count m first is_first c.requires.sizes.usable c.requires.sizes.within long trunk c.u32_at-trunk.ensures c.if-trunk-eq0.false c.take.result found after (same ∙ told)
    (sizes-stayed (λ s u n. IfOk c.take.result (λ page. Leads (TakesFrom s u n trunk first page) found after)) read.owes.stays.size read.owes.stays.usable read.pages.count c.take.ensures.pages)
