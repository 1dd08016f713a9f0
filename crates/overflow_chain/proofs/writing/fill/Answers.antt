use Rattle.overflow_chain.proofs.Writes.{page_filled}
use Rattle.overflow_chain.proofs.writing.fill.Goals as goal

pub returns : goal.returns
returns c =
    page_filled c.args.page.now c.args.content.now c.args.next c.put_u32.new.bytes c.copy_from_slice.new.self c.requires c.put_u32.ensures c.copy_from_slice.ensures.after
    c.fill.new.self (c.fill.ensures.after (λ y e. e))
