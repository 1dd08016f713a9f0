use Rattle.std.proofs.Common.{◌<◌, length, sym, ◌∙◌, arith}
use Rattle.db_check.proofs.Parts.{leaf_page-new}
use Rattle.db_check.proofs.freelist.pass_leaf.Goals as goal

pub returns-clause-passes : goal.returns-clause-passes
returns-clause-passes g c sizes base before same_size same_count same_page marked =
    let a = c.args in
    let leaf = c.u32_at-leaf.result in
    let in_range = c.is_in_range.ensures.0 c.if-not-is_in_range.false in
    let low : leaf < length a.flags.now = omega (arith, in_range.within, c.requires.flags) in
    leaf_page-new sizes base a.trunk a.at a.size a.count leaf a.page.now a.flags.now before same_size same_count same_page c.u32_at-leaf.ensures marked c.mark.new.flags in_range low
    (sym c.mark.ensures.before ∙ c.if-mark.false) c.mark.ensures.now
