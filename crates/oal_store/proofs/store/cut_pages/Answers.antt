use Rattle.std.proofs.Common.{ap, ◌∙◌}
use Rattle.std.specs.Map.{lookup}
use Rattle.std.specs.BTreeMap.{is_at}
use Rattle.std.specs.Ordering.{nat_cmp}
use Rattle.oal_store.proofs.Entries.{changed-split, changed-below, changed-wider, found-below}
use Rattle.oal_store.proofs.store.cut_pages.Goals as goal

pub returns-then-most-count-clause-whole : goal.returns-then-most-count-clause-whole
returns-then-most-count-clause-whole c size all = changed-wider size c.args.most c.args.count c.args.pages.now.entries c.if-most-count.true all

pub returns-in_err-_rest-clause-kept : goal.returns-in_err-_rest-clause-kept
returns-in_err-_rest-clause-kept c size = changed-split c.split_off.result size c.args.most c.args.pages.now.entries c.split_off.new.self.entries c.split_off.ensures.parts c.split_off.ensures.err

pub returns-clause-pages : goal.returns-clause-pages
returns-clause-pages c n within = ap (lookup (is_at (nat_cmp n))) c.in_ok-_rest.ensures.below ∙ found-below n c.args.count c.args.pages.now.entries within

pub returns-clause-whole : goal.returns-clause-whole
returns-clause-whole c size all =
    changed-below size c.args.most c.args.count c.split_off.new.self.entries
    (changed-split c.split_off.result size c.args.most c.args.pages.now.entries c.split_off.new.self.entries c.split_off.ensures.parts c.split_off.ensures.err all) c.in_ok-_rest.ensures.all_below

pub returns-clause-kept : goal.returns-clause-kept
returns-clause-kept c size = changed-split c.split_off.result size c.args.most c.args.pages.now.entries c.split_off.new.self.entries c.split_off.ensures.parts c.split_off.ensures.err
