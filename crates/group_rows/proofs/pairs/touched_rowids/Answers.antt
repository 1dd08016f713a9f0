use Rattle.std.proofs.Common.{◌∙◌, ◌||◌, ℤ, ap}
use Rattle.std.specs.List.{list_any}
use Rattle.std.specs.Ordering.{int_cmp, is_eq}
use Rattle.group_rows.proofs.Rowids.{or-false}
use Rattle.group_rows.proofs.pairs.touched_rowids.Goals as goal

pub returns : goal.returns
returns c rowid =
    let at = λ (other : ℤ). is_eq (int_cmp rowid other) in
    c.in_ok-put_rowids-2.ensures rowid
    ∙ ap (λ t. list_any at c.args.made.now || t) (c.in_ok-put_rowids.ensures rowid ∙ ap (λ ks. list_any at c.args.met.now || list_any at ks) c.new-set.ensures.empty ∙ or-false (list_any at c.args.met.now))
