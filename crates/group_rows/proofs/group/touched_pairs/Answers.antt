use Rattle.std.proofs.Common.{◌∙◌, ◌||◌, ℤ, List, ap₂}
use Rattle.std.specs.List.{list_any}
use Rattle.std.specs.Ordering.{int_cmp, is_eq}
use Rattle.group_rows.proofs.group.touched_pairs.Goals as goal

pub returns-clause-pairs : goal.returns-clause-pairs
returns-clause-pairs c table run stands = record {
  rowids = c.in_ok-rowids.rowids.keys;
  behind = c.in_ok-behind.behind.items;
  rise = c.in_ok-pairs.ensures.rise;
  all = λ rowid.
      let at = λ (other : ℤ). is_eq (int_cmp rowid other) in
      c.in_ok-rowids.ensures rowid ∙ ap₂ (λ (s t : List ℤ). list_any at s || list_any at t) (c.as_slice-2.ensures.value ∙ stands.were_made) (c.as_slice.ensures.value ∙ stands.were_met);
  same = c.in_ok-behind.ensures table run.rows stands.kept;
  are = c.in_ok-pairs.ensures.are;
}
