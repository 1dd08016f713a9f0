use Rattle.std.proofs.Common.{◌∙◌, ◌++◌, ◌∷◌, ◌-◌, [], not, length, map, take, drop, sym, ap, subst, arith}
use Rattle.std.proofs.lemmas.List.{append-nil, map-append}
use Rattle.std.specs.Prelude.{filter}
use Rattle.group_rows.specs.KeyedRows.{Holds, of_key}
use Rattle.group_rows.specs.Runs.{dues_of, left_of, seen, seen_due}
use Rattle.group_rows.proofs.Lists.{none-left, uncons}
use Rattle.group_rows.proofs.Steps.{found-more, left-more}
use Rattle.group_rows.proofs.progress.find_dues.Goals as goal

pub loop-left-preserved : goal.loop-left-preserved
loop-left-preserved c = λ all holds.
    let at = c.loop-left.invariant all holds in
    let table = c.args.table.now in
    let left = c.loop-left.left.now in
    let keyed = c.keyed-item.result in
    let rest = take (length left - 1) (drop 1 left) in
    let split = ap (map seen) (uncons left keyed c.in-len1-up.len_at_least c.keyed-item.is) in (
      filter (λ row. not (of_key table (seen keyed).0 row)) at.0,
      c.take-found.ensures.left table at.0 at.1,
      found-more table at.0 (map seen_due c.loop-left.dues.items) _ (map seen left) (map seen rest) (seen keyed) (dues_of table all (map seen c.args.ordered.now)) split
          (ap (map seen_due) c.in_ok-push.ensures.items ∙ map-append seen_due c.loop-left.dues.items _ ∙ ap (λ f. map seen_due c.loop-left.dues.items ++ (f, (seen keyed).1) ∷ []) (c.take-found.ensures.taken table at.0 at.1)) at.2,
      left-more table at.0 (map seen left) (map seen rest) (seen keyed) (left_of table all (map seen c.args.ordered.now)) split at.3,
    )

pub returns : goal.returns
returns c all holds =
    let at = c.loop-left.invariant all holds in
    let table = c.args.table.now in
    let none = none-left c.loop-left.left.now (omega (arith, c.in_default.len_below)) in (
      sym (append-nil (map seen_due c.loop-left.dues.items)) ∙ ap (λ l. map seen_due c.loop-left.dues.items ++ dues_of table at.0 (map seen l)) (sym none) ∙ at.2,
      subst (Holds table c.loop-left.rows) (ap (λ l. left_of table at.0 (map seen l)) (sym none) ∙ at.3) at.1,
    )
