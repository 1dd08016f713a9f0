use Rattle.std.proofs.Common.{◌∙◌, ◌++◌, sym, ap}
use Rattle.std.proofs.lemmas.List.{append_assoc, append-nil}
use Rattle.std.proofs.lemmas.Map.Iter.{rest_all, rest_more}
use Rattle.std.specs.Prelude.{flat_map}
use Rattle.group_rows.proofs.Collecting.{gathered, rows_of}
use Rattle.group_rows.proofs.keyed.KeyedRows.into_rows.Goals as goal

pub loop-entry-preserved : goal.loop-entry-preserved
loop-entry-preserved c =
    let entry = c.in-Some.entry in
    let rest = c.next.new.self in
    let all = c.loop-entry.all.items in
    let split = rest_more (λ x. x) c.loop-entry.entry-iterator rest c.next.result entry c.in-Some.is c.next.ensures.steps in
    ap (λ l. l ++ flat_map rows_of rest) c.in_ok-append_rows.ensures ∙ append_assoc all entry.1.items (flat_map rows_of rest) ∙ ap (λ es. all ++ flat_map rows_of es) (sym split) ∙ c.loop-entry.invariant

pub returns : goal.returns
returns c table rows holds row =
    let all = c.loop-entry.all.items in
    let none = rest_all (λ x. x) c.loop-entry.entry-iterator c.next.new.self c.next.result c.in-None.is c.next.ensures.steps in
    gathered table c.args.self.by_key.entries c.args.self.keyless.items rows c.into_iter-entry-iterator.ensures.into_iter_gives.5 holds.of_keys holds.of_none all
    (sym (append-nil all) ∙ ap (λ es. all ++ flat_map rows_of es) (sym none) ∙ c.loop-entry.invariant) row
