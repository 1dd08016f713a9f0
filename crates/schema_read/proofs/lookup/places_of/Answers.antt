use Rattle.std.proofs.Common.{length, take, drop, ◌-◌, ◌∙◌, ◌≤◌, arith}
use Rattle.schema_spec.specs.Words.{same_name}
use Rattle.schema_read.specs.Lookups.{is_entry_named}
use Rattle.schema_read.proofs.FirstPlaces.{firsts-start, firsts-next, firsts-end}
use Rattle.schema_read.proofs.MemberLists.{gone-on, none-left, uncons}
use Rattle.schema_read.proofs.Naming.{note-named}
use Rattle.schema_read.proofs.lookup.places_of.Goals as goal

pub loop-left-init : goal.loop-left-init
loop-left-init c =
    let new = c.new-places in
    (omega arith, firsts-start same_name is_entry_named new.result new.ensures.empty c.args.tables.now)

pub loop-left-preserved : goal.loop-left-preserved
loop-left-preserved c =
    let left = c.loop-left.left.now in
    let named = c.named-item.result in
    let some : 1 ≤ length left = omega (arith, c.in-len1-up.len_at_least) in (
      gone-on c.loop-left.at left c.args.tables.now some c.loop-left.invariant.0,
      firsts-next same_name is_entry_named c.loop-left.places c.note.new.firsts c.loop-left.at named (take (length left - 1) (drop 1 left)) left c.args.tables.now
          (uncons left named some c.named-item.is) (note-named c.loop-left.places c.note.new.firsts c.loop-left.at named c.in_ok-of.field-0 (c.in_ok-of.ensures ∙ c.as_slice.ensures) c.in_ok-note.ensures) c.loop-left.invariant.1,
    )

pub returns : goal.returns
returns c = firsts-end same_name is_entry_named c.loop-left.places c.loop-left.at c.loop-left.left.now c.args.tables.now (none-left c.loop-left.left.now c.in_default.len_below) c.loop-left.invariant.1
