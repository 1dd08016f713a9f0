use Rattle.std.proofs.Common.{sym, ◌∙◌}
use Rattle.schema_read.proofs.FirstPlaces.{note-kept, note-new}
use Rattle.schema_read.proofs.firsts.note.Goals as goal

pub returns-then-contains_key : goal.returns-then-contains_key
returns-then-contains_key g c = note-kept g.K.PartialEq.eq g.met.K.Eq.laws c.args.firsts.now c.args.key c.args.at (sym c.contains_key.ensures ∙ c.if-contains_key.true)

pub returns : goal.returns
returns g c = note-new g.K.PartialEq.eq g.met.K.Eq.laws c.args.firsts.now c.args.key c.args.at c.insert.new.self (sym c.contains_key.ensures ∙ c.if-contains_key.false) c.in_ok-insert.ensures.updates.0
