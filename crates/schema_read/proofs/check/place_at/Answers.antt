use Rattle.std.proofs.Common.{◌≡◌, ◌∙◌, ap, sym, subst, List, slice_get, Some}
use Rattle.std.proofs.lemmas.Option.{slice_get-get_or}
use Rattle.schema_read.specs.declared.found.Found.{Found}
use Rattle.schema_read.proofs.Placing.{meant-at, none-placed, placed-answer}
use Rattle.schema_read.proofs.check.place_at.Goals as goal

pub returns-in-Some-real_meaning : goal.returns-in-Some-real_meaning
returns-in-Some-real_meaning c =
    let look = c.in-Some.ensures.lookup in
    let there : slice_get c.args.members.now c.args.at ≡ Some c.in-Some.table.now =
    subst (λ (l : List Found). slice_get l c.args.at ≡ Some c.in-Some.table.now) c.as_slice.ensures (slice_get-get_or c.as_slice.result.now c.args.at c.in-Some.table.now look.3.0 ∙ ap Some (sym look.1)) in
    placed-answer c.args.format c.args.members.now c.args.row.now c.args.at c.in-Some.table.now c.requires.stands there c.args.root c.in-Some-real_meaning.meaning.now c.requires.root
    (c.in-Some-real_meaning.ensures (meant-at c.args.members.now c.args.at c.in-Some.table.now there c.requires.meant)) c.place.result c.place.ensures

pub returns-in-None-real_meaning : goal.returns-in-None-real_meaning
returns-in-None-real_meaning c =
    let look = c.in-Some.ensures.lookup in
    let there : slice_get c.args.members.now c.args.at ≡ Some c.in-Some.table.now =
    subst (λ (l : List Found). slice_get l c.args.at ≡ Some c.in-Some.table.now) c.as_slice.ensures (slice_get-get_or c.as_slice.result.now c.args.at c.in-Some.table.now look.3.0 ∙ ap Some (sym look.1)) in
    none-placed c.args.format c.args.members.now c.args.row.now c.args.at c.in-Some.table.now c.requires.stands there (c.in-None-real_meaning.ensures (meant-at c.args.members.now c.args.at c.in-Some.table.now there c.requires.meant))
