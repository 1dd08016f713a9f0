use Rattle.std.proofs.Common.{◌≡◌, sym, ◌∙◌, ap}
use Rattle.std.proofs.lemmas.Option.{MatchOption-at_some, MatchOption-at_none}
use Rattle.format_spec.specs.Record.{canonical_record}
use Rattle.small_file.specs.Records.{target_values}
use Rattle.small_file.proofs.Records.{target_values-have_record}
use Rattle.small_file.proofs.record.is_target_record.Goals as goal

pub returns-in-Some : goal.returns-in-Some
returns-in-Some c =
    let payload = c.args.payload.now in
    let values = c.in-Some.values in
    let found : payload ≡ canonical_record 4 values.items = MatchOption-at_some _ (λ v. payload ≡ canonical_record 4 v.items) values c.in-Some.is c.in_ok-values.ensures.found in (
      λ t. let w = c.are_target_values.ensures.0 t in (w.0, w.1, found ∙ ap (canonical_record 4) (sym c.as_slice.ensures.value ∙ w.2)),
      λ w.
          let read = c.in_ok-values.ensures.only (target_values w.0) (target_values-have_record payload w.0 c.requires w.1 w.2) w.2 in
          c.are_target_values.ensures.1 (w.0, w.1, c.as_slice.ensures.value ∙ MatchOption-at_some _ (λ v. v.items ≡ target_values w.0) values c.in-Some.is read),
    )

pub returns-in-None : goal.returns-in-None
returns-in-None c = (
  λ t. absurd (cc),
  λ w. absurd (MatchOption-at_none _ _ c.in-None.is (c.in_ok-values.ensures.only (target_values w.0) (target_values-have_record c.args.payload.now w.0 c.requires w.1 w.2) w.2)),
)
