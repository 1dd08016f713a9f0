use Rattle.std.proofs.Common.{◌≡◌, rules, sym, ◌∙◌, FitsSigned, subst, Some}
use Rattle.std.proofs.lemmas.Int.{to_z-of_z}
use Rattle.std.proofs.lemmas.Option.{MatchOption-at_some, MatchOption-at_none}
use Rattle.std.specs.Int.{w64, cast_signed, cast_unsigned}
use Rattle.common_spec.specs.Reading.{Reads, OrNone}
use Rattle.format_spec.specs.Record.{canonical_record}
use Rattle.small_spec.specs.SmallFile.{IsNullOrText, IsPreparedRow}
use Rattle.small_file.specs.Pages.{cell_of}
use Rattle.small_file.specs.Records.{prepared_values}
use Rattle.small_file.proofs.Readings.{Reads-none}
use Rattle.small_file.proofs.CellRows.{prepared_row-whole, prepared_row-record, prepared_row-reads}
use Rattle.small_file.proofs.rbu.PreparedRowSmallRow.read.Goals as goal

pub returns-in_default : goal.returns-in_default
returns-in_default c =
    let page = c.args.page.now in
    let cell = c.args.cell.now in
    Reads-none (IsPreparedRow (cell_of page cell)) (λ row is. c.in_default.ensures.none (prepared_row-whole page cell c.requires.placed row is))

pub returns-in_default-2 : goal.returns-in_default-2
returns-in_default-2 c =
    let page = c.args.page.now in
    let cell = c.args.cell.now in
    Reads-none (IsPreparedRow (cell_of page cell)) (λ row is.
    MatchOption-at_none _ _ c.in_default-2.is
    (c.in_ok-key.ensures.only row.key row.value is.2 is.0 (c.in-Some.ensures.bytes ∙ prepared_row-record page cell c.requires.placed row is)))

pub returns : goal.returns
returns c =
    let page = c.args.page.now in
    let cell = c.args.cell.now in
    let payload = c.in-Some.bytes.now in
    let key = c.in-Some-2.key in
    let value = c.in-Some-2.value in
    let key_fits : FitsSigned w64 key = search rules in
    let rowid_fits : FitsSigned w64 cell.view.rowid = search rules in
    let found : IsNullOrText value × (payload ≡ canonical_record 4 (prepared_values key value)) =
    MatchOption-at_some _ (λ row. IsNullOrText row.1 × (payload ≡ canonical_record 4 (prepared_values row.0 row.1))) (key, value) c.in-Some-2.is c.in_ok-key.ensures.found in
    subst (λ k. Reads (OrNone (IsPreparedRow (cell_of page cell))) (Some (record { data_rowid = cast_signed w64 (cast_unsigned w64 cell.view.rowid); key = k; value = value })))
    (sym (to_z-of_z w64 key key_fits))
    (prepared_row-reads page cell c.requires.placed (cast_signed w64 (cast_unsigned w64 cell.view.rowid)) key value (to_z-of_z w64 cell.view.rowid rowid_fits)
    c.in-Some.ensures.whole key_fits found.0 (sym c.in-Some.ensures.bytes ∙ found.1)
    (λ k w f p e. MatchOption-at_some _ (λ row. (row.0 ≡ k) × (row.1 ≡ w)) (key, value) c.in-Some-2.is (c.in_ok-key.ensures.only k w f p (c.in-Some.ensures.bytes ∙ e))))
