use Rattle.std.proofs.Common.{◌≡◌, ℕ, ◌+◌, ◌*◌, ◌≤◌, List, [], ◌∷◌, ◌++◌, length, map, drop, replicate, get_or, refl, sym, ap, ◌∙◌, subst, arith, rules}
use Rattle.std.proofs.lemmas.List.{drop_more, drop_all}
use Rattle.byteorder.specs.Endian.{big_bytes}
use Rattle.byte_fields.specs.Numbers.{with_number_at}
use Rattle.state_file.specs.declared.lent.Lent.{Lent}
use Rattle.state_file.specs.declared.lent.Lent.TheVariants.{Null}
use Rattle.state_file.specs.Lent.{value_of}
use Rattle.state_file.specs.StateFile.{row_cell, rows_from, next_key}
use Rattle.state_file.proofs.RowCells.{next_key-most}
use Rattle.state_file.proofs.Filling.{IsFilling, IsFilling-none, IsFilling-next, IsFilling-all}
use Rattle.state_file.proofs.rows.write_rows.Goals as goal

pub loop-index-init : goal.loop-index-init
loop-index-init c =
    let zeros : c.fill.new.self ≡ replicate (length c.args.page.now) 0 = c.fill.ensures.after (search rules) in
    record {
      filling = rw c.fill.ensures.len (IsFilling-none _ (length c.args.page.now) c.fill.new.self c.requires.room zeros);
      key = omega arith;
      long = c.fill.ensures.len;
    }

pub loop-index-preserved : goal.loop-index-preserved
loop-index-preserved c =
    let values = c.args.values.now in
    let index = c.loop-index.index in
    let all : List (List ℕ) = rows_from 1 (map value_of values) in
    let value = get_or values index Null in
    let rest : List Lent → List (List ℕ) = λ vs. rows_from c.loop-index.key (map value_of vs) in
    let before : IsFilling all (row_cell c.loop-index.key (value_of value) ∷ rows_from (next_key c.loop-index.key) (map value_of (drop (index + 1) values))) (length c.args.page.now) c.loop-index.page index c.loop-index.place =
    subst (λ (vs : List Lent). IsFilling all (rest vs) (length c.args.page.now) c.loop-index.page index c.loop-index.place) (drop_more values index Null c.loop-index-test.true) c.loop-index.invariant.filling in
    let next : IsFilling all (rows_from (next_key c.loop-index.key) (map value_of (drop (index + 1) values))) (length c.args.page.now) (with_number_at (8 + 2 * index) 2 c.put_row-place.result c.put_row-place.new.page) (index + 1) c.put_row-place.result =
    IsFilling-next before c.put_row-place.ensures in
    record {
      filling = rw (c.next_key-key.ensures, c.put_u16.ensures) next;
      key = omega (arith, c.next_key-key.ensures, next_key-most c.loop-index.key, c.loop-index.invariant.key);
      long = c.put_u16.auto.bytes ∙ c.put_row-place.auto.page ∙ c.loop-index.invariant.long;
    }

pub returns : goal.returns
returns c =
    let values = c.args.values.now in
    let index = c.loop-index.index in
    let all : List (List ℕ) = rows_from 1 (map value_of values) in
    let rest : List Lent → List (List ℕ) = λ vs. rows_from c.loop-index.key (map value_of vs) in
    let done : index ≡ length values = omega arith in
    let filled : IsFilling all [] (length c.args.page.now) c.loop-index.page index c.loop-index.place =
    subst (λ (vs : List Lent). IsFilling all (rest vs) (length c.args.page.now) c.loop-index.page index c.loop-index.place) (drop_all index values (omega arith)) c.loop-index.invariant.filling in
    c.put_header.ensures
    ∙ ap (λ (n : ℕ). (13 ∷ (big_bytes 2 0 ++ (big_bytes 2 n ++ (big_bytes 2 c.loop-index.place ++ 0 ∷ [])))) ++ drop 8 c.loop-index.page) (sym done)
    ∙ IsFilling-all filled
