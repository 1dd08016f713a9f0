use Rattle.std.proofs.Common.{◌≡◌, ℕ, ◌+◌, ◌*◌, ◌≤◌, ◌<◌, List, [], ◌∷◌, length, map, drop, get_or, refl, sym, ap, ◌∙◌, subst, arith}
use Rattle.std.proofs.lemmas.List.{drop_more, drop_all}
use Rattle.std.proofs.lemmas.List.Sums.{sum_by-cons}
use Rattle.std.specs.List.{sum_by}
use Rattle.state_file.specs.declared.lent.Lent.{Lent}
use Rattle.state_file.specs.declared.lent.Lent.TheVariants.{Null}
use Rattle.state_file.specs.Lent.{value_of}
use Rattle.state_file.specs.StateFile.{row_cell, rows_from, next_key, leaf_room}
use Rattle.state_file.proofs.RowCells.{body-within, next_key-most}
use Rattle.state_file.proofs.sizes.fits.Goals as goal

-- what the rows under the keys from one on take
taken : List (List ℕ) → ℕ
taken cells = 2 * length cells + sum_by length cells

taken-next : (values : List Lent) (index key : ℕ) → index < length values
    → 2 * length (rows_from key (map value_of (drop index values))) + sum_by length (rows_from key (map value_of (drop index values)))
    ≡ 2 + length (row_cell key (value_of (get_or values index Null))) + (2 * length (rows_from (next_key key) (map value_of (drop (index + 1) values))) + sum_by length (rows_from (next_key key) (map value_of (drop (index + 1) values))))
unfolding taken
taken-next values index key within =
    let rows = rows_from (next_key key) (map value_of (drop (index + 1) values)) in
    let cell = row_cell key (value_of (get_or values index Null)) in
    ap (λ (vs : List Lent). taken (rows_from key (map value_of vs))) (drop_more values index Null within) ∙ omega (arith, sum_by-cons length cell rows)

pub returns-then-body_length-gt4096 : goal.returns-then-body_length-gt4096
returns-then-body_length-gt4096 c =
    let next = taken-next c.args.values.now c.loop-value.value-index c.loop-value.key c.loop-value-test.true in (
      λ t. absurd (cc),
      λ h. absurd (omega (arith, h, next, c.loop-value.invariant.room, body-within c.loop-value.key (value_of (get_or c.args.values.now c.loop-value.value-index Null)), c.body_length.ensures, c.if-body_length-gt4096.true)),
    )

pub returns-then-room-gt4096 : goal.returns-then-room-gt4096
returns-then-room-gt4096 c =
    let next = taken-next c.args.values.now c.loop-value.value-index c.loop-value.key c.loop-value-test.true in (
      λ t. absurd (cc),
      λ h. absurd (omega (arith, h, next, c.loop-value.invariant.room, c.row_length.ensures.value, c.if-room-gt4096.true)),
    )

pub loop-value-preserved : goal.loop-value-preserved
loop-value-preserved c =
    let next = taken-next c.args.values.now c.loop-value.value-index c.loop-value.key c.loop-value-test.true in
    record {
      room = rw c.next_key-key.ensures (omega (arith, next, c.loop-value.invariant.room, c.row_length.ensures.value));
      most = omega arith;
      key = omega (arith, c.next_key-key.ensures, next_key-most c.loop-value.key, c.loop-value.invariant.key);
    }

pub returns : goal.returns
returns c =
    let none : drop c.loop-value.value-index c.args.values.now ≡ [] = drop_all c.loop-value.value-index c.args.values.now (omega arith) in
    let all = ap (λ (vs : List Lent). 2 * length (rows_from c.loop-value.key (map value_of vs)) + sum_by length (rows_from c.loop-value.key (map value_of vs))) none in (
      λ t. omega (arith, all, c.loop-value.invariant.room, c.loop-value.invariant.most),
      λ h. refl,
    )
