-- A file of values has their rows in its second page.
use Rattle.std.proofs.Common.{◌≡◌, ℕ, pos, ◌+◌, ◌-◌, ◌*◌, ◌<◌, ◌≤◌, ◌^◌, List, [], ◌∷◌, ◌++◌, length, take, drop, replicate, Option, Some, None, IsTrue, Bool, ◌↔◌, unwrap_or, refl, sym, ap, ap₂, ◌∙◌, subst, arith, length-append}
use Rattle.std.proofs.lemmas.List.{length-replicate, drop_at}
use Rattle.std.specs.List.{AllByRecursion, flat_map, sum_by}
use Rattle.std.proofs.lemmas.List.Sums.{sum_by-cons}
use Rattle.byteorder.specs.Endian.{big_bytes}
use Rattle.common_spec.specs.Reading.{Reads, OrNone}
use Rattle.rbu_value.specs.declared.value.Value.{Value}
use Rattle.rbu_value.specs.declared.value.Value.TheVariants.{Null, Int, Text, Blob}
use Rattle.format_spec.specs.Cell.{table_leaf_cell}
use Rattle.format_spec.specs.Record.{body, canonical_record}
use Rattle.format_spec.specs.Varint.{varint, varint_front}
use Rattle.format_spec.specs.Page.{packed_header, packed_leaf, places_below, stacked}
use Rattle.record_codec.specs.Records.{IsStored}
use Rattle.state_file.specs.declared.state.KeyValues.{KeyValues}
use Rattle.state_file.specs.Lent.{IsInRange}
use Rattle.state_file.specs.State.{values_by_key, eight_values, if_any}
use Rattle.state_file.specs.StateFile.{new_header, packed_behind, schema_cell, first_page, row_cell, rows_from, next_key, leaf_room, state_file}
use Rattle.state_file.specs.Reading.{HasRows}
use Rattle.state_file.specs.Keys.{IsSpelled}
use Rattle.state_file.proofs.RowCells.{body-within}
use Rattle.state_file.proofs.RowsRead.{length-array, length-stacked, packed_leaf-length}
use Rattle.state_file.proofs.StatesRead.{keyed-same}

length-packed_behind : (front : List ℕ) (size : ℕ) (cells : List (List ℕ)) → length front + 8 + 2 * length cells + sum_by length cells ≤ size → length (packed_behind front size cells) ≡ size
unfolding packed_behind
length-packed_behind front size cells room =
    let array : List ℕ = flat_map (big_bytes 2) (places_below size cells) in
    let zeros : List ℕ = replicate (size - (length front + 8 + 2 * length cells + sum_by length cells)) 0 in
    omega (
      arith,
      length-append (front ++ (packed_header size cells ++ array)) (zeros ++ stacked cells),
      length-append front (packed_header size cells ++ array),
      length-append (packed_header size cells) array,
      length-append zeros (stacked cells),
      length-array size cells,
      length-stacked cells,
      length-replicate {A = ℕ} (size - (length front + 8 + 2 * length cells + sum_by length cells)) 0,
      room,
    )

schema_cell-length : length schema_cell ≡ 80
unfolding table_leaf_cell canonical_record varint varint_front
schema_cell-length = refl

first_page-length : length (first_page 4096) ≡ 4096
first_page-length = length-packed_behind (new_header 2) 4096 (schema_cell ∷ []) (omega (arith, schema_cell-length))

-- the pages of a file of values
pub file-length : (values : List Value) → leaf_room (rows_from 1 values) ≤ 4096 → length (state_file values) ≡ 8192
file-length values room = omega (arith, length-append (first_page 4096) (packed_leaf 4096 (rows_from 1 values)), first_page-length, packed_leaf-length 4096 (rows_from 1 values) room)

file-second : (values : List Value) → drop 4096 (state_file values) ≡ packed_leaf 4096 (rows_from 1 values)
file-second values = drop_at (first_page 4096) (packed_leaf 4096 (rows_from 1 values)) 4096 first_page-length

any-few : (value : Option Value) → length (if_any value) ≤ 1
any-few None = omega arith
any-few (Some value) = omega arith

pub values-few : (values : KeyValues) → length (values_by_key values) ≤ 9
values-few values = omega (arith, length-append (eight_values values) (if_any values.batch), any-few values.batch)

pub spelled-rows : (bytes : List ℕ) (values : KeyValues) → IsSpelled bytes values → HasRows (drop 4096 bytes) (values_by_key values)
spelled-rows bytes values spelled = record {
  few = values-few values;
  stored = spelled.stored;
  room = spelled.room;
  is = ap (drop 4096) spelled.is ∙ file-second (values_by_key values);
}

pub spelled-length : (bytes : List ℕ) (values : KeyValues) → IsSpelled bytes values → length bytes ≡ 8192
spelled-length bytes values spelled = ap length spelled.is ∙ file-length (values_by_key values) spelled.room

-- values of 64 bits that fit the page can be stored
value-stored : (value : Value) → IsInRange value → length (body 4 value) ≤ 4096 → IsStored value
value-stored Null range short = tt
value-stored (Int z) range short = range
value-stored (Text bytes) range short = omega arith
value-stored (Blob bytes) range short = omega arith

pub values-stored : (key : ℕ) (values : List Value) → AllByRecursion IsInRange values → sum_by length (rows_from key values) ≤ 4096 → AllByRecursion IsStored values
values-stored key [] range room = tt
values-stored key (value ∷ values) range room =
    let rows = sum_by-cons length (row_cell key value) (rows_from (next_key key) values) in (
      value-stored value range.0 (omega (arith, body-within key value, rows)),
      values-stored (next_key key) values range.1 (omega (arith, rows)),
    )

any-one : (a b : Option Value) → if_any a ≡ if_any b → a ≡ b
any-one None None e = refl
any-one None (Some y) e = absurd (cc)
any-one (Some x) None e = absurd (cc)
any-one (Some x) (Some y) e = let same : x ≡ y = cc in ap Some same

head_or : Value → List Value → Value
head_or d [] = d
head_or d (x ∷ xs) = x

-- keyed values are one where their lists are
pub keyed-one : (a b : KeyValues) → values_by_key a ≡ values_by_key b → a ≡ b
unfolding head_or
keyed-one a b e =
    let at = λ (k : ℕ). ap (λ (vs : List Value). head_or Null (drop k vs)) e in
    keyed-same a b (at 0) (at 1) (at 2) (at 3) (at 4) (at 5) (at 6) (at 7) (any-one a.batch b.batch (ap (drop 8) e))

-- nothing is spelled, or these values alone
pub Reads-none : (bytes : List ℕ) → ((values : KeyValues) → ¬ IsSpelled bytes values) → Reads (OrNone (IsSpelled bytes)) None
Reads-none bytes none = record { holds = none; only = only }
  where
    only : (other : Option KeyValues) → OrNone (IsSpelled bytes) other → None ≡ other
    only (Some values) spelled = absurd (none values spelled)
    only None also = refl

pub Reads-some : (bytes : List ℕ) (values : KeyValues) → IsSpelled bytes values → ((other : KeyValues) → IsSpelled bytes other → values ≡ other) → Reads (OrNone (IsSpelled bytes)) (Some values)
Reads-some bytes values spelled one = record { holds = spelled; only = only }
  where
    only : (other : Option KeyValues) → OrNone (IsSpelled bytes) other → Some values ≡ other
    only (Some other) has = ap Some (one other has)
    only None none = absurd (none values spelled)

-- what is written of these values, and is these bytes, is their spelling
pub spelled-by : (bytes : List ℕ) (values : KeyValues) (list : List Value) (r : Bool) → list ≡ values_by_key values → AllByRecursion IsInRange (values_by_key values)
    → IsTrue r ↔ ((leaf_room (rows_from 1 list) ≤ 4096) × (bytes ≡ state_file list)) → IsTrue r ↔ IsSpelled bytes values
spelled-by bytes values list r same range is = (
  λ t.
      let room : leaf_room (rows_from 1 (values_by_key values)) ≤ 4096 = subst (λ (vs : List Value). leaf_room (rows_from 1 vs) ≤ 4096) same (is.0 t).0 in
      record {
        stored = values-stored 1 (values_by_key values) range (omega (arith, room));
        room = room;
        is = (is.0 t).1 ∙ ap state_file same;
      },
  λ spelled. is.1 (subst (λ (vs : List Value). leaf_room (rows_from 1 vs) ≤ 4096) (sym same) spelled.room, spelled.is ∙ ap state_file (sym same)),
)

-- key 10 stands, or does not
pub nine-values : (values : KeyValues) (batch : Value) → values.batch ≡ Some batch → eight_values values ++ unwrap_or values.batch Null ∷ [] ≡ values_by_key values
nine-values values batch e = ap (λ (b : Option Value). eight_values values ++ unwrap_or b Null ∷ []) e ∙ ap (λ (b : Option Value). eight_values values ++ if_any b) (sym e)

pub eight-alone : (values : KeyValues) → values.batch ≡ None → take 8 (eight_values values ++ unwrap_or values.batch Null ∷ []) ≡ values_by_key values
eight-alone values e = ap (λ (b : Option Value). eight_values values ++ if_any b) (sym e)
