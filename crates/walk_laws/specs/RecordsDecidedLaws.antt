-- Whether bytes are a record, and a table is plain, is decided: crates above cite these facts in their proofs.
use Rattle.std.proofs.Common.{◌≡◌, ℕ, zero, suc, ◌+◌, ◌-◌, ◌*◌, ◌<◌, ◌≤◌, ◌⊎◌, pos, List, [], ◌∷◌, ◌++◌, length, take, drop, Result, Ok, Err, refl, sym, ap, ◌∙◌, subst, inl, inr, arith, length-append}
use Rattle.std.proofs.Math.Path.{subst⁻¹}
use Rattle.std.proofs.lemmas.Bool.{cases_lt, cases_eq}
use Rattle.std.proofs.lemmas.List.{length-drop, length-take-le, nil_from_length, take-append-drop}
use Rattle.std.specs.List.{AllZip}
use Rattle.byteorder.specs.Endian.{big_number, twos_complement}
use Rattle.rbu_value.specs.declared.value.Value.{Value}
use Rattle.rbu_value.specs.declared.value.Value.TheVariants.{Null, Int, Text, Blob}
use Rattle.format_spec.specs.Varint.{IsVarint}
use Rattle.format_spec.specs.Record.{int_size, IsField, AreFields, IsRecord}
use Rattle.cell_codec.specs.VarintLaws.{spelling-one_to_nine, varint-same}
use Rattle.record_codec.specs.Faults.{body_size}
use Rattle.record_codec.specs.RecordLaws.{field-size, varint-not_empty}
use Rattle.refusal.specs.declared.Rule.{Rule}
use Rattle.schema_spec.specs.declared.schema.SqlFault.{SqlFault}
use Rattle.schema_spec.specs.declared.schema.Table.{Table}
use Rattle.tree_spec.specs.declared.TreeKind.TheVariants.{Table as TableTree}
use Rattle.tree_spec.specs.Standing.{Sizes, Paged}
use Rattle.tree_spec.specs.Trees.{Member}
use Rattle.database_spec.specs.declared.catalog.Entry.{Entry}
use Rattle.database_spec.specs.CatalogsLaws.{list-one, list-not_stop}
use Rattle.database_spec.specs.Rows.{TableRow, with_rowid, IsRow, IsPlain}
use Rattle.database_spec.specs.RowsLaws.{record-one}
use Rattle.database_spec.specs.Walks.{IsList, StopsAt}
use Rattle.walk_laws.specs.CellsDecidedLaws.{Decided, SomeBelow, IsSpelling, back_of, below-decided, decided-by, front_of, spelling-decided, spelling-one}
use Rattle.walk_laws.specs.WalksMadeLaws.{list_or_stop}

both-decided : {P Q : Type 0} → Decided P → Decided Q → Decided (P × Q)
both-decided (inl p) (inl q) = inl (p, q)
both-decided (inl p) (inr q) = inr (λ b. q b.1)
both-decided (inr p) q = inr (λ b. p b.0)

one-decided : {P Q : Type 0} → Decided P → Decided Q → Decided (P ⊎ Q)
one-decided (inl p) q = inl (inl p)
one-decided (inr p) (inl q) = inl (inr q)
one-decided (inr p) (inr q) = inr (λ o. elim o [ inl a ↦ p a | inr b ↦ q b ])

le-decided : (a b : ℕ) → Decided (a ≤ b)
le-decided a b = elim (cases_lt b a) [ inl more ↦ inr (λ less. omega (arith, more, less)) | inr less ↦ inl less ]

-- Fields.

-- what a serial type and bytes stand for, by numbers alone
abbrev IsSomeField : ℕ → List ℕ → Type 0
IsSomeField type bytes =
    ((type ≡ 0) × (length bytes ≡ 0))
    ⊎ (((1 ≤ type) × ((type ≤ 6) × (length bytes ≡ int_size type)))
    ⊎ (((8 ≤ type) × ((type ≤ 9) × (length bytes ≡ 0)))
    ⊎ ((type ≡ 2 * length bytes + 13)
    ⊎ (type ≡ 2 * length bytes + 12))))

some-field : (type : ℕ) (bytes : List ℕ) → IsSomeField type bytes → (value : Value) × IsField type bytes value
some-field type bytes (inl null) = (Null, (null.0, nil_from_length bytes null.1))
some-field type bytes (inr (inl int)) = (Int (twos_complement (int_size type) (big_number (int_size type) bytes)), inl (int.0, int.1.0, int.1.1, refl))
some-field type bytes (inr (inr (inl small))) = (Int (pos (type - 8)), inr (small.0, small.1.0, nil_from_length bytes small.1.1, refl))
some-field type bytes (inr (inr (inr (inl text)))) = (Text bytes, (text, refl))
some-field type bytes (inr (inr (inr (inr blob)))) = (Blob bytes, (blob, refl))

field-some : (type : ℕ) (bytes : List ℕ) (value : Value) → IsField type bytes value → IsSomeField type bytes
field-some type bytes Null is = inl (is.0, ap length is.1)
field-some type bytes (Int z) (inl is) = inr (inl (is.0, (is.1, is.2)))
field-some type bytes (Int z) (inr is) = inr (inr (inl (is.0, (is.1, ap length is.2))))
field-some type bytes (Text text) is = inr (inr (inr (inl (omega (arith, is.0, ap length is.1)))))
field-some type bytes (Blob blob) is = inr (inr (inr (inr (omega (arith, is.0, ap length is.1)))))

field-decided : (type : ℕ) (bytes : List ℕ) → Decided ((value : Value) × IsField type bytes value)
field-decided type bytes =
    decided-by (some-field type bytes) (λ f. field-some type bytes f.0 f.1)
    (one-decided (both-decided (cases_eq type 0) (cases_eq (length bytes) 0))
    (one-decided (both-decided (le-decided 1 type) (both-decided (le-decided type 6) (cases_eq (length bytes) (int_size type))))
    (one-decided (both-decided (le-decided 8 type) (both-decided (le-decided type 9) (cases_eq (length bytes) 0)))
    (one-decided (cases_eq type (2 * length bytes + 13)) (cases_eq type (2 * length bytes + 12))))))

-- serial types and bodies stand for values
abbrev HasFields : List ℕ → List ℕ → Type 0
HasFields types bodies = (values : List Value) × AreFields types bodies values

fields-none : (bodies : List ℕ) → Decided (HasFields [] bodies)
fields-none [] = inl ([], (refl, refl))
fields-none (b ∷ bodies) = inr none
  where
    none : HasFields [] (b ∷ bodies) → ⊥
    none ([], are) = omega (arith, ap length are.1)
    none (value ∷ values, are) = varint-not_empty [] are.1 are.3 are.0 are.5 are.6 refl

-- behind a serial type that is read of the first n bytes
module _ (types bodies : List ℕ) (n type : ℕ) (low : n ≤ length types) (v : IsVarint (take n types) type) where
  -- the first field, and the others
  record IsFieldsCut (value : Value) (values : List Value) : Type 0 where
    long : body_size type ≤ length bodies
    field : IsField type (take (body_size type) bodies) value
    fields : AreFields (drop n types) (drop (body_size type) bodies) values

  fields-cut : (value : Value) (values : List Value) → AreFields types bodies (value ∷ values) → IsFieldsCut value values
  fields-cut value values (other, spelling, bytes, other_types, other_bodies, w, types_are, bodies_are, field, fields) =
      let same = varint-same (drop n types) other_types v w (take-append-drop n types ∙ types_are) in
      let kind : other ≡ type = sym same.1 in
      let size : length bytes ≡ body_size type = field-size other bytes value field ∙ ap body_size kind in
      let first : take (body_size type) bodies ≡ bytes = ap (λ (k : ℕ). take k bodies) (sym size) ∙ front_of bytes other_bodies bodies bodies_are in
      let rest : drop (body_size type) bodies ≡ other_bodies = ap (λ (k : ℕ). drop k bodies) (sym size) ∙ back_of bytes other_bodies bodies bodies_are in
      let many : length spelling ≡ n = sym (ap length same.0) ∙ length-take-le n types low in
      let later : drop n types ≡ other_types = ap (λ (k : ℕ). drop k types) (sym many) ∙ back_of spelling other_types types types_are in
      record {
        long = omega (arith, ap length bodies_are, length-append bytes other_bodies, size);
        field = subst⁻¹ (λ (b : List ℕ). IsField type b value) first (subst (λ (t : ℕ). IsField t bytes value) kind field);
        fields = subst⁻¹ (λ (t : List ℕ). AreFields t (drop (body_size type) bodies) values) later (subst⁻¹ (λ (b : List ℕ). AreFields other_types b values) rest fields);
      }

  has-cut : 0 < length types → HasFields types bodies → (value : Value) × (values : List Value) × IsFieldsCut value values
  has-cut some ([], are) = absurd (omega (arith, some, ap length are.0))
  has-cut some (value ∷ values, are) = (value, values, fields-cut value values are)

  cut-decided : 0 < length types → Decided (body_size type ≤ length bodies) → Decided ((value : Value) × IsField type (take (body_size type) bodies) value)
      → Decided (HasFields (drop n types) (drop (body_size type) bodies)) → Decided (HasFields types bodies)
  cut-decided some (inl long) (inl field) (inl fields) =
      inl (
        field.0 ∷ fields.0,
        (
          type,
          take n types,
          take (body_size type) bodies,
          drop n types,
          drop (body_size type) bodies,
          v,
          sym (take-append-drop n types),
          sym (take-append-drop (body_size type) bodies),
          field.1,
          fields.1,
        ),
      )
  cut-decided some (inr short) field fields = inr (λ has. short (has-cut some has).2.long)
  cut-decided some (inl long) (inr none) fields = inr (λ has. let cut = has-cut some has in none (cut.0, cut.2.field))
  cut-decided some (inl long) (inl field) (inr none) = inr (λ has. let cut = has-cut some has in none (cut.1, cut.2.fields))

-- a spelling has a byte
spelled-some : (types : List ℕ) (n type : ℕ) → IsVarint (take n types) type → 1 ≤ n
spelled-some types zero type v = omega (arith, spelling-one_to_nine [] type v)
spelled-some types (suc n) type v = omega arith

-- serial types begin with a spelling
spelled-first : (types bodies : List ℕ) → 0 < length types → HasFields types bodies → SomeBelow (λ n. IsSpelling (take n types)) (length types + 1)
spelled-first types bodies some ([], are) = absurd (omega (arith, some, ap length are.0))
spelled-first types bodies some (value ∷ values, are) = record {
  at = length are.1;
  low = omega (arith, ap length are.6, length-append are.1 are.3);
  is = (are.0, subst⁻¹ (λ (s : List ℕ). IsVarint s are.0) (front_of are.1 are.3 types are.6) are.5);
}

fields-decided : (fuel : ℕ) (types bodies : List ℕ) → length types ≤ fuel → Decided (HasFields types bodies)
fields-decided fuel [] bodies few = fields-none bodies
fields-decided zero (t ∷ types) bodies few = absurd (omega (arith, few))
fields-decided (suc fuel) (t ∷ types) bodies few = by (λ ts bs less. fields-decided fuel ts bs less) (below-decided (λ n. IsSpelling (take n (t ∷ types))) (λ n. spelling-decided (take n (t ∷ types))) (length (t ∷ types) + 1))
  where
    by : ((ts bs : List ℕ) → length ts ≤ fuel → Decided (HasFields ts bs)) → Decided (SomeBelow (λ n. IsSpelling (take n (t ∷ types))) (length (t ∷ types) + 1)) → Decided (HasFields (t ∷ types) bodies)
    by rest (inr none) = inr (λ has. none (spelled-first (t ∷ types) bodies (omega arith) has))
    by rest (inl found) =
        let n = found.at in
        let type = found.is.0 in
        let low : n ≤ length (t ∷ types) = omega (arith, found.low) in
        let one = spelled-some (t ∷ types) n type found.is.1 in
        cut-decided (t ∷ types) bodies n type low found.is.1 (omega arith) (le-decided (body_size type) (length bodies)) (field-decided type (take (body_size type) bodies))
        (rest (drop n (t ∷ types)) (drop (body_size type) bodies) (omega (arith, few, one, length-drop n (t ∷ types))))

-- Records.

-- the first i bytes are a record's size of its header
record IsRecordCut (bytes : List ℕ) (i : ℕ) : Type 0 where
  low : i ≤ length bytes
  size : ℕ
  is_size : IsVarint (take i bytes) size
  own : i ≤ size
  within : size ≤ length bytes
  fields : HasFields (take (size - i) (drop i bytes)) (drop (size - i) (drop i bytes))

record_cut-decided : (bytes : List ℕ) (i : ℕ) → Decided (IsRecordCut bytes i)
record_cut-decided bytes i = by (le-decided i (length bytes)) (spelling-decided (take i bytes))
  where
    inside : i ≤ length bytes → (s : IsSpelling (take i bytes)) → Decided (i ≤ s.0) → Decided (s.0 ≤ length bytes) → Decided (HasFields (take (s.0 - i) (drop i bytes)) (drop (s.0 - i) (drop i bytes))) → Decided (IsRecordCut bytes i)
    inside low s (inl own) (inl within) (inl fields) = inl (record { low = low; size = s.0; is_size = s.1; own = own; within = within; fields = fields })
    inside low s (inr none) within fields = inr (λ c. none (subst (λ (n : ℕ). i ≤ n) (spelling-one c.is_size s.1) c.own))
    inside low s (inl own) (inr none) fields = inr (λ c. none (subst (λ (n : ℕ). n ≤ length bytes) (spelling-one c.is_size s.1) c.within))
    inside low s (inl own) (inl within) (inr none) =
        inr (λ c. none (subst (λ (n : ℕ). HasFields (take (n - i) (drop i bytes)) (drop (n - i) (drop i bytes))) (spelling-one c.is_size s.1) c.fields))

    by : Decided (i ≤ length bytes) → Decided (IsSpelling (take i bytes)) → Decided (IsRecordCut bytes i)
    by (inl low) (inl s) =
        inside low s (le-decided i s.0) (le-decided s.0 (length bytes))
        (fields-decided (length (take (s.0 - i) (drop i bytes))) (take (s.0 - i) (drop i bytes)) (drop (s.0 - i) (drop i bytes)) (omega arith))
    by (inr none) s = inr (λ c. none c.low)
    by (inl low) (inr none) = inr (λ c. none (c.size, c.is_size))

record-made : (bytes : List ℕ) (i : ℕ) → IsRecordCut bytes i → (values : List Value) × IsRecord bytes values
record-made bytes i cut =
    let rest = drop i bytes in
    let types = take (cut.size - i) rest in
    let first = length-take-le i bytes cut.low in
    let second = length-take-le (cut.size - i) rest (omega (arith, cut.within, length-drop i bytes)) in (
      cut.fields.0,
      record {
        size = take i bytes;
        types = types;
        bodies = drop (cut.size - i) rest;
        whole = sym (ap (λ (s : List ℕ). take i bytes ++ s) (take-append-drop (cut.size - i) rest) ∙ take-append-drop i bytes);
        header = subst (IsVarint (take i bytes)) (let e : cut.size ≡ length (take i bytes) + length types = omega (arith, first, second, cut.own) in e) cut.is_size;
        fields = cut.fields.1;
      },
    )

record-cut : (bytes : List ℕ) (values : List Value) (is : IsRecord bytes values) → IsRecordCut bytes (length is.size)
record-cut bytes values is =
    let front = front_of is.size (is.types ++ is.bodies) bytes is.whole in
    let back = back_of is.size (is.types ++ is.bodies) bytes is.whole in
    let long = ap length is.whole in
    let parts = length-append is.size (is.types ++ is.bodies) in
    let behind = length-append is.types is.bodies in
    let left : length is.types ≡ length is.size + length is.types - length is.size = omega arith in
    let types = front_of is.types is.bodies (drop (length is.size) bytes) back in
    let bodies = back_of is.types is.bodies (drop (length is.size) bytes) back in
    record {
      low = omega (arith, long, parts);
      size = length is.size + length is.types;
      is_size = subst⁻¹ (λ (s : List ℕ). IsVarint s (length is.size + length is.types)) front is.header;
      own = omega arith;
      within = omega (arith, long, parts, behind);
      fields = subst (λ (n : ℕ). HasFields (take n (drop (length is.size) bytes)) (drop n (drop (length is.size) bytes))) left
          (subst⁻¹ (λ (t : List ℕ). HasFields t (drop (length is.types) (drop (length is.size) bytes))) types (subst⁻¹ (HasFields is.types) bodies (values, is.fields)));
    }

-- the bytes are a record, or none
pub record-decided : (bytes : List ℕ) → Decided ((values : List Value) × IsRecord bytes values)
record-decided bytes = decided-by to from (below-decided (IsRecordCut bytes) (record_cut-decided bytes) (length bytes + 1))
  where
    to : SomeBelow (IsRecordCut bytes) (length bytes + 1) → (values : List Value) × IsRecord bytes values
    to some = record-made bytes some.at some.is

    from : (values : List Value) × IsRecord bytes values → SomeBelow (IsRecordCut bytes) (length bytes + 1)
    from (values, is) =
        let cut = record-cut bytes values is in record { at = length is.size; low = omega (arith, cut.low); is = cut }

-- Rows.

row-decided : (table : Table) (member : Member) → Decided ((row : TableRow) × IsRow table member row)
row-decided table member = by (record-decided member.payload)
  where
    within : (found : (values : List Value) × IsRecord member.payload values) → Decided (length found.0 ≡ length table.columns) → Decided ((row : TableRow) × IsRow table member row)
    within found (inl many) =
        inl (
          record { rowid = member.rowid; values = with_rowid table.rowid_column member.rowid found.0; payload = member.payload },
          record { stored = found.0; is_record = found.1; many = many; rowid = refl; values = refl; payload = refl },
        )
    within found (inr none) =
        inr (λ row. none (subst (λ (values : List Value). length values ≡ length table.columns) (record-one member.payload row.1.stored found.0 row.1.is_record found.1) row.1.many))

    by : Decided ((values : List Value) × IsRecord member.payload values) → Decided ((row : TableRow) × IsRow table member row)
    by (inl found) = within found (cases_eq (length found.0) (length table.columns))
    by (inr none) = inr (λ row. none (row.1.stored, row.1.is_record))

rows-decided : (table : Table) (members : List Member) → Decided ((rows : List TableRow) × AllZip (IsRow table) members rows)
rows-decided table [] = inl ([], tt)
rows-decided table (member ∷ members) = by (row-decided table member) (rows-decided table members)
  where
    first : (rows : List TableRow) × AllZip (IsRow table) (member ∷ members) rows → (row : TableRow) × IsRow table member row
    first ([], all) = absurd all
    first (row ∷ rows, all) = (row, all.0)

    rest : (rows : List TableRow) × AllZip (IsRow table) (member ∷ members) rows → (rows : List TableRow) × AllZip (IsRow table) members rows
    rest ([], all) = absurd all
    rest (row ∷ rows, all) = (rows, all.1)

    by : Decided ((row : TableRow) × IsRow table member row) → Decided ((rows : List TableRow) × AllZip (IsRow table) members rows) → Decided ((rows : List TableRow) × AllZip (IsRow table) (member ∷ members) rows)
    by (inl row) (inl rows) = inl (row.0 ∷ rows.0, (row.1, rows.1))
    by (inr none) rows = inr (λ all. none (first all))
    by (inl row) (inr none) = inr (λ all. none (rest all))

module _ (sizes : Sizes) (base : Paged) (entry : Entry) where
  abbrev pub SomePlain : Type 0
  SomePlain = (table : Table) × (rows : List TableRow) × IsPlain sizes base entry table rows

  -- a table is plain, or it is not
  pub plain-decided : Decided SomePlain
  plain-decided = by entry.meaning refl
    where
      of_members : (table : Table) → entry.meaning ≡ Ok table → (members : List Member) → IsList sizes base TableTree entry.root members → Decided ((rows : List TableRow) × AllZip (IsRow table) members rows) → Decided SomePlain
      of_members table meaning members is_list (inl rows) = inl (table, rows.0, record { meaning = meaning; members = members; is_list = is_list; rows_are = rows.1 })
      of_members table meaning members is_list (inr none) =
          inr (λ plain.
          let same_table : plain.0 ≡ table = (let e : ◌≡◌ {A = Result Table SqlFault} (Ok plain.0) (Ok table) = sym plain.2.meaning ∙ meaning in cc) in
          let same = list-one sizes base TableTree entry.root plain.2.members members plain.2.is_list is_list in
          none (plain.1, subst (λ (t : Table). AllZip (IsRow t) members plain.1) same_table (subst (λ (ms : List Member). AllZip (IsRow plain.0) ms plain.1) same plain.2.rows_are)))

      of_table : (table : Table) → entry.meaning ≡ Ok table → ((members : List Member) × IsList sizes base TableTree entry.root members) ⊎ ((stop : ℕ × Rule) × StopsAt sizes base TableTree entry.root stop) → Decided SomePlain
      of_table table meaning (inl list) = of_members table meaning list.0 list.1 (rows-decided table list.0)
      of_table table meaning (inr stop) = inr (λ plain. list-not_stop sizes base TableTree entry.root plain.2.members stop.0 plain.2.is_list stop.1)

      by : (meaning : Result Table SqlFault) → entry.meaning ≡ meaning → Decided SomePlain
      by (Ok table) is = of_table table is (list_or_stop sizes base TableTree entry.root)
      by (Err fault) is = inr (λ plain. let e : ◌≡◌ {A = Result Table SqlFault} (Err fault) (Ok plain.0) = sym is ∙ plain.2.meaning in let none : ⊥ = cc in none)
