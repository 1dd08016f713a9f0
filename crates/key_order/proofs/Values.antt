-- What loops over the fields of records keep.
use Rattle.std.proofs.Common.{◌≡◌, ℕ, zero, suc, ◌+◌, ◌-◌, ◌<◌, ◌≤◌, ◌↔◌, ◌⊎◌, ◌==◌, Bool, true, false, if◌then◌else◌, List, [], ◌∷◌, ◌++◌, length, take, drop, slice_index_or, inl, inr, refl, sym, ap, ap₂, ◌∙◌, subst, arith, append_assoc, length-append}
use Rattle.std.proofs.Math.Path.{subst⁻¹}
use Rattle.std.proofs.lemmas.Bool.{cases_eq}
use Rattle.std.proofs.lemmas.List.{append_cancel_left, drop-drop, drop_all, length-drop, length-take-le, take-append-drop, take_all}
use Rattle.std.specs.Ordering.{ordering_then, ordering_reverse}
use Rattle.std.specs.declared.cmp.Ordering.{Ordering}
use Rattle.std.specs.declared.cmp.Ordering.TheVariants.{Less, Equal, Greater}
use Rattle.rbu_value.specs.declared.order.Collation.{Collation}
use Rattle.rbu_value.specs.declared.order.Collation.TheVariants.{Binary}
use Rattle.rbu_value.specs.declared.value.Value.{Value}
use Rattle.rbu_value.specs.declared.value.Value.TheVariants.{Null}
use Rattle.byte_fields.specs.BytesLaws.{append-same}
use Rattle.cell_codec.specs.VarintLaws.{spelling-one_to_nine, varint-same}
use Rattle.format_spec.specs.Varint.{IsVarint}
use Rattle.format_spec.specs.Record.{AreFields, IsField, IsRecord}
use Rattle.record_codec.specs.Faults.{HasHeader, IsValueType, body_size}
use Rattle.record_codec.specs.FaultsLaws.{field-value_type}
use Rattle.record_codec.specs.RecordLaws.{field-same, field-size, header-same, varint-not_empty}
use Rattle.database_spec.specs.Keys.{column_cmp, columns_cmp, entry_cmp, last_value}
use Rattle.key_order.specs.declared.order.KeyOrder.{KeyOrder}
use Rattle.key_order.specs.Fields.{AreCompared, CannotCompare, HasValues, IsNext}
use Rattle.key_order.specs.Orders.{Compares, IsEntry, key_cmp, key_length}
use Rattle.key_order.specs.OrdersLaws.{entry-long}

-- what stands behind the first value
pub next-shorter : (types bodies behind rest : List ℕ) (value : Value) → IsNext types bodies value behind rest → length behind < length types
next-shorter types bodies behind rest value (type, spelling, body, v, types_are, bodies_are, field) =
    omega (arith, ap length types_are, length-append spelling behind, spelling-one_to_nine spelling type v)

pub next-fields : (types bodies behind rest : List ℕ) (value : Value) (values : List Value) → IsNext types bodies value behind rest → AreFields behind rest values → AreFields types bodies (value ∷ values)
next-fields types bodies behind rest value values (type, spelling, body, v, types_are, bodies_are, field) are = (type, spelling, body, behind, rest, v, types_are, bodies_are, field, are)

pub fields-next : (types bodies behind rest : List ℕ) (value other : Value) (values : List Value) → IsNext types bodies value behind rest → AreFields types bodies (other ∷ values)
    → (other ≡ value) × AreFields behind rest values
fields-next types bodies behind rest value other values (type, spelling, body, v, types_are, bodies_are, field) (kind, spelled, bytes, other_types, other_bodies, w, also_types, also_bodies, other_field, are) =
    let same = varint-same other_types behind w v (sym also_types ∙ types_are) in
    let spellings : spelled ≡ spelling = same.0 in
    let kinds : kind ≡ type = same.1 in
    let later : other_types ≡ behind = append_cancel_left spelled other_types behind (sym also_types ∙ types_are ∙ ap (λ s. s ++ behind) (sym spellings)) in
    let sizes : length bytes ≡ length body = field-size kind bytes other other_field ∙ ap body_size kinds ∙ sym (field-size type body value field) in
    let parts = append-same bytes body other_bodies rest sizes (sym also_bodies ∙ bodies_are) in
    let moved : IsField type body other = subst (λ t. IsField t body other) kinds (subst (λ s. IsField kind s other) parts.0 other_field) in (
      field-same type body other value moved field,
      subst (λ t. AreFields t rest values) later (subst (λ b. AreFields other_types b values) parts.1 are),
    )

-- serial types that end have no first value
pub none-first : (bodies : List ℕ) (value : Value) (values : List Value) → AreFields [] bodies (value ∷ values) → ⊥
none-first bodies value values are = varint-not_empty [] are.1 are.3 are.0 are.5 are.6 refl

-- nor have those of which the first is none of a value
pub stops-first : (types bodies : List ℕ) (value : Value) (values : List Value) → ((type : ℕ) (spelling behind : List ℕ) → IsVarint spelling type → types ≡ spelling ++ behind → IsValueType type → ⊥)
    → AreFields types bodies (value ∷ values) → ⊥
stops-first types bodies value values none are = none are.0 are.1 are.3 are.5 are.6 (field-value_type are.0 are.2 value are.8)

pub short-first : (types bodies spelling behind : List ℕ) (type : ℕ) (value : Value) (values : List Value) → IsVarint spelling type → types ≡ spelling ++ behind → length bodies < body_size type
    → AreFields types bodies (value ∷ values) → ⊥
short-first types bodies spelling behind type value values v types_are short are =
    let same = varint-same are.3 behind are.5 v (sym are.6 ∙ types_are) in
    omega (arith, short, ap length are.7, length-append are.2 are.4, field-size are.0 are.2 value are.8, ap body_size same.1)

-- the values that are still to be counted
pub record IsCounting (types bodies : List ℕ) (many : ℕ) (types_left bodies_left : List ℕ) (left : ℕ) : Type 0 where
  pub there : (rest : List Value) → AreFields types_left bodies_left rest → (values : List Value) × AreFields types bodies values × (left ≤ length rest → many ≤ length values)
  pub here : (values : List Value) → AreFields types bodies values → (rest : List Value) × AreFields types_left bodies_left rest × (many ≤ length values → left ≤ length rest)

pub counting-starts : (types bodies : List ℕ) (many : ℕ) → IsCounting types bodies many types bodies many
counting-starts types bodies many = record { there = λ rest are. (rest, are, λ low. low); here = λ values are. (values, are, λ low. low) }

pub counting-goes : (types bodies : List ℕ) (many : ℕ) (types_left bodies_left : List ℕ) (left : ℕ) (value : Value) (behind rest : List ℕ) → 0 < length types_left → IsCounting types bodies many types_left bodies_left left
    → IsNext types_left bodies_left value behind rest → IsCounting types bodies many behind rest (left - 1)
counting-goes types bodies many types_left bodies_left left value behind rest some is next = record {
  there = λ values are.
      let whole = is.there (value ∷ values) (next-fields types_left bodies_left behind rest value values next are) in
      (whole.0, whole.1, λ low. whole.2 (omega (arith, low)));
  here = λ values are. by values (is.here values are);
}
  where
    by : (values : List Value) → (others : List Value) × AreFields types_left bodies_left others × (many ≤ length values → left ≤ length others)
        → (others : List Value) × AreFields behind rest others × (many ≤ length values → left - 1 ≤ length others)
    by values ([], are, low) = absurd (omega (arith, some, ap length are.0))
    by values (other ∷ others, are, low) = (others, (fields-next types_left bodies_left behind rest value other others next are).1, λ long. omega (arith, low long))

pub counting-fails : (types bodies : List ℕ) (many : ℕ) (types_left bodies_left : List ℕ) (left : ℕ) → 0 < length types_left → IsCounting types bodies many types_left bodies_left left
    → ((value : Value) (values : List Value) → AreFields types_left bodies_left (value ∷ values) → ⊥) → HasValues types bodies many → ⊥
counting-fails types bodies many types_left bodies_left left some is none (values, are, long) = by (is.here values are)
  where
    by : (others : List Value) × AreFields types_left bodies_left others × (many ≤ length values → left ≤ length others) → ⊥
    by ([], fields, low) = omega (arith, some, ap length fields.0)
    by (other ∷ others, fields, low) = none other others fields

pub counting-ends : (types bodies : List ℕ) (many : ℕ) (bodies_left : List ℕ) (left : ℕ) → IsCounting types bodies many [] bodies_left left → ((bodies_left ≡ []) × (left ≡ 0)) ↔ HasValues types bodies many
counting-ends types bodies many bodies_left left is = (
  λ ends. let whole = is.there [] (refl, ends.0) in (whole.0, whole.1, whole.2 (omega (arith, ends.1))),
  λ has. by has.0 (is.here has.0 has.1) has.2,
)
  where
    by : (values : List Value) → (others : List Value) × AreFields [] bodies_left others × (many ≤ length values → left ≤ length others) → many ≤ length values → (bodies_left ≡ []) × (left ≡ 0)
    by values ([], fields, low) long = (fields.1, omega (arith, low long))
    by values (other ∷ others, fields, low) long = absurd (none-first bodies_left other others fields)

-- The columns that are compared, with the rowid behind them where it comes last.

abbrev pub columns_with : Bool → List (Collation × Bool) → List (Collation × Bool)
columns_with true columns = columns ++ (Binary, false) ∷ []
columns_with false columns = columns

abbrev pub all_columns : KeyOrder → List (Collation × Bool)
all_columns order = columns_with order.rowid_last order.columns

many-with : (last : Bool) (columns : List (Collation × Bool)) → length (columns_with last columns) ≡ (if last then length columns + 1 else length columns)
many-with true columns = omega (arith, length-append columns ((Binary, false) ∷ []))
many-with false columns = refl

pub many-columns : (order : KeyOrder) → length (all_columns order) ≡ key_length order
many-columns order = many-with order.rowid_last order.columns

index-front : (columns : List (Collation × Bool)) (at : ℕ) (d : Collation × Bool) → at < length columns + 1 → slice_index_or columns at (Binary, false) ≡ slice_index_or (columns ++ (Binary, false) ∷ []) at d
index-front [] zero d low = refl
index-front [] (suc at) d low = absurd (omega (arith, low))
index-front (c ∷ columns) zero d low = refl
index-front (c ∷ columns) (suc at) d low = index-front columns at d (omega (arith, low))

index-same : (columns : List (Collation × Bool)) (at : ℕ) (c d : Collation × Bool) → at < length columns → slice_index_or columns at c ≡ slice_index_or columns at d
index-same [] at c d low = absurd (omega (arith, low))
index-same (x ∷ columns) zero c d low = refl
index-same (x ∷ columns) (suc at) c d low = index-same columns at c d (omega (arith, low))

index-with : (last : Bool) (columns : List (Collation × Bool)) (at : ℕ) (d : Collation × Bool) → at < length (columns_with last columns) → slice_index_or columns at (Binary, false) ≡ slice_index_or (columns_with last columns) at d
index-with true columns at d low = index-front columns at d (omega (arith, low, length-append columns ((Binary, false) ∷ [])))
index-with false columns at d low = index-same columns at (Binary, false) d low

pub column-at : (order : KeyOrder) (at : ℕ) (d : Collation × Bool) → at < length (all_columns order) → slice_index_or order.columns at (Binary, false) ≡ slice_index_or (all_columns order) at d
column-at order at d low = index-with order.rowid_last order.columns at d low

then-last : (o : Ordering) → ordering_then o Equal ≡ o
then-last Less = refl
then-last Equal = refl
then-last Greater = refl

then-three : (o p q : Ordering) → ordering_then (ordering_then o p) q ≡ ordering_then o (ordering_then p q)
then-three Less p q = refl
then-three Equal p q = refl
then-three Greater p q = refl

entry-columns : (columns : List (Collation × Bool)) (a b : List Value) → length columns + 1 ≤ length a → length columns + 1 ≤ length b → entry_cmp columns a b ≡ columns_cmp (columns ++ (Binary, false) ∷ []) a b
entry-columns columns [] b long also = absurd (omega (arith, long))
entry-columns columns (x ∷ a) [] long also = absurd (omega (arith, also))
entry-columns [] (x ∷ a) (y ∷ b) long also = sym (then-last (column_cmp (Binary, false) x y))
entry-columns (c ∷ columns) (x ∷ a) (y ∷ b) long also =
    then-three (column_cmp c x y) (columns_cmp columns a b) _ ∙ ap (ordering_then (column_cmp c x y)) (entry-columns columns a b (omega (arith, long)) (omega (arith, also)))

cmp-with : (last : Bool) (columns : List (Collation × Bool)) (a b : List Value) → length (columns_with last columns) ≤ length a → length (columns_with last columns) ≤ length b
    → (if last then entry_cmp columns a b else columns_cmp columns a b) ≡ columns_cmp (columns_with last columns) a b
cmp-with true columns a b long also =
    let more = length-append columns ((Binary, false) ∷ []) in
    entry-columns columns a b (omega (arith, long, more)) (omega (arith, also, more))
cmp-with false columns a b long also = refl

pub key-columns : (order : KeyOrder) (a b : List Value) → length (all_columns order) ≤ length a → length (all_columns order) ≤ length b → key_cmp order a b ≡ columns_cmp (all_columns order) a b
key-columns order a b long also = cmp-with order.rowid_last order.columns a b long also

cut-at : (columns : List (Collation × Bool)) (i : ℕ) (d : Collation × Bool) → i < length columns → drop i columns ≡ slice_index_or columns i d ∷ drop (suc i) columns
cut-at [] i d low = absurd (omega (arith, low))
cut-at (c ∷ columns) zero d low = refl
cut-at (c ∷ columns) (suc i) d low = cut-at columns i d (omega (arith, low))

cut : (columns : List (Collation × Bool)) (i : ℕ) (d : Collation × Bool) → i < length columns → drop i columns ≡ slice_index_or columns i d ∷ drop (i + 1) columns
cut columns i d low = let next : suc i ≡ i + 1 = omega arith in cut-at columns i d low ∙ ap (λ (k : ℕ). slice_index_or columns i d ∷ drop k columns) next

-- What a loop over the columns keeps: the values of both records compare as those that are left do.
pub record IsComparing (columns : List (Collation × Bool)) (types bodies other_types other_bodies : List ℕ) (i : ℕ) (types_left bodies_left other_types_left other_bodies_left : List ℕ) : Type 0 where
  pub each : (a b : List Value) → AreFields types bodies a → AreFields other_types other_bodies b → length columns ≤ length a → length columns ≤ length b
      → (v : List Value) × (w : List Value) × AreFields types_left bodies_left v × AreFields other_types_left other_bodies_left w × (columns_cmp columns a b ≡ columns_cmp (drop i columns) v w)
      × (length columns ≤ i + length v) × (length columns ≤ i + length w)

pub comparing-starts : (columns : List (Collation × Bool)) (types bodies other_types other_bodies : List ℕ) → IsComparing columns types bodies other_types other_bodies 0 types bodies other_types other_bodies
comparing-starts columns types bodies other_types other_bodies = record { each = λ a b fa fb long also. (a, b, fa, fb, refl, omega (arith, long), omega (arith, also)) }

module _ (order : KeyOrder) (types bodies other_types other_bodies : List ℕ) (i : ℕ) (types_left bodies_left other_types_left other_bodies_left : List ℕ)
    (is : IsComparing (all_columns order) types bodies other_types other_bodies i types_left bodies_left other_types_left other_bodies_left) where
  abbrev columns : List (Collation × Bool)
  columns = all_columns order

  pub comparing-fails : i < key_length order → ((value : Value) (values : List Value) → AreFields types_left bodies_left (value ∷ values) → ⊥) → CannotCompare order types bodies other_types other_bodies
  comparing-fails low none a b fa fb long also = by (is.each a b fa fb (omega (arith, long, many-columns order)) (omega (arith, also, many-columns order)))
    where
      by : (v : List Value) × (w : List Value) × AreFields types_left bodies_left v × AreFields other_types_left other_bodies_left w × (columns_cmp columns a b ≡ columns_cmp (drop i columns) v w)
          × (length columns ≤ i + length v) × (length columns ≤ i + length w) → ⊥
      by ([], w, fv, fw, same, m, n) = omega (arith, low, m, many-columns order)
      by (x ∷ v, w, fv, fw, same, m, n) = none x v fv

  pub comparing-fails_other : i < key_length order → ((value : Value) (values : List Value) → AreFields other_types_left other_bodies_left (value ∷ values) → ⊥) → CannotCompare order types bodies other_types other_bodies
  comparing-fails_other low none a b fa fb long also = by (is.each a b fa fb (omega (arith, long, many-columns order)) (omega (arith, also, many-columns order)))
    where
      by : (v : List Value) × (w : List Value) × AreFields types_left bodies_left v × AreFields other_types_left other_bodies_left w × (columns_cmp columns a b ≡ columns_cmp (drop i columns) v w)
          × (length columns ≤ i + length v) × (length columns ≤ i + length w) → ⊥
      by (v, [], fv, fw, same, m, n) = omega (arith, low, n, many-columns order)
      by (v, y ∷ w, fv, fw, same, m, n) = none y w fw

  pub comparing-ends : key_length order ≤ i → AreCompared order types bodies other_types other_bodies Equal
  comparing-ends past a b fa fb long also =
      let e = is.each a b fa fb (omega (arith, long, many-columns order)) (omega (arith, also, many-columns order)) in
      let none : drop i columns ≡ [] = drop_all i columns (omega (arith, past, many-columns order)) in
      key-columns order a b (omega (arith, long, many-columns order)) (omega (arith, also, many-columns order)) ∙ e.4 ∙ ap (λ (l : List (Collation × Bool)). columns_cmp l e.0 e.1) none

  module _ (column : Collation × Bool) (column_is : column ≡ slice_index_or order.columns i (Binary, false)) (low : i < key_length order) (x y : Value) (behind rest other_behind other_rest : List ℕ)
      (next : IsNext types_left bodies_left x behind rest) (other : IsNext other_types_left other_bodies_left y other_behind other_rest) where
    -- the first values that are left are these
    pub record IsFirst (a b : List Value) : Type 0 where
      v : List Value
      w : List Value
      fv : AreFields behind rest v
      fw : AreFields other_behind other_rest w
      same : columns_cmp columns a b ≡ ordering_then (column_cmp column x y) (columns_cmp (drop (i + 1) columns) v w)
      long : length columns ≤ i + 1 + length v
      also : length columns ≤ i + 1 + length w

    first : (a b : List Value) → AreFields types bodies a → AreFields other_types other_bodies b → length columns ≤ length a → length columns ≤ length b → IsFirst a b
    first a b fa fb long also = by (is.each a b fa fb long also)
      where
        by : (v : List Value) × (w : List Value) × AreFields types_left bodies_left v × AreFields other_types_left other_bodies_left w × (columns_cmp columns a b ≡ columns_cmp (drop i columns) v w)
            × (length columns ≤ i + length v) × (length columns ≤ i + length w) → IsFirst a b
        by ([], w, fv, fw, same, m, n) = absurd (omega (arith, low, m, many-columns order))
        by (p ∷ v, [], fv, fw, same, m, n) = absurd (omega (arith, low, n, many-columns order))
        by (p ∷ v, q ∷ w, fv, fw, same, m, n) =
            let one = fields-next types_left bodies_left behind rest x p v next fv in
            let two = fields-next other_types_left other_bodies_left other_behind other_rest y q w other fw in
            let d : Collation × Bool = (Binary, false) in
            let split : drop i columns ≡ column ∷ drop (i + 1) columns =
            cut columns i d (omega (arith, low, many-columns order)) ∙ ap (λ (c : Collation × Bool). c ∷ drop (i + 1) columns) (sym (column_is ∙ column-at order i d (omega (arith, low, many-columns order)))) in
            record {
              v = v;
              w = w;
              fv = one.1;
              fw = two.1;
              same = same ∙ ap (λ (l : List (Collation × Bool)). columns_cmp l (p ∷ v) (q ∷ w)) split
                  ∙ (λ j. ordering_then (column_cmp column (one.0 j) (two.0 j)) (columns_cmp (drop (i + 1) columns) v w));
              long = omega (arith, m);
              also = omega (arith, n);
            }

    pub comparing-goes : column_cmp column x y ≡ Equal → IsComparing columns types bodies other_types other_bodies (i + 1) behind rest other_behind other_rest
    comparing-goes equal = record {
      each = λ a b fa fb long also.
          let f = first a b fa fb long also in
          (f.v, f.w, f.fv, f.fw, f.same ∙ ap (λ o. ordering_then o (columns_cmp (drop (i + 1) columns) f.v f.w)) equal, f.long, f.also);
    }

    pub comparing-differs : (found : Ordering) → ((p : Ordering) → ordering_then found p ≡ found) → column_cmp column x y ≡ found → AreCompared order types bodies other_types other_bodies found
    comparing-differs found decides is_found a b fa fb long also =
        let l : length columns ≤ length a = omega (arith, long, many-columns order) in
        let m : length columns ≤ length b = omega (arith, also, many-columns order) in
        let f = first a b fa fb l m in
        key-columns order a b l m ∙ f.same ∙ ap (λ o. ordering_then o (columns_cmp (drop (i + 1) columns) f.v f.w)) is_found ∙ decides (columns_cmp (drop (i + 1) columns) f.v f.w)

-- Records.

-- a record has the header that was read of it
fields-of : (bytes types bodies : List ℕ) (values : List Value) → HasHeader bytes types bodies → IsRecord bytes values → AreFields types bodies values
fields-of bytes types bodies values h r =
    let parts = header-same h.size types bodies r.size r.types r.bodies h.header r.header (sym h.whole ∙ r.whole) in
    subst⁻¹ (λ t. AreFields t bodies values) parts.1 (subst⁻¹ (λ b. AreFields r.types b values) parts.2 r.fields)

pub header-entry : (order : KeyOrder) (bytes types bodies : List ℕ) → HasHeader bytes types bodies → HasValues types bodies (key_length order) ↔ IsEntry order bytes
header-entry order bytes types bodies h = (
  λ has. record { values = has.0; is_record = record { size = h.size; types = types; bodies = bodies; whole = h.whole; header = h.header; fields = has.1 }; long = has.2 },
  λ entry. (entry.values, fields-of bytes types bodies entry.values h entry.is_record, entry.long),
)

pub no-header : (order : KeyOrder) (bytes : List ℕ) → ((types bodies : List ℕ) → HasHeader bytes types bodies → ⊥) → IsEntry order bytes → ⊥
no-header order bytes none entry = none entry.is_record.types entry.is_record.bodies (record { size = entry.is_record.size; whole = entry.is_record.whole; header = entry.is_record.header })

pub fields-compared : (order : KeyOrder) (x y types bodies other_types other_bodies : List ℕ) (found : Ordering) → HasHeader x types bodies → HasHeader y other_types other_bodies → IsEntry order x → IsEntry order y
    → AreCompared order types bodies other_types other_bodies found → Compares order found x y
fields-compared order x y types bodies other_types other_bodies found hx hy ex ey are a b ra rb =
    are a b (fields-of x types bodies a hx ra) (fields-of y other_types other_bodies b hy rb) (entry-long order x a ex ra) (entry-long order y b ey rb)

pub fields-apart : (order : KeyOrder) (x y types bodies other_types other_bodies : List ℕ) → HasHeader x types bodies → HasHeader y other_types other_bodies → CannotCompare order types bodies other_types other_bodies
    → IsEntry order x → IsEntry order y → ⊥
fields-apart order x y types bodies other_types other_bodies hx hy none ex ey =
    none ex.values ey.values (fields-of x types bodies ex.values hx ex.is_record) (fields-of y other_types other_bodies ey.values hy ey.is_record) ex.long ey.long

-- a header that is less than its own bytes, or more than all bytes
pub header-wrong : (bytes : List ℕ) (end start : ℕ) → start ≤ length bytes → IsVarint (take start bytes) end → (end < start) ⊎ (length bytes < end) → (types bodies : List ℕ) → HasHeader bytes types bodies → ⊥
header-wrong bytes end start low v wrong types bodies h =
    let same = varint-same (drop start bytes) (types ++ bodies) v h.header (take-append-drop start bytes ∙ h.whole) in
    let long : length h.size ≡ start = sym (ap length same.0) ∙ length-take-le start bytes low in
    elim wrong [ inl less ↦ omega (arith, less, same.1, long) | inr more ↦ omega (arith, more, same.1, all-of bytes h.size types bodies h.whole) ]
  where
    all-of : (bs size ts rest : List ℕ) → bs ≡ size ++ (ts ++ rest) → length size + length ts ≤ length bs
    all-of bs size ts rest e = omega (arith, ap length e, length-append size (ts ++ rest), length-append ts rest)

pub header-found : (bytes : List ℕ) (end start : ℕ) → start ≤ length bytes → IsVarint (take start bytes) end → start ≤ end → end ≤ length bytes
    → HasHeader bytes (take (end - start) (drop start bytes)) (take (length bytes - end) (drop end bytes))
header-found bytes end start within spelled l m =
    let types = take (end - start) (drop start bytes) in
    let bodies = take (length bytes - end) (drop end bytes) in
    let first : length (take start bytes) ≡ start = length-take-le start bytes within in
    let second : length types ≡ end - start = length-take-le (end - start) (drop start bytes) (omega (arith, length-drop start bytes)) in
    let all : bodies ≡ drop end bytes = take_all (length bytes - end) (drop end bytes) (omega (arith, length-drop end bytes)) in
    let behind : drop (end - start) (drop start bytes) ≡ drop end bytes = drop-drop (end - start) start bytes ∙ ap (λ k. drop k bytes) (omega arith) in
    record {
      size = take start bytes;
      whole =
          sym (take-append-drop start bytes)
          ∙ ap (λ s. take start bytes ++ s) (sym (take-append-drop (end - start) (drop start bytes)) ∙ ap (λ s. types ++ s) (behind ∙ sym all));
      header = subst (IsVarint (take start bytes)) (omega (arith, first, second)) spelled;
    }

-- serial types begin with one number
pub type-same : (types spelling behind : List ℕ) (size number type : ℕ) → IsVarint (take size types) number → IsVarint spelling type → types ≡ spelling ++ behind → type ≡ number
type-same types spelling behind size number type v w e = sym (varint-same (drop size types) behind v w (take-append-drop size types ∙ e)).1

pub not-reserved : (type : ℕ) → 10 ≤ type → type ≤ 11 → IsValueType type → ⊥
not-reserved type low high value = elim (cases_eq type 10) [ inl ten ↦ value.1 ten | inr other ↦ value.2 (let eleven : type ≡ 11 = omega (arith, low, high, other) in eleven) ]

pub some-list : (xs : List ℕ) → (length xs == 0) ≡ false → 0 < length xs
some-list [] e = absurd (let h : ⊥ = cc in h)
some-list (x ∷ xs) e = omega arith
