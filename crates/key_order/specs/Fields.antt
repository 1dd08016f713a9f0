-- The values of a record, one after the other.
use Rattle.std.specs.Prelude.{◌≡◌, ℕ, ◌+◌, ◌≤◌, List, [], ◌∷◌, ◌++◌, length}
use Rattle.std.specs.declared.cmp.Ordering.{Ordering}
use Rattle.rbu_value.specs.declared.value.Value.{Value}
use Rattle.rbu_value.specs.declared.value.Value.TheVariants as variant
use Rattle.format_spec.specs.Varint.{IsVarint}
use Rattle.format_spec.specs.Record.{AreFields, IsField}
use Rattle.record_codec.specs.Faults.{HasHeader}
use Rattle.key_order.specs.declared.fields.Field.{Field}
use Rattle.key_order.specs.declared.fields.Field.TheVariants.{Null, Int, Text, Blob}
use Rattle.key_order.specs.declared.order.KeyOrder.{KeyOrder}
use Rattle.key_order.specs.Orders.{Compares, IsEntry, key_cmp, key_length}

-- the value whose bytes are lent
abbrev pub value_of : Field → Value
value_of Null = variant.Null
value_of (Int z) = variant.Int z
value_of (Text bytes) = variant.Text bytes.now
value_of (Blob bytes) = variant.Blob bytes.now

-- a value stands first, and these serial types and bodies behind it
abbrev pub IsNext : List ℕ → List ℕ → Value → List ℕ → List ℕ → Type 0
IsNext types bodies value behind rest =
    (type : ℕ) × (spelling : List ℕ) × (body : List ℕ) × IsVarint spelling type × (types ≡ spelling ++ behind) × (bodies ≡ body ++ rest) × IsField type body value

-- serial types and bodies are those of so many values at least
abbrev pub HasValues : List ℕ → List ℕ → ℕ → Type 0
HasValues types bodies many = (values : List Value) × AreFields types bodies values × (many ≤ length values)

-- two records compare so, by their serial types and bodies
abbrev pub AreCompared : KeyOrder → List ℕ → List ℕ → List ℕ → List ℕ → Ordering → Type 0
AreCompared order types bodies other_types other_bodies found =
    (a b : List Value) → AreFields types bodies a → AreFields other_types other_bodies b → key_length order ≤ length a → key_length order ≤ length b → key_cmp order a b ≡ found

-- they have not both the values that are compared
abbrev pub CannotCompare : KeyOrder → List ℕ → List ℕ → List ℕ → List ℕ → Type 0
CannotCompare order types bodies other_types other_bodies =
    (a b : List Value) → AreFields types bodies a → AreFields other_types other_bodies b → key_length order ≤ length a → key_length order ≤ length b → ⊥

-- where bytes are an entry, and these are the serial types and bodies of another one, the two compare so
abbrev pub ComparesWith : KeyOrder → List ℕ → List ℕ → List ℕ → Ordering → Type 0
ComparesWith order bytes types bodies found = (other : List ℕ) → HasHeader other types bodies → IsEntry order bytes → IsEntry order other → Compares order found bytes other
