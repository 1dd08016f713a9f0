-- The order of entries is one, and an entry has one place in a list that rises: crates above cite these facts in their proofs.
use Rattle.std.proofs.Common.{◌≡◌, ℕ, suc, ◌+◌, ◌≤◌, ◌<◌, Bool, true, false, if◌then◌else◌, List, [], ◌∷◌, ◌++◌, length, slice_index_or, refl, sym, ap, ap₂, ◌∙◌, subst, arith}
use Rattle.std.proofs.Math.Path.{subst⁻¹}
use Rattle.std.specs.List.{AllByRecursion, AllPairs, AllZip, Contains}
use Rattle.std.specs.Ordering.{ordering_then, ordering_reverse}
use Rattle.std.specs.declared.cmp.Ordering.{Ordering}
use Rattle.std.specs.declared.cmp.Ordering.TheVariants.{Less, Equal, Greater}
use Rattle.std.specs.Cmp.{IsTotalOrder, on_total, then_total}
use Rattle.rbu_value.specs.declared.order.Collation.{Collation}
use Rattle.rbu_value.specs.declared.order.Collation.TheVariants.{Binary}
use Rattle.rbu_value.specs.declared.value.Value.{Value}
use Rattle.rbu_value.specs.Order.{value_cmp}
use Rattle.rbu_value.specs.OrderLaws.{value_cmp-total}
use Rattle.format_spec.specs.Record.{IsRecord}
use Rattle.tree_spec.specs.Trees.{Member}
use Rattle.tree_spec.specs.WorldsLaws.{all-front, all-back, all-join}
use Rattle.database_spec.specs.Keys.{columns_cmp, entry_cmp, last_value}
use Rattle.database_spec.specs.RowsLaws.{record-one}
use Rattle.prepared_laws.specs.PaddedKeysLaws.{padded_cmp, padded-same, padded-total}
use Rattle.key_order.specs.declared.order.KeyOrder.{KeyOrder}
use Rattle.key_order.specs.Orders.{key_cmp, key_length, IsEntry, Compares, IsLow, IsHigh, IsEqual, IsRising, HasEqual}

-- the same order of all lists of values, NULL standing for what one lacks
abbrev whole_cmp : Bool → List (Collation × Bool) → List Value → List Value → Ordering
whole_cmp true columns = λ a b. ordering_then (padded_cmp columns a b) (value_cmp Binary (last_value columns a) (last_value columns b))
whole_cmp false columns = padded_cmp columns

whole-total : (last : Bool) (columns : List (Collation × Bool)) → IsTotalOrder (whole_cmp last columns)
whole-total true columns = then_total (padded-total columns) (on_total (last_value columns) (value_cmp-total Binary))
whole-total false columns = padded-total columns

whole-same : (last : Bool) (columns : List (Collation × Bool)) (a b : List Value) → length columns ≤ length a → length columns ≤ length b
    → (if last then entry_cmp columns a b else columns_cmp columns a b) ≡ whole_cmp last columns a b
whole-same true columns a b long also = ap (λ o. ordering_then o (value_cmp Binary (last_value columns a) (last_value columns b))) (padded-same columns a b long also)
whole-same false columns a b long also = padded-same columns a b long also

least-columns : (last : Bool) (columns : List (Collation × Bool)) (n : ℕ) → (if last then length columns + 1 else length columns) ≤ n → length columns ≤ n
least-columns true columns n low = omega (arith, low)
least-columns false columns n low = low

module _ (order : KeyOrder) where
  -- values that are long enough compare as in the whole order
  same : (a b : List Value) → key_length order ≤ length a → key_length order ≤ length b → key_cmp order a b ≡ whole_cmp order.rowid_last order.columns a b
  same a b long also =
      whole-same order.rowid_last order.columns a b (least-columns order.rowid_last order.columns (length a) long) (least-columns order.rowid_last order.columns (length b) also)

  -- the values of an entry are as many as the order compares
  pub entry-long : (bytes : List ℕ) (values : List Value) → IsEntry order bytes → IsRecord bytes values → key_length order ≤ length values
  entry-long bytes values entry is = subst (λ (v : List Value). key_length order ≤ length v) (record-one bytes entry.values values entry.is_record is) entry.long

  -- entries compare in the whole order
  there : (found : Ordering) (x y : List ℕ) (ex : IsEntry order x) (ey : IsEntry order y) → Compares order found x y → whole_cmp order.rowid_last order.columns ex.values ey.values ≡ found
  there found x y ex ey is = sym (same ex.values ey.values ex.long ey.long) ∙ is ex.values ey.values ex.is_record ey.is_record

  back : (found : Ordering) (x y : List ℕ) (ex : IsEntry order x) (ey : IsEntry order y) → whole_cmp order.rowid_last order.columns ex.values ey.values ≡ found → Compares order found x y
  back found x y ex ey is a b ra rb =
      let one = record-one x ex.values a ex.is_record ra in
      let two = record-one y ey.values b ey.is_record rb in
      subst (λ (v : List Value). key_cmp order v b ≡ found) one (subst (λ (w : List Value). key_cmp order ex.values w ≡ found) two (same ex.values ey.values ex.long ey.long ∙ is))

  -- two entries, the other way round
  pub compares-turn : (found : Ordering) (x y : List ℕ) → IsEntry order x → IsEntry order y → Compares order found x y → Compares order (ordering_reverse found) y x
  compares-turn found x y ex ey is =
      back (ordering_reverse found) y x ey ex ((whole-total order.rowid_last order.columns).antisymm ey.values ex.values ∙ ap ordering_reverse (there found x y ex ey is))

  -- entries compare in one way
  pub compares-one : (found other : Ordering) (x y : List ℕ) → IsEntry order x → IsEntry order y → Compares order found x y → Compares order other x y → found ≡ other
  compares-one found other x y ex ey one two = sym (one ex.values ey.values ex.is_record ey.is_record) ∙ two ex.values ey.values ex.is_record ey.is_record

  -- what is less than what is less is less
  pub less-then : (x y z : List ℕ) → IsEntry order x → IsEntry order y → IsEntry order z → Compares order Less x y → Compares order Less y z → Compares order Less x z
  less-then x y z ex ey ez one two = back Less x z ex ez ((whole-total order.rowid_last order.columns).trans ex.values ey.values ez.values (there Less x y ex ey one) (there Less y z ey ez two))

  -- and what stands behind what is greater is greater
  greater-then : (x y z : List ℕ) → IsEntry order x → IsEntry order y → IsEntry order z → Compares order Less x y → Compares order Greater x z → Compares order Greater y z
  greater-then x y z ex ey ez one two = compares-turn Less z y ez ey (less-then z x y ez ex ey (compares-turn Greater x z ex ez two) one)

  -- what is equal compares alike with what is behind
  pub equal-alike : (found : Ordering) (x y z : List ℕ) → IsEntry order x → IsEntry order y → IsEntry order z → Compares order Equal x y → Compares order found x z → Compares order found y z
  equal-alike found x y z ex ey ez same one =
      back found y z ey ez (sym ((whole-total order.rowid_last order.columns).congr ex.values ey.values ez.values (there Equal x y ex ey same)) ∙ there found x z ex ez one)

  -- Lists that rise.

  abbrev Stands : List ℕ → Member → Type 0
  Stands payload n = Compares order Less payload n.payload

  pub rising-entries : (members : List Member) → IsRising order members → AllByRecursion (λ (m : Member). IsEntry order m.payload) members
  rising-entries [] rises = tt
  rising-entries (m ∷ members) rises = (rises.0, rising-entries members rises.2)

  pub rising-front : (xs ys : List Member) → IsRising order (xs ++ ys) → IsRising order xs
  rising-front [] ys rises = tt
  rising-front (x ∷ xs) ys rises = (rises.0, all-front (Stands x.payload) xs ys rises.1, rising-front xs ys rises.2)

  pub rising-back : (xs ys : List Member) → IsRising order (xs ++ ys) → IsRising order ys
  rising-back [] ys rises = rises
  rising-back (x ∷ xs) ys rises = rising-back xs ys rises.2

  -- a list without one of its members
  pub rising-without : (gone : Member) (xs ys : List Member) → IsRising order (xs ++ gone ∷ ys) → IsRising order (xs ++ ys)
  rising-without gone [] ys rises = rises.2
  rising-without gone (x ∷ xs) ys rises =
      let front = all-front (Stands x.payload) xs (gone ∷ ys) rises.1 in
      let behind = all-back (Stands x.payload) xs (gone ∷ ys) rises.1 in
      (rises.0, all-join (Stands x.payload) xs ys front behind.1, rising-without gone xs ys rises.2)

  module _ (payload : List ℕ) (entry : IsEntry order payload) where
    -- where an entry of a list that rises stands before another, so do those before it
    pub low-before : (xs ys : List Member) (m : Member) → IsRising order (xs ++ m ∷ ys) → IsLow order payload m → AllByRecursion (IsLow order payload) xs
    low-before [] ys m rises low = tt
    low-before (x ∷ xs) ys m rises low =
        let behind = all-back (Stands x.payload) xs (m ∷ ys) rises.1 in
        let rest = rising-back xs (m ∷ ys) rises.2 in
        (less-then x.payload m.payload payload rises.0 rest.0 entry behind.0 low, low-before xs ys m rises.2 low)

    -- and where it stands behind another, so do those behind it
    pub high-behind : (m : Member) (ys : List Member) → IsRising order (m ∷ ys) → IsHigh order payload m → AllByRecursion (IsHigh order payload) ys
    high-behind m ys rises high = each ys rises.1 (rising-entries ys rises.2)
      where
        each : (zs : List Member) → AllByRecursion (Stands m.payload) zs → AllByRecursion (λ (n : Member). IsEntry order n.payload) zs → AllByRecursion (IsHigh order payload) zs
        each [] all entries = tt
        each (z ∷ zs) all entries = (greater-then m.payload z.payload payload rises.0 entries.0 entry all.0 high, each zs all.1 entries.1)

    turned : (ys : List Member) → AllByRecursion (λ (n : Member). IsEntry order n.payload) ys → AllByRecursion (IsHigh order payload) ys → AllByRecursion (Stands payload) ys
    turned [] entries all = tt
    turned (y ∷ ys) entries all = (compares-turn Greater y.payload payload entries.0 entry all.0, turned ys entries.1 all.1)

    -- an entry put behind those that are less and before those that are greater
    pub rising-put : (put : Member) (xs ys : List Member) → put.payload ≡ payload → IsRising order (xs ++ ys) → AllByRecursion (IsLow order payload) xs → AllByRecursion (IsHigh order payload) ys → IsRising order (xs ++ put ∷ ys)
    rising-put put [] ys is rises low high = (
      subst⁻¹ (IsEntry order) is entry,
      subst⁻¹ (λ (p : List ℕ). AllByRecursion (Stands p) ys) is (turned ys (rising-entries ys rises) high),
      rises,
    )
    rising-put put (x ∷ xs) ys is rises low high = (
      rises.0,
      all-join (Stands x.payload) xs (put ∷ ys) (all-front (Stands x.payload) xs ys rises.1) (subst⁻¹ (λ (p : List ℕ). Compares order Less x.payload p) is low.0, all-back (Stands x.payload) xs ys rises.1),
      rising-put put xs ys is rises.2 low.1 high,
    )

    none-equal : (found : Ordering) (x : List ℕ) → IsEntry order x → Compares order found x payload → Compares order Equal x payload → found ≡ Equal
    none-equal found x ex one two = compares-one found Equal x payload ex entry one two

    -- no entry is equal to one that has a place between them
    pub place-alone : (xs ys : List Member) → IsRising order (xs ++ ys) → AllByRecursion (IsLow order payload) xs → AllByRecursion (IsHigh order payload) ys
        → AllByRecursion (λ (m : Member). ¬ IsEqual order payload m) (xs ++ ys)
    place-alone [] [] rises low high = tt
    place-alone [] (y ∷ ys) rises low high =
        (λ equal. let no : Greater ≡ Equal = none-equal Greater y.payload rises.0 high.0 equal in let bad : ⊥ = cc in bad, place-alone [] ys rises.2 tt high.1)
    place-alone (x ∷ xs) ys rises low high =
        (λ equal. let no : Less ≡ Equal = none-equal Less x.payload rises.0 low.0 equal in let bad : ⊥ = cc in bad, place-alone xs ys rises.2 low.1 high)

    -- where one of its members is equal, those before it are less
    equal-low : (gone : Member) (xs ys : List Member) → IsRising order (xs ++ gone ∷ ys) → IsEqual order payload gone → AllByRecursion (IsLow order payload) xs
    equal-low gone [] ys rises equal = tt
    equal-low gone (x ∷ xs) ys rises equal =
        let behind = all-back (Stands x.payload) xs (gone ∷ ys) rises.1 in
        let rest = rising-back xs (gone ∷ ys) rises.2 in
        let turned = compares-turn Less x.payload gone.payload rises.0 rest.0 behind.0 in
        (compares-turn Greater payload x.payload entry rises.0 (equal-alike Greater gone.payload payload x.payload rest.0 entry rises.0 equal turned), equal-low gone xs ys rises.2 equal)

    -- and those behind it greater
    equal-high : (gone : Member) (ys : List Member) → IsEntry order gone.payload → IsEqual order payload gone → AllByRecursion (Stands gone.payload) ys → AllByRecursion (λ (n : Member). IsEntry order n.payload) ys → AllByRecursion (IsHigh order payload) ys
    equal-high gone [] its equal all entries = tt
    equal-high gone (y ∷ ys) its equal all entries =
        (compares-turn Less payload y.payload entry entries.0 (equal-alike Less gone.payload payload y.payload its entry entries.0 equal all.0), equal-high gone ys its equal all.1 entries.1)

    -- so no other is equal
    pub equal-alone : (gone : Member) (xs ys : List Member) → IsRising order (xs ++ gone ∷ ys) → IsEqual order payload gone → AllByRecursion (λ (m : Member). ¬ IsEqual order payload m) (xs ++ ys)
    equal-alone gone xs ys rises equal =
        let rest = rising-back xs (gone ∷ ys) rises in
        place-alone xs ys (rising-without gone xs ys rises) (equal-low gone xs ys rises equal) (equal-high gone ys rest.0 equal rest.1 (rising-entries ys rest.2))
