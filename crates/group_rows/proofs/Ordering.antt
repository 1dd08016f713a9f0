-- The rows of a batch, sorted by their keys, are those of the definition.
use Rattle.std.proofs.Common.{◌≡◌, ◌≢◌, Bool, true, false, List, [], ◌∷◌, map, refl, sym, ap, ◌∙◌, subst, arith}
use Rattle.std.proofs.Math.Path.{subst⁻¹}
use Rattle.std.proofs.lemmas.Fn.{always_returns_same}
use Rattle.std.proofs.lemmas.List.MinMax.{ranks_by}
use Rattle.std.proofs.lemmas.List.Sorted.{Contains-permutation, IsPermutation-map, IsPermutation-sym}
use Rattle.std.proofs.lemmas.Map.Keys.{IsDistinct-IsPermutation}
use Rattle.std.specs.Fn.{Called, ComparesAs}
use Rattle.std.specs.List.{AllByRecursion, IsDistinct}
use Rattle.std.specs.List.Sorted.{IsPermutation, IsSortedBy}
use Rattle.std.specs.Ordering.{is_eq, is_lt, ordering_reverse}
use Rattle.std.specs.declared.cmp.Ordering.{Ordering}
use Rattle.std.specs.declared.cmp.Ordering.TheVariants.{Less, Equal, Greater}
use Rattle.std.specs.Cmp.{IsStrictWeakOrder, IsTotalOrder, on_total}
use denote.Param.Members.{Mut}
use denote.Ref.{Bor}
use Rattle.rbu_value.specs.declared.value.Value.{Value}
use Rattle.rbu_rows.specs.declared.prepared.Prepared.{Prepared}
use Rattle.schema_spec.specs.declared.schema.Table.{Table}
use Rattle.database_spec.specs.ListsLaws.{PairsByRecursion, order-one, pairs-from}
use Rattle.prepared_spec.specs.RowKeys.{key_cmp, key_collations, IsInKeyOrder}
use Rattle.prepared_spec.specs.MembersLaws.{has-from, has-to}
use Rattle.prepared_spec.specs.ChangesLaws.{all-has}
use Rattle.prepared_laws.specs.TablesMadeLaws.{pairs-with}
use Rattle.compared_keys.specs.Keys.{key_order, values_order, HasKey}
use Rattle.compared_keys.specs.KeysLaws.{values_order-total, keys-order}
use Rattle.index_changes.specs.ListsLaws.{pairs-at}
use Rattle.index_changes.specs.SortingLaws.{sorted-rise}
use Rattle.group_rows.specs.declared.ordered.Keyed.{Keyed}
use Rattle.group_rows.specs.Runs.{seen, with_key}
use Rattle.group_rows.proofs.Lists.{all-by}

reversed-eq : (o : Ordering) → is_eq (ordering_reverse o) ≡ is_eq o
reversed-eq Less = refl
reversed-eq Equal = refl
reversed-eq Greater = refl

abbrev order : List Value × Prepared → List Value × Prepared → Ordering
order a b = values_order a.0 b.0

order-total : IsTotalOrder order
order-total = on_total (λ (e : List Value × Prepared). e.0) values_order-total

same : List Value × Prepared → List Value × Prepared → Bool
same a b = is_eq (order a b)

same-flips : (a b : List Value × Prepared) → same a b ≡ same b a
unfolding same
same-flips a b = ap is_eq (order-total.antisymm a b) ∙ reversed-eq (order b a)

less-all : (a : List Value × Prepared) (xs : List (List Value × Prepared)) → AllByRecursion (λ b. order a b ≡ Less) xs → AllByRecursion (λ b. same a b ≡ false) xs
unfolding same
less-all a [] all = tt
less-all a (b ∷ xs) all = (ap is_eq all.0, less-all a xs all.1)

less-distinct : (xs : List (List Value × Prepared)) → PairsByRecursion (λ a b. order a b ≡ Less) xs → IsDistinct same xs
unfolding IsDistinct
less-distinct [] pairs = tt
less-distinct (a ∷ xs) pairs = (less-all a xs pairs.0, less-distinct xs pairs.1)

unlike-all : (a : List Value × Prepared) (xs : List (List Value × Prepared)) → AllByRecursion (λ b. same a b ≡ false) xs → AllByRecursion (λ b. order a b ≢ Equal) xs
unfolding same
unlike-all a [] all = tt
unlike-all a (b ∷ xs) all = ((λ e. let h : ◌≡◌ {A = Bool} false true = sym all.0 ∙ ap is_eq e in let no : ⊥ = cc in no), unlike-all a xs all.1)

distinct-unlike : (xs : List (List Value × Prepared)) → IsDistinct same xs → PairsByRecursion (λ a b. order a b ≢ Equal) xs
unfolding IsDistinct
distinct-unlike [] distinct = tt
distinct-unlike (a ∷ xs) distinct = (unlike-all a xs distinct.0, distinct-unlike xs distinct.1)

all-map : {A B : Type 0} (P : B → Type 0) (f : A → B) (xs : List A) → AllByRecursion (λ x. P (f x)) xs → AllByRecursion P (map f xs)
all-map P f [] all = tt
all-map P f (x ∷ xs) all = (all.0, all-map P f xs all.1)

pairs-map : {A B : Type 0} (S : B → B → Type 0) (f : A → B) (xs : List A) → PairsByRecursion (λ x y. S (f x) (f y)) xs → PairsByRecursion S (map f xs)
pairs-map S f [] pairs = tt
pairs-map S f (x ∷ xs) pairs = (all-map (S (f x)) f xs pairs.0, pairs-map S f xs pairs.1)

map-all : {A B : Type 0} (P : B → Type 0) (f : A → B) (xs : List A) → AllByRecursion P (map f xs) → AllByRecursion (λ x. P (f x)) xs
map-all P f [] all = tt
map-all P f (x ∷ xs) all = (all.0, map-all P f xs all.1)

map-pairs : {A B : Type 0} (S : B → B → Type 0) (f : A → B) (xs : List A) → PairsByRecursion S (map f xs) → PairsByRecursion (λ x y. S (f x) (f y)) xs
map-pairs S f [] pairs = tt
map-pairs S f (x ∷ xs) pairs = (map-all (S (f x)) f xs pairs.0, map-pairs S f xs pairs.1)

module _ (table : Table) (rows ordered : List Prepared) (is : IsInKeyOrder table rows ordered) (have : AllByRecursion (HasKey table) rows) where
  pub ordered-keys : AllByRecursion (HasKey table) ordered
  ordered-keys = all-by (HasKey table) ordered (λ p h. all-has (HasKey table) rows p have (has-from rows p (Contains-permutation ordered rows p (IsPermutation-sym rows ordered is.all) (has-to ordered p h))))

  pub ordered-pairs : PairsByRecursion (λ (a b : Prepared). key_cmp table a.key b.key ≡ Less) ordered
  ordered-pairs = pairs-at (λ (a b : Prepared). key_cmp table a.key b.key ≡ Less) ordered is.sorted

  abbrev keyed : List (List Value × Prepared)
  keyed = map (with_key table) ordered

  keyed-less : PairsByRecursion (λ a b. order a b ≡ Less) keyed
  keyed-less =
      pairs-map (λ a b. order a b ≡ Less) (with_key table) ordered
      (pairs-with (HasKey table) (λ (a b : Prepared). key_cmp table a.key b.key ≡ Less) (λ (a b : Prepared). order (with_key table a) (with_key table b) ≡ Less) ordered
      (λ a b p q less. sym (keys-order (key_collations table) a.key b.key (omega (arith, p)) (omega (arith, q))) ∙ less) ordered-keys ordered-pairs)

  less-once : (a b : List Value × Prepared) → order a b ≡ Less → order b a ≡ Less → ⊥
  less-once a b p q = let h : ◌≡◌ {A = Ordering} Less Greater = sym p ∙ order-total.antisymm a b ∙ ap ordering_reverse q in let no : ⊥ = cc in no

  pub ordered-is : (before after : List Keyed) → map seen before ≡ map (with_key table) rows → IsPermutation before after → IsSortedBy (λ (a b : Keyed). is_lt (order (seen a) (seen b))) after → map seen after ≡ keyed
  ordered-is before after e permutes sorted =
      let all = map (with_key table) rows in
      let to_keyed : IsPermutation all keyed = IsPermutation-map (with_key table) rows ordered is.all in
      let distinct = IsDistinct-IsPermutation same same-flips keyed all (IsPermutation-sym all keyed to_keyed) (less-distinct keyed keyed-less) in
      let unlike = map-pairs (λ a b. order a b ≢ Equal) seen before (subst⁻¹ (PairsByRecursion (λ a b. order a b ≢ Equal)) e (distinct-unlike all distinct)) in
      let rise = sorted-rise (λ (a b : Keyed). order (seen a) (seen b)) (on_total seen order-total) before after unlike permutes sorted in
      let from : IsPermutation all (map seen after) = subst (λ xs. IsPermutation xs (map seen after)) e (IsPermutation-map seen before after permutes) in
      order-one (λ a b. order a b ≡ Less) less-once all (map seen after) keyed (from, pairs-from (λ a b. order a b ≡ Less) (map seen after) (pairs-map (λ a b. order a b ≡ Less) seen after rise))
      (to_keyed, pairs-from (λ a b. order a b ≡ Less) keyed keyed-less)

-- what a sort by keys leaves
pub sorted-from : {F : Type 0} {g : Mut F (Bor Keyed × (Bor Keyed × Unit {0})) Ordering} {f : F} (sorted_rows : List Keyed) → ((lt : Keyed → Keyed → Bool) → IsStrictWeakOrder lt → ComparesAs g lt f → IsSortedBy lt sorted_rows)
    → ((a : Bor Keyed × (Bor Keyed × Unit {0})) (r : Ordering) (f' : F) → Called g f a r f' → (r ≡ key_order a.0.now.key a.1.0.now.key) × (f' ≡ f)) → IsSortedBy (λ (a b : Keyed). is_lt (order (seen a) (seen b))) sorted_rows
sorted-from {g = g} {f = f} sorted_rows sorted calls =
    let lt = λ (a b : Keyed). is_lt (order (seen a) (seen b)) in
    sorted lt (ranks_by order-total seen) (always_returns_same g (λ a r. is_lt r ≡ lt a.0.now a.1.0.now) f (λ a r f' k. (ap is_lt (calls a r f' k).0, (calls a r f' k).1)))
