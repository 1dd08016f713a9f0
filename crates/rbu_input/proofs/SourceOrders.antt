-- The `data_` tables in order of their names are those of the definition.
use Rattle.std.proofs.Common.{◌≡◌, ℕ, zero, suc, ◌<◌, Bool, true, false, List, [], ◌∷◌, length, get_or, map, Option, Some, None, refl, sym, ap, ◌∙◌, subst, arith}
use Rattle.std.proofs.Math.Path.{subst⁻¹}
use Rattle.std.proofs.lemmas.List.MinMax.{ranks_by}
use Rattle.std.proofs.lemmas.List.Sorted.{IsPermutation-map, IsPermutation-sym, IsPermutation-trans, sorted_far}
use Rattle.std.proofs.lemmas.Map.Keys.{IsDistinct-IsPermutation}
use Rattle.std.specs.Prelude.{cond, filter, filter_map, is_some}
use Rattle.std.specs.List.{AllByRecursion, IsDistinct, cons_option}
use Rattle.std.specs.List.Sorted.{IsPermutation, IsSortedBy}
use Rattle.std.specs.Option.{unwrap_or, option_map}
use Rattle.std.specs.Ordering.{is_eq, is_lt, nat_cmp, ordering_reverse}
use Rattle.std.specs.declared.cmp.Ordering.{Ordering}
use Rattle.std.specs.declared.cmp.Ordering.TheVariants.{Less, Equal, Greater}
use Rattle.std.specs.Cmp.{IsTotalOrder, IsStrictWeakOrder, on_total}
use Rattle.std.specs.Cmp.Lexicographic.{slice_cmp, nat_list_cmp_total}
use denote.Ref.{Bor}
use denote.Param.Members.{Mut}
use Rattle.std.specs.Fn.{Called, ComparesAs}
use Rattle.std.proofs.lemmas.Fn.{always_returns_same}
use Rattle.database_spec.specs.declared.catalog.NamedEntry.{NamedEntry}
use Rattle.database_spec.specs.declared.catalog.Catalog.{Catalog}
use Rattle.database_spec.specs.ListsLaws.{PairsByRecursion, pairs-from}
use Rattle.prepared_spec.specs.DataTables.{DataTable, AreDataTables, data_table, target_in}
use Rattle.prepared_spec.specs.InputsLaws.{data_tables-one}
use Rattle.rbu_input.specs.Sources.{is_before, is_source, source_of}

-- what holds of each item, and of each two in their order
pub all-of : {A : Type 0} (P : A → Type 0) (xs : List A) → ((k : ℕ) (d : A) → k < length xs → P (get_or xs k d)) → AllByRecursion P xs
all-of P [] each = tt
all-of P (x ∷ xs) each = (each zero x (omega arith), all-of P xs (λ k d less. each (suc k) d (omega (arith, less))))

pairs-of : {A : Type 0} (R : A → A → Type 0) (xs : List A) → ((i j : ℕ) (d : A) → i < j → j < length xs → R (get_or xs i d) (get_or xs j d)) → PairsByRecursion R xs
pairs-of R [] each = tt
pairs-of R (x ∷ xs) each =
    (all-of (R x) xs (λ k d less. each zero (suc k) d (omega arith) (omega (arith, less))), pairs-of R xs (λ i j d less long. each (suc i) (suc j) d (omega (arith, less)) (omega (arith, long))))

module _ {A B : Type 0} (f : A → B) (R : B → B → Type 0) where
  all-map : (x : A) (xs : List A) → AllByRecursion (λ y. R (f x) (f y)) xs → AllByRecursion (R (f x)) (map f xs)
  all-map x [] all = tt
  all-map x (y ∷ xs) all = (all.0, all-map x xs all.1)

  pairs-map : (xs : List A) → PairsByRecursion (λ x y. R (f x) (f y)) xs → PairsByRecursion R (map f xs)
  pairs-map [] pairs = tt
  pairs-map (x ∷ xs) pairs = (all-map x xs pairs.0, pairs-map xs pairs.1)

name_cmp : DataTable → DataTable → Ordering
name_cmp a b = slice_cmp nat_cmp a.source b.source

name_cmp-total : IsTotalOrder name_cmp
unfolding name_cmp
name_cmp-total = on_total (λ (table : DataTable). table.source) nat_list_cmp_total

same_name : DataTable → DataTable → Bool
same_name a b = is_eq (name_cmp a b)

reversed-eq : (o : Ordering) → is_eq (ordering_reverse o) ≡ is_eq o
reversed-eq Less = refl
reversed-eq Equal = refl
reversed-eq Greater = refl

same_name-flips : (a b : DataTable) → same_name a b ≡ same_name b a
unfolding same_name
same_name-flips a b = ap is_eq (name_cmp-total.antisymm a b) ∙ reversed-eq (name_cmp b a)

abbrev Rises : DataTable → DataTable → Type 0
Rises a b = name_cmp a b ≡ Less

abbrev NotAfter : DataTable → DataTable → Type 0
NotAfter a b = is_lt (name_cmp b a) ≡ false

-- names that rise differ
less-apart : (o : Ordering) → o ≡ Less → is_eq o ≡ false
less-apart o e = ap is_eq e

rise-apart : (a : DataTable) (tables : List DataTable) → AllByRecursion (Rises a) tables → AllByRecursion (λ b. same_name a b ≡ false) tables
unfolding same_name
rise-apart a [] all = tt
rise-apart a (b ∷ tables) all = (less-apart (name_cmp a b) all.0, rise-apart a tables all.1)

rise-distinct : (tables : List DataTable) → PairsByRecursion Rises tables → IsDistinct same_name tables
unfolding IsDistinct
rise-distinct [] pairs = tt
rise-distinct (a ∷ tables) pairs = (rise-apart a tables pairs.0, rise-distinct tables pairs.1)

-- and names that differ and do not fall rise
apart-less : (o p : Ordering) → p ≡ ordering_reverse o → is_lt p ≡ false → is_eq o ≡ false → o ≡ Less
apart-less Less p e not_less unequal = refl
apart-less Equal p e not_less unequal = absurd (let h : ◌≡◌ {A = Bool} true false = unequal in let no : ⊥ = cc in no)
apart-less Greater p e not_less unequal = absurd (let h : ◌≡◌ {A = Bool} true false = sym (ap is_lt e) ∙ not_less in let no : ⊥ = cc in no)

apart-rises : (a : DataTable) (tables : List DataTable) → AllByRecursion (NotAfter a) tables → AllByRecursion (λ b. same_name a b ≡ false) tables → AllByRecursion (Rises a) tables
unfolding same_name
apart-rises a [] all apart = tt
apart-rises a (b ∷ tables) all apart = (apart-less (name_cmp a b) (name_cmp b a) (name_cmp-total.antisymm b a) all.0 apart.0, apart-rises a tables all.1 apart.1)

pairs-rise : (tables : List DataTable) → PairsByRecursion NotAfter tables → IsDistinct same_name tables → PairsByRecursion Rises tables
unfolding IsDistinct
pairs-rise [] pairs distinct = tt
pairs-rise (a ∷ tables) pairs distinct = (apart-rises a tables pairs.0 distinct.0, pairs-rise tables pairs.1 distinct.1)

-- the tables with the name of a `data_` table
map-cond : {A B : Type 0} (f : A → B) (b : Bool) (x : A) (xs : List A) → map f (cond b (x ∷ xs) xs) ≡ cond b (f x ∷ map f xs) (map f xs)
map-cond f true x xs = refl
map-cond f false x xs = refl

sources-are : (tables : List NamedEntry) → filter_map data_table tables ≡ map source_of (filter is_source tables)
sources-are [] = refl
sources-are (named ∷ tables) = by (target_in named.name) (sources-are tables) ∙ sym (map-cond source_of (is_some (target_in named.name)) named (filter is_source tables))
  where
    by : (target : Option (List ℕ)) → filter_map data_table tables ≡ map source_of (filter is_source tables)
        → cons_option (option_map (λ (t : List ℕ). let table : DataTable = record { source = named.name; target = t; entry = named.entry } in table) target) (filter_map data_table tables)
        ≡ cond (is_some target) (record { source = named.name; target = unwrap_or target []; entry = named.entry } ∷ map source_of (filter is_source tables)) (map source_of (filter is_source tables))
    by None rest = rest
    by (Some t) rest = ap (λ (ts : List DataTable). record { source = named.name; target = t; entry = named.entry } ∷ ts) rest

abbrev pub sources_in : List (Bor NamedEntry) → List DataTable
sources_in sources = map (λ (named : Bor NamedEntry). source_of named.now) sources

map-twice : (sources : List (Bor NamedEntry)) → map source_of (map (λ (named : Bor NamedEntry). named.now) sources) ≡ sources_in sources
map-twice [] = refl
map-twice (named ∷ sources) = ap (λ (tables : List DataTable). source_of named.now ∷ tables) (map-twice sources)

-- a list of these in order has the order of the definition
pub sources-ordered : (catalog : Catalog) (sources : List (Bor NamedEntry)) (tables : List DataTable) → IsPermutation (filter is_source catalog.tables) (map (λ (named : Bor NamedEntry). named.now) sources)
    → IsSortedBy is_before sources → AreDataTables catalog tables → tables ≡ sources_in sources
unfolding name_cmp
sources-ordered catalog sources tables permutes sorted are =
    let all : IsPermutation (filter_map data_table catalog.tables) (sources_in sources) =
    subst⁻¹ (λ (ts : List DataTable). IsPermutation ts (sources_in sources)) (sources-are catalog.tables)
    (subst (IsPermutation (map source_of (filter is_source catalog.tables))) (map-twice sources) (IsPermutation-map source_of (filter is_source catalog.tables) (map (λ (named : Bor NamedEntry). named.now) sources) permutes)) in
    let between : IsPermutation tables (sources_in sources) =
    IsPermutation-trans tables (filter_map data_table catalog.tables) (sources_in sources) (IsPermutation-sym (filter_map data_table catalog.tables) tables are.all) all in
    let distinct = IsDistinct-IsPermutation same_name same_name-flips tables (sources_in sources) between (rise-distinct tables (pairs-of Rises tables are.sorted)) in
    let order = ranks_by nat_list_cmp_total (λ (named : Bor NamedEntry). named.now.name) in
    let not_after = pairs-of (λ (a b : Bor NamedEntry). NotAfter (source_of a.now) (source_of b.now)) sources (λ i j d less long. sorted_far is_before order sources sorted i j d (omega (arith, less)) long) in
    let rises = pairs-rise (sources_in sources) (pairs-map (λ (named : Bor NamedEntry). source_of named.now) NotAfter sources not_after) distinct in
    data_tables-one catalog tables (sources_in sources) are (record { all = all; sorted = pairs-from Rises (sources_in sources) rises })

-- what a sort by names leaves
pub sorted-from : {F : Type 0} {g : Mut F (Bor (Bor NamedEntry) × (Bor (Bor NamedEntry) × Unit {0})) Ordering} {f : F} (sources : List (Bor NamedEntry))
    → ((lt : Bor NamedEntry → Bor NamedEntry → Bool) → IsStrictWeakOrder lt → ComparesAs g lt f → IsSortedBy lt sources)
    → ((a : Bor (Bor NamedEntry) × (Bor (Bor NamedEntry) × Unit {0})) (r : Ordering) (f' : F) → Called g f a r f' → (r ≡ slice_cmp nat_cmp a.0.now.now.name a.1.0.now.now.name) × (f' ≡ f)) → IsSortedBy is_before sources
sorted-from {g = g} {f = f} sources sorted calls =
    sorted is_before (ranks_by nat_list_cmp_total (λ (named : Bor NamedEntry). named.now.name))
    (always_returns_same g (λ a r. is_lt r ≡ is_before a.0.now a.1.0.now) f (λ a r f' k. (ap is_lt (calls a r f' k).0, (calls a r f' k).1)))
