-- Rows of one key are met by a map from keys as they compare to the first row that has each.
use Rattle.std.proofs.Common.{◌≡◌, ℕ, Bool, true, false, List, [], ◌∷◌, ◌++◌, length, map, Option, Some, None, refl, sym, ap, ap₂, ◌∙◌, subst, arith}
use Rattle.std.proofs.lemmas.List.{length-map}
use Rattle.std.proofs.lemmas.List.Folds.{find-append}
use Rattle.std.proofs.lemmas.Slice.Eq.{bytes_eq-Decides}
use denote.Ref.{Bor}
use Rattle.std.specs.Prelude.{cond, find, if◌then◌else◌, codes, bytes_eq, slice_index_or}
use Rattle.std.specs.List.{AllByRecursion}
use Rattle.std.specs.Option.{option_or, option_copied}
use Rattle.std.specs.Ordering.{is_eq, ordering_then}
use Rattle.std.specs.declared.cmp.Ordering.TheVariants.{Equal}
use Rattle.std.specs.Cmp.{alike_right, Equal-is}
use Rattle.rbu_value.specs.declared.order.Collation.{Collation}
use Rattle.rbu_value.specs.declared.order.Collation.TheVariants.{Binary}
use Rattle.rbu_value.specs.declared.value.Value.{Value}
use Rattle.rbu_value.specs.declared.value.Value.TheVariants.{Null, Int, Text, Blob}
use Rattle.rbu_value.specs.Order.{value_cmp}
use Rattle.database_spec.specs.Keys.{columns_cmp}
use Rattle.rbu_rows.specs.declared.prepared.Prepared.{Prepared}
use Rattle.schema_spec.specs.declared.schema.Table.{Table}
use Rattle.tree_spec.specs.Trees.{Member}
use Rattle.prepared_spec.specs.PreparedRows.{IsPrepared, value_named}
use Rattle.prepared_spec.specs.RowKeys.{collations_among, key_at, key_collations, same_key}
use Rattle.prepared_spec.specs.Inputs.{key_twice}
use Rattle.compared_keys.specs.declared.keys.ComparedKey.{ComparedKey}
use Rattle.compared_keys.specs.Keys.{compared_key, values_order, key_order, HasKey}
use Rattle.compared_keys.specs.Noted.{has_key, AreNoted}
use Rattle.compared_keys.specs.KeysLaws.{key-long, keys-order}
use Rattle.compared_keys.specs.NotedLaws.{noted-more}

-- a prepared row has a value for each column of its key
pub prepared-keyed : (target own : Table) (member : Member) (prepared : Prepared) → IsPrepared target own member prepared → HasKey target prepared
prepared-keyed target own member prepared (row, is, prepares) = ap length prepares.key ∙ key-long target target.key refl (value_named own (codes "rbu_rowid") row) prepared.values

module _ (table : Table) where
  -- the first row of the same key is what is noted of it
  found-noted : (before : List Prepared) (key : ComparedKey) (row : Prepared) → key.values ≡ compared_key (key_collations table) row.key → HasKey table row → AllByRecursion (HasKey table) before
      → find (λ (other : Prepared). same_key table other.key row.key) before ≡ find (has_key (key_collations table) key) before
  found-noted [] key row key_is has all = refl
  found-noted (other ∷ before) key row key_is has all =
      ap₂ (λ (b : Bool) (rest : Option Prepared). cond b (Some other) rest)
      (ap is_eq (keys-order (key_collations table) other.key row.key (omega (arith, all.0)) (omega (arith, has)) ∙ ap (values_order (compared_key (key_collations table) other.key)) (sym key_is)))
      (found-noted before key row key_is has all.1)

  -- the rows behind these, of which no two have one key
  abbrev twice_from : Option Prepared → List Prepared → Prepared → List Prepared → Option (Prepared × Prepared)
  twice_from found before row rows =
      elim found as (λ _. Option (Prepared × Prepared)) [ Some other ↦ Some (other, row) | None ↦ key_twice table (before ++ row ∷ []) rows ]

  twice-next : (before : List Prepared) (row : Prepared) (rows : List Prepared) (found : Option Prepared) → find (λ (other : Prepared). same_key table other.key row.key) before ≡ found
      → key_twice table before (row ∷ rows) ≡ twice_from found before row rows
  twice-next before row rows found e = ap (λ (o : Option Prepared). twice_from o before row rows) e

  pub all-more : (rows : List Prepared) (row : Prepared) → AllByRecursion (HasKey table) rows → HasKey table row → AllByRecursion (HasKey table) (rows ++ row ∷ [])
  all-more [] row all has = (has, tt)
  all-more (first ∷ rows) row all has = (all.0, all-more rows row all.1 has)

  -- the rows in front of those that are left differ in their keys, which are noted
  pub record AreTested (rows : List Prepared) (noted : ComparedKey → Option Prepared) (left : List Prepared) : Type 0 where
    pub before : List Prepared
    pub are_noted : AreNoted (key_collations table) noted before
    pub have_keys : AllByRecursion (HasKey table) before
    pub left_have : AllByRecursion (HasKey table) left
    pub same : key_twice table [] rows ≡ key_twice table before left

  pub tested-none : (rows : List Prepared) (noted : ComparedKey → Option Prepared) → AllByRecursion (HasKey table) rows → ((key : ComparedKey) → noted key ≡ None) → AreTested rows noted rows
  tested-none rows noted all none = record { before = []; are_noted = none; have_keys = tt; left_have = all; same = refl }

  module _ (rows left : List Prepared) (noted : ComparedKey → Option Prepared) (row : Prepared) (rest : List Prepared) (left_is : left ≡ row ∷ rest) (key : ComparedKey)
      (key_is : key.values ≡ compared_key (key_collations table) row.key) (tested : AreTested rows noted left) where
    have : AllByRecursion (HasKey table) (row ∷ rest)
    have = subst (AllByRecursion (HasKey table)) left_is tested.left_have

    found-is : (found : Option Prepared) → noted key ≡ found → key_twice table [] rows ≡ twice_from found tested.before row rest
    found-is found e =
        tested.same ∙ ap (key_twice table tested.before) left_is
        ∙ twice-next tested.before row rest found (found-noted tested.before key row key_is have.0 tested.have_keys ∙ sym (tested.are_noted key) ∙ e)

    pub tested-twice : (first : Prepared) → noted key ≡ Some first → key_twice table [] rows ≡ Some (first, row)
    tested-twice first e = found-is (Some first) e

    pub tested-more : (more : ComparedKey → Option Prepared) → noted key ≡ None → ((other : ComparedKey) → more other ≡ cond (is_eq (key_order key other)) (Some row) (noted other)) → AreTested rows more rest
    tested-more more none adds = record {
      before = tested.before ++ row ∷ [];
      are_noted = noted-more (key_collations table) noted more tested.before key row key_is none tested.are_noted adds;
      have_keys = all-more tested.before row tested.have_keys have.0;
      left_have = have.1;
      same = found-is None none;
    }

  pub tested-end : (rows left : List Prepared) (noted : ComparedKey → Option Prepared) → AreTested rows noted left → left ≡ [] → key_twice table [] rows ≡ None
  tested-end rows left noted tested none = tested.same ∙ ap (key_twice table tested.before) none
