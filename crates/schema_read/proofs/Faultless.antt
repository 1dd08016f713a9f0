-- What is known of each of some members without a fault.
use Rattle.std.proofs.Common.{◌≡◌, ℕ, ◌≤◌, ◌==◌, ◌||◌, Bool, true, false, List, [], ◌∷◌, ◌++◌, map, filter, Option, Some, None, Result, Err, refl, ap, ap₂, ◌∙◌, subst, arith, append_assoc, append-nil}
use Rattle.std.proofs.Math.Path.{subst⁻¹}
use Rattle.std.specs.Prelude.{nat_lt, not, if◌then◌else◌}
use Rattle.std.specs.List.{AllByRecursion, IsDistinct, list_any}
use Rattle.std.proofs.lemmas.Bool.Decides.{Decides-eqb, Decides-ltb}
use Rattle.std.proofs.lemmas.List.Folds.{list_any-append}
use Rattle.common_spec.specs.Reading.{OrNone}
use Rattle.schema_spec.specs.declared.schema.Clause.TheVariants.{View as ViewClause}
use Rattle.schema_spec.specs.declared.schema.SqlFault.{SqlFault}
use Rattle.schema_spec.specs.declared.schema.SqlFault.TheVariants.{OutsideProfile}
use Rattle.schema_spec.specs.declared.schema.Table.{Table}
use Rattle.tree_spec.specs.Standing.{Paged, Sizes, IsNumber}
use Rattle.database_spec.specs.declared.catalog.SchemaKind.{SchemaKind}
use Rattle.database_spec.specs.declared.catalog.SchemaKind.TheVariants as kind
use Rattle.database_spec.specs.declared.catalog.SchemaRow.{SchemaRow}
use Rattle.database_spec.specs.Catalogs.{is_table, IsTableMeaning}
use Rattle.database_spec.specs.RightRows.{is_virtual, rows_of, IsRight, IsFaultless, AreFaultless, IsRightTable, IsRightIndex}
use Rattle.schema_read.specs.Found.{found_rows, is_table_kind, rows_in}
use Rattle.schema_read.specs.Entries.{root_in, root_in_row, root_of}
use Rattle.schema_read.specs.declared.found.Found.{Found}

module _ (sizes : Sizes) (base : Paged) (rows : List SchemaRow) where
  rows-cons : (row : Option SchemaRow) (found : List Found) → rows_of (row ∷ []) ++ rows_in found ≡ rows_of (row ∷ found_rows found)
  rows-cons None found = refl
  rows-cons (Some row) found = refl

  -- a member among others has no fault behind those before it
  pub faultless-at : (before : List SchemaRow) (front : List Found) (one : Found) (back : List Found) → AreFaultless sizes base rows before (found_rows (front ++ one ∷ back))
      → IsFaultless sizes base rows (before ++ rows_in front) one.row
  faultless-at before [] one back are = subst⁻¹ (λ (b : List SchemaRow). IsFaultless sizes base rows b one.row) (append-nil before) are.0
  faultless-at before (first ∷ front) one back are =
      subst (λ (b : List SchemaRow). IsFaultless sizes base rows b one.row)
      (append_assoc before (rows_of (first.row ∷ [])) (rows_in front) ∙ ap (λ (l : List SchemaRow). before ++ l) (rows-cons first.row front))
      (faultless-at (before ++ rows_of (first.row ∷ [])) front one back are.1)

  -- a root is 0, or a number that a link may name and that none before has
  pub record HasRoot (before : List SchemaRow) (root : ℕ) : Type 0 where
    pub small : base.count ≤ 4294967295 → root ≤ 4294967295
    pub own : (root == 0) ≡ false → (2 ≤ root) × (list_any (λ (other : SchemaRow). other.root == root) before ≡ false)

  none : (before : List SchemaRow) (root : ℕ) → root ≡ 0 → HasRoot before root
  none before root e = record { small = λ few. omega (arith, e); own = λ some. absurd (let yes = (Decides-eqb root 0).1 e in let h : ⊥ = cc in h) }

  own-root : (before : List SchemaRow) (root : ℕ) → IsNumber sizes base root → list_any (λ (other : SchemaRow). other.root == root) before ≡ false → HasRoot before root
  own-root before root number own = record { small = λ few. omega (arith, few, number.within); own = λ some. (number.behind_first, own) }

  table-root : (before : List SchemaRow) (row : SchemaRow) → IsRightTable sizes base rows before row → HasRoot before row.root
  table-root before row right = by (is_virtual right.meaning) refl
    where
      by : (b : Bool) → is_virtual right.meaning ≡ b → HasRoot before row.root
      by true e = none before row.root (right.virtual_root e)
      by false e = let own = right.root e in own-root before row.root own.0 own.1

  pub has-root : (before : List SchemaRow) (row : SchemaRow) → IsRight sizes base rows before row → HasRoot before row.root
  has-root before row = by row.kind
    where
      by : (k : SchemaKind) → (elim k as (λ _. Type 0) [ kind.Table ↦ IsRightTable sizes base rows before row | kind.Index ↦ IsRightIndex sizes base rows before row | kind.View ↦ row.root ≡ 0 | kind.Trigger ↦ row.root ≡ 0 ])
          → HasRoot before row.root
      by kind.Table right = table-root before row right
      by kind.Index right = own-root before row.root right.root.0 right.root.1
      by kind.View right = none before row.root right
      by kind.Trigger right = none before row.root right

  -- a table or a view has a meaning
  pub meaning-there : (before : List SchemaRow) (row : SchemaRow) (meaning : Option (Result Table SqlFault)) → is_table row ≡ true → IsRight sizes base rows before row → OrNone (IsTableMeaning row.kind row.sql) meaning
      → (m : Result Table SqlFault) × (meaning ≡ Some m) × IsTableMeaning row.kind row.sql m
  meaning-there before row meaning table right means = by meaning means
    where
      some : (k : SchemaKind) → is_table_kind k ≡ true
          → (elim k as (λ _. Type 0) [ kind.Table ↦ IsRightTable sizes base rows before row | kind.Index ↦ IsRightIndex sizes base rows before row | kind.View ↦ row.root ≡ 0 | kind.Trigger ↦ row.root ≡ 0 ])
          → ((m : Result Table SqlFault) → ¬ IsTableMeaning k row.sql m) → ⊥
      some kind.Table is right none = none right.meaning right.means
      some kind.View is right none = none (Err (OutsideProfile ViewClause)) refl
      some kind.Index is right none = let h : ⊥ = cc in h
      some kind.Trigger is right none = let h : ⊥ = cc in h

      by : (meaning : Option (Result Table SqlFault)) → OrNone (IsTableMeaning row.kind row.sql) meaning → (m : Result Table SqlFault) × (meaning ≡ Some m) × IsTableMeaning row.kind row.sql m
      by None none = absurd (some row.kind table right none)
      by (Some m) means = (m, refl, means)

  -- another row has none
  pub meaning-none : (row : SchemaRow) (meaning : Option (Result Table SqlFault)) → is_table row ≡ false → OrNone (IsTableMeaning row.kind row.sql) meaning → meaning ≡ None
  meaning-none row None other means = refl
  meaning-none row (Some m) other means = absurd (by row.kind other means)
    where
      by : (k : SchemaKind) → is_table_kind k ≡ false → IsTableMeaning k row.sql m → ⊥
      by kind.Table e means = let h : ⊥ = cc in h
      by kind.View e means = let h : ⊥ = cc in h
      by kind.Index e means = means
      by kind.Trigger e means = means

  -- Roots.

  abbrev pub given : List Found → List ℕ
  given found = filter (λ root. not (root == 0)) (map (λ row. row.root) (rows_in found))

  given-none : (found : List Found) (root : ℕ) → (root == 0) ≡ true → (P : List ℕ → Type 0) → P (filter (λ r. not (r == 0)) (map (λ (row : SchemaRow). row.root) (rows_in found))) → P (if not (root == 0) then root ∷ given found else given found)
  given-none found root e P h = subst⁻¹ (λ (b : Bool). P (if not b then root ∷ given found else given found)) e h

  given-some : (found : List Found) (root : ℕ) → (root == 0) ≡ false → (P : List ℕ → Type 0) → P (root ∷ given found) → P (if not (root == 0) then root ∷ given found else given found)
  given-some found root e P h = subst⁻¹ (λ (b : Bool). P (if not b then root ∷ given found else given found)) e h

  -- a root that was there before comes no more
  differs : (root : ℕ) (before : List SchemaRow) (found : List Found) → list_any (λ (other : SchemaRow). other.root == root) before ≡ true → AreFaultless sizes base rows before (found_rows found)
      → AllByRecursion (λ (y : ℕ). (root == y) ≡ false) (given found)
  differs root before [] there are = tt
  differs root before (one ∷ found) there are = by one.row are (λ row later. differs root (before ++ row ∷ []) found later)
    where
      grown : (row : SchemaRow) → list_any (λ (other : SchemaRow). other.root == root) (before ++ row ∷ []) ≡ true
      grown row = list_any-append (λ (other : SchemaRow). other.root == root) before (row ∷ []) ∙ ap (λ (b : Bool). b || list_any (λ (other : SchemaRow). other.root == root) (row ∷ [])) there

      unlike : (row : SchemaRow) → list_any (λ (other : SchemaRow). other.root == row.root) before ≡ false → (b : Bool) → (root == row.root) ≡ b → b ≡ false
      unlike row own true e =
          let same : root ≡ row.root = (Decides-eqb root row.root).0 e in
          let also : list_any (λ (other : SchemaRow). other.root == row.root) before ≡ true = subst (λ (r : ℕ). list_any (λ (other : SchemaRow). other.root == r) before ≡ true) same there in
          cc
      unlike row own false e = refl

      by : (row : Option SchemaRow) → AreFaultless sizes base rows before (row ∷ found_rows found)
          → ((row : SchemaRow) → list_any (λ (other : SchemaRow). other.root == root) (before ++ row ∷ []) ≡ true → AreFaultless sizes base rows (before ++ row ∷ []) (found_rows found) → AllByRecursion (λ (y : ℕ). (root == y) ≡ false) (given found))
          → AllByRecursion (λ (y : ℕ). (root == y) ≡ false) (filter (λ r. not (r == 0)) (map (λ (row : SchemaRow). row.root) (rows_of (row ∷ found_rows found))))
      by None are later = absurd are.0.0
      by (Some row) are later =
          let rest = later row (grown row) are.1 in
          zeroes (row.root == 0) refl rest
        where
          zeroes : (b : Bool) → (row.root == 0) ≡ b → AllByRecursion (λ (y : ℕ). (root == y) ≡ false) (given found)
              → AllByRecursion (λ (y : ℕ). (root == y) ≡ false) (filter (λ r. not (r == 0)) (map (λ (row : SchemaRow). row.root) (row ∷ rows_in found)))
          zeroes true e rest = given-none found row.root e (AllByRecursion (λ (y : ℕ). (root == y) ≡ false)) rest
          zeroes false e rest = given-some found row.root e (AllByRecursion (λ (y : ℕ). (root == y) ≡ false)) (unlike row ((has-root before row are.0.0).own e).1 (root == row.root) refl, rest)

  pub distinct : (before : List SchemaRow) (found : List Found) → AreFaultless sizes base rows before (found_rows found) → IsDistinct (λ (x y : ℕ). x == y) (given found)
  unfolding IsDistinct
  distinct before [] are = tt
  distinct before (one ∷ found) are = by one.row are (λ row later. distinct (before ++ row ∷ []) found later)
    where
      or_true : (b : Bool) → (b || true) ≡ true
      or_true true = refl
      or_true false = refl

      there : (row : SchemaRow) → list_any (λ (other : SchemaRow). other.root == row.root) (before ++ row ∷ []) ≡ true
      there row =
          list_any-append (λ (other : SchemaRow). other.root == row.root) before (row ∷ [])
          ∙ ap (λ (b : Bool). list_any (λ (other : SchemaRow). other.root == row.root) before || (b || false)) ((Decides-eqb row.root row.root).1 refl) ∙ or_true (list_any (λ (other : SchemaRow). other.root == row.root) before)

      by : (row : Option SchemaRow) → AreFaultless sizes base rows before (row ∷ found_rows found)
          → ((row : SchemaRow) → AreFaultless sizes base rows (before ++ row ∷ []) (found_rows found) → IsDistinct (λ (x y : ℕ). x == y) (given found))
          → IsDistinct (λ (x y : ℕ). x == y) (filter (λ r. not (r == 0)) (map (λ (row : SchemaRow). row.root) (rows_of (row ∷ found_rows found))))
      by None are later = absurd are.0.0
      by (Some row) are later = zeroes (row.root == 0) refl
        where
          zeroes : (b : Bool) → (row.root == 0) ≡ b → IsDistinct (λ (x y : ℕ). x == y) (filter (λ r. not (r == 0)) (map (λ (row : SchemaRow). row.root) (row ∷ rows_in found)))
          zeroes true e = given-none found row.root e (IsDistinct (λ (x y : ℕ). x == y)) (later row are.1)
          zeroes false e = given-some found row.root e (IsDistinct (λ (x y : ℕ). x == y)) (differs row.root (before ++ row ∷ []) found (there row) are.1, later row are.1)

  -- none of them is that of the schema
  pub not-first : (before : List SchemaRow) (found : List Found) → AreFaultless sizes base rows before (found_rows found) → AllByRecursion (λ (y : ℕ). (1 == y) ≡ false) (given found)
  not-first before [] are = tt
  not-first before (one ∷ found) are = by one.row are (λ row later. not-first (before ++ row ∷ []) found later)
    where
      apart : (y : ℕ) → 2 ≤ y → (b : Bool) → (1 == y) ≡ b → b ≡ false
      apart y high true e = absurd (omega (arith, high, (Decides-eqb 1 y).0 e))
      apart y high false e = refl

      by : (row : Option SchemaRow) → AreFaultless sizes base rows before (row ∷ found_rows found)
          → ((row : SchemaRow) → AreFaultless sizes base rows (before ++ row ∷ []) (found_rows found) → AllByRecursion (λ (y : ℕ). (1 == y) ≡ false) (given found))
          → AllByRecursion (λ (y : ℕ). (1 == y) ≡ false) (filter (λ r. not (r == 0)) (map (λ (row : SchemaRow). row.root) (rows_of (row ∷ found_rows found))))
      by None are later = absurd are.0.0
      by (Some row) are later = zeroes (row.root == 0) refl
        where
          zeroes : (b : Bool) → (row.root == 0) ≡ b → AllByRecursion (λ (y : ℕ). (1 == y) ≡ false) (filter (λ r. not (r == 0)) (map (λ (row : SchemaRow). row.root) (row ∷ rows_in found)))
          zeroes true e = given-none found row.root e (AllByRecursion (λ (y : ℕ). (1 == y) ≡ false)) (later row are.1)
          zeroes false e = given-some found row.root e (AllByRecursion (λ (y : ℕ). (1 == y) ≡ false)) (apart row.root ((has-root before row are.0.0).own e).0 (1 == row.root) refl, later row are.1)

  -- roots in 32 bits are the roots
  root-kept : (root : ℕ) → root ≤ 4294967295 → root_of root ≡ root
  root-kept root small = by (nat_lt 4294967295 root) refl
    where
      by : (b : Bool) → nat_lt 4294967295 root ≡ b → (if b then 0 else root) ≡ root
      by true e = absurd (omega (arith, small, (Decides-ltb 4294967295 root).0 e))
      by false e = refl

  pub root-is : (before : List SchemaRow) (row : SchemaRow) → base.count ≤ 4294967295 → IsRight sizes base rows before row → root_of row.root ≡ row.root
  root-is before row few right = root-kept row.root ((has-root before row right).small few)

  pub roots-are : (before : List SchemaRow) (found : List Found) → base.count ≤ 4294967295 → AreFaultless sizes base rows before (found_rows found) → map root_in found ≡ map (λ (row : SchemaRow). row.root) (rows_in found)
  roots-are before [] few are = refl
  roots-are before (one ∷ found) few are = by one.row are (λ row later. roots-are (before ++ row ∷ []) found few later)
    where
      by : (row : Option SchemaRow) → AreFaultless sizes base rows before (row ∷ found_rows found)
          → ((row : SchemaRow) → AreFaultless sizes base rows (before ++ row ∷ []) (found_rows found) → map root_in found ≡ map (λ (row : SchemaRow). row.root) (rows_in found))
          → root_in_row row ∷ map root_in found ≡ map (λ (row : SchemaRow). row.root) (rows_of (row ∷ found_rows found))
      by None are later = absurd are.0.0
      by (Some row) are later = ap₂ (λ (r : ℕ) (rs : List ℕ). r ∷ rs) (root-is before row few are.0.0) (later row are.1)
