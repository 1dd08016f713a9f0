-- The rows of the rowids that a group touches.
use Rattle.std.proofs.Common.{◌≡◌, ◌+◌, ℕ, ℤ, ◌⊎◌, ◌||◌, Bool, true, false, List, [], ◌∷◌, map, Option, Some, None, cond, refl, sym, ap, ◌∙◌, inl, inr}
use Rattle.std.proofs.Math.Path.{subst⁻¹}
use Rattle.std.proofs.lemmas.Bool.{or_cases}
use Rattle.std.proofs.lemmas.Cmp.{int_ranked, tied_itself, int_cmp_total}
use Rattle.std.proofs.lemmas.Map.Keys.{Less-from_sorted}
use Rattle.std.specs.Prelude.{Contains}
use Rattle.std.specs.List.{AllZip, list_any}
use Rattle.std.specs.Option.{option_or}
use Rattle.std.specs.Ordering.{int_cmp, is_eq}
use Rattle.std.specs.declared.cmp.Ordering.TheVariants.{Less, Equal}
use Rattle.rbu_value.specs.declared.value.Value.{Value}
use Rattle.rbu_rows.specs.declared.prepared.Prepared.{Prepared}
use Rattle.schema_spec.specs.declared.schema.Table.{Table}
use Rattle.database_spec.specs.Rows.{TableRow}
use Rattle.prepared_spec.specs.Tables.{count_new, IsAfterBatches}
use Rattle.prepared_spec.specs.MembersLaws.{Has, has-from, has-to, any-has, has-any, eq-equal, or-right}
use Rattle.prepared_laws.specs.TablesMadeLaws.{Apart}
use Rattle.index_changes.specs.declared.pairs.OldNew.{OldNew}
use Rattle.touched_rows.specs.TouchedRows.{IsSide, AreTouchedPairsFrom}
use Rattle.touched_rows.specs.TouchedRowsLaws.{apart-one}
use Rattle.touched_rows.specs.PartedRowsLaws.{batch-apart}
use Rattle.group_rows.specs.GivenRows.{given, AreGiven}
use Rattle.group_rows.specs.Runs.{Run, begun}
use Rattle.group_rows.specs.Sides.{row_at, pair_at}
use Rattle.group_rows.specs.Touching.{ArePairsOf}
use Rattle.group_rows.proofs.Groups.{GroupIs}

same-number : (a b : ℤ) → is_eq (int_cmp a b) ≡ true → a ≡ b
same-number a b e = int_ranked a b Equal (sym (eq-equal (int_cmp a b) e))

number-same : (a b : ℤ) → a ≡ b → is_eq (int_cmp a b) ≡ true
number-same a b e = ap is_eq (ap (int_cmp a) (sym e) ∙ tied_itself int_cmp_total a)

or-cases : (o p : Option (ℤ × List Value)) (row : ℤ × List Value) → option_or o p ≡ Some row → (o ≡ Some row) ⊎ (p ≡ Some row)
or-cases None p row e = inr e
or-cases (Some other) p row e = inl e

pub row_at-has : (rows : List (ℤ × List Value)) (z : ℤ) (row : ℤ × List Value) → row_at rows z ≡ Some row → Has row rows × (row.0 ≡ z)
row_at-has [] z row e = absurd (let h : ⊥ = cc in h)
row_at-has (first ∷ rows) z row e =
    elim (or-cases (row_at rows z) (cond (is_eq (int_cmp first.0 z)) (Some first) None) row e) [
      | inl later ↦ let rest = row_at-has rows z row later in (inr rest.0, rest.1)
      | inr here ↦ by (is_eq (int_cmp first.0 z)) refl here
    ]
  where
    by : (t : Bool) → is_eq (int_cmp first.0 z) ≡ t → cond t (Some first) None ≡ Some row → Has row (first ∷ rows) × (row.0 ≡ z)
    by true p f = let same : first ≡ row = cc in (inl same, ap (λ (r : ℤ × List Value). r.0) (sym same) ∙ same-number first.0 z p)
    by false p f = absurd (let h : ⊥ = cc in h)

some-or : (o p : Option (ℤ × List Value)) → ((x : ℤ × List Value) × (o ≡ Some x)) ⊎ ((x : ℤ × List Value) × (p ≡ Some x)) → (x : ℤ × List Value) × (option_or o p ≡ Some x)
some-or (Some y) p h = (y, refl)
some-or None p (inl (x, e)) = absurd (let h : ⊥ = cc in h)
some-or None p (inr h) = h

pub has-row_at : (rows : List (ℤ × List Value)) (z : ℤ) (row : ℤ × List Value) → Has row rows → row.0 ≡ z → (other : ℤ × List Value) × (row_at rows z ≡ Some other)
has-row_at [] z row h e = absurd h
has-row_at (first ∷ rows) z row (inl same) e =
    some-or (row_at rows z) (cond (is_eq (int_cmp first.0 z)) (Some first) None)
    (inr (first, ap (λ (t : Bool). cond t (Some first) None) (number-same first.0 z (ap (λ (r : ℤ × List Value). r.0) same ∙ e))))
has-row_at (first ∷ rows) z row (inr h) e = some-or (row_at rows z) (cond (is_eq (int_cmp first.0 z)) (Some first) None) (inl (has-row_at rows z row h e))

-- the row of a rowid is its side
pub side-at : (all : List TableRow) (rows : List (ℤ × List Value)) → AreGiven all rows → Apart all → (z : ℤ) → IsSide all z (row_at rows z)
side-at all rows is apart z = record {
  only = λ row e.
      let there = row_at-has rows z row e in
      let other = is.only row (has-to rows row there.0) in
      (other.0, other.1, ap (λ (r : ℤ × List Value). r.0) other.2 ∙ there.1, other.2);
  all = λ other stands same.
      let found = has-row_at rows z (given other) (has-from rows (given other) (is.all other stands)) same in
      let there = row_at-has rows z found.0 found.1 in
      let again = is.only found.0 (has-to rows found.0 there.0) in
      let one : again.0 ≡ other = apart-one all apart again.0 other (has-from all again.0 again.1) (has-from all other stands) (ap (λ (r : ℤ × List Value). r.0) again.2 ∙ there.1 ∙ sym same) in
      found.1 ∙ ap Some (sym again.2 ∙ ap given one);
}

zip-map : {A B : Type 0} (P : B → A → Type 0) (f : A → B) (xs : List A) → ((x : A) → P (f x) x) → AllZip P (map f xs) xs
zip-map P f [] each = tt
zip-map P f (x ∷ xs) each = (each x, zip-map P f xs each)

pub same-given : (all : List TableRow) (rows others : List (ℤ × List Value)) → AreGiven all rows → ((row : ℤ × List Value) → Contains others row → Contains rows row) → ((row : ℤ × List Value) → Contains rows row → Contains others row) → AreGiven all others
same-given all rows others is to from = record { all = λ row stands. from (given row) (is.all row stands); only = λ row stands. is.only row (to row stands) }

module _ (format : ℕ) (name : List ℕ) (table : Table) (g : ℤ) where
  pub after-apart : (taken : ℕ) (before : List TableRow) (batches : List (List Prepared)) (after : List TableRow) → Apart before → IsAfterBatches format table g taken before batches after → Apart after
  after-apart taken before [] after apart is = subst⁻¹ Apart is apart
  after-apart taken before (rows ∷ batches) after apart (between, is, are) =
      after-apart (taken + count_new table before rows) between batches after (batch-apart format table g taken before rows between is) are

  abbrev at : ℤ → ℤ → Bool
  at z other = is_eq (int_cmp z other)

  -- The pairs of a group.
  pub pairs-touched : (before after : List TableRow) (rows : List (ℤ × List Value)) (batches fronts : List (List Prepared)) (result : Run) (pairs : List OldNew) → AreGiven before rows → Apart before
      → IsAfterBatches format table g 0 before fronts after → GroupIs format name table g before 0 (begun rows) batches fronts after result → ArePairsOf rows result pairs
      → AreTouchedPairsFrom format table g 0 before fronts after pairs
  pairs-touched before after rows batches fronts result pairs is apart chain group are =
      let now = same-given after result.rows are.behind group.now (λ row. (are.same row).0) (λ row. (are.same row).1) in
      let old_side = side-at before rows is apart in
      let new_side = side-at after are.behind now (after-apart 0 before fronts after apart chain) in
      let Sides = λ (pair : OldNew) (z : ℤ). IsSide before z pair.old × IsSide after z pair.new in
      record {
        rowids = are.rowids;
        rise = λ i j d less long. int_ranked _ _ Less (sym (Less-from_sorted int_cmp are.rowids i j d are.rise less long));
        touched = λ z stands.
            let passes : list_any (at z) are.rowids ≡ true = has-any (at z) are.rowids z (has-from are.rowids z stands) (number-same z z refl) in
            let either : (list_any (at z) result.made || list_any (at z) result.met) ≡ true = sym (are.all z) ∙ passes in
            elim (group.only z (elim (or_cases (list_any (at z) result.made) (list_any (at z) result.met) either) [
              | inl e ↦ let one = any-has (at z) result.made e in inr (subst⁻¹ (λ (y : ℤ). Has y result.made) (same-number z one.0 one.2) one.1)
              | inr e ↦ let one = any-has (at z) result.met e in inl (subst⁻¹ (λ (y : ℤ). Has y result.met) (same-number z one.0 one.2) one.1)
            ])) [
              | inl none ↦ elim none [ inl h ↦ absurd h | inr h ↦ absurd h ]
              | inr t ↦ t
            ];
        all = λ z touched.
            let passes : (list_any (at z) result.made || list_any (at z) result.met) ≡ true = elim (group.all z (inr touched)) [
              | inl h ↦ or-right (list_any (at z) result.made) (list_any (at z) result.met) (has-any (at z) result.met z h (number-same z z refl))
              | inr h ↦ ap (λ (t : Bool). t || list_any (at z) result.met) (has-any (at z) result.made z h (number-same z z refl))
            ] in
            let one = any-has (at z) are.rowids (are.all z ∙ passes) in
            subst⁻¹ (Contains are.rowids) (same-number z one.0 one.2) (has-to are.rowids one.0 one.1);
        sides = subst⁻¹ (λ (ps : List OldNew). AllZip Sides ps are.rowids) are.are (zip-map Sides (pair_at rows are.behind) are.rowids (λ z. (old_side z, new_side z)));
      }
