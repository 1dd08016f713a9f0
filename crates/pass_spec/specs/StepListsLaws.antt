-- What a put into a table's tree, a delete from it or neither makes of its rows, where a step is due: crates above cite these facts in their proofs.
use Rattle.std.proofs.Common.{◌≡◌, ◌≢◌, ℕ, ℤ, zero, suc, ◌<◌, ◌<ℤ◌, ◌⊎◌, Bool, true, false, List, [], ◌∷◌, ◌++◌, length, map, Option, Some, None, refl, sym, ap, ap₂, ◌∙◌, subst, inl, inr, arith}
use Rattle.std.proofs.Math.Path.{subst⁻¹}
use Rattle.std.specs.Prelude.{AllPairs, Contains}
use Rattle.std.specs.List.{AllByRecursion}
use Rattle.std.proofs.lemmas.Int.{ints}
use Rattle.rbu_rows.specs.declared.prepared.Prepared.{Prepared}
use Rattle.schema_spec.specs.declared.schema.Table.{Table}
use Rattle.tree_spec.specs.declared.TreeKind.TheVariants.{Table as TableTree}
use Rattle.tree_spec.specs.Trees.{Member}
use Rattle.tree_spec.specs.WorldsLaws.{all-back}
use Rattle.put_spec.specs.Children.{PutIn, IsReplaced, Rises}
use Rattle.put_spec.specs.ImagesLaws.{split-map, first-map, map-append}
use Rattle.delete_spec.specs.Deletes.{TakenOut}
use Rattle.database_spec.specs.Rows.{TableRow}
use Rattle.database_spec.specs.ListsLaws.{PairsByRecursion, pairs-from}
use Rattle.prepared_spec.specs.MembersLaws.{Has, has-from, has-to, has-left, has-right, has-either, decide}
use Rattle.prepared_spec.specs.ChangesLaws.{all-has}
use Rattle.prepared_spec.specs.RowKeys.{meets}
use Rattle.prepared_spec.specs.StepRecords.{put_row}
use Rattle.prepared_spec.specs.Outcomes.{row_member}
use Rattle.index_changes.specs.ListsLaws.{pairs-at}
use Rattle.pass_spec.specs.TableSteps.{AreStepped, MeetsRowid}

abbrev Before : TableRow → TableRow → Type 0
Before a b = a.rowid <ℤ b.rowid

-- rows in order of their rowids, as their members are
all-rows : (row : TableRow) (rows : List TableRow) → AllByRecursion (λ (m : Member). row.rowid <ℤ m.rowid) (map row_member rows) → AllByRecursion (Before row) rows
all-rows row [] all = tt
all-rows row (other ∷ rows) all = (all.0, all-rows row rows all.1)

pairs-rows : (rows : List TableRow) → PairsByRecursion (λ (a b : Member). a.rowid <ℤ b.rowid) (map row_member rows) → PairsByRecursion Before rows
pairs-rows [] pairs = tt
pairs-rows (row ∷ rows) pairs = (all-rows row rows pairs.0, pairs-rows rows pairs.1)

pub rows-rise : (rows : List TableRow) → Rises (map row_member rows) → PairsByRecursion Before rows
rows-rise rows rises = pairs-rows rows (pairs-at (λ (a b : Member). a.rowid <ℤ b.rowid) (map row_member rows) rises)

-- what stands before a row of such a list, and what behind it
below-row : (front : List TableRow) (r : TableRow) (back : List TableRow) (x : TableRow) → PairsByRecursion Before (front ++ r ∷ back) → Has x front → x.rowid <ℤ r.rowid
below-row [] r back x pairs h = absurd h
below-row (y ∷ front) r back x pairs (inl e) = subst (λ (v : TableRow). v.rowid <ℤ r.rowid) e (all-back (Before y) front (r ∷ back) pairs.0).0
below-row (y ∷ front) r back x pairs (inr h) = below-row front r back x pairs.1 h

above-row : (front : List TableRow) (r : TableRow) (back : List TableRow) (x : TableRow) → PairsByRecursion Before (front ++ r ∷ back) → Has x back → r.rowid <ℤ x.rowid
above-row [] r back x pairs h = all-has (Before r) back x pairs.0 h
above-row (y ∷ front) r back x pairs h = above-row front r back x pairs.1 h

all-all : (row : TableRow) (front : List TableRow) (r : TableRow) (back : List TableRow) → AllByRecursion (Before row) (front ++ r ∷ back) → AllByRecursion (Before row) (front ++ back)
all-all row [] r back all = all.1
all-all row (x ∷ front) r back all = (all.0, all-all row front r back all.1)

without-rise : (front : List TableRow) (r : TableRow) (back : List TableRow) → PairsByRecursion Before (front ++ r ∷ back) → PairsByRecursion Before (front ++ back)
without-rise [] r back pairs = pairs.1
without-rise (x ∷ front) r back pairs = (all-all x front r back pairs.0, without-rise front r back pairs.1)

module _ (format : ℕ) (table : Table) (g : ℤ) (taken : ℕ) (p : Prepared) (old : List TableRow) where
  abbrev Stepped : List Member → Type 0
  Stepped list = AreStepped format table g taken p old list

  met-not : (rowid : ℤ) (meets_it : MeetsRowid table old p rowid) (x : TableRow) → Has x old → x.rowid ≢ rowid → meets table x p ≡ false
  met-not rowid meets_it x h unlike = elim (decide (meets table x p)) [ inl m ↦ absurd (unlike ((meets_it x (has-to old x h)).1 m)) | inr u ↦ u ]

  not-met : (rowid : ℤ) (meets_it : MeetsRowid table old p rowid) (x : TableRow) → Has x old → meets table x p ≡ false → x.rowid ≢ rowid
  not-met rowid meets_it x h u same = let m = (meets_it x (has-to old x h)).0 same in let e : ◌≡◌ {A = Bool} true false = sym m ∙ u in let no : ⊥ = cc in no

  -- a put of the row that the step puts
  pub put-stepped : (r : TableRow) (list : List Member) → put_row format table g taken old p ≡ Some r → MeetsRowid table old p r.rowid → PutIn TableTree (row_member r) (map row_member old) list → Rises list → Stepped list
  put-stepped r list puts meets_it is rises =
      let cut = split-map row_member old is.front (is.replaced ++ is.back) is.old_is in
      let rest = split-map row_member cut.back is.replaced is.back cut.two in
      let new = cut.front ++ r ∷ rest.back in
      let same : map row_member new ≡ list = map-append row_member cut.front (r ∷ rest.back) ∙ ap₂ (λ (a b : List Member). a ++ row_member r ∷ b) cut.one rest.two ∙ sym is.new_is in
      let whole : old ≡ cut.front ++ (rest.front ++ rest.back) = cut.whole ∙ ap (λ (l : List TableRow). cut.front ++ l) rest.whole in
      let pairs = rows-rise new (subst⁻¹ Rises same rises) in (
        new,
        sym same,
        record {
          put = λ row e. let here : r ≡ row = cc (sym puts ∙ e) in has-to new row (has-right cut.front (r ∷ rest.back) row (inl here));
          kept = λ row c u.
              let h = has-from old row c in
              has-to new row (elim (has-either cut.front (rest.front ++ rest.back) row (subst (Has row) whole h)) [
                | inl f ↦ has-left cut.front (r ∷ rest.back) row f
                | inr k ↦ elim (has-either rest.front rest.back row k) [
                  | inl gone ↦ absurd (not-met r.rowid meets_it row h u (replaced rest.front is.replaced rest.one is.same row gone))
                  | inr b ↦ has-right cut.front (r ∷ rest.back) row (inr b)
                ]
              ]);
          only = λ row c.
              elim (has-either cut.front (r ∷ rest.back) row (has-from new row c)) [
                | inl f ↦
                    let h = subst⁻¹ (Has row) whole (has-left cut.front (rest.front ++ rest.back) row f) in
                    inr (has-to old row h, met-not r.rowid meets_it row h (λ e. let less = below-row cut.front r rest.back row pairs f in omega (arith, ints, less, e)))
                | inr (inl e) ↦ inl (puts ∙ ap Some e)
                | inr (inr b) ↦
                    let h = subst⁻¹ (Has row) whole (has-right cut.front (rest.front ++ rest.back) row (has-right rest.front rest.back row b)) in
                    inr (has-to old row h, met-not r.rowid meets_it row h (λ e. let less = above-row cut.front r rest.back row pairs b in omega (arith, ints, less, e)))
              ];
          rise = pairs-from Before new pairs;
        },
      )
    where
      replaced : (rows : List TableRow) (members : List Member) → map row_member rows ≡ members → AllByRecursion (IsReplaced TableTree (row_member r)) members → (row : TableRow) → Has row rows → row.rowid ≡ r.rowid
      replaced rows members e all row h = each rows (subst⁻¹ (AllByRecursion (IsReplaced TableTree (row_member r))) e all) row h
        where
          each : (xs : List TableRow) → AllByRecursion (IsReplaced TableTree (row_member r)) (map row_member xs) → (x : TableRow) → Has x xs → x.rowid ≡ r.rowid
          each [] all x h = absurd h
          each (y ∷ xs) all x (inl same) = ap (λ (v : TableRow). v.rowid) (sym same) ∙ all.0
          each (y ∷ xs) all x (inr k) = each xs all.1 x k

  -- a delete of the row that the step takes out
  pub taken-stepped : (gone : Member) (list : List Member) → put_row format table g taken old p ≡ None → MeetsRowid table old p gone.rowid → TakenOut gone (map row_member old) list → Rises (map row_member old) → Stepped list
  taken-stepped gone list puts meets_it is rises =
      let cut = split-map row_member old is.front (gone ∷ is.back) is.old_is in
      let rest = first-map row_member cut.back gone is.back cut.two in
      let new = cut.front ++ rest.after in
      let same : map row_member new ≡ list = map-append row_member cut.front rest.after ∙ ap₂ (λ (a b : List Member). a ++ b) cut.one rest.rest ∙ sym is.new_is in
      let whole : old ≡ cut.front ++ rest.first ∷ rest.after = cut.whole ∙ ap (λ (l : List TableRow). cut.front ++ l) rest.whole in
      let pairs = subst (PairsByRecursion Before) whole (rows-rise old rises) in
      let rowid : rest.first.rowid ≡ gone.rowid = ap (λ (m : Member). m.rowid) rest.one in (
        new,
        sym same,
        record {
          put = λ row e. let none : ◌≡◌ {A = Option TableRow} None (Some row) = sym puts ∙ e in absurd (let h : ⊥ = cc in h);
          kept = λ row c u.
              let h = has-from old row c in
              has-to new row (elim (has-either cut.front (rest.first ∷ rest.after) row (subst (Has row) whole h)) [
                | inl f ↦ has-left cut.front rest.after row f
                | inr (inl e) ↦ absurd (not-met gone.rowid meets_it row h u (ap (λ (v : TableRow). v.rowid) (sym e) ∙ rowid))
                | inr (inr b) ↦ has-right cut.front rest.after row b
              ]);
          only = λ row c.
              elim (has-either cut.front rest.after row (has-from new row c)) [
                | inl f ↦
                    let h = subst⁻¹ (Has row) whole (has-left cut.front (rest.first ∷ rest.after) row f) in
                    inr (has-to old row h, met-not gone.rowid meets_it row h (λ e. let less = below-row cut.front rest.first rest.after row pairs f in omega (arith, ints, less, e, rowid)))
                | inr b ↦
                    let h = subst⁻¹ (Has row) whole (has-right cut.front (rest.first ∷ rest.after) row (inr b)) in
                    inr (has-to old row h, met-not gone.rowid meets_it row h (λ e. let less = above-row cut.front rest.first rest.after row pairs b in omega (arith, ints, less, e, rowid)))
              ];
          rise = pairs-from Before new (without-rise cut.front rest.first rest.after pairs);
        },
      )

  -- a step that changes nothing: it puts nothing and meets no row, or it puts the row that it meets
  pub left-stepped : ((row : TableRow) → put_row format table g taken old p ≡ Some row → Contains old row) → ((x : TableRow) → Contains old x → meets table x p ≡ true → put_row format table g taken old p ≡ Some x)
      → Rises (map row_member old) → Stepped (map row_member old)
  left-stepped put met rises = (
    old,
    refl,
    record {
      put = put;
      kept = λ row c u. c;
      only = λ row c. elim (decide (meets table row p)) [ inl m ↦ inl (met row c m) | inr u ↦ inr (c, u) ];
      rise = pairs-from Before old (rows-rise old rises);
    },
  )
