-- The tables of the catalog, each with its indexes.
use Rattle.std.proofs.Common.{◌≡◌, ℕ, suc, ◌+◌, ◌<◌, ◌≤◌, ◌==◌, ◌&&◌, ◌||◌, Bool, true, false, List, [], ◌∷◌, ◌++◌, length, filter, get_or, Option, Some, None, Result, refl, sym, ap, ap₂, ◌∙◌, subst, inl, inr, arith, append_assoc, length-append, zero-add}
use Rattle.std.proofs.Math.Path.{subst⁻¹}
use Rattle.std.specs.Prelude.{filter_map, if◌then◌else◌}
use Rattle.std.specs.Str.{str_to_ascii_lowercase}
use Rattle.std.specs.List.{AllByRecursion, AllZip, cons_option, list_any, position}
use Rattle.std.proofs.lemmas.Bool.{cases_lt}
use Rattle.std.proofs.lemmas.Bool.Decides.{Decides-eqb}
use Rattle.std.proofs.lemmas.List.{get_or_append_left}
use Rattle.std.proofs.Math.Seq.{get_or-append_seam}
use Rattle.std.proofs.lemmas.List.Folds.{list_any_at}
use Rattle.std.proofs.lemmas.List.Quantifiers.{position-Some}
use Rattle.std.proofs.lemmas.Option.{get_or_from_slice_get}
use Rattle.std.proofs.lemmas.Slice.Eq.{bytes_eq-Decides}
use Rattle.schema_spec.specs.declared.schema.SqlFault.{SqlFault}
use Rattle.schema_spec.specs.declared.schema.Table.{Table}
use Rattle.schema_spec.specs.declared.schema.Index.{Index}
use Rattle.schema_spec.specs.Words.{same_name}
use Rattle.tree_spec.specs.Standing.{Paged, Sizes}
use Rattle.database_spec.specs.declared.catalog.SchemaKind.{SchemaKind}
use Rattle.database_spec.specs.declared.catalog.SchemaKind.TheVariants as kind
use Rattle.database_spec.specs.declared.catalog.NamedEntry.{NamedEntry}
use Rattle.database_spec.specs.declared.catalog.SchemaRow.{SchemaRow}
use Rattle.database_spec.specs.Catalogs.{index_rows, is_index, is_real, is_table, IsEntry, IsIndexEntry, IsIndexMeaning, IsTableMeaning}
use Rattle.database_spec.specs.CatalogsLaws.{table_meaning-one}
use Rattle.database_spec.specs.RightRows.{has_name, IsFaultless, AreFaultless}
use Rattle.schema_read.specs.Found.{IsFoundMeaning, IsMeant, IsRealMeaning, any_found, found_rows, has_table, option_any, row_any, rows_in}
use Rattle.schema_read.specs.Checks.{IsPlaced}
use Rattle.schema_read.specs.Entries.{HasMore, StandAll, entry_in, entry_of, index_of, indexes_at, root_of}
use Rattle.schema_read.specs.declared.check.Placed.{Placed}
use Rattle.schema_read.specs.declared.found.Found.{Found}
use Rattle.schema_read.proofs.MemberLists.{any-rows}
use Rattle.schema_read.proofs.Faultless.{faultless-at, meaning-none, meaning-there, root-is}

abbrev is_real_kind : SchemaKind → Bool
is_real_kind k = elim k as (λ _. Bool) [ kind.Table ↦ true | kind.View ↦ false | kind.Index ↦ false | kind.Trigger ↦ false ]

-- Names.

lower-same : (a b : List ℕ) → same_name a b ≡ true → str_to_ascii_lowercase a ≡ str_to_ascii_lowercase b
lower-same a b e = (bytes_eq-Decides (str_to_ascii_lowercase a) (str_to_ascii_lowercase b)).0 e

same-lower : (a b : List ℕ) → str_to_ascii_lowercase a ≡ str_to_ascii_lowercase b → same_name a b ≡ true
same-lower a b e = (bytes_eq-Decides (str_to_ascii_lowercase a) (str_to_ascii_lowercase b)).1 e

pub name-flip : (a b : List ℕ) → same_name a b ≡ true → same_name b a ≡ true
name-flip a b e = same-lower b a (sym (lower-same a b e))

name-join : (a b c : List ℕ) → same_name a b ≡ true → same_name c b ≡ true → same_name a c ≡ true
name-join a b c p q = same-lower a c (lower-same a b p ∙ sym (lower-same c b q))

both-0 : (a b : Bool) → (a && b) ≡ true → a ≡ true
both-0 true b e = refl
both-0 false b e = e

both-1 : (a b : Bool) → (a && b) ≡ true → b ≡ true
both-1 true b e = e
both-1 false b e = absurd (let h : ⊥ = cc in h)

-- a table or view of a name that is also another's has that one's name
takes-name : (name own : List ℕ) (one : Found) → has_table name one ≡ true → same_name own name ≡ true → row_any (has_name own) one ≡ true
takes-name name own one has same = by one.row has
  where
    by : (row : Option SchemaRow) → option_any (λ (r : SchemaRow). is_table r && same_name r.name name) row ≡ true → option_any (has_name own) row ≡ true
    by None has = has
    by (Some row) has =
        let table = both-0 (is_table row) (same_name row.name name) has in
        let named = name-join row.name name own (both-1 (is_table row) (same_name row.name name) has) same in
        ap₂ (λ (a b : Bool). (a || is_index row) && b) table named

module _ (sizes : Sizes) (base : Paged) (format : ℕ) (found : List Found) (placed : List Placed) (few : base.count ≤ 4294967295) (faultless : AreFaultless sizes base (rows_in found) [] (found_rows found))
    (are_placed : AllZip (IsPlaced format found) (filter is_index (rows_in found)) placed) where
  module _ (front : List Found) (one : Found) (back : List Found) (whole : found ≡ front ++ one ∷ back) (row : SchemaRow) (row_is : one.row ≡ Some row) (table : is_table row ≡ true) where
    at_one : IsFaultless sizes base (rows_in found) (rows_in front) (Some row)
    at_one =
        subst (IsFaultless sizes base (rows_in found) (rows_in front)) row_is
        (faultless-at sizes base (rows_in found) [] front one back (subst (λ (f : List Found). AreFaultless sizes base (rows_in found) [] (found_rows f)) whole faultless))

    fresh : any_found (has_name row.name) front ≡ false
    fresh = any-rows (has_name row.name) front ∙ sym (ap (λ (b : Bool). (b || is_index row) && list_any (has_name row.name) (rows_in front)) table) ∙ at_one.1

    there : (d : Found) → get_or found (length front) d ≡ one
    there d = ap (λ (f : List Found). get_or f (length front) d) whole ∙ get_or-append_seam front one back d

    is_there : (name : List ℕ) → same_name row.name name ≡ true → (d : Found) → has_table name (get_or found (length front) d) ≡ true
    is_there name same d =
        subst⁻¹ (λ (f : Found). has_table name f ≡ true) (there d)
        (subst⁻¹ (λ (r : Option SchemaRow). option_any (λ (x : SchemaRow). is_table x && same_name x.name name) r ≡ true) row_is (ap₂ (λ (a b : Bool). a && b) table same))

    -- the first table or view of its name is this one
    only_place : (name : List ℕ) (at : ℕ) → same_name row.name name ≡ true → position (has_table name) found ≡ Some at → at ≡ length front
    only_place name at same place =
        let first = position-Some (has_table name) found at one place in
        elim (cases_lt at (length front)) [
          | inl less ↦
              let here : has_table name (get_or front at one) ≡ true =
              subst (λ (f : Found). has_table name f ≡ true) (ap (λ (f : List Found). get_or f at one) whole ∙ get_or_append_left front (one ∷ back) one at less) first.1 in
              let again = list_any_at (row_any (has_name row.name)) front at one less (takes-name name row.name (get_or front at one) here same) in
              absurd (let h : ⊥ = cc (fresh, again) in h)
          | inr not_less ↦ elim (cases_lt (length front) at) [
            | inl more ↦ let no = first.2 (length front) more in let yes = is_there name same one in absurd (let h : ⊥ = cc (no, yes) in h)
            | inr also ↦ omega (arith, not_less, also)
          ]
        ]

    module _ (meaning : Result Table SqlFault) (means : IsTableMeaning row.kind row.sql meaning) where
      -- an index of this place means what it means with this table
      index-entry : (index : SchemaRow) (p : Placed) → IsPlaced format found index p → p.at ≡ length front → IsIndexEntry format meaning index (index_of p)
      index-entry index p is at =
          let here : is.table ≡ one = sym (get_or_from_slice_get found p.at is.table one is.stands) ∙ ap (λ (n : ℕ). get_or found n one) at ∙ there one in
          let real : IsRealMeaning (Some row) is.meaning = subst (λ (r : Option SchemaRow). IsRealMeaning r is.meaning) (ap (λ (f : Found). f.row) here ∙ row_is) is.meant in
          let same : is.meaning ≡ meaning = real-one row.kind refl real.0 is.meaning real.1 in
          (is.root, subst (λ (m : Result Table SqlFault). IsIndexMeaning format index m p.meaning) same is.means)
        where
          real-one : (k : SchemaKind) → row.kind ≡ k → is_real row ≡ true → (m : Result Table SqlFault) → IsTableMeaning kind.Table row.sql m → m ≡ meaning
          real-one kind.Table e real m is = table_meaning-one kind.Table row.sql m meaning is (subst (λ (k : SchemaKind). IsTableMeaning k row.sql meaning) e means)
          real-one kind.View e real m is = absurd (let no : false ≡ true = sym (ap is_real_kind e) ∙ real in let h : ⊥ = cc in h)
          real-one kind.Index e real m is = absurd (let no : false ≡ true = sym (ap is_real_kind e) ∙ real in let h : ⊥ = cc in h)
          real-one kind.Trigger e real m is = absurd (let no : false ≡ true = sym (ap is_real_kind e) ∙ real in let h : ⊥ = cc in h)

      not_here : (index : SchemaRow) (p : Placed) → IsPlaced format found index p → same_name index.table row.name ≡ false → (b : Bool) → (p.at == length front) ≡ b → b ≡ false
      not_here index p is other true e =
          let at : p.at ≡ length front = (Decides-eqb p.at (length front)).0 e in
          let first = position-Some (has_table index.table) found p.at one is.at in
          let here : has_table index.table one ≡ true = subst (λ (f : Found). has_table index.table f ≡ true) (ap (λ (n : ℕ). get_or found n one) at ∙ there one) first.1 in
          let named : (is_table row && same_name row.name index.table) ≡ true = subst (λ (r : Option SchemaRow). option_any (λ (x : SchemaRow). is_table x && same_name x.name index.table) r ≡ true) row_is here in
          let same = name-flip row.name index.table (both-1 (is_table row) (same_name row.name index.table) named) in
          absurd (let h : ⊥ = cc (other, same) in h)
      not_here index p is other false e = refl

      abbrev Grouped : List SchemaRow → List Placed → Type 0
      Grouped rows places = AllZip (IsIndexEntry format meaning) (index_rows row.name rows) (indexes_at (length front) places)

      one_more : (index : SchemaRow) (rows : List SchemaRow) (p : Placed) (places : List Placed) → is_index index ≡ true → IsPlaced format found index p → Grouped rows places
          → (b : Bool) → same_name index.table row.name ≡ b → Grouped (index ∷ rows) (p ∷ places)
      one_more index rows p places index_is is grouped true same =
          let at = only_place index.table p.at (name-flip index.table row.name same) is.at in
          let hit : (p.at == length front) ≡ true = (Decides-eqb p.at (length front)).1 at in
          let both : (is_index index && same_name index.table row.name) ≡ true = ap₂ (λ (a b : Bool). a && b) index_is same in
          subst⁻¹ (λ (b : Bool). AllZip (IsIndexEntry format meaning) (if b then index ∷ index_rows row.name rows else index_rows row.name rows) (indexes_at (length front) (p ∷ places))) both
          (subst⁻¹ (λ (b : Bool). AllZip (IsIndexEntry format meaning) (index ∷ index_rows row.name rows) ((if b then index_of p ∷ [] else []) ++ indexes_at (length front) places)) hit
          (index-entry index p is at, grouped))
      one_more index rows p places index_is is grouped false other =
          let miss : (p.at == length front) ≡ false = not_here index p is other (p.at == length front) refl in
          let both : (is_index index && same_name index.table row.name) ≡ false = ap₂ (λ (a b : Bool). a && b) index_is other in
          subst⁻¹ (λ (b : Bool). AllZip (IsIndexEntry format meaning) (if b then index ∷ index_rows row.name rows else index_rows row.name rows) (indexes_at (length front) (p ∷ places))) both
          (subst⁻¹ (λ (b : Bool). AllZip (IsIndexEntry format meaning) (index_rows row.name rows) ((if b then index_of p ∷ [] else []) ++ indexes_at (length front) places)) miss grouped)

      group : (rows : List SchemaRow) (places : List Placed) → AllZip (IsPlaced format found) (filter is_index rows) places → Grouped rows places
      group [] [] are = tt
      group [] (p ∷ places) are = absurd are
      group (index ∷ rows) places are = by (is_index index) refl places are (λ later h. group rows later h)
        where
          more : (places : List Placed) → is_index index ≡ true → AllZip (IsPlaced format found) (index ∷ filter is_index rows) places
              → ((later : List Placed) → AllZip (IsPlaced format found) (filter is_index rows) later → Grouped rows later) → Grouped (index ∷ rows) places
          more [] e are rest = absurd are
          more (p ∷ places) e are rest = one_more index rows p places e are.0 (rest places are.1) (same_name index.table row.name) refl

          by : (b : Bool) → is_index index ≡ b → (places : List Placed) → AllZip (IsPlaced format found) (if is_index index then index ∷ filter is_index rows else filter is_index rows) places
              → ((later : List Placed) → AllZip (IsPlaced format found) (filter is_index rows) later → Grouped rows later) → Grouped (index ∷ rows) places
          by true e places are rest =
              more places e (subst (λ (b : Bool). AllZip (IsPlaced format found) (if b then index ∷ filter is_index rows else filter is_index rows) places) e are) rest
          by false e places are rest =
              let there = subst (λ (b : Bool). AllZip (IsPlaced format found) (if b then index ∷ filter is_index rows else filter is_index rows) places) e are in
              subst⁻¹ (λ (b : Bool). AllZip (IsIndexEntry format meaning) (if b && same_name index.table row.name then index ∷ index_rows row.name rows else index_rows row.name rows) (indexes_at (length front) places)) e
              (rest places there)

      -- the table with its indexes
      entry-there : (new : Found) → one.indexes.items ≡ [] → HasMore one new (indexes_at (length front) placed)
          → IsEntry format (rows_in found) row (record { name = row.name; entry = record { root = root_of row.root; meaning = meaning; indexes = new.indexes.items } })
      entry-there new empty has = record {
        name = refl;
        root = root-is sizes base (rows_in found) (rows_in front) row few at_one.0;
        meaning = means;
        indexes = subst⁻¹ (λ (l : List (ℕ × Result Index SqlFault)). AllZip (IsIndexEntry format meaning) (index_rows row.name (rows_in found)) l) (has.indexes ∙ ap (λ (l : List (ℕ × Result Index SqlFault)). l ++ indexes_at (length front) placed) empty)
            (group (rows_in found) placed are_placed);
      }

  module _ (meant_all : AllByRecursion IsMeant found) (empty_all : AllByRecursion (λ (f : Found). f.indexes.items ≡ []) found) where
    abbrev Entries : List Found → List Found → Type 0
    Entries back news = AllZip (IsEntry format (rows_in found)) (filter is_table (rows_in back)) (filter_map entry_of news)

    add_entry : (front : List Found) (one : Found) (back : List Found) → found ≡ front ++ one ∷ back → IsMeant one → one.indexes.items ≡ [] → (new : Found) (news : List Found) → HasMore one new (indexes_at (length front) placed)
        → Entries back news → Entries (one ∷ back) (new ∷ news)
    add_entry front one back whole meant empty new news has entries = by one.row refl
      where
        at : IsFaultless sizes base (rows_in found) (rows_in front) one.row
        at = faultless-at sizes base (rows_in found) [] front one back (subst (λ (f : List Found). AreFaultless sizes base (rows_in found) [] (found_rows f)) whole faultless)

        table : (row : SchemaRow) → one.row ≡ Some row → is_table row ≡ true → Entries (one ∷ back) (new ∷ news)
        table row e is =
            let right = subst (IsFaultless sizes base (rows_in found) (rows_in front)) e at in
            let there = meaning-there sizes base (rows_in found) (rows_in front) row one.meaning is right.0 (subst (λ (r : Option SchemaRow). IsFoundMeaning r one.meaning) e meant) in
            let made : entry_of new ≡ Some (record { name = row.name; entry = record { root = root_of row.root; meaning = there.0; indexes = new.indexes.items } }) =
            ap₂ (λ (r : Option SchemaRow) (m : Option (Result Table SqlFault)). entry_in r m new.indexes.items) (has.row ∙ e) (has.meaning ∙ there.1) in
            subst⁻¹ (λ (r : Option SchemaRow). AllZip (IsEntry format (rows_in found)) (filter is_table (filter_map (λ x. x) (r ∷ found_rows back))) (filter_map entry_of (new ∷ news))) e
            (subst⁻¹ (λ (b : Bool). AllZip (IsEntry format (rows_in found)) (if b then row ∷ filter is_table (rows_in back) else filter is_table (rows_in back)) (filter_map entry_of (new ∷ news))) is
            (subst⁻¹ (λ (o : Option NamedEntry). AllZip (IsEntry format (rows_in found)) (row ∷ filter is_table (rows_in back)) (cons_option o (filter_map entry_of news))) made
            (entry-there front one back whole row e is there.0 there.2 new empty has, entries)))

        other : (row : SchemaRow) → one.row ≡ Some row → is_table row ≡ false → Entries (one ∷ back) (new ∷ news)
        other row e is =
            let none = meaning-none sizes base (rows_in found) row one.meaning is (subst (λ (r : Option SchemaRow). IsFoundMeaning r one.meaning) e meant) in
            let made : entry_of new ≡ None = ap₂ (λ (r : Option SchemaRow) (m : Option (Result Table SqlFault)). entry_in r m new.indexes.items) (has.row ∙ e) (has.meaning ∙ none) in
            subst⁻¹ (λ (r : Option SchemaRow). AllZip (IsEntry format (rows_in found)) (filter is_table (filter_map (λ x. x) (r ∷ found_rows back))) (filter_map entry_of (new ∷ news))) e
            (subst⁻¹ (λ (b : Bool). AllZip (IsEntry format (rows_in found)) (if b then row ∷ filter is_table (rows_in back) else filter is_table (rows_in back)) (filter_map entry_of (new ∷ news))) is
            (subst⁻¹ (λ (o : Option NamedEntry). AllZip (IsEntry format (rows_in found)) (filter is_table (rows_in back)) (cons_option o (filter_map entry_of news))) made entries))

        kinds : (row : SchemaRow) → one.row ≡ Some row → (b : Bool) → is_table row ≡ b → Entries (one ∷ back) (new ∷ news)
        kinds row e true is = table row e is
        kinds row e false is = other row e is

        by : (row : Option SchemaRow) → one.row ≡ row → Entries (one ∷ back) (new ∷ news)
        by None e = absurd (subst (IsFaultless sizes base (rows_in found) (rows_in front)) e at).0
        by (Some row) e = kinds row e (is_table row) refl

    abbrev EachHasMore : ℕ → List Found → List Found → Type 0
    EachHasMore at back news = (length news ≡ length back) × ((j : ℕ) (d : Found) → j < length back → HasMore (get_or back j d) (get_or news j d) (indexes_at (at + j) placed))

    entries : (front back news : List Found) → found ≡ front ++ back → AllByRecursion IsMeant back → AllByRecursion (λ (f : Found). f.indexes.items ≡ []) back → EachHasMore (length front) back news → Entries back news
    entries front [] [] whole meant empty has = tt
    entries front [] (n ∷ news) whole meant empty has = absurd (omega (arith, has.0))
    entries front (one ∷ back) [] whole meant empty has = absurd (omega (arith, has.0))
    entries front (one ∷ back) (n ∷ news) whole meant empty has =
        let first = has.1 0 one (omega arith) in
        let at : length front + 0 ≡ length front = omega arith in
        let more : length (front ++ one ∷ []) ≡ length front + 1 = length-append front (one ∷ []) in
        let later : EachHasMore (length (front ++ one ∷ [])) back news = (
          omega (arith, has.0),
          λ j d low. let next : length front + suc j ≡ length (front ++ one ∷ []) + j = omega (arith, more) in subst (λ (k : ℕ). HasMore (get_or back j d) (get_or news j d) (indexes_at k placed)) next (has.1 (suc j) d (omega (arith, low))),
        ) in
        add_entry front one back whole meant.0 empty.0 n news (subst (λ (k : ℕ). HasMore one n (indexes_at k placed)) at first)
        (entries (front ++ one ∷ []) back news (whole ∙ sym (append_assoc front (one ∷ []) back)) meant.1 empty.1 later)

    -- all tables with their indexes
    pub all-entries : (new : List Found) → StandAll found placed new → Entries found new
    all-entries new stand = entries [] found new refl meant_all empty_all (stand.many, λ j d low. subst⁻¹ (λ (k : ℕ). HasMore (get_or found j d) (get_or new j d) (indexes_at k placed)) (zero-add j) (stand.each j d low))
