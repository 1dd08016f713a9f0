-- Readers of rows: one row for each cell makes one list of rows.
use Rattle.std.proofs.Common.{◌≡◌, ℕ, zero, suc, ◌<◌, List, [], ◌∷◌, ◌++◌, length, map, drop, get_or, Option, Some, None, refl, sym, ap, ap₂, ◌∙◌, subst, arith}
use Rattle.std.specs.List.{AllZip}
use Rattle.common_spec.specs.Reading.{Reads, OrNone}
use Rattle.small_spec.specs.SmallFile.{Table, IsSmall, IsSmallFile, IsRisingBy, schema_record}
use Rattle.small_file.specs.declared.page.PlacedCell.{PlacedCell}
use Rattle.small_file.specs.Pages.{cell_of}
use Rattle.small_file.specs.Files.{HoldsTable}
use Rattle.small_file.proofs.Rows.{small_file-table}

-- where nothing has P
pub Reads-none : {A : Type 0} (P : A → Type 0) → ((found : A) → ¬ P found) → Reads (OrNone P) None
Reads-none {A} P none = record { holds = none; only = only }
  where
    only : (other : Option A) → OrNone P other → None ≡ other
    only None has = refl
    only (Some found) has = absurd (none found has)

-- the one thing that has P
pub Reads-some : {A : Type 0} (P : A → Type 0) (found : A) → P found → ((other : A) → P other → found ≡ other) → Reads (OrNone P) (Some found)
Reads-some {A} P found holds only = record { holds = holds; only = all }
  where
    all : (other : Option A) → OrNone P other → Some found ≡ other
    all None none = absurd (none found holds)
    all (Some other) has = ap Some (only other has)

-- what is said of something that was found
pub some-of_reads : {A : Type 0} (P : A → Type 0) (found : A) → Reads (OrNone P) (Some found) → Reads P found
some-of_reads {A} P found reads = record { holds = reads.holds; only = λ other has. let same : Some found ≡ Some other = reads.only (Some other) has in cc }

-- one more element on both sides
pub AllZip-more : {A B : Type 0} (R : A → B → Type 0) (xs : List A) (ys : List B) (x : A) (y : B) → AllZip R xs ys → R x y → AllZip R (xs ++ x ∷ []) (ys ++ y ∷ [])
AllZip-more R [] [] x y all here = (here, tt)
AllZip-more R [] (b ∷ ys) x y all here = absurd all
AllZip-more R (a ∷ xs) [] x y all here = absurd all
AllZip-more R (a ∷ xs) (b ∷ ys) x y all here = (all.0, AllZip-more R xs ys x y all.1 here)

-- an element without a partner
pub AllZip-none : {A B : Type 0} (R : A → B → Type 0) (xs : List A) (ys : List B) (k : ℕ) (d : A) → k < length xs → ((y : B) → ¬ R (get_or xs k d) y) → ¬ AllZip R xs ys
AllZip-none R [] ys k d below none all = absurd (omega (arith, below))
AllZip-none R (x ∷ xs) [] k d below none all = all
AllZip-none R (x ∷ xs) (y ∷ ys) zero d below none all = none y all.0
AllZip-none R (x ∷ xs) (y ∷ ys) (suc k) d below none all = AllZip-none R xs ys k d (omega (arith, below)) none all.1

-- one partner for each element is one list of partners
pub AllZip-holds : {A B : Type 0} (R : A → B → Type 0) (xs : List A) (ys : List B) → AllZip (λ x y. Reads (R x) y) xs ys → AllZip R xs ys
AllZip-holds R [] [] all = tt
AllZip-holds R [] (y ∷ ys) all = all
AllZip-holds R (x ∷ xs) [] all = all
AllZip-holds R (x ∷ xs) (y ∷ ys) all = (all.0.holds, AllZip-holds R xs ys all.1)

pub AllZip-only : {A B : Type 0} (R : A → B → Type 0) (xs : List A) (ys others : List B) → AllZip (λ x y. Reads (R x) y) xs ys → AllZip R xs others → ys ≡ others
AllZip-only R [] [] [] all also = refl
AllZip-only R [] [] (z ∷ others) all also = absurd also
AllZip-only R [] (y ∷ ys) others all also = absurd all
AllZip-only R (x ∷ xs) [] others all also = absurd all
AllZip-only R (x ∷ xs) (y ∷ ys) [] all also = absurd also
AllZip-only R (x ∷ xs) (y ∷ ys) (z ∷ others) all also = ap₂ (λ a b. a ∷ b) (all.0.only z also.0) (AllZip-only R xs ys others all.1 also.1)

-- what the rows of a file's cells say of the file
module _ {Row : Type 0} (table : Table Row) (bytes schema page : List ℕ) (cells found : List PlacedCell) (is : schema ≡ schema_record table.name table.text) (page_is : page ≡ drop 4096 bytes) (cells_are : cells ≡ found) (holds : HoldsTable bytes schema found) where
  cells-all : map (cell_of page) cells ≡ map (cell_of (drop 4096 bytes)) found
  cells-all = ap (λ p. map (cell_of p) cells) page_is ∙ ap (map (cell_of (drop 4096 bytes))) cells_are

  small-rows : (rows : List Row) → IsSmall table bytes rows → AllZip table.IsRow (map (cell_of page) cells) rows
  small-rows rows small =
      let file : IsSmallFile bytes schema small.cells = subst (λ s. IsSmallFile bytes s small.cells) (sym is) small.file in
      subst (λ all. AllZip table.IsRow all rows) (holds.second.only small.cells 0 (small_file-table bytes schema small.cells file) ∙ sym cells-all) small.each

  rows-small : (rows : List Row) → AllZip table.IsRow (map (cell_of page) cells) rows → IsRisingBy table.rowid rows → IsSmall table bytes rows
  rows-small rows each rising = record {
    cells = map (cell_of (drop 4096 bytes)) found;
    file = subst (λ s. IsSmallFile bytes s (map (cell_of (drop 4096 bytes)) found)) is holds.file;
    each = subst (λ all. AllZip table.IsRow all rows) cells-all each;
    rising = rising;
  }

  -- a cell is no row
  pub rows-none_small : Reads (OrNone (AllZip table.IsRow (map (cell_of page) cells))) None → Reads (OrNone (IsSmall table bytes)) None
  rows-none_small reads = Reads-none (IsSmall table bytes) (λ rows small. reads.holds rows (small-rows rows small))

  module _ (rows : List Row) (reads : Reads (OrNone (AllZip table.IsRow (map (cell_of page) cells))) (Some rows)) where
    rows-only : Reads (AllZip table.IsRow (map (cell_of page) cells)) rows
    rows-only = some-of_reads (AllZip table.IsRow (map (cell_of page) cells)) rows reads

    -- the rows are out of order
    pub rows-not_rising : ¬ IsRisingBy table.rowid rows → Reads (OrNone (IsSmall table bytes)) None
    rows-not_rising falls = Reads-none (IsSmall table bytes) (λ others small. falls (subst (λ r. IsRisingBy table.rowid r) (sym (rows-only.only others (small-rows others small))) small.rising))

    pub rows-one_small : IsRisingBy table.rowid rows → Reads (OrNone (IsSmall table bytes)) (Some rows)
    rows-one_small rising =
        Reads-some (IsSmall table bytes) rows (rows-small rows rows-only.holds rising) (λ others small. rows-only.only others (small-rows others small))
