-- Members one after the other, up to the first that has a fault.
use Rattle.std.proofs.Common.{◌≡◌, ℕ, ◌+◌, ◌<◌, ◌≤◌, ◌-◌, ◌&&◌, ◌||◌, Bool, true, false, List, [], ◌∷◌, ◌++◌, length, map, filter, take, drop, get_or, Option, Some, None, Result, Ok, Err, Vec, Global, refl, sym, ap, ◌∙◌, subst, inl, inr, arith, length-append, append_assoc, append-nil}
use Rattle.std.proofs.Math.Path.{subst⁻¹}
use Rattle.std.specs.Prelude.{filter_map, if◌then◌else◌, option_to_list}
use Rattle.std.specs.List.{AllByRecursion, AllZip}
use Rattle.std.proofs.lemmas.List.{map-append}
use Rattle.std.proofs.lemmas.List.Elements.{filter_map-append}
use Rattle.tree_spec.specs.Standing.{Paged, Sizes}
use Rattle.database_spec.specs.declared.catalog.SchemaRow.{SchemaRow}
use Rattle.database_spec.specs.declared.fault.FileFault.{FileFault}
use Rattle.database_spec.specs.declared.fault.FileFault.TheVariants as fault
use Rattle.database_spec.specs.Catalogs.{is_index, is_table}
use Rattle.database_spec.specs.RightRows.{has_name, repeats_name, rows_of, IsRight, IsFaultless, AreFaultless, RowHasFault, FirstRowFault}
use Rattle.schema_read.specs.Found.{IsMeant, found_rows, repeats_in, rows_in}
use Rattle.schema_read.specs.Checks.{ChecksAll, ChecksRow, IsBasis, IsDuplicate, IsJudged, IsPlaced, IsRefusal, PlacesFound, member_at}
use Rattle.schema_read.specs.declared.check.Basis.{Basis}
use Rattle.schema_read.specs.declared.check.Placed.{Placed}
use Rattle.schema_read.specs.declared.check.RowFault.{RowFault}
use Rattle.schema_read.specs.declared.check.RowFault.TheVariants.{SchemaRow as SchemaRowFault, DuplicateName, Memory}
use Rattle.schema_read.specs.declared.found.Found.{Found}
use Rattle.schema_read.proofs.MemberLists.{any-rows, uncons}

pub repeats-rows : (before : List Found) (row : SchemaRow) → repeats_in before row ≡ repeats_name (rows_in before) (Some row)
repeats-rows before row = ap (λ (b : Bool). (is_table row || is_index row) && b) (any-rows (has_name row.name) before)

module _ (sizes : Sizes) (base : Paged) (format : ℕ) (found before : List Found) (this : Found) where
  -- a member that is right and repeats no name
  pub row-passes : (row : SchemaRow) (placed : Option Placed) → this.row ≡ Some row → IsRight sizes base (rows_in found) (rows_in before) row × IsJudged format found row placed → repeats_in before row ≡ false
      → (let answer : Result (Option Placed) RowFault = Ok placed in ChecksRow sizes base format found before this answer)
  row-passes row placed e right fresh = (
    subst⁻¹ (IsFaultless sizes base (rows_in found) (rows_in before)) e (right.0, sym (repeats-rows before row) ∙ fresh),
    subst⁻¹ (λ (r : Option SchemaRow). PlacesFound sizes base format found r placed) e right.1,
  )

  -- it is not right
  pub row-wrong : (row : SchemaRow) → this.row ≡ Some row → ¬ IsRight sizes base (rows_in found) (rows_in before) row
      → RowHasFault sizes base (rows_in found) (rows_in before) (member_at this) this.row (fault.SchemaRow this.rowid)
  row-wrong row e wrong =
      subst⁻¹ (λ (r : Option SchemaRow). RowHasFault sizes base (rows_in found) (rows_in before) (member_at this) r (fault.SchemaRow this.rowid)) e (inl (wrong, refl))

  -- it is no row
  pub row-none : this.row ≡ None → RowHasFault sizes base (rows_in found) (rows_in before) (member_at this) this.row (fault.SchemaRow this.rowid)
  row-none e = subst⁻¹ (λ (r : Option SchemaRow). RowHasFault sizes base (rows_in found) (rows_in before) (member_at this) r (fault.SchemaRow this.rowid)) e (inl ((λ right. right), refl))

  -- it repeats a name
  pub row-repeats : (row : SchemaRow) (refused : RowFault) → this.row ≡ Some row → IsRight sizes base (rows_in found) (rows_in before) row → repeats_in before row ≡ true → IsDuplicate row.name refused
      → IsRefusal (RowHasFault sizes base (rows_in found) (rows_in before) (member_at this) this.row) refused
  row-repeats row (SchemaRowFault rowid) e right again is = absurd is
  row-repeats row (DuplicateName name) e right again is =
      subst⁻¹ (λ (r : Option SchemaRow). RowHasFault sizes base (rows_in found) (rows_in before) (member_at this) r (fault.DuplicateName name)) e
      (inr (right, sym (repeats-rows before row) ∙ again, ap fault.DuplicateName is))
  row-repeats row (Memory error) e right again is = tt

-- what is known of members behind others is known of all
pub record Holds (sizes : Sizes) (base : Paged) (format : ℕ) (found before left : List Found) (placed : List Placed) : Type 0 where
  pub faultless : AreFaultless sizes base (rows_in found) (rows_in before) (found_rows left) → AreFaultless sizes base (rows_in found) [] (found_rows found)
  pub fault : (f : FileFault) → FirstRowFault sizes base (rows_in found) (rows_in before) (map member_at left) (found_rows left) f → FirstRowFault sizes base (rows_in found) [] (map member_at found) (found_rows found) f
  pub indexes : (rest : List Placed) → AllZip (IsPlaced format found) (filter is_index (rows_in left)) rest → AllZip (IsPlaced format found) (filter is_index (rows_in found)) (placed ++ rest)

pub record IsUpTo (basis : Basis) (found left : List Found) (at : ℕ) (placed : List Placed) : Type 0 where
  pub before : List Found
  pub whole : found ≡ before ++ left
  pub many : length before ≡ at
  pub holds : (sizes : Sizes) (base : Paged) → IsBasis basis sizes base → Holds sizes base basis.format found before left placed

pub up_to-start : (basis : Basis) (found : List Found) → IsUpTo basis found found 0 []
up_to-start basis found = record { before = []; whole = refl; many = refl; holds = λ sizes base is. record { faultless = λ h. h; fault = λ f h. h; indexes = λ rest h. h } }

all-behind : (before left : List Found) → AllByRecursion IsMeant (before ++ left) → AllByRecursion IsMeant left
all-behind [] left all = all
all-behind (x ∷ before) left all = all-behind before left all.1

-- the place is one of the list's
pub up_to-within : (basis : Basis) (found left : List Found) (at : ℕ) (placed : List Placed) → IsUpTo basis found left at placed → at + length left ≡ length found
up_to-within basis found left at placed is = omega (arith, ap length is.whole, length-append is.before left, is.many)

take-front : {A : Type 0} (front back : List A) → take (length front) (front ++ back) ≡ front
take-front [] back = refl
take-front (x ∷ front) back = ap (λ xs. x ∷ xs) (take-front front back)

-- the members before are those at the front
pub up_to-before : (basis : Basis) (found left : List Found) (at : ℕ) (placed : List Placed) (is : IsUpTo basis found left at placed) → take at found ≡ is.before
up_to-before basis found left at placed is = ap (λ (f : List Found). take at f) is.whole ∙ ap (λ (n : ℕ). take n (is.before ++ left)) (sym is.many) ∙ take-front is.before left

rows-more : (before : List Found) (one : Found) → rows_in (before ++ one ∷ []) ≡ rows_in before ++ rows_of (one.row ∷ [])
rows-more before one =
    ap (λ (rows : List (Option SchemaRow)). rows_of rows) (map-append (λ (f : Found). f.row) before (one ∷ [])) ∙ filter_map-append (λ (r : Option SchemaRow). r) (found_rows before) (one.row ∷ [])

module _ (basis : Basis) (found : List Found) (left : List Found) (one : Found) (at : ℕ) (placed : List Placed) (some : 1 ≤ length left) (first : one ≡ get_or left 0 one) (up : IsUpTo basis found left at placed) where
  abbrev rest : List Found
  rest = take (length left - 1) (drop 1 left)

  split : left ≡ one ∷ rest
  split = uncons left one some first

  -- the member is one of all
  pub up_to-meant : AllByRecursion IsMeant found → IsMeant one
  up_to-meant meant = (subst (AllByRecursion IsMeant) split (all-behind up.before left (subst (AllByRecursion IsMeant) up.whole meant))).0

  module _ (sizes : Sizes) (base : Paged) (is : IsBasis basis sizes base) where
    here : Holds sizes base basis.format found up.before (one ∷ rest) placed
    here = subst (λ (l : List Found). Holds sizes base basis.format found up.before l placed) split (up.holds sizes base is)

    indexes-more : (row : SchemaRow) → one.row ≡ Some row → (more : Option Placed) → IsJudged basis.format found row more → (later : List Placed)
        → AllZip (IsPlaced basis.format found) (filter is_index (rows_in rest)) later → AllZip (IsPlaced basis.format found) (filter is_index (rows_in (one ∷ rest))) (option_to_list more ++ later)
    indexes-more row e None judged later are =
        subst⁻¹ (λ (r : Option SchemaRow). AllZip (IsPlaced basis.format found) (filter is_index (filter_map (λ x. x) (r ∷ found_rows rest))) later) e
        (subst⁻¹ (λ (b : Bool). AllZip (IsPlaced basis.format found) (if b then row ∷ filter is_index (rows_in rest) else filter is_index (rows_in rest)) later) judged are)
    indexes-more row e (Some p) judged later are =
        subst⁻¹ (λ (r : Option SchemaRow). AllZip (IsPlaced basis.format found) (filter is_index (filter_map (λ x. x) (r ∷ found_rows rest))) (p ∷ later)) e
        (subst⁻¹ (λ (b : Bool). AllZip (IsPlaced basis.format found) (if b then row ∷ filter is_index (rows_in rest) else filter is_index (rows_in rest)) (p ∷ later)) judged.0 (judged.1, are))

    by_row : (row : Option SchemaRow) → one.row ≡ row → (more : Option Placed) → IsFaultless sizes base (rows_in found) (rows_in up.before) row × PlacesFound sizes base basis.format found row more
        → Holds sizes base basis.format found (up.before ++ one ∷ []) rest (placed ++ option_to_list more)
    by_row None e more passes = absurd passes.1
    by_row (Some row) e more passes = record {
      faultless = λ are. here.faultless (subst⁻¹ (IsFaultless sizes base (rows_in found) (rows_in up.before)) e passes.0, subst (λ (b : List SchemaRow). AreFaultless sizes base (rows_in found) b (found_rows rest)) (rows-more up.before one) are);
      fault = λ f has. here.fault f (inr (subst⁻¹ (IsFaultless sizes base (rows_in found) (rows_in up.before)) e passes.0, subst (λ (b : List SchemaRow). FirstRowFault sizes base (rows_in found) b (map member_at rest) (found_rows rest) f) (rows-more up.before one) has));
      indexes = λ later are.
          subst⁻¹ (AllZip (IsPlaced basis.format found) (filter is_index (rows_in found))) (append_assoc placed (option_to_list more) later) (here.indexes (option_to_list more ++ later) (indexes-more row e more passes.1 later are));
    }

    refused_first : (refused : RowFault) → IsRefusal (RowHasFault sizes base (rows_in found) (rows_in up.before) (member_at one) one.row) refused
        → IsRefusal (FirstRowFault sizes base (rows_in found) [] (map member_at found) (found_rows found)) refused
    refused_first (SchemaRowFault rowid) has = here.fault (fault.SchemaRow rowid) (inl has)
    refused_first (DuplicateName name) has = here.fault (fault.DuplicateName name) (inl has)
    refused_first (Memory error) has = tt

  abbrev Checks : List Found → Result (Option Placed) RowFault → Type 0
  Checks before answer = (sizes : Sizes) (base : Paged) → IsBasis basis sizes base → ChecksRow sizes base basis.format found before one answer

  -- one more member passes
  pub up_to-next : (before : List Found) (more : Option Placed) (all : List Placed) → before ≡ take at found → Checks before (Ok more) → all ≡ placed ++ option_to_list more → IsUpTo basis found rest (at + 1) all
  up_to-next before more all front checks pushed =
      let same : before ≡ up.before = front ∙ up_to-before basis found left at placed up in
      record {
        before = up.before ++ one ∷ [];
        whole = up.whole ∙ ap (λ (l : List Found). up.before ++ l) split ∙ sym (append_assoc up.before (one ∷ []) rest);
        many = length-append up.before (one ∷ []) ∙ ap (λ (n : ℕ). n + 1) up.many;
        holds = λ sizes base is.
            let checked = subst (λ (b : List Found). let answer : Result (Option Placed) RowFault = Ok more in ChecksRow sizes base basis.format found b one answer) same (checks sizes base is) in
            subst⁻¹ (Holds sizes base basis.format found (up.before ++ one ∷ []) rest) pushed (by_row sizes base is one.row refl more checked);
      }

  -- one has a fault
  pub up_to-refused : (before : List Found) (refused : RowFault) → before ≡ take at found → Checks before (Err refused)
      → (sizes : Sizes) (base : Paged) → IsBasis basis sizes base → IsRefusal (FirstRowFault sizes base (rows_in found) [] (map member_at found) (found_rows found)) refused
  up_to-refused before refused front checks sizes base is =
      let same : before ≡ up.before = front ∙ up_to-before basis found left at placed up in
      refused_first sizes base is refused (subst (λ (b : List Found). let answer : Result (Option Placed) RowFault = Err refused in ChecksRow sizes base basis.format found b one answer) same (checks sizes base is))

-- all pass
pub up_to-end : (basis : Basis) (found left : List Found) (at : ℕ) (placed : Vec Placed Global) → length left < 1 → IsUpTo basis found left at placed.items
    → (sizes : Sizes) (base : Paged) → IsBasis basis sizes base → (let answer : Result (Vec Placed Global) RowFault = Ok placed in ChecksAll sizes base basis.format found answer)
up_to-end basis found [] at placed none up sizes base is =
    let holds = up.holds sizes base is in
    (holds.faultless tt, subst (AllZip (IsPlaced basis.format found) (filter is_index (rows_in found))) (append-nil placed.items) (holds.indexes [] tt))
up_to-end basis found (x ∷ left) at placed none up sizes base is = absurd (omega (arith, none))
