-- What is found of a `data_` table, row by row.
use Rattle.std.proofs.Common.{◌≡◌, ℕ, ◌+◌, List, [], ◌∷◌, ◌++◌, length, Option, Some, None, Err, ◌⊎◌, refl, sym, ap, ap₂, ◌∙◌, subst, inl, inr, length-append, arith}
use Rattle.std.proofs.Math.Path.{subst⁻¹}
use Rattle.std.proofs.lemmas.List.Elements.{filter-append}
use Rattle.std.proofs.lemmas.List.Sums.{sum_by-append, sum_by-cons}
use Rattle.std.specs.Prelude.{filter, sum_by}
use Rattle.common_spec.specs.Reading.{OrNone, OrFault, Reads as ReadsAnswer}
use Rattle.rbu_rows.specs.declared.prepared.Prepared.{Prepared}
use Rattle.schema_spec.specs.declared.schema.Table.{Table}
use Rattle.tree_spec.specs.Trees.{Member}
use Rattle.database_spec.specs.declared.catalog.Catalog.{Catalog}
use Rattle.prepared_spec.specs.declared.input_fault.InputFault.{InputFault}
use Rattle.prepared_spec.specs.PreparedRows.{IsPrepared, IsWrongRow, record_length}
use Rattle.prepared_spec.specs.Inputs.{Input, Reads, Opened, is_row, input_bytes, sum_fault, IsWrongInput}
use Rattle.prepared_spec.specs.InputsLaws.{prepared-one}
use Rattle.prepared_spec.specs.InputFaultsLaws.{unprepared-not_prepared}
use Rattle.rbu_input.specs.declared.fault.InputError.{InputError}
use Rattle.rbu_input.specs.declared.fault.InputError.TheVariants.{Refused, Memory}
use Rattle.rbu_input.specs.declared.reading.CountedRow.{CountedRow}
use Rattle.rbu_input.specs.declared.sums.Sums.{Sums}
use Rattle.rbu_input.specs.RowAnswers.{IsWant, Refuses, IsRightRow, IsRefused, HasInputError}
use Rattle.rbu_input.specs.Sums.{AreSums, sums_fault}
use Rattle.rbu_input.specs.Reading.{IsTaken}

some-none : {A : Type 0} (a : A) (o : Option A) → o ≡ Some a → o ≡ None → ⊥
some-none a o p q = let h : Some a ≡ None = sym p ∙ q in let no : ⊥ = cc in no

-- a member that prepares a row
some-prepared : (target own : Table) (member : Member) (prepared : Prepared) (row : Option Prepared) → IsPrepared target own member prepared → OrNone (IsPrepared target own member) row → row ≡ Some prepared
some-prepared target own member prepared (Some other) is has = ap Some (prepared-one target own member other prepared has is)
some-prepared target own member prepared None is none = absurd (none prepared is)

module _ (catalog : Catalog) (before : List Input) (sums : Sums) (are : AreSums before sums) (opened : Opened) (member : Member) where
  sum_fault-is : (prepared : Prepared) → sum_fault before (Reads opened member (Some prepared)) ≡ sums_fault sums.rows sums.bytes (record_length opened.target prepared)
  sum_fault-is prepared = ap₂ (λ (rows bytes : ℕ). sums_fault rows bytes (record_length opened.target prepared)) (sym are.rows) (sym are.bytes)

  -- the sums with one row more
  pub sums-more : (prepared : Prepared) (more : Sums) → more.rows ≡ sums.rows + 1 → more.bytes ≡ sums.bytes + record_length opened.target prepared → AreSums (before ++ Reads opened member (Some prepared) ∷ []) more
  sums-more prepared more rows bytes = record {
    rows = rows ∙ ap (λ (n : ℕ). n + 1) are.rows
        ∙ sym (ap length (filter-append is_row before (Reads opened member (Some prepared) ∷ [])) ∙ length-append (filter is_row before) (Reads opened member (Some prepared) ∷ []));
    bytes = bytes ∙ ap (λ (n : ℕ). n + record_length opened.target prepared) are.bytes
        ∙ sym (sum_by-append input_bytes before (Reads opened member (Some prepared) ∷ []) ∙ ap (λ (n : ℕ). sum_by input_bytes before + n) (sum_by-cons input_bytes (Reads opened member (Some prepared)) [] ∙ one (record_length opened.target prepared)));
  }
    where
      one : (n : ℕ) → n + 0 ≡ n
      one n = omega (arith)

  module _ (prepared : Prepared) (right : IsRightRow opened.source opened.target opened.own member prepared) (row : Option Prepared) (has : OrNone (IsPrepared opened.target opened.own member) row) where
    row_is : row ≡ Some prepared
    row_is = some-prepared opened.target opened.own member prepared row right.prepares has

    right-not_wrong : sums_fault sums.rows sums.bytes (record_length opened.target prepared) ≡ None → (fault : InputFault) → ¬ IsWrongInput catalog before (Reads opened member (Some prepared)) fault
    right-not_wrong none fault (inl wrong) = right.right fault wrong
    right-not_wrong none fault (inr (not, over)) = some-none fault (sum_fault before (Reads opened member (Some prepared))) over (sum_fault-is prepared ∙ none)

    -- a right row within the limits
    pub takes-right : (counted : CountedRow) → counted.prepared ≡ prepared → sums_fault sums.rows sums.bytes (record_length opened.target prepared) ≡ None → counted.sums.rows ≡ sums.rows + 1
        → counted.sums.bytes ≡ sums.bytes + record_length opened.target prepared → IsTaken catalog before opened member row counted
    takes-right counted same none rows bytes = record {
      prepared = row_is ∙ ap Some (sym same);
      right = subst⁻¹ (λ (o : Option Prepared). (fault : InputFault) → ¬ IsWrongInput catalog before (Reads opened member o) fault) row_is (right-not_wrong none);
      sums = subst⁻¹ (λ (o : Option Prepared). AreSums (before ++ Reads opened member o ∷ []) counted.sums) row_is (sums-more prepared counted.sums rows bytes);
    }

    -- one that passes a limit
    pub takes-over : (fault : InputFault) → sums_fault sums.rows sums.bytes (record_length opened.target prepared) ≡ Some fault → IsWrongInput catalog before (Reads opened member row) fault
    takes-over fault over = subst⁻¹ (λ (o : Option Prepared). IsWrongInput catalog before (Reads opened member o) fault) row_is (inr (right.right, sum_fault-is prepared ∙ over))

-- a row that is wrong by itself
pub takes-wrong : (catalog : Catalog) (before : List Input) (opened : Opened) (member : Member) (row : Option Prepared) (fault : InputFault) → OrNone (IsPrepared opened.target opened.own member) row
    → HasInputError opened.source opened.target opened.own member fault → IsWrongInput catalog before (Reads opened member row) fault
takes-wrong catalog before opened member None fault has (inl unprepared) = unprepared
takes-wrong catalog before opened member None fault has (inr (prepared, is, wrong)) = absurd (has prepared is)
takes-wrong catalog before opened member (Some row) fault has (inl unprepared) = absurd (unprepared-not_prepared opened.source opened.target opened.own member fault row unprepared has)
takes-wrong catalog before opened member (Some row) fault has (inr (prepared, is, wrong)) =
    inl (subst (λ (r : Prepared). IsWrongRow opened.source opened.target r fault) (prepared-one opened.target opened.own member prepared row is has) wrong)

-- The same of what calls answer.

module _ (catalog : Catalog) (before : List Input) (sums : Sums) (are : AreSums before sums) (opened : Opened) (member : Member) (prepared : Prepared)
    (right : IsRightRow opened.source opened.target opened.own member prepared) (row : Option Prepared) (has : OrNone (IsPrepared opened.target opened.own member) row) (n : ℕ) (length_is : n ≡ record_length opened.target prepared) where
  pub counts-right : (more : Sums) → sums_fault sums.rows sums.bytes n ≡ None → more.rows ≡ sums.rows + 1 → more.bytes ≡ sums.bytes + n → IsTaken catalog before opened member row (record { prepared = prepared; sums = more })
  counts-right more none rows bytes =
      takes-right catalog before sums are opened member prepared right row has (record { prepared = prepared; sums = more }) refl (subst (λ (k : ℕ). sums_fault sums.rows sums.bytes k ≡ None) length_is none) rows
      (bytes ∙ ap (λ (k : ℕ). sums.bytes + k) length_is)

  pub counts-over : (fault : InputError) → Refuses (λ refused. sums_fault sums.rows sums.bytes n ≡ Some refused) fault → IsWant fault ⊎ Refuses (IsWrongInput catalog before (Reads opened member row)) fault
  counts-over (Refused fault) over = inr (takes-over catalog before sums are opened member prepared right row has fault (subst (λ (k : ℕ). sums_fault sums.rows sums.bytes k ≡ Some fault) length_is over))
  counts-over (Memory error) over = absurd over

pub refuses-wrong : (catalog : Catalog) (before : List Input) (opened : Opened) (member : Member) (row : Option Prepared) → OrNone (IsPrepared opened.target opened.own member) row → (fault : InputError)
    → IsWant fault ⊎ ReadsAnswer (OrFault (IsRightRow opened.source opened.target opened.own member) (IsRefused opened.source opened.target opened.own member)) (Err fault)
    → IsWant fault ⊎ Refuses (IsWrongInput catalog before (Reads opened member row)) fault
refuses-wrong catalog before opened member row has (Refused fault) (inl want) = absurd want
refuses-wrong catalog before opened member row has (Refused fault) (inr read) = inr (takes-wrong catalog before opened member row fault has read.holds)
refuses-wrong catalog before opened member row has (Memory error) told = inl tt
