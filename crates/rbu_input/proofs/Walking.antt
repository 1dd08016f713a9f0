-- The rows of a `data_` table that were read, and what is left of them.
use Rattle.std.proofs.Common.{◌≡◌, ℕ, List, [], ◌∷◌, ◌++◌, Option, Some, None, Result, Ok, Err, IfErr, ◌⊎◌, ◌-◌, refl, sym, ap, ap₂, ◌∙◌, subst, inl, inr, append_assoc, append-nil, arith}
use Rattle.std.proofs.Math.Path.{subst⁻¹}
use Rattle.common_spec.specs.Reading.{OrNone}
use Rattle.page_store.specs.declared.store.PageRead.{Ghosts}
use Rattle.page_store.specs.Store.{IsCause, OwesBy, Stays}
use Rattle.rbu_rows.specs.declared.prepared.Prepared.{Prepared}
use Rattle.schema_spec.specs.declared.schema.Table.{Table}
use Rattle.tree_spec.specs.declared.TreeKind.TheVariants.{Table as TableTree}
use Rattle.tree_spec.specs.Standing.{Sizes, Paged}
use Rattle.tree_spec.specs.Trees.{Member}
use Rattle.tree_walk.specs.declared.path.Cursor.{Cursor}
use Rattle.tree_walk.specs.declared.cursor.Row.{Row}
use Rattle.tree_walk.specs.Courses.{IsPast, Spot, Damage, Course, ends, stops as stops_at, behind_first, IsFirstOf, IsBadFirst, MovesOver, ReadsFirst, StartsWalk}
use Rattle.tree_rows.specs.CoursesLaws.{walk-course}
use Rattle.tree_walk.specs.PayloadsLaws.{bad_chain-one, no_view, payload-not_broken, payload-one}
use Rattle.tree_rows.specs.Remaining.{cell_before, Follows, Remains}
use Rattle.database_spec.specs.Walks.{Finding, Finds, Ends, Holds, Breaks, Disorders, Bares, IsWalk}
use Rattle.refusal.specs.declared.Rule.{Rule}
use Rattle.refusal.specs.declared.Rule.TheVariants as broken
use Rattle.std.specs.Prelude.{slice_index_or, filter_map}
use Rattle.std.specs.List.{AllZip}
use Rattle.tree_spec.specs.declared.fault.TreeFault.{TreeFault}
use Rattle.tree_spec.specs.declared.fault.TreeFault.TheVariants as tree
use Rattle.tree_spec.specs.Faults.{IsDamageOrOther}
use Rattle.prepared_spec.specs.declared.input_fault.InputFault.TheVariants.{TreeDamaged}
use Rattle.database_spec.specs.declared.catalog.Catalog.{Catalog}
use Rattle.prepared_spec.specs.declared.input_fault.InputFault.{InputFault}
use Rattle.prepared_spec.specs.Inputs.{Input, Reads, Damages, Opened, IsInputOf, IsWrongInput, FirstWrongInput, AllRight, batches_in, prepared_in}
use Rattle.prepared_spec.specs.PreparedRows.{IsPrepared}
use Rattle.rbu_input.specs.declared.fault.InputError.{InputError}
use Rattle.rbu_input.specs.declared.fault.InputError.TheVariants as input
use Rattle.rbu_input.specs.declared.reading.CountedRow.{CountedRow}
use Rattle.rbu_input.specs.declared.reading.CountedRows.{CountedRows}
use Rattle.rbu_input.specs.declared.store_fault.StoreFault.{StoreFault}
use Rattle.rbu_input.specs.declared.store_fault.StoreFault.TheVariants.{Refused, Store, Memory}
use Rattle.rbu_input.specs.declared.sums.Sums.{Sums}
use Rattle.rbu_input.specs.RowAnswers.{IsWant, Refuses, member_with}
use Rattle.rbu_input.specs.Sums.{AreSums}
use Rattle.rbu_input.specs.Reading.{fault_in, IsRefusedOrOther, of_input_error, of_tree_fault, opened_as, joined, IsTaken, TakesRow, Leaves, OfRows, ReadsNext, ReadsFrom}

-- what a call owes whose error is told in other words
pub owes-told : {P F E T R : Type 0} (g : Ghosts P F) {before after : P} (cause_in : E → Option F) (error : E) (told : StoreFault F) → fault_in told ≡ cause_in error
    → (let one : Result T E = Err error in OwesBy g cause_in before after one) → (let other : Result R (StoreFault F) = Err told in OwesBy g fault_in before after other)
owes-told {P} {F} {E} {T} {R} g {before} {after} cause_in error told same owes = record {
  stays = owes.stays;
  faults = record { later = owes.faults.later; still = tt; cause = subst⁻¹ (λ (o : Option F). IsCause g.Fails o (g.faults before) (g.faults after)) same owes.faults.cause };
}

-- the same behind a call that ended well
pub owes-then : {P F D E Q T R : Type 0} (g : Ghosts P F) {before between after : P} (first_in : D → Option F) (cause_in : E → Option F) (done : Q) (error : E) (told : StoreFault F) → fault_in told ≡ cause_in error
    → (let one : Result Q D = Ok done in OwesBy g first_in before between one) → (let two : Result T E = Err error in OwesBy g cause_in between after two)
    → (let three : Result R (StoreFault F) = Err told in OwesBy g fault_in before after three)
owes-then {P} {F} {D} {E} {Q} {T} {R} g {before} {between} {after} first_in cause_in done error told same first second =
    let still : g.faults between ≡ g.faults before = first.faults.still in record {
      stays = record { size = second.stays.size ∙ first.stays.size; usable = second.stays.usable ∙ first.stays.usable; fixed = second.stays.fixed ∙ first.stays.fixed };
      faults = record {
        later = omega (arith, ap g.fault_count still, second.faults.later);
        still = tt;
        cause = subst (λ (f : g.Faults). IsCause g.Fails (fault_in told) f (g.faults after)) still
            (subst⁻¹ (λ (o : Option F). IsCause g.Fails o (g.faults between) (g.faults after)) same second.faults.cause);
      };
    }

-- what a call owes that leaves the store
pub owes-free : {P F T : Type 0} (g : Ghosts P F) {before after : P} (result : Result T (StoreFault F)) → Stays g before after → g.faults after ≡ g.faults before → IfErr result (λ fault. fault_in fault ≡ None)
    → OwesBy g fault_in before after result
owes-free g {before} {after} (Ok done) stays same none = record { stays = stays; faults = record { later = omega (arith, ap g.fault_count same); still = same; cause = tt } }
owes-free {P} {F} {T} g {before} {after} (Err fault) stays same none = record {
  stays = stays;
  faults = record { later = omega (arith, ap g.fault_count same); still = tt; cause = subst⁻¹ (λ (o : Option F). IsCause g.Fails o (g.faults before) (g.faults after)) none same };
}

pub refused-then : {F : Type 0} (P Q : InputFault → Type 0) (fault : StoreFault F) → ((refused : InputFault) → P refused → Q refused) → IsRefusedOrOther P fault → IsRefusedOrOther Q fault
refused-then P Q (Refused refused) step told = step refused told
refused-then P Q (Store fault) step told = tt
refused-then P Q (Memory error) step told = tt

-- the damage of which P holds is refused for what follows from it
pub damage-refused : {F : Type 0} (P : ℕ → Rule → Type 0) (Q : InputFault → Type 0) (fault : TreeFault F) (told : StoreFault F) → told ≡ of_tree_fault fault → ((page : ℕ) (rule : Rule) → P page rule → Q (TreeDamaged page rule))
    → IsDamageOrOther P fault → IsRefusedOrOther Q told
damage-refused P Q (tree.TreeDamaged page rule) told e step is = subst⁻¹ (IsRefusedOrOther Q) e (step page rule is)
damage-refused P Q (tree.TrunkDamaged page) told e step is = absurd is
damage-refused P Q (tree.TargetFull pages limit) told e step is = absurd is
damage-refused P Q (tree.Store fault) told e step is = subst⁻¹ (IsRefusedOrOther Q) e tt
damage-refused P Q (tree.Memory error) told e step is = subst⁻¹ (IsRefusedOrOther Q) e tt

pub input-refused : {F : Type 0} (P : InputFault → Type 0) (fault : InputError) (told : StoreFault F) → told ≡ of_input_error fault → IsWant fault ⊎ Refuses P fault → IsRefusedOrOther P told
input-refused P (input.Refused refused) told e (inl want) = absurd want
input-refused P (input.Refused refused) told e (inr is) = subst⁻¹ (IsRefusedOrOther P) e is
input-refused P (input.Memory error) told e is = subst⁻¹ (IsRefusedOrOther P) e tt

-- A course that ends has no cell and does not stop, and one that stops has no cell and stops in one place.

pub end-not_cell : (spot : Spot) (rest : Course) → ends ≡ cell_before spot rest → ⊥
end-not_cell spot rest same = let none : ◌≡◌ {A = List Spot} [] (spot ∷ rest.spots) = ap (λ (c : Course). c.spots) same in let no : ⊥ = cc in no

pub end-not_stop : (page : ℕ) (rule : Rule) → ends ≡ stops_at page rule → ⊥
end-not_stop page rule same = let none : ◌≡◌ {A = Option Damage} None (Some (record { page = page; rule = rule })) = ap (λ (c : Course). c.damage) same in let no : ⊥ = cc in no

pub stop-not_cell : (page : ℕ) (rule : Rule) (spot : Spot) (rest : Course) → stops_at page rule ≡ cell_before spot rest → ⊥
stop-not_cell page rule spot rest same = let none : ◌≡◌ {A = List Spot} [] (spot ∷ rest.spots) = ap (λ (c : Course). c.spots) same in let no : ⊥ = cc in no

damage_or : Option Damage → Damage → Damage
damage_or None other = other
damage_or (Some damage) other = damage

pub stop-one : (page other : ℕ) (r s : Rule) → stops_at page r ≡ stops_at other s → (page ≡ other) × (r ≡ s)
unfolding damage_or
stop-one page other r s same =
    let any : Damage = record { page = 0; rule = broken.Kind } in
    (ap (λ (c : Course). (damage_or c.damage any).page) same, ap (λ (c : Course). (damage_or c.damage any).rule) same)

-- What is found first, where a cursor stands.

module _ (sizes : Sizes) (base : Paged) (opened : Opened) where
  -- what is no row and no damage is no input
  abbrev AreInputs : List Finding → List (List Input) → Type 0
  AreInputs findings parts = AllZip (IsInputOf opened) findings parts

  -- damage comes first
  pub record StartsDamaged (inputs : List Input) (page : ℕ) (rule : Rule) : Type 0 where
    pub later : List Input
    pub inputs_are : inputs ≡ Damages (page, rule) ∷ later

  -- a row comes first, and the rest is behind the first cell of a course
  pub record StartsRow (parts : List (List Input)) (course : Course) (row : Row) : Type 0 where
    pub found : Option Prepared
    pub has : OrNone (IsPrepared opened.target opened.own (member_with row.rowid row.payload)) found
    pub findings : List Finding
    pub others : List (List Input)
    pub are_parts : AreInputs findings others
    pub inputs_are : joined parts ≡ Reads opened (member_with row.rowid row.payload) found ∷ joined others
    pub follows : Follows sizes base TableTree findings ends (behind_first course)

  passed : (part : List Input) (parts : List (List Input)) → part ≡ [] → joined (part ∷ parts) ≡ joined parts
  passed part parts none = ap (λ (p : List Input). p ++ joined parts) none

  damaged-behind : (part : List Input) (parts : List (List Input)) (page : ℕ) (rule : Rule) → part ≡ [] → StartsDamaged (joined parts) page rule → StartsDamaged (joined (part ∷ parts)) page rule
  damaged-behind part parts page rule none starts = record { later = starts.later; inputs_are = passed part parts none ∙ starts.inputs_are }

  row-behind : (part : List Input) (parts : List (List Input)) (course : Course) (row : Row) → part ≡ [] → StartsRow parts course row → StartsRow (part ∷ parts) course row
  row-behind part parts course row none starts = record {
    found = starts.found;
    has = starts.has;
    findings = starts.findings;
    others = starts.others;
    are_parts = starts.are_parts;
    inputs_are = passed part parts none ∙ starts.inputs_are;
    follows = starts.follows;
  }

  damaged-here : (part : List Input) (parts : List (List Input)) (page other : ℕ) (rule r : Rule) → part ≡ Damages (page, rule) ∷ [] → (page ≡ other) × (rule ≡ r) → StartsDamaged (joined (part ∷ parts)) other r
  damaged-here part parts page other rule r e same =
      record { later = joined parts; inputs_are = ap (λ (p : List Input). p ++ joined parts) e ∙ ap₂ (λ (p : ℕ) (k : Rule). Damages (p, k) ∷ joined parts) same.0 same.1 }

  -- nothing is left
  pub none-found : (findings : List Finding) (parts : List (List Input)) → AreInputs findings parts → Follows sizes base TableTree findings ends ends → joined parts ≡ []
  none-found [] [] are is = refl
  none-found [] (part ∷ parts) are is = absurd are
  none-found (finding ∷ findings) [] are is = absurd are
  none-found (Finds page ∷ findings) (part ∷ parts) are is = passed part parts are.0 ∙ none-found findings parts are.1 is
  none-found (Ends page depth ∷ findings) (part ∷ parts) are is = passed part parts are.0 ∙ none-found findings parts are.1 is
  none-found (Bares page ∷ findings) (part ∷ parts) are is = passed part parts are.0 ∙ none-found findings parts are.1 is
  none-found (Holds page member ∷ findings) (part ∷ parts) are (spot, rest, held, on, same) = absurd (end-not_cell spot rest same)
  none-found (Breaks page rule ∷ findings) (part ∷ parts) are (inl same) = absurd (end-not_stop page rule same)
  none-found (Breaks page rule ∷ findings) (part ∷ parts) are (inr (spot, rest, torn, on, same)) = absurd (end-not_cell spot rest same)
  none-found (Disorders page ∷ findings) (part ∷ parts) are is = absurd (end-not_stop page broken.Cells is)

  -- the row that is read is the first that is found
  pub row-found : (findings : List Finding) (parts : List (List Input)) (course : Course) (row : Row) → AreInputs findings parts → Follows sizes base TableTree findings ends course → IsFirstOf sizes base course.spots (Some row)
      → StartsRow parts course row
  row-found [] [] course row are is first = absurd (subst (λ (c : Course). IsFirstOf sizes base c.spots (Some row)) is first)
  row-found [] (part ∷ parts) course row are is first = absurd are
  row-found (finding ∷ findings) [] course row are is first = absurd are
  row-found (Finds page ∷ findings) (part ∷ parts) course row are is first = row-behind part parts course row are.0 (row-found findings parts course row are.1 is first)
  row-found (Ends page depth ∷ findings) (part ∷ parts) course row are is first = row-behind part parts course row are.0 (row-found findings parts course row are.1 is first)
  row-found (Bares page ∷ findings) (part ∷ parts) course row are is first = row-behind part parts course row are.0 (row-found findings parts course row are.1 is first)
  row-found (Holds page member ∷ findings) (part ∷ parts) course row are (spot, rest, held, on, same) first =
      let read = subst (λ (c : Course). IsFirstOf sizes base c.spots (Some row)) same first in
      let view = slice_index_or spot.page.views spot.at no_view in
      let rowid = sym (held.rowid_is no_view) ∙ sym (read no_view).0 in
      let payload = payload-one base.pages sizes.size sizes.usable base.count spot.page spot.at view member.payload row.payload (held.payload_is no_view) (read no_view).1 in
      let one : member ≡ member_with row.rowid row.payload = λ i. record { rowid = rowid i; payload = payload i } in
      let input = are.0 in record {
        found = input.0;
        has = subst (λ (m : Member). OrNone (IsPrepared opened.target opened.own m) input.0) one input.1;
        findings = findings;
        others = parts;
        are_parts = are.1;
        inputs_are = ap (λ (p : List Input). p ++ joined parts) input.2 ∙ ap (λ (m : Member). Reads opened m input.0 ∷ joined parts) one;
        follows = subst⁻¹ (Follows sizes base TableTree findings ends) (ap behind_first same) on;
      }
  row-found (Breaks page rule ∷ findings) (part ∷ parts) course row are (inl same) first = absurd (subst (λ (c : Course). IsFirstOf sizes base c.spots (Some row)) same first)
  row-found (Breaks page rule ∷ findings) (part ∷ parts) course row are (inr (spot, rest, torn, on, same)) first =
      let read = subst (λ (c : Course). IsFirstOf sizes base c.spots (Some row)) same first in
      let view = slice_index_or spot.page.views spot.at no_view in
      absurd (payload-not_broken base.pages sizes.size sizes.usable base.count spot.page spot.at view row.payload (read no_view).1 (torn no_view).0 page rule (torn no_view).1)
  row-found (Disorders page ∷ findings) (part ∷ parts) course row are is first = absurd (subst (λ (c : Course). IsFirstOf sizes base c.spots (Some row)) is first)

  -- damage that a cursor meets before any cell is the first that is found
  pub stop-found : (findings : List Finding) (parts : List (List Input)) (page : ℕ) (rule : Rule) → AreInputs findings parts → Follows sizes base TableTree findings ends (stops_at page rule) → StartsDamaged (joined parts) page rule
  stop-found [] [] page rule are is = absurd (end-not_stop page rule (sym is))
  stop-found [] (part ∷ parts) page rule are is = absurd are
  stop-found (finding ∷ findings) [] page rule are is = absurd are
  stop-found (Finds p ∷ findings) (part ∷ parts) page rule are is = damaged-behind part parts page rule are.0 (stop-found findings parts page rule are.1 is)
  stop-found (Ends p depth ∷ findings) (part ∷ parts) page rule are is = damaged-behind part parts page rule are.0 (stop-found findings parts page rule are.1 is)
  stop-found (Bares p ∷ findings) (part ∷ parts) page rule are is = damaged-behind part parts page rule are.0 (stop-found findings parts page rule are.1 is)
  stop-found (Holds p m ∷ findings) (part ∷ parts) page rule are (spot, rest, held, on, same) = absurd (stop-not_cell page rule spot rest same)
  stop-found (Breaks p r ∷ findings) (part ∷ parts) page rule are (inl same) = damaged-here part parts p page r rule are.0 (stop-one p page r rule (sym same))
  stop-found (Breaks p r ∷ findings) (part ∷ parts) page rule are (inr (spot, rest, torn, on, same)) = absurd (stop-not_cell page rule spot rest same)
  stop-found (Disorders p ∷ findings) (part ∷ parts) page rule are is = damaged-here part parts p page broken.Cells rule are.0 (stop-one p page broken.Cells rule (sym is))

  -- a broken chain of the first cell is the first that is found
  pub torn-found : (findings : List Finding) (parts : List (List Input)) (course : Course) (page : ℕ) (rule : Rule) → AreInputs findings parts → Follows sizes base TableTree findings ends course
      → IsBadFirst sizes base course.spots page rule → StartsDamaged (joined parts) page rule
  torn-found [] [] course page rule are is bad = absurd (subst (λ (c : Course). IsBadFirst sizes base c.spots page rule) is bad)
  torn-found [] (part ∷ parts) course page rule are is bad = absurd are
  torn-found (finding ∷ findings) [] course page rule are is bad = absurd are
  torn-found (Finds p ∷ findings) (part ∷ parts) course page rule are is bad = damaged-behind part parts page rule are.0 (torn-found findings parts course page rule are.1 is bad)
  torn-found (Ends p depth ∷ findings) (part ∷ parts) course page rule are is bad = damaged-behind part parts page rule are.0 (torn-found findings parts course page rule are.1 is bad)
  torn-found (Bares p ∷ findings) (part ∷ parts) course page rule are is bad = damaged-behind part parts page rule are.0 (torn-found findings parts course page rule are.1 is bad)
  torn-found (Holds p m ∷ findings) (part ∷ parts) course page rule are (spot, rest, held, on, same) bad =
      let torn = subst (λ (c : Course). IsBadFirst sizes base c.spots page rule) same bad in
      let view = slice_index_or spot.page.views spot.at no_view in
      absurd (payload-not_broken base.pages sizes.size sizes.usable base.count spot.page spot.at view m.payload (held.payload_is no_view) (torn no_view).0 page rule (torn no_view).1)
  torn-found (Breaks p r ∷ findings) (part ∷ parts) course page rule are (inl same) bad = absurd (subst (λ (c : Course). IsBadFirst sizes base c.spots page rule) same bad)
  torn-found (Breaks p r ∷ findings) (part ∷ parts) course page rule are (inr (spot, rest, torn, on, same)) bad =
      let also = subst (λ (c : Course). IsBadFirst sizes base c.spots page rule) same bad in
      let view = slice_index_or spot.page.views spot.at no_view in
      damaged-here part parts p page r rule are.0 (bad_chain-one base.pages sizes.size sizes.usable base.count spot.page.number view.overflow (view.payload - view.local) p page r rule (torn no_view).1 (also no_view).1)
  torn-found (Disorders p ∷ findings) (part ∷ parts) course page rule are is bad = absurd (subst (λ (c : Course). IsBadFirst sizes base c.spots page rule) is bad)

module _ (sizes : Sizes) (base : Paged) (source : List ℕ) (target own : Table) where
  module _ (catalog : Catalog) (before : List Input) (name : List ℕ) (findings : List Finding) (parts : List (List Input)) (are : AllZip (IsInputOf (opened_as source name target own)) findings parts)
      (old : Cursor) (remains : Remains sizes base TableTree findings old) where
    abbrev pub opened : Opened
    opened = opened_as source name target own

    module _ (F : Type 0) (row : Row) (read : let one : Result (Option Row) (TreeFault F) = Ok (Some row) in ReadsFirst sizes base old one) where
      abbrev pub one : Member
      one = member_with row.rowid row.payload

      abbrev pub starts : StartsRow sizes base opened parts remains.course row
      starts = row-found sizes base opened findings parts remains.course row are remains.follows (read remains.course remains.stands)

      abbrev pub Takes : Result CountedRow InputError → Type 0
      Takes result = (found : Option Prepared) → OrNone (IsPrepared target own one) found → TakesRow catalog before opened one found result

      -- a row that was taken, and a cursor that stands at the next one
      pub leaves-row : (T : Type 0) (counted : CountedRow) (moved : T) (new : Cursor) → Takes (Ok counted) → (let on : Result T (TreeFault F) = Ok moved in MovesOver sizes base old new on)
          → Leaves sizes base catalog before opened (joined parts) counted new
      leaves-row T counted moved new takes moves =
          let taken = takes starts.found starts.has in record {
            member = one;
            findings = starts.findings;
            parts = starts.others;
            are_parts = starts.are_parts;
            inputs_are = starts.inputs_are ∙ ap (λ (r : Option Prepared). Reads opened one r ∷ joined starts.others) taken.prepared;
            taken = subst (λ (r : Option Prepared). IsTaken catalog before opened one r counted) taken.prepared taken;
            remains = record { course = behind_first remains.course; stands = moves remains.course remains.stands; follows = starts.follows };
          }

      -- a row that was refused
      pub refuses-row : (fault : InputError) (told : StoreFault F) → told ≡ of_input_error fault → Takes (Err fault) → IsRefusedOrOther (FirstWrongInput catalog before (joined parts)) told
      refuses-row fault told e takes =
          refused-then (IsWrongInput catalog before (Reads opened one starts.found)) (FirstWrongInput catalog before (joined parts)) told
          (λ refused wrong. subst⁻¹ (λ (inputs : List Input). FirstWrongInput catalog before inputs refused) starts.inputs_are (inl wrong))
          (input-refused (IsWrongInput catalog before (Reads opened one starts.found)) fault told e (takes starts.found starts.has))

      -- one that was taken, and damage behind it
      pub stops-behind : (T : Type 0) (counted : CountedRow) (fault : TreeFault F) (told : StoreFault F) (new : Cursor) → told ≡ of_tree_fault fault → Takes (Ok counted)
          → (let on : Result T (TreeFault F) = Err fault in MovesOver sizes base old new on) → IsRefusedOrOther (FirstWrongInput catalog before (joined parts)) told
      stops-behind T counted fault told new e takes moves =
          let taken = takes starts.found starts.has in
          damage-refused (λ page rule. behind_first remains.course ≡ stops_at page rule) (FirstWrongInput catalog before (joined parts)) fault told e
          (λ page rule is.
          let damage = stop-found sizes base opened starts.findings starts.others page rule starts.are_parts (subst (Follows sizes base TableTree starts.findings ends) is starts.follows) in
          subst⁻¹ (λ (inputs : List Input). FirstWrongInput catalog before inputs (TreeDamaged page rule)) starts.inputs_are
          (inr (taken.right, subst⁻¹ (λ (inputs : List Input). FirstWrongInput catalog (before ++ Reads opened one starts.found ∷ []) inputs (TreeDamaged page rule)) damage.inputs_are (inl refl))))
          (moves remains.course remains.stands)

    -- the row was not read
    pub stops-here : {F : Type 0} (fault : TreeFault F) (told : StoreFault F) → told ≡ of_tree_fault fault → (let one : Result (Option Row) (TreeFault F) = Err fault in ReadsFirst sizes base old one)
        → IsRefusedOrOther (FirstWrongInput catalog before (joined parts)) told
    stops-here fault told e read =
        damage-refused (IsBadFirst sizes base remains.course.spots) (FirstWrongInput catalog before (joined parts)) fault told e
        (λ page rule bad.
        let damage = torn-found sizes base opened findings parts remains.course page rule are remains.follows bad in
        subst⁻¹ (λ (inputs : List Input). FirstWrongInput catalog before inputs (TreeDamaged page rule)) damage.inputs_are (inl refl))
        (read remains.course remains.stands)

    -- no row is left
    pub ends-here : IsPast old → joined parts ≡ []
    ends-here past = none-found sizes base opened findings parts are (subst (Follows sizes base TableTree findings ends) (remains.stands.past past) remains.follows)

  -- what was found so far, and what is left of it where a cursor stands
  pub record Keeps (catalog : Catalog) (before : List Input) (opened : Opened) (inputs : List Input) (cursor : Cursor) (rows : List Prepared) (sums : Sums) : Type 0 where
    pub found : List Input
    pub findings : List Finding
    pub parts : List (List Input)
    pub are_parts : AllZip (IsInputOf opened) findings parts
    pub remains : Remains sizes base TableTree findings cursor
    pub sums_are : AreSums found sums
    pub rows_are : filter_map prepared_in inputs ≡ rows ++ filter_map prepared_in (joined parts)
    pub batches : batches_in inputs ≡ batches_in (joined parts)
    pub right : AllRight catalog found (joined parts) → AllRight catalog before inputs
    pub wrong : (fault : InputFault) → FirstWrongInput catalog found (joined parts) fault → FirstWrongInput catalog before inputs fault
    pub same : before ++ inputs ≡ found ++ joined parts

  abbrev pub KeepsRows : Cursor → Cursor → List Prepared → Sums → Sums → Type 0
  KeepsRows start cursor rows first sums =
      OfRows source target own first (λ catalog before opened findings parts. Remains sizes base TableTree findings start → Keeps catalog before opened (joined parts) cursor rows sums)

  pub rows-none : (cursor : Cursor) (first : Sums) → KeepsRows cursor cursor [] first first
  rows-none cursor first = λ catalog before name findings parts sums are remains. record {
    found = before;
    findings = findings;
    parts = parts;
    are_parts = are;
    remains = remains;
    sums_are = sums;
    rows_are = refl;
    batches = refl;
    right = λ right. right;
    wrong = λ fault wrong. wrong;
    same = refl;
  }

  module _ (catalog : Catalog) (before : List Input) (opened : Opened) (inputs : List Input) (old new : Cursor) (rows : List Prepared) (sums : Sums)
      (keeps : Keeps catalog before opened inputs old rows sums) (counted : CountedRow) (leaves : Leaves sizes base catalog keeps.found opened (joined keeps.parts) counted new) where
    abbrev one_read : Input
    one_read = Reads opened leaves.member (Some counted.prepared)

    pub keeps-more : Keeps catalog before opened inputs new (rows ++ counted.prepared ∷ []) counted.sums
    keeps-more = record {
      found = keeps.found ++ one_read ∷ [];
      findings = leaves.findings;
      parts = leaves.parts;
      are_parts = leaves.are_parts;
      remains = leaves.remains;
      sums_are = leaves.taken.sums;
      rows_are = keeps.rows_are ∙ ap (λ (i : List Input). rows ++ filter_map prepared_in i) leaves.inputs_are ∙ sym (append_assoc rows (counted.prepared ∷ []) (filter_map prepared_in (joined leaves.parts)));
      batches = keeps.batches ∙ ap batches_in leaves.inputs_are;
      right = λ right. keeps.right (subst⁻¹ (AllRight catalog keeps.found) leaves.inputs_are (leaves.taken.right, right));
      wrong = λ fault wrong. keeps.wrong fault (subst⁻¹ (λ (i : List Input). FirstWrongInput catalog keeps.found i fault) leaves.inputs_are (inr (leaves.taken.right, wrong)));
      same = keeps.same ∙ ap (λ (i : List Input). keeps.found ++ i) leaves.inputs_are ∙ sym (append_assoc keeps.found (one_read ∷ []) (joined leaves.parts));
    }

  -- one more row
  pub rows-next : (F : Type 0) (start old new : Cursor) (rows : List Prepared) (first sums : Sums) (counted : CountedRow) → KeepsRows start old rows first sums
      → (let read : Result (Option CountedRow) (StoreFault F) = Ok (Some counted) in ReadsNext sizes base source target own sums old new read) → KeepsRows start new (rows ++ counted.prepared ∷ []) first counted.sums
  rows-next F start old new rows first sums counted keeps reads = λ catalog before name findings parts sums_are are remains.
      let kept = keeps catalog before name findings parts sums_are are remains in
      keeps-more catalog before (opened_as source name target own) (joined parts) old new rows sums kept counted (reads catalog kept.found name kept.findings kept.parts kept.sums_are kept.are_parts kept.remains)

  -- no row is left
  pub rows-end : (F : Type 0) (start old new : Cursor) (rows : CountedRows) (first : Sums) → KeepsRows start old rows.rows.items first rows.sums
      → (let read : Result (Option CountedRow) (StoreFault F) = Ok None in ReadsNext sizes base source target own rows.sums old new read)
      → (let answer : Result CountedRows (StoreFault F) = Ok rows in ReadsFrom sizes base source target own first start answer)
  rows-end F start old new rows first keeps reads = λ catalog before name findings parts sums_are are remains.
      let kept = keeps catalog before name findings parts sums_are are remains in
      let none : joined kept.parts ≡ [] = reads catalog kept.found name kept.findings kept.parts kept.sums_are kept.are_parts kept.remains in record {
        rows_are = kept.rows_are ∙ ap (λ (i : List Input). rows.rows.items ++ filter_map prepared_in i) none ∙ append-nil rows.rows.items;
        batches = kept.batches ∙ ap batches_in none;
        right = kept.right (subst⁻¹ (AllRight catalog kept.found) none tt);
        sums_are = subst⁻¹ (λ (i : List Input). AreSums i rows.sums) (kept.same ∙ ap (λ (i : List Input). kept.found ++ i) none ∙ append-nil kept.found) kept.sums_are;
      }

  -- a row is refused, or damage is met, or the store failed
  pub rows-fault : {F : Type 0} (start old new : Cursor) (rows : List Prepared) (first sums : Sums) (fault : StoreFault F) → KeepsRows start old rows first sums
      → (let read : Result (Option CountedRow) (StoreFault F) = Err fault in ReadsNext sizes base source target own sums old new read)
      → (let answer : Result CountedRows (StoreFault F) = Err fault in ReadsFrom sizes base source target own first start answer)
  rows-fault start old new rows first sums fault keeps reads = λ catalog before name findings parts sums_are are remains.
      let kept = keeps catalog before name findings parts sums_are are remains in
      refused-then (FirstWrongInput catalog kept.found (joined kept.parts)) (FirstWrongInput catalog before (joined parts)) fault kept.wrong (reads catalog kept.found name kept.findings kept.parts kept.sums_are kept.are_parts kept.remains)

  -- damage comes before any row
  pub starts-damaged : {F : Type 0} (catalog : Catalog) (before : List Input) (name : List ℕ) (findings : List Finding) (parts : List (List Input)) → AllZip (IsInputOf (opened_as source name target own)) findings parts
      → (root : ℕ) → IsWalk sizes base TableTree root findings → (fault : TreeFault F) (told : StoreFault F) → told ≡ of_tree_fault fault → (let stood : Result Cursor (TreeFault F) = Err fault in StartsWalk sizes base TableTree root stood)
      → IsRefusedOrOther (FirstWrongInput catalog before (joined parts)) told
  starts-damaged catalog before name findings parts are root walk fault told e stood =
      let course = walk-course sizes base TableTree root findings walk in
      damage-refused (λ page rule. course.0 ≡ stops_at page rule) (FirstWrongInput catalog before (joined parts)) fault told e
      (λ page rule is.
      let damage = stop-found sizes base (opened_as source name target own) findings parts page rule are (subst (Follows sizes base TableTree findings ends) is course.2) in
      subst⁻¹ (λ (inputs : List Input). FirstWrongInput catalog before inputs (TreeDamaged page rule)) damage.inputs_are (inl refl))
      (stood course.0 course.1)
