-- Where a pass stands behind a step.
use Rattle.std.proofs.Common.{◌≡◌, ◌≢◌, ℕ, ℤ, zero, suc, ◌+◌, ◌≤◌, ◌<◌, ◌&&◌, ◌⊎◌, ◌↔◌, not, Bool, true, false, List, [], ◌∷◌, ◌++◌, length, take, Option, Some, None, if◌then◌else◌, refl, sym, ap, ap₂, ◌∙◌, subst, inl, inr, arith, append_assoc}
use Rattle.std.proofs.Math.Path.{subst⁻¹}
use Rattle.std.specs.Prelude.{Contains, slice_get, slice_index_or}
use Rattle.std.specs.List.{AllByRecursion}
use Rattle.std.proofs.lemmas.Option.{slice_get_within}
use Rattle.rbu_value.specs.declared.value.Value.{Value}
use Rattle.rbu_value.specs.declared.value.Value.TheVariants.{Null, Int}
use Rattle.page_spec.specs.Freelists.{Trunk}
use Rattle.rbu_rows.specs.declared.prepared.Prepared.{Prepared}
use Rattle.tree_spec.specs.Trees.{Rooted}
use Rattle.tree_spec.specs.Standing.{Sizes, Paged}
use Rattle.tree_spec.specs.WorldsLaws.{all-front, all-back}
use Rattle.database_spec.specs.Catalogs.{format_of}
use Rattle.database_spec.specs.ListsLaws.{PairsByRecursion}
use Rattle.database_spec.specs.Rows.{TableRow}
use Rattle.prepared_spec.specs.ChangesLaws.{all-has}
use Rattle.prepared_spec.specs.MembersLaws.{Has, has-from}
use Rattle.prepared_spec.specs.declared.violation.Violation.{Violation}
use Rattle.prepared_spec.specs.RowKeys.{is_met, key_cmp, meets}
use Rattle.prepared_spec.specs.StepFaults.{row_fault}
use Rattle.prepared_spec.specs.Tables.{integer_in, is_new, new_rowid}
use Rattle.prepared_laws.specs.TablesMadeLaws.{IsUsable}
use Rattle.pass_fault.specs.declared.answer.PassAnswer.{PassAnswer}
use Rattle.pass_fault.specs.declared.answer.PassAnswer.TheVariants.{Moved as MovedOn, End, Constraint as Violates}
use Rattle.pass_spec.specs.BatchStepsLaws.{met-same}
use Rattle.pass_spec.specs.RowidKeysLaws.{fit-now, key-now, meets-alone, meets-rowid, new_rowid-is, rowid-meets, rowid_step-behind}
use Rattle.pass_spec.specs.TableSteps.{AreDue, IsInBatch, MeetsRowid, taken_behind}
use Rattle.row_steps.specs.RowSteps.{fault_where}
use Rattle.row_writes.specs.StoredLaws.{CanStore}
use Rattle.whole_laws.specs.KeptLaws.{format-kept}
use Rattle.std.specs.declared.cmp.Ordering.TheVariants.{Less}
use Rattle.imposter.specs.declared.pass.TablePass.{TablePass}
use Rattle.imposter.specs.declared.step.RowStep.{RowStep}
use Rattle.imposter.specs.declared.step.RowStep.TheVariants.{Moved, Constraint}
use Rattle.imposter.specs.Passes.{AnswersStep, HasPassed, IsLeft, IsPassIn, IsPassed, PassesOn, StepsAt, StepsPass, key_rowid, step_behind}
use Rattle.imposter.specs.Steps.{CanBeStored, HasStepped, IsDueIn, StepsRow}

-- Lists at an index.

pub split-at : {A : Type 0} (xs : List A) (k : ℕ) (x : A) → slice_get xs k ≡ Some x → (rest : List A) × (xs ≡ (take k xs ++ x ∷ []) ++ rest) × (take (suc k) xs ≡ take k xs ++ x ∷ [])
split-at [] k x e = absurd (let h : ⊥ = cc in h)
split-at (y ∷ xs) zero x e = let same : y ≡ x = cc in (xs, ap (λ z. z ∷ xs) same, ap (λ z. z ∷ []) same)
split-at (y ∷ xs) (suc k) x e = let found = split-at xs k x e in (found.0, ap (λ zs. y ∷ zs) found.1, ap (λ zs. y ∷ zs) found.2)

pairs-front : {A : Type 0} (R : A → A → Type 0) (xs ys : List A) → PairsByRecursion R (xs ++ ys) → PairsByRecursion R xs
pairs-front R [] ys pairs = tt
pairs-front R (x ∷ xs) ys pairs = (all-front (R x) xs ys pairs.0, pairs-front R xs ys pairs.1)

module _ (sizes : Sizes) (pass : TablePass) (start : ℕ) (before : List TableRow) (front : List Rooted) (tree : Rooted) (back : List Rooted) (trunks : List Trunk) (rows : List TableRow) (a : Paged)
    (stands : IsPassIn sizes pass start before front tree back trunks rows a) (p : Prepared) (at : slice_get pass.rows pass.at ≡ Some p) where
  abbrev done : List Prepared
  done = take pass.at pass.rows

  split : (rest : List Prepared) × (pass.rows ≡ (done ++ p ∷ []) ++ rest) × (take (suc pass.at) pass.rows ≡ done ++ p ∷ [])
  split = split-at pass.rows pass.at p at

  -- the prepared rows up to this one are as they have to be
  due : AreDue pass.target.table pass.target.greatest start before (done ++ p ∷ [])
  due = record {
    column = stands.due.column;
    shape = stands.due.shape;
    reached = stands.due.reached;
    usable = all-front (IsUsable pass.target.table) (done ++ p ∷ []) split.0 (subst (λ (l : List Prepared). AllByRecursion (IsUsable pass.target.table) l) split.1 stands.due.usable);
    ordered =
        pairs-front (λ (x y : Prepared). key_cmp pass.target.table x.key y.key ≡ Less) (done ++ p ∷ []) split.0
        (subst (λ (l : List Prepared). PairsByRecursion (λ (x y : Prepared). key_cmp pass.target.table x.key y.key ≡ Less) l) split.1 stands.due.ordered);
  }

  key : (z : ℤ) × (p.key ≡ Int z ∷ [])
  key = key-now (format_of a) pass.target.table pass.target.greatest start before done p rows stands.rowid_key due stands.behind.after

  rowid-is : key_rowid p ≡ key.0
  rowid-is = ap (λ (k : List Value). integer_in (slice_index_or k 0 Null)) key.1

  -- the step that is due is one of the row of its rowid
  pub step-in : IsDueIn sizes pass.target pass.taken (key_rowid p) p front tree back trunks rows a
  step-in = record {
    world = stands.world;
    kind_is = stands.kind_is;
    root_is = stands.root_is;
    rows_are = stands.rows_are;
    meets_row = λ row c.
        let h = has-from rows row c in
        let fit = fit-now (format_of a) pass.target.table pass.target.greatest start before done p rows stands.rowid_key due stands.behind.after row h in (
          λ same. rowid-meets pass.target.table due.shape stands.rowid_key row p key.0 fit key.1 (same ∙ rowid-is),
          λ met. meets-rowid pass.target.table due.shape stands.rowid_key row p key.0 fit key.1 met ∙ sym rowid-is,
        );
    makes_row = λ new. new_rowid-is pass.target.table due.shape stands.rowid_key pass.target.greatest (suc pass.taken) p key.0 key.1 ∙ sym rowid-is;
  }

  can : CanBeStored pass.target p rows
  can = record {
    many = (all-back (IsUsable pass.target.table) done (p ∷ []) due.usable).0.many;
    stored =
        (all-back (λ (x : Prepared). CanStore pass.target.table x.values) done (p ∷ [])
        (all-front (λ (x : Prepared). CanStore pass.target.table x.values) (done ++ p ∷ []) split.0 (subst (λ (l : List Prepared). AllByRecursion (λ (x : Prepared). CanStore pass.target.table x.values) l) split.1 stands.prepared_can))).0;
    each = stands.can_store;
  }

  -- its fault is that by the rows before the batch
  fault-before : (fault : Option Violation) → row_fault pass.target.name pass.target.table pass.target.greatest pass.taken rows p ≡ fault → row_fault pass.target.name pass.target.table pass.target.greatest pass.taken before p ≡ fault
  fault-before fault is =
      let alone = meets-alone (format_of a) pass.target.table pass.target.greatest start before done p rows stands.rowid_key due stands.behind.after in
      let same = met-same (format_of a) pass.target.table pass.target.greatest start before done p rows stands.behind.after alone in
      sym (ap (λ (met : Bool). fault_where pass.target.name pass.target.table pass.target.greatest pass.taken met p) same) ∙ is

  passed : (made : Bool) → made ≡ is_new pass.target.table rows p → (b : Paged) → HasStepped sizes pass.target pass.taken p front tree back trunks rows a b
      → HasPassed sizes pass p (step_behind pass made) start before front tree back trunks rows a b
  passed made new b has =
      let kept = has.rows_are can in
      let taken : taken_behind pass.target.table rows p pass.taken ≡ (if made then suc pass.taken else pass.taken) = ap (λ (t : Bool). if t then suc pass.taken else pass.taken) (sym new) in
      let behind =
      rowid_step-behind (format_of a) pass.target.table pass.target.greatest start before done p rows stands.rowid_key due stands.behind.after pass.taken has.stepped.0 stands.behind.taken_is has.stepped.2 in
      record {
        now = has.now;
        rest = has.rest;
        rows_now = has.stepped.0;
        passing = record {
          rowid_key = stands.rowid_key;
          world = has.world;
          kind_is = has.kind_is;
          root_is = has.root ∙ stands.root_is;
          rows_are = kept.0;
          can_store = kept.1;
          prepared_can = stands.prepared_can;
          due = stands.due;
          behind =
              subst⁻¹ (λ (f : ℕ). IsInBatch f pass.target.table pass.target.greatest start before (take (suc pass.at) pass.rows) (if made then suc pass.taken else pass.taken) has.stepped.0) (format-kept sizes a b has.grows has.header)
              (subst⁻¹ (λ (l : List Prepared). IsInBatch (format_of a) pass.target.table pass.target.greatest start before l (if made then suc pass.taken else pass.taken) has.stepped.0) split.2
              (subst (λ (n : ℕ). IsInBatch (format_of a) pass.target.table pass.target.greatest start before (done ++ p ∷ []) n has.stepped.0) taken behind));
        };
        root = has.root;
        header = has.header;
        grows = has.grows;
        rises = has.rises;
        whole = λ catalog whole other. has.whole catalog can whole other;
      }

  pub moved-on : (made : Bool) (b : Paged) → StepsRow sizes pass.target pass.taken (key_rowid p) p (Moved made) a b → (behind : TablePass) → behind ≡ step_behind pass made
      → IsPassed sizes pass behind start before front tree back trunks rows MovedOn a b
  moved-on made b steps behind is =
      let step = steps front tree back trunks rows step-in in
      (p, at, fault-before None step.0, subst⁻¹ (λ (q : TablePass). HasPassed sizes pass p q start before front tree back trunks rows a b) is (passed made step.1 b step.2))

  pub violates : (violation : Violation) (b : Paged) → StepsRow sizes pass.target pass.taken (key_rowid p) p (Constraint violation) a b → (behind : TablePass) → behind ≡ pass
      → IsPassed sizes pass behind start before front tree back trunks rows (Violates violation) a b
  violates violation b steps behind is =
      let step = steps front tree back trunks rows step-in in
      (p, at, fault-before (Some violation) step.0, is, step.1)

-- What a pass answers.
pub passes-on : (sizes : Sizes) (pass behind : TablePass) (answer : PassAnswer) (a b : Paged) → StepsPass sizes pass behind answer a b → PassesOn sizes pass behind answer a b
passes-on sizes pass behind MovedOn a b steps = λ start before front tree back trunks rows stands. moved-on sizes pass start before front tree back trunks rows a stands steps.0 steps.2 steps.1 b steps.4 behind steps.3
passes-on sizes pass behind End a b steps = λ start before front tree back trunks rows stands. steps
passes-on sizes pass behind (Violates violation) a b steps = λ start before front tree back trunks rows stands.
    violates sizes pass start before front tree back trunks rows a stands steps.0 steps.1 violation b steps.3 behind steps.2

-- An item at an index, or none.
pub none-past : {A : Type 0} (xs : List A) (k : ℕ) → slice_get xs k ≡ None → length xs ≤ k
none-past [] k e = omega arith
none-past (x ∷ xs) zero e = absurd (let h : ⊥ = cc in h)
none-past (x ∷ xs) (suc k) e = let rest = none-past xs k e in omega (arith, rest)

-- What is answered of the step that was due.
pub answered : (sizes : Sizes) (pass behind : TablePass) (step : Option RowStep) (answer : PassAnswer) (a b : Paged) → AnswersStep pass behind step answer → StepsAt sizes pass step a b → StepsPass sizes pass behind answer a b
answered sizes pass behind None answer a b is steps = subst⁻¹ (λ (x : PassAnswer). StepsPass sizes pass behind x a b) is.0 (steps.0, is.1, steps.1)
answered sizes pass behind (Some (Moved made)) answer a b is steps = subst⁻¹ (λ (x : PassAnswer). StepsPass sizes pass behind x a b) is.0 (steps.0, made, steps.1, is.1, steps.2)
answered sizes pass behind (Some (Constraint violation)) answer a b is steps = subst⁻¹ (λ (x : PassAnswer). StepsPass sizes pass behind x a b) is.0 (steps.0, steps.1, is.1, steps.2)

pub ends-there : (pass behind : TablePass) (step : Option RowStep) (answer : PassAnswer) → AnswersStep pass behind step answer → IsLeft pass step → (answer ≡ End) ↔ (length pass.rows ≤ pass.at)
ends-there pass behind None answer is left = (λ e. left, λ past. is.0)
ends-there pass behind (Some (Moved made)) answer is left = (λ e. absurd (let h : ◌≡◌ {A = PassAnswer} MovedOn End = sym is.0 ∙ e in let no : ⊥ = cc in no), λ past. absurd (omega (arith, left, past)))
ends-there pass behind (Some (Constraint violation)) answer is left =
    (λ e. absurd (let h : ◌≡◌ {A = PassAnswer} (Violates violation) End = sym is.0 ∙ e in let no : ⊥ = cc in no), λ past. absurd (omega (arith, left, past)))
