-- From what a change makes of the list of its index to the pass behind one change more.
use Rattle.std.proofs.Common.{◌≡◌, ℕ, zero, suc, ◌≤◌, ◌↔◌, List, [], ◌∷◌, ◌++◌, length, drop, Option, Some, None, refl, sym, ap, ◌∙◌, arith, append_assoc}
use Rattle.std.proofs.Math.Path.{subst⁻¹}
use Rattle.std.specs.Prelude.{slice_get}
use Rattle.page_spec.specs.Freelists.{Trunk}
use Rattle.tree_spec.specs.Trees.{Rooted, list_in}
use Rattle.tree_spec.specs.Standing.{Sizes, Paged}
use Rattle.tree_spec.specs.WorldsLaws.{all-join}
use Rattle.database_spec.specs.Catalogs.{format_of}
use Rattle.whole_laws.specs.KeptLaws.{format-kept}
use Rattle.prepared_spec.specs.declared.violation.Change.{Change}
use Rattle.prepared_spec.specs.declared.violation.Change.TheVariants.{Remove, Add}
use Rattle.prepared_spec.specs.declared.violation.Violation.{Violation}
use Rattle.prepared_spec.specs.Outcomes.{IsIndexAfter}
use Rattle.pass_fault.specs.declared.answer.PassAnswer.{PassAnswer}
use Rattle.pass_fault.specs.declared.answer.PassAnswer.TheVariants.{Moved as MovedOn, End, Constraint as Violates}
use Rattle.index_steps.specs.IndexSteps.{AreChangesOf}
use Rattle.index_steps.specs.StepsLaws.{step-leads}
use Rattle.index_pass.specs.declared.change.EntryStep.{EntryStep}
use Rattle.index_pass.specs.declared.change.EntryStep.TheVariants.{Moved, Constraint}
use Rattle.index_pass.specs.declared.pass.IndexPass.{IndexPass}
use Rattle.index_pass.specs.Changes.{StepsChange}
use Rattle.index_pass.specs.Passes.{AnswersStep, HasFault, HasPassed, IndexUpdate, IsBehind, IsLeft, IsPassIn, IsPassed, PassesOn, StepsAt, pass_behind}
use Rattle.index_pass.proofs.Stepping.{Due, IsMade, clash-found, clash-missed, delete-makes, due-there, put-makes}

module _ (sizes : Sizes) (pass : IndexPass) (update : IndexUpdate) (done : List Change) (front : List Rooted) (tree : Rooted) (back : List Rooted) (trunks : List Trunk) (a : Paged)
    (stands : IsPassIn sizes pass update done front tree back trunks a) where
  abbrev IsDue : Change → Type 0
  IsDue change = Due sizes pass update done front tree back trunks a stands change

  abbrev Made : Change → Paged → Type 0
  Made change b = IsMade sizes pass update done front tree back trunks a stands change b

  abbrev Passed : Change → IndexPass → Paged → Type 0
  Passed change behind b = HasPassed sizes pass change behind update done front tree back trunks a b

  -- the pass stands behind the change
  behind-change : (change : Change) → IsDue change → HasFault update change None → (b : Paged) → Made change b → Passed change (pass_behind pass) b
  behind-change change of none b made =
      let kept : format_of b ≡ format_of a = format-kept sizes a b made.grows made.header in
      let more = done ++ change ∷ [] in
      let left = drop (suc pass.at) pass.changes in
      let changes : AreChangesOf (format_of a) update.index update.old_rows update.new_rows update.old (more ++ left) =
      subst⁻¹ (λ (l : List Change). AreChangesOf (format_of a) update.index update.old_rows update.new_rows update.old l) (append_assoc done (change ∷ []) left) of in
      let midway = step-leads (format_of a) update.index update.old_rows update.new_rows update.old done change left pass.target.order (list_in tree) (list_in made.now) of stands.names.ordered stands.midway made.stepped made.list_rises in
      record {
        now = made.now;
        rest = made.free;
        passing = record {
          names = stands.names;
          world = made.world;
          kind_is = made.kind_is;
          root_is = made.root ∙ stands.root_is;
          changes = subst⁻¹ (λ (f : ℕ). AreChangesOf f update.index update.old_rows update.new_rows update.old (more ++ left)) kept changes;
          faultless = all-join (λ (c : Change). HasFault update c None) done (change ∷ []) stands.faultless (none, tt);
          midway = subst⁻¹ (λ (f : ℕ). IsIndexAfter f update.index more update.old (list_in made.now)) kept midway;
        };
        root = made.root;
        stepped = made.stepped;
        header = made.header;
        grows = made.grows;
        rises = made.rises;
        fits = made.fits;
      }

  moved : (change : Change) → IsDue change → (b : Paged) → StepsChange sizes pass.target change Moved a b → HasFault update change None × Passed change (pass_behind pass) b
  moved (Remove entry) of b steps = (refl, behind-change (Remove entry) of refl b (delete-makes sizes pass update done front tree back trunks a stands entry of b steps))
  moved (Add entry) of b steps =
      let none = clash-missed sizes pass update done front tree back trunks a stands entry of steps.0 in
      (none, behind-change (Add entry) of none b (put-makes sizes pass update done front tree back trunks a stands entry of b steps.1))

  violated : (change : Change) → IsDue change → (violation : Violation) (b : Paged) → StepsChange sizes pass.target change (Constraint violation) a b → HasFault update change (Some violation) × (b ≡ a)
  violated (Remove entry) of violation b steps = absurd steps
  violated (Add entry) of violation b steps =
      (subst⁻¹ (λ (v : Violation). HasFault update (Add entry) (Some v)) steps.1 (clash-found sizes pass update done front tree back trunks a stands entry of steps.0), steps.2)

  -- what is answered of the step that was due
  answered : (step : Option EntryStep) (behind : IndexPass) (answer : PassAnswer) (b : Paged) → AnswersStep pass behind step answer → StepsAt sizes pass step a b → IsPassed sizes pass behind update done front tree back trunks answer a b
  answered None behind answer b is steps = subst⁻¹ (λ (x : PassAnswer). IsPassed sizes pass behind update done front tree back trunks x a b) is.0 (steps.0, is.1, steps.1)
  answered (Some Moved) behind answer b is steps =
      let went = moved steps.0 (due-there sizes pass update done front tree back trunks a stands steps.0 steps.1) b steps.2 in
      subst⁻¹ (λ (x : PassAnswer). IsPassed sizes pass behind update done front tree back trunks x a b) is.0 (steps.0, steps.1, went.0, subst⁻¹ (λ (q : IndexPass). Passed steps.0 q b) is.1 went.1)
  answered (Some (Constraint violation)) behind answer b is steps =
      let broke = violated steps.0 (due-there sizes pass update done front tree back trunks a stands steps.0 steps.1) violation b steps.2 in
      subst⁻¹ (λ (x : PassAnswer). IsPassed sizes pass behind update done front tree back trunks x a b) is.0 (steps.0, steps.1, broke.0, is.1, broke.1)

-- what a pass answers wherever it stands in the changes of an index
pub passes-on : (sizes : Sizes) (pass behind : IndexPass) (step : Option EntryStep) (answer : PassAnswer) (a b : Paged) → AnswersStep pass behind step answer → StepsAt sizes pass step a b → PassesOn sizes pass behind answer a b
passes-on sizes pass behind step answer a b is steps = λ update done front tree back trunks stands. answered sizes pass update done front tree back trunks a stands step behind answer b is steps

-- an item at a place, or none
pub none-past : {A : Type 0} (xs : List A) (k : ℕ) → slice_get xs k ≡ None → length xs ≤ k
none-past [] k e = omega arith
none-past (x ∷ xs) zero e = absurd (let h : ⊥ = cc in h)
none-past (x ∷ xs) (suc k) e = let rest = none-past xs k e in omega (arith, rest)

-- where the pass stands then
pub stands-behind : (pass behind : IndexPass) (step : Option EntryStep) (answer : PassAnswer) → AnswersStep pass behind step answer → IsBehind pass behind answer
stands-behind pass behind None answer is = subst⁻¹ (IsBehind pass behind) is.0 is.1
stands-behind pass behind (Some Moved) answer is = subst⁻¹ (IsBehind pass behind) is.0 is.1
stands-behind pass behind (Some (Constraint violation)) answer is = subst⁻¹ (IsBehind pass behind) is.0 is.1

-- the target stays
pub target-stays : (pass behind : IndexPass) (answer : PassAnswer) → IsBehind pass behind answer → behind.target ≡ pass.target
target-stays pass behind MovedOn is = ap (λ (q : IndexPass). q.target) is
target-stays pass behind End is = ap (λ (q : IndexPass). q.target) is
target-stays pass behind (Violates violation) is = ap (λ (q : IndexPass). q.target) is

-- the end comes where no change is left
pub ends-there : (pass behind : IndexPass) (step : Option EntryStep) (answer : PassAnswer) → AnswersStep pass behind step answer → IsLeft pass step → (answer ≡ End) ↔ (length pass.changes ≤ pass.at)
ends-there pass behind None answer is left = (λ e. left, λ past. is.0)
ends-there pass behind (Some Moved) answer is left = (λ e. absurd (let h : ◌≡◌ {A = PassAnswer} MovedOn End = sym is.0 ∙ e in let no : ⊥ = cc in no), λ past. absurd (omega (arith, left, past)))
ends-there pass behind (Some (Constraint violation)) answer is left =
    (λ e. absurd (let h : ◌≡◌ {A = PassAnswer} (Violates violation) End = sym is.0 ∙ e in let no : ⊥ = cc in no), λ past. absurd (omega (arith, left, past)))
