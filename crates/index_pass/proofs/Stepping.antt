-- What a change makes of the list of its index where a pass stands in the changes of it, and what stops it.
use Rattle.std.proofs.Common.{◌≡◌, ℕ, ℤ, zero, suc, ◌+◌, ◌-◌, ◌≤◌, Bool, true, false, List, [], ◌∷◌, ◌++◌, length, drop, Some, None, refl, sym, ap, ap₂, ◌∙◌, subst, inl, inr, arith}
use Rattle.std.proofs.Math.Path.{subst⁻¹}
use Rattle.std.specs.Prelude.{IsTrue, slice_get}
use Rattle.rbu_value.specs.declared.order.Collation.{Collation}
use Rattle.rbu_value.specs.declared.value.Value.{Value}
use Rattle.format_spec.specs.Cell.{local_size}
use Rattle.format_spec.specs.declared.PageKind.TheVariants.{IndexLeaf}
use Rattle.format_spec.specs.Record.{IsRecord}
use Rattle.page_spec.specs.Freelists.{Trunk}
use Rattle.tree_spec.specs.declared.TreeKind.TheVariants.{Index as IndexTree}
use Rattle.tree_spec.specs.Trees.{Member, Rooted, depth_of, list_in, pages_in, root_of}
use Rattle.tree_spec.specs.Standing.{Sizes, Paged}
use Rattle.tree_spec.specs.Worlds.{IsWorld, greatest_count, with_tree}
use Rattle.tree_spec.specs.Changes.{SameHeader}
use Rattle.database_spec.specs.Catalogs.{format_of}
use Rattle.database_spec.specs.Keys.{last_value, order_of}
use Rattle.prepared_spec.specs.declared.input_fault.InputFault.TheVariants.{TargetRecord}
use Rattle.prepared_spec.specs.declared.input_fault.RecordCause.{RecordCause}
use Rattle.prepared_spec.specs.declared.input_fault.RecordCause.TheVariants.{SizeOverLimit}
use Rattle.prepared_spec.specs.declared.violation.Change.{Change}
use Rattle.prepared_spec.specs.declared.violation.Change.TheVariants.{Remove, Add}
use Rattle.prepared_spec.specs.declared.violation.Violation.TheVariants.{NotUnique}
use Rattle.prepared_spec.specs.NeededPages.{step_pages}
use Rattle.prepared_spec.specs.StepFaults.{changed_entry}
use Rattle.prepared_spec.specs.StepRecords.{put_entry, too_long}
use Rattle.prepared_spec.specs.Tables.{integer_in}
use Rattle.pass_fault.specs.declared.fault.PassFault.{PassFault}
use Rattle.pass_fault.specs.FaultsLaws.{record-then, tree-then}
use Rattle.pass_fault.specs.NeedsLaws.{is-long, not-long, pages-less}
use Rattle.key_order.specs.Orders.{IsEntry, IsRising}
use Rattle.tree_index.specs.declared.putting.Inserted.{Inserted}
use Rattle.tree_index.specs.declared.putting.Inserted.TheVariants as inserted
use Rattle.tree_index.specs.Needs.{put_pages}
use Rattle.tree_index.specs.Puts.{PutsEntry}
use Rattle.index_removal.specs.Deletes.{DeletesEntry}
use Rattle.index_steps.specs.ClashesLaws.{addition-faultless, addition-faults}
use Rattle.index_steps.specs.IndexSteps.{AreChangesOf, IsStepped}
use Rattle.index_steps.specs.StepsLaws.{addition-absent, change-entry, comes-record, mid-rises, removal-stands}
use Rattle.index_lookup.specs.AlikesLaws.{alike-found, alike-missed, alike-rises}
use Rattle.index_pass.specs.declared.pass.IndexPass.{IndexPass}
use Rattle.index_pass.specs.declared.target.Target.{Target}
use Rattle.index_pass.specs.Changes.{Adds, FindsClash, IsEntryFault, IsTooLong, Removes, TellsClash, record_in}
use Rattle.index_pass.specs.Passes.{HasFault, IndexUpdate, IsLongStep, IsPassIn, IsStepFault, due_step}
use Rattle.index_pass.proofs.Reading.{index-stands}

-- the first of the items that are left
pub drop-first : {A : Type 0} (xs : List A) (k : ℕ) (x : A) → slice_get xs k ≡ Some x → drop k xs ≡ x ∷ drop (suc k) xs
drop-first [] k x e = absurd (let h : ⊥ = cc in h)
drop-first (y ∷ xs) zero x e = let same : y ≡ x = cc in ap (λ z. z ∷ xs) same
drop-first (y ∷ xs) (suc k) x e = drop-first xs k x e

module _ (sizes : Sizes) (pass : IndexPass) (update : IndexUpdate) (done : List Change) (front : List Rooted) (tree : Rooted) (back : List Rooted) (trunks : List Trunk) (a : Paged)
    (stands : IsPassIn sizes pass update done front tree back trunks a) where
  abbrev target : Target
  target = pass.target

  abbrev pub rest : List Change
  rest = drop (suc pass.at) pass.changes

  -- the changes that are left begin with this one
  abbrev pub Due : Change → Type 0
  Due change = AreChangesOf (format_of a) update.index update.old_rows update.new_rows update.old (done ++ change ∷ rest)

  pub due-there : (change : Change) → slice_get pass.changes pass.at ≡ Some change → Due change
  due-there change at = subst (λ (left : List Change). AreChangesOf (format_of a) update.index update.old_rows update.new_rows update.old (done ++ left)) (drop-first pass.changes pass.at change at) stands.changes

  pub list-rises : (change : Change) → Due change → IsRising target.order (list_in tree)
  list-rises change of = mid-rises (format_of a) update.index update.old_rows update.new_rows update.old done change rest of target.order stands.names.ordered (list_in tree) stands.midway

  pub record-entry : (change : Change) → Due change → IsEntry target.order (record_in a (changed_entry change))
  record-entry change of = change-entry (format_of a) update.index update.old_rows update.new_rows update.old done change rest of target.order stands.names.ordered

  -- what a change made of the world
  pub record IsMade (change : Change) (b : Paged) : Type 0 where
    pub now : Rooted
    pub free : List Trunk
    pub world : IsWorld sizes b (with_tree front now back free)
    pub kind_is : now.kind ≡ IndexTree
    pub root : root_of now ≡ root_of tree
    pub stepped : IsStepped (format_of a) target.order change (list_in tree) (list_in now)
    pub list_rises : IsRising target.order (list_in now)
    pub header : SameHeader (a.pages 1) (b.pages 1)
    pub grows : a.count ≤ b.count
    pub rises : b.count ≤ a.count + step_pages sizes.usable (due_step target.table (format_of a) update change)
    pub fits : too_long target.table (put_entry (format_of a) update.index change) ≡ None

  pub delete-makes : (entry : List Value) → Due (Remove entry) → (b : Paged) → Removes sizes target (record_in a entry) a b → IsMade (Remove entry) b
  delete-makes entry of b went = by went.deleted went.into
    where
      by : (deleted : Bool) → DeletesEntry sizes target.root target.order (record_in a entry) greatest_count deleted a b → IsMade (Remove entry) b
      by true into =
          let has = into front tree back trunks stands.world stands.kind_is stands.root_is (list-rises (Remove entry) of) (omega arith) in
          record {
            now = has.now;
            free = has.trunks;
            world = has.world;
            kind_is = has.kind_is;
            root = has.root;
            stepped = record { gone = has.gone; front = has.list.front; back = has.list.back; equal = has.equal; old_is = has.list.old_is; new_is = has.list.new_is };
            list_rises = has.rises;
            header = has.header;
            grows = went.grows;
            rises = let most = went.rises in omega (arith, most);
            fits = refl;
          }
      by false into =
          absurd (into.1 front tree back trunks stands.world stands.kind_is stands.root_is (list-rises (Remove entry) of) (omega arith)
          (removal-stands (format_of a) update.index update.old_rows update.new_rows update.old done entry rest of target.order stands.names.ordered (list_in tree) stands.midway))

  -- an addition takes no more pages than it may take
  put-need : (entry : List Value) → put_pages sizes.usable (length (record_in a entry)) ≤ step_pages sizes.usable (due_step target.table (format_of a) update (Add entry))
  put-need entry =
      let payload = record_in a entry in
      let less = pages-less sizes.usable (length payload - local_size IndexLeaf sizes.usable (length payload)) (length payload) (omega arith) in
      omega (arith, less)

  -- what it puts
  abbrev added_member : List Value → Member
  added_member entry = record { rowid = integer_in (last_value (order_of update.index) entry); payload = record_in a entry }

  pub put-makes : (entry : List Value) → Due (Add entry) → (b : Paged) → Adds sizes target (record_in a entry) a b → IsMade (Add entry) b
  put-makes entry of b went = by went.inserted went.into
    where
      by : (result : Inserted) → PutsEntry sizes target.root target.order (record_in a entry) greatest_count result a b → IsMade (Add entry) b
      by inserted.New into =
          let has = into front tree back trunks stands.world stands.kind_is stands.root_is (list-rises (Add entry) of) (omega arith) in
          record {
            now = has.now;
            free = has.trunks;
            world = has.world;
            kind_is = has.kind_is;
            root = has.root;
            stepped = record { less = has.less; greater = has.greater; old_is = has.list_was; new_is = has.list_is };
            list_rises = has.rises;
            header = has.header;
            grows = went.grows;
            rises = let most = went.rises in let need = put-need entry in omega (arith, most, need);
            fits = not-long target.table (added_member entry) went.fits;
          }
      by inserted.Present into =
          absurd (addition-absent (format_of a) update.index update.old_rows update.new_rows update.old done entry rest of target.order stands.names.ordered (list_in tree) stands.midway
          (into.1 front tree back trunks stands.world stands.kind_is stands.root_is (list-rises (Add entry) of) (omega arith)))

  -- The fault of an addition.
  entry-record : (entry : List Value) → Due (Add entry) → IsRecord (record_in a entry) entry
  entry-record entry of = comes-record (format_of a) update.index update.old_rows update.new_rows update.old done entry rest of target.order stands.names.ordered (list_in tree) stands.midway

  told-clash : (entry : List Value) → Due (Add entry) → (found : Bool) → FindsClash sizes target (record_in a entry) found a → TellsClash target (record_in a entry) (list_in tree) found
  told-clash entry of found finds =
      finds (depth_of tree) (list_in tree) (pages_in tree) (index-stands sizes a target.root front tree back trunks stands.world stands.kind_is stands.root_is)
      (alike-rises target.order target.alike (stands.names.ordered.columns ∙ sym stands.names.by_columns.columns) stands.names.ordered.last (list_in tree) (list-rises (Add entry) of))

  pub clash-found : (entry : List Value) → Due (Add entry) → FindsClash sizes target (record_in a entry) true a → HasFault update (Add entry) (Some (NotUnique target.name entry))
  clash-found entry of finds =
      let tells = told-clash entry of true finds in
      let found = alike-found target.alike update.index stands.names.by_columns.columns (record_in a entry) entry (entry-record entry of) (list_in tree) tells.1 in
      subst⁻¹ (λ (name : List ℕ). HasFault update (Add entry) (Some (NotUnique name entry))) stands.names.name
      (addition-faults (format_of a) update.index update.old_rows update.new_rows update.old done entry rest of target.alike stands.names.by_columns (list_in tree) stands.midway stands.faultless (subst IsTrue stands.names.unique tells.0) found.0 found.1)

  pub clash-missed : (entry : List Value) → Due (Add entry) → FindsClash sizes target (record_in a entry) false a → HasFault update (Add entry) None
  clash-missed entry of finds =
      addition-faultless (format_of a) update.index update.old_rows update.new_rows update.old done entry rest of target.alike stands.names.by_columns (list_in tree) stands.midway
      (elim (told-clash entry of false finds) [
        | inl many ↦ inl (λ unique. many (subst⁻¹ IsTrue stands.names.unique unique))
        | inr none ↦ inr (alike-missed target.alike update.index stands.names.by_columns.columns (record_in a entry) entry (entry-record entry of) (list_in tree) none)
      ])

  -- What stops a change is what stops the step.
  long-step : {F : Type 0} (entry : List Value) → Due (Add entry) → (fault : PassFault F) → FindsClash sizes target (record_in a entry) false a → IsTooLong target entry (record_in a entry) fault → IsLongStep target update (format_of a) (Add entry) fault
  long-step entry of fault misses long =
      record-then fault (λ name rowid cause same. (
        clash-missed entry of misses,
        is-long target.table (added_member entry) long.0
            ∙ ap₂ (λ (n : List ℕ) (r : ℤ). Some (TargetRecord n r SizeOverLimit)) (sym same.0)
            (ap (λ (columns : List (Collation × Bool)). integer_in (last_value columns entry)) (sym stands.names.ordered.columns) ∙ sym same.1)
            ∙ ap (λ (why : RecordCause). Some (TargetRecord name rowid why)) (sym same.2),
      )) long.1

  pub step-refused : {F : Type 0} (change : Change) → Due change → (count : ℕ) (fault : PassFault F) → IsEntryFault sizes target a trunks change (record_in a (changed_entry change)) count fault
      → IsStepFault sizes.usable target update change a trunks count fault
  step-refused (Remove entry) of count fault (inl full) = inl (tree-then fault (λ f short. elim short [ inl o ↦ inl o | inr few ↦ inr (few.0, omega (arith, few.1)) ]) full)
  step-refused (Remove entry) of count fault (inr long) = absurd long
  step-refused (Add entry) of count fault (inl full) = inl (tree-then fault (λ f short. elim short [ inl o ↦ inl o | inr few ↦ inr (few.0, omega (arith, few.1, put-need entry)) ]) full)
  step-refused (Add entry) of count fault (inr long) = inr (long-step entry of fault long.0 long.1)
