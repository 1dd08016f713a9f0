-- What a write makes of the table is what the step leaves.
use Rattle.std.proofs.Common.{◌≡◌, ℕ, ℤ, suc, ◌+◌, ◌-◌, ◌≤◌, ◌<◌, ◌<ℤ◌, ◌&&◌, Bool, true, List, [], ◌∷◌, length, map, Option, Some, None, Ok, Err, refl, sym, ap, ap₂, ◌∙◌, subst, inl, inr, arith}
use Rattle.std.proofs.Math.Path.{subst⁻¹}
use Rattle.std.specs.Prelude.{Contains, option_map}
use Rattle.std.specs.List.{AllByRecursion, AllZip}
use Rattle.rbu_value.specs.declared.value.Value.{Value}
use Rattle.format_spec.specs.Cell.{local_size, payload_limit}
use Rattle.format_spec.specs.declared.PageKind.TheVariants.{TableLeaf}
use Rattle.format_spec.specs.Record.{IsRecord, canonical_record}
use Rattle.page_spec.specs.Chains.{pages_for}
use Rattle.page_spec.specs.Freelists.{Trunk}
use Rattle.record_codec.specs.RecordLaws.{canonical_record_read, record-short}
use Rattle.rbu_rows.specs.declared.prepared.Prepared.{Prepared}
use Rattle.tree_spec.specs.declared.TreeKind.{TreeKind}
use Rattle.tree_spec.specs.declared.TreeKind.TheVariants.{Table as TableTree}
use Rattle.tree_spec.specs.Trees.{Member, Rooted, depth_of, list_in, pages_in, root_of}
use Rattle.tree_spec.specs.Standing.{Sizes, Paged, IsTree}
use Rattle.tree_spec.specs.StandingLaws.{IsTree-rises}
use Rattle.tree_spec.specs.Worlds.{IsWorld, greatest_count, with_tree}
use Rattle.tree_spec.specs.WorldsLaws.{world-tree}
use Rattle.put_spec.specs.Children.{PutIn, Rises}
use Rattle.delete_spec.specs.Deletes.{TakenOut}
use Rattle.tree_table.specs.Deletes.{DeletesRow, HasDeleted, delete_pages}
use Rattle.tree_table.specs.Needs.{put_pages as tree_put_pages}
use Rattle.tree_table.specs.Puts.{HasPut}
use Rattle.database_spec.specs.Catalogs.{format_of}
use Rattle.database_spec.specs.ListsLaws.{PairsByRecursion}
use Rattle.database_spec.specs.Rows.{TableRow, IsRow}
use Rattle.prepared_spec.specs.ChangesLaws.{all-has}
use Rattle.prepared_spec.specs.declared.input_fault.InputFault.TheVariants.{TargetRecord}
use Rattle.prepared_spec.specs.declared.input_fault.RecordCause.TheVariants.{SizeOverLimit}
use Rattle.prepared_spec.specs.InputFaultsLaws.{row-no_cause}
use Rattle.prepared_spec.specs.MembersLaws.{Has, has-from, has-map, has-to}
use Rattle.prepared_spec.specs.NeededPages.{put_pages, step_pages}
use Rattle.prepared_spec.specs.Outcomes.{row_member}
use Rattle.prepared_spec.specs.RowKeys.{meets}
use Rattle.prepared_spec.specs.StepRecords.{greatest_payload, put_row, too_long}
use Rattle.prepared_spec.specs.Tables.{is_new, new_rowid, stored_values, written_row}
use Rattle.prepared_spec.specs.declared.input_fault.RecordCause.{RecordCause}
use Rattle.prepared_spec.specs.declared.violation.Violation.{Violation}
use Rattle.prepared_spec.specs.StepFaults.{row_fault}
use Rattle.pass_fault.specs.declared.fault.PassFault.{PassFault}
use Rattle.pass_fault.specs.declared.fault.PassFault.TheVariants.{Tree, TargetRecord as PassRecord}
use Rattle.pass_spec.specs.StepListsLaws.{left-stepped, put-stepped, rows-rise, taken-stepped}
use Rattle.pass_spec.specs.TableSteps.{AreStepped, MeetsRowid}
use Rattle.row_steps.specs.RowSteps.{row_of}
use Rattle.row_values.specs.Values.{member_with}
use Rattle.row_writes.specs.declared.write.RowWrite.{RowWrite}
use Rattle.row_writes.specs.declared.write.RowWrite.TheVariants.{Nothing, Put as PutRecord, Delete}
use Rattle.row_writes.specs.RowWrites.{IsWritten, Writes}
use Rattle.row_writes.specs.StoredLaws.{CanStore, met-can, met-many, stored-many, stored-rowid, stored-without, with_rowid-many, written-can, written-many}
use Rattle.whole_laws.specs.KeptLaws.{whole-deleted, whole-put}
use Rattle.pass_fault.specs.Faults.{IsRecordOf, IsWanting}
use Rattle.pass_fault.specs.FaultsLaws.{tree-then}
use Rattle.pass_fault.specs.NeedsLaws.{is-long, not-long, pages-less}
use Rattle.imposter.specs.declared.target.Target.{Target}
use Rattle.imposter.specs.declared.step.RowStep.{RowStep}
use Rattle.imposter.specs.declared.step.RowStep.TheVariants.{Constraint, Moved}
use Rattle.imposter.specs.Finds.{FindsMet, IsMetIn, IsMissedIn}
use Rattle.imposter.specs.Steps.{CanBeStored, HasStepped, IsDueIn, IsFaultMet, IsFaultOf, IsLongStep, IsStepFault, IsStepOf, StepsMet, due_step}
use Rattle.imposter.specs.Writes.{DoesWrite, IsLong, write_pages}
use Rattle.imposter.proofs.RowsMet.{IsFound, found-rows, members-are, met-is, met-one, new-is, put-met, put-new, put-none}
use Rattle.imposter.proofs.Short.{IsShort, members-short}

module _ (sizes : Sizes) (target : Target) (taken : ℕ) (rowid : ℤ) (p : Prepared) (front : List Rooted) (tree : Rooted) (back : List Rooted) (trunks : List Trunk) (rows : List TableRow) (a : Paged)
    (due : IsDueIn sizes target taken rowid p front tree back trunks rows a) where
  abbrev Format : ℕ
  Format = format_of a

  abbrev Puts : Option TableRow
  Puts = put_row (format_of a) target.table target.greatest taken rows p

  abbrev Stepped : Paged → Type 0
  Stepped b = HasStepped sizes target taken p front tree back trunks rows a b

  members : list_in tree ≡ map row_member rows
  members = members-are target.table (list_in tree) rows due.rows_are

  rises-in : (base : Paged) (x : Rooted) (free : List Trunk) → IsWorld sizes base (with_tree front x back free) → x.kind ≡ TableTree → Rises (list_in x)
  rises-in base x free world kind =
      IsTree-rises sizes base (root_of x) (depth_of x) (list_in x) (pages_in x)
      (subst (λ (k : TreeKind). IsTree sizes base (root_of x) k (depth_of x) (list_in x) (pages_in x)) kind (world-tree sizes base front x back free world))

  rise : Rises (map row_member rows)
  rise = subst (λ (l : List Member). Rises l) members (rises-in a tree trunks due.world due.kind_is)

  pairs : PairsByRecursion (λ (x y : TableRow). x.rowid <ℤ y.rowid) rows
  pairs = rows-rise rows rise

  found-in : (met : Option (ℤ × List Value)) → IsMetIn target.table rowid (list_in tree) met → IsFound target.table rowid rows met
  found-in met is = found-rows target.table rowid (list_in tree) rows due.rows_are met is

  -- each row is one of its member
  own-row : (row : TableRow) → Has row rows → IsRow target.table (row_member row) row
  own-row row h = by (list_in tree) rows due.rows_are row h
    where
      by : (ms : List Member) (rs : List TableRow) → AllZip (IsRow target.table) ms rs → (r : TableRow) → Has r rs → IsRow target.table (row_member r) r
      by [] [] are r h = absurd h
      by [] (x ∷ rs) are r h = absurd are
      by (m ∷ ms) [] are r h = absurd h
      by (m ∷ ms) (x ∷ rs) are r (inl e) =
          let own : m ≡ row_member x = λ i. record { rowid = sym are.0.rowid i; payload = sym are.0.payload i } in
          subst (λ (y : TableRow). IsRow target.table (row_member y) y) e (subst (λ (n : Member). IsRow target.table n x) own are.0)
      by (m ∷ ms) (x ∷ rs) are r (inr k) = by ms rs are.1 r k

  row-many : (row : TableRow) → Has row rows → length row.values ≡ length target.table.columns
  row-many row h = let own = own-row row h in ap length own.values ∙ with_rowid-many target.table.rowid_column row.rowid own.stored ∙ own.many

  -- rows that a step leaves are rows of their members, where those that it puts are
  abbrev IsOwn : TableRow → Type 0
  IsOwn row = IsRow target.table (row_member row) row × CanStore target.table row.values

  own-rows : (new : List TableRow) → ((row : TableRow) → Has row new → IsOwn row) → AllZip (IsRow target.table) (map row_member new) new × AllByRecursion (λ (row : TableRow). CanStore target.table row.values) new
  own-rows [] own = (tt, tt)
  own-rows (row ∷ new) own =
      let here = own row (inl refl) in
      let rest = own-rows new (λ r h. own r (inr h)) in
      ((here.0, rest.0), (here.1, rest.1))

  rows-left : CanBeStored target p rows → ((row : TableRow) → Puts ≡ Some row → IsOwn row) → (list : List Member) (left : AreStepped Format target.table target.greatest taken p rows list)
      → AllZip (IsRow target.table) list left.0 × AllByRecursion (λ (row : TableRow). CanStore target.table row.values) left.0
  rows-left can put list left =
      let all = own-rows left.0 each in
      (subst⁻¹ (λ (l : List Member). AllZip (IsRow target.table) l left.0) left.1 all.0, all.1)
    where
      each : (row : TableRow) → Has row left.0 → IsOwn row
      each row h =
          elim (left.2.only row (has-to left.0 row h)) [
            | inl puts ↦ put row puts
            | inr stood ↦ let there = has-from rows row stood.0 in (own-row row there, all-has (λ (r : TableRow). CanStore target.table r.values) rows row can.each there)
          ]

  -- no row of the table has too long a record
  row-short : (row : TableRow) → Has row rows → length row.payload ≤ greatest_payload
  row-short row h =
      all-has IsShort (map row_member rows) (row_member row) (subst (λ (l : List Member). AllByRecursion IsShort l) members (members-short sizes a front tree back trunks due.world due.kind_is)) (has-map row_member rows row h)

  -- Nothing is written.
  left-has : ((row : TableRow) → Puts ≡ Some row → Contains rows row) → ((x : TableRow) → Contains rows x → meets target.table x p ≡ true → Puts ≡ Some x) → too_long target.name (option_map row_member Puts) ≡ None → Stepped a
  left-has put met fits = record {
    now = tree;
    rest = trunks;
    world = due.world;
    root = refl;
    kind_is = due.kind_is;
    stepped = left;
    header = λ k low part. refl;
    grows = omega arith;
    rises = omega arith;
    fits = fits;
    rows_are = λ can. rows-left can (λ row puts. let h = has-from rows row (put row puts) in (own-row row h, all-has (λ (r : TableRow). CanStore target.table r.values) rows row can.each h)) (list_in tree) left;
    whole = λ catalog can whole other. whole;
  }
    where
      left : AreStepped Format target.table target.greatest taken p rows (list_in tree)
      left = subst⁻¹ (λ (l : List Member). AreStepped Format target.table target.greatest taken p rows l) members (left-stepped Format target.table target.greatest taken p rows put met rise)

  -- A step puts a row with this record.
  pub record IsPut (bytes : List ℕ) : Type 0 where
    pub row : TableRow
    pub puts : Puts ≡ Some row
    pub written : IsWritten Format target.table rowid bytes row
    pub stores : CanBeStored target p rows → CanStore target.table row.values
    pub many : CanBeStored target p rows → length row.values ≡ length target.table.columns

  pub put-of : (met : Option (ℤ × List Value)) → IsMetIn target.table rowid (list_in tree) met → (bytes : List ℕ) → Writes Format target.table met p (PutRecord bytes) → IsPut bytes
  put-of (Some row) is bytes writes =
      let found = found-in (Some row) is in
      let old = row_of row found.1.0 in
      let new = writes found.1.0 in
      let after = put-met target.table rows p rowid pairs due.meets_row Format target.greatest taken old found.1.1 found.0 in
      record {
        row = new.0;
        puts = after ∙ new.1;
        written = record { rowid_is = new.2.rowid_is ∙ found.0; payload_is = new.2.payload_is; canonical = new.2.canonical; valued = new.2.valued };
        stores = λ can. met-can Format target.table old p.control p.values new.0 new.1 (all-has (λ (r : TableRow). CanStore target.table r.values) rows old can.each found.1.1) can.stored;
        many = λ can. met-many Format target.table old p.control p.values new.0 (length target.table.columns) new.1 (row-many old found.1.1) can.many;
      }
  put-of None none bytes writes =
      let found = found-in None none in
      let made = written_row Format target.table (new_rowid target.table target.greatest (suc taken) p) p.values in
      let new : is_new target.table rows p ≡ true = new-is target.table rows p rowid pairs due.meets_row None found ∙ ap (λ (t : Bool). t && true) writes.0 in
      record {
        row = made;
        puts = put-new target.table rows p rowid pairs due.meets_row Format target.greatest taken found writes.0;
        written = record {
          rowid_is = due.makes_row new;
          payload_is = sym writes.1;
          canonical = writes.1 ∙ ap (canonical_record Format) (sym (stored-without target.table.rowid_column (new_rowid target.table target.greatest (suc taken) p) p.values));
          valued = stored-rowid target.table.rowid_column (new_rowid target.table target.greatest (suc taken) p) p.values;
        };
        stores = λ can. written-can Format target.table (new_rowid target.table target.greatest (suc taken) p) p.values can.stored;
        many = λ can. written-many Format target.table (new_rowid target.table target.greatest (suc taken) p) p.values ∙ can.many;
      }

  -- it takes no more pages than the step may take
  put-need : (bytes : List ℕ) → IsPut bytes → tree_put_pages sizes.usable (length bytes) ≤ step_pages sizes.usable (due_step target Format taken rows p)
  put-need bytes put =
      let need : step_pages sizes.usable (due_step target Format taken rows p) ≡ 54 + pages_for sizes.usable (length bytes) =
      ap (λ (o : Option TableRow). 54 + put_pages sizes.usable (option_map row_member o)) put.puts ∙ ap (λ (l : List ℕ). 54 + pages_for sizes.usable (length l)) put.written.payload_is in
      let less = pages-less sizes.usable (length bytes - local_size TableLeaf sizes.usable (length bytes)) (length bytes) (omega arith) in
      omega (arith, need, less)

  write-need : (met : Option (ℤ × List Value)) → IsMetIn target.table rowid (list_in tree) met → (write : RowWrite) → Writes Format target.table met p write → write_pages sizes.usable write ≤ step_pages sizes.usable (due_step target Format taken rows p)
  write-need met is Nothing writes = omega arith
  write-need met is (PutRecord bytes) writes = put-need bytes (put-of met is bytes writes)
  write-need met is Delete writes = omega arith

  put-has : (bytes : List ℕ) → IsPut bytes → (b : Paged) → HasPut sizes front tree back (member_with rowid bytes) a b → a.count ≤ b.count → b.count ≤ a.count + tree_put_pages sizes.usable (length bytes) → length bytes ≤ payload_limit → Stepped b
  put-has bytes put b has grows rises fits = record {
    now = has.now;
    rest = has.trunks;
    world = has.world;
    root = has.root;
    kind_is = has.kind_is;
    stepped = left;
    header = has.header;
    grows = grows;
    rises = let need = put-need bytes put in omega (arith, rises, need);
    fits =
        ap (λ (o : Option TableRow). too_long target.name (option_map row_member o)) put.puts
        ∙ not-long target.name (row_member put.row) (subst⁻¹ (λ (l : List ℕ). length l ≤ greatest_payload) put.written.payload_is fits);
    rows_are = λ can. rows-left can (λ row puts. let one : put.row ≡ row = cc (sym put.puts ∙ puts) in subst IsOwn one (own can)) (list_in has.now) left;
    whole = λ catalog can whole other. whole-put sizes a b catalog front tree back trunks (member_with rowid bytes) whole due.kind_is other (inl (stored, reads can)) grows has;
  }
    where
      same : member_with rowid bytes ≡ row_member put.row
      same = λ i. record { rowid = sym put.written.rowid_is i; payload = sym put.written.payload_is i }

      left : AreStepped Format target.table target.greatest taken p rows (list_in has.now)
      left =
          put-stepped Format target.table target.greatest taken p rows put.row (list_in has.now) put.puts (subst⁻¹ (λ (z : ℤ). MeetsRowid target.table rows p z) put.written.rowid_is due.meets_row)
          (subst (λ (l : List Member). PutIn TableTree (row_member put.row) l (list_in has.now)) members (subst (λ (m : Member). PutIn TableTree m (list_in tree) (list_in has.now)) same has.list))
          (rises-in b has.now has.trunks has.world has.kind_is)

      stored : List Value
      stored = stored_values target.table.rowid_column put.row.values

      reads : CanBeStored target p rows → IsRecord bytes stored
      reads can =
          let long : length (canonical_record Format stored) ≡ length bytes = ap length (sym put.written.canonical) in
          subst⁻¹ (λ (l : List ℕ). IsRecord l stored) put.written.canonical (canonical_record_read Format stored (record-short Format stored (put.stores can) (omega (arith, long, fits))))

      own : CanBeStored target p rows → IsOwn put.row
      own can = (
        record {
          stored = stored;
          is_record = subst⁻¹ (λ (l : List ℕ). IsRecord l stored) put.written.payload_is (reads can);
          many = stored-many target.table.rowid_column put.row.values ∙ put.many can;
          rowid = refl;
          values = put.written.valued;
          payload = refl;
        },
        put.stores can,
      )

  -- A row goes.
  gone-has : (bytes : List ℕ) → Puts ≡ None → (b : Paged) → HasDeleted sizes front tree back (member_with rowid bytes) a b → a.count ≤ b.count → b.count ≤ a.count + delete_pages → Stepped b
  gone-has bytes puts b has grows rises = record {
    now = has.now;
    rest = has.trunks;
    world = has.world;
    root = has.root;
    kind_is = has.kind_is;
    stepped = left;
    header = has.header;
    grows = grows;
    rises = omega (arith, rises);
    fits = ap (λ (o : Option TableRow). too_long target.name (option_map row_member o)) puts;
    rows_are = λ can. rows-left can (λ row e. absurd (let h : ◌≡◌ {A = Option TableRow} None (Some row) = sym puts ∙ e in let no : ⊥ = cc in no)) (list_in has.now) left;
    whole = λ catalog can whole other. whole-deleted sizes a b catalog front tree back trunks (member_with rowid bytes) whole due.kind_is other grows has;
  }
    where
      left : AreStepped Format target.table target.greatest taken p rows (list_in has.now)
      left =
          taken-stepped Format target.table target.greatest taken p rows (member_with rowid bytes) (list_in has.now) puts due.meets_row
          (subst (λ (l : List Member). TakenOut (member_with rowid bytes) l (list_in has.now)) members has.list) rise

  -- What is written is what the step leaves.
  pub step-written : (met : Option (ℤ × List Value)) → IsMetIn target.table rowid (list_in tree) met → (write : RowWrite) → Writes Format target.table met p write → (b : Paged) → DoesWrite sizes target.root rowid write a b → Stepped b
  step-written (Some row) is Nothing writes b does =
      let found = found-in (Some row) is in
      let old = row_of row found.1.0 in
      let puts : Puts ≡ Some old = put-met target.table rows p rowid pairs due.meets_row Format target.greatest taken old found.1.1 found.0 ∙ writes found.1.0 in
      subst⁻¹ Stepped does.into
      (left-has (λ r e. let same : old ≡ r = cc (sym puts ∙ e) in has-to rows r (subst (λ (x : TableRow). Has x rows) same found.1.1))
      (λ x c m. puts ∙ ap Some (sym (met-one target.table rows p rowid pairs due.meets_row old found.1.1 found.0 x (has-from rows x c) m)))
      (ap (λ (o : Option TableRow). too_long target.name (option_map row_member o)) puts ∙ not-long target.name (row_member old) (row-short old found.1.1)))
  step-written (Some row) is (PutRecord bytes) writes b does =
      put-has bytes (put-of (Some row) is bytes writes) b (does.into front tree back trunks due.world due.kind_is due.root_is (omega arith)) does.grows does.rises does.fits
  step-written (Some row) is Delete writes b does =
      let found = found-in (Some row) is in
      let old = row_of row found.1.0 in
      let puts : Puts ≡ None = put-met target.table rows p rowid pairs due.meets_row Format target.greatest taken old found.1.1 found.0 ∙ writes found.1.0 in
      by puts does.into.0 does.into.1
    where
      by : Puts ≡ None → (payload : Option (List ℕ)) → DeletesRow sizes target.root rowid greatest_count payload a b → Stepped b
      by puts (Some bytes) deletes = gone-has bytes puts b (deletes front tree back trunks due.world due.kind_is due.root_is (omega arith)) does.grows does.rises
      by puts None deletes = absurd (deletes.1 front tree back trunks due.world due.kind_is due.root_is (member_with rowid is.1.0) is.1.1 refl)
  step-written None none Nothing writes b does =
      let found = found-in None none in
      let puts : Puts ≡ None = put-none target.table rows p rowid pairs due.meets_row Format target.greatest taken found writes in
      subst⁻¹ Stepped does.into
      (left-has (λ r e. absurd (let h : ◌≡◌ {A = Option TableRow} None (Some r) = sym puts ∙ e in let no : ⊥ = cc in no))
      (λ x c m. absurd (found x (has-from rows x c) ((due.meets_row x c).1 m))) (ap (λ (o : Option TableRow). too_long target.name (option_map row_member o)) puts))
  step-written None none (PutRecord bytes) writes b does =
      put-has bytes (put-of None none bytes writes) b (does.into front tree back trunks due.world due.kind_is due.root_is (omega arith)) does.grows does.rises does.fits
  step-written None none Delete writes b does = absurd writes

  -- the table stands at the target's root
  pub tree-is : IsTree sizes a target.root TableTree (depth_of tree) (list_in tree) (pages_in tree)
  tree-is =
      subst (λ (k : TreeKind). IsTree sizes a target.root k (depth_of tree) (list_in tree) (pages_in tree)) due.kind_is
      (subst (λ (r : ℕ). IsTree sizes a r tree.kind (depth_of tree) (list_in tree) (pages_in tree)) due.root_is (world-tree sizes a front tree back trunks due.world))

  fault-is : (met : Option (ℤ × List Value)) → IsMetIn target.table rowid (list_in tree) met → (fault : Option Violation) → IsFaultOf target taken met p fault → row_fault target.name target.table target.greatest taken rows p ≡ fault
  fault-is met is fault so = sym (so rows (met-is target.table rows p rowid pairs due.meets_row met (found-in met is)))

  -- What was done is the step.
  pub step-done : (F : Type 0) (met : Option (ℤ × List Value)) → FindsMet {F = F} sizes a target rowid (Ok met) → (step : RowStep) (b : Paged) → StepsMet sizes target taken rowid met p step a b
      → IsStepOf sizes target taken p front tree back trunks rows step a b
  step-done F met finds (Moved made) b is =
      let found = finds (depth_of tree) (list_in tree) (pages_in tree) tree-is in
      (fault-is met found None is.0, is.1 ∙ sym (new-is target.table rows p rowid pairs due.meets_row met (found-in met found)), step-written met found is.2.0 is.2.1 b is.2.2)
  step-done F met finds (Constraint violation) b is =
      let found = finds (depth_of tree) (list_in tree) (pages_in tree) tree-is in
      (fault-is met found (Some violation) is.0, is.1)

  -- a record that is too long is one that the step would put
  long-step : {F : Type 0} (met : Option (ℤ × List Value)) → IsMetIn target.table rowid (list_in tree) met → IsFaultOf target taken met p None → (write : RowWrite) → Writes Format target.table met p write
      → (fault : PassFault F) → IsRecordOf target.name rowid SizeOverLimit fault → IsLong write → IsLongStep (due_step target Format taken rows p) fault
  long-step met is so Nothing writes fault record_is long = absurd long
  long-step met is so Delete writes fault record_is long = absurd long
  long-step met is so (PutRecord bytes) writes (Tree fault) record_is long = absurd record_is
  long-step met is so (PutRecord bytes) writes (PassRecord name at cause) record_is long =
      let put = put-of met is bytes writes in
      let over : greatest_payload < length put.row.payload = subst⁻¹ (λ (l : List ℕ). greatest_payload < length l) put.written.payload_is long in (
        fault-is met is None so,
        ap (λ (o : Option TableRow). too_long target.name (option_map row_member o)) put.puts
            ∙ is-long target.name (row_member put.row) over
            ∙ ap₂ (λ (n : List ℕ) (r : ℤ). Some (TargetRecord n r SizeOverLimit)) (sym record_is.0) (put.written.rowid_is ∙ sym record_is.1)
            ∙ ap (λ (why : RecordCause). Some (TargetRecord name at why)) (sym record_is.2),
      )

  -- What is refused is what the step refuses.
  pub step-refused : {F : Type 0} (met : Option (ℤ × List Value)) → FindsMet {F = F} sizes a target rowid (Ok met) → (count : ℕ) (fault : PassFault F) → IsFaultMet sizes.usable target taken rowid met p a trunks count fault
      → IsStepFault sizes.usable target taken p rows a trunks count fault
  step-refused met finds count fault (inl wants) = inl (tree-then fault (λ f o. inl o) wants)
  step-refused met finds count fault (inr (so, inl wants)) = inl (tree-then fault (λ f o. inl o) wants)
  step-refused met finds count fault (inr (so, inr (write, writes, inl full))) =
      let found = finds (depth_of tree) (list_in tree) (pages_in tree) tree-is in
      let need = write-need met found write writes in
      inl (tree-then fault (λ f short. elim short [ inl o ↦ inl o | inr few ↦ inr (few.0, omega (arith, few.1, need)) ]) full)
  step-refused met finds count fault (inr (so, inr (write, writes, inr long))) =
      let found = finds (depth_of tree) (list_in tree) (pages_in tree) tree-is in
      inr (long-step met found so write writes fault long.0 long.1)

  -- No record of such a table is none of a row.
  pub missed-none : {F : Type 0} (fault : PassFault F) → FindsMet {F = F} sizes a target rowid (Err fault) → (count : ℕ) → IsStepFault sizes.usable target taken p rows a trunks count fault
  missed-none fault finds count = inl (tree-then fault (λ f o. inl o) (by fault (finds (depth_of tree) (list_in tree) (pages_in tree) tree-is)))
    where
      row-of : (ms : List Member) (rs : List TableRow) → AllZip (IsRow target.table) ms rs → (m : Member) → Has m ms → (r : TableRow) × IsRow target.table m r
      row-of [] rs are m h = absurd h
      row-of (x ∷ ms) [] are m h = absurd are
      row-of (x ∷ ms) (r ∷ rs) are m (inl e) = (r, subst (λ (n : Member). IsRow target.table n r) e are.0)
      row-of (x ∷ ms) (r ∷ rs) are m (inr k) = row-of ms rs are.1 m k

      by : {F : Type 0} (f : PassFault F) → IsMissedIn target rowid (list_in tree) f → IsWanting f
      by f (inl wants) = wants
      by (Tree f) (inr missed) = absurd missed.2
      by (PassRecord name at cause) (inr missed) =
          let found = row-of (list_in tree) rows due.rows_are (member_with rowid missed.0) (has-from (list_in tree) (member_with rowid missed.0) missed.1) in
          absurd (row-no_cause missed.0 (length target.table.columns) cause found.1.stored missed.2.2 found.1.is_record found.1.many)
