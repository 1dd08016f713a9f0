-- Leaves and members of a tree, one by one.
use Rattle.std.proofs.Common.{◌≡◌, ◌≢◌, ℕ, ℤ, pos, zero, suc, ◌==◌, ◌&&◌, ◌||◌, not, ◌⊎◌, Bool, true, false, List, [], ◌∷◌, ◌++◌, length, if◌then◌else◌, Option, Some, None, Result, Err, refl, sym, ap, ◌∙◌, subst, inl, inr, arith}
use Rattle.std.proofs.Math.Path.{subst⁻¹}
use Rattle.std.specs.Prelude.{Any, IfSome}
use Rattle.std.specs.List.{list_any, AllZip, AllByRecursion, cons_option}
use Rattle.std.proofs.lemmas.Bool.{cases_eq, eq-eqb, ne_eqb}
use Rattle.std.proofs.lemmas.List.{append-nil, length-map}
use Rattle.std.proofs.lemmas.List.Folds.{list_any-append}
use Rattle.std.proofs.lemmas.List.Elements.{filter_map-append}
use Rattle.std.proofs.lemmas.List.Quantifiers.{all_pairs_push}
use Rattle.std.specs.declared.cmp.Ordering.TheVariants.{Less}
use Rattle.rbu_value.specs.declared.order.Collation.{Collation}
use Rattle.rbu_value.specs.declared.value.Value.{Value}
use Rattle.rbu_value.specs.declared.value.Value.TheVariants.{Int}
use Rattle.format_spec.specs.Record.{IsRecord}
use Rattle.record_codec.specs.declared.read.RecordFault.{RecordFault}
use Rattle.record_codec.specs.declared.read.RecordFault.TheVariants.{RealValue}
use Rattle.common_spec.specs.Reading.{OrFault, Reads}
use Rattle.record_codec.specs.Faults.{HasFault, IsMemory}
use Rattle.record_codec.specs.FaultsLaws.{HasFault-same, record-no_fault}
use Rattle.refusal.specs.declared.Rule.TheVariants as broken
use Rattle.schema_spec.specs.declared.schema.Index.{Index}
use Rattle.tree_spec.specs.Trees.{Member}
use Rattle.database_spec.specs.Walks.{Finds, Ends, Holds, Breaks, Disorders, Bares}
use Rattle.database_spec.specs.ItemsLaws.{Has, has-right}
use Rattle.database_spec.specs.ListsLaws.{PairsByRecursion, all-from}
use Rattle.database_spec.specs.RowsLaws.{record-one}
use Rattle.database_spec.specs.Rows.{TableRow}
use Rattle.database_spec.specs.Keys.{IsBefore, entry_cmp, order_of, last_value}
use Rattle.database_spec.specs.Databases.{IsReadable}
use Rattle.database_spec.specs.FileFindings.{Content, Rows, Entries, Anything, Subject, Found, InTree, Frees, Tears, Counts, Needs, Compares}
use Rattle.database_spec.specs.FileFaults.{ends_elsewhere, IsEntry, NotBefore, IsWrongMember}
use Rattle.database_spec.specs.declared.fault.FileFault.{FileFault}
use Rattle.database_spec.specs.declared.fault.FileFault.TheVariants as file
use Rattle.database_laws.specs.FaultlessFilesLaws.{HasRowid, before-then, entries-long, member-long}
use Rattle.database_laws.specs.RightFindings.{IsAfter, IsRightMember}
use Rattle.database_laws.specs.RightFilesLaws.{all-of}
use Rattle.database_laws.specs.SoundFilesLaws.{pairs-to}
use Rattle.db_check.specs.declared.fault.CheckFault.{CheckFault}
use Rattle.db_check.specs.declared.fault.CheckFault.TheVariants.{Damaged, KeyOrder}
use Rattle.db_check.specs.declared.walk.CheckedTree.{CheckedTree}
use Rattle.db_check.specs.declared.walk.Comparison.{Comparison}
use Rattle.db_check.specs.declared.walk.Members.TheVariants as holds
use Rattle.db_check.specs.declared.walk.Progress.{Progress}
use Rattle.db_check.specs.Answers.{IsRefusal}
use Rattle.db_check.specs.Compares.{IsComparison, IsLast}
use Rattle.db_check.specs.Steps.{AreCompared, IsOf, is_elsewhere, member_at, members_at, Knows, Leaves, Refuses}
use Rattle.db_check.specs.TreeSteps.{HoldsMember, EndsAt, IsEntryOf}
use Rattle.db_check.specs.PassesLaws.{refusal-then}
use Rattle.db_check.proofs.Parts.{or-none}
use Rattle.db_check.proofs.Steps.{leaves-one, refuses-one, marked-quiet}

-- Leaves.

leaf-same_tree : (root depth other : ℕ) (subject : Subject) → subject.root ≡ root → ends_elsewhere root depth (InTree subject (Ends 0 other)) ≡ not (other == depth)
leaf-same_tree root depth other subject same = ap (λ (t : Bool). t && not (other == depth)) (eq-eqb subject.root root same)

module _ (tree : CheckedTree) (flags : List Bool) (was walk : Progress) (page depth : ℕ) (same : walk.compared ≡ was.compared) where
  -- what is known once a leaf was found
  knows-leaf : (subject : Subject) (before : List Found)
      → ((d : ℕ) → (list_any (ends_elsewhere subject.root d) before || (not (depth == d) || false)) ≡ is_elsewhere walk.leaf d) → Knows tree subject flags was before
      → Knows tree subject flags walk (before ++ InTree subject (Ends page depth) ∷ [])
  knows-leaf subject before told knows =
      let one = InTree subject (Ends page depth) ∷ [] in
      let root = subject.root in
      record {
        marked = marked-quiet flags before one (λ n. refl) knows.marked;
        depth = λ d.
            list_any-append (ends_elsewhere root d) before one
            ∙ ap (λ (t : Bool). list_any (ends_elsewhere root d) before || (t || false)) (leaf-same_tree root d depth subject refl) ∙ told d;
        compared = subst⁻¹ (λ (ms : List Member). AreCompared tree subject.content ms walk.compared) (filter_map-append (member_at root) before one ∙ append-nil (members_at root before))
            (subst⁻¹ (AreCompared tree subject.content (members_at root before)) same knows.compared);
      }

  pub leaf-first : was.leaf ≡ None → walk.leaf ≡ Some depth → Leaves tree (EndsAt page depth) (λ findings. findings ≡ []) flags flags was walk
  leaf-first none first = leaves-one tree flags flags was walk (Ends page depth)
      (λ subject before of knows.
      let fresh = λ (d : ℕ). knows.depth d ∙ ap (λ (o : Option ℕ). is_elsewhere o d) none in (
        fresh depth,
        knows-leaf subject before
            (λ d. ap (λ (t : Bool). t || (not (depth == d) || false)) (fresh d) ∙ or-none (not (depth == d)) false refl ∙ sym (ap (λ (o : Option ℕ). is_elsewhere o d) first)) knows,
      ))

  or-twice : (s t : Bool) → s ≡ t → (s || (t || false)) ≡ t
  or-twice true true e = refl
  or-twice false false e = refl
  or-twice true false e = e
  or-twice false true e = refl

  pub leaf-again : was.leaf ≡ Some depth → walk.leaf ≡ Some depth → Leaves tree (EndsAt page depth) (λ findings. findings ≡ []) flags flags was walk
  leaf-again noted still = leaves-one tree flags flags was walk (Ends page depth)
      (λ subject before of knows.
      let told = λ (d : ℕ). knows.depth d ∙ ap (λ (o : Option ℕ). is_elsewhere o d) noted in (
        told depth ∙ ap not (eq-eqb depth depth refl),
        knows-leaf subject before (λ d. or-twice (list_any (ends_elsewhere subject.root d) before) (not (depth == d)) (told d) ∙ sym (ap (λ (o : Option ℕ). is_elsewhere o d) still)) knows,
      ))

pub leaf-elsewhere : (F : Type 0) (tree : CheckedTree) (flags : List Bool) (was : Progress) (page depth leaf : ℕ) → was.leaf ≡ Some leaf → leaf ≢ depth → Refuses {F = F} tree (EndsAt page depth) flags was (Damaged page broken.Depth)
leaf-elsewhere F tree flags was page depth leaf noted apart = refuses-one {F = F} tree (EndsAt page depth) flags was (Ends page depth) (Damaged page broken.Depth) (λ findings from. ([], from))
    (λ subject before of knows. (knows.depth depth ∙ ap (λ (o : Option ℕ). is_elsewhere o depth) noted ∙ ap not (ne_eqb leaf depth apart), refl))

-- Members.

-- bytes that have a fault other than a floating point value cannot be read
pub unreadable : (payload : List ℕ) (fault : RecordFault) → HasFault payload fault → fault ≢ RealValue → ¬ IsReadable (record { rowid = pos 0; payload = payload })
unreadable payload fault has apart (inl read) = record-no_fault payload read.0 fault read.1 has
unreadable payload fault has apart (inr real) = apart (HasFault-same payload fault RealValue has real)

-- what is answered of bytes that are no record
abbrev pub TellsFault : List ℕ → RecordFault → Type 0
TellsFault payload fault = IsMemory fault ⊎ Reads {A = Result (List Value) RecordFault} (OrFault (IsRecord payload) (HasFault payload)) (Err fault)

told-fault : (payload : List ℕ) (fault known : RecordFault) → fault ≡ known → (IsMemory known → ⊥) → TellsFault payload fault → HasFault payload known
told-fault payload fault known is apart told = by (subst (TellsFault payload) is told)
  where
    by : TellsFault payload known → HasFault payload known
    by (inl memory) = absurd (apart memory)
    by (inr reads) = reads.holds

pub told-no_record : (payload : List ℕ) (fault known : RecordFault) → fault ≡ known → (IsMemory known → ⊥) → TellsFault payload fault → (values : List Value) → ¬ IsRecord payload values
told-no_record payload fault known is apart told values record_is = record-no_fault payload values known record_is (told-fault payload fault known is apart told)

pub told-unreadable : (payload : List ℕ) (fault known : RecordFault) → fault ≡ known → (IsMemory known → ⊥) → known ≢ RealValue → TellsFault payload fault → ¬ IsReadable (record { rowid = pos 0; payload = payload })
told-unreadable payload fault known is apart unreal told = unreadable payload known (told-fault payload fault known is apart told) unreal

pub told-real : (payload : List ℕ) (fault : RecordFault) → fault ≡ RealValue → TellsFault payload fault → IsReadable (record { rowid = pos 0; payload = payload })
told-real payload fault is told = inr (told-fault payload fault RealValue is (λ m. m) told)

pub readable-held : (payload : List ℕ) (held : Member) → held.payload ≡ payload → IsReadable (record { rowid = pos 0; payload = payload }) → IsReadable held
readable-held payload held is readable = subst⁻¹ (λ (p : List ℕ). ((values : List Value) × IsRecord p values) ⊎ HasFault p RealValue) is readable

pub held-readable : (payload : List ℕ) (held : Member) → held.payload ≡ payload → IsReadable held → IsReadable (record { rowid = pos 0; payload = payload })
held-readable payload held is readable = subst (λ (p : List ℕ). ((values : List Value) × IsRecord p values) ⊎ HasFault p RealValue) is readable

-- a member that is right whatever it is, and one that is wrong
pub member-leaves : (tree : CheckedTree) (flags : List Bool) (was walk : Progress) (page : ℕ) (payload : List ℕ)
    → ((subject : Subject) (before : List Found) → IsOf tree subject.content → Knows tree subject flags was before → (held : Member) → held.payload ≡ payload
    → IsRightMember before subject subject.content held × Knows tree subject flags walk (before ++ InTree subject (Holds page held) ∷ []))
    → Leaves tree (HoldsMember page payload) (λ findings. findings ≡ []) flags flags was walk
member-leaves tree flags was walk page payload right subject before of knows findings from =
    let is = right subject before of knows from.0 from.1 in
    record { gone = Holds page from.0 ∷ []; rest = []; whole = from.2; right = (is.0, tt); knows = is.1; is_rest = refl }

pub member-refuses : {F : Type 0} (tree : CheckedTree) (flags : List Bool) (was : Progress) (page : ℕ) (payload : List ℕ) (fault : CheckFault F)
    → ((subject : Subject) (before : List Found) → IsOf tree subject.content → Knows tree subject flags was before → (held : Member) → held.payload ≡ payload → IsRefusal (IsWrongMember before subject subject.content page held) fault)
    → Refuses tree (HoldsMember page payload) flags was fault
member-refuses tree flags was page payload fault wrong subject before of knows findings from =
    refuses-one tree (λ found. found ≡ findings) flags was (Holds page from.0) fault (λ found e. ([], e ∙ from.2)) (λ s b o k. wrong s b o k from.0 from.1) subject before of knows findings refl

-- what is known once a member was found
pub knows-held : (tree : CheckedTree) (subject : Subject) (flags : List Bool) (was walk : Progress) (before : List Found) (page : ℕ) (held : Member) → walk.leaf ≡ was.leaf
    → AreCompared tree subject.content (members_at subject.root (before ++ InTree subject (Holds page held) ∷ [])) walk.compared → Knows tree subject flags was before
    → Knows tree subject flags walk (before ++ InTree subject (Holds page held) ∷ [])
knows-held tree subject flags was walk before page held same have knows =
    let one = InTree subject (Holds page held) ∷ [] in
    record {
      marked = marked-quiet flags before one (λ n. refl) knows.marked;
      depth = λ d.
          list_any-append (ends_elsewhere subject.root d) before one ∙ or-none (list_any (ends_elsewhere subject.root d) before) false refl ∙ knows.depth d ∙ sym (ap (λ (o : Option ℕ). is_elsewhere o d) same);
      compared = have;
    }

-- Rows.

module _ (tree : CheckedTree) (rows : tree.members ≡ holds.Rows) where
  no_entries : (content : Content) (members : List Member) (compared : Comparison) → IsOf tree content → AreCompared tree content members compared
  no_entries Rows members compared of = tt
  no_entries (Entries index rows_of) members compared of = absurd (let clash : holds.Rows ≡ holds.Entries = sym rows ∙ of.0 in let no : ⊥ = cc in no)
  no_entries Anything members compared of = tt

  row-right : (before : List Found) (subject : Subject) (content : Content) (held : Member) → IsOf tree content → IsReadable held → IsRightMember before subject content held
  row-right before subject Rows held of is = is
  row-right before subject (Entries index rows_of) held of is = absurd (let clash : holds.Rows ≡ holds.Entries = sym rows ∙ of.0 in let no : ⊥ = cc in no)
  row-right before subject Anything held of is = tt

  row-wrong : (before : List Found) (subject : Subject) (content : Content) (page : ℕ) (held : Member) → IsOf tree content → ¬ IsReadable held → IsWrongMember before subject content page held (file.Damaged page broken.Record)
  row-wrong before subject Rows page held of not_so = (not_so, refl)
  row-wrong before subject (Entries index rows_of) page held of not_so = absurd (let clash : holds.Rows ≡ holds.Entries = sym rows ∙ of.0 in let no : ⊥ = cc in no)
  row-wrong before subject Anything page held of not_so = absurd (let clash : holds.Rows ≡ holds.Any = sym rows ∙ of in let no : ⊥ = cc in no)

  pub row-taken : (flags : List Bool) (walk : Progress) (page : ℕ) (payload : List ℕ) → ((held : Member) → held.payload ≡ payload → IsReadable held) → Leaves tree (HoldsMember page payload) (λ findings. findings ≡ []) flags flags walk walk
  row-taken flags walk page payload readable = member-leaves tree flags walk walk page payload
      (λ subject before of knows held is. (
        row-right before subject subject.content held of (readable held is),
        knows-held tree subject flags walk walk before page held refl (no_entries subject.content (members_at subject.root (before ++ InTree subject (Holds page held) ∷ [])) walk.compared of) knows,
      ))

  pub row-refused : (F : Type 0) (flags : List Bool) (walk : Progress) (page : ℕ) (payload : List ℕ) → ((held : Member) → held.payload ≡ payload → ¬ IsReadable held)
      → Refuses {F = F} tree (HoldsMember page payload) flags walk (Damaged page broken.Record)
  row-refused F flags walk page payload unreadable = member-refuses {F = F} tree flags walk page payload (Damaged page broken.Record)
      (λ subject before of knows held is. row-wrong before subject subject.content page held of (unreadable held is))

-- Members of which nothing is known.

module _ (tree : CheckedTree) (any : tree.members ≡ holds.Any) where
  any-right : (before : List Found) (subject : Subject) (content : Content) (held : Member) → IsOf tree content → IsRightMember before subject content held
  any-right before subject Rows held of = absurd (let clash : holds.Any ≡ holds.Rows = sym any ∙ of in let no : ⊥ = cc in no)
  any-right before subject (Entries index rows_of) held of = absurd (let clash : holds.Any ≡ holds.Entries = sym any ∙ of.0 in let no : ⊥ = cc in no)
  any-right before subject Anything held of = tt

  any-entries : (content : Content) (members : List Member) (compared : Comparison) → IsOf tree content → AreCompared tree content members compared
  any-entries Rows members compared of = tt
  any-entries (Entries index rows_of) members compared of = absurd (let clash : holds.Any ≡ holds.Entries = sym any ∙ of.0 in let no : ⊥ = cc in no)
  any-entries Anything members compared of = tt

  pub any-taken : (flags : List Bool) (walk : Progress) (page : ℕ) (payload : List ℕ) → Leaves tree (HoldsMember page payload) (λ findings. findings ≡ []) flags flags walk walk
  any-taken flags walk page payload = member-leaves tree flags walk walk page payload
      (λ subject before of knows held is. (
        any-right before subject subject.content held of,
        knows-held tree subject flags walk walk before page held refl (any-entries subject.content (members_at subject.root (before ++ InTree subject (Holds page held) ∷ [])) walk.compared of) knows,
      ))

-- Entries.

zip-push : {A B : Type 0} (R : A → B → Type 0) (xs : List A) (ys : List B) (x : A) (y : B) → AllZip R xs ys → R x y → AllZip R (xs ++ x ∷ []) (ys ++ y ∷ [])
zip-push R [] [] x y zip r = (r, tt)
zip-push R [] (b ∷ ys) x y zip r = absurd zip
zip-push R (a ∷ xs) [] x y zip r = absurd zip
zip-push R (a ∷ xs) (b ∷ ys) x y zip r = (zip.0, zip-push R xs ys x y zip.1 r)

module _ (index : Index) (entry : List Value) where
  -- an entry is one of the tree's columns
  pub entry-of : (columns : List (Collation × Bool)) (payload : List ℕ) (held : Member) → columns ≡ order_of index → held.payload ≡ payload → IsEntryOf columns payload entry → IsEntry index held entry
  entry-of columns payload held same is of =
      let long : length (order_of index) ≡ length index.columns = length-map index.columns (λ (column : ℕ × Collation × Bool). (column.1, column.2)) in
      record {
        is_record = subst⁻¹ (λ (p : List ℕ). IsRecord p entry) is of.is_record;
        many = of.many ∙ ap (λ (n : ℕ). suc n) (ap (λ (cs : List (Collation × Bool)). length cs) same ∙ long);
        rowid = of.rowid;
        last = subst (λ (cs : List (Collation × Bool)). last_value cs entry ≡ Int of.rowid) same of.last;
      }

  pub of-entry : (columns : List (Collation × Bool)) (payload : List ℕ) (held : Member) → columns ≡ order_of index → held.payload ≡ payload → IsEntry index held entry → IsEntryOf columns payload entry
  of-entry columns payload held same is of =
      let long : length (order_of index) ≡ length index.columns = length-map index.columns (λ (column : ℕ × Collation × Bool). (column.1, column.2)) in
      record {
        is_record = subst (λ (p : List ℕ). IsRecord p entry) is of.is_record;
        many = of.many ∙ ap (λ (n : ℕ). suc n) (sym (ap (λ (cs : List (Collation × Bool)). length cs) same ∙ long));
        rowid = of.rowid;
        last = subst⁻¹ (λ (cs : List (Collation × Bool)). last_value cs entry ≡ Int of.rowid) same of.last;
      }

  -- entries in order, of which the last stands before this one, all stand before it
  all-before : (entries : List (List Value)) → AllByRecursion (HasRowid index) entries → PairsByRecursion (IsBefore index) entries → HasRowid index entry → (last : Option (List Value)) → IsLast last entries
      → IfSome last (λ other. IsBefore index other entry) → AllByRecursion (λ (x : List Value). IsBefore index x entry) entries
  all-before entries fits pairs own None at behind = subst⁻¹ (AllByRecursion (λ (x : List Value). IsBefore index x entry)) at tt
  all-before entries fits pairs own (Some last) at behind =
      subst⁻¹ (AllByRecursion (λ (x : List Value). IsBefore index x entry)) at.1
      (by at.0 (subst (AllByRecursion (HasRowid index)) at.1 fits) (subst (PairsByRecursion (IsBefore index)) at.1 pairs))
    where
      by : (front : List (List Value)) → AllByRecursion (HasRowid index) (front ++ last ∷ []) → PairsByRecursion (IsBefore index) (front ++ last ∷ [])
          → AllByRecursion (λ (x : List Value). IsBefore index x entry) (front ++ last ∷ [])
      by [] fit pair = (behind, tt)
      by (x ∷ front) fit pair =
          let end = has-right front (last ∷ []) last (inl refl) in
          (before-then index x last entry fit.0 (all-of (HasRowid index) (front ++ last ∷ []) last fit.1 end) own (all-of (IsBefore index x) (front ++ last ∷ []) last pair.0 end) behind, by front fit.1 pair.1)

  module _ (root : ℕ) where
    member-here : (subject : Subject) (page : ℕ) (member : Member) (before : List Found) → subject.root ≡ root → members_at root (InTree subject (Holds page member) ∷ before) ≡ member ∷ members_at root before
    member-here subject page member before same = ap (λ (t : Bool). cons_option (if t then Some member else None) (members_at root before)) (eq-eqb subject.root root same)

    member-other : (subject : Subject) (page : ℕ) (member : Member) (before : List Found) → subject.root ≢ root → members_at root (InTree subject (Holds page member) ∷ before) ≡ members_at root before
    member-other subject page member before apart = ap (λ (t : Bool). cons_option (if t then Some member else None) (members_at root before)) (ne_eqb subject.root root apart)

    -- each entry that was found stands before this one
    pub after-found : (before : List Found) (entries : List (List Value)) → AllZip (IsEntry index) (members_at root before) entries → AllByRecursion (λ (x : List Value). IsBefore index x entry) entries
        → AllByRecursion (IsAfter root index entry) before
    after-found [] entries zip all = tt
    after-found (InTree subject (Finds page) ∷ before) entries zip all = (tt, after-found before entries zip all)
    after-found (InTree subject (Ends page depth) ∷ before) entries zip all = (tt, after-found before entries zip all)
    after-found (InTree subject (Holds page member) ∷ before) entries zip all =
        elim (cases_eq subject.root root) [
          | inl same ↦ by entries all (subst (λ (ms : List Member). AllZip (IsEntry index) ms entries) (member-here subject page member before same) zip) (λ es beside each. after-found before es beside each)
          | inr apart ↦ (λ e. absurd (apart e), after-found before entries (subst (λ (ms : List Member). AllZip (IsEntry index) ms entries) (member-other subject page member before apart) zip) all)
        ]
      where
        by : (es : List (List Value)) → AllByRecursion (λ (x : List Value). IsBefore index x entry) es → AllZip (IsEntry index) (member ∷ members_at root before) es
            → ((ys : List (List Value)) → AllZip (IsEntry index) (members_at root before) ys → AllByRecursion (λ (x : List Value). IsBefore index x entry) ys → AllByRecursion (IsAfter root index entry) before)
            → AllByRecursion (IsAfter root index entry) (InTree subject (Holds page member) ∷ before)
        by [] each beside rest = absurd beside
        by (e ∷ es) each beside rest = (
          λ here other is. subst (λ (x : List Value). IsBefore index x entry) (record-one member.payload e other beside.0.is_record is.is_record) each.0,
          rest es beside.1 each.1,
        )
    after-found (InTree subject (Breaks page rule) ∷ before) entries zip all = (tt, after-found before entries zip all)
    after-found (InTree subject (Disorders page) ∷ before) entries zip all = (tt, after-found before entries zip all)
    after-found (InTree subject (Bares page) ∷ before) entries zip all = (tt, after-found before entries zip all)
    after-found (Frees page ∷ before) entries zip all = (tt, after-found before entries zip all)
    after-found (Tears page ∷ before) entries zip all = (tt, after-found before entries zip all)
    after-found (Counts pages ∷ before) entries zip all = (tt, after-found before entries zip all)
    after-found (Needs page ∷ before) entries zip all = (tt, after-found before entries zip all)
    after-found (Compares other rows members ∷ before) entries zip all = (tt, after-found before entries zip all)

    any-there : (x : Found) (xs : List Found) → Any (NotBefore root index entry) xs → Any (NotBefore root index entry) (x ∷ xs)
    any-there x xs (k, y, less, e, p) = (suc k, y, omega (arith, less), e, p)

    -- an entry that was found does not stand before this one
    pub not_before-found : (before : List Found) (entries : List (List Value)) (last : List Value) → AllZip (IsEntry index) (members_at root before) entries → Has last entries → ¬ IsBefore index last entry
        → Any (NotBefore root index entry) before
    not_before-found [] [] last zip has wrong = absurd has
    not_before-found [] (e ∷ entries) last zip has wrong = absurd zip
    not_before-found (InTree subject (Finds page) ∷ before) entries last zip has wrong = any-there (InTree subject (Finds page)) before (not_before-found before entries last zip has wrong)
    not_before-found (InTree subject (Ends page depth) ∷ before) entries last zip has wrong = any-there (InTree subject (Ends page depth)) before (not_before-found before entries last zip has wrong)
    not_before-found (InTree subject (Holds page member) ∷ before) entries last zip has wrong =
        elim (cases_eq subject.root root) [
          | inl same ↦ by same entries (subst (λ (ms : List Member). AllZip (IsEntry index) ms entries) (member-here subject page member before same) zip) has (λ es beside h. not_before-found before es last beside h wrong)
          | inr apart ↦ any-there (InTree subject (Holds page member)) before (not_before-found before entries last (subst (λ (ms : List Member). AllZip (IsEntry index) ms entries) (member-other subject page member before apart) zip) has wrong)
        ]
      where
        by : subject.root ≡ root → (es : List (List Value)) → AllZip (IsEntry index) (member ∷ members_at root before) es → Has last es
            → ((ys : List (List Value)) → AllZip (IsEntry index) (members_at root before) ys → Has last ys → Any (NotBefore root index entry) before)
            → Any (NotBefore root index entry) (InTree subject (Holds page member) ∷ before)
        by same [] beside h rest = absurd h
        by same (e ∷ es) beside (inl is) rest = (zero, InTree subject (Holds page member), omega arith, refl, (same, (last, subst (IsEntry index member) is beside.0, wrong)))
        by same (e ∷ es) beside (inr h) rest = any-there (InTree subject (Holds page member)) before (rest es beside.1 h)
    not_before-found (InTree subject (Breaks page rule) ∷ before) entries last zip has wrong = any-there (InTree subject (Breaks page rule)) before (not_before-found before entries last zip has wrong)
    not_before-found (InTree subject (Disorders page) ∷ before) entries last zip has wrong = any-there (InTree subject (Disorders page)) before (not_before-found before entries last zip has wrong)
    not_before-found (InTree subject (Bares page) ∷ before) entries last zip has wrong = any-there (InTree subject (Bares page)) before (not_before-found before entries last zip has wrong)
    not_before-found (Frees page ∷ before) entries last zip has wrong = any-there (Frees page) before (not_before-found before entries last zip has wrong)
    not_before-found (Tears page ∷ before) entries last zip has wrong = any-there (Tears page) before (not_before-found before entries last zip has wrong)
    not_before-found (Counts pages ∷ before) entries last zip has wrong = any-there (Counts pages) before (not_before-found before entries last zip has wrong)
    not_before-found (Needs page ∷ before) entries last zip has wrong = any-there (Needs page) before (not_before-found before entries last zip has wrong)
    not_before-found (Compares other rows members ∷ before) entries last zip has wrong = any-there (Compares other rows members) before (not_before-found before entries last zip has wrong)

-- Values that hold an entry.
abbrev pub HoldsEntry : List (Collation × Bool) → List Value → Type 0
HoldsEntry columns values = (length values ≡ suc (length columns)) × ((rowid : ℤ) × (last_value columns values ≡ Int rowid))

pub holds-entry : (columns : List (Collation × Bool)) (payload : List ℕ) (entry values : List Value) → IsEntryOf columns payload entry → IsRecord payload values → HoldsEntry columns values
holds-entry columns payload entry values own is = subst (HoldsEntry columns) (record-one payload entry values own.is_record is) (own.many, (own.rowid, own.last))

pub entry-holds : (columns : List (Collation × Bool)) (payload : List ℕ) (values entry : List Value) → entry ≡ values → IsRecord payload values → HoldsEntry columns values → IsEntryOf columns payload entry
entry-holds columns payload values entry same is holds_it = subst⁻¹ (IsEntryOf columns payload) same (record { is_record = is; many = holds_it.0; rowid = holds_it.1.0; last = holds_it.1.1 })

-- An entry that is taken, or refused.

module _ (tree : CheckedTree) (entries_are : tree.members ≡ holds.Entries) (page : ℕ) (payload : List ℕ) where
  no_rows : (A : Type 0) → tree.members ≡ holds.Rows → A
  no_rows A rows = absurd (let clash : holds.Entries ≡ holds.Rows = sym entries_are ∙ rows in let no : ⊥ = cc in no)

  no_any : (A : Type 0) → tree.members ≡ holds.Any → A
  no_any A any = absurd (let clash : holds.Entries ≡ holds.Any = sym entries_are ∙ any in let no : ⊥ = cc in no)

  -- no entry
  none-wrong : (before : List Found) (subject : Subject) (content : Content) (held : Member) → IsOf tree content → held.payload ≡ payload → ((entry : List Value) → ¬ IsEntryOf tree.columns payload entry)
      → IsWrongMember before subject content page held (file.Damaged page broken.Record)
  none-wrong before subject Rows held of is none = no_rows (IsWrongMember before subject Rows page held (file.Damaged page broken.Record)) of
  none-wrong before subject (Entries index rows) held of is none = inl (λ entry own. none entry (of-entry index entry tree.columns payload held of.1 is own), refl)
  none-wrong before subject Anything held of is none = no_any (IsWrongMember before subject Anything page held (file.Damaged page broken.Record)) of

  pub entry-none : {F : Type 0} (flags : List Bool) (walk : Progress) (fault : CheckFault F)
      → IsRefusal (λ (other : FileFault). ((entry : List Value) → ¬ IsEntryOf tree.columns payload entry) × (other ≡ file.Damaged page broken.Record)) fault
      → Refuses tree (HoldsMember page payload) flags walk fault
  entry-none flags walk fault told = member-refuses tree flags walk page payload fault
      (λ subject before of knows held is.
      refusal-then (λ (other : FileFault). ((entry : List Value) → ¬ IsEntryOf tree.columns payload entry) × (other ≡ file.Damaged page broken.Record)) (IsWrongMember before subject subject.content page held)
      (λ other w. subst⁻¹ (IsWrongMember before subject subject.content page held) w.1 (none-wrong before subject subject.content held of is w.0)) fault told)

  module _ (entry : List Value) (own : IsEntryOf tree.columns payload entry) (flags : List Bool) (was : Progress) where
    -- the last entry that was found stands before this one
    abbrev IsBehind : Option (List Value) → Type 0
    IsBehind found = IfSome found (λ last. entry_cmp tree.columns last entry ≡ Less)

    -- an entry that does not stand behind the last one
    entry-wrong : (before : List Found) (subject : Subject) (content : Content) (held : Member) → IsOf tree content → held.payload ≡ payload → AreCompared tree content (members_at subject.root before) was.compared
        → (found : Option (List Value)) → was.compared.last ≡ found → ¬ IsBehind found → IsWrongMember before subject content page held (file.KeyOrder page)
    entry-wrong before subject Rows held of is have found found_is wrong = no_rows (IsWrongMember before subject Rows page held (file.KeyOrder page)) of
    entry-wrong before subject (Entries index rows) held of is have None found_is wrong = absurd (wrong tt)
    entry-wrong before subject (Entries index rows) held of is have (Some last) found_is wrong =
        let at : IsLast (Some last) have.0 = subst (λ (o : Option (List Value)). IsLast o have.0) found_is have.2.last in
        inr (
          entry,
          entry-of index entry tree.columns payload held of.1 is own,
          not_before-found index entry subject.root before have.0 last have.1.0 (subst⁻¹ (λ (es : List (List Value)). Has last es) at.1 (has-right at.0 (last ∷ []) last (inl refl)))
              (λ before_it. wrong (subst⁻¹ (λ (cs : List (Collation × Bool)). entry_cmp cs last entry ≡ Less) of.1 before_it)),
          refl,
        )
    entry-wrong before subject Anything held of is have found found_is wrong = no_any (IsWrongMember before subject Anything page held (file.KeyOrder page)) of

    pub entry-disordered : (F : Type 0) → ¬ IsBehind was.compared.last → Refuses {F = F} tree (HoldsMember page payload) flags was (KeyOrder page)
    entry-disordered F wrong = member-refuses {F = F} tree flags was page payload (KeyOrder page)
        (λ subject before of knows held is. entry-wrong before subject subject.content held of is knows.compared was.compared.last refl wrong)

    module _ (walk : Progress) (compares : (entries : List (List Value)) → IsComparison tree entries was.compared → IsComparison tree (entries ++ entry ∷ []) walk.compared) (still : walk.leaf ≡ was.leaf)
        (behind : IsBehind was.compared.last) where
      -- what is known of an entry that stands behind all others
      record Stands (index : Index) (entries : List (List Value)) (held : Member) : Type 0 where
        is_entry : IsEntry index held entry
        each : AllByRecursion (λ (x : List Value). IsBefore index x entry) entries

      behind-in : (index : Index) → tree.columns ≡ order_of index → (found : Option (List Value)) → IsBehind found → IfSome found (λ last. IsBefore index last entry)
      behind-in index same None is = tt
      behind-in index same (Some last) is = subst (λ (cs : List (Collation × Bool)). entry_cmp cs last entry ≡ Less) same is

      stands : (index : Index) (rows : List TableRow) (members : List Member) (held : Member) → IsOf tree (Entries index rows) → held.payload ≡ payload → (have : AreCompared tree (Entries index rows) members was.compared)
          → Stands index have.0 held
      stands index rows members held of is have =
          let is_entry = entry-of index entry tree.columns payload held of.1 is own in
          record {
            is_entry = is_entry;
            each = all-before index entry have.0 (entries-long index members have.0 have.1.0) (pairs-to (IsBefore index) have.0 have.1.1) (member-long index held entry is_entry) was.compared.last have.2.last
                (behind-in index of.1 was.compared.last behind);
          }

      entry-right : (before : List Found) (subject : Subject) (content : Content) (held : Member) → IsOf tree content → held.payload ≡ payload → AreCompared tree content (members_at subject.root before) was.compared
          → IsRightMember before subject content held
      entry-right before subject Rows held of is have = no_rows (IsRightMember before subject Rows held) of
      entry-right before subject (Entries index rows) held of is have =
          let its = stands index rows (members_at subject.root before) held of is have in
          (entry, its.is_entry, after-found index entry subject.root before have.0 have.1.0 its.each)
      entry-right before subject Anything held of is have = tt

      entry-kept : (before : List Found) (subject : Subject) (content : Content) (held : Member) → IsOf tree content → held.payload ≡ payload → AreCompared tree content (members_at subject.root before) was.compared
          → AreCompared tree content (members_at subject.root (before ++ InTree subject (Holds page held) ∷ [])) walk.compared
      entry-kept before subject Rows held of is have = tt
      entry-kept before subject (Entries index rows) held of is have =
          let root = subject.root in
          let entries = have.0 in
          let its = stands index rows (members_at root before) held of is have in
          let one = InTree subject (Holds page held) ∷ [] in
          let list : members_at root (before ++ one) ≡ members_at root before ++ held ∷ [] =
          filter_map-append (member_at root) before one ∙ ap (λ (ms : List Member). members_at root before ++ ms) (member-here index entry root subject page held [] refl) in (
            entries ++ entry ∷ [],
            (
              subst⁻¹ (λ (ms : List Member). AllZip (IsEntry index) ms (entries ++ entry ∷ [])) list (zip-push (IsEntry index) (members_at root before) entries held entry have.1.0 its.is_entry),
              all_pairs_push (IsBefore index) entries entry have.1.1 (all-from (λ (x : List Value). IsBefore index x entry) entries its.each),
            ),
            compares entries have.2,
          )
      entry-kept before subject Anything held of is have = tt

      pub entry-taken : Leaves tree (HoldsMember page payload) (λ findings. findings ≡ []) flags flags was walk
      entry-taken = member-leaves tree flags was walk page payload
          (λ subject before of knows held is. (
            entry-right before subject subject.content held of is knows.compared,
            knows-held tree subject flags was walk before page held still (entry-kept before subject subject.content held of is knows.compared) knows,
          ))
