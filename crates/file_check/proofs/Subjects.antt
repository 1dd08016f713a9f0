-- What the parts of `db_check` say of a tree, said of what is told of it.
use Rattle.std.proofs.Common.{◌≡◌, ℕ, ℤ, ◌≤◌, Bool, true, false, List, [], ◌∷◌, Option, Some, None, Result, Ok, Err, is_ok, refl, sym, ap, ◌∙◌, subst}
use Rattle.std.proofs.Math.Path.{subst⁻¹}
use Rattle.schema_spec.specs.declared.schema.SqlFault.{SqlFault}
use Rattle.schema_spec.specs.declared.schema.Table.{Table}
use Rattle.schema_spec.specs.declared.schema.Index.{Index}
use Rattle.tree_spec.specs.declared.TreeKind.{TreeKind}
use Rattle.tree_spec.specs.declared.TreeKind.TheVariants as tree
use Rattle.tree_spec.specs.Standing.{Sizes, Paged}
use Rattle.database_spec.specs.declared.catalog.Entry.{Entry}
use Rattle.database_spec.specs.Walks.{IsWalk}
use Rattle.database_spec.specs.FileFindings.{Content, Rows, Entries, Anything, Subject, Walked, Found, IsIndexContent, IsIndexSubject, own_kind, table_kind, table_content}
use Rattle.db_check.specs.declared.fault.CheckFault.{CheckFault}
use Rattle.db_check.specs.declared.walk.Members.{Members}
use Rattle.db_check.specs.declared.walk.Members.TheVariants as holds
use Rattle.db_check.specs.Indexes.{EndsIndex, HasMembers, PassesIndex, PassesMembers, TellsIndex}
use Rattle.db_check.specs.TreeSteps.{IsFresh}
use Rattle.file_check.specs.declared.trees.Disagreement.{Disagreement}
use Rattle.file_check.specs.Parts.{IsNext, Judges, PassesWalk}
use Rattle.file_check.specs.Trees.{IsBeside, IsSubjectOf, OfIndex, OfSchema, OfTable}
use Rattle.file_check.proofs.Judging.{judges-alone, judges-any, judges-right, judges-wrong}

-- a tree that is compared with none
abbrev pub IsAlone : TreeKind → Members → ℕ → Subject → Type 0
IsAlone kind members root subject = HasMembers members subject.content × (subject.root ≡ root) × (subject.kind ≡ kind)

alone-judges : (members : Members) (walked : Walked) → HasMembers members walked.subject.content → Judges (walked ∷ []) None
alone-judges holds.Rows walked is = judges-alone walked is
alone-judges holds.Entries walked is = absurd is
alone-judges holds.Any walked is = judges-any walked is

-- a text is not both read and not read
not-both : {T E : Type 0} (r : Result T E) (x : T) (e : E) → r ≡ Ok x → r ≡ Err e → ⊥
not-both r x e p q = let clash : Ok x ≡ Err e = sym p ∙ q in let no : ⊥ = cc in no

module _ (sizes : Sizes) (base : Paged) where
  -- an index that is not compared has any entries
  any-content : (entry : Entry) (meaning : Result Index SqlFault) (content : Content) → ((table : Table) (read : Index) → entry.meaning ≡ Ok table → meaning ≡ Ok read → ⊥) → IsIndexContent sizes base entry meaning content → content ≡ Anything
  any-content entry meaning Rows none is = absurd is
  any-content entry meaning (Entries index rows) none is = absurd (none is.1.0 index is.1.1.meaning is.0)
  any-content entry meaning Anything none is = refl

  module _ (F : Type 0) (old flags : List Bool) where
    -- what is said of more subjects holds of fewer
    pub passes-fewer : (P Q : Subject → Type 0) (result : Result (Option Disagreement) (CheckFault F)) → ((subject : Subject) → Q subject → P subject) → PassesWalk sizes base P old flags result → PassesWalk sizes base Q old flags result
    passes-fewer P Q result on passes walked before q next = passes walked before (on walked.subject q) next

    module _ (kind : TreeKind) (members : Members) (root : ℕ) (walked : Walked) (before : List Found) (is : IsAlone kind members root walked.subject) (next : IsNext sizes base walked before old) where
      alone-walk : IsWalk sizes base kind root walked.findings
      alone-walk = subst (λ (k : TreeKind). IsWalk sizes base k root walked.findings) is.2 (subst (λ (n : ℕ). IsWalk sizes base walked.subject.kind n walked.findings) is.1 next.is_walk)

      alone-fresh : IsFresh root before
      alone-fresh = subst (λ (n : ℕ). IsFresh n before) is.1 next.fresh

    pub alone-right : (kind : TreeKind) (members : Members) (root : ℕ) → PassesMembers sizes base {F = F} kind members root old flags (Ok tt) → PassesWalk sizes base {F = F} (IsAlone kind members root) old flags (Ok None)
    alone-right kind members root passes walked before is next =
        let ended = passes walked.subject before is.0 is.1 (alone-fresh kind members root walked before is next) next.marked walked.findings (alone-walk kind members root walked before is next) in
        (ended.0, ended.1, alone-judges members walked is.0)

    pub alone-wrong : (kind : TreeKind) (members : Members) (root : ℕ) (fault : CheckFault F) → PassesMembers sizes base kind members root old flags (Err fault) → PassesWalk sizes base (IsAlone kind members root) old flags (Err fault)
    alone-wrong kind members root fault passes walked before is next =
        passes walked.subject before is.0 is.1 (alone-fresh kind members root walked before is next) next.marked walked.findings (alone-walk kind members root walked before is next)

    -- A table.

    pub table-read : (entry : Entry) (result : Result (Option Disagreement) (CheckFault F)) → is_ok entry.meaning ≡ true → PassesWalk sizes base (IsAlone tree.Table holds.Rows entry.root) old flags result
        → PassesWalk sizes base (IsSubjectOf sizes base (OfTable entry)) old flags result
    table-read entry result e =
        passes-fewer (IsAlone tree.Table holds.Rows entry.root) (IsSubjectOf sizes base (OfTable entry)) result
        (λ subject is. (is.2 ∙ ap table_content e, is.0, is.1 ∙ ap (λ (t : Bool). table_kind t (base.pages entry.root) entry.root) e))

    pub table-unread : (entry : Entry) (kind : TreeKind) (result : Result (Option Disagreement) (CheckFault F)) → is_ok entry.meaning ≡ false → kind ≡ own_kind (base.pages entry.root) entry.root
        → PassesWalk sizes base (IsAlone kind holds.Any entry.root) old flags result → PassesWalk sizes base (IsSubjectOf sizes base (OfTable entry)) old flags result
    table-unread entry kind result e kind_is =
        passes-fewer (IsAlone kind holds.Any entry.root) (IsSubjectOf sizes base (OfTable entry)) result
        (λ subject is. (is.2 ∙ ap table_content e, is.0, is.1 ∙ ap (λ (t : Bool). table_kind t (base.pages entry.root) entry.root) e ∙ sym kind_is))

    -- An index that is compared with its table.

    module _ (table_root : ℕ) (table : Table) (index : Index) (root : ℕ) where
      compared-walk : (entry : Entry) (walked : Walked) (before : List Found) → IsIndexSubject sizes base entry (root, Ok index) walked.subject → IsNext sizes base walked before old → IsWalk sizes base tree.Index root walked.findings
      compared-walk entry walked before is next =
          subst (λ (k : TreeKind). IsWalk sizes base k root walked.findings) is.kind (subst (λ (n : ℕ). IsWalk sizes base walked.subject.kind n walked.findings) is.root next.is_walk)

      compared-fresh : (entry : Entry) (walked : Walked) (before : List Found) → IsIndexSubject sizes base entry (root, Ok index) walked.subject → IsNext sizes base walked before old → IsFresh root before
      compared-fresh entry walked before is next = subst (λ (n : ℕ). IsFresh n before) is.root next.fresh

      compared-ends : (result : Result (Option ℤ) (CheckFault F)) (walked : Walked) (before : List Found) (is : IsBeside sizes base table_root table (root, Ok index) walked.subject) → IsNext sizes base walked before old
          → PassesIndex sizes base table_root table index root old flags result → EndsIndex (TellsIndex walked.subject.content) walked.subject before walked.findings flags result
      compared-ends result walked before is next passes =
          passes is.0 is.1 is.2 walked.subject before is.4 (compared-fresh is.0 walked before is.4 next) next.marked walked.findings (compared-walk is.0 walked before is.4 next)

      pub compared-right : PassesIndex sizes base {F = F} table_root table index root old flags (Ok None) → PassesWalk sizes base {F = F} (IsBeside sizes base table_root table (root, Ok index)) old flags (Ok None)
      compared-right passes walked before is next = let ended = compared-ends (Ok None) walked before is next passes in (ended.0, ended.1, judges-right walked ended.2)

      pub compared-told : (rowid : ℤ) (told : Disagreement) → told.index.now ≡ index → told.rowid ≡ rowid → PassesIndex sizes base {F = F} table_root table index root old flags (Ok (Some rowid))
          → PassesWalk sizes base {F = F} (IsBeside sizes base table_root table (root, Ok index)) old flags (Ok (Some told))
      compared-told rowid told index_is rowid_is passes walked before is next =
          let ended = compared-ends (Ok (Some rowid)) walked before is next passes in
          (ended.0, ended.1, judges-wrong walked sizes base is.0 index rowid told is.4.content ended.2 index_is rowid_is)

      pub compared-wrong : (fault : CheckFault F) → PassesIndex sizes base table_root table index root old flags (Err fault) → PassesWalk sizes base (IsBeside sizes base table_root table (root, Ok index)) old flags (Err fault)
      compared-wrong fault passes walked before is next = compared-ends (Err fault) walked before is next passes

    -- An index of a table.

    pub beside-read : (table_root : ℕ) (table : Table) (read : Index) (index : ℕ × Result Index SqlFault) (result : Result (Option Disagreement) (CheckFault F)) → index.1 ≡ Ok read
        → PassesWalk sizes base (IsBeside sizes base table_root table (index.0, Ok read)) old flags result → PassesWalk sizes base (IsBeside sizes base table_root table index) old flags result
    beside-read table_root table read index result e =
        passes-fewer (IsBeside sizes base table_root table (index.0, Ok read)) (IsBeside sizes base table_root table index) result
        (λ subject is.
        (is.0, is.1, is.2, is.3, record { root = is.4.root; kind = is.4.kind; content = subst (λ (m : Result Index SqlFault). IsIndexContent sizes base is.0 m subject.content) e is.4.content }))

    pub beside-unread : (table_root : ℕ) (table : Table) (fault : SqlFault) (index : ℕ × Result Index SqlFault) (result : Result (Option Disagreement) (CheckFault F)) → index.1 ≡ Err fault
        → PassesWalk sizes base (IsAlone tree.Index holds.Any index.0) old flags result → PassesWalk sizes base (IsBeside sizes base table_root table index) old flags result
    beside-unread table_root table fault index result e =
        passes-fewer (IsAlone tree.Index holds.Any index.0) (IsBeside sizes base table_root table index) result
        (λ subject is. (any-content is.0 index.1 subject.content (λ own read one two. not-both index.1 read fault two e) is.4.content, is.4.root, is.4.kind))

    pub index-read : (entry : Entry) (table : Table) (index : ℕ × Result Index SqlFault) (result : Result (Option Disagreement) (CheckFault F)) → entry.meaning ≡ Ok table
        → PassesWalk sizes base (IsBeside sizes base entry.root table index) old flags result → PassesWalk sizes base (IsSubjectOf sizes base (OfIndex entry index)) old flags result
    index-read entry table index result meaning =
        passes-fewer (IsBeside sizes base entry.root table index) (IsSubjectOf sizes base (OfIndex entry index)) result (λ subject is. (entry, refl, meaning, is.1, is.0))

    pub index-unread : (entry : Entry) (fault : SqlFault) (index : ℕ × Result Index SqlFault) (result : Result (Option Disagreement) (CheckFault F)) → entry.meaning ≡ Err fault
        → PassesWalk sizes base (IsAlone tree.Index holds.Any index.0) old flags result → PassesWalk sizes base (IsSubjectOf sizes base (OfIndex entry index)) old flags result
    index-unread entry fault index result e =
        passes-fewer (IsAlone tree.Index holds.Any index.0) (IsSubjectOf sizes base (OfIndex entry index)) result
        (λ subject is. (any-content entry index.1 subject.content (λ table read one two. not-both entry.meaning table fault one e) is.0.content, is.0.root, is.0.kind))

    -- The schema.

    pub schema-alone : (result : Result (Option Disagreement) (CheckFault F)) → PassesWalk sizes base (IsAlone tree.Table holds.Any 1) old flags result → PassesWalk sizes base (IsSubjectOf sizes base OfSchema) old flags result
    schema-alone result =
        passes-fewer (IsAlone tree.Table holds.Any 1) (IsSubjectOf sizes base OfSchema) result
        (λ subject is. (ap (λ (s : Subject). s.content) is, ap (λ (s : Subject). s.root) is, ap (λ (s : Subject). s.kind) is))

    -- a tree whose root is no page is none of a catalog
    pub no-root : (P : Subject → Type 0) (root : ℕ) (result : Result (Option Disagreement) (CheckFault F)) → ((subject : Subject) → P subject → root ≡ subject.root) → (1 ≤ root → root ≤ base.count → ⊥) → PassesWalk sizes base P old flags result
    no-root P root result same out walked before is next =
        let e = same walked.subject is in
        absurd (out (subst⁻¹ (λ (n : ℕ). 1 ≤ n) e next.first) (subst⁻¹ (λ (n : ℕ). n ≤ base.count) e next.within))
