-- The pages of a tree: how a walk begins each, and the children of an interior page.
use Rattle.std.proofs.Common.{◌≡◌, ◌≢◌, ℕ, ℤ, zero, suc, ◌-◌, ◌<◌, ◌≤◌, ◌==◌, ◌⊎◌, Bool, true, false, List, [], ◌∷◌, ◌++◌, length, map, Option, Some, None, Result, Ok, Err, slice_index_or, if◌then◌else◌, refl, sym, ap, ◌∙◌, subst, inl, inr, arith}
use Rattle.std.proofs.Math.Path.{subst⁻¹}
use Rattle.std.specs.Prelude.{slice_set}
use Rattle.std.proofs.lemmas.Bool.{cases_eq, eq-eqb, ne_eqb, eqb-true}
use Rattle.std.proofs.lemmas.Option.{slice_get_past}
use Rattle.format_spec.specs.declared.PageKind.{PageKind}
use Rattle.format_spec.specs.declared.CellView.{CellView}
use Rattle.refusal.specs.declared.Rule.{Rule}
use Rattle.refusal.specs.declared.Rule.TheVariants as broken
use Rattle.tree_spec.specs.declared.TreeKind.{TreeKind}
use Rattle.tree_spec.specs.declared.fault.TreeFault.{TreeFault}
use Rattle.tree_spec.specs.declared.fault.TreeFault.TheVariants as tree
use Rattle.tree_spec.specs.Trees.{between, leaf_kind, interior_kind}
use Rattle.tree_spec.specs.Standing.{Sizes, Paged, IsNumber}
use Rattle.tree_walk.specs.declared.page.TreePage.{TreePage}
use Rattle.tree_walk.specs.Pages.{IsDecoded, IsReadFault, is_leaf, tree_kind, view_of}
use Rattle.tree_walk.specs.PagesLaws.{refused-one, refused-not_read}
use Rattle.tree_walk.specs.Places.{Rises, child_or, low_bound, rowid_or}
use Rattle.tree_rows.specs.CoursesLaws.{IsSeenAt, AreSeenFrom, read-of, right-of, seen-all, to-rising, of-rising, empty-none, empty-some, kinds-of, tree_kind-leaf, tree_kind-interior, is_leaf-leaf, is_leaf-interior}
use Rattle.database_spec.specs.declared.fault.FileFault.{FileFault}
use Rattle.database_spec.specs.declared.fault.FileFault.TheVariants as file
use Rattle.database_spec.specs.Walks.{Finding, Finds, Ends, Breaks, Disorders, Bares, Seen, is_empty, bare, IsRising, IsCellVisit, AreCellVisits, IsChildVisit, AreChildVisits, GoesOn, IsInside, IsRead, IsVisit}
use Rattle.database_spec.specs.WalksLaws.{accepted-not_refused}
use Rattle.database_spec.specs.FileFindings.{Subject, Found}
use Rattle.database_spec.specs.FileFaults.{FirstWrong}
use Rattle.database_laws.specs.RightFilesLaws.{in_tree}
use Rattle.db_check.specs.declared.fault.CheckFault.{CheckFault}
use Rattle.db_check.specs.declared.fault.CheckFault.TheVariants.{Damaged, PageTwice}
use Rattle.db_check.specs.declared.trees.Spot.{Spot}
use Rattle.db_check.specs.declared.walk.CheckedTree.{CheckedTree}
use Rattle.db_check.specs.declared.walk.Progress.{Progress}
use Rattle.db_check.specs.Answers.{told}
use Rattle.db_check.specs.Steps.{Leaves, Refuses, Steps, Ended}
use Rattle.db_check.specs.TreeSteps.{EndsAt, IsInOrder, IsChildSpot, Below, VisitsSpot, InPage, CellsFrom, DividerAt, ChildrenFrom, ChildrenBehind, VisitsChild}
use Rattle.db_check.specs.PassesLaws.{refusal-then}
use Rattle.db_check.proofs.Steps.{Splits, Begins, steps-then, steps-front, steps-from, leaves-then, steps-to, leaves-none, leaves-front, leaves-refuse, leaves-page, refuses-front, refuses-always, refuses-page}

module _ (sizes : Sizes) (base : Paged) (kind : TreeKind) where
  -- Reading a page.

  visit-deep : (left : ℕ) (root : Bool) (depth : ℕ) (low high : ℤ) (number : ℕ) → left ≡ 0 → (findings : List Finding) → IsVisit sizes base kind left root depth low high number findings → findings ≡ Finds number ∷ (Breaks number broken.Depth ∷ [])
  visit-deep zero root depth low high number none findings visit = visit
  visit-deep (suc left) root depth low high number none findings visit = absurd (omega (arith, none))

  visit-read : (left : ℕ) (root : Bool) (depth : ℕ) (low high : ℤ) (number : ℕ) → 1 ≤ left → (findings : List Finding) → IsVisit sizes base kind left root depth low high number findings
      → (rest : List Finding) × (findings ≡ Finds number ∷ rest) × IsRead sizes base kind (IsVisit sizes base kind (left - 1) false (suc depth)) root depth low high number rest
  visit-read zero root depth low high number some findings visit = absurd (omega (arith, some))
  visit-read (suc left) root depth low high number some findings visit =
      let less : suc left - 1 ≡ left = omega arith in
      (visit.0, visit.1, subst⁻¹ (λ (k : ℕ). IsRead sizes base kind (IsVisit sizes base kind k false (suc depth)) root depth low high number visit.0) less visit.2)

  module _ (spot : Spot) where
    abbrev root : Bool
    root = spot.left == 25

    abbrev depth : ℕ
    depth = 26 - spot.left

    abbrev Reads : List Finding → Type 0
    Reads = IsRead sizes base kind (Below sizes base kind spot.left) root depth (low_bound spot.low) spot.high spot.number

    -- the page of a spot, in front of what is found in it
    pub begins-page : Begins (Finds spot.number) (VisitsSpot sizes base kind spot)
    begins-page findings visit = elim (cases_eq spot.left 0) [
      | inl none ↦ (Breaks spot.number broken.Depth ∷ [], visit-deep spot.left root depth (low_bound spot.low) spot.high spot.number none findings visit)
      | inr some ↦ let read = visit-read spot.left root depth (low_bound spot.low) spot.high spot.number (omega (arith, some)) findings visit in (read.0, read.1)
    ]

    pub splits-deep : spot.left ≡ 0 → Splits (VisitsSpot sizes base kind spot) (λ findings. findings ≡ Finds spot.number ∷ []) (λ findings. findings ≡ Breaks spot.number broken.Depth ∷ [])
    splits-deep none findings visit = (Finds spot.number ∷ [], Breaks spot.number broken.Depth ∷ [], visit-deep spot.left root depth (low_bound spot.low) spot.high spot.number none findings visit, refl, refl)

    pub splits-page : 1 ≤ spot.left → Splits (VisitsSpot sizes base kind spot) (λ findings. findings ≡ Finds spot.number ∷ []) Reads
    splits-page some findings visit =
        let read = visit-read spot.left root depth (low_bound spot.low) spot.high spot.number some findings visit in
        (Finds spot.number ∷ [], read.0, read.1, refl, read.2)

    -- what is found in a page that was read
    pub read-page : (page : TreePage) → IsDecoded (base.pages spot.number) spot.number sizes.usable page → (findings : List Finding) → Reads findings → InPage sizes base kind spot page findings
    read-page page decoded findings (inl (rule, refused, is)) = absurd (refused-not_read (base.pages spot.number) spot.number sizes.usable rule refused page decoded)
    read-page page decoded findings (inr (page_kind, cells, right, accepted, inside)) =
        let its = read-of sizes base kind spot.number page_kind cells right accepted page decoded in
        let number = decoded.number_is in
        let right_is = right-of sizes base kind spot.number page_kind cells right accepted page decoded in
        let seen = seen-all sizes base kind spot.number page_kind cells right accepted in
        let of_kind = subst⁻¹ (λ (k : PageKind). IsInside sizes base kind (Below sizes base kind spot.left) root depth (low_bound spot.low) spot.high spot.number k cells right findings) its.kind_is inside in
        let of_number = subst⁻¹ (λ (n : ℕ). IsInside sizes base kind (Below sizes base kind spot.left) root depth (low_bound spot.low) spot.high n page.kind cells right findings) number of_kind in
        let of_right = subst⁻¹ (λ (r : ℕ). IsInside sizes base kind (Below sizes base kind spot.left) root depth (low_bound spot.low) spot.high page.number page.kind cells r findings) right_is of_number in
        let view : view_of page ≡ record { number = spot.number; kind = page_kind; bytes = base.pages spot.number; views = map (λ (c : Seen). c.1) cells } =
        (λ i. record { number = number i; kind = its.kind_is i; bytes = decoded.bytes_are i; views = its.views_are i }) in
        (cells, subst⁻¹ (λ v. AreSeenFrom sizes base kind v 0 cells) view seen, its.views_are, of_right)

    -- a page that is refused
    pub read-refused : {F : Type 0} (checked : CheckedTree) (flags : List Bool) (walk : Progress) (fault : TreeFault F) → IsReadFault (base.pages spot.number) spot.number sizes.usable fault
        → Refuses checked Reads flags walk (told spot.number fault)
    read-refused {F} checked flags walk (tree.TreeDamaged number rule) bad = refuses-always {F = F} checked Reads flags walk (Breaks spot.number rule) (told spot.number (tree.TreeDamaged number rule))
        (λ findings read. ([], by findings read)) (λ subject before. refl)
      where
        by : (findings : List Finding) → Reads findings → findings ≡ Breaks spot.number rule ∷ []
        by findings (inl (other, refused, is)) = is ∙ ap (λ (r : Rule). Breaks spot.number r ∷ []) (refused-one (base.pages spot.number) spot.number sizes.usable other rule refused bad.1)
        by findings (inr (page_kind, cells, right, accepted, inside)) = absurd (accepted-not_refused sizes base spot.number page_kind cells right rule accepted bad.1)
    read-refused {F} checked flags walk (tree.TrunkDamaged number) bad = absurd bad
    read-refused {F} checked flags walk (tree.TargetFull pages limit) bad = absurd bad
    read-refused {F} checked flags walk (tree.Store fault) bad = λ subject before of knows findings read. tt
    read-refused {F} checked flags walk (tree.Memory error) bad = λ subject before of knows findings read. tt

    -- The page of a spot is entered.
    module _ (checked : CheckedTree) (old now : List Bool) (walk : Progress) (low : spot.number < length old) where
      pub enter-twice : (F : Type 0) → slice_index_or old spot.number false ≡ true → Refuses {F = F} checked (VisitsSpot sizes base kind spot) old walk (PageTwice spot.number)
      enter-twice F set = refuses-page F checked (VisitsSpot sizes base kind spot) old walk spot.number low set begins-page

      module _ (fresh : slice_index_or old spot.number false ≡ false) (set : now ≡ slice_set old spot.number true) where
        own-page : Leaves checked (λ findings. findings ≡ Finds spot.number ∷ []) (λ findings. findings ≡ []) old now walk walk
        own-page = leaves-page checked old now walk spot.number low fresh set

        pub enter-deep : (F : Type 0) → spot.left ≡ 0 → Refuses {F = F} checked (VisitsSpot sizes base kind spot) old walk (Damaged spot.number broken.Depth)
        enter-deep F none =
            let Rest = λ (findings : List Finding). findings ≡ Breaks spot.number broken.Depth ∷ [] in
            leaves-refuse {F = F} checked (VisitsSpot sizes base kind spot) Rest old now walk walk (Damaged spot.number broken.Depth)
            (leaves-front checked (VisitsSpot sizes base kind spot) (λ findings. findings ≡ Finds spot.number ∷ []) Rest old now walk walk (splits-deep none) own-page)
            (refuses-always {F = F} checked Rest now walk (Breaks spot.number broken.Depth) (Damaged spot.number broken.Depth) (λ findings is. ([], is)) (λ subject before. refl))

        to-read : 1 ≤ spot.left → Leaves checked (VisitsSpot sizes base kind spot) Reads old now walk walk
        to-read some = leaves-front checked (VisitsSpot sizes base kind spot) (λ findings. findings ≡ Finds spot.number ∷ []) Reads old now walk walk (splits-page some) own-page

        pub enter-read : 1 ≤ spot.left → (page : TreePage) → IsDecoded (base.pages spot.number) spot.number sizes.usable page
            → Leaves checked (VisitsSpot sizes base kind spot) (InPage sizes base kind spot page) old now walk walk
        enter-read some page decoded =
            leaves-then checked (VisitsSpot sizes base kind spot) Reads (InPage sizes base kind spot page) old now now walk walk walk (to-read some)
            (leaves-none checked Reads (InPage sizes base kind spot page) now walk (read-page page decoded))

        pub enter-refused : {F : Type 0} → 1 ≤ spot.left → (fault : TreeFault F) → IsReadFault (base.pages spot.number) spot.number sizes.usable fault
            → Refuses checked (VisitsSpot sizes base kind spot) old walk (told spot.number fault)
        enter-refused some fault bad = leaves-refuse checked (VisitsSpot sizes base kind spot) Reads old now walk walk (told spot.number fault) (to-read some) (read-refused checked now walk fault bad)

    module _ (page : TreePage) where
      abbrev Goes : List Seen → (List Finding → Type 0) → List Finding → Type 0
      Goes cells Inside = GoesOn sizes base kind (Below sizes base kind spot.left) root (low_bound spot.low) spot.high page.number cells Inside

      -- the kind of a page

      other-leaf : (k : PageKind) → tree_kind k ≢ kind → k ≢ leaf_kind kind
      other-leaf k apart same = apart (ap tree_kind same ∙ tree_kind-leaf kind)

      other-interior : (k : PageKind) → tree_kind k ≢ kind → k ≢ interior_kind kind
      other-interior k apart same = apart (ap tree_kind same ∙ tree_kind-interior kind)

      pub begins-other : tree_kind page.kind ≢ kind → Begins (Breaks page.number broken.Kind) (InPage sizes base kind spot page)
      begins-other apart findings (cells, seen, views, inl other) = ([], other.2)
      begins-other apart findings (cells, seen, views, inr (inl leaf)) = absurd (other-leaf page.kind apart leaf.0)
      begins-other apart findings (cells, seen, views, inr (inr inner)) = absurd (other-interior page.kind apart inner.0)

      -- a leaf, and what follows its depth
      abbrev LeafRest : List Finding → Type 0
      LeafRest findings = (cells : List Seen) × AreSeenFrom sizes base kind (view_of page) 0 cells × (page.views ≡ map (λ (c : Seen). c.1) cells) × Goes cells (AreCellVisits sizes base kind page.number cells) findings

      leaf-not_interior : is_leaf page.kind ≡ true → page.kind ≢ interior_kind kind
      leaf-not_interior leaf same = let clash : ◌≡◌ {A = Bool} true false = sym leaf ∙ ap is_leaf same ∙ is_leaf-interior kind in let no : ⊥ = cc in no

      interior-not_leaf : is_leaf page.kind ≡ false → page.kind ≢ leaf_kind kind
      interior-not_leaf inner same = let clash : ◌≡◌ {A = Bool} false true = sym inner ∙ ap is_leaf same ∙ is_leaf-leaf kind in let no : ⊥ = cc in no

      pub splits-leaf : tree_kind page.kind ≡ kind → is_leaf page.kind ≡ true → Splits (InPage sizes base kind spot page) (EndsAt page.number depth) LeafRest
      splits-leaf kind_is leaf findings (cells, seen, views, inl other) = absurd (kinds-of sizes base kind page.kind kind_is other.0 other.1)
      splits-leaf kind_is leaf findings (cells, seen, views, inr (inl (is, (rest, same, on)))) = (Ends page.number depth ∷ [], rest, same, refl, (cells, seen, views, on))
      splits-leaf kind_is leaf findings (cells, seen, views, inr (inr inner)) = absurd (leaf-not_interior leaf inner.0)

      -- an interior page, and what follows where it is no bare root
      abbrev InteriorRest : List Finding → Type 0
      InteriorRest findings =
          (cells : List Seen) × AreSeenFrom sizes base kind (view_of page) 0 cells × (page.views ≡ map (λ (c : Seen). c.1) cells)
          × Goes cells (AreChildVisits sizes base kind (Below sizes base kind spot.left) page.number (low_bound spot.low) spot.high cells page.right) findings

      bare-none : (cells : List Seen) → ((root ≡ true) → (page.number ≢ 1) → map (λ (c : Seen). c.1) cells ≡ [] → ⊥) → bare root page.number cells ≡ []
      bare-none cells not_bare = by root refl cells not_bare
        where
          first : (page.number ≡ 1) ⊎ ((page.number ≡ 1) → ⊥) → ((page.number ≢ 1) → ⊥) → (if page.number == 1 then [] else (Bares page.number ∷ [])) ≡ []
          first (inl is) out = ap (λ (t : Bool). if t then [] else (Bares page.number ∷ [])) (eq-eqb page.number 1 is)
          first (inr apart) out = absurd (out apart)

          by : (r : Bool) → root ≡ r → (cs : List Seen) → ((root ≡ true) → (page.number ≢ 1) → map (λ (c : Seen). c.1) cs ≡ [] → ⊥) → bare r page.number cs ≡ []
          by true is [] out = first (cases_eq page.number 1) (λ apart. out is apart refl)
          by true is (c ∷ cs) out = refl
          by false is cs out = refl

      pub interior-rest : tree_kind page.kind ≡ kind → is_leaf page.kind ≡ false → ((root ≡ true) → (page.number ≢ 1) → page.views ≡ [] → ⊥) → (findings : List Finding) → InPage sizes base kind spot page findings → InteriorRest findings
      interior-rest kind_is inner not_bare findings (cells, seen, views, inl other) = absurd (kinds-of sizes base kind page.kind kind_is other.0 other.1)
      interior-rest kind_is inner not_bare findings (cells, seen, views, inr (inl leaf)) = absurd (interior-not_leaf inner leaf.0)
      interior-rest kind_is inner not_bare findings (cells, seen, views, inr (inr (is, (rest, same, on)))) =
          let none = bare-none cells (λ r apart empty. not_bare r apart (views ∙ empty)) in
          let whole : findings ≡ rest = same ∙ ap (λ (b : List Finding). b ++ rest) none in
          (cells, seen, views, subst⁻¹ (Goes cells (AreChildVisits sizes base kind (Below sizes base kind spot.left) page.number (low_bound spot.low) spot.high cells page.right)) whole on)

      pub begins-bare : tree_kind page.kind ≡ kind → is_leaf page.kind ≡ false → root ≡ true → page.number ≢ 1 → page.views ≡ [] → Begins (Bares page.number) (InPage sizes base kind spot page)
      begins-bare kind_is inner is_root apart empty findings (cells, seen, views, inl other) = absurd (kinds-of sizes base kind page.kind kind_is other.0 other.1)
      begins-bare kind_is inner is_root apart empty findings (cells, seen, views, inr (inl leaf)) = absurd (interior-not_leaf inner leaf.0)
      begins-bare kind_is inner is_root apart empty findings (cells, seen, views, inr (inr (is, (rest, same, on)))) = (rest, same ∙ ap (λ (b : List Finding). b ++ rest) (by root is_root cells (sym views ∙ empty)))
        where
          by : (r : Bool) → r ≡ true → (cs : List Seen) → map (λ (c : Seen). c.1) cs ≡ [] → bare r page.number cs ≡ Bares page.number ∷ []
          by true e [] none = ap (λ (t : Bool). if t then [] else (Bares page.number ∷ [])) (ne_eqb page.number 1 apart)
          by true e (c ∷ cs) none = absurd (let no : ⊥ = cc in no)
          by false e cs none = absurd (let h : ◌≡◌ {A = Bool} false true = e in let no : ⊥ = cc in no)

      -- The order of a page's cells.

      root-not : root ≡ false → spot.left ≢ 25
      root-not other is = let clash : ◌≡◌ {A = Bool} true false = sym (eq-eqb spot.left 25 is) ∙ other in let h : ⊥ = cc in h

      not-root : spot.left ≢ 25 → root ≡ false
      not-root apart = ne_eqb spot.left 25 apart

      abbrev Rest : (List Seen → List Finding → Type 0) → List Finding → Type 0
      Rest Of findings = (cells : List Seen) × AreSeenFrom sizes base kind (view_of page) 0 cells × (page.views ≡ map (λ (c : Seen). c.1) cells) × Of cells findings

      module _ (Is : List Seen → List Finding → Type 0) where
        rises-so : (cells : List Seen) → page.views ≡ map (λ (c : Seen). c.1) cells → tree_kind page.kind ≡ kind → Rises (tree_kind page.kind) spot.low spot.high page.views → IsRising kind (low_bound spot.low) spot.high cells
        rises-so cells views kind_is rises =
            to-rising sizes base kind kind spot.low (low_bound spot.low) spot.high cells refl
            (subst (Rises kind spot.low spot.high) views (subst (λ (k : TreeKind). Rises k spot.low spot.high page.views) kind_is rises))

        so-rises : (cells : List Seen) → page.views ≡ map (λ (c : Seen). c.1) cells → tree_kind page.kind ≡ kind → IsRising kind (low_bound spot.low) spot.high cells → Rises (tree_kind page.kind) spot.low spot.high page.views
        so-rises cells views kind_is rises =
            subst⁻¹ (λ (k : TreeKind). Rises k spot.low spot.high page.views) kind_is
            (subst⁻¹ (Rises kind spot.low spot.high) views (of-rising sizes base kind kind spot.low (low_bound spot.low) spot.high cells refl rises))

        empty-views : (cells : List Seen) → page.views ≡ map (λ (c : Seen). c.1) cells → is_empty root cells ≡ true → (spot.left ≢ 25) × (page.views ≡ [])
        empty-views cells views empty = let none = empty-none sizes base kind root cells empty in (root-not none.0, views ∙ none.1)

        pub order-done : tree_kind page.kind ≡ kind → (spot.left ≢ 25 → page.views ≢ []) → Rises (tree_kind page.kind) spot.low spot.high page.views → (findings : List Finding)
            → Rest (λ cells. Goes cells (Is cells)) findings → Rest Is findings
        order-done kind_is some rises findings (cells, seen, views, inl empty) = let none = empty-views cells views empty.0 in absurd (some none.0 none.1)
        order-done kind_is some rises findings (cells, seen, views, inr (inl falls)) = absurd (falls.1 (rises-so cells views kind_is rises))
        order-done kind_is some rises findings (cells, seen, views, inr (inr on)) = (cells, seen, views, on.2)

        begins-empty : spot.left ≢ 25 → page.views ≡ [] → Begins (Breaks page.number broken.Empty) (Rest (λ cells. Goes cells (Is cells)))
        begins-empty apart none findings (cells, seen, views, inl empty) = ([], empty.1)
        begins-empty apart none findings (cells, seen, views, inr (inl falls)) = absurd (empty-some sizes base kind root cells falls.0 (not-root apart) (sym views ∙ none))
        begins-empty apart none findings (cells, seen, views, inr (inr on)) = absurd (empty-some sizes base kind root cells on.0 (not-root apart) (sym views ∙ none))

        begins-disordered : tree_kind page.kind ≡ kind → (spot.left ≢ 25 → page.views ≢ []) → ¬ Rises (tree_kind page.kind) spot.low spot.high page.views → Begins (Disorders page.number) (Rest (λ cells. Goes cells (Is cells)))
        begins-disordered kind_is some falls findings (cells, seen, views, inl empty) = let none = empty-views cells views empty.0 in absurd (some none.0 none.1)
        begins-disordered kind_is some falls findings (cells, seen, views, inr (inl is)) = ([], is.2)
        begins-disordered kind_is some falls findings (cells, seen, views, inr (inr on)) = absurd (falls (so-rises cells views kind_is on.1))

        order-refuses : (subject : Subject) (before : List Found) (findings : List Finding) → tree_kind page.kind ≡ kind → Rest (λ cells. Goes cells (Is cells)) findings → (other : FileFault)
            → ((spot.left ≢ 25) × (page.views ≡ []) × (other ≡ file.Damaged page.number broken.Empty))
            ⊎ ((spot.left ≢ 25 → page.views ≢ []) × (¬ Rises (tree_kind page.kind) spot.low spot.high page.views) × (other ≡ file.KeyOrder page.number)) → FirstWrong before (in_tree subject findings) other
        order-refuses subject before findings kind_is from other (inl why) =
            let begins = begins-empty why.0 why.1 findings from in subst⁻¹ (λ (list : List Finding). FirstWrong before (in_tree subject list) other) begins.1 (inl why.2)
        order-refuses subject before findings kind_is from other (inr why) =
            let begins = begins-disordered kind_is why.0 why.1 findings from in subst⁻¹ (λ (list : List Finding). FirstWrong before (in_tree subject list) other) begins.1 (inl why.2)

        pub order-steps : {F : Type 0} (checked : CheckedTree) (flags : List Bool) (walk : Progress) (result : Result Unit (CheckFault F)) → tree_kind page.kind ≡ kind → IsInOrder spot page result
            → Steps checked (Rest (λ cells. Goes cells (Is cells))) (λ done. Rest Is) flags flags walk walk result
        order-steps checked flags walk (Ok done) kind_is is = leaves-none checked (Rest (λ cells. Goes cells (Is cells))) (Rest Is) flags walk (order-done kind_is is.0 is.1)
        order-steps checked flags walk (Err fault) kind_is is = λ subject before of knows findings from.
            refusal-then
            (λ (other : FileFault). ((spot.left ≢ 25) × (page.views ≡ []) × (other ≡ file.Damaged page.number broken.Empty))
            ⊎ ((spot.left ≢ 25 → page.views ≢ []) × (¬ Rises (tree_kind page.kind) spot.low spot.high page.views) × (other ≡ file.KeyOrder page.number)))
            (FirstWrong before (in_tree subject findings)) (order-refuses subject before findings kind_is from) fault is

      pub leaf-cells : (findings : List Finding) → Rest (λ cells. AreCellVisits sizes base kind page.number cells) findings → CellsFrom sizes base kind page 0 findings
      leaf-cells findings (cells, seen, views, are) = (cells, seen, are)

      pub interior-children : (findings : List Finding) → Rest (λ cells. AreChildVisits sizes base kind (Below sizes base kind spot.left) page.number (low_bound spot.low) spot.high cells page.right) findings
          → ChildrenFrom sizes base kind spot.left page (low_bound spot.low) spot.high 0 findings
      interior-children findings (cells, seen, views, are) = (cells, seen, are)

      abbrev CellsIn : List Seen → List Finding → Type 0
      CellsIn cells = AreCellVisits sizes base kind page.number cells

      abbrev ChildrenIn : List Seen → List Finding → Type 0
      ChildrenIn cells = AreChildVisits sizes base kind (Below sizes base kind spot.left) page.number (low_bound spot.low) spot.high cells page.right

      -- How a page begins.

      pub leaf-starts : {F : Type 0} (checked : CheckedTree) (flags : List Bool) (was walk : Progress) (result : Result Unit (CheckFault F)) → tree_kind page.kind ≡ kind → is_leaf page.kind ≡ true
          → Leaves checked (EndsAt page.number depth) (λ findings. findings ≡ []) flags flags was walk → IsInOrder spot page result
          → Steps checked (InPage sizes base kind spot page) (λ done. CellsFrom sizes base kind page 0) flags flags was walk result
      leaf-starts checked flags was walk result kind_is leaf ends is =
          steps-to checked (InPage sizes base kind spot page) (Rest CellsIn) (CellsFrom sizes base kind page 0) flags flags was walk result leaf-cells
          (steps-then checked (InPage sizes base kind spot page) LeafRest (λ done. Rest CellsIn) flags flags flags was walk walk result
          (leaves-front checked (InPage sizes base kind spot page) (EndsAt page.number depth) LeafRest flags flags was walk (splits-leaf kind_is leaf) ends)
          (order-steps CellsIn checked flags walk result kind_is is))

      pub leaf-refused : {F : Type 0} (checked : CheckedTree) (flags : List Bool) (was : Progress) (fault : CheckFault F) → tree_kind page.kind ≡ kind → is_leaf page.kind ≡ true → Refuses checked (EndsAt page.number depth) flags was fault
          → Refuses checked (InPage sizes base kind spot page) flags was fault
      leaf-refused checked flags was fault kind_is leaf wrong = refuses-front checked (InPage sizes base kind spot page) (EndsAt page.number depth) LeafRest flags was fault (splits-leaf kind_is leaf) wrong

      pub interior-starts : {F : Type 0} (checked : CheckedTree) (flags : List Bool) (walk : Progress) (result : Result Unit (CheckFault F)) → tree_kind page.kind ≡ kind → is_leaf page.kind ≡ false
          → (spot.left ≡ 25 → page.number ≢ 1 → page.views ≡ [] → ⊥) → IsInOrder spot page result
          → Steps checked (InPage sizes base kind spot page) (λ done. ChildrenFrom sizes base kind spot.left page (low_bound spot.low) spot.high 0) flags flags walk walk result
      interior-starts checked flags walk result kind_is inner not_bare is =
          steps-to checked (InPage sizes base kind spot page) (Rest ChildrenIn) (ChildrenFrom sizes base kind spot.left page (low_bound spot.low) spot.high 0) flags flags walk walk result interior-children
          (steps-from checked (InPage sizes base kind spot page) InteriorRest (λ done. Rest ChildrenIn) flags flags walk walk result
          (interior-rest kind_is inner (λ is_root apart empty. not_bare (eqb-true spot.left 25 is_root) apart empty)) (order-steps ChildrenIn checked flags walk result kind_is is))

      pub interior-bare : (F : Type 0) (checked : CheckedTree) (flags : List Bool) (walk : Progress) → tree_kind page.kind ≡ kind → is_leaf page.kind ≡ false → spot.left ≡ 25 → page.number ≢ 1 → page.views ≡ []
          → Refuses {F = F} checked (InPage sizes base kind spot page) flags walk (Damaged page.number broken.Empty)
      interior-bare F checked flags walk kind_is inner is_root apart empty =
          refuses-always {F = F} checked (InPage sizes base kind spot page) flags walk (Bares page.number) (Damaged page.number broken.Empty) (begins-bare kind_is inner (eq-eqb spot.left 25 is_root) apart empty) (λ subject before. refl)

      pub kind-refused : (F : Type 0) (checked : CheckedTree) (flags : List Bool) (walk : Progress) → tree_kind page.kind ≢ kind → Refuses {F = F} checked (InPage sizes base kind spot page) flags walk (Damaged page.number broken.Kind)
      kind-refused F checked flags walk apart =
          refuses-always {F = F} checked (InPage sizes base kind spot page) flags walk (Breaks page.number broken.Kind) (Damaged page.number broken.Kind) (begins-other apart) (λ subject before. refl)

      -- The children of a page.

      module _ (some : 1 ≤ spot.left) (few : spot.left ≤ 25) (at : ℕ) (low : Option ℤ) (child : Spot) (is_child : IsChildSpot spot page at low child) where
        to-child : (high : ℤ) (number : ℕ) → child.high ≡ high → child.number ≡ number → (findings : List Finding)
            → IsChildVisit sizes base kind (Below sizes base kind spot.left) page.number (low_bound low) high number findings → VisitsChild sizes base kind page.number child findings
        to-child high number high_is number_is findings is =
            let root_no : (child.left == 25) ≡ false = ne_eqb child.left 25 (λ e. omega (arith, e, is_child.left, some, few)) in
            let deep : 26 - child.left ≡ suc (26 - spot.left) = omega (arith, is_child.left, some, few) in
            subst⁻¹ (λ (l : ℕ). IsChildVisit sizes base kind (IsVisit sizes base kind l (child.left == 25) (26 - child.left)) page.number (low_bound child.low) child.high child.number findings) is_child.left
            (subst⁻¹ (λ (r : Bool). IsChildVisit sizes base kind (IsVisit sizes base kind (spot.left - 1) r (26 - child.left)) page.number (low_bound child.low) child.high child.number findings) root_no
            (subst⁻¹ (λ (d : ℕ). IsChildVisit sizes base kind (IsVisit sizes base kind (spot.left - 1) false d) page.number (low_bound child.low) child.high child.number findings) deep
            (subst⁻¹ (λ (o : Option ℤ). IsChildVisit sizes base kind (Below sizes base kind spot.left) page.number (low_bound o) child.high child.number findings) is_child.low_is
            (subst⁻¹ (λ (h : ℤ). IsChildVisit sizes base kind (Below sizes base kind spot.left) page.number (low_bound low) h child.number findings) high_is
            (subst⁻¹ (λ (n : ℕ). IsChildVisit sizes base kind (Below sizes base kind spot.left) page.number (low_bound low) high n findings) number_is is)))))

        -- a cell behind a child, and the children behind it
        abbrev BehindChild : List Finding → Type 0
        BehindChild findings =
            (cell : Seen) × (cells : List Seen) × IsSeenAt sizes base kind (view_of page) at cell × AreSeenFrom sizes base kind (view_of page) (suc at) cells
            × ((own : List Finding) × (later : List Finding) × IsCellVisit sizes base (interior_kind kind) (between kind) page.number cell.0 own
            × AreChildVisits sizes base kind (Below sizes base kind spot.left) page.number cell.1.rowid spot.high cells page.right later × (findings ≡ own ++ later))

        child-splits : at < length page.views → Splits (ChildrenFrom sizes base kind spot.left page (low_bound low) spot.high at) (VisitsChild sizes base kind page.number child) BehindChild
        child-splits within findings ([], seen, visits) = absurd (omega (arith, seen, within))
        child-splits within findings (cell ∷ cells, seen, (first, own, later, is, own_is, are, whole)) = (
          first,
          own ++ later,
          whole,
          to-child cell.1.rowid cell.1.child (is_child.high ∙ ap (rowid_or spot.high) seen.0.get) (is_child.number ∙ ap (child_or page.right) seen.0.get) first is,
          (cell, cells, seen.0, seen.1, (own, later, own_is, are, refl)),
        )

        cell-splits : Splits BehindChild (DividerAt sizes base kind page at) (ChildrenBehind sizes base kind spot.left page spot.high at)
        cell-splits findings (cell, cells, here, seen, (own, later, own_is, are, whole)) = (
          own,
          later,
          whole,
          (cell, here, own_is),
          λ d. (
            cells,
            seen,
            subst⁻¹ (λ (z : ℤ). AreChildVisits sizes base kind (Below sizes base kind spot.left) page.number z spot.high cells page.right later) (ap (λ (v : CellView). v.rowid) (here.view_is d)) are,
          ),
        )

        -- a child, and the cell behind it
        pub step-child : (F : Type 0) (checked : CheckedTree) (old mid now : List Bool) (was during walk : Progress) (result : Result Unit (CheckFault F)) → at < length page.views
            → Leaves checked (VisitsChild sizes base kind page.number child) (λ findings. findings ≡ []) old mid was during
            → Steps checked (DividerAt sizes base kind page at) Ended mid now during walk result
            → Steps checked (ChildrenFrom sizes base kind spot.left page (low_bound low) spot.high at) (λ done. ChildrenBehind sizes base kind spot.left page spot.high at) old now was walk result
        step-child F checked old mid now was during walk result within first second =
            steps-then checked (ChildrenFrom sizes base kind spot.left page (low_bound low) spot.high at) BehindChild (λ done. ChildrenBehind sizes base kind spot.left page spot.high at) old mid now was during walk result
            (leaves-front checked (ChildrenFrom sizes base kind spot.left page (low_bound low) spot.high at) (VisitsChild sizes base kind page.number child) BehindChild old mid was during (child-splits within) first)
            (steps-front checked BehindChild (DividerAt sizes base kind page at) (ChildrenBehind sizes base kind spot.left page spot.high at) mid now during walk result cell-splits second)

        pub step-refused : {F : Type 0} (checked : CheckedTree) (old : List Bool) (was : Progress) (fault : CheckFault F) → at < length page.views → Refuses checked (VisitsChild sizes base kind page.number child) old was fault
            → Refuses checked (ChildrenFrom sizes base kind spot.left page (low_bound low) spot.high at) old was fault
        step-refused checked old was fault within wrong =
            refuses-front checked (ChildrenFrom sizes base kind spot.left page (low_bound low) spot.high at) (VisitsChild sizes base kind page.number child) BehindChild old was fault (child-splits within) wrong

        -- the last child
        pub last-child : length page.views ≤ at → (findings : List Finding) → ChildrenFrom sizes base kind spot.left page (low_bound low) spot.high at findings → VisitsChild sizes base kind page.number child findings
        last-child past findings ([], seen, visit) =
            let none = slice_get_past page.views at past in
            to-child spot.high page.right (is_child.high ∙ ap (rowid_or spot.high) none) (is_child.number ∙ ap (child_or page.right) none) findings visit
        last-child past findings (cell ∷ cells, seen, visits) =
            absurd (let clash : None ≡ Some cell.1 = sym (slice_get_past page.views at past) ∙ seen.0.get in let no : ⊥ = cc in no)

  -- A child whose number is out of range, or whose page is visited.
  pub child-out : (F : Type 0) (checked : CheckedTree) (flags : List Bool) (walk : Progress) (parent : ℕ) (child : Spot) → ¬ IsNumber sizes base child.number
      → Refuses {F = F} checked (VisitsChild sizes base kind parent child) flags walk (Damaged parent broken.Child)
  child-out F checked flags walk parent child out = refuses-always {F = F} checked (VisitsChild sizes base kind parent child) flags walk (Breaks parent broken.Child) (Damaged parent broken.Child) begins (λ subject before. refl)
    where
      begins : Begins (Breaks parent broken.Child) (VisitsChild sizes base kind parent child)
      begins findings (inl wrong) = ([], wrong.1)
      begins findings (inr is) = absurd (out is.0)

  pub child-visited : (parent : ℕ) (child : Spot) → IsNumber sizes base child.number → (findings : List Finding) → VisitsChild sizes base kind parent child findings → VisitsSpot sizes base kind child findings
  child-visited parent child is findings (inl wrong) = absurd (wrong.0 is)
  child-visited parent child is findings (inr visit) = visit.1
