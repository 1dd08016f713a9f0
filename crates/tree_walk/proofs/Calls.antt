-- What follows for a cursor from what the calls that it makes say.
use Rattle.std.proofs.Common.{◌≡◌, ◌≢◌, ℕ, ℤ, ◌<◌, List, [], Option, None, IfErr, IfOk, OnOk, Result, Ok, Err, sym, ap, ◌∙◌, subst, inl, inr, arith}
use Rattle.std.proofs.Math.Path.{subst⁻¹}
use Rattle.std.proofs.lemmas.Option.{IfSome_then}
use Rattle.common_spec.specs.Reading.{OrFault}
use Rattle.page_spec.specs.Pages.{Pages, IsInRange}
use Rattle.page_store.specs.declared.store.PageRead.{Ghosts}
use Rattle.page_store.specs.Store.{Stays, OwesBy, IsCause, Sees}
use Rattle.overflow_chain.specs.declared.fault.ChainFault.{ChainFault}
use Rattle.overflow_chain.specs.declared.fault.ChainFault.TheVariants as chain
use Rattle.overflow_chain.specs.Chain.{fault_in as chain_fault_in}
use Rattle.tree_walk.specs.Payloads.{tree_fault}
use Rattle.refusal.specs.declared.Rule.{Rule}
use Rattle.refusal.specs.declared.Rule.TheVariants as broken
use Rattle.tree_spec.specs.declared.TreeKind.{TreeKind}
use Rattle.tree_spec.specs.Bounds.{greatest_rowid}
use Rattle.tree_spec.specs.Standing.{Sizes, Paged}
use Rattle.tree_spec.specs.declared.fault.TreeFault.{TreeFault}
use Rattle.tree_spec.specs.declared.fault.TreeFault.TheVariants.{TreeDamaged}
use Rattle.tree_spec.specs.Faults.{IsDamage, IsDamageOrOther, fault_in}
use Rattle.tree_spec.specs.FaultsLaws.{damage-then, damage-weaken}
use Rattle.tree_walk.specs.declared.page.TreePage.{TreePage}
use Rattle.tree_walk.specs.declared.place.Place.{Place}
use Rattle.tree_walk.specs.declared.path.Cursor.{Cursor}
use Rattle.tree_walk.specs.Pages.{IsDecoded, IsBadRead, IsReadFault, tree_kind}
use Rattle.tree_walk.specs.Places.{most_above, Rises, child_at, low_at, high_at, IsBadNumber, IsBadPage, IsBounded, IsEntered, IsChild, IsBadRoot, IsBadStep, IsNoRoot, OutOfOrder, EntersPage, EntersRoot, IsOutOfPlace}
use Rattle.tree_walk.specs.Courses.{Course, GoesFrom}

-- what holds in any case holds where a call ends well
pub ok-so : {T E P : Type 0} (result : Result T E) → P → OnOk result P
ok-so (Ok done) p = p
ok-so (Err error) p = tt

-- what follows for what is answered
pub ok-then : {T E : Type 0} {A B : T → Type 0} (result : Result T E) → IfOk result A → ((done : T) → A done → B done) → IfOk result B
ok-then (Ok done) is follows = follows done is
ok-then (Err error) is follows = tt

-- what follows from what a whole answer is
pub sees-then : {P F : Type 0} (g : Ghosts P F) {before after : P} {A B : Pages → Type 0} → ((m : Pages) → A m → B m) → Sees g before after A → Sees g before after B
sees-then g {before} follows sees = record { same = sees.same; count = sees.count; answer = IfSome_then (g.pages before) sees.answer follows }

-- what a call owes whose error is no fault of the store
pub owes-free : {P F T : Type 0} (g : Ghosts P F) {before after : P} (result : Result T (TreeFault F)) → Stays g before after → g.faults after ≡ g.faults before → IfErr result (λ fault. fault_in fault ≡ None)
    → OwesBy g fault_in before after result
owes-free g {before} {after} (Ok done) stays same none = record { stays = stays; faults = record { later = omega (arith, ap g.fault_count same); still = same; cause = tt } }
owes-free {P} {F} {T} g {before} {after} (Err fault) stays same none = record {
  stays = stays;
  faults = record { later = omega (arith, ap g.fault_count same); still = tt; cause = subst⁻¹ (λ (o : Option F). IsCause g.Fails o (g.faults before) (g.faults after)) none same };
}

-- what a walk over a chain owes, its error being told of the tree
pub owes-chain : {P F T R : Type 0} (g : Ghosts P F) {before after : P} (fault : ChainFault F) (told : TreeFault F) → told ≡ tree_fault fault
    → (let one : Result T (ChainFault F) = Err fault in OwesBy g chain_fault_in before after one) → (let other : Result R (TreeFault F) = Err told in OwesBy g fault_in before after other)
owes-chain {P} {F} {T} {R} g {before} {after} fault told is owes =
    subst⁻¹ (λ (t : TreeFault F). let other : Result R (TreeFault F) = Err t in OwesBy g fault_in before after other) is (by fault owes)
  where
    by : (f : ChainFault F) → (let one : Result T (ChainFault F) = Err f in OwesBy g chain_fault_in before after one) → (let other : Result R (TreeFault F) = Err (tree_fault f) in OwesBy g fault_in before after other)
    by (chain.ChainBroken page) o = record { stays = o.stays; faults = record { later = o.faults.later; still = tt; cause = o.faults.cause } }
    by (chain.Store f) o = record { stays = o.stays; faults = record { later = o.faults.later; still = tt; cause = o.faults.cause } }
    by (chain.Memory error) o = record { stays = o.stays; faults = record { later = o.faults.later; still = tt; cause = o.faults.cause } }

module _ (bytes : List ℕ) (number usable : ℕ) where
  -- a page that was read, stood at with bounds
  pub entered-place : (page : TreePage) (low : Option ℤ) (high : ℤ) (place : Place) → IsDecoded bytes number usable page → IsBounded page low high place → IsEntered bytes number usable low high place
  entered-place page low high place decoded bounded = record {
    decoded = subst⁻¹ (IsDecoded bytes number usable) bounded.page_is decoded;
    low_is = bounded.low_is;
    high_is = bounded.high_is;
    first = bounded.first;
    rises = subst⁻¹ (λ (p : TreePage). Rises (tree_kind p.kind) low high p.views) bounded.page_is bounded.rises;
  }

  pub refused-page : {F : Type 0} (kind : TreeKind) (low : Option ℤ) (high : ℤ) (fault : TreeFault F) → IsReadFault bytes number usable fault → IsDamageOrOther (IsBadPage bytes number usable kind low high) fault
  refused-page kind low high = damage-then (IsBadRead bytes number usable) (IsBadPage bytes number usable kind low high) (λ page r bad. (bad.0, inl bad.1))

  pub refused-root : {F : Type 0} (kind : TreeKind) (fault : TreeFault F) → IsReadFault bytes number usable fault → IsDamageOrOther (IsBadRoot bytes number usable kind) fault
  refused-root kind = damage-then (IsBadRead bytes number usable) (IsBadRoot bytes number usable kind) (λ page r bad. (bad.0, inl bad.1))

  -- a page out of its place
  pub misplaced : {F : Type 0} (kind : TreeKind) (low : Option ℤ) (high : ℤ) (read : TreePage) (r : Rule) (fault : TreeFault F) → fault ≡ TreeDamaged read.number r → IsDecoded bytes number usable read
      → IsOutOfPlace kind low high read r → IsDamageOrOther (IsBadPage bytes number usable kind low high) fault
  misplaced {F} kind low high read r fault is decoded out =
      subst⁻¹ (λ (f : TreeFault F). IsDamageOrOther (IsBadPage bytes number usable kind low high) f) is (decoded.number_is, inr (read, decoded, out))

  unordered-page : {F : Type 0} (kind : TreeKind) (low : Option ℤ) (high : ℤ) (read : TreePage) (fault : TreeFault F) → tree_kind read.kind ≡ kind → read.views ≢ [] → IsDecoded bytes number usable read → IsDamage (OutOfOrder read low high) fault
      → IsDamageOrOther (IsBadPage bytes number usable kind low high) fault
  unordered-page kind low high read fault kind_is some decoded bad =
      damage-then (OutOfOrder read low high) (IsBadPage bytes number usable kind low high)
      (λ page r bad. (bad.0 ∙ decoded.number_is, inr (read, decoded, subst⁻¹ (IsOutOfPlace kind low high read) bad.1 (kind_is, some, bad.2)))) fault (damage-weaken (OutOfOrder read low high) fault bad)

  -- a page of the other kind is no root
  pub root-misplaced : {F : Type 0} (kind : TreeKind) (read : TreePage) (fault : TreeFault F) → fault ≡ TreeDamaged read.number broken.Kind → IsDecoded bytes number usable read → tree_kind read.kind ≢ kind
      → IsDamageOrOther (IsBadRoot bytes number usable kind) fault
  root-misplaced {F} kind read fault is decoded other = subst⁻¹ (λ (f : TreeFault F). IsDamageOrOther (IsBadRoot bytes number usable kind) f) is (decoded.number_is, inr (read, decoded, other))

  unordered-root : {F : Type 0} (kind : TreeKind) (read : TreePage) (fault : TreeFault F) → tree_kind read.kind ≡ kind → IsDecoded bytes number usable read → IsDamage (OutOfOrder read None greatest_rowid) fault
      → IsDamageOrOther (IsBadRoot bytes number usable kind) fault
  unordered-root kind read fault kind_is decoded bad =
      damage-then (OutOfOrder read None greatest_rowid) (IsBadRoot bytes number usable kind)
      (λ page r bad. (bad.0 ∙ decoded.number_is, inr (read, decoded, subst⁻¹ (IsNoRoot kind read) bad.1 (kind_is, bad.2)))) fault (damage-weaken (OutOfOrder read None greatest_rowid) fault bad)

  -- what `stand` answers of a page that was read
  pub stands-below : {F : Type 0} (parent : Place) (low : Option ℤ) (high : ℤ) (read : TreePage) (result : Result Place (TreeFault F)) → low ≡ low_at parent → high ≡ high_at parent
      → tree_kind read.kind ≡ tree_kind parent.page.kind → read.views ≢ [] → OrFault (IsBounded read low high) (IsDamage (OutOfOrder read low high)) result
      → IsDecoded bytes number usable read → EntersPage bytes number usable parent result
  stands-below parent low high read (Ok place) low_is high_is kind some bounded decoded =
      let entered = entered-place read low high place decoded bounded in
      record {
        entered = subst (λ (l : Option ℤ). IsEntered bytes number usable l (high_at parent) place) low_is (subst (λ (h : ℤ). IsEntered bytes number usable low h place) high_is entered);
        kind_is = ap (λ (p : TreePage). tree_kind p.kind) bounded.page_is ∙ kind;
        some = λ none. some (sym (ap (λ (p : TreePage). p.views) bounded.page_is) ∙ none);
      }
  stands-below parent low high read (Err fault) low_is high_is kind some bad decoded =
      subst (λ (l : Option ℤ). IsDamageOrOther (IsBadPage bytes number usable (tree_kind parent.page.kind) l (high_at parent)) fault) low_is
      (subst (λ (h : ℤ). IsDamageOrOther (IsBadPage bytes number usable (tree_kind parent.page.kind) low h) fault) high_is (unordered-page (tree_kind parent.page.kind) low high read fault kind some decoded bad))

  pub stands-root : {F : Type 0} (kind : TreeKind) (read : TreePage) (result : Result Place (TreeFault F)) → tree_kind read.kind ≡ kind
      → OrFault (IsBounded read None greatest_rowid) (IsDamage (OutOfOrder read None greatest_rowid)) result → IsDecoded bytes number usable read → EntersRoot bytes number usable kind result
  stands-root kind read (Ok place) kind_is bounded decoded = record {
    entered = entered-place read None greatest_rowid place decoded bounded;
    kind_is = ap (λ (p : TreePage). tree_kind p.kind) bounded.page_is ∙ kind_is;
  }
  stands-root kind read (Err fault) kind_is bad decoded = unordered-root kind read fault kind_is decoded bad

-- a page that was stood at has its kind
pub stands-kind : {F : Type 0} (kind : TreeKind) (low : Option ℤ) (high : ℤ) (read : TreePage) (result : Result Place (TreeFault F)) → tree_kind read.kind ≡ kind
    → OrFault (IsBounded read low high) (IsDamage (OutOfOrder read low high)) result → IfOk result (λ place. tree_kind place.page.kind ≡ kind)
stands-kind kind low high read (Ok place) kind_is bounded = ap (λ (p : TreePage). tree_kind p.kind) bounded.page_is ∙ kind_is
stands-kind kind low high read (Err fault) kind_is bad = tt

module _ (pages : Pages) (size usable count : ℕ) (parent : Place) (above : ℕ) where
  pub bad_number-step : {F : Type 0} (fault : TreeFault F) → IsDamage (IsBadNumber size count parent) fault → IsDamageOrOther (IsBadStep pages size usable count parent above) fault
  bad_number-step fault bad =
      damage-then (IsBadNumber size count parent) (IsBadStep pages size usable count parent above) (λ page r bad. inl bad) fault (damage-weaken (IsBadNumber size count parent) fault bad)

  abbrev IsBadChildPage : ℕ → Rule → Type 0
  IsBadChildPage page r = IsBadPage (pages (child_at parent)) (child_at parent) usable (tree_kind parent.page.kind) (low_at parent) (high_at parent) page r

  bad_page-step : {F : Type 0} → IsInRange size count (child_at parent) → above < most_above → (fault : TreeFault F) → IsDamageOrOther IsBadChildPage fault → IsDamageOrOther (IsBadStep pages size usable count parent above) fault
  bad_page-step in_range few = damage-then IsBadChildPage (IsBadStep pages size usable count parent above) (λ page r bad. inr (inr (in_range, few, bad)))

  -- a page that is entered below another, by the number of the child
  pub page-child : {F : Type 0} (number : ℕ) → number ≡ child_at parent → IsInRange size count number → above < most_above → (result : Result Place (TreeFault F)) → EntersPage (pages number) number usable parent result
      → OrFault (IsChild pages usable parent) (IsDamageOrOther (IsBadStep pages size usable count parent above)) result
  page-child {F} number is in_range few result enters = by result (subst (λ (n : ℕ). EntersPage {F = F} (pages n) n usable parent result) is enters)
    where
      by : (r : Result Place (TreeFault F)) → EntersPage {F = F} (pages (child_at parent)) (child_at parent) usable parent r → OrFault (IsChild pages usable parent) (IsDamageOrOther (IsBadStep pages size usable count parent above)) r
      by (Ok place) below = below
      by (Err fault) bad = bad_page-step (subst (IsInRange size count) is in_range) few fault bad

-- the walk stays where cursors go down
abbrev pub KeepsWalk : Sizes → Paged → Cursor → Cursor → Type 0
KeepsWalk sizes base old new = (course : Course) → GoesFrom sizes base course old → GoesFrom sizes base course new
