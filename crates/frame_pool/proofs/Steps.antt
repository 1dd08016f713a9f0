-- Each step keeps the rule.
use Rattle.std.proofs.Common.{◌≢◌, ℕ, zero, suc, ◌+◌, ◌-◌, ◌*◌, ◌/◌, ◌%◌, ◌<◌, ◌≤◌, eqb, List, [], ◌∷◌, ◌++◌, length, get_or, set, map, replicate, sym, refl, ap, ◌∙◌, subst, inl, inr, ⊎_elim, ◌⊎◌, arith, Option, Some, None, IfSome, length-set, get_or-set_other, get_or-set_same, length-append, ◌≡◌, w64, bit_and, bit_or, cond, eq-eqb, ne_eqb}
use Rattle.std.proofs.lemmas.Option.{none-some}
use Rattle.std.proofs.lemmas.List.{get_or-replicate, length-map, length-replicate}
use Rattle.std.proofs.lemmas.Nat.{div-add-mod', mod_below, div_below}
use Rattle.std.proofs.lemmas.Nat.Bits.{bit_at-zero, bit_at-lt, bit_at_set_same, bit_at_set_other, bit_at_clear_same, bit_at_clear_other}
use Rattle.std.specs.Int.{bit_at, bit_not}
use mathlib.Core.Logic.{dite}
use mathlib.Core.Option.{some, none, some-injective, some-ne-none}
use mathlib.Core.Option as maybe
use native.Mathlib.Decide.{ℕ_discrete}
use lib.ListN.{get_elem?}
use lib.Seq.{set-get_or}
use prog.Atomic.{either}
use Rattle.atomic_table.specs.Table.{State, step, keeps, takes, gives, opening, Allows, Splits, Joins, rest}
use Rattle.atomic_table.proofs.Lists.{at_set, at_snoc, set_here, set_else, at_longer, at_last, at_map, exchanged}
use Rattle.frame_pool.specs.declared.frame.Frame.{Frame}
use Rattle.frame_pool.specs.declared.view.View.{View}
use Rattle.frame_pool.specs.Bits.{mask, stands}
use Rattle.frame_pool.specs.Claims.{Has, without}
use Rattle.frame_pool.specs.Rule.{Slot, Lies, Filled, Known, KeptAt, Kept}
use Rattle.frame_pool.specs.Steps.{Seated, Tried, Claims, Settles, Reopens, Releases}
use Rattle.frame_pool.specs.Tries.{Stood}
use Rattle.frame_pool.specs.Views.{view, starts, fresh, with_parts, whole, total, spent}

pub element-within : {A : Type 0} (l : List A) (i : ℕ) (a : A) → get_elem? l i ≡ some a → i < length l
element-within [] i a e = absurd (some-ne-none a (sym e))
element-within (x ∷ xs) zero a e = omega arith
element-within (x ∷ xs) (suc i) a e = let h = element-within xs i a e in omega (arith, h)

pub bit_place-small : (k : ℕ) → k % 64 < 64
bit_place-small k = mod_below k 64 (omega arith)

bit_place-same : (j k : ℕ) → j / 64 ≡ k / 64 → j % 64 ≡ k % 64 → j ≡ k
bit_place-same j k e f = sym (div-add-mod' j 64) ∙ ap (λ (x : ℕ). x * 64 + j % 64) e ∙ ap (λ (x : ℕ). k / 64 * 64 + x) f ∙ div-add-mod' k 64

below_two-cases : (b : ℕ) → b < 2 → (b ≡ 0) ⊎ (b ≡ 1)
below_two-cases zero h = inl refl
below_two-cases (suc zero) h = inr refl
below_two-cases (suc (suc b)) h = absurd (omega (arith, h))

pub bit-cases : (n i : ℕ) → (bit_at n i ≡ 0) ⊎ (bit_at n i ≡ 1)
bit-cases n i = below_two-cases (bit_at n i) (bit_at-lt n i)

pub bit-differs : (b : ℕ) → b ≡ 0 → b ≡ 1 → ⊥
bit-differs b e f = omega (arith, e, f)

mask-place : (j k : ℕ) → mask j ≡ mask k → j % 64 ≡ k % 64
mask-place j k e = dite (ℕ_discrete (j % 64) (k % 64)) (λ p. p)
    (λ ne. absurd (bit-differs (bit_at (bit_or 0 (mask j)) (j % 64))
    (ap (λ (x : ℕ). bit_at (bit_or 0 x) (j % 64)) e ∙ bit_at_set_other w64 0 (k % 64) (bit_place-small k) (j % 64) ne ∙ bit_at-zero (j % 64))
    (bit_at_set_same w64 0 (j % 64) (bit_place-small j))))

-- a word is changed at one place
stands-here : (ws : List ℕ) (k new b : ℕ) → k / 64 < length ws → bit_at new (k % 64) ≡ b → stands (set ws (k / 64) new) k ≡ b
stands-here ws k new b wide e = ap (λ (x : ℕ). bit_at x (k % 64)) (get_or-set_same ws (k / 64) new 0 wide) ∙ e

stands-else : (ws : List ℕ) (k new : ℕ) → k / 64 < length ws → ((i : ℕ) → i < 64 → i ≢ k % 64 → bit_at new i ≡ bit_at (get_or ws (k / 64) 0) i)
    → (j : ℕ) → j ≢ k → stands (set ws (k / 64) new) j ≡ stands ws j
stands-else ws k new wide same j ne = dite (ℕ_discrete (j / 64) (k / 64))
    (λ e. ap (λ (i : ℕ). bit_at (get_or (set ws (k / 64) new) i 0) (j % 64)) e
    ∙ ap (λ (x : ℕ). bit_at x (j % 64)) (get_or-set_same ws (k / 64) new 0 wide)
    ∙ same (j % 64) (bit_place-small j) (λ f. ne (bit_place-same j k e f))
    ∙ ap (λ (i : ℕ). bit_at (get_or ws i 0) (j % 64)) (sym e))
    (λ d. ap (λ (x : ℕ). bit_at x (j % 64)) (get_or-set_other ws (k / 64) (j / 64) new 0 d))

-- ---- a list of claimed frames
without-has : (k : ℕ) (xs : List ℕ) (j : ℕ) → Has (without k xs) j → (j ≢ k) × Has xs j
without-has k [] j h = absurd h
without-has k (x ∷ xs) j h = dite (ℕ_discrete x k)
    (λ e. let r = without-has k xs j (subst (λ b. Has (cond b (without k xs) (x ∷ without k xs)) j) (eq-eqb x k e) h) in (r.0, inr r.1))
    (λ ne. ⊎_elim (λ (e : x ≡ j). ((λ f. ne (e ∙ f)), inl e)) (λ (t : Has (without k xs) j). let r = without-has k xs j t in (r.0, inr r.1))
    (subst (λ b. Has (cond b (without k xs) (x ∷ without k xs)) j) (ne_eqb x k ne) h))

Has-without : (k : ℕ) (xs : List ℕ) (j : ℕ) → j ≢ k → Has xs j → Has (without k xs) j
Has-without k [] j ne h = absurd h
Has-without k (x ∷ xs) j ne h = dite (ℕ_discrete x k)
    (λ e. subst (λ b. Has (cond b (without k xs) (x ∷ without k xs)) j) (sym (eq-eqb x k e))
    (⊎_elim (λ (f : x ≡ j). absurd (ne (sym f ∙ e))) (λ (t : Has xs j). Has-without k xs j ne t) h))
    (λ d. subst (λ b. Has (cond b (without k xs) (x ∷ without k xs)) j) (sym (ne_eqb x k d))
    (⊎_elim (λ (f : x ≡ j). inl f) (λ (t : Has xs j). inr (Has-without k xs j ne t)) h))

-- one more try
pub Stood-none : Stood 0 []
Stood-none = record { count = refl; stood = λ k lt. absurd (omega (arith, lt)) }

pub Stood-more : (n : ℕ) (found : List ℕ) (r : ℕ) → Stood n found → bit_at r (n % 64) ≡ 1 → Stood (n + 1) (found ++ r ∷ [])
Stood-more n found r st on = record {
  count = length-append found (r ∷ []) ∙ ap (λ (x : ℕ). x + 1) st.count;
  stood = λ k lt. dite (ℕ_discrete k n)
      (λ e. ap (λ (x : ℕ). bit_at (get_or (found ++ r ∷ []) x 0) (x % 64)) e ∙ ap (λ (x : ℕ). bit_at x (n % 64)) (last_of found r n st.count) ∙ on)
      (λ ne. let lt' : k < n = omega (arith, lt, ne) in ap (λ (x : ℕ). bit_at x (k % 64)) (front_of found r k (subst (λ (x : ℕ). k < x) (sym st.count) lt')) ∙ st.stood k lt');
}
  where
    last_of : (xs : List ℕ) (y n : ℕ) → length xs ≡ n → get_or (xs ++ y ∷ []) n 0 ≡ y
    last_of [] y n e = subst (λ (i : ℕ). get_or (y ∷ []) i 0 ≡ y) e refl
    last_of (x ∷ xs) y n e = subst (λ (i : ℕ). get_or (x ∷ (xs ++ y ∷ [])) i 0 ≡ y) e (last_of xs y (length xs) refl)

    front_of : (xs : List ℕ) (y k : ℕ) → k < length xs → get_or (xs ++ y ∷ []) k 0 ≡ get_or xs k 0
    front_of [] y k h = absurd (omega (arith, h))
    front_of (x ∷ xs) y zero h = refl
    front_of (x ∷ xs) y (suc k) h = front_of xs y k (omega (arith, h))

pub Filled-none : (size : ℕ) → Filled size []
Filled-none size k h = absurd (omega (arith, h))

pub Filled-more : (size : ℕ) (slots : List Slot) (f : Frame) → Filled size slots → f.number ≡ length slots → length f.bytes.items ≡ size → Filled size (slots ++ Some f ∷ [])
Filled-more size slots f filled named sized k h = dite (ℕ_discrete k (length slots))
    (λ e. (f, ap (get_elem? (slots ++ Some f ∷ [])) e ∙ at_last slots (Some f) (length slots) refl, named ∙ sym e, sized))
    (λ ne. let more : length (slots ++ Some f ∷ []) ≡ length slots + 1 = length-append slots (Some f ∷ []) in
    let t = filled k (omega (arith, h, ne, more)) in (t.0, at_longer slots (Some f ∷ []) k (Some t.0) t.1, t.2, t.3))

abbrev pick : Option ℕ → ℕ
pick None = 0
pick (Some x) = x

some-same : (j k : ℕ) → Some j ≡ Some k → j ≡ k
some-same j k e = ap pick e

abbrev St : Type 0
St = State Slot View

abbrev Homes : Type 0
Homes = List (maybe.Option Slot)

-- ---- parts
pub total-set : (vs : List View) (i : ℕ) (v w : View) → get_elem? vs i ≡ some v → total (set vs i w) + v.parts ≡ total vs + w.parts
total-set [] i v w e = absurd (some-ne-none v (sym e))
total-set (x ∷ xs) zero v w e = let f = ap (λ (y : View). y.parts) (some-injective x v e) in omega (arith, f)
total-set (x ∷ xs) (suc i) v w e = let h = total-set xs i v w e in omega (arith, h)

total-same : (vs : List View) (i : ℕ) (v w : View) → get_elem? vs i ≡ some v → w.parts ≡ v.parts → (n : ℕ) → total vs ≡ n → total (set vs i w) ≡ n
total-same vs i v w e same n t = let h = total-set vs i v w e in omega (arith, h, same, t)

total-push : (vs : List View) (v : View) → total (vs ++ v ∷ []) ≡ total vs + v.parts
total-push [] v = omega arith
total-push (x ∷ xs) v = let h = total-push xs v in omega (arith, h)

parts-one : (vs : List View) (i : ℕ) (v : View) → get_elem? vs i ≡ some v → v.parts ≤ total vs
parts-one [] i v e = absurd (some-ne-none v (sym e))
parts-one (x ∷ xs) zero v e = let f = ap (λ (y : View). y.parts) (some-injective x v e) in omega (arith, f)
parts-one (x ∷ xs) (suc i) v e = let h = parts-one xs i v e in omega (arith, h)

pub parts-two : (vs : List View) (i j : ℕ) (u v : View) → i ≢ j → get_elem? vs i ≡ some u → get_elem? vs j ≡ some v → u.parts + v.parts ≤ total vs
parts-two [] i j u v ne e f = absurd (some-ne-none u (sym e))
parts-two (x ∷ xs) zero zero u v ne e f = absurd (ne refl)
parts-two (x ∷ xs) zero (suc j) u v ne e f = let a = ap (λ (y : View). y.parts) (some-injective x u e) in let h = parts-one xs j v f in omega (arith, a, h)
parts-two (x ∷ xs) (suc i) zero u v ne e f = let a = ap (λ (y : View). y.parts) (some-injective x v f) in let h = parts-one xs i u e in omega (arith, a, h)
parts-two (x ∷ xs) (suc i) (suc j) u v ne e f = let h = parts-two xs i j u v (λ g. ne (ap suc g)) e f in omega (arith, h)

-- what a seat knows after the three steps of a release
pub seat-released : (m a b n : Seated) (k : ℕ) (f : Frame) → a ≡ (view m.0.size m.0.parts m.0.claimed (Some k) m.0.tries, (k, None) ∷ []) → b ≡ (a.0, (k, Some f) ∷ rest a.1)
    → IfSome b.0.out (λ j. n ≡ (view b.0.size b.0.parts (without j b.0.claimed) None b.0.tries, [])) → n ≡ (view m.0.size m.0.parts (without k m.0.claimed) None m.0.tries, [])
seat-released m a b n k f took put told = subst (λ (x : Seated). IfSome x.0.out (λ j. n ≡ (view x.0.size x.0.parts (without j x.0.claimed) None x.0.tries, []))) (put ∙ ap (λ (x : Seated). (x.0, (k, Some f) ∷ rest x.1)) took) told

module _ (size : ℕ) where
  Known-other : (ws ws' : List ℕ) (hs hs' : Homes) (u : View) → length hs' ≡ length hs → Known size ws hs u
      → ((k : ℕ) → Has u.claimed k → (stands ws' k ≡ stands ws k) × (get_elem? hs' k ≡ get_elem? hs k)) → Known size ws' hs' u
  Known-other ws ws' hs hs' u len kn same = record {
    sized = kn.sized;
    owns = kn.owns;
    claims = λ k h. let c = kn.claims k h in let t = same k h in (subst (λ (n : ℕ). k < n) (sym len) c.0, t.0 ∙ c.1, ⊎_elim (λ e. inl e) (λ e. inr (t.1 ∙ e)) c.2);
  }

  -- the rule after a step of one seat
  rule-renewed : (was will : ℕ) (s : St) → KeptAt was size s → (id : ℕ) (v w : View) (ws : List ℕ) (hs : Homes) → get_elem? s.views id ≡ some v
      → length ws ≡ length s.words → length hs ≡ length s.homes
      → ((k : ℕ) → k < length s.homes → stands ws k ≡ 0 → Lies size hs k)
      → ((k : ℕ) → stands ws k ≡ 1 → Has w.claimed k ⊎ (stands s.words k ≡ 1))
      → ((k : ℕ) → stands ws k ≡ 1 → Has v.claimed k → Has w.claimed k)
      → Known size ws hs w
      → ((j : ℕ) (u : View) (k : ℕ) → j ≢ id → get_elem? s.views j ≡ some u → Has u.claimed k → (stands ws k ≡ stands s.words k) × (get_elem? hs k ≡ get_elem? s.homes k) × (Has w.claimed k → ⊥))
      → total (set s.views id w) ≡ will
      → KeptAt will size record { words = ws; homes = hs; views = set s.views id w }
  rule-renewed was will s kp id v w ws hs me many wide free back stay mine apart shared = record {
    shared = shared;
    covered = subst (λ (n : ℕ). n ≤ length ws * 64) (sym wide) (subst (λ (n : ℕ). length s.homes ≤ n * 64) (sym many) kp.covered);
    free = λ k lt. free k (subst (λ (n : ℕ). k < n) wide lt);
    lent = λ k lt st. ⊎_elim
        (λ (h : Has w.claimed k). (id, w, set_here s.views id w (element-within s.views id v me), h))
        (λ (old : stands s.words k ≡ 1). let t = kp.lent k (subst (λ (n : ℕ). k < n) wide lt) old in dite (ℕ_discrete t.0 id)
        (λ e. let same : v ≡ t.1 = some-injective v t.1 (sym me ∙ subst (λ (i : ℕ). get_elem? s.views i ≡ some t.1) e t.2) in
        (id, w, set_here s.views id w (element-within s.views id v me), stay k st (subst (λ (x : View). Has x.claimed k) (sym same) t.3)))
        (λ ne. (t.0, t.1, set_else s.views id t.0 w ne ∙ t.2, t.3)))
        (back k st);
    each = λ j u e. ⊎_elim (λ (t : (j ≡ id) × (w ≡ u)). subst (Known size ws hs) t.1 mine)
        (λ (t : (j ≢ id) × (get_elem? s.views j ≡ some u)). Known-other s.words ws s.homes hs u wide (kp.each j u t.1) (λ k h. let a = apart j u k t.0 t.1 h in (a.0, a.1)))
        (at_set s.views id j w u e);
    alone = λ i j u x k eu ex hu hx. ⊎_elim
        (λ (t : (i ≡ id) × (w ≡ u)). ⊎_elim
        (λ (r : (j ≡ id) × (w ≡ x)). t.0 ∙ sym r.0)
        (λ (r : (j ≢ id) × (get_elem? s.views j ≡ some x)). absurd ((apart j x k r.0 r.1 hx).2 (subst (λ (y : View). Has y.claimed k) (sym t.1) hu)))
        (at_set s.views id j w x ex))
        (λ (t : (i ≢ id) × (get_elem? s.views i ≡ some u)). ⊎_elim
        (λ (r : (j ≡ id) × (w ≡ x)). absurd ((apart i u k t.0 t.1 hu).2 (subst (λ (y : View). Has y.claimed k) (sym r.1) hx)))
        (λ (r : (j ≢ id) × (get_elem? s.views j ≡ some x)). kp.alone i j u x k t.1 r.1 hu hx)
        (at_set s.views id j w x ex))
        (at_set s.views id i w u eu);
  }

  -- a frame whose bit stands is claimed with the only seat
  pub seat-only_has : (s : St) → Kept size s → (id : ℕ) (v : View) → get_elem? s.views id ≡ some v → v.parts ≡ whole → (k : ℕ) → k < length s.homes → stands s.words k ≡ 1 → Has v.claimed k
  seat-only_has s kp id v me all k lt on =
      let t = kp.lent k lt on in
      dite (ℕ_discrete id t.0)
      (λ e. let same : v ≡ t.1 = some-injective v t.1 (sym me ∙ ap (get_elem? s.views) e ∙ t.2) in subst (λ (x : View). Has x.claimed k) (sym same) t.3)
      (λ ne. let two = parts-two s.views id t.0 v t.1 ne me t.2 in let some_part = (kp.each t.0 t.1 t.2).owns k t.3 in let sum = kp.shared in absurd (omega (arith, two, some_part, sum, all)))

  pub bit-claimed : (slots id own parts : ℕ) (claimed tries : List ℕ) (k : ℕ) → 0 < parts → k < slots
      → Allows (Kept size) slots id (view own parts claimed None tries, []) (k / 64) (λ n. bit_or n (mask k)) (Claims (step slots (k / 64) (mask k) 0 none) (view own parts claimed None tries, []))
  bit-claimed slots id own parts claimed tries k pos inside s kp wide me fits =
      let v : View = view own parts claimed None tries in
      let known = kp.each id v me in
      let n : ℕ = get_or s.words (k / 64) 0 in
      let lt : k < length s.homes = subst (λ (x : ℕ). k < x) (sym wide) inside in
      let covered = kp.covered in
      let room : k / 64 < length s.words = div_below k 64 (length s.words) (omega arith) (omega (arith, lt, covered)) in
      let ws : List ℕ = set s.words (k / 64) (bit_or n (mask k)) in
      let here : stands ws k ≡ 1 = stands-here s.words k (bit_or n (mask k)) 1 room (bit_at_set_same w64 n (k % 64) (bit_place-small k)) in
      let beside : (j : ℕ) → j ≢ k → stands ws j ≡ stands s.words j = stands-else s.words k (bit_or n (mask k)) room (λ i _ ne. bit_at_set_other w64 n (k % 64) (bit_place-small k) i ne) in
      let told : (r : ℕ) (m : Seated) → Tried (v, []) r m k → Claims (step slots (k / 64) (mask k) 0 none) (v, []) r m = λ r m t j e f. subst (λ (x : ℕ). Tried (v, []) r m x) (bit_place-same k j e (mask-place k j f)) t in
      ⊎_elim
      (λ (off : stands s.words k ≡ 0).
      let w : View = view own parts (k ∷ claimed) (Some k) (tries ++ n ∷ []) in
      let hs : Homes = set s.homes k none in
      let f = kp.free k lt off in
      let nobody : (j : ℕ) (u : View) → get_elem? s.views j ≡ some u → Has u.claimed k → ⊥ = λ j u at h. bit-differs (stands s.words k) off ((kp.each j u at).claims k h).1 in
      let not_k : (j : ℕ) (u : View) → get_elem? s.views j ≡ some u → (i : ℕ) → Has u.claimed i → i ≢ k = λ j u at i h e. nobody j u at (subst (λ (x : ℕ). Has u.claimed x) e h) in
      let kept = rule-renewed whole whole s kp id v w ws hs me (length-set s.words (k / 64) (bit_or n (mask k))) (length-set s.homes k none)
      (λ j jlt st. let ne : j ≢ k = λ e. bit-differs 1 (sym here ∙ subst (λ (x : ℕ). stands ws x ≡ 0) e st) refl in
      let g = kp.free j jlt (sym (beside j ne) ∙ st) in (g.0, set_else s.homes k j none ne ∙ g.1, g.2, g.3))
      (λ j st. dite (ℕ_discrete k j) (λ e. inl (inl e)) (λ ne. inr (sym (beside j (λ e. ne (sym e))) ∙ st)))
      (λ j st h. inr h)
      (record {
        sized = known.sized;
        owns = λ _ _. pos;
        claims = λ j h. ⊎_elim
            (λ (e : k ≡ j). (subst (λ (x : ℕ). x < length hs) e (subst (λ (x : ℕ). k < x) (sym (length-set s.homes k none)) lt), subst (λ (x : ℕ). stands ws x ≡ 1) e here, inl (ap (λ (x : ℕ). Some x) e)))
            (λ (t : Has claimed j). let c = known.claims j t in let ne = not_k id v me j t in
            (subst (λ (x : ℕ). j < x) (sym (length-set s.homes k none)) c.0, beside j ne ∙ c.1, ⊎_elim (λ e. absurd (none-some j e)) (λ e. inr (set_else s.homes k j none ne ∙ e)) c.2))
            h;
      })
      (λ j u i other at h. let ne = not_k j u at i h in (
        beside i ne,
        set_else s.homes k i none ne,
        λ hw. ⊎_elim (λ (e : k ≡ i). ne (sym e)) (λ (t : Has claimed i). other (kp.alone j id u v i at me h t)) hw,
      ))
      (total-same s.views id v w me refl whole kp.shared) in (
        w,
        takes k (Some f.0),
        f.1,
        kept,
        told n (w, (k, Some f.0) ∷ []) ((λ _. (f.0, refl, f.2, f.3 ∙ sym (known.sized pos), λ h. nobody id v me h)), (λ on. absurd (bit-differs (stands s.words k) off on))),
      ))
      (λ (on : stands s.words k ≡ 1).
      let w : View = view own parts claimed None (tries ++ n ∷ []) in
      let same : (j : ℕ) → stands ws j ≡ stands s.words j = λ j. dite (ℕ_discrete j k) (λ e. ap (stands ws) e ∙ here ∙ sym on ∙ ap (stands s.words) (sym e)) (λ ne. beside j ne) in
      let kept = rule-renewed whole whole s kp id v w ws s.homes me (length-set s.words (k / 64) (bit_or n (mask k))) refl
      (λ j jlt st. kp.free j jlt (sym (same j) ∙ st))
      (λ j st. inr (sym (same j) ∙ st))
      (λ j st h. h)
      (record { sized = known.sized; owns = known.owns; claims = λ j h. let c = known.claims j h in (c.0, same j ∙ c.1, c.2) })
      (λ j u i other at h. (same i, refl, λ t. other (kp.alone j id u v i at me h t)))
      (total-same s.views id v w me refl whole kp.shared) in (
        w,
        keeps,
        tt,
        kept,
        told n (w, []) ((λ off. absurd (bit-differs (stands s.words k) off on)), (λ _. (refl, λ all. seat-only_has s kp id v me all k lt on))),
      ))
      (bit-cases n (k % 64))

  -- the same at a seat that is known by its parts
  pub bit-claimed_as : (slots id : ℕ) (m : Seated) (k : ℕ) → 0 < m.0.parts → k < slots → m ≡ (view m.0.size m.0.parts m.0.claimed None m.0.tries, [])
      → Allows (Kept size) slots id m (k / 64) (λ n. bit_or n (mask k)) (Claims (step slots (k / 64) (mask k) 0 none) m)
  bit-claimed_as slots id m k pos inside e = subst (λ (x : Seated). Allows (Kept size) slots id x (k / 64) (λ n. bit_or n (mask k)) (Claims (step slots (k / 64) (mask k) 0 none) x)) (sym e)
      (bit-claimed slots id m.0.size m.0.parts m.0.claimed m.0.tries k pos inside)

  -- what a step of one claimed frame needs to know of the other seats
  claim-alone : (s : St) → Kept size s → (id : ℕ) (v : View) → get_elem? s.views id ≡ some v → (j : ℕ) (u : View) (i : ℕ) → j ≢ id → get_elem? s.views j ≡ some u → Has u.claimed i → Has v.claimed i → ⊥
  claim-alone s kp id v me j u i other at h has = other (kp.alone j id u v i at me h has)

  pub slot-settled : (slots id own parts : ℕ) (claimed tries : List ℕ) (k i : ℕ) → Has claimed k
      → Allows (Kept size) slots id (view own parts claimed (Some k) tries, (k, None) ∷ []) i (λ n. n) (Settles (step slots i 0 0 none) (view own parts claimed (Some k) tries, (k, None) ∷ []))
  slot-settled slots id own parts claimed tries k i has s kp wide me fits =
      let v : View = view own parts claimed (Some k) tries in
      let known = kp.each id v me in
      let mine = known.claims k has in
      let w : View = view own parts claimed None tries in
      let hs : Homes = set s.homes k (some None) in
      let kept = rule-renewed whole whole s kp id v w s.words hs me refl (length-set s.homes k (some None))
      (λ j jlt st. let ne : j ≢ k = λ e. bit-differs (stands s.words k) (subst (λ (x : ℕ). stands s.words x ≡ 0) e st) mine.1 in
      let g = kp.free j jlt st in (g.0, set_else s.homes k j (some None) ne ∙ g.1, g.2, g.3))
      (λ j st. inr st)
      (λ j st h. h)
      (record {
        sized = known.sized;
        owns = known.owns;
        claims = λ j h. let c = known.claims j h in (
          subst (λ (x : ℕ). j < x) (sym (length-set s.homes k (some None))) c.0,
          c.1,
          dite (ℕ_discrete j k)
              (λ e. inr (ap (get_elem? hs) e ∙ set_here s.homes k (some None) mine.0))
              (λ ne. ⊎_elim (λ e. absurd (ne (sym (some-same k j e)))) (λ e. inr (set_else s.homes k j (some None) ne ∙ e)) c.2),
        );
      })
      (λ j u x other at h. let ne : x ≢ k = λ e. claim-alone s kp id v me j u k other at (subst (Has u.claimed) e h) has in
      (refl, set_else s.homes k x (some None) ne, claim-alone s kp id v me j u x other at h))
      (total-same s.views id v w me refl whole kp.shared) in
      (w, gives, tt, subst (λ (ws : List ℕ). Kept size record { words = ws; homes = hs; views = set s.views id w }) (sym (set-get_or s.words i 0)) kept, refl)

  pub slot-reopened : (slots id own parts : ℕ) (claimed tries : List ℕ) (k : ℕ) → Has claimed k
      → Allows (Kept size) slots id (view own parts claimed None tries, []) 0 (λ n. either (eqb n k) k n) (Reopens (step slots 0 k k none) (view own parts claimed None tries, []))
  slot-reopened slots id own parts claimed tries k has s kp wide me fits =
      let v : View = view own parts claimed None tries in
      let known = kp.each id v me in
      let mine = known.claims k has in
      let w : View = view own parts claimed (Some k) tries in
      let hs : Homes = set s.homes k none in
      let n : ℕ = get_or s.words 0 0 in
      let kept = rule-renewed whole whole s kp id v w s.words hs me refl (length-set s.homes k none)
      (λ j jlt st. let ne : j ≢ k = λ e. bit-differs (stands s.words k) (subst (λ (x : ℕ). stands s.words x ≡ 0) e st) mine.1 in
      let g = kp.free j jlt st in (g.0, set_else s.homes k j none ne ∙ g.1, g.2, g.3))
      (λ j st. inr st)
      (λ j st h. h)
      (record {
        sized = known.sized;
        owns = known.owns;
        claims = λ j h. let c = known.claims j h in (
          subst (λ (x : ℕ). j < x) (sym (length-set s.homes k none)) c.0,
          c.1,
          dite (ℕ_discrete j k)
              (λ e. inl (ap (λ (x : ℕ). Some x) (sym e)))
              (λ ne. ⊎_elim (λ e. absurd (none-some j e)) (λ e. inr (set_else s.homes k j none ne ∙ e)) c.2),
        );
      })
      (λ j u x other at h. let ne : x ≢ k = λ e. claim-alone s kp id v me j u k other at (subst (Has u.claimed) e h) has in
      (refl, set_else s.homes k x none ne, claim-alone s kp id v me j u x other at h))
      (total-same s.views id v w me refl whole kp.shared) in
      let still : set s.words 0 (either (eqb n k) k n) ≡ s.words = ap (set s.words 0) (exchanged n k k (λ x. x ≡ n) (λ e. sym e) (λ _. refl)) ∙ set-get_or s.words 0 0 in (
        w,
        takes k None,
        ⊎_elim (λ e. absurd (none-some k e)) (λ e. e) mine.2,
        subst (λ (ws : List ℕ). Kept size record { words = ws; homes = hs; views = set s.views id w }) (sym still) kept,
        (refl, subst (λ (x : ℕ). k < x) wide mine.0),
      )

  pub bit-released : (slots id own parts : ℕ) (claimed tries : List ℕ) (k : ℕ) (f : Frame) → Has claimed k → f.number ≡ k → length f.bytes.items ≡ own
      → Allows (Kept size) slots id (view own parts claimed (Some k) tries, (k, Some f) ∷ []) (k / 64) (λ n. bit_and n (bit_not w64 (mask k)))
      (Releases (step slots (k / 64) (bit_not w64 (mask k)) 0 none) (view own parts claimed (Some k) tries, (k, Some f) ∷ []))
  bit-released slots id own parts claimed tries k f has named sized s kp wide me fits =
      let v : View = view own parts claimed (Some k) tries in
      let known = kp.each id v me in
      let mine = known.claims k has in
      let pos = known.owns k has in
      let n : ℕ = get_or s.words (k / 64) 0 in
      let new : ℕ = bit_and n (bit_not w64 (mask k)) in
      let lt = mine.0 in
      let covered = kp.covered in
      let room : k / 64 < length s.words = div_below k 64 (length s.words) (omega arith) (omega (arith, lt, covered)) in
      let ws : List ℕ = set s.words (k / 64) new in
      let here : stands ws k ≡ 0 = stands-here s.words k new 0 room (bit_at_clear_same w64 n (k % 64) (bit_place-small k)) in
      let beside : (j : ℕ) → j ≢ k → stands ws j ≡ stands s.words j = stands-else s.words k new room (λ i ilt ne. bit_at_clear_other w64 n (k % 64) (bit_place-small k) i ilt ne) in
      let w : View = view own parts (without k claimed) None tries in
      let hs : Homes = set s.homes k (some (Some f)) in
      let not_k : (j : ℕ) → stands ws j ≡ 1 → j ≢ k = λ j st e. bit-differs 1 (sym (subst (λ (x : ℕ). stands ws x ≡ 1) e st) ∙ here) refl in
      let kept = rule-renewed whole whole s kp id v w ws hs me (length-set s.words (k / 64) new) (length-set s.homes k (some (Some f)))
      (λ j jlt st. dite (ℕ_discrete j k)
      (λ e. subst (Lies size hs) (sym e) (f, set_here s.homes k (some (Some f)) mine.0, named, sized ∙ known.sized pos))
      (λ ne. let g = kp.free j jlt (sym (beside j ne) ∙ st) in (g.0, set_else s.homes k j (some (Some f)) ne ∙ g.1, g.2, g.3)))
      (λ j st. inr (sym (beside j (not_k j st)) ∙ st))
      (λ j st h. Has-without k claimed j (not_k j st) h)
      (record {
        sized = known.sized;
        owns = λ _ _. pos;
        claims = λ j h. let r = without-has k claimed j h in let c = known.claims j r.1 in (
          subst (λ (x : ℕ). j < x) (sym (length-set s.homes k (some (Some f)))) c.0,
          beside j r.0 ∙ c.1,
          ⊎_elim (λ e. absurd (r.0 (sym (some-same k j e)))) (λ e. inr (set_else s.homes k j (some (Some f)) r.0 ∙ e)) c.2,
        );
      })
      (λ j u x other at h. let ne : x ≢ k = λ e. claim-alone s kp id v me j u k other at (subst (Has u.claimed) e h) has in
      (beside x ne, set_else s.homes k x (some (Some f)) ne, λ hw. claim-alone s kp id v me j u x other at h (without-has k claimed x hw).1))
      (total-same s.views id v w me refl whole kp.shared) in
      (w, gives, tt, kept, refl)

  pub slot-settled_as : (slots id : ℕ) (m : Seated) (own parts : ℕ) (claimed tries : List ℕ) (k i : ℕ) → Has claimed k → m ≡ (view own parts claimed (Some k) tries, (k, None) ∷ [])
      → Allows (Kept size) slots id m i (λ n. n) (Settles (step slots i 0 0 none) m)
  slot-settled_as slots id m own parts claimed tries k i has e = subst (λ (x : Seated). Allows (Kept size) slots id x i (λ n. n) (Settles (step slots i 0 0 none) x)) (sym e)
      (slot-settled slots id own parts claimed tries k i has)

  pub slot-reopened_as : (slots id : ℕ) (m : Seated) (k : ℕ) → Has m.0.claimed k → m ≡ (view m.0.size m.0.parts m.0.claimed None m.0.tries, [])
      → Allows (Kept size) slots id m 0 (λ n. either (eqb n k) k n) (Reopens (step slots 0 k k none) m)
  slot-reopened_as slots id m k has e = subst (λ (x : Seated). Allows (Kept size) slots id x 0 (λ n. either (eqb n k) k n) (Reopens (step slots 0 k k none) x)) (sym e)
      (slot-reopened slots id m.0.size m.0.parts m.0.claimed m.0.tries k has)

  pub bit-released_as : (slots id : ℕ) (m : Seated) (own parts : ℕ) (claimed tries : List ℕ) (k : ℕ) (f : Frame) → Has claimed k → f.number ≡ k → length f.bytes.items ≡ own
      → m ≡ (view own parts claimed (Some k) tries, (k, Some f) ∷ [])
      → Allows (Kept size) slots id m (k / 64) (λ n. bit_and n (bit_not w64 (mask k))) (Releases (step slots (k / 64) (bit_not w64 (mask k)) 0 none) m)
  bit-released_as slots id m own parts claimed tries k f has named sized e =
      subst (λ (x : Seated). Allows (Kept size) slots id x (k / 64) (λ n. bit_and n (bit_not w64 (mask k))) (Releases (step slots (k / 64) (bit_not w64 (mask k)) 0 none) x)) (sym e)
      (bit-released slots id own parts claimed tries k f has named sized)

  pub seat-splits : (id : ℕ) (m : Seated) → 1 < m.0.parts → Splits (Kept size) id m.0 (with_parts m.0 (m.0.parts - 1)) (fresh m.0.size 1)
  seat-splits id m many s kp me =
      let v : View = m.0 in
      let known = kp.each id v me in
      let left : View = with_parts v (v.parts - 1) in
      let new : View = fresh v.size 1 in
      let cut = rule-renewed whole (whole - 1) s kp id v left s.words s.homes me refl refl kp.free (λ k st. inr st) (λ k st h. h)
      (record { sized = λ _. known.sized (omega (arith, many)); owns = λ k h. omega (arith, many); claims = known.claims })
      (λ j u k other at h. (refl, refl, claim-alone s kp id v me j u k other at h))
      (let t = total-set s.views id v left me in let a = kp.shared in omega (arith, many, t, a)) in
      record {
        covered = cut.covered;
        free = cut.free;
        lent = λ k lt st. let t = cut.lent k lt st in (t.0, t.1, at_longer (set s.views id left) (new ∷ []) t.0 t.1 t.2, t.3);
        each = λ j u at. ⊎_elim (λ h. cut.each j u h)
            (λ (h : new ≡ u). subst (Known size s.words s.homes) h (record { sized = λ _. known.sized (omega (arith, many)); owns = λ k t. absurd t; claims = λ k t. absurd t }))
            (at_snoc (set s.views id left) new u j at);
        alone = λ i j u x k eu ex hu hx. ⊎_elim
            (λ (a : get_elem? (set s.views id left) i ≡ some u). ⊎_elim
            (λ (b : get_elem? (set s.views id left) j ≡ some x). cut.alone i j u x k a b hu hx)
            (λ (b : new ≡ x). absurd (subst (λ (y : View). Has y.claimed k) (sym b) hx))
            (at_snoc (set s.views id left) new x j ex))
            (λ (a : new ≡ u). absurd (subst (λ (y : View). Has y.claimed k) (sym a) hu))
            (at_snoc (set s.views id left) new u i eu);
        shared = let t = total-push (set s.views id left) new in let a = cut.shared in omega (arith, t, a);
      }

  pub seat-joins : (id : ℕ) (v : View) (other : ℕ) (w : View) → 0 < v.parts → w.claimed ≡ [] → Joins (Kept size) id v other w (with_parts v (v.parts + w.parts)) spent
  seat-joins id v other w pos empty s kp me apart it =
      let known = kp.each id v me in
      let both : View = with_parts v (v.parts + w.parts) in
      let none_has : (k : ℕ) → Has w.claimed k → ⊥ = λ k h. subst (λ (l : List ℕ). Has l k) empty h in
      let more = rule-renewed whole (whole + w.parts) s kp id v both s.words s.homes me refl refl kp.free (λ k st. inr st) (λ k st h. h)
      (record { sized = λ _. known.sized pos; owns = λ k h. omega (arith, pos); claims = known.claims })
      (λ j u k ne at h. (refl, refl, claim-alone s kp id v me j u k ne at h))
      (let t = total-set s.views id v both me in let a = kp.shared in omega (arith, t, a)) in
      rule-renewed (whole + w.parts) whole record { words = s.words; homes = s.homes; views = set s.views id both } more other w spent s.words s.homes it refl refl more.free (λ k st. inr st) (λ k st h. none_has k h)
      (record { sized = λ e. absurd (omega (arith, e)); owns = λ k h. absurd h; claims = λ k h. absurd h }) (λ j u k ne at h. (refl, refl, λ t. t))
      (let t = total-set (set s.views id both) other w spent it in let a = more.shared in omega (arith, t, a))

  pub rule-begins : (count : ℕ) (slots : List Slot) → length slots ≤ count * 64 → Filled size slots → Kept size (opening (replicate count 0) slots (starts size))
  rule-begins count slots room filled = record {
    covered = omega (arith, room, length-map slots (λ (x : Slot). some x), length-replicate {A = ℕ} count 0);
    free = λ k lt _. let t = filled k (subst (λ (n : ℕ). k < n) (length-map slots (λ (x : Slot). some x)) lt) in (t.0, at_map (λ (x : Slot). some x) slots k (Some t.0) t.1, t.2, t.3);
    lent = λ k lt st. absurd (bit-differs (stands (replicate count 0) k) (clear k (subst (λ (n : ℕ). k < n) (length-map slots (λ (x : Slot). some x)) lt)) st);
    each = first;
    alone = λ i j u v k eu ev hu hv. absurd (nobody i u k eu hu);
    shared = omega arith;
  }
    where
      clear : (k : ℕ) → k < length slots → stands (replicate count 0) k ≡ 0
      clear k lt = ap (λ (x : ℕ). bit_at x (k % 64)) (get_or-replicate count (k / 64) 0 0 (div_below k 64 count (omega arith) (omega (arith, lt, room)))) ∙ bit_at-zero (k % 64)

      first : (j : ℕ) (v : View) → get_elem? (starts size ∷ []) j ≡ some v → Known size (replicate count 0) (map (λ (x : Slot). some x) slots) v
      first zero v e = subst (Known size (replicate count 0) (map (λ (x : Slot). some x) slots)) (some-injective _ _ e) (record { sized = λ _. refl; owns = λ k h. absurd h; claims = λ k h. absurd h })
      first (suc j) v e = absurd (some-ne-none v (sym e))

      nobody : (j : ℕ) (v : View) (k : ℕ) → get_elem? (starts size ∷ []) j ≡ some v → Has v.claimed k → ⊥
      nobody zero v k e h = subst (λ (x : View). Has x.claimed k) (sym (some-injective (starts size) v e)) h
      nobody (suc j) v k e h = some-ne-none v (sym e)
