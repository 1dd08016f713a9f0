-- What a pool that ends still has.
use Rattle.std.proofs.Common.{◌≡◌, ℕ, zero, suc, ◌+◌, ◌/◌, ◌%◌, ◌<◌, ◌≤◌, Bool, true, false, List, [], ◌∷◌, ◌++◌, length, get_or, set, map, sym, refl, ap, ◌∙◌, subst, arith, Some, None, get_or-set_other, get_or-set_same, append-nil, bit_and, ◌^◌, cond, eq-eqb, ne_eqb, eqb, ⊎_elim, length-append}
use Rattle.std.proofs.lemmas.List.{map-append}
use Rattle.std.proofs.lemmas.Nat.Bits.{shr_and_one}
use Rattle.std.specs.List.{All, list_any}
use Rattle.std.specs.Int.{bit_at}
use mathlib.Core.Logic.{dite}
use mathlib.Core.Option.{some, some-injective, some-ne-none}
use native.Mathlib.Decide.{ℕ_discrete}
use lib.ListN.{get_elem?}
use Rattle.atomic_table.specs.Table.{State, Final, Seen}
use Rattle.frame_pool.specs.declared.frame.Frame.{Frame}
use Rattle.frame_pool.specs.declared.view.View.{View}
use Rattle.frame_pool.specs.Bits.{stands}
use Rattle.frame_pool.specs.Claims.{Has, lacking}
use Rattle.frame_pool.specs.Frames.{first_size}
use Rattle.frame_pool.specs.Rule.{Slot, Kept, unlent}
use Rattle.frame_pool.specs.Views.{whole}
use Rattle.frame_pool.proofs.ClaimLists.{list_any-has, list_any-none}
use Rattle.frame_pool.proofs.Steps.{bit-differs, bit-cases, seat-only_has}

pub element-get_or : (l : List ℕ) (i a : ℕ) → get_elem? l i ≡ some a → get_or l i 0 ≡ a
element-get_or [] i a e = absurd (some-ne-none a (sym e))
element-get_or (x ∷ xs) zero a e = some-injective x a e
element-get_or (x ∷ xs) (suc i) a e = element-get_or xs i a e

-- a frame whose bit does not stand is in its slot
pub slot-free_at_last : (size id : ℕ) (v : View) (ws : List ℕ) (xs : List Slot) → Final (Seen (Kept size) id v) ws xs → (k : ℕ) → k < length xs → stands ws k ≡ 0
    → (f : Frame) × (get_elem? xs k ≡ some (Some f)) × (f.number ≡ k) × (length f.bytes.items ≡ size)
slot-free_at_last size id v ws xs t k lt off =
    let kp : Kept size t.0 = t.1.0 in
    let f = kp.free k (subst (λ (n : ℕ). k < n) (sym t.3) lt) (subst (λ (l : List ℕ). stands l k ≡ 0) (sym t.2) off) in
    (f.0, t.4 k (Some f.0) f.1, f.2, f.3)

pub emptied-above : (b c : List Bool) (i n m : ℕ) → c ≡ set b i false → m ≡ n → ((k : ℕ) → i ≤ k → k < n → get_or b k false ≡ true) → (k : ℕ) → i + 1 ≤ k → k < m → get_or c k false ≡ true
emptied-above b c i n m e same h k le lt = subst (λ (l : List Bool). get_or l k false ≡ true) (sym e) (get_or-set_other b i k false false (λ f. omega (arith, f, le)) ∙ h k (omega (arith, le)) (omega (arith, lt, same)))

pub emptied-below : (b c : List Bool) (i : ℕ) → i < length b → c ≡ set b i false → ((k : ℕ) → k < i → get_or b k false ≡ false) → (k : ℕ) → k < i + 1 → get_or c k false ≡ false
emptied-below b c i inside e h k lt = subst (λ (l : List Bool). get_or l k false ≡ false) (sym e) (dite (ℕ_discrete k i)
    (λ f. ap (λ (x : ℕ). get_or (set b i false) x false) f ∙ get_or-set_same b i false false inside)
    (λ ne. get_or-set_other b i k false false ne ∙ h k (omega (arith, lt, ne))))

suc-one_more : (n : ℕ) → n + 1 ≡ suc n
suc-one_more n = omega arith

pub unlent-free : (ws : List ℕ) (n : ℕ) → stands ws n ≡ 0 → unlent ws (n + 1) ≡ unlent ws n ++ n ∷ []
unlent-free ws n off = ap (unlent ws) (suc-one_more n) ∙ ap (λ (b : Bool). unlent ws n ++ cond b (n ∷ []) []) (eq-eqb (stands ws n) 0 off)

pub unlent-lent : (ws : List ℕ) (n : ℕ) → (stands ws n ≡ 0 → ⊥) → unlent ws (n + 1) ≡ unlent ws n
unlent-lent ws n on = ap (unlent ws) (suc-one_more n) ∙ ap (λ (b : Bool). unlent ws n ++ cond b (n ∷ []) []) (ne_eqb (stands ws n) 0 on) ∙ append-nil (unlent ws n)

pub stands-word : (ws : List ℕ) (n w : ℕ) → get_elem? ws (n / 64) ≡ some w → bit_and (w / 2 ^ (n % 64)) 1 ≡ stands ws n
stands-word ws n w e = shr_and_one w (n % 64) ∙ ap (λ (x : ℕ). bit_at x (n % 64)) (sym (element-get_or ws (n / 64) w e))

-- what is taken from the slot of a frame whose bit does not stand
pub slot-taken_free : (size id : ℕ) (v : View) (ws : List ℕ) (xs : List Slot) → Final (Seen (Kept size) id v) ws xs → (vs : List ℕ) (ys : List Slot) → vs ≡ ws → ys ≡ xs
    → (n w : ℕ) (home : Slot) → n < length xs → get_elem? ys n ≡ some home → get_elem? vs (n / 64) ≡ some w → bit_and (w / 2 ^ (n % 64)) 1 ≡ 0
    → (f : Frame) × (home ≡ Some f) × (f.number ≡ n) × (length f.bytes.items ≡ size)
slot-taken_free size id v ws xs final vs ys ew ey n w home lt at word off =
    let t = slot-free_at_last size id v ws xs final n lt (subst (λ (l : List ℕ). stands l n ≡ 0) ew (sym (stands-word vs n w word) ∙ off)) in
    (t.0, some-injective home (Some t.0) (sym at ∙ ap (λ (l : List Slot). get_elem? l n) ey ∙ t.1), t.2, t.3)

pub numbers-more : (vs : List ℕ) (n : ℕ) (fs : List Frame) (f : Frame) → map (λ (x : Frame). x.number) fs ≡ unlent vs n → f.number ≡ n → stands vs n ≡ 0
    → map (λ (x : Frame). x.number) (fs ++ f ∷ []) ≡ unlent vs (n + 1)
numbers-more vs n fs f e named off = map-append (λ (x : Frame). x.number) fs (f ∷ []) ∙ ap (λ (l : List ℕ). l ++ f.number ∷ []) e ∙ ap (λ (k : ℕ). unlent vs n ++ k ∷ []) named ∙ sym (unlent-free vs n off)

or_else : Frame → Slot → Frame
or_else f None = f
or_else f (Some g) = g

pub some-frame : (f g : Frame) → Some f ≡ Some g → f ≡ g
unfolding or_else
some-frame f g e = ap (or_else f) e

-- ---- the only seat
pub seat-only : (size : ℕ) (s : State Slot View) → Kept size s → (id : ℕ) (v : View) → get_elem? s.views id ≡ some v → v.parts ≡ whole
    → (n : ℕ) → n ≤ length s.homes → unlent s.words n ≡ lacking v.claimed n
seat-only size s kp id v me all zero le = refl
seat-only size s kp id v me all (suc n) le =
    let before = seat-only size s kp id v me all n (omega (arith, le)) in
    let lt : n < length s.homes = omega (arith, le) in
    let step : (b c : Bool) → eqb (stands s.words n) 0 ≡ b → list_any (λ x. eqb x n) v.claimed ≡ c → cond b (n ∷ []) [] ≡ cond c [] (n ∷ []) → unlent s.words (suc n) ≡ lacking v.claimed (suc n) =
    λ b c eb ec same. ap (λ (x : Bool). unlent s.words n ++ cond x (n ∷ []) []) eb ∙ ap (λ (l : List ℕ). l ++ cond b (n ∷ []) []) before ∙ ap (λ (l : List ℕ). lacking v.claimed n ++ l) same
    ∙ ap (λ (x : Bool). lacking v.claimed n ++ cond x [] (n ∷ [])) (sym ec) in
    ⊎_elim
    (λ (off : stands s.words n ≡ 0). step true false (eq-eqb (stands s.words n) 0 off) (list_any-none v.claimed n (λ h. bit-differs (stands s.words n) off ((kp.each id v me).claims n h).1)) refl)
    (λ (on : stands s.words n ≡ 1).
    let mine : Has v.claimed n = seat-only_has size s kp id v me all n lt on in
    step false true (ne_eqb (stands s.words n) 0 (λ off. bit-differs (stands s.words n) off on)) (list_any-has v.claimed n mine) refl)
    (bit-cases (get_or s.words (n / 64) 0) (n % 64))

pub length-lacking : (n : ℕ) → length (lacking [] n) ≡ n
length-lacking zero = refl
length-lacking (suc n) = let h = length-lacking n in let l = length-append (lacking [] n) (n ∷ []) in omega (arith, h, l)

pub first_size-all : (fs : List Frame) (size : ℕ) → All (λ (f : Frame). length f.bytes.items ≡ size) fs → All (λ (f : Frame). length f.bytes.items ≡ first_size fs) fs
first_size-all [] size all = λ k d lt. absurd (omega (arith, lt))
first_size-all (f ∷ fs) size all = λ k d lt. all k d lt ∙ sym (all 0 f (omega arith))
