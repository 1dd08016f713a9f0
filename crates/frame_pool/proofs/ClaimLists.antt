-- For callers: the list of claimed frames after a claim and after a release.
use Rattle.std.proofs.Common.{◌≡◌, ◌||◌, ℕ, Bool, true, false, true≢false, List, [], ◌∷◌, refl, sym, ap, ◌∙◌, subst, inl, inr, ⊎_elim, cond, eqb, eq-eqb, ne_eqb}
use Rattle.std.specs.List.{list_any}
use mathlib.Core.Logic.{dite}
use native.Mathlib.Decide.{ℕ_discrete}
use Rattle.frame_pool.specs.Claims.{Has, without, is_once}

pub list_any-has : (xs : List ℕ) (n : ℕ) → Has xs n → list_any (λ x. eqb x n) xs ≡ true
list_any-has [] n h = absurd h
list_any-has (x ∷ xs) n h = dite (ℕ_discrete x n)
    (λ e. ap (λ (b : Bool). b || list_any (λ x. eqb x n) xs) (eq-eqb x n e))
    (λ ne. ap (λ (b : Bool). b || list_any (λ x. eqb x n) xs) (ne_eqb x n ne) ∙ list_any-has xs n (⊎_elim (λ (e : x ≡ n). absurd (ne e)) (λ (t : Has xs n). t) h))

pub list_any-none : (xs : List ℕ) (n : ℕ) → (Has xs n → ⊥) → list_any (λ x. eqb x n) xs ≡ false
list_any-none [] n h = refl
list_any-none (x ∷ xs) n h = ap (λ (b : Bool). b || list_any (λ x. eqb x n) xs) (ne_eqb x n (λ e. h (inl e))) ∙ list_any-none xs n (λ t. h (inr t))

pub without-absent : (k : ℕ) (xs : List ℕ) → (Has xs k → ⊥) → without k xs ≡ xs
without-absent k [] none = refl
without-absent k (x ∷ xs) none = ap (λ (b : Bool). cond b (without k xs) (x ∷ without k xs)) (ne_eqb x k (λ e. none (inl e))) ∙ ap (λ (l : List ℕ). x ∷ l) (without-absent k xs (λ t. none (inr t)))

-- the frame that was claimed last goes back
pub without-last : (k : ℕ) (xs : List ℕ) → (Has xs k → ⊥) → without k (k ∷ xs) ≡ xs
without-last k xs none = ap (λ (b : Bool). cond b (without k xs) (k ∷ without k xs)) (eq-eqb k k refl) ∙ without-absent k xs none

pub is_once-more : (k : ℕ) (xs : List ℕ) → (Has xs k → ⊥) → is_once xs ≡ true → is_once (k ∷ xs) ≡ true
is_once-more k xs none h = ap (λ (b : Bool). cond b false (is_once xs)) (list_any-none xs k none) ∙ h

is_once-parts : (b c : Bool) → cond b false c ≡ true → (b ≡ false) × (c ≡ true)
is_once-parts true c e = absurd (true≢false (sym e))
is_once-parts false c e = (refl, e)

pub is_once-without : (k : ℕ) (xs : List ℕ) → is_once xs ≡ true → is_once (without k xs) ≡ true
is_once-without k [] h = refl
is_once-without k (x ∷ xs) h =
    let p = is_once-parts (list_any (λ y. eqb y x) xs) (is_once xs) h in
    let rest = is_once-without k xs p.1 in
    dite (ℕ_discrete x k)
    (λ e. ap (λ (b : Bool). is_once (cond b (without k xs) (x ∷ without k xs))) (eq-eqb x k e) ∙ rest)
    (λ ne. ap (λ (b : Bool). is_once (cond b (without k xs) (x ∷ without k xs))) (ne_eqb x k ne)
    ∙ is_once-more x (without k xs) (λ t. true≢false (sym (list_any-has xs x (in_without k xs x t)) ∙ p.0)) rest)
  where
    in_without : (k : ℕ) (xs : List ℕ) (j : ℕ) → Has (without k xs) j → Has xs j
    in_without k [] j h = h
    in_without k (x ∷ xs) j h = dite (ℕ_discrete x k)
        (λ e. inr (in_without k xs j (subst (λ b. Has (cond b (without k xs) (x ∷ without k xs)) j) (eq-eqb x k e) h)))
        (λ ne. ⊎_elim (λ (e : x ≡ j). inl e) (λ (t : Has (without k xs) j). inr (in_without k xs j t))
        (subst (λ b. Has (cond b (without k xs) (x ∷ without k xs)) j) (ne_eqb x k ne) h))

-- the last claimed goes back
pub without-first : (k : ℕ) (xs : List ℕ) → is_once (k ∷ xs) ≡ true → without k (k ∷ xs) ≡ xs
without-first k xs h = without-last k xs (λ t. true≢false (sym (list_any-has xs k t) ∙ (is_once-parts (list_any (λ y. eqb y k) xs) (is_once xs) h).0))
