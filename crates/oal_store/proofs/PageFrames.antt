-- The frames of the pages that are appended.
use Rattle.std.proofs.Common.{◌≡◌, ℕ, suc, ◌+◌, ◌*◌, ◌^◌, ◌<◌, ◌==◌, Bool, true, false, cond, if◌then◌else◌, List, [], ◌∷◌, ◌++◌, length, map, Option, Some, None, option_map, Vec, refl, sym, ap, ◌∙◌, inl, inr, arith, length-append, ne_eqb, eq-eqb}
use Rattle.std.specs.Global.{Global}
use Rattle.std.specs.Option.{option_or}
use Rattle.std.specs.List.{AllByRecursion, IsDistinct}
use Rattle.std.specs.Map.{keys_of, lookup}
use Rattle.std.specs.BTreeMap.{is_at}
use Rattle.std.specs.Ordering.{is_eq, nat_cmp, eq_by_cmp}
use Rattle.std.specs.declared.cmp.Ordering.TheVariants.{Less, Equal, Greater}
use Rattle.std.specs.Cmp.{nat_cmp_is, eq_by_cmp_equiv}
use Rattle.std.proofs.lemmas.Cmp.{nat_cmp_total}
use Rattle.std.proofs.lemmas.Bool.{cases_eq, cases_lt}
use Rattle.std.proofs.lemmas.Map.{lookup-none}
use Rattle.std.proofs.lemmas.Map.Entries.{none_past_head}
use Rattle.format_spec.specs.Log.{Frame, frame_sums, frame_header, frames_bytes, AreFrames, last_commit, last_frame_of}
use Rattle.format_spec.specs.LogLaws.{length-frame_header}
use Rattle.oal_store.specs.Appending.{frames_of}
use Rattle.oal_store.specs.Changed.{IsChanged}
use Rattle.oal_store.proofs.FramesLaws.{last_frame-more}

abbrev pub Entry : Type 0
Entry = ℕ × Vec ℕ Global

pub last_commit-frames_of : (count : ℕ) (e : Entry) (es : List Entry) → last_commit (frames_of count (e ∷ es)) ≡ count
last_commit-frames_of count e [] = refl
last_commit-frames_of count e (f ∷ es) = last_commit-frames_of count f es

pub numbers-frames_of : (count : ℕ) (es : List Entry) → map (λ (f : Frame). f.number) (frames_of count es) ≡ keys_of es
numbers-frames_of count [] = refl
numbers-frames_of count (e ∷ es) = ap (λ (ns : List ℕ). e.0 ∷ ns) (numbers-frames_of count es)

commit_fits : (count : ℕ) (b : Bool) → count < 2 ^ 32 → (if b then count else 0) < 2 ^ 32
commit_fits count true fits = fits
commit_fits count false fits = omega arith

pub valid-frames_of : (size count : ℕ) (es : List Entry) → count < 2 ^ 32 → AllByRecursion (IsChanged size count) es → AreFrames size (frames_of count es)
valid-frames_of size count [] fits all = tt
valid-frames_of size count (e ∷ es) fits all = (
  record {
    of_page = all.0.first;
    number_fits = omega (arith, all.0.within, fits);
    commit_fits = commit_fits count (length es == 0) fits;
    whole = all.0.whole;
  },
  valid-frames_of size count es fits all.1,
)

-- two numbers are equal where they compare so
pub compares : (n k : ℕ) → is_eq (nat_cmp n k) ≡ (n == k)
compares n k = elim (cases_lt n k) [
  | inl low ↦ ap is_eq (sym (nat_cmp_is n k Less low)) ∙ sym (ne_eqb n k (λ e. omega (arith, low, e)))
  | inr high ↦ elim (cases_eq n k) [
    | inl same ↦ ap is_eq (sym (nat_cmp_is n k Equal same)) ∙ sym (eq-eqb n k same)
    | inr apart ↦ ap is_eq (sym (nat_cmp_is n k Greater (omega (arith, high, apart)))) ∙ sym (ne_eqb n k apart)
  ]
]

pub compares-back : (n k : ℕ) → is_eq (nat_cmp n k) ≡ (k == n)
compares-back n k = compares n k ∙ swapped
  where
    swapped : (n == k) ≡ (k == n)
    swapped = elim (cases_eq n k) [ inl same ↦ eq-eqb n k same ∙ sym (eq-eqb k n (sym same)) | inr apart ↦ ne_eqb n k apart ∙ sym (ne_eqb k n (λ e. apart (sym e))) ]

or_found : (v : Vec ℕ Global) (b : Bool) (r : Option (Vec ℕ Global)) → (b ≡ true → r ≡ None)
    → option_or (option_map (λ (page : Vec ℕ Global). page.items) r) (if b then Some v.items else None) ≡ option_map (λ (page : Vec ℕ Global). page.items) (cond b (Some v) r)
or_found v true r none = ap (λ (x : Option (Vec ℕ Global)). option_or (option_map (λ (page : Vec ℕ Global). page.items) x) (Some v.items)) (none refl)
or_found v false None none = refl
or_found v false (Some page) none = refl

-- each page has the frame of its number
pub last_frame-frames_of : (n count : ℕ) (es : List Entry) → IsDistinct (eq_by_cmp nat_cmp) (keys_of es)
    → last_frame_of n (frames_of count es) ≡ option_map (λ (page : Vec ℕ Global). page.items) (lookup (is_at (nat_cmp n)) es)
unfolding IsDistinct
last_frame-frames_of n count [] distinct = refl
last_frame-frames_of n count (e ∷ es) distinct =
    let items : Vec ℕ Global → List ℕ = λ page. page.items in
    let rest : Option (Vec ℕ Global) = lookup (is_at (nat_cmp n)) es in
    let same : is_at (nat_cmp n) e.0 ≡ (e.0 == n) = compares-back n e.0 in
    let none : (e.0 == n) ≡ true → rest ≡ None = λ is.
    lookup-none (is_at (nat_cmp n)) es (none_past_head (eq_by_cmp_equiv nat_cmp_total) n e es distinct (same ∙ is)) in
    last_frame-more n (record { number = e.0; commit = if length es == 0 then count else 0; page = e.1.items }) (frames_of count es)
    ∙ ap (λ (r : Option (List ℕ)). option_or r (if e.0 == n then Some e.1.items else None)) (last_frame-frames_of n count es distinct.1)
    ∙ or_found e.1 (e.0 == n) rest none
    ∙ ap (λ (b : Bool). option_map items (cond b (Some e.1) rest)) (sym same)

-- how long frames are
pub length-frames : (big : Bool) (salt sums : ℕ × ℕ) (size : ℕ) (frames : List Frame) → AreFrames size frames → length (frames_bytes big salt sums frames) ≡ length frames * (24 + size)
length-frames big salt sums size [] valid = omega arith
length-frames big salt sums size (frame ∷ frames) valid =
    let after = frame_sums big sums frame.number frame.commit frame.page in
    let header = frame_header big salt sums frame.number frame.commit frame.page in
    let more = length-frames big salt after size frames valid.1 in
    omega (arith, length-append (header ++ frame.page) (frames_bytes big salt after frames), length-append header frame.page, length-frame_header big salt sums frame.number frame.commit frame.page, more, valid.0.whole)

pub length-frames_of : (count : ℕ) (es : List Entry) → length (frames_of count es) ≡ length es
length-frames_of count [] = refl
length-frames_of count (e ∷ es) = ap suc (length-frames_of count es)
