-- How trails go on: crates above cite these facts in their proofs.
use Rattle.std.proofs.Common.{◌≡◌, ◌⊎◌, ◌+◌, List, [], ◌∷◌, ◌++◌, length, drop, Some, refl, sym, ap, ◌∙◌, subst, inl, inr, append_assoc, append-nil, length-append}
use Rattle.file_spec.specs.declared.FileName.{FileName}
use Rattle.file_spec.specs.declared.DiskCall.{DiskCall}
use Rattle.file_spec.specs.Files.{Files}
use Rattle.file_spec.specs.Records.{Record, IsImage, Every}
use Rattle.file_spec.specs.Trails.{Moment, Trail, moments, clock, Each, Some_of, IsImageSince, Passes, Adds}
use Rattle.file_spec.specs.Steps.{Fails, FailsStill}

pub Each-append : (Q : Record → Type 0) (xs ys : List Moment) → Each Q xs → Each Q ys → Each Q (xs ++ ys)
Each-append Q [] ys a b = b
Each-append Q (x ∷ xs) ys a b = (a.0, Each-append Q xs ys a.1 b)

pub Each-weaken : (Q R : Record → Type 0) (xs : List Moment) → ((r : Record) → Q r → R r) → Each Q xs → Each R xs
Each-weaken Q R [] w a = tt
Each-weaken Q R (x ∷ xs) w a = (w x.at a.0, Each-weaken Q R xs w a.1)

-- no moment came
pub Passes-none : (Q : Record → Type 0) (t : Trail) → Passes Q t t
Passes-none Q t = record { later = []; goes_on = sym (append-nil (moments t)); each = tt }

-- one call after another
pub Passes-then : (Q : Record → Type 0) (a b c : Trail) → Passes Q a b → Passes Q b c → Passes Q a c
Passes-then Q a b c p q = record {
  later = p.later ++ q.later;
  goes_on = q.goes_on ∙ ap (λ l. l ++ q.later) p.goes_on ∙ append_assoc (moments a) p.later q.later;
  each = Each-append Q p.later q.later p.each q.each;
}

pub Passes-weaken : (Q R : Record → Type 0) (a b : Trail) → ((r : Record) → Q r → R r) → Passes Q a b → Passes R a b
Passes-weaken Q R a b w p = record { later = p.later; goes_on = p.goes_on; each = Each-weaken Q R p.later w p.each }

drop_front : (xs ys : List Moment) → drop (length xs) (xs ++ ys) ≡ ys
drop_front [] ys = refl
drop_front (x ∷ xs) ys = drop_front xs ys

-- each moment since the call's start, the one at its start among them
pub Passes-since : (Q : Record → Type 0) (a b : Trail) → Q a.now.at → Passes Q a b → Each Q (drop (clock a) (moments b))
Passes-since Q a b here p =
    let is : moments b ≡ a.earlier ++ (a.now ∷ p.later) = p.goes_on ∙ append_assoc a.earlier (a.now ∷ []) p.later in
    subst (Each Q) (sym (ap (drop (clock a)) is ∙ drop_front a.earlier (a.now ∷ p.later))) (here, p.each)

-- so each image left since the call's start has what every image of these moments has
one_has : (P : Files → Type 0) (files : Files) (ms : List Moment) → Each (Every P) ms → Some_of (λ r. IsImage r files) ms → P files
one_has P files [] each none = absurd none
one_has P files (m ∷ ms) each (inl image) = each.0 files image
one_has P files (m ∷ ms) each (inr later) = one_has P files ms each.1 later

pub images-since : (P : Files → Type 0) (a b : Trail) → Every P a.now.at → Passes (Every P) a b → (files : Files) → IsImageSince (clock a) b files → P files
images-since P a b here p files image = one_has P files (drop (clock a) (moments b)) (Passes-since (Every P) a b here p) image

-- a call adds one moment
pub Adds-passes : (file : FileName) (call : DiskCall) (R : Record → Record → Type 0) (Q : Record → Type 0) (a b : Trail) → ((r : Record) → R a.now.at r → Q r) → Adds file call R a b → Passes Q a b
Adds-passes file call R Q a b w adds = record {
  later = record { at = adds.record_now; by = Some (file, call) } ∷ [];
  goes_on = ap moments adds.is;
  each = (w adds.record_now adds.step, tt);
}

pub Adds-clock : (file : FileName) (call : DiskCall) (R : Record → Record → Type 0) (a b : Trail) → Adds file call R a b → clock b ≡ clock a + 1
Adds-clock file call R a b adds = ap clock adds.is ∙ length-append a.earlier (a.now ∷ [])

-- a call that failed adds none, or one that has Q where the last has it and where what R leaves has it
pub Fails-passes : (file : FileName) (call : DiskCall) (R : Record → Record → Type 0) (Q : Record → Type 0) (a b : Trail) → Q a.now.at → ((r : Record) → R a.now.at r → Q r) → Fails file call R a b → Passes Q a b
Fails-passes file call R Q a b here w (inl same) = subst (Passes Q a) (sym same) (Passes-none Q a)
Fails-passes file call R Q a b here w (inr adds) = Adds-passes file call (λ r q. (q ≡ r) ⊎ R r q) Q a b last adds
  where
    last : (r : Record) → (r ≡ a.now.at) ⊎ R a.now.at r → Q r
    last r (inl e) = subst Q (sym e) here
    last r (inr step) = w r step

-- a call that failed and changed nothing, as one on a name: the record is as it was, and so are the images
pub FailsStill-now : (file : FileName) (call : DiskCall) (a b : Trail) → FailsStill file call a b → b.now.at ≡ a.now.at
FailsStill-now file call a b (inl same) = ap (λ (t : Trail). t.now.at) same
FailsStill-now file call a b (inr adds) = ap (λ (t : Trail). t.now.at) adds.is ∙ adds.step

pub FailsStill-images : (file : FileName) (call : DiskCall) (a b : Trail) → FailsStill file call a b → (files : Files) → IsImage b.now.at files → IsImage a.now.at files
FailsStill-images file call a b fails files image = subst (λ r. IsImage r files) (FailsStill-now file call a b fails) image

pub FailsStill-passes : (file : FileName) (call : DiskCall) (Q : Record → Type 0) (a b : Trail) → Q a.now.at → FailsStill file call a b → Passes Q a b
FailsStill-passes file call Q a b here (inl same) = subst (Passes Q a) (sym same) (Passes-none Q a)
FailsStill-passes file call Q a b here (inr adds) = Adds-passes file call (λ r q. q ≡ r) Q a b (λ r e. subst Q (sym e) here) adds

-- what holds of the last moment and of each that came holds of the last one now
abbrev last_or : Moment → List Moment → Moment
last_or m [] = m
last_or m (x ∷ xs) = last_or x xs

last_or-push : (m : Moment) (xs : List Moment) (x : Moment) → last_or m (xs ++ x ∷ []) ≡ x
last_or-push m [] x = refl
last_or-push m (y ∷ ys) x = last_or-push y ys x

last_or-append : (m : Moment) (xs ys : List Moment) → last_or m (xs ++ ys) ≡ last_or (last_or m xs) ys
last_or-append m [] ys = refl
last_or-append m (x ∷ xs) ys = last_or-append x xs ys

Each-last : (Q : Record → Type 0) (m : Moment) (ms : List Moment) → Q m.at → Each Q ms → Q (last_or m ms).at
Each-last Q m [] here each = here
Each-last Q m (x ∷ xs) here each = Each-last Q x xs each.0 each.1

pub Passes-now : (Q : Record → Type 0) (a b : Trail) → Q a.now.at → Passes Q a b → Q b.now.at
Passes-now Q a b here p =
    let last : b.now ≡ last_or a.now p.later =
    sym (last_or-push a.now b.earlier b.now) ∙ ap (last_or a.now) p.goes_on ∙ last_or-append a.now (moments a) p.later ∙ ap (λ m. last_or m p.later) (last_or-push a.now a.earlier a.now) in
    subst (λ (m : Moment). Q m.at) (sym last) (Each-last Q a.now p.later here p.each)

-- one call after another, each of which keeps Q
pub Passes-kept : (Q : Record → Type 0) (a b c : Trail) → (Q a.now.at → Passes Q a b) → (Q b.now.at → Passes Q b c) → Q a.now.at → Passes Q a c
Passes-kept Q a b c p q here = Passes-then Q a b c (p here) (q (Passes-now Q a b here (p here)))
