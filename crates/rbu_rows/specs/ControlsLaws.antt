-- A value is one control or has one fault.
use Rattle.std.specs.Prelude.{◌≡◌, ◌≢◌, ℕ, pos, suc, Bool, true, false, List, [], ◌∷◌, ◌++◌, map, length, refl}
use Rattle.std.proofs.Common.{sym, ap, ◌∙◌, subst, arith, inl, inr}
use Rattle.std.proofs.lemmas.List.{length-map}
use Rattle.rbu_value.specs.declared.value.Value.{Value}
use Rattle.rbu_value.specs.declared.value.Value.TheVariants.{Null, Int, Text, Blob}
use Rattle.common_spec.specs.Reading.{OrFault}
use Rattle.common_spec.specs.ReadingLaws.{IsOne, OrFault-one}
use Rattle.rbu_rows.specs.declared.control.Control.{Control}
use Rattle.rbu_rows.specs.declared.control.Control.TheVariants.{Insert, Replace, Delete, Update}
use Rattle.rbu_rows.specs.declared.control.ControlFault.{ControlFault}
use Rattle.rbu_rows.specs.declared.control.ControlFault.TheVariants.{ControlValue, ControlLength, ControlLetter, DeltaColumn, Memory}
use Rattle.rbu_rows.specs.Controls.{IsControl, HasFault, LetterHasFault, FirstHasFault, TextHasFault, letter_of}

-- letters are those of one list of marks
same_marks : (a b : List Bool) → map letter_of a ≡ map letter_of b → a ≡ b
same_marks [] [] e = refl
same_marks [] (n ∷ b) e = absurd (cc)
same_marks (m ∷ a) [] e = absurd (cc)
same_marks (true ∷ a) (true ∷ b) e = ap (λ x. true ∷ x) (same_marks a b (cc))
same_marks (true ∷ a) (false ∷ b) e = absurd (let h : ◌≡◌ {A = ℕ} 120 46 = cc in omega (arith, h))
same_marks (false ∷ a) (true ∷ b) e = absurd (let h : ◌≡◌ {A = ℕ} 46 120 = cc in omega (arith, h))
same_marks (false ∷ a) (false ∷ b) e = ap (λ x. false ∷ x) (same_marks a b (cc))

-- a value is one control
pub one_control : (value : Value) (columns : ℕ) → IsOne (IsControl value columns)
one_control value columns Insert Insert p q = refl
one_control value columns Replace Replace p q = refl
one_control value columns Delete Delete p q = refl
one_control value columns (Update a) (Update b) p q = ap Update (same_marks a b (let e : Text (map letter_of a) ≡ Text (map letter_of b) = sym p.0 ∙ q.0 in cc))
one_control value columns Insert Replace p q = absurd (let e : Int (pos 0) ≡ Int (pos 2) = sym p ∙ q in cc)
one_control value columns Insert Delete p q = absurd (let e : Int (pos 0) ≡ Int (pos 1) = sym p ∙ q in cc)
one_control value columns Insert (Update b) p q = absurd (let e : Int (pos 0) ≡ Text (map letter_of b) = sym p ∙ q.0 in cc)
one_control value columns Replace Insert p q = absurd (let e : Int (pos 2) ≡ Int (pos 0) = sym p ∙ q in cc)
one_control value columns Replace Delete p q = absurd (let e : Int (pos 2) ≡ Int (pos 1) = sym p ∙ q in cc)
one_control value columns Replace (Update b) p q = absurd (let e : Int (pos 2) ≡ Text (map letter_of b) = sym p ∙ q.0 in cc)
one_control value columns Delete Insert p q = absurd (let e : Int (pos 1) ≡ Int (pos 0) = sym p ∙ q in cc)
one_control value columns Delete Replace p q = absurd (let e : Int (pos 1) ≡ Int (pos 2) = sym p ∙ q in cc)
one_control value columns Delete (Update b) p q = absurd (let e : Int (pos 1) ≡ Text (map letter_of b) = sym p ∙ q.0 in cc)
one_control value columns (Update a) Insert p q = absurd (let e : Text (map letter_of a) ≡ Int (pos 0) = sym p.0 ∙ q in cc)
one_control value columns (Update a) Replace p q = absurd (let e : Text (map letter_of a) ≡ Int (pos 2) = sym p.0 ∙ q in cc)
one_control value columns (Update a) Delete p q = absurd (let e : Text (map letter_of a) ≡ Int (pos 1) = sym p.0 ∙ q in cc)

-- a letter with a fault is that of no mark
not_a_mark : (letter at : ℕ) (fault : ControlFault) → LetterHasFault letter at fault → (mark : Bool) → letter ≢ letter_of mark
not_a_mark letter at (ControlLetter place) h true = h.1
not_a_mark letter at (ControlLetter place) h false = h.2
not_a_mark letter at (DeltaColumn place) h true = λ e. elim h.1 [ inl d ↦ omega (arith, d, e) | inr f ↦ omega (arith, f, e) ]
not_a_mark letter at (DeltaColumn place) h false = λ e. elim h.1 [ inl d ↦ omega (arith, d, e) | inr f ↦ omega (arith, f, e) ]
not_a_mark letter at ControlValue h mark = absurd h
not_a_mark letter at (ControlLength has needs) h mark = absurd h
not_a_mark letter at (Memory error) h mark = absurd h

-- a text has one first letter of no mark
same_stop : (ms ns : List Bool) (l k : ℕ) (rs ss : List ℕ) → ((m : Bool) → l ≢ letter_of m) → ((m : Bool) → k ≢ letter_of m)
    → map letter_of ms ++ (l ∷ rs) ≡ map letter_of ns ++ (k ∷ ss) → (length ms ≡ length ns) × (l ≡ k)
same_stop [] [] l k rs ss p q e = (refl, cc)
same_stop [] (n ∷ ns) l k rs ss p q e = absurd (p n (cc))
same_stop (m ∷ ms) [] l k rs ss p q e = absurd (q m (let s = sym e in cc))
same_stop (m ∷ ms) (n ∷ ns) l k rs ss p q e = let s = same_stop ms ns l k rs ss p q (cc) in (ap suc s.0, s.1)

-- letters of marks alone have none
no_stop : (ms ns : List Bool) (k : ℕ) (ss : List ℕ) → ((m : Bool) → k ≢ letter_of m) → map letter_of ms ≡ map letter_of ns ++ (k ∷ ss) → ⊥
no_stop [] [] k ss q e = absurd (cc)
no_stop [] (n ∷ ns) k ss q e = absurd (cc)
no_stop (m ∷ ms) [] k ss q e = q m (let s = sym e in cc)
no_stop (m ∷ ms) (n ∷ ns) k ss q e = no_stop ms ns k ss q (cc)

-- a letter has one fault
one_letter_fault : (letter at : ℕ) → IsOne (LetterHasFault letter at)
one_letter_fault letter at (ControlLetter p) (ControlLetter q) h k = ap ControlLetter (h.0 ∙ sym k.0)
one_letter_fault letter at (ControlLetter p) (DeltaColumn q) h k = absurd (h.3 k.1)
one_letter_fault letter at (DeltaColumn p) (ControlLetter q) h k = absurd (k.3 h.1)
one_letter_fault letter at (DeltaColumn p) (DeltaColumn q) h k = ap DeltaColumn (h.0 ∙ sym k.0)
one_letter_fault letter at ControlValue g h k = absurd h
one_letter_fault letter at (ControlLength has needs) g h k = absurd h
one_letter_fault letter at (Memory error) g h k = absurd h
one_letter_fault letter at (ControlLetter p) ControlValue h k = absurd k
one_letter_fault letter at (ControlLetter p) (ControlLength has needs) h k = absurd k
one_letter_fault letter at (ControlLetter p) (Memory error) h k = absurd k
one_letter_fault letter at (DeltaColumn p) ControlValue h k = absurd k
one_letter_fault letter at (DeltaColumn p) (ControlLength has needs) h k = absurd k
one_letter_fault letter at (DeltaColumn p) (Memory error) h k = absurd k

one_first_fault : (text : List ℕ) → IsOne (FirstHasFault text)
one_first_fault text f g h k =
    let s = same_stop h.0 k.0 h.1 k.1 h.2 k.2 (not_a_mark h.1 (length h.0) f h.4) (not_a_mark k.1 (length k.0) g k.4) (sym h.3 ∙ k.3) in
    one_letter_fault k.1 (length k.0) f g (subst (λ at. LetterHasFault k.1 at f) s.0 (subst (λ letter. LetterHasFault letter (length h.0) f) s.1 h.4)) k.4

one_text_fault : (text : List ℕ) (columns : ℕ) → IsOne (TextHasFault text columns)
one_text_fault text columns f g (inl h) (inl k) = h.1 ∙ sym k.1
one_text_fault text columns f g (inl h) (inr k) = absurd (h.0 k.0)
one_text_fault text columns f g (inr h) (inl k) = absurd (k.0 h.0)
one_text_fault text columns f g (inr h) (inr k) = one_first_fault text f g h.1 k.1

-- a value has one fault
pub one_fault : (value : Value) (columns : ℕ) → IsOne (HasFault value columns)
one_fault Null columns f g h k = h.0 ∙ sym k.0
one_fault (Int z) columns f g h k = h.0 ∙ sym k.0
one_fault (Text text) columns f g h k = one_text_fault text columns f g h k
one_fault (Blob blob) columns f g h k = h.0 ∙ sym k.0

-- marks of a text leave no fault
no_text_fault : (text : List ℕ) (columns : ℕ) (marks : List Bool) (fault : ControlFault) → text ≡ map letter_of marks → length marks ≡ columns → ¬ TextHasFault text columns fault
no_text_fault text columns marks fault e n (inl h) = h.0 (ap length e ∙ length-map marks letter_of ∙ n)
no_text_fault text columns marks fault e n (inr h) = no_stop marks h.1.0 h.1.1 h.1.2 (not_a_mark h.1.1 (length h.1.0) fault h.1.4) (sym e ∙ h.1.3)

-- a control has no fault
pub no_fault : (value : Value) (columns : ℕ) (control : Control) (fault : ControlFault) → IsControl value columns control → ¬ HasFault value columns fault
no_fault Null columns Insert fault p h = h.1 p
no_fault Null columns Replace fault p h = h.3 p
no_fault Null columns Delete fault p h = h.2 p
no_fault Null columns (Update marks) fault p h = absurd (let e = p.0 in cc)
no_fault (Int z) columns Insert fault p h = h.1 p
no_fault (Int z) columns Replace fault p h = h.3 p
no_fault (Int z) columns Delete fault p h = h.2 p
no_fault (Int z) columns (Update marks) fault p h = absurd (let e = p.0 in cc)
no_fault (Text text) columns Insert fault p h = absurd (cc)
no_fault (Text text) columns Replace fault p h = absurd (cc)
no_fault (Text text) columns Delete fault p h = absurd (cc)
no_fault (Text text) columns (Update marks) fault p h = no_text_fault text columns marks fault (let e = p.0 in cc) p.1 h
no_fault (Blob blob) columns Insert fault p h = h.1 p
no_fault (Blob blob) columns Replace fault p h = h.3 p
no_fault (Blob blob) columns Delete fault p h = h.2 p
no_fault (Blob blob) columns (Update marks) fault p h = absurd (let e = p.0 in cc)

-- a value is one control or has one fault
pub one_answer : (value : Value) (columns : ℕ) → IsOne (OrFault (IsControl value columns) (HasFault value columns))
one_answer value columns = OrFault-one (IsControl value columns) (HasFault value columns) (one_control value columns) (one_fault value columns) (no_fault value columns)
