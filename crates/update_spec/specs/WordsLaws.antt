-- Words ask for one thing: crates above cite these facts in their proofs.
use Rattle.std.proofs.Common.{◌≡◌, ℕ, List, [], ◌∷◌, refl, sym, ap, ◌∙◌, arith}
use Rattle.update_spec.specs.Words.{Question, Dumps, Checks, Ask, AsksUpdate, AsksQuestion}

-- the first letter of the first word, and the second word
abbrev letter : List (List ℕ) → ℕ
letter [] = 0
letter ([] ∷ words) = 0
letter ((byte ∷ word) ∷ words) = byte

abbrev second : List (List ℕ) → List ℕ
second (first ∷ word ∷ words) = word
second other = []

-- the update is no question
pub update-no_question : (words : List (List ℕ)) → AsksUpdate words → ¬ AsksQuestion words
update-no_question words update (Dumps name, are) =
    let letters : 97 ≡ 100 = sym (ap letter update.1) ∙ ap letter are in
    omega (arith, letters)
update-no_question words update (Checks, are) =
    let letters : 97 ≡ 99 = sym (ap letter update.1) ∙ ap letter are in
    omega (arith, letters)

-- words ask one question
same-question : (words : List (List ℕ)) (a b : Question) → Ask words a → Ask words b → a ≡ b
same-question words (Dumps name) (Dumps other) are also = ap Dumps (sym (ap second are) ∙ ap second also)
same-question words (Dumps name) Checks are also =
    let letters : 100 ≡ 99 = sym (ap letter are) ∙ ap letter also in
    absurd (omega (arith, letters))
same-question words Checks (Dumps name) are also =
    let letters : 99 ≡ 100 = sym (ap letter are) ∙ ap letter also in
    absurd (omega (arith, letters))
same-question words Checks Checks are also = refl

pub question-one : (words : List (List ℕ)) (a b : AsksQuestion words) → a.0 ≡ b.0
question-one words a b = same-question words a.0 b.0 a.1 b.1
