-- Where a word stands in a text.
use Rattle.std.proofs.Common.{◌≡◌, ℕ, ◌+◌, ◌<◌, List, length, take, drop, map, ◌++◌, refl, sym, ap, ◌∙◌, arith}
use Rattle.std.proofs.lemmas.List.{take-append-drop, map-append, take-map, drop-map, take_at, drop_at, length-map, length-append}
use Rattle.std.specs.Char.{to_ascii_lowercase}
use Rattle.rbu_value.specs.Affinity.{Mentions}

abbrev pub BeginsWith : List ℕ → List ℕ → Type 0
BeginsWith text word = (rest : List ℕ) × (map to_ascii_lowercase text ≡ map to_ascii_lowercase word ++ rest)

abbrev lower : List ℕ → List ℕ
lower = map to_ascii_lowercase

-- a text whose front is the word begins with it
pub BeginsWith-from_front : (text word : List ℕ) (n : ℕ) → lower (take n text) ≡ lower word → BeginsWith text word
BeginsWith-from_front text word n e =
    (lower (drop n text), ap lower (sym (take-append-drop n text)) ∙ map-append to_ascii_lowercase (take n text) (drop n text) ∙ ap (λ front. front ++ lower (drop n text)) e)

-- the front of a text that begins with the word is the word
pub BeginsWith-front : (text word : List ℕ) → BeginsWith text word → lower (take (length word) text) ≡ lower word
BeginsWith-front text word (rest, e) =
    sym (take-map to_ascii_lowercase (length word) text) ∙ ap (take (length word)) e ∙ take_at (lower word) rest (length word) (length-map word to_ascii_lowercase)

-- a text that begins with the word at some place mentions it
pub Mentions-from_place : (text word : List ℕ) (at : ℕ) → BeginsWith (drop at text) word → Mentions text word
Mentions-from_place text word at (rest, e) =
    (lower (take at text), rest, ap lower (sym (take-append-drop at text)) ∙ map-append to_ascii_lowercase (take at text) (drop at text) ∙ ap (λ back. lower (take at text) ++ back) e)

-- a text that mentions the word begins with it at some place
pub Mentions-place : (text word : List ℕ) → 0 < length word → Mentions text word → (at : ℕ) × (at < length text) × BeginsWith (drop at text) word
Mentions-place text word some (front, rest, e) =
    let whole : length text ≡ length front + (length word + length rest) =
    sym (length-map text to_ascii_lowercase) ∙ ap length e ∙ length-append front (lower word ++ rest) ∙ ap (λ n. length front + n) (length-append (lower word) rest ∙ ap (λ n. n + length rest) (length-map word to_ascii_lowercase))
    in
    (length front, omega arith, (rest, sym (drop-map to_ascii_lowercase (length front) text) ∙ ap (drop (length front)) e ∙ drop_at front (lower word ++ rest) (length front) refl))
