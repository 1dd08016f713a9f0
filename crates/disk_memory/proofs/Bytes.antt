-- A text that grows by zeros and is then written over.
use Rattle.std.proofs.Common.{◌≡◌, ◌≤◌, ◌<◌, ℕ, ◌+◌, ◌-◌, List, ◌++◌, length, take, drop, replicate, inl, inr, sym, ap, ◌∙◌, arith}
use Rattle.std.proofs.lemmas.Bool.{cases_lt}
use Rattle.std.proofs.lemmas.List.{take-append-le, take-replicate, drop_all, take_all, append-nil, length-append, length-replicate}
use Rattle.std.proofs.Math.Seq.{take-append-add}
use Rattle.byte_fields.specs.Bytes.{overwritten}

take-within : (old more : List ℕ) (at : ℕ) → at ≤ length old → take at (old ++ more) ≡ take at old ++ replicate (at - length old) 0
take-within old more at h =
    let none : at - length old ≡ 0 = omega arith in
    rw (take-append-le at old more, none) (sym (append-nil (take at old)))

take-past : (old : List ℕ) (at n : ℕ) → at ≤ n → length old < at → take at (old ++ replicate (n - length old) 0) ≡ take at old ++ replicate (at - length old) 0
take-past old at n within past =
    let split : at ≡ length old + (at - length old) = omega arith in
    let shorter : at - length old ≤ n - length old = omega arith in
    let whole : take at old ≡ old = take_all at old (omega arith) in
    ap (λ k. take k (old ++ replicate (n - length old) 0)) split
    ∙ take-append-add old (replicate (n - length old) 0) (at - length old)
    ∙ ap (λ zeros. old ++ zeros) (take-replicate (at - length old) (n - length old) 0 shorter)
    ∙ ap (λ front. front ++ replicate (at - length old) 0) (sym whole)

-- zeros that are cut, where there are enough of them
take-grown : (old : List ℕ) (at n : ℕ) → at ≤ n → take at (old ++ replicate (n - length old) 0) ≡ take at old ++ replicate (at - length old) 0
take-grown old at n within = elim (cases_lt (length old) at) [ inl past ↦ take-past old at n within past | inr h ↦ take-within old (replicate (n - length old) 0) at h ]

-- behind the zeros stands nothing, and without zeros what stood there
drop-grown : (old : List ℕ) (n : ℕ) → drop n (old ++ replicate (n - length old) 0) ≡ drop n old
drop-grown old n =
    elim (cases_lt (length old) n) [
      | inl past ↦
          let whole : length (old ++ replicate (n - length old) 0) ≤ n = omega (arith, length-append old (replicate (n - length old) 0), length-replicate {A = ℕ}) in
          drop_all n (old ++ replicate (n - length old) 0) whole ∙ sym (drop_all n old (omega arith))
      | inr h ↦ let none : n - length old ≡ 0 = omega arith in rw none (ap (drop n) (append-nil old))
    ]

-- the bytes that stand after a text was grown to hold them and then written over
pub overwritten-by_parts : (old bytes grown new : List ℕ) (at : ℕ) → grown ≡ old ++ replicate (at + length bytes - length old) 0 → new ≡ take at grown ++ bytes ++ drop (at + length bytes) grown → new ≡ overwritten old at bytes
overwritten-by_parts old bytes grown new at grows written =
    written
    ∙ ap (λ text. take at text ++ bytes ++ drop (at + length bytes) text) grows
    ∙ ap (λ front. front ++ bytes ++ drop (at + length bytes) (old ++ replicate (at + length bytes - length old) 0)) (take-grown old at (at + length bytes) (omega arith))
    ∙ ap (λ back. take at old ++ replicate (at - length old) 0 ++ bytes ++ back) (drop-grown old (at + length bytes))
