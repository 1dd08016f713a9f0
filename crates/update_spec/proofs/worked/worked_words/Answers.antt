use Rattle.std.proofs.Common.{◌≡◌, ℕ, List, [], ◌∷◌, length, codes, refl, ap, ◌∙◌, arith}
use Rattle.update_spec.specs.declared.Command.{Command}
use Rattle.update_spec.specs.declared.Command.TheVariants.{Apply, State, Check, Dump, Make, Trial, Beside}
use Rattle.update_spec.specs.Words.{AreWords, AsksQuestion, Dumps, Checks}
use Rattle.update_spec.proofs.worked.worked_words.Goals as goal

-- the first letter of the first word
abbrev letter : List (List ℕ) → ℕ
letter [] = 0
letter ([] ∷ words) = 0
letter ((byte ∷ word) ∷ words) = byte

pub returns-clause-table : goal.returns-clause-table
returns-clause-table c = (codes "t1", refl)

-- the words of the state ask no question
state-no_question : ¬ AsksQuestion (codes "state" ∷ [])
state-no_question (Dumps name, are) = let letters : 115 ≡ 100 = ap letter are in omega (arith, letters)
state-no_question (Checks, are) = let letters : 115 ≡ 99 = ap letter are in omega (arith, letters)

pub returns-clause-state : goal.returns-clause-state
returns-clause-state c = (λ asks. let letters : 115 ≡ 97 = ap letter asks.1 in omega (arith, letters), state-no_question, (State, refl))

-- no command has the one word
nameless : (command : Command) → ¬ AreWords (codes "dump" ∷ []) command
nameless (Apply steps) are = let letters : 100 ≡ 97 = ap letter are.1 in omega (arith, letters)
nameless State are = let letters : 100 ≡ 115 = ap letter are in omega (arith, letters)
nameless Check are = let letters : 100 ≡ 99 = ap letter are in omega (arith, letters)
nameless Dump are = let many : 1 ≡ 2 = ap length are.1 in omega (arith, many)
nameless (Make count seed) are = let letters : 100 ≡ 109 = ap letter are.2 in omega (arith, letters)
nameless (Trial count seed steps) are = let letters : 100 ≡ 116 = ap letter are.3 in omega (arith, letters)
nameless (Beside readers reads) are = let letters : 100 ≡ 98 = ap letter are.2 in omega (arith, letters)

pub returns-clause-nameless : goal.returns-clause-nameless
returns-clause-nameless c = nameless
