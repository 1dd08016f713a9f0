use Rattle.std.proofs.Common.{ℕ, ◌<◌, drop}
use Rattle.rbu_value.proofs.Words.{BeginsWith}
use Rattle.rbu_value.proofs.affinity.mentions.Given as goal

abbrev pub invariant-loop-at : goal.invariant-loop-at
invariant-loop-at l = (k : ℕ) → k < l.at → ¬ (BeginsWith (drop k l.text) l.word)
