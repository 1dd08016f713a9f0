use Rattle.std.proofs.Common.{◌≡◌, ◌<◌, ◌≤◌, ℕ}
use Rattle.std.specs.List.{All}
use Rattle.page_spec.specs.Counts.{times}
use Rattle.page_tests.proofs.chains.numbers.Given as goal

abbrev pub invariant-loop-number : goal.invariant-loop-number
invariant-loop-number l = record {
  once : (n : ℕ) → times n l.pages.items ≤ 1;
  below : (n : ℕ) → l.number ≤ n → times n l.pages.items ≡ 0;
  within : All (λ n. (2 ≤ n) × (n < l.number)) l.pages.items;
}
