use Rattle.std.proofs.Common.{◌≡◌, ◌≤◌, take, vec_len}
use Rattle.std.specs.List.{All}
use Rattle.page_store.proofs.plain.grow.Given as goal

abbrev pub invariant-loop : goal.invariant-loop
invariant-loop l = record {
  whole : All (λ page. vec_len page ≡ l.page_size) l.pages.items;
  few : l.counter ≤ l.count;
  count : vec_len l.pages ≡ l.counter;
  from : vec_len l.fn.pages ≤ l.counter;
  kept : take (vec_len l.fn.pages) l.pages.items ≡ l.fn.pages.items;
}
