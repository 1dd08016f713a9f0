-- Pages that agree as far as they matter are the same: crates above cite these facts in their proofs.
use Rattle.std.proofs.Common.{refl, sym, ◌∙◌, arith}
use Rattle.format_spec.specs.PageMap.{PageMap, SamePages}

pub SamePages-itself : (a : PageMap) → SamePages a a
SamePages-itself a = record { size = refl; count = refl; each = λ n low high. refl }

pub SamePages-sym : (a b : PageMap) → SamePages a b → SamePages b a
SamePages-sym a b same = record {
  size = sym same.size;
  count = sym same.count;
  each = λ n low high. sym (same.each n low (omega (arith, same.count)));
}

pub SamePages-trans : (a b c : PageMap) → SamePages a b → SamePages b c → SamePages a c
SamePages-trans a b c first second = record {
  size = first.size ∙ second.size;
  count = first.count ∙ second.count;
  each = λ n low high. first.each n low high ∙ second.each n low (omega (arith, first.count));
}
