use Rattle.std.proofs.Common.{sym, ◌∙◌}
use Rattle.std.proofs.lemmas.Bool.{true≢false, OnTrue_from, OnFalse_from}
use Rattle.std.proofs.lemmas.Bool.Decides.{Decides-eqb}
use Rattle.std.proofs.lemmas.Slice.Eq.{starts_is}
use Rattle.wal_codec.proofs.frames.starts_with.Goals as goal

pub returns-clause-begins : goal.returns-clause-begins
returns-clause-begins c =
    OnTrue_from c.starts_with.result _ (starts_is Decides-eqb c.args.bytes.now c.args.front.now c.starts_with.result c.starts_with.ensures.value).0

pub returns-clause-differs : goal.returns-clause-differs
returns-clause-differs c =
    OnFalse_from c.starts_with.result _ (λ differs rest is.
    true≢false (sym ((starts_is Decides-eqb c.args.bytes.now c.args.front.now c.starts_with.result c.starts_with.ensures.value).1 rest is) ∙ differs))
