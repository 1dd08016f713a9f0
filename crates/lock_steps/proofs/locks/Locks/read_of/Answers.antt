use Rattle.std.proofs.Common.{◌≡◌, ◌==◌, rules, tests, Option, Some, None, refl, ◌∙◌, Bor}
use Rattle.std.specs.Option.{option_copied, option_map}
use Rattle.std.proofs.lemmas.Iterator.{YieldsList-from_slice}
use Rattle.std.proofs.lemmas.Iterator.Search.{find_from_yields_List}
use Rattle.lock_steps.proofs.locks.Locks.read_of.Goals as goal

-- what is copied is what stands behind the reference
option_copied-map : {T : Type 0} (o : Option (Bor T)) → option_copied o ≡ option_map (λ x. x.now) o
option_copied-map None = refl
option_copied-map (Some x) = refl

pub returns : goal.returns
returns c =
    c.copied.ensures ∙ option_copied-map c.find.result
    ∙ find_from_yields_List (λ read. read.reader == c.args.r) _ _ c.find.result c.find.ensures.ran
    (YieldsList-from_slice c.args.self.now.reads cc) (λ x b q k. search (rules, tests))
