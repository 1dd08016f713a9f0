use Rattle.std.proofs.Common.{◌≡◌, ℕ, ◌-◌, List, length, take, drop, true, false, IsTrue, sym, ap, ◌∙◌, subst, refl, arith}
use Rattle.std.proofs.lemmas.List.{take_rest}
use Rattle.std.proofs.lemmas.Option.{MatchOption-at_some, MatchOption-at_none}
use Rattle.state_file.specs.declared.state.KeyValues.{KeyValues}
use Rattle.state_file.specs.Reading.{HasRows}
use Rattle.state_file.specs.State.{values_by_key}
use Rattle.state_file.specs.Keys.{IsSpelled}
use Rattle.state_file.proofs.Payloads.{not-both}
use Rattle.state_file.proofs.Spelled.{Reads-none, Reads-some, spelled-rows, spelled-length, keyed-one}
use Rattle.state_file.proofs.spelling.read_values.Goals as goal

-- the rows of the second page, as a slice
second : (bytes : List ℕ) (values : KeyValues) → IsSpelled bytes values → HasRows (take (length bytes - 4096) (drop 4096 bytes)) (values_by_key values)
second bytes values spelled = subst (λ (page : List ℕ). HasRows page (values_by_key values)) (sym (take_rest bytes 4096)) (spelled-rows bytes values spelled)

pub returns-then-bytes-ne8192 : goal.returns-then-bytes-ne8192
returns-then-bytes-ne8192 c = Reads-none c.args.bytes.now (λ values spelled. absurd (c.if-bytes-ne8192.true (spelled-length c.args.bytes.now values spelled)))

pub returns-in_default : goal.returns-in_default
returns-in_default c =
    Reads-none c.args.bytes.now (λ values spelled. MatchOption-at_none _ _ c.in_default.is (c.in_ok-values.ensures (values_by_key values) (second c.args.bytes.now values spelled)))

pub returns-in_default-by_keys : goal.returns-in_default-by_keys
returns-in_default-by_keys c =
    Reads-none c.args.bytes.now (λ values spelled.
    c.in_default-by_keys.ensures.none values (sym (MatchOption-at_some _ (λ read. read.items ≡ values_by_key values) c.in-Some.values c.in-Some.is (c.in_ok-values.ensures (values_by_key values) (second c.args.bytes.now values spelled)))))

pub returns-then-is_spelled : goal.returns-then-is_spelled
returns-then-is_spelled c =
    Reads-some c.args.bytes.now c.in-Some-by_keys.keyed (c.is_spelled.ensures.0 c.if-is_spelled.true) (λ other spelled.
    keyed-one c.in-Some-by_keys.keyed other
    (c.in-Some-by_keys.ensures.found ∙ MatchOption-at_some _ (λ read. read.items ≡ values_by_key other) c.in-Some.values c.in-Some.is (c.in_ok-values.ensures (values_by_key other) (second c.args.bytes.now other spelled))))

pub returns-else-is_spelled : goal.returns-else-is_spelled
returns-else-is_spelled c =
    Reads-none c.args.bytes.now (λ other spelled.
    let same : c.in-Some-by_keys.keyed ≡ other =
    keyed-one c.in-Some-by_keys.keyed other
    (c.in-Some-by_keys.ensures.found ∙ MatchOption-at_some _ (λ read. read.items ≡ values_by_key other) c.in-Some.values c.in-Some.is (c.in_ok-values.ensures (values_by_key other) (second c.args.bytes.now other spelled))) in
    not-both c.is_spelled.result c.if-is_spelled.false (c.is_spelled.ensures.1 (subst (IsSpelled c.args.bytes.now) (sym same) spelled)))
