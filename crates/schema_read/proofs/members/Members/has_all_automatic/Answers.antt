use Rattle.std.proofs.Common.{◌≡◌, ℕ, suc, sym, ap, ◌∙◌, false, add-one}
use Rattle.database_spec.specs.RightRows.{is_automatic}
use Rattle.schema_read.specs.Found.{any_found}
use Rattle.schema_read.proofs.members.Members.has_all_automatic.Goals as goal

pub returns-then-not-branch : goal.returns-then-not-branch
returns-then-not-branch c =
    let here : any_found (is_automatic c.args.table.now (suc c.loop-at.at)) c.args.self.now ≡ false =
    ap (λ (n : ℕ). any_found (is_automatic c.args.table.now n) c.args.self.now) (sym (add-one c.loop-at.at)) ∙ sym c.in_ok-has_automatic.ensures ∙ c.if-not-branch.true in
    (λ no. absurd (let h : ⊥ = cc in h), λ all. sym here ∙ all c.loop-at.at c.loop-at-test.true)
