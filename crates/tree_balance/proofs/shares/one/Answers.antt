use Rattle.std.proofs.Common.{rules, ◌≡◌, ◌<◌, List, [], ◌∷◌, length}
use Rattle.std.proofs.Math.Path.{subst⁻¹}
use Rattle.tree_balance.specs.declared.share.Share.{Share}
use Rattle.tree_balance.specs.Shares.{AreLaid}
use Rattle.tree_balance.proofs.Laying.{laid-one, laid-none}
use Rattle.tree_balance.proofs.shares.one.Goals as goal
use Rattle.tree_balance.proofs.shares.one.Goals.{then-not-is_empty+in_ok-push, else-not-is_empty}

pub returns : goal.returns
returns c up room first fits =
    elim c.if-not-is_empty.branch [
      | then-not-is_empty+in_ok-push w ↦
          let are : c.if-not-is_empty.shares.items ≡ w.share.result ∷ [] = cc (w.in_ok-push.ensures.items) in
          let some : 0 < length c.args.cells.now = search rules in
          subst⁻¹ (λ (l : List Share). AreLaid c.args.cells.now up room 0 first l) are
          (laid-one c.args.cells.now up room first w.share.result w.share.ensures.from w.share.ensures.to some fits)
      | else-not-is_empty w ↦
          let are : c.if-not-is_empty.shares.items ≡ [] = cc in
          let none : length c.args.cells.now ≡ 0 = search rules in
          subst⁻¹ (λ (l : List Share). AreLaid c.args.cells.now up room 0 first l) are (laid-none c.args.cells.now up room first none)
    ]
