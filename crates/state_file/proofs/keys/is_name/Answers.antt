use Rattle.std.proofs.Common.{Some, None, refl, inl, inr}
use Rattle.state_file.proofs.keys.is_name.Goals as goal

pub returns-in-Null-2 : goal.returns-in-Null-2
returns-in-Null-2 c = (λ t. elim c.in-Null.is [ inl null ↦ (None, null) | inr text ↦ (Some text.0, text.1) ], λ name. refl)
