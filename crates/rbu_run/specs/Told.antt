-- How the program tells an answer.
use Rattle.std.specs.Prelude.{◌≡◌, ◌⊎◌, ℕ}
use Rattle.rbu_disk.specs.declared.sink.Sink.{Ghosts}
use Rattle.rbu_disk.specs.Sink.{Took, TookPart}
use Rattle.update_spec.specs.declared.Answer.{Answer}
use Rattle.update_spec.specs.Text.{answer_text, answer_status, output_fault_status}

-- The output took the answer's text, and the status is the answer's; or the output failed.
abbrev pub IsTold : {O : Type 0} → Ghosts O → Answer → O → O → ℕ → Type 0
IsTold o answer before after status =
    ((status ≡ answer_status answer) × Took o before after (answer_text answer))
    ⊎ ((status ≡ output_fault_status) × TookPart o before after (answer_text answer))
