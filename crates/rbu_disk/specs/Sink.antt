-- What a function over an output says of it. Each word takes the output's members, as `O.Sink`, and the output before and after.
use Rattle.std.specs.Prelude.{◌≡◌, ◌≤◌, ◌++◌, List, ℕ, Result, MatchResult}
use Rattle.common_spec.specs.Counts.{Rises}
use Rattle.common_spec.specs.Told.{Leads}
use Rattle.rbu_disk.specs.declared.sink.Sink.{Ghosts}
use Rattle.rbu_disk.specs.Call.{GrewByPrefix}

module _ {O : Type 0} (g : Ghosts O) where
  -- the output took all of the bytes, and did not fail
  pub record Took (before after : O) (bytes : List ℕ) : Type 0 where
    pub text : Leads (λ text now. now ≡ text ++ bytes) (g.written before) (g.written after)
    pub still : g.faults after ≡ g.faults before

  -- the output failed, and took a prefix of the bytes
  pub record TookPart (before after : O) (bytes : List ℕ) : Type 0 where
    pub text : Leads (GrewByPrefix bytes) (g.written before) (g.written after)
    pub rose : Rises (g.faults before) (g.faults after)
    pub later : g.faults before ≤ g.faults after

  -- the one or the other, as the result says
  abbrev pub Takes : {T E : Type 0} → O → O → Result T E → List ℕ → Type 0
  Takes before after result bytes = MatchResult result (λ _. Took before after bytes) (λ _. TookPart before after bytes)
