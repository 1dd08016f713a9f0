-- What every call on a device owes, said of the device's own members.
use Rattle.std.specs.Prelude.{◌≡◌, ◌++◌, ℕ, List, Option, Some, Result, IfErr, MatchResult}
use Rattle.common_spec.specs.Counts.{Rises, CountsFaults}
use Rattle.common_spec.specs.Told.{Leads}
use Rattle.file_spec.specs.declared.FileName.{FileName}
use Rattle.file_spec.specs.declared.DiskCall.{DiskCall}
use Rattle.rbu_disk.specs.declared.disk.DiskFault.{DiskFault}
use Rattle.rbu_disk.specs.declared.sink.SinkFault.{SinkFault}

-- the calls of a disk that failed: how many there were, and the fault of the last
pub record Failures : Type 0 where
  pub count : ℕ
  pub last : Option DiskFault

-- a call failed, and this is the fault of the last one that did
pub record Fails (before now : Failures) (fault : DiskFault) : Type 0 where
  pub rose : Rises before.count now.count
  pub last : now.last ≡ Some fault

-- The failures of a disk are counted, with the fault of the last. A fault names the file and the call.
pub record HasCause {T : Type 0} (before now : Failures) (name : FileName) (call : DiskCall) (result : Result T DiskFault) : Type 0 where
  pub counts : CountsFaults (λ (failures : Failures). failures.count) Fails before now result
  pub names : IfErr result (λ fault. fault ≡ record { file = name; call = call })

-- the call led by the first relation where it ended well, and by the second where it failed
abbrev pub LeadsBy : {S T E : Type 0} → Result T E → (S → S → Type 0) → (S → S → Type 0) → Option S → Option S → Type 0
LeadsBy result Done Failed before after = MatchResult result (λ _. Leads Done before after) (λ _. Leads Failed before after)

-- the faults of an output are counted
abbrev pub CountsSinkFaults : {T : Type 0} → ℕ → ℕ → Result T SinkFault → Type 0
CountsSinkFaults before now result = CountsFaults (λ (faults : ℕ). faults) (λ (f n : ℕ) (e : SinkFault). Rises f n) before now result

-- the text grew by a prefix of the bytes
abbrev pub GrewByPrefix : List ℕ → List ℕ → List ℕ → Type 0
GrewByPrefix bytes before after = (prefix : List ℕ) × (rest : List ℕ) × (bytes ≡ prefix ++ rest) × (after ≡ before ++ prefix)
