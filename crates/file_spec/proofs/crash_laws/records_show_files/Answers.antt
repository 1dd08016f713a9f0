use Rattle.file_spec.specs.Records.{Stored}
use Rattle.file_spec.specs.Steps.{Written, LengthSet}
use Rattle.std.proofs.Common.{◌≡◌}
use Rattle.file_spec.specs.RecordsLaws.{shown-image}
use Rattle.file_spec.specs.StepsLaws.{sound-changes, sound-written, sound-length, sound-same, sound-synced, sound-removed, sound-renamed, sound-settled}
use Rattle.file_spec.specs.ShownLaws.{shown-changes, shown-written, shown-length, shown-created, shown-synced, shown-removed, shown-renamed, shown-settled}
use Rattle.file_spec.proofs.crash_laws.records_show_files.Goals as goal

pub returns-clause-image : goal.returns-clause-image
returns-clause-image c = shown-image

pub returns-clause-written : goal.returns-clause-written
returns-clause-written c name at bytes r q sound changes =
    let after = sound-changes (Written at bytes) name r q (sound-written at bytes) sound changes in
    (after, shown-written name at bytes r q (shown-changes (Written at bytes) name r q sound after changes))

pub returns-clause-length_set : goal.returns-clause-length_set
returns-clause-length_set c name n r q sound changes =
    let after = sound-changes (LengthSet n) name r q (sound-length n) sound changes in
    (after, shown-length name n r q (shown-changes (LengthSet n) name r q sound after changes))

pub returns-clause-created : goal.returns-clause-created
returns-clause-created c name r q sound changes =
    let after = sound-changes (λ (s t : Stored). t ≡ s) name r q sound-same sound changes in
    (after, shown-created name r q (shown-changes (λ (s t : Stored). t ≡ s) name r q sound after changes))

pub returns-clause-synced : goal.returns-clause-synced
returns-clause-synced c r name sound = (sound-synced r (r.names name) sound, shown-synced r name sound)

pub returns-clause-removed : goal.returns-clause-removed
returns-clause-removed c r name sound = (sound-removed r name (r.names name) sound, shown-removed r name)

pub returns-clause-renamed : goal.returns-clause-renamed
returns-clause-renamed c r from to sound = (sound-renamed r from to sound, shown-renamed r from to)

pub returns-clause-settled : goal.returns-clause-settled
returns-clause-settled c r sound = (sound-settled r sound, shown-settled r)
