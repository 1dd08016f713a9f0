use Rattle.std.proofs.Common.{sym, ◌∙◌}
use Rattle.disk_memory.proofs.Replays.{named-within, stands-synced, stands-unsynced}
use Rattle.std.proofs.lemmas.Result.{on_ok_weaker}
use Rattle.disk_memory.proofs.replay.Replay.sync.Goals as goal

pub sync_file-requires : goal.sync_file-requires
sync_file-requires c =
    named-within c.args.self.now c.add_file.new.self c.in_ok-add_file.field-0 c.requires.stands.0 c.in_ok-add_file.ensures c.requires.stands.1 c.requires.stands.2 c.args.name c.in-Some.id (sym c.number_of.ensures ∙ c.in-Some.is)

pub returns-in-Some : goal.returns-in-Some
returns-in-Some c = on_ok_weaker c.sync_file.result (λ sets t fine stands.
    stands-synced c.args.self.now c.add_file.new.self c.in_ok-add_file.field-0 t c.in_ok-add_file.ensures fine stands c.args.name c.in-Some.id c.sync_file.new.files sets.0
    (sym c.number_of.ensures ∙ c.in-Some.is) sets.1 sets.2) c.sync_file.ensures

pub returns-in-None : goal.returns-in-None
returns-in-None c t fine stands =
    stands-unsynced c.args.self.now c.add_file.new.self c.in_ok-add_file.field-0 t c.in_ok-add_file.ensures fine stands c.args.name (sym c.number_of.ensures ∙ c.in-None.is)
