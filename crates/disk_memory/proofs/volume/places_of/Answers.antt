-- Each file that is taken off the end goes to its place, so at the end the first of each name stands there.
use Rattle.std.proofs.Common.{◌∙◌}
use Rattle.disk_memory.specs.Volume.{files_at}
use Rattle.disk_memory.proofs.Places.{first_entries-last_taken}
use Rattle.disk_memory.proofs.volume.places_of.Goals as goal

pub loop-name-preserved : goal.loop-name-preserved
loop-name-preserved c = λ name.
    first_entries-last_taken (λ entry. (entry.0, entry.1.items)) c.loop-name.files.items c.pop.new.self.items (c.in-Some.name, c.in-Some.bytes) c.from_vec.result (files_at c.loop-name.places) (files_at c.replace_file.new.places) c.in-Some.ensures.items c.from_vec.ensures c.replace_file.ensures.after name
    ∙ c.loop-name.invariant name

pub loop-name-preserved-in-Some : goal.loop-name-preserved-in-Some
loop-name-preserved-in-Some c = λ name.
    first_entries-last_taken (λ entry. (entry.0, entry.1.items)) c.loop-name.files.items c.pop.new.self.items (c.in-Some.name, c.in-Some.bytes) c.from_vec.result (files_at c.loop-name.places) (files_at c.replace_file.new.places) c.in-Some.ensures.items c.from_vec.ensures c.replace_file.ensures.after name
    ∙ c.loop-name.invariant name
