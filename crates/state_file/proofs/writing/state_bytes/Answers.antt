use Rattle.std.proofs.Common.{◌≡◌, ◌≤◌, List, subst, sym}
use Rattle.rbu_value.specs.declared.value.Value.{Value}
use Rattle.state_file.specs.StateFile.{rows_from, leaf_room}
use Rattle.state_file.proofs.StateRoom.{state-room}
use Rattle.state_file.proofs.writing.state_bytes.Goals as goal

pub write_file-requires-clause-room : goal.write_file-requires-clause-room
write_file-requires-clause-room c =
    let P : List Value → Type 0 = λ values. leaf_room (rows_from 1 values) ≤ 4096 in
    subst P (sym c.lend_state-values.ensures) (state-room c.args.state.now c.requires)
