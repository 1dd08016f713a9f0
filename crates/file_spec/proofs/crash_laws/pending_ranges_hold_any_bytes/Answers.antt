use Rattle.file_spec.specs.RecordsLaws.{untouched_byte, firm_bytes, others-stay}
use Rattle.file_spec.specs.StepsLaws.{torn-may, cut-may, cut_and_grown, renamed-stored}
use Rattle.file_spec.proofs.crash_laws.pending_ranges_hold_any_bytes.Goals as goal

pub returns-clause-written : goal.returns-clause-written
returns-clause-written c = torn-may

pub returns-clause-length_set : goal.returns-clause-length_set
returns-clause-length_set c = cut-may

pub returns-clause-cut_and_grown : goal.returns-clause-cut_and_grown
returns-clause-cut_and_grown c = cut_and_grown

pub returns-clause-untouched : goal.returns-clause-untouched
returns-clause-untouched c = untouched_byte

pub returns-clause-firm : goal.returns-clause-firm
returns-clause-firm c = firm_bytes

pub returns-clause-others : goal.returns-clause-others
returns-clause-others c = others-stay

pub returns-clause-moves : goal.returns-clause-moves
returns-clause-moves c = renamed-stored
