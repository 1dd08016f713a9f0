use Rattle.dump_spec.specs.TableDumpsLaws.{plain-printed, printed-plain}
use Rattle.dump_spec.proofs.laws.plain_tables_are_printed.Goals as goal

pub returns-clause-printed : goal.returns-clause-printed
returns-clause-printed c = λ sizes base name catalog named table rows has found plain. plain-printed sizes base name catalog has named found table rows plain

pub returns-clause-plain : goal.returns-clause-plain
returns-clause-plain c = λ sizes base name catalog named text has found is. printed-plain sizes base name catalog has named found text is
