use Rattle.index_delete_spec.specs.UnderLaws.{right-joins-under, left-joins-under, replaced-joins-under}
use Rattle.index_delete_spec.proofs.laws.neighbours_are_joined.Goals as goal

pub returns-clause-right : goal.returns-clause-right
returns-clause-right c sizes page old cells right front cell back page_kind mid given written middle only beside last grew ends out has parts of is_cell =
    right-joins-under sizes page old cells right front cell back has parts page_kind of mid given written middle is_cell only beside last grew ends out

pub returns-clause-left : goal.returns-clause-left
returns-clause-left c sizes page old cells right front cell back page_kind mid given written middle only beside last grew out has parts of is_cell =
    left-joins-under sizes page old cells right front cell back has parts page_kind of mid given written middle is_cell only beside last grew out

pub returns-clause-replaced : goal.returns-clause-replaced
returns-clause-replaced c sizes page old cells right front cell back page_kind mid given written middle only beside last grew taken has parts of is_cell =
    replaced-joins-under sizes page old cells right front cell back has parts page_kind of mid given written middle is_cell only beside last grew taken
