use Rattle.index_delete_spec.specs.UnderLaws.{replaced-under}
use Rattle.index_delete_spec.proofs.laws.entry_takes_the_place_of_another.Goals as goal

pub returns : goal.returns
returns c sizes page old cells right front cell back taken middle between grew has parts = replaced-under sizes page old cells right front cell back has parts taken middle between grew
