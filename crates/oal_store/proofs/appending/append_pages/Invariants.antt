use Rattle.std.proofs.Common.{◌≡◌, ◌+◌, ◌%◌, ◌≤◌, length}
use Rattle.std.specs.List.{All}
use Rattle.file_spec.specs.declared.FileName.TheVariants.{Oal}
use Rattle.file_spec.specs.Files.{Files, OnlyChanges}
use Rattle.rbu_disk.specs.Disk.{AllowsAll, Goes, GoesOn}
use Rattle.format_spec.specs.Log.{pair_of, frames_bytes, sums_behind}
use Rattle.oal_store.specs.Appending.{Appends, frames_of}
use Rattle.oal_store.specs.Growing.{KeepsGrowing}
use Rattle.oal_store.proofs.appending.append_pages.Given as goal

abbrev pub invariant-loop-number : goal.invariant-loop-number
invariant-loop-number g l =
    let big = l.log.big in
    let salt = pair_of l.log.salt in
    let all = frames_of l.commit l.pages.entries in
    let rest = frames_of l.commit l.number-iterator in
    record {
      done : Goes g.D.Disk l.fn.disk l.disk (λ f h. (k : Files) → Appends l.end.size (frames_bytes big salt (pair_of l.end.sums) rest) h k → Appends l.log.size (frames_bytes big salt (pair_of l.log.sums) all) f k);
      size : l.log.size + length (frames_bytes big salt (pair_of l.log.sums) all) ≡ l.end.size + length (frames_bytes big salt (pair_of l.end.sums) rest);
      sums : sums_behind big (pair_of l.log.sums) all ≡ sums_behind big (pair_of l.end.sums) rest;
      count : l.left ≡ length l.number-iterator;
      words : All (λ page. length page.1.items % 8 ≡ 0) l.number-iterator;
      from : l.log.size ≤ l.end.size;
      only : Goes g.D.Disk l.fn.disk l.disk (OnlyChanges Oal);
      moments : GoesOn g.D.Disk l.fn.disk l.disk (KeepsGrowing l.log.size);
      test : g.D.Disk.test l.disk ≡ g.D.Disk.test l.fn.disk;
      allows : AllowsAll g.D.Disk l.fn.disk → AllowsAll g.D.Disk l.disk;
      still : g.D.Disk.failures l.disk ≡ g.D.Disk.failures l.fn.disk;
    }
