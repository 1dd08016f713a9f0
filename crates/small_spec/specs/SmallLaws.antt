-- What a reader sees of small files: crates above cite these facts in their proofs.
use Rattle.std.proofs.Common.{◌≡◌, ◌==◌, ℕ, true, List, [], Some, None, Option, refl, ap, ◌∙◌, sym, subst, unwrap_or, arith}
use Rattle.std.proofs.lemmas.Bool.Decides.{nat_tests}
use Rattle.format_spec.specs.Header.{page_bytes, change_counter}
use Rattle.file_spec.specs.declared.FileName.TheVariants.{Target, Wal}
use Rattle.file_spec.specs.Files.{Files, content}
use Rattle.format_spec.specs.PageMap.{SamePages, pages_of, page_count, file_pages}
use Rattle.format_spec.specs.PageMapLaws.{SamePages-itself}
use Rattle.update_spec.specs.View.{IsOverlaidBy, IsView}
use Rattle.update_spec.specs.Update.{SeesNew, IsDone}
use Rattle.small_spec.specs.SmallFile.{IsSmallHeader}
use Rattle.small_spec.specs.SmallUpdate.{AreNewBytes, IsFinished, small_inserts}

-- a number is itself
equals-itself : (n : ℕ) → (n == n) ≡ true
equals-itself n = grind (arith, nat_tests)

-- the header of a small file says pages of 4096 bytes
pub page_bytes-small : (bytes : List ℕ) → IsSmallHeader bytes → page_bytes bytes ≡ 4096
page_bytes-small bytes header = rw header.layout.0 refl

-- and two of them
pub page_count-small : (bytes : List ℕ) → IsSmallHeader bytes → page_count bytes ≡ 2
page_count-small bytes header = rw (header.state.0, header.valid, equals-itself (change_counter bytes)) refl

-- so these are its pages
pub file_pages-small : (bytes : List ℕ) → IsSmallHeader bytes → file_pages bytes ≡ pages_of 4096 2 bytes
file_pages-small bytes header =
    ap (λ (size : ℕ). pages_of size (page_count bytes) bytes) (page_bytes-small bytes header)
    ∙ ap (λ (count : ℕ). pages_of 4096 count bytes) (page_count-small bytes header)

-- a reader of a small target without a log sees its two pages
pub view-small : (files : Files) (bytes : List ℕ) → IsSmallHeader bytes → files Target ≡ Some bytes → files Wal ≡ None → IsView files (pages_of 4096 2 bytes)
view-small files bytes header target no_wal =
    let held : content files Target ≡ bytes = ap (λ (b : Option (List ℕ)). unwrap_or b []) target in
    let alone : SamePages (file_pages (content files Target)) (pages_of 4096 2 bytes) =
    rw (held, file_pages-small bytes header) (SamePages-itself (pages_of 4096 2 bytes)) in
    subst (λ (log : Option (List ℕ)). IsOverlaidBy log (content files Target) (pages_of 4096 2 bytes)) (sym no_wal) alone

-- a reader who sees the new database's bytes sees the new database
pub sees_new-bytes : (before after : Files) (bytes : List ℕ) → AreNewBytes before bytes → IsView after (pages_of 4096 2 bytes) → SeesNew small_inserts before after
sees_new-bytes before after bytes new seen =
    let due = new.new_rows in (
      (due.old, due.prepared, due.can_insert, due.none_present),
      (pages_of 4096 2 bytes, seen, (new.rows, due, (bytes, new.holds_rows, SamePages-itself (pages_of 4096 2 bytes)))),
    )

-- an update that is finished to the byte is done
pub IsFinished-done : (before after : Files) → IsFinished before after → IsDone small_inserts before after
IsFinished-done before after finished = record {
  sees_new = sees_new-bytes before after finished.bytes finished.new_bytes (view-small after finished.bytes finished.new_bytes.holds_rows.file.header finished.target finished.no_wal);
  no_oal = finished.no_oal;
  no_wal = finished.no_wal;
  others = finished.others;
}
