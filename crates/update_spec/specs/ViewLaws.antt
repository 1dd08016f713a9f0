-- A reader of the files sees one list of pages: crates above cite these facts in their proofs.
use Rattle.std.proofs.Common.{◌≡◌, ℕ, List, Option, Some, None, [], sym, subst, unwrap_or}
use Rattle.file_spec.specs.declared.FileName.TheVariants.{Target, Wal}
use Rattle.file_spec.specs.Files.{Files, content}
use Rattle.format_spec.specs.PageMap.{PageMap, SamePages, file_pages}
use Rattle.format_spec.specs.PageMapLaws.{SamePages-sym, SamePages-trans}
use Rattle.format_spec.specs.Log.{Frame, committed, overlay, IsOverlay}
use Rattle.format_spec.specs.LogLaws.{log-same, overlay-same}
use Rattle.update_spec.specs.View.{pages_below, IsOverlaidBy, IsView, KeepsView}

-- a file overlaid by a log, or by none, has one list of pages
same_overlaid : (log : Option (List ℕ)) (file : List ℕ) (a b : PageMap) → IsOverlaidBy log file a → IsOverlaidBy log file b → SamePages a b
same_overlaid None file a b v w = SamePages-trans a (file_pages file) b (SamePages-sym (file_pages file) a v) w
same_overlaid (Some log) file a b v w =
    let one = log-same log v.0 w.0 v.1 w.1 v.2 w.2 in
    let size : v.0 ≡ w.0 = one.0 in
    let frames : v.1 ≡ w.1 = one.1 in
    let sized : IsOverlay (pages_below w.0 (committed v.1) file) v.1 a = subst (λ (n : ℕ). IsOverlay (pages_below n (committed v.1) file) v.1 a) size v.3 in
    let framed : IsOverlay (pages_below w.0 (committed w.1) file) w.1 a = subst (λ (f : List Frame). IsOverlay (pages_below w.0 (committed f) file) f a) frames sized in
    overlay-same (pages_below w.0 (committed w.1) file) w.1 a b framed w.3

-- what agrees on the pages that matter is as good
overlaid-same : (log : Option (List ℕ)) (file : List ℕ) (a b : PageMap) → IsOverlaidBy log file a → SamePages a b → IsOverlaidBy log file b
overlaid-same None file a b v same = SamePages-trans (file_pages file) a b v same
overlaid-same (Some log) file a b v same =
    (v.0, v.1, v.2, SamePages-trans (overlay (pages_below v.0 (committed v.1) file) v.1) a b v.3 same)

-- the view is one, as far as its pages matter
pub view-one : (files : Files) (a b : PageMap) → IsView files a → IsView files b → SamePages a b
view-one files a b v w = same_overlaid (files Wal) (content files Target) a b v w

-- and whatever has these pages is the view
pub view-same : (files : Files) (a b : PageMap) → IsView files a → SamePages a b → IsView files b
view-same files a b v same = overlaid-same (files Wal) (content files Target) a b v same

-- files that are the same show the same
pub KeepsView-same : (before after : Files) → after ≡ before → KeepsView before after
KeepsView-same before after e = subst (KeepsView before) (sym e) (λ pages. ((λ seen. seen), (λ seen. seen)))

-- a reader looks at the target and the write-ahead log alone
pub KeepsView-parts : (before other after : Files) → after Target ≡ other Target → after Wal ≡ other Wal → KeepsView before other → KeepsView before after
KeepsView-parts before other after target wal keeps pages =
    let below : IsOverlaidBy (other Wal) (content other Target) pages → IsOverlaidBy (after Wal) (content after Target) pages =
    λ seen. subst (λ (log : Option (List ℕ)). IsOverlaidBy log (content after Target) pages) (sym wal) (subst (λ (file : Option (List ℕ)). IsOverlaidBy (other Wal) (unwrap_or file []) pages) (sym target) seen) in
    let above : IsOverlaidBy (after Wal) (content after Target) pages → IsOverlaidBy (other Wal) (content other Target) pages =
    λ seen. subst (λ (log : Option (List ℕ)). IsOverlaidBy log (content other Target) pages) wal (subst (λ (file : Option (List ℕ)). IsOverlaidBy (after Wal) (unwrap_or file []) pages) target seen) in
    ((λ seen. below ((keeps pages).0 seen)), (λ seen. (keeps pages).1 (above seen)))
