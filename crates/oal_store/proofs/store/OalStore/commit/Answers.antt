use Rattle.std.proofs.Common.{◌<◌, ◌≤◌, ℕ, List, IfSome, sym, ◌∙◌, subst, arith}
use Rattle.common_spec.specs.Told.{Leads}
use Rattle.common_spec.specs.ToldLaws.{told-both}
use Rattle.file_spec.specs.declared.FileName.TheVariants.{Oal}
use Rattle.file_spec.specs.OnlyChangesLaws.{only-same}
use Rattle.format_spec.specs.Log.{Frame}
use Rattle.rbu_disk.specs.DiskLaws.{records-go}
use Rattle.oal_store.specs.Growing.{HasStableLog}
use Rattle.oal_store.specs.Stored.{SameStore, HasPagesOf, KeepsLog, IsCommitted}
use Rattle.oal_store.proofs.Commits.{committed-goes, growing-from, known-after}
use Rattle.oal_store.proofs.Images.{growing-crashes, growing-still, committed-images}
use Rattle.oal_store.proofs.store.OalStore.commit.Goals as goal

pub returns-in_err-fill_grown-clause-only : goal.returns-in_err-fill_grown-clause-only
returns-in_err-fill_grown-clause-only g c = only-same Oal c.fill_grown.ensures.pages.same

pub returns-in_err-fill_first-clause-only : goal.returns-in_err-fill_first-clause-only
returns-in_err-fill_first-clause-only g c = only-same Oal (c.fill_first.ensures.pages.same ∙ c.fill_grown.ensures.pages.same)

pub returns-in_err-end-clause-crashes : goal.returns-in_err-end-clause-crashes
returns-in_err-end-clause-crashes g c =
    let same : SameStore c.args.self.now c.fill_first.new.self =
    record { log = c.fill_first.ensures.same.log ∙ c.fill_grown.ensures.same.log; count = c.fill_first.ensures.same.count ∙ c.fill_grown.ensures.same.count } in
    growing-crashes c.args.self.now (g.met.D.Disk.sound c.args.disk.now)
    (growing-from c.args.self.now c.fill_first.new.self same (c.fill_first.ensures.pages.moments ∙ c.fill_grown.ensures.pages.moments) c.write_log.ensures.moments)

pub returns-in_err-end-clause-names : goal.returns-in_err-end-clause-names
returns-in_err-end-clause-names g c =
    let same : SameStore c.args.self.now c.fill_first.new.self =
    record { log = c.fill_first.ensures.same.log ∙ c.fill_grown.ensures.same.log; count = c.fill_first.ensures.same.count ∙ c.fill_grown.ensures.same.count } in
    growing-still c.args.self.now.log.size (g.met.D.Disk.sound c.args.disk.now)
    (growing-from c.args.self.now c.fill_first.new.self same (c.fill_first.ensures.pages.moments ∙ c.fill_grown.ensures.pages.moments) c.write_log.ensures.moments)

pub returns-in_err-settle-clause-crashes : goal.returns-in_err-settle-clause-crashes
returns-in_err-settle-clause-crashes g c =
    let same : SameStore c.args.self.now c.fill_first.new.self =
    record { log = c.fill_first.ensures.same.log ∙ c.fill_grown.ensures.same.log; count = c.fill_first.ensures.same.count ∙ c.fill_grown.ensures.same.count } in
    growing-crashes c.args.self.now (g.met.D.Disk.sound c.args.disk.now)
    (growing-from c.args.self.now c.fill_first.new.self same (c.fill_first.ensures.pages.moments ∙ c.fill_grown.ensures.pages.moments) c.write_log.ensures.moments)

pub returns-in_err-settle-clause-names : goal.returns-in_err-settle-clause-names
returns-in_err-settle-clause-names g c =
    let same : SameStore c.args.self.now c.fill_first.new.self =
    record { log = c.fill_first.ensures.same.log ∙ c.fill_grown.ensures.same.log; count = c.fill_first.ensures.same.count ∙ c.fill_grown.ensures.same.count } in
    growing-still c.args.self.now.log.size (g.met.D.Disk.sound c.args.disk.now)
    (growing-from c.args.self.now c.fill_first.new.self same (c.fill_first.ensures.pages.moments ∙ c.fill_grown.ensures.pages.moments) c.write_log.ensures.moments)

pub returns-clause-done : goal.returns-clause-done
returns-clause-done g c =
    let same : SameStore c.args.self.now c.fill_first.new.self =
    record { log = c.fill_first.ensures.same.log ∙ c.fill_grown.ensures.same.log; count = c.fill_first.ensures.same.count ∙ c.fill_grown.ensures.same.count } in
    let pages : IfSome (g.D.Disk.shown c.args.disk.now) (HasPagesOf c.args.self.now c.fill_first.new.self) =
    told-both (g.D.Disk.shown c.args.disk.now) c.fill_grown.ensures.pages.same c.in_ok-fill_grown.ensures.pages.answer c.in_ok-fill_first.ensures.pages.answer (λ f p q n. q n ∙ p n) in
    committed-goes c.args.self.now c.fill_first.new.self c.settle.new.self same (c.fill_first.ensures.pages.same ∙ c.fill_grown.ensures.pages.same) pages
    c.in_ok-settle.ensures.grows c.write_log.ensures.ordered c.in_ok-fill_first.ensures.spare
    (subst (λ (n : ℕ). 0 < n) (sym same.count) (omega (arith, c.requires.some))) c.in_ok-settle.ensures.empty c.settle.ensures.count c.write_log.ensures.only c.in_ok-end.ensures.done

pub returns-clause-crashes : goal.returns-clause-crashes
returns-clause-crashes g c =
    let same : SameStore c.args.self.now c.fill_first.new.self =
    record { log = c.fill_first.ensures.same.log ∙ c.fill_grown.ensures.same.log; count = c.fill_first.ensures.same.count ∙ c.fill_grown.ensures.same.count } in
    let kept = growing-from c.args.self.now c.fill_first.new.self same (c.fill_first.ensures.pages.moments ∙ c.fill_grown.ensures.pages.moments) c.write_log.ensures.moments in
    growing-crashes c.args.self.now (g.met.D.Disk.sound c.args.disk.now) kept

pub returns-clause-names : goal.returns-clause-names
returns-clause-names g c =
    let same : SameStore c.args.self.now c.fill_first.new.self =
    record { log = c.fill_first.ensures.same.log ∙ c.fill_grown.ensures.same.log; count = c.fill_first.ensures.same.count ∙ c.fill_grown.ensures.same.count } in
    let kept = growing-from c.args.self.now c.fill_first.new.self same (c.fill_first.ensures.pages.moments ∙ c.fill_grown.ensures.pages.moments) c.write_log.ensures.moments in
    growing-still c.args.self.now.log.size (g.met.D.Disk.sound c.args.disk.now) kept

pub returns-clause-images : goal.returns-clause-images
returns-clause-images g c =
    let old = c.args.self.now in
    let new = c.settle.new.self in
    let same : SameStore c.args.self.now c.fill_first.new.self =
    record { log = c.fill_first.ensures.same.log ∙ c.fill_grown.ensures.same.log; count = c.fill_first.ensures.same.count ∙ c.fill_grown.ensures.same.count } in
    let kept = growing-from c.args.self.now c.fill_first.new.self same (c.fill_first.ensures.pages.moments ∙ c.fill_grown.ensures.pages.moments) c.write_log.ensures.moments in
    committed-images old new old.log.size (g.met.D.Disk.sound c.args.disk.now) kept
    (subst (λ t. Leads (λ a b. HasStableLog b.now.at) t (g.D.Disk.trail c.write_log.new.disk)) (c.fill_first.ensures.pages.moments ∙ c.fill_grown.ensures.pages.moments) c.in_ok-end.ensures.stable)
    (records-go g.D.Disk g.met.D.Disk.tied (λ f h. (frames : List Frame) → KeepsLog old frames f → IsCommitted old new frames f h) c.args.disk.now c.write_log.new.disk (returns-clause-done g c))

pub returns-clause-whole : goal.returns-clause-whole
returns-clause-whole g c n within =
    known-after c.fill_first.new.self c.settle.new.self n c.in_ok-settle.ensures.grows
    (c.in_ok-fill_first.ensures.kept n (c.in_ok-fill_grown.ensures.known n (subst (λ (k : ℕ). n ≤ k) (sym c.fill_grown.ensures.same.count) within)))
