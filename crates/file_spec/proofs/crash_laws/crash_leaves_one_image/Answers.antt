use Rattle.std.proofs.Common.{◌≡◌, ap, subst, sym, ◌∙◌}
use Rattle.file_spec.specs.Records.{Record, IsImage, at_rest, shown_files}
use Rattle.file_spec.specs.Trails.{Trail}
use Rattle.file_spec.specs.RecordsLaws.{rest-shown, rest-only, rest-sound}
use Rattle.file_spec.proofs.crash_laws.crash_leaves_one_image.Goals as goal

pub returns-clause-shown : goal.returns-clause-shown
returns-clause-shown c = rest-shown

pub returns-clause-only : goal.returns-clause-only
returns-clause-only c = rest-only

pub returns-clause-sound : goal.returns-clause-sound
returns-clause-sound c = rest-sound

pub returns-clause-trail : goal.returns-clause-trail
returns-clause-trail c a b (files, image, e) =
    let now : b.now.at ≡ at_rest files = ap (λ (t : Trail). t.now.at) e in
    let shown : shown_files b.now.at ≡ files = ap shown_files now ∙ rest-shown files in
    (subst (IsImage a.now.at) (sym shown) image, λ left it. rest-only files left (subst (λ (r : Record). IsImage r left) now it) ∙ sym shown)
