use Rattle.std.proofs.Common.{◌≡◌, Bool, true, false, sym, ◌∙◌}
use Rattle.std.proofs.lemmas.Bool.{false≢true}
use Rattle.rbu_value.specs.declared.affinity.Affinity.TheVariants.{Text, Blob, Real, Numeric}
use Rattle.rbu_value.specs.Affinity.{MeansInteger, MeansText, MeansBlob, MeansReal}
use Rattle.rbu_value.specs.AffinityLaws.{affinity-only}
use Rattle.rbu_value.proofs.affinity.affinity_of.Goals as goal

-- a test that failed says that what it tests is not so
test-fails : {P : Type 0} (test : Bool) → (P → test ≡ true) → test ≡ false → ¬ P
test-fails test says e p = false≢true (sym e ∙ says p)

pub returns-then-means_text : goal.returns-then-means_text
returns-then-means_text c =
    let type = c.args.type_text.now in
    let integer : ¬ MeansInteger type = test-fails c.means_integer.result c.means_integer.ensures.1 c.if-means_integer.false in
    affinity-only type Text (integer, c.means_text.ensures.0 c.if-means_text.true)

pub returns-then-means_blob : goal.returns-then-means_blob
returns-then-means_blob c =
    let type = c.args.type_text.now in
    let integer : ¬ MeansInteger type = test-fails c.means_integer.result c.means_integer.ensures.1 c.if-means_integer.false in
    let text : ¬ MeansText type = test-fails c.means_text.result c.means_text.ensures.1 c.if-means_text.false in
    affinity-only type Blob (integer, text, c.means_blob.ensures.0 c.if-means_blob.true)

pub returns-then-means_real : goal.returns-then-means_real
returns-then-means_real c =
    let type = c.args.type_text.now in
    let integer : ¬ MeansInteger type = test-fails c.means_integer.result c.means_integer.ensures.1 c.if-means_integer.false in
    let text : ¬ MeansText type = test-fails c.means_text.result c.means_text.ensures.1 c.if-means_text.false in
    let blob : ¬ MeansBlob type = test-fails c.means_blob.result c.means_blob.ensures.1 c.if-means_blob.false in
    affinity-only type Real (integer, text, blob, c.means_real.ensures.0 c.if-means_real.true)

pub returns-else-means_real : goal.returns-else-means_real
returns-else-means_real c =
    let type = c.args.type_text.now in
    let integer : ¬ MeansInteger type = test-fails c.means_integer.result c.means_integer.ensures.1 c.if-means_integer.false in
    let text : ¬ MeansText type = test-fails c.means_text.result c.means_text.ensures.1 c.if-means_text.false in
    let blob : ¬ MeansBlob type = test-fails c.means_blob.result c.means_blob.ensures.1 c.if-means_blob.false in
    let real : ¬ MeansReal type = test-fails c.means_real.result c.means_real.ensures.1 c.if-means_real.false in
    affinity-only type Numeric (integer, text, blob, real)
