use Rattle.std.proofs.Common.{◌≡◌, ◌↔◌, ℕ, Bool, true, false, List, map, refl, ◌∙◌}
use Rattle.std.specs.Char.{to_ascii_lowercase}
use Rattle.std.specs.Cmp.Lexicographic.{same_text, other_text}
use Rattle.schema_spec.specs.Words.{same_name}
use Rattle.schema_tokens.proofs.words.same_name.Goals as goal

-- a test that is true where two texts are one in lower case
test-same : (test : Bool) (a b : List ℕ) → (test ≡ true) ↔ (map to_ascii_lowercase a ≡ map to_ascii_lowercase b) → test ≡ same_name a b
test-same test a b h = at (same_name a b) test refl h
  where
    at : (same test : Bool) → same ≡ same_name a b → (test ≡ true) ↔ (map to_ascii_lowercase a ≡ map to_ascii_lowercase b) → test ≡ same_name a b
    at true test e h = let t = h.1 (same_text (map to_ascii_lowercase a) (map to_ascii_lowercase b) e) in t ∙ e
    at false true e h = absurd (other_text (map to_ascii_lowercase a) (map to_ascii_lowercase b) e (h.0 refl))
    at false false e h = e

pub returns : goal.returns
returns c = test-same c.eq_ignore_ascii_case.result c.args.a.now c.args.b.now c.eq_ignore_ascii_case.ensures.test
