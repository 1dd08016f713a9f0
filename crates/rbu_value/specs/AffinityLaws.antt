-- A declared type has one affinity.
use Rattle.std.specs.Prelude.{◌≡◌, ◌↔◌, ℕ, List, refl}
use Rattle.std.proofs.Common.{subst}
use Rattle.rbu_value.specs.declared.affinity.Affinity.{Affinity}
use Rattle.rbu_value.specs.declared.affinity.Affinity.TheVariants.{Integer, Text, Blob, Real, Numeric}
use Rattle.rbu_value.specs.Affinity.{HasAffinity}

-- no two of the five cases of a type's affinity hold together
pub affinity-same : (type : List ℕ) (a b : Affinity) → HasAffinity type a → HasAffinity type b → a ≡ b
affinity-same type Integer Integer h k = refl
affinity-same type Integer Text h k = absurd (k.0 h)
affinity-same type Integer Blob h k = absurd (k.0 h)
affinity-same type Integer Real h k = absurd (k.0 h)
affinity-same type Integer Numeric h k = absurd (k.0 h)
affinity-same type Text Integer h k = absurd (h.0 k)
affinity-same type Text Text h k = refl
affinity-same type Text Blob h k = absurd (k.1 h.1)
affinity-same type Text Real h k = absurd (k.1 h.1)
affinity-same type Text Numeric h k = absurd (k.1 h.1)
affinity-same type Blob Integer h k = absurd (h.0 k)
affinity-same type Blob Text h k = absurd (h.1 k.1)
affinity-same type Blob Blob h k = refl
affinity-same type Blob Real h k = absurd (k.2 h.2)
affinity-same type Blob Numeric h k = absurd (k.2 h.2)
affinity-same type Real Integer h k = absurd (h.0 k)
affinity-same type Real Text h k = absurd (h.1 k.1)
affinity-same type Real Blob h k = absurd (h.2 k.2)
affinity-same type Real Real h k = refl
affinity-same type Real Numeric h k = absurd (k.3 h.3)
affinity-same type Numeric Integer h k = absurd (h.0 k)
affinity-same type Numeric Text h k = absurd (h.1 k.1)
affinity-same type Numeric Blob h k = absurd (h.2 k.2)
affinity-same type Numeric Real h k = absurd (h.3 k.3)
affinity-same type Numeric Numeric h k = refl

-- the one affinity, both ways
pub affinity-only : (type : List ℕ) (a : Affinity) → HasAffinity type a → (b : Affinity) → (a ≡ b) ↔ HasAffinity type b
affinity-only type a h b = (λ e. subst (HasAffinity type) e h, affinity-same type a b h)
