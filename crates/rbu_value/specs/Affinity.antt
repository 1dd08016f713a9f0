-- The affinity of a column, and the values whose class it changes (Datatypes In SQLite, sections 3 and 3.1).
use Rattle.std.specs.Prelude.{◌≡◌, ℕ, List, [], ◌++◌, ◌⊎◌, ⊤, map, codes}
use Rattle.std.specs.Char.{to_ascii_lowercase}
use Rattle.rbu_value.specs.declared.affinity.Affinity.{Affinity}
use Rattle.rbu_value.specs.declared.affinity.Affinity.TheVariants.{Integer, Text, Blob, Real, Numeric}
use Rattle.rbu_value.specs.declared.value.Value.{Value}
use Rattle.rbu_value.specs.declared.value.Value.TheVariants.{Int, Text as TextValue}
use Rattle.rbu_value.specs.NumericText.{IsNumericText}

-- a text contains a word, where the case of ASCII letters does not count: there is a front and a rest around it
abbrev pub Mentions : List ℕ → List ℕ → Type 0
Mentions text word =
    (front : List ℕ) × (rest : List ℕ) × (map to_ascii_lowercase text ≡ front ++ (map to_ascii_lowercase word ++ rest))

-- the first test of section 3.1: the declared type contains INT
abbrev pub MeansInteger : List ℕ → Type 0
MeansInteger type = Mentions type (codes "INT")

-- the second test: it contains CHAR, CLOB or TEXT
abbrev pub MeansText : List ℕ → Type 0
MeansText type = Mentions type (codes "CHAR") ⊎ (Mentions type (codes "CLOB") ⊎ Mentions type (codes "TEXT"))

-- the third test: it contains BLOB, or there is no type
abbrev pub MeansBlob : List ℕ → Type 0
MeansBlob type = Mentions type (codes "BLOB") ⊎ (type ≡ [])

-- the fourth test: it contains REAL, FLOA or DOUB
abbrev pub MeansReal : List ℕ → Type 0
MeansReal type = Mentions type (codes "REAL") ⊎ (Mentions type (codes "FLOA") ⊎ Mentions type (codes "DOUB"))

-- the affinity of a column by its declared type: the first test that holds decides, and NUMERIC where none does (section 3.1)
abbrev pub HasAffinity : List ℕ → Affinity → Type 0
HasAffinity type Integer = MeansInteger type
HasAffinity type Text = (¬ MeansInteger type) × MeansText type
HasAffinity type Blob = (¬ MeansInteger type) × (¬ MeansText type) × MeansBlob type
HasAffinity type Real = (¬ MeansInteger type) × (¬ MeansText type) × (¬ MeansBlob type) × MeansReal type
HasAffinity type Numeric = (¬ MeansInteger type) × (¬ MeansText type) × (¬ MeansBlob type) × (¬ MeansReal type)

-- a column of this affinity stores the value in another class: TEXT an integer, and INTEGER and NUMERIC a text that is a number (section 3); floating point values, and so REAL, are left out
abbrev pub ChangesClass : Value → Affinity → Type 0
ChangesClass (Int z) Text = ⊤
ChangesClass (TextValue text) Integer = IsNumericText text
ChangesClass (TextValue text) Numeric = IsNumericText text
ChangesClass _ _ = ⊥
