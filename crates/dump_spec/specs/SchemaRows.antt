-- The rows of the schema table, and their lines (Database File Format, section 2.6).
use Rattle.std.specs.Prelude.{◌≡◌, ◌⊎◌, ℕ, ℤ, List, [], ◌∷◌, ◌++◌, length}
use Rattle.format_spec.specs.Record.{IsRecord}
use Rattle.rbu_value.specs.declared.value.Value.{Value}
use Rattle.tree_spec.specs.Trees.{Member}
use Rattle.dump_spec.specs.Printing.{row_line}

-- a record of the five columns type, name, tbl_name, rootpage and sql
pub record IsSchemaRecord (bytes : List ℕ) (values : List Value) : Type 0 where
  pub is_record : IsRecord bytes values
  pub five : length values ≡ 5

-- the lines of members, each of which has such a record
abbrev pub AreLines : List Member → List ℕ → Type 0
AreLines [] text = text ≡ []
AreLines (member ∷ members) text =
    (values : List Value) × (rest : List ℕ) × IsSchemaRecord member.payload values × AreLines members rest × (text ≡ row_line member.rowid values ++ rest)

-- the member has no such record
abbrev pub IsBad : Member → Type 0
IsBad member = (values : List Value) → ¬ IsSchemaRecord member.payload values

-- the first member without such a record has this rowid
abbrev pub IsFirstBad : List Member → ℤ → Type 0
IsFirstBad [] rowid = ⊥
IsFirstBad (member ∷ members) rowid =
    (IsBad member × (rowid ≡ member.rowid)) ⊎ (((values : List Value) × IsSchemaRecord member.payload values) × IsFirstBad members rowid)
