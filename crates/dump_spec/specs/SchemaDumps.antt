-- What a dump of the schema answers of pages: the lines of its table, or the first refusal.
use Rattle.std.specs.Prelude.{◌≡◌, ◌⊎◌, ℕ, ℤ, List, Result, Ok, Err}
use Rattle.refusal.specs.declared.Rule.{Rule}
use Rattle.refusal.specs.declared.Refusal.{Refusal}
use Rattle.refusal.specs.declared.Refusal.TheVariants.{TreeDamaged, SchemaRow}
use Rattle.tree_spec.specs.declared.TreeKind.TheVariants.{Table}
use Rattle.tree_spec.specs.Standing.{Sizes, Paged}
use Rattle.tree_spec.specs.Trees.{Member}
use Rattle.database_spec.specs.Walks.{IsList, StopsAt}
use Rattle.dump_spec.specs.SchemaRows.{AreLines, IsFirstBad}

-- The answer of pages: the damage that a cursor over the table at page 1 meets; where it comes to the end, the first member that is no row of the schema, or else the lines of all members.
abbrev pub IsSchemaAnswer : Sizes → Paged → Result (List ℕ) Refusal → Type 0
IsSchemaAnswer sizes base answer =
    ((page : ℕ) × (rule : Rule) × (answer ≡ Err (TreeDamaged page rule)) × StopsAt sizes base Table 1 (page, rule))
    ⊎ (((members : List Member) × (rowid : ℤ) × IsList sizes base Table 1 members × (answer ≡ Err (SchemaRow rowid)) × IsFirstBad members rowid)
    ⊎ ((members : List Member) × (text : List ℕ) × IsList sizes base Table 1 members × (answer ≡ Ok text) × AreLines members text))
