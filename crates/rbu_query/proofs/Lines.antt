-- The lines of the rows that were printed, and of those that are left.
use Rattle.std.proofs.Common.{◌≡◌, ℕ, ℤ, ◌-◌, ◌<◌, ◌≤◌, List, [], ◌∷◌, ◌++◌, length, take, drop, get_or, Result, Ok, Err, Vec, Global, refl, sym, ap, ap₂, ◌∙◌, subst, append_assoc, append-nil, inl, inr, arith}
use Rattle.std.proofs.lemmas.List.{take_rest}
use Rattle.common_spec.specs.Reading.{OrFault, ReadsOrWants}
use Rattle.common_spec.specs.ReadingLaws.{IsOne, Reads-one}
use Rattle.tree_walk.specs.declared.cursor.Row.{Row}
use Rattle.dump_spec.specs.Printing.{row_line}
use Rattle.dump_spec.specs.SchemaRows.{IsFirstBad}
use Rattle.dump_spec.specs.SchemaRowsLaws.{schema_rows-one}
use Rattle.rbu_query.specs.declared.schema.SchemaFault.{SchemaFault}
use Rattle.rbu_query.specs.declared.schema.SchemaFault.TheVariants.{SchemaRow, Memory}
use Rattle.tree_rows.specs.Rows.{members_of}
use Rattle.rbu_query.specs.Rows.{HasLine, HasLines, HasFault, IsMemory, IsNoRow, Appends}

-- what holds of the rows that are left gives what holds of all
pub record Continues (all left : List Row) (text : List ℕ) : Type 0 where
  pub lines : (rest : List ℕ) → HasLines left rest → HasLines all (text ++ rest)
  pub bad : (rowid : ℤ) → IsFirstBad (members_of left) rowid → IsFirstBad (members_of all) rowid

pub continues-all : (all : List Row) → Continues all all []
continues-all all = record { lines = λ rest h. h; bad = λ rowid h. h }

-- the rows that are left are the first of them and the rest
left-splits : (left : List Row) (row : Row) → 1 ≤ length left → row ≡ get_or left 0 row → left ≡ row ∷ take (length left - 1) (drop 1 left)
left-splits [] row some is = absurd (omega (arith, some))
left-splits (x ∷ left) row some is = ap₂ (λ (y : Row) (ys : List Row). y ∷ ys) (sym is) (sym (take_rest (x ∷ left) 1))

next-line : (all rest : List Row) (row : Row) (text after : List ℕ) → Continues all (row ∷ rest) text → HasLine row text after → Continues all rest after
next-line all rest row text after inv step = record {
  lines = λ more h.
      subst (HasLines all) (sym (append_assoc text (row_line row.rowid step.0) more) ∙ ap (λ (t : List ℕ). t ++ more) (sym step.2))
      (inv.lines (row_line row.rowid step.0 ++ more) (step.0, more, step.1, h, refl));
  bad = λ rowid h. inv.bad rowid (inr ((step.0, step.1), h));
}

-- one more line
pub continues-next : (all left : List Row) (row : Row) (text after : List ℕ) → 1 ≤ length left → row ≡ get_or left 0 row → Continues all left text → HasLine row text after
    → Continues all (take (length left - 1) (drop 1 left)) after
continues-next all left row text after some is inv step =
    next-line all (take (length left - 1) (drop 1 left)) row text after (subst (λ (l : List Row). Continues all l text) (left-splits left row some is) inv) step

-- no row is left
pub lines-whole : (all : List Row) (text : List ℕ) → Continues all [] text → HasLines all text
lines-whole all text inv = subst (HasLines all) (append-nil text) (inv.lines [] refl)

-- a row is none of a schema table
first-bad : (all rest : List Row) (row : Row) (text : List ℕ) (rowid : ℤ) → Continues all (row ∷ rest) text → IsNoRow row rowid → IsFirstBad (members_of all) rowid
first-bad all rest row text rowid inv none = inv.bad rowid (inl (none.1, none.0))

-- rows have lines or one fault
pub lines-one : (rows : List Row) → IsOne (OrFault (HasLines rows) (HasFault rows))
lines-one rows (Ok a) (Ok b) p q = ap Ok (same (schema_rows-one (members_of rows) (Ok a) (Ok b) p q))
  where
    same : {x y : List ℕ} → (let one : Result (List ℕ) ℤ = Ok x in one ≡ Ok y) → x ≡ y
    same e = cc
lines-one rows (Ok a) (Err (SchemaRow n)) p q = absurd (let e = schema_rows-one (members_of rows) (Ok a) (Err n) p q in cc)
lines-one rows (Err (SchemaRow n)) (Ok b) p q = absurd (let e = schema_rows-one (members_of rows) (Err n) (Ok b) p q in cc)
lines-one rows (Err (SchemaRow n)) (Err (SchemaRow m)) p q = ap (λ (k : ℤ). Err (SchemaRow k)) (same (schema_rows-one (members_of rows) (Err n) (Err m) p q))
  where
    same : {x y : ℤ} → (let one : Result (List ℕ) ℤ = Err x in one ≡ Err y) → x ≡ y
    same e = cc
lines-one rows (Ok a) (Err (Memory error)) p q = absurd q
lines-one rows (Err (Memory error)) other p q = absurd p
lines-one rows (Err (SchemaRow n)) (Err (Memory error)) p q = absurd q

-- what is answered of all rows
pub lines-all : (rows left : List Row) (text : Vec ℕ Global) → length left < 1 → Continues rows left text.items
    → (let answer : Result (Vec ℕ Global) SchemaFault = Ok text in ReadsOrWants (λ (t : Vec ℕ Global). t.items) IsMemory (OrFault (HasLines rows) (HasFault rows)) answer)
lines-all rows [] text none inv = Reads-one (OrFault (HasLines rows) (HasFault rows)) (Ok text.items) (lines-one rows) (lines-whole rows text.items inv)
lines-all rows (row ∷ left) text none inv = absurd (omega (arith, none))

-- what is answered of a row that is none, or where memory is wanting
pub lines-fault : (all left : List Row) (row : Row) (text after : List ℕ) (fault : SchemaFault) → 1 ≤ length left → row ≡ get_or left 0 row → Continues all left text
    → (let pushed : Result Unit SchemaFault = Err fault in Appends row text after pushed)
    → (let answer : Result (Vec ℕ Global) SchemaFault = Err fault in ReadsOrWants (λ (t : Vec ℕ Global). t.items) IsMemory (OrFault (HasLines all) (HasFault all)) answer)
lines-fault all left row text after (SchemaRow rowid) some is inv none =
    inr (Reads-one (OrFault (HasLines all) (HasFault all)) (Err (SchemaRow rowid)) (lines-one all)
    (first-bad all (take (length left - 1) (drop 1 left)) row text rowid (subst (λ (l : List Row). Continues all l text) (left-splits left row some is) inv) none))
lines-fault all left row text after (Memory error) some is inv none = inl tt
