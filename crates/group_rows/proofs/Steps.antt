-- Steps one after the other.
use Rattle.std.proofs.Common.{◌≡◌, ℤ, ◌<◌, Bool, false, List, [], ◌∷◌, ◌++◌, length, take, drop, ◌-◌, map, refl, sym, ap, ap₂, ◌∙◌, arith}
use Rattle.std.proofs.lemmas.List.{append_assoc, append-nil, take_rest}
use Rattle.std.specs.Prelude.{filter, filter_map, not, replicate}
use Rattle.std.specs.List.{AllZip}
use Rattle.rbu_value.specs.declared.value.Value.{Value}
use Rattle.rbu_rows.specs.declared.prepared.Prepared.{Prepared}
use Rattle.rbu_rows.specs.declared.prepared.Batch.{Batch}
use Rattle.schema_spec.specs.declared.schema.Table.{Table}
use Rattle.prepared_spec.specs.RowKeys.{IsInKeyOrder}
use Rattle.group_rows.specs.KeyedRows.{of_key}
use Rattle.group_rows.specs.Runs.{Run, changed, dues_of, left_of, noted, skipped, with_changed}
use Rattle.group_rows.proofs.Lists.{filter_map-cons}

run-of : (rows others : List (ℤ × List Value)) (met more : List ℤ) (run : Run) → rows ≡ others → met ≡ more
    → ◌≡◌ {A = Run} (record { rows = rows; met = met; made = run.made; marks = run.marks; stopped = run.stopped }) (record { rows = others; met = more; made = run.made; marks = run.marks; stopped = run.stopped })
run-of rows others met more run e f = ap₂ (λ (r : List (ℤ × List Value)) (m : List ℤ). record { rows = r; met = m; made = run.made; marks = run.marks; stopped = run.stopped }) e f

marked-of : (marks others : List Bool) (run : Run) → marks ≡ others
    → ◌≡◌ {A = Run} (record { rows = run.rows; met = run.met; made = run.made; marks = marks; stopped = run.stopped }) (record { rows = run.rows; met = run.met; made = run.made; marks = others; stopped = run.stopped })
marked-of marks others run e = ap (λ (m : List Bool). record { rows = run.rows; met = run.met; made = run.made; marks = m; stopped = run.stopped }) e

pub changed-more : (table : Table) (prepared : Prepared) (row : ℤ × List Value) (rest : List (ℤ × List Value)) (run : Run)
    → with_changed table prepared (row ∷ rest) run ≡ with_changed table prepared rest (with_changed table prepared (row ∷ []) run)
changed-more table prepared row rest run =
    run-of (run.rows ++ filter_map (changed table prepared) (row ∷ rest)) ((run.rows ++ filter_map (changed table prepared) (row ∷ [])) ++ filter_map (changed table prepared) rest) (run.met ++ map (λ r. r.0) (row ∷ rest))
    ((run.met ++ row.0 ∷ []) ++ map (λ r. r.0) rest) run
    (ap (λ l. run.rows ++ l) (filter_map-cons (changed table prepared) row rest) ∙ sym (append_assoc run.rows (filter_map (changed table prepared) (row ∷ [])) (filter_map (changed table prepared) rest)))
    (sym (append_assoc run.met (row.0 ∷ []) (map (λ r. r.0) rest)))

pub changed-none : (table : Table) (prepared : Prepared) (run : Run) → with_changed table prepared [] run ≡ run
changed-none table prepared run = run-of (run.rows ++ []) run.rows (run.met ++ []) run.met run (append-nil run.rows) (append-nil run.met)

pub skipped-more : {A : Type 0} (left : List A) (run : Run) → 0 < length left → skipped (length (take (length left - 1) (drop 1 left))) (noted false run) ≡ skipped (length left) run
skipped-more [] run less = absurd (omega (arith, less))
skipped-more (x ∷ left) run less =
    marked-of ((run.marks ++ false ∷ []) ++ replicate (length (take (length (x ∷ left) - 1) (drop 1 (x ∷ left)))) false) (run.marks ++ replicate (length (x ∷ left)) false) run
    (ap (λ l. (run.marks ++ false ∷ []) ++ replicate (length l) false) (take_rest (x ∷ left) 1) ∙ append_assoc run.marks (false ∷ []) (replicate (length left) false))

pub skipped-none : (run : Run) → skipped 0 run ≡ run
skipped-none run = marked-of (run.marks ++ []) run.marks run (append-nil run.marks)

-- what each prepared row meets, one by one
pub found-more : (table : Table) (mid : List (ℤ × List Value)) (dues later : List (List (ℤ × List Value) × Prepared)) (left rest : List (List Value × Prepared)) (keyed : List Value × Prepared) (whole : List (List (ℤ × List Value) × Prepared))
    → left ≡ keyed ∷ rest → later ≡ dues ++ (filter (of_key table keyed.0) mid, keyed.1) ∷ [] → dues ++ dues_of table mid left ≡ whole
    → later ++ dues_of table (filter (λ (row : ℤ × List Value). not (of_key table keyed.0 row)) mid) rest ≡ whole
found-more table mid dues later left rest keyed whole e f are =
    let due : List (ℤ × List Value) × Prepared = (filter (of_key table keyed.0) mid, keyed.1) in
    ap (λ l. l ++ dues_of table (filter (λ (row : ℤ × List Value). not (of_key table keyed.0 row)) mid) rest) f
    ∙ append_assoc dues (due ∷ []) (dues_of table (filter (λ (row : ℤ × List Value). not (of_key table keyed.0 row)) mid) rest)
    ∙ ap (λ l. dues ++ dues_of table mid l) (sym e) ∙ are

pub left-more : (table : Table) (mid : List (ℤ × List Value)) (left rest : List (List Value × Prepared)) (keyed : List Value × Prepared) (whole : List (ℤ × List Value)) → left ≡ keyed ∷ rest → left_of table mid left ≡ whole
    → left_of table (filter (λ (row : ℤ × List Value). not (of_key table keyed.0 row)) mid) rest ≡ whole
left-more table mid left rest keyed whole e are = ap (left_of table mid) (sym e) ∙ are

-- batches beside the orders of their rows
pub batches-next : (table : Table) (batch : Batch) (rest : List Batch) (ordered : List (List Prepared)) → AllZip (λ (b : Batch) (rows : List Prepared). IsInKeyOrder table b.rows rows) (batch ∷ rest) ordered
    → (rows : List Prepared) × (later : List (List Prepared)) × (ordered ≡ rows ∷ later) × IsInKeyOrder table batch.rows rows × AllZip (λ (b : Batch) (rs : List Prepared). IsInKeyOrder table b.rows rs) rest later
batches-next table batch rest [] zip = absurd zip
batches-next table batch rest (rows ∷ later) zip = (rows, later, refl, zip.0, zip.1)

pub batches-end : (table : Table) (ordered : List (List Prepared)) → AllZip (λ (b : Batch) (rows : List Prepared). IsInKeyOrder table b.rows rows) [] ordered → ordered ≡ []
batches-end table [] zip = refl
batches-end table (rows ∷ later) zip = absurd zip
