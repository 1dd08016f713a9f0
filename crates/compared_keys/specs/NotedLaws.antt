-- What is noted of keys as they compare, row by row: crates above cite these facts in their proofs.
use Rattle.std.proofs.Common.{◌≡◌, Bool, true, false, List, [], ◌∷◌, ◌++◌, Option, Some, None, refl, sym, ap, ap₂, ◌∙◌}
use Rattle.std.proofs.lemmas.List.Folds.{find-append}
use denote.Ref.{Bor}
use Rattle.std.specs.Prelude.{cond, find, is_some}
use Rattle.std.specs.Option.{option_or, option_copied}
use Rattle.std.specs.Ordering.{is_eq}
use Rattle.std.specs.declared.cmp.Ordering.TheVariants.{Equal}
use Rattle.std.specs.Cmp.{alike_right, Equal-is}
use Rattle.rbu_value.specs.declared.order.Collation.{Collation}
use Rattle.rbu_value.specs.declared.value.Value.{Value}
use Rattle.rbu_rows.specs.declared.prepared.Prepared.{Prepared}
use Rattle.compared_keys.specs.declared.keys.ComparedKey.{ComparedKey}
use Rattle.compared_keys.specs.Keys.{compared_key, key_order, values_order}
use Rattle.compared_keys.specs.KeysLaws.{values_order-total}
use Rattle.compared_keys.specs.Noted.{has_key, AreNoted}

pub find-same : {A : Type 0} (p q : A → Bool) (xs : List A) → ((x : A) → p x ≡ q x) → find p xs ≡ find q xs
find-same p q [] same = refl
find-same {A} p q (x ∷ xs) same = ap₂ (λ (b : Bool) (rest : Option A). cond b (Some x) rest) (same x) (find-same p q xs same)

or-none : {A : Type 0} (o : Option A) → option_or o None ≡ o
or-none None = refl
or-none (Some x) = refl

or-some : {A : Type 0} (o p : Option A) → is_some o ≡ true → option_or o p ≡ o
or-some None p e = absurd (let h : ◌≡◌ {A = Bool} false true = e in let no : ⊥ = cc in no)
or-some (Some x) p e = refl

module _ (collations : List Collation) where
  module _ (noted more : ComparedKey → Option Prepared) (rows : List Prepared) (key : ComparedKey) (row : Prepared) (key_is : key.values ≡ compared_key collations row.key) (none : noted key ≡ None)
      (are : AreNoted collations noted rows) (other : ComparedKey) (adds : more other ≡ cond (is_eq (key_order key other)) (Some row) (noted other)) where
    last-has : has_key collations other row ≡ is_eq (key_order key other)
    last-has = ap (λ (values : List Value). is_eq (values_order values other.values)) (sym key_is)

    found-last : find (has_key collations other) (rows ++ row ∷ []) ≡ option_or (find (has_key collations other) rows) (cond (is_eq (key_order key other)) (Some row) None)
    found-last = find-append (has_key collations other) rows (row ∷ []) ∙ ap (λ (b : Bool). option_or (find (has_key collations other) rows) (cond b (Some row) None)) last-has

    -- no row before it has the same key
    none-before : is_eq (key_order key other) ≡ true → find (has_key collations other) rows ≡ None
    none-before same =
        let equal : key_order key other ≡ Equal = (Equal-is (key_order key other)).0 same in
        find-same (has_key collations other) (has_key collations key) rows
        (λ (x : Prepared). ap is_eq (sym (alike_right values_order-total key.values other.values (compared_key collations x.key) equal)))
        ∙ sym (are key) ∙ none

    pub noted-at : (b : Bool) → is_eq (key_order key other) ≡ b → more other ≡ find (has_key collations other) (rows ++ row ∷ [])
    noted-at true same =
        adds ∙ ap (λ (b : Bool). cond b (Some row) (noted other)) same
        ∙ sym (found-last ∙ ap₂ (λ (o : Option Prepared) (b : Bool). option_or o (cond b (Some row) None)) (none-before same) same)
    noted-at false apart =
        adds ∙ ap (λ (b : Bool). cond b (Some row) (noted other)) apart ∙ are other
        ∙ sym (found-last ∙ ap (λ (b : Bool). option_or (find (has_key collations other) rows) (cond b (Some row) None)) apart ∙ or-none (find (has_key collations other) rows))

  -- one more row, whose key none had
  pub noted-more : (noted more : ComparedKey → Option Prepared) (rows : List Prepared) (key : ComparedKey) (row : Prepared) → key.values ≡ compared_key collations row.key → noted key ≡ None → AreNoted collations noted rows
      → ((other : ComparedKey) → more other ≡ cond (is_eq (key_order key other)) (Some row) (noted other)) → AreNoted collations more (rows ++ row ∷ [])
  noted-more noted more rows key row key_is none are adds other = noted-at noted more rows key row key_is none are other (adds other) (is_eq (key_order key other)) refl

  -- one more row, whose key another had
  pub noted-again : (noted : ComparedKey → Option Prepared) (rows : List Prepared) (key : ComparedKey) (row : Prepared) → key.values ≡ compared_key collations row.key → is_some (noted key) ≡ true → AreNoted collations noted rows
      → AreNoted collations noted (rows ++ row ∷ [])
  noted-again noted rows key row key_is some are other = are other ∙ sym (find-append (has_key collations other) rows (row ∷ []) ∙ by (has_key collations other row) refl)
    where
      by : (b : Bool) → has_key collations other row ≡ b → option_or (find (has_key collations other) rows) (cond b (Some row) None) ≡ find (has_key collations other) rows
      by false e = or-none (find (has_key collations other) rows)
      by true e =
          let alike : is_eq (key_order key other) ≡ true = ap (λ (values : List Value). is_eq (values_order values other.values)) key_is ∙ e in
          let equal : key_order key other ≡ Equal = (Equal-is (key_order key other)).0 alike in
          let same : find (has_key collations other) rows ≡ find (has_key collations key) rows =
          find-same (has_key collations other) (has_key collations key) rows
          (λ (x : Prepared). ap is_eq (sym (alike_right values_order-total key.values other.values (compared_key collations x.key) equal))) in
          or-some (find (has_key collations other) rows) (Some row) (ap is_some (same ∙ sym (are key)) ∙ some)

-- what is looked up once a key is noted
pub noted-copied : (b : Bool) (row : Bor Prepared) (other : Option (Bor Prepared)) → option_copied (cond b (Some row) other) ≡ cond b (Some row.now) (option_copied other)
noted-copied true row other = refl
noted-copied false row other = refl
