-- The first value that its column would store in another class, in a loop over columns.
use Rattle.std.proofs.Common.{◌≡◌, ℕ, suc, ◌+◌, ◌-◌, ◌≤◌, Bool, List, ◌∷◌, length, take, drop, get_or, inl, inr, add-one}
use Rattle.std.proofs.Math.Path.{subst, subst⁻¹}
use Rattle.rbu_value.specs.declared.value.Value.{Value}
use Rattle.schema_spec.specs.declared.schema.Column.{Column}
use Rattle.prepared_spec.specs.PreparedRows.{IsChanged, FirstChanged}
use Rattle.rbu_input.proofs.Lists.{uncons}

-- the first in all is the first in those that are left
pub record ChangesOn (key : List ℕ) (columns : List Column) (used : List Bool) (values : List Value) (at : ℕ) (columns_left : List Column) (used_left : List Bool) (values_left : List Value) : Type 0 where
  pub all : (name : List ℕ) → FirstChanged key at columns_left used_left values_left name → FirstChanged key 0 columns used values name
  pub left : (name : List ℕ) → FirstChanged key 0 columns used values name → FirstChanged key at columns_left used_left values_left name

pub changes-begin : (key : List ℕ) (columns : List Column) (used : List Bool) (values : List Value) → ChangesOn key columns used values 0 columns used values
changes-begin key columns used values = record { all = λ name first. first; left = λ name first. first }

module _ (key : List ℕ) (columns : List Column) (used : List Bool) (values : List Value) (at : ℕ) (column : Column) (more : List Column) (use_ : Bool) (others : List Bool) (value : Value) (rest : List Value) where
  pub changes-step : (¬ IsChanged key at column use_ value) → ChangesOn key columns used values at (column ∷ more) (use_ ∷ others) (value ∷ rest)
      → ChangesOn key columns used values (suc at) more others rest
  changes-step not on = record {
    all = λ name first. on.all name (inr (not, first));
    left = λ name first. elim (on.left name first) [ inl here ↦ absurd (not here.0) | inr later ↦ later.1 ];
  }

-- the same of lists that begin with these items
pub changes-go : (key : List ℕ) (columns : List Column) (used : List Bool) (values : List Value) (at : ℕ) (cl : List Column) (ul : List Bool) (vl : List Value) (column : Column) (u : Bool) (value : Value)
    → 1 ≤ length cl → column ≡ get_or cl 0 column → 1 ≤ length ul → u ≡ get_or ul 0 u → 1 ≤ length vl → value ≡ get_or vl 0 value → (¬ IsChanged key at column u value)
    → ChangesOn key columns used values at cl ul vl
    → ChangesOn key columns used values (at + 1) (take (length cl - 1) (drop 1 cl)) (take (length ul - 1) (drop 1 ul)) (take (length vl - 1) (drop 1 vl))
changes-go key columns used values at cl ul vl column u value lc ec lu eu lv ev not on =
    let more = take (length cl - 1) (drop 1 cl) in
    let others = take (length ul - 1) (drop 1 ul) in
    let rest = take (length vl - 1) (drop 1 vl) in
    let a = subst (λ (l : List Column). ChangesOn key columns used values at l ul vl) (uncons cl column lc ec) on in
    let b = subst (λ (l : List Bool). ChangesOn key columns used values at (column ∷ more) l vl) (uncons ul u lu eu) a in
    let d = subst (λ (l : List Value). ChangesOn key columns used values at (column ∷ more) (u ∷ others) l) (uncons vl value lv ev) b in
    subst⁻¹ (λ (n : ℕ). ChangesOn key columns used values n more others rest) (add-one at) (changes-step key columns used values at column more u others value rest not d)
