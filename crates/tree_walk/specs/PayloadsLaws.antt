-- A cell has one payload, or its chain is broken in one place: crates above cite these facts in their proofs.
use Rattle.std.proofs.Common.{◌≡◌, ℕ, pos, ◌+◌, ◌-◌, ◌*◌, ◌/◌, ◌%◌, ◌<◌, ◌≤◌, ◌⊎◌, ◌==◌, if◌then◌else◌, Bool, List, [], ◌∷◌, ◌++◌, length, refl, sym, ap, ap₂, ◌∙◌, inl, inr, arith, div-add-mod', zero-mul, length-append}
use Rattle.std.proofs.Math.Path.{subst⁻¹}
use Rattle.std.proofs.lemmas.Bool.{cases_eq, ne_eqb}
use Rattle.std.proofs.lemmas.List.{append-nil}
use Rattle.overflow_chain.specs.Chain.{HoldsBytes}
use Rattle.format_spec.specs.declared.PageKind.{PageKind}
use Rattle.format_spec.specs.declared.PageKind.TheVariants.{IndexInterior, TableInterior, IndexLeaf, TableLeaf}
use Rattle.format_spec.specs.declared.CellView.{CellView}
use Rattle.format_spec.specs.Cell.{IsCell, IsIndexCell}
use Rattle.cell_codec.specs.CellLaws.{cell-parts}
use Rattle.page_spec.specs.Pages.{Pages, IsInRange}
use Rattle.page_spec.specs.Chains.{AreLinked, IsBroken, IsChain, pages_for, chain_bytes}
use Rattle.page_spec.specs.ChainsLaws.{same_broken, same_chain, chain-not_broken}
use Rattle.refusal.specs.declared.Rule.{Rule}
use Rattle.tree_walk.specs.Pages.{PageView}
use Rattle.tree_walk.specs.Payloads.{IsBadChain, IsPayload, part_at}

index_part : (kind : PageKind) (usable : ℕ) (cell : List ℕ) (view : CellView) → IsIndexCell kind usable cell view → view.local_at + view.local ≤ view.size
index_part kind usable cell view is =
    omega (
      arith,
      is.size,
      ap length is.whole,
      length-append is.child_bytes (is.payload_bytes ++ (is.local_bytes ++ is.overflow_bytes)),
      length-append is.payload_bytes (is.local_bytes ++ is.overflow_bytes),
      length-append is.local_bytes is.overflow_bytes,
      is.local_at,
      is.local_length,
    )

-- the local part of a payload lies in its cell
pub local_part : (kind : PageKind) (usable : ℕ) (cell : List ℕ) (view : CellView) → IsCell kind usable cell view → view.local_at + view.local ≤ view.size
local_part TableLeaf usable cell view is = omega (arith, cell-parts usable cell view is)
local_part TableInterior usable cell view is = omega (arith, is.local_at, is.local)
local_part IndexLeaf usable cell view is = index_part IndexLeaf usable cell view is
local_part IndexInterior usable cell view is = index_part IndexInterior usable cell view is

-- only no bytes fill no page
pub pages_for-none : (usable bytes : ℕ) → pages_for usable bytes ≡ 0 → bytes ≡ 0
pages_for-none usable bytes none =
    let room = usable - 4 in
    let whole : bytes / room ≡ 0 = omega (arith, none) in
    elim (cases_eq (bytes % room) 0) [
      | inl even ↦ sym (div-add-mod' bytes room) ∙ ap₂ (λ (q r : ℕ). q * room + r) whole even ∙ omega (arith, zero-mul room)
      | inr odd ↦
          let pick : Bool → ℕ = λ b. if b then 0 else 1 in
          let one : pick (bytes % room == 0) ≡ 1 = ap pick (ne_eqb (bytes % room) 0 odd) in
          absurd (omega (arith, none, one))
    ]

-- the first number of a chain of some bytes is in range
pub chain-first : (pages : Pages) (size usable count first bytes : ℕ) (numbers : List ℕ) → 0 < bytes → IsChain pages size usable count first bytes numbers → IsInRange size count first
chain-first pages size usable count first bytes numbers some chain = by numbers chain.linked chain.many
  where
    by : (ns : List ℕ) → AreLinked pages size count first ns → length ns ≡ pages_for usable bytes → IsInRange size count first
    by [] linked many = absurd (omega (arith, some, pages_for-none usable bytes (sym many)))
    by (n ∷ ns) linked many = subst⁻¹ (IsInRange size count) linked.0 linked.1

module _ (pages : Pages) (size usable count : ℕ) (page : PageView) (at : ℕ) (view : CellView) where
  abbrev rest_size : ℕ
  rest_size = view.payload - view.local

  whole_or_rest : (a b : List ℕ) → (rest_size ≡ 0) × (a ≡ part_at page at view) → (rest : List ℕ) × HoldsBytes pages size usable count view.overflow rest_size rest × (b ≡ part_at page at view ++ rest) → a ≡ b
  whole_or_rest a b one two =
      one.1 ∙ sym (append-nil (part_at page at view)) ∙ ap (λ (n : ℕ). part_at page at view ++ chain_bytes pages usable two.1.0 n) (sym one.0)
      ∙ ap (λ (rest : List ℕ). part_at page at view ++ rest) (sym two.1.2) ∙ sym two.2

  -- a cell has one payload
  pub payload-one : (a b : List ℕ) → IsPayload pages size usable count page at view a → IsPayload pages size usable count page at view b → a ≡ b
  payload-one a b (inl one) (inl two) = one.1 ∙ sym two.1
  payload-one a b (inl one) (inr two) = whole_or_rest a b one two
  payload-one a b (inr one) (inl two) = sym (whole_or_rest b a two one)
  payload-one a b (inr one) (inr two) =
      let same = same_chain pages size count usable view.overflow rest_size one.1.0 two.1.0 one.1.1 two.1.1 in
      one.2 ∙ ap (λ (rest : List ℕ). part_at page at view ++ rest) (one.1.2 ∙ ap (λ (ns : List ℕ). chain_bytes pages usable ns rest_size) same ∙ sym two.1.2) ∙ sym two.2

  -- and its chain is not broken
  pub payload-not_broken : (payload : List ℕ) → IsPayload pages size usable count page at view payload → 0 < rest_size → (number : ℕ) (r : Rule)
      → IsBadChain pages size usable count page.number view.overflow rest_size number r → ⊥
  payload-not_broken payload (inl one) some number r bad = omega (arith, some, one.0)
  payload-not_broken payload (inr one) some number r bad = elim bad.1 [
    | inl first ↦ first.1 (chain-first pages size usable count view.overflow rest_size one.1.0 some one.1.1)
    | inr later ↦ chain-not_broken pages size count usable view.overflow rest_size one.1.0 number one.1.1 later.1
  ]

-- a chain is broken in one place
pub bad_chain-one : (pages : Pages) (size usable count number first bytes : ℕ) (page other : ℕ) (r s : Rule) → IsBadChain pages size usable count number first bytes page r
    → IsBadChain pages size usable count number first bytes other s → (page ≡ other) × (r ≡ s)
bad_chain-one pages size usable count number first bytes page other r s one two = (by one.1 two.1, one.0 ∙ sym two.0)
  where
    by : ((page ≡ number) × ¬ IsInRange size count first) ⊎ (IsInRange size count first × IsBroken pages size usable count first bytes page)
        → ((other ≡ number) × ¬ IsInRange size count first) ⊎ (IsInRange size count first × IsBroken pages size usable count first bytes other) → page ≡ other
    by (inl a) (inl b) = a.0 ∙ sym b.0
    by (inl a) (inr b) = absurd (a.1 b.0)
    by (inr a) (inl b) = absurd (b.1 a.0)
    by (inr a) (inr b) = same_broken pages size count usable first bytes page other a.1 b.1

-- any view
abbrev pub no_view : CellView
no_view = record { size = 0; rowid = pos 0; child = 0; payload = 0; local_at = 0; local = 0; overflow = 0 }
