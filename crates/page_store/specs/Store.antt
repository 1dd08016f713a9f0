-- What a function over a store says of it. Each word takes the store's members, as `S.PageRead`, and the store before and after.
use Rattle.std.specs.Prelude.{◌≡◌, ℕ, ◌≤◌, Option, Some, None, Result, OnOk, IfSome}
use Rattle.common_spec.specs.Counts.{CountsFaults}
use Rattle.common_spec.specs.Told.{Leads, Finds}
use Rattle.format_spec.specs.Sizes.{IsUsable}
use Rattle.page_spec.specs.Pages.{Pages, IsInRange}
use Rattle.page_store.specs.declared.store.PageRead.{Ghosts}

-- the cause of an error: where it is a fault of the store, what such a fault needs; else no call failed
abbrev pub IsCause : {S F : Type 0} → (S → S → F → Type 0) → Option F → S → S → Type 0
IsCause Fails (Some fault) before now = Fails before now fault
IsCause Fails None before now = now ≡ before

module _ {P F : Type 0} (g : Ghosts P F) where
  -- the sizes are those of a database
  pub record HasSizes (store : P) : Type 0 where
    pub usable : IsUsable (g.usable store)
    pub within : g.usable store ≤ g.size store
    pub largest : g.size store ≤ 65536

  -- a number that a link in the store may name
  abbrev pub IsNumber : P → ℕ → Type 0
  IsNumber store number = IsInRange (g.size store) (g.count store) number

  -- the sizes stay, and what no call changes
  pub record Stays (before after : P) : Type 0 where
    pub size : g.size after ≡ g.size before
    pub usable : g.usable after ≡ g.usable before
    pub fixed : g.fixed after ≡ g.fixed before

  -- What every call over a store owes: the sizes stay, the faults are counted, and an error has its cause. `fault_in` is the fault of the store that it has, if any.
  pub record OwesBy {T E : Type 0} (fault_in : E → Option F) (before after : P) (result : Result T E) : Type 0 where
    pub stays : Stays before after
    pub faults : CountsFaults g.fault_count (λ f h error. IsCause g.Fails (fault_in error) f h) (g.faults before) (g.faults after) result

  -- the same where each error is a fault of the store
  abbrev pub Owes : {T : Type 0} → P → P → Result T F → Type 0
  Owes before after result = OwesBy Some before after result

  -- the pages and their count stay, and what is answered holds of them, where the store tells them
  pub record Looks {T E : Type 0} (before after : P) (result : Result T E) (Is : T → Pages → Type 0) : Type 0 where
    pub pages : Finds (g.pages before) (g.pages after) result Is
    pub count : g.count after ≡ g.count before

  -- the count stays; where the call ends well, the pages went by R, where the store tells them
  pub record Goes {T E : Type 0} (before after : P) (result : Result T E) (R : Pages → Pages → Type 0) : Type 0 where
    pub pages : OnOk result (Leads R (g.pages before) (g.pages after))
    pub count : g.count after ≡ g.count before

  -- the pages and their count stay, and the whole answer, also one that is an error, is as they say, where the store tells them
  pub record Sees (before after : P) (Is : Pages → Type 0) : Type 0 where
    pub same : g.pages after ≡ g.pages before
    pub count : g.count after ≡ g.count before
    pub answer : IfSome (g.pages before) Is
