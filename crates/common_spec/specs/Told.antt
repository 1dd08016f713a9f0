-- What a device tells of its state. A device that tells nothing has the state `None`, and of it nothing is said.
use Rattle.std.specs.Prelude.{◌≡◌, Option, is_some, Result, IfOk, IfSome}

-- The call leads by R from what the device tells before to what it tells after; a device that tells its state goes on telling it.
pub record Leads {S : Type 0} (R : S → S → Type 0) (before after : Option S) : Type 0 where
  pub goes_on : is_some after ≡ is_some before
  pub step : IfSome before (λ f. IfSome after (R f))

-- A call that only reads: the state stays, and what is answered holds of it.
pub record Finds {S T E : Type 0} (before after : Option S) (result : Result T E) (Is : T → S → Type 0) : Type 0 where
  pub same : after ≡ before
  pub answer : IfOk result (λ x. IfSome before (Is x))
