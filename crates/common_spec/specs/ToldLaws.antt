-- How the steps of one device join: crates above cite these facts in their proofs.
use Rattle.std.specs.Prelude.{◌≡◌, Option, Some, None, IfSome, option_map, refl}
use Rattle.std.proofs.Common.{sym, subst, ap}
use Rattle.std.proofs.lemmas.Option.{same_Some, none-some}
use Rattle.common_spec.specs.Told.{Leads}

-- nothing changes
pub Leads-here : {S : Type 0} {Q : S → S → Type 0} {at : Option S} → ((f : S) → Q f f) → Leads Q at at
Leads-here {at = None} q = record { goes_on = refl; step = tt }
Leads-here {at = Some f} q = record { goes_on = refl; step = q f }

-- a step says less
pub Leads-weaken : {S : Type 0} {R Q : S → S → Type 0} {before after : Option S} → Leads R before after → ((f g : S) → R f g → Q f g) → Leads Q before after
Leads-weaken {before = None} {after = after} h w = record { goes_on = h.goes_on; step = tt }
Leads-weaken {before = Some f} {after = None} h w = record { goes_on = h.goes_on; step = tt }
Leads-weaken {before = Some f} {after = Some g} h w = record { goes_on = h.goes_on; step = w f g h.step }

-- a state that stays
pub Leads-same : {S : Type 0} {Q : S → S → Type 0} {before after : Option S} → after ≡ before → ((f : S) → Q f f) → Leads Q before after
Leads-same {Q = Q} {before = before} e q = subst (Leads Q before) (sym e) (Leads-here q)

-- one step after another
pub Leads-then : {S : Type 0} {P R Q : S → S → Type 0} {before between after : Option S} → Leads P before between → Leads R between after →
    ((f g h : S) → P f g → R g h → Q f h) → Leads Q before after
Leads-then {before = None} {between = between} {after = after} p r w = record { goes_on = cc (p.goes_on, r.goes_on); step = tt }
Leads-then {before = Some f} {between = None} {after = after} p r w = absurd (let e = p.goes_on in cc)
Leads-then {before = Some f} {between = Some g} {after = None} p r w = absurd (let e = r.goes_on in cc)
Leads-then {before = Some f} {between = Some g} {after = Some h} p r w = record { goes_on = refl; step = w f g h p.step r.step }

-- two facts of a state that stays
pub told-both : {S : Type 0} {P Q R : S → Type 0} (before : Option S) {after : Option S} → after ≡ before → IfSome before P → IfSome after Q →
    ((f : S) → P f → Q f → R f) → IfSome before R
told-both {S = S} {P = P} {Q = Q} {R = R} before {after = after} same p q w = joined before p (subst (λ o. IfSome o Q) same q)
  where
    joined : (o : Option S) → IfSome o P → IfSome o Q → IfSome o R
    joined None p q = tt
    joined (Some f) p q = w f p q

-- a step from a state of which something is known
pub Leads-known : {S : Type 0} {K : S → Type 0} {R : S → S → Type 0} {before after : Option S} → IfSome before K → Leads (λ f g. K f → R f g) before after → Leads R before after
Leads-known {before = None} known step = record { goes_on = step.goes_on; step = tt }
Leads-known {before = Some f} {after = None} known step = record { goes_on = step.goes_on; step = tt }
Leads-known {before = Some f} {after = Some g} known step = record { goes_on = step.goes_on; step = step.step known }

-- a step that changes nothing leaves what is told
pub same-Leads : {S : Type 0} {before after : Option S} → Leads (λ f g. g ≡ f) before after → after ≡ before
same-Leads {before = None} {after = None} step = refl
same-Leads {before = None} {after = Some g} step = absurd (let e = step.goes_on in cc)
same-Leads {before = Some f} {after = None} step = absurd (let e = step.goes_on in cc)
same-Leads {before = Some f} {after = Some g} step = ap Some step.step

-- two relations of one step
pub Leads-both : {S : Type 0} {P Q : S → S → Type 0} {x y : Option S} → Leads P x y → Leads Q x y → Leads (λ a b. P a b × Q a b) x y
Leads-both {x = None} p q = record { goes_on = p.goes_on; step = tt }
Leads-both {x = Some a} {y = None} p q = record { goes_on = p.goes_on; step = tt }
Leads-both {x = Some a} {y = Some b} p q = record { goes_on = p.goes_on; step = (p.step, q.step) }

-- what holds of the state that is told
pub IfSome-told : {S : Type 0} {told : Option S} (P : S → Type 0) (f : S) → told ≡ Some f → IfSome told P → P f
IfSome-told {told = None} P f e h = absurd (none-some f e)
IfSome-told {told = Some g} P f e h = subst P (same_Some g f e) h

-- the state to which a known one leads
pub Leads-told : {S : Type 0} {R : S → S → Type 0} {before after : Option S} (f : S) → before ≡ Some f → Leads R before after → (g : S) × (after ≡ Some g) × R f g
Leads-told {before = None} {after = after} f e step = absurd (none-some f e)
Leads-told {before = Some g} {after = None} f e step = absurd (let on = step.goes_on in cc)
Leads-told {S = S} {R = R} {before = Some g} {after = Some h} f e step = (h, refl, subst (λ (x : S). R x h) (same_Some g f e) step.step)

-- what holds of each state to which another leads
pub IfSome-led : {S : Type 0} {R : S → S → Type 0} {before after : Option S} (P : S → Type 0) → Leads R before after → ((f g : S) → R f g → P g) → IfSome after P
IfSome-led {before = before} {after = None} P step holds = tt
IfSome-led {before = None} {after = Some g} P step holds = absurd (let on = step.goes_on in cc)
IfSome-led {before = Some f} {after = Some g} P step holds = holds f g step.step

-- a step, and what is known of the state that it leaves
pub Leads-ending : {S : Type 0} {R : S → S → Type 0} {P : S → Type 0} {x y : Option S} → Leads R x y → IfSome y P → Leads (λ a b. R a b × P b) x y
Leads-ending {x = None} led p = record { goes_on = led.goes_on; step = tt }
Leads-ending {x = Some a} {y = None} led p = record { goes_on = led.goes_on; step = tt }
Leads-ending {x = Some a} {y = Some b} led p = record { goes_on = led.goes_on; step = (led.step, p) }

-- what is said of one part of a state
pub part-Leads : {S T : Type 0} (part : S → T) (R : T → T → Type 0) (x y : Option S) → Leads R (option_map part x) (option_map part y) → Leads (λ a b. R (part a) (part b)) x y
part-Leads part R None None led = record { goes_on = refl; step = tt }
part-Leads part R None (Some b) led = absurd (let e = led.goes_on in cc)
part-Leads part R (Some a) None led = absurd (let e = led.goes_on in cc)
part-Leads part R (Some a) (Some b) led = record { goes_on = refl; step = led.step }

pub part-IfSome : {S T : Type 0} (part : S → T) (P : T → Type 0) (x : Option S) → IfSome (option_map part x) P → IfSome x (λ a. P (part a))
part-IfSome part P None p = tt
part-IfSome part P (Some a) p = p
