-- What a seat knows, and what becomes of it.
use Rattle.std.specs.Prelude.{ℕ, ◌+◌, ◌^◌, List, [], ◌∷◌, Option, None}
use Rattle.frame_pool.specs.declared.view.View.{View}

abbrev pub view : ℕ → ℕ → List ℕ → Option ℕ → List ℕ → View
view size parts claimed out tries = record { size = size; parts = parts; claimed = claimed; out = out; tries = tries }

-- how many parts the first seat begins with, which all seats share
abbrev pub whole : ℕ
whole = 2 ^ 32

-- the parts of all seats together
abbrev pub total : List View → ℕ
total [] = 0
total (v ∷ vs) = v.parts + total vs

-- a seat that has made no step
abbrev pub fresh : ℕ → ℕ → View
fresh size parts = view size parts [] None []

-- the first seat
abbrev pub starts : ℕ → View
starts size = fresh size whole

-- a seat that has given parts away, or got some
abbrev pub with_parts : View → ℕ → View
with_parts v parts = view v.size parts v.claimed v.out v.tries

-- a seat that was joined to another
abbrev pub spent : View
spent = view 0 0 [] None []
