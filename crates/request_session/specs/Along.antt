-- Steps of one machine that are steps of another one, along a function of its states.
use Rattle.std.specs.Prelude.{ℕ, Bool, List}
use Rattle.http_wire.specs.declared.request.Request.{Request}

-- each step from a state of which something is known is a step of the other machine, and leaves a state of which it is
-- known
abbrev pub Carries : {M N : Type 0} → (M → N) → (M → Type 0) → (M → Request → Bool → List ℕ → M → Type 0) → (N → Request → Bool → List ℕ → N → Type 0) → Type 0
Carries {M} f Known step step' =
    (old new : M) (request : Request) (keep : Bool) (text : List ℕ) → Known old → step old request keep text new
    → step' (f old) request keep text (f new) × Known new
