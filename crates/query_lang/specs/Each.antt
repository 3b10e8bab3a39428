-- Each of a list, or the first refusal.
use Rattle.std.specs.Prelude.{List, [], ◌∷◌, ◌++◌, Result, Ok}
use Rattle.dh_base.specs.declared.codes.Refusal.{Refusal}
use Rattle.query_lang.specs.Given.{and_then}

abbrev pub each_of : {A B : Type 0} → (A → Result B Refusal) → List A → Result (List B) Refusal
each_of f [] = Ok []
each_of f (x ∷ xs) = and_then (f x) (λ y. and_then (each_of f xs) (λ ys. Ok (y ∷ ys)))

-- others stand before these
abbrev pub beyond : {B : Type 0} → List B → Result (List B) Refusal → Result (List B) Refusal
beyond done rest = and_then rest (λ more. Ok (done ++ more))
