-- What holds of a value that was handed on with another.
use Rattle.std.proofs.Common.{◌≡◌, Result, Ok, IfOk, subst}

pub had : {A E : Type 0} (made : Result A E) (P : A → Type 0) (x : A) → IfOk made P → made ≡ Ok x → P x
had made P x holds is = subst (λ each. IfOk each P) is holds
