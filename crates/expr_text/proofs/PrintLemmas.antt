-- What follows of a value holds of a result that may be a fault.
use Rattle.std.proofs.Common.{Result, Ok, Err}
use Rattle.std.specs.Prelude.{IfOk}

pub carried : {T E : Type 0} {P Q : T → Type 0} (r : Result T E) → ((t : T) → P t → Q t) → IfOk r P → IfOk r Q
carried (Ok t) follows holds = follows t holds
carried (Err e) follows holds = holds
