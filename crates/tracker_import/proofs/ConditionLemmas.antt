-- The first condition that holds, of several asked one after another.
use Rattle.std.proofs.Common.{◌≡◌, Option, Some, None, refl}
use Rattle.std.specs.Option.{option_or}

pub in-order : {A : Type 0} (a b c d e f : Option A)
    → option_or (option_or (option_or (option_or (option_or a b) c) d) e) f
    ≡ option_or a (option_or b (option_or c (option_or d (option_or e (option_or f None)))))
in-order (Some x) b c d e f = refl
in-order None (Some x) c d e f = refl
in-order None None (Some x) d e f = refl
in-order None None None (Some x) e f = refl
in-order None None None None (Some x) f = refl
in-order None None None None None (Some x) = refl
in-order None None None None None None = refl
