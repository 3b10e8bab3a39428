-- A stack as a list, the topmost item first.
use Rattle.std.specs.Prelude.{List, [], ◌∷◌, Option, Some, None}

abbrev pub top_of : {T : Type 0} → List T → Option T
top_of [] = None
top_of (x ∷ xs) = Some x

abbrev pub rest_of : {T : Type 0} → List T → List T
rest_of [] = []
rest_of (x ∷ xs) = xs
