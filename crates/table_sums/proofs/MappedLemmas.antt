-- A list of what is made of each member of another, one member more.
use Rattle.std.proofs.Common.{◌≡◌, ◌∙◌, ℕ, ◌+◌, ◌<◌, List, [], ◌∷◌, ◌++◌, length, drop, get_or, map, sym, ap, add-one, drop-cons}
use Rattle.std.proofs.lemmas.List.{append_assoc}

pub mapped-step : {X Y : Type 0} (f : X → Y) (xs : List X) (i : ℕ) (x : X) (y : Y) (all old new : List Y) → i < length xs → x ≡ get_or xs i x → y ≡ f x
    → new ≡ old ++ y ∷ [] → all ≡ old ++ map f (drop i xs) → all ≡ new ++ map f (drop (i + 1) xs)
mapped-step f xs i x y all old new within is at put so_far =
    let rest = map f (drop (i + 1) xs) in
    let here : drop i xs ≡ get_or xs i x ∷ drop (i + 1) xs = rw add-one (drop-cons xs i x within) in
    so_far
    ∙ ap (λ l. old ++ map f l) here
    ∙ ap (λ z. old ++ f z ∷ rest) (sym is)
    ∙ ap (λ z. old ++ z ∷ rest) (sym at)
    ∙ sym (append_assoc old (y ∷ []) rest)
    ∙ ap (λ l. l ++ rest) (sym put)
