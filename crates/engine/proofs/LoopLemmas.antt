-- A loop that makes something of each member, by a view of what it made.
use Rattle.std.proofs.Common.{◌≡◌, ◌∙◌, ℕ, ◌+◌, ◌<◌, ◌≤◌, List, [], ◌∷◌, ◌++◌, length, map, take, get_or, sym, ap}
use Rattle.std.proofs.lemmas.List.{map-append, map_more, take_all}

pub made-more : {X V Y : Type 0} (view : V → Y) (f : X → Y) (xs : List X) (found more : List V) (i : ℕ) (x : X) (v : V) → i < length xs → x ≡ get_or xs i x
    → map view found ≡ map f (take i xs) → more ≡ found ++ v ∷ [] → view v ≡ f x → map view more ≡ map f (take (i + 1) xs)
made-more view f xs found more i x v within at before is made =
    ap (map view) is
    ∙ map-append view found (v ∷ [])
    ∙ ap (λ y. map view found ++ y ∷ []) (made ∙ ap f at)
    ∙ ap (λ all. all ++ f (get_or xs i x) ∷ []) before
    ∙ sym (map_more f xs i x within)

pub made-all : {X V Y : Type 0} (view : V → Y) (f : X → Y) (xs : List X) (found : List V) (i : ℕ) → length xs ≤ i → map view found ≡ map f (take i xs)
    → map view found ≡ map f xs
made-all view f xs found i end is = is ∙ ap (map f) (take_all i xs end)
