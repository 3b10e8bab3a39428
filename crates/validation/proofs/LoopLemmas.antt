-- A step of a loop that lists what is made of each member.
use Rattle.std.proofs.Common.{◌≡◌, ◌∙◌, ℕ, ◌+◌, ◌<◌, List, [], ◌∷◌, ◌++◌, length, map, take, get_or, sym, ap}
use Rattle.std.proofs.lemmas.List.{map-append, map_more}

-- what is seen of one that is made more is f of the member
pub viewed-more : {X Y Z : Type 0} (view : Y → Z) (f : X → Z) (xs : List X) (found more : List Y) (i : ℕ) (x : X) (y : Y) → i < length xs
    → x ≡ get_or xs i x → map view found ≡ map f (take i xs) → more ≡ found ++ y ∷ [] → view y ≡ f x → map view more ≡ map f (take (i + 1) xs)
viewed-more view f xs found more i x y within at before is of =
    ap (map view) is
    ∙ map-append view found (y ∷ [])
    ∙ ap (λ z. map view found ++ z ∷ []) (of ∙ ap f at)
    ∙ ap (λ all. all ++ f (get_or xs i x) ∷ []) before
    ∙ sym (map_more f xs i x within)
