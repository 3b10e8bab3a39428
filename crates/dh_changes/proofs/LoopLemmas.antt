-- Lists that a loop makes, an item a turn.
use Rattle.std.proofs.Common.{◌≡◌, ◌∙◌, ◌+◌, ◌<◌, ℕ, List, [], ◌∷◌, ◌++◌, length, take, get_or, map, sym, ap}
use Rattle.std.proofs.lemmas.List.{take_more, map_more}

-- what the items are seen as
pub mapped-more : {X Y : Type 0} (f : X → Y) (xs : List X) (found more : List Y) (i : ℕ) (x : X) (y : Y) → i < length xs → x ≡ get_or xs i x
    → found ≡ map f (take i xs) → more ≡ found ++ y ∷ [] → y ≡ f x → more ≡ map f (take (i + 1) xs)
mapped-more f xs found more i x y within at before is made =
    is
    ∙ ap (λ v. found ++ v ∷ []) (made ∙ ap f at)
    ∙ ap (λ all. all ++ f (get_or xs i x) ∷ []) before
    ∙ sym (map_more f xs i x within)

-- copies of the items
pub copied-more : {X : Type 0} (xs found more : List X) (i : ℕ) (x y : X) → i < length xs → x ≡ get_or xs i x
    → found ≡ take i xs → more ≡ found ++ y ∷ [] → y ≡ x → more ≡ take (i + 1) xs
copied-more xs found more i x y within at before is made =
    is
    ∙ ap (λ v. found ++ v ∷ []) (made ∙ at)
    ∙ ap (λ all. all ++ get_or xs i x ∷ []) before
    ∙ sym (take_more xs i x within)
