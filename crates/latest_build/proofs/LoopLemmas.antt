-- Steps of loops that list what passes, or what is made of each member.
use Rattle.std.proofs.Common.{◌≡◌, ◌∙◌, ℕ, ◌+◌, ◌<◌, Bool, cond, List, [], ◌∷◌, ◌++◌, length, map, take, get_or, sym, ap}
use Rattle.std.specs.List.{filter}
use Rattle.std.proofs.lemmas.List.{map_more}
use Rattle.std.proofs.lemmas.List.Elements.{filter_more}

pub mapped-more : {X Y : Type 0} (f : X → Y) (xs : List X) (found more : List Y) (i : ℕ) (x : X) → i < length xs → x ≡ get_or xs i x
    → found ≡ map f (take i xs) → more ≡ found ++ f x ∷ [] → more ≡ map f (take (i + 1) xs)
mapped-more f xs found more i x within at before is =
    is
    ∙ ap (λ y. found ++ f y ∷ []) at
    ∙ ap (λ all. all ++ f (get_or xs i x) ∷ []) before
    ∙ sym (map_more f xs i x within)

-- a member more is kept if it passes
pub kept-more : {X : Type 0} (p : X → Bool) (xs found more : List X) (i : ℕ) (x : X) (b : Bool) → i < length xs → x ≡ get_or xs i x
    → found ≡ filter p (take i xs) → more ≡ found ++ cond b (x ∷ []) [] → b ≡ p x → more ≡ filter p (take (i + 1) xs)
kept-more p xs found more i x b within at before is passes =
    is
    ∙ ap (λ v. found ++ cond v (x ∷ []) []) passes
    ∙ ap (λ y. found ++ cond (p y) (y ∷ []) []) at
    ∙ ap (λ all. all ++ cond (p (get_or xs i x)) (get_or xs i x ∷ []) []) before
    ∙ sym (filter_more p xs i x within)
