-- A list of what passes a test, one member more.
use Rattle.std.proofs.Common.{◌≡◌, ◌∙◌, ℕ, ◌+◌, ◌<◌, Bool, cond, List, [], ◌∷◌, ◌++◌, length, take, get_or, sym, ap}
use Rattle.std.specs.List.{filter}
use Rattle.std.proofs.lemmas.List.Elements.{filter_more}

pub kept-more : {X : Type 0} (test : X → Bool) (xs : List X) (i : ℕ) (x : X) (b : Bool) (old new : List X) → i < length xs → x ≡ get_or xs i x
    → b ≡ test x → new ≡ old ++ cond b (x ∷ []) [] → old ≡ filter test (take i xs) → new ≡ filter test (take (i + 1) xs)
kept-more test xs i x b old new within at is put before =
    put ∙ ap (λ l. l ++ cond b (x ∷ []) []) before
    ∙ ap (λ c. filter test (take i xs) ++ cond c (x ∷ []) []) is
    ∙ ap (λ y. filter test (take i xs) ++ cond (test y) (y ∷ []) []) at
    ∙ sym (filter_more test xs i x within)
