-- Loops over the objects of a bundle.
use Rattle.std.proofs.Common.{◌≡◌, ◌∙◌, ℕ, ◌+◌, ◌<◌, ◌≤◌, Bool, true, false, cond, List, [], ◌∷◌, ◌++◌, length, drop, get_or, filter, map}
use Rattle.std.proofs.Common.{sym, ap}
use Rattle.std.proofs.lemmas.List.{drop_all, drop_more, append_assoc, append-nil}

-- a loop that takes one member after another: what it comes to is F of those that are left, after what those before came to
pub folded-more : {X S : Type 0} (F : List X → S → S) (step : X → S → S) → ((x : X) (more : List X) (s : S) → F (x ∷ more) s ≡ F more (step x s))
    → (xs : List X) (i : ℕ) (x : X) (whole old new : S) → i < length xs → x ≡ get_or xs i x → whole ≡ F (drop i xs) old → new ≡ step x old
    → whole ≡ F (drop (i + 1) xs) new
folded-more F step rule xs i x whole old new within at before is =
    before
    ∙ ap (λ left. F left old) (drop_more xs i x within)
    ∙ rule (get_or xs i x) (drop (i + 1) xs) old
    ∙ ap (λ y. F (drop (i + 1) xs) (step y old)) (sym at)
    ∙ ap (F (drop (i + 1) xs)) (sym is)

-- a loop that keeps the members that pass a test
pub kept-more : {X : Type 0} (p : X → Bool) (xs found more : List X) (i : ℕ) (x : X) (b : Bool) → i < length xs → x ≡ get_or xs i x
    → filter p xs ≡ found ++ filter p (drop i xs) → more ≡ found ++ cond b (x ∷ []) [] → b ≡ p x → filter p xs ≡ more ++ filter p (drop (i + 1) xs)
kept-more p xs found more i x b within at before is passes =
    before
    ∙ ap (λ left. found ++ filter p left) (drop_more xs i x within)
    ∙ ap (λ y. found ++ filter p (y ∷ drop (i + 1) xs)) (sym at)
    ∙ one (p x)
    ∙ ap (λ v. (found ++ cond v (x ∷ []) []) ++ filter p (drop (i + 1) xs)) (sym passes)
    ∙ ap (λ all. all ++ filter p (drop (i + 1) xs)) (sym is)
  where
    one : (v : Bool) → found ++ cond v (x ∷ filter p (drop (i + 1) xs)) (filter p (drop (i + 1) xs))
        ≡ (found ++ cond v (x ∷ []) []) ++ filter p (drop (i + 1) xs)
    one true = sym (append_assoc found (x ∷ []) (filter p (drop (i + 1) xs)))
    one false = sym (append_assoc found [] (filter p (drop (i + 1) xs)))

-- a loop over members that are left, which puts what it makes of each at the end of a list
pub mapped-rest : {X Y : Type 0} (f : X → Y) (xs : List X) (whole before after : List Y) (i : ℕ) (x : X) (y : Y) → i < length xs → x ≡ get_or xs i x
    → whole ≡ before ++ map f (drop i xs) → y ≡ f x → after ≡ before ++ y ∷ [] → whole ≡ after ++ map f (drop (i + 1) xs)
mapped-rest f xs whole before after i x y within at known made is =
    let rest : List _ = map f (drop (i + 1) xs) in
    known
    ∙ ap (λ l. before ++ map f l) (drop_more xs i x within)
    ∙ ap (λ v. before ++ f v ∷ rest) (sym at)
    ∙ sym (append_assoc before (f x ∷ []) rest)
    ∙ ap (λ v. (before ++ v ∷ []) ++ rest) (sym made)
    ∙ ap (λ l. l ++ rest) (sym is)

pub mapped-all : {X Y : Type 0} (f : X → Y) (xs : List X) (whole before : List Y) (i : ℕ) → length xs ≤ i → whole ≡ before ++ map f (drop i xs)
    → before ≡ whole
mapped-all f xs whole before i past known = sym (known ∙ ap (λ l. before ++ map f l) (drop_all i xs past) ∙ append-nil before)

-- an owned list that is moved to the end of another
pub moved-more : {X : Type 0} (whole before after left rest : List X) (x : X) → whole ≡ before ++ left → left ≡ x ∷ rest → after ≡ before ++ x ∷ []
    → whole ≡ after ++ rest
moved-more whole before after left rest x known next is =
    known ∙ ap (λ l. before ++ l) next ∙ sym (append_assoc before (x ∷ []) rest) ∙ ap (λ l. l ++ rest) (sym is)
