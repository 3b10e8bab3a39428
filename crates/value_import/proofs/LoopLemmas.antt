-- Loops over the values of a set, and over completions.
use Rattle.std.proofs.Common.{◌≡◌, ◌∙◌, ℕ, ◌+◌, ◌<◌, List, ◌∷◌, length, drop, get_or, sym, ap}
use Rattle.std.proofs.lemmas.List.{drop_more}

-- a loop that takes one member after another with its index: what it comes to is F of those that are left, after what those before came to
pub numbered-more : {X S : Type 0} (F : ℕ → List X → S → S) (step : ℕ → X → S → S)
    → ((n : ℕ) (x : X) (more : List X) (s : S) → F n (x ∷ more) s ≡ F (n + 1) more (step n x s))
    → (xs : List X) (n i : ℕ) (x : X) (whole old new : S) → i < length xs → x ≡ get_or xs i x → F n (drop i xs) old ≡ whole → new ≡ step n x old
    → F (n + 1) (drop (i + 1) xs) new ≡ whole
numbered-more F step rule xs n i x whole old new within at before is =
    ap (F (n + 1) (drop (i + 1) xs)) is
    ∙ ap (λ y. F (n + 1) (drop (i + 1) xs) (step n y old)) at
    ∙ sym (rule n (get_or xs i x) (drop (i + 1) xs) old)
    ∙ sym (ap (λ left. F n left old) (drop_more xs i x within))
    ∙ before
