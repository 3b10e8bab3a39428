-- Sets of numbers that grow with a list.
use Rattle.std.proofs.Common.{◌≡◌, ◌∙◌, ℕ, Bool, true, false, cond, List, [], ◌∷◌, ◌++◌, ◌||◌, nat_eq, refl, sym, ap}
use Rattle.std.specs.List.{list_any}
use Rattle.std.proofs.lemmas.Cmp.{nat_eq_equiv}
use Rattle.std.proofs.lemmas.List.Folds.{list_any-append}
use Rattle.query_lang.specs.Walk.{has}

choice_or : (a b : Bool) → cond a true b ≡ (b || (a || false))
choice_or true true = refl
choice_or true false = refl
choice_or false true = refl
choice_or false false = refl

-- a number more
pub has-more : (numbers : List ℕ) (x n : ℕ) (old new : Bool) (same : Bool) → same ≡ nat_eq n x → old ≡ has numbers n → new ≡ cond same true old
    → new ≡ has (numbers ++ x ∷ []) n
has-more numbers x n old new same is known put =
    put ∙ ap (λ b. cond same true b) known ∙ ap (λ b. cond b true (has numbers n)) is ∙ choice_or (nat_eq n x) (has numbers n)
    ∙ sym (list_any-append (nat_eq n) numbers (x ∷ []))

-- std looks a number up the other way round
pub contained : (numbers : List ℕ) (n : ℕ) → list_any (λ m. nat_eq m n) numbers ≡ has numbers n
contained [] n = refl
contained (m ∷ more) n = ap (λ b. b || list_any (λ k. nat_eq k n) more) (nat_eq_equiv.symm m n) ∙ ap (λ b. nat_eq n m || b) (contained more n)
