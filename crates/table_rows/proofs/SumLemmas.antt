-- Sums over lists: parts may be joined in any order, and a filter may be split.
use Rattle.std.proofs.Common.{◌≡◌, ◌∙◌, ℕ, ◌+◌, ◌<◌, Bool, cond, List, [], ◌∷◌, ◌++◌, length, take, get_or, ℤ, pos, ◌+ℤ◌, refl, sym, ap, add_assoc, add-zero}
use Rattle.std.proofs.Math.Nat.{add_comm}
use Rattle.std.proofs.Math.IntN.{+ℤ_comm, +ℤ_assoc, +ℤ_idr}
use Rattle.std.specs.List.{filter}
use Rattle.std.proofs.lemmas.List.Elements.{filter_more}
use Rattle.table_rows.specs.declared.row.Row.{Row}
use Rattle.table_rows.specs.declared.sum.Sum.{Sum}
use Rattle.table_rows.specs.Sums.{sum_with, no_sum, joined, sum_over, sum_of_row}

-- ---- joining

same_sum : (m n : ℤ) (c d p q : ℕ) → m ≡ n → c ≡ d → p ≡ q → sum_with m c p ≡ sum_with n d q
same_sum m n c d p q em ec ep = rw (em, ec, ep) refl

pub joined-comm : (a b : Sum) → joined a b ≡ joined b a
joined-comm a b =
    same_sum (a.micros +ℤ b.micros) (b.micros +ℤ a.micros) (a.count + b.count) (b.count + a.count) (a.plain + b.plain) (b.plain + a.plain)
    (+ℤ_comm a.micros b.micros) (add_comm a.count b.count) (add_comm a.plain b.plain)

pub joined-assoc : (a b c : Sum) → joined (joined a b) c ≡ joined a (joined b c)
joined-assoc a b c =
    same_sum _ _ _ _ _ _ (+ℤ_assoc a.micros b.micros c.micros) (add_assoc a.count b.count c.count) (add_assoc a.plain b.plain c.plain)

pub joined-none : (a : Sum) → joined a no_sum ≡ a
joined-none a = same_sum (a.micros +ℤ pos 0) a.micros (a.count + 0) a.count (a.plain + 0) a.plain (+ℤ_idr a.micros) (add-zero a.count) (add-zero a.plain)

pub none-joined : (a : Sum) → joined no_sum a ≡ a
none-joined a = joined-comm no_sum a ∙ joined-none a

-- (a + b) + (c + d) = (a + c) + (b + d)
pub joined-swap : (a b c d : Sum) → joined (joined a b) (joined c d) ≡ joined (joined a c) (joined b d)
joined-swap a b c d =
    joined-assoc a b (joined c d)
    ∙ ap (joined a) (sym (joined-assoc b c d) ∙ ap (λ s. joined s d) (joined-comm b c) ∙ joined-assoc c b d)
    ∙ sym (joined-assoc a c (joined b d))

-- ---- lists

pub sum_over-append : {X : Type 0} (f : X → Sum) (xs ys : List X) → sum_over f (xs ++ ys) ≡ joined (sum_over f xs) (sum_over f ys)
sum_over-append f [] ys = sym (none-joined (sum_over f ys))
sum_over-append f (x ∷ xs) ys = ap (joined (f x)) (sum_over-append f xs ys) ∙ sym (joined-assoc (f x) (sum_over f xs) (sum_over f ys))

-- one more at the end
pub sum_over-push : {X : Type 0} (f : X → Sum) (xs : List X) (x : X) → sum_over f (xs ++ x ∷ []) ≡ joined (sum_over f xs) (f x)
sum_over-push f xs x = sum_over-append f xs (x ∷ []) ∙ ap (joined (sum_over f xs)) (joined-none (f x))

-- sums of two things at once
pub sum_over-joined : {X : Type 0} (f g : X → Sum) (xs : List X) → sum_over (λ x. joined (f x) (g x)) xs ≡ joined (sum_over f xs) (sum_over g xs)
sum_over-joined f g [] = sym (joined-none no_sum)
sum_over-joined f g (x ∷ xs) =
    ap (joined (joined (f x) (g x))) (sum_over-joined f g xs) ∙ joined-swap (f x) (g x) (sum_over f xs) (sum_over g xs)

pub sum_over-none : {X : Type 0} (xs : List X) → sum_over (λ x. no_sum) xs ≡ no_sum
sum_over-none [] = refl
sum_over-none (x ∷ xs) = ap (joined no_sum) (sum_over-none xs) ∙ none-joined no_sum

pub sum_over-same : {X : Type 0} (f g : X → Sum) (xs : List X) → ((x : X) → f x ≡ g x) → sum_over f xs ≡ sum_over g xs
sum_over-same f g [] same = refl
sum_over-same f g (x ∷ xs) same = ap (λ s. joined s (sum_over f xs)) (same x) ∙ ap (joined (g x)) (sum_over-same f g xs same)

-- a loop's step: one more row, where it is wanted
pub sum-more : {X : Type 0} (f : X → Sum) (p : X → Bool) (xs : List X) (i : ℕ) (x : X) (old new : Sum) → i < length xs → x ≡ get_or xs i x
    → old ≡ sum_over f (filter p (take i xs)) → new ≡ joined old (sum_over f (cond (p x) (x ∷ []) [])) → new ≡ sum_over f (filter p (take (i + 1) xs))
sum-more f p xs i x old new within at before is =
    is
    ∙ ap (λ s. joined s (sum_over f (cond (p x) (x ∷ []) []))) before
    ∙ sym (sum_over-append f (filter p (take i xs)) (cond (p x) (x ∷ []) []))
    ∙ ap (λ y. sum_over f (filter p (take i xs) ++ cond (p y) (y ∷ []) [])) at
    ∙ ap (sum_over f) (sym (filter_more p xs i x within))

pub ruleset sum_more = (sum-more)

pub ruleset joined_ends = (joined-none, none-joined)

pub told_sum : (told wanted : Bool) (old : Sum) (row : Row) (new : Sum) → told ≡ wanted → new ≡ joined old (sum_over sum_of_row (cond told (row ∷ []) []))
    → new ≡ joined old (sum_over sum_of_row (cond wanted (row ∷ []) []))
told_sum told wanted old row new same is = is ∙ ap (λ b. joined old (sum_over sum_of_row (cond b (row ∷ []) []))) same
