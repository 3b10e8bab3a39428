-- A sum over a filtered list is the sum of the sums over the parts into which the filter splits.
use Rattle.std.proofs.Common.{◌≡◌, ◌∙◌, ◌+◌, Bool, true, false, cond, List, [], ◌∷◌, refl, sym, ap, arith, zero-add}
use Rattle.std.specs.Prelude.{All}
use Rattle.std.specs.List.{filter, AllByRecursion}
use Rattle.std.proofs.lemmas.List.Elements.{recursion_from_All}
use Rattle.table_rows.specs.declared.sum.Sum.{Sum}
use Rattle.table_rows.specs.Cells.{times, how_many}
use Rattle.table_rows.specs.Sums.{no_sum, joined, sum_over}
use Rattle.table_rows.proofs.SumLemmas.{joined-none, none-joined, joined-swap, sum_over-joined, sum_over-none, sum_over-same}

-- a filter's sum, as a sum over the whole list
pub sum_over-filter : {X : Type 0} (f : X → Sum) (p : X → Bool) (xs : List X) → sum_over f (filter p xs) ≡ sum_over (λ x. cond (p x) (f x) no_sum) xs
sum_over-filter f p [] = refl
sum_over-filter f p (x ∷ xs) =
    by_test (p x) (sum_over-filter f p xs)
  where
    by_test : (b : Bool) → sum_over f (filter p xs) ≡ sum_over (λ y. cond (p y) (f y) no_sum) xs
        → sum_over f (cond b (x ∷ filter p xs) (filter p xs)) ≡ joined (cond b (f x) no_sum) (sum_over (λ y. cond (p y) (f y) no_sum) xs)
    by_test true rest = ap (joined (f x)) rest
    by_test false rest = rest ∙ sym (none-joined (sum_over (λ y. cond (p y) (f y) no_sum) xs))

split_at : (s : Sum) (p q r : Bool) → times p ≡ times q + times r → cond p s no_sum ≡ joined (cond q s no_sum) (cond r s no_sum)
split_at s true true true e = absurd (omega arith)
split_at s true true false e = sym (joined-none s)
split_at s true false true e = sym (none-joined s)
split_at s true false false e = absurd (omega arith)
split_at s false true r e = by_last r e
  where
    by_last : (r : Bool) → 0 ≡ 1 + times r → no_sum ≡ joined s (cond r s no_sum)
    by_last true e = absurd (omega arith)
    by_last false e = absurd (omega arith)
split_at s false false true e = absurd (omega arith)
split_at s false false false e = sym (joined-none no_sum)

split_by : {X : Type 0} (f : X → Sum) (p q r : X → Bool) (xs : List X) → AllByRecursion (λ x. times (p x) ≡ times (q x) + times (r x)) xs
    → sum_over (λ x. cond (p x) (f x) no_sum) xs ≡ joined (sum_over (λ x. cond (q x) (f x) no_sum) xs) (sum_over (λ x. cond (r x) (f x) no_sum) xs)
split_by f p q r [] all = sym (joined-none no_sum)
split_by f p q r (x ∷ xs) all =
    ap (λ s. joined s (sum_over (λ y. cond (p y) (f y) no_sum) xs)) (split_at (f x) (p x) (q x) (r x) all.0)
    ∙ ap (joined (joined (cond (q x) (f x) no_sum) (cond (r x) (f x) no_sum))) (split_by f p q r xs all.1)
    ∙ joined-swap (cond (q x) (f x) no_sum) (cond (r x) (f x) no_sum) (sum_over (λ y. cond (q y) (f y) no_sum) xs) (sum_over (λ y. cond (r y) (f y) no_sum) xs)

-- each member that one filter keeps is kept by just one of two others
pub sum_over-split : {X : Type 0} (f : X → Sum) (p q r : X → Bool) (xs : List X) → All (λ x. times (p x) ≡ times (q x) + times (r x)) xs
    → sum_over f (filter p xs) ≡ joined (sum_over f (filter q xs)) (sum_over f (filter r xs))
sum_over-split f p q r xs all =
    sum_over-filter f p xs
    ∙ split_by f p q r xs (recursion_from_All (λ x. times (p x) ≡ times (q x) + times (r x)) xs all)
    ∙ ap (λ s. joined s (sum_over (λ x. cond (r x) (f x) no_sum) xs)) (sym (sum_over-filter f q xs))
    ∙ ap (joined (sum_over f (filter q xs))) (sym (sum_over-filter f r xs))

-- ---- many parts

-- what stands once among many is summed once
pub sum_over-once : {A : Type 0} (s : Sum) (t : A → Bool) (parts : List A) (b : Bool) → times b ≡ how_many t parts
    → sum_over (λ a. cond (t a) s no_sum) parts ≡ cond b s no_sum
sum_over-once s t [] true e = absurd (omega arith)
sum_over-once s t [] false e = refl
sum_over-once s t (a ∷ parts) b e = by_first (t a) b (λ c. sum_over-once s t parts c) e
  where
    by_first : (first b : Bool) → ((c : Bool) → times c ≡ how_many t parts → sum_over (λ a. cond (t a) s no_sum) parts ≡ cond c s no_sum)
        → times b ≡ times first + how_many t parts → joined (cond first s no_sum) (sum_over (λ a. cond (t a) s no_sum) parts) ≡ cond b s no_sum
    by_first true true rest e = ap (joined s) (rest false (omega arith)) ∙ joined-none s
    by_first true false rest e = absurd (omega arith)
    by_first false b rest e = none-joined (sum_over (λ a. cond (t a) s no_sum) parts) ∙ rest b (e ∙ zero-add (how_many t parts))

parts_by : {A X : Type 0} (f : X → Sum) (p : X → Bool) (t : A → X → Bool) (parts : List A) (xs : List X)
    → AllByRecursion (λ x. times (p x) ≡ how_many (λ a. t a x) parts) xs
    → sum_over (λ x. cond (p x) (f x) no_sum) xs ≡ sum_over (λ a. sum_over (λ x. cond (t a x) (f x) no_sum) xs) parts
parts_by f p t parts [] all = sym (sum_over-none parts)
parts_by f p t parts (x ∷ xs) all =
    ap (λ s. joined s (sum_over (λ y. cond (p y) (f y) no_sum) xs)) (sym (sum_over-once (f x) (λ a. t a x) parts (p x) all.0))
    ∙ ap (joined (sum_over (λ a. cond (t a x) (f x) no_sum) parts)) (parts_by f p t parts xs all.1)
    ∙ sym (sum_over-joined (λ a. cond (t a x) (f x) no_sum) (λ a. sum_over (λ y. cond (t a y) (f y) no_sum) xs) parts)

-- each member that a filter keeps is kept by just one of many others
pub sum_over-parts : {A X : Type 0} (f : X → Sum) (p : X → Bool) (t : A → X → Bool) (parts : List A) (xs : List X)
    → All (λ x. times (p x) ≡ how_many (λ a. t a x) parts) xs
    → sum_over f (filter p xs) ≡ sum_over (λ a. sum_over f (filter (t a) xs)) parts
sum_over-parts f p t parts xs all =
    sum_over-filter f p xs
    ∙ parts_by f p t parts xs (recursion_from_All (λ x. times (p x) ≡ how_many (λ a. t a x) parts) xs all)
    ∙ sum_over-same (λ a. sum_over (λ x. cond (t a x) (f x) no_sum) xs) (λ a. sum_over f (filter (t a) xs)) parts (λ a. sym (sum_over-filter f (t a) xs))
