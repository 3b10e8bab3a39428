-- Lists in which each member is below the next.
use Rattle.std.proofs.Common.{◌≡◌, ◌∙◌, ℕ, zero, suc, ◌+◌, ◌-◌, ◌<◌, ◌≤◌, true, ◌&&◌, List, [], ◌∷◌, length, drop, get_or, refl, sym, ap, arith, add-one}
use Rattle.std.proofs.Common.{drop-cons, Ordering, Less, Equal, Greater}
use Rattle.std.specs.Cmp.{IsTotalOrder}
use Rattle.std.specs.List.{AllByRecursion}
use Rattle.std.specs.List.Sorted.{IsStrictlySortedBy}
use Rattle.std.specs.Ordering.{is_lt}
use Rattle.std.proofs.lemmas.Bool.{and_parts}
use Rattle.std.proofs.lemmas.List.{length-drop}
use Rattle.table_rows.specs.Store.{rises, rises_from}

drop_one : {X : Type 0} (xs : List X) (i : ℕ) (d : X) → i < length xs → drop i xs ≡ get_or xs i d ∷ drop (i + 1) xs
drop_one xs i d within = rw add-one (drop-cons xs i d within)

-- a step along the list
pub rises-step : {X : Type 0} (cmp : X → X → Ordering) (xs : List X) (i : ℕ) (d e : X) → 1 ≤ i → i < length xs
    → rises cmp (drop (i - 1) xs) ≡ (is_lt (cmp (get_or xs (i - 1) d) (get_or xs i e)) && rises cmp (drop i xs))
rises-step cmp xs i d e from within =
    let back : i - 1 + 1 ≡ i = omega arith in
    let first : drop (i - 1) xs ≡ get_or xs (i - 1) d ∷ drop i xs = drop_one xs (i - 1) d (omega arith) ∙ ap (λ n. get_or xs (i - 1) d ∷ drop n xs) back in
    let second : drop i xs ≡ get_or xs i e ∷ drop (i + 1) xs = drop_one xs i e within in
    ap (rises cmp) first ∙ ap (rises_from cmp (get_or xs (i - 1) d)) second
    ∙ ap (λ ys. is_lt (cmp (get_or xs (i - 1) d) (get_or xs i e)) && rises cmp ys) (sym second)

pub rises-short : {X : Type 0} (cmp : X → X → Ordering) (xs : List X) → length xs ≤ 1 → rises cmp xs ≡ true
rises-short cmp [] short = refl
rises-short cmp (x ∷ []) short = refl
rises-short cmp (x ∷ y ∷ ys) short = absurd (omega arith)

-- at the end at most one member is left
pub rises-end : {X : Type 0} (cmp : X → X → Ordering) (xs : List X) (i : ℕ) → length xs ≤ i → rises cmp (drop (i - 1) xs) ≡ true
rises-end cmp xs i past = rises-short cmp (drop (i - 1) xs) (let e = length-drop (i - 1) xs in omega arith)

-- ---- what is below the next is below all that follow

less : (o : Ordering) → is_lt o ≡ true → o ≡ Less
less Less e = refl
less Equal e = absurd (cc)
less Greater e = absurd (cc)

below_all : {X : Type 0} (cmp : X → X → Ordering) → IsTotalOrder cmp → (x y : X) (ys : List X) → cmp x y ≡ Less → AllByRecursion (λ z. cmp y z ≡ Less) ys
    → AllByRecursion (λ z. cmp x z ≡ Less) ys
below_all cmp total x y [] h all = tt
below_all cmp total x y (z ∷ zs) h all = (total.trans x y z h all.0, below_all cmp total x y zs h all.1)

sorted_from : {X : Type 0} (cmp : X → X → Ordering) → IsTotalOrder cmp → (x : X) (xs : List X) → rises_from cmp x xs ≡ true → IsStrictlySortedBy cmp (x ∷ xs)
unfolding IsStrictlySortedBy
sorted_from cmp total x [] up = (tt, tt)
sorted_from cmp total x (y ∷ ys) up =
    let parts = and_parts (is_lt (cmp x y)) (rises_from cmp y ys) up in
    let here : cmp x y ≡ Less = less (cmp x y) parts.0 in
    let rest = sorted_from cmp total y ys parts.1 in
    ((here, below_all cmp total x y ys here rest.0), rest)

-- such a list is strictly sorted
pub sorted_from_rises : {X : Type 0} (cmp : X → X → Ordering) → IsTotalOrder cmp → (xs : List X) → rises cmp xs ≡ true → IsStrictlySortedBy cmp xs
unfolding IsStrictlySortedBy
sorted_from_rises cmp total [] up = tt
sorted_from_rises cmp total (x ∷ xs) up = sorted_from cmp total x xs up

at_recursion : {X : Type 0} (P : X → Type 0) (xs : List X) (k : ℕ) (d : X) → AllByRecursion P xs → k < length xs → P (get_or xs k d)
at_recursion P [] k d all within = absurd (omega arith)
at_recursion P (x ∷ xs) zero d all within = all.0
at_recursion P (x ∷ xs) (suc k) d all within = at_recursion P xs k d all.1 (omega arith)

-- of two members the earlier is below the later
pub sorted-far : {X : Type 0} (cmp : X → X → Ordering) (xs : List X) (j k : ℕ) (d e : X) → IsStrictlySortedBy cmp xs → j < k → k < length xs
    → cmp (get_or xs j d) (get_or xs k e) ≡ Less
unfolding IsStrictlySortedBy
sorted-far cmp [] j k d e sorted less within = absurd (omega arith)
sorted-far cmp (x ∷ xs) j zero d e sorted less within = absurd (omega arith)
sorted-far cmp (x ∷ xs) zero (suc k) d e sorted less within = at_recursion (λ z. cmp x z ≡ Less) xs k e sorted.0 (omega arith)
sorted-far cmp (x ∷ xs) (suc j) (suc k) d e sorted less within = sorted-far cmp xs j k d e sorted.1 (omega arith) (omega arith)

-- ---- steps of a loop that compares neighbours

one_step : {X : Type 0} (cmp : X → X → Ordering) (xs : List X) (i : ℕ) (x y : X) → 1 ≤ i → i < length xs → x ≡ get_or xs (i - 1) x → y ≡ get_or xs i y
    → rises cmp (drop (i - 1) xs) ≡ (is_lt (cmp x y) && rises cmp (drop i xs))
one_step cmp xs i x y from within left right =
    rises-step cmp xs i x y from within
    ∙ ap (λ a. is_lt (cmp a (get_or xs i y)) && rises cmp (drop i xs)) (sym left)
    ∙ ap (λ b. is_lt (cmp x b) && rises cmp (drop i xs)) (sym right)

pub rises-kept : {X : Type 0} (cmp : X → X → Ordering) (xs : List X) (i : ℕ) (x y : X) → 1 ≤ i → i < length xs → x ≡ get_or xs (i - 1) x → y ≡ get_or xs i y
    → true ≡ is_lt (cmp x y) → rises cmp xs ≡ rises cmp (drop (i - 1) xs) → rises cmp xs ≡ rises cmp (drop (i + 1 - 1) xs)
rises-kept cmp xs i x y from within left right up before =
    let here : i ≡ i + 1 - 1 = omega arith in
    before ∙ one_step cmp xs i x y from within left right
    ∙ ap (λ b. b && rises cmp (drop i xs)) (sym up)
    ∙ ap (λ n. rises cmp (drop n xs)) here

pub rises-done : {X : Type 0} (cmp : X → X → Ordering) (xs : List X) (i : ℕ) → length xs ≤ i → rises cmp xs ≡ rises cmp (drop (i - 1) xs) → true ≡ rises cmp xs
rises-done cmp xs i past before = sym (before ∙ rises-end cmp xs i past)
