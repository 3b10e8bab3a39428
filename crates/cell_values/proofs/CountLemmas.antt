-- How many of an ascending list lie in ranges.
use Rattle.std.proofs.Common.{◌≡◌, ◌∙◌, ℕ, zero, suc, ◌+◌, ◌-◌, ◌<◌, ◌≤◌, Bool, true, false, cond, ◌&&◌, ◌||◌, List, [], ◌∷◌, length, map, drop, get_or}
use Rattle.std.proofs.Common.{refl, sym, ap, arith}
use Rattle.std.specs.Prelude.{nat_le, nat_lt, IsPermutation}
use Rattle.std.specs.List.{filter}
use Rattle.std.specs.List.Sorted.{IsSorted}
use Rattle.std.specs.Ordering.{nat_cmp}
use Rattle.std.proofs.lemmas.Bool.{false≢true, lt-ltb, le-ltb}
use Rattle.std.proofs.lemmas.Bool.Decides.{nat_tests}
use Rattle.std.proofs.lemmas.List.{drop_more, drop_all}
use Rattle.std.proofs.lemmas.List.Sorted.{IsNonDecreasingBy-from_sort}
use Rattle.dh_sharing.specs.Ranges.{is_in_range, is_within, AreApart}
use Rattle.table_rows.proofs.ShuffleLemmas.{closed-permutation, closed-filter, closed-length}
use Rattle.cell_values.specs.Counts.{IsAscending, how_many_below, how_many_in, how_many_within}
use Rattle.cell_values.proofs.SpanLemmas.{apart-rest, first-alone}

-- ---- the members of a list that pass a test

pub count-one : {X : Type 0} (b : Bool) (x : X) (xs : List X) → length (cond b (x ∷ xs) xs) ≡ cond b 1 0 + length xs
count-one true x xs = omega arith
count-one false x xs = omega arith

pub count-few : {X : Type 0} (test : X → Bool) (xs : List X) → length (filter test xs) ≤ length xs
count-few test [] = omega arith
count-few test (x ∷ xs) = by (test x) (count-few test xs)
  where
    by : (b : Bool) → length (filter test xs) ≤ length xs → length (cond b (x ∷ filter test xs) (filter test xs)) ≤ suc (length xs)
    by true few = omega arith
    by false few = omega arith

pub count-agree : {X : Type 0} (p q : X → Bool) → ((x : X) → p x ≡ q x) → (xs : List X) → length (filter p xs) ≡ length (filter q xs)
count-agree p q same [] = refl
count-agree p q same (x ∷ xs) =
    count-one (p x) x (filter p xs) ∙ ap (λ n. cond (p x) 1 0 + n) (count-agree p q same xs)
    ∙ ap (λ b. cond b 1 0 + length (filter q xs)) (same x) ∙ sym (count-one (q x) x (filter q xs))

pub count-none : {X : Type 0} (p : X → Bool) → ((x : X) → p x ≡ false) → (xs : List X) → length (filter p xs) ≡ 0
count-none p none [] = refl
count-none p none (x ∷ xs) = ap (λ b. length (cond b (x ∷ filter p xs) (filter p xs))) (none x) ∙ count-none p none xs

-- what passes one of two tests that never pass together
pub count-or : {X : Type 0} (p q : X → Bool) → ((x : X) → p x ≡ true → q x ≡ false) → (xs : List X)
    → length (filter (λ x. p x || q x) xs) ≡ length (filter p xs) + length (filter q xs)
count-or p q apart [] = refl
count-or p q apart (x ∷ xs) =
    let all = count-one (p x || q x) x (filter (λ y. p y || q y) xs) in
    let left = count-one (p x) x (filter p xs) in
    let right = count-one (q x) x (filter q xs) in
    let rest = count-or p q apart xs in
    let here = one (p x) (q x) (apart x) in
    omega (arith, all, left, right, rest, here)
  where
    one : (a b : Bool) → (a ≡ true → b ≡ false) → cond (a || b) 1 0 ≡ cond a 1 0 + cond b 1 0
    one true true h = absurd (false≢true (sym (h refl)))
    one true false h = refl
    one false true h = refl
    one false false h = refl

-- a count doesn't depend on the order
pub count-permutation : {X : Type 0} (test : X → Bool) (xs ys : List X) → IsPermutation xs ys → length (filter test xs) ≡ length (filter test ys)
count-permutation test xs ys moved =
    closed-permutation (λ us vs. length (filter test us) ≡ length (filter test vs))
    (closed-filter test (λ us vs. length us ≡ length vs) closed-length) xs ys moved

-- of what f makes of the members that pass one test, those that pass another
pub count-map : {X Y : Type 0} (f : X → Y) (p : X → Bool) (q : Y → Bool) (xs : List X)
    → length (filter q (map f (filter p xs))) ≡ length (filter (λ x. p x && q (f x)) xs)
count-map f p q [] = refl
count-map f p q (x ∷ xs) = by (p x) (count-map f p q xs)
  where
    by : (b : Bool) → length (filter q (map f (filter p xs))) ≡ length (filter (λ y. p y && q (f y)) xs)
        → length (filter q (map f (cond b (x ∷ filter p xs) (filter p xs))))
        ≡ length (cond (b && q (f x)) (x ∷ filter (λ y. p y && q (f y)) xs) (filter (λ y. p y && q (f y)) xs))
    by true rest =
        count-one (q (f x)) (f x) (filter q (map f (filter p xs))) ∙ ap (λ n. cond (q (f x)) 1 0 + n) rest
        ∙ sym (count-one (q (f x)) x (filter (λ y. p y && q (f y)) xs))
    by false rest = rest

-- ---- below an end

-- the first members are below the end and the others are not
pub count-cut : (xs : List ℕ) (end p : ℕ) → p ≤ length xs → ((k : ℕ) → k < p → get_or xs k 0 < end)
    → ((k : ℕ) → p ≤ k → k < length xs → end ≤ get_or xs k 0) → p ≡ how_many_below xs end
count-cut [] end p upto before after = omega (arith, upto)
count-cut (x ∷ xs) end zero upto before after =
    let off : nat_lt x end ≡ false = le-ltb x end (after 0 (omega arith) (omega arith)) in
    count-cut xs end 0 (omega arith) (λ k h. absurd (omega arith)) (λ k a b. after (suc k) (omega arith) (omega arith))
    ∙ ap (λ b. length (cond b (x ∷ filter (λ n. nat_lt n end) xs) (filter (λ n. nat_lt n end) xs))) (sym off)
count-cut (x ∷ xs) end (suc p) upto before after =
    let on : nat_lt x end ≡ true = lt-ltb x end (before 0 (omega arith)) in
    ap suc (count-cut xs end p (omega arith) (λ k h. before (suc k) (omega arith)) (λ k a b. after (suc k) (omega arith) (omega arith)))
    ∙ ap (λ b. length (cond b (x ∷ filter (λ n. nat_lt n end) xs) (filter (λ n. nat_lt n end) xs))) (sym on)

-- ---- in a range

one_range : (a b n : ℕ) → a < b → cond (nat_le a n && nat_lt n b) 1 0 + cond (nat_lt n a) 1 0 ≡ cond (nat_lt n b) 1 0
one_range a b n less = grind (arith, nat_tests)

count-parts : (xs : List ℕ) (range : ℕ × ℕ) → range.0 < range.1 → how_many_in xs range + how_many_below xs range.0 ≡ how_many_below xs range.1
count-parts [] range less = refl
count-parts (x ∷ xs) range less =
    let inside = count-one (is_in_range x range) x (filter (λ n. is_in_range n range) xs) in
    let low = count-one (nat_lt x range.0) x (filter (λ n. nat_lt n range.0) xs) in
    let high = count-one (nat_lt x range.1) x (filter (λ n. nat_lt n range.1) xs) in
    let rest = count-parts xs range less in
    let here = one_range range.0 range.1 x less in
    omega (arith, inside, low, high, rest, here)

pub count-range : (xs : List ℕ) (range : ℕ × ℕ) (low high : ℕ) → range.0 < range.1 → low ≡ how_many_below xs range.0 → high ≡ how_many_below xs range.1
    → (low ≤ high) × (high - low ≡ how_many_in xs range)
count-range xs range low high less l h =
    let parts = count-parts xs range less in
    (omega (arith, parts, l, h), omega (arith, parts, l, h))

empty_range : (a b n : ℕ) → b ≤ a → (nat_le a n && nat_lt n b) ≡ false
empty_range a b n empty = grind (arith, nat_tests)

pub count-empty : (xs : List ℕ) (range : ℕ × ℕ) → range.1 ≤ range.0 → 0 ≡ how_many_in xs range
count-empty xs range empty = sym (count-none (λ n. is_in_range n range) (λ n. empty_range range.0 range.1 n empty) xs)

-- ---- in some of the ranges

-- range by range
abbrev pub sum_in : List ℕ → List (ℕ × ℕ) → ℕ
sum_in numbers [] = 0
sum_in numbers (range ∷ ranges) = how_many_in numbers range + sum_in numbers ranges

pub sum_in-is : (numbers : List ℕ) (ranges : List (ℕ × ℕ)) → AreApart ranges → sum_in numbers ranges ≡ how_many_within numbers ranges
sum_in-is numbers [] apart = sym (count-none (is_within []) (λ n. refl) numbers)
sum_in-is numbers (x ∷ xs) apart =
    ap (λ n. how_many_in numbers x + n) (sum_in-is numbers xs (apart-rest x xs apart))
    ∙ sym (count-or (λ n. is_in_range n x) (is_within xs) (λ n inside. first-alone x xs n apart inside) numbers)

sum_in-rest : (numbers : List ℕ) (ranges : List (ℕ × ℕ)) (i : ℕ) → i < length ranges
    → sum_in numbers (drop i ranges) ≡ how_many_in numbers (get_or ranges i (0, 0)) + sum_in numbers (drop (i + 1) ranges)
sum_in-rest numbers ranges i within = ap (sum_in numbers) (drop_more ranges i (0, 0) within)

-- a loop over ranges that counts
pub record CountedIn (numbers : List ℕ) (ranges : List (ℕ × ℕ)) (i count : ℕ) : Type 0 where
  pub is : how_many_within numbers ranges ≡ count + sum_in numbers (drop i ranges)

pub CountedIn-start : (numbers : List ℕ) (ranges : List (ℕ × ℕ)) → AreApart ranges → CountedIn numbers ranges 0 0
CountedIn-start numbers ranges apart = record { is = sym (sum_in-is numbers ranges apart) ∙ no_less (sum_in numbers ranges) }
  where
    no_less : (n : ℕ) → n ≡ 0 + n
    no_less n = omega arith

pub CountedIn-more : (numbers : List ℕ) (ranges : List (ℕ × ℕ)) (i count : ℕ) → i < length ranges → CountedIn numbers ranges i count
    → CountedIn numbers ranges (i + 1) (count + how_many_in numbers (get_or ranges i (0, 0)))
CountedIn-more numbers ranges i count within before = record {
  is = before.is ∙ ap (λ n. count + n) (sum_in-rest numbers ranges i within)
      ∙ regroup count (how_many_in numbers (get_or ranges i (0, 0))) (sum_in numbers (drop (i + 1) ranges));
}
  where
    regroup : (a b c : ℕ) → a + (b + c) ≡ (a + b) + c
    regroup a b c = omega arith

pub CountedIn-fits : (numbers : List ℕ) (ranges : List (ℕ × ℕ)) (i count : ℕ) → i < length ranges → CountedIn numbers ranges i count
    → count + how_many_in numbers (get_or ranges i (0, 0)) ≤ length numbers
CountedIn-fits numbers ranges i count within before =
    let next = (CountedIn-more numbers ranges i count within before).is in
    let few = count-few (is_within ranges) numbers in
    omega (arith, next, few)

pub CountedIn-end : (numbers : List ℕ) (ranges : List (ℕ × ℕ)) (i count : ℕ) → length ranges ≤ i → CountedIn numbers ranges i count
    → count ≡ how_many_within numbers ranges
CountedIn-end numbers ranges i count past done = sym (done.is ∙ ap (λ rs. count + sum_in numbers rs) (drop_all i ranges past) ∙ no_more count)
  where
    no_more : (n : ℕ) → n + 0 ≡ n
    no_more n = omega arith

-- ---- ascending lists

pub ascending-from_sort : (numbers : List ℕ) → IsSorted nat_cmp numbers → IsAscending numbers
ascending-from_sort numbers sorted = record { far = λ j k upto within. IsNonDecreasingBy-from_sort (λ (x : ℕ). x) numbers sorted j k 0 upto within }
