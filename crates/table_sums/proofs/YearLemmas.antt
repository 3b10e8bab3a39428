-- Members by the years that they are of.
use Rattle.std.proofs.Common.{◌≡◌, ◌∙◌, ◌+◌, ◌<◌, ◌≤◌, ℕ, Bool, true, false, not, cond, ◌||◌, List}
use Rattle.std.proofs.Common.{[], ◌∷◌, ◌++◌, length, map, take, drop, get_or, ℤ, inl, inr, refl, sym}
use Rattle.std.proofs.Common.{append_assoc, ap, subst, arith, add-one, drop-cons, Ordering, Less}
use Rattle.std.specs.Cmp.{IsTotalOrder}
use Rattle.std.specs.List.{AllByRecursion, filter, list_all, list_any}
use Rattle.std.specs.List.Sorted.{IsStrictlySortedBy}
use Rattle.std.specs.Ordering.{int_cmp, int_eq, is_eq}
use Rattle.std.proofs.Math.ListN.{drop_of_length-le}
use Rattle.std.proofs.lemmas.Bool.{and_parts, cases_Bool, false≢true}
use Rattle.std.proofs.lemmas.Bool.Decides.{Decides-int_eq}
use Rattle.std.proofs.lemmas.List.{take_more, append-nil}
use Rattle.std.proofs.lemmas.List.Kept.{IsStrictlySortedBy-filter}
use Rattle.table_rows.specs.Cells.{times, gathered}
use Rattle.table_rows.proofs.CellLemmas.{filter-never}
use Rattle.table_sums.specs.Ascending.{ascending}
use Rattle.table_sums.proofs.AscendingLemmas.{ascending-sorted, ascending-again, ascending-parts, append-parts, sorted-drop}

-- ---- filters

pub each : {X : Type 0} (P : X → Type 0) (xs : List X) → ((x : X) → P x) → AllByRecursion P xs
each P [] one = tt
each P (x ∷ xs) one = (one x, each P xs one)

pub filter-swap : {X : Type 0} (p q : X → Bool) (xs : List X) → filter p (filter q xs) ≡ filter q (filter p xs)
filter-swap p q [] = refl
filter-swap p q (x ∷ xs) = by_tests (p x) (q x) refl refl (filter-swap p q xs)
  where
    by_tests : (a b : Bool) → p x ≡ a → q x ≡ b → filter p (filter q xs) ≡ filter q (filter p xs)
        → filter p (cond b (x ∷ filter q xs) (filter q xs)) ≡ filter q (cond a (x ∷ filter p xs) (filter p xs))
    by_tests true true is also rest =
        ap (λ c. cond c (x ∷ filter p (filter q xs)) (filter p (filter q xs))) is ∙ ap (λ ys. x ∷ ys) rest
        ∙ sym (ap (λ c. cond c (x ∷ filter q (filter p xs)) (filter q (filter p xs))) also)
    by_tests true false is also rest = rest ∙ sym (ap (λ c. cond c (x ∷ filter q (filter p xs)) (filter q (filter p xs))) also)
    by_tests false true is also rest = ap (λ c. cond c (x ∷ filter p (filter q xs)) (filter p (filter q xs))) is ∙ rest
    by_tests false false is also rest = rest

-- what a filter keeps is kept before it by a wider one
pub filter-within : {X : Type 0} (p q : X → Bool) (xs : List X) → ((x : X) → q x ≡ true → p x ≡ true) → filter q (filter p xs) ≡ filter q xs
filter-within p q [] wider = refl
filter-within p q (x ∷ xs) wider = by_test (p x) refl (filter-within p q xs wider)
  where
    by_test : (a : Bool) → p x ≡ a → filter q (filter p xs) ≡ filter q xs
        → filter q (cond a (x ∷ filter p xs) (filter p xs)) ≡ cond (q x) (x ∷ filter q xs) (filter q xs)
    by_test true is rest = ap (λ ys. cond (q x) (x ∷ ys) ys) rest
    by_test false is rest =
        elim (cases_Bool (q x)) [
          | inl kept ↦ absurd (false≢true (sym is ∙ wider x kept))
          | inr left ↦ rest ∙ sym (ap (λ c. cond c (x ∷ filter q xs) (filter q xs)) left)
        ]

pub filter-gone : {X : Type 0} (p : X → Bool) (xs : List X) → AllByRecursion (λ x. p x ≡ false) xs → filter p xs ≡ []
filter-gone p [] none = refl
filter-gone p (x ∷ xs) none = ap (λ b. cond b (x ∷ filter p xs) (filter p xs)) none.0 ∙ filter-gone p xs none.1

pub filter-whole : {X : Type 0} (p : X → Bool) (xs : List X) → AllByRecursion (λ x. p x ≡ true) xs → filter p xs ≡ xs
filter-whole p [] all = refl
filter-whole p (x ∷ xs) all = ap (λ b. cond b (x ∷ filter p xs) (filter p xs)) all.0 ∙ ap (λ v. x ∷ v) (filter-whole p xs all.1)

pub each-true : {X : Type 0} (test : X → Bool) (xs : List X) → list_all test xs ≡ true → AllByRecursion (λ x. test x ≡ true) xs
each-true test [] all = tt
each-true test (x ∷ xs) all = let parts = and_parts (test x) (list_all test xs) all in (parts.0, each-true test xs parts.1)

pub gathered-map : {A B C : Type 0} (f : B → List C) (g : A → B) (xs : List A) → gathered f (map g xs) ≡ gathered (λ a. f (g a)) xs
gathered-map f g [] = refl
gathered-map f g (x ∷ xs) = ap (λ v. f (g x) ++ v) (gathered-map f g xs)

gathered-append : {A B : Type 0} (f : A → List B) (xs : List A) (x : A) → gathered f (xs ++ x ∷ []) ≡ gathered f xs ++ f x
gathered-append f [] x = append-nil (f x)
gathered-append f (y ∷ ys) x = ap (λ v. f y ++ v) (gathered-append f ys x) ∙ sym (append_assoc (f y) (gathered f ys) (f x))

pub gathered-more : {A B : Type 0} (f : A → List B) (xs : List A) (i : ℕ) (x : A) → i < length xs → x ≡ get_or xs i x
    → gathered f (take (i + 1) xs) ≡ gathered f (take i xs) ++ f x
gathered-more f xs i x within at =
    ap (gathered f) (take_more xs i x within ∙ ap (λ y. take i xs ++ y ∷ []) (sym at)) ∙ gathered-append f (take i xs) x

-- ---- years

pub or-false : (a b : Bool) → (a || b) ≡ false → (a ≡ false) × (b ≡ false)
or-false true b e = absurd (false≢true (sym e))
or-false false b e = (refl, e)

pub same-year : (y z : ℤ) → int_eq y z ≡ true → y ≡ z
same-year y z e = (Decides-int_eq y z).0 e

-- a year below all later ones is none of them
pub not-among : (year : ℤ) (later : List ℤ) → AllByRecursion (λ z. int_cmp year z ≡ Less) later → list_any (int_eq year) later ≡ false
not-among year [] above = refl
not-among year (z ∷ zs) above = ap (λ b. b || list_any (int_eq year) zs) (ap is_eq above.0) ∙ not-among year zs above.1

split_in : (a l : Bool) → (a ≡ true → l ≡ false) → times (not l) ≡ times (not (a || l)) + times a
split_in true true apart = absurd (false≢true (sym (apart refl)))
split_in true false apart = omega arith
split_in false true apart = omega arith
split_in false false apart = omega arith

split_off : (a l : Bool) → (a ≡ true → l ≡ false) → times (a || l) ≡ times a + times l
split_off true true apart = absurd (false≢true (sym (apart refl)))
split_off true false apart = omega arith
split_off false true apart = omega arith
split_off false false apart = omega arith

module _ {X : Type 0} (is_in : ℤ → X → Bool) where
  -- a member is of one year at most
  abbrev pub HasOneYear : Type 0
  HasOneYear = (y z : ℤ) (x : X) → is_in y x ≡ true → is_in z x ≡ true → y ≡ z

  -- a member is of one of the years
  abbrev pub is_in_any : List ℤ → X → Bool
  is_in_any years x = list_any (λ year. is_in year x) years

  -- a member is of none of them
  abbrev pub is_in_none : List ℤ → X → Bool
  is_in_none years x = not (is_in_any years x)

  not-later : HasOneYear → (year : ℤ) (later : List ℤ) (x : X) → list_any (int_eq year) later ≡ false → is_in year x ≡ true → is_in_any later x ≡ false
  not-later one year [] x none is = refl
  not-later one year (z ∷ zs) x none is =
      let parts = or-false (int_eq year z) (list_any (int_eq year) zs) none in
      elim (cases_Bool (is_in z x)) [
        | inl also ↦ absurd (false≢true (sym parts.0 ∙ (Decides-int_eq year z).1 (one year z x is also)))
        | inr not ↦ ap (λ b. b || is_in_any zs x) not ∙ not-later one year zs x parts.1 is
      ]

  pub none-yet : (years : List ℤ) (xs : List X) → AllByRecursion (λ x. is_in_any years x ≡ true) xs → filter (is_in_none years) xs ≡ []
  none-yet years [] all = refl
  none-yet years (x ∷ xs) all =
      ap (λ b. cond (not b) (x ∷ filter (is_in_none years) xs) (filter (is_in_none years) xs)) all.0 ∙ none-yet years xs all.1

  pub all-there : (xs : List X) → filter (is_in_none []) xs ≡ xs
  all-there xs = filter-whole (is_in_none []) xs (each (λ x. is_in_none [] x ≡ true) xs (λ x. refl))

  -- the members of the next year among those of none of the later ones
  next-year : (cmp : X → X → Ordering) → IsTotalOrder cmp → HasOneYear → (year : ℤ) (later : List ℤ) (xs : List X) → IsStrictlySortedBy cmp xs
      → list_any (int_eq year) later ≡ false
      → ascending cmp (filter (is_in_none (year ∷ later)) xs ++ filter (is_in year) xs) ≡ filter (is_in_none later) xs
  next-year cmp total one year later xs sorted none =
      ascending-parts cmp total (is_in_none (year ∷ later)) (is_in year) (is_in_none later) xs sorted
      (each (λ x. times (is_in_none later x) ≡ times (is_in_none (year ∷ later) x) + times (is_in year x)) xs
      (λ x. split_in (is_in year x) (is_in_any later x) (not-later one year later x none)))

  drop_one : (years : List ℤ) (i : ℕ) (d : ℤ) → i < length years → drop i years ≡ get_or years i d ∷ drop (i + 1) years
  drop_one years i d within = rw add-one (drop-cons years i d within)

  -- a loop's step
  pub collect-more : (cmp : X → X → Ordering) → IsTotalOrder cmp → HasOneYear → (years : List ℤ) (xs list more new : List X) (i : ℕ) (year : ℤ)
      → IsStrictlySortedBy int_cmp years → IsStrictlySortedBy cmp xs → i < length years → year ≡ get_or years i year
      → list ≡ filter (is_in_none (drop i years)) xs → more ≡ filter (is_in year) xs → new ≡ ascending cmp (list ++ more)
      → new ≡ filter (is_in_none (drop (i + 1) years)) xs
  unfolding IsStrictlySortedBy
  collect-more cmp total one years xs list more new i year rise sorted within at known next is =
      let front : drop i years ≡ year ∷ drop (i + 1) years = drop_one years i year within ∙ ap (λ y. y ∷ drop (i + 1) years) (sym at) in
      let above : IsStrictlySortedBy int_cmp (year ∷ drop (i + 1) years) = subst (IsStrictlySortedBy int_cmp) front (sorted-drop int_cmp i years rise) in
      is
      ∙ ap (λ v. ascending cmp (v ++ more)) (known ∙ ap (λ ys. filter (is_in_none ys) xs) front)
      ∙ ap (λ v. ascending cmp (filter (is_in_none (year ∷ drop (i + 1) years)) xs ++ v)) next
      ∙ next-year cmp total one year (drop (i + 1) years) xs sorted (not-among year (drop (i + 1) years) above.0)

  pub collect-none : (years : List ℤ) (xs list : List X) → AllByRecursion (λ x. is_in_any years x ≡ true) xs → list ≡ []
      → list ≡ filter (is_in_none (drop 0 years)) xs
  collect-none years xs list all none = none ∙ sym (none-yet years xs all)

  pub collect-all : (years : List ℤ) (xs list : List X) (i : ℕ) → length years ≤ i → list ≡ filter (is_in_none (drop i years)) xs → list ≡ xs
  collect-all years xs list i past is = is ∙ ap (λ ys. filter (is_in_none ys) xs) (drop_of_length-le years past) ∙ all-there xs

  -- the members of each year, brought into their order, are those of all the years
  pub years-together : (cmp : X → X → Ordering) → IsTotalOrder cmp → HasOneYear → (years : List ℤ) (xs : List X) → IsStrictlySortedBy int_cmp years
      → IsStrictlySortedBy cmp xs
      → ascending cmp (gathered (λ year. filter (is_in year) xs) years) ≡ filter (is_in_any years) xs
  unfolding IsStrictlySortedBy
  years-together cmp total one [] xs rise sorted = sym (filter-never (is_in_any []) xs (λ x. refl))
  years-together cmp total one (year ∷ later) xs rise sorted =
      ascending-again cmp (filter (is_in year) xs) (gathered (λ year. filter (is_in year) xs) later) (filter (is_in_any later) xs)
      (years-together cmp total one later xs rise.1 sorted
      ∙ sym (ascending-sorted cmp (filter (is_in_any later) xs) (IsStrictlySortedBy-filter cmp (is_in_any later) xs sorted)))
      ∙ ascending-parts cmp total (is_in year) (is_in_any later) (is_in_any (year ∷ later)) xs sorted
      (each (λ x. times (is_in_any (year ∷ later) x) ≡ times (is_in year x) + times (is_in_any later x)) xs
      (λ x. split_off (is_in year x) (is_in_any later x) (not-later one year later x (not-among year later rise.0))))

  -- no member of a later year stands before one of an earlier year
  abbrev pub FollowsYears : (X → X → Ordering) → Type 0
  FollowsYears cmp = (x z : X) (y w : ℤ) → cmp x z ≡ Less → is_in w x ≡ true → is_in y z ≡ true → int_cmp y w ≡ Less → ⊥

  not-earlier : (cmp : X → X → Ordering) → FollowsYears cmp → (year : ℤ) (later : List ℤ) (x z : X) → AllByRecursion (λ w. int_cmp year w ≡ Less) later
      → cmp x z ≡ Less → is_in_any later x ≡ true → is_in year z ≡ false
  not-earlier cmp follows year [] x z above less is = absurd (false≢true is)
  not-earlier cmp follows year (w ∷ ws) x z above less is =
      elim (cases_Bool (is_in w x)) [
        | inl here ↦ elim (cases_Bool (is_in year z)) [
          | inl also ↦ absurd (follows x z year w less here also above.0)
          | inr not ↦ not
        ]
        | inr not ↦ not-earlier cmp follows year ws x z above.1 less (sym (ap (λ b. b || is_in_any ws x) not) ∙ is)
      ]

  -- where the order follows the years, the members of each year stand one year after the other
  pub years-along : (cmp : X → X → Ordering) → HasOneYear → FollowsYears cmp → (years : List ℤ) (xs : List X) → IsStrictlySortedBy int_cmp years
      → IsStrictlySortedBy cmp xs
      → gathered (λ year. filter (is_in year) xs) years ≡ filter (is_in_any years) xs
  unfolding IsStrictlySortedBy
  years-along cmp one follows [] xs rise sorted = sym (filter-never (is_in_any []) xs (λ x. refl))
  years-along cmp one follows (year ∷ later) xs rise sorted =
      ap (λ v. filter (is_in year) xs ++ v) (years-along cmp one follows later xs rise.1 sorted)
      ∙ append-parts cmp (is_in year) (is_in_any later) (is_in_any (year ∷ later)) xs sorted
      (each (λ x. times (is_in_any (year ∷ later) x) ≡ times (is_in year x) + times (is_in_any later x)) xs
      (λ x. split_off (is_in year x) (is_in_any later x) (not-later one year later x (not-among year later rise.0))))
      (λ x z less is. not-earlier cmp follows year later x z rise.0 less is)
