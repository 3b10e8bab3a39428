-- Lists of what a function gives of each member of another, where it gives something.
use Rattle.std.proofs.Common.{◌≡◌, ◌∙◌, ◌≤◌, Bool, true, List, [], ◌∷◌, Option, Some, None, length, refl, ap, arith, Ordering, Less}
use Rattle.std.specs.List.{AllByRecursion, filter_map, list_all, cons_option}
use Rattle.std.specs.List.Sorted.{IsStrictlySortedBy}
use Rattle.std.specs.Ordering.{is_lt}
use Rattle.std.proofs.lemmas.Bool.{and_from}
use Rattle.table_rows.specs.Store.{rises, rises_from}

module _ {A X : Type 0} (f : A → Option X) where
  pub filter_map-length : (list : List A) → length (filter_map f list) ≤ length list
  filter_map-length [] = omega arith
  filter_map-length (a ∷ list) =
      let rest = filter_map-length list in
      elim (f a) as (λ o. length (cons_option o (filter_map f list)) ≤ length (a ∷ list)) [
        | Some x ↦ omega arith
        | None ↦ omega arith
      ]

  -- each that is given has a property, where each that it is given of has another
  pub filter_map-each : (Q : A → Type 0) (P : X → Type 0) → ((a : A) (x : X) → Q a → f a ≡ Some x → P x) → (list : List A) → AllByRecursion Q list
      → AllByRecursion P (filter_map f list)
  filter_map-each Q P one [] all = tt
  filter_map-each Q P one (a ∷ list) all =
      elim (f a) as (λ o. f a ≡ o → AllByRecursion P (cons_option o (filter_map f list))) [
        | Some x ↦ λ is. (one a x all.0 is, filter_map-each Q P one list all.1)
        | None ↦ λ is. filter_map-each Q P one list all.1
      ] refl

pub every : {A : Type 0} (list : List A) → AllByRecursion (λ a. Unit {0}) list
every [] = tt
every (a ∷ list) = (tt, every list)

pub list_all-each : {X : Type 0} (test : X → Bool) (list : List X) → AllByRecursion (λ x. test x ≡ true) list → list_all test list ≡ true
list_all-each test [] all = refl
list_all-each test (x ∷ list) all = and_from (test x) (list_all test list) all.0 (list_all-each test list all.1)

-- a list that is given of ascending keys ascends by these
module _ {K X : Type 0} (cmp : K → K → Ordering) (key : X → K) (f : K → Option X) (own : (k : K) (x : X) → f k ≡ Some x → key x ≡ k) where
  above-given : (x : X) (k : K) → key x ≡ k → (ks : List K) → AllByRecursion (λ y. cmp k y ≡ Less) ks
      → AllByRecursion (λ y. cmp (key x) (key y) ≡ Less) (filter_map f ks)
  above-given x k is [] all = tt
  above-given x k is (j ∷ ks) all =
      elim (f j) as (λ o. f j ≡ o → AllByRecursion (λ y. cmp (key x) (key y) ≡ Less) (cons_option o (filter_map f ks))) [
        | Some y ↦ λ given. (ap (λ a. cmp a (key y)) is ∙ ap (cmp k) (own j y given) ∙ all.0, above-given x k is ks all.1)
        | None ↦ λ given. above-given x k is ks all.1
      ] refl

  pub sorted-given : (ks : List K) → IsStrictlySortedBy cmp ks → IsStrictlySortedBy (λ a b. cmp (key a) (key b)) (filter_map f ks)
  unfolding IsStrictlySortedBy
  sorted-given [] s = tt
  sorted-given (k ∷ ks) s =
      elim (f k) as (λ o. f k ≡ o → IsStrictlySortedBy (λ a b. cmp (key a) (key b)) (cons_option o (filter_map f ks))) [
        | Some x ↦ λ given. (above-given x k (own k x given) ks s.0, sorted-given ks s.1)
        | None ↦ λ given. sorted-given ks s.1
      ] refl

pub rises-sorted : {X : Type 0} (cmp : X → X → Ordering) (xs : List X) → IsStrictlySortedBy cmp xs → rises cmp xs ≡ true
unfolding IsStrictlySortedBy
rises-sorted cmp [] s = refl
rises-sorted cmp (x ∷ []) s = refl
rises-sorted cmp (x ∷ y ∷ ys) s = and_from (is_lt (cmp x y)) (rises_from cmp y ys) (ap is_lt s.0.0) (rises-sorted cmp (y ∷ ys) s.1)
