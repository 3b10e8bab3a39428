-- The groups of an element are in order, and the rows of a cell stand group by group.
use Rattle.std.proofs.Common.{◌≡◌, ◌∙◌, ℕ, suc, ◌≤◌, Bool, true, false, not, cond, List, [], ◌∷◌, length, map, refl, sym, arith, Ordering, Less, Equal, Greater}
use Rattle.std.specs.List.{filter, AllByRecursion}
use Rattle.std.specs.List.Sorted.{IsStrictlySortedBy}
use Rattle.std.specs.Ordering.{is_gt, is_eq}
use Rattle.std.proofs.lemmas.List.Kept.{IsStrictlySortedBy-filter}
use Rattle.table_rows.specs.declared.row.Row.{Row}
use Rattle.table_rows.specs.declared.row.Group.{Group}
use Rattle.table_rows.specs.Rows.{group_of, same_group, is_of_element}
use Rattle.table_rows.specs.Order.{group_cmp, row_cmp}
use Rattle.table_rows.specs.Groups.{each_once, groups_of}
use Rattle.table_rows.specs.Store.{rises}
use Rattle.table_rows.proofs.OrderLemmas.{row_total, group_ties, group_upto}
use Rattle.table_rows.proofs.RiseLemmas.{sorted_from_rises}

-- none stands after a later one
abbrev pub IsUp : List Group → Type 0
IsUp [] = Unit {0}
IsUp (h ∷ hs) = AllByRecursion (λ g. is_gt (group_cmp h g) ≡ false) hs × IsUp hs

pub every-filter : {X : Type 0} (P : X → Type 0) (p : X → Bool) (xs : List X) → AllByRecursion P xs → AllByRecursion P (filter p xs)
every-filter P p [] all = tt
every-filter P p (x ∷ xs) all = by_test (p x) (every-filter P p xs all.1)
  where
    by_test : (b : Bool) → AllByRecursion P (filter p xs) → AllByRecursion P (cond b (x ∷ filter p xs) (filter p xs))
    by_test true rest = (all.0, rest)
    by_test false rest = rest

pub every-each_once : (P : Group → Type 0) (hs : List Group) → AllByRecursion P hs → AllByRecursion P (each_once same_group hs)
every-each_once P [] all = tt
every-each_once P (h ∷ hs) all = (all.0, every-filter P (λ g. not (same_group h g)) (each_once same_group hs) (every-each_once P hs all.1))

less : (o : Ordering) → is_gt o ≡ false → is_eq o ≡ false → o ≡ Less
less Less a b = refl
less Equal a b = absurd (cc)
less Greater a b = absurd (cc)

beyond : (h : Group) (gs : List Group) → AllByRecursion (λ g. is_gt (group_cmp h g) ≡ false) gs
    → AllByRecursion (λ g. group_cmp h g ≡ Less) (filter (λ g. not (same_group h g)) gs)
beyond h [] all = tt
beyond h (g ∷ gs) all = by_test (same_group h g) refl (beyond h gs all.1)
  where
    by_test : (b : Bool) → same_group h g ≡ b → AllByRecursion (λ g. group_cmp h g ≡ Less) (filter (λ g. not (same_group h g)) gs)
        → AllByRecursion (λ g. group_cmp h g ≡ Less) (cond (not b) (g ∷ filter (λ g. not (same_group h g)) gs) (filter (λ g. not (same_group h g)) gs))
    by_test true is rest = rest
    by_test false is rest = (less (group_cmp h g) all.0 (sym (group_ties h g) ∙ is), rest)

each_once-sorted : (hs : List Group) → IsUp hs → IsStrictlySortedBy group_cmp (each_once same_group hs)
unfolding IsStrictlySortedBy
each_once-sorted [] up = tt
each_once-sorted (h ∷ hs) up = (
  beyond h (each_once same_group hs) (every-each_once (λ g. is_gt (group_cmp h g) ≡ false) hs up.0),
  IsStrictlySortedBy-filter group_cmp (λ g. not (same_group h g)) (each_once same_group hs) (each_once-sorted hs up.1),
)

upto_all : (r : Row) (rs : List Row) → AllByRecursion (λ s. row_cmp r s ≡ Less) rs
    → AllByRecursion (λ g. is_gt (group_cmp (group_of r) g) ≡ false) (map group_of rs)
upto_all r [] all = tt
upto_all r (s ∷ rs) all = (group_upto r s all.0, upto_all r rs all.1)

pub up_from_sorted : (rs : List Row) → IsStrictlySortedBy row_cmp rs → IsUp (map group_of rs)
unfolding IsStrictlySortedBy
up_from_sorted [] sorted = tt
up_from_sorted (r ∷ rs) sorted = (upto_all r rs sorted.0, up_from_sorted rs sorted.1)

-- the groups of an element are in order, each once
pub groups_of-sorted : (element : ℕ) (rows : List Row) → rises row_cmp rows ≡ true → IsStrictlySortedBy group_cmp (groups_of element rows)
unfolding groups_of
groups_of-sorted element rows up =
    each_once-sorted (map group_of (filter (is_of_element element) rows))
    (up_from_sorted (filter (is_of_element element) rows)
    (IsStrictlySortedBy-filter row_cmp (is_of_element element) rows (sorted_from_rises row_cmp row_total rows up)))

-- ---- as many groups as rows at most

filter-shorter : {X : Type 0} (p : X → Bool) (xs : List X) → length (filter p xs) ≤ length xs
filter-shorter p [] = omega arith
filter-shorter p (x ∷ xs) = by_test (p x) (filter-shorter p xs)
  where
    by_test : (b : Bool) → length (filter p xs) ≤ length xs → length (cond b (x ∷ filter p xs) (filter p xs)) ≤ suc (length xs)
    by_test true short = omega arith
    by_test false short = omega arith

once-shorter : (rows : List Row) → length (each_once same_group (map group_of rows)) ≤ length rows
once-shorter [] = omega arith
once-shorter (r ∷ rows) =
    let one = filter-shorter (λ g. not (same_group (group_of r) g)) (each_once same_group (map group_of rows)) in
    let rest = once-shorter rows in
    omega arith

pub groups_of-shorter : (element : ℕ) (rows : List Row) → length (groups_of element rows) ≤ length rows
unfolding groups_of
groups_of-shorter element rows =
    let one = filter-shorter (is_of_element element) rows in
    let two = once-shorter (filter (is_of_element element) rows) in
    omega arith
