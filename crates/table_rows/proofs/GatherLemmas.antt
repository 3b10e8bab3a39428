-- The rows of a cell are those of its groups, one group after the other.
use Rattle.std.proofs.Common.{◌≡◌, ◌∙◌, ℕ, Bool, true, false, not, cond, ◌&&◌, List, [], ◌∷◌, ◌++◌, map, inl, inr, refl, sym, ap, Ordering, Less, Equal}
use Rattle.std.proofs.Common.{Greater}
use Rattle.std.specs.List.{filter, AllByRecursion}
use Rattle.std.specs.Ordering.{is_gt, is_eq, ordering_reverse}
use Rattle.std.proofs.lemmas.Bool.{cases_Bool, false≢true, eqb-true, eq-eqb}
use Rattle.std.proofs.lemmas.List.Elements.{filter-append}
use Rattle.std.proofs.lemmas.List.Kept.{IsStrictlySortedBy-filter}
use Rattle.table_rows.specs.declared.row.Row.{Row}
use Rattle.table_rows.specs.declared.row.Group.{Group}
use Rattle.table_rows.specs.Rows.{group_of, same_group, is_of_element, is_in_group}
use Rattle.table_rows.specs.Order.{group_cmp, row_cmp}
use Rattle.table_rows.specs.Groups.{each_once, groups_of}
use Rattle.table_rows.specs.Cells.{cell_rows, gathered, group_rows}
use Rattle.table_rows.specs.Store.{rises}
use Rattle.table_rows.proofs.OrderLemmas.{row_total, group_total, group_ties, same_group-true, same_group-self}
use Rattle.table_rows.proofs.RiseLemmas.{sorted_from_rises}
use Rattle.table_rows.proofs.CellLemmas.{filter-same, filter-never}
use Rattle.table_rows.proofs.RunLemmas.{IsUp, up_from_sorted, every-each_once}

-- ---- lists

pub gathered-same : {A B : Type 0} (f g : A → List B) (list : List A) → AllByRecursion (λ a. f a ≡ g a) list → gathered f list ≡ gathered g list
gathered-same f g [] same = refl
gathered-same f g (a ∷ rest) same = ap (λ v. v ++ gathered f rest) same.0 ∙ ap (λ v. g a ++ v) (gathered-same f g rest same.1)

gathered-filter : {A B : Type 0} (q : B → Bool) (f : A → List B) (list : List A) → filter q (gathered f list) ≡ gathered (λ a. filter q (f a)) list
gathered-filter q f [] = refl
gathered-filter q f (a ∷ rest) = filter-append q (f a) (gathered f rest) ∙ ap (λ v. filter q (f a) ++ v) (gathered-filter q f rest)

gathered-cond : {A B : Type 0} (t : A → Bool) (f : A → List B) (list : List A) → gathered (λ a. cond (t a) (f a) []) list ≡ gathered f (filter t list)
gathered-cond t f [] = refl
gathered-cond t f (a ∷ rest) = by_test (t a) (gathered-cond t f rest)
  where
    by_test : (b : Bool) → gathered (λ a. cond (t a) (f a) []) rest ≡ gathered f (filter t rest)
        → cond b (f a) [] ++ gathered (λ a. cond (t a) (f a) []) rest ≡ gathered f (cond b (a ∷ filter t rest) (filter t rest))
    by_test true is = ap (λ v. f a ++ v) is
    by_test false is = is

filter-both : {X : Type 0} (p q : X → Bool) (xs : List X) → filter q (filter p xs) ≡ filter (λ x. p x && q x) xs
filter-both p q [] = refl
filter-both p q (x ∷ xs) = by_test (p x) (filter-both p q xs)
  where
    by_test : (b : Bool) → filter q (filter p xs) ≡ filter (λ x. p x && q x) xs
        → filter q (cond b (x ∷ filter p xs) (filter p xs)) ≡ cond (b && q x) (x ∷ filter (λ x. p x && q x) xs) (filter (λ x. p x && q x) xs)
    by_test true is = ap (λ v. cond (q x) (x ∷ v) v) is
    by_test false is = is

filter-none : {X : Type 0} (p : X → Bool) (xs : List X) → AllByRecursion (λ x. p x ≡ false) xs → filter p xs ≡ []
filter-none p [] none = refl
filter-none p (x ∷ xs) none = ap (λ b. cond b (x ∷ filter p xs) (filter p xs)) none.0 ∙ filter-none p xs none.1

filter-every : {X : Type 0} (p : X → Bool) (xs : List X) → AllByRecursion (λ x. p x ≡ true) xs → filter p xs ≡ xs
filter-every p [] all = refl
filter-every p (x ∷ xs) all = ap (λ b. cond b (x ∷ filter p xs) (filter p xs)) all.0 ∙ ap (λ v. x ∷ v) (filter-every p xs all.1)

every-same : {X : Type 0} (P Q : X → Type 0) (xs : List X) → ((x : X) → P x → Q x) → AllByRecursion P xs → AllByRecursion Q xs
every-same P Q [] to all = tt
every-same P Q (x ∷ xs) to all = (to x all.0, every-same P Q xs to all.1)

every-kept : {X : Type 0} (p : X → Bool) (xs : List X) → AllByRecursion (λ x. p x ≡ true) (filter p xs)
every-kept p [] = tt
every-kept p (x ∷ xs) = by_test (p x) refl (every-kept p xs)
  where
    by_test : (b : Bool) → p x ≡ b → AllByRecursion (λ x. p x ≡ true) (filter p xs) → AllByRecursion (λ x. p x ≡ true) (cond b (x ∷ filter p xs) (filter p xs))
    by_test true is rest = (is, rest)
    by_test false is rest = rest

-- ---- rows in their order

from_not : (b : Bool) → not b ≡ true → b ≡ false
from_not true e = absurd (false≢true e)
from_not false e = refl

-- the first row is in none of the other groups
skip_first : (r : Row) (rows : List Row) (gs : List Group) → AllByRecursion (λ g. not (same_group (group_of r) g) ≡ true) gs
    → gathered (λ g. filter (is_in_group g) (r ∷ rows)) gs ≡ gathered (λ g. filter (is_in_group g) rows) gs
skip_first r rows gs other =
    gathered-same (λ g. filter (is_in_group g) (r ∷ rows)) (λ g. filter (is_in_group g) rows) gs
    (every-same (λ g. not (same_group (group_of r) g) ≡ true) (λ g. filter (is_in_group g) (r ∷ rows) ≡ filter (is_in_group g) rows) gs
    (λ g e. ap (λ b. cond b (r ∷ filter (is_in_group g) rows) (filter (is_in_group g) rows)) (from_not (same_group (group_of r) g) e)) other)

below : (o : Ordering) → is_gt o ≡ false → is_eq o ≡ false → is_gt (ordering_reverse o) ≡ true
below Less a b = refl
below Equal a b = absurd (cc)
below Greater a b = absurd (cc)

-- a group before another one is none of those that don't stand before that one
apart : (h k g : Group) → is_gt (group_cmp h k) ≡ false → same_group h k ≡ false → is_gt (group_cmp k g) ≡ false → same_group h g ≡ false
apart h k g upto differs later =
    elim (cases_Bool (same_group h g)) [
      | inl same ↦
          let back : is_gt (group_cmp k h) ≡ true = ap is_gt (group_total.antisymm k h) ∙ below (group_cmp h k) upto (sym (group_ties h k) ∙ differs) in
          let here : is_gt (group_cmp k h) ≡ false = ap (λ v. is_gt (group_cmp k v)) (same_group-true h g same) ∙ later in
          absurd (false≢true (sym here ∙ back))
      | inr other ↦ other
    ]

turned : (a b : Group) → same_group a b ≡ false → same_group b a ≡ false
turned a b differs =
    elim (cases_Bool (same_group b a)) [
      | inl same ↦ absurd (false≢true (sym differs ∙ ap (λ v. same_group v b) (sym (same_group-true b a same)) ∙ same_group-self b))
      | inr other ↦ other
    ]

every-map : (P : Group → Type 0) (rows : List Row) → AllByRecursion P (map group_of rows) → AllByRecursion (λ r. P (group_of r)) rows
every-map P [] all = tt
every-map P (r ∷ rows) all = (all.0, every-map P rows all.1)

-- the rest of the rows, where the first group's come first
rest_of : (h : Group) (rows : List Row) → IsUp (h ∷ map group_of rows)
    → gathered (λ g. filter (is_in_group g) rows) (each_once same_group (map group_of rows)) ≡ rows
    → filter (is_in_group h) rows ++ gathered (λ g. filter (is_in_group g) rows) (filter (λ g. not (same_group h g)) (each_once same_group (map group_of rows)))
    ≡ rows
rest_of h [] up is = refl
rest_of h (s ∷ rows) up is =
    let k = group_of s in
    let later = each_once same_group (map group_of rows) in
    let F : Group → List Row = λ g. filter (is_in_group g) (s ∷ rows) in
    elim (cases_Bool (same_group h k)) [
      | inl same ↦
          let one : h ≡ k = same_group-true h k same in
          let drops : filter (λ g. not (same_group h g)) (k ∷ filter (λ g. not (same_group k g)) later) ≡ filter (λ g. not (same_group k g)) later =
          ap (λ b. cond (not b) (k ∷ filter (λ g. not (same_group h g)) (filter (λ g. not (same_group k g)) later))
          (filter (λ g. not (same_group h g)) (filter (λ g. not (same_group k g)) later))) same
          ∙ ap (λ v. filter (λ g. not (same_group v g)) (filter (λ g. not (same_group k g)) later)) one
          ∙ filter-every (λ g. not (same_group k g)) (filter (λ g. not (same_group k g)) later) (every-kept (λ g. not (same_group k g)) later) in
          ap (λ v. F h ++ gathered F v) drops ∙ ap (λ v. F v ++ gathered F (filter (λ g. not (same_group k g)) later)) one ∙ is
      | inr differs ↦
          let others : AllByRecursion (λ g. same_group h g ≡ false) (map group_of (s ∷ rows)) = (
            differs,
            every-same (λ g. is_gt (group_cmp k g) ≡ false) (λ g. same_group h g ≡ false) (map group_of rows) (λ g l. apart h k g up.0.0 differs l)
                up.1.0,
          ) in
          let none : F h ≡ [] = filter-none (is_in_group h) (s ∷ rows)
          (every-same (λ r. same_group h (group_of r) ≡ false) (λ r. is_in_group h r ≡ false) (s ∷ rows) (λ r e. turned h (group_of r) e)
          (every-map (λ g. same_group h g ≡ false) (s ∷ rows) others)) in
          let all : filter (λ g. not (same_group h g)) (each_once same_group (map group_of (s ∷ rows))) ≡ each_once same_group (map group_of (s ∷ rows)) =
          filter-every (λ g. not (same_group h g)) (each_once same_group (map group_of (s ∷ rows)))
          (every-same (λ g. same_group h g ≡ false) (λ g. not (same_group h g) ≡ true) (each_once same_group (map group_of (s ∷ rows))) (λ g e. ap not e)
          (every-each_once (λ g. same_group h g ≡ false) (map group_of (s ∷ rows)) others)) in
          ap (λ v. v ++ gathered F (filter (λ g. not (same_group h g)) (each_once same_group (map group_of (s ∷ rows))))) none ∙ ap (gathered F) all ∙ is
    ]

gather_all : (rows : List Row) → IsUp (map group_of rows) → gathered (λ g. filter (is_in_group g) rows) (each_once same_group (map group_of rows)) ≡ rows
gather_all [] up = refl
gather_all (r ∷ rows) up =
    let h = group_of r in
    let others = filter (λ g. not (same_group h g)) (each_once same_group (map group_of rows)) in
    ap (λ b. cond b (r ∷ filter (is_in_group h) rows) (filter (is_in_group h) rows) ++ gathered (λ g. filter (is_in_group g) (r ∷ rows)) others)
    (same_group-self h)
    ∙ ap (λ v. (r ∷ filter (is_in_group h) rows) ++ v)
    (skip_first r rows others (every-kept (λ g. not (same_group h g)) (each_once same_group (map group_of rows))))
    ∙ ap (λ v. r ∷ v) (rest_of h rows up (gather_all rows up.1))

-- ---- a cell

map-every : (P : Group → Type 0) (rows : List Row) → AllByRecursion (λ r. P (group_of r)) rows → AllByRecursion P (map group_of rows)
map-every P [] all = tt
map-every P (r ∷ rows) all = (all.0, map-every P rows all.1)

-- the groups of an element are of that element
pub groups_of-element : (element : ℕ) (rows : List Row) → AllByRecursion (λ (g : Group). g.element ≡ element) (groups_of element rows)
unfolding groups_of
groups_of-element element rows =
    every-each_once (λ (g : Group). g.element ≡ element) (map group_of (filter (is_of_element element) rows))
    (map-every (λ (g : Group). g.element ≡ element) (filter (is_of_element element) rows)
    (every-same (λ r. is_of_element element r ≡ true) (λ (r : Row). r.element ≡ element) (filter (is_of_element element) rows) (λ r e. eqb-true _ _ e)
    (every-kept (is_of_element element) rows)))

and_false : (b : Bool) → (b && false) ≡ false
and_false true = refl
and_false false = refl

-- a row of a group that is of the element
in_group : (element : ℕ) (t : Group → Bool) (u : Row → Bool) (g : Group) (r : Row) (b : Bool) → g.element ≡ element → is_in_group g r ≡ b
    → (is_of_element element r && (b && (t (group_of r) && u r))) ≡ (t g && (b && u r))
in_group element t u g r true of is =
    let one : group_of r ≡ g = same_group-true (group_of r) g is in
    let here : is_of_element element r ≡ true = eq-eqb r.element element (ap (λ (v : Group). v.element) one ∙ of) in
    ap (λ b. b && (t (group_of r) && u r)) here ∙ ap (λ v. t v && u r) one
in_group element t u g r false of is = and_false (is_of_element element r) ∙ sym (and_false (t g))

group_part : (element : ℕ) (t : Group → Bool) (u : Row → Bool) (rows : List Row) (g : Group) → g.element ≡ element
    → filter (λ r. t (group_of r) && u r) (filter (is_in_group g) (filter (is_of_element element) rows)) ≡ cond (t g) (group_rows u rows g) []
group_part element t u rows g of =
    filter-both (is_in_group g) (λ r. t (group_of r) && u r) (filter (is_of_element element) rows)
    ∙ filter-both (is_of_element element) (λ r. is_in_group g r && (t (group_of r) && u r)) rows
    ∙ filter-same (λ r. is_of_element element r && (is_in_group g r && (t (group_of r) && u r))) (λ r. t g && (is_in_group g r && u r)) rows
    (λ r. in_group element t u g r (is_in_group g r) of refl)
    ∙ by_test (t g)
  where
    by_test : (b : Bool) → filter (λ r. b && (is_in_group g r && u r)) rows ≡ cond b (group_rows u rows g) []
    by_test true = refl
    by_test false = filter-never (λ r. false && (is_in_group g r && u r)) rows (λ r. refl)

-- in rows in their order those of a cell are the rows of its groups that pass, one group after the other
pub cell-gathered : (element : ℕ) (t : Group → Bool) (u : Row → Bool) (rows : List Row) → rises row_cmp rows ≡ true
    → cell_rows element t u rows ≡ gathered (group_rows u rows) (filter t (groups_of element rows))
unfolding groups_of
cell-gathered element t u rows up =
    let of = filter (is_of_element element) rows in
    let groups = groups_of element rows in
    let sorted = IsStrictlySortedBy-filter row_cmp (is_of_element element) rows (sorted_from_rises row_cmp row_total rows up) in
    sym (filter-both (is_of_element element) (λ r. t (group_of r) && u r) rows)
    ∙ ap (filter (λ r. t (group_of r) && u r)) (sym (gather_all of (up_from_sorted of sorted)))
    ∙ gathered-filter (λ r. t (group_of r) && u r) (λ g. filter (is_in_group g) of) groups
    ∙ gathered-same (λ g. filter (λ r. t (group_of r) && u r) (filter (is_in_group g) of)) (λ g. cond (t g) (group_rows u rows g) []) groups
    (every-same (λ (g : Group). g.element ≡ element)
    (λ g. filter (λ r. t (group_of r) && u r) (filter (is_in_group g) of) ≡ cond (t g) (group_rows u rows g) []) groups (λ g e. group_part element t u rows g e)
    (groups_of-element element rows))
    ∙ gathered-cond t (group_rows u rows) groups
