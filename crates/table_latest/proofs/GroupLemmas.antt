-- The groups that have a row with a latest part over the base.
use Rattle.std.proofs.Common.{◌≡◌, ◌∙◌, ◌⊎◌, ℕ, ◌+◌, Bool, true, false, not, ◌&&◌, ◌||◌, cond, List, [], ◌∷◌, ◌++◌, length, map, inl, inr}
use Rattle.std.proofs.Common.{refl, sym, ap, subst, arith, Ordering, Less, Equal, Greater}
use Rattle.std.specs.Prelude.{nat_eq, nat_le, nat_lt}
use Rattle.std.specs.Cmp.{IsTotalOrder, tied_itself}
use Rattle.std.specs.List.{AllByRecursion, filter, list_any, list_all}
use Rattle.std.specs.List.Sorted.{IsStrictlySortedBy}
use Rattle.std.specs.Ordering.{ordering_reverse, is_eq}
use Rattle.std.proofs.lemmas.Bool.{cases_Bool, false≢true}
use Rattle.std.proofs.lemmas.Bool.Decides.{nat_tests}
use Rattle.std.proofs.lemmas.List.Folds.{list_any-append}
use Rattle.std.proofs.lemmas.List.Kept.{IsStrictlySortedBy-filter}
use Rattle.std.proofs.lemmas.Map.Views.{any-filter_same}
use Rattle.dh_base.specs.declared.plain.Need.TheVariants as need
use Rattle.table_rows.specs.declared.row.Row.{Row}
use Rattle.table_rows.specs.declared.row.Group.{Group}
use Rattle.table_rows.specs.Groups.{each_once, groups_of}
use Rattle.table_rows.specs.Order.{group_cmp, row_cmp}
use Rattle.table_rows.specs.Rows.{group_of, same_group, is_in_group, is_of_element, is_wanted, wanted_rows}
use Rattle.table_rows.specs.Store.{rises}
use Rattle.table_rows.specs.Sums.{sum_of_rows}
use Rattle.table_rows.proofs.OrderLemmas.{group_total, group_ties, same_group-true, same_group-self}
use Rattle.table_rows.proofs.RunLemmas.{every-filter, groups_of-sorted}
use Rattle.table_sums.specs.Ascending.{ascending}
use Rattle.table_sums.proofs.AscendingLemmas.{ascending-parts, every-to}
use Rattle.table_sums.proofs.YearLemmas.{each, each-true, filter-whole}
use Rattle.table_rows.specs.Cells.{times}
use Rattle.table_latest.specs.declared.places.RowPlace.{RowPlace}
use Rattle.table_latest.specs.Keys.{is_among, place_cmp, place_of}
use Rattle.table_latest.specs.Latest.{is_in_reach, is_kept_group, untouched, untouched_rows}
use Rattle.table_latest.proofs.GapLemmas.{rows-counted}
use Rattle.table_latest.proofs.OrderLemmas.{any-ascending}

-- ---- two ascending lists with the same members are one

-- x is a member of a list
abbrev IsIn : {X : Type 0} → X → List X → Type 0
IsIn x [] = ⊥
IsIn x (y ∷ ys) = (x ≡ y) ⊎ IsIn x ys

at-member : {X : Type 0} (P : X → Type 0) (x : X) (xs : List X) → AllByRecursion P xs → IsIn x xs → P x
at-member P x [] all is = absurd is
at-member P x (y ∷ ys) all (inl e) = subst P (sym e) all.0
at-member P x (y ∷ ys) all (inr later) = at-member P x ys all.1 later

module _ {X : Type 0} (cmp : X → X → Ordering) (total : IsTotalOrder cmp) where
  not-below : (x y : X) → cmp x y ≡ Less → x ≡ y → ⊥
  not-below x y less same =
      let tied : cmp x y ≡ Equal = ap (cmp x) (sym same) ∙ tied_itself total x in
      (cc)

  not-both : (x y : X) → cmp x y ≡ Less → cmp y x ≡ Less → ⊥
  not-both x y less back =
      let turned : cmp x y ≡ Greater = total.antisymm x y ∙ ap ordering_reverse back in
      (cc)

  first-is : (a b : X) (bs : List X) → IsIn a (b ∷ bs) → AllByRecursion (λ z. cmp b z ≡ Less) bs → (a ≡ b) ⊎ (cmp b a ≡ Less)
  first-is a b bs (inl e) above = inl e
  first-is a b bs (inr later) above = inr (at-member (λ z. cmp b z ≡ Less) a bs above later)

  later-is : (a x : X) (xs : List X) → IsIn x (a ∷ xs) → cmp a x ≡ Less → IsIn x xs
  later-is a x xs (inl e) less = absurd (not-below a x less (sym e))
  later-is a x xs (inr later) less = later

  heads : (a b : X) (left right : List X) → IsIn a (b ∷ right) → IsIn b (a ∷ left) → AllByRecursion (λ z. cmp a z ≡ Less) left
      → AllByRecursion (λ z. cmp b z ≡ Less) right → a ≡ b
  heads a b left right here there above over =
      elim (first-is a b right here over) [
        | inl e ↦ e
        | inr less ↦ elim (first-is b a left there above) [
          | inl e ↦ sym e
          | inr back ↦ absurd (not-both b a less back)
        ]
      ]

  sorted-same : (left right : List X) → IsStrictlySortedBy cmp left → IsStrictlySortedBy cmp right
      → ((x : X) → IsIn x left → IsIn x right) → ((x : X) → IsIn x right → IsIn x left) → left ≡ right
  unfolding IsStrictlySortedBy
  sorted-same [] [] s t to from = refl
  sorted-same [] (b ∷ right) s t to from = absurd (from b (inl refl))
  sorted-same (a ∷ left) [] s t to from = absurd (to a (inl refl))
  sorted-same (a ∷ left) (b ∷ right) s t to from =
      let same = heads a b left right (to a (inl refl)) (from b (inl refl)) s.0 t.0 in
      let to_rest : (x : X) → IsIn x left → IsIn x right =
      λ x is. later-is b x right (to x (inr is)) (ap (λ y. cmp y x) (sym same) ∙ at-member (λ z. cmp a z ≡ Less) x left s.0 is) in
      let from_rest : (x : X) → IsIn x right → IsIn x left =
      λ x is. later-is a x left (from x (inr is)) (ap (λ y. cmp y x) same ∙ at-member (λ z. cmp b z ≡ Less) x right t.0 is) in
      let rest = sorted-same left right s.1 t.1 to_rest from_rest in
      λ i. same i ∷ rest i

-- a group is one of these
abbrev pub has : List Group → Group → Bool
has groups g = list_any (same_group g) groups

has-from : (g : Group) (groups : List Group) → IsIn g groups → has groups g ≡ true
has-from g [] is = absurd is
has-from g (h ∷ hs) (inl e) = ap (λ b. b || has hs g) (ap (same_group g) (sym e) ∙ same_group-self g)
has-from g (h ∷ hs) (inr later) = ap (λ b. same_group g h || b) (has-from g hs later) ∙ or_true (same_group g h)
  where
    or_true : (b : Bool) → (b || true) ≡ true
    or_true true = refl
    or_true false = refl

has-to : (g : Group) (groups : List Group) → has groups g ≡ true → IsIn g groups
has-to g [] e = absurd (false≢true e)
has-to g (h ∷ hs) e = by_first (same_group g h) refl e (λ later. has-to g hs later)
  where
    by_first : (b : Bool) → same_group g h ≡ b → (b || has hs g) ≡ true → (has hs g ≡ true → IsIn g hs) → IsIn g (h ∷ hs)
    by_first true is e rest = inl (same_group-true g h is)
    by_first false is e rest = inr (rest e)

same-groups : (left right : List Group) → IsStrictlySortedBy group_cmp left → IsStrictlySortedBy group_cmp right → ((g : Group) → has left g ≡ has right g)
    → left ≡ right
same-groups left right up over same =
    sorted-same group_cmp group_total left right up over (λ g is. has-to g right (sym (same g) ∙ has-from g left is))
    (λ g is. has-to g left (same g ∙ has-from g right is))

-- ---- which groups have a row

pub group-turned : (a b : Group) → same_group a b ≡ same_group b a
group-turned a b =
    elim (cases_Bool (same_group a b)) [
      | inl is ↦ is ∙ sym (ap (same_group b) (same_group-true a b is) ∙ same_group-self b)
      | inr not ↦ elim (cases_Bool (same_group b a)) [
        | inl back ↦ absurd (false≢true (sym not ∙ (ap (same_group a) (same_group-true b a back) ∙ same_group-self a)))
        | inr also ↦ not ∙ sym also
      ]
    ]

once-has : (g : Group) (hs : List Group) → has (each_once same_group hs) g ≡ has hs g
once-has g [] = refl
once-has g (h ∷ hs) = by_first (same_group g h) refl (once-has g hs)
  where
    by_first : (b : Bool) → same_group g h ≡ b → has (each_once same_group hs) g ≡ has hs g
        → (b || has (filter (λ y. not (same_group h y)) (each_once same_group hs)) g) ≡ (b || has hs g)
    by_first true is rest = refl
    by_first false is rest =
        any-filter_same (same_group g) (λ y. not (same_group h y)) true (λ k same. ap (λ v. not (same_group h v)) (sym (same_group-true g k same))
        ∙ ap not (group-turned h g ∙ is)) (each_once same_group hs)
        ∙ rest

element-has : (element : ℕ) (g : Group) (rows : List Row)
    → has (map group_of (filter (is_of_element element) rows)) g ≡ (nat_eq g.element element && list_any (is_in_group g) rows)
element-has element g [] = none (nat_eq g.element element)
  where
    none : (b : Bool) → false ≡ (b && false)
    none true = refl
    none false = refl
element-has element g (x ∷ xs) =
    by_tests (same_group (group_of x) g) (is_of_element element x) refl refl (list_any (is_in_group g) xs) (element-has element g xs)
  where
    own : same_group (group_of x) g ≡ true → nat_eq g.element element ≡ is_of_element element x
    own same = ap (λ (h : Group). nat_eq h.element element) (sym (same_group-true (group_of x) g same))

    by_tests : (s e : Bool) → same_group (group_of x) g ≡ s → is_of_element element x ≡ e → (c : Bool)
        → has (map group_of (filter (is_of_element element) xs)) g ≡ (nat_eq g.element element && c)
        → has (map group_of (cond e (x ∷ filter (is_of_element element) xs) (filter (is_of_element element) xs))) g ≡ (nat_eq g.element element && (s || c))
    by_tests true true same of c rest =
        ap (λ b. b || has (map group_of (filter (is_of_element element) xs)) g) (group-turned g (group_of x) ∙ same)
        ∙ sym (ap (λ b. b && true) (own same ∙ of))
    by_tests true false same of c rest = rest ∙ ap (λ b. b && c) (own same ∙ of) ∙ sym (ap (λ b. b && true) (own same ∙ of))
    by_tests false true same of c rest =
        ap (λ b. b || has (map group_of (filter (is_of_element element) xs)) g) (group-turned g (group_of x) ∙ same) ∙ rest
    by_tests false false same of c rest = rest

-- a group is among those of an element where it is of the element and a row is in it
pub group-has : (element : ℕ) (g : Group) (rows : List Row) → has (groups_of element rows) g ≡ (nat_eq g.element element && list_any (is_in_group g) rows)
unfolding groups_of
group-has element g rows = once-has g (map group_of (filter (is_of_element element) rows)) ∙ element-has element g rows

any-same : {X : Type 0} (p q : X → Bool) (xs : List X) → ((x : X) → p x ≡ q x) → list_any p xs ≡ list_any q xs
any-same p q [] same = refl
any-same p q (x ∷ xs) same = ap (λ b. b || list_any p xs) (same x) ∙ ap (λ b. q x || b) (any-same p q xs same)

among-has : (groups : List Group) (g : Group) → is_among group_cmp groups g ≡ has groups g
among-has groups g = any-same (λ k. is_eq (group_cmp k g)) (same_group g) groups (λ k. sym (group_ties k g) ∙ group-turned k g)

any-filtered : {X : Type 0} (t p : X → Bool) (xs : List X) → list_any t (filter p xs) ≡ true → list_any t xs ≡ true
any-filtered t p [] e = e
any-filtered t p (x ∷ xs) e = by_test (p x) e (λ kept. any-filtered t p xs kept)
  where
    later : (a b : Bool) → b ≡ true → (a || b) ≡ true
    later true b e = refl
    later false b e = e

    first : (a : Bool) → (a || list_any t (filter p xs)) ≡ true → (list_any t (filter p xs) ≡ true → list_any t xs ≡ true) → (a || list_any t xs) ≡ true
    first true e rest = refl
    first false e rest = rest e

    by_test : (b : Bool) → list_any t (cond b (x ∷ filter p xs) (filter p xs)) ≡ true → (list_any t (filter p xs) ≡ true → list_any t xs ≡ true)
        → (t x || list_any t xs) ≡ true
    by_test true e rest = first (t x) e rest
    by_test false e rest = later (t x) (list_any t xs) (rest e)

-- ---- the groups of both

now_groups : (e k l : Bool) → ((e && l) && (e && (k || l))) ≡ (e && l)
now_groups true true true = refl
now_groups true true false = refl
now_groups true false true = refl
now_groups true false false = refl
now_groups false k l = refl

kept_as : (e k l b : Bool) → (k ≡ true → b ≡ true) → (not (e && l) && (e && (k || l))) ≡ ((k && not (e && l)) && (e && b))
kept_as true true true b there = refl
kept_as true true false b there = sym (there refl)
kept_as true false true b there = refl
kept_as true false false b there = refl
kept_as false true l b there = refl
kept_as false false l b there = refl

one_of : (b : Bool) → 1 ≡ times (not b) + times b
one_of true = refl
one_of false = refl

module _ (touched : Row → Bool) (element : ℕ) (base now : List Row) where
  over-has : (g : Group)
      → has (groups_of element (ascending row_cmp (untouched touched base ++ now))) g
      ≡ (nat_eq g.element element && (list_any (is_in_group g) (untouched touched base) || list_any (is_in_group g) now))
  over-has g =
      group-has element g (ascending row_cmp (untouched touched base ++ now))
      ∙ ap (λ b. nat_eq g.element element && b) (any-ascending row_cmp (is_in_group g) (untouched touched base ++ now)
      ∙ list_any-append (is_in_group g) (untouched touched base) now)

  filtered : (p : Group → Bool) (g : Group) (groups : List Group) → has (filter p groups) g ≡ (p g && has groups g)
  filtered p g groups = any-filter_same (same_group g) p (p g) (λ k same. ap p (sym (same_group-true g k same))) groups

  module _ (base_rise : rises row_cmp base ≡ true) (now_rise : rises row_cmp now ≡ true)
      (rise : rises row_cmp (ascending row_cmp (untouched touched base ++ now)) ≡ true) where
    whole_sorted : IsStrictlySortedBy group_cmp (groups_of element (ascending row_cmp (untouched touched base ++ now)))
    whole_sorted = groups_of-sorted element (ascending row_cmp (untouched touched base ++ now)) rise

    those-now : filter (λ g. has (groups_of element now) g) (groups_of element (ascending row_cmp (untouched touched base ++ now))) ≡ groups_of element now
    those-now =
        same-groups (filter (λ g. has (groups_of element now) g) (groups_of element (ascending row_cmp (untouched touched base ++ now))))
        (groups_of element now)
        (IsStrictlySortedBy-filter group_cmp (λ g. has (groups_of element now) g) (groups_of element (ascending row_cmp (untouched touched base ++ now)))
        whole_sorted)
        (groups_of-sorted element now now_rise)
        (λ g.
        filtered (λ g. has (groups_of element now) g) g (groups_of element (ascending row_cmp (untouched touched base ++ now)))
        ∙ ap (λ b. has (groups_of element now) g && b) (over-has g)
        ∙ ap (λ b. b && (nat_eq g.element element && (list_any (is_in_group g) (untouched touched base) || list_any (is_in_group g) now)))
        (group-has element g now)
        ∙ now_groups (nat_eq g.element element) (list_any (is_in_group g) (untouched touched base)) (list_any (is_in_group g) now)
        ∙ sym (group-has element g now))

    those-kept : filter (λ g. not (has (groups_of element now) g)) (groups_of element (ascending row_cmp (untouched touched base ++ now)))
        ≡ filter (is_kept_group (untouched touched base) (groups_of element now)) (groups_of element base)
    those-kept =
        same-groups (filter (λ g. not (has (groups_of element now) g)) (groups_of element (ascending row_cmp (untouched touched base ++ now))))
        (filter (is_kept_group (untouched touched base) (groups_of element now)) (groups_of element base))
        (IsStrictlySortedBy-filter group_cmp (λ g. not (has (groups_of element now) g))
        (groups_of element (ascending row_cmp (untouched touched base ++ now))) whole_sorted)
        (IsStrictlySortedBy-filter group_cmp (is_kept_group (untouched touched base) (groups_of element now)) (groups_of element base)
        (groups_of-sorted element base base_rise))
        (λ g.
        filtered (λ g. not (has (groups_of element now) g)) g (groups_of element (ascending row_cmp (untouched touched base ++ now)))
        ∙ ap (λ b. not (has (groups_of element now) g) && b) (over-has g)
        ∙ ap (λ b. not b && (nat_eq g.element element && (list_any (is_in_group g) (untouched touched base) || list_any (is_in_group g) now)))
        (group-has element g now)
        ∙ kept_as (nat_eq g.element element) (list_any (is_in_group g) (untouched touched base)) (list_any (is_in_group g) now)
        (list_any (is_in_group g) base) (λ e. any-filtered (is_in_group g) (λ x. not (touched x)) base e)
        ∙ ap (λ b. (list_any (is_in_group g) (untouched touched base) && not b) && (nat_eq g.element element && list_any (is_in_group g) base))
        (sym (among-has (groups_of element now) g ∙ group-has element g now))
        ∙ ap (λ b. is_kept_group (untouched touched base) (groups_of element now) g && b) (sym (group-has element g base))
        ∙ sym (filtered (is_kept_group (untouched touched base) (groups_of element now)) g (groups_of element base)))

    -- the groups that stay, and with them those of the latest part, are those that have a row
    pub groups-over : (all kept groups new : List Group) → groups ≡ groups_of element base → new ≡ groups_of element now
        → kept ≡ filter (is_kept_group (untouched touched base) new) groups → all ≡ ascending group_cmp (kept ++ new)
        → all ≡ groups_of element (ascending row_cmp (untouched touched base ++ now))
    groups-over all kept groups new of_base of_now left is =
        is
        ∙ ap (λ v. ascending group_cmp (v ++ new)) (left
        ∙ (λ i. filter (is_kept_group (untouched touched base) (of_now i)) (of_base i)) ∙ sym those-kept)
        ∙ ap (λ v. ascending group_cmp (filter (λ g. not (has (groups_of element now) g)) (groups_of element (ascending row_cmp
        (untouched touched base ++ now)))
        ++ v)) (of_now ∙ sym those-now)
        ∙ ascending-parts group_cmp group_total (λ g. not (has (groups_of element now) g)) (λ g. has (groups_of element now) g) (λ g. true)
        (groups_of element (ascending row_cmp (untouched touched base ++ now))) whole_sorted
        (each (λ g. times true ≡ times (not (has (groups_of element now) g)) + times (has (groups_of element now) g))
        (groups_of element (ascending row_cmp (untouched touched base ++ now))) (λ g. one_of (has (groups_of element now) g)))
        ∙ filter-whole (λ g. true) (groups_of element (ascending row_cmp (untouched touched base ++ now)))
        (each (λ g. true ≡ true) (groups_of element (ascending row_cmp (untouched touched base ++ now))) (λ g. refl))

    -- both lists of groups are ascending
    pub kept-groups-sorted : (kept groups new : List Group) → groups ≡ groups_of element base
        → kept ≡ filter (is_kept_group (untouched touched base) new) groups
        → IsStrictlySortedBy group_cmp kept
    kept-groups-sorted kept groups new of_base left =
        subst (IsStrictlySortedBy group_cmp) (sym (left ∙ ap (filter (is_kept_group (untouched touched base) new)) of_base))
        (IsStrictlySortedBy-filter group_cmp (is_kept_group (untouched touched base) new) (groups_of element base) (groups_of-sorted element base base_rise))

    pub now-groups-sorted : (new : List Group) → new ≡ groups_of element now → IsStrictlySortedBy group_cmp new
    now-groups-sorted new of_now = subst (IsStrictlySortedBy group_cmp) (sym of_now) (groups_of-sorted element now now_rise)

-- ---- a group has a row where the count of its rows isn't 0

some-counted : {X : Type 0} (p : X → Bool) (xs : List X) → nat_lt 0 (length (filter p xs)) ≡ list_any p xs
some-counted p [] = refl
some-counted p (x ∷ xs) = by_test (p x) (some-counted p xs)
  where
    by_test : (b : Bool) → nat_lt 0 (length (filter p xs)) ≡ list_any p xs → nat_lt 0 (length (cond b (x ∷ filter p xs) (filter p xs))) ≡ (b || list_any p xs)
    by_test true rest = grind (arith, nat_tests)
    by_test false rest = rest

filter-each : {X : Type 0} (p q : X → Bool) (xs : List X) → AllByRecursion (λ x. p x ≡ q x) xs → filter p xs ≡ filter q xs
filter-each p q [] all = refl
filter-each p q (x ∷ xs) all =
    ap (λ b. cond b (x ∷ filter p xs) (filter p xs)) all.0 ∙ ap (λ ys. cond (q x) (x ∷ ys) ys) (filter-each p q xs all.1)

reached : (a : Bool) (r : ℕ) → nat_lt r 4294967295 ≡ true → (a && (true && (nat_le 0 r && nat_lt r 4294967295))) ≡ a
reached true r e = grind (arith, nat_tests, e)
reached false r e = refl

pub kept-counted : (places : List RowPlace) (g : Group) (rows : List Row) (n : ℕ) → list_all is_in_reach rows ≡ true
    → n ≡ (sum_of_rows (wanted_rows g need.All 0 4294967295 (untouched_rows places rows))).count
    → nat_lt 0 n ≡ list_any (is_in_group g) (untouched_rows places rows)
kept-counted places g rows n reach is =
    let all = every-filter (λ row. is_in_reach row ≡ true) (λ row. not (is_among place_cmp places (place_of row))) rows (each-true is_in_reach rows reach) in
    ap (nat_lt 0) (is ∙ rows-counted (wanted_rows g need.All 0 4294967295 (untouched_rows places rows))
    ∙ ap length (filter-each (is_wanted g need.All 0 4294967295) (is_in_group g) (untouched_rows places rows)
    (every-to (λ row. is_in_reach row ≡ true) (λ row. is_wanted g need.All 0 4294967295 row ≡ is_in_group g row) (untouched_rows places rows)
    (λ row within. reached (is_in_group g row) row.order within) all)))
    ∙ some-counted (is_in_group g) (untouched_rows places rows)
