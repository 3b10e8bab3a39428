-- The base's rows of touched keys, and what they leave of its sums.
use Rattle.std.proofs.Common.{◌≡◌, ◌∙◌, ℕ, ◌+◌, ◌≤◌, ◌<◌, ◌/◌, Bool, true, false, not, ◌&&◌, ◌||◌, cond, List, [], ◌∷◌, ◌++◌, length}
use Rattle.std.proofs.Common.{get_or, inl, inr, refl, sym, ap, subst, arith, Ordering, Less, Equal, Greater, ℤ}
use Rattle.std.proofs.lemmas.Int.{ints}
use Rattle.std.specs.Prelude.{All, nat_eq, nat_le, nat_lt}
use Rattle.std.specs.Cmp.{IsTotalOrder, tied_back, tied_then, unsigned_tied}
use Rattle.std.specs.List.{AllByRecursion, filter, list_all, list_any}
use Rattle.std.specs.List.Sorted.{IsStrictlySortedBy}
use Rattle.std.specs.Ordering.{is_eq, is_lt, nat_cmp, ordering_then}
use Rattle.std.proofs.lemmas.Bool.{and_from, and_parts, cases_Bool, cases_lt, false≢true, le-leb, leb-true}
use Rattle.std.proofs.lemmas.Bool.Decides.{nat_tests}
use Rattle.std.proofs.lemmas.List.{get_or_default}
use Rattle.std.proofs.lemmas.List.Elements.{All-from_recursion}
use Rattle.std.proofs.lemmas.List.Folds.{list_any_none}
use Rattle.std.proofs.lemmas.List.Kept.{IsStrictlySortedBy-filter}
use Rattle.std.proofs.lemmas.Map.Views.{any-filter_same}
use Rattle.dh_base.specs.declared.plain.Need.{Need}
use Rattle.dh_base.specs.declared.plain.Need.TheVariants as need
use Rattle.table_rows.specs.declared.row.Row.{Row}
use Rattle.table_rows.specs.declared.row.Group.{Group}
use Rattle.table_rows.specs.declared.event.EventRow.{EventRow}
use Rattle.table_rows.specs.declared.event.RegRow.{RegRow}
use Rattle.table_rows.specs.declared.sum.Sum.{Sum}
use Rattle.table_rows.specs.Cells.{times}
use Rattle.table_rows.specs.Groups.{groups_of}
use Rattle.table_rows.specs.Order.{group_cmp, row_cmp}
use Rattle.table_rows.specs.Rows.{group_of, is_in_group, is_wanted, same_group, same_place, wanted_rows}
use Rattle.table_rows.specs.Store.{all_differ, is_short, is_store, rises, rises_from}
use Rattle.table_rows.specs.Sums.{joined, sum_of_row, sum_of_rows, sum_over, sum_with}
use Rattle.table_rows.proofs.CellLemmas.{filter-same}
use Rattle.table_rows.proofs.OrderLemmas.{group_ties, row_total, same_group-self, same_group-true}
use Rattle.table_rows.proofs.RiseLemmas.{sorted-far, sorted_from_rises}
use Rattle.table_rows.proofs.SplitLemmas.{sum_over-split}
use Rattle.table_rows.proofs.StoreLemmas.{Holds, store-holds}
use Rattle.table_sums.specs.Ascending.{ascending}
use Rattle.table_sums.proofs.AscendingLemmas.{ascending-parts, every-to}
use Rattle.table_sums.proofs.YearLemmas.{each, each-true}
use Rattle.table_latest.specs.declared.places.RowPlace.{RowPlace}
use Rattle.table_latest.specs.Keys.{IsCutAt, is_among, place_at, place_cmp, place_of}
use Rattle.table_latest.specs.Latest.{is_in_reach, touched_rows, untouched_rows}
use Rattle.table_latest.proofs.GapLemmas.{below-is, filter-both, filter-shorter, in-group, same-place}
use Rattle.table_latest.proofs.GroupLemmas.{group-turned, has, group-has, kept-counted}
use Rattle.table_latest.proofs.MergeLemmas.{every-front}
use Rattle.table_latest.proofs.SearchLemmas.{place_total}

-- ---- the row of one place

at-place : (place : RowPlace) (row : Row) → is_eq (place_cmp place (place_of row)) ≡ (same_group place.group (group_of row) && nat_eq place.order row.order)
at-place place row =
    sym (tied_then (group_cmp place.group (group_of row)) (nat_cmp place.order row.order))
    ∙ (λ i. sym (group_ties place.group (group_of row)) i && unsigned_tied place.order row.order i)

one-order : (a : Bool) (o r : ℕ) → (a && (true && (nat_le o r && nat_lt r (o + 1)))) ≡ ((a && nat_eq o r) || false)
one-order true o r = grind (arith, nat_tests)
one-order false o r = refl

single : (place : RowPlace) (row : Row) → is_wanted place.group need.All place.order (place.order + 1) row ≡ is_among place_cmp (place ∷ []) (place_of row)
single place row =
    ap (λ a. a && (true && (nat_le place.order row.order && nat_lt row.order (place.order + 1)))) (group-turned (group_of row) place.group)
    ∙ one-order (same_group place.group (group_of row)) place.order row.order
    ∙ ap (λ b. b || false) (sym (at-place place row))

-- what lies in the range of one order is the row of the place
pub row-there : (place : RowPlace) (rows found : List Row) → found ≡ wanted_rows place.group need.All place.order (place.order + 1) rows
    → found ≡ touched_rows (place ∷ []) rows
row-there place rows found is =
    is ∙ filter-same (is_wanted place.group need.All place.order (place.order + 1)) (λ row. is_among place_cmp (place ∷ []) (place_of row)) rows (single place)

filter-none : {X : Type 0} (p : X → Bool) (xs : List X) → AllByRecursion (λ x. p x ≡ false) xs → filter p xs ≡ []
filter-none p [] all = refl
filter-none p (x ∷ xs) all = ap (λ b. cond b (x ∷ filter p xs) (filter p xs)) all.0 ∙ filter-none p xs all.1

out-of-reach : (a : Bool) (o r : ℕ) → 4294967295 ≤ o → nat_lt r 4294967295 ≡ true → ((a && nat_eq o r) || false) ≡ false
out-of-reach true o r far e = grind (arith, nat_tests, far, e)
out-of-reach false o r far e = refl

-- no row is of the largest order
pub none-there : (place : RowPlace) (rows found : List Row) → list_all is_in_reach rows ≡ true → 4294967295 ≤ place.order → found ≡ []
    → found ≡ touched_rows (place ∷ []) rows
none-there place rows found reach far none =
    none ∙ sym (filter-none (λ row. is_among place_cmp (place ∷ []) (place_of row)) rows
    (every-to (λ row. is_in_reach row ≡ true) (λ row. is_among place_cmp (place ∷ []) (place_of row) ≡ false) rows
    (λ row within. ap (λ b. b || false) (at-place place row) ∙ out-of-reach (same_group place.group (group_of row)) place.order row.order far within)
    (each-true is_in_reach rows reach)))

pub no-places : (places : List RowPlace) (rows found : List Row) → length places ≡ 0 → found ≡ [] → found ≡ touched_rows places rows
no-places [] rows found few none = none ∙ sym (filter-none (λ row. false) rows (each (λ row. false ≡ false) rows (λ row. refl)))
no-places (place ∷ places) rows found few none = absurd (omega (arith, few))

-- ---- the rows of places in two parts

module _ {K : Type 0} (cmp : K → K → Ordering) where
  sorted-fore : (xs ys : List K) → IsStrictlySortedBy cmp (xs ++ ys) → IsStrictlySortedBy cmp xs
  unfolding IsStrictlySortedBy
  sorted-fore [] ys sorted = tt
  sorted-fore (x ∷ xs) ys sorted = (every-front (λ y. cmp x y ≡ Less) xs ys sorted.0, sorted-fore xs ys sorted.1)

  sorted-rest : (xs ys : List K) → IsStrictlySortedBy cmp (xs ++ ys) → IsStrictlySortedBy cmp ys
  unfolding IsStrictlySortedBy
  sorted-rest [] ys sorted = sorted
  sorted-rest (x ∷ xs) ys sorted = sorted-rest xs ys sorted.1

  module _ (total : IsTotalOrder cmp) where
    -- what is one key isn't a later one
    later-none : (a key : K) (keys : List K) → cmp a key ≡ Equal → AllByRecursion (λ k. cmp a k ≡ Less) keys → is_among cmp keys key ≡ false
    later-none a key [] same all = refl
    later-none a key (k ∷ keys) same all = by_order (cmp k key) refl (later-none a key keys same all.1)
      where
        by_order : (o : Ordering) → cmp k key ≡ o → is_among cmp keys key ≡ false → (is_eq o || is_among cmp keys key) ≡ false
        by_order Less is rest = rest
        by_order Equal is rest = absurd (let tied : cmp a k ≡ Equal = total.congr a key k same ∙ tied_back total k key is in let less = all.0 in (cc))
        by_order Greater is rest = rest

    is-equal : (o : Ordering) → is_eq o ≡ true → o ≡ Equal
    is-equal Less e = absurd (cc)
    is-equal Equal e = refl
    is-equal Greater e = absurd (cc)

    -- a key is among the first ones or among the last
    one-part : (front back : List K) (key : K) → IsStrictlySortedBy cmp (front ++ back)
        → times (is_among cmp (front ++ back) key) ≡ times (is_among cmp front key) + times (is_among cmp back key)
    unfolding IsStrictlySortedBy
    one-part [] back key sorted = omega arith
    one-part (a ∷ front) back key sorted = by_first (is_eq (cmp a key)) refl (one-part front back key sorted.1)
      where
        by_first : (b : Bool) → is_eq (cmp a key) ≡ b
            → times (is_among cmp (front ++ back) key) ≡ times (is_among cmp front key) + times (is_among cmp back key)
            → times (b || is_among cmp (front ++ back) key) ≡ times (b || is_among cmp front key) + times (is_among cmp back key)
        by_first true is rest =
            let none : times (is_among cmp (front ++ back) key) ≡ 0 = ap times (later-none a key (front ++ back) (is-equal (cmp a key) is) sorted.0) in
            omega (arith, none, rest)
        by_first false is rest = rest

-- both halves of two places and more are shorter
pub half-less : (n h m : ℕ) → h ≡ n / 2 → m + n / 2 ≡ n → (n ≡ 0 → ⊥) → (n ≡ 1 → ⊥) → (h < n) × (m < n)
half-less n h m is whole some more = (omega (arith, is, whole, some, more), omega (arith, is, whole, some, more))

pub fore-sorted : (places front back : List RowPlace) → places ≡ front ++ back → IsStrictlySortedBy place_cmp places → IsStrictlySortedBy place_cmp front
fore-sorted places front back whole sorted = sorted-fore place_cmp front back (subst (IsStrictlySortedBy place_cmp) whole sorted)

pub rest-sorted : (places front back : List RowPlace) → places ≡ front ++ back → IsStrictlySortedBy place_cmp places → IsStrictlySortedBy place_cmp back
rest-sorted places front back whole sorted = sorted-rest place_cmp front back (subst (IsStrictlySortedBy place_cmp) whole sorted)

pub touched-sorted : (places : List RowPlace) (rows found : List Row) → rises row_cmp rows ≡ true → found ≡ touched_rows places rows
    → IsStrictlySortedBy row_cmp found
touched-sorted places rows found rise is =
    subst (IsStrictlySortedBy row_cmp) (sym is)
    (IsStrictlySortedBy-filter row_cmp (λ row. is_among place_cmp places (place_of row)) rows (sorted_from_rises row_cmp row_total rows rise))

-- the rows of both parts, brought into their order, are those of all places
pub parts-there : (places front back : List RowPlace) (rows first more found : List Row) → rises row_cmp rows ≡ true
    → IsStrictlySortedBy place_cmp places → places ≡ front ++ back → first ≡ touched_rows front rows → more ≡ touched_rows back rows
    → found ≡ ascending row_cmp (first ++ more) → found ≡ touched_rows places rows
parts-there places front back rows first more found rise sorted whole one other is =
    let order = subst (IsStrictlySortedBy place_cmp) whole sorted in
    is ∙ (λ i. ascending row_cmp (one i ++ other i))
    ∙ ascending-parts row_cmp row_total (λ row. is_among place_cmp front (place_of row)) (λ row. is_among place_cmp back (place_of row))
    (λ row. is_among place_cmp (front ++ back) (place_of row)) rows (sorted_from_rises row_cmp row_total rows rise)
    (each (λ (row : Row). times (is_among place_cmp (front ++ back) (place_of row))
    ≡ times (is_among place_cmp front (place_of row)) + times (is_among place_cmp back (place_of row))) rows
    (λ row. one-part place_cmp place_total front back (place_of row) order))
    ∙ ap (λ ps. touched_rows ps rows) (sym whole)

-- ---- the touched rows of a store are those of one

none-filter : {X : Type 0} (t p : X → Bool) (xs : List X) → not (list_any t xs) ≡ true → not (list_any t (filter p xs)) ≡ true
none-filter t p [] none = refl
none-filter t p (x ∷ xs) none = by_tests (t x) (p x) refl none (none-filter t p xs)
  where
    by_tests : (a b : Bool) → t x ≡ a → not (a || list_any t xs) ≡ true → (not (list_any t xs) ≡ true → not (list_any t (filter p xs)) ≡ true)
        → not (list_any t (cond b (x ∷ filter p xs) (filter p xs))) ≡ true
    by_tests true b is left rest = absurd (cc)
    by_tests false true is left rest = ap (λ c. not (c || list_any t (filter p xs))) is ∙ rest left
    by_tests false false is left rest = rest left

differ-filter : {X : Type 0} (like : X → X → Bool) (p : X → Bool) (xs : List X) → all_differ like xs ≡ true → all_differ like (filter p xs) ≡ true
differ-filter like p [] all = refl
differ-filter like p (x ∷ xs) all =
    let parts = and_parts (not (list_any (like x) xs)) (all_differ like xs) all in
    by_test (p x) parts.0 (differ-filter like p xs parts.1)
  where
    by_test : (b : Bool) → not (list_any (like x) xs) ≡ true → all_differ like (filter p xs) ≡ true
        → all_differ like (cond b (x ∷ filter p xs) (filter p xs)) ≡ true
    by_test true none rest = and_from (not (list_any (like x) (filter p xs))) (all_differ like (filter p xs)) (none-filter (like x) p xs none) rest
    by_test false none rest = rest

rises-sorted : {X : Type 0} (cmp : X → X → Ordering) (xs : List X) → IsStrictlySortedBy cmp xs → rises cmp xs ≡ true
unfolding IsStrictlySortedBy
rises-sorted cmp [] s = refl
rises-sorted cmp (x ∷ []) s = refl
rises-sorted cmp (x ∷ y ∷ ys) s = and_from (is_lt (cmp x y)) (rises_from cmp y ys) (ap is_lt s.0.0) (rises-sorted cmp (y ∷ ys) s.1)

rows-alone : (rows : List Row) → is_short rows ≡ true → rises row_cmp rows ≡ true → all_differ same_place rows ≡ true → is_store rows [] [] [] ≡ true
unfolding is_store
rows-alone rows short rise own =
    and_from _ _ short (and_from _ _ refl (and_from _ _ refl (and_from _ _ rise (and_from _ _ refl (and_from _ _ refl (and_from _ _ refl (and_from _ _ refl
    (and_from _ _ refl own))))))))

pub touched-store : (places : List RowPlace) (rows found : List Row) (events : List EventRow) (regs : List RegRow) (years : List ℤ)
    → is_store rows events regs years ≡ true → found ≡ touched_rows places rows → is_store found [] [] [] ≡ true
touched-store places rows found events regs years store is =
    let holds : Holds rows events regs years = store-holds rows events regs years store in
    let t : Row → Bool = λ row. is_among place_cmp places (place_of row) in
    let few = leb-true (length rows) 4194304 holds.few_rows in
    let less = filter-shorter t rows in
    ap (λ list. is_store list [] [] []) is
    ∙ rows-alone (touched_rows places rows) (le-leb (length (touched_rows places rows)) 4194304 (omega (arith, few, less)))
    (rises-sorted row_cmp (touched_rows places rows) (IsStrictlySortedBy-filter row_cmp t rows (sorted_from_rises row_cmp row_total rows holds.rows_rise)))
    (differ-filter same_place t rows holds.own_places)

-- ---- what the touched rows leave of a sum

one-of-both : (t p : Bool) → times p ≡ times (not t && p) + times (t && p)
one-of-both true true = refl
one-of-both true false = refl
one-of-both false true = refl
one-of-both false false = refl

module _ (places : List RowPlace) (g : Group) (need : Need) (from to : ℕ) (rows : List Row) where
  -- a sum is that of the untouched rows and that of the touched ones
  pub both-summed : joined (sum_of_rows (wanted_rows g need from to (untouched_rows places rows)))
      (sum_of_rows (wanted_rows g need from to (touched_rows places rows))) ≡ sum_of_rows (wanted_rows g need from to rows)
  unfolding sum_of_rows
  both-summed =
      let t : Row → Bool = λ row. is_among place_cmp places (place_of row) in
      let p = is_wanted g need from to in
      sym (sum_over-split sum_of_row p (λ row. not (t row) && p row) (λ row. t row && p row) rows
      (λ k d within. one-of-both (t (get_or rows k d)) (p (get_or rows k d)))
      ∙ (λ i. joined (sum_over sum_of_row (sym (filter-both p (λ row. not (t row)) rows) i)) (sum_over sum_of_row (sym (filter-both p t rows) i))))

  module _ (all part : Sum) (touched : List Row) (of_all : all ≡ sum_of_rows (wanted_rows g need from to rows)) (is : touched ≡ touched_rows places rows)
      (of_part : part ≡ sum_of_rows (wanted_rows g need from to touched)) where
    part-is : part ≡ sum_of_rows (wanted_rows g need from to (touched_rows places rows))
    part-is = of_part ∙ ap (λ list. sum_of_rows (wanted_rows g need from to list)) is

    made-of : joined (sum_of_rows (wanted_rows g need from to (untouched_rows places rows))) part ≡ all
    made-of = ap (joined (sum_of_rows (wanted_rows g need from to (untouched_rows places rows)))) part-is ∙ both-summed ∙ sym of_all

    pub part-counts : part.count ≤ all.count
    part-counts = let e = ap (λ (s : Sum). s.count) made-of in omega (arith, e)

    pub part-plain : part.plain ≤ all.plain
    part-plain = let e = ap (λ (s : Sum). s.plain) made-of in omega (arith, e)

    pub left-summed : (left : Sum) → joined left part ≡ all → left ≡ sum_of_rows (wanted_rows g need from to (untouched_rows places rows))
    left-summed left leaves =
        let kept = sum_of_rows (wanted_rows g need from to (untouched_rows places rows)) in
        let same = leaves ∙ sym made-of in
        let micros : left.micros ≡ kept.micros = (let e = ap (λ (s : Sum). s.micros) same in omega (arith, ints, e)) in
        let count : left.count ≡ kept.count = (let e = ap (λ (s : Sum). s.count) same in omega (arith, e)) in
        let plain : left.plain ≡ kept.plain = (let e = ap (λ (s : Sum). s.plain) same in omega (arith, e)) in
        λ i. sum_with (micros i) (count i) (plain i)

-- ---- groups

less-counted : (u r b : ℕ) → u + r ≡ b → nat_lt r b ≡ nat_lt 0 u
less-counted u r b e = grind (arith, nat_tests, e)

-- a group keeps a row where fewer of its rows are touched than it has
pub kept-left : (places : List RowPlace) (g : Group) (rows touched : List Row) (n m : ℕ) → list_all is_in_reach rows ≡ true
    → touched ≡ touched_rows places rows → n ≡ (sum_of_rows (wanted_rows g need.All 0 4294967295 touched)).count
    → m ≡ (sum_of_rows (wanted_rows g need.All 0 4294967295 rows)).count
    → nat_lt n m ≡ list_any (is_in_group g) (untouched_rows places rows)
kept-left places g rows touched n m reach is of_touched of_rows =
    let kept = sum_of_rows (wanted_rows g need.All 0 4294967295 (untouched_rows places rows)) in
    let whole : kept.count + n ≡ m =
    ap (λ k. kept.count + k) (of_touched ∙ ap (λ list. (sum_of_rows (wanted_rows g need.All 0 4294967295 list)).count) is)
    ∙ ap (λ (s : Sum). s.count) (both-summed places g need.All 0 4294967295 rows) ∙ sym of_rows in
    less-counted kept.count n m whole ∙ kept-counted places g rows kept.count reach refl

own-place : (g : Group) (row : Row) → is_in_group g row ≡ true → place_of row ≡ place_at g row.order
own-place g row is = let group = same_group-true (group_of row) g is in λ i. place_at (group i) row.order

-- where none of a group's keys is touched, its rows stay
pub clear-kept : (places : List RowPlace) (g : Group) (rows : List Row) → list_any (is_in_group g) rows ≡ true
    → ((order : ℕ) → is_among place_cmp places (place_at g order) ≡ false) → true ≡ list_any (is_in_group g) (untouched_rows places rows)
clear-kept places g rows some clear =
    sym (any-filter_same (is_in_group g) (λ row. not (is_among place_cmp places (place_of row))) true
    (λ row is. ap (λ p. not (is_among place_cmp places p)) (own-place g row is) ∙ ap not (clear row.order)) rows ∙ some)

module _ (places : List RowPlace) (g : Group) (at : ℕ) (sorted : IsStrictlySortedBy place_cmp places) (cut : IsCutAt place_cmp (place_at g 0) places at)
    (other : (d : RowPlace) → at < length places → same_group (get_or places at d).group g ≡ false) where
  -- a place that isn't before the group's first order, and of another group, is after all of the group
  beyond : (p : RowPlace) (order : ℕ) → is_lt (place_cmp p (place_at g 0)) ≡ false → same_group p.group g ≡ false → place_cmp p (place_at g order) ≡ Less → ⊥
  beyond p order upto apart less = by_group (group_cmp p.group g) refl upto less
    where
      by_group : (o : Ordering) → group_cmp p.group g ≡ o → is_lt (ordering_then o (nat_cmp p.order 0)) ≡ false
          → ordering_then o (nat_cmp p.order order) ≡ Less → ⊥
      by_group Less is a b = false≢true (sym a)
      by_group Equal is a b = false≢true (sym apart ∙ group_ties p.group g ∙ ap is_eq is)
      by_group Greater is a b = (cc)

  not-there : (k order : ℕ) (d : RowPlace) → k < length places → get_or places k d ≡ place_at g order → ⊥
  not-there k order d within is =
      elim (cases_lt k at) [
        | inl before ↦
            let less : nat_cmp order 0 ≡ Less = sym (in-group g order 0) ∙ ap (λ p. place_cmp p (place_at g 0)) (sym is) ∙ cut.before k d before in
            let lower = below-is order 0 less in
            absurd (omega (arith, lower))
        | inr upto ↦ elim (cases_lt at k) [
          | inl later ↦
              let far = sorted-far place_cmp places at k d d sorted later within in
              beyond (get_or places at d) order (cut.after at d (omega arith) (omega (arith, later, within))) (other d (omega (arith, later, within)))
              (sym (ap (place_cmp (get_or places at d)) is) ∙ far)
          | inr not ↦
              let same : at ≡ k = omega (arith, upto, not) in
              let here : get_or places at d ≡ place_at g order = ap (λ n. get_or places n d) same ∙ is in
              false≢true (sym (other d (omega (arith, same, within))) ∙ ap (λ (p : RowPlace). same_group p.group g) here ∙ same_group-self g)
        ]
      ]

  pub group-clear : (order : ℕ) → is_among place_cmp places (place_at g order) ≡ false
  group-clear order =
      list_any_none (λ k. is_eq (place_cmp k (place_at g order))) places (λ k d within.
      elim (cases_Bool (is_eq (place_cmp (get_or places k d) (place_at g order)))) [
        | inl same ↦ absurd (not-there k order d within (same-place (get_or places k d) (place_at g order) same))
        | inr apart ↦ apart
      ])

pub other-there : (places : List RowPlace) (at : ℕ) (e : RowPlace) (g : Group) → same_group (get_or places at e).group g ≡ false
    → (d : RowPlace) → at < length places → same_group (get_or places at d).group g ≡ false
other-there places at e g apart d within = ap (λ (p : RowPlace). same_group p.group g) (get_or_default places at d e within) ∙ apart

-- each group of an element has a row
has-each : (P : Group → Type 0) (groups : List Group) → ((g : Group) → has groups g ≡ true → P g) → AllByRecursion P groups
has-each P [] to = tt
has-each P (g ∷ gs) to =
    (to g (ap (λ b. b || has gs g) (same_group-self g)), has-each P gs (λ h is. to h (later h (same_group h g) is)))
  where
    later : (h : Group) (b : Bool) → has gs h ≡ true → (b || has gs h) ≡ true
    later h true is = refl
    later h false is = is

pub groups-some : (element : ℕ) (rows : List Row) (groups : List Group) → groups ≡ groups_of element rows
    → All (λ g. list_any (is_in_group g) rows ≡ true) groups
groups-some element rows groups is =
    subst (All (λ g. list_any (is_in_group g) rows ≡ true)) (sym is)
    (All-from_recursion (λ g. list_any (is_in_group g) rows ≡ true) (groups_of element rows)
    (has-each (λ g. list_any (is_in_group g) rows ≡ true) (groups_of element rows)
    (λ g there. (and_parts (nat_eq g.element element) (list_any (is_in_group g) rows) (sym (group-has element g rows) ∙ there)).1)))
