-- The touched keys of a group in a range of orders, and the ranges between them.
use Rattle.std.proofs.Common.{◌≡◌, ◌∙◌, ℕ, ◌+◌, ◌<◌, ◌≤◌, Bool, true, false, not, ◌&&◌, cond}
use Rattle.std.proofs.Common.{List, [], ◌∷◌, length, get_or, inl, inr, refl, sym, ap, subst, arith}
use Rattle.std.proofs.Common.{suc, ℤ, Option, Some, None, Ordering, Less, Equal, Greater}
use Rattle.std.specs.Prelude.{nat_le, nat_lt}
use Rattle.std.specs.Cmp.{tied_then, unsigned_tied, tied_itself, ranked}
use Rattle.std.specs.List.{filter}
use Rattle.std.specs.List.Sorted.{IsStrictlySortedBy}
use Rattle.std.specs.Ordering.{nat_cmp, is_eq, is_lt, ordering_then}
use Rattle.std.proofs.lemmas.Bool.{cases_Bool, cases_lt, false≢true, and_parts, eqb-true}
use Rattle.std.proofs.lemmas.Bool.Decides.{nat_tests}
use Rattle.std.proofs.lemmas.List.{get_or_default}
use Rattle.std.proofs.lemmas.List.Folds.{list_any_at, list_any_none}
use Rattle.dh_base.specs.declared.plain.Need.{Need}
use Rattle.table_rows.specs.declared.row.Row.{Row}
use Rattle.table_rows.specs.declared.row.Group.{Group}
use Rattle.table_rows.specs.declared.sum.Sum.{Sum}
use Rattle.table_rows.specs.Cells.{times}
use Rattle.table_rows.specs.Order.{group_cmp}
use Rattle.table_rows.specs.Rows.{group_of, is_in_group, meets, in_range, is_wanted, wanted_rows}
use Rattle.table_rows.specs.Sums.{joined, no_sum, sum_over, sum_of_number, sum_of_row, sum_of_rows, IsSized}
use Rattle.table_rows.proofs.CellLemmas.{filter-same, filter-never}
use Rattle.table_rows.proofs.OrderLemmas.{group_ties, same_group-true, group_cmp-self}
use Rattle.table_rows.proofs.RiseLemmas.{sorted-far}
use Rattle.table_rows.proofs.SumLemmas.{joined-none}
use Rattle.table_rows.proofs.SplitLemmas.{sum_over-split}
use Rattle.table_latest.specs.declared.places.RowPlace.{RowPlace}
use Rattle.table_latest.specs.Keys.{place_at, place_of, place_cmp, is_among, IsCutAt}
use Rattle.table_latest.specs.Latest.{untouched_rows}
use Rattle.table_latest.proofs.SearchLemmas.{place_total}

-- ---- places

same_orders : (a b : ℕ) → is_eq (nat_cmp a b) ≡ true → a ≡ b
same_orders a b e = eqb-true a b (sym (unsigned_tied a b) ∙ e)

-- places that compare as equal are one
pub same-place : (a b : RowPlace) → is_eq (place_cmp a b) ≡ true → a ≡ b
same-place a b e =
    let parts = and_parts (is_eq (group_cmp a.group b.group)) (is_eq (nat_cmp a.order b.order)) (tied_then (group_cmp a.group b.group)
    (nat_cmp a.order b.order) ∙ e) in
    let groups = same_group-true a.group b.group (group_ties a.group b.group ∙ parts.0) in
    let orders = same_orders a.order b.order parts.1 in
    λ i. place_at (groups i) (orders i)

-- in one group places are ordered by their orders
pub in-group : (g : Group) (a b : ℕ) → place_cmp (place_at g a) (place_at g b) ≡ nat_cmp a b
in-group g a b = ap (λ o. ordering_then o (nat_cmp a b)) (group_cmp-self g)

pub below-is : (a b : ℕ) → nat_cmp a b ≡ Less → a < b
below-is a b e = ranked a b Less (sym e)

less-cmp : (a b : ℕ) → a < b → nat_cmp a b ≡ Less
less-cmp a b less = by_order (nat_cmp a b) refl
  where
    by_order : (o : Ordering) → nat_cmp a b ≡ o → o ≡ Less
    by_order Less is = refl
    by_order Equal is = absurd (let same : a ≡ b = ranked a b Equal (sym is) in omega (arith, same, less))
    by_order Greater is = absurd (let over : b < a = ranked a b Greater (sym is) in omega (arith, over, less))

not-below : (a b : ℕ) → is_lt (nat_cmp a b) ≡ false → b ≤ a
not-below a b e =
    elim (cases_lt a b) [
      | inl less ↦ absurd (false≢true (sym e ∙ ap is_lt (less-cmp a b less)))
      | inr upto ↦ upto
    ]

-- a place from the group's first order on and before another one is of the group
in-span : (g : Group) (p : RowPlace) (from to : ℕ) → is_lt (place_cmp p (place_at g from)) ≡ false → place_cmp p (place_at g to) ≡ Less
    → (p.group ≡ g) × (from ≤ p.order) × (p.order < to)
in-span g p from to low high = by_group (group_cmp p.group g) refl low high
  where
    by_group : (o : Ordering) → group_cmp p.group g ≡ o → is_lt (ordering_then o (nat_cmp p.order from)) ≡ false
        → ordering_then o (nat_cmp p.order to) ≡ Less
        → (p.group ≡ g) × (from ≤ p.order) × (p.order < to)
    by_group Less is a b = absurd (false≢true (sym a))
    by_group Equal is a b =
        (same_group-true p.group g (group_ties p.group g ∙ ap is_eq is), not-below p.order from a, below-is p.order to b)
    by_group Greater is a b = absurd (cc)

-- the places from `low` up to below `high` are those of the group in the range
pub record IsSpan (places : List RowPlace) (g : Group) (from to low high : ℕ) : Type 0 where
  pub sorted : IsStrictlySortedBy place_cmp places
  pub starts : IsCutAt place_cmp (place_at g from) places low
  pub ends : IsCutAt place_cmp (place_at g to) places high

module _ (places : List RowPlace) (from to low high : ℕ) where
  -- the places before the i-th are of lower orders than `next`, and the others are not
  pub record IsAt (i next : ℕ) : Type 0 where
    pub below : (k : ℕ) (d : RowPlace) → low ≤ k → k < i → (get_or places k d).order < next
    pub above : (k : ℕ) (d : RowPlace) → i ≤ k → low ≤ k → k < high → next ≤ (get_or places k d).order
    pub begun : from ≤ next
    pub within : next ≤ to

module _ (places : List RowPlace) (g : Group) (from to low high : ℕ) (span : IsSpan places g from to low high) where
  pub span-at : (k : ℕ) (d : RowPlace) → low ≤ k → k < high → ((get_or places k d).group ≡ g) × (from ≤ (get_or places k d).order) ×
      ((get_or places k d).order < to)
  span-at k d begun less =
      in-span g (get_or places k d) from to (span.starts.after k d begun (let short = span.ends.within in omega (arith, short, less)))
      (span.ends.before k d less)

  -- no place of the group is of an order from `next` up to below `order`
  abbrev pub IsClear : ℕ → ℕ → Type 0
  IsClear next order = (r : ℕ) → next ≤ r → r < order → is_among place_cmp places (place_at g r) ≡ false

  pub at-begins : from < to → IsAt places from to low high low from
  at-begins range =
      record {
        below = λ k d upto less. absurd (omega (arith, upto, less));
        above = λ k d upto again less. (span-at k d upto less).1;
        begun = omega arith;
        within = omega (arith, range);
      }

  -- where a place stands as one of the group
  there : (r k : ℕ) (d : RowPlace) → is_eq (place_cmp (get_or places k d) (place_at g r)) ≡ true → get_or places k d ≡ place_at g r
  there r k d e = same-place (get_or places k d) (place_at g r) e

  clear-at : (i next order : ℕ) → IsAt places from to low high i next → ((k : ℕ) (d : RowPlace) → i ≤ k → low ≤ k → k < high
      → order ≤ (get_or places k d).order) → order ≤ to
      → IsClear next order
  clear-at i next order at over upto r begun less =
      list_any_none (λ k. is_eq (place_cmp k (place_at g r))) places (λ k d within.
      elim (cases_Bool (is_eq (place_cmp (get_or places k d) (place_at g r)))) [
        | inl same ↦
            let is = there r k d same in
            let own : (get_or places k d).order ≡ r = ap (λ (p : RowPlace). p.order) is in
            absurd (elim (cases_lt k low) [
              | inl before ↦
                  let under : nat_cmp r from ≡ Less = sym (in-group g r from) ∙ ap (λ p. place_cmp p (place_at g from)) (sym is)
                  ∙ span.starts.before k d before in
                  let lower = below-is r from under in
                  let first = at.begun in
                  omega (arith, lower, first, begun)
              | inr started ↦ elim (cases_lt k high) [
                | inl inside ↦ elim (cases_lt k i) [
                  | inl passed ↦
                      let lower = at.below k d started passed in
                      omega (arith, lower, own, begun)
                  | inr ahead ↦
                      let higher = over k d ahead started inside in
                      omega (arith, higher, own, less)
                ]
                | inr past ↦
                    let after : is_lt (nat_cmp r to) ≡ false = ap is_lt (sym (in-group g r to) ∙ ap (λ p. place_cmp p (place_at g to)) (sym is))
                    ∙ span.ends.after k d past within in
                    let higher = not-below r to after in
                    omega (arith, higher, less, upto)
              ]
            ])
        | inr other ↦ other
      ])

  pub clear-before : (i next : ℕ) (place : RowPlace) → low ≤ i → i < high → place ≡ get_or places i place → IsAt places from to low high i next
      → IsClear next place.order
  clear-before i next place started inside is at =
      let own = span-at i place started inside in
      let order : place.order ≡ (get_or places i place).order = ap (λ (p : RowPlace). p.order) is in
      clear-at i next place.order at
      (λ k d ahead begun short.
      elim (cases_lt i k) [
        | inl less ↦
            let far : place_cmp (get_or places i place) (get_or places k d) ≡ Less = sorted-far place_cmp places i k place d span.sorted less
            (let room = span.ends.within in omega (arith, room, short)) in
            let later = span-at k d begun short in
            let orders : nat_cmp (get_or places i place).order (get_or places k d).order ≡ Less =
            sym (in-group g (get_or places i place).order (get_or places k d).order)
            ∙ (λ j. place_cmp (place_at (sym own.0 j) (get_or places i place).order) (place_at (sym later.0 j) (get_or places k d).order)) ∙ far in
            let higher = below-is (get_or places i place).order (get_or places k d).order orders in
            omega (arith, higher, order)
        | inr not ↦
            let same : i ≡ k = omega arith in
            let one : (get_or places i place).order ≡ (get_or places k d).order =
            ap (λ n. (get_or places n place).order) same ∙ ap (λ (p : RowPlace). p.order) (get_or_default places k place d
            (let room = span.ends.within in omega (arith, room, short))) in
            omega (arith, one, order)
      ])
      (let last = own.2 in omega (arith, last, order))

  pub clear-rest : (i next : ℕ) → high ≤ i → IsAt places from to low high i next → IsClear next to
  clear-rest i next past at = clear-at i next to at (λ k d ahead begun short. absurd (omega (arith, past, ahead, short))) (omega arith)

  pub at-more : (i next : ℕ) (place : RowPlace) → low ≤ i → i < high → place ≡ get_or places i place → IsAt places from to low high i next
      → IsAt places from to low high (i + 1) (place.order + 1)
  at-more i next place started inside is at =
      let own = span-at i place started inside in
      let order : place.order ≡ (get_or places i place).order = ap (λ (p : RowPlace). p.order) is in
      record {
        below = λ k d begun less.
            elim (cases_lt k i) [
              | inl passed ↦
                  let lower = at.below k d begun passed in
                  let here = at.above i place (omega arith) started inside in
                  omega (arith, lower, here, order)
              | inr not ↦
                  let same : k ≡ i = omega (arith, not, less) in
                  let one : (get_or places k d).order ≡ (get_or places i place).order =
                  ap (λ (p : RowPlace). p.order) (get_or_default places k d place (let room = span.ends.within in omega (arith, room, same, inside)))
                  ∙ ap (λ n. (get_or places n place).order) same in
                  omega (arith, one, order)
            ];
        above = λ k d ahead begun short.
            let far : place_cmp (get_or places i place) (get_or places k d) ≡ Less = sorted-far place_cmp places i k place d span.sorted (omega (arith, ahead))
            (let room = span.ends.within in omega (arith, room, short)) in
            let later = span-at k d begun short in
            let orders : nat_cmp (get_or places i place).order (get_or places k d).order ≡ Less =
            sym (in-group g (get_or places i place).order (get_or places k d).order)
            ∙ (λ j. place_cmp (place_at (sym own.0 j) (get_or places i place).order) (place_at (sym later.0 j) (get_or places k d).order)) ∙ far in
            let higher = below-is (get_or places i place).order (get_or places k d).order orders in
            omega (arith, higher, order);
        begun = (let low_end = own.1 in omega (arith, low_end, order));
        within = (let last = own.2 in omega (arith, last, order));
      }

  pub touched-at : (i : ℕ) (place : RowPlace) → low ≤ i → i < high → place ≡ get_or places i place → is_among place_cmp places (place_at g place.order) ≡ true
  touched-at i place started inside is =
      let own = span-at i place started inside in
      let group : place.group ≡ g = ap (λ (p : RowPlace). p.group) is ∙ own.0 in
      let whole : get_or places i place ≡ place_at g place.order = sym is ∙ (λ j. place_at (group j) place.order) in
      list_any_at (λ k. is_eq (place_cmp k (place_at g place.order))) places i place (let room = span.ends.within in omega (arith, room, inside))
      (ap (λ p. is_eq (place_cmp p (place_at g place.order))) whole ∙ ap is_eq (tied_itself place_total (place_at g place.order)))

-- ---- sums

pub filter-both : {X : Type 0} (p q : X → Bool) (xs : List X) → filter p (filter q xs) ≡ filter (λ x. q x && p x) xs
filter-both p q [] = refl
filter-both p q (x ∷ xs) = by_test (q x) (filter-both p q xs)
  where
    by_test : (b : Bool) → filter p (filter q xs) ≡ filter (λ x. q x && p x) xs
        → filter p (cond b (x ∷ filter q xs) (filter q xs)) ≡ cond (b && p x) (x ∷ filter (λ x. q x && p x) xs) (filter (λ x. q x && p x) xs)
    by_test true rest = ap (λ ys. cond (p x) (x ∷ ys) ys) rest
    by_test false rest = rest

-- an order is in a range, and of those in the range the untouched ones

range_split : (u : Bool) (from next to r : ℕ) → from ≤ next → next ≤ to → (next ≤ r → r < to → u ≡ true)
    → times (u && (nat_le from r && nat_lt r to)) ≡ times (u && (nat_le from r && nat_lt r next)) + times (nat_le next r && nat_lt r to)
range_split true from next to r begun upto clear = grind (arith, nat_tests)
range_split false from next to r begun upto clear =
    elim (cases_lt r next) [
      | inl less ↦ grind (arith, nat_tests, less)
      | inr not ↦ elim (cases_lt r to) [
        | inl inside ↦ absurd (false≢true (clear not inside))
        | inr past ↦ grind (arith, nat_tests, past)
      ]
    ]

range_longer : (u : Bool) (from order r : ℕ) → (r ≡ order → u ≡ false)
    → (u && (nat_le from r && nat_lt r (order + 1))) ≡ (u && (nat_le from r && nat_lt r order))
range_longer true from order r touched =
    elim (cases_lt r order) [
      | inl less ↦ grind (arith, nat_tests, less)
      | inr not ↦ elim (cases_lt order r) [
        | inl past ↦ grind (arith, nat_tests, past)
        | inr upto ↦ absurd (false≢true (sym (touched (omega (arith, not, upto)))))
      ]
    ]
range_longer false from order r touched = refl

module _ (places : List RowPlace) (g : Group) (need : Need) where
  abbrev is_clear : Row → Bool
  is_clear row = not (is_among place_cmp places (place_of row))

  row-place : (row : Row) → is_in_group g row ≡ true → place_of row ≡ place_at g row.order
  row-place row is = let group = same_group-true (group_of row) g is in λ i. place_at (group i) row.order

  -- a range, in two parts of which the second has no touched order
  split-rows : (from next to : ℕ) → from ≤ next → next ≤ to → ((r : ℕ) → next ≤ r → r < to → is_among place_cmp places (place_at g r) ≡ false) → (row : Row)
      → times (is_clear row && is_wanted g need from to row) ≡ times (is_clear row && is_wanted g need from next row) + times (is_wanted g need next to row)
  split-rows from next to begun upto clear row = by_tests (is_in_group g row) (meets need row.approved) refl
    where
      none : (b : Bool) → times (b && false) ≡ times (b && false) + 0
      none true = refl
      none false = refl

      by_tests : (a m : Bool) → is_in_group g row ≡ a
          → times (is_clear row && (a && (m && in_range from to row)))
          ≡ times (is_clear row && (a && (m && in_range from next row))) + times (a && (m && in_range next to row))
      by_tests true true is =
          range_split (is_clear row) from next to row.order begun upto
          (λ later less. ap (λ p. not (is_among place_cmp places p)) (row-place row is) ∙ ap not (clear row.order later less))
      by_tests true false is = none (is_clear row)
      by_tests false m is = none (is_clear row)

  longer-rows : (from order : ℕ) → is_among place_cmp places (place_at g order) ≡ true → (row : Row)
      → (is_clear row && is_wanted g need from (order + 1) row) ≡ (is_clear row && is_wanted g need from order row)
  longer-rows from order touched row = by_tests (is_in_group g row) (meets need row.approved) refl
    where
      by_tests : (a m : Bool) → is_in_group g row ≡ a
          → (is_clear row && (a && (m && in_range from (order + 1) row))) ≡ (is_clear row && (a && (m && in_range from order row)))
      by_tests true true is =
          range_longer (is_clear row) from order row.order
          (λ same. ap (λ p. not (is_among place_cmp places p)) (row-place row is ∙ ap (place_at g) same) ∙ ap not touched)
      by_tests true false is = refl
      by_tests false m is = refl

  abbrev pub kept : ℕ → ℕ → List Row → Sum
  kept from to rows = sum_of_rows (wanted_rows g need from to (untouched_rows places rows))

  as-one : (from to : ℕ) (rows : List Row)
      → wanted_rows g need from to (untouched_rows places rows) ≡ filter (λ row. is_clear row && is_wanted g need from to row) rows
  as-one from to rows = filter-both (is_wanted g need from to) is_clear rows

  pub kept-more : (from next to : ℕ) (rows : List Row) → from ≤ next → next ≤ to
      → ((r : ℕ) → next ≤ r → r < to → is_among place_cmp places (place_at g r) ≡ false)
      → kept from to rows ≡ joined (kept from next rows) (sum_of_rows (wanted_rows g need next to rows))
  unfolding sum_of_rows
  kept-more from next to rows begun upto clear =
      ap (sum_over sum_of_row) (as-one from to rows)
      ∙ sum_over-split sum_of_row (λ row. is_clear row && is_wanted g need from to row) (λ row. is_clear row && is_wanted g need from next row)
      (is_wanted g need next to) rows (λ k d within. split-rows from next to begun upto clear (get_or rows k d))
      ∙ ap (λ v. joined (sum_over sum_of_row v) (sum_over sum_of_row (wanted_rows g need next to rows))) (sym (as-one from next rows))

  pub kept-longer : (from order : ℕ) (rows : List Row) → is_among place_cmp places (place_at g order) ≡ true → kept from (order + 1) rows ≡ kept from order rows
  kept-longer from order rows touched =
      ap sum_of_rows (as-one from (order + 1) rows
      ∙ filter-same (λ row. is_clear row && is_wanted g need from (order + 1) row) (λ row. is_clear row && is_wanted g need from order row) rows
      (longer-rows from order touched)
      ∙ sym (as-one from order rows))

-- ---- sizes

one_count : (micros : Option ℤ) (n : ℕ) → (sum_of_number micros).count + n ≡ suc n
one_count None n = omega arith
one_count (Some micros) n = omega arith

sum-length : (rows : List Row) → (sum_over sum_of_row rows).count ≡ length rows
sum-length [] = refl
sum-length (x ∷ xs) = ap (λ n. (sum_of_row x).count + n) (sum-length xs) ∙ one_count x.micros (length xs)

-- a sum counts its rows
pub rows-counted : (rows : List Row) → (sum_of_rows rows).count ≡ length rows
unfolding sum_of_rows
rows-counted rows = sum-length rows

pub filter-shorter : {X : Type 0} (p : X → Bool) (xs : List X) → length (filter p xs) ≤ length xs
filter-shorter p [] = omega arith
filter-shorter p (x ∷ xs) = by_test (p x) (filter-shorter p xs)
  where
    by_test : (b : Bool) → length (filter p xs) ≤ length xs → length (cond b (x ∷ filter p xs) (filter p xs)) ≤ suc (length xs)
    by_test true rest = omega (arith, rest)
    by_test false rest = omega (arith, rest)

pub wanted-few : (g : Group) (need : Need) (from to n : ℕ) (rows : List Row) → length rows ≤ n → (sum_of_rows (wanted_rows g need from to rows)).count ≤ n
wanted-few g need from to n rows few =
    let counted = rows-counted (wanted_rows g need from to rows) in
    let shorter = filter-shorter (is_wanted g need from to) rows in
    omega (arith, counted, shorter, few)

past_end : (a b : Bool) (from to r : ℕ) → to ≤ from → (a && (b && (nat_le from r && nat_lt r to))) ≡ false
past_end true true from to r upto = grind (arith, nat_tests)
past_end true false from to r upto = refl
past_end false b from to r upto = refl

pub none-wanted : (g : Group) (need : Need) (from to : ℕ) (rows : List Row) → to ≤ from → wanted_rows g need from to rows ≡ []
none-wanted g need from to rows upto =
    filter-never (is_wanted g need from to) rows (λ row. past_end (is_in_group g row) (meets need row.approved) from to row.order upto)

pub none-summed : (g : Group) (need : Need) (from to : ℕ) (rows : List Row) → to ≤ from → sum_of_rows (wanted_rows g need from to rows) ≡ no_sum
unfolding sum_of_rows
none-summed g need from to rows upto = ap (sum_over sum_of_row) (none-wanted g need from to rows upto)

-- an empty range adds nothing
pub nothing-more : (g : Group) (need : Need) (from to : ℕ) (rows : List Row) (sum : Sum) → to ≤ from
    → sum ≡ joined sum (sum_of_rows (wanted_rows g need from to rows))
nothing-more g need from to rows sum upto = sym (ap (joined sum) (none-summed g need from to rows upto) ∙ joined-none sum)

pub none-sized : (sum : Sum) → sum ≡ no_sum → IsSized sum
none-sized sum none = subst IsSized (sym none) (record { micros = omega arith; plain = omega arith; count = omega arith })

-- ---- steps of the loop over the touched places

module _ (places : List RowPlace) (g : Group) (from to low high : ℕ) (span : IsSpan places g from to low high) (need : Need) (rows : List Row) where
  place-is : (i : ℕ) (d : RowPlace) → i < high → get_or places i d ≡ get_or places i (get_or places i d)
  place-is i d inside = get_or_default places i d (get_or places i d) (let room = span.ends.within in omega (arith, room, inside))

  upto-place : (i next : ℕ) (d : RowPlace) → low ≤ i → i < high → IsAt places from to low high i next
      → kept places g need from (get_or places i d).order rows
      ≡ joined (kept places g need from next rows) (sum_of_rows (wanted_rows g need next (get_or places i d).order rows))
  upto-place i next d started inside at =
      kept-more places g need from next (get_or places i d).order rows at.begun (at.above i d (omega arith) started inside)
      (clear-before places g from to low high span i next (get_or places i d) started inside (place-is i d inside) at)

  sum-within : (n : ℕ) (to : ℕ) (sum : Sum) → length (untouched_rows places rows) ≤ n → sum ≡ kept places g need from to rows → sum.count ≤ n
  sum-within n to sum few is =
      let counted : sum.count ≡ (kept places g need from to rows).count = ap (λ (s : Sum). s.count) is in
      let within = wanted-few g need from to n (untouched_rows places rows) few in
      omega (arith, counted, within)

  pub step-few : (n i next : ℕ) (d : RowPlace) (sum : Sum) → low ≤ i → i < high → IsAt places from to low high i next → length (untouched_rows places rows) ≤ n
      → sum ≡ kept places g need from next rows → (joined sum (sum_of_rows (wanted_rows g need next (get_or places i d).order rows))).count ≤ n
  step-few n i next d sum started inside at few is =
      sum-within n (get_or places i d).order (joined sum (sum_of_rows (wanted_rows g need next (get_or places i d).order rows))) few
      (ap (λ s. joined s (sum_of_rows (wanted_rows g need next (get_or places i d).order rows))) is ∙ sym (upto-place i next d started inside at))

  pub step-fits : (i : ℕ) (d : RowPlace) → low ≤ i → i < high → (get_or places i d).order + 1 ≤ to
  step-fits i d started inside = let last = (span-at places g from to low high span i d started inside).2 in omega (arith, last)

  pub step-at : (i next : ℕ) (d : RowPlace) → low ≤ i → i < high → IsAt places from to low high i next
      → IsAt places from to low high (i + 1) ((get_or places i d).order + 1)
  step-at i next d started inside at = at-more places g from to low high span i next (get_or places i d) started inside (place-is i d inside) at

  pub step-sum : (i next : ℕ) (d : RowPlace) (sum new : Sum) → low ≤ i → i < high → IsAt places from to low high i next
      → sum ≡ kept places g need from next rows
      → new ≡ joined sum (sum_of_rows (wanted_rows g need next (get_or places i d).order rows))
      → new ≡ kept places g need from ((get_or places i d).order + 1) rows
  step-sum i next d sum new started inside at before is =
      is ∙ ap (λ s. joined s (sum_of_rows (wanted_rows g need next (get_or places i d).order rows))) before
      ∙ sym (upto-place i next d started inside at)
      ∙ sym (kept-longer places g need from (get_or places i d).order rows
      (touched-at places g from to low high span i (get_or places i d) started inside (place-is i d inside)))

  upto-end : (i next : ℕ) → high ≤ i → IsAt places from to low high i next
      → kept places g need from to rows ≡ joined (kept places g need from next rows) (sum_of_rows (wanted_rows g need next to rows))
  upto-end i next past at = kept-more places g need from next to rows at.begun at.within (clear-rest places g from to low high span i next past at)

  pub end-few : (n i next : ℕ) (sum : Sum) → high ≤ i → IsAt places from to low high i next → length (untouched_rows places rows) ≤ n
      → sum ≡ kept places g need from next rows → (joined sum (sum_of_rows (wanted_rows g need next to rows))).count ≤ n
  end-few n i next sum past at few is =
      sum-within n to (joined sum (sum_of_rows (wanted_rows g need next to rows))) few
      (ap (λ s. joined s (sum_of_rows (wanted_rows g need next to rows))) is ∙ sym (upto-end i next past at))

  pub end-sum : (i next : ℕ) (sum new : Sum) → high ≤ i → IsAt places from to low high i next → sum ≡ kept places g need from next rows
      → new ≡ joined sum (sum_of_rows (wanted_rows g need next to rows)) → new ≡ kept places g need from to rows
  end-sum i next sum new past at before is =
      is ∙ ap (λ s. joined s (sum_of_rows (wanted_rows g need next to rows))) before ∙ sym (upto-end i next past at)

  pub begins-sum : (sum : Sum) → sum ≡ no_sum → sum ≡ kept places g need from from rows
  begins-sum sum none = none ∙ sym (none-summed g need from from (untouched_rows places rows) (omega arith))
