-- The rows of a group in a range of orders, one approved position after the other.
use Rattle.std.proofs.Common.{◌≡◌, ◌∙◌, ℕ, zero, suc, ◌+◌, ◌*◌, ◌<◌, ◌≤◌, max, min, Bool, true, false, cond, ◌&&◌, ◌||◌, List, [], ◌∷◌, ◌++◌}
use Rattle.std.proofs.Common.{length, take, drop, get_or, Option, Some, None, inl, inr, refl, sym, ap, arith, Ordering, Less, Equal, Greater}
use Rattle.std.specs.Prelude.{All, nat_lt, nat_le, nat_eq}
use Rattle.std.specs.List.{filter, AllByRecursion}
use Rattle.std.specs.Ordering.{is_lt, is_eq, ordering_then, nat_cmp}
use Rattle.std.proofs.Math.Nat.{le_refl, mul-add, mul-le-mul_left}
use Rattle.std.proofs.lemmas.List.{append-nil, append_assoc, take_more, drop-append-le, length-take-le}
use Rattle.std.proofs.lemmas.Bool.{cases_Bool, false≢true, leb-true}
use Rattle.std.proofs.lemmas.Bool.Decides.{nat_tests}
use Rattle.std.proofs.lemmas.List.Elements.{recursion_from_All}
use Rattle.dh_base.specs.declared.plain.Need.{Need}
use Rattle.dh_base.specs.declared.plain.Need.TheVariants as need
use Rattle.table_rows.specs.declared.row.Row.{Row}
use Rattle.table_rows.specs.Rows.{group_of, position_of, is_in_group, in_range, meets, is_wanted, wanted_rows}
use Rattle.table_rows.specs.Order.{group_cmp}
use Rattle.table_rows.proofs.OrderLemmas.{group_ties, group_cmp-self, same_group-true}
use Rattle.table_rows.specs.declared.sum.Sum.{Sum}
use Rattle.table_rows.specs.Sums.{joined, no_sum, sum_over, sum_of_row, sum_of_rows}
use Rattle.table_rows.proofs.SumLemmas.{sum_over-append}
use Rattle.table_rows.proofs.CellLemmas.{filter-never}
use Rattle.table_sums.specs.declared.range.Part.{Part}
use Rattle.table_sums.specs.declared.search.Bound.TheVariants as bound
use Rattle.table_sums.specs.Bounds.{is_before, is_place_below as below}
use Rattle.table_sums.specs.Running.{is_placed, IsPlaced, ArePlaced}
use Rattle.table_sums.specs.Parts.{key_at, is_upto, AreEnough, IsRun}

-- ---- lists

-- q passes what p does, and besides just the members from `low` up to below `high`, after which neither passes any
pub record Passes {X : Type 0} (p q : X → Bool) (xs : List X) (low high : ℕ) : Type 0 where
  pub between : low ≤ high
  pub before : (k : ℕ) (d : X) → k < low → k < length xs → q (get_or xs k d) ≡ p (get_or xs k d)
  pub inside : (k : ℕ) (d : X) → low ≤ k → k < high → k < length xs → q (get_or xs k d) ≡ true
  pub past : (k : ℕ) (d : X) → high ≤ k → k < length xs → q (get_or xs k d) ≡ false
  pub none : (k : ℕ) (d : X) → low ≤ k → k < length xs → p (get_or xs k d) ≡ false

pub none-pass : {X : Type 0} (p : X → Bool) (xs : List X) → ((k : ℕ) (d : X) → k < length xs → p (get_or xs k d) ≡ false) → filter p xs ≡ []
none-pass p [] none = refl
none-pass p (x ∷ xs) none =
    ap (λ b. cond b (x ∷ filter p xs) (filter p xs)) (none zero x (omega arith)) ∙ none-pass p xs (λ k d short. none (suc k) d (omega arith))

first-pass : {X : Type 0} (q : X → Bool) (xs : List X) (high : ℕ) → ((k : ℕ) (d : X) → k < high → k < length xs → q (get_or xs k d) ≡ true)
    → ((k : ℕ) (d : X) → high ≤ k → k < length xs → q (get_or xs k d) ≡ false) → filter q xs ≡ take high xs
first-pass q [] zero inside past = refl
first-pass q [] (suc high) inside past = refl
first-pass q (x ∷ xs) zero inside past = none-pass q (x ∷ xs) (λ k d short. past k d (omega arith) short)
first-pass q (x ∷ xs) (suc high) inside past =
    ap (λ b. cond b (x ∷ filter q xs) (filter q xs)) (inside zero x (omega arith) (omega arith))
    ∙ ap (λ ys. x ∷ ys) (first-pass q xs high (λ k d below short. inside (suc k) d (omega arith) (omega arith)) (λ k d from short. past (suc k) d
    (omega arith) (omega arith)))

pub filter-step : {X : Type 0} (p q : X → Bool) (xs : List X) (low high : ℕ) → Passes p q xs low high → filter q xs ≡ filter p xs ++ drop low (take high xs)
filter-step p q xs zero high passes =
    first-pass q xs high (λ k d below short. passes.inside k d (omega arith) below short) passes.past
    ∙ ap (λ ys. ys ++ take high xs) (sym (none-pass p xs (λ k d short. passes.none k d (omega arith) short)))
filter-step p q [] (suc low) zero passes = absurd (let b = passes.between in omega arith)
filter-step p q [] (suc low) (suc high) passes = refl
filter-step p q (x ∷ xs) (suc low) zero passes = absurd (let b = passes.between in omega arith)
filter-step p q (x ∷ xs) (suc low) (suc high) passes =
    ap (λ b. cond b (x ∷ filter q xs) (filter q xs)) (passes.before zero x (omega arith) (omega arith))
    ∙ ap (λ ys. cond (p x) (x ∷ ys) ys)
    (filter-step p q xs low high record {
      between = let b = passes.between in omega arith;
      before = λ k d below short. passes.before (suc k) d (omega arith) (omega arith);
      inside = λ k d from below short. passes.inside (suc k) d (omega arith) (omega arith) (omega arith);
      past = λ k d from short. passes.past (suc k) d (omega arith) (omega arith);
      none = λ k d from short. passes.none (suc k) d (omega arith) (omega arith);
    })
    ∙ by_test (p x)
  where
    by_test : (b : Bool) → cond b (x ∷ (filter p xs ++ drop low (take high xs))) (filter p xs ++ drop low (take high xs)) ≡ cond b (x ∷ filter p xs)
        (filter p xs) ++ drop low (take high xs)
    by_test true = refl
    by_test false = refl

filter-every-same : {X : Type 0} (p q : X → Bool) (xs : List X) → AllByRecursion (λ x. p x ≡ q x) xs → filter p xs ≡ filter q xs
filter-every-same p q [] all = refl
filter-every-same p q (x ∷ xs) all =
    ap (λ b. cond b (x ∷ filter p xs) (filter p xs)) all.0 ∙ ap (λ ys. cond (q x) (x ∷ ys) ys) (filter-every-same p q xs all.1)

pub filter-all-same : {X : Type 0} (p q : X → Bool) (xs : List X) → All (λ x. p x ≡ q x) xs → filter p xs ≡ filter q xs
filter-all-same p q xs all = filter-every-same p q xs (recursion_from_All (λ x. p x ≡ q x) xs all)

-- ---- keys of a group

lt_cases : (a b : Bool) → is_lt (cond a Less (cond b Equal Greater)) ≡ a
lt_cases true b = refl
lt_cases false true = refl
lt_cases false false = refl

pub lt_then : (position order p o : ℕ) → is_lt (ordering_then (nat_cmp position p) (nat_cmp order o)) ≡ below position order p o
lt_then position order p o = by (nat_lt position p) (nat_eq position p)
  where
    by : (a b : Bool) → is_lt (ordering_then (cond a Less (cond b Equal Greater)) (nat_cmp order o)) ≡ (a || (b && nat_lt order o))
    by true b = refl
    by false true = lt_cases (nat_lt order o) (nat_eq order o)
    by false false = refl

-- of a row of the group
pub in_group-below : (part : Part) (p o : ℕ) (row : Row) → is_in_group part.group row ≡ true
    → is_before (bound.Key (key_at part p o)) row ≡ below (position_of row.approved) row.order p o
in_group-below part p o row is =
    ap (λ g. is_lt (ordering_then (group_cmp g part.group) (ordering_then (nat_cmp (position_of row.approved) p) (nat_cmp row.order o))))
    (same_group-true (group_of row) part.group is)
    ∙ ap (λ c. is_lt (ordering_then c (ordering_then (nat_cmp (position_of row.approved) p) (nat_cmp row.order o)))) (group_cmp-self part.group)
    ∙ lt_then (position_of row.approved) row.order p o

squeezed : (o x y : Ordering) → is_lt (ordering_then o x) ≡ false → is_lt (ordering_then o y) ≡ true → is_eq o ≡ true
squeezed Less x y a b = absurd (cc)
squeezed Equal x y a b = refl
squeezed Greater x y a b = absurd (cc)

-- a row between two bounds of the group is in it
pub between-group : (part : Part) (p o q u : ℕ) (row : Row) → is_before (bound.Key (key_at part p o)) row ≡ false
    → is_before (bound.Key (key_at part q u)) row ≡ true → is_in_group part.group row ≡ true
between-group part p o q u row after before =
    group_ties (group_of row) part.group
    ∙ squeezed (group_cmp (group_of row) part.group) (ordering_then (nat_cmp (position_of row.approved) p) (nat_cmp row.order o)) (ordering_then
    (nat_cmp (position_of row.approved) q) (nat_cmp row.order u)) after before

-- ---- a position

before-upto : (x p o from to : ℕ) → below x o p from ≡ true → (nat_lt x (p + 1) && (nat_le from o && nat_lt o to)) ≡ (nat_lt x p && (nat_le from o &&
    nat_lt o to))
before-upto x p o from to e = grind (arith, nat_tests)

inside-upto : (x p o from to : ℕ) → below x o p from ≡ false → below x o p (max to from) ≡ true → (nat_lt x (p + 1) && (nat_le from o && nat_lt o to)) ≡ true
inside-upto x p o from to a b = grind (arith, nat_tests)

past-upto : (x p o from to : ℕ) → below x o p (max to from) ≡ false → (nat_lt x (p + 1) && (nat_le from o && nat_lt o to)) ≡ false
past-upto x p o from to a = grind (arith, nat_tests)

none-upto : (x p o from to : ℕ) → below x o p from ≡ false → (nat_lt x p && (nat_le from o && nat_lt o to)) ≡ false
none-upto x p o from to a = grind (arith, nat_tests)

further : (x p o from to : ℕ) → below x o p from ≡ true → below x o p (max to from) ≡ true
further x p o from to a = grind (arith, nat_tests)

and-same : (b x y : Bool) → (b ≡ true → x ≡ y) → (b && x) ≡ (b && y)
and-same true x y h = h refl
and-same false x y h = refl

and-false : (b : Bool) → (b && false) ≡ false
and-false true = refl
and-false false = refl

-- a row before the first bound of a position is before the second
pub before-both : (part : Part) (p : ℕ) (row : Row) → is_before (bound.Key (key_at part p part.from)) row ≡ true
    → is_before (bound.Key (key_at part p (max part.to part.from))) row ≡ true
before-both part p row = by (group_cmp (group_of row) part.group)
  where
    by : (c : Ordering) → is_lt (ordering_then c (ordering_then (nat_cmp (position_of row.approved) p) (nat_cmp row.order part.from))) ≡ true
        → is_lt (ordering_then c (ordering_then (nat_cmp (position_of row.approved) p) (nat_cmp row.order (max part.to part.from)))) ≡ true
    by Less e = refl
    by Equal e =
        lt_then (position_of row.approved) row.order p (max part.to part.from)
        ∙ further (position_of row.approved) p row.order part.from part.to (sym (lt_then (position_of row.approved) row.order p part.from) ∙ e)
    by Greater e = e

pub run-between : (part : Part) (p : ℕ) (rows : List Row) (low high : ℕ) → IsRun part p rows low high → low ≤ high
run-between part p [] low high run = let w = run.starts.within in omega (arith, w)
run-between part p (r ∷ rows) low high run =
    elim (cases_Bool (nat_le low high)) [
      | inl upto ↦ leb-true low high upto
      | inr over ↦
          let less : high < low = (let e : nat_le low high ≡ false = over in grind (arith, nat_tests)) in
          let w = run.starts.within in
          absurd (false≢true (sym (run.ends.after high r (le_refl high) (omega (arith, w, less)))
          ∙ before-both part p (get_or (r ∷ rows) high r) (run.starts.before high r less)))
    ]

run-passes : (part : Part) (p : ℕ) (rows : List Row) (low high : ℕ) → IsRun part p rows low high
    → Passes (is_upto part p) (is_upto part (p + 1)) rows low high
run-passes part p rows low high run = record {
  between = run-between part p rows low high run;
  before = λ k d below short.
      let r = get_or rows k d in
      and-same (is_in_group part.group r) _ _ (λ is. before-upto (position_of r.approved) p r.order part.from part.to (sym (in_group-below part p
      part.from r is) ∙ run.starts.before k d below));
  inside = λ k d from below short.
      let r = get_or rows k d in
      let after = run.starts.after k d from short in
      let before = run.ends.before k d below in
      let is = between-group part p part.from p (max part.to part.from) r after before in
      ap (λ b. b && (nat_lt (position_of r.approved) (p + 1) && in_range part.from part.to r)) is
      ∙ inside-upto (position_of r.approved) p r.order part.from part.to (sym (in_group-below part p part.from r is) ∙ after)
      (sym (in_group-below part p (max part.to part.from) r is) ∙ before);
  past = λ k d from short.
      let r = get_or rows k d in
      and-same (is_in_group part.group r) _ false
      (λ is. past-upto (position_of r.approved) p r.order part.from part.to (sym (in_group-below part p (max part.to part.from) r is)
      ∙ run.ends.after k d from short))
      ∙ and-false (is_in_group part.group r);
  none = λ k d from short.
      let r = get_or rows k d in
      and-same (is_in_group part.group r) _ false
      (λ is. none-upto (position_of r.approved) p r.order part.from part.to (sym (in_group-below part p part.from r is) ∙ run.starts.after k d from short))
      ∙ and-false (is_in_group part.group r);
}

-- one position more
pub position-step : (part : Part) (p : ℕ) (rows : List Row) (low high : ℕ) → IsRun part p rows low high
    → filter (is_upto part (p + 1)) rows ≡ filter (is_upto part p) rows ++ drop low (take high rows)
position-step part p rows low high run = filter-step (is_upto part p) (is_upto part (p + 1)) rows low high (run-passes part p rows low high run)

pub position-sum : (part : Part) (p : ℕ) (rows : List Row) (low high : ℕ) (old between new : Sum) → IsRun part p rows low high
    → old ≡ sum_of_rows (filter (is_upto part p) rows)
    → between ≡ sum_of_rows (drop low (take high rows)) → new ≡ joined old between → new ≡ sum_of_rows (filter (is_upto part (p + 1)) rows)
unfolding sum_of_rows
position-sum part p rows low high old between new run before at is =
    is ∙ ap (λ s. joined s between) before ∙ ap (joined (sum_over sum_of_row (filter (is_upto part p) rows))) at
    ∙ sym (sum_over-append sum_of_row (filter (is_upto part p) rows) (drop low (take high rows)))
    ∙ ap (sum_over sum_of_row) (sym (position-step part p rows low high run))

-- ---- all positions

same-upto : (part : Part) (n m : ℕ) (positions : ℕ) (rows : List Row) → All (IsPlaced positions) rows → ((o : Option ℕ)
    → is_placed positions o ≡ true → nat_lt (position_of o) n ≡ nat_lt (position_of o) m)
    → filter (is_upto part n) rows ≡ filter (is_upto part m) rows
same-upto part n m positions rows all same =
    filter-all-same (is_upto part n) (is_upto part m) rows
    (λ k d short. let r = get_or rows k d in ap (λ b. is_in_group part.group r && (b && in_range part.from part.to r)) (same r.approved (all k d short)))

-- no row stands between the last position and those without one
pub upto-last : (part : Part) (positions : ℕ) (rows : List Row) → ArePlaced rows positions
    → filter (is_upto part positions) rows ≡ filter (is_upto part 256) rows
upto-last part positions rows are = same-upto part positions 256 positions rows are.placed same
  where
    same : (o : Option ℕ) → is_placed positions o ≡ true → nat_lt (position_of o) positions ≡ nat_lt (position_of o) 256
    same None e = let f = are.few in grind (arith, nat_tests)
    same (Some x) e = let f = are.few in grind (arith, nat_tests)

pub upto-all : (part : Part) (positions : ℕ) (rows : List Row) → ArePlaced rows positions
    → filter (is_upto part 257) rows ≡ wanted_rows part.group need.All part.from part.to rows
upto-all part positions rows are =
    filter-all-same (is_upto part 257) (is_wanted part.group need.All part.from part.to) rows
    (λ k d short. let r = get_or rows k d in ap (λ b. is_in_group part.group r && (b && in_range part.from part.to r)) (same r.approved (are.placed k
    d short)))
  where
    same : (o : Option ℕ) → is_placed positions o ≡ true → nat_lt (position_of o) 257 ≡ true
    same None e = grind (arith, nat_tests)
    same (Some x) e = let f = are.few in grind (arith, nat_tests)

pub upto-most : (part : Part) (most positions n : ℕ) (rows : List Row) → ArePlaced rows positions → n ≡ min (most + 1) positions
    → filter (is_upto part n) rows ≡ wanted_rows part.group (need.Upto most) part.from part.to rows
upto-most part most positions n rows are is =
    filter-all-same (is_upto part n) (is_wanted part.group (need.Upto most) part.from part.to) rows
    (λ k d short. let r = get_or rows k d in ap (λ b. is_in_group part.group r && (b && in_range part.from part.to r)) (same r.approved (are.placed k
    d short)))
  where
    same : (o : Option ℕ) → is_placed positions o ≡ true → nat_lt (position_of o) n ≡ meets (need.Upto most) o
    same None e = let f = are.few in grind (arith, nat_tests)
    same (Some x) e = grind (arith, nat_tests)

-- no position yet
pub no-position : (part : Part) (rows : List Row) → filter (is_upto part 0) rows ≡ []
no-position part rows = filter-never (is_upto part 0) rows (λ r. and-same (is_in_group part.group r) _ false (λ is. never (position_of r.approved)
    (in_range part.from part.to r)) ∙ and-false (is_in_group part.group r))
  where
    never : (x : ℕ) (b : Bool) → (nat_lt x 0 && b) ≡ false
    never x b = ap (λ v. v && b) (let z : nat_lt x 0 ≡ false = grind (arith, nat_tests) in z)

pub none-sum : (part : Part) (rows : List Row) (sum : Sum) → sum ≡ no_sum → sum ≡ sum_of_rows (filter (is_upto part 0) rows)
unfolding sum_of_rows
none-sum part rows sum e = e ∙ ap (sum_over sum_of_row) (sym (no-position part rows))

-- ---- costs

pub cost-none : (s d : ℕ) → s ≤ s + 2 * d * 0
cost-none s d = omega arith

pub cost-more : (s t u d n : ℕ) → t ≤ s + 2 * d * n → u ≤ t + 2 * d → u ≤ s + 2 * d * (n + 1)
cost-more s t u d n a b = let e : 2 * d * (n + 1) ≡ 2 * d * n + 2 * d * 1 = mul-add (2 * d) n 1 in omega (arith, a, b, e)

pub cost-some : (s t d n : ℕ) → t ≤ s + 2 * d * n → n ≤ 8 → t ≤ s + 18 * d
cost-some s t d n a few = let e : 2 * d * n ≤ 2 * d * 8 = mul-le-mul_left (2 * d) few in omega (arith, a, e)

pub cost-all : (s t u d n : ℕ) → t ≤ s + 2 * d * n → n ≤ 8 → u ≤ t + 2 * d → u ≤ s + 18 * d
cost-all s t u d n a few b = let e : 2 * d * n ≤ 2 * d * 8 = mul-le-mul_left (2 * d) few in omega (arith, a, b, e)

-- ---- the positions of a need

pub enough-upto : (asked : Need) (most : ℕ) (part : Part) (positions : ℕ) (rows : List Row) → AreEnough asked rows positions → asked ≡ need.Upto most
    → filter (is_upto part positions) rows ≡ wanted_rows part.group asked part.from part.to rows
enough-upto need.All most part positions rows enough is = absurd (cc)
enough-upto (need.Upto other) most part positions rows enough is = enough part

-- ---- pushing the rows between two places

pub run-none : {X : Type 0} (xs : List X) (low : ℕ) (found : List X) → found ≡ found ++ drop low (take low xs)
run-none {X = X} xs low found = sym (ap (λ ys. found ++ ys) (none xs low) ∙ append-nil found)
  where
    none : (xs : List X) (low : ℕ) → drop low (take low xs) ≡ []
    none [] zero = refl
    none [] (suc low) = refl
    none (x ∷ xs) zero = refl
    none (x ∷ xs) (suc low) = none xs low

more-run : {X : Type 0} (xs : List X) (low i : ℕ) (d : X) → low ≤ i → i < length xs → drop low (take (i + 1) xs) ≡ drop low (take i xs) ++ get_or xs i d ∷ []
more-run xs low i d upto within =
    ap (drop low) (take_more xs i d within) ∙ drop-append-le low (take i xs) (get_or xs i d ∷ []) (let e = length-take-le i xs (omega arith) in omega
    (arith, e))

pub run-more : {X : Type 0} (xs : List X) (low i : ℕ) (start old new : List X) → low ≤ i → i < length xs → old ≡ start ++ drop low (take i xs)
    → ((d : X) → new ≡ old ++ get_or xs i d ∷ []) → new ≡ start ++ drop low (take (i + 1) xs)
run-more {X = X} xs low i start old new upto within before is = by xs refl
  where
    by : (ys : List X) → ys ≡ xs → new ≡ start ++ drop low (take (i + 1) xs)
    by [] e = absurd (let none : 0 ≡ length xs = ap length e in omega (arith, none))
    by (d ∷ ys) e =
        is d ∙ ap (λ zs. zs ++ get_or xs i d ∷ []) before ∙ append_assoc start (drop low (take i xs)) (get_or xs i d ∷ [])
        ∙ ap (λ zs. start ++ zs) (sym (more-run xs low i d upto within))

pub min-few : (a b n most : ℕ) → n ≡ min a b → b ≤ most → n ≤ most
min-few a b n most is few = omega (arith, is, few)
