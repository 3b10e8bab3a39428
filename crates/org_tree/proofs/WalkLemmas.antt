-- Steps of the loops that count subtrees and number the walk.
use Rattle.std.proofs.Common.{◌≡◌, ℕ, zero, suc, ◌+◌, ◌-◌, ◌<◌, ◌≤◌, Bool, true, false, cond, ◌==◌, ◌||◌, List, [], ◌∷◌, length, get_or, set, Some, refl}
use Rattle.std.proofs.Common.{sym, ap, ◌∙◌, subst, inl, inr, arith, get_or-set_same, get_or-set_other}
use Rattle.std.specs.Prelude.{◌^◌}
use Rattle.std.specs.Option.{option_map_or}
use Rattle.std.specs.List.{IsDistinct, AllByRecursion, list_any}
use Rattle.std.proofs.lemmas.Bool.{cases_Bool, cases_eq, false≢true, eq-eqb, ne_eqb, eqb-true, eqb-false, or_cases}
use Rattle.std.proofs.lemmas.List.{length-set}
use Rattle.std.proofs.lemmas.Map.Steps.{length-le_from_distinct_below}
use Rattle.org_tree.specs.Count.{count_below}
use Rattle.org_tree.specs.Units.{UnitRow, parent_of, is_child, is_under, level_of, order_of, size_of, IsTree}
use Rattle.org_tree.specs.Families.{InFamilies}
use Rattle.org_tree.specs.Walk.{ahead_of, AreSizes, OrdersSoFar, AreOrders, IsWalk}
use Rattle.org_tree.proofs.CountLemmas.{first_below_tells, count_below-le}
use Rattle.org_tree.proofs.ClimbLemmas.{some_or_none}
use Rattle.org_tree.proofs.RowLemmas.{is_child-true, is_child-from}
use Rattle.org_tree.proofs.KinLemmas.{parent_sooner, order-behind_sibling, order-behind_parent}
use Rattle.org_tree.proofs.WayLemmas.{is_under-child, is_under-root, under-itself, level_of-child, level_of-root}
use Rattle.org_tree.proofs.BeforeLemmas.{under-not_before}
use Rattle.org_tree.proofs.OrderLemmas.{parent-before, order-lt, order-differs}

-- going up from a unit meets the unit itself once
pub ahead-step : (us : List UnitRow) → IsTree us → (p y : ℕ) → p < length us → ahead_of us (Some p) y ≡ cond (p == y) 1 0 + ahead_of us (parent_of us p) y
ahead-step us t p y h =
    elim (some_or_none (parent_of us p)) [
      | inr top ↦
          ap (λ b. cond b 1 0) (is_under-root us p y h top) ∙ sym (ap (λ o. cond (p == y) 1 0 + ahead_of us o y) top ∙ plain (cond (p == y) 1 0))
      | inl up ↦
          ap (λ b. cond b 1 0) (is_under-child us t p up.0 y h up.1)
          ∙ split (p == y) (is_under us up.0 y) (λ here. parent_not_under up.0 up.1 (eqb-true p y here))
          ∙ sym (ap (λ o. cond (p == y) 1 0 + ahead_of us o y) up.1)
    ]
  where
    plain : (n : ℕ) → n + 0 ≡ n
    plain n = omega arith

    split : (a b : Bool) → (a ≡ true → b ≡ false) → cond (a || b) 1 0 ≡ cond a 1 0 + cond b 1 0
    split true b apart = let e : b ≡ false = apart refl in rw e refl
    split false true apart = refl
    split false false apart = refl

    parent_not_under : (q : ℕ) → parent_of us p ≡ Some q → p ≡ y → is_under us q y ≡ false
    parent_not_under q up same =
        elim (cases_Bool (is_under us q y)) [
          | inr no_under ↦ no_under
          | inl under ↦
              let at_p : is_under us q p ≡ true = subst (λ (v : ℕ). is_under us q v ≡ true) (sym same) under in
              absurd (false≢true (sym (under-not_before us t q p (t.parent_in_range p q up) at_p) ∙ parent-before us t p q h up))
        ]

-- a number one larger at one place
pub added_at : (xs : List ℕ) (i y : ℕ) → i < length xs → get_or (set xs i (get_or xs i 0 + 1)) y 0 ≡ get_or xs y 0 + cond (i == y) 1 0
added_at xs i y h =
    elim (cases_eq i y) [
      | inl same ↦
          let test : (i == y) ≡ true = eq-eqb i y same in
          rw test (subst (λ (v : ℕ). get_or (set xs i (get_or xs i 0 + 1)) v 0 ≡ get_or xs v 0 + 1) same (get_or-set_same xs i (get_or xs i 0 + 1) 0 h))
      | inr other ↦
          let test : (i == y) ≡ false = ne_eqb i y other in
          rw test (get_or-set_other xs i y (get_or xs i 0 + 1) 0 (λ e. other (sym e)) ∙ omega arith)
    ]

pub AreOrders-from_all : (us : List UnitRow) (kin orders : List ℕ) (i : ℕ) → InFamilies us kin → length us ≤ i → OrdersSoFar us kin i orders
    → AreOrders us orders
AreOrders-from_all us kin orders i fam all so_far = record {
  same_length = so_far.same_length;
  each = λ x h.
      let at = fam.found x h in
      subst (λ (v : ℕ). get_or orders v 0 ≡ order_of us v) at.1.1 (so_far.each at.0 (let l = at.1.0 in omega arith));
}

-- the walk's list with the first units in their places
pub record WalkSoFar (us : List UnitRow) (done : ℕ) (walk : List ℕ) : Type 0 where
  pub same_length : length walk ≡ length us
  pub each : (x : ℕ) → x < done → get_or walk (order_of us x) 0 ≡ x

pub WalkSoFar-more : (us : List UnitRow) (walk : List ℕ) (x order : ℕ) → IsTree us → x < length us → order ≡ order_of us x → WalkSoFar us x walk
    → WalkSoFar us (x + 1) (set walk order x)
WalkSoFar-more us walk x order t h right so_far = record {
  same_length = length-set walk order x ∙ so_far.same_length;
  each = λ y l.
      elim (cases_eq y x) [
        | inl same ↦
            let inside : order < length walk = let e = so_far.same_length in let r = order-lt us t x h in omega arith in
            ap (λ (v : ℕ). get_or (set walk order x) v 0) (ap (order_of us) same ∙ sym right) ∙ get_or-set_same walk order x 0 inside ∙ sym same
        | inr other ↦
            get_or-set_other walk order (order_of us y) x 0 (λ e. other (order-differs us t y x (omega arith) h (e ∙ right)))
            ∙ so_far.each y (omega arith)
      ];
}

-- the places of the first units
orders_below : List UnitRow → ℕ → List ℕ
orders_below us zero = []
orders_below us (suc n) = order_of us n ∷ orders_below us n

-- every place of the walk is some unit's
pub order-found : (us : List UnitRow) → IsTree us → (order : ℕ) → order < length us → (x : ℕ) × ((x < length us) × (order_of us x ≡ order))
unfolding orders_below IsDistinct
order-found us t order h =
    elim (first_below_tells (λ x. order_of us x == order) (length us)) [
      | inl found ↦ (found.0, (found.2.below, eqb-true (order_of us found.0) order found.2.passes))
      | inr none ↦
          absurd
          (let missed : (j : ℕ) → j < length us → ¬ (order_of us j ≡ order) = λ j l. eqb-false (order_of us j) order (none.1 j l) in
          let many : length (order ∷ orders_below us (length us)) ≤ length us =
          length-le_from_distinct_below (order ∷ orders_below us (length us)) (length us)
          (apart order (length us) (λ j l e. missed j l (sym e)), distinct (length us) (λ j l. l))
          (λ q in_list. elim (or_cases (q == order) (list_any (λ v. q == v) (orders_below us (length us))) in_list) [
            | inl here ↦ subst (λ (v : ℕ). v < length us) (sym (eqb-true q order here)) h
            | inr rest ↦ below (length us) q (λ j l. l) rest
          ]) in
          let len = length_orders (length us) in
          omega arith)
    ]
  where
    length_orders : (n : ℕ) → length (orders_below us n) ≡ n
    length_orders zero = refl
    length_orders (suc n) = ap suc (length_orders n)

    apart : (o n : ℕ) → ((j : ℕ) → j < n → ¬ (o ≡ order_of us j)) → AllByRecursion (λ y. (o == y) ≡ false) (orders_below us n)
    apart o zero other = tt
    apart o (suc n) other = (ne_eqb o (order_of us n) (other n (omega arith)), apart o n (λ j l. other j (omega arith)))

    distinct : (n : ℕ) → ((j : ℕ) → j < n → j < length us) → IsDistinct (λ a b. a == b) (orders_below us n)
    distinct zero in_range = tt
    distinct (suc n) in_range = (
      apart (order_of us n) n (λ j l e. (let same : n ≡ j = order-differs us t n j (in_range n (omega arith)) (in_range j (omega arith)) e in omega arith)),
      distinct n (λ j l. in_range j (omega arith)),
    )

    below : (n q : ℕ) → ((j : ℕ) → j < n → j < length us) → list_any (λ v. q == v) (orders_below us n) ≡ true → q < length us
    below zero q in_range is = absurd (false≢true is)
    below (suc n) q in_range is =
        elim (or_cases (q == order_of us n) (list_any (λ v. q == v) (orders_below us n)) is) [
          | inl here ↦ subst (λ (v : ℕ). v < length us) (sym (eqb-true q (order_of us n) here)) (order-lt us t n (in_range n (omega arith)))
          | inr rest ↦ below n q (λ j l. in_range j (omega arith)) rest
        ]

pub IsWalk-from_all : (us : List UnitRow) (walk : List ℕ) (done : ℕ) → IsTree us → length us ≤ done → WalkSoFar us done walk → IsWalk us walk
IsWalk-from_all us walk done t all so_far = record {
  same_length = so_far.same_length;
  in_range = λ order h. (let at = order-found us t order h in subst (λ (v : ℕ). v < length us) (sym (reads at.0 order at.1.0 at.1.1)) at.1.0);
  each = λ order h. (let at = order-found us t order h in ap (order_of us) (reads at.0 order at.1.0 at.1.1) ∙ at.1.1);
}
  where
    reads : (x order : ℕ) → x < length us → order_of us x ≡ order → get_or walk order 0 ≡ x
    reads x order h is = ap (λ (v : ℕ). get_or walk v 0) (sym is) ∙ so_far.each x (omega arith)

-- one unit of a line is counted
pub line_more : (us : List UnitRow) (sizes : List ℕ) (total : ℕ → ℕ) (here : ℕ) → IsTree us → here < length us → length sizes ≡ length us
    → ((y : ℕ) → y < length us → get_or sizes y 0 + ahead_of us (Some here) y ≡ total y) → (y : ℕ) → y < length us
    → get_or (set sizes here (get_or sizes here 0 + 1)) y 0 + ahead_of us (parent_of us here) y ≡ total y
line_more us sizes total here t h len each y l =
    let added : get_or (set sizes here (get_or sizes here 0 + 1)) y 0 ≡ get_or sizes y 0 + cond (here == y) 1 0 = added_at sizes here y (omega arith) in
    let split : ahead_of us (Some here) y ≡ cond (here == y) 1 0 + ahead_of us (parent_of us here) y = ahead-step us t here y h in
    let before : get_or sizes y 0 + ahead_of us (Some here) y ≡ total y = each y l in
    omega arith

-- a count of a unit that is still to be counted is not yet whole
pub line_fits : (us : List UnitRow) (sizes : List ℕ) (unit here : ℕ) → IsTree us → here < length us → unit < length us
    → ((y : ℕ) → y < length us → get_or sizes y 0 + ahead_of us (Some here) y ≡ count_below (λ z. is_under us z y) (unit + 1))
    → get_or sizes here 0 + 1 < 2 ^ 32
line_fits us sizes unit here t h i each =
    let one : ahead_of us (Some here) here ≡ 1 = ap (λ b. cond b 1 0) (under-itself us here h) in
    let whole = each here h in
    let most : count_below (λ z. is_under us z here) (unit + 1) ≤ unit + 1 = count_below-le (λ z. is_under us z here) (unit + 1) in
    let few = t.few in
    omega arith

pub level_falls : (us : List UnitRow) → IsTree us → (x : ℕ) → x < length us → option_map_or (λ p. level_of us p) (parent_of us x) 0 < level_of us x
level_falls us t x h =
    elim (some_or_none (parent_of us x)) [
      | inl up ↦
          let e : level_of us x ≡ level_of us up.0 + 1 = level_of-child us t x up.0 h up.1 in
          let v : option_map_or (λ p. level_of us p) (parent_of us x) 0 ≡ level_of us up.0 = ap (λ o. option_map_or (λ p. level_of us p) o 0) up.1 in
          omega arith
      | inr top ↦
          let e : level_of us x ≡ 1 = level_of-root us x h top in
          let v : option_map_or (λ p. level_of us p) (parent_of us x) 0 ≡ 0 = ap (λ o. option_map_or (λ p. level_of us p) o 0) top in
          omega arith
    ]

-- the place of a unit that stands after a sibling in the list by families
pub order_after_sibling : (us : List UnitRow) (kin orders sizes : List ℕ) (i p s : ℕ) → IsTree us → InFamilies us kin → AreSizes us sizes
    → OrdersSoFar us kin i orders → i < length us → parent_of us (get_or kin i 0) ≡ Some p → 0 < i → s ≡ get_or kin (i - 1) 0 → is_child us s p ≡ true
    → get_or orders s 0 + get_or sizes s 0 ≡ order_of us (get_or kin i 0)
order_after_sibling us kin orders sizes i p s t fam sized so_far h up pos at child =
    let before = get_or kin (i - 1) 0 in
    let up_s : parent_of us before ≡ Some p = is_child-true us before p (subst (λ (v : ℕ). is_child us v p ≡ true) at child) in
    let order : get_or orders before 0 ≡ order_of us before = so_far.each (i - 1) (omega arith) in
    let size : get_or sizes before 0 ≡ size_of us before = sized.each before (fam.in_range (i - 1) (omega arith)) in
    let place : order_of us (get_or kin i 0) ≡ order_of us before + size_of us before = order-behind_sibling us kin t fam i p h pos up up_s in
    subst (λ (v : ℕ). get_or orders v 0 + get_or sizes v 0 ≡ order_of us (get_or kin i 0)) (sym at) (omega arith)

-- and of one that stands after none
pub order_after_parent : (us : List UnitRow) (kin orders : List ℕ) (i p : ℕ) → IsTree us → InFamilies us kin → OrdersSoFar us kin i orders → i < length us
    → parent_of us (get_or kin i 0) ≡ Some p → (0 < i → is_child us (get_or kin (i - 1) 0) p ≡ false) → get_or orders p 0 + 1 ≡ order_of us (get_or kin i 0)
order_after_parent us kin orders i p t fam so_far h up none_before =
    let at = parent_sooner us kin t fam i p h up in
    let order : get_or orders p 0 ≡ order_of us p = subst (λ (v : ℕ). get_or orders v 0 ≡ order_of us v) at.1.1 (so_far.each at.0 at.1.0) in
    let place : order_of us (get_or kin i 0) ≡ order_of us p + 1 =
    order-behind_parent us kin t fam i p h up
    (λ pos up_s. false≢true (sym (none_before pos) ∙ is_child-from us (get_or kin (i - 1) 0) p up_s)) in
    omega arith
