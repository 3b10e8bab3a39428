-- Searches through a tree in the order of its units.
use Rattle.std.proofs.Common.{◌≡◌, ◌∙◌, ℕ, ◌+◌, ◌<◌, ◌≤◌, Bool, true, false, ◌==◌, ◌&&◌, List, length, Option, None, Some, sym, ap}
use Rattle.std.proofs.Common.{inl, inr, arith, refl, subst}
use Rattle.std.specs.Prelude.{option_and_then, is_some, min, nat_le, nat_lt}
use Rattle.std.specs.Option.{option_map_or}
use Rattle.std.proofs.lemmas.Bool.{cases_eq, eq-eqb, eqb-true, le-leb, lt-ltb, leb-true, ltb-true, true≢false}
use Rattle.org_tree.specs.Count.{first_below}
use Rattle.org_tree.specs.Units.{UnitRow, IsTree, order_of, is_under}
use Rattle.org_tree.specs.Laws.{HasInterval}
use Rattle.org_tree.proofs.CountLemmas.{first_below_tells, first_below-more, first_below-found}
use Rattle.org_tree.proofs.OrderLemmas.{order-differs, order-lt}
use Rattle.dh_approvals.specs.Search.{unit_with, passes_at, first_unit}

-- the unit at a place is the only one with that place
pub unit_with-is : (us : List UnitRow) → IsTree us → (x order : ℕ) → x < length us → order_of us x ≡ order → unit_with us order ≡ Some x
unit_with-is us t x order within is =
    elim (first_below_tells (λ z. order_of us z == order) (length us)) [
      | inl found ↦
          let same : order_of us found.0 ≡ order_of us x = eqb-true _ _ found.2.passes ∙ sym is in
          found.1 ∙ ap Some (order-differs us t found.0 x found.2.below within same)
      | inr none ↦
          let met : (order_of us x == order) ≡ true = eq-eqb _ _ is in
          let apart : (order_of us x == order) ≡ false = none.1 x within in
          absurd (cc)
    ]

pub passes-is : (us : List UnitRow) → IsTree us → (test : ℕ → Bool) (x order : ℕ) → x < length us → order_of us x ≡ order → passes_at us test order ≡ test x
passes-is us t test x order within is = ap (λ o. option_map_or test o false) (unit_with-is us t x order within is)

-- one place more at which no unit passes
pub none-more : (us : List UnitRow) → IsTree us → (test : ℕ → Bool) (x order : ℕ) → x < length us → order_of us x ≡ order
    → first_below (passes_at us test) order ≡ None → test x ≡ false → first_below (passes_at us test) (order + 1) ≡ None
none-more us t test x order within is none off = first_below-more (passes_at us test) order none (passes-is us t test x order within is ∙ off)

-- the first place at which one does
pub first-found : (us : List UnitRow) → IsTree us → (test : ℕ → Bool) (x order : ℕ) → x < length us → order_of us x ≡ order
    → first_below (passes_at us test) order ≡ None → test x ≡ true → first_unit us test ≡ Some x
first-found us t test x order within is none on =
    let low : order < length us = subst (λ (o : ℕ). o < length us) is (order-lt us t x within) in
    ap (λ o. option_and_then (unit_with us) o) (first_below-found (passes_at us test) (length us) order none (passes-is us t test x order within is ∙ on) low)
    ∙ unit_with-is us t x order within is

-- no unit at places from the first up to this one passes
pub record NoneWithin (us : List UnitRow) (test : ℕ → Bool) (first order : ℕ) : Type 0 where
  pub none : (x : ℕ) → x < length us → first ≤ order_of us x → order_of us x < order → test x ≡ false

pub within-start : (us : List UnitRow) (test : ℕ → Bool) (first : ℕ) → NoneWithin us test first first
within-start us test first = record { none = λ x within from upto. absurd (omega (arith, from, upto)) }

pub within-more : (us : List UnitRow) → IsTree us → (test : ℕ → Bool) (first x order : ℕ) → x < length us → order_of us x ≡ order
    → NoneWithin us test first order → test x ≡ false → NoneWithin us test first (order + 1)
within-more us t test first x order within is none off = record {
  none = λ y inside from upto. elim (cases_eq (order_of us y) order) [
    | inl here ↦
        let same : x ≡ y = order-differs us t x y within inside (is ∙ sym here) in
        subst (λ (v : ℕ). test v ≡ false) same off
    | inr other ↦ none.none y inside from (omega (arith, upto, other))
  ];
}

both : (a b : Bool) → (a && b) ≡ true → (a ≡ true) × (b ≡ true)
both true true e = (refl, refl)
both true false e = absurd (true≢false (sym e))
both false b e = absurd (true≢false (sym e))

joined : (a b : Bool) → a ≡ true → b ≡ true → (a && b) ≡ true
joined true true p q = refl
joined true false p q = q
joined false b p q = p

-- a unit at a place of the interval is under the one whose interval it is
pub is-inside : (us : List UnitRow) (unit first end x order : ℕ) → HasInterval us unit first end → x < length us → order_of us x ≡ order
    → first ≤ order → order < end → is_under us x unit ≡ true
is-inside us unit first end x order interval within is from upto =
    interval.members x within
    ∙ joined (nat_le first (order_of us x)) (nat_lt (order_of us x) end)
    (le-leb first (order_of us x) (omega (arith, is, from))) (lt-ltb (order_of us x) end (omega (arith, is, upto)))

pub some-under : (us : List UnitRow) (test : ℕ → Bool) (unit first end x order : ℕ) → HasInterval us unit first end → x < length us → order_of us x ≡ order
    → first ≤ order → order < end → test x ≡ true → is_some (first_below (λ y. is_under us y unit && test y) (length us)) ≡ true
some-under us test unit first end x order interval within is from upto on =
    let passes : (is_under us x unit && test x) ≡ true =
    joined (is_under us x unit) (test x) (is-inside us unit first end x order interval within is from upto) on in
    elim (first_below_tells (λ y. is_under us y unit && test y) (length us)) [
      | inl found ↦ ap (λ (o : Option ℕ). is_some o) found.1
      | inr none ↦ absurd (true≢false (sym passes ∙ none.1 x within))
    ]

pub none-under : (us : List UnitRow) → IsTree us → (test : ℕ → Bool) (unit first end : ℕ) → HasInterval us unit first end
    → NoneWithin us test first (min end (length us)) → is_some (first_below (λ y. is_under us y unit && test y) (length us)) ≡ false
none-under us t test unit first end interval none =
    elim (first_below_tells (λ y. is_under us y unit && test y) (length us)) [
      | inl found ↦
          let x : ℕ = found.0 in
          let parts = both (is_under us x unit) (test x) found.2.passes in
          let place = both (nat_le first (order_of us x)) (nat_lt (order_of us x) end) (sym (interval.members x found.2.below) ∙ parts.0) in
          let from : first ≤ order_of us x = leb-true first (order_of us x) place.0 in
          let upto : order_of us x < end = ltb-true (order_of us x) end place.1 in
          let low : order_of us x < length us = order-lt us t x found.2.below in
          absurd (true≢false (sym parts.1 ∙ none.none x found.2.below from (omega (arith, upto, low))))
      | inr none ↦ ap (λ (o : Option ℕ). is_some o) none.0
    ]

pub none-found : (us : List UnitRow) (test : ℕ → Bool) → first_below (passes_at us test) (length us) ≡ None → first_unit us test ≡ None
none-found us test none = ap (λ o. option_and_then (unit_with us) o) none

pub ruleset searches = (none-more, first-found, none-found)

pub ruleset walks = (within-start, within-more, some-under, none-under)

-- a number that passes makes a first one
pub first-some : (p : ℕ → Bool) (n i : ℕ) → first_below p i ≡ None → p i ≡ true → i < n → is_some (first_below p n) ≡ true
first-some p n i none on low = ap (λ (o : Option ℕ). is_some o) (first_below-found p n i none on low)

pub first-none : (p : ℕ → Bool) (n : ℕ) → first_below p n ≡ None → is_some (first_below p n) ≡ false
first-none p n none = ap (λ (o : Option ℕ). is_some o) none

pub ruleset numbers = (first_below-more, first-some, first-none)
