-- Steps through the walk, and steps up the tree.
use Rattle.std.proofs.Common.{◌≡◌, ◌∙◌, ℕ, zero, suc, ◌+◌, ◌-◌, ◌<◌, ◌≤◌, Bool, true, false, ◌==◌, List, [], ◌∷◌, ◌++◌, length, filter, None, Some, sym, ap}
use Rattle.std.proofs.Common.{inl, inr, arith, add-one}
use Rattle.std.specs.Option.{option_to_list, option_map_or}
use Rattle.std.proofs.lemmas.Bool.{eq-eqb, eqb-true}
use Rattle.std.proofs.lemmas.List.Elements.{filter-append}
use Rattle.org_tree.specs.Units.{UnitRow, IsTree, parent_of, level_of, order_of, climb, ancestor_of}
use Rattle.org_tree.proofs.CountLemmas.{first_below_tells}
use Rattle.org_tree.proofs.OrderLemmas.{order-differs}
use Rattle.org_tree.proofs.HeldLemmas.{ancestor-high}
use Rattle.org_tree.proofs.KinLemmas.{level-positive}
use Rattle.org_tree.proofs.LawLemmas.{level_rule}
use Rattle.org_tree.proofs.ClimbLemmas.{some_or_none, climb-child, climb-root}
use Rattle.query_lang.specs.Walk.{unit_at, first_units}

-- the unit at a place is the only one with that place
pub unit_at-is : (us : List UnitRow) → IsTree us → (x order : ℕ) → x < length us → order_of us x ≡ order → unit_at us order ≡ Some x
unit_at-is us t x order within is =
    elim (first_below_tells (λ z. order_of us z == order) (length us)) [
      | inl found ↦
          let same : order_of us found.0 ≡ order_of us x = eqb-true _ _ found.2.passes ∙ sym is in
          found.1 ∙ ap Some (order-differs us t found.0 x found.2.below within same)
      | inr none ↦
          let met : (order_of us x == order) ≡ true = eq-eqb _ _ is in
          let apart : (order_of us x == order) ≡ false = none.1 x within in
          absurd (cc)
    ]

-- one unit more of those that pass a test
pub filtered-more : (us : List UnitRow) (test : ℕ → Bool) (x order : ℕ) → IsTree us → x < length us → order_of us x ≡ order
    → filter test (first_units us (order + 1)) ≡ filter test (first_units us order) ++ filter test (x ∷ [])
filtered-more us test x order t within is =
    ap (λ n. filter test (first_units us n)) (add-one order)
    ∙ filter-append test (first_units us order) (option_to_list (unit_at us order))
    ∙ ap (λ o. filter test (first_units us order) ++ filter test (option_to_list o)) (unit_at-is us t x order within is)

-- no unit has as many above it as its level says
pub climb-past : (us : List UnitRow) → IsTree us → (steps x : ℕ) → x < length us → level_of us x ≤ steps → climb steps us x ≡ None
climb-past us t zero x within high = absurd (let some = level-positive us t x within in omega arith)
climb-past us t (suc steps) x within high =
    elim (some_or_none (parent_of us x)) [
      | inl up ↦
          let rule : level_of us x ≡ level_of us up.0 + 1 = level_rule us t x within ∙ ap (λ o. option_map_or (λ p. level_of us p + 1) o 1) up.1 in
          climb-child steps us x up.0 up.1 ∙ climb-past us t steps up.0 (t.parent_in_range x up.0 up.1) (omega arith)
      | inr top ↦ climb-root steps us x top
    ]

-- a unit's ancestor so many levels above is met by as many steps
pub ancestor-steps : (us : List UnitRow) (x level degree : ℕ) → level ≡ level_of us x → degree < level → ancestor_of us x (level - degree) ≡ climb degree us x
ancestor-steps us x level degree is low =
    ancestor-high us x (level - degree) level is (omega arith) ∙ ap (λ n. climb n us x) (omega arith)

pub ruleset steps_above = (climb-past, ancestor-steps)
