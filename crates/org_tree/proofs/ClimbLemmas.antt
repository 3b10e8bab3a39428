-- Going up from a unit: parents that end do so within as many steps as there are units.
use Rattle.std.proofs.Common.{add-one, zero-add, ◌≡◌, ◌⊎◌, ℕ, zero, suc, ◌+◌, ◌<◌, ◌≤◌, Bool, true, false, List, length, Option, Some, None, refl, sym, ap}
use Rattle.std.proofs.Common.{◌∙◌, subst, inl, inr, arith}
use Rattle.std.specs.Prelude.{option_and_then, is_none}
use Rattle.std.proofs.lemmas.Bool.{cases_eq, false≢true}
use Rattle.org_tree.specs.Units.{UnitRow, parent_of, climb}
use Rattle.org_tree.specs.Count.{count_below}
use Rattle.org_tree.proofs.CountLemmas.{count_below-le, count_below-lt}

-- an option is there or not
pub some_or_none : {T : Type 0} (o : Option T) → ((v : T) × (o ≡ Some v)) ⊎ (o ≡ None)
some_or_none None = inr refl
some_or_none (Some v) = inl (v, refl)

pub climb-zero : (us : List UnitRow) (x : ℕ) → climb 0 us x ≡ Some x
unfolding climb
climb-zero us x = refl

pub climb-child : (steps : ℕ) (us : List UnitRow) (x p : ℕ) → parent_of us x ≡ Some p → climb (suc steps) us x ≡ climb steps us p
unfolding climb
climb-child steps us x p up = ap (λ o. option_and_then (λ q. climb steps us q) o) up

pub climb-root : (steps : ℕ) (us : List UnitRow) (x : ℕ) → parent_of us x ≡ None → climb (suc steps) us x ≡ None
unfolding climb
climb-root steps us x up = ap (λ o. option_and_then (λ q. climb steps us q) o) up

pub climb-once_more : (steps : ℕ) (us : List UnitRow) (x : ℕ) → climb steps us x ≡ None → climb (suc steps) us x ≡ None
climb-once_more zero us x ends = absurd (let e = climb-zero us x in cc)
climb-once_more (suc steps) us x ends =
    elim (some_or_none (parent_of us x)) [
      | inl up ↦
          let here : climb steps us up.0 ≡ None = sym (climb-child steps us x up.0 up.1) ∙ ends in
          climb-child (suc steps) us x up.0 up.1 ∙ climb-once_more steps us up.0 here
      | inr top ↦ climb-root (suc steps) us x top
    ]

pub climb-more : (steps more : ℕ) (us : List UnitRow) (x : ℕ) → steps ≤ more → climb steps us x ≡ None → climb more us x ≡ None
climb-more steps zero us x le ends = let e : steps ≡ 0 = omega arith in subst (λ (v : ℕ). climb v us x ≡ None) e ends
climb-more steps (suc more) us x le ends =
    elim (cases_eq steps (suc more)) [
      | inl same ↦ subst (λ (v : ℕ). climb v us x ≡ None) same ends
      | inr other ↦ climb-once_more more us x (climb-more steps more us x (omega arith) ends)
    ]

-- the step that ends the parents of x, from the lower end
none_at : ℕ → List UnitRow → ℕ → Bool
none_at steps us z = is_none (climb steps us z)

-- where a unit has exactly so many above it, as many units end within one step more
ends_exactly : (us : List UnitRow) → ((x p : ℕ) → parent_of us x ≡ Some p → p < length us) → (steps x y : ℕ) → x < length us → climb steps us x ≡ Some y
    → climb (suc steps) us x ≡ None → suc steps ≤ count_below (none_at (suc steps) us) (length us)
unfolding none_at
ends_exactly us in_range zero x y h there ends =
    let one : count_below (λ _. false) (length us) < count_below (none_at 1 us) (length us) =
    count_below-lt (λ _. false) (none_at 1 us) (length us) x (λ k l e. absurd (false≢true e)) h refl (ap (is_none {T = ℕ}) ends) in
    omega arith
ends_exactly us in_range (suc steps) x y h there ends =
    elim (some_or_none (parent_of us x)) [
      | inr top ↦ absurd (let e = climb-root steps us x top in cc)
      | inl up ↦
          let p = up.0 in
          let below : suc steps ≤ count_below (none_at (suc steps) us) (length us) =
          ends_exactly us in_range steps p y (in_range x p up.1) (sym (climb-child steps us x p up.1) ∙ there) (sym (climb-child (suc steps) us x p up.1)
          ∙ ends) in
          let one : count_below (none_at (suc steps) us) (length us) < count_below (none_at (suc (suc steps)) us) (length us) =
          count_below-lt (none_at (suc steps) us) (none_at (suc (suc steps)) us) (length us) x
          (λ k l e. ap (is_none {T = ℕ}) (climb-once_more (suc steps) us k (none_from (climb (suc steps) us k) e)))
          h (ap (is_none {T = ℕ}) there) (ap (is_none {T = ℕ}) ends) in
          omega arith
    ]
  where
    none_from : (o : Option ℕ) → is_none o ≡ true → o ≡ None
    none_from None e = refl
    none_from (Some v) e = absurd (false≢true e)

-- parents that end do so within as many steps as there are units
pub climb-ends : (us : List UnitRow) → ((x p : ℕ) → parent_of us x ≡ Some p → p < length us) → (steps x : ℕ) → x < length us → climb steps us x ≡ None
    → climb (length us) us x ≡ None
climb-ends us in_range zero x h ends = absurd (let e = climb-zero us x in cc)
climb-ends us in_range (suc steps) x h ends =
    elim (some_or_none (climb steps us x)) [
      | inr sooner ↦ climb-ends us in_range steps x h sooner
      | inl there ↦
          let many : suc steps ≤ count_below (none_at (suc steps) us) (length us) = ends_exactly us in_range steps x there.0 h there.1 ends in
          let few : count_below (none_at (suc steps) us) (length us) ≤ length us = count_below-le (none_at (suc steps) us) (length us) in
          climb-more (suc steps) (length us) us x (omega arith) ends
    ]

-- one step more, from the upper end
pub climb-upper : (steps : ℕ) (us : List UnitRow) (x : ℕ) → climb (suc steps) us x ≡ option_and_then (λ y. parent_of us y) (climb steps us x)
climb-upper zero us x =
    elim (some_or_none (parent_of us x)) [
      | inl up ↦ climb-child 0 us x up.0 up.1 ∙ climb-zero us up.0 ∙ sym (ap (option_and_then (λ y. parent_of us y)) (climb-zero us x) ∙ up.1)
      | inr top ↦ climb-root 0 us x top ∙ sym (ap (option_and_then (λ y. parent_of us y)) (climb-zero us x) ∙ top)
    ]
climb-upper (suc steps) us x =
    elim (some_or_none (parent_of us x)) [
      | inl up ↦
          climb-child (suc steps) us x up.0 up.1 ∙ climb-upper steps us up.0
          ∙ sym (ap (option_and_then (λ y. parent_of us y)) (climb-child steps us x up.0 up.1))
      | inr top ↦
          climb-root (suc steps) us x top ∙ sym (ap (option_and_then (λ y. parent_of us y)) (climb-root steps us x top))
    ]

pub climb-next : (us : List UnitRow) (steps x y p : ℕ) → climb steps us x ≡ Some y → parent_of us y ≡ Some p → climb (steps + 1) us x ≡ Some p
climb-next us steps x y p here up =
    ap (λ (v : ℕ). climb v us x) (add-one steps) ∙ climb-upper steps us x ∙ ap (option_and_then (λ v. parent_of us v)) here ∙ up

-- two climbs, one after the other
pub climb-add : (steps more : ℕ) (us : List UnitRow) (x : ℕ) → climb (steps + more) us x ≡ option_and_then (λ y. climb more us y) (climb steps us x)
climb-add zero more us x = ap (λ (v : ℕ). climb v us x) (zero-add more) ∙ sym (ap (option_and_then (λ y. climb more us y)) (climb-zero us x))
climb-add (suc steps) more us x =
    let split : suc steps + more ≡ suc (steps + more) = omega arith in
    ap (λ (v : ℕ). climb v us x) split
    ∙ elim (some_or_none (parent_of us x)) as (λ _. climb (suc (steps + more)) us x ≡ option_and_then (λ y. climb more us y) (climb (suc steps) us x)) [
      | inl up ↦
          climb-child (steps + more) us x up.0 up.1 ∙ climb-add steps more us up.0
          ∙ sym (ap (option_and_then (λ y. climb more us y)) (climb-child steps us x up.0 up.1))
      | inr top ↦
          climb-root (steps + more) us x top ∙ sym (ap (option_and_then (λ y. climb more us y)) (climb-root steps us x top))
    ]

pub ruleset climbs = (climb-zero, climb-next)

-- where the parents end on the way, they end
pub climb-gone : (us : List UnitRow) (steps most x y : ℕ) → climb steps us x ≡ Some y → parent_of us y ≡ None → steps < most → climb most us x ≡ None
climb-gone us steps most x y here top less =
    climb-more (suc steps) most us x (omega arith) (climb-upper steps us x ∙ ap (option_and_then (λ v. parent_of us v)) here ∙ top)
