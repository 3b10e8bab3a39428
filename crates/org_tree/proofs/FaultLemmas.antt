-- A list of units in which a build finds no fault is a tree.
use Rattle.std.proofs.Common.{◌≡◌, ℕ, ◌<◌, ◌^◌, Bool, true, false, cond, List, length, Option, Some, None, rules, refl, sym, ap, ◌∙◌, subst, inl, inr, arith}
use Rattle.std.specs.Prelude.{option_map, option_and_then, is_none, is_some, not, nat_lt, slice_index, IsSome}
use Rattle.std.specs.Option.{option_map_or}
use Rattle.std.proofs.lemmas.Bool.{cases_lt, cases_order, false≢true, ltb-true, not-false, and_from, lt-ltb}
use Rattle.std.proofs.lemmas.Option.{slice_get_past}
use Rattle.org_tree.specs.declared.fault.TreeFault.{TreeFault}
use Rattle.org_tree.specs.declared.fault.TreeFault.TheVariants.{NoParent, NoRoot, TwoRoots, Loop, TooDeep, Memory}
use Rattle.org_tree.specs.Count.{count_below, or_else, first_below}
use Rattle.org_tree.specs.Units.{UnitRow, parent_of, climb, HasParents, HasOwnIds, IsTree}
use Rattle.org_tree.specs.Faults.{has_bad_parent, is_root, is_second_root, never_ends, is_too_deep, root_fault, shape_fault, depth_fault, tree_fault}
use Rattle.org_tree.specs.Faults.{NeverReaches}
use Rattle.org_tree.specs.Levels.{AreLevels}
use Rattle.org_tree.proofs.CountLemmas.{first_below_tells, count_below-lt}
use Rattle.org_tree.proofs.ClimbLemmas.{some_or_none, climb-ends, climb-more}
use Rattle.org_tree.proofs.LevelLemmas.{ends-from_HasLevel, shallow-from_HasLevel}

-- where there is no first, none passes
none_passes : (p : ℕ → Bool) (n : ℕ) → first_below p n ≡ None → (j : ℕ) → j < n → p j ≡ false
none_passes p n none =
    elim (first_below_tells p n) [
      | inl found ↦ absurd (let e = found.1 in cc)
      | inr all ↦ all.1
    ]

pub first_below-none : (p : ℕ → Bool) (n : ℕ) → ((j : ℕ) → j < n → p j ≡ false) → first_below p n ≡ None
first_below-none p n all =
    elim (first_below_tells p n) [
      | inl found ↦ absurd (false≢true (sym (all found.0 found.2.below) ∙ found.2.passes))
      | inr none ↦ none.0
    ]

-- the parts of an answer that is not there
first_none : {T : Type 0} (a b : Option T) → or_else a b ≡ None → (a ≡ None) × (b ≡ None)
first_none None b e = (refl, e)
first_none (Some v) b e = absurd (cc)

map_none : {T U : Type 0} (f : T → U) (o : Option T) → option_map f o ≡ None → o ≡ None
map_none f None e = refl
map_none f (Some v) e = absurd (cc)

pub shape_parts : (us : List UnitRow) → shape_fault us ≡ None
    → (first_below (has_bad_parent us) (length us) ≡ None) × (first_below (is_second_root us) (length us) ≡ None)
shape_parts us e =
    let split = first_none (option_map NoParent (first_below (has_bad_parent us) (length us))) (root_fault us) e in
    let roots =
    first_none (cond (is_none (first_below (is_root us) (length us))) (Some NoRoot) None)
    (option_map TwoRoots (first_below (is_second_root us) (length us))) split.1 in
    (map_none NoParent (first_below (has_bad_parent us) (length us)) split.0, map_none TwoRoots (first_below (is_second_root us) (length us)) roots.1)

pub HasParents-from_none : (us : List UnitRow) → first_below (has_bad_parent us) (length us) ≡ None → HasParents us
HasParents-from_none us none = record { in_range = inside }
  where
    inside : (x p : ℕ) → parent_of us x ≡ Some p → p < length us
    inside x p up =
        elim (cases_lt x (length us)) [
          | inl h ↦
              let fine : has_bad_parent us x ≡ false = none_passes (has_bad_parent us) (length us) none x h in
              let here : not (nat_lt p (length us)) ≡ false = sym (ap (λ o. option_map_or (λ q. not (nat_lt q (length us))) o false) up) ∙ fine in
              ltb-true p (length us) (not-false (nat_lt p (length us)) here)
          | inr past ↦ absurd (let e = ap (option_and_then (λ (u : UnitRow). u.1)) (slice_get_past us x past) in cc)
        ]

-- two roots are one
one_root_of : (us : List UnitRow) → first_below (is_second_root us) (length us) ≡ None → (x y : ℕ) → x < length us → y < length us → parent_of us x ≡ None
    → parent_of us y ≡ None → x ≡ y
one_root_of us none x y h i top_x top_y =
    elim (cases_order x y) [
      | inl same ↦ same
      | inr apart ↦
          elim apart [
            | inl first ↦ absurd (two x y i top_x top_y first)
            | inr second ↦ absurd (two y x h top_y top_x second)
          ]
    ]
  where
    two : (a b : ℕ) → b < length us → parent_of us a ≡ None → parent_of us b ≡ None → a < b → ⊥
    two a b h top_a top_b first =
        let root_a : is_root us a ≡ true = ap (is_none {T = ℕ}) top_a in
        let root_b : is_root us b ≡ true = ap (is_none {T = ℕ}) top_b in
        let some : count_below (λ _. false) b < count_below (is_root us) b =
        count_below-lt (λ _. false) (is_root us) b a (λ k l e. absurd (false≢true e)) first refl root_a in
        let counted : nat_lt 0 (count_below (is_root us) b) ≡ true = lt-ltb 0 (count_below (is_root us) b) (omega arith) in
        false≢true (sym (none_passes (is_second_root us) (length us) none b h) ∙ and_from (is_root us b) (nat_lt 0 (count_below (is_root us) b)) root_b counted)

-- a list with a root isn't empty
not_empty : (us : List UnitRow) → shape_fault us ≡ None → 0 < length us
not_empty us e =
    let split = first_none (option_map NoParent (first_below (has_bad_parent us) (length us))) (root_fault us) e in
    let roots =
    first_none (cond (is_none (first_below (is_root us) (length us))) (Some NoRoot) None)
    (option_map TwoRoots (first_below (is_second_root us) (length us))) split.1 in
    elim (first_below_tells (is_root us) (length us)) [
      | inl found ↦ (let l = found.2.below in omega arith)
      | inr none ↦ absurd (let f = none.0 in let g = ap (λ o. cond (is_none o) (Some NoRoot) None) none.0 in let r = roots.0 in cc)
    ]

pub IsTree-from_checks : (us : List UnitRow) (levels : List ℕ) → length us < 2 ^ 32 → HasOwnIds us → shape_fault us ≡ None → AreLevels us levels → IsTree us
IsTree-from_checks us levels few own shape has = record {
  few = few;
  ids_differ = own.differ;
  parent_in_range = (HasParents-from_none us (shape_parts us shape).0).in_range;
  has_root = not_empty us shape;
  one_root = one_root_of us (shape_parts us shape).1;
  twelve_levels = λ x h.
      (let level = has.each x h in climb-more (slice_index levels x) 12 us x level.shallow (ends-from_HasLevel us x (slice_index levels x) level));
}

pub no_depth_fault : (us : List UnitRow) (levels : List ℕ) → HasParents us → AreLevels us levels → depth_fault us ≡ None
no_depth_fault us levels ps has =
    let ends : first_below (never_ends us) (length us) ≡ None =
    first_below-none (never_ends us) (length us)
    (λ x h. ap (is_some {T = ℕ}) (climb-ends us ps.in_range (slice_index levels x) x h (ends-from_HasLevel us x (slice_index levels x) (has.each x h)))) in
    let shallow : first_below (is_too_deep us) (length us) ≡ None =
    first_below-none (is_too_deep us) (length us) (λ x h. shallow-from_HasLevel us x (slice_index levels x) (has.each x h)) in
    rw (ends, shallow) refl

-- no fault of the shape is a loop
shape_is_no_loop : (us : List UnitRow) (node : ℕ) → ¬ (shape_fault us ≡ Some (Loop node))
shape_is_no_loop us node e =
    by_parts (first_below (has_bad_parent us) (length us)) (first_below (is_root us) (length us)) (first_below (is_second_root us) (length us)) e
  where
    by_parts : (bad root second : Option ℕ)
        → or_else (option_map NoParent bad) (or_else (cond (is_none root) (Some NoRoot) None) (option_map TwoRoots second)) ≡ Some (Loop node) → ⊥
    by_parts (Some x) root second e = cc
    by_parts None None second e = cc
    by_parts None (Some r) (Some x) e = cc
    by_parts None (Some r) None e = cc

depth_loop : (us : List UnitRow) (node : ℕ) → depth_fault us ≡ Some (Loop node) → first_below (never_ends us) (length us) ≡ Some node
depth_loop us node e = by_parts (first_below (never_ends us) (length us)) (first_below (is_too_deep us) (length us)) e
  where
    by_parts : (endless deep : Option ℕ) → or_else (option_map Loop endless) (option_map TooDeep deep) ≡ Some (Loop node) → endless ≡ Some node
    by_parts (Some x) deep e = cc
    by_parts None (Some x) e = absurd (cc)
    by_parts None None e = absurd (cc)

-- a unit that leads on for as many steps as there are units leads on for ever
pub leads_on_for_ever : (us : List UnitRow) (node : ℕ) → tree_fault us ≡ Some (Loop node) → (steps : ℕ) → IsSome (climb steps us node)
unfolding tree_fault
leads_on_for_ever us node e steps =
    elim (some_or_none (shape_fault us)) [
      | inl shape ↦ absurd (shape_is_no_loop us node (shape.1
          ∙ (let f = ap (λ o. or_else o (depth_fault us)) shape.1 in let g : Some shape.0 ≡ Some (Loop node) = sym f ∙ e in g)))
      | inr shape ↦
          let depth : depth_fault us ≡ Some (Loop node) = sym (ap (λ o. or_else o (depth_fault us)) shape) ∙ e in
          let first : first_below (never_ends us) (length us) ≡ Some node = depth_loop us node depth in
          let parents = HasParents-from_none us (shape_parts us shape).0 in
          elim (first_below_tells (never_ends us) (length us)) [
            | inr none ↦ absurd (let n = none.0 in cc)
            | inl found ↦
                let same : found.0 ≡ node = let f = found.1 in cc in
                let endless : never_ends us node ≡ true = subst (λ (v : ℕ). never_ends us v ≡ true) same found.2.passes in
                let inside : node < length us = subst (λ (v : ℕ). v < length us) same found.2.below in
                elim (some_or_none (climb steps us node)) [
                  | inl there ↦ subst (λ (o : Option ℕ). IsSome o) (sym there.1) (some_is there.0)
                  | inr gone ↦
                      absurd (false≢true (sym (ap (is_some {T = ℕ}) (climb-ends us parents.in_range steps node inside gone)) ∙ endless))
                ]
          ]
    ]
  where
    some_is : (v : ℕ) → IsSome (Some v)
    some_is v = search rules

pub never_reaches : (us : List UnitRow) (e : TreeFault) → tree_fault us ≡ Some e → NeverReaches us e
never_reaches us (NoParent node) is = tt
never_reaches us NoRoot is = tt
never_reaches us (TwoRoots second) is = tt
never_reaches us (Loop node) is = leads_on_for_ever us node is
never_reaches us (TooDeep node) is = tt
never_reaches us Memory is = tt
