-- Levels and loops as a build finds them.
use Rattle.std.proofs.Common.{◌≡◌, ℕ, zero, suc, ◌+◌, ◌*◌, ◌<◌, ◌≤◌, false, List, [], ◌∷◌, ◌++◌, length, get_or, Option, Some, None, sym, ap, ◌∙◌, subst}
use Rattle.std.proofs.Common.{inl, inr, arith, add-one}
use Rattle.std.specs.Prelude.{option_and_then, is_some}
use Rattle.std.proofs.lemmas.Bool.{cases_eq, cases_lt}
use Rattle.std.proofs.lemmas.List.{get_or_append_left, get_or_push, length_push}
use Rattle.std.proofs.lemmas.Option.{slice_get_past}
use Rattle.org_tree.specs.Count.{first_below}
use Rattle.org_tree.specs.Units.{UnitRow, parent_of, climb, HasParents}
use Rattle.org_tree.specs.Faults.{never_ends, is_too_deep}
use Rattle.org_tree.specs.Levels.{HasLevel, jump, leads_on, StaysInside, Climbs, IsTwice}
use Rattle.org_tree.proofs.CountLemmas.{first_below-agree}
use Rattle.org_tree.proofs.RowLemmas.{jump-read}
use Rattle.org_tree.proofs.ClimbLemmas.{some_or_none, climb-zero, climb-child, climb-root, climb-add, climb-upper, climb-ends, climb-more}

-- a list of jumps that grows: each place so far has its value
pub jump-push : (jumps : List (Option ℕ)) (v : Option ℕ) (i : ℕ) (f : ℕ → Option ℕ) → length jumps ≡ i → ((x : ℕ) → x < i → jump jumps x ≡ f x) → v ≡ f i
    → (x : ℕ) → x < i + 1 → jump (jumps ++ v ∷ []) x ≡ f x
jump-push jumps v i f len each here x h =
    let longer : length (jumps ++ v ∷ []) ≡ length jumps + 1 = length_push jumps v in
    let inside : x < length (jumps ++ v ∷ []) = omega arith in
    elim (cases_eq x i) [
      | inl last ↦
          jump-read (jumps ++ v ∷ []) x None inside ∙ ap (λ (k : ℕ). get_or (jumps ++ v ∷ []) k None) last
          ∙ get_or_push jumps v None i len ∙ here ∙ ap f (sym last)
      | inr other ↦
          let below : x < length jumps = omega arith in
          jump-read (jumps ++ v ∷ []) x None inside ∙ get_or_append_left jumps (v ∷ []) None x below
          ∙ sym (jump-read jumps x None below) ∙ each x (omega arith)
    ]

pub climb-one : (us : List UnitRow) (x : ℕ) → climb 1 us x ≡ parent_of us x
climb-one us x =
    elim (some_or_none (parent_of us x)) [
      | inl up ↦ climb-child 0 us x up.0 up.1 ∙ climb-zero us up.0 ∙ sym up.1
      | inr top ↦ climb-root 0 us x top ∙ sym top
    ]

pub climb-in_range : (us : List UnitRow) → HasParents us → (steps x y : ℕ) → x < length us → climb steps us x ≡ Some y → y < length us
climb-in_range us ps zero x y h here = let e : x ≡ y = let c = climb-zero us x in cc in subst (λ (v : ℕ). v < length us) e h
climb-in_range us ps (suc steps) x y h here =
    elim (some_or_none (parent_of us x)) [
      | inl up ↦ climb-in_range us ps steps up.0 y (ps.in_range x up.0 up.1) (sym (climb-child steps us x up.0 up.1) ∙ here)
      | inr top ↦ absurd (let c = climb-root steps us x top in cc)
    ]

pub StaysInside-from_Climbs : (us : List UnitRow) → HasParents us → (steps : ℕ) (jumps : List (Option ℕ)) → Climbs us steps jumps → StaysInside jumps
StaysInside-from_Climbs us ps steps jumps climbs = record { in_range = inside }
  where
    inside : (x p : ℕ) → jump jumps x ≡ Some p → p < length jumps
    inside x p there =
        elim (cases_lt x (length jumps)) [
          | inl h ↦
              let in_list : x < length us = let e = climbs.same_length in omega arith in
              let below : p < length us = climb-in_range us ps steps x p in_list (sym (climbs.each x in_list) ∙ there) in
              let e = climbs.same_length in omega arith
          | inr past ↦ absurd (let c = ap (option_and_then (λ (v : Option ℕ). v)) (slice_get_past jumps x past) in cc)
        ]

pub Climbs-twice : (us : List UnitRow) → HasParents us → (steps : ℕ) (jumps double : List (Option ℕ)) → Climbs us steps jumps → IsTwice jumps double
    → Climbs us (steps * 2) double
Climbs-twice us ps steps jumps double climbs two = record { same_length = two.same_length ∙ climbs.same_length; each = each }
  where
    each : (x : ℕ) → x < length us → jump double x ≡ climb (steps * 2) us x
    each x h =
        let inside : x < length jumps = let e = climbs.same_length in omega arith in
        let sum : steps * 2 ≡ steps + steps = omega arith in
        two.each x inside ∙ ap (option_and_then (λ p. jump jumps p)) (climbs.each x h)
        ∙ elim (some_or_none (climb steps us x)) as (λ _. option_and_then (λ p. jump jumps p) (climb steps us x) ≡ climb (steps * 2) us x) [
          | inl there ↦
              ap (option_and_then (λ p. jump jumps p)) there.1
              ∙ climbs.each there.0 (climb-in_range us ps steps x there.0 h there.1)
              ∙ sym (ap (λ (v : ℕ). climb v us x) sum ∙ climb-add steps steps us x ∙ ap (option_and_then (λ y. climb steps us y)) there.1)
          | inr gone ↦
              ap (option_and_then (λ p. jump jumps p)) gone
              ∙ sym (ap (λ (v : ℕ). climb v us x) sum ∙ climb-add steps steps us x ∙ ap (option_and_then (λ y. climb steps us y)) gone)
        ]

-- who leads on after so many steps leads on for ever
pub endless-from_Climbs : (us : List UnitRow) → HasParents us → (steps : ℕ) (jumps : List (Option ℕ)) → Climbs us steps jumps → length us ≤ steps
    → first_below (leads_on jumps) (length jumps) ≡ first_below (never_ends us) (length us)
endless-from_Climbs us ps steps jumps climbs far =
    ap (first_below (leads_on jumps)) climbs.same_length ∙ first_below-agree (leads_on jumps) (never_ends us) (length us) same
  where
    same : (x : ℕ) → x < length us → leads_on jumps x ≡ never_ends us x
    same x h =
        ap (is_some {T = ℕ}) (climbs.each x h)
        ∙ elim (some_or_none (climb steps us x)) as (λ _. is_some (climb steps us x) ≡ is_some (climb (length us) us x)) [
          | inr gone ↦ ap (is_some {T = ℕ}) (gone ∙ sym (climb-ends us ps.in_range steps x h gone))
          | inl there ↦
              elim (some_or_none (climb (length us) us x)) [
                | inl goes_on ↦ ap (is_some {T = ℕ}) there.1 ∙ sym (ap (is_some {T = ℕ}) goes_on.1)
                | inr gone ↦ absurd (let c = climb-more (length us) steps us x far gone in let d = there.1 in cc)
              ]
        ]

-- a list of numbers that grows: what holds of each so far
pub each_push : (P : ℕ → ℕ → Type 0) (xs : List ℕ) (v i : ℕ) → length xs ≡ i → ((x : ℕ) → x < i → P x (get_or xs x 0)) → P i v → (x : ℕ) → x < i + 1
    → P x (get_or (xs ++ v ∷ []) x 0)
each_push P xs v i len each here x h =
    elim (cases_eq x i) [
      | inl last ↦
          let e : get_or (xs ++ v ∷ []) x 0 ≡ v = ap (λ (k : ℕ). get_or (xs ++ v ∷ []) k 0) last ∙ get_or_push xs v 0 i len in
          subst (λ (w : ℕ). P x w) (sym e) (subst (λ (k : ℕ). P k v) (sym last) here)
      | inr other ↦
          let below : x < length xs = omega arith in
          subst (λ (w : ℕ). P x w) (sym (get_or_append_left xs (v ∷ []) 0 x below)) (each x (omega arith))
    ]

-- the root stands so many steps above, and one step more leads nowhere
pub ends-from_HasLevel : (us : List UnitRow) (x level : ℕ) → HasLevel us x level → climb level us x ≡ None
ends-from_HasLevel us x level has =
    ap (λ (v : ℕ). climb v us x) (has.is ∙ add-one has.above) ∙ climb-upper has.above us x
    ∙ ap (option_and_then (λ y. parent_of us y)) has.reached ∙ has.top

pub shallow-from_HasLevel : (us : List UnitRow) (x level : ℕ) → HasLevel us x level → is_too_deep us x ≡ false
shallow-from_HasLevel us x level has =
    ap (is_some {T = ℕ}) (climb-more level 12 us x has.shallow (ends-from_HasLevel us x level has))
