-- The units that are assigned to a data set, by their orders.
use Rattle.std.proofs.Common.{◌≡◌, ◌∙◌, ℕ, zero, suc, ◌+◌, ◌^◌, ◌<◌, ◌≤◌, Bool, true, false, cond, ◌&&◌, List, [], ◌∷◌, ◌++◌, length, get_or, Some, None}
use Rattle.std.proofs.Common.{refl, sym, ap, subst, arith, inl, inr, add-one, length-append}
use Rattle.std.specs.Prelude.{nat_eq}
use Rattle.std.specs.List.{filter}
use Rattle.std.specs.Option.{option_map_or}
use Rattle.std.proofs.Math.ListN.{get_or-append}
use Rattle.std.proofs.Math.Seq.{get_or-append_seam}
use Rattle.std.proofs.lemmas.Bool.{cases_lt, false≢true, eqb-true, eq-eqb}
use Rattle.std.proofs.lemmas.List.Elements.{filter-append}
use Rattle.org_tree.specs.Count.{count_below}
use Rattle.org_tree.specs.Units.{UnitRow, IsTree, order_of}
use Rattle.org_tree.proofs.CountLemmas.{first_below_tells}
use Rattle.org_tree.proofs.OrderLemmas.{order-lt, order-differs}
use Rattle.dh_metadata.specs.declared.held.Records.{Records}
use Rattle.dh_metadata.specs.Approval.{unit_rows}
use Rattle.dh_metadata.specs.Sets.{is_assigned}
use Rattle.cell_values.specs.Places.{unit_with}
use Rattle.cell_values.specs.Reporting.{is_assigned_at}
use Rattle.cell_values.specs.Prepared.{AreAssigned}
use Rattle.cell_values.proofs.CountLemmas.{count-one}

-- ---- one order

unit_with-is : (us : List UnitRow) → IsTree us → (x order : ℕ) → x < length us → order_of us x ≡ order → unit_with us order ≡ Some x
unfolding unit_with
unit_with-is us t x order h is =
    elim (first_below_tells (λ y. nat_eq (order_of us y) order) (length us)) [
      | inl found ↦
          let there : order_of us found.0 ≡ order = eqb-true (order_of us found.0) order found.2.passes in
          found.1 ∙ ap Some (order-differs us t found.0 x found.2.below h (there ∙ sym is))
      | inr none ↦ absurd (false≢true (sym (none.1 x h) ∙ eq-eqb (order_of us x) order is))
    ]

unit_with-past : (us : List UnitRow) → IsTree us → (order : ℕ) → length us ≤ order → unit_with us order ≡ None
unfolding unit_with
unit_with-past us t order past =
    elim (first_below_tells (λ y. nat_eq (order_of us y) order) (length us)) [
      | inl found ↦
          let there : order_of us found.0 ≡ order = eqb-true (order_of us found.0) order found.2.passes in
          let low = order-lt us t found.0 found.2.below in
          absurd (omega (arith, there, low, past))
      | inr none ↦ none.0
    ]

pub assigned-there : (r : Records) (set x order : ℕ) (us : List UnitRow) → us ≡ unit_rows r → IsTree us → x < length us → order_of us x ≡ order
    → is_assigned r set x ≡ is_assigned_at r set order
unfolding is_assigned_at
assigned-there r set x order us is t h at =
    let found : unit_with (unit_rows r) order ≡ Some x = subst (λ (v : List UnitRow). unit_with v order ≡ Some x) is (unit_with-is us t x order h at) in
    sym (ap (λ o. option_map_or (λ unit. is_assigned r set unit) o false) found)

pub assigned-past : (r : Records) (set order : ℕ) (us : List UnitRow) → us ≡ unit_rows r → IsTree us → length us ≤ order
    → false ≡ is_assigned_at r set order
unfolding is_assigned_at
assigned-past r set order us is t past =
    let none : unit_with (unit_rows r) order ≡ None = subst (λ (v : List UnitRow). unit_with v order ≡ None) is (unit_with-past us t order past) in
    sym (ap (λ o. option_map_or (λ unit. is_assigned r set unit) o false) none)

-- ---- all orders

-- the numbers below an end that pass a test, ascending
abbrev pub passing : (ℕ → Bool) → ℕ → List ℕ
passing test zero = []
passing test (suc n) = passing test n ++ cond (test n) (n ∷ []) []

pub passing-more : (test : ℕ → Bool) (n : ℕ) → passing test (n + 1) ≡ passing test n ++ cond (test n) (n ∷ []) []
passing-more test n = rw add-one refl

pub passing-few : (test : ℕ → Bool) (n : ℕ) → length (passing test n) ≤ n
passing-few test zero = omega arith
passing-few test (suc n) =
    let rest = passing-few test n in
    let all = length-append (passing test n) (cond (test n) (n ∷ []) []) in
    let one = at_most (test n) n in
    omega (arith, rest, all, one)
  where
    at_most : (b : Bool) (n : ℕ) → length (cond b (n ∷ []) []) ≤ 1
    at_most true n = omega arith
    at_most false n = omega arith

-- a member of a list with one number more, where it is there
with_last : (b : Bool) (xs : List ℕ) (n k : ℕ) → length xs ≤ k → k < length (xs ++ cond b (n ∷ []) [])
    → (k ≡ length xs) × (get_or (xs ++ cond b (n ∷ []) []) k 0 ≡ n)
with_last true xs n k back within =
    let all = length-append xs (n ∷ []) in
    let at : k ≡ length xs = omega (arith, back, within, all) in
    (at, ap (λ i. get_or (xs ++ n ∷ []) i 0) at ∙ get_or-append_seam xs n [] 0)
with_last false xs n k back within =
    let all = length-append xs [] in
    absurd (omega (arith, back, within, all))

-- where all members are below n, so they are below the next with n
below-more : (b : Bool) (xs : List ℕ) (n : ℕ) → ((k : ℕ) → k < length xs → get_or xs k 0 < n) → (k : ℕ) → k < length (xs ++ cond b (n ∷ []) [])
    → get_or (xs ++ cond b (n ∷ []) []) k 0 < suc n
below-more b xs n below k within =
    elim (cases_lt k (length xs)) [
      | inl front ↦
          let low = below k front in
          let same : get_or (xs ++ cond b (n ∷ []) []) k 0 ≡ get_or xs k 0 = get_or-append xs (cond b (n ∷ []) []) 0 k front in
          omega (arith, low, same)
      | inr back ↦ let last = (with_last b xs n k back within).1 in omega (arith, last)
    ]

ascends-more : (b : Bool) (xs : List ℕ) (n : ℕ) → ((k : ℕ) → k < length xs → get_or xs k 0 < n)
    → ((j k : ℕ) → j ≤ k → k < length xs → get_or xs j 0 ≤ get_or xs k 0) → (j k : ℕ) → j ≤ k → k < length (xs ++ cond b (n ∷ []) [])
    → get_or (xs ++ cond b (n ∷ []) []) j 0 ≤ get_or (xs ++ cond b (n ∷ []) []) k 0
ascends-more b xs n below up j k upto within =
    elim (cases_lt k (length xs)) [
      | inl front ↦
          let low = up j k upto front in
          let first : get_or (xs ++ cond b (n ∷ []) []) j 0 ≡ get_or xs j 0 = get_or-append xs (cond b (n ∷ []) []) 0 j (omega (arith, upto, front)) in
          let second : get_or (xs ++ cond b (n ∷ []) []) k 0 ≡ get_or xs k 0 = get_or-append xs (cond b (n ∷ []) []) 0 k front in
          omega (arith, low, first, second)
      | inr back ↦
          let last = (with_last b xs n k back within).1 in
          let low : get_or (xs ++ cond b (n ∷ []) []) j 0 < suc n = below-more b xs n below j (omega (arith, upto, within)) in
          omega (arith, last, low)
    ]

-- all are below the end
passing-below : (test : ℕ → Bool) (n k : ℕ) → k < length (passing test n) → get_or (passing test n) k 0 < n
passing-below test zero k h = absurd (omega arith)
passing-below test (suc n) k h = below-more (test n) (passing test n) n (λ i within. passing-below test n i within) k h

passing-ascends : (test : ℕ → Bool) (n j k : ℕ) → j ≤ k → k < length (passing test n) → get_or (passing test n) j 0 ≤ get_or (passing test n) k 0
passing-ascends test zero j k upto h = absurd (omega arith)
passing-ascends test (suc n) j k upto h =
    ascends-more (test n) (passing test n) n (λ i within. passing-below test n i within)
    (λ i l under within. passing-ascends test n i l under within) j k upto h

passing-count : (p test : ℕ → Bool) (n : ℕ) → length (filter test (passing p n)) ≡ count_below (λ k. p k && test k) n
passing-count p test zero = refl
passing-count p test (suc n) =
    ap length (filter-append test (passing p n) (cond (p n) (n ∷ []) []))
    ∙ length-append (filter test (passing p n)) (filter test (cond (p n) (n ∷ []) []))
    ∙ ap (λ c. c + length (filter test (cond (p n) (n ∷ []) []))) (passing-count p test n)
    ∙ ap (λ c. count_below (λ k. p k && test k) n + c) (one (p n) (test n) refl)
  where
    one : (a b : Bool) → test n ≡ b → length (filter test (cond a (n ∷ []) [])) ≡ cond (a && b) 1 0
    one true b is = count-one (test n) n [] ∙ ap (λ v. cond v 1 0 + 0) is ∙ no_more (cond b 1 0)
      where
        no_more : (c : ℕ) → c + 0 ≡ c
        no_more c = omega arith
    one false b is = refl

pub assigned-all : (r : Records) (set : ℕ) (orders : List ℕ) (n : ℕ) → n ≡ length r.organisation_units → n < 2 ^ 32
    → orders ≡ passing (is_assigned_at r set) n → AreAssigned r set orders
assigned-all r set orders n all few is =
    let listed : orders ≡ passing (is_assigned_at r set) (length r.organisation_units) = is ∙ ap (passing (is_assigned_at r set)) all in
    let made : AreAssigned r set (passing (is_assigned_at r set) (length r.organisation_units)) = record {
      ascend = record { far = λ j k upto h. passing-ascends (is_assigned_at r set) (length r.organisation_units) j k upto h };
      few = (let short = passing-few (is_assigned_at r set) (length r.organisation_units) in omega (arith, short, all, few));
      count = λ test. passing-count (is_assigned_at r set) test (length r.organisation_units);
    } in
    subst (AreAssigned r set) (sym listed) made
