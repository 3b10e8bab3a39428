-- The place of a year among ascending years.
use Rattle.std.proofs.Common.{◌≡◌, ◌∙◌, ℕ, zero, suc, ◌+◌, ◌<◌, ◌≤◌, Bool, true, false, List, [], ◌∷◌, length, take, drop, get_or}
use Rattle.std.proofs.Common.{ℤ, Some, inl, inr, refl, sym, ap, arith, Ordering, Less, Equal, Greater}
use Rattle.std.specs.FinMap.{int_cmp-IsAntisymmetric}
use Rattle.std.specs.List.{list_all, list_any, HoldsAt}
use Rattle.std.specs.List.Sorted.{IsNonDecreasingBy, IsPartitionPoint}
use Rattle.std.specs.Ordering.{int_cmp, int_eq, is_eq, is_lt, is_gt, ordering_index, ordering_reverse}
use Rattle.std.proofs.lemmas.Cmp.{int_cmp_total}
use Rattle.std.proofs.lemmas.List.Folds.{list_any_none}
use Rattle.std.proofs.lemmas.Bool.{and_from, cases_lt}
use Rattle.table_rows.specs.Store.{rises}
use Rattle.table_rows.proofs.RiseLemmas.{sorted_from_rises, sorted-far}
use Rattle.table_sums.specs.Years.{comes_before, comes_after}

pub turned : (a b : ℤ) (o : Ordering) → int_cmp a b ≡ o → int_cmp b a ≡ ordering_reverse o
turned a b o is = int_cmp_total.antisymm b a ∙ ap ordering_reverse is

-- a later year doesn't answer less
later-answer : (a b year : ℤ) → int_cmp a b ≡ Less → ordering_index (int_cmp a year) ≤ ordering_index (int_cmp b year)
later-answer a b year less = by_order (int_cmp a year) refl
  where
    beyond : int_cmp year b ≡ Less → ordering_index (int_cmp b year) ≡ 2
    beyond below = ap ordering_index (turned year b Less below)

    by_order : (o : Ordering) → int_cmp a year ≡ o → ordering_index o ≤ ordering_index (int_cmp b year)
    by_order Less is = omega arith
    by_order Equal is = let last = beyond (sym (int_cmp_total.congr a year b is) ∙ less) in omega (arith, last)
    by_order Greater is = let last = beyond (int_cmp_total.trans year a b (turned a year Greater is) less) in omega (arith, last)

answers-rise : (years : List ℤ) (year : ℤ) → rises int_cmp years ≡ true → IsNonDecreasingBy (λ y. ordering_index (int_cmp y year)) years
answers-rise years year rise i j d upto within =
    let sorted = sorted_from_rises int_cmp int_cmp_total years rise in
    elim (cases_lt i j) [
      | inl less ↦ later-answer (get_or years i d) (get_or years j d) year (sorted-far int_cmp years i j d d sorted less within)
      | inr not ↦
          let same : i ≡ j = omega arith in
          let is : ordering_index (int_cmp (get_or years i d) year) ≡ ordering_index (int_cmp (get_or years j d) year) =
          ap (λ k. ordering_index (int_cmp (get_or years k d) year)) same in
          omega (arith, is)
    ]

pub year-found : (years : List ℤ) (year : ℤ) (at : ℕ) → HoldsAt (λ y. int_cmp y year ≡ Equal) years at → (d : ℤ) → get_or years at d ≡ year
year-found years year at holds d = int_cmp-IsAntisymmetric (get_or years at d) year (holds d)

pub year-missing : (years : List ℤ) (year : ℤ) (at : ℕ) → rises int_cmp years ≡ true
    → (IsNonDecreasingBy (λ y. ordering_index (int_cmp y year)) years → IsPartitionPoint (λ y. int_cmp y year ≡ Less) (λ y. int_cmp y year ≡ Greater) years at)
    → list_any (int_eq year) years ≡ false
year-missing years year at rise parts =
    let parted = parts (answers-rise years year rise) in
    list_any_none (int_eq year) years (λ k d within.
    elim (cases_lt k at) [
      | inl before ↦ ap is_eq (turned (get_or years k d) year Less (parted.0 k d (omega arith) before))
      | inr after ↦ ap is_eq (turned (get_or years k d) year Greater (parted.1 k d (omega arith) within))
    ])

-- ---- how many come before a year, and after how many all come after it

front-all : {X : Type 0} (t : X → Bool) (n : ℕ) (xs : List X) → ((k : ℕ) (d : X) → k < n → k < length xs → t (get_or xs k d) ≡ true)
    → list_all t (take n xs) ≡ true
front-all t zero xs all = refl
front-all t (suc n) [] all = refl
front-all t (suc n) (x ∷ xs) all =
    and_from (t x) (list_all t (take n xs)) (all 0 x (omega arith) (omega arith))
    (front-all t n xs (λ k d low within. all (suc k) d (omega (arith, low)) (omega (arith, within))))

back-all : {X : Type 0} (t : X → Bool) (n : ℕ) (xs : List X) → ((k : ℕ) (d : X) → n ≤ k → k < length xs → t (get_or xs k d) ≡ true)
    → list_all t (drop n xs) ≡ true
back-all t zero [] all = refl
back-all t zero (x ∷ xs) all =
    and_from (t x) (list_all t xs) (all 0 x (omega arith) (omega arith))
    (back-all t zero xs (λ k d low within. all (suc k) d (omega arith) (omega (arith, within))))
back-all t (suc n) [] all = refl
back-all t (suc n) (x ∷ xs) all = back-all t n xs (λ k d low within. all (suc k) d (omega (arith, low)) (omega (arith, within)))

pub before-found : (years : List ℤ) (year : ℤ) (at : ℕ) → rises int_cmp years ≡ true → at < length years → HoldsAt (λ y. int_cmp y year ≡ Equal) years at
    → list_all (comes_before (Some year)) (take at years) ≡ true
before-found years year at rise there holds =
    let sorted = sorted_from_rises int_cmp int_cmp_total years rise in
    front-all (comes_before (Some year)) at years (λ k d low within.
    ap (λ z. is_lt (int_cmp (get_or years k d) z)) (sym (year-found years year at holds d))
    ∙ ap is_lt (sorted-far int_cmp years k at d d sorted low there))

pub after-found : (years : List ℤ) (year : ℤ) (at : ℕ) → rises int_cmp years ≡ true → at < length years → HoldsAt (λ y. int_cmp y year ≡ Equal) years at
    → list_all (comes_after (Some year)) (drop (at + 1) years) ≡ true
after-found years year at rise there holds =
    let sorted = sorted_from_rises int_cmp int_cmp_total years rise in
    back-all (comes_after (Some year)) (at + 1) years (λ k d low within.
    ap (λ z. is_gt (int_cmp (get_or years k d) z)) (sym (year-found years year at holds d))
    ∙ ap is_gt (turned (get_or years at d) (get_or years k d) Less (sorted-far int_cmp years at k d d sorted (omega (arith, low)) within)))

parted-at : (years : List ℤ) (year : ℤ) (at : ℕ) → rises int_cmp years ≡ true
    → (IsNonDecreasingBy (λ y. ordering_index (int_cmp y year)) years → IsPartitionPoint (λ y. int_cmp y year ≡ Less) (λ y. int_cmp y year ≡ Greater) years at)
    → IsPartitionPoint (λ y. int_cmp y year ≡ Less) (λ y. int_cmp y year ≡ Greater) years at
parted-at years year at rise parts = parts (answers-rise years year rise)

pub before-missing : (years : List ℤ) (year : ℤ) (at : ℕ) → rises int_cmp years ≡ true
    → (IsNonDecreasingBy (λ y. ordering_index (int_cmp y year)) years → IsPartitionPoint (λ y. int_cmp y year ≡ Less) (λ y. int_cmp y year ≡ Greater) years at)
    → list_all (comes_before (Some year)) (take at years) ≡ true
before-missing years year at rise parts =
    front-all (comes_before (Some year)) at years (λ k d low within. ap is_lt ((parted-at years year at rise parts).0 k d (omega arith) low))

pub after-missing : (years : List ℤ) (year : ℤ) (at : ℕ) → rises int_cmp years ≡ true
    → (IsNonDecreasingBy (λ y. ordering_index (int_cmp y year)) years → IsPartitionPoint (λ y. int_cmp y year ≡ Less) (λ y. int_cmp y year ≡ Greater) years at)
    → list_all (comes_after (Some year)) (drop at years) ≡ true
after-missing years year at rise parts =
    back-all (comes_after (Some year)) at years (λ k d low within. ap is_gt ((parted-at years year at rise parts).1 k d low within))
