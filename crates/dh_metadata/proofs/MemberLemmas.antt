-- Lists of numbers in ascending order.
use Rattle.std.proofs.Common.{◌≡◌, ◌∙◌, ◌<◌, ◌≤◌, ◌∷◌, [], ◌||◌, ℕ, Bool, true, false, List, Result, Ok, Err, cond, length, get_or, refl, sym, ap, subst}
use Rattle.std.proofs.Common.{is_ok, eqb, ltb, arith}
use Rattle.std.specs.List.{dedup, dedup_from, filter}
use Rattle.std.specs.Option.{option_map_or}
use Rattle.std.specs.List.Sorted.{IsStrictlyIncreasing, IsBinarySearchResult, IsPermutation, IsSorted}
use Rattle.std.specs.Ordering.{nat_cmp}
use Rattle.std.proofs.lemmas.Bool.{eqb-true, eq-eqb, ne_eqb, ltb-true, ltb-false}
use Rattle.std.proofs.lemmas.List.{get_or_default}
use Rattle.std.proofs.lemmas.List.Kept.{AllPairs-from_increasing}
use Rattle.std.proofs.lemmas.List.Folds.{list_any_at, list_any_none}
use Rattle.std.proofs.lemmas.List.Sorted.{searched, list_any-IsPermutation}
use Rattle.std.proofs.lemmas.Map.Keys.{IsStrictlyIncreasing-dedup}
use Rattle.std.proofs.lemmas.Option.{slice_get-get_or, slice_get_past}
use Rattle.dh_metadata.specs.Members.{has, has_at, holders, AreHolders, IsSortedCopy, AreSortedCopies, EachAscends}

apart : (a b : ℕ) → a < b → eqb a b ≡ false
apart a b less = ne_eqb a b (λ same. omega arith)

apart-above : (a b : ℕ) → b < a → eqb a b ≡ false
apart-above a b more = ne_eqb a b (λ same. omega arith)

-- an ascending list doesn't fall
pub rises : (xs : List ℕ) → IsStrictlyIncreasing xs → (i j : ℕ) → i ≤ j → j < length xs → get_or xs i 0 ≤ get_or xs j 0
rises xs up i j low high =
    elim (ltb i j) as (λ b. ltb i j ≡ b → get_or xs i 0 ≤ get_or xs j 0) [
      | true ↦ λ less. let below : get_or xs i 0 < get_or xs j 0 = AllPairs-from_increasing xs up i j 0 (ltb-true i j less) high in omega arith
      | false ↦ λ more.
          let back : j ≤ i = ltb-false i j more in
          let same : i ≡ j = omega arith in
          subst (λ k. get_or xs i 0 ≤ get_or xs k 0) same (omega arith)
    ] refl

-- a binary search tells whether an ascending list has the number
pub search_finds : (xs : List ℕ) (n : ℕ) (r : Result ℕ ℕ) → IsStrictlyIncreasing xs → IsBinarySearchResult (λ y. nat_cmp y n) xs r → is_ok r ≡ has xs n
search_finds xs n (Ok i) up found =
    let at = searched xs n (Ok i) found (rises xs up) in
    sym (list_any_at (λ own. eqb own n) xs i 0 at.0 (eq-eqb (get_or xs i 0) n at.1))
search_finds xs n (Err i) up found =
    let at = searched xs n (Err i) found (rises xs up) in
    sym (list_any_none (λ own. eqb own n) xs (λ k d within.
    subst (λ x. eqb x n ≡ false) (sym (get_or_default xs k d 0 within))
    (elim (ltb k i) as (λ b. ltb k i ≡ b → eqb (get_or xs k 0) n ≡ false) [
      | true ↦ λ less. apart (get_or xs k 0) n (at.1 k (ltb-true k i less))
      | false ↦ λ more. apart-above (get_or xs k 0) n (at.2 k (ltb-false k i more) within)
    ] refl)))

either-again : (a r : Bool) → (a || r) ≡ (a || (a || r))
either-again true r = refl
either-again false r = refl

any-dedup_from : (n y : ℕ) (xs : List ℕ) → has (dedup_from eqb y xs) n ≡ (eqb y n || has xs n)
any-dedup_from n y [] = refl
any-dedup_from n y (x ∷ xs) =
    elim (eqb x y) as (λ b. eqb x y ≡ b → has (cond b (dedup_from eqb y xs) (y ∷ dedup_from eqb x xs)) n ≡ (eqb y n || (eqb x n || has xs n))) [
      | true ↦ λ same.
          let equal : x ≡ y = eqb-true x y same in
          any-dedup_from n y xs ∙ either-again (eqb y n) _ ∙ ap (λ z. eqb y n || (eqb z n || has xs n)) (sym equal)
      | false ↦ λ differ. ap (λ r. eqb y n || r) (any-dedup_from n x xs)
    ] refl

-- the list without repeats has the same numbers
any-dedup : (n : ℕ) (xs : List ℕ) → has (dedup eqb xs) n ≡ has xs n
any-dedup n [] = refl
any-dedup n (x ∷ xs) = any-dedup_from n x xs

-- a sorted list without its repeats is an ascending copy
pub copy_sorted : (numbers sorted copy : List ℕ) → IsPermutation numbers sorted → IsSorted nat_cmp sorted → copy ≡ dedup eqb sorted → IsSortedCopy numbers copy
copy_sorted numbers sorted copy same_items up kept = record {
  ascend = subst IsStrictlyIncreasing (sym kept) (IsStrictlyIncreasing-dedup sorted up);
  same = λ n. ap (λ l. has l n) kept ∙ any-dedup n sorted ∙ sym (list_any-IsPermutation (λ own. eqb own n) numbers sorted same_items);
}

-- copies of the same lists have numbers at the same places
pub same_at : (lists all : List (List ℕ)) → AreSortedCopies lists all → (n place : ℕ) → has_at all n place ≡ has_at lists n place
same_at lists all copies n place =
    elim (ltb place (length lists)) as (λ b. ltb place (length lists) ≡ b → has_at all n place ≡ has_at lists n place) [
      | true ↦ λ less.
          let within : place < length lists = ltb-true place (length lists) less in
          let held : place < length all = omega (arith, copies.same_length) in
          ap (λ o. option_map_or (λ numbers. has numbers n) o false) (slice_get-get_or all place [] held)
          ∙ (copies.each place within).same n
          ∙ sym (ap (λ o. option_map_or (λ numbers. has numbers n) o false) (slice_get-get_or lists place [] within))
      | false ↦ λ more.
          let past : length lists ≤ place = ltb-false place (length lists) more in
          let over : length all ≤ place = omega (arith, copies.same_length) in
          ap (λ o. option_map_or (λ numbers. has numbers n) o false) (slice_get_past all place over ∙ sym (slice_get_past lists place past))
    ] refl

filter-same : (p q : ℕ → Bool) → ((x : ℕ) → p x ≡ q x) → (xs : List ℕ) → filter p xs ≡ filter q xs
filter-same p q same [] = refl
filter-same p q same (x ∷ xs) =
    ap (λ b. cond b (x ∷ filter p xs) (filter p xs)) (same x) ∙ ap (λ l. cond (q x) (x ∷ l) l) (filter-same p q same xs)

-- so the same places have a number
pub same_holders : (lists all : List (List ℕ)) → AreSortedCopies lists all → (order : List ℕ) (n : ℕ) → holders all order n ≡ holders lists order n
same_holders lists all copies order n = filter-same (has_at all n) (has_at lists n) (same_at lists all copies n) order

pub raw_holders : (lists all : List (List ℕ)) → AreSortedCopies lists all → (order : List ℕ) (count : ℕ) (held : List (List ℕ))
    → AreHolders all order count held → AreHolders lists order count held
raw_holders lists all copies order count held h = record {
  same_length = h.same_length;
  each = λ n below. h.each n below ∙ same_holders lists all copies order n;
}

pub ascends : (lists all : List (List ℕ)) → AreSortedCopies lists all → EachAscends all
ascends lists all copies = record {
  each = λ k within. let inside : k < length lists = omega (arith, copies.same_length) in (copies.each k inside).ascend;
}

-- whether a list has a number, by its copy
pub held_has : (lists all : List (List ℕ)) → AreSortedCopies lists all → (place n : ℕ) → place < length lists
    → has (get_or all place []) n ≡ has_at lists n place
held_has lists all copies place n within =
    (copies.each place within).same n
    ∙ sym (ap (λ o. option_map_or (λ numbers. has numbers n) o false) (slice_get-get_or lists place [] within))
