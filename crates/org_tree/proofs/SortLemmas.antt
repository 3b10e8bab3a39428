-- A sort of the rows puts the units into families.
use Rattle.std.proofs.Common.{◌≡◌, ℕ, zero, suc, ◌+◌, ◌<◌, false, ◌==◌, List, [], ◌∷◌, ◌++◌, map, length, get_or, Ordering, refl, sym, ap, ◌∙◌, subst, inl}
use Rattle.std.proofs.Common.{inr, arith, length-append}
use Rattle.std.specs.Prelude.{IsPermutation, Contains, All}
use Rattle.std.specs.declared.cmp.Ordering.TheVariants.{Less, Equal, Greater}
use Rattle.std.specs.Cmp.{IsTotalOrder}
use Rattle.std.specs.Ordering.{nat_cmp, is_lt, ordering_then, ordering_reverse}
use Rattle.std.specs.Cmp.Lexicographic.{slice_cmp}
use Rattle.std.specs.List.{IsDistinct, AllByRecursion}
use Rattle.std.specs.List.Sorted.{IsSortedBy}
use Rattle.std.proofs.lemmas.Bool.{cases_eq, false≢true, eq-eqb, ne_eqb}
use Rattle.std.proofs.lemmas.Cmp.{nat_cmp_total, nat_list_cmp_total, then_total, on_total, nat_eq_equiv}
use Rattle.std.proofs.lemmas.List.{length-map, get_or-map, get_or_default}
use Rattle.std.proofs.lemmas.List.Elements.{All-push, All-map, All-nil, recursion_from_All, Contains-push, Contains-append_left}
use Rattle.std.proofs.lemmas.List.Sorted.{IsPermutation-map, length_permutation, All-permutation, Contains-permutation, sorted_far, ranks_by}
use Rattle.std.proofs.lemmas.Map.Keys.{IsDistinct-IsPermutation, apart_from_distinct}
use Rattle.std.proofs.lemmas.Map.Lookups.{exact_bytes}
use Rattle.org_tree.specs.declared.kin.Kin.{Kin}
use Rattle.org_tree.specs.Units.{UnitRow, id_at, level_of, IsTree}
use Rattle.org_tree.specs.Families.{family_of, kin_cmp, InFamilies}
use Rattle.org_tree.specs.KinRows.{kin_row, numbers}
use Rattle.org_tree.proofs.KinLemmas.{kin_total}

length-numbers : (n : ℕ) → length (numbers n) ≡ n
length-numbers zero = refl
length-numbers (suc n) = length-append (numbers n) (n ∷ []) ∙ ap (λ v. v + 1) (length-numbers n) ∙ omega arith

numbers-below : (n : ℕ) → All (λ v. v < n) (numbers n)
numbers-below zero = All-nil (λ v. v < 0)
numbers-below (suc n) =
    All-push (λ v. v < suc n) (numbers n) n
    (λ k d h. (let l : get_or (numbers n) k d < n = numbers-below n k d h in omega arith)) (omega arith)

numbers-hold : (n x : ℕ) → x < n → Contains (numbers n) x
numbers-hold zero x h = absurd (omega arith)
numbers-hold (suc n) x h =
    elim (cases_eq x n) [
      | inl last ↦ subst (λ (v : ℕ). Contains (numbers n ++ n ∷ []) v) (sym last) (Contains-push (numbers n) n)
      | inr other ↦ Contains-append_left (numbers n) (n ∷ []) x (numbers-hold n x (omega arith))
    ]

distinct_push : (xs : List ℕ) (v : ℕ) → IsDistinct (λ a b. a == b) xs → AllByRecursion (λ y. (y == v) ≡ false) xs → IsDistinct (λ a b. a == b) (xs ++ v ∷ [])
unfolding IsDistinct
distinct_push [] v distinct other = (tt, tt)
distinct_push (x ∷ xs) v distinct other =
    (all_push xs distinct.0 other.0, distinct_push xs v distinct.1 other.1)
  where
    all_push : (ys : List ℕ) → AllByRecursion (λ y. (x == y) ≡ false) ys → (x == v) ≡ false → AllByRecursion (λ y. (x == y) ≡ false) (ys ++ v ∷ [])
    all_push [] all last = (last, tt)
    all_push (y ∷ ys) all last = (all.0, all_push ys all.1 last)

below-recursion : (P : ℕ → Type 0) (xs : List ℕ) → All P xs → AllByRecursion P xs
below-recursion P xs all = recursion_from_All P xs all

numbers-distinct : (n : ℕ) → IsDistinct (λ a b. a == b) (numbers n)
unfolding IsDistinct
numbers-distinct zero = tt
numbers-distinct (suc n) =
    distinct_push (numbers n) n (numbers-distinct n)
    (below-recursion (λ y. (y == n) ≡ false) (numbers n) (λ k d h.
    ne_eqb (get_or (numbers n) k d) n (λ e. (let l : get_or (numbers n) k d < n = numbers-below n k d h in omega arith))))

places-rows : (us : List UnitRow) (xs : List ℕ) → map (λ (row : Kin). row.place) (map (kin_row us) xs) ≡ xs
places-rows us [] = refl
places-rows us (x ∷ xs) = ap (λ rest. x ∷ rest) (places-rows us xs)

-- the order that the code's rows derive
abbrev row_cmp : Kin → Kin → Ordering
row_cmp a b =
    ordering_then (nat_cmp a.level b.level)
    (ordering_then (nat_cmp a.family b.family) (ordering_then (slice_cmp nat_cmp a.id b.id) (nat_cmp a.place b.place)))

row_total : IsTotalOrder row_cmp
row_total =
    then_total (on_total (λ (row : Kin). row.level) nat_cmp_total)
    (then_total (on_total (λ (row : Kin). row.family) nat_cmp_total)
    (then_total (on_total (λ (row : Kin). row.id) nat_list_cmp_total) (on_total (λ (row : Kin). row.place) nat_cmp_total)))

less_further : (level family id place : Ordering) → ordering_then level (ordering_then family id) ≡ Less
    → ordering_then level (ordering_then family (ordering_then id place)) ≡ Less
less_further Less family id place e = refl
less_further Equal Less id place e = refl
less_further Equal Equal Less place e = refl
less_further Equal Equal Equal place e = absurd (cc)
less_further Equal Equal Greater place e = absurd (cc)
less_further Equal Greater id place e = absurd (cc)
less_further Greater family id place e = absurd (cc)

equal_inside : (level family id : Ordering) → ordering_then level (ordering_then family id) ≡ Equal → id ≡ Equal
equal_inside Less family id e = absurd (cc)
equal_inside Equal Less id e = absurd (cc)
equal_inside Equal Equal id e = e
equal_inside Equal Greater id e = absurd (cc)
equal_inside Greater family id e = absurd (cc)

-- sorted rows are strictly sorted as units, since no unit stands twice
kin_less : (us : List UnitRow) → IsTree us → (a b : ℕ) → a < length us → b < length us → ¬ (a ≡ b) → is_lt (row_cmp (kin_row us b) (kin_row us a)) ≡ false
    → kin_cmp us a b ≡ Less
kin_less us t a b h i apart not_less = by_order (kin_cmp us a b) refl
  where
    by_order : (o : Ordering) → kin_cmp us a b ≡ o → kin_cmp us a b ≡ Less
    by_order Less e = e
    by_order Equal e =
        absurd (apart (t.ids_differ a b h i (exact_bytes (id_at us a) (id_at us b)
        (equal_inside (nat_cmp (level_of us a) (level_of us b)) (nat_cmp (family_of us a) (family_of us b)) (slice_cmp nat_cmp (id_at us a) (id_at us b))
        e))))
    by_order Greater e =
        let back : kin_cmp us b a ≡ Less = (kin_total us).antisymm b a ∙ ap ordering_reverse e in
        let less : row_cmp (kin_row us b) (kin_row us a) ≡ Less =
        less_further (nat_cmp (level_of us b) (level_of us a)) (nat_cmp (family_of us b) (family_of us a)) (slice_cmp nat_cmp (id_at us b) (id_at us a))
        (nat_cmp b a) back in
        absurd (false≢true (sym not_less ∙ ap is_lt less))

pub InFamilies-from_sort : (us : List UnitRow) → IsTree us → (rows sorted : List Kin) → rows ≡ map (kin_row us) (numbers (length us))
    → IsPermutation rows sorted → IsSortedBy (λ a b. is_lt (row_cmp a b)) sorted → InFamilies us (map (λ (row : Kin). row.place) sorted)
InFamilies-from_sort us t rows sorted made moved up =
    let n = length us in
    let kin : List ℕ = map (λ (row : Kin). row.place) sorted in
    let whole : map (λ (row : Kin). row.place) rows ≡ numbers n = ap (map (λ (row : Kin). row.place)) made ∙ places-rows us (numbers n) in
    let moved_places : IsPermutation (numbers n) kin =
    subst (λ (v : List ℕ). IsPermutation v kin) whole (IsPermutation-map (λ (row : Kin). row.place) rows sorted moved) in
    let len : length kin ≡ n = length_permutation (numbers n) kin moved_places ∙ length-numbers n in
    let below : All (λ v. v < n) kin = All-permutation (λ v. v < n) (numbers n) kin moved_places (numbers-below n) in
    let distinct : IsDistinct (λ a b. a == b) kin =
    IsDistinct-IsPermutation (λ a b. a == b) nat_eq_equiv.symm (numbers n) kin moved_places (numbers-distinct n) in
    let own : All (λ (row : Kin). row ≡ kin_row us row.place) sorted =
    All-permutation (λ (row : Kin). row ≡ kin_row us row.place) rows sorted moved
    (subst (λ (v : List Kin). All (λ (row : Kin). row ≡ kin_row us row.place) v) (sym made)
    (All-map (λ (row : Kin). row ≡ kin_row us row.place) (kin_row us) (numbers n) (λ k d h. refl))) in
    record {
      same_length = len;
      in_range = λ i h. below i 0 (omega arith);
      found = λ x h.
          (let at : Contains kin x = Contains-permutation (numbers n) kin x moved_places (numbers-hold n x h) in
          (at.0, (omega (arith, at.1), get_or_default kin at.0 0 x at.1 ∙ at.2)));
      sorted = λ i j l h.
          (let d : Kin = kin_row us 0 in
          let i_in : i < length sorted = let e = length-map sorted (λ (row : Kin). row.place) in omega arith in
          let j_in : j < length sorted = let e = length-map sorted (λ (row : Kin). row.place) in omega arith in
          let far : is_lt (row_cmp (get_or sorted j d) (get_or sorted i d)) ≡ false =
          sorted_far (λ a b. is_lt (row_cmp a b)) (ranks_by row_total (λ (row : Kin). row)) sorted up i j d (omega arith) j_in in
          let place_i : get_or kin i 0 ≡ (get_or sorted i d).place = get_or-map (λ (row : Kin). row.place) sorted i d 0 i_in in
          let place_j : get_or kin j 0 ≡ (get_or sorted j d).place = get_or-map (λ (row : Kin). row.place) sorted j d 0 j_in in
          let row_i : get_or sorted i d ≡ kin_row us (get_or kin i 0) = own i d i_in ∙ ap (kin_row us) (sym place_i) in
          let row_j : get_or sorted j d ≡ kin_row us (get_or kin j 0) = own j d j_in ∙ ap (kin_row us) (sym place_j) in
          let not_less : is_lt (row_cmp (kin_row us (get_or kin j 0)) (kin_row us (get_or kin i 0))) ≡ false =
          ap (λ row. is_lt (row_cmp row (kin_row us (get_or kin i 0)))) (sym row_j) ∙ ap (λ row. is_lt (row_cmp (get_or sorted j d) row)) (sym row_i) ∙ far in
          kin_less us t (get_or kin i 0) (get_or kin j 0) (below i 0 (omega arith)) (below j 0 (omega arith))
          (λ same. false≢true (sym (apart_from_distinct (λ a b. a == b) kin i j 0 distinct l (omega arith)) ∙ eq-eqb (get_or kin i 0) (get_or kin j 0) same))
          not_less);
    }
