-- Identifiers that differ as neighbours of a sorted list differ everywhere.
use Rattle.std.proofs.Common.{◌≡◌, ◌⊎◌, ℕ, ◌+◌, ◌<◌, ◌≤◌, Bool, true, false, List, [], map, length, get_or, None, Ordering, refl, sym, ap, ◌∙◌, inl, inr, arith}
use Rattle.std.specs.Prelude.{bytes_eq, ◌-◌, ◌↔◌, IsTrue, MatchBool, IsPermutation}
use Rattle.std.specs.declared.cmp.Ordering.TheVariants.{Less, Equal, Greater}
use Rattle.std.specs.Ordering.{nat_cmp, is_lt, is_eq, eq_by_cmp, ordering_reverse}
use Rattle.std.specs.Cmp.Lexicographic.{slice_cmp, bytes_decides}
use Rattle.std.specs.List.{IsDistinct}
use Rattle.std.specs.List.Sorted.{IsSorted, IsStrictlySortedBy}
use Rattle.std.proofs.lemmas.Bool.{cases_order, false≢true}
use Rattle.std.proofs.lemmas.Cmp.{nat_list_cmp_total, tied_itself, eq_by_cmp_equiv}
use Rattle.std.proofs.lemmas.Map.Text.{is_eq-slice_cmp}
use Rattle.std.proofs.lemmas.Map.Lookups.{exact_bytes}
use Rattle.std.proofs.lemmas.Map.Keys.{IsDistinct-from_sorted, IsDistinct-from_apart, apart_from_distinct, IsDistinct-IsPermutation, sorted_from_all_adjacent}
use Rattle.std.proofs.lemmas.List.{length-map, get_or-map, get_or_default}
use Rattle.std.proofs.lemmas.List.Sorted.{IsPermutation-sym}
use Rattle.org_tree.specs.Ids.{NeighboursDiffer, NeighboursMeet}
use Rattle.org_tree.specs.Units.{UnitRow, id_at, HasOwnIds}
use Rattle.org_tree.proofs.RowLemmas.{id_at-read}

abbrev id_cmp : List ℕ → List ℕ → Ordering
id_cmp = slice_cmp nat_cmp

abbrev ids_of : List UnitRow → List (List ℕ)
ids_of us = map (λ (u : UnitRow). u.0) us

id_of_place : (us : List UnitRow) (x : ℕ) → x < length us → get_or (ids_of us) x [] ≡ id_at us x
id_of_place us x h = get_or-map (λ (u : UnitRow). u.0) us x ([], None) [] h ∙ sym (id_at-read us x ([], None) h)

-- neighbours that are sorted and differ ascend
ascend : (o : Ordering) (back : Ordering) → back ≡ ordering_reverse o → is_lt back ≡ false → is_eq o ≡ false → o ≡ Less
ascend Less back turned low apart = refl
ascend Equal back turned low apart = absurd (false≢true (sym apart))
ascend Greater back turned low apart = absurd (false≢true (sym low ∙ ap is_lt turned))

pub HasOwnIds-from_neighbours : (us : List UnitRow) (sorted : List (List ℕ)) → IsPermutation (ids_of us) sorted → IsSorted id_cmp sorted
    → NeighboursDiffer sorted → HasOwnIds us
HasOwnIds-from_neighbours us sorted moved up apart = record { differ = λ x y h i same. by_order x y h i same (cases_order x y) }
  where
    strict : IsStrictlySortedBy id_cmp sorted
    strict =
        sorted_from_all_adjacent nat_list_cmp_total sorted []
        (λ k h. ascend (id_cmp (get_or sorted k []) (get_or sorted (k + 1) [])) (id_cmp (get_or sorted (k + 1) []) (get_or sorted k []))
        (nat_list_cmp_total.antisymm (get_or sorted (k + 1) []) (get_or sorted k [])) (up k [] (omega arith) h)
        (is_eq-slice_cmp (get_or sorted k []) (get_or sorted (k + 1) []) ∙ apart.differ k h))

    distinct : IsDistinct (eq_by_cmp id_cmp) (ids_of us)
    distinct =
        IsDistinct-IsPermutation (eq_by_cmp id_cmp) (eq_by_cmp_equiv nat_list_cmp_total).symm sorted (ids_of us)
        (IsPermutation-sym (ids_of us) sorted moved) (IsDistinct-from_sorted id_cmp sorted strict)

    two : (a b : ℕ) → a < b → b < length us → id_at us a ≡ id_at us b → ⊥
    two a b l h same =
        let len : length (ids_of us) ≡ length us = length-map us (λ (u : UnitRow). u.0) in
        let other : eq_by_cmp id_cmp (get_or (ids_of us) a []) (get_or (ids_of us) b []) ≡ false =
        apart_from_distinct (eq_by_cmp id_cmp) (ids_of us) a b [] distinct l (omega arith) in
        let equal : get_or (ids_of us) a [] ≡ get_or (ids_of us) b [] = id_of_place us a (omega arith) ∙ same ∙ sym (id_of_place us b h) in
        false≢true (sym other ∙ ap (λ v. eq_by_cmp id_cmp v (get_or (ids_of us) b [])) equal
        ∙ ap is_eq (tied_itself nat_list_cmp_total (get_or (ids_of us) b [])))

    by_order : (x y : ℕ) → x < length us → y < length us → id_at us x ≡ id_at us y → (x ≡ y) ⊎ ((x < y) ⊎ (y < x)) → x ≡ y
    by_order x y h i same (inl e) = e
    by_order x y h i same (inr (inl l)) = absurd (two x y l i same)
    by_order x y h i same (inr (inr l)) = absurd (two y x l h (sym same))

pub not_own_from_neighbours : (us : List UnitRow) (sorted : List (List ℕ)) → IsPermutation (ids_of us) sorted → NeighboursMeet sorted → HasOwnIds us → ⊥
not_own_from_neighbours us sorted moved meet own =
    let distinct : IsDistinct (eq_by_cmp id_cmp) (ids_of us) =
    IsDistinct-from_apart (eq_by_cmp id_cmp) (ids_of us) (λ i j d l h. apart i j d l h) in
    let moved_distinct : IsDistinct (eq_by_cmp id_cmp) sorted =
    IsDistinct-IsPermutation (eq_by_cmp id_cmp) (eq_by_cmp_equiv nat_list_cmp_total).symm (ids_of us) sorted moved distinct in
    let k = meet.place in
    let other : eq_by_cmp id_cmp (get_or sorted k []) (get_or sorted (k + 1) []) ≡ false =
    apart_from_distinct (eq_by_cmp id_cmp) sorted k (k + 1) [] moved_distinct (omega arith) meet.inside in
    false≢true (sym other ∙ ap (λ v. eq_by_cmp id_cmp v (get_or sorted (k + 1) [])) meet.same
    ∙ ap is_eq (tied_itself nat_list_cmp_total (get_or sorted (k + 1) [])))
  where
    apart : (i j : ℕ) (d : List ℕ) → i < j → j < length (ids_of us) → eq_by_cmp id_cmp (get_or (ids_of us) i d) (get_or (ids_of us) j d) ≡ false
    apart i j d l h =
        let len : length (ids_of us) ≡ length us = length-map us (λ (u : UnitRow). u.0) in
        not_equal (id_cmp (get_or (ids_of us) i d) (get_or (ids_of us) j d))
        (λ tie.
        (let same : get_or (ids_of us) i d ≡ get_or (ids_of us) j d = exact_bytes (get_or (ids_of us) i d) (get_or (ids_of us) j d) tie in
        let i_in : i < length (ids_of us) = omega arith in
        let ids : id_at us i ≡ id_at us j =
        sym (id_of_place us i (omega arith)) ∙ sym (get_or_default (ids_of us) i d [] i_in) ∙ same ∙ get_or_default (ids_of us) j d [] h
        ∙ id_of_place us j (omega arith) in
        let e : i ≡ j = own.differ i j (omega arith) (omega arith) ids in
        omega arith))
      where
        not_equal : (o : Ordering) → (o ≡ Equal → ⊥) → is_eq o ≡ false
        not_equal Less apart = refl
        not_equal Equal apart = absurd (apart refl)
        not_equal Greater apart = refl

-- a test of neighbours tells whether the identifiers differ
pub own_ids_tell : (us : List UnitRow) (sorted : List (List ℕ)) (b : Bool) → IsPermutation (ids_of us) sorted → IsSorted id_cmp sorted
    → MatchBool b (NeighboursDiffer sorted) (NeighboursMeet sorted) → IsTrue b ↔ HasOwnIds us
own_ids_tell us sorted true moved up tells = (λ yes. HasOwnIds-from_neighbours us sorted moved up tells, λ own. refl)
own_ids_tell us sorted false moved up tells = (λ wrong. absurd (false≢true wrong), λ own. absurd (not_own_from_neighbours us sorted moved tells own))

pub meet_at : (ids : List (List ℕ)) (i : ℕ) (a b : List ℕ) → 1 ≤ i → i < length ids → a ≡ get_or ids (i - 1) a → b ≡ get_or ids i b → bytes_eq a b ≡ true
    → NeighboursMeet ids
meet_at ids i a b pos h read_a read_b equal = record {
  place = i - 1;
  inside = omega arith;
  same =
      sym (read_a ∙ get_or_default ids (i - 1) a [] (omega arith)) ∙ (bytes_decides a b).0 equal ∙ read_b ∙ get_or_default ids i b [] h
      ∙ ap (λ (k : ℕ). get_or ids k []) back;
}
  where
    back : i ≡ (i - 1) + 1
    back = omega arith
