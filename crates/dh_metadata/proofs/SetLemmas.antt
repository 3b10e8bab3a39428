-- The elements and units of data sets, by their copies.
use Rattle.std.proofs.Common.{◌≡◌, ◌∙◌, ◌+◌, ◌<◌, ◌++◌, ◌∷◌, [], ℕ, zero, suc, true, false, List, length, get_or, map, refl, sym, ap, subst, take, ltb, arith}
use Rattle.std.specs.List.{slice_get, range_with_len}
use Rattle.std.specs.Option.{option_map_or}
use Rattle.std.specs.List.Sorted.{IsStrictlyIncreasing}
use Rattle.std.proofs.lemmas.Bool.{ltb-true, ltb-false}
use Rattle.std.proofs.lemmas.List.{take_more, length-map, map-append, length-append}
use Rattle.dh_metadata.specs.Members.{has, has_at, IsSortedCopy, AreSortedCopies}
use Rattle.dh_metadata.proofs.MemberLemmas.{held_has}

has_at_map : {A : Type 0} (field : A → List ℕ) (sets : List A) (n place : ℕ)
    → has_at (map field sets) n place ≡ option_map_or (λ set. has (field set) n) (slice_get sets place) false
has_at_map field [] n place = refl
has_at_map field (set ∷ sets) n zero = refl
has_at_map field (set ∷ sets) n (suc place) = has_at_map field sets n place

-- the list that is searched for a set
pub searched_list : {A : Type 0} (field : A → List ℕ) (sets : List A) (all : List (List ℕ)) (list : List ℕ) (place : ℕ)
    → AreSortedCopies (map field sets) all → place < length sets → list ≡ get_or all place [] → IsStrictlyIncreasing list
searched_list field sets all list place copies within is =
    let inside : place < length (map field sets) = subst (λ n. place < n) (sym (length-map sets field)) within in
    subst IsStrictlyIncreasing (sym is) ((copies.each place inside).ascend)

-- what the search tells
pub searched_has : {A : Type 0} (field : A → List ℕ) (sets : List A) (all : List (List ℕ)) (list : List ℕ) (place n : ℕ)
    → AreSortedCopies (map field sets) all → place < length sets → list ≡ get_or all place []
    → has list n ≡ option_map_or (λ set. has (field set) n) (slice_get sets place) false
searched_has field sets all list place n copies within is =
    let inside : place < length (map field sets) = subst (λ m. place < m) (sym (length-map sets field)) within in
    ap (λ l. has l n) is ∙ held_has (map field sets) all copies place n inside ∙ has_at_map field sets n place

get_or_end : {A : Type 0} (xs : List A) (x d : A) → get_or (xs ++ x ∷ []) (length xs) d ≡ x
get_or_end [] x d = refl
get_or_end (y ∷ xs) x d = get_or_end xs x d

get_or_before : {A : Type 0} (xs : List A) (x d : A) (k : ℕ) → k < length xs → get_or (xs ++ x ∷ []) k d ≡ get_or xs k d
get_or_before [] x d k within = absurd (omega arith)
get_or_before (y ∷ xs) x d zero within = refl
get_or_before (y ∷ xs) x d (suc k) within = get_or_before xs x d k (omega arith)

slice_get_end : {A : Type 0} (xs : List A) (x : A) → slice_get (xs ++ x ∷ []) (length xs) ≡ slice_get (x ∷ []) 0
slice_get_end [] x = refl
slice_get_end (y ∷ xs) x = slice_get_end xs x

-- one copy more
copies_push : (lists all : List (List ℕ)) (numbers copy : List ℕ) → AreSortedCopies lists all → IsSortedCopy numbers copy
    → AreSortedCopies (lists ++ numbers ∷ []) (all ++ copy ∷ [])
copies_push lists all numbers copy copies one = record {
  same_length = omega (arith, copies.same_length, length-append lists (numbers ∷ []), length-append all (copy ∷ []));
  each = λ k within.
      elim (ltb k (length lists)) as (λ b. ltb k (length lists) ≡ b → IsSortedCopy (get_or (lists ++ numbers ∷ []) k []) (get_or (all ++ copy ∷ []) k [])) [
        | true ↦ λ less.
            let inside : k < length lists = ltb-true k (length lists) less in
            let held : k < length all = omega (arith, copies.same_length) in
            subst (λ l. IsSortedCopy l (get_or (all ++ copy ∷ []) k [])) (sym (get_or_before lists numbers [] k inside))
            (subst (λ l. IsSortedCopy (get_or lists k []) l) (sym (get_or_before all copy [] k held)) (copies.each k inside))
        | false ↦ λ more.
            let last : k ≡ length lists = omega (arith, ltb-false k (length lists) more, length-append lists (numbers ∷ [])) in
            let held : k ≡ length all = last ∙ sym copies.same_length in
            subst (λ l. IsSortedCopy l (get_or (all ++ copy ∷ []) k []))
            (sym (ap (λ j. get_or (lists ++ numbers ∷ []) j []) last ∙ get_or_end lists numbers []))
            (subst (λ l. IsSortedCopy numbers l) (sym (ap (λ j. get_or (all ++ copy ∷ []) j []) held ∙ get_or_end all copy [])) one)
      ] refl;
}

pub copies_more : {A : Type 0} (field : A → List ℕ) (sets : List A) (i : ℕ) (x : A) (all : List (List ℕ)) (copy : List ℕ) → i < length sets
    → x ≡ get_or sets i x
    → AreSortedCopies (map field (take i sets)) all → IsSortedCopy (field x) copy → AreSortedCopies (map field (take (i + 1) sets)) (all ++ copy ∷ [])
copies_more field sets i x all copy within is copies one =
    let next : map field (take (i + 1) sets) ≡ map field (take i sets) ++ field x ∷ [] =
    ap (map field) (take_more sets i x within ∙ ap (λ y. take i sets ++ y ∷ []) (sym is)) ∙ map-append field (take i sets) (x ∷ []) in
    subst (λ l. AreSortedCopies l (all ++ copy ∷ [])) (sym next) (copies_push (map field (take i sets)) all (field x) copy copies one)

pub no_copies : AreSortedCopies [] []
no_copies = record { same_length = refl; each = λ k within. absurd (omega arith) }

range_end : (a n : ℕ) → range_with_len a (suc n) ≡ range_with_len a n ++ (a + n) ∷ []
range_end a zero = ap (λ (x : ℕ). x ∷ []) (omega arith)
range_end a (suc n) =
    let last : (a + 1) + n ≡ a + suc n = omega arith in
    ap (λ l. a ∷ l) (range_end (a + 1) n ∙ ap (λ x. range_with_len (a + 1) n ++ x ∷ []) last)

-- one number more
pub range_more : (n : ℕ) → range_with_len 0 (n + 1) ≡ range_with_len 0 n ++ n ∷ []
range_more n =
    let next : n + 1 ≡ suc n = omega arith in
    let last : 0 + n ≡ n = omega arith in
    ap (range_with_len 0) next ∙ range_end 0 n ∙ ap (λ x. range_with_len 0 n ++ x ∷ []) last
