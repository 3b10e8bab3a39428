-- Where elements stand in a list that grows at its end.
use Rattle.std.proofs.Common.{◌≡◌, ℕ, ◌+◌, ◌∙◌, Bool, true, false, cond, List, [], ◌∷◌, ◌++◌, ◌||◌, length, Option, Some, None, is_some, refl, sym, ap, arith}
use Rattle.std.specs.List.{list_any, position_from}
use Rattle.std.specs.Cmp.Lexicographic.{same_text, nat_list_eq_equiv}
use Rattle.dh_metadata.specs.Places.{same_id, place_of, repeat_behind, is_one_of}

-- what stands in the list keeps its place
pub position_from-kept : {K : Type 0} (t : K → Bool) (first : ℕ) (xs : List K) (x : K) (place : ℕ) → position_from t first xs ≡ Some place
    → position_from t first (xs ++ x ∷ []) ≡ Some place
position_from-kept t first [] x place at = cc
position_from-kept t first (y ∷ xs) x place at =
    elim (t y) as (λ b. cond b (Some first) (position_from t (first + 1) xs) ≡ Some place
    → cond b (Some first) (position_from t (first + 1) (xs ++ x ∷ [])) ≡ Some place)
    [ true ↦ λ found. found | false ↦ λ found. position_from-kept t (first + 1) xs x place found ] at

-- what doesn't stand in the list stands at most at its new end
pub position_from-end : {K : Type 0} (t : K → Bool) (first : ℕ) (xs : List K) (x : K) → position_from t first xs ≡ None
    → position_from t first (xs ++ x ∷ []) ≡ cond (t x) (Some (first + length xs)) None
position_from-end t first [] x absent = ap (λ n. cond (t x) (Some n) None) (omega arith)
position_from-end t first (y ∷ xs) x absent =
    elim (t y) as (λ b. cond b (Some first) (position_from t (first + 1) xs) ≡ None
    → cond b (Some first) (position_from t (first + 1) (xs ++ x ∷ [])) ≡ cond (t x) (Some (first + length (y ∷ xs))) None)
    [ true ↦ λ found. cc | false ↦ λ rest. position_from-end t (first + 1) xs x rest ∙ ap (λ n. cond (t x) (Some n) None) (omega arith) ] absent

-- what has no place isn't in the list
pub list_any-absent : {K : Type 0} (t : K → Bool) (first : ℕ) (xs : List K) → position_from t first xs ≡ None → list_any t xs ≡ false
list_any-absent t first [] absent = refl
list_any-absent t first (y ∷ xs) absent =
    elim (t y) as (λ b. cond b (Some first) (position_from t (first + 1) xs) ≡ None → (b || list_any t xs) ≡ false)
    [ true ↦ λ found. cc | false ↦ λ rest. list_any-absent t (first + 1) xs rest ] absent

-- what has a place is in the list
pub list_any-found : {K : Type 0} (t : K → Bool) (first : ℕ) (xs : List K) (place : ℕ) → position_from t first xs ≡ Some place → list_any t xs ≡ true
list_any-found t first [] place at = cc
list_any-found t first (y ∷ xs) place at =
    elim (t y) as (λ b. cond b (Some first) (position_from t (first + 1) xs) ≡ Some place → (b || list_any t xs) ≡ true)
    [ true ↦ λ found. refl | false ↦ λ rest. list_any-found t (first + 1) xs place rest ] at

-- a place more: what was known of the places before, and of the new one, is known of all
pub place_of-more : (before : List (List ℕ)) (x id : List ℕ) (place : ℕ) (old new : List ℕ → Option ℕ)
    → ((q : List ℕ) → old q ≡ place_of before q) → old x ≡ None → place ≡ length before
    → new id ≡ cond (same_id x id) (Some place) (old id) → new id ≡ place_of (before ++ x ∷ []) id
place_of-more before x id place old new known absent at is =
    is ∙ elim (same_id x id) as (λ b. same_id x id ≡ b → cond b (Some place) (old id) ≡ place_of (before ++ x ∷ []) id) [
      | true ↦ λ same.
          let equal : x ≡ id = same_text x id (sym same) in
          let none : place_of before id ≡ None = ap (place_of before) (sym equal) ∙ sym (known x) ∙ absent in
          let turned : same_id id x ≡ true = nat_list_eq_equiv.symm id x ∙ same in
          sym (position_from-end (λ other. same_id id other) 0 before x none ∙ ap (λ t. cond t (Some (0 + length before)) None) turned ∙ ap Some (omega arith))
      | false ↦ λ apart.
          let turned : same_id id x ≡ false = nat_list_eq_equiv.symm id x ∙ apart in
          known id ∙ elim (place_of before id) as (λ p. place_of before id ≡ p → p ≡ place_of (before ++ x ∷ []) id) [
            | Some n ↦ λ found. sym (position_from-kept (λ other. same_id id other) 0 before x n found)
            | None ↦ λ none. sym (position_from-end (λ other. same_id id other) 0 before x none ∙ ap (λ t. cond t (Some (0 + length before)) None) turned)
          ] refl
    ] refl

-- the next identifier isn't one of those before it
pub repeat_behind-new : (before : List (List ℕ)) (x : List ℕ) (rest : List (List ℕ)) → place_of before x ≡ None
    → repeat_behind before (x ∷ rest) ≡ repeat_behind (before ++ x ∷ []) rest
repeat_behind-new before x rest absent =
    ap (λ t. cond t (Some (length before)) (repeat_behind (before ++ x ∷ []) rest)) (list_any-absent (λ other. same_id x other) 0 before absent)

-- the next identifier is one of those before it
pub repeat_behind-same : (before : List (List ℕ)) (x : List ℕ) (rest : List (List ℕ)) (place : ℕ) → place_of before x ≡ Some place
    → repeat_behind before (x ∷ rest) ≡ Some (length before)
repeat_behind-same before x rest place at =
    ap (λ t. cond t (Some (length before)) (repeat_behind (before ++ x ∷ []) rest)) (list_any-found (λ other. same_id x other) 0 before place at)

-- the next identifier has a place among those before it
pub repeat_behind-placed : (before : List (List ℕ)) (x : List ℕ) (rest : List (List ℕ)) (old : Option ℕ) → place_of before x ≡ old → is_some old ≡ true
    → repeat_behind before (x ∷ rest) ≡ Some (length before)
repeat_behind-placed before x rest (Some place) at some = repeat_behind-same before x rest place at
repeat_behind-placed before x rest None at some = cc

pub none-from : (old : Option ℕ) → is_some old ≡ false → old ≡ None
none-from (Some place) some = cc
none-from None some = refl

list_any-end : {K : Type 0} (t : K → Bool) (xs : List K) (x : K) → list_any t (xs ++ x ∷ []) ≡ (list_any t xs || t x)
list_any-end t [] x = elim (t x) as (λ b. (b || false) ≡ (false || b)) [ true ↦ refl | false ↦ refl ]
list_any-end t (y ∷ xs) x =
    elim (t y) as (λ b. (b || list_any t (xs ++ x ∷ [])) ≡ ((b || list_any t xs) || t x)) [ true ↦ refl | false ↦ list_any-end t xs x ]

-- an identifier more: a set that has it, and what it had, holds those and no others
pub is_one_of-more : (before : List (List ℕ)) (x id : List ℕ) (old new : Bool) → old ≡ is_one_of before id → new ≡ cond (same_id x id) true old
    → new ≡ is_one_of (before ++ x ∷ []) id
is_one_of-more before x id old new known is =
    is ∙ ap (λ t. cond t true old) (nat_list_eq_equiv.symm x id) ∙ ap (cond (same_id id x) true) known
    ∙ elim (same_id id x) as (λ t. cond t true (is_one_of before id) ≡ (is_one_of before id || t)) [
      | true ↦ elim (is_one_of before id) as (λ b. true ≡ (b || true)) [ true ↦ refl | false ↦ refl ]
      | false ↦ elim (is_one_of before id) as (λ b. b ≡ (b || false)) [ true ↦ refl | false ↦ refl ]
    ]
    ∙ sym (list_any-end (λ other. same_id id other) before x)
