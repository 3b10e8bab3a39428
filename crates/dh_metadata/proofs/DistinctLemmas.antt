-- Identifiers of which none stands twice, and places that were found.
use Rattle.std.proofs.Common.{◌≡◌, ◌∙◌, ℕ, ◌+◌, ◌<◌, ◌≤◌, Bool, true, false, cond, List, [], ◌∷◌, ◌++◌, ◌||◌, inl, inr, length, get_or}
use Rattle.std.proofs.Common.{Some, None, refl, sym, ap, arith, append_assoc, length-append, zero, suc}
use Rattle.std.proofs.Math.ListN.{get_or-append}
use Rattle.std.proofs.Math.Seq.{get_or-append_seam}
use Rattle.std.proofs.lemmas.Bool.{cases_order}
use Rattle.std.specs.List.{list_any, position_from}
use Rattle.std.specs.Cmp.Lexicographic.{nat_list_eq_equiv}
use Rattle.dh_metadata.specs.Places.{same_id, place_of, repeat_of, repeat_behind}

-- a place that was found is in the list
pub position_from-below : {K : Type 0} (t : K → Bool) (first : ℕ) (xs : List K) (place : ℕ) → position_from t first xs ≡ Some place → place < first + length xs
position_from-below t first [] place at = absurd (cc)
position_from-below t first (x ∷ xs) place at =
    elim (t x) as (λ b. cond b (Some first) (position_from t (first + 1) xs) ≡ Some place → place < first + length (x ∷ xs)) [
      | true ↦ λ here. (let e : first ≡ place = cc in omega arith)
      | false ↦ λ later.
          (let below = position_from-below t (first + 1) xs place later in omega arith)
    ] at

pub place_of-below : (ids : List (List ℕ)) (id : List ℕ) (place : ℕ) → place_of ids id ≡ Some place → place < length ids
place_of-below ids id place at = let below = position_from-below (λ other. same_id id other) 0 ids place at in omega arith

or-false_left : (a b : Bool) → (a || b) ≡ false → a ≡ false
or-false_left true b none = absurd (cc)
or-false_left false b none = refl

or-false_right : (a b : Bool) → (a || b) ≡ false → b ≡ false
or-false_right true b none = absurd (cc)
or-false_right false b none = none

-- none of these is the identifier
apart_from : (before : List (List ℕ)) (id : List ℕ) (i : ℕ) → list_any (λ other. same_id id other) before ≡ false → i < length before → get_or before i [] ≡ id
    → ⊥
apart_from [] id i none within same = absurd (omega arith)
apart_from (x ∷ before) id zero none within same =
    let met : same_id id x ≡ true = ap (same_id id) same ∙ nat_list_eq_equiv.refl id in
    let apart : same_id id x ≡ false = or-false_left _ _ none in
    absurd (cc)
apart_from (x ∷ before) id (suc i) none within same = apart_from before id i (or-false_right (same_id id x) _ none) (omega arith) same

-- what the search for a repeat tells where it finds none
none_here : (before : List (List ℕ)) (id : List ℕ) (rest : List (List ℕ)) → repeat_behind before (id ∷ rest) ≡ None
    → (list_any (λ other. same_id id other) before ≡ false) × (repeat_behind (before ++ id ∷ []) rest ≡ None)
none_here before id rest none =
    elim (list_any (λ other. same_id id other) before) as (λ b. cond b (Some (length before)) (repeat_behind (before ++ id ∷ []) rest) ≡ None
    → (b ≡ false) × (repeat_behind (before ++ id ∷ []) rest ≡ None))
    [ true ↦ λ some. absurd (cc) | false ↦ λ later. (refl, later) ] none

-- a later identifier is none of the earlier ones
later_apart : (before ids : List (List ℕ)) (i j : ℕ) → repeat_behind before ids ≡ None → i < j → length before ≤ j → j < length before + length ids
    → get_or (before ++ ids) i [] ≡ get_or (before ++ ids) j [] → ⊥
later_apart before [] i j none less from within same = absurd (omega arith)
later_apart before (id ∷ rest) i j none less from within same =
    let here = none_here before id rest none in
    let joined : (before ++ id ∷ []) ++ rest ≡ before ++ id ∷ rest = append_assoc before (id ∷ []) rest in
    let longer : length (before ++ id ∷ []) ≡ length before + 1 = length-append before (id ∷ []) in
    elim (cases_order j (length before)) [
      | inl at ↦
          let seam : get_or (before ++ id ∷ rest) j [] ≡ id = ap (λ n. get_or (before ++ id ∷ rest) n []) at ∙ get_or-append_seam before id rest [] in
          let short : i < length before = omega arith in
          let front : get_or (before ++ id ∷ rest) i [] ≡ get_or before i [] = get_or-append before (id ∷ rest) [] i short in
          apart_from before id i here.0 short (sym front ∙ same ∙ seam)
      | inr other ↦ elim other [
        | inl short ↦ absurd (omega arith)
        | inr past ↦
            later_apart (before ++ id ∷ []) rest i j here.1 less (omega arith) (omega arith)
            (ap (λ l. get_or l i []) joined ∙ same ∙ sym (ap (λ l. get_or l j []) joined))
      ]
    ]

-- identifiers of which none stands twice differ
pub repeat_of-differ : (ids : List (List ℕ)) → repeat_of ids ≡ None → (x y : ℕ) → x < length ids → y < length ids → get_or ids x [] ≡ get_or ids y [] → x ≡ y
repeat_of-differ ids none x y left right same =
    elim (cases_order x y) [
      | inl equal ↦ equal
      | inr other ↦ elim other [
        | inl less ↦ absurd (later_apart [] ids x y none less (omega arith) (omega arith) same)
        | inr more ↦ absurd (later_apart [] ids y x none more (omega arith) (omega arith) (sym same))
      ]
    ]
