-- Where an identifier stands in a piece of a list of identifiers that differ.
use Rattle.std.proofs.Common.{◌≡◌, ◌∙◌, ℕ, ◌+◌, ◌-◌, ◌≤◌, ◌<◌, ◌&&◌, inl, inr, Bool, true, false, cond, List, [], ◌∷◌, ◌++◌, length, length-append}
use Rattle.std.proofs.Common.{get_or, take, drop, Some, None, refl, sym, ap, arith, zero, suc}
use Rattle.std.specs.Prelude.{nat_le, nat_lt}
use Rattle.std.specs.List.{position_from, list_any}
use Rattle.std.specs.Cmp.Lexicographic.{same_text}
use Rattle.std.proofs.lemmas.Bool.{cases_lt, lt-leb, le-leb, lt-ltb, le-ltb, and_from, and_right}
use Rattle.std.proofs.lemmas.List.{get_or-drop, length-drop}
use Rattle.dh_metadata.specs.Places.{same_id, place_of, repeat_of, repeat_behind}
use Rattle.dh_metadata.proofs.DistinctLemmas.{repeat_of-differ, position_from-below}
use Rattle.dh_metadata.specs.Cut.{piece, cut, in_piece, AreKinds}
use Rattle.dh_metadata.specs.declared.parts.MetaParts.{MetaParts}
use Rattle.dh_metadata.specs.Ids.{ids_of}
use Rattle.dh_metadata.proofs.CutLemmas.{cut-at}

-- what was found is not before the place that counting began with
position_from-first : {K : Type 0} (t : K → Bool) (first : ℕ) (xs : List K) (place : ℕ) → position_from t first xs ≡ Some place → first ≤ place
position_from-first t first [] place at = absurd (cc)
position_from-first t first (x ∷ xs) place at =
    elim (t x) as (λ b. cond b (Some first) (position_from t (first + 1) xs) ≡ Some place → first ≤ place) [
      | true ↦ λ here. (let e : first ≡ place = cc in omega arith)
      | false ↦ λ later. (let past = position_from-first t (first + 1) xs place later in omega arith)
    ] at

-- what was found passes the test
position_from-passes : {K : Type 0} (t : K → Bool) (first : ℕ) (xs : List K) (place : ℕ) (d : K) → position_from t first xs ≡ Some place
    → t (get_or xs (place - first) d) ≡ true
position_from-passes t first [] place d at = absurd (cc)
position_from-passes t first (x ∷ xs) place d at =
    elim (t x) as (λ b. t x ≡ b → cond b (Some first) (position_from t (first + 1) xs) ≡ Some place → t (get_or (x ∷ xs) (place - first) d) ≡ true) [
      | true ↦ λ passes here. (let e : first ≡ place = cc in let none : place - first ≡ 0 = omega arith in ap (λ n. t (get_or (x ∷ xs) n d)) none ∙ passes)
      | false ↦ λ fails later.
          (let past = position_from-first t (first + 1) xs place later in
          let step : place - first ≡ suc (place - (first + 1)) = omega arith in
          ap (λ n. t (get_or (x ∷ xs) n d)) step ∙ position_from-passes t (first + 1) xs place d later)
    ] refl at

-- in the front of a list, where it stands there
position_from-front : {K : Type 0} (t : K → Bool) (first n : ℕ) (xs : List K) (place : ℕ) → position_from t first xs ≡ Some place → place < first + n
    → position_from t first (take n xs) ≡ Some place
position_from-front t first n [] place at within = absurd (cc)
position_from-front t first zero (x ∷ xs) place at within = let past = position_from-first t first (x ∷ xs) place at in absurd (omega arith)
position_from-front t first (suc n) (x ∷ xs) place at within =
    elim (t x) as (λ b. cond b (Some first) (position_from t (first + 1) xs) ≡ Some place
    → cond b (Some first) (position_from t (first + 1) (take n xs)) ≡ Some place) [
      | true ↦ λ here. here
      | false ↦ λ later. position_from-front t (first + 1) n xs place later (omega arith)
    ] at

-- in the front of a list, where it stands later or not at all
position_from-not_front : {K : Type 0} (t : K → Bool) (first n : ℕ) (xs : List K) → ((place : ℕ) → position_from t first xs ≡ Some place → first + n ≤ place)
    → position_from t first (take n xs) ≡ None
position_from-not_front t first zero xs late = refl
position_from-not_front t first (suc n) [] late = refl
position_from-not_front t first (suc n) (x ∷ xs) late =
    elim (t x) as (λ b. ((place : ℕ) → cond b (Some first) (position_from t (first + 1) xs) ≡ Some place → first + suc n ≤ place)
    → cond b (Some first) (position_from t (first + 1) (take n xs)) ≡ None) [
      | true ↦ λ soon. (let past = soon first refl in absurd (omega arith))
      | false ↦ λ later. position_from-not_front t (first + 1) n xs (λ place at. (let past = later place at in omega arith))
    ] late

-- after the front of a list, where it stands there
position_from-rest : {K : Type 0} (t : K → Bool) (first n : ℕ) (xs : List K) (place : ℕ) → position_from t first xs ≡ Some place → first + n ≤ place
    → position_from t (first + n) (drop n xs) ≡ Some place
position_from-rest t first zero xs place at past = let same : first + zero ≡ first = omega arith in ap (λ m. position_from t m xs) same ∙ at
position_from-rest t first (suc n) [] place at past = absurd (cc)
position_from-rest t first (suc n) (x ∷ xs) place at past =
    let same : first + suc n ≡ first + 1 + n = omega arith in
    ap (λ m. position_from t m (drop n xs)) same
    ∙ elim (t x) as (λ b. cond b (Some first) (position_from t (first + 1) xs) ≡ Some place → position_from t (first + 1 + n) (drop n xs) ≡ Some place) [
      | true ↦ λ here. (let e : first ≡ place = cc in absurd (omega arith))
      | false ↦ λ later. position_from-rest t (first + 1) n xs place later (omega arith)
    ] at

-- counting from 0 in place of a later number
position_from-zero : {K : Type 0} (t : K → Bool) (more first : ℕ) (xs : List K) (place : ℕ) → position_from t (more + first) xs ≡ Some place
    → position_from t first xs ≡ Some (place - more)
position_from-zero t more first [] place at = absurd (cc)
position_from-zero t more first (x ∷ xs) place at =
    elim (t x) as (λ b. cond b (Some (more + first)) (position_from t (more + first + 1) xs) ≡ Some place
    → cond b (Some first) (position_from t (first + 1) xs) ≡ Some (place - more)) [
      | true ↦ λ here. (let e : more + first ≡ place = cc in ap Some (omega arith))
      | false ↦ λ later. (let same : more + (first + 1) ≡ more + first + 1 =
          omega arith in position_from-zero t more (first + 1) xs place (ap (λ m. position_from t m xs) same ∙ later))
    ] at

-- what has a place is at it
pub place_of-at : (ids : List (List ℕ)) (id : List ℕ) (place : ℕ) → place_of ids id ≡ Some place → get_or ids place [] ≡ id
place_of-at ids id place at =
    let none : place - 0 ≡ place = omega arith in
    let passes : same_id id (get_or ids place []) ≡ true =
    ap (λ n. same_id id (get_or ids n [])) (sym none) ∙ position_from-passes (λ other. same_id id other) 0 ids place [] at in
    sym (same_text id (get_or ids place []) (sym passes))

-- what has no place has none after the front either
position_from-absent : {K : Type 0} (t : K → Bool) (first other n : ℕ) (xs : List K) → position_from t first xs ≡ None
    → position_from t other (drop n xs) ≡ None
position_from-absent t first other zero [] absent = refl
position_from-absent t first other (suc n) [] absent = refl
position_from-absent t first other zero (x ∷ xs) absent =
    elim (t x) as (λ b. cond b (Some first) (position_from t (first + 1) xs) ≡ None → cond b (Some other) (position_from t (other + 1) xs) ≡ None)
    [ true ↦ λ here. absurd (cc) | false ↦ λ later. position_from-absent t (first + 1) (other + 1) zero xs later ] absent
position_from-absent t first other (suc n) (x ∷ xs) absent =
    elim (t x) as (λ b. cond b (Some first) (position_from t (first + 1) xs) ≡ None → position_from t other (drop n xs) ≡ None)
    [ true ↦ λ here. absurd (cc) | false ↦ λ later. position_from-absent t (first + 1) other n xs later ] absent

-- an identifier that stands earlier isn't after
not_behind : (ids : List (List ℕ)) (id : List ℕ) (from early place : ℕ) → repeat_of ids ≡ None → place_of ids id ≡ Some early → early < from
    → place_of (drop from ids) id ≡ Some place → ⊥
not_behind ids id from early place differ first before at =
    let found : get_or (drop from ids) place [] ≡ id = place_of-at (drop from ids) id place at in
    let below : place < 0 + length (drop from ids) = position_from-below (λ other. same_id id other) 0 (drop from ids) place at in
    let long : length (drop from ids) ≡ length ids - from = length-drop from ids in
    let whole : get_or ids (from + place) [] ≡ id = sym (get_or-drop from ids place []) ∙ found in
    let within : early < 0 + length ids = position_from-below (λ other. same_id id other) 0 ids early first in
    let same : early ≡ from + place =
    repeat_of-differ ids differ early (from + place) (omega arith) (omega arith) (place_of-at ids id early first ∙ sym whole) in
    omega arith

-- so it has no place there
none_behind : (ids : List (List ℕ)) (id : List ℕ) (from early : ℕ) → repeat_of ids ≡ None → place_of ids id ≡ Some early → early < from
    → place_of (drop from ids) id ≡ None
none_behind ids id from early differ first before =
    elim (place_of (drop from ids) id) as (λ o. place_of (drop from ids) id ≡ o → o ≡ None)
    [ None ↦ λ at. refl | Some place ↦ λ at. absurd (not_behind ids id from early place differ first before at) ] refl

-- an identifier that stands later has its place there, counted from its beginning
some_behind : (ids : List (List ℕ)) (id : List ℕ) (from place : ℕ) → place_of ids id ≡ Some place → from ≤ place
    → place_of (drop from ids) id ≡ Some (place - from)
some_behind ids id from place at past =
    let same : from + 0 ≡ 0 + from = omega arith in
    position_from-zero (λ other. same_id id other) from 0 (drop from ids) place
    (ap (λ m. position_from (λ other. same_id id other) m (drop from ids)) same
    ∙ position_from-rest (λ other. same_id id other) 0 from ids place at (omega arith))

-- what has no place has none in the front
none_front : (n : ℕ) (ids : List (List ℕ)) (id : List ℕ) → place_of ids id ≡ None → place_of (take n ids) id ≡ None
none_front n ids id none = position_from-not_front (λ other. same_id id other) 0 n ids (λ place at. absurd (cc))

-- the place in a piece of a list of identifiers that differ
pub piece_place : (ids : List (List ℕ)) (id : List ℕ) (from end : ℕ) → repeat_of ids ≡ None
    → place_of (piece from end ids) id ≡ in_piece from end (place_of ids id)
piece_place ids id from end differ =
    elim (place_of ids id) as (λ o. place_of ids id ≡ o → place_of (piece from end ids) id ≡ in_piece from end o) [
      | None ↦ λ at. none_front (end - from) (drop from ids) id (position_from-absent (λ other. same_id id other) 0 0 from ids at)
      | Some place ↦ λ at. elim (cases_lt place from) [
        | inl before ↦
            none_front (end - from) (drop from ids) id (none_behind ids id from place differ at before)
            ∙ sym (ap (λ b. cond (b && nat_lt place end) (Some (place - from)) None) (lt-leb from place before))
        | inr past ↦ (
            let beyond : place_of (drop from ids) id ≡ Some (place - from) = some_behind ids id from place at past in
            let reached : nat_le from place ≡ true = le-leb from place past in
            elim (cases_lt place end) [
              | inl within ↦
                  position_from-front (λ other. same_id id other) 0 (end - from) (drop from ids) (place - from) beyond (omega arith)
                  ∙ sym (ap (λ b. cond b (Some (place - from)) None) (and_from (nat_le from place) (nat_lt place end) reached (lt-ltb place end within)))
              | inr after ↦
                  position_from-not_front (λ other. same_id id other) 0 (end - from) (drop from ids)
                  (λ q found. (let e : q ≡ place - from = cc in omega arith))
                  ∙ sym (ap (λ b. cond b (Some (place - from)) None) (and_right (nat_le from place) (nat_lt place end) (le-ltb place end after)))
            ])
      ]
    ] refl

-- where an identifier stands in the list at a place
pub found_at : (ends : List ℕ) (ids : List (List ℕ)) (at : ℕ) (id : List ℕ) → AreKinds ends ids → at < 22
    → place_of (get_or (cut 0 ends ids) at []) id ≡ in_piece (get_or (0 ∷ ends) at 0) (get_or ends at 0) (place_of ids id)
found_at ends ids at id are within =
    let number = are.number in
    ap (λ list. place_of list id) (cut-at 0 ends ids at (omega arith)) ∙ piece_place ids id (get_or (0 ∷ ends) at 0) (get_or ends at 0) are.differ

repeat_behind-below : (before ids : List (List ℕ)) (place : ℕ) → repeat_behind before ids ≡ Some place → place < length before + length ids
repeat_behind-below before [] place at = absurd (cc)
repeat_behind-below before (id ∷ ids) place at =
    elim (list_any (λ other. same_id id other) before) as (λ b. cond b (Some (length before)) (repeat_behind (before ++ id ∷ []) ids) ≡ Some place
    → place < length before + length (id ∷ ids)) [
      | true ↦ λ here. (let e : length before ≡ place = cc in omega arith)
      | false ↦ λ later.
          (let below = repeat_behind-below (before ++ id ∷ []) ids place later in
          let longer : length (before ++ id ∷ []) ≡ length before + 1 = length-append before (id ∷ []) in omega arith)
    ] at

-- the first that repeats is in the list
pub repeat_below : (ids : List (List ℕ)) (place : ℕ) → repeat_of ids ≡ Some place → place < length ids
repeat_below ids place at = let below = repeat_behind-below [] ids place at in omega arith

-- there are as many lists as kinds
pub length_ids_of : (parts : MetaParts) → length (ids_of parts) ≡ 22
unfolding ids_of
length_ids_of parts = refl
