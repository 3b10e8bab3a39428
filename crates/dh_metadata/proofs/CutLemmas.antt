-- Lists cut out of one list that grows at its end.
use Rattle.std.proofs.Common.{◌≡◌, ◌∙◌, ℕ, ◌+◌, ◌-◌, ◌≤◌, ◌<◌, ◌^◌, List, [], ◌∷◌, ◌++◌, length, get_or, take, drop, refl, sym, ap, subst, arith}
use Rattle.std.proofs.Common.{length-append, zero, suc}
use Rattle.std.proofs.lemmas.List.{take-append-le, drop-append-le, drop_at, drop_all, drop-drop, take-append-drop, take_all, length-drop, length-take-le}
use Rattle.std.specs.List.{flat_map}
use Rattle.dh_metadata.specs.Cut.{piece, cut, AreEnds, AreKinds}

-- places that don't fall are at most the last
pub ends-below : (from : ℕ) (ends : List ℕ) (last : ℕ) → AreEnds from ends last → from ≤ last
ends-below from [] last are = omega arith
ends-below from (end ∷ ends) last are = let later = ends-below end ends last are.1 in let first = are.0 in omega arith

-- one more place
pub ends-add : (from : ℕ) (ends : List ℕ) (last more : ℕ) → AreEnds from ends last → last ≤ more → AreEnds from (ends ++ more ∷ []) more
ends-add from [] last more are past = (omega arith, refl)
ends-add from (end ∷ ends) last more are past = (are.0, ends-add end ends last more are.1 past)

-- a piece keeps what it was when the list grows
piece-append : {A : Type 0} (from end : ℕ) (xs ys : List A) → from ≤ end → end ≤ length xs → piece from end (xs ++ ys) ≡ piece from end xs
piece-append from end xs ys up within =
    let rest : drop from (xs ++ ys) ≡ drop from xs ++ ys = drop-append-le from xs ys (omega arith) in
    let long : length (drop from xs) ≡ length xs - from = length-drop from xs in
    ap (take (end - from)) rest ∙ take-append-le (end - from) (drop from xs) ys (omega arith)

-- what was added at the end is one more piece
pub cut-more : {A : Type 0} (from : ℕ) (ends : List ℕ) (xs ys : List A) → AreEnds from ends (length xs)
    → cut from (ends ++ length (xs ++ ys) ∷ []) (xs ++ ys) ≡ cut from ends xs ++ ys ∷ []
cut-more from [] xs ys are =
    let longer : length (xs ++ ys) ≡ length xs + length ys = length-append xs ys in
    let rest : drop from (xs ++ ys) ≡ ys = drop_at xs ys from (sym are) in
    ap (λ (zs : List _). zs ∷ []) (ap (take (length (xs ++ ys) - from)) rest ∙ take_all (length (xs ++ ys) - from) ys (omega arith))
cut-more from (end ∷ ends) xs ys are =
    let within = ends-below end ends (length xs) are.1 in
    ap (λ (z : List _). z ∷ cut end (ends ++ length (xs ++ ys) ∷ []) (xs ++ ys)) (piece-append from end xs ys are.0 within)
    ∙ ap (λ (zs : List (List _)). piece from end xs ∷ zs) (cut-more end ends xs ys are.1)

-- a piece and what is after it
piece-rest : {A : Type 0} (from end : ℕ) (xs : List A) → from ≤ end → piece from end xs ++ drop end xs ≡ drop from xs
piece-rest from end xs up =
    let deeper : drop (end - from) (drop from xs) ≡ drop (from + (end - from)) xs = drop-drop (end - from) from xs in
    let same : from + (end - from) ≡ end = omega arith in
    ap (λ zs. piece from end xs ++ zs) (ap (λ n. drop n xs) (sym same) ∙ sym deeper) ∙ take-append-drop (end - from) (drop from xs)

-- the pieces one after the other are the list
pub cut-joined : {A : Type 0} (from : ℕ) (ends : List ℕ) (xs : List A) → AreEnds from ends (length xs)
    → flat_map (λ (piece : List A). piece) (cut from ends xs) ≡ drop from xs
cut-joined from [] xs are = sym (drop_all from xs (omega arith))
cut-joined from (end ∷ ends) xs are =
    ap (λ zs. piece from end xs ++ zs) (cut-joined end ends xs are.1) ∙ piece-rest from end xs are.0

-- the piece at a place
pub cut-at : {A : Type 0} (from : ℕ) (ends : List ℕ) (xs : List A) (at : ℕ) → at < length ends
    → get_or (cut from ends xs) at [] ≡ piece (get_or (from ∷ ends) at 0) (get_or ends at 0) xs
cut-at from [] xs at within = absurd (omega arith)
cut-at from (end ∷ ends) xs zero within = refl
cut-at from (end ∷ ends) xs (suc at) within = cut-at end ends xs at (omega arith)

-- the places between which a piece stands
pub ends-at : (from : ℕ) (ends : List ℕ) (last : ℕ) (at : ℕ) → AreEnds from ends last → at < length ends
    → (get_or (from ∷ ends) at 0 ≤ get_or ends at 0) × (get_or ends at 0 ≤ last)
ends-at from [] last at are within = absurd (omega arith)
ends-at from (end ∷ ends) last zero are within = (are.0, ends-below end ends last are.1)
ends-at from (end ∷ ends) last (suc at) are within = ends-at end ends last at are.1 (omega arith)

pub length-piece : {A : Type 0} (from end : ℕ) (xs : List A) → from ≤ end → end ≤ length xs → length (piece from end xs) ≡ end - from
length-piece from end xs up within =
    let rest : length (drop from xs) ≡ length xs - from = length-drop from xs in
    length-take-le (end - from) (drop from xs) (omega arith)

-- what a list with one more piece is cut into
pub cut_add : {A : Type 0} (ends more : List ℕ) (xs ys all : List A) → AreEnds 0 ends (length xs) → all ≡ xs ++ ys → more ≡ ends ++ length all ∷ []
    → cut 0 more all ≡ cut 0 ends xs ++ ys ∷ []
cut_add ends more xs ys all are is longer = ap (λ es. cut 0 es all) longer ∙ ap (λ zs. cut 0 (ends ++ length zs ∷ []) zs) is ∙ cut-more 0 ends xs ys are

-- and its places
pub ends_more : {A : Type 0} (ends more : List ℕ) (xs ys all : List A) → AreEnds 0 ends (length xs) → all ≡ xs ++ ys → more ≡ ends ++ length all ∷ []
    → AreEnds 0 more (length all)
ends_more ends more xs ys all are is longer =
    let long : length all ≡ length xs + length ys = ap length is ∙ length-append xs ys in
    subst (λ es. AreEnds 0 es (length all)) (sym longer) (ends-add 0 ends (length xs) (length all) are (omega arith))

-- the pieces of a list one after the other are the list
pub joined_is : {A : Type 0} (ends : List ℕ) (xs : List A) → AreEnds 0 ends (length xs) → flat_map (λ (piece : List A). piece) (cut 0 ends xs) ≡ xs
joined_is ends xs are = cut-joined 0 ends xs are

-- as many pieces as places
pub length_cut : {A : Type 0} (from : ℕ) (ends : List ℕ) (xs : List A) → length (cut from ends xs) ≡ length ends
length_cut from [] xs = refl
length_cut from (end ∷ ends) xs = ap suc (length_cut end ends xs)

-- the size of the list at a place
pub size_at : (ends : List ℕ) (ids : List (List ℕ)) (at : ℕ) → AreKinds ends ids → at < 22
    → (get_or (0 ∷ ends) at 0 ≤ get_or ends at 0) × (get_or ends at 0 - get_or (0 ∷ ends) at 0 < 2 ^ 32)
    × (length (get_or (cut 0 ends ids) at []) ≡ get_or ends at 0 - get_or (0 ∷ ends) at 0)
size_at ends ids at are within =
    let number = are.number in
    let inside : at < length ends = omega arith in
    let between = ends-at 0 ends (length ids) at are.joined inside in
    let least = between.0 in
    let most = between.1 in
    let small = are.numbered in
    (least, omega arith, ap length (cut-at 0 ends ids at inside) ∙ length-piece (get_or (0 ∷ ends) at 0) (get_or ends at 0) ids least most)
