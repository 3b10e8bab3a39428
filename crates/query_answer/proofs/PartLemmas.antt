-- The parts of a query by their places.
use Rattle.std.proofs.Common.{◌≡◌, ◌∙◌, ℕ, ◌<◌, ◌≤◌, List, length, map, take, get_or, [], ◌∷◌, ◌++◌, ◌+◌, sym, ap, subst}
use Rattle.std.proofs.lemmas.List.{length-map, get_or-map, map_push, take_more}

-- there are as many parts as slots
part_many : {P S : Type 0} (slot : P → S) (parts : List P) (slots : List S) → map slot parts ≡ slots → length parts ≡ length slots
part_many slot parts slots are = sym (length-map parts slot) ∙ ap length are

pub part_there : {P S : Type 0} (slot : P → S) (parts : List P) (slots : List S) (i : ℕ) → map slot parts ≡ slots → i < length parts → i < length slots
part_there slot parts slots i are within = subst (λ n. i < n) (part_many slot parts slots are) within

pub part_found : {P S : Type 0} (slot : P → S) (parts : List P) (slots : List S) (i : ℕ) (x : P) → map slot parts ≡ slots → i < length parts
    → x ≡ get_or parts i x → slot x ≡ get_or slots i (slot x)
part_found slot parts slots i x are within at =
    ap slot at ∙ sym (get_or-map slot parts i x (slot x) within) ∙ ap (λ l. get_or l i (slot x)) are

pub part_past : {P S : Type 0} (slot : P → S) (parts : List P) (slots : List S) (i : ℕ) → map slot parts ≡ slots → length parts ≤ i → length slots ≤ i
part_past slot parts slots i are past = subst (λ n. n ≤ i) (part_many slot parts slots are) past

-- a part more
pub part_step : {P S : Type 0} (slot : P → S) (parts new : List P) (slots : List S) (i : ℕ) (x : P) → i < length slots
    → slot x ≡ get_or slots i (slot x) → new ≡ parts ++ x ∷ [] → map slot parts ≡ take i slots → map slot new ≡ take (i + 1) slots
part_step slot parts new slots i x within at is before =
    ap (map slot) is ∙ map_push slot parts x
    ∙ ap (λ l. l ++ slot x ∷ []) before
    ∙ ap (λ s. take i slots ++ s ∷ []) at
    ∙ sym (take_more slots i (slot x) within)
