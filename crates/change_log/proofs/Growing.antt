-- Writing things of one kind one after the other, as a loop does.
use Rattle.std.proofs.Common.{◌≡◌, ℕ, ◌+◌, ◌<◌, List, [], ◌∷◌, ◌++◌, get_or, take, length, sym, ap, ◌∙◌, append_assoc, length-append}
use Rattle.std.proofs.Common.{Result, Ok, Err, OnOk}
use Rattle.std.specs.List.{flat_map}
use Rattle.std.proofs.lemmas.List.{take_more}
use Rattle.std.proofs.lemmas.List.Concat.{flat_map-append}
use Rattle.std.proofs.lemmas.List.{append-nil}

-- the text of one thing more
pub flat_map-next : {A : Type 0} (s : A → List ℕ) (xs : List A) (i : ℕ) (x : A) → i < length xs → x ≡ get_or xs i x
    → flat_map s (take (i + 1) xs) ≡ flat_map s (take i xs) ++ s x
flat_map-next s xs i x lt at =
    ap (flat_map s) (take_more xs i x lt) ∙ flat_map-append s (take i xs) (get_or xs i x ∷ [])
    ∙ ap (λ t. flat_map s (take i xs) ++ t) (append-nil (s (get_or xs i x)))
    ∙ ap (λ y. flat_map s (take i xs) ++ s y) (sym at)

pub grown : {A : Type 0} (s : A → List ℕ) (start old new : List ℕ) (xs : List A) (i : ℕ) (x : A) → i < length xs → x ≡ get_or xs i x
    → old ≡ start ++ flat_map s (take i xs) → new ≡ old ++ s x
    → new ≡ start ++ flat_map s (take (i + 1) xs)
grown s start old new xs i x lt at was now =
    now ∙ ap (λ t. t ++ s x) was ∙ append_assoc start (flat_map s (take i xs)) (s x) ∙ ap (λ t. start ++ t) (sym (flat_map-next s xs i x lt at))

pub length-next : {A : Type 0} (s : A → List ℕ) (xs : List A) (i : ℕ) (x : A) → i < length xs → x ≡ get_or xs i x
    → length (flat_map s (take (i + 1) xs)) ≡ length (flat_map s (take i xs)) + length (s x)
length-next s xs i x lt at = ap length (flat_map-next s xs i x lt at) ∙ length-append (flat_map s (take i xs)) (s x)

-- one text put after another
pub both_put : {E : Type 0} (result : Result (Unit {0}) E) (start middle after a b : List ℕ) → middle ≡ start ++ a → OnOk result (after ≡ middle ++ b)
    → OnOk result (after ≡ start ++ (a ++ b))
both_put (Ok done) start middle after a b was now = now ∙ ap (λ t. t ++ b) was ∙ append_assoc start a b
both_put (Err fault) start middle after a b was now = now

-- what holds once both are put
pub both_hold : {E A : Type 0} (B : Type 0) (result : Result (Unit {0}) E) → A → OnOk result B → OnOk result (A × B)
both_hold B (Ok done) a b = (a, b)
both_hold B (Err fault) a b = tt
