-- What a map from keys to what they hold says of a key.
use Rattle.std.specs.Prelude.{◌≡◌, ℕ, Bool, true, List, []}
use Rattle.std.specs.Option.{unwrap_or, is_some}
use Rattle.std.specs.List.{list_any}
use Rattle.std.specs.HashMap.{HashMap, get}
use Rattle.dh_changes.specs.Said.{same_id}

-- what a key holds, and this where the map hasn't it
abbrev pub held : {K V S : Type 0} → (K → K → Bool) → V → HashMap K V S → K → V
held eq nothing map key = unwrap_or (get eq map key) nothing

-- each key holds what it held, and is there if it was there
abbrev pub Grows : {K V S : Type 0} → (K → K → Bool) → V → HashMap K V S → HashMap K V S → Type 0
Grows {K} eq nothing old new =
    ((key : K) → held eq nothing new key ≡ held eq nothing old key) × ((key : K) → is_some (get eq old key) ≡ true → is_some (get eq new key) ≡ true)

-- the identifier is noted as a child of the parent
abbrev pub is_noted : {S : Type 0} → HashMap (List ℕ) (List (List ℕ)) S → List ℕ → List ℕ → Bool
is_noted children parent child = list_any (λ other. same_id child other) (held same_id [] children parent)
