-- Where identifiers stand in a list.
use Rattle.std.specs.Prelude.{ℕ, Bool, List, [], ◌∷◌, ◌++◌, Option, None, Some, nat_eq, length, cond}
use Rattle.std.specs.List.{list_any, position_from}
use Rattle.std.specs.Cmp.Lexicographic.{pointwise}

-- two identifiers have the same bytes
abbrev pub same_id : List ℕ → List ℕ → Bool
same_id id other = pointwise nat_eq id other

-- the first place of an identifier, counted from 0
abbrev pub place_of : List (List ℕ) → List ℕ → Option ℕ
place_of ids id = position_from (λ other. same_id id other) 0 ids

-- the first identifier of a list, after others, that is one of those before it
abbrev pub repeat_behind : List (List ℕ) → List (List ℕ) → Option ℕ
repeat_behind before [] = None
repeat_behind before (id ∷ ids) =
    cond (list_any (λ other. same_id id other) before) (Some (length before)) (repeat_behind (before ++ id ∷ []) ids)

-- the place of the first identifier that stands earlier in the list too
abbrev pub repeat_of : List (List ℕ) → Option ℕ
repeat_of ids = repeat_behind [] ids

-- the identifier is one of these
abbrev pub is_one_of : List (List ℕ) → List ℕ → Bool
is_one_of ids id = list_any (λ other. same_id id other) ids
