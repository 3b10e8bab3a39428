-- Lists in which each item stands once, at its first place.
use Rattle.std.specs.Prelude.{◌≡◌, ℕ, Bool, nat_eq, List, [], ◌∷◌, ◌++◌, ◌==◌, if◌then◌else◌, Vec}
use Rattle.std.specs.List.{list_any}
use Rattle.std.specs.HashSet.{contains_by, contains, HashSet}
use Rattle.std.specs.declared.alloc.Global.{Global}
use Rattle.std.specs.Cmp.Lexicographic.{pointwise}
use Rattle.dh_periods.specs.declared.name.PeriodName.{PeriodName}
use Rattle.dh_periods.specs.Keys.{same_period}

-- an item is put at the end unless it is there
abbrev pub with_new : {T : Type 0} → (T → T → Bool) → List T → T → List T
with_new same kept x = if list_any (same x) kept then kept else kept ++ x ∷ []

-- items one after the other, each put at the end unless it is there
abbrev pub once_from : {T : Type 0} → (T → T → Bool) → List T → List T → List T
once_from same kept [] = kept
once_from same kept (x ∷ xs) = once_from same (with_new same kept x) xs

-- two texts have the same bytes
abbrev pub same_bytes : List ℕ → List ℕ → Bool
same_bytes a b = pointwise nat_eq a b

-- texts, each once
unfoldable pub texts_once : List (List ℕ) → List (List ℕ)
texts_once texts = once_from same_bytes [] texts

-- the pieces of a text between its semicolons, where the first piece has begun already
abbrev pub pieces_from : List ℕ → List ℕ → List (List ℕ)
pieces_from piece [] = piece ∷ []
pieces_from piece (b ∷ bs) = if b == 59 then piece ∷ pieces_from [] bs else pieces_from (piece ++ b ∷ []) bs

-- the pieces of a text between its semicolons
unfoldable pub pieces : List ℕ → List (List ℕ)
pieces text = pieces_from [] text

-- a set has these texts and no others
abbrev pub KnowsTexts : {S : Type 0} → HashSet (Vec ℕ Global) S → List (List ℕ) → Type 0
KnowsTexts seen kept = (text : List ℕ) → contains_by (λ key. same_bytes text key.items) seen ≡ list_any (same_bytes text) kept

-- a set has these periods and no others
abbrev pub KnowsPeriods : {S : Type 0} → HashSet PeriodName S → List PeriodName → Type 0
KnowsPeriods seen kept = (period : PeriodName) → contains same_period seen period ≡ list_any (same_period period) kept
