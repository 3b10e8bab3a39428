-- A history that threads share: what each caller's own part of it is, and how a caller's token and the lock's seat stand to it.
use Rattle.std.specs.Prelude.{◌≡◌, ◌≢◌, ◌≤◌, ◌<◌, ◌==◌, ◌∷◌, ⊤, [], ℕ, List, All, filter, map, Option, Some}
use mathlib.Core.List.{IsPrefix}
use Rattle.atomic_table.specs.Seated.{TableId}
use Rattle.shared_engine.specs.declared.views.Known.{Known}

-- the entries of one caller, in their order
abbrev pub own : {E : Type 0} → (E → ℕ) → ℕ → List E → List E
own caller number entries = filter (λ entry. caller entry == number) entries

-- no two of these numbers are the same
abbrev pub AreApart : List ℕ → Type 0
AreApart [] = ⊤
AreApart (x ∷ xs) = All (λ y. x ≢ y) xs × AreApart xs

-- Of so many callers these are gone. None is the first, nor another one too; what they knew last are beginnings of the history, with all of
-- their own entries. Who isn't there yet has no entry.
pub record Settled {E : Type 0} (caller : E → ℕ) (count : ℕ) (gone : List (Known E)) (list : List E) : Type 0 where
  pub all : All (λ (known : Known E). IsPrefix known.list list × (own caller known.caller list ≡ own caller known.caller known.list)
      × (known.caller < count) × (known.caller ≢ 0)) gone
  pub apart : AreApart (map (λ (known : Known E). known.caller) gone)
  pub fresh : (number : ℕ) → count ≤ number → own caller number list ≡ []

-- the seat that lies under the lock: the history, the number that was told last, how many callers there are, who is taken in, and who is gone
pub record LockView (E : Type 0) : Type 0 where
  pub table : TableId
  pub list : List E
  pub told : ℕ
  pub count : ℕ
  pub taken : Option ℕ
  pub gone : List (Known E)

-- a caller's token: the caller's number, the history as its last call left it, and the greatest number that it was told
pub record TokenView (E : Type 0) : Type 0 where
  pub table : TableId
  pub caller : ℕ
  pub list : List E
  pub told : ℕ

-- the first caller's token: the history as its last call left it, how many callers there are, and who is gone
pub record FirstView (E : Type 0) : Type 0 where
  pub table : TableId
  pub list : List E
  pub count : ℕ
  pub gone : List (Known E)

-- what the caller of a token knows
abbrev pub known_of : {E : Type 0} → TokenView E → Known E
known_of token = record { caller = token.caller; list = token.list }

-- the lock's history begins with the token's, and has no entry of the caller beyond those in the token's; its told number is no lower
pub record Follows {E : Type 0} (caller : E → ℕ) (token : TokenView E) (lock : LockView E) : Type 0 where
  pub front : IsPrefix token.list lock.list
  pub told : token.told ≤ lock.told
  pub same : own caller token.caller lock.list ≡ own caller token.caller token.list

-- one entry is added, and it is that of the caller who is taken in
abbrev pub IsOneOf : {E : Type 0} → (E → ℕ) → Option ℕ → List E → Type 0
IsOneOf {E} caller taken added = (entry : E) × (added ≡ entry ∷ []) × (taken ≡ Some (caller entry))
