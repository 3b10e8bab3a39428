-- The rule of the two words, which holds between any two steps: the first counts the entries of the lock's history, the second is the
-- number that was told last. A caller's token knows a beginning of that history in which all of the caller's own entries stand.
use Rattle.std.specs.Prelude.{◌≡◌, ◌≢◌, ◌⊎◌, ◌<◌, ◌≤◌, ◌%◌, ◌^◌, ◌∷◌}
use Rattle.std.specs.Prelude.{[], ℕ, List, length, All, Any, Option, Some, IfSome}
use mathlib.Core.Option.{some}
use mathlib.Core.List.{IsPrefix}
use lib.ListN.{get_elem?}
use Rattle.atomic_table.specs.Table.{State}
use Rattle.shared_engine.specs.Views.{own, Settled}
use Rattle.shared_engine.specs.declared.views.Known.{Known}
use Rattle.shared_engine.specs.declared.views.Old.{Old}
use Rattle.shared_engine.specs.declared.views.View.{View}
use Rattle.shared_engine.specs.declared.views.Role.TheVariants.{Caller, Lock}

module _ {E : Type 0} (caller : E → ℕ) (named : E → Option ℕ) where
  -- an entry of the history names this number
  abbrev pub Names : List E → ℕ → Type 0
  Names list number = Any (λ entry. named entry ≡ Some number) list

  -- nothing was told, or what an entry names
  abbrev pub IsTold : List E → ℕ → Type 0
  IsTold list number = (number ≡ 0) ⊎ Names list number

  -- what a caller knows fits what the lock's seat knows
  pub record Fits (lock : View E) (number : ℕ) (list : List E) (told : ℕ) : Type 0 where
    pub front : IsPrefix list lock.list
    pub before : told ≤ lock.told
    pub counted : number < lock.count
    pub same : own caller number lock.list ≡ own caller number list

  -- the first caller knows how many callers there are, and who is gone
  abbrev pub FitsFirst : View E → ℕ → ℕ → List (Known E) → Type 0
  FitsFirst lock number count gone = number ≡ 0 → (count ≡ lock.count) × (gone ≡ lock.gone)

  -- a token fits, and its caller is neither taken in nor gone
  pub record IsOut (lock token : View E) : Type 0 where
    pub fits : Fits lock token.caller token.list token.told
    pub first : FitsFirst lock token.caller token.count token.gone
    pub away : lock.taken ≢ Some token.caller
    pub here : All (λ (known : Known E). known.caller ≢ token.caller) lock.gone

  -- what the token of the caller who is taken in knew
  abbrev pub FitsOld : View E → Option (Old E) → Type 0
  FitsOld lock old = IfSome old (λ known. (number : ℕ) × (lock.taken ≡ Some number) × Fits lock number known.list known.told
      × FitsFirst lock number known.count known.gone)

  pub record IsKeptBy {S : Type 0} (lock : View E) (s : State S (View E)) : Type 0 where
    pub at : get_elem? s.views 0 ≡ some lock
    pub role : lock.role ≡ Lock
    pub words : s.words ≡ (length lock.list % 2 ^ 64) ∷ lock.told ∷ []
    pub told : IsTold lock.list lock.told
    pub tokens : (seat : ℕ) (v : View E) → get_elem? s.views seat ≡ some v → v.role ≡ Caller → IsOut lock v
    -- two tokens are of two callers
    pub apart : (i j : ℕ) (v w : View E) → get_elem? s.views i ≡ some v → get_elem? s.views j ≡ some w → v.role ≡ Caller → w.role ≡ Caller
        → v.caller ≡ w.caller → i ≡ j
    pub settled : Settled caller lock.count lock.gone lock.list
    pub taken : IfSome lock.taken (λ number. (number < lock.count) × All (λ (known : Known E). known.caller ≢ number) lock.gone)
    pub old : FitsOld lock lock.old

  abbrev pub IsKept : {S : Type 0} → State S (View E) → Type 0
  IsKept s = (lock : View E) × IsKeptBy lock s
