-- What each step does to the view of the seat that makes it, and what it tells.
use Rattle.std.specs.Prelude.{◌≡◌, ◌≤◌, ◌+◌, ◌++◌, ◌∷◌, [], ℕ, List, Option, None, Some, unwrap_or}
use Rattle.atomic_table.specs.Table.{Me, Step}
use Rattle.shared_engine.specs.Views.{Settled}
use Rattle.shared_engine.specs.Rule.{FitsOld}
use Rattle.shared_engine.specs.declared.views.Known.{Known}
use Rattle.shared_engine.specs.declared.views.View.{View}
use Rattle.shared_engine.specs.declared.views.Role.TheVariants.{Caller, Lock, Spent}

module _ {E : Type 0} where
  -- the lock's first view: no entry, nothing told, and the first caller taken in
  abbrev pub opening : View E
  opening = record { role = Lock; list = []; told = 0; caller = 0; count = 1; taken = Some 0; old = None; gone = [] }

  abbrev pub token : ℕ → List E → ℕ → ℕ → List (Known E) → View E
  token caller list told count gone =
      record { role = Caller; list = list; told = told; caller = caller; count = count; taken = None; old = None; gone = gone }

  abbrev pub spent : View E
  spent = record { role = Spent; list = []; told = 0; caller = 0; count = 0; taken = None; old = None; gone = [] }

  abbrev pub with_more : List E → View E → View E
  with_more added v = record v { list = v.list ++ added }

  abbrev pub with_caller : View E → View E
  with_caller v = record v { count = v.count + 1 }

  abbrev pub new_token : View E → View E
  new_token v = token v.count v.list v.told 0 []

  abbrev pub with_nobody : View E → View E
  with_nobody v = record v { taken = None }

  abbrev pub token_back : View E → View E
  token_back v = token (unwrap_or v.taken 0) v.list v.told v.count v.gone

  abbrev pub with_token : View E → View E → View E
  with_token v w = record v { taken = Some w.caller; old = Some (record { list = w.list; told = w.told; count = w.count; gone = w.gone }) }

  abbrev pub with_gone : View E → View E → View E
  with_gone v w = record v { gone = v.gone ++ record { caller = w.caller; list = w.list } ∷ [] }

module _ {S E : Type 0} where
  -- a stamp: the entry is the last of the history
  abbrev pub Stamped : List E → Step S → Me S (View E) → ℕ → Me S (View E) → Type 0
  Stamped added step me found after = after ≡ (with_more added me.0, me.1)

  -- a tell: the number is the one that was told
  abbrev pub Told : Step S → Me S (View E) → ℕ → Me S (View E) → Type 0
  Told step me found after = after ≡ (record me.0 { told = step.first }, me.1)

  -- a look at the first word by the lock's seat: what was kept of a token fits the history, and so does what is known of all callers
  abbrev pub Met : (E → ℕ) → (E → Option ℕ) → Step S → Me S (View E) → ℕ → Me S (View E) → Type 0
  Met caller named step me found after =
      (after ≡ (record me.0 { old = None }, me.1)) × FitsOld caller named me.0 me.0.old × Settled caller me.0.count me.0.gone me.0.list

  -- a look at the second word by a token: what is found was told, and is no lower than what the token knew
  abbrev pub Asked : Step S → Me S (View E) → ℕ → Me S (View E) → Type 0
  Asked step me found after = (after ≡ (record me.0 { told = found }, me.1)) × (me.0.told ≤ found)
