-- What a listener shows of itself, and what its calls do to that.
use Rattle.std.specs.Prelude.{◌≡◌, ◌≤◌, ◌+◌, ◌++◌, ◌∷◌, ◌||◌, ℕ, Bool, true, false, List, [], Option, None, Some, Result, Ok, Err}
use Rattle.std.specs.Option.{option_map}
use Rattle.dh_outside.specs.Talk.{Talk}

-- how many links it has accepted; whether it has told that it is closed; the links given back to it, in order, if it tells them;
-- and how many of its calls have failed
pub record Shown (N : Type 0) : Type 0 where
  pub accepted : ℕ
  pub closed : Bool
  pub back : Option (List N)
  pub faults : ℕ

-- the links that an accept gave: one or none
abbrev pub links_in : {N E : Type 0} → Result (Option N) E → ℕ
links_in (Ok (Some link)) = 1
links_in (Ok None) = 0
links_in (Err e) = 0

-- an accept told that no more links come
abbrev pub is_end : {N E : Type 0} → Result (Option N) E → Bool
is_end (Ok (Some link)) = false
is_end (Ok None) = true
is_end (Err e) = false

-- an accept counts the link that it gives, and from the first end on the listener is closed
pub record Accepts {N E : Type 0} (old new : Shown N) (result : Result (Option N) E) : Type 0 where
  pub accepted : new.accepted ≡ old.accepted + links_in result
  pub closed : new.closed ≡ (old.closed || is_end result)
  pub back : new.back ≡ old.back
  pub faults : old.faults ≤ new.faults

-- the same with a link more that was given back
abbrev pub with_back : {N : Type 0} → Shown N → N → Shown N
with_back shown link = record shown { back = option_map (λ links. links ++ link ∷ []) shown.back }

-- nothing was read of a link or written to it, and no call on it has failed
abbrev pub IsUntouched : Option Talk → ℕ → Type 0
IsUntouched None faults = faults ≡ 0
IsUntouched (Some talk) faults = (talk.heard ≡ []) × (talk.written ≡ []) × (faults ≡ 0)
