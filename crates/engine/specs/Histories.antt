-- Histories: the calls from the start on, each with its reply.
use Rattle.std.specs.Prelude.{◌≡◌, ◌≤◌, [], ◌∷◌, ℕ, List, length, take, slice_get, Some, IfSome, Ok, Err, ◌≢◌}
use Rattle.dh_metadata.specs.declared.held.Records.{Records}
use Rattle.change_log.specs.declared.limits.Limits.{Limits}
use Rattle.engine.specs.declared.machine.Staged.{Staged}
use Rattle.engine.specs.Machine.{State, start, Act, IsReply, next}
use Rattle.engine.specs.Machine.Act.{changed, begun, swapped, dropped, looked}

-- the state after these calls
abbrev pub after_from : Records → State → List Act → State
after_from meta state [] = state
after_from meta state (act ∷ acts) = after_from meta (next meta state act) acts

abbrev pub after : Records → List Act → State
after meta acts = after_from meta start acts

-- at each place stands a reply that the machine may give in the state after the calls before it
abbrev pub IsLegal : Records → Limits → List Act → Type 0
IsLegal meta limits acts = (n : ℕ) → (act : Act) → slice_get acts n ≡ Some act → IsReply meta limits (after meta (take n acts)) act

-- the number that the last swap answered, or this one if there is no swap
abbrev pub last_swap : ℕ → List Act → ℕ
last_swap number [] = number
last_swap number (swapped ticket (Ok published) ∷ acts) = last_swap published acts
last_swap number (swapped ticket (Err memory) ∷ acts) = last_swap number acts
last_swap number (changed asked reply ∷ acts) = last_swap number acts
last_swap number (begun kind reply ∷ acts) = last_swap number acts
last_swap number (dropped ticket ∷ acts) = last_swap number acts
last_swap number (looked asked reply ∷ acts) = last_swap number acts

-- an update that is begun stands for no more changes than there are, and its ticket was given
pub record IsUpdate (state : State) (update : Staged) : Type 0 where
  pub there : update.number ≤ length state.log
  pub given : update.ticket ≤ state.ticket

-- the numbers of a state are in order, and the two updates that may be begun have two tickets
pub record IsInOrder (limits : Limits) (state : State) : Type 0 where
  pub published : state.published ≤ length state.log
  pub base_cut : state.base_cut ≤ state.published
  pub full : IfSome state.full (IsUpdate state)
  pub latest : IfSome state.latest (IsUpdate state)
  pub apart : IfSome state.full (λ one. IfSome state.latest (λ other. one.ticket ≢ other.ticket))
  pub tickets : state.ticket ≤ limits.updates
