-- An engine in memory: what loading comes to.
use Rattle.std.proofs.Common.{◌≡◌, ◌∙◌, ℕ, List, inl, inr, sym, ap, arith}
use Rattle.std.specs.Prelude.{Result, Ok, Err}
use Rattle.dh_base.specs.declared.codes.Refusal.{Refusal}
use Rattle.dh_outside.specs.Faults.{Rose}
use Rattle.dh_changes.specs.declared.change.Change.{Change}
use Rattle.dh_metadata.specs.declared.held.Records.{Records}
use Rattle.change_log.specs.declared.limits.Limits.{Limits}
use Rattle.engine.specs.Requests.{Asked}
use Rattle.engine.specs.declared.request.Judged.{Judged}
use Rattle.engine.specs.declared.machine.Report.{Report}
use Rattle.engine.specs.declared.machine.ChangeFault.{ChangeFault}
use Rattle.engine.specs.declared.machine.ChangeFault.TheVariants as change
use Rattle.engine.specs.Machine.{Step, IsReplyBy, change_of, judged_in}
use Rattle.engine.specs.Machine.Act.{changed}
use Rattle.engine.specs.Seen.{Seen, Brought}
use Rattle.engine.specs.InMemory.{outcome_within, outcome_by, outcome_of, full_refusal, IsRefusalBy, Loads}

-- ---- what a change comes to

outcome-report : (meta : Records) (limits : Limits) (log : List Change) (asked : Asked) (found : Result Judged Refusal) (report : Report)
    → IsReplyBy meta limits log asked found (Ok report) → outcome_by meta limits log asked found ≡ Ok report
outcome-report meta limits log asked (Ok found) report h = ap (outcome_within log (change_of meta asked found) found) h.0 ∙ ap Ok (sym h.1)
outcome-report meta limits log asked (Err refused) report h = absurd (let e = h in cc)

outcome-full : (meta : Records) (limits : Limits) (log : List Change) (asked : Asked) (found : Result Judged Refusal) (limit : ℕ)
    → IsReplyBy meta limits log asked found (Err (change.LogFull limit)) → outcome_by meta limits log asked found ≡ Err (full_refusal limit)
outcome-full meta limits log asked (Ok found) limit h = ap (outcome_within log (change_of meta asked found) found) h
outcome-full meta limits log asked (Err refused) limit h = absurd (let e = h in cc)

outcome-refused : (meta : Records) (limits : Limits) (log : List Change) (asked : Asked) (found : Result Judged Refusal) (refused : Refusal)
    → IsReplyBy meta limits log asked found (Err (change.Refused refused)) → outcome_by meta limits log asked found ≡ Err refused
outcome-refused meta limits log asked (Ok found) refused h = absurd h
outcome-refused meta limits log asked (Err other) refused h = let e = h in cc

pub loads_report : (old new : Seen) (asked : Asked) (report : Report) → Step old.meta old.limits old.state (changed asked (Ok report)) new.state
    → Brought old (Ok report) new
    → new.faults ≡ 0 → Loads old asked (Ok (Ok report)) new
unfolding outcome_of
loads_report old new asked report step brought none = (
  outcome-report old.meta old.limits old.state.log asked (judged_in old.meta old.state.log asked) report step.0,
  (step.1, (ap (λ (s : Seen). s.meta) brought.0, (ap (λ (s : Seen). s.limits) brought.0, none))),
)

pub loads_refusal : (old new : Seen) (asked : Asked) (fault : ChangeFault) (refusal : Refusal)
    → Step old.meta old.limits old.state (changed asked (Err fault)) new.state
    → Brought old (Err fault) new → IsRefusalBy fault refusal → Loads old asked (Ok (Err refusal)) new
unfolding outcome_of
loads_refusal old new asked (change.Refused refused) refusal step brought is =
    (outcome-refused old.meta old.limits old.state.log asked (judged_in old.meta old.state.log asked) refused step.0 ∙ ap Err (sym is), brought)
loads_refusal old new asked (change.LogFull limit) refusal step brought is =
    (outcome-full old.meta old.limits old.state.log asked (judged_in old.meta old.state.log asked) limit step.0 ∙ ap Err (sym is), brought)
loads_refusal old new asked change.StoreFault refusal step brought is = absurd is
loads_refusal old new asked change.Memory refusal step brought is = absurd is

rose-some : (a b : ℕ) → Rose a b → b ≡ 0 → ⊥
rose-some a b (inl less) none = omega (arith, less, none)
rose-some a b (inr most) none = omega (arith, most, none)

-- a fault leaves all, since the store has none
pub fault_stays : (old new : Seen) (fault : ChangeFault) → Brought old (Err fault) new → new.faults ≡ 0 → new ≡ old
fault_stays old new (change.Refused refused) brought none = brought
fault_stays old new (change.LogFull limit) brought none = brought
fault_stays old new change.StoreFault brought none = absurd (rose-some old.faults new.faults brought.0.0 none)
fault_stays old new change.Memory brought none = brought
