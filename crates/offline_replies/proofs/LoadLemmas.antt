-- A log that grows by sets of samples.
use Rattle.std.proofs.Common.{◌≡◌, ◌∙◌, ℕ, ℤ, ◌+◌, ◌-◌, ◌≤◌, ◌<◌, ◌/◌, suc, List, [], min, refl, sym, ap, subst, arith, None, Result, Ok, Err}
use Rattle.std.specs.Prelude.{OnOk}
use Rattle.dh_base.specs.declared.codes.Refusal.{Refusal}
use Rattle.dh_base.specs.declared.memory.Memory.{Memory}
use Rattle.dh_base.specs.declared.plain.CutKind.TheVariants.{Latest}
use Rattle.dh_changes.specs.declared.change.Change.{Change}
use Rattle.dh_metadata.specs.declared.held.Records.{Records}
use Rattle.change_log.specs.declared.limits.Limits.{Limits}
use Rattle.engine.specs.Requests.{Asked}
use Rattle.engine.specs.declared.machine.Report.{Report}
use Rattle.engine.specs.declared.machine.Staged.{Staged}
use Rattle.engine.specs.Machine.{State, Step, kind_by, kind_of, number_of, with_staged, published_by}
use Rattle.engine.specs.Machine.Act.{begun, swapped}
use Rattle.engine.specs.Seen.{Seen}
use Rattle.engine.specs.InMemory.{largest, started, outcome_of, Loads}
use Rattle.offline_replies.specs.declared.samples.draws.Sample.{Sample}
use Rattle.offline_replies.specs.Draws.{start, samples, after_samples}
use Rattle.offline_replies.specs.Sets.{sets_from, sample_sets}
use Rattle.offline_replies.specs.Loaded.{asked_for, log_after, with_set, log_with, HasLoaded, IsUpdated}

-- ---- one set

-- a machine before the first call
pub nothing-loaded : (machine : Seen) → machine ≡ started machine.meta → HasLoaded machine.meta 0 machine
nothing-loaded machine is = record {
  meta = refl;
  limits = ap (λ (m : Seen). m.limits) is;
  full = ap (λ (m : Seen). m.state.full) is;
  latest = ap (λ (m : Seen). m.state.latest) is;
  ticket = let e = ap (λ (m : Seen). m.state.ticket) is in omega (arith, e);
  faults = ap (λ (m : Seen). m.faults) is;
}

pub stays-loaded : (old new : Seen) (r : Records) (updates : ℕ) (asked : Asked) (result : Result (Result Report Refusal) Memory) → HasLoaded r updates old
    → Loads old asked result new
    → HasLoaded r updates new
stays-loaded old new r updates asked (Ok (Ok report)) before is = record {
  meta = is.1.1.0 ∙ before.meta;
  limits = is.1.1.1.0 ∙ before.limits;
  full = ap (λ (s : State). s.full) is.1.0 ∙ before.full;
  latest = ap (λ (s : State). s.latest) is.1.0 ∙ before.latest;
  ticket = let e = ap (λ (s : State). s.ticket) is.1.0 in omega (arith, e, before.ticket);
  faults = is.1.1.1.1;
}
stays-loaded old new r updates asked (Ok (Err refused)) before is = subst (λ (m : Seen). HasLoaded r updates m) (sym is.1) before
stays-loaded old new r updates asked (Err memory) before is = subst (λ (m : Seen). HasLoaded r updates m) (sym is) before

-- the log that it leaves
pub log-loaded : (old new : Seen) (moment : ℤ) (set : List Sample) (found : Result Report Refusal) → old.limits ≡ largest
    → Loads old (asked_for moment set) (Ok found) new
    → new.state.log ≡ with_set old.meta moment old.state.log set
unfolding with_set
log-loaded old new moment set (Ok report) limits is =
    let asked = asked_for moment set in
    ap (λ (s : State). s.log) is.1.0
    ∙ ap (log_after old.meta old.state.log asked) (sym (ap (λ (l : Limits). outcome_of old.meta l old.state.log asked) (sym limits) ∙ is.0))
log-loaded old new moment set (Err refused) limits is =
    let asked = asked_for moment set in
    ap (λ (m : Seen). m.state.log) is.1
    ∙ ap (log_after old.meta old.state.log asked) (sym (ap (λ (l : Limits). outcome_of old.meta l old.state.log asked) (sym limits) ∙ is.0))

-- ---- one update

-- a cut and its swap, where no other update is begun
pub updated : (old mid new : Seen) (update : Staged) (published : ℕ) → old.state.full ≡ None
    → Step old.meta old.limits old.state (begun Latest (Ok update)) mid.state → mid ≡ record old { state = mid.state; tables = mid.tables; part = mid.part }
    → Step mid.meta mid.limits mid.state (swapped update.ticket (Ok published)) new.state
    → new ≡ record mid { state = new.state; tables = new.tables; part = new.part } → IsUpdated old new
updated old mid new update published none cut kept swap same =
    let full : mid.state.full ≡ None = ap (λ (s : State). s.full) cut.1 ∙ none in
    let kind : kind_of mid.state update.ticket ≡ Latest = ap (kind_by update.ticket) full in
    let number : ℕ = number_of mid.state update.ticket in
    let after : new.state ≡ with_staged (published_by mid.state Latest number published) Latest None =
    subst (λ k. new.state ≡ with_staged (published_by mid.state k number published) k None) kind swap.1 in
    record {
      meta = ap (λ (s : Seen). s.meta) same ∙ ap (λ (s : Seen). s.meta) kept;
      limits = ap (λ (s : Seen). s.limits) same ∙ ap (λ (s : Seen). s.limits) kept;
      log = ap (λ (s : State). s.log) after ∙ ap (λ (s : State). s.log) cut.1;
      full = ap (λ (s : State). s.full) after ∙ full;
      latest = ap (λ (s : State). s.latest) after;
      ticket = ap (λ (s : State). s.ticket) after ∙ ap (λ (s : State). s.ticket) cut.1 ∙ ap (λ (u : Staged). u.ticket) cut.0.1.1;
      faults = ap (λ (s : Seen). s.faults) same ∙ ap (λ (s : Seen). s.faults) kept;
    }

-- one update more
one_more : (old new : Seen) (updates : ℕ) → HasLoaded old.meta updates old → IsUpdated old new → HasLoaded old.meta (updates + 1) new
one_more old new updates before is = record {
  meta = is.meta;
  limits = is.limits ∙ before.limits;
  full = is.full;
  latest = is.latest;
  ticket = omega (arith, is.ticket, before.ticket);
  faults = is.faults ∙ before.faults;
}

pub more_loaded : {A : Type 0} (old new : Seen) (updates : ℕ) (result : Result A Memory) → HasLoaded old.meta updates old
    → OnOk result (IsUpdated old new) → OnOk result (HasLoaded old.meta (updates + 1) new)
more_loaded old new updates (Ok done) before is = one_more old new updates before is
more_loaded old new updates (Err memory) before is = tt

pub same_log : {A : Type 0} (old new : Seen) (result : Result A Memory) → OnOk result (IsUpdated old new) → OnOk result (new.state.log ≡ old.state.log)
same_log old new (Ok done) is = is.log
same_log old new (Err memory) is = tt

-- or none
pub still_loaded : (r : Records) (machine : Seen) (updates more : ℕ) → updates ≤ more → HasLoaded r updates machine → HasLoaded r more machine
still_loaded r machine updates more within before = record {
  meta = before.meta;
  limits = before.limits;
  full = before.full;
  latest = before.latest;
  ticket = omega (arith, within, before.ticket);
  faults = before.faults;
}

pub none_more : (machine : Seen) (updates : ℕ) → HasLoaded machine.meta updates machine → HasLoaded machine.meta (updates + 1) machine
none_more machine updates before = still_loaded machine.meta machine updates (updates + 1) (omega arith) before

-- there are few updates
pub may_update : (r : Records) (machine : Seen) (updates : ℕ) → HasLoaded r updates machine → updates < 200 → machine.state.ticket < machine.limits.updates
may_update r machine updates before few =
    let most = ap (λ (l : Limits). l.updates) before.limits in let ticket = before.ticket in omega (arith, most, ticket, few)

pub ruleset after_set = (more_loaded, same_log, none_more, may_update)

-- there are few sets
pub few_sets : (count sets set : ℕ) → sets ≡ (count + 999) / 1000 → count ≤ 200000 → set < sets → set < 200
few_sets count sets set is few below = omega (arith, is, few, below)

pub few_sets_done : (count sets set : ℕ) → sets ≡ (count + 999) / 1000 → count ≤ 200000 → set ≤ sets → set ≤ 200
few_sets_done count sets set is few within = omega (arith, is, few, within)

-- ---- one set after the other

left-suc : (n i : ℕ) → i < n → n - i ≡ suc (n - (i + 1))
left-suc n i below = omega (arith, below)

-- before the first set
pub none-brought : (machine : Seen) (moment : ℤ) (n count x : ℕ) → machine ≡ started machine.meta → x ≡ start
    → log_with machine.meta moment [] (sets_from n count start) ≡ log_with machine.meta moment machine.state.log (sets_from (n - 0) count x)
none-brought machine moment n count x is drawn =
    ap (λ l. log_with machine.meta moment l (sets_from n count start)) (sym (ap (λ (m : Seen). m.state.log) is))
    ∙ ap (λ m. log_with machine.meta moment machine.state.log (sets_from m count start)) all-left
    ∙ ap (λ z. log_with machine.meta moment machine.state.log (sets_from (n - 0) count z)) (sym drawn)
  where
    all-left : n ≡ n - 0
    all-left = omega arith

-- a machine's own metadata
pub own-meta : (r : Records) (machine : Seen) (updates : ℕ) → HasLoaded r updates machine → HasLoaded machine.meta updates machine
own-meta r machine updates before = subst (λ (q : Records). HasLoaded q updates machine) (sym before.meta) before

-- one set more
pub set-step : (r meta : Records) (moment : ℤ) (old new : List Change) (n i left rest size x y : ℕ) (set : List Sample) → meta ≡ r → i < n
    → size ≡ min left 1000 → rest ≡ left - 1000
    → set ≡ samples size x → y ≡ after_samples size x → new ≡ with_set meta moment old set
    → log_with r moment old (sets_from (n - i) left x) ≡ log_with r moment new (sets_from (n - (i + 1)) rest y)
set-step r meta moment old new n i left rest size x y set same below sized less drawn next more =
    ap (λ m. log_with r moment old (sets_from m left x)) (left-suc n i below)
    ∙ ap (λ k. log_with r moment (with_set r moment old (samples k x)) (sets_from (n - (i + 1)) (left - 1000) (after_samples k x))) (sym sized)
    ∙ ap (λ s. log_with r moment (with_set r moment old s) (sets_from (n - (i + 1)) (left - 1000) (after_samples size x))) (sym drawn)
    ∙ ap (λ l. log_with r moment l (sets_from (n - (i + 1)) (left - 1000) (after_samples size x)))
    (sym (more ∙ ap (λ (m : Records). with_set m moment old set) same))
    ∙ ap (λ z. log_with r moment new (sets_from (n - (i + 1)) (left - 1000) z)) (sym next)
    ∙ ap (λ k. log_with r moment new (sets_from (n - (i + 1)) k y)) (sym less)

-- all sets are brought
pub all-brought : (r : Records) (moment : ℤ) (log : List Change) (count n i left x : ℕ) → n ≡ (count + 999) / 1000 → n ≤ i
    → log_with r moment [] (sets_from n count start) ≡ log_with r moment log (sets_from (n - i) left x) → log ≡ log_with r moment [] (sample_sets count)
unfolding sample_sets
all-brought r moment log count n i left x all done is =
    sym (is ∙ ap (λ m. log_with r moment log (sets_from m left x)) none-left) ∙ ap (λ k. log_with r moment [] (sets_from k count start)) all
  where
    none-left : n - i ≡ 0
    none-left = omega (arith, done)
