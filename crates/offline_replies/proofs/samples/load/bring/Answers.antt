use Rattle.std.proofs.Common.{◌≡◌, ℤ, List, Ok, subst, FitsSigned, to_z, of_z, to_z-of_z, w64}
use Rattle.engine.specs.InMemory.{Loads}
use Rattle.import_forms.specs.declared.set.SetValue.{SetValue}
use Rattle.offline_replies.specs.Load as load
use Rattle.offline_replies.specs.Loaded.{with_set}
use Rattle.offline_replies.proofs.LoadLemmas.{stays-loaded, log-loaded}
use Rattle.offline_replies.proofs.samples.load.bring.Goals as goal

pub returns-clause-loaded : goal.returns-clause-loaded
returns-clause-loaded c =
    let fits : FitsSigned w64 c.args.moment = c.ranges.moment in
    λ r updates before. stays-loaded c.args.engine.now c.load_values.new.engine r updates (load.asked_for c.args.moment c.in_ok-values.values)
    c.load_values.result before (rw (to_z-of_z fits) at c.load_values.ensures)

pub returns-clause-log : goal.returns-clause-log
returns-clause-log c =
    let fits : FitsSigned w64 c.args.moment = c.ranges.moment in
    let at : ℤ = to_z w64 (of_z w64 c.args.moment) in
    let loads =
    subst (λ (vs : List SetValue). Loads c.args.engine.now (load.asked_for at vs) (Ok c.in_ok-found.found) c.load_values.new.engine)
    c.in_ok-values.ensures c.in_ok-found.ensures in
    let told = log-loaded c.args.engine.now c.load_values.new.engine at c.args.samples.now c.in_ok-found.found c.requires.limits loads in
    subst (λ (m : ℤ). c.load_values.new.engine.state.log ≡ with_set c.args.engine.now.meta m c.args.engine.now.state.log c.args.samples.now) (to_z-of_z fits) told
