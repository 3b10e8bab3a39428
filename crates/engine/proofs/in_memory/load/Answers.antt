use Rattle.std.proofs.Common.{refl, w64, FitsSigned, to_z-of_z}
use Rattle.engine.specs.InMemory.{loading}
use Rattle.engine.proofs.LoadLemmas.{loads_report, loads_refusal, fault_stays}
use Rattle.engine.proofs.in_memory.load.Goals as goal

pub returns-in-Ok : goal.returns-in-Ok
returns-in-Ok c =
    let fits : FitsSigned w64 c.args.moment = c.ranges.moment in
    let step = rw (to_z-of_z fits) at c.in-Ok.ensures.step in
    loads_report c.args.engine.now c.change.new.self (loading c.args.moment c.args.request.now) c.in-Ok.report step c.in-Ok.ensures.brought
    (c.in-Ok.ensures.sure (λ keeper. refl) c.requires)

pub returns-in-Err-refusal_of : goal.returns-in-Err-refusal_of
returns-in-Err-refusal_of c =
    fault_stays c.args.engine.now c.change.new.self c.in-Err.fault c.in-Err.ensures.brought (c.in-Err.ensures.sure (λ keeper. refl) c.requires)

pub returns-in-Ok-refusal_of : goal.returns-in-Ok-refusal_of
returns-in-Ok-refusal_of c =
    let fits : FitsSigned w64 c.args.moment = c.ranges.moment in
    let step = rw (to_z-of_z fits) at c.in-Err.ensures.step in
    loads_refusal c.args.engine.now c.change.new.self (loading c.args.moment c.args.request.now) c.in-Err.fault c.in-Ok-refusal_of.refusal step
    c.in-Err.ensures.brought
    c.in-Ok-refusal_of.ensures
