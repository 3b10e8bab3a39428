use Rattle.std.proofs.Common.{subst, sym, ℤ, w64, Err, to_z, of_z}
use Rattle.std.proofs.lemmas.Int.{to_z-of_z}
use Rattle.dh_changes.specs.World.{facts}
use Rattle.engine.specs.declared.machine.ChangeFault.{ChangeFault}
use Rattle.engine.specs.Seen.{Brings, fault_by}
use Rattle.engine.proofs.Steps.{brings-put, brings-fault}
use Rattle.engine.proofs.bring.bring.Goals as goal

pub put-requires-clause-fits : goal.put-requires-clause-fits
put-requires-clause-fits g c = c.in-Ok.ensures.fits

pub returns-in-Ok-clause-brings : goal.returns-in-Ok-clause-brings
returns-in-Ok-clause-brings g c =
    subst (λ (m : ℤ). Brings c.args.meta.now c.args.log.now (record { who = c.args.who; moment = m; request = c.args.request.now }) c.put.result c.put.new.log)
    (to_z-of_z w64 c.args.moment c.ranges.moment)
    (brings-put c.args.meta.now c.args.log.now c.put.new.log _ _ _ c.in-Ok.found c.put.result c.maker_of-user.ensures c.world.ensures c.in-Ok.ensures.value
    c.put.ensures.puts)

pub returns-in-Err-clause-brings : goal.returns-in-Err-clause-brings
returns-in-Err-clause-brings g c =
    let told : Brings c.args.meta.now c.args.log.now (record { who = c.args.who; moment = c.args.moment; request = c.args.request.now })
    (Err (fault_by c.in-Err.met)) c.args.log.now =
    subst (λ (m : ℤ). Brings c.args.meta.now c.args.log.now (record { who = c.args.who; moment = m; request = c.args.request.now })
    (Err (fault_by c.in-Err.met)) c.args.log.now)
    (to_z-of_z w64 c.args.moment c.ranges.moment)
    (brings-fault c.args.meta.now c.args.log.now
    (record { who = c.args.who; moment = to_z w64 (of_z w64 c.args.moment); request = c.args.request.now })
    (facts c.world.result.now) c.in-Err.met c.world.ensures c.in-Err.ensures.value) in
    subst (λ (f : ChangeFault). Brings c.args.meta.now c.args.log.now
    (record { who = c.args.who; moment = c.args.moment; request = c.args.request.now }) (Err f) c.args.log.now) (sym c.fault_by.ensures) told
