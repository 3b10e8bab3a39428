use Rattle.std.proofs.Common.{◌∙◌, ap, subst, sym, length, arith, ◌<◌, ℤ, w64, Ok, Err, to_z, of_z}
use Rattle.std.proofs.lemmas.Int.{to_z-of_z}
use Rattle.engine.specs.declared.machine.ChangeFault.{ChangeFault}
use Rattle.engine.specs.Seen.{Puts}
use Rattle.engine.proofs.Steps.{append-puts, fault-puts, nothing-puts}
use Rattle.engine.proofs.bring.put.Goals as goal

pub returns-in-Ok-clause-puts : goal.returns-in-Ok-clause-puts
returns-in-Ok-clause-puts g c =
    let e = ap length c.as_slice.ensures in
    let some : 0 < length c.args.judged.writes = omega (arith, e) in
    subst (λ (m : ℤ). Puts c.args.log.now (record { user = c.args.user; moment = m; writes = c.args.judged.writes }) c.args.judged
    (Ok (record { body = c.args.judged.body; status = c.args.judged.status; number = c.in-Ok.number })) c.append.new.self)
    (to_z-of_z w64 c.args.moment c.ranges.moment)
    (append-puts c.args.log.now c.append.new.self (record { user = c.args.user; moment = _; writes = c.args.judged.writes }) c.args.judged c.in-Ok.number some
    c.in-Ok.ensures.appends)

pub returns-then-as_slice-eq0-clause-puts : goal.returns-then-as_slice-eq0-clause-puts
returns-then-as_slice-eq0-clause-puts g c =
    nothing-puts c.args.log.now (record { user = c.args.user; moment = c.args.moment; writes = c.args.judged.writes }) c.args.judged c.count-number.result
    (sym (ap length c.as_slice.ensures) ∙ c.if-as_slice-eq0.true) c.count-number.ensures

pub returns-in-Err-clause-puts : goal.returns-in-Err-clause-puts
returns-in-Err-clause-puts g c =
    let e = ap length c.as_slice.ensures in
    let some : 0 < length c.args.judged.writes = omega (arith, e) in
    subst (λ (m : ℤ). Puts c.args.log.now (record { user = c.args.user; moment = m; writes = c.args.judged.writes }) c.args.judged (Err c.log_fault.result)
    c.append.new.self) (to_z-of_z w64 c.args.moment c.ranges.moment)
    (subst (λ (fault : ChangeFault). Puts c.args.log.now
    (record { user = c.args.user; moment = to_z w64 (of_z w64 c.args.moment); writes = c.args.judged.writes }) c.args.judged (Err fault)
    c.append.new.self) (sym c.log_fault.ensures)
    (fault-puts c.args.log.now c.append.new.self (record { user = c.args.user; moment = _; writes = c.args.judged.writes }) c.args.judged c.in-Err.fault some
    c.in-Err.ensures.appends))
