use Rattle.std.proofs.Common.{◌≡◌, Err, IfSome, ap, subst, sym}
use Rattle.dh_outside.specs.declared.files.FileFault.TheVariants as fault
use Rattle.request_replies.proofs.OverLemmas.{long_over, long_unheld}
use Rattle.dhis_main.proofs.HeldLemmas.{held, long_file}
use Rattle.dhis_main.proofs.session.hold_session.Goals as goal

pub returns-in-Err-TooLong : goal.returns-in-Err-TooLong
returns-in-Err-TooLong g c =
    let too_long_is : Err c.in-Err-TooLong.field-0 ≡ Err fault.TooLong = ap Err c.in-Err-TooLong.field-0-is in
    let long = long_file 67108864 (g.F.FileSet.file c.args.files.now c.args.name.now) (c.in-Err-TooLong.ensures.too_long too_long_is) in
    held _ _ _ long.0 c.refuse_long.result c.status_over-in-Err-TooLong.result c.status_over-in-Err-TooLong.ensures long.1
    (long_over (g.C.Clock.shows c.args.clock.now) long.0 _ _ _ c.refuse_long.result long.2 c.refuse_long.ensures.refuses)
    (record {
      read = λ is. absurd (long_unheld _ _ c.refuse_long.result _ c.refuse_long.ensures.refuses is);
      write = λ is. absurd (long_unheld _ _ c.refuse_long.result _ c.refuse_long.ensures.refuses is);
      unwritten = c.refuse_long.ensures.unwritten;
    })

pub returns-in-Ok : goal.returns-in-Ok
returns-in-Ok g c =
    let lent : c.deref.result.now ≡ c.in-Ok.file.items = c.deref.ensures.value in
    held (g.C.Clock.shows c.args.clock.now) c.args.name.now _ c.deref.result.now c.session_over.result c.status_over.result c.status_over.ensures
    (subst (λ bytes. IfSome (g.F.FileSet.file c.args.files.now c.args.name.now) (λ all. bytes ≡ all)) (sym lent) c.in-Ok.ensures.bytes)
    c.session_over.ensures.over
    (record {
      read = c.session_over.ensures.read_fault;
      write = c.session_over.ensures.write_fault;
      unwritten = c.session_over.ensures.unwritten;
    })
