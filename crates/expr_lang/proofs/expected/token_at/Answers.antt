use Rattle.std.proofs.Common.{sym}
use Rattle.expr_lang.proofs.Sooner.{quick_so}
use Rattle.expr_lang.proofs.expected.token_at.Goals as goal

pub returns-in-Some : goal.returns-in-Some
returns-in-Some c =
    let t = quick_so c.args.expect c.args.frames.now c.args.quoted c.args.place c.args.bytes.now (c.in-Some.symbol, c.in-Some.len) (sym c.in-Some.ensures) in
    record { value = sym t.next; within = t.within }
