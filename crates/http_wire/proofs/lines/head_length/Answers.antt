use Rattle.std.proofs.Common.{◌≡◌, ◌∙◌, ◌<◌, ◌+◌, cond, ap, drop, arith, sym, subst, get_or, Some, nat_eq}
use Rattle.http_wire.specs.Lines.{empty_line}
use Rattle.http_wire.proofs.LineLemmas.{head_on, head_here}
use Rattle.http_wire.proofs.lines.head_length.Goals as goal

pub returns-then-line-gt0 : goal.returns-then-line-gt0
returns-then-line-gt0 c =
    let some : 0 < cond (nat_eq (get_or c.args.bytes.now c.loop-at.at 0) 10) (empty_line (drop (c.loop-at.at + 1) c.args.bytes.now)) 0 =
    subst (λ n. 0 < n) c.line_behind-line.ensures.value c.if-line-gt0.true in
    ap (λ line. Some (c.loop-at.at + (1 + line))) c.line_behind-line.ensures.value
    ∙ sym (head_here c.args.bytes.now c.loop-at.at c.loop-at-test.true some c.loop-at.invariant)

pub loop-at-preserved : goal.loop-at-preserved
loop-at-preserved c =
    let none : c.line_behind-line.result ≡ 0 = omega arith in
    head_on c.args.bytes.now c.loop-at.at c.loop-at-test.true (sym c.line_behind-line.ensures.value ∙ none) c.loop-at.invariant
