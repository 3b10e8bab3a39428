use Rattle.std.proofs.Common.{◌≡◌, ◌∙◌, ◌<◌, ◌+◌, ap, drop, arith, sym, drop-drop}
use Rattle.http_wire.specs.Lines.{empty_line, blank_length}
use Rattle.http_wire.proofs.LineLemmas.{blank_step, blank_none}
use Rattle.http_wire.proofs.lines.blank_length.Goals as goal

pub returns-then-line-eq0-clause-value : goal.returns-then-line-eq0-clause-value
returns-then-line-eq0-clause-value c =
    let none : empty_line (drop c.loop-at.at c.args.bytes.now) ≡ 0 = sym (c.empty_line-line.ensures.value ∙ ap empty_line c.rest.ensures.value)
    ∙ c.if-line-eq0.true in
    let rest = blank_none (drop c.loop-at.at c.args.bytes.now) none in
    omega (arith, c.loop-at.invariant.skipped)

pub loop-at-preserved : goal.loop-at-preserved
loop-at-preserved c =
    let line : c.empty_line-line.result ≡ empty_line (drop c.loop-at.at c.args.bytes.now) = c.empty_line-line.ensures.value
    ∙ ap empty_line c.rest.ensures.value in
    let some : 0 < empty_line (drop c.loop-at.at c.args.bytes.now) = omega arith in
    let step = blank_step (drop c.loop-at.at c.args.bytes.now) some in
    let far : drop (empty_line (drop c.loop-at.at c.args.bytes.now)) (drop c.loop-at.at c.args.bytes.now)
    ≡ drop (c.loop-at.at + c.empty_line-line.result) c.args.bytes.now =
    drop-drop (empty_line (drop c.loop-at.at c.args.bytes.now)) c.loop-at.at c.args.bytes.now ∙ ap (λ n. drop (c.loop-at.at + n) c.args.bytes.now) (sym line) in
    let known = ap blank_length far in
    record {
      skipped = omega (arith, c.loop-at.invariant.skipped);
      within = omega arith;
    }
