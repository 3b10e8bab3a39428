use Rattle.std.proofs.Common.{◌≡◌, ℕ, suc, ◌+◌, ◌-◌, length, drop, Result, Ok, Err, sym, ap, subst, ◌∙◌, arith}
use Rattle.std.proofs.lemmas.List.{drop-drop, length-drop}
use Rattle.expr_lang.specs.declared.reading.Reader.{Reader}
use Rattle.dh_base.specs.Memory.{Answers}
use Rattle.expr_lang.specs.Causes.{stop_of}
use Rattle.expr_lang.specs.declared.reading.Nodes.{Nodes}
use Rattle.expr_lang.specs.Reading.{blank_count, token_from, with_token, read_rest}
use Rattle.expr_lang.proofs.Readings.{opened_token, step_ends, step_on}
use Rattle.expr_lang.proofs.reading.read.Goals as goal

pub returns-then-at-text : goal.returns-then-at-text
returns-then-at-text c =
    let s =
    step_ends c.args.place (c.loop-most.most - 1) c.loop-most.reader c.loop-most.at c.blanks-at.result c.args.text.now (c.blanks-at.ensures.count
    ∙ ap blank_count c.tail.ensures) (omega arith) in
    let e : suc (c.loop-most.most - 1) ≡ c.loop-most.most = omega arith in
    let same = sym s ∙ ap (λ (k : ℕ). read_rest c.args.place k c.loop-most.reader c.loop-most.at (drop c.loop-most.at c.args.text.now)) e
    ∙ c.loop-most.invariant.0 in
    subst (λ (meant : Result Nodes ℕ). Answers stop_of meant c.finish.result) same c.finish.ensures

pub returns-in-Err : goal.returns-in-Err
returns-in-Err c =
    let s =
    step_on c.args.place (c.loop-most.most - 1) c.loop-most.reader c.loop-most.at c.blanks-at.result c.args.text.now (c.blanks-at.ensures.count
    ∙ ap blank_count c.tail.ensures) (Err c.in-Err.len) (omega (arith, ap length c.tail.ensures, length-drop c.loop-most.at c.args.text.now))
    (c.in-Err.ensures.value
    ∙ ap (token_from c.loop-most.reader.expect c.loop-most.reader.frames c.loop-most.reader.quoted c.args.place) c.tail-bytes.ensures) in
    let e : suc (c.loop-most.most - 1) ≡ c.loop-most.most = omega arith in
    sym c.loop-most.invariant.0 ∙ sym (ap (λ (k : ℕ). read_rest c.args.place k c.loop-most.reader c.loop-most.at (drop c.loop-most.at c.args.text.now)) e) ∙ s

pub loop-most-preserved : goal.loop-most-preserved
loop-most-preserved c =
    let s =
    step_on c.args.place (c.loop-most.most - 1) c.loop-most.reader c.loop-most.at c.blanks-at.result c.args.text.now (c.blanks-at.ensures.count
    ∙ ap blank_count c.tail.ensures) (Ok c.in-Ok.found) (omega (arith, ap length c.tail.ensures, length-drop c.loop-most.at c.args.text.now))
    (c.in-Ok.ensures.value
    ∙ ap (token_from c.loop-most.reader.expect c.loop-most.reader.frames c.loop-most.reader.quoted c.args.place) c.tail-bytes.ensures) in
    let e : suc (c.loop-most.most - 1) ≡ c.loop-most.most = omega arith in
    let same = sym s ∙ ap (λ (k : ℕ). read_rest c.args.place k c.loop-most.reader c.loop-most.at (drop c.loop-most.at c.args.text.now)) e
    ∙ c.loop-most.invariant.0 in
    let after = c.loop-most.at + c.blanks-at.result + c.in-Ok.found.len in
    let opened = opened_token c.loop-most.reader (c.loop-most.at + c.blanks-at.result) c.in-Ok.found.token in (
      ap (λ (r : Reader). read_rest c.args.place (c.loop-most.most - 1) r after (drop after c.args.text.now)) c.in_ok-put_token-in-Ok.ensures
          ∙ ap (read_rest c.args.place (c.loop-most.most - 1) (with_token c.loop-most.reader (c.loop-most.at + c.blanks-at.result) c.in-Ok.found.token) after)
          (sym (drop-drop c.in-Ok.found.len (c.loop-most.at + c.blanks-at.result) c.args.text.now))
          ∙ same,
      omega (
        arith,
        ap length c.tail.ensures,
        length-drop c.loop-most.at c.args.text.now,
        ap length c.tail-bytes.ensures,
        length-drop (c.loop-most.at + c.blanks-at.result) c.args.text.now,
        c.in-Ok.ensures.within,
      ),
      omega (arith, opened, ap (λ (r : Reader). r.opened) c.in_ok-put_token-in-Ok.ensures),
    )
