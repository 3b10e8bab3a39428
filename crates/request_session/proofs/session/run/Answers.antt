use Rattle.std.proofs.Common.{rules, ◌∙◌, ◌≡◌, ◌≢◌, ◌+◌, true, false, refl, arith}
use Rattle.request_session.proofs.PromptLemmas.{prompt_none}
use Rattle.request_session.proofs.SessionLemmas.{none_allowed, bound_of, prompt, goes_on, closes, at_limit, stopped}
use Rattle.request_session.proofs.session.run.Goals as goal

pub returns-then-most-eq0-clause-ran : goal.returns-then-most-eq0-clause-ran
returns-then-most-eq0-clause-ran g c =
    none_allowed g.M.Machine.step c.args.most (g.P.Peer.left c.args.peer.now) (g.P.Peer.written c.args.peer.now) c.args.machine.now c.if-most-eq0.true

pub returns-then-most-eq0-clause-prompt : goal.returns-then-most-eq0-clause-prompt
returns-then-most-eq0-clause-prompt g c = prompt_none g.M.Machine.step c.args.most c.args.machine.now (g.P.Peer.talk c.args.peer.now)

pub returns-then-served-most-clause-ran : goal.returns-then-served-most-clause-ran
returns-then-served-most-clause-ran g c =
    at_limit _ _ _ _ _ _ _ _ _ _ _ _ _ _ _ _ _ c.in-Answered.keep c.loop-keep.invariant.0 c.in-Answered.ensures.turns (bound_of c.rest.view_is c.rest.invariant)
    c.if-served-most.true

pub returns-then-not-keep-clause-ran : goal.returns-then-not-keep-clause-ran
returns-then-not-keep-clause-ran g c =
    let other : c.loop-keep.served + 1 ≢ c.args.most = search rules in
    let asks : c.in-Answered.keep ≡ false = search rules in
    closes _ _ _ _ _ _ _ _ _ _ _ _ _ _ _ _ _ c.in-Answered.keep c.loop-keep.invariant.0 c.in-Answered.ensures.turns (bound_of c.rest.view_is c.rest.invariant)
    c.loop-keep.invariant.1 other asks

pub loop-keep-preserved : goal.loop-keep-preserved
loop-keep-preserved g c =
    let other : c.loop-keep.served + 1 ≢ c.args.most = search rules in
    let kept : c.in-Answered.keep ≡ true = search rules in
    let below = c.loop-keep.invariant.1 in
    let inputs = c.loop-keep.invariant.3 in
    let outputs = c.loop-keep.invariant.4 in (
      goes_on _ _ _ _ _ _ _ _ _ _ _ _ _ _ _ _ _ c.in-Answered.keep c.loop-keep.invariant.0 c.in-Answered.ensures.turns c.loop-keep.invariant.1 other kept,
      omega (arith, below, other),
      refl,
      omega (arith, inputs, c.turn.ensures.reading),
      omega (arith, outputs, c.turn.ensures.writing),
      c.turn.ensures.lends ∙ c.loop-keep.invariant.5,
    )

pub returns-in-Stopped-clause-ran : goal.returns-in-Stopped-clause-ran
returns-in-Stopped-clause-ran g c =
    stopped _ _ _ _ _ _ _ _ _ _ _ _ _ _ _ _ _ c.in-Stopped.ended c.loop-keep.invariant.0 c.in-Stopped.ensures.turns (bound_of c.rest.view_is c.rest.invariant)

pub returns-then-served-most-clause-prompt : goal.returns-then-served-most-clause-prompt
returns-then-served-most-clause-prompt g c = prompt _ _ _ _ _ _ _ _ _ _ _ _ _ _ _ _ _ c.loop-keep.invariant.0 c.in-Answered.ensures.turns

pub returns-then-not-keep-clause-prompt : goal.returns-then-not-keep-clause-prompt
returns-then-not-keep-clause-prompt g c = prompt _ _ _ _ _ _ _ _ _ _ _ _ _ _ _ _ _ c.loop-keep.invariant.0 c.in-Answered.ensures.turns

pub returns-in-Stopped-clause-prompt : goal.returns-in-Stopped-clause-prompt
returns-in-Stopped-clause-prompt g c = prompt _ _ _ _ _ _ _ _ _ _ _ _ _ _ _ _ _ c.loop-keep.invariant.0 c.in-Stopped.ensures.turns
