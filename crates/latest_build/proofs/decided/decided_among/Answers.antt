use Rattle.std.proofs.Common.{◌∙◌, true, false, append-nil, sym, ap}
use Rattle.std.specs.List.{filter}
use Rattle.std.specs.Option.{is_some}
use Rattle.std.proofs.lemmas.List.{take_all}
use Rattle.dh_changes.specs.World.{facts}
use Rattle.latest_build.specs.Touches.{has_position}
use Rattle.latest_build.proofs.LoopLemmas.{kept-more}
use Rattle.latest_build.proofs.decided.decided_among.Goals.{then-is_some+in_ok-push, else-is_some}
use Rattle.latest_build.proofs.decided.decided_among.Goals as goal

pub loop-key-init : goal.loop-key-init
loop-key-init c = c.new-decided.ensures.items

pub loop-key-preserved : goal.loop-key-preserved
loop-key-preserved c =
    let decides = has_position c.args.meta.now (facts c.args.world.now) in
    let keys = c.args.keys.now in
    let found = c.loop-key.decided.items in
    let at = c.loop-key.key-index in
    let x = c.key-item.result in
    elim c.if-is_some.branch [
      | then-is_some+in_ok-push w ↦
          ap (λ kept. kept.items) w.decided-is
          ∙ kept-more decides keys found w.push.new.self.items at x true c.loop-key-test.true c.key-item.is c.loop-key.invariant
          w.in_ok-push.ensures.items (sym w.if-is_some.true ∙ (c.is_some.ensures ∙ ap is_some c.approved_at.ensures))
      | else-is_some w ↦
          ap (λ kept. kept.items) w.decided-is
          ∙ kept-more decides keys found found at x false c.loop-key-test.true c.key-item.is c.loop-key.invariant (sym (append-nil found))
          (sym w.if-is_some.false ∙ (c.is_some.ensures ∙ ap is_some c.approved_at.ensures))
    ]

pub returns : goal.returns
returns c =
    c.loop-key.invariant
    ∙ ap (filter (has_position c.args.meta.now (facts c.args.world.now))) (take_all c.loop-key.key-index c.args.keys.now c.loop-key-test.false)
