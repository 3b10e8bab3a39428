use Rattle.std.proofs.Common.{◌∙◌, sym, ap}
use Rattle.std.specs.List.{filter}
use Rattle.std.proofs.lemmas.List.{take_all}
use Rattle.table_build.specs.InYear.{is_reg_key_in}
use Rattle.table_build.proofs.LoopLemmas.{passed-more, passed-no-more}
use Rattle.table_build.proofs.in_year.reg_keys_in.Goals.{then-is_reg_key_in+in_ok-push, else-is_reg_key_in}
use Rattle.table_build.proofs.in_year.reg_keys_in.Goals as goal

pub loop-key-init : goal.loop-key-init
loop-key-init c = c.new-found.ensures.items

pub loop-key-preserved : goal.loop-key-preserved
loop-key-preserved c =
    let test = is_reg_key_in c.args.year.now in
    let list = c.args.keys.now in
    let found = c.loop-key.found.items in
    let at = c.loop-key.key-index in
    let x = c.key-item.result in
    elim c.if-is_reg_key_in.branch [
      | then-is_reg_key_in+in_ok-push w ↦
          ap (λ kept. kept.items) w.found-is
          ∙ passed-more test list at x c.loop-key-test.true c.key-item.is found w.push.new.self.items
          (sym c.is_reg_key_in.ensures ∙ w.if-is_reg_key_in.true) w.in_ok-push.ensures.items c.loop-key.invariant
      | else-is_reg_key_in w ↦
          ap (λ kept. kept.items) w.found-is
          ∙ passed-no-more test list at x c.loop-key-test.true c.key-item.is found (sym c.is_reg_key_in.ensures ∙ w.if-is_reg_key_in.false) c.loop-key.invariant
    ]

pub returns : goal.returns
returns c =
    c.loop-key.invariant ∙ ap (filter (is_reg_key_in c.args.year.now)) (take_all c.loop-key.key-index c.args.keys.now c.loop-key-test.false)
