use Rattle.std.proofs.Common.{◌∙◌, true, false, sym, ap}
use Rattle.std.specs.List.{filter}
use Rattle.std.proofs.lemmas.List.{take_all, append-nil}
use Rattle.table_rows.specs.Events.{is_reg_of}
use Rattle.table_rows.proofs.KeptLemmas.{kept-more}
use Rattle.table_rows.proofs.plain.regs_of.Goals.{then-is_of+in_ok-push, else-is_of}
use Rattle.table_rows.proofs.plain.regs_of.Goals as goal

pub loop-reg-preserved : goal.loop-reg-preserved
loop-reg-preserved c =
    elim c.if-is_of.branch [
      | then-is_of+in_ok-push w ↦
          kept-more (is_reg_of c.args.set) c.args.regs.now c.loop-reg.reg-index c.reg-item.result true c.loop-reg.found.items c.if-is_of.found.items
          c.loop-reg-test.true c.reg-item.is (sym w.if-is_of.true ∙ c.is_of.ensures) (ap (λ v. v.items) w.found-is ∙ w.in_ok-push.ensures.items)
          c.loop-reg.invariant
      | else-is_of w ↦
          kept-more (is_reg_of c.args.set) c.args.regs.now c.loop-reg.reg-index c.reg-item.result false c.loop-reg.found.items c.if-is_of.found.items
          c.loop-reg-test.true c.reg-item.is (sym w.if-is_of.false ∙ c.is_of.ensures)
          (ap (λ v. v.items) w.found-is ∙ sym (append-nil c.loop-reg.found.items)) c.loop-reg.invariant
    ]

pub returns : goal.returns
returns c =
    c.from.ensures ∙ c.loop-reg.invariant ∙ ap (filter (is_reg_of c.args.set)) (take_all c.loop-reg.reg-index c.args.regs.now c.loop-reg-test.false)
