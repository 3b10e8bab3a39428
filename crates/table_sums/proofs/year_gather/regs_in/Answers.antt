use Rattle.std.proofs.Common.{◌≡◌, ◌∙◌, ◌++◌, [], sym, ap, subst, rules}
use Rattle.std.specs.List.Sorted.{IsStrictlySortedBy}
use Rattle.table_rows.specs.Events.{reg_cmp, regs_of}
use Rattle.table_sums.specs.Ascending.{ascending}
use Rattle.table_sums.proofs.YearPartLemmas.{regs-begin, regs-known, regs-next, regs-more, regs-done}
use Rattle.table_sums.proofs.year_gather.regs_in.Goals as goal

pub loop-part-init : goal.loop-part-init
loop-part-init c =
    let none : c.new-regs.result.items ≡ [] = search rules in
    regs-begin c.args.parts.now c.args.set c.new-regs.result.items c.requires none

pub with_regs-requires-clause-known : goal.with_regs-requires-clause-known
with_regs-requires-clause-known c =
    subst (IsStrictlySortedBy reg_cmp) (sym c.deref.ensures.value)
    (regs-known c.args.parts.now c.args.set c.loop-part.part-index c.loop-part.regs.items c.requires c.loop-part.invariant)

pub with_regs-requires-clause-more : goal.with_regs-requires-clause-more
with_regs-requires-clause-more c =
    regs-next c.args.parts.now c.part-item.result c.loop-part.part-index c.args.set c.requires c.loop-part-test.true c.part-item.is

pub loop-part-preserved : goal.loop-part-preserved
loop-part-preserved c =
    regs-more c.args.parts.now c.part-item.result c.loop-part.part-index c.args.set c.loop-part.regs.items c.in_ok-regs.regs.items c.requires
    c.loop-part-test.true c.part-item.is c.loop-part.invariant
    (c.in_ok-regs.ensures
    ∙ ap (λ v. ascending reg_cmp (v ++ regs_of c.args.set c.part-item.result.contents.regs)) c.deref.ensures.value)

pub returns : goal.returns
returns c =
    c.from.ensures
    ∙ regs-done c.args.parts.now c.args.set c.loop-part.part-index c.loop-part.regs.items c.loop-part-test.false c.loop-part.invariant
