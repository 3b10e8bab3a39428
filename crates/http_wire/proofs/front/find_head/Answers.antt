use Rattle.std.proofs.Common.{◌≡◌, ◌∙◌, ap, sym, rules, arith, Ok, Err}
use Rattle.dh_outside.specs.Pieces.{IsSpent}
use Rattle.http_wire.specs.Lines.{opening_of}
use Rattle.http_wire.proofs.OpeningLaws.{passed_none}
use Rattle.http_wire.proofs.FrontLemmas.{skims_none, skims_skipped, skims_more, front_skipped, front_same, passed_on, may_change, fault_of, rose_after}
use Rattle.http_wire.proofs.FrontLemmas.{opens_settled, opens_spent, opens_stopped, judged_no_fault}
use Rattle.http_wire.proofs.front.find_head.Goals as goal

pub loop-opening-init : goal.loop-opening-init
loop-opening-init g c = record {
  skims = skims_none (g.S.Source.left c.args.source.now) (g.S.Source.source_talk c.args.source.now) c.args.bytes.now.items c.args.read.now;
  passed = passed_none c.args.bytes.now.items;
  bound = omega arith;
  keeps = omega arith;
}

-- ---- what stands at the front stays

pub returns-then-is_settled-clause-skims : goal.returns-then-is_settled-clause-skims
returns-then-is_settled-clause-skims g c = skims_skipped c.look-opening.new.bytes.items c.loop-opening.invariant.skims c.look-opening.ensures.skipped

pub returns-then-is_settled-clause-front : goal.returns-then-is_settled-clause-front
returns-then-is_settled-clause-front g c = front_skipped c.loop-opening.bytes.items c.look-opening.new.bytes.items c.look-opening.ensures.skipped

pub returns-then-is_settled-clause-opens : goal.returns-then-is_settled-clause-opens
returns-then-is_settled-clause-opens g c =
    opens_settled c.look-opening.new.bytes.items (IsSpent (g.S.Source.left c.loop-opening.source) c.loop-opening.read) c.look-opening.result c.judged.result
    c.judged.ensures c.look-opening.ensures.opening
    (sym c.is_settled.ensures ∙ c.if-is_settled.true)

pub returns-then-is_settled-clause-bound : goal.returns-then-is_settled-clause-bound
returns-then-is_settled-clause-bound g c = c.loop-opening.invariant.bound

pub returns-then-is_settled-clause-failed : goal.returns-then-is_settled-clause-failed
returns-then-is_settled-clause-failed g c failed = absurd (judged_no_fault c.look-opening.result c.judged.result c.judged.ensures failed)

pub returns-then-is_settled-clause-keeps : goal.returns-then-is_settled-clause-keeps
returns-then-is_settled-clause-keeps g c = c.loop-opening.invariant.keeps

-- ---- no more bytes could be read

pub returns-in_err-take_more-clause-skims : goal.returns-in_err-take_more-clause-skims
returns-in_err-take_more-clause-skims g c =
    skims_more (skims_skipped c.look-opening.new.bytes.items c.loop-opening.invariant.skims c.look-opening.ensures.skipped)
    (front_skipped c.loop-opening.bytes.items c.look-opening.new.bytes.items c.look-opening.ensures.skipped)
    (may_change c.look-opening.new.bytes.items c.look-opening.result c.look-opening.ensures.opening (sym c.is_settled.ensures ∙ c.if-is_settled.false))
    c.take_more.ensures.gains

pub returns-in_err-take_more-clause-front : goal.returns-in_err-take_more-clause-front
returns-in_err-take_more-clause-front g c =
    front_same c.loop-opening.bytes.items c.look-opening.new.bytes.items c.take_more.new.bytes.items c.look-opening.ensures.skipped
    c.in_err-take_more.ensures.nothing

pub returns-in_err-take_more-clause-opens : goal.returns-in_err-take_more-clause-opens
returns-in_err-take_more-clause-opens g c =
    let is : c.from_residual.result ≡ Err c.in_err-take_more.field-0.0 = search rules in
    rw is (opens_stopped c.look-opening.new.bytes.items c.take_more.new.bytes.items (IsSpent (g.S.Source.left c.take_more.new.source) c.take_more.new.read)
    c.in_err-take_more.field-0.0 c.in_err-take_more.ensures.nothing
    (may_change c.look-opening.new.bytes.items c.look-opening.result c.look-opening.ensures.opening (sym c.is_settled.ensures ∙ c.if-is_settled.false))
    c.in_err-take_more.ensures.stops)

pub returns-in_err-take_more-clause-bound : goal.returns-in_err-take_more-clause-bound
returns-in_err-take_more-clause-bound g c = c.take_more.ensures.bound

pub returns-in_err-take_more-clause-failed : goal.returns-in_err-take_more-clause-failed
returns-in_err-take_more-clause-failed g c failed =
    let is : c.from_residual.result ≡ Err c.in_err-take_more.field-0.0 = search rules in
    rose_after (g.S.Source.source_faults c.args.source.now) (g.S.Source.source_faults c.loop-opening.source) (g.S.Source.source_faults c.take_more.new.source)
    c.loop-opening.invariant.keeps
    (c.in_err-take_more.ensures.failed (ap Err (fault_of c.in_err-take_more.field-0.0 is failed)))

pub returns-in_err-take_more-clause-keeps : goal.returns-in_err-take_more-clause-keeps
returns-in_err-take_more-clause-keeps g c = omega (arith, c.take_more.ensures.keeps, c.loop-opening.invariant.keeps)

-- ---- the source is over

pub returns-then-not-branch-clause-skims : goal.returns-then-not-branch-clause-skims
returns-then-not-branch-clause-skims g c =
    skims_more (skims_skipped c.look-opening.new.bytes.items c.loop-opening.invariant.skims c.look-opening.ensures.skipped)
    (front_skipped c.loop-opening.bytes.items c.look-opening.new.bytes.items c.look-opening.ensures.skipped)
    (may_change c.look-opening.new.bytes.items c.look-opening.result c.look-opening.ensures.opening (sym c.is_settled.ensures ∙ c.if-is_settled.false))
    c.take_more.ensures.gains

pub returns-then-not-branch-clause-front : goal.returns-then-not-branch-clause-front
returns-then-not-branch-clause-front g c =
    front_same c.loop-opening.bytes.items c.look-opening.new.bytes.items c.take_more.new.bytes.items c.look-opening.ensures.skipped
    (c.in_ok-take_more.ensures.none (ap Ok c.if-not-branch.true))

pub returns-then-not-branch-clause-opens : goal.returns-then-not-branch-clause-opens
returns-then-not-branch-clause-opens g c =
    opens_spent c.take_more.new.bytes.items (IsSpent (g.S.Source.left c.take_more.new.source) c.take_more.new.read) c.look-opening.result
    c.judged-then-not-branch.result c.judged-then-not-branch.ensures
    (c.look-opening.ensures.opening ∙ ap opening_of (sym (c.in_ok-take_more.ensures.none (ap Ok c.if-not-branch.true))))
    (c.in_ok-take_more.ensures.over (ap Ok c.if-not-branch.true))

pub returns-then-not-branch-clause-bound : goal.returns-then-not-branch-clause-bound
returns-then-not-branch-clause-bound g c = c.take_more.ensures.bound

pub returns-then-not-branch-clause-failed : goal.returns-then-not-branch-clause-failed
returns-then-not-branch-clause-failed g c failed =
    absurd (judged_no_fault c.look-opening.result c.judged-then-not-branch.result c.judged-then-not-branch.ensures failed)

pub returns-then-not-branch-clause-keeps : goal.returns-then-not-branch-clause-keeps
returns-then-not-branch-clause-keeps g c = omega (arith, c.take_more.ensures.keeps, c.loop-opening.invariant.keeps)

-- ---- one more piece came

pub loop-opening-smaller : goal.loop-opening-smaller
loop-opening-smaller g c = omega (arith, c.in_ok-take_more.ensures.more (ap Ok c.if-not-branch.false), c.take_more.ensures.bound)

pub loop-opening-preserved : goal.loop-opening-preserved
loop-opening-preserved g c = record {
  skims = skims_more (skims_skipped c.look-opening.new.bytes.items c.loop-opening.invariant.skims c.look-opening.ensures.skipped)
      (front_skipped c.loop-opening.bytes.items c.look-opening.new.bytes.items c.look-opening.ensures.skipped)
      (may_change c.look-opening.new.bytes.items c.look-opening.result c.look-opening.ensures.opening (sym c.is_settled.ensures ∙ c.if-is_settled.false))
      c.take_more.ensures.gains;
  passed = passed_on c.look-opening.new.bytes.items c.take_more.new.bytes.items c.take_more.ensures.gains.taken c.look-opening.new.from
      (may_change c.look-opening.new.bytes.items c.look-opening.result c.look-opening.ensures.opening (sym c.is_settled.ensures ∙ c.if-is_settled.false))
      c.look-opening.ensures.from c.take_more.ensures.gains.beyond;
  bound = c.take_more.ensures.bound;
  keeps = omega (arith, c.take_more.ensures.keeps, c.loop-opening.invariant.keeps);
}
