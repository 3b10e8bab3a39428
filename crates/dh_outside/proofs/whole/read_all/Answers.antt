use Rattle.std.proofs.Common.{arith, ◌∙◌, ◌<◌, length, take, sym}
use Rattle.std.proofs.lemmas.Grind.{common_steps}
use Rattle.dh_outside.proofs.PieceLemmas.{grown_by, longer_by, consumed_more, consumed_all, rose_after}
use Rattle.dh_outside.proofs.whole.read_all.Goals as goal

pub loop-piece-preserved : goal.loop-piece-preserved
loop-piece-preserved g c =
    let held = c.loop-piece.bytes.items in
    let piece = c.read.new.into in
    let count = c.in_ok-count.count in
    let grown = grown_by held c.extend_from_slice.new.self.items piece _ count c.in_ok-count.ensures.bound.0 c.in_ok-extend_from_slice.ensures.items in
    let longer = longer_by held c.extend_from_slice.new.self.items piece count c.in_ok-count.ensures.bound.1 grown in
    record {
      taken =
          consumed_more (g.S.Source.left c.args.source.now) (g.S.Source.left c.loop-piece.source) (g.S.Source.left c.read.new.self) held
          c.extend_from_slice.new.self.items (take count piece) c.loop-piece.invariant.taken c.in_ok-count.ensures.bytes.0 grown;
      keeps = omega (arith, c.loop-piece.invariant.keeps, c.read.ensures.keeps);
      fits = grind (arith, common_steps);
    }

pub loop-piece-smaller : goal.loop-piece-smaller
loop-piece-smaller g c =
    let held = c.loop-piece.bytes.items in
    let piece = c.read.new.into in
    let count = c.in_ok-count.count in
    let grown = grown_by held c.extend_from_slice.new.self.items piece _ count c.in_ok-count.ensures.bound.0 c.in_ok-extend_from_slice.ensures.items in
    let longer = longer_by held c.extend_from_slice.new.self.items piece count c.in_ok-count.ensures.bound.1 grown in
    omega (arith, longer, c.if-count-eq0.false, c.loop-piece.invariant.fits, c.loop-piece-test.true, c.len.ensures)

pub returns-then-count-eq0-clause-whole : goal.returns-then-count-eq0-clause-whole
returns-then-count-eq0-clause-whole g c =
    consumed_all (g.S.Source.left c.args.source.now) (g.S.Source.left c.loop-piece.source) (g.S.Source.left c.read.new.self) c.loop-piece.bytes.items
    (take c.in_ok-count.count c.read.new.into) c.loop-piece.invariant.taken c.in_ok-count.ensures.bytes.0
    (sym c.in_ok-count.ensures.bound.1 ∙ c.if-count-eq0.true)

pub returns-then-count-eq0-clause-end : goal.returns-then-count-eq0-clause-end
returns-then-count-eq0-clause-end g c =
    let some : 0 < length c.read.new.into = grind (arith, common_steps) in
    c.in_ok-count.ensures.bytes.1 c.if-count-eq0.true some

pub returns-clause-too_long : goal.returns-clause-too_long
returns-clause-too_long g c over =
    (c.loop-piece.bytes.items, c.loop-piece.invariant.taken, omega (arith, c.loop-piece.invariant.fits, c.loop-piece-test.false, c.len.ensures))

pub returns-in_err-count-clause-failed : goal.returns-in_err-count-clause-failed
returns-in_err-count-clause-failed g c failed =
    rose_after (g.S.Source.source_faults c.args.source.now) (g.S.Source.source_faults c.loop-piece.source) (g.S.Source.source_faults c.read.new.self)
    c.loop-piece.invariant.keeps c.in_err-count.ensures.failed
