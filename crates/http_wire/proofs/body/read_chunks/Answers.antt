use Rattle.std.proofs.Common.{◌≡◌, ◌∙◌, ap, rules, arith, drop, Ok, Err}
use Rattle.dh_outside.specs.Pieces.{IsSpent}
use Rattle.http_wire.specs.Chunks.{run, open_at, chunked}
use Rattle.http_wire.specs.Next.{by_chunks}
use Rattle.http_wire.proofs.FrontLemmas.{gathers_on, fault_of, rose_after}
use Rattle.http_wire.proofs.BodyLemmas.{chunks_on, within_on, fed_open, fed_whole, gives_refused, gives_open, refused_unread}
use Rattle.http_wire.proofs.body.read_chunks.Goals as goal

pub returns-in_err-feed_from-clause-gives : goal.returns-in_err-feed_from-clause-gives
returns-in_err-feed_from-clause-gives g c =
    let is : c.from_residual.result ≡ Err c.in_err-feed_from.field-0.0 = search rules in
    rw is (gives_refused (drop c.args.end c.loop-bytes.bytes.items) (IsSpent (g.S.Source.left c.loop-bytes.source) c.loop-bytes.read) c.feed_from.new.chunks
    (run c.loop-bytes.chunks (drop c.loop-bytes.at c.loop-bytes.bytes.items)) c.in_err-feed_from.field-0.0 c.loop-bytes.invariant.runs
    c.in_err-feed_from.ensures.comes)

pub returns-in_err-feed_from-clause-failed : goal.returns-in_err-feed_from-clause-failed
returns-in_err-feed_from-clause-failed g c failed =
    let is : c.from_residual.result ≡ Err c.in_err-feed_from.field-0.0 = search rules in
    absurd (refused_unread c.feed_from.new.chunks (run c.loop-bytes.chunks (drop c.loop-bytes.at c.loop-bytes.bytes.items)) c.in_err-feed_from.field-0.0
    (fault_of c.in_err-feed_from.field-0.0 is failed) c.in_err-feed_from.ensures.comes)

pub returns-then-branch-clause-gives : goal.returns-then-branch-clause-gives
returns-then-branch-clause-gives g c =
    c.loop-bytes.invariant.runs
    ∙ fed_whole (run c.loop-bytes.chunks (drop c.loop-bytes.at c.loop-bytes.bytes.items)) c.feed_from.new.chunks c.in_ok-feed_from.field-0 c.if-branch.true
    c.in_ok-feed_from.ensures.comes

pub returns-in_err-take_more-clause-gains : goal.returns-in_err-take_more-clause-gains
returns-in_err-take_more-clause-gains g c =
    let still : chunked (drop c.args.end c.loop-bytes.bytes.items) ≡ open_at c.feed_from.new.chunks = c.loop-bytes.invariant.runs
    ∙ fed_open (run c.loop-bytes.chunks (drop c.loop-bytes.at c.loop-bytes.bytes.items)) c.feed_from.new.chunks c.in_ok-feed_from.field-0 c.if-branch.false
    c.in_ok-feed_from.ensures.comes in
    gathers_on c.loop-bytes.invariant.gains (c.loop-bytes.invariant.within, ap by_chunks still) c.take_more.ensures.gains

pub returns-in_err-take_more-clause-within : goal.returns-in_err-take_more-clause-within
returns-in_err-take_more-clause-within g c =
    within_on c.args.end c.loop-bytes.bytes.items c.take_more.new.bytes.items c.take_more.ensures.gains.taken c.loop-bytes.invariant.within
    c.take_more.ensures.gains.beyond

pub returns-in_err-take_more-clause-gives : goal.returns-in_err-take_more-clause-gives
returns-in_err-take_more-clause-gives g c =
    let is : c.from_residual-in_err-take_more.result ≡ Err c.in_err-take_more.field-0.0 = search rules in
    let still : chunked (drop c.args.end c.loop-bytes.bytes.items) ≡ open_at c.feed_from.new.chunks = c.loop-bytes.invariant.runs
    ∙ fed_open (run c.loop-bytes.chunks (drop c.loop-bytes.at c.loop-bytes.bytes.items)) c.feed_from.new.chunks c.in_ok-feed_from.field-0 c.if-branch.false
    c.in_ok-feed_from.ensures.comes in
    rw is (gives_open (drop c.args.end c.take_more.new.bytes.items) (IsSpent (g.S.Source.left c.take_more.new.source) c.take_more.new.read)
    c.feed_from.new.chunks c.feed_from.new.chunks c.in_err-take_more.field-0.0 c.in_err-take_more.ensures.stops
    (ap (λ xs. chunked (drop c.args.end xs)) c.in_err-take_more.ensures.nothing ∙ still))

pub returns-in_err-take_more-clause-failed : goal.returns-in_err-take_more-clause-failed
returns-in_err-take_more-clause-failed g c failed =
    let is : c.from_residual-in_err-take_more.result ≡ Err c.in_err-take_more.field-0.0 = search rules in
    rose_after (g.S.Source.source_faults c.args.source.now) (g.S.Source.source_faults c.loop-bytes.source) (g.S.Source.source_faults c.take_more.new.source)
    c.loop-bytes.invariant.keeps
    (c.in_err-take_more.ensures.failed (ap Err (fault_of c.in_err-take_more.field-0.0 is failed)))

pub returns-then-not-branch-clause-gains : goal.returns-then-not-branch-clause-gains
returns-then-not-branch-clause-gains g c =
    let still : chunked (drop c.args.end c.loop-bytes.bytes.items) ≡ open_at c.feed_from.new.chunks = c.loop-bytes.invariant.runs
    ∙ fed_open (run c.loop-bytes.chunks (drop c.loop-bytes.at c.loop-bytes.bytes.items)) c.feed_from.new.chunks c.in_ok-feed_from.field-0 c.if-branch.false
    c.in_ok-feed_from.ensures.comes in
    gathers_on c.loop-bytes.invariant.gains (c.loop-bytes.invariant.within, ap by_chunks still) c.take_more.ensures.gains

pub returns-then-not-branch-clause-within : goal.returns-then-not-branch-clause-within
returns-then-not-branch-clause-within g c =
    within_on c.args.end c.loop-bytes.bytes.items c.take_more.new.bytes.items c.take_more.ensures.gains.taken c.loop-bytes.invariant.within
    c.take_more.ensures.gains.beyond

pub returns-then-not-branch-clause-gives : goal.returns-then-not-branch-clause-gives
returns-then-not-branch-clause-gives g c =
    let none = c.in_ok-take_more.ensures.none (ap Ok c.if-not-branch.true) in
    let still : chunked (drop c.args.end c.loop-bytes.bytes.items) ≡ open_at c.feed_from.new.chunks = c.loop-bytes.invariant.runs
    ∙ fed_open (run c.loop-bytes.chunks (drop c.loop-bytes.at c.loop-bytes.bytes.items)) c.feed_from.new.chunks c.in_ok-feed_from.field-0 c.if-branch.false
    c.in_ok-feed_from.ensures.comes in (
      ap by_chunks (ap (λ xs. chunked (drop c.args.end xs)) none ∙ still),
      c.in_ok-take_more.ensures.over (ap Ok c.if-not-branch.true),
    )

pub loop-bytes-preserved : goal.loop-bytes-preserved
loop-bytes-preserved g c =
    let still : chunked (drop c.args.end c.loop-bytes.bytes.items) ≡ open_at c.feed_from.new.chunks = c.loop-bytes.invariant.runs
    ∙ fed_open (run c.loop-bytes.chunks (drop c.loop-bytes.at c.loop-bytes.bytes.items)) c.feed_from.new.chunks c.in_ok-feed_from.field-0 c.if-branch.false
    c.in_ok-feed_from.ensures.comes in
    record {
      gains = gathers_on c.loop-bytes.invariant.gains (c.loop-bytes.invariant.within, ap by_chunks still) c.take_more.ensures.gains;
      runs = chunks_on c.loop-bytes.bytes.items c.take_more.new.bytes.items c.take_more.ensures.gains.taken c.args.end c.len-at.result c.feed_from.new.chunks
          c.loop-bytes.invariant.within c.take_more.ensures.gains.beyond (omega arith) still;
      sound = c.feed_from.ensures.sound;
      within =
          within_on c.args.end c.loop-bytes.bytes.items c.take_more.new.bytes.items c.take_more.ensures.gains.taken c.loop-bytes.invariant.within
          c.take_more.ensures.gains.beyond;
      at = within_on c.len-at.result c.loop-bytes.bytes.items c.take_more.new.bytes.items c.take_more.ensures.gains.taken (omega arith)
          c.take_more.ensures.gains.beyond;
      bound = c.take_more.ensures.bound;
      keeps = omega (arith, c.take_more.ensures.keeps, c.loop-bytes.invariant.keeps);
    }
