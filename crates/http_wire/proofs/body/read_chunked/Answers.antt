use Rattle.std.proofs.Common.{rules, ◌≡◌, Err}
use Rattle.http_wire.proofs.BodyLemmas.{chunked_within, reads_chunked, reads_chunked_stop}
use Rattle.http_wire.proofs.body.read_chunked.Goals as goal

pub drop_body-requires : goal.drop_body-requires
drop_body-requires g c =
    chunked_within c.read_chunks.new.bytes.items c.args.end c.read_chunks.new.chunks.content c.read_chunks.new.chunks.seen c.read_chunks.ensures.within
    c.in_ok-read_chunks.ensures.gives

pub returns-in_err-read_chunks-clause-reads : goal.returns-in_err-read_chunks-clause-reads
returns-in_err-read_chunks-clause-reads g c =
    let is : c.from_residual.result ≡ Err c.in_err-read_chunks.field-0.0 = search rules in
    rw is (reads_chunked_stop c.args.end c.in_err-read_chunks.field-0.0 c.read_chunks.new.chunks c.read_chunks.ensures.gains
    c.in_err-read_chunks.ensures.gives)

pub returns-clause-reads : goal.returns-clause-reads
returns-clause-reads g c =
    reads_chunked c.args.end c.read_chunks.new.chunks.seen c.read_chunks.new.chunks.content c.read_chunks.ensures.gains c.in_ok-read_chunks.ensures.gives
    c.drop_body.ensures
