use Rattle.std.proofs.Common.{◌∙◌, sym, ap, subst}
use Rattle.http_wire.specs.Next.{whole, refused, IsNext}
use Rattle.http_wire.specs.Reads.{RestSeen, Reads, seen}
use Rattle.http_wire.proofs.RestLemmas.{unread}
use Rattle.http_wire.proofs.rest.next_request.Goals as goal

pub returns-clause-whole : goal.returns-clause-whole
returns-clause-whole g c request used is =
    unread (whole request used) c.read_next.ensures.reads (subst (λ r. IsNext r.bytes (whole request used)) (sym c.rest.view_is) is) tt
    ∙ ap (λ r. r.read) c.rest.view_is

pub returns-clause-refused : goal.returns-clause-refused
returns-clause-refused g c code is =
    unread (refused code) c.read_next.ensures.reads (subst (λ r. IsNext r.bytes (refused code)) (sym c.rest.view_is) is) tt ∙ ap (λ r. r.read) c.rest.view_is

pub returns-clause-reads : goal.returns-clause-reads
returns-clause-reads g c =
    subst
    (λ (r : RestSeen). Reads (g.S.Source.left c.args.source.now) (g.S.Source.left c.read_next.new.source) (g.S.Source.source_talk c.args.source.now)
    (g.S.Source.source_talk c.read_next.new.source) r (seen c.read_next.new.bytes.items c.read_next.new.read) c.read_next.result)
    c.rest.view_is c.read_next.ensures.reads
