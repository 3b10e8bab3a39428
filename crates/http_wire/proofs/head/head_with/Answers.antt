use Rattle.std.proofs.Common.{◌≡◌, ◌∙◌, Ok, ap, map}
use Rattle.httparse.specs.Borrowed.{header_parts}
use Rattle.http_wire.specs.Head.{Parts}
use Rattle.http_wire.proofs.HeadLemmas.{both_ok, ok_of, head_from}
use Rattle.http_wire.proofs.head.head_with.Goals as goal

pub returns-in-Ok : goal.returns-in-Ok
returns-in-Ok c =
    let parts : Parts =
    record { method = c.args.method.now; target = c.args.target.now; minor = c.args.minor; fields = map header_parts c.args.headers.now } in
    let texts = both_ok c.copied.result c.both.result c.both-texts.result _ c.both-texts.ensures c.in-Ok.ensures.0 in
    let target = both_ok c.copied-path.result c.copied-query.result c.both.result _ c.both.ensures texts.1 in
    let marks = both_ok c.copied_if-token.result c.copied_if-asked.result c.both-2.result _ c.both-2.ensures c.in-Ok.ensures.1 in
    ap Ok (head_from parts c.args.plan _ _ _ _ _ c.is_kept.result
    (ok_of c.copied.result (λ items. items ≡ c.args.method.now) _ c.copied.ensures texts.0)
    (ok_of c.copied-path.result (λ items. items ≡ c.path.result.now) _ c.copied-path.ensures target.0 ∙ c.path.ensures)
    (ok_of c.copied-query.result (λ items. items ≡ c.query.result.now) _ c.copied-query.ensures target.1 ∙ c.query.ensures)
    (ok_of c.copied_if-token.result _ _ c.copied_if-token.ensures marks.0 ∙ c.token.ensures)
    (ok_of c.copied_if-asked.result _ _ c.copied_if-asked.ensures marks.1 ∙ c.last_named.ensures)
    c.is_kept.ensures)
