use Rattle.std.proofs.Common.{◌∙◌, ap, sym}
use Rattle.meta_links.specs.Told.{after}
use Rattle.meta_links.proofs.Walk.{after_append}
use Rattle.meta_links.proofs.link_each.Tuple2Link.link.Goals as goal

pub returns-clause-held : goal.returns-clause-held
returns-clause-held g c = λ i. (c.in_ok-first.ensures.held i, c.in_ok-second.ensures.held i)

pub returns-clause-told : goal.returns-clause-told
returns-clause-told g c =
    let ids = c.args.ids.now in
    let front = g.A.Link.references c.args.self.now.0 in
    let rest = g.B.Link.references c.args.self.now.1 in
    c.in_ok-second.ensures.told ∙ ap (λ met. after ids met rest) c.in_ok-first.ensures.told ∙ sym (after_append ids c.args.unknown.now front rest)
