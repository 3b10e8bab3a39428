use Rattle.std.proofs.Common.{◌∙◌, ap, sym}
use Rattle.meta_links.specs.Table.{references}
use Rattle.meta_links.specs.Told.{after}
use Rattle.meta_links.proofs.Walk.{after_nothing}
use Rattle.meta_links.proofs.link.link.Goals as goal

pub returns-in-None : goal.returns-in-None
returns-in-None c =
    let ids = c.args.ids.now in
    let all = references c.args.parts.now in (
      sym (c.in-None.ensures ∙ c.in_ok-links.ensures.told ∙ ap (λ met. after ids met all) c.new-unknown.ensures ∙ after_nothing ids all),
      c.in_ok-links.ensures.held,
    )

pub returns-in-Some : goal.returns-in-Some
returns-in-Some c =
    let ids = c.args.ids.now in
    let all = references c.args.parts.now in
    sym (c.in-Some.ensures ∙ c.in_ok-links.ensures.told ∙ ap (λ met. after ids met all) c.new-unknown.ensures ∙ after_nothing ids all)
