use Rattle.std.proofs.Common.{◌≡◌, OnOk, subst}
use Rattle.meta_links.specs.Groups.{assembled}
use Rattle.meta_links.specs.Held.{links_of}
use Rattle.meta_links.specs.Table.{token_references, references}
use Rattle.meta_links.specs.Told.{after}
use Rattle.meta_links.proofs.Order.{in_order, made_of, groups_held, assembled_is, assembled_held, assembled_told}
use Rattle.meta_links.proofs.link.look_up.Goals as goal

pub returns-clause-held : goal.returns-clause-held
returns-clause-held c =
    let ids = c.args.ids.now in
    let parts = c.args.parts.now in
    assembled_held c.link.result c.all_links.result (links_of ids parts) c.all_links.ensures
    (made_of assembled c.link.result (groups_held ids parts) (links_of ids parts) (assembled_is ids parts) c.link.ensures.held)

pub returns-clause-told : goal.returns-clause-told
unfolding token_references
returns-clause-told c =
    let told =
    subst (λ references. OnOk c.link.result (c.link.new.unknown ≡ after c.args.ids.now c.args.unknown.now references)) (in_order c.args.parts.now)
    c.link.ensures.told in
    assembled_told c.link.result c.all_links.result (c.link.new.unknown ≡ after c.args.ids.now c.args.unknown.now (references c.args.parts.now))
    c.all_links.ensures told
