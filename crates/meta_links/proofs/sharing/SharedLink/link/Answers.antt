use Rattle.std.proofs.Common.{◌∙◌, ℕ, List, ap}
use lib.Chars.{codes}
use Rattle.dh_sharing.specs.declared.access.Access.{Access}
use Rattle.dh_metadata.specs.declared.kind.Kind.TheVariants as kind
use Rattle.meta_links.specs.Reference.{step, field_path, one, optional}
use Rattle.meta_links.specs.Table.{entries, sharing_references}
use Rattle.meta_links.specs.Told.{after}
use Rattle.meta_links.proofs.Order.{two_lists}
use Rattle.meta_links.proofs.sharing.SharedLink.link.Goals as goal

pub returns-clause-told : goal.returns-clause-told
unfolding sharing_references entries
returns-clause-told c =
    let shared = c.args.self.now in
    let path : List ℕ → List ℕ = λ name. field_path shared.kind shared.place name in
    c.in_ok-owner.ensures.told
    ∙ ap (λ references. after c.args.ids.now c.args.unknown.now references)
    (two_lists (optional (path (codes "sharing.owner")) kind.User shared.sharing.now.owner)
    (λ (entry : List ℕ × List ℕ × Access). one (step (path (codes "sharing.users")) entry.0) kind.User entry.1)
    (λ (entry : List ℕ × List ℕ × Access). one (step (path (codes "sharing.userGroups")) entry.0) kind.UserGroup entry.1) shared.sharing.now.users
    shared.sharing.now.groups)
