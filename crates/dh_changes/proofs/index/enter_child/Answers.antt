use Rattle.std.proofs.Common.{◌∙◌, ap}
use Rattle.dh_changes.specs.Index.{is_linked}
use Rattle.dh_changes.proofs.index.enter_child.Goals as goal

pub link-requires : goal.link-requires
link-requires g c =
    ap (λ p. is_linked c.args.children.now p c.args.id) (c.parent_of-before.ensures ∙ ap g.V.Hangs.parent c.look.ensures) ∙ c.requires
