use Rattle.std.proofs.Common.{◌∙◌, length, ap}
use Rattle.dh_metadata.specs.Objects.{count_of}
use Rattle.dh_metadata.proofs.IdLemmas.{ids_count}
use Rattle.dh_metadata.proofs.metadata.Metadata.count.Goals as goal

pub returns : goal.returns
returns c =
    c.count.ensures ∙ ap length (c.self.invariant.ids c.args.kind) ∙ ids_count c.self.inside.records c.args.kind
    ∙ ap (λ s. count_of s c.args.kind) c.self.view_is
