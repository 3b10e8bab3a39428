use Rattle.std.proofs.Common.{◌∙◌, ap}
use Rattle.std.specs.Ordering.{is_eq}
use Rattle.table_latest.specs.Keys.{place_cmp}
use Rattle.latest_build.proofs.held.has_place_of.Goals as goal

pub returns : goal.returns
returns c =
    c.is_eq.ensures ∙ ap is_eq c.cmp.ensures
    ∙ ap (λ p. is_eq (place_cmp p c.place_in-2.result)) c.place_in.ensures
    ∙ ap (λ p. is_eq (place_cmp c.args.held.now.place p)) c.place_in-2.ensures
