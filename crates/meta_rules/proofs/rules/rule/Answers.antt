use Rattle.std.proofs.Common.{◌∙◌}
use Rattle.meta_rules.specs.Objects.{rule_with}
use Rattle.meta_rules.proofs.rules.rule.Goals as goal

pub returns-in-Ok : goal.returns-in-Ok
returns-in-Ok g c =
    let told = rw c.as_slice.ensures at (rw c.as_slice-2.ensures at (rw c.as_slice-3.ensures at c.in-Ok.ensures)) in
    (told.0, c.with_links.ensures ∙ λ i. rule_with c.args.raw.now (told.1.0 i) (told.1.1 i) (told.1.2 i) c.args.links)
