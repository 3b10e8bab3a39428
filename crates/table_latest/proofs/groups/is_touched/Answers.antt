use Rattle.std.proofs.Common.{◌∙◌, sym, arith}
use Rattle.table_latest.proofs.ReplacedLemmas.{group-clear, other-there}
use Rattle.table_latest.proofs.groups.is_touched.Goals as goal

pub returns-then-at-places : goal.returns-then-at-places
returns-then-at-places c =
    λ apart order. group-clear c.args.places.now c.args.group.now c.places_before-at.result c.requires c.places_before-at.ensures
    (other-there c.args.places.now c.places_before-at.result c.index-places-at.result c.args.group.now (sym c.eq.ensures ∙ apart)) order

pub returns-else-at-places : goal.returns-else-at-places
returns-else-at-places c =
    λ none order. group-clear c.args.places.now c.args.group.now c.places_before-at.result c.requires c.places_before-at.ensures
    (λ d within. let past = c.if-at-places.false in absurd (omega (arith, past, within))) order
