use Rattle.std.proofs.Common.{◌≡◌, rules}
use Rattle.std.proofs.lemmas.Fn.{always_returns_same}
use Rattle.program_cells.specs.Kept.{enrolled_key}
use Rattle.program_cells.proofs.SortLemmas.{enrolled_sorted}
use Rattle.program_cells.proofs.grouping.by_enrollment.Goals as goal

pub returns : goal.returns
returns c =
    enrolled_sorted c.args.events.items c.sort_by_key.new.self.items c.requires c.in_ok-sort_by_key.ensures.permutation
    (c.in_ok-sort_by_key.ensures.sorted enrolled_key (always_returns_same _ (λ a r. r ≡ enrolled_key a.0.now) _ (λ a r q k. search rules)))
