use Rattle.std.proofs.Common.{◌≡◌, not, drop}
use Rattle.std.specs.List.{list_any}
use Rattle.tracker_import.specs.Pairs.{is_fit}
use Rattle.tracker_import.proofs.pairs.has_unfit.Given as goal

abbrev pub invariant-loop-pair : goal.invariant-loop-pair
invariant-loop-pair l =
    list_any (λ pair. not (is_fit l.meta l.kind pair)) l.pairs
    ≡ list_any (λ pair. not (is_fit l.meta l.kind pair)) (drop l.pair-index l.pairs)
