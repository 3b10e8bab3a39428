use Rattle.std.proofs.Common.{◌≡◌, drop}
use Rattle.std.specs.List.{list_any}
use Rattle.std.specs.Option.{is_none}
use Rattle.tracker_import.specs.Pairs.{item_named}
use Rattle.tracker_import.proofs.pairs.has_unknown.Given as goal

abbrev pub invariant-loop-pair : goal.invariant-loop-pair
invariant-loop-pair l =
    list_any (λ pair. is_none (item_named l.meta l.kind pair)) l.pairs
    ≡ list_any (λ pair. is_none (item_named l.meta l.kind pair)) (drop l.pair-index l.pairs)
