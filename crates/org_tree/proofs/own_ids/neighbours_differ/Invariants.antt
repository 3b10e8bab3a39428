use Rattle.std.proofs.Common.{◌≡◌, ℕ, ◌+◌, ◌<◌, false, [], get_or}
use Rattle.std.specs.Prelude.{bytes_eq}
use Rattle.org_tree.proofs.own_ids.neighbours_differ.Given as goal

abbrev pub invariant-loop-i : goal.invariant-loop-i
invariant-loop-i l = (k : ℕ) → k + 1 < l.i → bytes_eq (get_or l.ids k []) (get_or l.ids (k + 1) []) ≡ false
