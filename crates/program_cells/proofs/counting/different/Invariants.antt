use Rattle.std.proofs.Common.{◌≡◌, ◌≤◌, ◌+◌, ℕ, List, take, drop}
use Rattle.std.specs.HashSet.{contains}
use Rattle.dh_metadata.specs.Places.{same_id, is_one_of}
use Rattle.program_cells.specs.Value.{different, different_after}
use Rattle.program_cells.proofs.counting.different.Given as goal

abbrev pub invariant-loop-id : goal.invariant-loop-id
invariant-loop-id l = record {
  known : (other : List ℕ) → contains same_id l.seen other ≡ is_one_of (take l.id-index l.ids) other;
  counted : different l.ids ≡ l.count + different_after (take l.id-index l.ids) (drop l.id-index l.ids);
  within : l.count ≤ l.id-index;
}
