use Rattle.std.proofs.Common.{ℕ, List, subst, sym}
use Rattle.std.specs.Prelude.{IsPermutation}
use Rattle.dh_sharing.specs.Ranges.{ByFirst, HoldsTheSame}
use Rattle.dh_sharing.proofs.RangeLemmas.{ByFirst-from_sort, HoldsTheSame-from_sort}
use Rattle.dh_sharing.proofs.ranges.ViewRanges.of.Goals as goal

pub merged-requires : goal.merged-requires
merged-requires c = record {
  by_first = subst (λ (v : List (ℕ × ℕ)). ByFirst v) (sym c.deref.ensures.value)
      (ByFirst-from_sort c.args.intervals.now c.sort.new.self.items
      (subst (λ (v : List (ℕ × ℕ)). IsPermutation v c.sort.new.self.items) c.in_ok-sorted.ensures c.in_ok-sort.ensures.permutation)
      c.in_ok-sort.ensures.sorted);
}

pub returns-clause-members : goal.returns-clause-members
returns-clause-members c =
    HoldsTheSame-from_sort c.args.intervals.now c.sort.new.self.items c.in_ok-parts.parts.items
    (subst (λ (v : List (ℕ × ℕ)). IsPermutation v c.sort.new.self.items) c.in_ok-sorted.ensures c.in_ok-sort.ensures.permutation)
    (subst (λ (v : List (ℕ × ℕ)). HoldsTheSame c.in_ok-parts.parts.items v) c.deref.ensures.value c.in_ok-parts.ensures.members)
