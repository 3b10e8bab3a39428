use Rattle.std.proofs.Common.{◌∙◌, eqb, subst}
use Rattle.std.specs.List.Sorted.{IsPermutation}
use Rattle.std.proofs.lemmas.List.Filters.{dedup_is}
use Rattle.dh_metadata.proofs.MemberLemmas.{copy_sorted}
use Rattle.dh_metadata.proofs.members.sorted.Goals as goal

pub returns : goal.returns
returns c =
    copy_sorted c.args.numbers.now c.sort.new.self.items c.from.result
    (subst (λ xs. IsPermutation xs c.sort.new.self.items) c.in_ok-copy.ensures.items c.sort.ensures.permutation)
    c.in_ok-sort.ensures.sorted
    (c.from.ensures ∙ dedup_is eqb c.sort.new.self.items c.dedup.new.self.items c.dedup.ensures.filtered)
