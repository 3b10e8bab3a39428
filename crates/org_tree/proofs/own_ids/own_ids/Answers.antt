use Rattle.std.proofs.Common.{List, ℕ, subst}
use Rattle.std.specs.Prelude.{IsPermutation, MatchBool}
use Rattle.org_tree.specs.Ids.{NeighboursDiffer, NeighboursMeet}
use Rattle.org_tree.proofs.IdLemmas.{own_ids_tell}
use Rattle.org_tree.proofs.own_ids.own_ids.Goals as goal

pub returns : goal.returns
returns c =
    own_ids_tell c.args.units.now c.sort.new.self.items c.neighbours_differ.result
    (subst (λ (v : List (List ℕ)). IsPermutation v c.sort.new.self.items) c.in_ok-ids.ensures c.in_ok-sort.ensures.permutation)
    c.in_ok-sort.ensures.sorted
    (subst (λ (v : List (List ℕ)). MatchBool c.neighbours_differ.result (NeighboursDiffer v) (NeighboursMeet v)) c.deref.ensures.value
    c.neighbours_differ.ensures)
