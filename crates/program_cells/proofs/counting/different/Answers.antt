use Rattle.std.proofs.Common.{◌≡◌, ◌∙◌, ◌+◌, ◌<◌, ◌∷◌, ◌++◌, [], ℕ, List, length, take, drop, sym, ap, arith}
use Rattle.std.specs.HashSet.{contains}
use Rattle.dh_metadata.specs.Places.{same_id, is_one_of}
use Rattle.dh_metadata.proofs.PlacesLemmas.{is_one_of-more}
use Rattle.program_cells.specs.Value.{different, different_after}
use Rattle.program_cells.proofs.LoopLemmas.{rest_at, first_at, counted_step}
use Rattle.program_cells.proofs.counting.different.Goals as goal

pub loop-id-preserved : goal.loop-id-preserved
loop-id-preserved c =
    let ids : List (List ℕ) = c.args.ids.now in
    let i : ℕ = c.loop-id.id-index in
    let x : List ℕ = c.id-item.result in
    let within : i < length ids = c.loop-id-test.true in
    let more : take (i + 1) ids ≡ take i ids ++ x ∷ [] = first_at ids i x within c.id-item.is in
    record {
      known = λ other. is_one_of-more (take i ids) x other _ _ (c.loop-id.invariant.known other) (c.in_ok-more.ensures.known other)
          ∙ ap (λ ys. is_one_of ys other) (sym more);
      counted = counted_step (take i ids) x (drop (i + 1) ids) c.loop-id.count c.in_ok-more.more (different ids) (contains same_id c.loop-id.seen x)
          (c.loop-id.invariant.known x) c.in_ok-more.ensures.counted
          (c.loop-id.invariant.counted ∙ ap (λ ys. c.loop-id.count + different_after (take i ids) ys) (rest_at ids i x within c.id-item.is))
          ∙ ap (λ ys. (c.loop-id.count + c.in_ok-more.more) + different_after ys (drop (i + 1) ids)) (sym more);
      within = omega (arith, c.loop-id.invariant.within, c.in_ok-more.ensures.most);
    }
