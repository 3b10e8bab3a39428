use Rattle.std.proofs.Common.{◌≡◌, ◌∙◌, ◌+◌, ◌<◌, ◌∷◌, ◌++◌, [], ℕ, List, length, take, sym, ap}
use Rattle.std.proofs.lemmas.List.{take_more}
use Rattle.expr_lang.specs.Item.{is_among_of}
use Rattle.expr_lang.proofs.DayLemmas.{among-more}
use Rattle.expr_lang.proofs.days.set_of.Goals as goal

pub loop-uid-preserved : goal.loop-uid-preserved
loop-uid-preserved c =
    let uids : List (List ℕ) = c.args.uids.now in
    let i : ℕ = c.loop-uid.uid-index in
    let x : List ℕ = c.uid-item.result in
    let within : i < length uids = c.loop-uid-test.true in
    let more : take (i + 1) uids ≡ take i uids ++ x ∷ [] = take_more uids i x within ∙ ap (λ y. take i uids ++ y ∷ []) (sym c.uid-item.is) in
    λ q. among-more (take i uids) x q _ _ (c.loop-uid.invariant q) (c.in_ok-insert.ensures.updates.0 q) ∙ ap (is_among_of q) (sym more)
