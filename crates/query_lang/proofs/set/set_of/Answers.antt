use Rattle.std.proofs.Common.{◌≡◌, ◌∙◌, ◌+◌, ◌∷◌, ◌++◌, [], ℕ, List, take, get_or, nat_eq, sym, ap}
use Rattle.std.proofs.lemmas.List.{take_more}
use Rattle.std.proofs.lemmas.Cmp.{nat_eq_equiv}
use Rattle.query_lang.specs.Walk.{has}
use Rattle.query_lang.proofs.SetLemmas.{has-more}
use Rattle.query_lang.proofs.set.set_of.Goals as goal

pub loop-number-preserved : goal.loop-number-preserved
loop-number-preserved c =
    let numbers : List ℕ = c.args.numbers.now in
    let i : ℕ = c.loop-number.number-index in
    let x : ℕ = get_or numbers i 0 in
    let more : take (i + 1) numbers ≡ take i numbers ++ x ∷ [] = take_more numbers i 0 c.loop-number-test.true in
    λ q. has-more (take i numbers) x q _ _ (nat_eq x q) (nat_eq_equiv.symm x q) (c.loop-number.invariant q) (c.in_ok-insert.ensures.updates.0 q)
    ∙ ap (λ ys. has ys q) (sym more)
