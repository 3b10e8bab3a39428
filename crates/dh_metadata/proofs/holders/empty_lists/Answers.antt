use Rattle.std.proofs.Common.{◌+◌, ◌++◌, ◌∷◌, [], subst, sym, ap, ◌∙◌}
use Rattle.dh_metadata.specs.Members.{AreHolders}
use Rattle.dh_metadata.proofs.HolderLemmas.{empty_more}
use Rattle.dh_metadata.proofs.holders.empty_lists.Goals as goal

pub loop-preserved : goal.loop-preserved
loop-preserved c =
    subst (AreHolders [] [] (c.loop.counter + 1)) (sym (c.in_ok-push.ensures.items ∙ ap (λ x. c.loop.all.items ++ x ∷ []) c.new.ensures))
    (empty_more c.loop.counter c.loop.all.items c.loop.invariant)
