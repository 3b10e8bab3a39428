use Rattle.std.proofs.Common.{◌≡◌, ◌∙◌, ◌+◌, ◌++◌, [], drop, take, sym, ap, subst}
use Rattle.dh_outside.proofs.memory.MemSourceSource.read.Goals as goal

pub returns-clause-bytes : goal.returns-clause-bytes
returns-clause-bytes c =
    let at = c.self.inside.at in
    let count = c.copy_from-count.result in
    let piece = take count c.copy_from-count.new.into in (
      sym (ap (λ s. s.left) c.self.view_is)
          ∙ subst (λ xs. drop at xs ≡ piece ++ drop (at + count) xs) c.deref-2.ensures.value c.copy_from-count.ensures.moved,
      λ none some. subst (λ xs. drop (at + count) xs ≡ []) c.deref-2.ensures.value (c.copy_from-count.ensures.end none some),
    )
