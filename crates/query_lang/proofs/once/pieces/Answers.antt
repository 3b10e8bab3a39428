use Rattle.std.proofs.Common.{◌≡◌, ◌∙◌, ◌+◌, [], ◌∷◌, ◌++◌, ◌==◌, true, false, drop, get_or, sym, ap, rules, arith}
use Rattle.std.proofs.lemmas.List.{drop_all}
use Rattle.query_lang.specs.Once.{pieces, pieces_from}
use Rattle.query_lang.proofs.OnceLemmas.{piece-ended, piece-grown}
use Rattle.query_lang.proofs.once.pieces.Goals.{then-byte-eq59+in_ok-push, else-byte-eq59+in_ok-push-2}
use Rattle.query_lang.proofs.once.pieces.Goals as goal

pub loop-byte-preserved : goal.loop-byte-preserved
loop-byte-preserved c =
    let text = c.args.text.now in
    let i = c.loop-byte.byte-index in
    let left = drop (i + 1) text in
    let found = c.loop-byte.found.items in
    let piece = c.loop-byte.piece in
    elim c.if-byte-eq59.branch [
      | then-byte-eq59+in_ok-push w ↦
          let ends : (get_or text i 0 == 59) ≡ true = search rules in
          let more : c.if-byte-eq59.found.items ≡ found ++ piece ∷ [] = search rules in
          let next : c.if-byte-eq59.piece ≡ [] = search rules in
          ap (λ l. l ++ pieces_from c.if-byte-eq59.piece left) more ∙ ap (λ l. (found ++ piece ∷ []) ++ pieces_from l left) next
          ∙ piece-ended text i found piece c.loop-byte-test.true ends ∙ c.loop-byte.invariant
      | else-byte-eq59+in_ok-push-2 w ↦
          let goes_on : (get_or text i 0 == 59) ≡ false = search rules in
          let more : c.if-byte-eq59.found.items ≡ found = search rules in
          let next : c.if-byte-eq59.piece ≡ piece ++ get_or text i 0 ∷ [] = search rules in
          ap (λ l. l ++ pieces_from c.if-byte-eq59.piece left) more ∙ ap (λ l. found ++ pieces_from l left) next
          ∙ piece-grown text i found piece c.loop-byte-test.true goes_on ∙ c.loop-byte.invariant
    ]

pub returns : goal.returns
unfolding pieces
returns c =
    let none : drop c.loop-byte.byte-index c.args.text.now ≡ [] = drop_all c.loop-byte.byte-index c.args.text.now (omega arith) in
    c.in_ok-push-3.ensures.items ∙ ap (λ l. c.loop-byte.found.items ++ pieces_from c.loop-byte.piece l) (sym none) ∙ c.loop-byte.invariant
