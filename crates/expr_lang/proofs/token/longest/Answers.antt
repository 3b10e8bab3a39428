use Rattle.std.proofs.Common.{◌+◌, List, length, drop, sym, ap, ◌∙◌, arith}
use Rattle.std.proofs.lemmas.List.{length-map, drop_more}
use Rattle.expr_lang.specs.declared.words.Symbol.{Symbol}
use Rattle.expr_lang.specs.declared.words.Symbol.TheVariants as symbol
use Rattle.expr_lang.specs.declared.token.Front.{Front}
use Rattle.expr_lang.specs.Token.{longest_from}
use Rattle.expr_lang.specs.Words.{letter_of}
use Rattle.expr_lang.proofs.Letters.{skip_by}
use Rattle.expr_lang.proofs.token.longest.Goals.{then-letters-n, else-letters-n}
use Rattle.expr_lang.proofs.token.longest.Goals as goal

pub loop-n-preserved : goal.loop-n-preserved
loop-n-preserved c =
    elim c.if-letters-n.branch [
      | then-letters-n w ↦ (
        ap (λ (f : Front). longest_from f c.args.allowed (drop (c.loop-n.n + 1) c.args.symbols.now) c.args.bytes.now)
            (w.best-is ∙ w.better_if_allowed-best.ensures.value)
            ∙ ap (λ (l : List Symbol). longest_from c.loop-n.best c.args.allowed l c.args.bytes.now)
            (sym (drop_more c.args.symbols.now c.loop-n.n symbol.Open
            (omega (arith, c.loop-n-test.true, ap length c.requires, length-map c.args.symbols.now letter_of))))
            ∙ c.loop-n.invariant.0,
        omega (arith, ap (λ (f : Front). f.len) w.best-is, w.better_if_allowed-best.ensures.within c.loop-n.invariant.1),
      )
      | else-letters-n w ↦ (
        ap (λ (f : Front). longest_from f c.args.allowed (drop (c.loop-n.n + 1) c.args.symbols.now) c.args.bytes.now) w.best-is
            ∙ skip_by c.args.allowed c.loop-n.best c.args.bytes.now c.args.letters.now c.args.symbols.now c.loop-n.n c.first_byte-first.result c.requires
            c.loop-n-test.true c.first_byte-first.ensures w.if-letters-n.false
            ∙ c.loop-n.invariant.0,
        omega (arith, ap (λ (f : Front). f.len) w.best-is, c.loop-n.invariant.1),
      )
    ]
