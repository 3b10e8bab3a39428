use Rattle.std.proofs.Common.{ap, arith, ◌∙◌}
use Rattle.change_log.proofs.Frames.{decodes, answers, decoded-again, decoded-short, cut-short}
use Rattle.change_log.specs.Decoded.{is_short}
use Rattle.change_log.proofs.decoding.decode.Goals as goal

pub returns-clause-decodes : goal.returns-clause-decodes
returns-clause-decodes c = decodes c.args.number c.args.bytes.now c.decode_framed.result (λ i. omega (arith, c.type_inv.bytes i)) c.decode_framed.ensures

pub returns-clause-again : goal.returns-clause-again
returns-clause-again c = λ change rest good e.
    answers c.args.number c.args.bytes.now c.decode_framed.result _ c.decode_framed.ensures (decoded-again c.args.number c.args.bytes.now change rest good e)

pub returns-clause-short : goal.returns-clause-short
returns-clause-short c = λ short.
    answers c.args.number c.args.bytes.now c.decode_framed.result _ c.decode_framed.ensures (decoded-short c.args.number c.args.bytes.now short)

pub returns-clause-cut : goal.returns-clause-cut
returns-clause-cut c = λ change len good less e.
    answers c.args.number c.args.bytes.now c.decode_framed.result _ c.decode_framed.ensures
    (decoded-short c.args.number c.args.bytes.now (ap is_short e ∙ cut-short c.args.number change len good less))
