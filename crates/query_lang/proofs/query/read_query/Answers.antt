use Rattle.std.proofs.Common.{Result, sym, subst, to_z, of_z, w32}
use Rattle.dh_base.specs.declared.codes.Refusal.{Refusal}
use Rattle.dh_base.specs.Memory.{Answers}
use Rattle.query_lang.specs.declared.form.Form.{Form}
use Rattle.query_lang.specs.Given.{and_then, cause_of}
use Rattle.query_lang.specs.Query.{query_from, query_of}
use Rattle.query_lang.proofs.AskLaws.{read_law}
use Rattle.query_lang.proofs.query.read_query.Goals as goal

pub returns-clause-askable : goal.returns-clause-askable
unfolding query_of
returns-clause-askable c =
    read_law c.args.meta.now c.args.user (to_z w32 (of_z w32 c.args.day)) c.args.cells c.args.text.now c.query_from.result
    (subst (λ (form : Result Form Refusal). Answers cause_of (and_then form (query_from c.args.meta.now c.args.user c.args.cells)) c.query_from.result)
    (sym c.in_ok-form.ensures) c.query_from.ensures)
