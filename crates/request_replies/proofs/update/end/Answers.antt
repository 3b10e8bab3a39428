use Rattle.std.proofs.Common.{◌≡◌, ◌∙◌, Some, Result, IfOk, ap, sym, subst}
use Rattle.std.specs.Prelude.{max}
use Rattle.engine.specs.declared.machine.Cut.{Cut}
use Rattle.engine.specs.declared.machine.CutFault.{CutFault}
use Rattle.engine.specs.Machine.{staged_of}
use Rattle.engine.specs.Seen.{update_in}
use Rattle.request_replies.specs.Texts.{told}
use Rattle.request_replies.specs.Updates.{Ends}
use Rattle.request_replies.proofs.UpdateLemmas.{begun_by, swap_number}
use Rattle.request_replies.proofs.update.end.Goals as goal

pub swap_in-requires-clause-begun : goal.swap_in-requires-clause-begun
swap_in-requires-clause-begun g c =
    begun_by c.args.engine.now.state c.args.kind c.in-Ok.begun.ticket c.in-Ok.begun.number
    (subst (λ (found : Result Cut CutFault). IfOk found (λ begun. staged_of c.args.engine.now.state c.args.kind
    ≡ Some (record { ticket = begun.ticket; number = begun.number }))) c.in-Ok.is c.requires.staged)

pub swap_in-requires-clause-number : goal.swap_in-requires-clause-number
swap_in-requires-clause-number g c =
    swap_number c.args.engine.now c.args.kind c.in-Ok.begun.ticket c.in-Ok.begun.number c.max-published.result c.requires.sound
    (subst (λ (found : Result Cut CutFault). IfOk found (λ begun. staged_of c.args.engine.now.state c.args.kind
    ≡ Some (record { ticket = begun.ticket; number = begun.number }))) c.in-Ok.is c.requires.staged)
    (c.max-published.ensures ∙ ap (λ n. max n c.in-Ok.begun.number) c.standing.ensures.published)

pub returns-in-Ok-clause-ends : goal.returns-in-Ok-clause-ends
returns-in-Ok-clause-ends g c =
    let engine = c.args.engine.now in
    subst (λ (found : Result Cut CutFault). Ends engine.meta engine.limits c.args.kind c.args.keep (update_in found) engine.state (told c.swap_in.result)
    c.swap_in.new.engine.state) (sym c.in-Ok.is) (
      subst (λ (found : Result Cut CutFault). IfOk found (λ begun. staged_of engine.state c.args.kind
          ≡ Some (record { ticket = begun.ticket; number = begun.number }))) c.in-Ok.is c.requires.staged,
      c.swap_in.ensures.ends,
    )
