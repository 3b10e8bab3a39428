use Rattle.std.proofs.Common.{subst}
use Rattle.validation.specs.declared.place.Place.{Place}
use Rattle.request_replies.specs.Texts.{told, IsTold}
use Rattle.request_replies.specs.Checks.{place_of}
use Rattle.shared_server.specs.Views.{viewed_check}
use Rattle.shared_server.proofs.ViewLemmas.{check_replied}
use Rattle.shared_server.proofs.look.reply_to_check.Goals as goal

pub returns : goal.returns
returns g c =
    check_replied g.J.Naming.made c.args.pass.now c.look-found.new.pass c.args.asked c.args.user (place_of c.args.checked.now) c.args.keep c.args.meta.now
    c.look-found.result (told c.tell_check.result) c.look-found.ensures.call c.look-found.ensures.tables c.look-found.ensures.told c.requires.meta
    (subst (λ (p : Place). IsTold (told c.tell_check.result) (viewed_check c.args.meta.now c.args.user p c.args.keep c.look-found.result))
    c.place_of-place.ensures
    c.tell_check.ensures)
