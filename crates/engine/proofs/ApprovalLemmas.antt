-- The write of an act fits the bytes of a change.
use Rattle.std.proofs.Common.{◌≡◌, ℕ, Option, None, Some, Result, Ok, Err, sym, subst}
use Rattle.std.specs.Prelude.{IfOk}
use Rattle.dh_metadata.specs.declared.held.Records.{Records}
use Rattle.dh_changes.specs.declared.keys.ApprovalKey.{ApprovalKey}
use Rattle.dh_changes.specs.declared.change.Write.{Write}
use Rattle.change_log.specs.Forms.{WriteFits}
use Rattle.dh_changes.specs.Facts.{Facts}
use Rattle.dh_approvals.specs.declared.act.Verb.{Verb}
use Rattle.dh_approvals.specs.declared.act.Verb.TheVariants as verb
use Rattle.dh_approvals.specs.declared.act.ApprovalAct.{ApprovalAct}
use Rattle.dh_approvals.specs.declared.act.ApprovalFault.{ApprovalFault}
use Rattle.dh_approvals.specs.Decisions.{write_of, write_unless, refused, decided}

own-fits : (verb : Verb) (key : ApprovalKey) → WriteFits (write_of verb key)
own-fits verb.Approve key = tt
own-fits verb.Unapprove key = tt
own-fits verb.Accept key = tt
own-fits verb.Unaccept key = tt

unless-fits : (own found : Write) (refusal : Option ApprovalFault) → WriteFits own → write_unless own refusal ≡ Ok found → WriteFits found
unless-fits own found None fits is =
    let same : own ≡ found = cc in
    subst (λ (w : Write). WriteFits w) same fits
unless-fits own found (Some fault) fits is = absurd (cc)

pub decided-fits : (facts : Facts) (r : Records) (user : ℕ) (act : ApprovalAct) (result : Result Write ApprovalFault) → result ≡ decided facts r user act
    → IfOk result (λ write. WriteFits write)
unfolding decided
decided-fits facts r user act (Ok found) is =
    unless-fits (write_of act.verb act.key) found (refused facts r user act) (own-fits act.verb act.key) (sym is)
decided-fits facts r user act (Err fault) is = tt
