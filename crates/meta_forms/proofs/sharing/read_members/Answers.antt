use Rattle.std.proofs.Common.{◌∙◌, ◌++◌, Ok, sym, ap}
use Rattle.json_read.specs.Views.{data_of, members_data}
use Rattle.json_read.specs.Forms.{and_then}
use Rattle.meta_forms.specs.Sharing.{members_of}
use Rattle.meta_forms.proofs.MemberLemmas.{member_more}
use Rattle.meta_forms.proofs.sharing.read_members.Goals as goal

pub loop-key-preserved : goal.loop-key-preserved
loop-key-preserved c =
    let outer = c.args.outer.now in
    let done = c.loop-key.all.items in
    let rest = members_data c.next.new.self in
    member_more outer c.in-Some.key.now.now (data_of c.in-Some.value.now.now) rest done c.in_ok-member_behind.field-0 _
    (c.loop-key.invariant ∙ ap (λ entries. and_then (members_of outer (members_data entries)) (λ more. Ok (done ++ more))) c.in-Some.ensures.steps)
    c.in_ok-member_behind.ensures
    ∙ ap (λ items. and_then (members_of outer rest) (λ more. Ok (items ++ more))) (sym c.in_ok-push.ensures.items)
