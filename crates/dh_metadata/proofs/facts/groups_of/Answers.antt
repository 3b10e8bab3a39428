use Rattle.std.proofs.Common.{◌∙◌, subst, sym, length}
use Rattle.std.specs.List.{range_with_len}
use Rattle.dh_metadata.specs.Members.{AreHolders, EachAscends}
use Rattle.dh_metadata.specs.Users.{user_lists}
use Rattle.dh_metadata.proofs.MemberLemmas.{ascends, raw_holders}
use Rattle.dh_metadata.proofs.facts.groups_of.Goals as goal

pub holders-requires : goal.holders-requires
holders-requires c =
    subst EachAscends (sym c.deref.ensures.value) (ascends (user_lists c.args.groups.now) c.in_ok-lists.lists.items c.in_ok-lists.ensures)

pub returns : goal.returns
returns c =
    raw_holders (user_lists c.args.groups.now) c.in_ok-lists.lists.items c.in_ok-lists.ensures (range_with_len 0 (length c.args.groups.now)) c.args.count
    c.in_ok-all.all.items
    (subst (λ l. AreHolders l (range_with_len 0 (length c.args.groups.now)) c.args.count c.in_ok-all.all.items) c.deref.ensures.value
    (subst (λ o. AreHolders c.deref.result.now o c.args.count c.in_ok-all.all.items) (c.deref-2.ensures.value ∙ c.in_ok-order.ensures) c.in_ok-all.ensures))
