use Rattle.std.proofs.Common.{◌≡◌, ◌∙◌, ◌<◌, ℕ, Bool, false, List, [], length, get_or, Some, refl, sym, ap, subst}
use Rattle.std.specs.List.{slice_get}
use Rattle.std.specs.Option.{option_map_or}
use Rattle.std.proofs.lemmas.List.{get_or_read}
use Rattle.std.proofs.lemmas.Option.{slice_get_read}
use Rattle.dh_sharing.specs.declared.rule.UserFacts.{UserFacts}
use Rattle.dh_metadata.specs.Users.{all_authority, is_granted, groups_of}
use Rattle.dh_metadata.proofs.facts.fact_of.Goals as goal

pub returns : goal.returns
unfolding all_authority
returns c =
    let r = c.args.records.now in
    let n = c.args.number in
    let user = c.index-as_slice-number.result in
    let facts : List ℕ → Bool → UserFacts = λ groups all. record { number = n; groups = groups; all = all } in
    let within : n < length c.args.lists.now = subst (λ count. n < count) (sym c.requires.lists.same_length) c.requires.user in
    let found : slice_get r.users n ≡ Some user =
    slice_get_read r.users (length r.users) n user refl c.requires.user (c.index-as_slice-number.is ∙ ap (λ users. get_or users n user) c.as_slice-2.ensures) in
    ap (λ groups. facts groups c.is_granted.result)
    (c.from.ensures ∙ c.in_ok-groups.ensures.items ∙ c.as_slice.ensures
    ∙ get_or_read c.args.lists.now n c.index-lists-number.result within c.index-lists-number.is [] ∙ c.requires.lists.each n c.requires.user)
    ∙ ap (λ all. facts (groups_of r n) all)
    (c.is_granted.ensures ∙ ap (λ roles. is_granted roles user all_authority) c.as_slice-3.ensures
    ∙ ap (λ one. option_map_or (λ found. is_granted r.user_roles found all_authority) one false) (sym found))
