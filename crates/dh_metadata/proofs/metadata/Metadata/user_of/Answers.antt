use Rattle.std.proofs.Common.{◌≡◌, ◌∙◌, length, subst, sym}
use Rattle.dh_metadata.specs.Linked.{IsBelow}
use Rattle.dh_metadata.specs.Users.{user_in}
use Rattle.dh_metadata.proofs.UserLemmas.{user_below}
use Rattle.dh_metadata.proofs.metadata.Metadata.user_of.Goals as goal

pub returns-clause-in_range : goal.returns-clause-in_range
returns-clause-in_range c =
    let r = c.self.inside.records in
    let value : c.copied.result ≡ user_in r.api_tokens c.args.token.now = c.copied.ensures ∙ c.get.ensures.value ∙ c.self.invariant.tokens c.args.token.now in
    subst (λ s. IsBelow (length s.users) c.copied.result) c.self.view_is
    (subst (λ w. IsBelow (length r.users) w) (sym value) (user_below (length r.users) r.api_tokens c.args.token.now c.self.invariant.linked.tokens))
