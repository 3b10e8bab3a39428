use Rattle.std.proofs.Common.{◌≡◌, ◌∙◌, ℕ, true, false, None, Vec, Global, not, ap, subst, sym, is_some}
use Rattle.std.specs.HashMap.{get_by}
use Rattle.dh_metadata.specs.Places.{same_id}
use Rattle.dh_metadata.specs.Users.{TakesToken}
use Rattle.dh_metadata.proofs.UserLemmas.{token_put, token_kept, tokens_more, none_copied, some_copied}
use Rattle.dh_metadata.proofs.tokens.token_users.Goals as goal
use Rattle.dh_metadata.proofs.tokens.token_users.Goals.{then-is_none+in_ok-from_slice+in_ok-insert, else-is_none}

pub loop-token-preserved : goal.loop-token-preserved
loop-token-preserved c =
    let tokens = c.args.tokens.now in
    let old = c.loop-token.users in
    let token = c.token-item.result in
    let takes : TakesToken token.0 token.1 old c.if-is_none.users =
    elim c.if-is_none.branch [
      | then-is_none+in_ok-from_slice+in_ok-insert w ↦
          let text = w.in_ok-from_slice.ensures.items ∙ c.as_slice-text.ensures in
          let none : is_some c.get.result ≡ false = c.is_none.ensures ∙ ap not w.if-is_none.true in
          let absent = sym c.get.ensures.value ∙ none_copied c.get.result none in
          subst (λ users. TakesToken token.0 token.1 old users) (sym w.users-is)
          (subst (λ t. TakesToken t token.1 old w.insert.new.self) text
          (token_put old w.insert.new.self w.in_ok-from_slice.field-0 token.1 w.in_ok-insert.ensures.updates
          (subst (λ t. get_by (λ (k : Vec ℕ Global). same_id t k.items) old ≡ None) (sym w.in_ok-from_slice.ensures.items) absent)))
      | else-is_none w ↦
          let some : is_some c.get.result ≡ true = c.is_none.ensures ∙ ap not w.if-is_none.false in
          let there = subst (λ o. is_some o ≡ true) c.get.ensures.value (some_copied c.get.result some) in
          subst (λ users. TakesToken token.0 token.1 old users) (sym w.users-is)
          (subst (λ t. TakesToken t token.1 old old) c.as_slice-text.ensures (token_kept old c.as_slice-text.result.now token.1 there))
    ] in
    tokens_more tokens c.loop-token.token-index token old c.if-is_none.users c.loop-token-test.true c.token-item.is c.loop-token.invariant takes
