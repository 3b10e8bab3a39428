use Rattle.std.proofs.Common.{◌≡◌, ℕ, List, [], map, take, drop}
use Rattle.std.specs.HashSet.{contains}
use Rattle.dh_metadata.specs.Places.{same_id, is_one_of}
use Rattle.dh_metadata.specs.Ids.{user_behind}
use Rattle.dh_metadata.proofs.ids.tokens.user_of_repeated.Given as goal

-- the set has the tokens so far, and none of them repeats
abbrev pub invariant-loop-token : goal.invariant-loop-token
invariant-loop-token l = record {
  held : (key : List ℕ) → contains same_id l.seen key ≡ is_one_of (map (λ token. token.0) (take l.token-index l.tokens)) key;
  rest : user_behind [] l.tokens ≡ user_behind (map (λ token. token.0) (take l.token-index l.tokens)) (drop l.token-index l.tokens);
}
