use Rattle.std.proofs.Common.{take}
use Rattle.dh_metadata.specs.Users.{AreTokens}
use Rattle.dh_metadata.proofs.tokens.token_users.Given as goal

abbrev pub invariant-loop-token : goal.invariant-loop-token
invariant-loop-token l = AreTokens (take l.token-index l.tokens) l.users
