-- How long the body of a change is.
use Rattle.std.proofs.Common.{◌≡◌, ℕ, ◌+◌, length, arith, length-append}
use Rattle.std.specs.Int.{w32}
use Rattle.dh_changes.specs.declared.change.Change.{Change}
use Rattle.change_log.specs.Words.{listed, capped}
use Rattle.change_log.specs.Bytes.{write_bytes, head_bytes, body_bytes}

pub body-length : (number : ℕ) (change : Change) (head writes whole : ℕ) → head ≡ length (head_bytes number change)
    → writes ≡ capped (length (listed w32 write_bytes change.writes)) → whole ≡ capped (head + writes)
    → whole ≡ capped (length (body_bytes number change))
unfolding body_bytes
body-length number change head writes whole h w all = omega (arith, length-append (head_bytes number change) (listed w32 write_bytes change.writes))
