-- A log that grows.
use Rattle.std.proofs.Common.{◌≡◌, ◌∙◌, ℕ, ◌+◌, List, [], ◌∷◌, ◌++◌, length, sym, ap, append_assoc, arith}
use Rattle.std.proofs.lemmas.List.{append-nil}
use Rattle.dh_changes.specs.declared.change.Change.{Change}
use Rattle.change_log.specs.Bytes.{change_bytes}
use Rattle.change_log.specs.LogBytes.{bytes_from, log_bytes}

from-more : (n : ℕ) (log : List Change) (c : Change) → bytes_from n (log ++ c ∷ []) ≡ bytes_from n log ++ change_bytes (n + length log) c
from-more n [] c = append-nil (change_bytes n c) ∙ ap (λ m. change_bytes m c) (omega arith)
from-more n (d ∷ log) c =
    ap (λ t. change_bytes n d ++ t) (from-more (n + 1) log c)
    ∙ sym (append_assoc (change_bytes n d) (bytes_from (n + 1) log) (change_bytes (n + 1 + length log) c))
    ∙ ap (λ m. bytes_from n (d ∷ log) ++ change_bytes m c) (omega arith)

pub log-more : (log : List Change) (c : Change) → log_bytes (log ++ c ∷ []) ≡ log_bytes log ++ change_bytes (length log + 1) c
unfolding log_bytes
log-more log c = from-more 1 log c ∙ ap (λ m. bytes_from 1 log ++ change_bytes m c) (omega arith)
