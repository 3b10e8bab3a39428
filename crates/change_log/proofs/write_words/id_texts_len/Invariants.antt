use Rattle.std.proofs.Common.{◌≡◌, ◌+◌, length, take}
use Rattle.std.specs.List.{flat_map}
use Rattle.change_log.specs.Words.{id_text, capped}
use Rattle.change_log.proofs.write_words.id_texts_len.Given as goal

abbrev pub invariant-loop-pair : goal.invariant-loop-pair
invariant-loop-pair l = l.len ≡ capped (2 + length (flat_map id_text (take l.pair-index l.values)))
