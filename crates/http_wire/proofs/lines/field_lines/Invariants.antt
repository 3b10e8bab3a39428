use Rattle.std.proofs.Common.{◌≡◌, ◌+◌, ◌≤◌, drop, nat_eq}
use Rattle.std.specs.List.{count_by}
use Rattle.http_wire.proofs.lines.field_lines.Given as goal

abbrev pub invariant-loop-byte : goal.invariant-loop-byte
invariant-loop-byte l = record {
  counted : count_by (λ byte. nat_eq byte 10) l.head ≡ l.feeds + count_by (λ byte. nat_eq byte 10) (drop l.byte-index l.head);
  small : l.feeds ≤ l.byte-index;
}
