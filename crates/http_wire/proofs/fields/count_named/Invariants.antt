use Rattle.std.proofs.Common.{◌≡◌, ◌+◌, ◌≤◌, drop, map}
use Rattle.httparse.specs.Borrowed.{header_parts}
use Rattle.http_wire.specs.Fields.{count_named}
use Rattle.http_wire.proofs.fields.count_named.Given as goal

abbrev pub invariant-loop-header : goal.invariant-loop-header
invariant-loop-header l = record {
  counted : count_named l.name (map header_parts l.headers) ≡ l.count + count_named l.name (map header_parts (drop l.header-index l.headers));
  small : l.count ≤ l.header-index;
}
