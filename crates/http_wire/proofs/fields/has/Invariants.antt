use Rattle.std.proofs.Common.{◌≡◌, drop, map}
use Rattle.std.specs.List.{list_any}
use Rattle.httparse.specs.Borrowed.{header_parts}
use Rattle.http_wire.specs.Fields.{is_marked}
use Rattle.http_wire.proofs.fields.has.Given as goal

abbrev pub invariant-loop-header : goal.invariant-loop-header
invariant-loop-header l =
    list_any (is_marked l.mark) (map header_parts l.headers) ≡ list_any (is_marked l.mark) (map header_parts (drop l.header-index l.headers))
