use Rattle.std.proofs.Common.{◌≡◌, drop, map}
use Rattle.std.specs.Prelude.{option_map}
use Rattle.httparse.specs.Borrowed.{header_parts}
use Rattle.http_wire.specs.Fields.{last_named, or_else}
use Rattle.http_wire.proofs.fields.last_named.Given as goal

abbrev pub invariant-loop-header : goal.invariant-loop-header
invariant-loop-header l =
    last_named l.name (map header_parts l.headers)
    ≡ or_else (last_named l.name (map header_parts (drop l.header-index l.headers))) (option_map (λ value. value.now) l.found)
