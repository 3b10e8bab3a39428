use Rattle.std.proofs.Common.{◌≡◌, drop, filter}
use Rattle.std.specs.Str.{str_eq_ignore_ascii_case}
use Rattle.http_wire.specs.Fields.{is_no_space}
use Rattle.http_wire.proofs.fields.is_spaced.Given as goal

abbrev pub invariant-loop-byte : goal.invariant-loop-byte
invariant-loop-byte l =
    str_eq_ignore_ascii_case (filter is_no_space l.text) l.other
    ≡ str_eq_ignore_ascii_case (filter is_no_space (drop l.byte-index l.text)) l.want
