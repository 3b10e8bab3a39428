-- The codes by which what isn't a request is refused.
use Rattle.std.specs.Prelude.{Bool, true, false}
use Rattle.dh_base.specs.declared.codes.Code.{Code}
use Rattle.dh_base.specs.declared.codes.Code.TheVariants.{F1, F2, F3, F4, F5}

-- a head that is none or is too long, a body that is too long, is badly framed or isn't plain
abbrev pub is_wire_code : Code → Bool
is_wire_code F1 = true
is_wire_code F2 = true
is_wire_code F3 = true
is_wire_code F4 = true
is_wire_code F5 = true
is_wire_code _ = false
