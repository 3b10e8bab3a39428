-- The days that records may have.
use Rattle.std.specs.Prelude.{ℤ, Bool, ◌&&◌, int_le}
use Rattle.dh_base.specs.declared.limits.TheConstants.{FIRST_DAY, LAST_DAY}

-- a day from 1900-01-01 to 2100-12-31, as days since 1970-01-01
abbrev pub is_day : ℤ → Bool
is_day day = int_le FIRST_DAY day && int_le day LAST_DAY
