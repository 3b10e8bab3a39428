-- What the fields of a head say of the body (RFC 9112, section 6).
use Rattle.std.specs.Prelude.{ℕ, Bool, true, false, ◌&&◌, ◌||◌, List, Option, None, Some, Result, Ok, Err, cond, codes, nat_lt}
use Rattle.std.specs.List.{list_any}
use Rattle.std.specs.Str.Parse.{digits_value}
use Rattle.dh_base.specs.declared.codes.Code.{Code}
use Rattle.dh_base.specs.declared.codes.Code.TheVariants.{F3, F4, F5}
use Rattle.http_wire.specs.Fields.{Field, count_named, last_named, is_length, gives_length, gives_bad_length, names_transfer, names_other_transfer}
use Rattle.http_wire.specs.Fields.{names_coding, names_other_media}
use Rattle.http_wire.specs.declared.plan.Plan.{Plan}
use Rattle.http_wire.specs.declared.plan.Plan.TheVariants.{Sized, Chunked}

-- how many bytes a body may have
abbrev pub body_limit : ℕ
body_limit = 16777216

-- the length that a value gives; 0 where there is none
unfoldable pub length_in : List ℕ → ℕ
length_in value = cond (is_length value) (digits_value 10 value) 0

abbrev pub length_by : Option (List ℕ) → ℕ
length_by None = 0
length_by (Some value) = length_in value

-- the body that is announced; one of no byte, where nothing announces it
unfoldable pub announced : List Field → Plan
announced fields = cond (list_any names_transfer fields) Chunked (Sized (length_by (last_named (codes "content-length") fields)))

-- two lengths, a bad one, one beside a transfer coding, or a transfer coding other than `chunked`
unfoldable pub is_badly_framed : List Field → Bool
is_badly_framed fields =
    nat_lt 1 (count_named (codes "content-length") fields) || (list_any gives_bad_length fields
    || ((list_any gives_length fields && list_any names_transfer fields) || list_any names_other_transfer fields))

abbrev pub has_body : Plan → Bool
has_body (Sized count) = nat_lt 0 count
has_body Chunked = true

-- an encoded body, or one of another media type
unfoldable pub is_not_plain : List Field → Plan → Bool
is_not_plain fields plan = list_any names_coding fields || (has_body plan && list_any names_other_media fields)

abbrev pub is_too_long : Plan → Bool
is_too_long (Sized count) = nat_lt body_limit count
is_too_long Chunked = false

-- the plan of the body, or the first fault
unfoldable pub plan_of : List Field → Result Plan Code
plan_of fields =
    cond (is_badly_framed fields) (Err F4)
    (cond (is_not_plain fields (announced fields)) (Err F5) (cond (is_too_long (announced fields)) (Err F3) (Ok (announced fields))))
