-- The fields of a head: names and values.
use Rattle.std.specs.Prelude.{ℕ, ◌+◌, Bool, ◌&&◌, not, List, [], ◌∷◌, Option, None, Some, cond, length, take, drop, filter, codes, option_and_then, position}
use Rattle.std.specs.Prelude.{nat_eq, nat_le, nat_lt}
use Rattle.std.specs.List.{list_all, list_any, count_by}
use Rattle.std.specs.Char.{is_ascii_digit}
use Rattle.std.specs.Cmp.Lexicographic.{pointwise}
use Rattle.std.specs.Str.{str_eq_ignore_ascii_case}
use Rattle.http_wire.specs.declared.fields.Mark.{Mark}
use Rattle.http_wire.specs.declared.fields.Mark.TheVariants as mark

-- a name and a value
abbrev pub Field : Type 0
Field = List ℕ × List ℕ

-- the field has that name, in any case
abbrev pub is_named : List ℕ → Field → Bool
is_named name field = str_eq_ignore_ascii_case field.0 name

-- how many fields have that name
abbrev pub count_named : List ℕ → List Field → ℕ
count_named name fields = count_by (is_named name) fields

-- the first that is there
abbrev pub or_else : Option (List ℕ) → Option (List ℕ) → Option (List ℕ)
or_else (Some value) other = Some value
or_else None other = other

-- the value of the last field of that name
abbrev pub last_named : List ℕ → List Field → Option (List ℕ)
last_named name [] = None
last_named name (field ∷ fields) = or_else (last_named name fields) (cond (is_named name field) (Some field.1) None)

-- what stands before and after a place, or all and nothing
abbrev pub before : Option ℕ → List ℕ → List ℕ
before None text = text
before (Some place) text = take place text

abbrev pub beyond : Option ℕ → List ℕ → List ℕ
beyond None text = []
beyond (Some place) text = drop (place + 1) text

-- the path of a target, and its query after the first question mark
unfoldable pub path_of : List ℕ → List ℕ
path_of target = before (position (λ b. nat_eq b 63) target) target

unfoldable pub query_of : List ℕ → List ℕ
query_of target = beyond (position (λ b. nat_eq b 63) target) target

-- 1 to 18 digits
unfoldable pub is_length : List ℕ → Bool
is_length value = nat_lt 0 (length value) && (nat_le (length value) 18 && list_all is_ascii_digit value)

-- a field that gives the length of the body, and one that gives it badly
unfoldable pub gives_length : Field → Bool
gives_length field = is_named (codes "content-length") field

unfoldable pub gives_bad_length : Field → Bool
gives_bad_length field = is_named (codes "content-length") field && not (is_length field.1)

-- a field that names a transfer coding, and one that names another than `chunked`
unfoldable pub names_transfer : Field → Bool
names_transfer field = is_named (codes "transfer-encoding") field

unfoldable pub names_other_transfer : Field → Bool
names_other_transfer field = is_named (codes "transfer-encoding") field && not (str_eq_ignore_ascii_case field.1 (codes "chunked"))

-- a field that says that the body is encoded
unfoldable pub names_coding : Field → Bool
names_coding field = is_named (codes "content-encoding") field && not (pointwise nat_eq field.1 (codes "identity"))

abbrev pub is_no_space : ℕ → Bool
is_no_space byte = not (nat_eq byte 32)

-- the text before a semicolon without its spaces is `application/json`, in any case
unfoldable pub is_json : List ℕ → Bool
is_json value = str_eq_ignore_ascii_case (filter is_no_space (before (position (λ b. nat_eq b 59) value) value)) (codes "application/json")

-- a field that names another media type
unfoldable pub names_other_media : Field → Bool
names_other_media field = is_named (codes "content-type") field && not (is_json field.1)

-- a field that asks for the connection to end
unfoldable pub asks_to_close : Field → Bool
asks_to_close field = is_named (codes "connection") field && str_eq_ignore_ascii_case field.1 (codes "close")

-- a field that says this
abbrev pub is_marked : Mark → Field → Bool
is_marked mark.Length = gives_length
is_marked mark.BadLength = gives_bad_length
is_marked mark.Transfer = names_transfer
is_marked mark.OtherTransfer = names_other_transfer
is_marked mark.Coding = names_coding
is_marked mark.OtherMedia = names_other_media
is_marked mark.Close = asks_to_close

-- the text after `ApiToken ` in any case
unfoldable pub token_in : List ℕ → Option (List ℕ)
token_in value = cond (nat_le 9 (length value) && str_eq_ignore_ascii_case (take 9 value) (codes "ApiToken ")) (Some (drop 9 value)) None

-- the token of the one field that gives it
unfoldable pub token_of : List Field → Option (List ℕ)
token_of fields =
    cond (nat_eq (count_named (codes "authorization") fields) 1) (option_and_then token_in (last_named (codes "authorization") fields)) None

-- the connection is kept under HTTP/1.1, unless a field asks to close it
unfoldable pub is_kept : ℕ → List Field → Bool
is_kept minor fields = nat_eq minor 1 && not (list_any asks_to_close fields)
