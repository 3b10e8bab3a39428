-- The words that most texts are made of, known by their first byte or by a few.
use Rattle.std.specs.Prelude.{ℕ, zero, suc, Bool, List, [], ◌∷◌, ◌&&◌, Option, Some, None, length, drop, slice_index, nat_eq, nat_lt}
use Rattle.std.specs.Prelude.{if◌then◌else◌}
use Rattle.expr_lang.specs.declared.tree.Binary.{Binary}
use Rattle.expr_lang.specs.declared.tree.Binary.TheVariants as binary
use Rattle.expr_lang.specs.declared.tree.Place.{Place}
use Rattle.expr_lang.specs.declared.tree.Place.TheVariants as place
use Rattle.expr_lang.specs.declared.words.Symbol.{Symbol}
use Rattle.expr_lang.specs.declared.words.Symbol.TheVariants as symbol
use Rattle.expr_lang.specs.declared.words.Call.{Call}
use Rattle.expr_lang.specs.declared.words.Call.TheVariants as call
use Rattle.expr_lang.specs.declared.words.ItemForm.{ItemForm}
use Rattle.expr_lang.specs.declared.words.ItemForm.TheVariants as form
use Rattle.expr_lang.specs.declared.reading.Frame.{Frame}
use Rattle.expr_lang.specs.declared.reading.Expect.{Expect}
use Rattle.expr_lang.specs.declared.reading.Expect.TheVariants as expect
use Rattle.expr_lang.specs.Words.{call_text_of}
use Rattle.expr_lang.specs.Token.{front_of}
use Rattle.expr_lang.specs.Reading.{allowed_after}

-- the operator of one byte that may follow every operand
unfoldable pub sole_operator_of : ℕ → Option Binary
sole_operator_of byte =
    if nat_eq byte 43 then Some binary.Add
    else if nat_eq byte 45 then Some binary.Subtract
    else if nat_eq byte 42 then Some binary.Multiply
    else if nat_eq byte 47 then Some binary.Divide else if nat_eq byte 37 then Some binary.Remainder else None

-- so many letters or digits
abbrev pub dollars : ℕ → List ℕ
dollars zero = []
dollars (suc n) = 36 ∷ dollars n

abbrev pub identifier : List ℕ
identifier = 64 ∷ dollars 10

-- whether a text begins with an identifier
unfoldable pub is_identifier_of : List ℕ → Bool
is_identifier_of bytes = nat_eq (front_of identifier bytes) 11

abbrev pub pair_form : Place → ItemForm
pair_form place.Aggregate = form.ElementCombo
pair_form place.Program = form.StageElement

-- an item of two identifiers, of which the first one and the point after it are known
unfoldable pub pair_of : Place → List ℕ → Option (ItemForm × ℕ)
pair_of place bytes =
    if nat_lt (length bytes) 26 then None
    else if nat_eq (slice_index bytes 25) 125
    then (if is_identifier_of (drop 14 bytes) then Some (pair_form place, 26) else None) else None

abbrev pub element_alone : Place → Option (ItemForm × ℕ)
element_alone place.Aggregate = Some (form.Element, 14)
element_alone place.Program = None

-- the same of one identifier, by the byte after it
unfoldable pub element_of : Place → List ℕ → Option (ItemForm × ℕ)
element_of place bytes =
    if nat_eq (slice_index bytes 13) 125 then element_alone place else if nat_eq (slice_index bytes 13) 46 then pair_of place bytes else None

abbrev pub attribute_alone : Place → Option (ItemForm × ℕ)
attribute_alone place.Aggregate = None
attribute_alone place.Program = Some (form.Attribute, 14)

-- the same of one identifier whose brace is closed, by its first byte
unfoldable pub closed_of : Place → ℕ → Option (ItemForm × ℕ)
closed_of place first = if nat_eq first 67 then Some (form.Constant, 14) else if nat_eq first 65 then attribute_alone place else None

-- an item by its first byte, of which one identifier in braces is known
unfoldable pub braced_of : Place → List ℕ → Option (ItemForm × ℕ)
braced_of place bytes =
    if nat_eq (slice_index bytes 0) 35 then element_of place bytes
    else if nat_eq (slice_index bytes 13) 125 then closed_of place (slice_index bytes 0) else None

-- an item of one identifier or of two, and its length
unfoldable pub item_at_of : Place → List ℕ → Option (ItemForm × ℕ)
item_at_of place bytes =
    if nat_lt (length bytes) 14 then None
    else if nat_eq (slice_index bytes 1) 123
    then (if is_identifier_of (drop 2 bytes) then braced_of place bytes else None) else None

abbrev pub item_word : Option (ItemForm × ℕ) → Option (Symbol × ℕ)
item_word (Some found) = Some (symbol.Item found.0, found.1)
item_word None = None

abbrev pub list_call : Place → Option Call
list_call place.Aggregate = Some call.FirstNonNull
list_call place.Program = None

-- the call that alone may begin with these two letters and be whole
unfoldable pub likely_call_of : Place → ℕ → ℕ → Option Call
likely_call_of place first second =
    if nat_eq first 103 then Some call.Greatest
    else if nat_eq first 108 then Some call.Least
    else if nat_eq first 105 && nat_eq second 102 then Some call.If else if nat_eq first 102 then list_call place else None

unfoldable pub whole_call_of : Call → List ℕ → Option (Symbol × ℕ)
whole_call_of name bytes =
    if nat_eq (front_of (call_text_of name) bytes) (length (call_text_of name))
    then Some (symbol.Call name, length (call_text_of name)) else None

abbrev pub call_by : Option Call → List ℕ → Option (Symbol × ℕ)
call_by (Some name) bytes = whole_call_of name bytes
call_by None bytes = None

-- a call's name and its length
unfoldable pub call_at_of : Place → List ℕ → Option (Symbol × ℕ)
call_at_of place bytes =
    if nat_lt (length bytes) 2 then None else call_by (likely_call_of place (slice_index bytes 0) (slice_index bytes 1)) bytes

abbrev pub name_by : Option (Symbol × ℕ) → Option (Symbol × ℕ) → Option (Symbol × ℕ)
name_by (Some found) other = Some found
name_by None other = other

-- a mark after an operand, where it may stand
unfoldable pub mark_after : List Frame → Bool → ℕ → Option (Symbol × ℕ)
mark_after frames with_caret byte =
    if nat_eq byte 41 then (if (allowed_after frames with_caret).close then Some (symbol.Close, 1) else None)
    else if nat_eq byte 44 then (if (allowed_after frames with_caret).comma then Some (symbol.Comma, 1) else None) else None

abbrev pub follower_by : Option Binary → Option (Symbol × ℕ) → Option (Symbol × ℕ)
follower_by (Some operator) mark = Some (symbol.Operator operator, 1)
follower_by None mark = mark

unfoldable pub follower_of : List Frame → Bool → ℕ → Option (Symbol × ℕ)
follower_of frames with_caret byte = follower_by (sole_operator_of byte) (mark_after frames with_caret byte)

-- what opens an operand that isn't an item
unfoldable pub operand_of : Place → List ℕ → Option (Symbol × ℕ)
operand_of place bytes =
    if nat_eq (slice_index bytes 0) 40 then Some (symbol.Open, 1)
    else if nat_eq (slice_index bytes 0) 45 then Some (symbol.Minus, 1) else call_at_of place bytes

abbrev pub other_of : Expect → Place → List ℕ → Option (Symbol × ℕ)
other_of expect.Start place bytes = operand_of place bytes
other_of expect.Operand place bytes = operand_of place bytes
other_of _ place bytes = None

unfoldable pub name_of : Expect → Place → List ℕ → Option (Symbol × ℕ)
name_of e place bytes = name_by (item_word (item_at_of place bytes)) (other_of e place bytes)

unfoldable pub bracket_of_call : ℕ → Option (Symbol × ℕ)
bracket_of_call byte = if nat_eq byte 40 then Some (symbol.Open, 1) else None

abbrev pub quick_by : Expect → List Frame → Place → List ℕ → Option (Symbol × ℕ)
quick_by (expect.Operator with_caret) frames place bytes = follower_of frames with_caret (slice_index bytes 0)
quick_by expect.Start frames place bytes = name_of expect.Start place bytes
quick_by expect.Operand frames place bytes = name_of expect.Operand place bytes
quick_by expect.Item frames place bytes = name_of expect.Item place bytes
quick_by expect.Plain frames place bytes = name_of expect.Plain place bytes
quick_by expect.Bracket frames place bytes = bracket_of_call (slice_index bytes 0)
quick_by _ frames place bytes = None

-- the next word and its length, where so little tells which it is
unfoldable pub quick_word_of : Expect → List Frame → Place → List ℕ → Option (Symbol × ℕ)
quick_word_of e frames place bytes = if nat_eq (length bytes) 0 then None else quick_by e frames place bytes
