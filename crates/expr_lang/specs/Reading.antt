-- Reading a text from left to right, one word after the other.
--
-- A reader keeps what it has opened or begun, the last of these first, and the nodes of the tree that are whole, each
-- after its operands. What may come next decides on the next word.
use Rattle.std.specs.Prelude.{ℕ, zero, suc, ◌+◌, ◌-◌, Bool, true, false, ◌||◌, ◌&&◌, not, List, [], ◌∷◌, ◌++◌, Option, Some, None, Result, Ok, Err}
use Rattle.std.specs.Prelude.{length, drop, slice_index, nat_eq, nat_lt, nat_le, if◌then◌else◌, is_none}
use Rattle.std.specs.Char.{is_ascii_digit}
use Rattle.expr_lang.specs.declared.tree.Binary.{Binary}
use Rattle.expr_lang.specs.declared.tree.Binary.TheVariants as binary
use Rattle.expr_lang.specs.declared.tree.Unary.{Unary}
use Rattle.expr_lang.specs.declared.tree.Unary.TheVariants as unary
use Rattle.expr_lang.specs.declared.tree.Place.{Place}
use Rattle.expr_lang.specs.declared.words.Symbol.{Symbol}
use Rattle.expr_lang.specs.declared.words.Symbol.TheVariants as symbol
use Rattle.expr_lang.specs.declared.words.Call.{Call}
use Rattle.expr_lang.specs.declared.words.Call.TheVariants as call
use Rattle.expr_lang.specs.declared.words.ItemForm.TheVariants as form
use Rattle.expr_lang.specs.declared.token.Allowed.{Allowed}
use Rattle.expr_lang.specs.declared.reading.Spot.{Spot}
use Rattle.expr_lang.specs.declared.reading.Node.{Node}
use Rattle.expr_lang.specs.declared.reading.Node.TheVariants as node
use Rattle.expr_lang.specs.declared.reading.Frame.{Frame}
use Rattle.expr_lang.specs.declared.reading.Frame.TheVariants as frame
use Rattle.expr_lang.specs.declared.reading.CallFrame.{CallFrame}
use Rattle.expr_lang.specs.declared.reading.Expect.{Expect}
use Rattle.expr_lang.specs.declared.reading.Expect.TheVariants as expect
use Rattle.expr_lang.specs.declared.reading.Token.{Token}
use Rattle.expr_lang.specs.declared.reading.Token.TheVariants as token
use Rattle.expr_lang.specs.declared.reading.Found.{Found}
use Rattle.expr_lang.specs.declared.reading.Reader.{Reader}
use Rattle.expr_lang.specs.declared.reading.Nodes.{Nodes}
use Rattle.expr_lang.specs.Stack.{top_of, rest_of}
use Rattle.expr_lang.specs.Words.{operands_of, start_of, items_of_place, followers, marks_of, bracket_of, nothing_of}
use Rattle.expr_lang.specs.Token.{longest_of, number_of, exponent_of}

-- how tightly an operator binds
abbrev pub level_of : Binary → ℕ
level_of binary.Or = 1
level_of binary.And = 2
level_of binary.Equal = 3
level_of binary.NotEqual = 3
level_of binary.Less = 3
level_of binary.AtMost = 3
level_of binary.Greater = 3
level_of binary.AtLeast = 3
level_of binary.Add = 4
level_of binary.Subtract = 4
level_of binary.Multiply = 5
level_of binary.Divide = 5
level_of binary.Remainder = 5
level_of binary.DaysBetween = 0
level_of binary.Comma = 0

-- a sign binds more tightly than any operator
abbrev pub node_level : Node → ℕ
node_level (node.Binary operator) = level_of operator
node_level _ = 6

-- what encloses the last operand
abbrev pub enclosing_of : List Frame → Option Frame
enclosing_of [] = None
enclosing_of (frame.Pending spot ∷ frames) = enclosing_of frames
enclosing_of (f ∷ frames) = Some f

-- whether a comparison is pending inside of what encloses the last operand
abbrev pub compares : List Frame → Bool
compares [] = false
compares (frame.Pending spot ∷ frames) = nat_eq (node_level spot.node) 3 || compares frames
compares (f ∷ frames) = false

-- how many arguments a call has at least, and how many at most
abbrev pub least_arguments : Call → ℕ
least_arguments call.If = 3
least_arguments call.Condition = 3
least_arguments call.DaysBetween = 2
least_arguments _ = 1

abbrev pub most_arguments : Call → ℕ
most_arguments call.If = 3
most_arguments call.Condition = 3
most_arguments call.DaysBetween = 2
most_arguments call.FirstNonNull = 4096
most_arguments call.Greatest = 4096
most_arguments call.Least = 4096
most_arguments _ = 1

abbrev pub allow : Bool → Bool → Bool → Bool → Bool → Allowed
allow with_caret with_close with_comma with_quote with_comparison =
    record { caret = with_caret; close = with_close; comma = with_comma; quote = with_quote; comparison = with_comparison }

abbrev pub allowed_in : Option Frame → Bool → Bool → Allowed
allowed_in (Some frame.Bracket) with_caret with_comparison = allow with_caret true false false with_comparison
allowed_in (Some frame.Quote) with_caret with_comparison = allow with_caret false false true with_comparison
allowed_in (Some (frame.Call c)) with_caret with_comparison =
    allow with_caret (nat_le (least_arguments c.call) (c.count + 1)) (nat_lt (c.count + 1) (most_arguments c.call)) false with_comparison
allowed_in _ with_caret with_comparison = allow with_caret false false false with_comparison

-- which words may follow an operand
unfoldable pub allowed_after : List Frame → Bool → Allowed
allowed_after frames with_caret = allowed_in (enclosing_of frames) with_caret (not (compares frames))

abbrev pub all_allowed : Allowed
all_allowed = allow true true true true true

-- the words of which the next may be one
abbrev pub words_for : Expect → Place → List Symbol
words_for expect.Start place = start_of place
words_for expect.Operand place = operands_of place
words_for expect.Item place = items_of_place place
words_for expect.Plain place = items_of_place place
words_for expect.Bracket place = bracket_of
words_for expect.Quote place = marks_of
words_for (expect.Exponent at) place = nothing_of
words_for (expect.Operator with_caret) place = followers
words_for expect.Comma place = marks_of
words_for expect.Close place = marks_of
words_for expect.More place = marks_of
words_for expect.End place = nothing_of

-- and which of these are allowed; a quoted text has no other in it
abbrev pub allowed_for : Expect → List Frame → Bool → Allowed
allowed_for (expect.Operator with_caret) frames quoted = allowed_after frames with_caret
allowed_for expect.Quote frames quoted = allow false false false (not quoted) false
allowed_for expect.Comma frames quoted = allow false false true false false
allowed_for expect.Close frames quoted = allow false true false false false
allowed_for expect.More frames quoted = allow false true true false false
allowed_for _ frames quoted = all_allowed

abbrev pub takes_number : Expect → Bool
takes_number expect.Start = true
takes_number expect.Operand = true
takes_number expect.Plain = true
takes_number _ = false

abbrev pub found : Token → ℕ → Found
found t n = record { token = t; len = n }

abbrev pub number_found : Result (ℕ × ℕ) ℕ → Result Found ℕ
number_found (Ok n) = Ok (found (token.Number n.0) n.1)
number_found (Err n) = Err n

abbrev pub exponent_found : Result (ℕ × ℕ) ℕ → Result Found ℕ
exponent_found (Ok n) = Ok (found (token.Exponent n.0) n.1)
exponent_found (Err n) = Err n

abbrev pub word_found : Option Symbol → ℕ → Result Found ℕ
word_found (Some word) n = Ok (found (token.Word word) n)
word_found None n = Err n

-- the next token of a text and its length, or how many of its bytes may begin one
unfoldable pub token_from : Expect → List Frame → Bool → Place → List ℕ → Result Found ℕ
token_from (expect.Exponent at) frames quoted place bytes = exponent_found (exponent_of bytes)
token_from e frames quoted place bytes =
    if takes_number e && is_ascii_digit (slice_index bytes 0) then number_found (number_of bytes)
    else (let front = longest_of (allowed_for e frames quoted) (words_for e place) bytes in word_found front.symbol front.len)

-- a pending sign or operator at the end that binds at least so tightly
abbrev pub binding_of : ℕ → List Frame → Option Spot
binding_of least (frame.Pending spot ∷ frames) = if nat_le least (node_level spot.node) then Some spot else None
binding_of least _ = None

-- the frames without the pending signs and operators at the end that bind at least so tightly, and the nodes with these
abbrev pub frames_reduced : ℕ → List Frame → List Frame
frames_reduced least [] = []
frames_reduced least (frame.Pending spot ∷ frames) =
    if nat_le least (node_level spot.node) then frames_reduced least frames else frame.Pending spot ∷ frames
frames_reduced least (f ∷ frames) = f ∷ frames

abbrev pub nodes_reduced : ℕ → List Frame → List Spot → List Spot
nodes_reduced least [] nodes = nodes
nodes_reduced least (frame.Pending spot ∷ frames) nodes =
    if nat_le least (node_level spot.node) then nodes_reduced least frames (nodes ++ spot ∷ []) else nodes
nodes_reduced least (f ∷ frames) nodes = nodes

abbrev pub spot_of : ℕ → Node → Spot
spot_of place it = record { at = place; node = it }

abbrev pub is_count_of : Node → Bool
is_count_of (node.Item form.EventCount) = true
is_count_of (node.Item form.EnrollmentCount) = true
is_count_of (node.Item form.EntityCount) = true
is_count_of _ = false

-- what may come after an operand that stands where this is expected
abbrev pub after_leaf_of : Expect → Node → Expect
after_leaf_of expect.Item it = expect.Close
after_leaf_of expect.Plain it = expect.More
after_leaf_of _ it = if is_count_of it then expect.End else expect.Operator true

unfoldable pub with_leaf : Reader → ℕ → Node → Reader
with_leaf reader at it = record reader { expect = after_leaf_of reader.expect it; nodes = reader.nodes ++ spot_of at it ∷ [] }

unfoldable pub with_sign : Reader → ℕ → Unary → Reader
with_sign reader at sign = record reader { expect = expect.Operand; frames = frame.Pending (spot_of at (node.Unary sign)) ∷ reader.frames }

unfoldable pub with_operator : Reader → ℕ → Binary → Reader
with_operator reader at operator = record reader {
  expect = expect.Operand;
  frames = frame.Pending (spot_of at (node.Binary operator)) ∷ frames_reduced (level_of operator) reader.frames;
  nodes = nodes_reduced (level_of operator) reader.frames reader.nodes;
}

-- what a call's first argument has to be
abbrev pub first_argument : Call → Expect
first_argument call.Condition = expect.Quote
first_argument call.IsNull = expect.Item
first_argument call.IsNotNull = expect.Item
first_argument call.HasValue = expect.Item
first_argument call.FirstNonNull = expect.Plain
first_argument _ = expect.Operand

abbrev pub after_open_of : Option Frame → Expect
after_open_of (Some (frame.Call c)) = first_argument c.call
after_open_of _ = expect.Operand

-- the first bracket that stands inside 64 others
abbrev pub crowded_at : Reader → ℕ → Option ℕ
crowded_at reader at = if is_none reader.crowded && nat_le 64 reader.opened then Some at else reader.crowded

abbrev pub is_bracket : Expect → Bool
is_bracket expect.Bracket = true
is_bracket _ = false

unfoldable pub with_open : Reader → ℕ → Reader
with_open reader at = record reader {
  expect = if is_bracket reader.expect then after_open_of (top_of reader.frames) else expect.Operand;
  frames = if is_bracket reader.expect then reader.frames else frame.Bracket ∷ reader.frames;
  opened = reader.opened + 1;
  crowded = crowded_at reader at;
}

abbrev pub call_frame : ℕ → Call → ℕ → CallFrame
call_frame place name arguments = record { at = place; call = name; count = arguments }

unfoldable pub with_call : Reader → ℕ → Call → Reader
with_call reader at name = record reader { expect = expect.Bracket; frames = frame.Call (call_frame at name 0) ∷ reader.frames }

abbrev pub is_list_of : Call → Bool
is_list_of call.FirstNonNull = true
is_list_of call.Greatest = true
is_list_of call.Least = true
is_list_of _ = false

-- the node that takes a second and each later argument into a list
abbrev pub joined : CallFrame → List Spot → List Spot
joined c nodes = if nat_lt 0 c.count && is_list_of c.call then nodes ++ spot_of c.at (node.Binary binary.Comma) ∷ [] else nodes

abbrev pub node_of_call : Call → Node
node_of_call call.If = node.If
node_of_call call.Condition = node.If
node_of_call call.IsNull = node.Unary unary.IsNull
node_of_call call.IsNotNull = node.Unary unary.IsNotNull
node_of_call call.FirstNonNull = node.Unary unary.FirstNonNull
node_of_call call.Greatest = node.Unary unary.Greatest
node_of_call call.Least = node.Unary unary.Least
node_of_call call.DaysBetween = node.Binary binary.DaysBetween
node_of_call call.HasValue = node.Unary unary.HasValue
node_of_call call.Zing = node.Unary unary.Zing
node_of_call call.Oizp = node.Unary unary.Oizp

-- the call with one more argument
abbrev pub counted_of : CallFrame → CallFrame
counted_of c = record c { count = if nat_lt c.count 4096 then c.count + 1 else 4096 }

abbrev pub later_argument : Call → Expect
later_argument call.FirstNonNull = expect.Plain
later_argument _ = expect.Operand

-- a comma: the argument before it is whole
abbrev pub comma_in : List Frame → List Spot → Reader → Reader
comma_in (frame.Call c ∷ frames) nodes' reader = record reader {
  expect = later_argument c.call;
  frames = frame.Call (counted_of c) ∷ frames;
  nodes = joined c nodes';
}
comma_in frames nodes' reader = record reader { frames = rest_of frames; nodes = nodes' }

unfoldable pub with_comma : Reader → Reader
with_comma reader = comma_in (frames_reduced 1 reader.frames) (nodes_reduced 1 reader.frames reader.nodes) reader

abbrev pub closed : Option Frame → List Spot → List Spot
closed (Some (frame.Call c)) nodes = joined c nodes ++ spot_of c.at (node_of_call c.call) ∷ []
closed _ nodes = nodes

unfoldable pub with_close : Reader → Reader
with_close reader = record reader {
  expect = expect.Operator true;
  frames = rest_of (frames_reduced 1 reader.frames);
  nodes = closed (top_of (frames_reduced 1 reader.frames)) (nodes_reduced 1 reader.frames reader.nodes);
  opened = reader.opened - 1;
}

abbrev pub is_quote : Expect → Bool
is_quote expect.Quote = true
is_quote _ = false

unfoldable pub with_quote : Reader → Reader
with_quote reader =
    if is_quote reader.expect
    then record reader { expect = expect.Operand; frames = frame.Quote ∷ reader.frames; quoted = true }
    else record reader {
      expect = expect.Comma;
      frames = rest_of (frames_reduced 1 reader.frames);
      nodes = nodes_reduced 1 reader.frames reader.nodes;
      quoted = false;
    }

unfoldable pub with_word : Reader → ℕ → Symbol → Reader
with_word reader at symbol.Open = with_open reader at
with_word reader at symbol.Close = with_close reader
with_word reader at symbol.Comma = with_comma reader
with_word reader at symbol.Quote = with_quote reader
with_word reader at symbol.Caret = record reader { expect = expect.Exponent at }
with_word reader at symbol.Minus = with_sign reader at unary.Negate
with_word reader at symbol.Bang = with_sign reader at unary.Not
with_word reader at (symbol.Operator operator) = with_operator reader at operator
with_word reader at (symbol.Call name) = with_call reader at name
with_word reader at (symbol.Item it) = with_leaf reader at (node.Item it)

abbrev pub with_power : Expect → List Spot → ℕ → List Spot
with_power (expect.Exponent at) nodes n = nodes ++ spot_of at (node.Unary (unary.Power n)) ∷ []
with_power _ nodes n = nodes

unfoldable pub with_exponent : Reader → ℕ → Reader
with_exponent reader n = record reader { expect = expect.Operator false; nodes = with_power reader.expect reader.nodes n }

-- the reader after one more token
unfoldable pub with_token : Reader → ℕ → Token → Reader
with_token reader at (token.Word word) = with_word reader at word
with_token reader at (token.Number n) = with_leaf reader at (node.Number n)
with_token reader at (token.Exponent n) = with_exponent reader n

-- spaces, tabs, CR and LF
abbrev pub is_blank_of : ℕ → Bool
is_blank_of byte = nat_eq byte 32 || nat_eq byte 9 || nat_eq byte 13 || nat_eq byte 10

abbrev pub blank_count : List ℕ → ℕ
blank_count [] = 0
blank_count (b ∷ bs) = if is_blank_of b then suc (blank_count bs) else 0

-- whether a text may end after what was read
abbrev pub may_end_in : Expect → List Frame → Bool
may_end_in (expect.Operator with_caret) frames = is_none (enclosing_of frames)
may_end_in expect.End frames = true
may_end_in _ frames = false

abbrev pub ended : Reader → ℕ → Result Nodes ℕ
ended reader at =
    if may_end_in reader.expect reader.frames
    then Ok (record { nodes = nodes_reduced 1 reader.frames reader.nodes; crowded = reader.crowded }) else Err at

-- goes on after a token
abbrev pub go_on : (Reader → ℕ → List ℕ → Result Nodes ℕ) → Reader → ℕ → List ℕ → Result Found ℕ → Result Nodes ℕ
go_on next reader at rest (Err n) = Err (at + n)
go_on next reader at rest (Ok f) = next (with_token reader at f.token) (at + f.len) (drop f.len rest)

-- the rest of a text, of at most so many words
unfoldable pub read_rest : Place → ℕ → Reader → ℕ → List ℕ → Result Nodes ℕ
read_rest place zero reader at bytes = Err at
read_rest place (suc most) reader at bytes =
    let blanks = blank_count bytes in
    let rest = drop blanks bytes in
    if nat_eq (length rest) 0 then ended reader (at + blanks)
    else go_on (read_rest place most) reader (at + blanks) rest (token_from reader.expect reader.frames reader.quoted place rest)

abbrev pub new_reader : Reader
new_reader = record { expect = expect.Start; frames = []; nodes = []; opened = 0; crowded = None; quoted = false }

-- the nodes of a text, or the first byte at which it can't go on
-- a text of 4,096 bytes has no more words
unfoldable pub most_words : ℕ
most_words = 4097

unfoldable pub read_text : Place → List ℕ → Result Nodes ℕ
read_text place bytes = read_rest place most_words new_reader 0 bytes
