-- With each token the reader goes on with a form of the grammar.
use Rattle.std.proofs.Common.{◌≡◌, ℕ, Bool, true, false, cond, List, [], ◌∷◌, ◌++◌, Option, refl, sym, ap, subst, ◌∙◌, arith}
use Rattle.std.specs.Prelude.{◌&&◌}
use Rattle.expr_lang.specs.declared.tree.Place.{Place}
use Rattle.expr_lang.specs.declared.tree.Unary.TheVariants as unary
use Rattle.expr_lang.specs.declared.words.Symbol.{Symbol}
use Rattle.expr_lang.specs.declared.words.Symbol.TheVariants as symbol
use Rattle.expr_lang.specs.declared.words.Call.{Call}
use Rattle.expr_lang.specs.declared.words.Call.TheVariants as call
use Rattle.expr_lang.specs.declared.words.ItemForm.{ItemForm}
use Rattle.expr_lang.specs.declared.reading.Spot.{Spot}
use Rattle.expr_lang.specs.declared.reading.Node.TheVariants as node
use Rattle.expr_lang.specs.declared.reading.Frame.{Frame}
use Rattle.expr_lang.specs.declared.reading.Frame.TheVariants as frame
use Rattle.expr_lang.specs.declared.reading.Expect.{Expect}
use Rattle.expr_lang.specs.declared.reading.Expect.TheVariants as expect
use Rattle.expr_lang.specs.declared.reading.Reader.{Reader}
use Rattle.expr_lang.specs.Reading.{spot_of, call_frame, counted_of}
use Rattle.expr_lang.specs.Words.{text_of, items_of_place}
use Rattle.expr_grammar.specs.Grammar.{Form, Number, Item, Power, Arguments, Apply, IsBlank, IsWord, IsAmong, IsCall, IsForm, Takes, is_item, all_plain}
use Rattle.expr_grammar.specs.Grammar.{arguments_level, symbol_text, spelled}
use Rattle.expr_grammar.specs.Grammar.{IsWhole}
use Rattle.expr_lang.specs.declared.reading.Token.{Token}
use Rattle.expr_lang.specs.declared.reading.Token.TheVariants as token
use Rattle.expr_lang.specs.Reading.{is_count_of, with_token, with_word, with_leaf, with_sign, with_open, with_call, with_comma, with_close, with_quote}
use Rattle.expr_lang.specs.Reading.{with_exponent}
use Rattle.expr_lang.specs.Words.{start_of}
use Rattle.expr_grammar.proofs.Tokens.{IsLexeme}
use Rattle.expr_grammar.proofs.Steps.{only, IsPlainWord}
use Rattle.expr_grammar.proofs.Moves.{rd, IsOpen, item_token, spot_token, open_token}
use Rattle.expr_grammar.proofs.Parts.{Part, InSign, InBracket, InQuote, InIf, InYes, InFirst, InOne, spelled_parts, frames_of, quoted_of, Fit, weaken}

-- how far a form is read: what is begun, and what comes next
pub data Stage : Type 0 where
  Wants : List Part → Stage
  Named : List Part → List ℕ → Call → ℕ → Stage
  Quoting : List Part → List ℕ → List ℕ → ℕ → Stage
  WantsItem : List Part → List ℕ → Call → List ℕ → ℕ → Stage
  PlainFirst : List Part → List ℕ → List ℕ → ℕ → Stage
  PlainNext : List Part → List ℕ → List ℕ → ℕ → Form → List ℕ → ℕ → Stage
  Plain : List Part → List ℕ → List ℕ → ℕ → Form → ℕ → Stage
  Lone : List Part → List ℕ → Call → List ℕ → ℕ → Form → Stage
  Raised : List Part → Form → List ℕ → ℕ → Stage
  Has : List Part → Form → Bool → Stage
  Tested : List Part → List ℕ → List ℕ → List ℕ → Form → List ℕ → ℕ → Stage
  Whole : Form → Stage

abbrev pub named : List ℕ → Call → List ℕ → List ℕ → List ℕ
named b name c rest = symbol_text b (symbol.Call name) (symbol_text c symbol.Open rest)

abbrev pub spelled_stage : Stage → List ℕ → List ℕ
spelled_stage (Wants ps) rest = spelled_parts ps rest
spelled_stage (Named ps b name k) rest = spelled_parts ps (symbol_text b (symbol.Call name) rest)
spelled_stage (Quoting ps b c k) rest = spelled_parts ps (named b call.Condition c rest)
spelled_stage (WantsItem ps b name c k) rest = spelled_parts ps (named b name c rest)
spelled_stage (PlainFirst ps b c k) rest = spelled_parts ps (named b call.FirstNonNull c rest)
spelled_stage (PlainNext ps b c k first d n) rest = spelled_parts ps (named b call.FirstNonNull c (spelled first (symbol_text d symbol.Comma rest)))
spelled_stage (Plain ps b c k F n) rest = spelled_parts ps (named b call.FirstNonNull c (spelled F rest))
spelled_stage (Lone ps b name c k F) rest = spelled_parts ps (named b name c (spelled F rest))
spelled_stage (Raised ps F b k) rest = spelled_parts ps (spelled F (symbol_text b symbol.Caret rest))
spelled_stage (Has ps F power) rest = spelled_parts ps (spelled F rest)
spelled_stage (Tested ps b c d test e k) rest =
    spelled_parts ps (named b call.Condition c (symbol_text d symbol.Quote (spelled test (symbol_text e symbol.Quote rest))))
spelled_stage (Whole F) rest = spelled F rest

abbrev pub expect_of : Stage → Expect
expect_of (Wants []) = expect.Start
expect_of (Wants ps) = expect.Operand
expect_of (Named ps b name k) = expect.Bracket
expect_of (Quoting ps b c k) = expect.Quote
expect_of (WantsItem ps b name c k) = expect.Item
expect_of (PlainFirst ps b c k) = expect.Plain
expect_of (PlainNext ps b c k first d n) = expect.Plain
expect_of (Plain ps b c k F n) = expect.More
expect_of (Lone ps b name c k F) = expect.Close
expect_of (Raised ps F b k) = expect.Exponent k
expect_of (Has ps F power) = expect.Operator power
expect_of (Tested ps b c d test e k) = expect.Comma
expect_of (Whole F) = expect.End

abbrev pub stage_frames : Stage → List Frame
stage_frames (Wants ps) = frames_of ps
stage_frames (Named ps b name k) = frame.Call (call_frame k name 0) ∷ frames_of ps
stage_frames (Quoting ps b c k) = frame.Call (call_frame k call.Condition 0) ∷ frames_of ps
stage_frames (WantsItem ps b name c k) = frame.Call (call_frame k name 0) ∷ frames_of ps
stage_frames (PlainFirst ps b c k) = frame.Call (call_frame k call.FirstNonNull 0) ∷ frames_of ps
stage_frames (PlainNext ps b c k first d n) = frame.Call (call_frame k call.FirstNonNull n) ∷ frames_of ps
stage_frames (Plain ps b c k F n) = frame.Call (call_frame k call.FirstNonNull n) ∷ frames_of ps
stage_frames (Lone ps b name c k F) = frame.Call (call_frame k name 0) ∷ frames_of ps
stage_frames (Raised ps F b k) = frames_of ps
stage_frames (Has ps F power) = frames_of ps
stage_frames (Tested ps b c d test e k) = frame.Call (call_frame k call.Condition 0) ∷ frames_of ps
stage_frames (Whole F) = []

abbrev pub stage_quoted : Stage → Bool
stage_quoted (Wants ps) = quoted_of ps
stage_quoted (Named ps b name k) = quoted_of ps
stage_quoted (Quoting ps b c k) = quoted_of ps
stage_quoted (WantsItem ps b name c k) = quoted_of ps
stage_quoted (PlainFirst ps b c k) = quoted_of ps
stage_quoted (PlainNext ps b c k first d n) = quoted_of ps
stage_quoted (Plain ps b c k F n) = quoted_of ps
stage_quoted (Lone ps b name c k F) = quoted_of ps
stage_quoted (Raised ps F b k) = quoted_of ps
stage_quoted (Has ps F power) = quoted_of ps
stage_quoted (Tested ps b c d test e k) = quoted_of ps
stage_quoted (Whole F) = false

abbrev pub IsItemCall : Call → Type 0
IsItemCall call.IsNull = Unit {0}
IsItemCall call.IsNotNull = Unit {0}
IsItemCall call.HasValue = Unit {0}
IsItemCall _ = ⊥

abbrev pub Valid : Place → Stage → Type 0
Valid p (Wants ps) = Fit p ps
Valid p (Named ps b name k) = Fit p ps × IsCall p name × IsBlank b
Valid p (Quoting ps b c k) = Fit p ps × IsCall p call.Condition × IsBlank b × IsBlank c
Valid p (WantsItem ps b name c k) = Fit p ps × IsCall p name × IsBlank b × IsBlank c × IsItemCall name
Valid p (PlainFirst ps b c k) = Fit p ps × IsCall p call.FirstNonNull × IsBlank b × IsBlank c
Valid p (PlainNext ps b c k first d n) =
    Fit p ps × IsCall p call.FirstNonNull × IsBlank b × IsBlank c × IsForm p (quoted_of ps) 0 first × (all_plain first ≡ true) × IsBlank d
Valid p (Plain ps b c k F n) = Fit p ps × IsCall p call.FirstNonNull × IsBlank b × IsBlank c × IsForm p (quoted_of ps) 0 F × (all_plain F ≡ true)
Valid p (Lone ps b name c k F) = Fit p ps × IsCall p name × IsBlank b × IsBlank c × IsItemCall name × IsForm p (quoted_of ps) 1 F × (is_item F ≡ true)
Valid p (Raised ps F b k) = Fit p ps × IsForm p (quoted_of ps) 8 F × IsBlank b
Valid p (Has ps F power) = Fit p ps × IsForm p (quoted_of ps) 7 F × (power ≡ true → IsForm p (quoted_of ps) 8 F)
Valid p (Tested ps b c d test e k) =
    Fit p ps × (quoted_of ps ≡ false) × IsCall p call.Condition × IsBlank b × IsBlank c × IsBlank d × IsForm p true 1 test × IsBlank e
Valid p (Whole F) = IsWhole p F

-- what is begun around it
abbrev pub parts_of : Stage → List Part
parts_of (Wants ps) = ps
parts_of (Named ps b name k) = ps
parts_of (Quoting ps b c k) = ps
parts_of (WantsItem ps b name c k) = ps
parts_of (PlainFirst ps b c k) = ps
parts_of (PlainNext ps b c k first d n) = ps
parts_of (Plain ps b c k F n) = ps
parts_of (Lone ps b name c k F) = ps
parts_of (Raised ps F b k) = ps
parts_of (Has ps F power) = ps
parts_of (Tested ps b c d test e k) = ps
parts_of (Whole F) = []

-- whether a second `d2:condition` stands in a quoted text: then no form has all that is read
abbrev pub nests : Stage → Bool
nests (Named ps b call.Condition k) = quoted_of ps
nests (Quoting ps b c k) = quoted_of ps
nests _ = false

-- the reader stands so
pub record Like (s : Stage) (r : Reader) : Type 0 where
  pub expect : r.expect ≡ expect_of s
  pub frames : r.frames ≡ stage_frames s
  pub quoted : r.quoted ≡ stage_quoted s

-- one token further
pub record Next (p : Place) (s : Stage) (r : Reader) (b lexeme : List ℕ) : Type 0 where
  pub stage : Stage
  pub like : Like stage r
  pub valid : Valid p stage
  pub spell : (rest : List ℕ) → spelled_stage s (b ++ (lexeme ++ rest)) ≡ spelled_stage stage rest
  pub kept : nests stage ≡ true → parts_of stage ≡ parts_of s

-- an atom that is read
pub atom_level : (p : Place) (ps : List Part) (F : Form) → IsForm p (quoted_of ps) 8 F → IsForm p (quoted_of ps) 7 F
atom_level p ps F h = weaken p (quoted_of ps) 8 7 F (omega arith) h

module _ (p : Place) (ns : List Spot) (o : ℕ) (c : Option ℕ) (at : ℕ) (b : List ℕ) (blank : IsBlank b) where
  abbrev pub After : Stage → Token → List ℕ → Type 0
  After s t lexeme = Next p s (with_token (rd (expect_of s) (stage_frames s) ns o c (stage_quoted s)) at t) b lexeme

  -- a word that is written in one way
  pub as_written : (s : Stage) (w : Symbol) (lexeme : List ℕ) → IsPlainWord w → IsLexeme (token.Word w) lexeme → After s (token.Word w) (text_of w)
      → After s (token.Word w) lexeme
  as_written s w lexeme plain is h = subst (λ (l : List ℕ). After s (token.Word w) l) (sym (only w lexeme plain is)) h

  -- ---- where an operand is wanted

  open_stage : (ps : List Part) → IsOpen (expect_of (Wants ps))
  open_stage [] = tt
  open_stage (x ∷ ps) = tt

  pub wants_open : (ps : List Part) → Fit p ps → After (Wants ps) (token.Word symbol.Open) (text_of symbol.Open)
  wants_open ps fit =
      let e = open_token (expect_of (Wants ps)) at (frames_of ps) ns o c (quoted_of ps) (open_stage ps) in
      record {
        stage = Wants (InBracket b ∷ ps);
        like =
            record { expect = ap (λ (r : Reader). r.expect) e; frames = ap (λ (r : Reader). r.frames) e; quoted = ap (λ (r : Reader). r.quoted) e };
        valid =
            (blank, fit);
        spell = λ rest. refl;
        kept = λ e. absurd cc;
      }

  pub wants_minus : (ps : List Part) → Fit p ps → After (Wants ps) (token.Word symbol.Minus) (text_of symbol.Minus)
  unfolding with_token with_word with_sign text_of
  wants_minus ps fit =
      record {
        stage = Wants (InSign b unary.Negate at ∷ ps);
        like = record { expect = refl; frames = refl; quoted = refl };
        valid = (blank, tt, fit);
        spell =
            λ rest. refl;
        kept = λ e. absurd cc;
      }

  pub wants_bang : (ps : List Part) → Fit p ps → After (Wants ps) (token.Word symbol.Bang) (text_of symbol.Bang)
  unfolding with_token with_word with_sign text_of
  wants_bang ps fit =
      record {
        stage = Wants (InSign b unary.Not at ∷ ps);
        like = record { expect = refl; frames = refl; quoted = refl };
        valid = (blank, tt, fit);
        spell =
            λ rest. refl;
        kept = λ e. absurd cc;
      }

  pub wants_call : (ps : List Part) (name : Call) → Fit p ps → IsCall p name
      → After (Wants ps) (token.Word (symbol.Call name)) (text_of (symbol.Call name))
  unfolding with_token with_word with_call
  wants_call ps name fit is =
      record {
        stage = Named ps b name at;
        like = record { expect = refl; frames = refl; quoted = refl };
        valid = (fit, is, blank);
        spell =
            λ rest. refl;
        kept = λ e. refl;
      }

  pub wants_number : (ps : List Part) (n : ℕ) (lexeme : List ℕ) → Fit p ps → IsLexeme (token.Number n) lexeme → After (Wants ps) (token.Number n) lexeme
  wants_number ps n lexeme fit is =
      let e = spot_token (expect_of (Wants ps)) at n (frames_of ps) ns o c (quoted_of ps) (open_stage ps) in
      record {
        stage = Has ps (Number b is.0 is.1) true;
        like = record { expect = ap (λ (r : Reader). r.expect) e; frames = ap (λ (r : Reader). r.frames) e; quoted = ap (λ (r : Reader). r.quoted) e };
        valid = (fit, (blank, is.3), λ t. (blank, is.3));
        spell = λ rest. ap (λ (l : List ℕ). spelled_parts ps (b ++ (l ++ rest))) is.2;
        kept = λ e. absurd cc;
      }

  pub wants_item : (ps : List Part) (f : ItemForm) (lexeme : List ℕ) → Fit p ps → IsAmong (symbol.Item f) (items_of_place p) → is_count_of (node.Item f) ≡ false
      → IsWord (text_of (symbol.Item f)) lexeme → After (Wants ps) (token.Word (symbol.Item f)) lexeme
  wants_item ps f lexeme fit among plain is =
      let e = item_token (expect_of (Wants ps)) at f (frames_of ps) ns o c (quoted_of ps) (open_stage ps)
      ∙ ap (λ (x : Bool). rd (cond x expect.End (expect.Operator true)) (frames_of ps) (ns ++ spot_of at (node.Item f) ∷ []) o c (quoted_of ps)) plain in
      record {
        stage = Has ps (Item b f lexeme) true;
        like = record { expect = ap (λ (r : Reader). r.expect) e; frames = ap (λ (r : Reader). r.frames) e; quoted = ap (λ (r : Reader). r.quoted) e };
        valid = (fit, (blank, among, is), λ t. (blank, among, is));
        spell = λ rest. refl;
        kept = λ e. absurd cc;
      }

  pub wants_count : (f : ItemForm) (lexeme : List ℕ) → IsAmong (symbol.Item f) (start_of p) → is_count_of (node.Item f) ≡ true
      → IsWord (text_of (symbol.Item f)) lexeme → After (Wants []) (token.Word (symbol.Item f)) lexeme
  wants_count f lexeme among count is =
      let e = item_token expect.Start at f [] ns o c false tt
      ∙ ap (λ (x : Bool). rd (cond x expect.End (expect.Operator true)) [] (ns ++ spot_of at (node.Item f) ∷ []) o c false) count in
      record {
        stage = Whole (Item b f lexeme);
        like = record { expect = ap (λ (r : Reader). r.expect) e; frames = ap (λ (r : Reader). r.frames) e; quoted = ap (λ (r : Reader). r.quoted) e };
        valid = (blank, among, is);
        spell = λ rest. refl;
        kept = λ e. absurd cc;
      }

  -- ---- after a name, a quote, a caret

  pub named_open : (ps : List Part) (d : List ℕ) (name : Call) (k : ℕ) → Valid p (Named ps d name k)
      → After (Named ps d name k) (token.Word symbol.Open) (text_of symbol.Open)
  unfolding with_token with_word with_open
  named_open ps d call.If k v =
      record {
        stage = Wants (InIf d b k ∷ ps);
        like = record { expect = refl; frames = refl; quoted = refl };
        valid = (v.1, v.2, blank, v.0);
        spell =
            λ rest. refl;
        kept = λ e. absurd cc;
      }
  named_open ps d call.Condition k v =
      record {
        stage = Quoting ps d b k;
        like = record { expect = refl; frames = refl; quoted = refl };
        valid = (v.0, v.1, v.2, blank);
        spell =
            λ rest. refl;
        kept = λ e. refl;
      }
  named_open ps d call.DaysBetween k v =
      record {
        stage = Wants (InFirst d b k ∷ ps);
        like = record { expect = refl; frames = refl; quoted = refl };
        valid = (v.1, v.2, blank, v.0);
        spell =
            λ rest. refl;
        kept = λ e. absurd cc;
      }
  named_open ps d call.IsNull k v =
      record {
        stage = WantsItem ps d call.IsNull b k;
        like = record { expect = refl; frames = refl; quoted = refl };
        valid =
            (v.0, v.1, v.2, blank, tt);
        spell = λ rest. refl;
        kept = λ e. absurd cc;
      }
  named_open ps d call.IsNotNull k v =
      record {
        stage = WantsItem ps d call.IsNotNull b k;
        like = record { expect = refl; frames = refl; quoted = refl };
        valid =
            (v.0, v.1, v.2, blank, tt);
        spell = λ rest. refl;
        kept = λ e. absurd cc;
      }
  named_open ps d call.HasValue k v =
      record {
        stage = WantsItem ps d call.HasValue b k;
        like = record { expect = refl; frames = refl; quoted = refl };
        valid =
            (v.0, v.1, v.2, blank, tt);
        spell = λ rest. refl;
        kept = λ e. absurd cc;
      }
  named_open ps d call.FirstNonNull k v =
      record {
        stage = PlainFirst ps d b k;
        like = record { expect = refl; frames = refl; quoted = refl };
        valid = (v.0, v.1, v.2, blank);
        spell =
            λ rest. refl;
        kept = λ e. absurd cc;
      }
  named_open ps d call.Greatest k v =
      record {
        stage = Wants (InOne d call.Greatest b k ∷ ps);
        like = record { expect = refl; frames = refl; quoted = refl };
        valid =
            (v.1, tt, v.2, blank, v.0);
        spell = λ rest. refl;
        kept = λ e. absurd cc;
      }
  named_open ps d call.Least k v =
      record {
        stage = Wants (InOne d call.Least b k ∷ ps);
        like = record { expect = refl; frames = refl; quoted = refl };
        valid =
            (v.1, tt, v.2, blank, v.0);
        spell = λ rest. refl;
        kept = λ e. absurd cc;
      }
  named_open ps d call.Zing k v =
      record {
        stage = Wants (InOne d call.Zing b k ∷ ps);
        like = record { expect = refl; frames = refl; quoted = refl };
        valid =
            (v.1, tt, v.2, blank, v.0);
        spell = λ rest. refl;
        kept = λ e. absurd cc;
      }
  named_open ps d call.Oizp k v =
      record {
        stage = Wants (InOne d call.Oizp b k ∷ ps);
        like = record { expect = refl; frames = refl; quoted = refl };
        valid =
            (v.1, tt, v.2, blank, v.0);
        spell = λ rest. refl;
        kept = λ e. absurd cc;
      }

  pub quoting_quote : (ps : List Part) (d e : List ℕ) (k : ℕ) → Valid p (Quoting ps d e k) → quoted_of ps ≡ false
      → After (Quoting ps d e k) (token.Word symbol.Quote) (text_of symbol.Quote)
  unfolding with_token with_word with_quote
  quoting_quote ps d e k v outer =
      record {
        stage = Wants (InQuote d e b k ∷ ps);
        like = record { expect = refl; frames = refl; quoted = refl };
        valid =
            (v.1, outer, v.2, v.3, blank, v.0);
        spell = λ rest. refl;
        kept = λ e. absurd cc;
      }

  pub raised_number : (ps : List Part) (F : Form) (d : List ℕ) (k n : ℕ) (lexeme : List ℕ) → Valid p (Raised ps F d k) → IsLexeme (token.Exponent n) lexeme
      → After (Raised ps F d k) (token.Exponent n) lexeme
  unfolding with_token with_exponent
  raised_number ps F d k n lexeme v is =
      record {
        stage = Has ps (Power F d b lexeme) false;
        like = record { expect = refl; frames = refl; quoted = refl };
        valid =
            (v.0, (omega arith, v.1, v.2, blank, is.0), λ t. absurd cc);
        spell = λ rest. refl;
        kept = λ e. absurd cc;
      }

  pub tested_comma : (ps : List Part) (d e f : List ℕ) (test : Form) (g : List ℕ) (k : ℕ) → Valid p (Tested ps d e f test g k)
      → After (Tested ps d e f test g k) (token.Word symbol.Comma) (text_of symbol.Comma)
  unfolding with_token with_word with_comma
  tested_comma ps d e f test g k v =
      record {
        stage = Wants (InYes d e f test g b k ∷ ps);
        like = record { expect = refl; frames = refl; quoted = refl };
        valid =
            (v.2, v.1, v.3, v.4, v.5, v.6, v.7, blank, v.0);
        spell = λ rest. refl;
        kept = λ e. absurd cc;
      }

  -- ---- items and numbers alone

  pub lone_item : (ps : List Part) (d : List ℕ) (name : Call) (e : List ℕ) (k : ℕ) (f : ItemForm) (lexeme : List ℕ) → Valid p (WantsItem ps d name e k)
      → IsAmong (symbol.Item f) (items_of_place p) → IsWord (text_of (symbol.Item f)) lexeme
      → After (WantsItem ps d name e k) (token.Word (symbol.Item f)) lexeme
  unfolding with_token with_word with_leaf
  lone_item ps d name e k f lexeme v among is =
      record {
        stage = Lone ps d name e k (Item b f lexeme);
        like = record { expect = refl; frames = refl; quoted = refl };
        valid =
            (v.0, v.1, v.2, v.3, v.4, (blank, among, is), refl);
        spell = λ rest. refl;
        kept = λ e. absurd cc;
      }

  item_takes : (name : Call) (F : Form) → IsItemCall name → is_item F ≡ true → (arguments_level name ≡ 1) × Takes name F
  item_takes call.IsNull F h g = (refl, g)
  item_takes call.IsNotNull F h g = (refl, g)
  item_takes call.HasValue F h g = (refl, g)
  item_takes name F h g = absurd h

  applied_form : (ps : List Part) (d : List ℕ) (name : Call) (e : List ℕ) (F : Form) → IsCall p name → IsBlank d → IsBlank e
      → IsForm p (quoted_of ps) (arguments_level name) F → Takes name F → (L : ℕ) → IsForm p (quoted_of ps) L (Apply d name e F b)
  applied_form ps d name e F is blank' blank'' form takes L = (is, blank', blank'', form, takes, blank)

  pub lone_close : (ps : List Part) (d : List ℕ) (name : Call) (e : List ℕ) (k : ℕ) (F : Form) → Valid p (Lone ps d name e k F)
      → After (Lone ps d name e k F) (token.Word symbol.Close) (text_of symbol.Close)
  unfolding with_token with_word with_close
  lone_close ps d name e k F v =
      let t = item_takes name F v.4 v.6 in
      let form = applied_form ps d name e F v.1 v.2 v.3 (subst (λ (n : ℕ). IsForm p (quoted_of ps) n F) (sym t.0) v.5) t.1 in
      record {
        stage = Has ps (Apply d name e F b) true;
        like = record { expect = refl; frames = refl; quoted = refl };
        valid =
            (v.0, form 7, λ x. form 8);
        spell = λ rest. refl;
        kept = λ e. absurd cc;
      }

  pub plain_close : (ps : List Part) (d e : List ℕ) (k : ℕ) (F : Form) (n : ℕ) → Valid p (Plain ps d e k F n)
      → After (Plain ps d e k F n) (token.Word symbol.Close) (text_of symbol.Close)
  unfolding with_token with_word with_close
  plain_close ps d e k F n v =
      let form = applied_form ps d call.FirstNonNull e F v.1 v.2 v.3 v.4 v.5 in
      record {
        stage = Has ps (Apply d call.FirstNonNull e F b) true;
        like = record { expect = refl; frames = refl; quoted = refl };
        valid =
            (v.0, form 7, λ x. form 8);
        spell = λ rest. refl;
        kept = λ e. absurd cc;
      }

  pub plain_comma : (ps : List Part) (d e : List ℕ) (k : ℕ) (F : Form) (n : ℕ) → Valid p (Plain ps d e k F n)
      → After (Plain ps d e k F n) (token.Word symbol.Comma) (text_of symbol.Comma)
  unfolding with_token with_word with_comma
  plain_comma ps d e k F n v =
      record {
        stage = PlainNext ps d e k F b (counted_of (call_frame k call.FirstNonNull n)).count;
        like =
            record { expect = refl; frames = refl; quoted = refl };
        valid = (v.0, v.1, v.2, v.3, v.4, v.5, blank);
        spell = λ rest. refl;
        kept = λ e. absurd cc;
      }

  pub first_number : (ps : List Part) (d e : List ℕ) (k n : ℕ) (lexeme : List ℕ) → Valid p (PlainFirst ps d e k) → IsLexeme (token.Number n) lexeme
      → After (PlainFirst ps d e k) (token.Number n) lexeme
  unfolding with_token with_leaf
  first_number ps d e k n lexeme v is =
      record {
        stage = Plain ps d e k (Number b is.0 is.1) 0;
        like = record { expect = refl; frames = refl; quoted = refl };
        valid =
            (v.0, v.1, v.2, v.3, (blank, is.3), refl);
        spell = λ rest. ap (λ (l : List ℕ). spelled_stage (PlainFirst ps d e k) (b ++ (l ++ rest))) is.2;
        kept = λ e. absurd cc;
      }

  pub first_item : (ps : List Part) (d e : List ℕ) (k : ℕ) (f : ItemForm) (lexeme : List ℕ) → Valid p (PlainFirst ps d e k)
      → IsAmong (symbol.Item f) (items_of_place p) → IsWord (text_of (symbol.Item f)) lexeme → After (PlainFirst ps d e k) (token.Word (symbol.Item f)) lexeme
  unfolding with_token with_word with_leaf
  first_item ps d e k f lexeme v among is =
      record {
        stage = Plain ps d e k (Item b f lexeme) 0;
        like = record { expect = refl; frames = refl; quoted = refl };
        valid =
            (v.0, v.1, v.2, v.3, (blank, among, is), refl);
        spell = λ rest. refl;
        kept = λ e. absurd cc;
      }

  plain_more : (first : Form) → all_plain first ≡ true → all_plain first && true ≡ true
  plain_more first e = rw e refl

  pub next_number : (ps : List Part) (d e : List ℕ) (k : ℕ) (first : Form) (f : List ℕ) (m n : ℕ) (lexeme : List ℕ) → Valid p (PlainNext ps d e k first f m)
      → IsLexeme (token.Number n) lexeme → After (PlainNext ps d e k first f m) (token.Number n) lexeme
  unfolding with_token with_leaf
  next_number ps d e k first f m n lexeme v is =
      record {
        stage = Plain ps d e k (Arguments first f (Number b is.0 is.1)) m;
        like = record { expect = refl; frames = refl; quoted = refl };
        valid =
            (v.0, v.1, v.2, v.3, (refl, v.4, v.6, (blank, is.3)), plain_more first v.5);
        spell =
            λ rest. ap (λ (l : List ℕ). spelled_stage (PlainNext ps d e k first f m) (b ++ (l ++ rest))) is.2;
        kept = λ e. absurd cc;
      }

  pub next_item : (ps : List Part) (d e : List ℕ) (k : ℕ) (first : Form) (f : List ℕ) (m : ℕ) (i : ItemForm) (lexeme : List ℕ)
      → Valid p (PlainNext ps d e k first f m) → IsAmong (symbol.Item i) (items_of_place p) → IsWord (text_of (symbol.Item i)) lexeme
      → After (PlainNext ps d e k first f m) (token.Word (symbol.Item i)) lexeme
  unfolding with_token with_word with_leaf
  next_item ps d e k first f m i lexeme v among is =
      record {
        stage = Plain ps d e k (Arguments first f (Item b i lexeme)) m;
        like = record { expect = refl; frames = refl; quoted = refl };
        valid =
            (v.0, v.1, v.2, v.3, (refl, v.4, v.6, (blank, among, is)), plain_more first v.5);
        spell = λ rest. refl;
        kept = λ e. absurd cc;
      }
