-- What may follow an operand goes on with a form of the grammar.
use Rattle.std.proofs.Common.{◌≡◌, ℕ, ◌≤◌, Bool, true, false, List, [], ◌∷◌, Option, refl, sym, ap, subst, ◌⊎◌, ◌∙◌, inl, inr, arith}
use Rattle.std.specs.Prelude.{◌||◌, not}
use Rattle.expr_lang.specs.declared.tree.Place.{Place}
use Rattle.expr_lang.specs.declared.tree.Binary.{Binary}
use Rattle.expr_lang.specs.declared.tree.Binary.TheVariants as binary
use Rattle.expr_lang.specs.declared.words.Symbol.TheVariants as symbol
use Rattle.expr_lang.specs.declared.words.Call.{Call}
use Rattle.expr_lang.specs.declared.words.Call.TheVariants as call
use Rattle.expr_lang.specs.declared.reading.Spot.{Spot}
use Rattle.expr_lang.specs.declared.reading.Node.TheVariants as node
use Rattle.expr_lang.specs.declared.reading.Frame.{Frame}
use Rattle.expr_lang.specs.declared.reading.Frame.TheVariants as frame
use Rattle.expr_lang.specs.declared.reading.Expect.TheVariants as expect
use Rattle.expr_lang.specs.declared.reading.Reader.{Reader}
use Rattle.expr_lang.specs.Print.{left_level_of}
use Rattle.expr_lang.specs.Reading.{level_of, enclosing_of, compares, frames_reduced, nodes_reduced, spot_of, call_frame, counted_of, later_argument}
use Rattle.expr_lang.specs.Words.{text_of}
use Rattle.expr_grammar.specs.Grammar.{Form, Bracket, Arguments, If, Condition, DaysBetween, Apply, IsBlank, IsForm, Takes, arguments_level, symbol_text}
use Rattle.expr_grammar.specs.Grammar.{spelled}
use Rattle.expr_grammar.proofs.Completed.{levels}
use Rattle.expr_lang.specs.declared.reading.Token.TheVariants as token
use Rattle.expr_lang.specs.Reading.{allowed_in, allowed_after, with_token, with_word, with_operator, with_comma, with_close, with_quote, comma_in}
use Rattle.expr_lang.specs.Stack.{rest_of}
use Rattle.expr_lang.specs.Token.{is_allowed_of}
use Rattle.expr_grammar.proofs.Moves.{rd, comparison_in}
use Rattle.expr_lang.specs.Token.{is_comparison_of}
use Rattle.expr_grammar.proofs.Parts.{Part, InChain, InSign, InBracket, InQuote, InIf, InThen, InElse, InYes, InNo, InFirst, InSecond, InOne, InMore}
use Rattle.expr_grammar.proofs.Parts.{spelled_parts, frames_of, quoted_of, hole, IsUsual, IsMany, Fit, weaken, Above, Below, Reduced, reduced, above_same}
use Rattle.expr_grammar.proofs.Parts.{above_compared, enclosing_same, below_hole, hole_small}
use Rattle.expr_grammar.proofs.Stages.{Stage, Wants, Raised, Has, Tested, spelled_stage, expect_of, stage_frames, stage_quoted, nests, Valid, After}

not_true : (b : Bool) → not b ≡ true → b ≡ false
not_true true e = absurd cc
not_true false e = refl

-- a comparison, or any other operator
chain_levels : (op : Binary) → 1 ≤ level_of op
    → ((left_level_of op ≡ level_of op) × (is_comparison_of op ≡ false)) ⊎ ((level_of op ≡ 3) × (left_level_of op ≡ 4) × (is_comparison_of op ≡ true))
chain_levels binary.Or h = inl (refl, refl)
chain_levels binary.And h = inl (refl, refl)
chain_levels binary.Equal h = inr (refl, refl, refl)
chain_levels binary.NotEqual h = inr (refl, refl, refl)
chain_levels binary.Less h = inr (refl, refl, refl)
chain_levels binary.AtMost h = inr (refl, refl, refl)
chain_levels binary.Greater h = inr (refl, refl, refl)
chain_levels binary.AtLeast h = inr (refl, refl, refl)
chain_levels binary.Add h = inl (refl, refl)
chain_levels binary.Subtract h = inl (refl, refl)
chain_levels binary.Multiply h = inl (refl, refl)
chain_levels binary.Divide h = inl (refl, refl)
chain_levels binary.Remainder h = inl (refl, refl)
chain_levels binary.DaysBetween h = absurd (omega arith)
chain_levels binary.Comma h = absurd (omega arith)

module _ (p : Place) (ns : List Spot) (o : ℕ) (c : Option ℕ) (at : ℕ) (b : List ℕ) (blank : IsBlank b) where
  pub has_caret : (ps : List Part) (F : Form) → Valid p (Has ps F true)
      → After p ns o c at b blank (Has ps F true) (token.Word symbol.Caret) (text_of symbol.Caret)
  unfolding with_token with_word
  has_caret ps F v =
      record {
        stage = Raised ps F b at;
        like = record { expect = refl; frames = refl; quoted = refl };
        valid = (v.0, v.2 refl, blank);
        spell = λ rest. refl;
        kept = λ e. absurd cc;
      }

  above : (ps : List Part) (power : Bool) (op : Binary) → 1 ≤ level_of op
      → (allowed_in (enclosing_of (frames_of ps)) power (not (compares (frames_of ps)))).comparison || not (is_comparison_of op) ≡ true
      → Above (level_of op) (left_level_of op) ps
  above ps power op some allowed =
      elim (chain_levels op some) [
        | inl h ↦ subst (λ (m : ℕ). Above (level_of op) m ps) (sym h.0) (above_same (level_of op) ps)
        | inr h ↦
            let free : not (compares (frames_of ps)) ≡ true =
            right_of (not (compares (frames_of ps)))
            (ap (λ (x : Bool). x || not (is_comparison_of op)) (sym (comparison_in (enclosing_of (frames_of ps)) power (not (compares (frames_of ps)))))
            ∙ allowed) (ap not h.2) in
            subst (λ (m : ℕ). Above (level_of op) m ps) (sym h.1)
            (subst (λ (m : ℕ). Above m 4 ps) (sym h.0) (above_compared ps (not_true (compares (frames_of ps)) free)))
      ]
    where
      right_of : (a : Bool) → a || not (is_comparison_of op) ≡ true → not (is_comparison_of op) ≡ false → a ≡ true
      right_of true e f = refl
      right_of false e f = absurd cc

  pub has_operator : (ps : List Part) (F : Form) (power : Bool) (op : Binary) → Valid p (Has ps F power) → 1 ≤ level_of op
      → is_allowed_of (allowed_after (frames_of ps) power) (symbol.Operator op) ≡ true
      → After p ns o c at b blank (Has ps F power) (token.Word (symbol.Operator op)) (text_of (symbol.Operator op))
  unfolding with_token with_word with_operator allowed_after
  has_operator ps F power op v some allowed =
      let l = levels op some in
      let small : left_level_of op ≤ 6 = left_small op in
      let holes = hole_small p ps v.0 in
      let r =
      reduced p (level_of op) (left_level_of op) ps F some (omega (arith, l.most)) small v.0 (above ps power op some allowed)
      (weaken p (quoted_of ps) 7 (left_level_of op) F (omega arith) v.1) (weaken p (quoted_of ps) 7 (hole ps) F (omega arith) v.1) in
      record {
        stage = Wants (InChain r.form b op at ∷ r.parts);
        like = record { expect = refl; frames = ap (λ (l : List Frame). frame.Pending (spot_of at (node.Binary op)) ∷ l) r.frames; quoted = sym r.quoted };
        valid = (some, below_hole p (level_of op) r.parts some r.fit r.low, r.is, blank, r.fit);
        spell = λ rest. r.spell (symbol_text b (symbol.Operator op) rest);
        kept = λ e. absurd cc;
      }
    where
      left_small : (op : Binary) → left_level_of op ≤ 6
      left_small binary.Or = omega arith
      left_small binary.And = omega arith
      left_small binary.Equal = omega arith
      left_small binary.NotEqual = omega arith
      left_small binary.Less = omega arith
      left_small binary.AtMost = omega arith
      left_small binary.Greater = omega arith
      left_small binary.AtLeast = omega arith
      left_small binary.Add = omega arith
      left_small binary.Subtract = omega arith
      left_small binary.Multiply = omega arith
      left_small binary.Divide = omega arith
      left_small binary.Remainder = omega arith
      left_small binary.DaysBetween = omega arith
      left_small binary.Comma = omega arith

  -- the bracket that closes what is begun last
  record Closes (parts : List Part) (G : Form) : Type 0 where
    to : List Part
    form : Form
    spell : (rest : List ℕ) → spelled_parts parts (spelled G (symbol_text b symbol.Close rest)) ≡ spelled_parts to (spelled form rest)
    fit : Fit p to
    is : (L : ℕ) → IsForm p (quoted_of to) L form
    frames : rest_of (frames_of parts) ≡ frames_of to
    quoted : quoted_of to ≡ quoted_of parts

  usual_takes : (name : Call) (F : Form) → IsUsual name → (arguments_level name ≤ 1) × Takes name F
  usual_takes call.Greatest F h = (omega arith, tt)
  usual_takes call.Least F h = (omega arith, tt)
  usual_takes call.Zing F h = (omega arith, tt)
  usual_takes call.Oizp F h = (omega arith, tt)
  usual_takes name F h = absurd h

  many_takes : (name : Call) (F : Form) → IsMany name → (arguments_level name ≡ 0) × Takes name F
  many_takes call.Greatest F h = (refl, tt)
  many_takes call.Least F h = (refl, tt)
  many_takes name F h = absurd h

  closes : (parts : List Part) (G : Form) (power x : Bool) → Fit p parts → IsForm p (quoted_of parts) 1 G → Below 1 parts
      → (allowed_in (enclosing_of (frames_of parts)) power x).close ≡ true → Closes parts G
  closes [] G power x fit is low e = absurd cc
  closes (InChain left d op k ∷ ps) G power x fit is low e = absurd (omega (arith, fit.0, low))
  closes (InSign d sign k ∷ ps) G power x fit is low e = absurd low
  closes (InBracket d ∷ ps) G power x fit is low e =
      record { to = ps; form = Bracket d G b; spell = λ rest. refl; fit = fit.1; is = λ L. (fit.0, is, blank); frames = refl; quoted = refl }
  closes (InQuote d f g k ∷ ps) G power x fit is low e = absurd cc
  closes (InIf d f k ∷ ps) G power x fit is low e = absurd cc
  closes (InThen d f test g k ∷ ps) G power x fit is low e = absurd cc
  closes (InElse d f test g one h k ∷ ps) G power x fit is low e =
      record {
        to = ps;
        form = If d f test g one h G b;
        spell = λ rest. refl;
        fit = fit.7;
        is =
            λ L. (fit.0, fit.1, fit.2, fit.3, fit.4, fit.5, fit.6, is, blank);
        frames = refl;
        quoted = refl;
      }
  closes (InYes d f g test h i k ∷ ps) G power x fit is low e = absurd cc
  closes (InNo d f g test h i one j k ∷ ps) G power x fit is low e =
      record {
        to = ps;
        form = Condition d f g test h i one j G b;
        spell = λ rest. refl;
        fit = fit.10;
        is =
            λ L. (fit.0, fit.1, fit.2, fit.3, fit.4, fit.5, fit.6, fit.7, fit.8, fit.9, is, blank);
        frames = refl;
        quoted = refl;
      }
  closes (InFirst d f k ∷ ps) G power x fit is low e = absurd cc
  closes (InSecond d f one g k ∷ ps) G power x fit is low e =
      record {
        to = ps;
        form = DaysBetween d f one g G b;
        spell = λ rest. refl;
        fit = fit.5;
        is = λ L. (fit.0, fit.1, fit.2, fit.3, fit.4, is, blank);
        frames =
            refl;
        quoted = refl;
      }
  closes (InOne d name f k ∷ ps) G power x fit is low e =
      let t = usual_takes name G fit.1 in
      record {
        to = ps;
        form = Apply d name f G b;
        spell = λ rest. refl;
        fit = fit.4;
        is =
            λ L. (fit.0, fit.2, fit.3, weaken p (quoted_of ps) 1 (arguments_level name) G t.0 is, t.1, blank);
        frames = refl;
        quoted = refl;
      }
  closes (InMore d name f first g k n ∷ ps) G power x fit is low e =
      let F = Arguments first g G in
      let t = many_takes name F fit.1 in
      record {
        to = ps;
        form = Apply d name f F b;
        spell = λ rest. refl;
        fit = fit.6;
        is =
            λ L. (fit.0, fit.2, fit.3, subst (λ (n : ℕ). IsForm p (quoted_of ps) n F) (sym t.0) (refl, fit.4, fit.5, is), t.1, blank);
        frames = refl;
        quoted =
            refl;
      }

  module _ (ps : List Part) (F : Form) (power : Bool) (v : Valid p (Has ps F power)) where
    -- with all operators at their end
    ended : Reduced p 1 1 ps F
    ended =
        reduced p 1 1 ps F (omega arith) (omega arith) (omega arith) v.0 (above_same 1 ps) (weaken p (quoted_of ps) 7 1 F (omega arith) v.1)
        (weaken p (quoted_of ps) 7 (hole ps) F (omega (arith, hole_small p ps v.0)) v.1)

    outer : (r : Reduced p 1 1 ps F) → enclosing_of (frames_of ps) ≡ enclosing_of (frames_of r.parts)
    outer r = sym (enclosing_same 1 (frames_of ps)) ∙ ap enclosing_of r.frames

    pub has_close : is_allowed_of (allowed_after (frames_of ps) power) symbol.Close ≡ true
        → After p ns o c at b blank (Has ps F power) (token.Word symbol.Close) (text_of symbol.Close)
    unfolding with_token with_word with_close allowed_after
    has_close allowed = go ended
      where
        go : Reduced p 1 1 ps F → After p ns o c at b blank (Has ps F power) (token.Word symbol.Close) (text_of symbol.Close)
        go r =
            let x =
            closes r.parts r.form power (not (compares (frames_of ps))) r.fit r.is r.low
            (ap (λ (f : Option Frame). (allowed_in f power (not (compares (frames_of ps)))).close) (sym (outer r)) ∙ allowed) in
            record {
              stage = Has x.to x.form true;
              like = record { expect = refl; frames = ap rest_of r.frames ∙ x.frames; quoted = sym (x.quoted ∙ r.quoted) };
              valid = (x.fit, x.is 7, λ t. x.is 8);
              spell = λ rest. r.spell (symbol_text b symbol.Close rest) ∙ x.spell rest;
              kept = λ e. absurd cc;
            }

  -- the quote that ends a quoted text
  record Unquotes (parts : List Part) (G : Form) : Type 0 where
    stage : Stage
    expect : expect_of stage ≡ expect.Comma
    frames : rest_of (frames_of parts) ≡ stage_frames stage
    quoted : false ≡ stage_quoted stage
    valid : Valid p stage
    spell : (rest : List ℕ) → spelled_parts parts (spelled G (symbol_text b symbol.Quote rest)) ≡ spelled_stage stage rest
    plain : ¬ (nests stage ≡ true)

  unquotes : (parts : List Part) (G : Form) (power x : Bool) → Fit p parts → IsForm p (quoted_of parts) 1 G → Below 1 parts
      → (allowed_in (enclosing_of (frames_of parts)) power x).quote ≡ true → Unquotes parts G
  unquotes [] G power x fit is low e = absurd cc
  unquotes (InChain left d op k ∷ ps) G power x fit is low e = absurd (omega (arith, fit.0, low))
  unquotes (InSign d sign k ∷ ps) G power x fit is low e = absurd low
  unquotes (InQuote d f g k ∷ ps) G power x fit is low e =
      record {
        stage = Tested ps d f g G b k;
        expect = refl;
        frames = refl;
        quoted = sym fit.1;
        valid =
            (fit.5, fit.1, fit.0, fit.2, fit.3, fit.4, is, blank);
        spell = λ rest. refl;
        plain = λ e. absurd cc;
      }
  unquotes (y ∷ ps) G power x fit is low e = absurd cc

  comma_quoted : (fs : List Frame) (nodes : List Spot) (r : Reader) → (comma_in fs nodes r).quoted ≡ r.quoted
  comma_quoted [] nodes r = refl
  comma_quoted (frame.Pending s ∷ fs) nodes r = refl
  comma_quoted (frame.Bracket ∷ fs) nodes r = refl
  comma_quoted (frame.Quote ∷ fs) nodes r = refl
  comma_quoted (frame.Call cf ∷ fs) nodes r = refl

  -- the comma after an argument
  record Goes_on (parts : List Part) (G : Form) (nodes : List Spot) (r : Reader) : Type 0 where
    to : List Part
    spell : (rest : List ℕ) → spelled_parts parts (spelled G (symbol_text b symbol.Comma rest)) ≡ spelled_parts to rest
    fit : Fit p to
    expect : (comma_in (frames_of parts) nodes r).expect ≡ expect_of (Wants to)
    frames : (comma_in (frames_of parts) nodes r).frames ≡ frames_of to
    quoted : quoted_of to ≡ quoted_of parts

  goes_on : (parts : List Part) (G : Form) (nodes : List Spot) (r : Reader) (power x : Bool) → Fit p parts → IsForm p (quoted_of parts) 1 G → Below 1 parts
      → (allowed_in (enclosing_of (frames_of parts)) power x).comma ≡ true → Goes_on parts G nodes r
  goes_on [] G nodes r power x fit is low e = absurd cc
  goes_on (InChain left d op k ∷ ps) G nodes r power x fit is low e = absurd (omega (arith, fit.0, low))
  goes_on (InSign d sign k ∷ ps) G nodes r power x fit is low e = absurd low
  goes_on (InBracket d ∷ ps) G nodes r power x fit is low e = absurd cc
  goes_on (InQuote d f g k ∷ ps) G nodes r power x fit is low e = absurd cc
  goes_on (InIf d f k ∷ ps) G nodes r power x fit is low e =
      record { to = InThen d f G b k ∷ ps; spell = λ rest. refl; fit = (fit.0, fit.1, fit.2, is, blank, fit.3); expect = refl; frames = refl; quoted = refl }
  goes_on (InThen d f test g k ∷ ps) G nodes r power x fit is low e =
      record {
        to = InElse d f test g G b k ∷ ps;
        spell = λ rest. refl;
        fit = (fit.0, fit.1, fit.2, fit.3, fit.4, is, blank, fit.5);
        expect = refl;
        frames =
            refl;
        quoted = refl;
      }
  goes_on (InElse d f test g one h k ∷ ps) G nodes r power x fit is low e = absurd cc
  goes_on (InYes d f g test h i k ∷ ps) G nodes r power x fit is low e =
      record {
        to = InNo d f g test h i G b k ∷ ps;
        spell = λ rest. refl;
        fit =
            (fit.0, fit.1, fit.2, fit.3, fit.4, fit.5, fit.6, fit.7, is, blank, fit.8);
        expect = refl;
        frames = refl;
        quoted = refl;
      }
  goes_on (InNo d f g test h i one j k ∷ ps) G nodes r power x fit is low e = absurd cc
  goes_on (InFirst d f k ∷ ps) G nodes r power x fit is low e =
      record { to = InSecond d f G b k ∷ ps; spell = λ rest. refl; fit = (fit.0, fit.1, fit.2, is, blank, fit.3); expect = refl; frames = refl; quoted = refl }
  goes_on (InSecond d f one g k ∷ ps) G nodes r power x fit is low e = absurd cc
  goes_on (InOne d call.Greatest f k ∷ ps) G nodes r power x fit is low e =
      record {
        to = InMore d call.Greatest f G b k 1 ∷ ps;
        spell = λ rest. refl;
        fit =
            (fit.0, tt, fit.2, fit.3, weaken p (quoted_of ps) 1 0 G (omega arith) is, blank, fit.4);
        expect = refl;
        frames = refl;
        quoted = refl;
      }
  goes_on (InOne d call.Least f k ∷ ps) G nodes r power x fit is low e =
      record {
        to = InMore d call.Least f G b k 1 ∷ ps;
        spell = λ rest. refl;
        fit =
            (fit.0, tt, fit.2, fit.3, weaken p (quoted_of ps) 1 0 G (omega arith) is, blank, fit.4);
        expect = refl;
        frames = refl;
        quoted = refl;
      }
  goes_on (InOne d call.Zing f k ∷ ps) G nodes r power x fit is low e = absurd cc
  goes_on (InOne d call.Oizp f k ∷ ps) G nodes r power x fit is low e = absurd cc
  goes_on (InOne d name f k ∷ ps) G nodes r power x fit is low e = absurd fit.1
  goes_on (InMore d name f first g k n ∷ ps) G nodes r power x fit is low e =
      record {
        to = InMore d name f (Arguments first g G) b k (counted_of (call_frame k name n)).count ∷ ps;
        spell = λ rest. refl;
        fit = (fit.0, fit.1, fit.2, fit.3, (refl, fit.4, fit.5, is), blank, fit.6);
        expect = later name fit.1;
        frames = refl;
        quoted = refl;
      }
    where
      later : (name : Call) → IsMany name → later_argument name ≡ expect.Operand
      later call.Greatest h = refl
      later call.Least h = refl
      later name h = absurd h

  module _ (ps : List Part) (F : Form) (power : Bool) (v : Valid p (Has ps F power)) where
    pub has_comma : is_allowed_of (allowed_after (frames_of ps) power) symbol.Comma ≡ true
        → After p ns o c at b blank (Has ps F power) (token.Word symbol.Comma) (text_of symbol.Comma)
    unfolding with_token with_word with_comma allowed_after
    has_comma allowed = go (ended ps F power v)
      where
        go : Reduced p 1 1 ps F → After p ns o c at b blank (Has ps F power) (token.Word symbol.Comma) (text_of symbol.Comma)
        go r =
            let reader = rd (expect.Operator power) (frames_of ps) ns o c (quoted_of ps) in
            let nodes = nodes_reduced 1 (frames_of ps) ns in
            let x =
            goes_on r.parts r.form nodes reader power (not (compares (frames_of ps))) r.fit r.is r.low
            (ap (λ (f : Option Frame). (allowed_in f power (not (compares (frames_of ps)))).comma) (sym (outer ps F power v r)) ∙ allowed) in
            record {
              stage = Wants x.to;
              like = record {
                expect = ap (λ (l : List Frame). (comma_in l nodes reader).expect) r.frames ∙ x.expect;
                frames = ap (λ (l : List Frame). (comma_in l nodes reader).frames) r.frames ∙ x.frames;
                quoted = comma_quoted (frames_reduced 1 (frames_of ps)) nodes reader ∙ sym (x.quoted ∙ r.quoted);
              };
              valid = x.fit;
              spell = λ rest. r.spell (symbol_text b symbol.Comma rest) ∙ x.spell rest;
              kept = λ e. absurd cc;
            }

    pub has_quote : is_allowed_of (allowed_after (frames_of ps) power) symbol.Quote ≡ true
        → After p ns o c at b blank (Has ps F power) (token.Word symbol.Quote) (text_of symbol.Quote)
    unfolding with_token with_word with_quote allowed_after
    has_quote allowed = go (ended ps F power v)
      where
        go : Reduced p 1 1 ps F → After p ns o c at b blank (Has ps F power) (token.Word symbol.Quote) (text_of symbol.Quote)
        go r =
            let x =
            unquotes r.parts r.form power (not (compares (frames_of ps))) r.fit r.is r.low
            (ap (λ (f : Option Frame). (allowed_in f power (not (compares (frames_of ps)))).quote) (sym (outer ps F power v r)) ∙ allowed) in
            record {
              stage = x.stage;
              like = record { expect = sym x.expect; frames = ap rest_of r.frames ∙ x.frames; quoted = x.quoted };
              valid = x.valid;
              spell = λ rest. r.spell (symbol_text b symbol.Quote rest) ∙ x.spell rest;
              kept = λ e. absurd (x.plain e);
            }
