-- Each call of the grammar is read, and with that each form.
use Rattle.std.proofs.Common.{◌≡◌, ℕ, ◌+◌, ◌-◌, ◌<◌, ◌≤◌, Bool, true, false, cond, List, [], ◌∷◌, ◌++◌, length, Option, Some, refl, ap, subst, ◌∙◌}
use Rattle.std.proofs.Common.{append_assoc, arith, ◌⊎◌, inl, inr}
use Rattle.std.specs.Prelude.{◌&&◌, nat_lt}
use Rattle.std.proofs.lemmas.Bool.Decides.{nat_tests}
use Rattle.expr_lang.specs.declared.tree.Place.{Place}
use Rattle.expr_lang.specs.declared.tree.Binary.TheVariants as binary
use Rattle.expr_lang.specs.declared.words.Symbol.TheVariants as symbol
use Rattle.expr_lang.specs.declared.words.Call.{Call}
use Rattle.expr_lang.specs.declared.words.Call.TheVariants as call
use Rattle.expr_lang.specs.declared.reading.Spot.{Spot}
use Rattle.expr_lang.specs.declared.reading.Node.TheVariants as node
use Rattle.expr_lang.specs.declared.reading.Frame.{Frame}
use Rattle.expr_lang.specs.declared.reading.Frame.TheVariants as frame
use Rattle.expr_lang.specs.declared.reading.CallFrame.{CallFrame}
use Rattle.expr_lang.specs.declared.reading.Expect.{Expect}
use Rattle.expr_lang.specs.declared.reading.Expect.TheVariants as expect
use Rattle.expr_lang.specs.declared.reading.Reader.{Reader}
use Rattle.expr_lang.specs.Reading.{enclosing_of, least_arguments, most_arguments, frames_reduced, nodes_reduced, spot_of, call_frame, joined, node_of_call}
use Rattle.expr_lang.specs.Reading.{counted_of, later_argument, is_list_of}
use Rattle.expr_lang.specs.Words.{text_of}
use Rattle.expr_grammar.specs.Grammar.{Form, Arguments, If, Condition, DaysBetween, IsBlank, IsForm, symbol_text, spelled}
use Rattle.expr_grammar.proofs.Few.{argument_count, count_some}
use Rattle.expr_grammar.proofs.Steps.{At, Goes, then_goes, at_past}
use Rattle.expr_grammar.proofs.Moves.{rd, Comes, name_move, comma_move, close_move, unquote_move, quote_move, behind_quote_move}
use Rattle.expr_grammar.proofs.Completed.{Told, told_in, told_of, Tells, tells_known, Follows, calm_follows, close_calm, comma_calm, quote_calm, place_past}
use Rattle.expr_grammar.proofs.Completed.{evals_two, evals_three}
use Rattle.expr_grammar.proofs.Operands.{known_of, known_any}
use Rattle.expr_grammar.proofs.Productions.{Reading, Reads, whole, both_come}

pub counted_some : (cf : CallFrame) → (1 ≤ (counted_of cf).count) × ((counted_of cf).count ≤ cf.count + 1)
counted_some cf = by_test (nat_lt cf.count 4096) refl
  where
    by_test : (t : Bool) → nat_lt cf.count 4096 ≡ t → (1 ≤ cond t (cf.count + 1) 4096) × (cond t (cf.count + 1) 4096 ≤ cf.count + 1)
    by_test true e = (omega arith, omega arith)
    by_test false e = (omega arith, (let far : 4096 ≤ cf.count = grind (arith, nat_tests) in omega arith))

-- the list of a call's arguments takes in a second and each later one
pub joins : (cf : CallFrame) (nodes : List Spot) → 1 ≤ cf.count → is_list_of cf.call ≡ true
    → joined cf nodes ≡ nodes ++ spot_of cf.at (node.Binary binary.Comma) ∷ []
joins cf nodes some list = let t : nat_lt 0 cf.count ≡ true =
    grind (arith, nat_tests) in ap (λ (x : Bool). cond (x && is_list_of cf.call) (nodes ++ spot_of cf.at (node.Binary binary.Comma) ∷ []) nodes) t
    ∙ ap (λ (x : Bool). cond x (nodes ++ spot_of cf.at (node.Binary binary.Comma) ∷ []) nodes) list

module _ (p : Place) (days : List (List ℕ)) (text : List ℕ) where
  -- an argument and the comma after it
  pub record Comma (cf : CallFrame) (fs : List Frame) (ns : List Spot) (q : Bool) (r : Reader) (at : ℕ) (bytes rest : List ℕ) (told : Told) : Type 0 where
    pub own : List Spot
    pub opened : ℕ
    pub crowded : Option ℕ
    pub comes : Comes p text r at bytes (rd (later_argument cf.call) (frame.Call (counted_of cf) ∷ fs) (joined cf (ns ++ own)) opened crowded q) rest
    pub tree : Tells text days own told

  pub record Last (cf : CallFrame) (fs : List Frame) (ns : List Spot) (q : Bool) (r : Reader) (at : ℕ) (bytes rest : List ℕ) (told : Told) : Type 0 where
    pub own : List Spot
    pub opened : ℕ
    pub crowded : Option ℕ
    pub comes : Comes p text r at bytes (rd (expect.Operator true) fs (joined cf (ns ++ own) ++ spot_of cf.at (node_of_call cf.call) ∷ []) opened crowded q)
        rest
    pub tree : Tells text days own told

  pub argument : (F : Form) → Reads p days text F
      → (cf : CallFrame) (fs : List Frame) (ns : List Spot) (o : ℕ) (c : Option ℕ) (q : Bool) (at : ℕ) (rest : List ℕ) → IsForm p q 1 F → Follows rest
      → At text at (spelled F rest)
      → Reading p days text 1 (frame.Call cf ∷ fs) ns q (rd expect.Operand (frame.Call cf ∷ fs) ns o c q) at (spelled F rest) rest
      (told_of days (length text) F rest)
  argument F ih cf fs ns o c q at rest is follows here =
      ih 1 expect.Operand (frame.Call cf ∷ fs) ns o c q at rest tt (omega arith) is (λ le. tt) (λ le. refl) follows here

  pub then_comma : (F : Form) → Reads p days text F
      → (cf : CallFrame) (fs : List Frame) (ns : List Spot) (o : ℕ) (c : Option ℕ) (q : Bool) (at : ℕ) (b rest : List ℕ) → IsForm p q 1 F → IsBlank b
      → cf.count + 1 < most_arguments cf.call → At text at (spelled F (symbol_text b symbol.Comma rest))
      → Comma cf fs ns q (rd expect.Operand (frame.Call cf ∷ fs) ns o c q) at (spelled F (symbol_text b symbol.Comma rest)) rest
      (told_of days (length text) F (symbol_text b symbol.Comma rest))
  then_comma F ih cf fs ns o c q at b rest is blank few here =
      let one = argument F ih cf fs ns o c q at (symbol_text b symbol.Comma rest) is (calm_follows b (text_of symbol.Comma) rest blank comma_calm) here in
      let two =
      comma_move p text one.power one.frames one.nodes one.opened one.crowded q one.past b rest blank cf fs (ns ++ one.own) one.after.outer
      (one.after.reduced 1 (omega arith)) (one.after.whole 1 (omega arith)) few one.goes.stands in
      record {
        own = one.own;
        opened = one.opened;
        crowded = one.crowded;
        comes =
            both_come p days text _ at _ _ one.past (symbol_text b symbol.Comma rest) _ rest one.goes two;
        tree = one.tree;
      }

  pub then_close : (F : Form) → Reads p days text F
      → (cf : CallFrame) (fs : List Frame) (ns : List Spot) (o : ℕ) (c : Option ℕ) (q : Bool) (at : ℕ) (b rest : List ℕ) → IsForm p q 1 F → IsBlank b
      → least_arguments cf.call ≤ cf.count + 1 → At text at (spelled F (symbol_text b symbol.Close rest))
      → Last cf fs ns q (rd expect.Operand (frame.Call cf ∷ fs) ns o c q) at (spelled F (symbol_text b symbol.Close rest)) rest
      (told_of days (length text) F (symbol_text b symbol.Close rest))
  then_close F ih cf fs ns o c q at b rest is blank many here =
      let one = argument F ih cf fs ns o c q at (symbol_text b symbol.Close rest) is (calm_follows b (text_of symbol.Close) rest blank close_calm) here in
      let two =
      close_move p text one.power one.frames one.nodes one.opened one.crowded q one.past b rest blank cf fs (ns ++ one.own) one.after.outer
      (one.after.reduced 1 (omega arith)) (one.after.whole 1 (omega arith)) many one.goes.stands in
      record {
        own = one.own;
        opened = one.opened - 1;
        crowded = one.crowded;
        comes =
            both_come p days text _ at _ _ one.past (symbol_text b symbol.Close rest) _ rest one.goes two;
        tree = one.tree;
      }

  pub reads_if : (b d : List ℕ) (test : Form) (f : List ℕ) (one : Form) (g : List ℕ) (other : Form) (i : List ℕ) → Reads p days text test
      → Reads p days text one → Reads p days text other → Reads p days text (If b d test f one g other i)
  reads_if b d test f one g other i iht iho ihe L e fs ns o c q at rest h some is loose single follows here =
      let tail = symbol_text i symbol.Close rest in
      let third = spelled other tail in
      let second = spelled one (symbol_text g symbol.Comma third) in
      let first = spelled test (symbol_text f symbol.Comma second) in
      let k = at + length b in
      let cf = call_frame k call.If 0 in
      let w = name_move p text e fs ns o c q at b call.If d first h is.1 is.0 is.2 here in
      let x = then_comma test iht cf fs ns (o + 1) w.0 q w.1.0 f second is.3 is.4 (omega arith) w.1.1.stands in
      let y = then_comma one iho (counted_of cf) fs (ns ++ x.own) x.opened x.crowded q x.comes.0 g third is.5 is.6 (omega arith) x.comes.1.stands in
      let z =
      then_close other ihe (counted_of (counted_of cf)) fs ((ns ++ x.own) ++ y.own) y.opened y.crowded q y.comes.0 i rest is.7 is.8 (omega arith)
      y.comes.1.stands in
      let s = spot_of k node.If in
      let nodes : (((ns ++ x.own) ++ y.own) ++ z.own) ++ s ∷ [] ≡ ns ++ (((x.own ++ y.own) ++ z.own) ++ s ∷ []) = simp append_assoc in
      let all = both_come p days text (rd e fs ns o c q) at (spelled (If b d test f one g other i) rest) _ w.1.0 first _ rest w.1.1
      (both_come p days text _ w.1.0 first _ x.comes.0 second _ rest x.comes.1
      (both_come p days text _ x.comes.0 second _ y.comes.0 third _ rest y.comes.1 z.comes)) in
      whole p days text L fs ns q (rd e fs ns o c q) at (spelled (If b d test f one g other i) rest) rest _ z.opened z.crowded
      (((x.own ++ y.own) ++ z.own) ++ s ∷ [])
      (subst (λ (l : List Spot). Comes p text (rd e fs ns o c q) at (spelled (If b d test f one g other i) rest)
      (rd (expect.Operator true) fs l z.opened z.crowded q) rest) nodes all)
      (evals_three text days x.own y.own z.own k _ (told_of days (length text) test (symbol_text f symbol.Comma second))
      (told_of days (length text) one (symbol_text g symbol.Comma third)) (told_of days (length text) other tail)
      (place_past text at b (text_of (symbol.Call call.If) ++ symbol_text d symbol.Open first) here) x.tree y.tree z.tree)

  pub reads_between : (b d : List ℕ) (one : Form) (f : List ℕ) (other : Form) (g : List ℕ) → Reads p days text one → Reads p days text other
      → Reads p days text (DaysBetween b d one f other g)
  reads_between b d one f other g iho ihe L e fs ns o c q at rest h some is loose single follows here =
      let tail = symbol_text g symbol.Close rest in
      let second = spelled other tail in
      let first = spelled one (symbol_text f symbol.Comma second) in
      let k = at + length b in
      let cf = call_frame k call.DaysBetween 0 in
      let w = name_move p text e fs ns o c q at b call.DaysBetween d first h is.1 is.0 is.2 here in
      let x = then_comma one iho cf fs ns (o + 1) w.0 q w.1.0 f second is.3 is.4 (omega arith) w.1.1.stands in
      let z = then_close other ihe (counted_of cf) fs (ns ++ x.own) x.opened x.crowded q x.comes.0 g rest is.5 is.6 (omega arith) x.comes.1.stands in
      let s = spot_of k (node.Binary binary.DaysBetween) in
      let nodes : ((ns ++ x.own) ++ z.own) ++ s ∷ [] ≡ ns ++ ((x.own ++ z.own) ++ s ∷ []) = simp append_assoc in
      let all = both_come p days text (rd e fs ns o c q) at (spelled (DaysBetween b d one f other g) rest) _ w.1.0 first _ rest w.1.1
      (both_come p days text _ w.1.0 first _ x.comes.0 second _ rest x.comes.1 z.comes) in
      whole p days text L fs ns q (rd e fs ns o c q) at (spelled (DaysBetween b d one f other g) rest) rest _ z.opened z.crowded ((x.own ++ z.own) ++ s ∷ [])
      (subst (λ (l : List Spot). Comes p text (rd e fs ns o c q) at (spelled (DaysBetween b d one f other g) rest)
      (rd (expect.Operator true) fs l z.opened z.crowded q) rest) nodes all)
      (evals_two text days x.own z.own k _ binary.DaysBetween (told_of days (length text) one (symbol_text f symbol.Comma second))
      (told_of days (length text) other tail) (place_past text at b (text_of (symbol.Call call.DaysBetween) ++ symbol_text d symbol.Open first) here) x.tree
      z.tree)

  -- the quoted test of a condition and the comma after it
  quoted_comma : (test : Form) → Reads p days text test
      → (k : ℕ) (fs : List Frame) (ns : List Spot) (o : ℕ) (c : Option ℕ) (at : ℕ) (f g i rest : List ℕ) → IsBlank f → IsForm p true 1 test → IsBlank g
      → IsBlank i → At text at (symbol_text f symbol.Quote (spelled test (symbol_text g symbol.Quote (symbol_text i symbol.Comma rest))))
      → Comma (call_frame k call.Condition 0) fs ns false (rd expect.Quote (frame.Call (call_frame k call.Condition 0) ∷ fs) ns o c false) at
      (symbol_text f symbol.Quote (spelled test (symbol_text g symbol.Quote (symbol_text i symbol.Comma rest)))) rest
      (told_of days (length text) test (symbol_text g symbol.Quote (symbol_text i symbol.Comma rest)))
  quoted_comma test iht k fs ns o c at f g i rest before is after blank here =
      let comma = symbol_text i symbol.Comma rest in
      let unquote = symbol_text g symbol.Quote comma in
      let first = spelled test unquote in
      let quote = symbol_text f symbol.Quote first in
      let cf = call_frame k call.Condition 0 in
      let r1 = rd expect.Quote (frame.Call cf ∷ fs) ns o c false in
      let v = quote_move p text (frame.Call cf ∷ fs) ns o c at f first before here in
      let r2 = rd expect.Operand (frame.Quote ∷ frame.Call cf ∷ fs) ns o c true in
      let t =
      iht 1 expect.Operand (frame.Quote ∷ frame.Call cf ∷ fs) ns o c true v.0 unquote tt (omega arith) is (λ le. tt) (λ le. refl)
      (calm_follows g (text_of symbol.Quote) comma after quote_calm) v.1.stands in
      let u =
      unquote_move p text t.power t.frames t.nodes t.opened t.crowded true t.past g comma after (frame.Call cf ∷ fs) (ns ++ t.own) t.after.outer
      (t.after.reduced 1 (omega arith)) (t.after.whole 1 (omega arith)) t.goes.stands in
      let a = behind_quote_move p text fs (ns ++ t.own) t.opened t.crowded u.0 i rest blank false cf u.1.stands in
      let r3 = rd expect.Operand (frame.Call (counted_of cf) ∷ fs) (ns ++ t.own) t.opened t.crowded false in
      record {
        own = t.own;
        opened = t.opened;
        crowded = t.crowded;
        comes =
            both_come p days text r1 at quote r2 v.0 first r3 rest v.1
            (both_come p days text r2 v.0 first _ t.past unquote r3 rest t.goes
            (both_come p days text _ t.past unquote _ u.0 comma r3 rest u.1 a));
        tree = t.tree;
      }

  pub reads_condition : (b d f : List ℕ) (test : Form) (g i : List ℕ) (one : Form) (j : List ℕ) (other : Form) (l : List ℕ) → Reads p days text test
      → Reads p days text one → Reads p days text other → Reads p days text (Condition b d f test g i one j other l)
  reads_condition b d f test g i one j other l iht iho ihe L e fs ns o c true at rest h some is loose single follows here = let no = is.1 in absurd cc
  reads_condition b d f test g i one j other l iht iho ihe L e fs ns o c false at rest h some is loose single follows here =
      let bytes = spelled (Condition b d f test g i one j other l) rest in
      let tail = symbol_text l symbol.Close rest in
      let third = spelled other tail in
      let second = spelled one (symbol_text j symbol.Comma third) in
      let unquote = symbol_text g symbol.Quote (symbol_text i symbol.Comma second) in
      let quote = symbol_text f symbol.Quote (spelled test unquote) in
      let k = at + length b in
      let cf = call_frame k call.Condition 0 in
      let w = name_move p text e fs ns o c false at b call.Condition d quote h is.2 is.0 is.3 here in
      let x = quoted_comma test iht k fs ns (o + 1) w.0 w.1.0 f g i second is.4 is.5 is.6 is.7 w.1.1.stands in
      let y = then_comma one iho (counted_of cf) fs (ns ++ x.own) x.opened x.crowded false x.comes.0 j third is.8 is.9 (omega arith) x.comes.1.stands in
      let z =
      then_close other ihe (counted_of (counted_of cf)) fs ((ns ++ x.own) ++ y.own) y.opened y.crowded false y.comes.0 l rest is.10 is.11 (omega arith)
      y.comes.1.stands in
      let s = spot_of k node.If in
      let nodes : (((ns ++ x.own) ++ y.own) ++ z.own) ++ s ∷ [] ≡ ns ++ (((x.own ++ y.own) ++ z.own) ++ s ∷ []) = simp append_assoc in
      let all = both_come p days text (rd e fs ns o c false) at bytes _ w.1.0 quote _ rest w.1.1
      (both_come p days text _ w.1.0 quote _ x.comes.0 second _ rest x.comes.1
      (both_come p days text _ x.comes.0 second _ y.comes.0 third _ rest y.comes.1 z.comes)) in
      whole p days text L fs ns false (rd e fs ns o c false) at bytes rest _ z.opened z.crowded (((x.own ++ y.own) ++ z.own) ++ s ∷ [])
      (subst (λ (n : List Spot). Comes p text (rd e fs ns o c false) at bytes (rd (expect.Operator true) fs n z.opened z.crowded false) rest) nodes all)
      (evals_three text days x.own y.own z.own k _ (told_of days (length text) test unquote) (told_of days (length text) one (symbol_text j symbol.Comma third))
      (told_of days (length text) other tail) (place_past text at b (text_of (symbol.Call call.Condition) ++ symbol_text d symbol.Open quote) here) x.tree
      y.tree z.tree)

  -- the arguments of a call that takes a list of them
  pub record Listing (cf : CallFrame) (fs : List Frame) (ns : List Spot) (q : Bool) (r : Reader) (at : ℕ) (bytes rest : List ℕ) (told : Told) : Type 0 where
    pub power : Bool
    pub frames : List Frame
    pub nodes : List Spot
    pub opened : ℕ
    pub crowded : Option ℕ
    pub past : ℕ
    pub own : List Spot
    pub last : CallFrame
    pub goes : Goes p text r at bytes (rd (expect.Operator power) frames nodes opened crowded q) past rest
    pub call : last.call ≡ cf.call
    pub place : last.at ≡ cf.at
    pub few : last.count + 2 ≤ past
    pub outer : enclosing_of frames ≡ Some (frame.Call last)
    pub reduced : frames_reduced 1 frames ≡ frame.Call last ∷ fs
    pub list : joined last (nodes_reduced 1 frames nodes) ≡ ns ++ own
    pub tree : Tells text days own told

  abbrev pub Lists : Form → Type 0
  Lists F = (name : Call) (k : ℕ) (fs : List Frame) (ns : List Spot) (o : ℕ) (c : Option ℕ) (q : Bool) (at : ℕ) (rest : List ℕ)
      → is_list_of name ≡ true → later_argument name ≡ expect.Operand → most_arguments name ≡ 4096 → IsForm p q 0 F → 2 ≤ at → Follows rest
      → At text at (spelled F rest)
      → (one : Listing (call_frame k name 0) fs ns q (rd expect.Operand (frame.Call (call_frame k name 0) ∷ fs) ns o c q) at (spelled F rest) rest
      (told_in k days (length text) F rest)) × (one.last.count + 1 ≤ argument_count F)

  -- one argument
  pub lists_one : (F : Form) → Reads p days text F → ((q : Bool) → IsForm p q 0 F → IsForm p q 1 F) → Lists F
  lists_one F ih up name k fs ns o c q at rest list later most is two follows here =
      let cf = call_frame k name 0 in
      let one = argument F ih cf fs ns o c q at rest (up q is) follows here in (
        record {
          power = one.power;
          frames = one.frames;
          nodes = one.nodes;
          opened = one.opened;
          crowded = one.crowded;
          past = one.past;
          own = one.own;
          last = cf;
          goes = one.goes;
          call = refl;
          place = refl;
          few = omega (arith, one.goes.far);
          outer = one.after.outer;
          reduced = one.after.reduced 1 (omega arith);
          list = one.after.whole 1 (omega arith);
          tree =
              tells_known text days one.own (told_of days (length text) F rest) (known_of days (length text) k F rest)
              (known_any p q 1 F (omega arith) (up q is) days (length text) k rest) one.tree;
        },
        omega (arith, count_some F),
      )

  -- where a text or its lists aren't long
  abbrev pub Short : Type 0 → Type 0
  Short few = (length text ≤ 4096) ⊎ few

  short_list : (F : Form) (cf : CallFrame) (at : ℕ) (bytes : List ℕ) → Short (argument_count F + 1 ≤ 4096) → At text at bytes → cf.count + 2 ≤ at
      → cf.count + 1 ≤ argument_count F → cf.count + 1 < 4096
  short_list F cf at bytes (inl short) here few many = omega (arith, here.all, few, short)
  short_list F cf at bytes (inr most) here few many = omega (arith, many, most)

  -- the comma after arguments
  more_argument : (name : Call) (k : ℕ) (fs : List Frame) (ns : List Spot) (q : Bool) (r : Reader) (at : ℕ) (bytes b beyond : List ℕ) (shape : Told)
      → later_argument name ≡ expect.Operand → most_arguments name ≡ 4096 → IsBlank b
      → (one : Listing (call_frame k name 0) fs ns q r at bytes (symbol_text b symbol.Comma beyond) shape) → one.last.count + 1 < 4096
      → (past : ℕ) × Goes p text (rd (expect.Operator one.power) one.frames one.nodes one.opened one.crowded q) one.past (symbol_text b symbol.Comma beyond)
      (rd expect.Operand (frame.Call (counted_of one.last) ∷ fs) (ns ++ one.own) one.opened one.crowded q) past beyond × (one.past + 1 ≤ past)
  unfolding text_of
  more_argument name k fs ns q r at bytes b beyond shape later most blank one room =
      let same : most_arguments one.last.call ≡ 4096 = ap most_arguments one.call ∙ most in
      let few : one.last.count + 1 < most_arguments one.last.call = omega (arith, same, room) in
      let move =
      comma_move p text one.power one.frames one.nodes one.opened one.crowded q one.past b beyond blank one.last fs (nodes_reduced 1 one.frames one.nodes)
      one.outer one.reduced refl few one.goes.stands in
      let next : later_argument one.last.call ≡ expect.Operand = ap later_argument one.call ∙ later in
      let comma = at_past text one.past b (text_of symbol.Comma ++ beyond) one.goes.stands in (
        move.0,
        subst (λ (x : List Spot). Goes p text (rd (expect.Operator one.power) one.frames one.nodes one.opened one.crowded q) one.past
            (symbol_text b symbol.Comma beyond) (rd expect.Operand (frame.Call (counted_of one.last) ∷ fs) x one.opened one.crowded q) move.0 beyond) one.list
            (subst (λ (x : Expect). Goes p text (rd (expect.Operator one.power) one.frames one.nodes one.opened one.crowded q) one.past
            (symbol_text b symbol.Comma beyond)
            (rd x (frame.Call (counted_of one.last) ∷ fs) (joined one.last (nodes_reduced 1 one.frames one.nodes)) one.opened one.crowded q) move.0
            beyond) next move.1),
        omega (arith, comma.all, move.1.stands.all),
      )

  list_joined : (cf : CallFrame) (ns xs ys nodes : List Spot) → 1 ≤ cf.count → is_list_of cf.call ≡ true → nodes ≡ (ns ++ xs) ++ ys
      → joined cf nodes ≡ ns ++ ((xs ++ ys) ++ spot_of cf.at (node.Binary binary.Comma) ∷ [])
  list_joined cf ns xs ys nodes some list e = joins cf nodes some list ∙ ap (λ (l : List Spot). l ++ spot_of cf.at (node.Binary binary.Comma) ∷ []) e
      ∙ simp append_assoc

  list_on : (first : Form) (b : List ℕ) (last : Form) (name : Call) (k : ℕ) (fs : List Frame) (ns : List Spot) (q : Bool) (r : Reader) (at : ℕ)
      (bytes rest : List ℕ) → is_list_of name ≡ true
      → (one : Listing (call_frame k name 0) fs ns q r at bytes (symbol_text b symbol.Comma (spelled last rest))
      (told_in k days (length text) first (symbol_text b symbol.Comma (spelled last rest)))) (past : ℕ)
      → Goes p text (rd (expect.Operator one.power) one.frames one.nodes one.opened one.crowded q) one.past (symbol_text b symbol.Comma (spelled last rest))
      (rd expect.Operand (frame.Call (counted_of one.last) ∷ fs) (ns ++ one.own) one.opened one.crowded q) past (spelled last rest)
      → one.past + 1 ≤ past
      → Reading p days text 1 (frame.Call (counted_of one.last) ∷ fs) (ns ++ one.own) q
      (rd expect.Operand (frame.Call (counted_of one.last) ∷ fs) (ns ++ one.own) one.opened one.crowded q) past (spelled last rest) rest
      (told_of days (length text) last rest)
      → one.last.count + 1 ≤ argument_count first
      → (all : Listing (call_frame k name 0) fs ns q r at bytes rest (told_in k days (length text) (Arguments first b last) rest))
      × (all.last.count + 1 ≤ argument_count first + 1)
  list_on first b last name k fs ns q r at bytes rest list one past move passed three many =
      let some = counted_some one.last in (
        record {
          power = three.power;
          frames = three.frames;
          nodes = three.nodes;
          opened = three.opened;
          crowded = three.crowded;
          past = three.past;
          own = (one.own ++ three.own) ++ spot_of one.last.at (node.Binary binary.Comma) ∷ [];
          last = counted_of one.last;
          goes =
              then_goes p text r at bytes (rd (expect.Operator one.power) one.frames one.nodes one.opened one.crowded q) one.past
              (symbol_text b symbol.Comma (spelled last rest)) (rd (expect.Operator three.power) three.frames three.nodes three.opened three.crowded q)
              three.past rest one.goes
              (then_goes p text (rd (expect.Operator one.power) one.frames one.nodes one.opened one.crowded q) one.past
              (symbol_text b symbol.Comma (spelled last rest))
              (rd expect.Operand (frame.Call (counted_of one.last) ∷ fs) (ns ++ one.own) one.opened one.crowded q) past (spelled last rest)
              (rd (expect.Operator three.power) three.frames three.nodes three.opened three.crowded q) three.past rest move three.goes);
          call = one.call;
          place = one.place;
          few = omega (arith, some.1, one.few, three.goes.far);
          outer = three.after.outer;
          reduced = three.after.reduced 1 (omega arith);
          list =
              list_joined (counted_of one.last) ns one.own three.own (nodes_reduced 1 three.frames three.nodes) some.0 (ap is_list_of one.call
              ∙ list) (three.after.whole 1 (omega arith));
          tree =
              evals_two text days one.own three.own one.last.at k binary.Comma
              (told_in k days (length text) first (symbol_text b symbol.Comma (spelled last rest))) (told_of days (length text) last rest) one.place one.tree
              three.tree;
        },
        omega (arith, some.1, many),
      )

  pub lists_more : (first : Form) (b : List ℕ) (last : Form) → Short (argument_count first + 1 ≤ 4096) → Lists first → Reads p days text last
      → Lists (Arguments first b last)
  lists_more first b last short ihf ihl name k fs ns o c q at rest list later most is two follows here =
      let one =
      ihf name k fs ns o c q at (symbol_text b symbol.Comma (spelled last rest)) list later most is.1 two
      (calm_follows b (text_of symbol.Comma) (spelled last rest) is.2 comma_calm) here in
      then_list one.0 one.1 (more_argument name k fs ns q (rd expect.Operand (frame.Call (call_frame k name 0) ∷ fs) ns o c q) at
      (spelled first (symbol_text b symbol.Comma (spelled last rest))) b (spelled last rest)
      (told_in k days (length text) first (symbol_text b symbol.Comma (spelled last rest))) later most is.2 one.0
      (short_list first one.0.last one.0.past (symbol_text b symbol.Comma (spelled last rest)) short one.0.goes.stands one.0.few one.1))
    where
      then_list : (one : Listing (call_frame k name 0) fs ns q (rd expect.Operand (frame.Call (call_frame k name 0) ∷ fs) ns o c q) at
          (spelled first (symbol_text b symbol.Comma (spelled last rest))) (symbol_text b symbol.Comma (spelled last rest))
          (told_in k days (length text) first (symbol_text b symbol.Comma (spelled last rest))))
          → one.last.count + 1 ≤ argument_count first
          → (past : ℕ) × Goes p text (rd (expect.Operator one.power) one.frames one.nodes one.opened one.crowded q) one.past
          (symbol_text b symbol.Comma (spelled last rest))
          (rd expect.Operand (frame.Call (counted_of one.last) ∷ fs) (ns ++ one.own) one.opened one.crowded q) past (spelled last rest)
          × (one.past + 1 ≤ past)
          → (all : Listing (call_frame k name 0) fs ns q (rd expect.Operand (frame.Call (call_frame k name 0) ∷ fs) ns o c q) at
          (spelled (Arguments first b last) rest) rest (told_in k days (length text) (Arguments first b last) rest))
          × (all.last.count + 1 ≤ argument_count first + 1)
      then_list one many move =
          list_on first b last name k fs ns q (rd expect.Operand (frame.Call (call_frame k name 0) ∷ fs) ns o c q) at (spelled (Arguments first b last) rest)
          rest list one move.0 move.1 move.2
          (argument last ihl (counted_of one.last) fs (ns ++ one.own) one.opened one.crowded q move.0 rest is.3 follows move.1.stands) many
