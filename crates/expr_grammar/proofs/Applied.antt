-- Each form is read.
use Rattle.std.proofs.Common.{◌≡◌, ℕ, ◌+◌, ◌-◌, ◌≤◌, Bool, true, false, List, [], ◌∷◌, ◌++◌, length, Option, refl, ap, subst, ◌∙◌, append_assoc, arith}
use Rattle.expr_lang.specs.declared.tree.Place.{Place}
use Rattle.expr_lang.specs.declared.tree.Binary.TheVariants as binary
use Rattle.expr_lang.specs.declared.words.Symbol.TheVariants as symbol
use Rattle.expr_lang.specs.declared.words.Call.{Call}
use Rattle.expr_lang.specs.declared.words.Call.TheVariants as call
use Rattle.expr_lang.specs.declared.reading.Spot.{Spot}
use Rattle.expr_lang.specs.declared.reading.Node.{Node}
use Rattle.expr_lang.specs.declared.reading.Node.TheVariants as node
use Rattle.expr_lang.specs.declared.reading.Frame.{Frame}
use Rattle.expr_lang.specs.declared.reading.Frame.TheVariants as frame
use Rattle.expr_lang.specs.declared.reading.CallFrame.{CallFrame}
use Rattle.expr_lang.specs.declared.reading.Expect.{Expect}
use Rattle.expr_lang.specs.declared.reading.Expect.TheVariants as expect
use Rattle.expr_lang.specs.declared.reading.Reader.{Reader}
use Rattle.expr_lang.specs.Reading.{least_arguments, most_arguments, nodes_reduced, spot_of, call_frame, joined, node_of_call, counted_of, later_argument}
use Rattle.expr_lang.specs.Reading.{is_list_of, first_argument}
use Rattle.expr_lang.specs.Words.{text_of}
use Rattle.expr_grammar.specs.Grammar.{Form, Number, Item, Arguments, Apply, IsBlank, IsCall, IsForm, is_plain, all_plain, symbol_text, number_value}
use Rattle.expr_grammar.specs.Grammar.{spelled}
use Rattle.expr_grammar.proofs.Stored.{applied}
use Rattle.expr_grammar.proofs.Words.{both}
use Rattle.expr_grammar.proofs.Steps.{At, Goes, at_past}
use Rattle.expr_grammar.proofs.Moves.{rd, IsOpen, Comes, name_move, close_move, more_move, plain_number, plain_item}
use Rattle.expr_grammar.proofs.Completed.{Told, told_in, told_of, Tells, Follows, calm_follows, close_calm, comma_calm, place_past, tells_known, evals_one}
use Rattle.expr_grammar.proofs.Completed.{evals_two, evals_number, evals_item}
use Rattle.expr_grammar.proofs.Operands.{known_of, known_any}
use Rattle.expr_grammar.specs.Misfits.{place_of}
use Rattle.expr_grammar.proofs.Productions.{Reading, Reads, whole, both_come}
use Rattle.expr_grammar.proofs.Calls.{joins, counted_some, then_close, Listing, Lists}

name_some : (c : Call) → 1 ≤ length (text_of (symbol.Call c))
unfolding text_of
name_some call.If = omega arith
name_some call.Condition = omega arith
name_some call.IsNull = omega arith
name_some call.IsNotNull = omega arith
name_some call.FirstNonNull = omega arith
name_some call.Greatest = omega arith
name_some call.Least = omega arith
name_some call.DaysBetween = omega arith
name_some call.HasValue = omega arith
name_some call.Zing = omega arith
name_some call.Oizp = omega arith

open_some : 1 ≤ length (text_of symbol.Open)
unfolding text_of
open_some = omega arith

-- a name and a bracket take two bytes
named_far : (text : List ℕ) (at past : ℕ) (b : List ℕ) (name : Call) (d beyond : List ℕ)
    → At text at (symbol_text b (symbol.Call name) (symbol_text d symbol.Open beyond)) → At text past beyond → 2 ≤ past
named_far text at past b name d beyond here there =
    let one = at_past text at b (text_of (symbol.Call name) ++ symbol_text d symbol.Open beyond) here in
    let two = at_past text (at + length b) (text_of (symbol.Call name)) (symbol_text d symbol.Open beyond) one in
    let three = at_past text (at + length b + length (text_of (symbol.Call name))) d (text_of symbol.Open ++ beyond) two in
    let four = at_past text (at + length b + length (text_of (symbol.Call name)) + length d) (text_of symbol.Open) beyond three in
    omega (arith, four.all, there.all, name_some name, open_some)

module _ (p : Place) (days : List (List ℕ)) (text : List ℕ) where
  -- items and numbers alone
  pub record Plains (k : ℕ) (fs : List Frame) (ns : List Spot) (q : Bool) (r : Reader) (at : ℕ) (bytes rest : List ℕ) (told : Told) : Type 0 where
    pub nodes : List Spot
    pub own : List Spot
    pub last : CallFrame
    pub opened : ℕ
    pub crowded : Option ℕ
    pub comes : Comes p text r at bytes (rd expect.More (frame.Call last ∷ fs) nodes opened crowded q) rest
    pub call : last.call ≡ call.FirstNonNull
    pub place : last.at ≡ k
    pub list : joined last nodes ≡ ns ++ own
    pub tree : Tells text days own told

  plain_leaf : (F : Form) (L : ℕ) (fs : List Frame) (ns : List Spot) (o : ℕ) (c : Option ℕ) (q : Bool) (at : ℕ) (rest : List ℕ) → is_plain F ≡ true
      → IsForm p q L F → Follows rest → At text at (spelled F rest)
      → (s : Spot) × Comes p text (rd expect.Plain fs ns o c q) at (spelled F rest) (rd expect.More fs (ns ++ s ∷ []) o c q) rest
      × Tells text days (s ∷ []) (told_of days (length text) F rest)
  plain_leaf (Number b digits decimals) L fs ns o c q at rest plain is follows here = (
    spot_of (at + length b) (node.Number (number_value digits decimals)),
    plain_number p text fs ns o c at b rest is.0 q digits decimals is.1 follows.0 follows.1 here,
    evals_number text days at b digits decimals rest here,
  )
  plain_leaf (Item b f word) L fs ns o c q at rest plain is follows here = (
    spot_of (at + length b) (node.Item f),
    plain_item p text fs ns o c at b rest is.0 q f word is.1 is.2 here,
    evals_item text days at b f word rest is.2 here,
  )
  plain_leaf F L fs ns o c q at rest plain is follows here = absurd cc

  plain_known : (F : Form) (k : ℕ) (rest : List ℕ) → is_plain F ≡ true → known_of days (length text) k F rest ≡ known_of days (length text) 0 F rest
  plain_known (Number b digits decimals) k rest plain = refl
  plain_known (Item b f word) k rest plain = refl
  plain_known F k rest plain = absurd cc

  first_plain : (F : Form) (k : ℕ) (fs : List Frame) (ns : List Spot) (o : ℕ) (c : Option ℕ) (q : Bool) (at : ℕ) (rest : List ℕ) → is_plain F ≡ true
      → IsForm p q 0 F → Follows rest → At text at (spelled F rest)
      → Plains k fs ns q (rd expect.Plain (frame.Call (call_frame k call.FirstNonNull 0) ∷ fs) ns o c q) at (spelled F rest) rest
      (told_in k days (length text) F rest)
  first_plain F k fs ns o c q at rest plain is follows here =
      let one = plain_leaf F 0 (frame.Call (call_frame k call.FirstNonNull 0) ∷ fs) ns o c q at rest plain is follows here in
      record {
        nodes = ns ++ one.0 ∷ [];
        own = one.0 ∷ [];
        last = call_frame k call.FirstNonNull 0;
        opened = o;
        crowded = c;
        comes = one.1;
        call = refl;
        place =
            refl;
        list = refl;
        tree =
            tells_known text days (one.0 ∷ []) (told_of days (length text) F rest) (known_of days (length text) k F rest) (plain_known F k rest plain) one.2;
      }

  next_plain : (first : Form) (b : List ℕ) (last : Form) (k : ℕ) (fs : List Frame) (ns : List Spot) (q : Bool) (r : Reader) (at : ℕ) (bytes rest : List ℕ)
      → is_plain last ≡ true → IsForm p q 1 last → IsBlank b → Follows rest
      → (one : Plains k fs ns q r at bytes (symbol_text b symbol.Comma (spelled last rest))
      (told_in k days (length text) first (symbol_text b symbol.Comma (spelled last rest))))
      → Plains k fs ns q r at bytes rest (told_in k days (length text) (Arguments first b last) rest)
  next_plain first b last k fs ns q r at bytes rest plain is blank follows one =
      let move = more_move p text fs one.nodes one.opened one.crowded one.comes.0 b (spelled last rest) blank q one.last one.comes.1.stands in
      let r1 = rd expect.More (frame.Call one.last ∷ fs) one.nodes one.opened one.crowded q in
      let r2 = rd expect.Plain (frame.Call (counted_of one.last) ∷ fs) (ns ++ one.own) one.opened one.crowded q in
      let there : Goes p text r1 one.comes.0 (symbol_text b symbol.Comma (spelled last rest)) r2 move.0 (spelled last rest) =
      subst (λ (x : List Spot). Goes p text r1 one.comes.0 (symbol_text b symbol.Comma (spelled last rest))
      (rd expect.Plain (frame.Call (counted_of one.last) ∷ fs) x one.opened one.crowded q) move.0 (spelled last rest)) one.list
      (subst (λ (x : Expect). Goes p text r1 one.comes.0 (symbol_text b symbol.Comma (spelled last rest))
      (rd x (frame.Call (counted_of one.last) ∷ fs) (joined one.last one.nodes) one.opened one.crowded q) move.0 (spelled last rest))
      (ap later_argument one.call) move.1) in
      let leaf = plain_leaf last 1 (frame.Call (counted_of one.last) ∷ fs) (ns ++ one.own) one.opened one.crowded q move.0 rest plain is follows there.stands in
      let s = leaf.0 in
      record {
        nodes = (ns ++ one.own) ++ s ∷ [];
        own = (one.own ++ s ∷ []) ++ spot_of one.last.at (node.Binary binary.Comma) ∷ [];
        last = counted_of one.last;
        opened = one.opened;
        crowded = one.crowded;
        comes =
            both_come p days text r at bytes r1 one.comes.0 (symbol_text b symbol.Comma (spelled last rest)) _ rest one.comes.1
            (both_come p days text r1 one.comes.0 (symbol_text b symbol.Comma (spelled last rest)) r2 move.0 (spelled last rest) _ rest there leaf.1);
        call = one.call;
        place = one.place;
        list = joins (counted_of one.last) ((ns ++ one.own) ++ s ∷ []) (counted_some one.last).0 (ap is_list_of one.call) ∙ simp append_assoc;
        tree =
            evals_two text days one.own (s ∷ []) one.last.at k binary.Comma
            (told_in k days (length text) first (symbol_text b symbol.Comma (spelled last rest))) (told_of days (length text) last rest) one.place one.tree
            leaf.2;
      }

  pub plains : (F : Form) (k : ℕ) (fs : List Frame) (ns : List Spot) (o : ℕ) (c : Option ℕ) (q : Bool) (at : ℕ) (rest : List ℕ) → all_plain F ≡ true
      → IsForm p q 0 F → Follows rest → At text at (spelled F rest)
      → Plains k fs ns q (rd expect.Plain (frame.Call (call_frame k call.FirstNonNull 0) ∷ fs) ns o c q) at (spelled F rest) rest
      (told_in k days (length text) F rest)
  plains (Arguments first b last) k fs ns o c q at rest plain is follows here =
      let parts = both (all_plain first) (is_plain last) plain in
      next_plain first b last k fs ns q (rd expect.Plain (frame.Call (call_frame k call.FirstNonNull 0) ∷ fs) ns o c q) at
      (spelled (Arguments first b last) rest) rest parts.1 is.3 is.2 follows
      (plains first k fs ns o c q at (symbol_text b symbol.Comma (spelled last rest)) parts.0 is.1
      (calm_follows b (text_of symbol.Comma) (spelled last rest) is.2 comma_calm) here)
  plains (Number b digits decimals) k fs ns o c q at rest plain is follows here =
      first_plain (Number b digits decimals) k fs ns o c q at rest refl is follows here
  plains (Item b f word) k fs ns o c q at rest plain is follows here = first_plain (Item b f word) k fs ns o c q at rest refl is follows here
  plains F k fs ns o c q at rest plain is follows here = absurd cc

  -- a call that is done
  pub called : (b : List ℕ) (name : Call) (d : List ℕ) (F : Form) (g : List ℕ) (L k : ℕ) (fs : List Frame) (ns : List Spot) (q : Bool) (r : Reader) (at : ℕ)
      (rest : List ℕ) (o : ℕ) (c : Option ℕ) (nodes own : List Spot) (u : Node)
      → nodes ≡ ns ++ own → u ≡ node.Unary (applied name) → k ≡ at + length b → At text at (spelled (Apply b name d F g) rest)
      → Tells text days own (told_in (at + length b) days (length text) F (symbol_text g symbol.Close rest))
      → Comes p text r at (spelled (Apply b name d F g) rest) (rd (expect.Operator true) fs (nodes ++ spot_of k u ∷ []) o c q) rest
      → Reading p days text L fs ns q r at (spelled (Apply b name d F g) rest) rest (told_of days (length text) (Apply b name d F g) rest)
  called b name d F g L k fs ns q r at rest o c nodes own u same is place here tree comes =
      let s = spot_of k (node.Unary (applied name)) in
      let all : nodes ++ spot_of k u ∷ [] ≡ ns ++ (own ++ s ∷ []) = ap (λ (x : List Spot). x ++ spot_of k u ∷ []) same
      ∙ ap (λ (x : Node). (ns ++ own) ++ spot_of k x ∷ []) is ∙ append_assoc ns own (s ∷ []) in
      let from : at + length b ≡ place_of (length text) (Apply b name d F g) rest =
      place_past text at b (text_of (symbol.Call name) ++ symbol_text d symbol.Open (spelled F (symbol_text g symbol.Close rest))) here in
      whole p days text L fs ns q r at (spelled (Apply b name d F g) rest) rest _ o c (own ++ s ∷ [])
      (subst (λ (x : List Spot). Comes p text r at (spelled (Apply b name d F g) rest) (rd (expect.Operator true) fs x o c q) rest) all comes)
      (evals_one text days own k (place_of (length text) (Apply b name d F g) rest) (applied name)
      (told_in (place_of (length text) (Apply b name d F g) rest) days (length text) F (symbol_text g symbol.Close rest)) (place ∙ from)
      (subst (λ (x : ℕ). Tells text days own (told_in x days (length text) F (symbol_text g symbol.Close rest))) from tree))

  pub record IsOne (name : Call) : Type 0 where
    pub first : first_argument name ≡ expect.Operand
    pub least : least_arguments name ≡ 1
    pub list : is_list_of name ≡ false
    pub does : node_of_call name ≡ node.Unary (applied name)

  pub apply_one : (b : List ℕ) (name : Call) (d : List ℕ) (F : Form) (g : List ℕ) → IsOne name → Reads p days text F
      → (L : ℕ) (e : Expect) (fs : List Frame) (ns : List Spot) (o : ℕ) (c : Option ℕ) (q : Bool) (at : ℕ) (rest : List ℕ)
      → IsOpen e → IsCall p name → IsBlank b → IsBlank d → IsForm p q 1 F → IsBlank g → At text at (spelled (Apply b name d F g) rest)
      → Reading p days text L fs ns q (rd e fs ns o c q) at (spelled (Apply b name d F g) rest) rest (told_of days (length text) (Apply b name d F g) rest)
  apply_one b name d F g one ih L e fs ns o c q at rest h is blank blank' form blank'' here =
      let k = at + length b in
      let cf = call_frame k name 0 in
      let more = spelled F (symbol_text g symbol.Close rest) in
      let w = name_move p text e fs ns o c q at b name d more h blank is blank' here in
      let r = rd expect.Operand (frame.Call cf ∷ fs) ns (o + 1) w.0 q in
      let there : Goes p text (rd e fs ns o c q) at (spelled (Apply b name d F g) rest) r w.1.0 more =
      subst (λ (x : Expect). Goes p text (rd e fs ns o c q) at (spelled (Apply b name d F g) rest) (rd x (frame.Call cf ∷ fs) ns (o + 1) w.0 q) w.1.0 more)
      one.first w.1.1 in
      let z = then_close p days text F ih cf fs ns (o + 1) w.0 q w.1.0 g rest form blank'' (omega (arith, one.least)) there.stands in
      called b name d F g L k fs ns q (rd e fs ns o c q) at rest z.opened z.crowded (joined cf (ns ++ z.own)) z.own (node_of_call name) refl one.does refl here
      (tells_known text days z.own (told_of days (length text) F (symbol_text g symbol.Close rest))
      (known_of days (length text) k F (symbol_text g symbol.Close rest))
      (known_any p q 1 F (omega arith) form days (length text) k (symbol_text g symbol.Close rest)) z.tree)
      (both_come p days text (rd e fs ns o c q) at (spelled (Apply b name d F g) rest) r w.1.0 more _ rest there z.comes)

  pub record IsList (name : Call) : Type 0 where
    pub first : first_argument name ≡ expect.Operand
    pub later : later_argument name ≡ expect.Operand
    pub least : least_arguments name ≡ 1
    pub most : most_arguments name ≡ 4096
    pub list : is_list_of name ≡ true
    pub does : node_of_call name ≡ node.Unary (applied name)

  close_list : (b : List ℕ) (name : Call) (d : List ℕ) (F : Form) (g : List ℕ) → IsList name
      → (L : ℕ) (e : Expect) (fs : List Frame) (ns : List Spot) (o : ℕ) (c : Option ℕ) (q : Bool) (at : ℕ) (rest : List ℕ) (k : ℕ) (r : Reader) (past : ℕ)
      → IsBlank g
      → Goes p text (rd e fs ns o c q) at (spelled (Apply b name d F g) rest) r past (spelled F (symbol_text g symbol.Close rest))
      → (z : Listing p days text (call_frame k name 0) fs ns q r past (spelled F (symbol_text g symbol.Close rest)) (symbol_text g symbol.Close rest)
      (told_in k days (length text) F (symbol_text g symbol.Close rest)))
      → k ≡ at + length b → At text at (spelled (Apply b name d F g) rest)
      → Reading p days text L fs ns q (rd e fs ns o c q) at (spelled (Apply b name d F g) rest) rest (told_of days (length text) (Apply b name d F g) rest)
  close_list b name d F g one L e fs ns o c q at rest k r past blank there z place here =
      let least : least_arguments z.last.call ≡ 1 = ap least_arguments z.call ∙ one.least in
      let move =
      close_move p text z.power z.frames z.nodes z.opened z.crowded q z.past g rest blank z.last fs (nodes_reduced 1 z.frames z.nodes) z.outer z.reduced
      refl (omega (arith, least)) z.goes.stands in
      called b name d F g L z.last.at fs ns q (rd e fs ns o c q) at rest (z.opened - 1) z.crowded (joined z.last (nodes_reduced 1 z.frames z.nodes)) z.own
      (node_of_call z.last.call) z.list (ap node_of_call z.call ∙ one.does) (z.place ∙ place) here
      (subst (λ (x : ℕ). Tells text days z.own (told_in x days (length text) F (symbol_text g symbol.Close rest))) place z.tree)
      (both_come p days text (rd e fs ns o c q) at (spelled (Apply b name d F g) rest) r past (spelled F (symbol_text g symbol.Close rest)) _ rest there
      (both_come p days text r past (spelled F (symbol_text g symbol.Close rest)) _ z.past (symbol_text g symbol.Close rest) _ rest z.goes move))

  pub apply_list : (b : List ℕ) (name : Call) (d : List ℕ) (F : Form) (g : List ℕ) → IsList name → Lists p days text F
      → (L : ℕ) (e : Expect) (fs : List Frame) (ns : List Spot) (o : ℕ) (c : Option ℕ) (q : Bool) (at : ℕ) (rest : List ℕ)
      → IsOpen e → IsCall p name → IsBlank b → IsBlank d → IsForm p q 0 F → IsBlank g → At text at (spelled (Apply b name d F g) rest)
      → Reading p days text L fs ns q (rd e fs ns o c q) at (spelled (Apply b name d F g) rest) rest (told_of days (length text) (Apply b name d F g) rest)
  apply_list b name d F g one ih L e fs ns o c q at rest h is blank blank' form blank'' here =
      let k = at + length b in
      let cf = call_frame k name 0 in
      let more = spelled F (symbol_text g symbol.Close rest) in
      let w = name_move p text e fs ns o c q at b name d more h blank is blank' here in
      let r = rd expect.Operand (frame.Call cf ∷ fs) ns (o + 1) w.0 q in
      let there : Goes p text (rd e fs ns o c q) at (spelled (Apply b name d F g) rest) r w.1.0 more =
      subst (λ (x : Expect). Goes p text (rd e fs ns o c q) at (spelled (Apply b name d F g) rest) (rd x (frame.Call cf ∷ fs) ns (o + 1) w.0 q) w.1.0 more)
      one.first w.1.1 in
      close_list b name d F g one L e fs ns o c q at rest k r w.1.0 blank'' there
      (ih name k fs ns (o + 1) w.0 q w.1.0 (symbol_text g symbol.Close rest) one.list one.later one.most form
      (named_far text at w.1.0 b name d more here there.stands) (calm_follows g (text_of symbol.Close) rest blank'' close_calm) there.stands).0 refl here
