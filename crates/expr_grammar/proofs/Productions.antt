-- Each form of the grammar is read, production by production.
use Rattle.std.proofs.Common.{◌≡◌, ℕ, ◌+◌, ◌-◌, ◌≤◌, Bool, true, false, cond, List, [], ◌∷◌, ◌++◌, length, Option, refl, ap, subst, ◌∙◌, append_assoc, arith}
use Rattle.std.specs.Prelude.{◌||◌, nat_eq, nat_le}
use Rattle.std.specs.Str.Parse.{digits_value}
use Rattle.std.proofs.lemmas.Bool.Decides.{nat_tests}
use Rattle.expr_lang.specs.declared.tree.Place.{Place}
use Rattle.expr_lang.specs.declared.tree.Unary.{Unary}
use Rattle.expr_lang.specs.declared.tree.Unary.TheVariants as unary
use Rattle.expr_lang.specs.declared.tree.Binary.{Binary}
use Rattle.expr_lang.specs.declared.words.Symbol.TheVariants as symbol
use Rattle.expr_lang.specs.declared.words.ItemForm.{ItemForm}
use Rattle.expr_lang.specs.declared.reading.Spot.{Spot}
use Rattle.expr_lang.specs.declared.reading.Node.TheVariants as node
use Rattle.expr_lang.specs.declared.reading.Frame.{Frame}
use Rattle.expr_lang.specs.declared.reading.Frame.TheVariants as frame
use Rattle.expr_lang.specs.declared.reading.Expect.{Expect}
use Rattle.expr_lang.specs.declared.reading.Expect.TheVariants as expect
use Rattle.expr_lang.specs.declared.reading.Reader.{Reader}
use Rattle.expr_lang.specs.Print.{left_level_of, right_level_of}
use Rattle.expr_lang.specs.Reading.{level_of, enclosing_of, compares, frames_reduced, nodes_reduced, spot_of, crowded_at}
use Rattle.expr_lang.specs.Words.{text_of}
use Rattle.expr_grammar.specs.Grammar.{Form, Number, Item, Bracket, Power, Sign, Chain, IsForm, sign_text, after_blanks, symbol_text, number_value, spelled}
use Rattle.expr_grammar.proofs.Steps.{At, Goes, then_goes}
use Rattle.expr_grammar.proofs.Moves.{rd, IsOpen, Comes, number_move, item_move, open_move, sign_move, caret_move, exponent_move, operator_move, bracket_move}
use Rattle.expr_grammar.proofs.Completed.{Told, told_of, Tells, Follows, calm_follows, close_calm, caret_calm, operator_calm, form_starts, Loose, loose_up}
use Rattle.expr_grammar.proofs.Completed.{loose_same, levels, place_past, evals_one, evals_two, evals_number, evals_item}

-- the reader after a form that stands where these frames and nodes were
pub record After (L : ℕ) (fs : List Frame) (ns : List Spot) (power : Bool) (frames : List Frame) (nodes own : List Spot) : Type 0 where
  pub atom : 8 ≤ L → (power ≡ true) × (frames ≡ fs) × (nodes ≡ ns ++ own)
  pub outer : enclosing_of frames ≡ enclosing_of fs
  pub reduced : (k : ℕ) → k ≤ L → frames_reduced k frames ≡ frames_reduced k fs
  pub whole : (k : ℕ) → k ≤ L → nodes_reduced k frames nodes ≡ nodes_reduced k fs (ns ++ own)
  pub compared : 4 ≤ L → compares frames ≡ compares fs

module _ (p : Place) (days : List (List ℕ)) (text : List ℕ) where
  -- a form is read as a tree
  pub record Reading (L : ℕ) (fs : List Frame) (ns : List Spot) (q : Bool) (r : Reader) (at : ℕ) (bytes rest : List ℕ) (told : Told) : Type 0 where
    pub power : Bool
    pub frames : List Frame
    pub nodes : List Spot
    pub opened : ℕ
    pub crowded : Option ℕ
    pub past : ℕ
    pub own : List Spot
    pub goes : Goes p text r at bytes (rd (expect.Operator power) frames nodes opened crowded q) past rest
    pub after : After L fs ns power frames nodes own
    pub tree : Tells text days own told

  abbrev pub Reads : Form → Type 0
  Reads F = (L : ℕ) (e : Expect) (fs : List Frame) (ns : List Spot) (o : ℕ) (c : Option ℕ) (q : Bool) (at : ℕ) (rest : List ℕ) → IsOpen e → 1 ≤ L
      → IsForm p q L F → (L ≤ 5 → Loose L fs) → (L ≤ 3 → compares fs ≡ false) → Follows rest → At text at (spelled F rest)
      → Reading L fs ns q (rd e fs ns o c q) at (spelled F rest) rest (told_of days (length text) F rest)

  same_after : (L : ℕ) (fs : List Frame) (ns own : List Spot) → After L fs ns true fs (ns ++ own) own
  same_after L fs ns own = record { atom = λ le. (refl, refl, refl); outer = refl; reduced = λ k le. refl; whole = λ k le. refl; compared = λ le. refl }

  -- an atom leaves no frame after
  pub whole : (L : ℕ) (fs : List Frame) (ns : List Spot) (q : Bool) (r : Reader) (at : ℕ) (bytes rest : List ℕ) (tree : Told) (o : ℕ) (c : Option ℕ)
      (own : List Spot) → Comes p text r at bytes (rd (expect.Operator true) fs (ns ++ own) o c q) rest → Tells text days own tree
      → Reading L fs ns q r at bytes rest tree
  whole L fs ns q r at bytes rest tree o c own g h =
      record {
        power = true;
        frames = fs;
        nodes = ns ++ own;
        opened = o;
        crowded = c;
        past = g.0;
        own = own;
        goes = g.1;
        after = same_after L fs ns own;
        tree =
            h;
      }

  -- two parts of the way
  pub both_come : (r : Reader) (at : ℕ) (bytes : List ℕ) (s : Reader) (past : ℕ) (more : List ℕ) (t : Reader) (rest : List ℕ)
      → Goes p text r at bytes s past more → Comes p text s past more t rest → Comes p text r at bytes t rest
  both_come r at bytes s past more t rest g h = (h.0, then_goes p text r at bytes s past more t h.0 rest g h.1)

  pub reads_number : (b digits decimals : List ℕ) → Reads (Number b digits decimals)
  reads_number b digits decimals L e fs ns o c q at rest h some is loose single follows here =
      whole L fs ns q (rd e fs ns o c q) at (spelled (Number b digits decimals) rest) rest _ o c
      (spot_of (at + length b) (node.Number (number_value digits decimals)) ∷ [])
      (number_move p text e fs ns o c q at b digits decimals rest h is.0 is.1 follows.0 follows.1 here)
      (evals_number text days at b digits decimals rest here)

  pub reads_item : (b : List ℕ) (f : ItemForm) (word : List ℕ) → Reads (Item b f word)
  reads_item b f word L e fs ns o c q at rest h some is loose single follows here =
      whole L fs ns q (rd e fs ns o c q) at (spelled (Item b f word) rest) rest _ o c (spot_of (at + length b) (node.Item f) ∷ [])
      (item_move p text e fs ns o c q at b f word rest h is.0 is.1 is.2 here)
      (evals_item text days at b f word rest is.2 here)

  pub reads_bracket : (b : List ℕ) (inner : Form) (d : List ℕ) → Reads inner → Reads (Bracket b inner d)
  reads_bracket b inner d ih L e fs ns o c q at rest h some is loose single follows here =
      let bytes = spelled (Bracket b inner d) rest in
      let more = spelled inner (symbol_text d symbol.Close rest) in
      let one = open_move p text e fs ns o c q at b more h is.0 here in
      let c' = crowded_at (rd e fs ns o c q) (at + length b) in
      let two =
      ih 1 expect.Operand (frame.Bracket ∷ fs) ns (o + 1) c' q one.0 (symbol_text d symbol.Close rest) tt (omega arith) is.1 (λ le. tt) (λ le. refl)
      (calm_follows d (text_of symbol.Close) rest is.2 close_calm) one.1.stands in
      let three =
      bracket_move p text two.power two.frames two.nodes two.opened two.crowded q two.past d rest is.2 fs (ns ++ two.own) two.after.outer
      (two.after.reduced 1 (omega arith)) (two.after.whole 1 (omega arith)) two.goes.stands in
      whole L fs ns q (rd e fs ns o c q) at bytes rest _ (two.opened - 1) two.crowded two.own
      (both_come (rd e fs ns o c q) at bytes _ one.0 more _ rest one.1
      (both_come _ one.0 more _ two.past (symbol_text d symbol.Close rest) _ rest two.goes three))
      two.tree

  pub reads_power : (atom : Form) (b d digits : List ℕ) → Reads atom → Reads (Power atom b d digits)
  reads_power atom b d digits ih L e fs ns o c q at rest h some is loose single follows here =
      let bytes = spelled (Power atom b d digits) rest in
      let beyond = after_blanks d digits rest in
      let more = symbol_text b symbol.Caret beyond in
      let one =
      ih 8 e fs ns o c q at more h (omega arith) is.1 (λ le. absurd (omega arith)) (λ le. absurd (omega arith))
      (calm_follows b (text_of symbol.Caret) beyond is.2 caret_calm) here in
      let same = one.after.atom (omega arith) in
      let here' : Goes p text (rd e fs ns o c q) at bytes (rd (expect.Operator true) fs (ns ++ one.own) one.opened one.crowded q) one.past more =
      subst (λ (x : List Spot). Goes p text (rd e fs ns o c q) at bytes (rd (expect.Operator true) fs x one.opened one.crowded q) one.past more) same.2
      (subst (λ (x : List Frame). Goes p text (rd e fs ns o c q) at bytes (rd (expect.Operator true) x one.nodes one.opened one.crowded q) one.past more) same.1
      (subst (λ (x : Bool). Goes p text (rd e fs ns o c q) at bytes (rd (expect.Operator x) one.frames one.nodes one.opened one.crowded q) one.past more) same.0
      one.goes)) in
      let two = caret_move p text fs (ns ++ one.own) one.opened one.crowded q one.past b beyond is.2 here'.stands in
      let three = exponent_move p text (one.past + length b) fs (ns ++ one.own) one.opened one.crowded q two.0 d digits rest is.3 is.4 follows.0 two.1.stands in
      let all = both_come (rd e fs ns o c q) at bytes _ one.past more _ rest here' (both_come _ one.past more _ two.0 beyond _ rest two.1 three) in
      let s = spot_of (one.past + length b) (node.Unary (unary.Power (digits_value 10 digits))) in
      record {
        power = false;
        frames = fs;
        nodes = (ns ++ one.own) ++ s ∷ [];
        opened = one.opened;
        crowded = one.crowded;
        past = all.0;
        own = one.own ++ s ∷ [];
        goes = all.1;
        after =
            record {
              atom = λ le. absurd (omega (arith, is.0));
              outer = refl;
              reduced = λ k le. refl;
              whole =
                  λ k le. ap (nodes_reduced k fs) (append_assoc ns one.own (s ∷ []));
              compared = λ le. refl;
            };
        tree =
            evals_one text days one.own (one.past + length b) _ (unary.Power (digits_value 10 digits)) (told_of days (length text) atom more)
            (place_past text one.past b (text_of symbol.Caret ++ beyond) one.goes.stands) one.tree;
      }

  pub reads_sign : (b : List ℕ) (sign : Unary) (operand : Form) → Reads operand → Reads (Sign b sign operand)
  reads_sign b sign operand ih L e fs ns o c q at rest h some is loose single follows here =
      let bytes = spelled (Sign b sign operand) rest in
      let s = spot_of (at + length b) (node.Unary sign) in
      let one = sign_move p text e fs ns o c q at b sign (spelled operand rest) h is.1 is.2 here in
      let two =
      ih 6 expect.Operand (frame.Pending s ∷ fs) ns o c q one.0 rest tt (omega arith) is.3 (λ le. absurd (omega arith)) (λ le. absurd (omega arith)) follows
      one.1.stands in
      record {
        power = two.power;
        frames = two.frames;
        nodes = two.nodes;
        opened = two.opened;
        crowded = two.crowded;
        past = two.past;
        own = two.own ++ s ∷ [];
        goes = then_goes p text (rd e fs ns o c q) at bytes _ one.0 (spelled operand rest) _ two.past rest one.1 two.goes;
        after = record {
          atom = λ le. absurd (omega (arith, is.0));
          outer = two.after.outer;
          reduced = λ k le. (let t : nat_le k 6 ≡ true = (let small : k ≤ 6 = omega (arith, is.0) in grind (arith, nat_tests)) in
              two.after.reduced k (omega (arith, is.0)) ∙ ap (λ (x : Bool). cond x (frames_reduced k fs) (frame.Pending s ∷ fs)) t);
          whole = λ k le. (let t : nat_le k 6 ≡ true = (let small : k ≤ 6 = omega (arith, is.0) in grind (arith, nat_tests)) in
              two.after.whole k (omega (arith, is.0)) ∙ ap (λ (x : Bool). cond x (nodes_reduced k fs ((ns ++ two.own) ++ s ∷ [])) (ns ++ two.own)) t
              ∙ ap (nodes_reduced k fs) (append_assoc ns two.own (s ∷ [])));
          compared = λ le. two.after.compared (omega arith);
        };
        tree =
            evals_one text days two.own (at + length b) _ sign (told_of days (length text) operand rest)
            (place_past text at b (sign_text sign ++ spelled operand rest) here) two.tree;
      }

  pub reads_chain : (left : Form) (b : List ℕ) (op : Binary) (right : Form) → Reads left → Reads right → Reads (Chain left b op right)
  reads_chain left b op right ih ih' L e fs ns o c q at rest h some is loose single follows here =
      let bytes = spelled (Chain left b op right) rest in
      let beyond = spelled right rest in
      let more = symbol_text b (symbol.Operator op) beyond in
      let v = levels op is.0 in
      let loose' : Loose L fs = loose (omega (arith, is.1, v.most)) in
      let one =
      ih (left_level_of op) e fs ns o c q at more h (omega (arith, is.0, v.left)) is.2 (λ le.
      loose_up L (left_level_of op) fs (omega (arith, is.1, v.left)) loose') (λ le. single (omega (arith, is.1, v.left)))
      (calm_follows b (text_of (symbol.Operator op)) beyond is.3 (operator_calm op is.0)) here in
      let s = spot_of (one.past + length b) (node.Binary op) in
      let two = operator_move p text one.power one.frames one.nodes one.opened one.crowded q one.past b op beyond is.3 is.0
      (λ t. one.after.compared (v.compared t).1
      ∙ single (omega (arith, is.1, (v.compared t).0))) (form_starts p q (right_level_of op) right rest is.4) one.goes.stands in
      let still = loose_same (level_of op) fs (ns ++ one.own) (loose_up L (level_of op) fs is.1 loose') in
      let frames : frames_reduced (level_of op) one.frames ≡ fs = one.after.reduced (level_of op) v.left ∙ still.0 in
      let nodes : nodes_reduced (level_of op) one.frames one.nodes ≡ ns ++ one.own = one.after.whole (level_of op) v.left ∙ still.1 in
      let there : Goes p text (rd (expect.Operator one.power) one.frames one.nodes one.opened one.crowded q) one.past more
      (rd expect.Operand (frame.Pending s ∷ fs) (ns ++ one.own) one.opened one.crowded q) two.0 beyond =
      subst (λ (x : List Spot). Goes p text (rd (expect.Operator one.power) one.frames one.nodes one.opened one.crowded q) one.past more
      (rd expect.Operand (frame.Pending s ∷ fs) x one.opened one.crowded q) two.0 beyond) nodes
      (subst (λ (x : List Frame). Goes p text (rd (expect.Operator one.power) one.frames one.nodes one.opened one.crowded q) one.past more
      (rd expect.Operand (frame.Pending s ∷ x) (nodes_reduced (level_of op) one.frames one.nodes) one.opened one.crowded q) two.0 beyond) frames two.1) in
      let three =
      ih' (right_level_of op) expect.Operand (frame.Pending s ∷ fs) (ns ++ one.own) one.opened one.crowded q two.0 rest tt (omega (arith, v.right)) is.4
      (λ le. omega (arith, v.right))
      (λ le. (let t : nat_eq (level_of op) 3 ≡ false = (let low : level_of op ≤ 2 = omega (arith, v.right) in grind (arith, nat_tests)) in
      ap (λ (x : Bool). x || compares fs) t ∙ single (omega (arith, is.1, v.right)))) follows there.stands in
      record {
        power = three.power;
        frames = three.frames;
        nodes = three.nodes;
        opened = three.opened;
        crowded = three.crowded;
        past = three.past;
        own = (one.own ++ three.own) ++ s ∷ [];
        goes =
            then_goes p text (rd e fs ns o c q) at bytes _ one.past more _ three.past rest one.goes
            (then_goes p text _ one.past more _ two.0 beyond _ three.past rest there three.goes);
        after = record {
          atom = λ le. absurd (omega (arith, is.1, v.most));
          outer = three.after.outer;
          reduced = λ k le. (let t : nat_le k (level_of op) ≡ true = (let small : k ≤ level_of op = omega (arith, is.1) in grind (arith, nat_tests)) in
              three.after.reduced k (omega (arith, is.1, v.right)) ∙ ap (λ (x : Bool). cond x (frames_reduced k fs) (frame.Pending s ∷ fs)) t);
          whole = λ k le. (let t : nat_le k (level_of op) ≡ true = (let small : k ≤ level_of op = omega (arith, is.1) in grind (arith, nat_tests)) in
              three.after.whole k (omega (arith, is.1, v.right))
              ∙ ap (λ (x : Bool). cond x (nodes_reduced k fs (((ns ++ one.own) ++ three.own) ++ s ∷ [])) ((ns ++ one.own) ++ three.own)) t
              ∙ ap (λ (x : List Spot). nodes_reduced k fs (x ++ s ∷ [])) (append_assoc ns one.own three.own)
              ∙ ap (nodes_reduced k fs) (append_assoc ns (one.own ++ three.own) (s ∷ [])));
          compared = λ le. (let t : nat_eq (level_of op) 3 ≡ false = (let high : 4 ≤ level_of op = omega (arith, is.1) in grind (arith, nat_tests)) in
              three.after.compared (omega (arith, is.1, v.right)) ∙ ap (λ (x : Bool). x || compares fs) t);
        };
        tree =
            evals_two text days one.own three.own (one.past + length b) _ op (told_of days (length text) left more) (told_of days (length text) right rest)
            (place_past text one.past b (text_of (symbol.Operator op) ++ beyond) one.goes.stands) one.tree three.tree;
      }
