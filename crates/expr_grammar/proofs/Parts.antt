-- What of a form has been read where a reader stands: the productions that are begun, the last first.
use Rattle.std.proofs.Common.{◌≡◌, ℕ, ◌<◌, ◌≤◌, Bool, true, false, cond, List, [], ◌∷◌, refl, ap, ◌∙◌, arith}
use Rattle.std.specs.Prelude.{◌||◌, nat_eq, nat_le}
use Rattle.std.proofs.lemmas.Bool.Decides.{nat_tests}
use Rattle.expr_lang.specs.declared.tree.Place.{Place}
use Rattle.expr_lang.specs.declared.tree.Unary.{Unary}
use Rattle.expr_lang.specs.declared.tree.Binary.{Binary}
use Rattle.expr_lang.specs.declared.words.Symbol.TheVariants as symbol
use Rattle.expr_lang.specs.declared.words.Call.{Call}
use Rattle.expr_lang.specs.declared.words.Call.TheVariants as call
use Rattle.expr_lang.specs.declared.reading.Node.TheVariants as node
use Rattle.expr_lang.specs.declared.reading.Frame.{Frame}
use Rattle.expr_lang.specs.declared.reading.Frame.TheVariants as frame
use Rattle.expr_lang.specs.Print.{left_level_of, right_level_of}
use Rattle.expr_lang.specs.Reading.{level_of, node_level, enclosing_of, compares, frames_reduced, spot_of, call_frame}
use Rattle.expr_grammar.specs.Grammar.{Form, Number, Item, Bracket, Power, Sign, Chain, Arguments, If, Condition, DaysBetween, Apply, IsBlank, IsSign}
use Rattle.expr_grammar.specs.Grammar.{IsCall, IsForm, sign_text, after_blanks, symbol_text, spelled}
use Rattle.expr_grammar.proofs.Completed.{levels}

-- a production that is begun, with the places that the reader keeps
pub data Part : Type 0 where
  InChain : Form → List ℕ → Binary → ℕ → Part
  InSign : List ℕ → Unary → ℕ → Part
  InBracket : List ℕ → Part
  InQuote : List ℕ → List ℕ → List ℕ → ℕ → Part
  InIf : List ℕ → List ℕ → ℕ → Part
  InThen : List ℕ → List ℕ → Form → List ℕ → ℕ → Part
  InElse : List ℕ → List ℕ → Form → List ℕ → Form → List ℕ → ℕ → Part
  InYes : List ℕ → List ℕ → List ℕ → Form → List ℕ → List ℕ → ℕ → Part
  InNo : List ℕ → List ℕ → List ℕ → Form → List ℕ → List ℕ → Form → List ℕ → ℕ → Part
  InFirst : List ℕ → List ℕ → ℕ → Part
  InSecond : List ℕ → List ℕ → Form → List ℕ → ℕ → Part
  InOne : List ℕ → Call → List ℕ → ℕ → Part
  InMore : List ℕ → Call → List ℕ → Form → List ℕ → ℕ → ℕ → Part

abbrev pub spelled_part : Part → List ℕ → List ℕ
spelled_part (InChain left b op k) rest = spelled left (symbol_text b (symbol.Operator op) rest)
spelled_part (InSign b sign k) rest = after_blanks b (sign_text sign) rest
spelled_part (InBracket b) rest = symbol_text b symbol.Open rest
spelled_part (InQuote b c d k) rest = symbol_text b (symbol.Call call.Condition) (symbol_text c symbol.Open (symbol_text d symbol.Quote rest))
spelled_part (InIf b c k) rest = symbol_text b (symbol.Call call.If) (symbol_text c symbol.Open rest)
spelled_part (InThen b c test d k) rest = symbol_text b (symbol.Call call.If) (symbol_text c symbol.Open (spelled test (symbol_text d symbol.Comma rest)))
spelled_part (InElse b c test d one e k) rest =
    symbol_text b (symbol.Call call.If) (symbol_text c symbol.Open (spelled test (symbol_text d symbol.Comma (spelled one (symbol_text e symbol.Comma rest)))))
spelled_part (InYes b c d test e f k) rest =
    symbol_text b (symbol.Call call.Condition) (symbol_text c symbol.Open
    (symbol_text d symbol.Quote (spelled test (symbol_text e symbol.Quote (symbol_text f symbol.Comma rest)))))
spelled_part (InNo b c d test e f one g k) rest =
    symbol_text b (symbol.Call call.Condition) (symbol_text c symbol.Open
    (symbol_text d symbol.Quote (spelled test (symbol_text e symbol.Quote (symbol_text f symbol.Comma (spelled one (symbol_text g symbol.Comma rest)))))))
spelled_part (InFirst b c k) rest = symbol_text b (symbol.Call call.DaysBetween) (symbol_text c symbol.Open rest)
spelled_part (InSecond b c one d k) rest =
    symbol_text b (symbol.Call call.DaysBetween) (symbol_text c symbol.Open (spelled one (symbol_text d symbol.Comma rest)))
spelled_part (InOne b name c k) rest = symbol_text b (symbol.Call name) (symbol_text c symbol.Open rest)
spelled_part (InMore b name c first d k n) rest = symbol_text b (symbol.Call name) (symbol_text c symbol.Open (spelled first (symbol_text d symbol.Comma rest)))

abbrev pub spelled_parts : List Part → List ℕ → List ℕ
spelled_parts [] rest = rest
spelled_parts (x ∷ xs) rest = spelled_parts xs (spelled_part x rest)

abbrev pub frames_of : List Part → List Frame
frames_of [] = []
frames_of (InChain left b op k ∷ ps) = frame.Pending (spot_of k (node.Binary op)) ∷ frames_of ps
frames_of (InSign b sign k ∷ ps) = frame.Pending (spot_of k (node.Unary sign)) ∷ frames_of ps
frames_of (InBracket b ∷ ps) = frame.Bracket ∷ frames_of ps
frames_of (InQuote b c d k ∷ ps) = frame.Quote ∷ frame.Call (call_frame k call.Condition 0) ∷ frames_of ps
frames_of (InIf b c k ∷ ps) = frame.Call (call_frame k call.If 0) ∷ frames_of ps
frames_of (InThen b c test d k ∷ ps) = frame.Call (call_frame k call.If 1) ∷ frames_of ps
frames_of (InElse b c test d one e k ∷ ps) = frame.Call (call_frame k call.If 2) ∷ frames_of ps
frames_of (InYes b c d test e f k ∷ ps) = frame.Call (call_frame k call.Condition 1) ∷ frames_of ps
frames_of (InNo b c d test e f one g k ∷ ps) = frame.Call (call_frame k call.Condition 2) ∷ frames_of ps
frames_of (InFirst b c k ∷ ps) = frame.Call (call_frame k call.DaysBetween 0) ∷ frames_of ps
frames_of (InSecond b c one d k ∷ ps) = frame.Call (call_frame k call.DaysBetween 1) ∷ frames_of ps
frames_of (InOne b name c k ∷ ps) = frame.Call (call_frame k name 0) ∷ frames_of ps
frames_of (InMore b name c first d k n ∷ ps) = frame.Call (call_frame k name n) ∷ frames_of ps

abbrev pub quoted_of : List Part → Bool
quoted_of [] = false
quoted_of (InQuote b c d k ∷ ps) = true
quoted_of (x ∷ ps) = quoted_of ps

-- how tightly what comes next has to bind
abbrev pub hole : List Part → ℕ
hole (InChain left b op k ∷ ps) = right_level_of op
hole (InSign b sign k ∷ ps) = 6
hole ps = 1

abbrev pub IsUsual : Call → Type 0
IsUsual call.Greatest = Unit {0}
IsUsual call.Least = Unit {0}
IsUsual call.Zing = Unit {0}
IsUsual call.Oizp = Unit {0}
IsUsual _ = ⊥

abbrev pub IsMany : Call → Type 0
IsMany call.Greatest = Unit {0}
IsMany call.Least = Unit {0}
IsMany _ = ⊥

abbrev pub Fit : Place → List Part → Type 0
Fit p [] = Unit {0}
Fit p (InChain left b op k ∷ ps) = (1 ≤ level_of op) × (hole ps ≤ level_of op) × IsForm p (quoted_of ps) (left_level_of op) left × IsBlank b × Fit p ps
Fit p (InSign b sign k ∷ ps) = IsBlank b × IsSign sign × Fit p ps
Fit p (InBracket b ∷ ps) = IsBlank b × Fit p ps
Fit p (InQuote b c d k ∷ ps) = IsCall p call.Condition × (quoted_of ps ≡ false) × IsBlank b × IsBlank c × IsBlank d × Fit p ps
Fit p (InIf b c k ∷ ps) = IsCall p call.If × IsBlank b × IsBlank c × Fit p ps
Fit p (InThen b c test d k ∷ ps) = IsCall p call.If × IsBlank b × IsBlank c × IsForm p (quoted_of ps) 1 test × IsBlank d × Fit p ps
Fit p (InElse b c test d one e k ∷ ps) =
    IsCall p call.If × IsBlank b × IsBlank c × IsForm p (quoted_of ps) 1 test × IsBlank d × IsForm p (quoted_of ps) 1 one × IsBlank e × Fit p ps
Fit p (InYes b c d test e f k ∷ ps) =
    IsCall p call.Condition × (quoted_of ps ≡ false) × IsBlank b × IsBlank c × IsBlank d × IsForm p true 1 test × IsBlank e × IsBlank f × Fit p ps
Fit p (InNo b c d test e f one g k ∷ ps) =
    IsCall p call.Condition × (quoted_of ps ≡ false) × IsBlank b × IsBlank c × IsBlank d × IsForm p true 1 test × IsBlank e × IsBlank f
    × IsForm p (quoted_of ps) 1 one × IsBlank g × Fit p ps
Fit p (InFirst b c k ∷ ps) = IsCall p call.DaysBetween × IsBlank b × IsBlank c × Fit p ps
Fit p (InSecond b c one d k ∷ ps) = IsCall p call.DaysBetween × IsBlank b × IsBlank c × IsForm p (quoted_of ps) 1 one × IsBlank d × Fit p ps
Fit p (InOne b name c k ∷ ps) = IsCall p name × IsUsual name × IsBlank b × IsBlank c × Fit p ps
Fit p (InMore b name c first d k n ∷ ps) = IsCall p name × IsMany name × IsBlank b × IsBlank c × IsForm p (quoted_of ps) 0 first × IsBlank d × Fit p ps

-- a form may stand where it has to bind less tightly
pub weaken : (p : Place) (q : Bool) (L M : ℕ) (F : Form) → M ≤ L → IsForm p q L F → IsForm p q M F
weaken p q L M (Number b digits decimals) le h = h
weaken p q L M (Item b f word) le h = h
weaken p q L M (Bracket b inner c) le h = h
weaken p q L M (Power atom b c digits) le h = (omega (arith, h.0), h.1, h.2, h.3, h.4)
weaken p q L M (Sign b sign operand) le h = (omega (arith, h.0), h.1, h.2, h.3)
weaken p q L M (Chain left b op right) le h = (h.0, omega (arith, h.1), h.2, h.3, h.4)
weaken p q L M (Arguments first b last) le h = (omega (arith, h.0), h.1, h.2, h.3)
weaken p q L M (If b c test d one e other f) le h = h
weaken p q L M (Condition b c d test e f one g other i) le h = h
weaken p q L M (DaysBetween b c one d other e) le h = h
weaken p q L M (Apply b name c arguments d) le h = h

-- each operator that binds at least so tightly binds at least as tightly as a second level
abbrev pub Above : ℕ → ℕ → List Part → Type 0
Above least m (InChain left b op k ∷ ps) = (least ≤ level_of op → m ≤ level_of op) × Above least m ps
Above least m (InSign b sign k ∷ ps) = Above least m ps
Above least m ps = Unit {0}

-- no operator is pending that binds so tightly
abbrev pub Below : ℕ → List Part → Type 0
Below least (InChain left b op k ∷ ps) = level_of op < least
Below least (InSign b sign k ∷ ps) = ⊥
Below least ps = Unit {0}

pub hole_small : (p : Place) (ps : List Part) → Fit p ps → hole ps ≤ 6
hole_small p (InChain left b op k ∷ ps) h = (let v = levels op h.0 in omega (arith, v.most, v.right))
hole_small p ps h = omega arith

pub record Reduced (p : Place) (least m : ℕ) (ps : List Part) (F : Form) : Type 0 where
  pub parts : List Part
  pub form : Form
  pub spell : (rest : List ℕ) → spelled_parts ps (spelled F rest) ≡ spelled_parts parts (spelled form rest)
  pub fit : Fit p parts
  pub frames : frames_reduced least (frames_of ps) ≡ frames_of parts
  pub quoted : quoted_of parts ≡ quoted_of ps
  pub is : IsForm p (quoted_of parts) m form
  pub low : Below least parts

pub reduced : (p : Place) (least m : ℕ) (ps : List Part) (F : Form) → 1 ≤ least → least ≤ 6 → m ≤ 6 → Fit p ps → Above least m ps → IsForm p (quoted_of ps) m F
    → IsForm p (quoted_of ps) (hole ps) F → Reduced p least m ps F
reduced p least m (InChain left b op k ∷ ps) F some few few' fit above is in_hole =
    (elim (nat_le least (level_of op)) as (λ t. nat_le least (level_of op) ≡ t → Reduced p least m (InChain left b op k ∷ ps) F) [
      | true ↦ λ e.
          let le : least ≤ level_of op = grind (arith, nat_tests) in
          let r =
          reduced p least m ps (Chain left b op F) some few few' fit.4 above.1 (fit.0, above.0 le, fit.2, fit.3, in_hole) (
            fit.0,
            fit.1,
            fit.2,
            fit.3,
            in_hole,
          ) in
          record {
            parts = r.parts;
            form = r.form;
            spell = r.spell;
            fit = r.fit;
            frames =
                ap (λ (x : Bool). cond x (frames_reduced least (frames_of ps)) (frames_of (InChain left b op k ∷ ps))) e ∙ r.frames;
            quoted = r.quoted;
            is =
                r.is;
            low = r.low;
          }
      | false ↦ λ e.
          record {
            parts = InChain left b op k ∷ ps;
            form = F;
            spell = λ rest. refl;
            fit = fit;
            quoted = refl;
            is = is;
            frames = ap (λ (x : Bool). cond x (frames_reduced least (frames_of ps)) (frames_of (InChain left b op k ∷ ps))) e;
            low = grind (arith, nat_tests);
          }
    ]) refl
reduced p least m (InSign b sign k ∷ ps) F some few few' fit above is in_hole =
    let e : nat_le least 6 ≡ true = grind (arith, nat_tests) in
    let r = reduced p least m ps (Sign b sign F) some few few' fit.2 above (few', fit.0, fit.1, in_hole) (hole_small p ps fit.2, fit.0, fit.1, in_hole) in
    record {
      parts = r.parts;
      form = r.form;
      spell = r.spell;
      fit = r.fit;
      frames =
          ap (λ (x : Bool). cond x (frames_reduced least (frames_of ps)) (frames_of (InSign b sign k ∷ ps))) e ∙ r.frames;
      quoted = r.quoted;
      is = r.is;
      low =
          r.low;
    }
reduced p least m ps F some few few' fit above is in_hole =
    record { parts = ps; form = F; spell = λ rest. refl; fit = fit; frames = refl; quoted = refl; is = is; low = tt }

-- with the same level twice
pub above_same : (least : ℕ) (ps : List Part) → Above least least ps
above_same least (InChain left b op k ∷ ps) = ((λ le. le), above_same least ps)
above_same least (InSign b sign k ∷ ps) = above_same least ps
above_same least ps = tt

or_false : (a b : Bool) → a || b ≡ false → (a ≡ false) × (b ≡ false)
or_false true b e = absurd cc
or_false false b e = (refl, e)

-- where no comparison is pending
pub above_compared : (ps : List Part) → compares (frames_of ps) ≡ false → Above 3 4 ps
above_compared (InChain left b op k ∷ ps) e =
    let h = or_false (nat_eq (level_of op) 3) (compares (frames_of ps)) e in
    ((λ le. (let f = h.0 in grind (arith, nat_tests))), above_compared ps h.1)
above_compared (InSign b sign k ∷ ps) e = above_compared ps e
above_compared ps e = tt

-- what encloses an operand stays
pub enclosing_same : (least : ℕ) (fs : List Frame) → enclosing_of (frames_reduced least fs) ≡ enclosing_of fs
enclosing_same least [] = refl
enclosing_same least (frame.Pending s ∷ fs) =
    elim (nat_le least (node_level s.node)) as (λ t. enclosing_of (cond t (frames_reduced least fs) (frame.Pending s ∷ fs)) ≡ enclosing_of fs)
    [ true ↦ enclosing_same least fs | false ↦ refl ]
enclosing_same least (frame.Bracket ∷ fs) = refl
enclosing_same least (frame.Quote ∷ fs) = refl
enclosing_same least (frame.Call c ∷ fs) = refl

pub below_hole : (p : Place) (least : ℕ) (ps : List Part) → 1 ≤ least → Fit p ps → Below least ps → hole ps ≤ least
below_hole p least (InChain left b op k ∷ ps) some fit h = (let v = levels op fit.0 in omega (arith, v.right, h))
below_hole p least (InSign b sign k ∷ ps) some fit h = absurd h
below_hole p least ps some fit h = omega arith
