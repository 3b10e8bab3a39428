-- Each form of the grammar is read, and each text.
use Rattle.std.proofs.Common.{◌≡◌, ℕ, ◌+◌, ◌-◌, Bool, true, false, List, [], ◌∷◌, ◌++◌, length, Option, refl, ap, subst, arith}
use Rattle.std.proofs.Common.{inl, inr}
use Rattle.expr_lang.specs.declared.tree.Place.{Place}
use Rattle.expr_lang.specs.declared.words.Symbol.TheVariants as symbol
use Rattle.expr_lang.specs.declared.words.Call.{Call}
use Rattle.expr_lang.specs.declared.words.Call.TheVariants as call
use Rattle.expr_lang.specs.declared.reading.Spot.{Spot}
use Rattle.expr_lang.specs.declared.reading.Node.TheVariants as node
use Rattle.expr_lang.specs.declared.reading.Frame.{Frame}
use Rattle.expr_lang.specs.declared.reading.Frame.TheVariants as frame
use Rattle.expr_lang.specs.declared.reading.Expect.{Expect}
use Rattle.expr_lang.specs.declared.reading.Expect.TheVariants as expect
use Rattle.expr_lang.specs.declared.reading.Reader.{Reader}
use Rattle.expr_lang.specs.Reading.{spot_of, call_frame, joined, node_of_call, is_list_of, first_argument}
use Rattle.expr_lang.specs.Words.{text_of}
use Rattle.expr_grammar.specs.Grammar.{Form, Number, Item, Bracket, Power, Sign, Chain, Arguments, If, Condition, DaysBetween, Apply, IsBlank, IsCall}
use Rattle.expr_grammar.specs.Grammar.{IsForm, is_item, all_plain, after_blanks, symbol_text, spelled}
use Rattle.expr_grammar.proofs.Stored.{applied}
use Rattle.expr_grammar.proofs.Steps.{At, Goes}
use Rattle.expr_grammar.proofs.Moves.{rd, IsOpen, name_move, last_move, lone_move, lone_item}
use Rattle.expr_grammar.proofs.Completed.{told_in, told_of, calm_follows, close_calm, evals_item}
use Rattle.expr_grammar.proofs.Productions.{Reading, Reads, both_come, reads_number, reads_item, reads_bracket, reads_power, reads_sign, reads_chain}
use Rattle.expr_grammar.proofs.Few.{Few}
use Rattle.expr_grammar.proofs.Calls.{reads_if, reads_between, reads_condition, Lists, lists_one, lists_more, Short}
use Rattle.expr_grammar.proofs.Applied.{Plains, plains, called, apply_one, apply_list}

module _ (p : Place) (days : List (List ℕ)) (text : List ℕ) where
  -- with items and numbers for arguments
  apply_plain : (b d : List ℕ) (F : Form) (g : List ℕ) (L : ℕ) (e : Expect) (fs : List Frame) (ns : List Spot) (o : ℕ) (c : Option ℕ) (q : Bool) (at : ℕ)
      (rest : List ℕ)
      → IsOpen e → IsCall p call.FirstNonNull → IsBlank b → IsBlank d → IsForm p q 0 F → all_plain F ≡ true → IsBlank g
      → At text at (spelled (Apply b call.FirstNonNull d F g) rest)
      → Reading p days text L fs ns q (rd e fs ns o c q) at (spelled (Apply b call.FirstNonNull d F g) rest) rest
      (told_of days (length text) (Apply b call.FirstNonNull d F g) rest)
  apply_plain b d F g L e fs ns o c q at rest h is blank blank' form plain blank'' here =
      let w = name_move p text e fs ns o c q at b call.FirstNonNull d (spelled F (symbol_text g symbol.Close rest)) h blank is blank' here in
      close w.1.0 w.1.1 (plains p days text F (at + length b) fs ns (o + 1) w.0 q w.1.0 (symbol_text g symbol.Close rest) plain form
      (calm_follows g (text_of symbol.Close) rest blank'' close_calm) w.1.1.stands)
    where
      close : {r : Reader} (past : ℕ)
          → Goes p text (rd e fs ns o c q) at (spelled (Apply b call.FirstNonNull d F g) rest) r past (spelled F (symbol_text g symbol.Close rest))
          → Plains p days text (at + length b) fs ns q r past (spelled F (symbol_text g symbol.Close rest)) (symbol_text g symbol.Close rest)
          (told_in (at + length b) days (length text) F (symbol_text g symbol.Close rest))
          → Reading p days text L fs ns q (rd e fs ns o c q) at (spelled (Apply b call.FirstNonNull d F g) rest) rest
          (told_of days (length text) (Apply b call.FirstNonNull d F g) rest)
      close {r} past goes z =
          let move = last_move p text fs z.nodes z.opened z.crowded z.comes.0 g rest blank'' q z.last z.comes.1.stands in
          called p days text b call.FirstNonNull d F g L z.last.at fs ns q (rd e fs ns o c q) at rest (z.opened - 1) z.crowded (joined z.last z.nodes) z.own
          (node_of_call z.last.call) z.list (ap node_of_call z.call) z.place here z.tree
          (both_come p days text (rd e fs ns o c q) at (spelled (Apply b call.FirstNonNull d F g) rest) r past (spelled F (symbol_text g symbol.Close rest)) _
          rest goes
          (both_come p days text r past (spelled F (symbol_text g symbol.Close rest)) _ z.comes.0 (symbol_text g symbol.Close rest) _ rest z.comes.1 move))

  record IsLone (name : Call) : Type 0 where
    first : first_argument name ≡ expect.Item
    list : is_list_of name ≡ false
    does : node_of_call name ≡ node.Unary (applied name)

  -- with an item
  apply_item : (b : List ℕ) (name : Call) (d : List ℕ) (F : Form) (g : List ℕ) → IsLone name
      → (L : ℕ) (e : Expect) (fs : List Frame) (ns : List Spot) (o : ℕ) (c : Option ℕ) (q : Bool) (at : ℕ) (rest : List ℕ)
      → IsOpen e → IsCall p name → IsBlank b → IsBlank d → IsForm p q 1 F → is_item F ≡ true → IsBlank g → At text at (spelled (Apply b name d F g) rest)
      → Reading p days text L fs ns q (rd e fs ns o c q) at (spelled (Apply b name d F g) rest) rest (told_of days (length text) (Apply b name d F g) rest)
  apply_item b name d (Item a f word) g one L e fs ns o c q at rest h is blank blank' form item blank'' here =
      let k = at + length b in
      let cf = call_frame k name 0 in
      let more = after_blanks a word (symbol_text g symbol.Close rest) in
      let w = name_move p text e fs ns o c q at b name d more h blank is blank' here in
      let r = rd expect.Item (frame.Call cf ∷ fs) ns (o + 1) w.0 q in
      let there : Goes p text (rd e fs ns o c q) at (spelled (Apply b name d (Item a f word) g) rest) r w.1.0 more =
      subst (λ (x : Expect). Goes p text (rd e fs ns o c q) at (spelled (Apply b name d (Item a f word) g) rest) (rd x (frame.Call cf ∷ fs) ns (o + 1) w.0 q)
      w.1.0 more) one.first w.1.1 in
      let s = spot_of (w.1.0 + length a) (node.Item f) in
      let x = lone_item p text (frame.Call cf ∷ fs) ns (o + 1) w.0 w.1.0 a (symbol_text g symbol.Close rest) form.0 q f word form.1 form.2 there.stands in
      let y = lone_move p text fs (ns ++ s ∷ []) (o + 1) w.0 x.0 g rest blank'' q cf x.1.stands in
      called p days text b name d (Item a f word) g L k fs ns q (rd e fs ns o c q) at rest (o + 1 - 1) w.0 (joined cf (ns ++ s ∷ [])) (s ∷ [])
      (node_of_call name) refl one.does refl here (evals_item text days w.1.0 a f word (symbol_text g symbol.Close rest) form.2 there.stands)
      (both_come p days text (rd e fs ns o c q) at (spelled (Apply b name d (Item a f word) g) rest) r w.1.0 more _ rest there
      (both_come p days text r w.1.0 more (rd expect.Close (frame.Call cf ∷ fs) (ns ++ s ∷ []) (o + 1) w.0 q) x.0 (symbol_text g symbol.Close rest) _ rest x.1
      y))
  apply_item b name d F g one L e fs ns o c q at rest h is blank blank' form item blank'' here = absurd cc

  pub reads_apply : (b : List ℕ) (name : Call) (d : List ℕ) (F : Form) (g : List ℕ) → Reads p days text F → Lists p days text F
      → Reads p days text (Apply b name d F g)
  reads_apply b call.IsNull d F g ih il L e fs ns o c q at rest h some is loose single follows here =
      apply_item b call.IsNull d F g (record { first = refl; list = refl; does = refl }) L e fs ns o c q at rest h is.0 is.1 is.2 is.3 is.4 is.5 here
  reads_apply b call.IsNotNull d F g ih il L e fs ns o c q at rest h some is loose single follows here =
      apply_item b call.IsNotNull d F g (record { first = refl; list = refl; does = refl }) L e fs ns o c q at rest h is.0 is.1 is.2 is.3 is.4 is.5 here
  reads_apply b call.HasValue d F g ih il L e fs ns o c q at rest h some is loose single follows here =
      apply_item b call.HasValue d F g (record { first = refl; list = refl; does = refl }) L e fs ns o c q at rest h is.0 is.1 is.2 is.3 is.4 is.5 here
  reads_apply b call.FirstNonNull d F g ih il L e fs ns o c q at rest h some is loose single follows here =
      apply_plain b d F g L e fs ns o c q at rest h is.0 is.1 is.2 is.3 is.4 is.5 here
  reads_apply b call.Greatest d F g ih il L e fs ns o c q at rest h some is loose single follows here =
      apply_list p days text b call.Greatest d F g (record { first = refl; later = refl; least = refl; most = refl; list = refl; does = refl }) il L e fs ns o c
      q at rest h is.0 is.1 is.2 is.3 is.5 here
  reads_apply b call.Least d F g ih il L e fs ns o c q at rest h some is loose single follows here =
      apply_list p days text b call.Least d F g (record { first = refl; later = refl; least = refl; most = refl; list = refl; does = refl }) il L e fs ns o c q
      at rest h is.0 is.1 is.2 is.3 is.5 here
  reads_apply b call.Zing d F g ih il L e fs ns o c q at rest h some is loose single follows here =
      apply_one p days text b call.Zing d F g (record { first = refl; least = refl; list = refl; does = refl }) ih L e fs ns o c q at rest h is.0 is.1 is.2 is.3
      is.5 here
  reads_apply b call.Oizp d F g ih il L e fs ns o c q at rest h some is loose single follows here =
      apply_one p days text b call.Oizp d F g (record { first = refl; least = refl; list = refl; does = refl }) ih L e fs ns o c q at rest h is.0 is.1 is.2 is.3
      is.5 here
  reads_apply b name d F g ih il L e fs ns o c q at rest h some is loose single follows here = absurd is.4

  sub : {A B : Type 0} → (A → B) → Short p days text A → Short p days text B
  sub f (inl short) = inl short
  sub f (inr few) = inr (f few)

  -- in a text of at most 4,096 bytes, or where no list is longer
  pub reads : (F : Form) → Short p days text (Few F) → Reads p days text F × Lists p days text F
  reads (Number b digits decimals) short =
      (let one = reads_number p days text b digits decimals in (one, lists_one p days text (Number b digits decimals) one (λ q is. is)))
  reads (Item b f word) short = (let one = reads_item p days text b f word in (one, lists_one p days text (Item b f word) one (λ q is. is)))
  reads (Bracket b inner d) short =
      (let one = reads_bracket p days text b inner d (reads inner short).0 in (one, lists_one p days text (Bracket b inner d) one (λ q is. is)))
  reads (Power atom b d digits) short =
      (let one =
      reads_power p days text atom b d digits (reads atom short).0 in (
        one,
        lists_one p days text (Power atom b d digits) one (λ q is. (omega arith, is.1, is.2, is.3, is.4)),
      ))
  reads (Sign b sign operand) short =
      (let one =
      reads_sign p days text b sign operand (reads operand short).0 in (
        one,
        lists_one p days text (Sign b sign operand) one (λ q is. (omega arith, is.1, is.2, is.3)),
      ))
  reads (Chain left b op right) short =
      (let one =
      reads_chain p days text left b op right (reads left (sub (λ h. h.0) short)).0 (reads right (sub (λ h. h.1) short)).0 in (
        one,
        lists_one p days text (Chain left b op right) one (λ q is. (is.0, is.0, is.2, is.3, is.4)),
      ))
  reads (Arguments first b last) short = (
    λ L e fs ns o c q at rest h some is. absurd (omega (arith, is.0)),
    lists_more p days text first b last (sub (λ h. h.0) short) (reads first (sub (λ h. h.1) short)).1 (reads last (sub (λ h. h.2) short)).0,
  )
  reads (If b d test f one g other i) short =
      (let r =
      reads_if p days text b d test f one g other i (reads test (sub (λ h. h.0) short)).0 (reads one (sub (λ h. h.1) short)).0
      (reads other (sub (λ h. h.2) short)).0 in (
        r,
        lists_one p days text (If b d test f one g other i) r (λ q is. is),
      ))
  reads (Condition b d f test g i one j other l) short =
      (let r =
      reads_condition p days text b d f test g i one j other l (reads test (sub (λ h. h.0) short)).0 (reads one (sub (λ h. h.1) short)).0
      (reads other (sub (λ h. h.2) short)).0 in (
        r,
        lists_one p days text (Condition b d f test g i one j other l) r (λ q is. is),
      ))
  reads (DaysBetween b d one f other g) short =
      (let r =
      reads_between p days text b d one f other g (reads one (sub (λ h. h.0) short)).0 (reads other (sub (λ h. h.1) short)).0 in
      (r, lists_one p days text (DaysBetween b d one f other g) r (λ q is. is)))
  reads (Apply b name d arguments g) short =
      (let h = reads arguments short in
      let r = reads_apply b name d arguments g h.0 h.1 in (r, lists_one p days text (Apply b name d arguments g) r (λ q is. is)))
