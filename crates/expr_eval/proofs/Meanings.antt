-- The postfix form gives the meaning of the tree.
use Rattle.std.proofs.Common.{◌≡◌, ℕ, suc, ◌+◌, Bool, true, false, cond, not, List, [], ◌∷◌, ◌++◌, length, take, drop, reverse, map}
use Rattle.std.proofs.Common.{Option, Some, None, Result, Ok, Err, refl, sym, ap, subst, ◌∙◌, append_assoc, arith}
use Rattle.std.specs.Prelude.{is_none, unwrap_or, nat_lt, ◌&&◌, ◌||◌}
use Rattle.std.specs.Option.{option_or}
use Rattle.std.specs.List.{list_any, list_all}
use Rattle.std.proofs.lemmas.List.{append-nil, take_at, drop_at, length-reverse, reverse-reverse, length-append, reverse-append}
use Rattle.dh_base.specs.declared.plain.Strategy.{Strategy}
use Rattle.dh_base.specs.declared.plain.Strategy.TheVariants as strategy
use Rattle.dh_base.specs.Fractions.{Fraction}
use Rattle.expr_lang.specs.declared.tree.Item.{Item}
use Rattle.expr_lang.specs.declared.tree.Leaf.{Leaf}
use Rattle.expr_lang.specs.declared.tree.Leaf.TheVariants as leaf
use Rattle.expr_lang.specs.declared.tree.Unary.{Unary}
use Rattle.expr_lang.specs.declared.tree.Unary.TheVariants as unary
use Rattle.expr_lang.specs.declared.tree.Binary.{Binary}
use Rattle.expr_lang.specs.declared.tree.Binary.TheVariants as binary
use Rattle.expr_lang.specs.Shape.{Shape, Operand, One, Two, Choice}
use Rattle.expr_eval.specs.declared.value.Value.{Value}
use Rattle.expr_eval.specs.declared.value.Value.TheVariants as value
use Rattle.expr_eval.specs.declared.value.Cell.{Cell}
use Rattle.expr_eval.specs.declared.value.Cell.TheVariants as cell
use Rattle.expr_eval.specs.declared.code.Instr.{Instr}
use Rattle.expr_eval.specs.declared.code.Instr.TheVariants as instr
use Rattle.expr_eval.specs.declared.code.Postfix.{Postfix}
use Rattle.expr_eval.specs.Applied.{applied_one, applied_two, plain_items}
use Rattle.expr_eval.specs.Meaning.{zero_fraction, number_of, truth_of, then_with, best_of, day_value, leaf_value, chosen_value, skips, value_of_cell}
use Rattle.expr_eval.specs.Meaning.{meaning, value_of}
use Rattle.expr_eval.proofs.Agreed.{value_agrees, plain_agrees}
use Rattle.expr_eval.proofs.Stored.{asked, first_present, Values, alone, valued_one, valued_two, valued_pair, values_of}
use Rattle.expr_lang.specs.Stored.{syntax_of}
use Rattle.expr_lang.specs.Syntax.{Syntax}
use Rattle.expr_eval.specs.Given.{index_in, entry_at, given_by}
use Rattle.expr_eval.specs.Code.{leaf_code, asked_code, first_code, argument_count, Codes, same_code, unary_code, binary_code, if_code}
use Rattle.expr_eval.specs.Code.{codes_of, Go, put_on, put_day, act, go_to, run, top_value, outcome}
use Rattle.expr_eval.specs.Correct.{Means}

bind_same : {A B : Type 0} (v : Result A Value) (f g : A → Result B Value) → ((x : A) → f x ≡ g x) → then_with v f ≡ then_with v g
bind_same (Ok x) f g h = h x
bind_same (Err e) f g h = refl

bind_assoc : {A B C : Type 0} (v : Result A Value) (f : A → Result B Value) (g : B → Result C Value)
    → then_with (then_with v f) g ≡ then_with v (λ x. then_with (f x) g)
bind_assoc (Ok x) f g = refl
bind_assoc (Err e) f g = refl

module _ (entries : List (Option Fraction)) where
  -- a stretch that is passed whole
  passes : (xs rest : List Instr) (stack : List Cell) → run entries (xs ++ rest) (length xs) stack ≡ run entries rest 0 stack
  passes [] rest stack = refl
  passes (x ∷ xs) rest stack = passes xs rest stack

  passes_more : (xs : List Instr) (y : Instr) (rest : List Instr) (stack : List Cell)
      → run entries (xs ++ y ∷ rest) (length xs + 1) stack ≡ run entries rest 0 stack
  passes_more [] y rest stack = refl
  passes_more (x ∷ xs) y rest stack =
      let e : length (x ∷ xs) + 1 ≡ suc (length xs + 1) = omega arith in
      ap (λ (n : ℕ). run entries (x ∷ (xs ++ y ∷ rest)) n stack) e ∙ passes_more xs y rest stack

  puts : (r : Result Cell Value) (rest : List Instr) (stack : List Cell)
      → go_to (run entries rest) (put_on stack r) ≡ then_with r (λ c. run entries rest 0 (c ∷ stack))
  puts (Ok c) rest stack = refl
  puts (Err v) rest stack = refl

  puts_day : (o : Option Fraction) (rest : List Instr) (stack : List Cell)
      → go_to (run entries rest) (put_day stack o) ≡ then_with (day_value o) (λ c. run entries rest 0 (c ∷ stack))
  puts_day (Some f) rest stack = refl
  puts_day None rest stack = refl

  -- what a code does that leaves the value v on top
  abbrev Leaves : List Instr → Result Cell Value → Type 0
  Leaves code v = (rest : List Instr) (stack : List Cell) → run entries (code ++ rest) 0 stack ≡ then_with v (λ c. run entries rest 0 (c ∷ stack))

  -- and one that leaves values, the last on top
  abbrev LeavesAll : List Instr → Result (List Cell) Value → Type 0
  LeavesAll code v = (rest : List Instr) (stack : List Cell) → run entries (code ++ rest) 0 stack ≡ then_with v (λ cs. run entries rest 0 (reverse cs ++ stack))

  pub record Both (codes : Codes) (values : Values) : Type 0 where
    pub one : Leaves codes.one values.one
    pub all : LeavesAll codes.all values.all

  alone_both : (code : List Instr) (v : Result Cell Value) → Leaves code v → Both (same_code code) (alone v)
  alone_both code v h = record {
    one = h;
    all = λ rest stack. h rest stack ∙ sym (bind_assoc v (λ c. Ok (c ∷ [])) (λ cs. run entries rest 0 (reverse cs ++ stack)));
  }

  -- a code, and one instruction after it
  then_instr : (code : List Instr) (v : Result Cell Value) (i : Instr) (f : Cell → Result Cell Value)
      → ((c : Cell) (stack : List Cell) → act entries i (c ∷ stack) ≡ put_on stack (f c)) → Leaves code v → Leaves (code ++ i ∷ []) (then_with v f)
  then_instr code v i f does h rest stack =
      ap (λ (x : List Instr). run entries x 0 stack) (append_assoc code (i ∷ []) rest)
      ∙ h (i ∷ rest) stack
      ∙ bind_same v (λ c. run entries (i ∷ rest) 0 (c ∷ stack)) (λ c. then_with (f c) (λ d. run entries rest 0 (d ∷ stack))) (λ c.
      ap (go_to (run entries rest)) (does c stack) ∙ puts (f c) rest stack)
      ∙ sym (bind_assoc v f (λ d. run entries rest 0 (d ∷ stack)))

  -- two codes, and an operator after them
  then_two : (x y : List Instr) (v w : Result Cell Value) (i : Instr) (f : Cell → Cell → Result Cell Value)
      → ((a b : Cell) (stack : List Cell) → act entries i (b ∷ a ∷ stack) ≡ put_on stack (f a b)) → Leaves x v → Leaves y w
      → Leaves (x ++ (y ++ i ∷ [])) (then_with v (λ a. then_with w (λ b. f a b)))
  then_two x y v w i f does h k rest stack =
      ap (λ (c : List Instr). run entries c 0 stack) (append_assoc x (y ++ i ∷ []) rest ∙ ap (λ (c : List Instr). x ++ c) (append_assoc y (i ∷ []) rest))
      ∙ h (y ++ i ∷ rest) stack
      ∙ bind_same v (λ a. run entries (y ++ i ∷ rest) 0 (a ∷ stack)) (λ a. then_with (then_with w (λ b. f a b)) (λ d. run entries rest 0 (d ∷ stack)))
      (λ a. k (i ∷ rest) (a ∷ stack)
      ∙ bind_same w (λ b. run entries (i ∷ rest) 0 (b ∷ a ∷ stack)) (λ b. then_with (f a b) (λ d. run entries rest 0 (d ∷ stack))) (λ b.
      ap (go_to (run entries rest)) (does a b stack) ∙ puts (f a b) rest stack)
      ∙ sym (bind_assoc w (λ b. f a b) (λ d. run entries rest 0 (d ∷ stack))))
      ∙ sym (bind_assoc v (λ a. then_with w (λ b. f a b)) (λ d. run entries rest 0 (d ∷ stack)))

  and_tests : (b : Bool) (y : List Instr) (w : Result Cell Value) → Leaves y w → (rest : List Instr) (stack : List Cell)
      → go_to (run entries (y ++ rest)) (cond b (Go stack 0) (Go (cell.Truth false ∷ stack) (length y)))
      ≡ then_with (cond b w (Ok (cell.Truth false))) (λ d. run entries rest 0 (d ∷ stack))
  and_tests true y w k rest stack = k rest stack
  and_tests false y w k rest stack = passes y rest (cell.Truth false ∷ stack)

  or_tests : (b : Bool) (y : List Instr) (w : Result Cell Value) → Leaves y w → (rest : List Instr) (stack : List Cell)
      → go_to (run entries (y ++ rest)) (cond b (Go (cell.Truth true ∷ stack) (length y)) (Go stack 0))
      ≡ then_with (cond b (Ok (cell.Truth true)) w) (λ d. run entries rest 0 (d ∷ stack))
  or_tests true y w k rest stack = passes y rest (cell.Truth true ∷ stack)
  or_tests false y w k rest stack = k rest stack

  and_leaves : (x y : List Instr) (v w : Result Cell Value) → Leaves x v → Leaves y w → Leaves (x ++ instr.And (length y) ∷ y) (valued_two binary.And v w)
  and_leaves x y v w h k rest stack =
      ap (λ (c : List Instr). run entries c 0 stack) (append_assoc x (instr.And (length y) ∷ y) rest)
      ∙ h (instr.And (length y) ∷ (y ++ rest)) stack
      ∙ bind_same v (λ a. run entries (instr.And (length y) ∷ (y ++ rest)) 0 (a ∷ stack)) (λ a.
      then_with (cond (truth_of a) w (Ok (cell.Truth false))) (λ d. run entries rest 0 (d ∷ stack)))
      (λ a. and_tests (truth_of a) y w k rest stack)
      ∙ sym (bind_assoc v (λ a. cond (truth_of a) w (Ok (cell.Truth false))) (λ d. run entries rest 0 (d ∷ stack)))

  or_leaves : (x y : List Instr) (v w : Result Cell Value) → Leaves x v → Leaves y w → Leaves (x ++ instr.Or (length y) ∷ y) (valued_two binary.Or v w)
  or_leaves x y v w h k rest stack =
      ap (λ (c : List Instr). run entries c 0 stack) (append_assoc x (instr.Or (length y) ∷ y) rest)
      ∙ h (instr.Or (length y) ∷ (y ++ rest)) stack
      ∙ bind_same v (λ a. run entries (instr.Or (length y) ∷ (y ++ rest)) 0 (a ∷ stack)) (λ a.
      then_with (cond (truth_of a) (Ok (cell.Truth true)) w) (λ d. run entries rest 0 (d ∷ stack)))
      (λ a. or_tests (truth_of a) y w k rest stack)
      ∙ sym (bind_assoc v (λ a. cond (truth_of a) (Ok (cell.Truth true)) w) (λ d. run entries rest 0 (d ∷ stack)))

  -- after the test of an `if`
  if_tests : (b : Bool) (y z : List Instr) (w u : Result Cell Value) → Leaves y w → Leaves z u → (rest : List Instr) (stack : List Cell)
      → run entries (y ++ (instr.GoOn (length z) ∷ (z ++ rest))) (cond b 0 (length y + 1)) stack ≡ then_with (cond b w u) (λ d. run entries rest 0 (d ∷ stack))
  if_tests true y z w u k m rest stack =
      k (instr.GoOn (length z) ∷ (z ++ rest)) stack
      ∙ bind_same w (λ c. run entries (instr.GoOn (length z) ∷ (z ++ rest)) 0 (c ∷ stack)) (λ c. run entries rest 0 (c ∷ stack)) (λ c.
      passes z rest (c ∷ stack))
  if_tests false y z w u k m rest stack = passes_more y (instr.GoOn (length z)) (z ++ rest) stack ∙ m rest stack

  if_leaves : (x y z : List Instr) (v w u : Result Cell Value) → Leaves x v → Leaves y w → Leaves z u → Leaves (if_code x y z) (chosen_value v w u)
  if_leaves x y z v w u h k m rest stack =
      ap (λ (c : List Instr). run entries c 0 stack)
      (append_assoc x (instr.SkipUnless (length y + 1) ∷ (y ++ (instr.GoOn (length z) ∷ z))) rest
      ∙ ap (λ (c : List Instr). x ++ instr.SkipUnless (length y + 1) ∷ c) (append_assoc y (instr.GoOn (length z) ∷ z) rest))
      ∙ h (instr.SkipUnless (length y + 1) ∷ (y ++ (instr.GoOn (length z) ∷ (z ++ rest)))) stack
      ∙ bind_same v (λ a. run entries (instr.SkipUnless (length y + 1) ∷ (y ++ (instr.GoOn (length z) ∷ (z ++ rest)))) 0 (a ∷ stack)) (λ a.
      then_with (cond (truth_of a) w u) (λ d. run entries rest 0 (d ∷ stack)))
      (λ a. if_tests (truth_of a) y z w u k m rest stack)
      ∙ sym (bind_assoc v (λ a. cond (truth_of a) w u) (λ d. run entries rest 0 (d ∷ stack)))

  -- the best of a list that is on top
  takes_list : (greatest : Bool) (cs stack : List Cell) (n : ℕ) → length cs ≡ n
      → put_on (drop n (reverse cs ++ stack)) (best_of greatest (reverse (take n (reverse cs ++ stack)))) ≡ put_on stack (best_of greatest cs)
  takes_list greatest cs stack n len =
      let l : length (reverse cs) ≡ n = omega (arith, length-reverse cs) in
      ap (λ (s : List Cell). put_on s (best_of greatest (reverse (take n (reverse cs ++ stack))))) (drop_at (reverse cs) stack n l)
      ∙ ap (λ (s : List Cell). put_on stack (best_of greatest (reverse s))) (take_at (reverse cs) stack n l)
      ∙ ap (λ (s : List Cell). put_on stack (best_of greatest s)) (reverse-reverse cs)

  list_leaves : (x : List Instr) (v : Result (List Cell) Value) (greatest : Bool) (i : Instr) (n : ℕ)
      → ((stack : List Cell) → act entries i stack ≡ put_on (drop n stack) (best_of greatest (reverse (take n stack))))
      → ((cs : List Cell) → v ≡ Ok cs → length cs ≡ n) → LeavesAll x v → Leaves (x ++ i ∷ []) (then_with v (best_of greatest))
  list_leaves x (Ok cs) greatest i n does len h rest stack =
      ap (λ (c : List Instr). run entries c 0 stack) (append_assoc x (i ∷ []) rest)
      ∙ h (i ∷ rest) stack
      ∙ ap (go_to (run entries rest)) (does (reverse cs ++ stack) ∙ takes_list greatest cs stack n (len cs refl))
      ∙ puts (best_of greatest cs) rest stack
  list_leaves x (Err e) greatest i n does len h rest stack =
      ap (λ (c : List Instr). run entries c 0 stack) (append_assoc x (i ∷ []) rest) ∙ h (i ∷ rest) stack

  joined_leaves : (x y : List Instr) (v : Result (List Cell) Value) (w : Result Cell Value) → LeavesAll x v → Leaves y w
      → LeavesAll (x ++ y) (then_with v (λ cs. then_with w (λ c. Ok (cs ++ c ∷ []))))
  joined_leaves x y v w h k rest stack =
      ap (λ (c : List Instr). run entries c 0 stack) (append_assoc x y rest)
      ∙ h (y ++ rest) stack
      ∙ bind_same v (λ cs. run entries (y ++ rest) 0 (reverse cs ++ stack)) (λ cs.
      then_with (then_with w (λ c. Ok (cs ++ c ∷ []))) (λ ds. run entries rest 0 (reverse ds ++ stack)))
      (λ cs. k rest (reverse cs ++ stack)
      ∙ bind_same w (λ c. run entries rest 0 (c ∷ (reverse cs ++ stack))) (λ c. run entries rest 0 (reverse (cs ++ c ∷ []) ++ stack)) (λ c.
      ap (λ (s : List Cell). run entries rest 0 (s ++ stack)) (sym (reverse-append cs (c ∷ []))))
      ∙ sym (bind_assoc w (λ c. Ok (cs ++ c ∷ [])) (λ ds. run entries rest 0 (reverse ds ++ stack))))
      ∙ sym (bind_assoc v (λ cs. then_with w (λ c. Ok (cs ++ c ∷ []))) (λ ds. run entries rest 0 (reverse ds ++ stack)))

-- a list has as many values as it has arguments
count_alone : (v : Result Cell Value) (cs : List Cell) → then_with v (λ c. Ok (c ∷ [])) ≡ Ok cs → length cs ≡ 1
count_alone (Ok c) cs e = let f : c ∷ [] ≡ cs = cc in ap length (sym f)
count_alone (Err v) cs e = absurd cc

count_joined : (v : Result (List Cell) Value) (w : Result Cell Value) (n : ℕ) (cs : List Cell) → ((ds : List Cell) → v ≡ Ok ds → length ds ≡ n)
    → then_with v (λ ds. then_with w (λ c. Ok (ds ++ c ∷ []))) ≡ Ok cs → length cs ≡ n + 1
count_joined (Ok ds) (Ok c) n cs h e = let f : ds ++ c ∷ [] ≡ cs = cc in ap length (sym f) ∙ omega (arith, length-append ds (c ∷ []), h ds refl)
count_joined (Ok ds) (Err v) n cs h e = absurd cc
count_joined (Err v) w n cs h e = absurd cc

count_is : (given : Item → Option Fraction) (t : Shape) (cs : List Cell) → (values_of given t).all ≡ Ok cs → length cs ≡ argument_count t
count_is given (Operand it) cs e = count_alone (leaf_value given it) cs e
count_is given (One operator operand) cs e = count_alone (valued_one given operator operand (values_of given operand)) cs e
count_is given (Two binary.Comma left right) cs e =
    count_joined (values_of given left).all (values_of given right).one (argument_count left) cs (count_is given left) e
count_is given (Two operator left right) cs e = count_alone (valued_two operator (values_of given left).one (values_of given right).one) cs e
count_is given (Choice test one other) cs e = count_alone (chosen_value (values_of given test).one (values_of given one).one (values_of given other).one) cs e

module _ (items : List Item) (entries : List (Option Fraction)) where
  abbrev index : Item → ℕ
  index = index_in items

  abbrev given : Item → Option Fraction
  given = given_by items entries

  leaf_leaves : (it : Leaf) → Leaves entries (leaf_code index it) (leaf_value given it)
  leaf_leaves (leaf.Number n) rest stack = refl
  leaf_leaves (leaf.Item i) rest stack = refl
  leaf_leaves (leaf.Day i) rest stack = puts_day entries (given i) rest stack

  asked_leaves : (operand : Shape) → Leaves entries (asked_code index true operand) (Ok (cell.Truth (asked given operand)))
  asked_leaves (Operand (leaf.Number n)) rest stack = refl
  asked_leaves (Operand (leaf.Item i)) rest stack = refl
  asked_leaves (Operand (leaf.Day i)) rest stack = refl
  asked_leaves (One operator operand) rest stack = refl
  asked_leaves (Two operator left right) rest stack = refl
  asked_leaves (Choice test one other) rest stack = refl

  unasked_leaves : (operand : Shape) → Leaves entries (asked_code index false operand) (Ok (cell.Truth (not (asked given operand))))
  unasked_leaves (Operand (leaf.Number n)) rest stack = refl
  unasked_leaves (Operand (leaf.Item i)) rest stack = refl
  unasked_leaves (Operand (leaf.Day i)) rest stack = refl
  unasked_leaves (One operator operand) rest stack = refl
  unasked_leaves (Two operator left right) rest stack = refl
  unasked_leaves (Choice test one other) rest stack = refl

  either : (o p : Option Fraction) (f : Fraction) → unwrap_or o (unwrap_or p f) ≡ unwrap_or (option_or o p) f
  either None p f = refl
  either (Some x) p f = refl

  first_runs : (t : Shape) (f : Fraction) (rest : List Instr) (stack : List Cell)
      → run entries (first_code index t ++ rest) 0 (cell.Number f ∷ stack) ≡ run entries rest 0 (cell.Number (unwrap_or (first_present given t) f) ∷ stack)
  first_runs (Two binary.Comma left right) f rest stack =
      ap (λ (c : List Instr). run entries c 0 (cell.Number f ∷ stack)) (append_assoc (first_code index right) (first_code index left) rest)
      ∙ first_runs right f (first_code index left ++ rest) stack
      ∙ first_runs left (unwrap_or (first_present given right) f) rest stack
      ∙ ap (λ (g : Fraction). run entries rest 0 (cell.Number g ∷ stack)) (either (first_present given left) (first_present given right) f)
  first_runs (Two operator left right) f rest stack = refl
  first_runs (Operand (leaf.Number n)) f rest stack = refl
  first_runs (Operand (leaf.Item i)) f rest stack = refl
  first_runs (Operand (leaf.Day i)) f rest stack = refl
  first_runs (One operator operand) f rest stack = refl
  first_runs (Choice test one other) f rest stack = refl

  unary_leaves : (operator : Unary) (operand : Shape) → Both entries (codes_of index operand) (values_of given operand)
      → Leaves entries (unary_code index operator operand (codes_of index operand)) (valued_one given operator operand (values_of given operand))
  unary_leaves unary.IsNull operand h = unasked_leaves operand
  unary_leaves unary.IsNotNull operand h = asked_leaves operand
  unary_leaves unary.HasValue operand h = asked_leaves operand
  unary_leaves unary.FirstNonNull operand h = λ rest stack. first_runs operand zero_fraction rest stack
  unary_leaves unary.Greatest operand h =
      list_leaves entries (codes_of index operand).all (values_of given operand).all true (instr.Greatest (argument_count operand)) (argument_count operand)
      (λ stack. refl) (count_is given operand) h.all
  unary_leaves unary.Least operand h =
      list_leaves entries (codes_of index operand).all (values_of given operand).all false (instr.Least (argument_count operand)) (argument_count operand)
      (λ stack. refl) (count_is given operand) h.all
  unary_leaves unary.Negate operand h =
      then_instr entries (codes_of index operand).one (values_of given operand).one (instr.Unary unary.Negate) (applied_one unary.Negate) (λ c stack. refl)
      h.one
  unary_leaves unary.Not operand h =
      then_instr entries (codes_of index operand).one (values_of given operand).one (instr.Unary unary.Not) (applied_one unary.Not) (λ c stack. refl) h.one
  unary_leaves (unary.Power n) operand h =
      then_instr entries (codes_of index operand).one (values_of given operand).one (instr.Unary (unary.Power n)) (applied_one (unary.Power n)) (λ c stack.
      refl) h.one
  unary_leaves unary.Zing operand h =
      then_instr entries (codes_of index operand).one (values_of given operand).one (instr.Unary unary.Zing) (applied_one unary.Zing) (λ c stack. refl) h.one
  unary_leaves unary.Oizp operand h =
      then_instr entries (codes_of index operand).one (values_of given operand).one (instr.Unary unary.Oizp) (applied_one unary.Oizp) (λ c stack. refl) h.one

  two_both : (operator : Binary) (x y : Codes) (v w : Values) → Leaves entries x.one v.one → Leaves entries y.one w.one
      → Both entries (same_code (x.one ++ (y.one ++ instr.Binary operator ∷ [])))
      (alone (then_with v.one (λ a. then_with w.one (λ b. applied_two operator (number_of a) (number_of b)))))
  two_both operator x y v w h k =
      alone_both entries _ _ (then_two entries x.one y.one v.one w.one (instr.Binary operator) (λ a b. applied_two operator (number_of a) (number_of b))
      (λ a b stack. refl) h k)

  pair_both : (operator : Binary) (x y : Codes) (v w : Values) → Both entries x v → Both entries y w
      → Both entries (binary_code operator x y) (valued_pair operator v w)
  pair_both binary.Comma x y v w h k = record { one = λ rest stack. refl; all = joined_leaves entries x.all y.one v.all w.one h.all k.one }
  pair_both binary.And x y v w h k = alone_both entries _ _ (and_leaves entries x.one y.one v.one w.one h.one k.one)
  pair_both binary.Or x y v w h k = alone_both entries _ _ (or_leaves entries x.one y.one v.one w.one h.one k.one)
  pair_both operator x y v w h k = two_both operator x y v w h.one k.one

  both : (t : Shape) → Both entries (codes_of index t) (values_of given t)
  both (Operand it) = alone_both entries (leaf_code index it) (leaf_value given it) (leaf_leaves it)
  both (One operator operand) = alone_both entries _ _ (unary_leaves operator operand (both operand))
  both (Two operator left right) =
      pair_both operator (codes_of index left) (codes_of index right) (values_of given left) (values_of given right) (both left) (both right)
  both (Choice test one other) =
      alone_both entries _ _ (if_leaves entries (codes_of index test).one (codes_of index one).one (codes_of index other).one (values_of given test).one
      (values_of given one).one (values_of given other).one (both test).one (both one).one (both other).one)

-- ---- missing items

any_map : {A B : Type 0} (f : A → B) (p : B → Bool) (xs : List A) → list_any p (map f xs) ≡ list_any (λ x. p (f x)) xs
any_map f p [] = refl
any_map f p (x ∷ xs) = ap (λ (b : Bool). p (f x) || b) (any_map f p xs)

all_map : {A B : Type 0} (f : A → B) (p : B → Bool) (xs : List A) → list_all p (map f xs) ≡ list_all (λ x. p (f x)) xs
all_map f p [] = refl
all_map f p (x ∷ xs) = ap (λ (b : Bool). p (f x) && b) (all_map f p xs)

len_map : {A B : Type 0} (f : A → B) (xs : List A) → length (map f xs) ≡ length xs
len_map f [] = refl
len_map f (x ∷ xs) = ap suc (len_map f xs)

skips_map : {A B : Type 0} (s : Strategy) (f : A → B) (p : B → Bool) (xs : List A) → skips s p (map f xs) ≡ skips s (λ x. p (f x)) xs
skips_map strategy.SkipIfAny f p xs = any_map f p xs
skips_map strategy.SkipIfAll f p xs = ap (λ (n : ℕ). nat_lt 0 n && list_all p (map f xs)) (len_map f xs)
    ∙ ap (λ (b : Bool). nat_lt 0 (length xs) && b) (all_map f p xs)
skips_map strategy.Never f p xs = refl

top_is : (v : Result Cell Value) → top_value (then_with v (λ c. Ok (c ∷ []))) ≡ v
top_is (Ok c) = refl
top_is (Err e) = refl

-- the code of a tree, with the numbers of its plain items, means what the tree means
of_shape : (items : List Item) (shape : Shape) (form : Postfix) → form.code.items ≡ (codes_of (index_in items) shape).one
    → form.plain.items ≡ map (index_in items) (plain_items shape) → Means items (syntax_of shape) form
unfolding outcome meaning
of_shape items shape form code plain = record {
  agrees = λ s entries.
      let given = given_by items entries in
      let runs : run entries form.code.items 0 [] ≡ then_with (values_of given shape).one (λ c. Ok (c ∷ [])) =
      ap (λ (c : List Instr). run entries c 0 []) (code ∙ sym (append-nil (codes_of (index_in items) shape).one)) ∙ (both items entries shape).one [] [] in
      ap (λ (p : List ℕ). cond (skips s (λ n. is_none (entry_at entries n)) p) value.Missing (value_of_cell (top_value (run entries form.code.items 0 []))))
      plain
      ∙ ap (λ (b : Bool). cond b value.Missing (value_of_cell (top_value (run entries form.code.items 0 []))))
      (skips_map s (index_in items) (λ n. is_none (entry_at entries n)) (plain_items shape))
      ∙ ap (λ (v : Result Cell Value). cond (skips s (λ i. is_none (given i)) (plain_items shape)) value.Missing (value_of_cell v)) (ap top_value runs
      ∙ top_is (values_of given shape).one ∙ sym (value_agrees given shape))
      ∙ ap (λ (p : List Item). cond (skips s (λ i. is_none (given i)) p) value.Missing (value_of_cell (value_of given (syntax_of shape))))
      (sym (plain_agrees shape));
}

-- the same of the tree that it is
pub means : (items : List Item) (shape : Shape) (tree : Syntax) (form : Postfix) → syntax_of shape ≡ tree
    → form.code.items ≡ (codes_of (index_in items) shape).one → form.plain.items ≡ map (index_in items) (plain_items shape) → Means items tree form
means items shape tree form is code plain = subst (λ (t : Syntax). Means items t form) is (of_shape items shape form code plain)
