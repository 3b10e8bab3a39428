-- Each form of the grammar is read, and its nodes are those of its tree.
use Rattle.std.proofs.Common.{◌≡◌, ℕ, ◌+◌, ◌-◌, ◌<◌, ◌≤◌, Bool, true, false, List, [], ◌∷◌, ◌++◌, length, drop, Some, None, Option, refl, sym, ap, subst}
use Rattle.std.proofs.Common.{◌∙◌, inl, inr, arith}
use Rattle.std.specs.Prelude.{◌&&◌, ◌||◌, not, nat_eq, nat_le}
use Rattle.std.specs.Char.{is_ascii_digit}
use Rattle.std.proofs.lemmas.Bool.Decides.{nat_tests}
use Rattle.expr_lang.specs.declared.tree.Place.{Place}
use Rattle.expr_lang.specs.declared.tree.Place.TheVariants as place
use Rattle.expr_lang.specs.declared.tree.Leaf.TheVariants as leaf
use Rattle.expr_lang.specs.declared.tree.Item.{Item as Item'}
use Rattle.expr_lang.specs.declared.tree.Unary.{Unary}
use Rattle.expr_lang.specs.declared.tree.Unary.TheVariants as unary
use Rattle.expr_lang.specs.declared.tree.Binary.{Binary}
use Rattle.expr_lang.specs.declared.tree.Binary.TheVariants as binary
use Rattle.expr_lang.specs.declared.words.Symbol.TheVariants as symbol
use Rattle.expr_lang.specs.declared.words.Call.{Call}
use Rattle.expr_lang.specs.declared.words.Call.TheVariants as call
use Rattle.expr_lang.specs.declared.words.ItemForm.{ItemForm}
use Rattle.expr_lang.specs.declared.reading.Spot.{Spot}
use Rattle.expr_lang.specs.declared.reading.Node.TheVariants as node
use Rattle.expr_lang.specs.declared.reading.Frame.{Frame}
use Rattle.expr_lang.specs.declared.reading.Frame.TheVariants as frame
use Rattle.expr_lang.specs.Build.{shapes_after, shapes_behind}
use Rattle.expr_lang.specs.Item.{item_from}
use Rattle.expr_lang.specs.Leaves.{item_leaf}
use Rattle.expr_lang.specs.Print.{left_level_of, right_level_of}
use Rattle.expr_lang.specs.Reading.{is_blank_of, level_of, node_level, frames_reduced, nodes_reduced, spot_of}
use Rattle.expr_lang.specs.Shape.{Shape, Operand, One, Two, Choice}
use Rattle.expr_lang.specs.Token.{is_comparison_of}
use Rattle.expr_lang.specs.Words.{text_of, items_of_place}
use Rattle.expr_lang.specs.Items.{Occurrence, item_of_leaf_of, with_occurrence, occurrences}
use Rattle.expr_lang.specs.Leaves.{leaf_of_node}
use Rattle.expr_lang.specs.declared.survey.Known.{Known}
use Rattle.expr_lang.specs.Survey.{leaf_known_of, unary_known_of, binary_known_of, if_known_of, known_after, known_behind}
use Rattle.expr_grammar.proofs.Stored.{tree_of}
use Rattle.expr_grammar.specs.Items.{occurrences_of}
use Rattle.expr_grammar.proofs.Operands.{known_of}
use Rattle.expr_grammar.specs.Grammar.{Form, Number, Item, Bracket, Power, Sign, Chain, Arguments, If, Condition, DaysBetween, Apply, IsBlank, IsDigits}
use Rattle.expr_grammar.specs.Grammar.{IsWord, IsForm, sign_text, after_blanks, behind_point, number_value, spelled}
use Rattle.expr_grammar.proofs.Words.{first_is, all_of, among_all, both, same_number, literal_fits, or_cases, word_long}
use Rattle.expr_grammar.proofs.Steps.{At, at_past}
use Rattle.expr_grammar.proofs.Moves.{item_local}

-- ---- what follows

-- neither a digit nor a point
abbrev pub Follows : List ℕ → Type 0
Follows rest = (first_is is_ascii_digit rest ≡ false) × (first_is (λ x. nat_eq x 46) rest ≡ false)

abbrev calm : ℕ → Bool
calm c = not (is_ascii_digit c) && (not (nat_eq c 46) && not (nat_eq 61 c))

pub not_true : (b : Bool) → not b ≡ true → b ≡ false
not_true true e = absurd cc
not_true false e = refl

pub blank_calm : (c : ℕ) → is_blank_of c ≡ true → (is_ascii_digit c ≡ false) × (nat_eq c 46 ≡ false) × (nat_eq 61 c ≡ false)
blank_calm c e =
    elim (or_cases (nat_eq c 32 || nat_eq c 9 || nat_eq c 13) (nat_eq c 10) e) [
      | inr h ↦ at 10 (same_number c 10 h) (refl, refl, refl)
      | inl h ↦ elim (or_cases (nat_eq c 32 || nat_eq c 9) (nat_eq c 13) h) [
        | inr h ↦ at 13 (same_number c 13 h) (refl, refl, refl)
        | inl h ↦ elim (or_cases (nat_eq c 32) (nat_eq c 9) h) [
          | inr h ↦ at 9 (same_number c 9 h) (refl, refl, refl)
          | inl h ↦ at 32 (same_number c 32 h) (refl, refl, refl)
        ]
      ]
    ]
  where
    at : (k : ℕ) → c ≡ k → (is_ascii_digit k ≡ false) × (nat_eq k 46 ≡ false) × (nat_eq 61 k ≡ false)
        → (is_ascii_digit c ≡ false) × (nat_eq c 46 ≡ false) × (nat_eq 61 c ≡ false)
    at k same h = subst (λ (x : ℕ). (is_ascii_digit x ≡ false) × (nat_eq x 46 ≡ false) × (nat_eq 61 x ≡ false)) (sym same) h

-- a word that begins so, after blanks
pub calm_follows : (b t rest : List ℕ) → IsBlank b → first_is (λ c. not (is_ascii_digit c) && not (nat_eq c 46)) t ≡ true → Follows (after_blanks b t rest)
calm_follows [] [] rest h e = absurd cc
calm_follows [] (c ∷ cs) rest h e = let parts = both (not (is_ascii_digit c)) (not (nat_eq c 46)) e in (not_true _ parts.0, not_true _ parts.1)
calm_follows (x ∷ xs) t rest h e = let k = blank_calm x h.0 in (k.0, k.1)

pub no_equal : (b t rest : List ℕ) → IsBlank b → first_is (λ c. not (nat_eq 61 c)) t ≡ true → first_is (nat_eq 61) (after_blanks b t rest) ≡ false
no_equal [] [] rest h e = absurd cc
no_equal [] (c ∷ cs) rest h e = not_true _ e
no_equal (x ∷ xs) t rest h e = (blank_calm x h.0).2

pub close_calm : first_is (λ c. not (is_ascii_digit c) && not (nat_eq c 46)) (text_of symbol.Close) ≡ true
unfolding text_of
close_calm = refl

pub comma_calm : first_is (λ c. not (is_ascii_digit c) && not (nat_eq c 46)) (text_of symbol.Comma) ≡ true
unfolding text_of
comma_calm = refl

pub quote_calm : first_is (λ c. not (is_ascii_digit c) && not (nat_eq c 46)) (text_of symbol.Quote) ≡ true
unfolding text_of
quote_calm = refl

pub caret_calm : first_is (λ c. not (is_ascii_digit c) && not (nat_eq c 46)) (text_of symbol.Caret) ≡ true
unfolding text_of
caret_calm = refl

pub operator_calm : (o : Binary) → 1 ≤ level_of o → first_is (λ c. not (is_ascii_digit c) && not (nat_eq c 46)) (text_of (symbol.Operator o)) ≡ true
unfolding text_of
operator_calm binary.Or h = refl
operator_calm binary.And h = refl
operator_calm binary.Equal h = refl
operator_calm binary.NotEqual h = refl
operator_calm binary.Less h = refl
operator_calm binary.AtMost h = refl
operator_calm binary.Greater h = refl
operator_calm binary.AtLeast h = refl
operator_calm binary.Add h = refl
operator_calm binary.Subtract h = refl
operator_calm binary.Multiply h = refl
operator_calm binary.Divide h = refl
operator_calm binary.Remainder h = refl
operator_calm binary.DaysBetween h = absurd (omega arith)
operator_calm binary.Comma h = absurd (omega arith)

call_starts : (c : Call) → first_is (λ c. not (nat_eq 61 c)) (text_of (symbol.Call c)) ≡ true
unfolding text_of
call_starts call.If = refl
call_starts call.Condition = refl
call_starts call.IsNull = refl
call_starts call.IsNotNull = refl
call_starts call.FirstNonNull = refl
call_starts call.Greatest = refl
call_starts call.Least = refl
call_starts call.DaysBetween = refl
call_starts call.HasValue = refl
call_starts call.Zing = refl
call_starts call.Oizp = refl

open_starts : first_is (λ c. not (nat_eq 61 c)) (text_of symbol.Open) ≡ true
unfolding text_of
open_starts = refl

abbrev literal_start : ℕ → Bool
literal_start c = not (nat_eq 61 c) && not (nat_eq c 64 || nat_eq c 36)

items_start : (p : Place) → all_of (λ w. first_is literal_start (text_of w)) (items_of_place p) ≡ true
unfolding items_of_place text_of
items_start place.Aggregate = refl
items_start place.Program = refl

word_starts : (t word : List ℕ) → first_is literal_start t ≡ true → IsWord t word → first_is (λ c. not (nat_eq 61 c)) word ≡ true
word_starts [] word e h = absurd cc
word_starts (c ∷ cs) [] e h = absurd h
word_starts (c ∷ cs) (b ∷ bs) e h =
    let parts = both (not (nat_eq 61 c)) (not (nat_eq c 64 || nat_eq c 36)) e in
    let same : c ≡ b = same_number c b (sym (literal_fits c b (not_true _ parts.1)) ∙ h.0) in
    ap (λ (k : ℕ). not (nat_eq 61 k)) (sym same) ∙ parts.0

digit_starts : (ds more : List ℕ) → 1 ≤ length ds → IsDigits ds → first_is (λ c. not (nat_eq 61 c)) (ds ++ more) ≡ true
digit_starts [] more some h = absurd (omega arith)
digit_starts (d ∷ ds) more some h = (elim (nat_eq 61 d) as (λ t. nat_eq 61 d ≡ t → not t ≡ true) [
  | true ↦ λ e. (let no : is_ascii_digit 61 ≡ true = subst (λ (k : ℕ). is_ascii_digit k ≡ true) (sym (same_number 61 d e)) h.0 in absurd cc)
  | false ↦ λ e. refl
]) refl

sign_starts : (s : Unary) → first_is (λ c. not (nat_eq 61 c)) (sign_text s) ≡ true
sign_starts unary.Not = refl
sign_starts s = refl

-- a form begins with no `=`
pub form_starts : (p : Place) (q : Bool) (L : ℕ) (F : Form) (rest : List ℕ) → IsForm p q L F → first_is (nat_eq 61) (spelled F rest) ≡ false
form_starts p q L (Number b digits decimals) rest h =
    no_equal b (digits ++ behind_point decimals) rest h.0 (digit_starts digits (behind_point decimals) h.1.some h.1.whole)
form_starts p q L (Item b f word) rest h =
    no_equal b word rest h.0 (word_starts (text_of (symbol.Item f)) word
    (among_all (λ w. first_is literal_start (text_of w)) (items_of_place p) (symbol.Item f) (items_start p) h.1) h.2)
form_starts p q L (Bracket b inner c) rest h = no_equal b (text_of symbol.Open) _ h.0 open_starts
form_starts p q L (Power atom b c digits) rest h = form_starts p q 8 atom _ h.1
form_starts p q L (Sign b sign operand) rest h = no_equal b (sign_text sign) _ h.1 (sign_starts sign)
form_starts p q L (Chain left b operator right) rest h = form_starts p q (left_level_of operator) left _ h.2
form_starts p q L (Arguments first b last) rest h = form_starts p q 0 first _ h.1
form_starts p q L (If b c test d one e other f) rest h = no_equal b (text_of (symbol.Call call.If)) _ h.1 (call_starts call.If)
form_starts p q L (Condition b c d test e f one g other i) rest h = no_equal b (text_of (symbol.Call call.Condition)) _ h.2 (call_starts call.Condition)
form_starts p q L (DaysBetween b c one d other e) rest h = no_equal b (text_of (symbol.Call call.DaysBetween)) _ h.1 (call_starts call.DaysBetween)
form_starts p q L (Apply b name c arguments d) rest h = no_equal b (text_of (symbol.Call name)) _ h.1 (call_starts name)

-- ---- frames and levels

abbrev pub Loose : ℕ → List Frame → Type 0
Loose L [] = Unit {0}
Loose L (frame.Pending s ∷ fs) = node_level s.node < L
Loose L (f ∷ fs) = Unit {0}

pub loose_up : (L M : ℕ) (fs : List Frame) → L ≤ M → Loose L fs → Loose M fs
loose_up L M [] le h = tt
loose_up L M (frame.Pending s ∷ fs) le h = omega arith
loose_up L M (frame.Bracket ∷ fs) le h = tt
loose_up L M (frame.Quote ∷ fs) le h = tt
loose_up L M (frame.Call c ∷ fs) le h = tt

pub loose_same : (L : ℕ) (fs : List Frame) (ns : List Spot) → Loose L fs → (frames_reduced L fs ≡ fs) × (nodes_reduced L fs ns ≡ ns)
loose_same L [] ns h = (refl, refl)
loose_same L (frame.Pending s ∷ fs) ns h = let e : nat_le L (node_level s.node) ≡ false = grind (arith, nat_tests) in (rw e refl, rw e refl)
loose_same L (frame.Bracket ∷ fs) ns h = (refl, refl)
loose_same L (frame.Quote ∷ fs) ns h = (refl, refl)
loose_same L (frame.Call c ∷ fs) ns h = (refl, refl)

pub record Levels (o : Binary) : Type 0 where
  pub most : level_of o ≤ 5
  pub left : level_of o ≤ left_level_of o
  pub right : right_level_of o ≡ level_of o + 1
  pub compared : is_comparison_of o ≡ true → (level_of o ≤ 3) × (4 ≤ left_level_of o)

pub levels : (o : Binary) → 1 ≤ level_of o → Levels o
levels binary.Or h = record { most = omega arith; left = omega arith; right = omega arith; compared = λ e. absurd cc }
levels binary.And h = record { most = omega arith; left = omega arith; right = omega arith; compared = λ e. absurd cc }
levels binary.Equal h = record { most = omega arith; left = omega arith; right = omega arith; compared = λ e. (omega arith, omega arith) }
levels binary.NotEqual h = record { most = omega arith; left = omega arith; right = omega arith; compared = λ e. (omega arith, omega arith) }
levels binary.Less h = record { most = omega arith; left = omega arith; right = omega arith; compared = λ e. (omega arith, omega arith) }
levels binary.AtMost h = record { most = omega arith; left = omega arith; right = omega arith; compared = λ e. (omega arith, omega arith) }
levels binary.Greater h = record { most = omega arith; left = omega arith; right = omega arith; compared = λ e. (omega arith, omega arith) }
levels binary.AtLeast h = record { most = omega arith; left = omega arith; right = omega arith; compared = λ e. (omega arith, omega arith) }
levels binary.Add h = record { most = omega arith; left = omega arith; right = omega arith; compared = λ e. absurd cc }
levels binary.Subtract h = record { most = omega arith; left = omega arith; right = omega arith; compared = λ e. absurd cc }
levels binary.Multiply h = record { most = omega arith; left = omega arith; right = omega arith; compared = λ e. absurd cc }
levels binary.Divide h = record { most = omega arith; left = omega arith; right = omega arith; compared = λ e. absurd cc }
levels binary.Remainder h = record { most = omega arith; left = omega arith; right = omega arith; compared = λ e. absurd cc }
levels binary.DaysBetween h = absurd (omega arith)
levels binary.Comma h = absurd (omega arith)

-- ---- nodes and trees

pub behind_both : (text : List ℕ) (days : List (List ℕ)) (xs ys : List Spot) (stack : List Shape)
    → shapes_behind text days (xs ++ ys) stack ≡ shapes_behind text days ys (shapes_behind text days xs stack)
behind_both text days [] ys stack = refl
behind_both text days (x ∷ xs) ys stack = behind_both text days xs ys (shapes_after text days x.at x.node stack)

-- the nodes are those of a tree, each after its operands
pub record Evals (text : List ℕ) (days : List (List ℕ)) (nodes : List Spot) (tree : Shape) : Type 0 where
  pub is : (stack : List Shape) → shapes_behind text days nodes stack ≡ tree ∷ stack

occur_both : (text : List ℕ) (days : List (List ℕ)) (xs ys : List Spot)
    → occurrences text days (xs ++ ys) ≡ occurrences text days xs ++ occurrences text days ys
occur_both text days [] ys = refl
occur_both text days (x ∷ xs) ys =
    ap (with_occurrence (item_of_leaf_of (leaf_of_node text days x.at x.node)) x.at) (occur_both text days xs ys)
    ∙ shifted (item_of_leaf_of (leaf_of_node text days x.at x.node))
  where
    shifted : (i : Option Item')
        → with_occurrence i x.at (occurrences text days xs ++ occurrences text days ys)
        ≡ with_occurrence i x.at (occurrences text days xs) ++ occurrences text days ys
    shifted None = refl
    shifted (Some i) = refl

no_more : (xs : List Occurrence) → xs ++ [] ≡ xs
no_more [] = refl
no_more (x ∷ xs) = ap (λ (l : List Occurrence). x ∷ l) (no_more xs)

surveyed_both : (text : List ℕ) (days : List (List ℕ)) (xs ys : List Spot) (stack : List Known)
    → known_behind text days (xs ++ ys) stack ≡ known_behind text days ys (known_behind text days xs stack)
surveyed_both text days [] ys stack = refl
surveyed_both text days (x ∷ xs) ys stack = surveyed_both text days xs ys (known_after text days x.at x.node stack)

-- what is known of the nodes, as one operand
pub record Surveys (text : List ℕ) (days : List (List ℕ)) (nodes : List Spot) (known : Known) : Type 0 where
  pub is : (stack : List Known) → known_behind text days nodes stack ≡ known ∷ stack

-- the place of a word after blanks
pub place_past : (text : List ℕ) (at : ℕ) (b more : List ℕ) → At text at (b ++ more) → at + length b ≡ length text - length more
place_past text at b more here = omega (arith, (at_past text at b more here).all)

-- a tree, the occurrences of items in it, and what is known of it
pub record Told : Type 0 where
  pub tree : Shape
  pub items : List Occurrence
  pub known : Known

-- of arguments whose call stands at `k`
abbrev pub told_in : ℕ → List (List ℕ) → ℕ → Form → List ℕ → Told
told_in k days total F rest = record { tree = tree_of days F; items = occurrences_of days total F rest; known = known_of days total k F rest }

abbrev pub told_of : List (List ℕ) → ℕ → Form → List ℕ → Told
told_of days total F rest = told_in 0 days total F rest

pub record Tells (text : List ℕ) (days : List (List ℕ)) (nodes : List Spot) (told : Told) : Type 0 where
  pub evals : Evals text days nodes told.tree
  pub lists : occurrences text days nodes ≡ told.items
  pub surveys : Surveys text days nodes told.known

-- the same with another place of the call
pub tells_known : (text : List ℕ) (days : List (List ℕ)) (nodes : List Spot) (told : Told) (known : Known) → known ≡ told.known → Tells text days nodes told
    → Tells text days nodes (record told { known = known })
tells_known text days nodes told known e h = record { evals = h.evals; lists = h.lists; surveys = subst (Surveys text days nodes) (sym e) h.surveys }

module _ (text : List ℕ) (days : List (List ℕ)) where
  pub evals_one : (xs : List Spot) (at place : ℕ) (o : Unary) (x : Told) → at ≡ place → Tells text days xs x
      → Tells text days (xs ++ spot_of at (node.Unary o) ∷ []) (record { tree = One o x.tree; items = x.items; known = unary_known_of place o x.known })
  evals_one xs at place o x e h = record {
    evals =
        record {
          is = λ stack. behind_both text days xs (spot_of at (node.Unary o) ∷ []) stack
              ∙ ap (shapes_behind text days (spot_of at (node.Unary o) ∷ [])) (h.evals.is stack);
        };
    lists = occur_both text days xs (spot_of at (node.Unary o) ∷ []) ∙ no_more (occurrences text days xs) ∙ h.lists;
    surveys = record {
      is = λ stack. surveyed_both text days xs (spot_of at (node.Unary o) ∷ []) stack
          ∙ ap (known_behind text days (spot_of at (node.Unary o) ∷ [])) (h.surveys.is stack)
          ∙ ap (λ (k : ℕ). unary_known_of k o x.known ∷ stack) e;
    };
  }

  pub evals_two : (xs ys : List Spot) (at place : ℕ) (o : Binary) (x y : Told) → at ≡ place → Tells text days xs x → Tells text days ys y
      → Tells text days ((xs ++ ys) ++ spot_of at (node.Binary o) ∷ [])
      (record { tree = Two o x.tree y.tree; items = x.items ++ y.items; known = binary_known_of place o x.known y.known })
  evals_two xs ys at place o x y e h g = record {
    evals = record {
      is = λ stack. behind_both text days (xs ++ ys) (spot_of at (node.Binary o) ∷ []) stack
          ∙ ap (shapes_behind text days (spot_of at (node.Binary o) ∷ [])) (behind_both text days xs ys stack
          ∙ ap (shapes_behind text days ys) (h.evals.is stack) ∙ g.evals.is (x.tree ∷ stack));
    };
    lists = occur_both text days (xs ++ ys) (spot_of at (node.Binary o) ∷ []) ∙ no_more (occurrences text days (xs ++ ys)) ∙ occur_both text days xs ys
        ∙ ap (λ (l : List Occurrence). l ++ occurrences text days ys) h.lists ∙ ap (λ (l : List Occurrence). x.items ++ l) g.lists;
    surveys = record {
      is = λ stack. surveyed_both text days (xs ++ ys) (spot_of at (node.Binary o) ∷ []) stack
          ∙ ap (known_behind text days (spot_of at (node.Binary o) ∷ [])) (surveyed_both text days xs ys stack
          ∙ ap (known_behind text days ys) (h.surveys.is stack) ∙ g.surveys.is (x.known ∷ stack))
          ∙ ap (λ (k : ℕ). binary_known_of k o x.known y.known ∷ stack) e;
    };
  }

  pub evals_three : (xs ys zs : List Spot) (at place : ℕ) (x y z : Told) → at ≡ place → Tells text days xs x → Tells text days ys y → Tells text days zs z
      → Tells text days (((xs ++ ys) ++ zs) ++ spot_of at node.If ∷ [])
      (record { tree = Choice x.tree y.tree z.tree; items = (x.items ++ y.items) ++ z.items; known = if_known_of place x.known y.known z.known })
  evals_three xs ys zs at place x y z e h g f = record {
    evals = record {
      is = λ stack. behind_both text days ((xs ++ ys) ++ zs) (spot_of at node.If ∷ []) stack
          ∙ ap (shapes_behind text days (spot_of at node.If ∷ []))
          (behind_both text days (xs ++ ys) zs stack
          ∙ ap (shapes_behind text days zs) (behind_both text days xs ys stack ∙ ap (shapes_behind text days ys) (h.evals.is stack)
          ∙ g.evals.is (x.tree ∷ stack)) ∙ f.evals.is (y.tree ∷ x.tree ∷ stack));
    };
    lists = occur_both text days ((xs ++ ys) ++ zs) (spot_of at node.If ∷ []) ∙ no_more (occurrences text days ((xs ++ ys) ++ zs))
        ∙ occur_both text days (xs ++ ys) zs
        ∙ ap (λ (l : List Occurrence). l ++ occurrences text days zs) (occur_both text days xs ys
        ∙ ap (λ (l : List Occurrence). l ++ occurrences text days ys) h.lists ∙ ap (λ (l : List Occurrence). x.items ++ l) g.lists)
        ∙ ap (λ (l : List Occurrence). (x.items ++ y.items) ++ l) f.lists;
    surveys = record {
      is = λ stack. surveyed_both text days ((xs ++ ys) ++ zs) (spot_of at node.If ∷ []) stack
          ∙ ap (known_behind text days (spot_of at node.If ∷ []))
          (surveyed_both text days (xs ++ ys) zs stack
          ∙ ap (known_behind text days zs) (surveyed_both text days xs ys stack ∙ ap (known_behind text days ys) (h.surveys.is stack)
          ∙ g.surveys.is (x.known ∷ stack)) ∙ f.surveys.is (y.known ∷ x.known ∷ stack))
          ∙ ap (λ (k : ℕ). if_known_of k x.known y.known z.known ∷ stack) e;
    };
  }

  pub evals_number : (at : ℕ) (b digits decimals rest : List ℕ) → At text at (spelled (Number b digits decimals) rest)
      → Tells text days (spot_of (at + length b) (node.Number (number_value digits decimals)) ∷ []) (told_of days (length text) (Number b digits decimals) rest)
  evals_number at b digits decimals rest here = record {
    evals = record { is = λ stack. refl };
    lists = refl;
    surveys =
        record {
          is =
              λ stack. ap (λ (k : ℕ). leaf_known_of k (leaf.Number (number_value digits decimals)) ∷ stack)
              (place_past text at b ((digits ++ behind_point decimals) ++ rest) here);
        };
  }

  pub evals_item : (at : ℕ) (b : List ℕ) (f : ItemForm) (word rest : List ℕ) → IsWord (text_of (symbol.Item f)) word → At text at (after_blanks b word rest)
      → Tells text days (spot_of (at + length b) (node.Item f) ∷ []) (told_of days (length text) (Item b f word) rest)
  evals_item at b f word rest is here =
      let there = at_past text at b (word ++ rest) here in
      let item : item_from f (drop (at + length b) text) ≡ item_from f word = ap (item_from f) there.rest
      ∙ item_local f word rest (word_long (text_of (symbol.Item f)) word is) in
      let place : at + length b ≡ length text - length (word ++ rest) = omega (arith, there.all) in
      record {
        evals = record { is = λ stack. ap (λ (o : Option Item'). Operand (item_leaf days o) ∷ stack) item };
        lists = ap (λ (o : Option Item'). with_occurrence (item_of_leaf_of (item_leaf days o)) (at + length b) []) item
            ∙ ap (λ (k : ℕ). with_occurrence (item_of_leaf_of (item_leaf days (item_from f word))) k []) place;
        surveys = record {
          is = λ stack. ap (λ (o : Option Item'). leaf_known_of (at + length b) (item_leaf days o) ∷ stack) item
              ∙ ap (λ (k : ℕ). leaf_known_of k (item_leaf days (item_from f word)) ∷ stack) place;
        };
      }
