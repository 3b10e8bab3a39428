-- The first place of a form that doesn't fit is what is known of it as an operand.
use Rattle.std.proofs.Common.{◌≡◌, ℕ, ◌≤◌, Bool, true, false, cond, List, [], ◌∷◌, ◌++◌, Option, Some, None, refl, sym, ap, subst, ◌∙◌, arith}
use Rattle.std.specs.Prelude.{min}
use Rattle.std.specs.Str.Parse.{digits_value}
use Rattle.expr_lang.specs.declared.tree.Place.{Place}
use Rattle.expr_lang.specs.declared.tree.Leaf.{Leaf}
use Rattle.expr_lang.specs.declared.tree.Leaf.TheVariants as leaf
use Rattle.expr_lang.specs.declared.tree.Unary.{Unary}
use Rattle.expr_lang.specs.declared.tree.Unary.TheVariants as unary
use Rattle.expr_lang.specs.declared.tree.Binary.{Binary}
use Rattle.expr_lang.specs.declared.tree.Binary.TheVariants as binary
use Rattle.expr_lang.specs.declared.tree.Sort.{Sort}
use Rattle.expr_lang.specs.declared.tree.Sort.TheVariants as sort
use Rattle.expr_lang.specs.declared.words.Symbol.TheVariants as symbol
use Rattle.expr_lang.specs.declared.words.Call.{Call}
use Rattle.expr_lang.specs.declared.words.Call.TheVariants as call
use Rattle.expr_lang.specs.declared.survey.Known.{Known}
use Rattle.expr_lang.specs.Item.{item_from}
use Rattle.expr_lang.specs.Leaves.{item_leaf}
use Rattle.expr_lang.specs.Print.{left_level_of, right_level_of}
use Rattle.expr_lang.specs.Shape.{Shape, Operand}
use Rattle.expr_lang.specs.Survey.{same_sort, is_literal_of, taken_by_of, taken_by_two, first_of_two, edge_of, edge_if_taken, leaf_known_of, unary_known_of}
use Rattle.expr_lang.specs.Survey.{binary_known_of, if_known_of, misfit_of}
use Rattle.expr_grammar.specs.Grammar.{Form, Number, Item, Bracket, Power, Sign, Chain, Arguments, If, Condition, DaysBetween, Apply, IsForm, IsWhole}
use Rattle.expr_grammar.specs.Grammar.{arguments_level, after_blanks, symbol_text, spelled, number_value}
use Rattle.expr_grammar.proofs.Stored.{applied, tree_of}
use Rattle.expr_grammar.specs.Misfits.{place_of, least_of}
use Rattle.expr_grammar.proofs.Stored.{is_number, clash_of, misfits_of}
use Rattle.expr_grammar.proofs.Stored.{sort_of}
use Rattle.expr_grammar.proofs.Completed.{levels}
use Rattle.expr_grammar.proofs.Operands.{known_of, known_any}

-- ---- the first of several places

assoc : (a b c : Option ℕ) → first_of_two (first_of_two a b) c ≡ first_of_two a (first_of_two b c)
assoc None b c = refl
assoc (Some x) None c = refl
assoc (Some x) (Some y) None = refl
assoc (Some x) (Some y) (Some z) = let e : min (min x y) z ≡ min x (min y z) = omega arith in ap (λ (n : ℕ). Some n) e

swapped : (a b : Option ℕ) → first_of_two a b ≡ first_of_two b a
swapped None None = refl
swapped None (Some y) = refl
swapped (Some x) None = refl
swapped (Some x) (Some y) = let e : min x y ≡ min y x = omega arith in ap (λ (n : ℕ). Some n) e

crossed : (a b c d : Option ℕ) → first_of_two (first_of_two a b) (first_of_two c d) ≡ first_of_two (first_of_two a c) (first_of_two b d)
crossed a b c d =
    assoc a b (first_of_two c d)
    ∙ ap (first_of_two a) (sym (assoc b c d) ∙ ap (λ (x : Option ℕ). first_of_two x d) (swapped b c) ∙ assoc c b d)
    ∙ sym (assoc a c (first_of_two b d))

least_both : (xs ys : List ℕ) → least_of (xs ++ ys) ≡ first_of_two (least_of xs) (least_of ys)
least_both [] ys = refl
least_both (x ∷ xs) ys = ap (first_of_two (Some x)) (least_both xs ys) ∙ sym (assoc (Some x) (least_of xs) (least_of ys))

-- ---- one operand

clash_is : (taker place : ℕ) (taken : Option Sort) (tree : Shape) (known : Known) → known.sort ≡ sort_of tree → known.literal ≡ is_number tree
    → known.at ≡ place → least_of (clash_of taker place taken tree) ≡ edge_if_taken taker taken known
clash_is taker place None tree known s l a = refl
clash_is taker place (Some taken) tree known s l a =
    by_tests (same_sort (sort_of tree) taken) (is_number tree)
    ∙ (λ i. cond (same_sort (sym s i) taken) None (cond (sym l i) (Some taker) (Some (min taker (sym a i)))))
  where
    by_tests : (t u : Bool) → least_of (cond t [] (cond u (taker ∷ []) (taker ∷ place ∷ []))) ≡ cond t None (cond u (Some taker) (Some (min taker place)))
    by_tests true u = refl
    by_tests false true = refl
    by_tests false false = refl

literal_is : (it : Leaf) → is_literal_of it ≡ is_number (Operand it)
literal_is (leaf.Number n) = refl
literal_is (leaf.Item i) = refl
literal_is (leaf.Day i) = refl

-- what the places of an operand come to
abbrev known_first : ℕ → Option Sort → Known → Option ℕ
known_first taker taken known = first_of_two (edge_if_taken taker taken known) known.misfit

no_more : (o : Option ℕ) → o ≡ first_of_two o None
no_more None = refl
no_more (Some x) = refl

leaf_first : (taker place : ℕ) (taken : Option Sort) (it : Leaf)
    → least_of (clash_of taker place taken (Operand it)) ≡ known_first taker taken (leaf_known_of place it)
leaf_first taker place taken it =
    clash_is taker place taken (Operand it) (leaf_known_of place it) refl (literal_is it) refl ∙ no_more (edge_if_taken taker taken (leaf_known_of place it))

module _ (taker at : ℕ) (taken : Option Sort) (tree : Shape) where
  one_first : (o : Unary) (known : Known) (xs : List ℕ) → sort_of tree ≡ (unary_known_of at o known).sort → is_number tree ≡ false
      → least_of xs ≡ known_first at (taken_by_of o) known
      → least_of (clash_of taker at taken tree ++ xs) ≡ known_first taker taken (unary_known_of at o known)
  one_first o known xs s l h =
      least_both (clash_of taker at taken tree) xs
      ∙ (λ i. first_of_two (clash_is taker at taken tree (unary_known_of at o known) (sym s) (sym l) refl i) (h i))

  two_first : (o : Binary) (k m : Known) (xs ys : List ℕ) → sort_of tree ≡ (binary_known_of at o k m).sort → is_number tree ≡ false
      → least_of xs ≡ known_first at (Some (taken_by_two o)) k → least_of ys ≡ known_first at (Some (taken_by_two o)) m
      → least_of (clash_of taker at taken tree ++ (xs ++ ys)) ≡ known_first taker taken (binary_known_of at o k m)
  two_first o k m xs ys s l h g =
      least_both (clash_of taker at taken tree) (xs ++ ys)
      ∙ (λ i. first_of_two (clash_is taker at taken tree (binary_known_of at o k m) (sym s) (sym l) refl i) (least_both xs ys i))
      ∙ ap (first_of_two (edge_if_taken taker taken (binary_known_of at o k m)))
      ((λ i. first_of_two (h i) (g i)) ∙ crossed (edge_of at (taken_by_two o) k) k.misfit (edge_of at (taken_by_two o) m) m.misfit)

  three_first : (k m n : Known) (xs ys zs : List ℕ) → sort_of tree ≡ sort.Number → is_number tree ≡ false
      → least_of xs ≡ known_first at (Some sort.Truth) k → least_of ys ≡ known_first at (Some sort.Number) m → least_of zs ≡ known_first at (Some sort.Number) n
      → least_of (clash_of taker at taken tree ++ (xs ++ (ys ++ zs))) ≡ known_first taker taken (if_known_of at k m n)
  three_first k m n xs ys zs s l h g f =
      least_both (clash_of taker at taken tree) (xs ++ (ys ++ zs))
      ∙ (λ i. first_of_two (clash_is taker at taken tree (if_known_of at k m n) (sym s) (sym l) refl i) (least_both xs (ys ++ zs) i))
      ∙ ap (first_of_two (edge_if_taken taker taken (if_known_of at k m n)))
      ((λ i. first_of_two (h i) (least_both ys zs i))
      ∙ ap (first_of_two (known_first at (Some sort.Truth) k)) ((λ i. first_of_two (g i) (f i))
      ∙ crossed (edge_of at sort.Number m) m.misfit (edge_of at sort.Number n) n.misfit)
      ∙ crossed (edge_of at sort.Truth k) k.misfit (first_of_two (edge_of at sort.Number m) (edge_of at sort.Number n)) (first_of_two m.misfit n.misfit))

-- ---- what takes a list of arguments takes numbers

abbrev IsTaken : Option Sort → Form → Type 0
IsTaken taken (Arguments first b last) = taken ≡ Some sort.Number
IsTaken taken _ = Unit {0}

taken_number : (F : Form) → IsTaken (Some sort.Number) F
taken_number (Arguments first b last) = refl
taken_number (Number b digits decimals) = tt
taken_number (Item b form word) = tt
taken_number (Bracket b inner c) = tt
taken_number (Power atom b c digits) = tt
taken_number (Sign b sign operand) = tt
taken_number (Chain left b operator right) = tt
taken_number (If b c test d one e other f) = tt
taken_number (Condition b c d test e f one g other h) = tt
taken_number (DaysBetween b c one d other e) = tt
taken_number (Apply b name c arguments d) = tt

taken_one : (p : Place) (q : Bool) (L : ℕ) (taken : Option Sort) (F : Form) → 1 ≤ L → IsForm p q L F → IsTaken taken F
taken_one p q L taken (Arguments first b last) some is = absurd (omega (arith, is.0))
taken_one p q L taken (Number b digits decimals) some is = tt
taken_one p q L taken (Item b form word) some is = tt
taken_one p q L taken (Bracket b inner c) some is = tt
taken_one p q L taken (Power atom b c digits) some is = tt
taken_one p q L taken (Sign b sign operand) some is = tt
taken_one p q L taken (Chain left b operator right) some is = tt
taken_one p q L taken (If b c test d one e other f) some is = tt
taken_one p q L taken (Condition b c d test e f one g other h) some is = tt
taken_one p q L taken (DaysBetween b c one d other e) some is = tt
taken_one p q L taken (Apply b name c arguments d) some is = tt

taken_list : (p : Place) (q : Bool) (name : Call) (F : Form) → IsForm p q (arguments_level name) F → IsTaken (taken_by_of (applied name)) F
taken_list p q call.FirstNonNull F is = taken_number F
taken_list p q call.Greatest F is = taken_number F
taken_list p q call.Least F is = taken_number F
taken_list p q name F is = taken_one p q 1 (taken_by_of (applied name)) F (omega arith) is

-- ---- each form

module _ (p : Place) (days : List (List ℕ)) (total : ℕ) where
  abbrev Fits : Bool → ℕ → Form → Type 0
  Fits q L F = IsForm p q L F → (k : ℕ) (taken : Option Sort) → IsTaken taken F → (rest : List ℕ)
      → least_of (misfits_of days total k taken F rest) ≡ known_first k taken (known_of days total k F rest)

  -- one that isn't a list
  single : (q : Bool) (L : ℕ) (F : Form) → Fits q L F → 1 ≤ L → IsForm p q L F → (k : ℕ) (taken : Option Sort) (rest : List ℕ)
      → least_of (misfits_of days total k taken F rest) ≡ known_first k taken (known_of days total 0 F rest)
  single q L F ih some is k taken rest = ih is k taken (taken_one p q L taken F some is) rest
      ∙ ap (known_first k taken) (known_any p q L F some is days total k rest)

  list_first : (k : ℕ) (K M : Known) (xs ys : List ℕ) → least_of xs ≡ known_first k (Some sort.Number) K → least_of ys ≡ known_first k (Some sort.Number) M
      → least_of (xs ++ ys) ≡ known_first k (Some sort.Number) (binary_known_of k binary.Comma K M)
  list_first k K M xs ys h g =
      least_both xs ys ∙ (λ i. first_of_two (h i) (g i)) ∙ crossed (edge_of k sort.Number K) K.misfit (edge_of k sort.Number M) M.misfit

  fits : (q : Bool) (L : ℕ) (F : Form) → Fits q L F
  fits q L (Number b digits decimals) is k taken list rest =
      leaf_first k (place_of total (Number b digits decimals) rest) taken (leaf.Number (number_value digits decimals))
  fits q L (Item b form word) is k taken list rest = leaf_first k (place_of total (Item b form word) rest) taken (item_leaf days (item_from form word))
  fits q L (Bracket b inner c) is k taken list rest = single q 1 inner (fits q 1 inner) (omega arith) is.1 k taken (symbol_text c symbol.Close rest)
  fits q L (Power atom b c digits) is k taken list rest =
      let at = place_of total (Power atom b c digits) rest in
      one_first k at taken (tree_of days (Power atom b c digits)) (unary.Power (digits_value 10 digits))
      (known_of days total 0 atom (symbol_text b symbol.Caret (after_blanks c digits rest)))
      (misfits_of days total at (Some sort.Number) atom (symbol_text b symbol.Caret (after_blanks c digits rest))) refl refl
      (single q 8 atom (fits q 8 atom) (omega arith) is.1 at (Some sort.Number) (symbol_text b symbol.Caret (after_blanks c digits rest)))
  fits q L (Sign b sign operand) is k taken list rest =
      let at = place_of total (Sign b sign operand) rest in
      one_first k at taken (tree_of days (Sign b sign operand)) sign (known_of days total 0 operand (rest))
      (misfits_of days total at (taken_by_of sign) operand (rest)) refl refl
      (single q 6 operand (fits q 6 operand) (omega arith) is.3 at (taken_by_of sign) (rest))
  fits q L (Chain left b op right) is k taken list rest =
      let at = place_of total (Chain left b op right) rest in
      let v = levels op is.0 in
      two_first k at taken (tree_of days (Chain left b op right)) op (known_of days total 0 left (symbol_text b (symbol.Operator op) (spelled right rest)))
      (known_of days total 0 right (rest))
      (misfits_of days total at (Some (taken_by_two op)) left (symbol_text b (symbol.Operator op) (spelled right rest)))
      (misfits_of days total at (Some (taken_by_two op)) right (rest)) refl refl
      (single q (left_level_of op) left (fits q (left_level_of op) left) (omega (arith, v.left, is.0)) is.2 at (Some (taken_by_two op))
      (symbol_text b (symbol.Operator op) (spelled right rest)))
      (single q (right_level_of op) right (fits q (right_level_of op) right) (omega (arith, v.right)) is.4 at (Some (taken_by_two op)) (rest))
  fits q L (Arguments first b last) is k taken list rest =
      let more = symbol_text b symbol.Comma (spelled last rest) in
      subst (λ (t : Option Sort). least_of (misfits_of days total k t (Arguments first b last) rest)
      ≡ known_first k t (known_of days total k (Arguments first b last) rest)) (sym list)
      (list_first k (known_of days total k first more) (known_of days total 0 last rest) (misfits_of days total k (Some sort.Number) first more)
      (misfits_of days total k (Some sort.Number) last rest)
      (fits q 0 first is.1 k (Some sort.Number) (taken_number first) more) (single q 1 last (fits q 1 last) (omega arith) is.3 k (Some sort.Number) rest))
  fits q L (If b c test d one e other f) is k taken list rest =
      let at = place_of total (If b c test d one e other f) rest in
      let third = spelled other (symbol_text f symbol.Close rest) in
      three_first k at taken (tree_of days (If b c test d one e other f))
      (known_of days total 0 test (symbol_text d symbol.Comma (spelled one (symbol_text e symbol.Comma third))))
      (known_of days total 0 one (symbol_text e symbol.Comma third)) (known_of days total 0 other (symbol_text f symbol.Close rest))
      (misfits_of days total at (Some sort.Truth) test (symbol_text d symbol.Comma (spelled one (symbol_text e symbol.Comma third))))
      (misfits_of days total at (Some sort.Number) one (symbol_text e symbol.Comma third))
      (misfits_of days total at (Some sort.Number) other (symbol_text f symbol.Close rest)) refl refl
      (single q 1 test (fits q 1 test) (omega arith) is.3 at (Some sort.Truth) (symbol_text d symbol.Comma (spelled one (symbol_text e symbol.Comma third))))
      (single q 1 one (fits q 1 one) (omega arith) is.5 at (Some sort.Number) (symbol_text e symbol.Comma third))
      (single q 1 other (fits q 1 other) (omega arith) is.7 at (Some sort.Number) (symbol_text f symbol.Close rest))
  fits q L (Condition b c d test e f one g other i) is k taken list rest =
      let at = place_of total (Condition b c d test e f one g other i) rest in
      let third = spelled other (symbol_text i symbol.Close rest) in
      let second = spelled one (symbol_text g symbol.Comma third) in
      three_first k at taken (tree_of days (Condition b c d test e f one g other i))
      (known_of days total 0 test (symbol_text e symbol.Quote (symbol_text f symbol.Comma second)))
      (known_of days total 0 one (symbol_text g symbol.Comma third)) (known_of days total 0 other (symbol_text i symbol.Close rest))
      (misfits_of days total at (Some sort.Truth) test (symbol_text e symbol.Quote (symbol_text f symbol.Comma second)))
      (misfits_of days total at (Some sort.Number) one (symbol_text g symbol.Comma third))
      (misfits_of days total at (Some sort.Number) other (symbol_text i symbol.Close rest)) refl refl
      (single true 1 test (fits true 1 test) (omega arith) is.5 at (Some sort.Truth) (symbol_text e symbol.Quote (symbol_text f symbol.Comma second)))
      (single q 1 one (fits q 1 one) (omega arith) is.8 at (Some sort.Number) (symbol_text g symbol.Comma third))
      (single q 1 other (fits q 1 other) (omega arith) is.10 at (Some sort.Number) (symbol_text i symbol.Close rest))
  fits q L (DaysBetween b c one d other e) is k taken list rest =
      let at = place_of total (DaysBetween b c one d other e) rest in
      two_first k at taken (tree_of days (DaysBetween b c one d other e)) binary.DaysBetween
      (known_of days total 0 one (symbol_text d symbol.Comma (spelled other (symbol_text e symbol.Close rest))))
      (known_of days total 0 other (symbol_text e symbol.Close rest))
      (misfits_of days total at (Some sort.Day) one (symbol_text d symbol.Comma (spelled other (symbol_text e symbol.Close rest))))
      (misfits_of days total at (Some sort.Day) other (symbol_text e symbol.Close rest)) refl refl
      (single q 1 one (fits q 1 one) (omega arith) is.3 at (Some sort.Day) (symbol_text d symbol.Comma (spelled other (symbol_text e symbol.Close rest))))
      (single q 1 other (fits q 1 other) (omega arith) is.5 at (Some sort.Day) (symbol_text e symbol.Close rest))
  fits q L (Apply b name c arguments d) is k taken list rest =
      let at = place_of total (Apply b name c arguments d) rest in
      let more = symbol_text d symbol.Close rest in
      one_first k at taken (tree_of days (Apply b name c arguments d)) (applied name) (known_of days total at arguments more)
      (misfits_of days total at (taken_by_of (applied name)) arguments more) refl refl
      (fits q (arguments_level name) arguments is.3 at (taken_by_of (applied name)) (taken_list p q name arguments is.3) more)

  -- where a form stands
  stands : (q : Bool) (L : ℕ) (F : Form) → 1 ≤ L → IsForm p q L F → (rest : List ℕ) → (known_of days total 0 F rest).at ≡ place_of total F rest
  stands q L (Number b digits decimals) some is rest = refl
  stands q L (Item b form word) some is rest = refl
  stands q L (Bracket b inner c) some is rest = stands q 1 inner (omega arith) is.1 (symbol_text c symbol.Close rest)
  stands q L (Power atom b c digits) some is rest = refl
  stands q L (Sign b sign operand) some is rest = refl
  stands q L (Chain left b operator right) some is rest = refl
  stands q L (Arguments first b last) some is rest = absurd (omega (arith, is.0))
  stands q L (If b c test d one e other f) some is rest = refl
  stands q L (Condition b c d test e f one g other h) some is rest = refl
  stands q L (DaysBetween b c one d other e) some is rest = refl
  stands q L (Apply b name c arguments d) some is rest = refl

  whole_by : (known : Known) (place : ℕ) (wanted : Option Sort) → known.at ≡ place → known_first place wanted known ≡ misfit_of known wanted
  whole_by known place None e = refl
  whole_by known place (Some wanted) e =
      by_tests (same_sort known.sort wanted) known.literal known.misfit
      ∙ ap (λ (k : ℕ). cond (same_sort known.sort wanted) known.misfit (first_of_two known.misfit (Some k))) (sym e)
    where
      same : min place known.at ≡ place
      same = omega (arith, e)

      by_tests : (t u : Bool) (o : Option ℕ)
          → first_of_two (cond t None (cond u (Some place) (Some (min place known.at)))) o ≡ cond t o (first_of_two o (Some place))
      by_tests true u o = refl
      by_tests false true o = swapped (Some place) o
      by_tests false false o = ap (λ (k : ℕ). first_of_two (Some k) o) same ∙ swapped (Some place) o

  form_first : (F : Form) (wanted : Option Sort) (rest : List ℕ) → IsForm p false 1 F
      → least_of (misfits_of days total (place_of total F rest) wanted F rest) ≡ misfit_of (known_of days total 0 F rest) wanted
  form_first F wanted rest is =
      single false 1 F (fits false 1 F) (omega arith) is (place_of total F rest) wanted rest
      ∙ whole_by (known_of days total 0 F rest) (place_of total F rest) wanted (stands false 1 F (omega arith) is rest)

  -- a whole text
  pub whole_first : (F : Form) (wanted : Option Sort) (rest : List ℕ) → IsWhole p F
      → least_of (misfits_of days total (place_of total F rest) wanted F rest) ≡ misfit_of (known_of days total 0 F rest) wanted
  whole_first (Item b form word) wanted rest is =
      leaf_first (place_of total (Item b form word) rest) (place_of total (Item b form word) rest) wanted (item_leaf days (item_from form word))
      ∙ whole_by (known_of days total 0 (Item b form word) rest) (place_of total (Item b form word) rest) wanted refl
  whole_first (Number b digits decimals) wanted rest is = form_first (Number b digits decimals) wanted rest is
  whole_first (Bracket b inner c) wanted rest is = form_first (Bracket b inner c) wanted rest is
  whole_first (Power atom b c digits) wanted rest is = form_first (Power atom b c digits) wanted rest is
  whole_first (Sign b sign operand) wanted rest is = form_first (Sign b sign operand) wanted rest is
  whole_first (Chain left b operator right) wanted rest is = form_first (Chain left b operator right) wanted rest is
  whole_first (Arguments first b last) wanted rest is = form_first (Arguments first b last) wanted rest is
  whole_first (If b c test d one e other f) wanted rest is = form_first (If b c test d one e other f) wanted rest is
  whole_first (Condition b c d test e f one g other h) wanted rest is = form_first (Condition b c d test e f one g other h) wanted rest is
  whole_first (DaysBetween b c one d other e) wanted rest is = form_first (DaysBetween b c one d other e) wanted rest is
  whole_first (Apply b name c arguments d) wanted rest is = form_first (Apply b name c arguments d) wanted rest is
