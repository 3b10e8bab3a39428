-- A text has one answer only.
use Rattle.std.proofs.Common.{◌≡◌, ℕ, ◌≤◌, true, false, cond, List, [], ◌∷◌, ◌++◌, length, Option, Some, Result, Ok, Err, sym, ap, subst, ◌∙◌}
use Rattle.std.proofs.Common.{inl, inr, arith}
use Rattle.std.specs.Prelude.{nat_le, nat_lt, is_none}
use Rattle.std.proofs.lemmas.Bool.Decides.{nat_tests}
use Rattle.expr_lang.specs.declared.tree.Item.{Item}
use Rattle.expr_lang.specs.declared.tree.Place.{Place}
use Rattle.expr_lang.specs.declared.tree.Sort.{Sort}
use Rattle.expr_lang.specs.declared.reading.Nodes.{Nodes}
use Rattle.expr_lang.specs.declared.survey.Known.{Known}
use Rattle.expr_lang.specs.declared.fault.ExprFault.{ExprFault}
use Rattle.expr_lang.specs.declared.fault.ExprFault.TheVariants as fault
use Rattle.expr_lang.specs.Build.{built}
use Rattle.expr_lang.specs.Expr.{parse_of}
use Rattle.expr_lang.specs.Expression.{Expression}
use Rattle.expr_lang.specs.Items.{Occurrence, ListsFrom, Lists}
use Rattle.expr_lang.specs.Reading.{read_text}
use Rattle.expr_lang.specs.Stored.{syntax_of}
use Rattle.expr_lang.specs.Survey.{survey_of, misfit_of}
use Rattle.expr_lang.specs.Syntax.{Syntax}
use Rattle.expr_grammar.specs.Answer.{IsAnswer, HasOneAnswer}
use Rattle.expr_grammar.specs.Brackets.{crowded_bracket}
use Rattle.expr_grammar.specs.Fewest.{open_of}
use Rattle.expr_grammar.specs.Grammar.{Form, tree_of}
use Rattle.expr_grammar.specs.Items.{occurrences_of}
use Rattle.expr_grammar.specs.Limits.{IsWritten, IsFlat, is_sorted, deep_place}
use Rattle.expr_grammar.specs.Misfits.{first_misfit}
use Rattle.expr_grammar.specs.Sorts.{depth_of}
use Rattle.expr_grammar.proofs.Answered.{places_are, before_fault, ends_at}
use Rattle.expr_grammar.proofs.Bridge.{told}
use Rattle.expr_grammar.proofs.Misfitting.{whole_first}
use Rattle.expr_grammar.proofs.OnlyPlace.{only_place}
use Rattle.expr_grammar.proofs.PrintedOpen.{crowded_is}
use Rattle.expr_grammar.proofs.Restated.{first_same, read_so}
use Rattle.expr_grammar.proofs.Texts.{text_told}

-- ---- items

-- the lists that occurrences come to
listed_once : (os : List Occurrence) (items : List Item) (places : List ℕ) (xs ys : List Item) (ms ns : List ℕ)
    → ListsFrom os items places xs ms → ListsFrom os items places ys ns → (xs ≡ ys) × (ms ≡ ns)
listed_once [] items places xs ys ms ns h k = (h.0 ∙ sym k.0, h.1 ∙ sym k.1)
listed_once (o ∷ os) items places xs ys ms ns (inl h) (inl k) = listed_once os items places xs ys ms ns h.1 k.1
listed_once (o ∷ os) items places xs ys ms ns (inl h) (inr k) = absurd (k.0 h.0)
listed_once (o ∷ os) items places xs ys ms ns (inr h) (inl k) = absurd (h.0 k.0)
listed_once (o ∷ os) items places xs ys ms ns (inr h) (inr k) = listed_once os (items ++ o.item ∷ []) (places ++ o.at ∷ []) xs ys ms ns h.1 k.1

lists_once : (os : List Occurrence) (xs ys : List Item) (ms ns : List ℕ) → Lists os xs ms → Lists os ys ns → (xs ≡ ys) × (ms ≡ ns)
unfolding Lists
lists_once os xs ys ms ns h k = listed_once os [] [] xs ys ms ns h k

-- ---- forms

one_expression : (x y : Expression) → x.tree ≡ y.tree → (x.items ≡ y.items) × (x.places ≡ y.places) → x ≡ y
one_expression x y tree lists = λ i. record { tree = tree i; items = lists.0 i; places = lists.1 i }

some_is : (a b : ℕ) → ◌≡◌ {A = Option ℕ} (Some a) (Some b) → a ≡ b
some_is a b e = cc

module _ (p : Place) (days : List (List ℕ)) (wanted : Option Sort) (text : List ℕ) where
  same_nodes : (a b : Nodes) (r : Result Nodes ℕ) → r ≡ Ok a → r ≡ Ok b → a ≡ b
  same_nodes a b r e f = cc

  -- what the nodes that are read say of a form with blanks after it
  record Says (nodes : Nodes) (F : Form) (blanks : List ℕ) : Type 0 where
    tree : tree_of days F ≡ syntax_of (built text days nodes.nodes)
    few : nat_le (open_of F) 64 ≡ is_none nodes.crowded
    first : first_misfit days wanted text F blanks ≡ misfit_of (survey_of text days nodes.nodes) wanted

  said : (F : Form) (is : IsWritten p text F) → (nodes : Nodes) × (read_text p text ≡ Ok nodes) × Says nodes F is.0.1
  said F is =
      let t = text_told p days text is.1 F is.0 in (
        t.whole.nodes,
        t.whole.read,
        record {
          tree = sym (told days p F is.0.0).stored ∙ ap syntax_of (sym t.whole.tree);
          few = sym (crowded_is p text F t.whole.nodes is.0 t.whole.read);
          first = first_same p days wanted text F is.0.1 is.0.0 ∙ whole_first p days (length text) F wanted is.0.1 is.0.0
              ∙ ap (λ (k : Known). misfit_of k wanted) (sym t.known);
        },
      )

  -- two forms of one text
  record Alike (F G : Form) (one other : List ℕ) : Type 0 where
    tree : tree_of days F ≡ tree_of days G
    few : nat_le (open_of F) 64 ≡ nat_le (open_of G) 64
    first : first_misfit days wanted text F one ≡ first_misfit days wanted text G other

  alike_by : (F G : Form) (one other : List ℕ) (m n : Nodes) → Says m F one → Says n G other → m ≡ n → Alike F G one other
  alike_by F G one other m n h k e = record {
    tree = h.tree ∙ ap (λ (x : Nodes). syntax_of (built text days x.nodes)) e ∙ sym k.tree;
    few = h.few ∙ ap (λ (x : Nodes). is_none x.crowded) e ∙ sym k.few;
    first = h.first ∙ ap (λ (x : Nodes). misfit_of (survey_of text days x.nodes) wanted) e ∙ sym k.first;
  }

  alike : (F G : Form) (f : IsWritten p text F) (g : IsWritten p text G) → Alike F G f.0.1 g.0.1
  alike F G f g =
      let a = said F f in
      let b = said G g in
      alike_by F G f.0.1 g.0.1 a.0 b.0 a.2 b.2 (same_nodes a.0 b.0 (read_text p text) a.1 b.1)

  flat_too : (F G : Form) → IsWritten p text F → IsWritten p text G → IsFlat days F → IsFlat days G
  flat_too F G f g flat =
      let a = alike F G f g in
      let low : open_of F ≤ 64 = flat.0 in
      let small : nat_le (open_of F) 64 ≡ true = grind (arith, nat_tests) in
      let also : nat_le (open_of G) 64 ≡ true = sym a.few ∙ small in
      let few : open_of G ≤ 64 = grind (arith, nat_tests) in
      (few, subst (λ (n : ℕ). n ≤ 512) (ap depth_of a.tree) flat.1)

  deep_same : (F G : Form) → IsWritten p text F → IsWritten p text G → deep_place days text F ≡ deep_place days text G
  deep_same F G f g = ap (λ (x : Syntax). cond (nat_lt 512 (depth_of x)) (Some 0) (crowded_bracket text)) (alike F G f g).tree

  sorted_same : (F G : Form) → IsWritten p text F → IsWritten p text G → is_sorted wanted (tree_of days F) ≡ is_sorted wanted (tree_of days G)
  sorted_same F G f g = ap (is_sorted wanted) (alike F G f g).tree

  -- ---- answers

  abbrev Answer : Result Expression ExprFault → Type 0
  Answer r = IsAnswer p days wanted text r

  one_tree : (x y : Expression) → Answer (Ok x) → Answer (Ok y) → x.tree ≡ y.tree
  one_tree x y h k = sym h.read.4 ∙ (alike h.read.0 k.read.0 h.read.1 k.read.1).tree ∙ k.read.4

  one_list : (x y : Expression) → Answer (Ok x) → Answer (Ok y) → (x.items ≡ y.items) × (x.places ≡ y.places)
  one_list x y h k =
      let F = h.read.0 in
      let is = h.read.1.0 in
      lists_once (occurrences_of days (length text) F is.1) x.items y.items x.places y.places (h.items F is) (k.items F is)

  -- no text has both an expression and a fault
  not_both : (x : Expression) (f : ExprFault) → Answer (Ok x) → Answer (Err f) → ⊥
  not_both x fault.Memory h k = k.read
  not_both x (fault.Syntax at) h k = k.read h.read.0 h.read.1
  not_both x (fault.TooDeep at) h k = k.read.2 (flat_too h.read.0 k.read.0 h.read.1 k.read.1 h.read.2)
  not_both x (fault.Sort at) h k =
      let no : true ≡ false = sym h.read.3 ∙ sorted_same h.read.0 k.read.0 h.read.1 k.read.1 ∙ k.read.3 in
      absurd cc

  faults_same : (f g : ExprFault) → Answer (Err f) → Answer (Err g) → f ≡ g
  faults_same fault.Memory g h k = absurd h.read
  faults_same (fault.Syntax at) fault.Memory h k = absurd k.read
  faults_same (fault.Syntax at) (fault.Syntax other) h k = ap (λ (n : ℕ). fault.Syntax n) (only_place p text at other h.before h.ends k.before k.ends)
  faults_same (fault.Syntax at) (fault.TooDeep other) h k = absurd (h.read k.read.0 k.read.1)
  faults_same (fault.Syntax at) (fault.Sort other) h k = absurd (h.read k.read.0 k.read.1)
  faults_same (fault.TooDeep at) fault.Memory h k = absurd k.read
  faults_same (fault.TooDeep at) (fault.Syntax other) h k = absurd (k.read h.read.0 h.read.1)
  faults_same (fault.TooDeep at) (fault.TooDeep other) h k =
      ap (λ (n : ℕ). fault.TooDeep n) (some_is at other (sym h.read.3 ∙ deep_same h.read.0 k.read.0 h.read.1 k.read.1 ∙ k.read.3))
  faults_same (fault.TooDeep at) (fault.Sort other) h k = absurd (h.read.2 (flat_too k.read.0 h.read.0 k.read.1 h.read.1 k.read.2))
  faults_same (fault.Sort at) fault.Memory h k = absurd k.read
  faults_same (fault.Sort at) (fault.Syntax other) h k = absurd (k.read h.read.0 h.read.1)
  faults_same (fault.Sort at) (fault.TooDeep other) h k = absurd (k.read.2 (flat_too h.read.0 k.read.0 h.read.1 k.read.1 h.read.2))
  faults_same (fault.Sort at) (fault.Sort other) h k =
      ap (λ (n : ℕ). fault.Sort n) (some_is at other (sym h.read.4 ∙ (alike h.read.0 k.read.0 h.read.1 k.read.1).first ∙ k.read.4))

  pub one_answer : HasOneAnswer p days wanted text
  one_answer (Ok x) (Ok y) h k = ap (λ (e : Expression). Ok e) (one_expression x y (one_tree x y h k) (one_list x y h k))
  one_answer (Ok x) (Err f) h k = absurd (not_both x f h k)
  one_answer (Err f) (Ok y) h k = absurd (not_both y f k h)
  one_answer (Err f) (Err g) h k = ap (λ (e : ExprFault). Err e) (faults_same f g h k)

  -- what is meant is an answer
  pub answer_so : IsAnswer p days wanted text (parse_of p days wanted text)
  answer_so = record {
    read = read_so p days wanted text;
    items = places_are p days wanted text;
    before = before_fault p days wanted text;
    ends = ends_at p days wanted text;
  }
