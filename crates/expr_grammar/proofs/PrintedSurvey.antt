-- What is known of a tree that was read depends on the tree alone, but for places: texts of one tree are judged alike.
use Rattle.std.proofs.Common.{◌≡◌, ℕ, suc, ◌+◌, ◌-◌, ◌<◌, ◌≤◌, Bool, true, false, cond, List, [], ◌∷◌, length, Option, Some, None, Ok, Err, refl, sym, ap}
use Rattle.std.proofs.Common.{subst, ◌∙◌, ◌⊎◌, inl, inr, arith}
use Rattle.std.specs.Prelude.{◌&&◌, max, min, nat_lt, is_none}
use Rattle.std.proofs.lemmas.Bool.Decides.{nat_tests}
use Rattle.expr_lang.specs.declared.tree.Leaf.{Leaf}
use Rattle.expr_lang.specs.declared.tree.Unary.{Unary}
use Rattle.expr_lang.specs.declared.tree.Binary.{Binary}
use Rattle.expr_lang.specs.declared.tree.Binary.TheVariants as binary
use Rattle.expr_lang.specs.declared.tree.Sort.{Sort}
use Rattle.expr_lang.specs.declared.tree.Sort.TheVariants as sort
use Rattle.expr_lang.specs.declared.reading.Spot.{Spot}
use Rattle.expr_lang.specs.declared.reading.Node.{Node}
use Rattle.expr_lang.specs.declared.reading.Node.TheVariants as node
use Rattle.expr_lang.specs.declared.reading.Nodes.{Nodes}
use Rattle.expr_lang.specs.declared.survey.Known.{Known}
use Rattle.expr_lang.specs.declared.fault.ExprFault.TheVariants as fault
use Rattle.expr_lang.specs.Build.{shapes_after, shapes_behind, under_shape}
use Rattle.expr_lang.specs.Leaves.{leaf_of_node}
use Rattle.expr_lang.specs.Parse.{judged, brackets_judged}
use Rattle.expr_lang.specs.Shape.{Shape, Operand, One, Two, Choice}
use Rattle.expr_grammar.proofs.Stored.{above_two, depth_of, sort_of, has_sort, sorts_fit}
use Rattle.expr_lang.specs.Survey.{same_sort, taken_by_of, taken_by_two, first_of_two, edge_of, edge_if_taken, one_deeper, deeper_of, unary_known_of}
use Rattle.expr_lang.specs.Survey.{binary_known_of, if_known_of, leaf_known_of, known_after, known_behind, survey_of, misfit_of, topmost}

-- ---- of a tree

-- what is known of a tree, whose depth is counted up to 513
pub record IsKnown (known : Known) (tree : Shape) : Type 0 where
  pub depth : known.depth ≡ min (depth_of tree) 513
  pub sort : known.sort ≡ sort_of tree
  pub fits : is_none known.misfit ≡ sorts_fit tree

-- ---- of a node above its operands

neither : (a b : Option ℕ) → is_none (first_of_two a b) ≡ is_none a && is_none b
neither (Some x) (Some y) = refl
neither (Some x) None = refl
neither None (Some y) = refl
neither None None = refl

no_edge_by : (t : Bool) (a b : ℕ) (l : Bool) → is_none (cond t None (cond l (Some a) (Some b))) ≡ t
no_edge_by true a b l = refl
no_edge_by false a b true = refl
no_edge_by false a b false = refl

both_same : {a b c d : Bool} → a ≡ c → b ≡ d → a && b ≡ c && d
both_same p q = λ i. p i && q i

edge_is : (place : ℕ) (taken : Sort) (known : Known) (tree : Shape) → IsKnown known tree → is_none (edge_of place taken known) ≡ same_sort (sort_of tree) taken
edge_is place taken known tree h = no_edge_by (same_sort known.sort taken) place (min place known.at) known.literal
    ∙ ap (λ (s : Sort). same_sort s taken) h.sort

edge_if : (place : ℕ) (taken : Option Sort) (known : Known) (tree : Shape) → IsKnown known tree
    → is_none (edge_if_taken place taken known) ≡ has_sort taken tree
edge_if place (Some taken) known tree h = edge_is place taken known tree h
edge_if place None known tree h = refl

deeper_by : (t : Bool) (x d : ℕ) → x ≡ min d 513 → nat_lt x 513 ≡ t → cond t (x + 1) x ≡ min (suc d) 513
deeper_by true x d h e = let low : x < 513 = grind (arith, nat_tests) in omega arith
deeper_by false x d h e = let high : 513 ≤ x = grind (arith, nat_tests) in omega arith

deeper : (x d : ℕ) → x ≡ min d 513 → one_deeper x ≡ min (suc d) 513
deeper x d h = deeper_by (nat_lt x 513) x d h refl

deeper_two : (operator : Binary) (x d : ℕ) → x ≡ min d 513 → deeper_of operator x ≡ min (above_two operator d) 513
deeper_two binary.Comma x d h = h
deeper_two _ x d h = deeper x d h

known_one : (place : ℕ) (operator : Unary) (known : Known) (tree : Shape) → IsKnown known tree
    → IsKnown (unary_known_of place operator known) (One operator tree)
known_one place operator known tree h = record {
  depth = deeper known.depth (depth_of tree) h.depth;
  sort = refl;
  fits = neither (edge_if_taken place (taken_by_of operator) known) known.misfit ∙ both_same (edge_if place (taken_by_of operator) known tree h) h.fits;
}

known_two : (place : ℕ) (operator : Binary) (k l : Known) (left right : Shape) → IsKnown k left → IsKnown l right
    → IsKnown (binary_known_of place operator k l) (Two operator left right)
known_two place operator k l left right g h =
    let a = edge_of place (taken_by_two operator) k in
    let b = edge_of place (taken_by_two operator) l in
    record {
      depth = deeper_two operator (max k.depth l.depth) (max (depth_of left) (depth_of right)) (omega (arith, g.depth, h.depth));
      sort = refl;
      fits = neither (first_of_two a b) (first_of_two k.misfit l.misfit)
          ∙ both_same (neither a b ∙ both_same (edge_is place (taken_by_two operator) k left g) (edge_is place (taken_by_two operator) l right h))
          (neither k.misfit l.misfit ∙ both_same g.fits h.fits);
    }

known_three : (place : ℕ) (k l m : Known) (test one other : Shape) → IsKnown k test → IsKnown l one → IsKnown m other
    → IsKnown (if_known_of place k l m) (Choice test one other)
known_three place k l m test one other f g h =
    let a = edge_of place sort.Truth k in
    let b = edge_of place sort.Number l in
    let c = edge_of place sort.Number m in
    record {
      depth = deeper (max (max k.depth l.depth) m.depth) (max (max (depth_of test) (depth_of one)) (depth_of other)) (omega (arith, f.depth, g.depth, h.depth));
      sort = refl;
      fits = neither (first_of_two a (first_of_two b c)) (first_of_two k.misfit (first_of_two l.misfit m.misfit))
          ∙ both_same (neither a (first_of_two b c)
          ∙ both_same (edge_is place sort.Truth k test f) (neither b c
          ∙ both_same (edge_is place sort.Number l one g) (edge_is place sort.Number m other h)))
          (neither k.misfit (first_of_two l.misfit m.misfit) ∙ both_same f.fits (neither l.misfit m.misfit ∙ both_same g.fits h.fits));
    }

known_leaf : (place : ℕ) (it : Leaf) → IsKnown (leaf_known_of place it) (Operand it)
known_leaf place it = record { depth = refl; sort = refl; fits = refl }

-- ---- of nodes one after another

-- how many operands a node has
abbrev operands_in : Node → ℕ
operands_in (node.Unary operator) = 1
operands_in (node.Binary operator) = 2
operands_in node.If = 3
operands_in _ = 0

-- each node finds its operands on a stack that is so high
abbrev HasOperands : List Spot → ℕ → Type 0
HasOperands [] n = Unit {0}
HasOperands (spot ∷ spots) n = (operands_in spot.node ≤ n) × HasOperands spots (suc (n - operands_in spot.node))

abbrev height : List Spot → ℕ → ℕ
height [] n = n
height (spot ∷ spots) n = height spots (suc (n - operands_in spot.node))

under_long : (stack : List Shape) → length (under_shape stack) ≡ length stack - 1
under_long [] = omega arith
under_long (s ∷ ss) = omega arith

after_long : (text : List ℕ) (days : List (List ℕ)) (at : ℕ) (it : Node) (stack : List Shape)
    → length (shapes_after text days at it stack) ≡ suc (length stack - operands_in it)
after_long text days at (node.Number n) stack = omega arith
after_long text days at (node.Item form) stack = omega arith
after_long text days at (node.Unary operator) stack = omega (arith, under_long stack)
after_long text days at (node.Binary operator) stack = omega (arith, under_long stack, under_long (under_shape stack))
after_long text days at node.If stack = omega (arith, under_long stack, under_long (under_shape stack), under_long (under_shape (under_shape stack)))

behind_long : (text : List ℕ) (days : List (List ℕ)) (spots : List Spot) (stack : List Shape)
    → length (shapes_behind text days spots stack) ≡ height spots (length stack)
behind_long text days [] stack = refl
behind_long text days (spot ∷ spots) stack =
    behind_long text days spots (shapes_after text days spot.at spot.node stack) ∙ ap (height spots) (after_long text days spot.at spot.node stack)

order : (a b : ℕ) → (a ≤ b) ⊎ (b < a)
order a b = by_test (nat_lt b a) refl
  where
    by_test : (t : Bool) → nat_lt b a ≡ t → (a ≤ b) ⊎ (b < a)
    by_test true e = inr (grind (arith, nat_tests))
    by_test false e = inl (grind (arith, nat_tests))

operands_by : (spot : Spot) (spots : List Spot) (n : ℕ) → ((operands_in spot.node ≤ n) ⊎ (n < operands_in spot.node))
    → ((m : ℕ) → height spots (suc m) ≡ suc (height spots m) → HasOperands spots m) → height (spot ∷ spots) (suc n) ≡ suc (height (spot ∷ spots) n)
    → HasOperands (spot ∷ spots) n
operands_by spot spots n (inl le) next h =
    let e : suc (suc n - operands_in spot.node) ≡ suc (suc (n - operands_in spot.node)) = omega arith in
    (le, next (suc (n - operands_in spot.node)) (sym (ap (height spots) e) ∙ h))
operands_by spot spots n (inr lt) next h =
    let e : suc (suc n - operands_in spot.node) ≡ suc (n - operands_in spot.node) = omega arith in
    absurd (omega (arith, ap (height spots) e, h))

-- where one operand more below leaves one more, each node had its operands
has_operands : (spots : List Spot) (n : ℕ) → height spots (suc n) ≡ suc (height spots n) → HasOperands spots n
has_operands [] n h = tt
has_operands (spot ∷ spots) n h = operands_by spot spots n (order (operands_in spot.node) n) (has_operands spots) h

abbrev AreKnown : List Known → List Shape → Type 0
AreKnown [] [] = Unit {0}
AreKnown (k ∷ ks) (s ∷ ss) = IsKnown k s × AreKnown ks ss
AreKnown _ _ = ⊥

after_known : (text : List ℕ) (days : List (List ℕ)) (at : ℕ) (it : Node) (ks : List Known) (ss : List Shape) → AreKnown ks ss → operands_in it ≤ length ss
    → AreKnown (known_after text days at it ks) (shapes_after text days at it ss)
after_known text days at (node.Number n) ks ss h le = (known_leaf at (leaf_of_node text days at (node.Number n)), h)
after_known text days at (node.Item form) ks ss h le = (known_leaf at (leaf_of_node text days at (node.Item form)), h)
after_known text days at (node.Unary operator) (k ∷ ks) (s ∷ ss) h le = (known_one at operator k s h.0, h.1)
after_known text days at (node.Binary operator) (l ∷ k ∷ ks) (t ∷ s ∷ ss) h le = (known_two at operator k l s t h.1.0 h.0, h.1.1)
after_known text days at node.If (m ∷ l ∷ k ∷ ks) (u ∷ t ∷ s ∷ ss) h le = (known_three at k l m s t u h.1.1.0 h.1.0 h.0, h.1.1.1)
after_known text days at (node.Unary operator) ks [] h le = absurd (omega arith)
after_known text days at (node.Binary operator) ks [] h le = absurd (omega arith)
after_known text days at (node.Binary operator) ks (s ∷ []) h le = absurd (omega arith)
after_known text days at node.If ks [] h le = absurd (omega arith)
after_known text days at node.If ks (s ∷ []) h le = absurd (omega arith)
after_known text days at node.If ks (t ∷ s ∷ []) h le = absurd (omega arith)
after_known text days at (node.Unary operator) [] (s ∷ ss) h le = absurd h
after_known text days at (node.Binary operator) [] (t ∷ s ∷ ss) h le = absurd h
after_known text days at (node.Binary operator) (l ∷ []) (t ∷ s ∷ ss) h le = absurd h.1
after_known text days at node.If [] (u ∷ t ∷ s ∷ ss) h le = absurd h
after_known text days at node.If (m ∷ []) (u ∷ t ∷ s ∷ ss) h le = absurd h.1
after_known text days at node.If (m ∷ l ∷ []) (u ∷ t ∷ s ∷ ss) h le = absurd h.1.1

behind_known : (text : List ℕ) (days : List (List ℕ)) (spots : List Spot) (ks : List Known) (ss : List Shape) → AreKnown ks ss → HasOperands spots (length ss)
    → AreKnown (known_behind text days spots ks) (shapes_behind text days spots ss)
behind_known text days [] ks ss h g = h
behind_known text days (spot ∷ spots) ks ss h g =
    behind_known text days spots (known_after text days spot.at spot.node ks) (shapes_after text days spot.at spot.node ss)
    (after_known text days spot.at spot.node ks ss h g.0) (subst (HasOperands spots) (sym (after_long text days spot.at spot.node ss)) g.1)

top_known : (ks : List Known) (s : Shape) → AreKnown ks (s ∷ []) → IsKnown (topmost ks) s
top_known [] s h = absurd h
top_known (k ∷ ks) s h = h.0

-- the nodes are those of a tree, whatever stands below
abbrev pub Makes : List ℕ → List (List ℕ) → List Spot → Shape → Type 0
Makes text days spots tree = (stack : List Shape) → shapes_behind text days spots stack ≡ tree ∷ stack

pub survey_is : (text : List ℕ) (days : List (List ℕ)) (spots : List Spot) (tree : Shape) → Makes text days spots tree
    → IsKnown (survey_of text days spots) tree
unfolding survey_of
survey_is text days spots tree h =
    let none : height spots 0 ≡ 1 = sym (behind_long text days spots []) ∙ ap length (h []) in
    let one : height spots 1 ≡ 2 = sym (behind_long text days spots (tree ∷ [])) ∙ ap length (h (tree ∷ [])) in
    let all = behind_known text days spots [] [] tt (has_operands spots 0 (one ∙ ap suc (sym none))) in
    top_known (known_behind text days spots []) tree (subst (AreKnown (known_behind text days spots [])) (h []) all)

-- ---- what is judged

-- a tree that isn't too deep and whose sorts fit
pub record IsGood (tree : Shape) (wanted : Option Sort) : Type 0 where
  pub flat : depth_of tree ≤ 512
  pub fits : has_sort wanted tree && sorts_fit tree ≡ true

misfit_by : (t : Bool) (o : Option ℕ) (at : ℕ) → is_none (cond t o (first_of_two o (Some at))) ≡ t && is_none o
misfit_by true o at = refl
misfit_by false (Some x) at = refl
misfit_by false None at = refl

pub misfit_is : (known : Known) (tree : Shape) (wanted : Option Sort) → IsKnown known tree
    → is_none (misfit_of known wanted) ≡ has_sort wanted tree && sorts_fit tree
misfit_is known tree None h = h.fits
misfit_is known tree (Some wanted) h =
    misfit_by (same_sort known.sort wanted) known.misfit known.at ∙ (λ i. same_sort (h.sort i) wanted && h.fits i)

is_nothing : (o : Option ℕ) → is_none o ≡ true → o ≡ None
is_nothing None e = refl
is_nothing (Some x) e = absurd cc

pub judged_good : (known : Known) (tree : Shape) (wanted : Option Sort) (nodes : Nodes) → IsKnown known tree → IsGood tree wanted → nodes.crowded ≡ None
    → judged known wanted nodes ≡ Ok nodes
judged_good known tree wanted nodes h good free =
    let low : known.depth ≤ 512 = omega (arith, h.depth, good.flat) in
    let a : nat_lt 512 known.depth ≡ false = grind (arith, nat_tests) in
    let b : misfit_of known wanted ≡ None = is_nothing (misfit_of known wanted) (misfit_is known tree wanted h ∙ good.fits) in
    ap (λ (t : Bool). cond t (Err (fault.TooDeep 0)) (brackets_judged nodes.crowded (misfit_of known wanted) nodes)) a
    ∙ (λ i. brackets_judged (free i) (b i) nodes)

abbrev WasGood : Known → Shape → Option Sort → Nodes → Nodes → Type 0
WasGood known tree wanted nodes same = IsGood tree wanted × (nodes.crowded ≡ None) × (same ≡ nodes)

good_by : (known : Known) (tree : Shape) (wanted : Option Sort) (nodes same : Nodes) → IsKnown known tree → (t : Bool) (crowded misfit : Option ℕ)
    → nat_lt 512 known.depth ≡ t → nodes.crowded ≡ crowded → misfit_of known wanted ≡ misfit
    → cond t (Err (fault.TooDeep 0)) (brackets_judged crowded misfit nodes) ≡ Ok same → WasGood known tree wanted nodes same
good_by known tree wanted nodes same h true crowded misfit a b c e = absurd cc
good_by known tree wanted nodes same h false (Some x) misfit a b c e = absurd cc
good_by known tree wanted nodes same h false None (Some x) a b c e = absurd cc
good_by known tree wanted nodes same h false None None a b c e =
    let low : known.depth ≤ 512 = grind (arith, nat_tests) in
    (record { flat = omega (arith, h.depth, low); fits = sym (misfit_is known tree wanted h) ∙ ap (λ o. is_none o) c }, b, cc)

pub good_judged : (known : Known) (tree : Shape) (wanted : Option Sort) (nodes same : Nodes) → IsKnown known tree → judged known wanted nodes ≡ Ok same
    → WasGood known tree wanted nodes same
good_judged known tree wanted nodes same h e =
    good_by known tree wanted nodes same h (nat_lt 512 known.depth) nodes.crowded (misfit_of known wanted) refl refl refl e
