-- One step of making an expression, and all of them.
use Rattle.std.proofs.Common.{◌≡◌, ℕ, ◌+◌, ◌<◌, ◌≤◌, List, [], ◌∷◌, ◌++◌, length, get_or, drop, Option, Some, None, refl, sym, ap, subst, ◌∙◌, inl, inr}
use Rattle.std.proofs.Common.{Result, Ok, Err}
use Rattle.std.specs.Prelude.{OnOk}
use Rattle.std.proofs.Common.{arith}
use Rattle.std.proofs.lemmas.List.{drop_more, drop_all, length-append}
use Rattle.expr_lang.specs.declared.tree.Item.{Item}
use Rattle.expr_lang.specs.declared.tree.Leaf.{Leaf}
use Rattle.expr_lang.specs.declared.tree.Leaf.TheVariants as leaf
use Rattle.expr_lang.specs.declared.tree.Unary.{Unary}
use Rattle.expr_lang.specs.declared.tree.Binary.{Binary}
use Rattle.expr_lang.specs.declared.tree.Branch.{Branch}
use Rattle.expr_lang.specs.declared.tree.Branch.TheVariants as branch
use Rattle.expr_lang.specs.declared.reading.Spot.{Spot}
use Rattle.expr_lang.specs.declared.reading.Node.{Node}
use Rattle.expr_lang.specs.declared.reading.Node.TheVariants as node
use Rattle.expr_lang.specs.declared.survey.Known.{Known}
use Rattle.expr_lang.specs.declared.build.Waiting.{Waiting}
use Rattle.expr_lang.specs.declared.build.Making.{Making}
use Rattle.expr_lang.specs.Branches.{branch_shape, shape_in, IsEarlier, AreSound, AreDifferent}
use Rattle.expr_lang.specs.Build.{top_shape, under_shape, shapes_behind, built}
use Rattle.expr_lang.specs.Items.{item_of_leaf_of, occurrences, ListsOne, Lists}
use Rattle.expr_lang.specs.Making.{top_waiting, under_waiting, knowns, shapes_on, with_top, with_branch, with_unary, with_binary, with_choice, new_making}
use Rattle.expr_lang.specs.Making.{AreWithin, IsMaking, IsListed, IsNext, IsNextLeaf}
use Rattle.expr_lang.specs.Shape.{Operand, One, Two, Choice}
use Rattle.expr_lang.specs.Survey.{leaf_known_of, unary_known_of, binary_known_of, if_known_of, topmost, below, known_behind, survey_of}
use Rattle.expr_lang.proofs.BranchLemmas.{shape_kept, sound_kept, IsLonger, longer_same, longer_one, last_shape, earlier_shape, sound_more}
use Rattle.expr_lang.proofs.Listing.{Listed, listed_none, listed_more, listed_all}

-- ---- what waits

known_top : (stack : List Waiting) → topmost (knowns stack) ≡ (top_waiting stack).known
known_top [] = refl
known_top (w ∷ ws) = refl

known_under : (stack : List Waiting) → below (knowns stack) ≡ knowns (under_waiting stack)
known_under [] = refl
known_under (w ∷ ws) = refl

shape_top : (items : List Item) (branches : List Branch) (stack : List Waiting) → shape_in items branches 0 ≡ Operand (leaf.Number 0)
    → top_shape (shapes_on items branches stack) ≡ shape_in items branches (top_waiting stack).node
shape_top items branches [] missing = sym missing
shape_top items branches (w ∷ ws) missing = refl

shape_under : (items : List Item) (branches : List Branch) (stack : List Waiting)
    → under_shape (shapes_on items branches stack) ≡ shapes_on items branches (under_waiting stack)
shape_under items branches [] = refl
shape_under items branches (w ∷ ws) = refl

within_under : (count : ℕ) (stack : List Waiting) → AreWithin count stack → AreWithin count (under_waiting stack)
within_under count [] is = is
within_under count (w ∷ ws) is = is.1

within_top : (count : ℕ) (stack : List Waiting) → 0 < count → AreWithin count stack → (top_waiting stack).node < count
within_top count [] some is = some
within_top count (w ∷ ws) some is = is.0

within_more : (count more : ℕ) (stack : List Waiting) → count ≤ more → AreWithin count stack → AreWithin more stack
within_more count more [] h is = is
within_more count more (w ∷ ws) h is = (omega (arith, h, is.0), within_more count more ws h is.1)

shapes_earlier : (items : List Item) (branches : List Branch) (b : Branch) (stack : List Waiting) → AreWithin (length branches) stack
    → shapes_on items (branches ++ b ∷ []) stack ≡ shapes_on items branches stack
shapes_earlier items branches b [] is = refl
shapes_earlier items branches b (w ∷ ws) is = λ i. earlier_shape items branches b w.node is.0 i ∷ shapes_earlier items branches b ws is.1 i

shapes_listed : (items more : List Item) (branches : List Branch) (stack : List Waiting) → ((n : ℕ) → shape_in items branches n ≡ shape_in more branches n)
    → shapes_on items branches stack ≡ shapes_on more branches stack
shapes_listed items more branches [] is = refl
shapes_listed items more branches (w ∷ ws) is = λ i. is w.node i ∷ shapes_listed items more branches ws is i

-- ---- a branch at the end

some_branch : (making : Making) → IsMaking making → 0 < length making.branches
some_branch making is = omega (arith, is.last)

topped : (making : Making) (known : Known) (b : Branch) (stack : List Waiting) → IsMaking making → IsEarlier (length making.items) (length making.branches) b
    → AreWithin (length making.branches) stack → IsMaking (with_top known b stack making)
topped making known b stack is earlier within = record {
  missing = earlier_shape making.items making.branches b 0 (some_branch making is) ∙ is.missing;
  sound = sound_more (length making.items) making.branches b earlier is.sound;
  different = is.different;
  paired = is.paired;
  within = (
    omega (arith, length-append making.branches (b ∷ [])),
    within_more (length making.branches) (length (making.branches ++ b ∷ [])) stack (omega (arith, length-append making.branches (b ∷ []))) within,
  );
  last = omega (arith, length-append making.branches (b ∷ []));
}

shapes_topped : (making : Making) (known : Known) (b : Branch) (stack : List Waiting) → AreWithin (length making.branches) stack
    → shapes_on making.items (with_top known b stack making).branches (with_top known b stack making).stack
    ≡ branch_shape making.items (shape_in making.items making.branches) b ∷ shapes_on making.items making.branches stack
shapes_topped making known b stack within = λ i.
    last_shape making.items making.branches b i ∷ shapes_earlier making.items making.branches b stack within i

-- ---- an operator

module _ (text : List ℕ) (days : List (List ℕ)) (at : ℕ) (old : Making) (is : IsMaking old) where
  some : 0 < length old.branches
  some = some_branch old is

  under_one : AreWithin (length old.branches) (under_waiting old.stack)
  under_one = within_under (length old.branches) old.stack is.within

  under_two : AreWithin (length old.branches) (under_waiting (under_waiting old.stack))
  under_two = within_under (length old.branches) (under_waiting old.stack) under_one

  under_three : AreWithin (length old.branches) (under_waiting (under_waiting (under_waiting old.stack)))
  under_three = within_under (length old.branches) (under_waiting (under_waiting old.stack)) under_two

  -- what is known of the second and the third from the top
  known_two : (top_waiting (under_waiting old.stack)).known ≡ topmost (below (knowns old.stack))
  known_two = sym (ap topmost (known_under old.stack) ∙ known_top (under_waiting old.stack))

  known_under_two : knowns (under_waiting (under_waiting old.stack)) ≡ below (below (knowns old.stack))
  known_under_two = sym (ap below (known_under old.stack) ∙ known_under (under_waiting old.stack))

  known_three : (top_waiting (under_waiting (under_waiting old.stack))).known ≡ topmost (below (below (knowns old.stack)))
  known_three = sym (known_top (under_waiting (under_waiting old.stack))) ∙ ap topmost known_under_two

  known_under_three : knowns (under_waiting (under_waiting (under_waiting old.stack))) ≡ below (below (below (knowns old.stack)))
  known_under_three = sym (known_under (under_waiting (under_waiting old.stack))) ∙ ap below known_under_two

  shape_one : shape_in old.items old.branches (top_waiting old.stack).node ≡ top_shape (shapes_on old.items old.branches old.stack)
  shape_one = sym (shape_top old.items old.branches old.stack is.missing)

  shape_under_one : shapes_on old.items old.branches (under_waiting old.stack) ≡ under_shape (shapes_on old.items old.branches old.stack)
  shape_under_one = sym (shape_under old.items old.branches old.stack)

  shape_two : shape_in old.items old.branches (top_waiting (under_waiting old.stack)).node ≡ top_shape
      (under_shape (shapes_on old.items old.branches old.stack))
  shape_two = sym (shape_top old.items old.branches (under_waiting old.stack) is.missing) ∙ ap top_shape shape_under_one

  shape_under_two : shapes_on old.items old.branches (under_waiting (under_waiting old.stack))
      ≡ under_shape (under_shape (shapes_on old.items old.branches old.stack))
  shape_under_two = sym (shape_under old.items old.branches (under_waiting old.stack)) ∙ ap under_shape shape_under_one

  shape_three : shape_in old.items old.branches (top_waiting (under_waiting (under_waiting old.stack))).node
      ≡ top_shape (under_shape (under_shape (shapes_on old.items old.branches old.stack)))
  shape_three = sym (shape_top old.items old.branches (under_waiting (under_waiting old.stack)) is.missing) ∙ ap top_shape shape_under_two

  shape_under_three : shapes_on old.items old.branches (under_waiting (under_waiting (under_waiting old.stack)))
      ≡ under_shape (under_shape (under_shape (shapes_on old.items old.branches old.stack)))
  shape_under_three = sym (shape_under old.items old.branches (under_waiting (under_waiting old.stack))) ∙ ap under_shape shape_under_two

  node_one : (top_waiting old.stack).node < length old.branches
  node_one = within_top (length old.branches) old.stack some is.within

  node_two : (top_waiting (under_waiting old.stack)).node < length old.branches
  node_two = within_top (length old.branches) (under_waiting old.stack) some under_one

  node_three : (top_waiting (under_waiting (under_waiting old.stack))).node < length old.branches
  node_three = within_top (length old.branches) (under_waiting (under_waiting old.stack)) some under_two

  pub next_unary : (o : Unary) → IsNext text days at (node.Unary o) old (with_unary at o old)
  next_unary o = record {
    known = λ i. unary_known_of at o (sym (known_top old.stack) i) ∷ sym (known_under old.stack) i;
    shapes = shapes_topped old (unary_known_of at o (top_waiting old.stack).known) (branch.Unary o (top_waiting old.stack).node)
        (under_waiting old.stack) under_one
        ∙ (λ i. One o (shape_one i) ∷ shape_under_one i);
    listed = (refl, refl);
    making = topped old (unary_known_of at o (top_waiting old.stack).known) (branch.Unary o (top_waiting old.stack).node)
        (under_waiting old.stack) is node_one under_one;
  }

  pub next_binary : (o : Binary) → IsNext text days at (node.Binary o) old (with_binary at o old)
  next_binary o = record {
    known = λ i. binary_known_of at o (known_two i) (sym (known_top old.stack) i) ∷ known_under_two i;
    shapes = shapes_topped old (binary_known_of at o (top_waiting (under_waiting old.stack)).known (top_waiting old.stack).known)
        (branch.Binary o (top_waiting (under_waiting old.stack)).node (top_waiting old.stack).node)
        (under_waiting (under_waiting old.stack)) under_two
        ∙ (λ i. Two o (shape_two i) (shape_one i) ∷ shape_under_two i);
    listed = (refl, refl);
    making = topped old (binary_known_of at o (top_waiting (under_waiting old.stack)).known (top_waiting old.stack).known)
        (branch.Binary o (top_waiting (under_waiting old.stack)).node (top_waiting old.stack).node)
        (under_waiting (under_waiting old.stack)) is (node_two, node_one) under_two;
  }

  pub next_choice : IsNext text days at node.If old (with_choice at old)
  next_choice = record {
    known = λ i. if_known_of at (known_three i) (known_two i) (sym (known_top old.stack) i) ∷ known_under_three i;
    shapes = shapes_topped old (if_known_of at (top_waiting (under_waiting (under_waiting old.stack))).known (top_waiting (under_waiting old.stack)).known
        (top_waiting old.stack).known)
        (branch.If (top_waiting (under_waiting (under_waiting old.stack))).node (top_waiting (under_waiting old.stack)).node (top_waiting old.stack).node)
        (under_waiting (under_waiting (under_waiting old.stack))) under_three
        ∙ (λ i. Choice (shape_three i) (shape_two i) (shape_one i) ∷ shape_under_three i);
    listed = (refl, refl);
    making = topped old (if_known_of at (top_waiting (under_waiting (under_waiting old.stack))).known (top_waiting (under_waiting old.stack)).known
        (top_waiting old.stack).known)
        (branch.If (top_waiting (under_waiting (under_waiting old.stack))).node (top_waiting (under_waiting old.stack)).node (top_waiting old.stack).node)
        (under_waiting (under_waiting (under_waiting old.stack))) is (node_three, node_two, node_one) under_three;
  }

-- ---- an operand

longer : (o : Option Item) (at : ℕ) (items : List Item) (places : List ℕ) (more : List Item) (more_places : List ℕ)
    → ListsOne o at items places more more_places → IsLonger items places more more_places
longer None at items places more more_places is =
    subst (λ (p : List Item × List ℕ). IsLonger items places p.0 p.1) (λ i. (sym is.0 i, sym is.1 i)) (longer_same items places)
longer (Some x) at items places more more_places is =
    elim is [
      | inl there ↦
          subst (λ (p : List Item × List ℕ). IsLonger items places p.0 p.1) (λ i. (sym there.1 i, sym there.2 i)) (longer_same items places)
      | inr absent ↦
          subst (λ (p : List Item × List ℕ). IsLonger items places p.0 p.1) (λ i. (sym absent.1 i, sym absent.2 i)) (longer_one items places x at absent.0)
    ]

abbrev with_items : Making → List Item → List ℕ → Making
with_items making items places = record making { items = items; places = places }

making_listed : (old : Making) (more : List Item) (more_places : List ℕ) → IsMaking old → IsLonger old.items old.places more more_places
    → IsMaking (with_items old more more_places)
making_listed old more more_places is grown = record {
  missing = sym (shape_kept old.items more old.branches 0 grown.kept is.sound) ∙ is.missing;
  sound = sound_kept (length old.items) (length more) old.branches grown.longer is.sound;
  different = grown.different is.different;
  paired = grown.paired is.paired;
  within = is.within;
  last = is.last;
}

pub next_leaf : (at : ℕ) (it : Leaf) (b : Branch) (old : Making) (more : List Item) (more_places : List ℕ) → IsMaking old
    → IsListed it at old.items old.places more more_places b
    → IsNextLeaf at it old (with_branch (leaf_known_of at it) b (record old { items = more; places = more_places }))
next_leaf at it b old more more_places is listed =
    let grown = longer (item_of_leaf_of it) at old.items old.places more more_places listed.listed in
    let made = making_listed old more more_places is grown in
    record {
      known = refl;
      shapes = shapes_topped (with_items old more more_places) (leaf_known_of at it) b old.stack is.within
          ∙ (λ i.
          listed.shape (shape_in more old.branches) i
          ∷ sym (shapes_listed old.items more old.branches old.stack (λ n. shape_kept old.items more old.branches n grown.kept is.sound)) i);
      listed = listed.listed;
      making = topped (with_items old more more_places) (leaf_known_of at it) b old.stack made (listed.earlier (length old.branches)) is.within;
    }

pub put_next_leaf : {A E : Type 0} (at : ℕ) (it : Leaf) (known : Known) (b : Branch) (old : Making) (more : List Item) (more_places : List ℕ)
    (result : Result A E) (new : Making)
    → IsMaking old → known ≡ leaf_known_of at it → IsListed it at old.items old.places more more_places b
    → OnOk result (new ≡ with_branch known b (record old { items = more; places = more_places })) → OnOk result (IsNextLeaf at it old new)
put_next_leaf at it known b old more more_places (Err e) new is same listed put = tt
put_next_leaf at it known b old more more_places (Ok x) new is same listed put =
    subst (IsNextLeaf at it old) (sym (put ∙ ap (λ (k : Known). with_branch k b (record old { items = more; places = more_places })) same))
    (next_leaf at it b old more more_places is listed)

-- what was put is the next, if it is what the node asks for
pub next_if : {A E : Type 0} (text : List ℕ) (days : List (List ℕ)) (at : ℕ) (it is : Node) (old wanted new : Making) (result : Result A E) → it ≡ is
    → OnOk result (new ≡ wanted) → IsNext text days at is old wanted → OnOk result (IsNext text days at it old new)
next_if text days at it is old wanted new (Err e) same put next = tt
next_if text days at it is old wanted new (Ok x) same put next =
    subst (λ (n : Node). IsNext text days at n old new) (sym same) (subst (IsNext text days at is old) (sym put) next)

-- ---- all nodes

-- what was made so far, and what is still to be made
pub record IsMade (text : List ℕ) (days : List (List ℕ)) (nodes : List Spot) (n : ℕ) (making : Making) : Type 0 where
  pub known : known_behind text days (drop n nodes) (knowns making.stack) ≡ known_behind text days nodes []
  pub shapes : shapes_behind text days (drop n nodes) (shapes_on making.items making.branches making.stack) ≡ shapes_behind text days nodes []
  pub listed : Listed text days nodes n making.items making.places
  pub parts : IsMaking making

missing_shape : shape_in [] (branch.Number 0 ∷ []) 0 ≡ Operand (leaf.Number 0)
unfolding shape_in
missing_shape = refl

new_sound : AreSound 0 (branch.Number 0 ∷ [])
unfolding AreSound
new_sound = (tt, tt)

pub made_none : (text : List ℕ) (days : List (List ℕ)) (nodes : List Spot) → IsMade text days nodes 0 new_making
unfolding AreDifferent
made_none text days nodes = record {
  known = refl;
  shapes = refl;
  listed = listed_none text days nodes;
  parts = record {
    missing = missing_shape;
    sound = new_sound;
    different = λ j k i at_j at_k. absurd cc;
    paired = refl;
    within = tt;
    last = refl;
  };
}

pub made_more : (text : List ℕ) (days : List (List ℕ)) (nodes : List Spot) (n : ℕ) (d : Spot) (old new : Making) → n < length nodes
    → IsNext text days (get_or nodes n d).at (get_or nodes n d).node old new → IsMade text days nodes n old → IsMade text days nodes (n + 1) new
made_more text days nodes n d old new within next before = record {
  known = ap (known_behind text days (drop (n + 1) nodes)) next.known
      ∙ ap (λ (l : List Spot). known_behind text days l (knowns old.stack)) (sym (drop_more nodes n d within))
      ∙ before.known;
  shapes = ap (shapes_behind text days (drop (n + 1) nodes)) next.shapes
      ∙ ap (λ (l : List Spot). shapes_behind text days l (shapes_on old.items old.branches old.stack)) (sym (drop_more nodes n d within))
      ∙ before.shapes;
  listed = listed_more text days nodes n d old.items old.places new.items new.places within next.listed before.listed;
  parts = next.making;
}

pub made_known : (text : List ℕ) (days : List (List ℕ)) (nodes : List Spot) (n : ℕ) (making : Making) → n ≡ length nodes → IsMade text days nodes n making
    → (top_waiting making.stack).known ≡ survey_of text days nodes
unfolding survey_of
made_known text days nodes n making end is =
    sym (known_top making.stack)
    ∙ ap (λ (l : List Spot). topmost (known_behind text days l (knowns making.stack))) (sym (drop_all n nodes (omega (arith, end))))
    ∙ ap topmost is.known

pub made_tree : (text : List ℕ) (days : List (List ℕ)) (nodes : List Spot) (n : ℕ) (making : Making) → n ≡ length nodes → IsMade text days nodes n making
    → shape_in making.items making.branches (top_waiting making.stack).node ≡ built text days nodes
unfolding built
made_tree text days nodes n making end is =
    sym (shape_top making.items making.branches making.stack is.parts.missing)
    ∙ ap (λ (l : List Spot). top_shape (shapes_behind text days l (shapes_on making.items making.branches making.stack)))
    (sym (drop_all n nodes (omega (arith, end))))
    ∙ ap top_shape is.shapes

pub made_items : (text : List ℕ) (days : List (List ℕ)) (nodes : List Spot) (n : ℕ) (making : Making) → n ≡ length nodes → IsMade text days nodes n making
    → Lists (occurrences text days nodes) making.items making.places
made_items text days nodes n making end is = listed_all text days nodes n making.items making.places end is.listed
