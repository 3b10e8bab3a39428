-- The tree of what lies in memory tells which it was, where it is one of a text.
use Rattle.std.proofs.Common.{◌≡◌, List, [], ◌∷◌, ◌++◌, refl, sym, ap, subst, ◌∙◌}
use Rattle.expr_lang.specs.declared.tree.Leaf.TheVariants as leaf
use Rattle.expr_lang.specs.declared.tree.Unary.{Unary}
use Rattle.expr_lang.specs.declared.tree.Unary.TheVariants as unary
use Rattle.expr_lang.specs.declared.tree.Binary.{Binary}
use Rattle.expr_lang.specs.declared.tree.Binary.TheVariants as binary
use Rattle.expr_lang.specs.Shape.{Shape, Operand, One, Two, Choice}
use Rattle.expr_lang.specs.Stored.{after_comma, plain_arguments, of_one, of_two, trees_in, syntax_of}
use Rattle.expr_lang.specs.Syntax as syntax
use Rattle.expr_lang.specs.Syntax.{Syntax, Arguments, End, Argument, alone, and_more, single}

-- ---- trees whose calls have as many arguments as a text has

abbrev pub ArePlain : Arguments → Type 0
ArePlain End = Unit {0}
ArePlain (Argument (syntax.Operand it) xs) = ArePlain xs
ArePlain (Argument _ xs) = ⊥

abbrev mutual
  pub IsClean : Syntax → Type 0
  IsClean (syntax.Operand it) = Unit {0}
  IsClean (syntax.Signed sign x) = IsClean x
  IsClean (syntax.Power x n) = IsClean x
  IsClean (syntax.Between operator x y) = IsClean x × IsClean y
  IsClean (syntax.Call syntax.FirstNonNull xs) = ArePlain xs
  IsClean (syntax.Call syntax.Greatest xs) = AreClean xs
  IsClean (syntax.Call syntax.Least xs) = AreClean xs
  IsClean (syntax.Call syntax.IsNull (Argument x End)) = IsClean x
  IsClean (syntax.Call syntax.IsNotNull (Argument x End)) = IsClean x
  IsClean (syntax.Call syntax.HasValue (Argument x End)) = IsClean x
  IsClean (syntax.Call syntax.Zing (Argument x End)) = IsClean x
  IsClean (syntax.Call syntax.Oizp (Argument x End)) = IsClean x
  IsClean (syntax.Call syntax.DaysBetween (Argument x (Argument y End))) = IsClean x × IsClean y
  IsClean (syntax.Call syntax.If (Argument x (Argument y (Argument z End)))) = IsClean x × IsClean y × IsClean z
  IsClean (syntax.Call _ xs) = ⊥

  pub AreClean : Arguments → Type 0
  AreClean End = Unit {0}
  AreClean (Argument x xs) = IsClean x × AreClean xs

-- ---- and what lies in memory for them

abbrev pub commas : Shape → List Shape → Shape
commas x [] = x
commas x (y ∷ ys) = commas (Two binary.Comma x y) ys

abbrev pub chain : List Shape → Shape
chain [] = Operand (leaf.Number 0)
chain (x ∷ xs) = commas x xs

abbrev pub binary_of : syntax.Operator → Binary
binary_of syntax.Or = binary.Or
binary_of syntax.And = binary.And
binary_of syntax.Equal = binary.Equal
binary_of syntax.NotEqual = binary.NotEqual
binary_of syntax.Less = binary.Less
binary_of syntax.AtMost = binary.AtMost
binary_of syntax.Greater = binary.Greater
binary_of syntax.AtLeast = binary.AtLeast
binary_of syntax.Add = binary.Add
binary_of syntax.Subtract = binary.Subtract
binary_of syntax.Multiply = binary.Multiply
binary_of syntax.Divide = binary.Divide
binary_of syntax.Remainder = binary.Remainder

abbrev pub called_back : syntax.Function → List Shape → Shape
called_back syntax.FirstNonNull xs = One unary.FirstNonNull (chain xs)
called_back syntax.Greatest xs = One unary.Greatest (chain xs)
called_back syntax.Least xs = One unary.Least (chain xs)
called_back syntax.IsNull (x ∷ []) = One unary.IsNull x
called_back syntax.IsNotNull (x ∷ []) = One unary.IsNotNull x
called_back syntax.HasValue (x ∷ []) = One unary.HasValue x
called_back syntax.Zing (x ∷ []) = One unary.Zing x
called_back syntax.Oizp (x ∷ []) = One unary.Oizp x
called_back syntax.DaysBetween (x ∷ y ∷ []) = Two binary.DaysBetween x y
called_back syntax.If (x ∷ y ∷ z ∷ []) = Choice x y z
called_back _ xs = Operand (leaf.Number 0)

abbrev pub signed_back : syntax.Sign → Unary
signed_back syntax.Minus = unary.Negate
signed_back syntax.Not = unary.Not

abbrev mutual
  pub back : Syntax → Shape
  back (syntax.Operand it) = Operand it
  back (syntax.Signed sign x) = One (signed_back sign) (back x)
  back (syntax.Power x n) = One (unary.Power n) (back x)
  back (syntax.Between operator x y) = Two (binary_of operator) (back x) (back y)
  back (syntax.Call function xs) = called_back function (all_back xs)

  pub all_back : Arguments → List Shape
  all_back End = []
  all_back (Argument x xs) = back x ∷ all_back xs

-- ---- lists

abbrev pub IsSome : Arguments → Type 0
IsSome End = ⊥
IsSome (Argument x xs) = Unit {0}

some_more : (xs ys : Arguments) → IsSome xs → IsSome (and_more xs ys)
some_more End ys h = absurd h
some_more (Argument x xs) ys h = tt

some_two : (operator : Binary) (xs ys : Arguments) → IsSome xs → IsSome (of_two operator xs ys)
some_two binary.Or xs ys h = tt
some_two binary.And xs ys h = tt
some_two binary.Equal xs ys h = tt
some_two binary.NotEqual xs ys h = tt
some_two binary.Less xs ys h = tt
some_two binary.AtMost xs ys h = tt
some_two binary.Greater xs ys h = tt
some_two binary.AtLeast xs ys h = tt
some_two binary.Add xs ys h = tt
some_two binary.Subtract xs ys h = tt
some_two binary.Multiply xs ys h = tt
some_two binary.Divide xs ys h = tt
some_two binary.Remainder xs ys h = tt
some_two binary.DaysBetween xs ys h = tt
some_two binary.Comma xs ys h = some_more xs (alone (single ys)) h

trees_some : (t : Shape) → IsSome (trees_in t)
trees_some (Operand it) = tt
trees_some (One operator operand) = tt
trees_some (Two operator left right) = some_two operator (trees_in left) (trees_in right) (trees_some left)
trees_some (Choice test one other) = tt

plain_some : (t : Shape) → IsSome (plain_arguments t)
plain_some (Operand it) = tt
plain_some (One operator operand) = tt
plain_some (Two binary.Comma left right) = some_more (plain_arguments left) (after_comma right (plain_arguments right)) (plain_some left)
plain_some (Two operator left right) = tt
plain_some (Choice test one other) = tt

-- a list with one more isn't one tree
not_one : (xs : Arguments) (y : Syntax) → IsSome xs → IsClean (single (and_more xs (alone y))) → ⊥
not_one End y h c = h
not_one (Argument x End) y h c = c
not_one (Argument x (Argument z zs)) y h c = c

clean_more : (xs : Arguments) (y : Syntax) → AreClean (and_more xs (alone y)) → AreClean xs × IsClean y
clean_more End y c = (tt, c.0)
clean_more (Argument x xs) y c = let r = clean_more xs y c.1 in ((c.0, r.0), r.1)

plain_more : (xs ys : Arguments) → ArePlain (and_more xs ys) → ArePlain xs × ArePlain ys
plain_more End ys c = (tt, c)
plain_more (Argument (syntax.Operand it) xs) ys c = plain_more xs ys c
plain_more (Argument (syntax.Signed sign x) xs) ys c = absurd c
plain_more (Argument (syntax.Power x n) xs) ys c = absurd c
plain_more (Argument (syntax.Between operator x y) xs) ys c = absurd c
plain_more (Argument (syntax.Call function zs) xs) ys c = absurd c

all_back_more : (xs ys : Arguments) → all_back (and_more xs ys) ≡ all_back xs ++ all_back ys
all_back_more End ys = refl
all_back_more (Argument x xs) ys = ap (λ (l : List Shape). back x ∷ l) (all_back_more xs ys)

commas_more : (x : Shape) (xs : List Shape) (y : Shape) → commas x (xs ++ y ∷ []) ≡ Two binary.Comma (commas x xs) y
commas_more x [] y = refl
commas_more x (z ∷ zs) y = commas_more (Two binary.Comma x z) zs y

chain_more : (xs : Arguments) (y : Syntax) → IsSome xs → chain (all_back (and_more xs (alone y))) ≡ Two binary.Comma (chain (all_back xs)) (back y)
chain_more End y h = absurd h
chain_more (Argument x xs) y h = ap (λ (l : List Shape). commas (back x) l) (all_back_more xs (alone y)) ∙ commas_more (back x) (all_back xs) (back y)

-- ---- from a tree to what lies in memory

record Returns (t : Shape) : Type 0 where
  one : IsClean (syntax_of t) → back (syntax_of t) ≡ t
  all : AreClean (trees_in t) → chain (all_back (trees_in t)) ≡ t
  plain : ArePlain (plain_arguments t) → chain (all_back (plain_arguments t)) ≡ t

one_back : (operator : Unary) (t : Shape) → Returns t → IsClean (of_one operator t (trees_in t)) → back (of_one operator t (trees_in t)) ≡ One operator t
one_back unary.Negate t r c = ap (One unary.Negate) (r.one c)
one_back unary.Not t r c = ap (One unary.Not) (r.one c)
one_back (unary.Power n) t r c = ap (One (unary.Power n)) (r.one c)
one_back unary.IsNull t r c = ap (One unary.IsNull) (r.one c)
one_back unary.IsNotNull t r c = ap (One unary.IsNotNull) (r.one c)
one_back unary.HasValue t r c = ap (One unary.HasValue) (r.one c)
one_back unary.Zing t r c = ap (One unary.Zing) (r.one c)
one_back unary.Oizp t r c = ap (One unary.Oizp) (r.one c)
one_back unary.FirstNonNull t r c = ap (One unary.FirstNonNull) (r.plain c)
one_back unary.Greatest t r c = ap (One unary.Greatest) (r.all c)
one_back unary.Least t r c = ap (One unary.Least) (r.all c)

-- two operands of an operator
pair_back : (operator : Binary) (s t : Shape) → Returns s → Returns t → IsClean (syntax_of s) × IsClean (syntax_of t)
    → Two operator (back (syntax_of s)) (back (syntax_of t)) ≡ Two operator s t
pair_back operator s t r q c = ap (λ (x : Shape). Two operator x (back (syntax_of t))) (r.one c.0) ∙ ap (Two operator s) (q.one c.1)

two_one : (operator : Binary) (s t : Shape) → Returns s → Returns t → IsClean (single (of_two operator (trees_in s) (trees_in t)))
    → back (single (of_two operator (trees_in s) (trees_in t))) ≡ Two operator s t
two_one binary.Or s t r q c = pair_back binary.Or s t r q c
two_one binary.And s t r q c = pair_back binary.And s t r q c
two_one binary.Equal s t r q c = pair_back binary.Equal s t r q c
two_one binary.NotEqual s t r q c = pair_back binary.NotEqual s t r q c
two_one binary.Less s t r q c = pair_back binary.Less s t r q c
two_one binary.AtMost s t r q c = pair_back binary.AtMost s t r q c
two_one binary.Greater s t r q c = pair_back binary.Greater s t r q c
two_one binary.AtLeast s t r q c = pair_back binary.AtLeast s t r q c
two_one binary.Add s t r q c = pair_back binary.Add s t r q c
two_one binary.Subtract s t r q c = pair_back binary.Subtract s t r q c
two_one binary.Multiply s t r q c = pair_back binary.Multiply s t r q c
two_one binary.Divide s t r q c = pair_back binary.Divide s t r q c
two_one binary.Remainder s t r q c = pair_back binary.Remainder s t r q c
two_one binary.DaysBetween s t r q c = pair_back binary.DaysBetween s t r q c
two_one binary.Comma s t r q c = absurd (not_one (trees_in s) (syntax_of t) (trees_some s) c)

two_all : (operator : Binary) (s t : Shape) → Returns s → Returns t → AreClean (of_two operator (trees_in s) (trees_in t))
    → chain (all_back (of_two operator (trees_in s) (trees_in t))) ≡ Two operator s t
two_all binary.Or s t r q c = two_one binary.Or s t r q c.0
two_all binary.And s t r q c = two_one binary.And s t r q c.0
two_all binary.Equal s t r q c = two_one binary.Equal s t r q c.0
two_all binary.NotEqual s t r q c = two_one binary.NotEqual s t r q c.0
two_all binary.Less s t r q c = two_one binary.Less s t r q c.0
two_all binary.AtMost s t r q c = two_one binary.AtMost s t r q c.0
two_all binary.Greater s t r q c = two_one binary.Greater s t r q c.0
two_all binary.AtLeast s t r q c = two_one binary.AtLeast s t r q c.0
two_all binary.Add s t r q c = two_one binary.Add s t r q c.0
two_all binary.Subtract s t r q c = two_one binary.Subtract s t r q c.0
two_all binary.Multiply s t r q c = two_one binary.Multiply s t r q c.0
two_all binary.Divide s t r q c = two_one binary.Divide s t r q c.0
two_all binary.Remainder s t r q c = two_one binary.Remainder s t r q c.0
two_all binary.DaysBetween s t r q c = two_one binary.DaysBetween s t r q c.0
two_all binary.Comma s t r q c =
    let d = clean_more (trees_in s) (syntax_of t) c in
    chain_more (trees_in s) (syntax_of t) (trees_some s)
    ∙ ap (λ (x : Shape). Two binary.Comma x (back (syntax_of t))) (r.all d.0)
    ∙ ap (Two binary.Comma s) (q.one d.1)

-- after a comma stands one operand
plain_last : (s t : Shape) → ArePlain (after_comma t (plain_arguments t)) → chain (all_back (plain_arguments s)) ≡ s
    → chain (all_back (and_more (plain_arguments s) (after_comma t (plain_arguments t)))) ≡ Two binary.Comma s t
plain_last s (Operand it) c e =
    chain_more (plain_arguments s) (syntax.Operand it) (plain_some s) ∙ ap (λ (x : Shape). Two binary.Comma x (Operand it)) e
plain_last s (One operator operand) c e = absurd c
plain_last s (Two binary.Comma left right) c e = absurd c
plain_last s (Two operator left right) c e = absurd c
plain_last s (Choice test one other) c e = absurd c

two_plain : (operator : Binary) (s t : Shape) → Returns s → ArePlain (plain_arguments (Two operator s t))
    → chain (all_back (plain_arguments (Two operator s t))) ≡ Two operator s t
two_plain binary.Comma s t r c =
    let d = plain_more (plain_arguments s) (after_comma t (plain_arguments t)) c in
    plain_last s t d.1 (r.plain d.0)
two_plain operator s t r c = absurd c

three_back : (s t u : Shape) → Returns s → Returns t → Returns u → IsClean (syntax_of s) × IsClean (syntax_of t) × IsClean (syntax_of u)
    → Choice (back (syntax_of s)) (back (syntax_of t)) (back (syntax_of u)) ≡ Choice s t u
three_back s t u r q m c =
    ap (λ (x : Shape). Choice x (back (syntax_of t)) (back (syntax_of u))) (r.one c.0)
    ∙ ap (λ (x : Shape). Choice s x (back (syntax_of u))) (q.one c.1)
    ∙ ap (Choice s t) (m.one c.2)

returns : (t : Shape) → Returns t
returns (Operand it) = record { one = λ c. refl; all = λ c. refl; plain = λ c. refl }
returns (One operator operand) = record {
  one = one_back operator operand (returns operand);
  all = λ c. one_back operator operand (returns operand) c.0;
  plain = λ c. absurd c;
}
returns (Two operator left right) = record {
  one = two_one operator left right (returns left) (returns right);
  all = two_all operator left right (returns left) (returns right);
  plain = two_plain operator left right (returns left);
}
returns (Choice test one other) =
    let f = three_back test one other (returns test) (returns one) (returns other) in
    record { one = f; all = λ c. f c.0; plain = λ c. absurd c }

-- what lies in memory for one clean tree is one
pub told_apart : (s t : Shape) → IsClean (syntax_of t) → syntax_of t ≡ syntax_of s → s ≡ t
told_apart s t c e =
    sym ((returns s).one (subst IsClean e c)) ∙ ap back (sym e) ∙ (returns t).one c
