-- The tree of a form is that of what lies in memory for it, and as deep, of the same sorts and with the same items.
use Rattle.std.proofs.Common.{◌≡◌, ℕ, suc, ◌≤◌, Bool, true, false, List, ◌++◌, Option, Some, None, refl, sym, ap, subst, ◌∙◌, append_assoc, arith}
use Rattle.std.specs.Prelude.{◌&&◌, max}
use Rattle.std.proofs.lemmas.List.{append-nil}
use Rattle.expr_lang.specs.declared.tree.Place.{Place}
use Rattle.expr_lang.specs.declared.tree.Item.{Item as AnyItem}
use Rattle.expr_lang.specs.declared.tree.Sort.{Sort}
use Rattle.expr_lang.specs.declared.tree.Sort.TheVariants as sort
use Rattle.expr_lang.specs.declared.tree.Leaf.{Leaf}
use Rattle.expr_lang.specs.declared.tree.Leaf.TheVariants as leaf
use Rattle.expr_lang.specs.declared.tree.Unary.{Unary}
use Rattle.expr_lang.specs.declared.tree.Unary.TheVariants as unary
use Rattle.expr_lang.specs.declared.tree.Binary.{Binary}
use Rattle.expr_lang.specs.declared.tree.Binary.TheVariants as binary
use Rattle.expr_lang.specs.declared.words.Call.{Call}
use Rattle.expr_lang.specs.declared.words.Call.TheVariants as call
use Rattle.expr_lang.specs.Reading.{level_of}
use Rattle.expr_lang.specs.Print.{left_level_of, right_level_of}
use Rattle.expr_lang.specs.Item.{item_from}
use Rattle.expr_lang.specs.Leaves.{item_leaf}
use Rattle.expr_lang.specs.Shape.{Shape, Operand, One, Two, Choice}
use Rattle.expr_lang.specs.Stored.{after_comma, plain_arguments, of_one, of_two, between, trees_in, syntax_of}
use Rattle.expr_lang.specs.Survey.{same_sort, taken_by_two, given_by_two}
use Rattle.expr_lang.specs.Syntax as syntax
use Rattle.expr_lang.specs.Syntax.{Syntax, End, Argument, alone, and_more, single}
use Rattle.expr_grammar.specs.Grammar.{Form, Number, Item, Bracket, Power, Sign, Chain, Arguments, If, Condition, DaysBetween, Apply, IsForm, IsWhole, IsSign}
use Rattle.std.specs.Str.Parse.{digits_value}
use Rattle.expr_grammar.specs.Grammar.{number_value, Takes, arguments_level, is_item, is_plain, all_plain, sign_of, operator_of, function_of, trees_of, tree_of}
use Rattle.expr_grammar.specs.Sorts.{depth_of, deepest_of, sort_of, sort_between, taken_between, has_sort, sorts_fit, all_fit}
use Rattle.expr_grammar.specs.Items.{items_of, items_of_all}
use Rattle.expr_grammar.specs.Misfits.{is_number}
use Rattle.expr_grammar.proofs.Stored as old
use Rattle.expr_grammar.proofs.Stored.{applied}
use Rattle.expr_grammar.proofs.Back.{ArePlain, IsClean, AreClean, told_apart}

-- ---- truths

and_true : (b : Bool) → b && true ≡ b
and_true true = refl
and_true false = refl

pairs_swapped : (a b c d : Bool) → (a && c) && (b && d) ≡ (a && b) && (c && d)
pairs_swapped false b c d = refl
pairs_swapped true true true d = refl
pairs_swapped true true false d = refl
pairs_swapped true false true d = refl
pairs_swapped true false false d = refl

triples_swapped : (a b c x y z : Bool) → (a && x) && ((b && y) && (c && z)) ≡ (a && (b && c)) && (x && (y && z))
triples_swapped a b c x y z =
    ap (λ (r : Bool). (a && x) && r) (pairs_swapped b c y z) ∙ pairs_swapped a (b && c) x (y && z)

-- ---- one tree

pub record Same (x : Syntax) (s : Shape) : Type 0 where
  pub depth : depth_of x ≡ old.depth_of s
  pub sort : sort_of x ≡ old.sort_of s
  pub fits : sorts_fit x ≡ old.sorts_fit s
  pub items : items_of x ≡ old.items_of s
  pub number : is_number x ≡ old.is_number s
  pub clean : IsClean x

pub has_same : (taken : Option Sort) (x : Syntax) (s : Shape) → sort_of x ≡ old.sort_of s → has_sort taken x ≡ old.has_sort taken s
has_same None x s e = refl
has_same (Some wanted) x s e = ap (λ (t : Sort). same_sort t wanted) e

pub taken_same : (taken : Option Sort) (x : Syntax) (s : Shape) → Same x s → (has_sort taken x && sorts_fit x) ≡ (old.has_sort taken s && old.sorts_fit s)
taken_same taken x s a = ap (λ (b : Bool). b && sorts_fit x) (has_same taken x s a.sort) ∙ ap (λ (b : Bool). old.has_sort taken s && b) a.fits

-- ---- a list

abbrev pub NotList : Form → Type 0
NotList (Arguments first b last) = ⊥
NotList _ = Unit {0}

pub record Listed (xs : syntax.Arguments) (s : Shape) : Type 0 where
  pub trees : trees_in s ≡ xs
  pub deepest : deepest_of xs ≡ old.depth_of s
  pub fit : all_fit (Some sort.Number) xs ≡ (old.has_sort (Some sort.Number) s && old.sorts_fit s)
  pub items : items_of_all xs ≡ old.items_of s
  pub clean : AreClean xs

pub record IsAlone (xs : syntax.Arguments) (s : Shape) : Type 0 where
  pub alone : xs ≡ alone (single xs)
  pub same : Same (single xs) s

pub record Facts (days : List (List ℕ)) (F : Form) : Type 0 where
  pub listed : Listed (trees_of days F) (old.tree_of days F)
  pub one : NotList F → IsAlone (trees_of days F) (old.tree_of days F)

-- a list of one
listed_one : (x : Syntax) (s : Shape) → Same x s → trees_in s ≡ alone x → Listed (alone x) s
listed_one x s a e = record {
  trees = e;
  deepest = (let d : max (depth_of x) 0 ≡ depth_of x = omega arith in d ∙ a.depth);
  fit = and_true (has_sort (Some sort.Number) x && sorts_fit x) ∙ taken_same (Some sort.Number) x s a;
  items = append-nil (items_of x) ∙ a.items;
  clean = (a.clean, tt);
}

-- a list with one more
listed_more : (xs : syntax.Arguments) (y : Syntax) (s t : Shape) → Listed xs s → Same y t → syntax_of t ≡ y
    → Listed (and_more xs (alone y)) (Two binary.Comma s t)
listed_more xs y s t l a e = record {
  trees = ap (λ (zs : syntax.Arguments). and_more zs (alone (syntax_of t))) l.trees ∙ ap (λ (z : Syntax). and_more xs (alone z)) e;
  deepest = deepest_more xs ∙ (let d : max (deepest_of xs) (depth_of y) ≡ max (old.depth_of s) (old.depth_of t) = cc in d);
  fit =
      fit_more xs
      ∙ ap (λ (b : Bool). b && (has_sort (Some sort.Number) y && sorts_fit y)) l.fit
      ∙ ap (λ (b : Bool). (old.has_sort (Some sort.Number) s && old.sorts_fit s) && b) (taken_same (Some sort.Number) y t a)
      ∙ pairs_swapped (old.has_sort (Some sort.Number) s) (old.has_sort (Some sort.Number) t) (old.sorts_fit s) (old.sorts_fit t);
  items = items_more xs ∙ ap (λ (is : List AnyItem). is ++ items_of y) l.items ∙ ap (λ (is : List AnyItem). old.items_of s ++ is) a.items;
  clean = clean_more xs l.clean;
}
  where
    deepest_more : (zs : syntax.Arguments) → deepest_of (and_more zs (alone y)) ≡ max (deepest_of zs) (depth_of y)
    deepest_more End = omega arith
    deepest_more (Argument z zs) = let h = deepest_more zs in omega (arith, h)

    fit_more : (zs : syntax.Arguments)
        → all_fit (Some sort.Number) (and_more zs (alone y)) ≡ (all_fit (Some sort.Number) zs && (has_sort (Some sort.Number) y && sorts_fit y))
    fit_more End = and_true (has_sort (Some sort.Number) y && sorts_fit y)
    fit_more (Argument z zs) =
        ap (λ (b : Bool). (has_sort (Some sort.Number) z && sorts_fit z) && b) (fit_more zs)
        ∙ and_and (has_sort (Some sort.Number) z && sorts_fit z) (all_fit (Some sort.Number) zs) (has_sort (Some sort.Number) y && sorts_fit y)
      where
        and_and : (a b c : Bool) → a && (b && c) ≡ (a && b) && c
        and_and true b c = refl
        and_and false b c = refl

    items_more : (zs : syntax.Arguments) → items_of_all (and_more zs (alone y)) ≡ items_of_all zs ++ items_of y
    items_more End = append-nil (items_of y)
    items_more (Argument z zs) =
        ap (λ (is : List AnyItem). items_of z ++ is) (items_more zs) ∙ sym (append_assoc (items_of z) (items_of_all zs) (items_of y))

    clean_more : (zs : syntax.Arguments) → AreClean zs → AreClean (and_more zs (alone y))
    clean_more End c = (a.clean, tt)
    clean_more (Argument z zs) c = (c.0, clean_more zs c.1)

-- one that isn't a list
made : (days : List (List ℕ)) (F : Form) (x : Syntax) → trees_of days F ≡ alone x → Same x (old.tree_of days F) → trees_in (old.tree_of days F) ≡ alone x
    → Facts days F
made days F x is a e =
    let s = old.tree_of days F in
    let both = subst (λ (xs : syntax.Arguments). Listed xs s × IsAlone xs s) (sym is) (listed_one x s a e, record { alone = refl; same = a }) in
    record { listed = both.0; one = λ n. both.1 }

-- what stands where one is wanted isn't a list
pub not_list : (p : Place) (q : Bool) (least : ℕ) (F : Form) → 1 ≤ least → IsForm p q least F → NotList F
not_list p q least (Number b digits decimals) l h = tt
not_list p q least (Item b form word) l h = tt
not_list p q least (Bracket b inner c) l h = tt
not_list p q least (Power atom b c digits) l h = tt
not_list p q least (Sign b sign operand) l h = tt
not_list p q least (Chain left b operator right) l h = tt
not_list p q least (Arguments first b last) l h = absurd (omega (arith, h.0, l))
not_list p q least (If b c test d one e other f) l h = tt
not_list p q least (Condition b c d test e f one g other i) l h = tt
not_list p q least (DaysBetween b c one d other e) l h = tt
not_list p q least (Apply b name c arguments d) l h = tt

-- ---- productions

power_same : (n : ℕ) (x : Syntax) (s : Shape) → Same x s → Same (syntax.Power x n) (One (unary.Power n) s)
power_same n x s a = record {
  depth = ap suc a.depth;
  sort = refl;
  fits = taken_same (Some sort.Number) x s a;
  items = a.items;
  number = refl;
  clean = a.clean;
}

sign_same : (sign : Unary) → IsSign sign → (x : Syntax) (s : Shape) → Same x s → Same (syntax.Signed (sign_of sign) x) (One sign s)
sign_same unary.Negate h x s a = record {
  depth = ap suc a.depth;
  sort = refl;
  fits = taken_same (Some sort.Number) x s a;
  items = a.items;
  number = refl;
  clean = a.clean;
}
sign_same unary.Not h x s a = record {
  depth = ap suc a.depth;
  sort = refl;
  fits = taken_same (Some sort.Truth) x s a;
  items = a.items;
  number = refl;
  clean = a.clean;
}
sign_same (unary.Power n) h x s a = absurd h
sign_same unary.IsNull h x s a = absurd h
sign_same unary.IsNotNull h x s a = absurd h
sign_same unary.FirstNonNull h x s a = absurd h
sign_same unary.Greatest h x s a = absurd h
sign_same unary.Least h x s a = absurd h
sign_same unary.HasValue h x s a = absurd h
sign_same unary.Zing h x s a = absurd h
sign_same unary.Oizp h x s a = absurd h

sign_trees : (sign : Unary) → IsSign sign → (s : Shape) (xs : syntax.Arguments)
    → alone (of_one sign s xs) ≡ alone (syntax.Signed (sign_of sign) (single xs))
sign_trees unary.Negate h s xs = refl
sign_trees unary.Not h s xs = refl
sign_trees (unary.Power n) h s xs = absurd h
sign_trees unary.IsNull h s xs = absurd h
sign_trees unary.IsNotNull h s xs = absurd h
sign_trees unary.FirstNonNull h s xs = absurd h
sign_trees unary.Greatest h s xs = absurd h
sign_trees unary.Least h s xs = absurd h
sign_trees unary.HasValue h s xs = absurd h
sign_trees unary.Zing h s xs = absurd h
sign_trees unary.Oizp h s xs = absurd h

pub taken_operator : (operator : Binary) → 1 ≤ level_of operator → taken_between (operator_of operator) ≡ taken_by_two operator
taken_operator binary.Or h = refl
taken_operator binary.And h = refl
taken_operator binary.Equal h = refl
taken_operator binary.NotEqual h = refl
taken_operator binary.Less h = refl
taken_operator binary.AtMost h = refl
taken_operator binary.Greater h = refl
taken_operator binary.AtLeast h = refl
taken_operator binary.Add h = refl
taken_operator binary.Subtract h = refl
taken_operator binary.Multiply h = refl
taken_operator binary.Divide h = refl
taken_operator binary.Remainder h = refl
taken_operator binary.DaysBetween h = absurd (omega (arith, h))
taken_operator binary.Comma h = absurd (omega (arith, h))

given_operator : (operator : Binary) → 1 ≤ level_of operator → sort_between (operator_of operator) ≡ given_by_two operator
given_operator binary.Or h = refl
given_operator binary.And h = refl
given_operator binary.Equal h = refl
given_operator binary.NotEqual h = refl
given_operator binary.Less h = refl
given_operator binary.AtMost h = refl
given_operator binary.Greater h = refl
given_operator binary.AtLeast h = refl
given_operator binary.Add h = refl
given_operator binary.Subtract h = refl
given_operator binary.Multiply h = refl
given_operator binary.Divide h = refl
given_operator binary.Remainder h = refl
given_operator binary.DaysBetween h = absurd (omega (arith, h))
given_operator binary.Comma h = absurd (omega (arith, h))

deeper_operator : (operator : Binary) → 1 ≤ level_of operator → (n : ℕ) → suc n ≡ old.above_two operator n
deeper_operator binary.Or h n = refl
deeper_operator binary.And h n = refl
deeper_operator binary.Equal h n = refl
deeper_operator binary.NotEqual h n = refl
deeper_operator binary.Less h n = refl
deeper_operator binary.AtMost h n = refl
deeper_operator binary.Greater h n = refl
deeper_operator binary.AtLeast h n = refl
deeper_operator binary.Add h n = refl
deeper_operator binary.Subtract h n = refl
deeper_operator binary.Multiply h n = refl
deeper_operator binary.Divide h n = refl
deeper_operator binary.Remainder h n = refl
deeper_operator binary.DaysBetween h n = refl
deeper_operator binary.Comma h n = absurd (omega (arith, h))

chain_trees : (operator : Binary) → 1 ≤ level_of operator → (xs ys : syntax.Arguments) → of_two operator xs ys ≡ between (operator_of operator) xs ys
chain_trees binary.Or h xs ys = refl
chain_trees binary.And h xs ys = refl
chain_trees binary.Equal h xs ys = refl
chain_trees binary.NotEqual h xs ys = refl
chain_trees binary.Less h xs ys = refl
chain_trees binary.AtMost h xs ys = refl
chain_trees binary.Greater h xs ys = refl
chain_trees binary.AtLeast h xs ys = refl
chain_trees binary.Add h xs ys = refl
chain_trees binary.Subtract h xs ys = refl
chain_trees binary.Multiply h xs ys = refl
chain_trees binary.Divide h xs ys = refl
chain_trees binary.Remainder h xs ys = refl
chain_trees binary.DaysBetween h xs ys = absurd (omega (arith, h))
chain_trees binary.Comma h xs ys = absurd (omega (arith, h))

-- two operands that are taken at one sort
both_taken : (taken : Option Sort) (x y : Syntax) (s t : Shape) → Same x s → Same y t
    → ((has_sort taken x && sorts_fit x) && (has_sort taken y && sorts_fit y))
    ≡ ((old.has_sort taken s && old.has_sort taken t) && (old.sorts_fit s && old.sorts_fit t))
both_taken taken x y s t a b =
    ap (λ (r : Bool). r && (has_sort taken y && sorts_fit y)) (taken_same taken x s a)
    ∙ ap (λ (r : Bool). (old.has_sort taken s && old.sorts_fit s) && r) (taken_same taken y t b)
    ∙ pairs_swapped (old.has_sort taken s) (old.has_sort taken t) (old.sorts_fit s) (old.sorts_fit t)

chain_same : (operator : Binary) → 1 ≤ level_of operator → (x y : Syntax) (s t : Shape) → Same x s → Same y t
    → Same (syntax.Between (operator_of operator) x y) (Two operator s t)
chain_same operator h x y s t a b = record {
  depth =
      ap (λ (n : ℕ). suc (max n (depth_of y))) a.depth
      ∙ ap (λ (n : ℕ). suc (max (old.depth_of s) n)) b.depth
      ∙ deeper_operator operator h (max (old.depth_of s) (old.depth_of t));
  sort = given_operator operator h;
  fits =
      ap (λ (k : Sort). (has_sort (Some k) x && sorts_fit x) && (has_sort (Some k) y && sorts_fit y)) (taken_operator operator h)
      ∙ both_taken (Some (taken_by_two operator)) x y s t a b;
  items = ap (λ (is : List AnyItem). is ++ items_of y) a.items ∙ ap (λ (is : List AnyItem). old.items_of s ++ is) b.items;
  number = refl;
  clean = (a.clean, b.clean);
}

days_same : (x y : Syntax) (s t : Shape) → Same x s → Same y t
    → Same (syntax.Call syntax.DaysBetween (Argument x (alone y))) (Two binary.DaysBetween s t)
days_same x y s t a b = record {
  depth = omega (arith, a.depth, b.depth);
  sort = refl;
  fits =
      ap (λ (r : Bool). (has_sort (Some sort.Day) x && sorts_fit x) && r) (and_true (has_sort (Some sort.Day) y && sorts_fit y))
      ∙ both_taken (Some sort.Day) x y s t a b;
  items =
      ap (λ (is : List AnyItem). items_of x ++ is) (append-nil (items_of y))
      ∙ ap (λ (is : List AnyItem). is ++ items_of y) a.items
      ∙ ap (λ (is : List AnyItem). old.items_of s ++ is) b.items;
  number = refl;
  clean = (a.clean, b.clean);
}

choice_same : (x y z : Syntax) (s t u : Shape) → Same x s → Same y t → Same z u
    → Same (syntax.Call syntax.If (Argument x (Argument y (alone z)))) (Choice s t u)
choice_same x y z s t u a b c = record {
  depth = omega (arith, a.depth, b.depth, c.depth);
  sort = refl;
  fits =
      ap (λ (r : Bool). (has_sort (Some sort.Truth) x && sorts_fit x) && ((has_sort (Some sort.Number) y && sorts_fit y) && r))
      (and_true (has_sort (Some sort.Number) z && sorts_fit z))
      ∙ ap (λ (r : Bool). r && ((has_sort (Some sort.Number) y && sorts_fit y) && (has_sort (Some sort.Number) z && sorts_fit z)))
      (taken_same (Some sort.Truth) x s a)
      ∙ ap (λ (r : Bool). (old.has_sort (Some sort.Truth) s && old.sorts_fit s) && (r && (has_sort (Some sort.Number) z && sorts_fit z)))
      (taken_same (Some sort.Number) y t b)
      ∙ ap (λ (r : Bool). (old.has_sort (Some sort.Truth) s && old.sorts_fit s) && ((old.has_sort (Some sort.Number) t && old.sorts_fit t) && r))
      (taken_same (Some sort.Number) z u c)
      ∙ triples_swapped (old.has_sort (Some sort.Truth) s) (old.has_sort (Some sort.Number) t) (old.has_sort (Some sort.Number) u) (old.sorts_fit s)
      (old.sorts_fit t) (old.sorts_fit u);
  items =
      ap (λ (is : List AnyItem). items_of x ++ (items_of y ++ is)) (append-nil (items_of z))
      ∙ sym (append_assoc (items_of x) (items_of y) (items_of z))
      ∙ ap (λ (is : List AnyItem). (is ++ items_of y) ++ items_of z) a.items
      ∙ ap (λ (is : List AnyItem). (old.items_of s ++ is) ++ items_of z) b.items
      ∙ ap (λ (is : List AnyItem). (old.items_of s ++ old.items_of t) ++ is) c.items;
  number = refl;
  clean = (a.clean, b.clean, c.clean);
}

-- ---- calls of one argument or a list

-- an item that is asked for
asked_fit : (xs : syntax.Arguments) (s : Shape) → IsAlone xs s → all_fit None xs ≡ old.sorts_fit s
asked_fit xs s i = ap (all_fit None) i.alone ∙ and_true (sorts_fit (single xs)) ∙ i.same.fits

asked_clean : (xs : syntax.Arguments) (s : Shape) → IsAlone xs s → (function : syntax.Function)
    → ((y : Syntax) → IsClean y → IsClean (syntax.Call function (alone y))) → IsClean (syntax.Call function xs)
asked_clean xs s i function h = subst (λ (ys : syntax.Arguments). IsClean (syntax.Call function ys)) (sym i.alone) (h (single xs) i.same.clean)

both_true : (a b : Bool) → (a && b) ≡ true → (a ≡ true) × (b ≡ true)
both_true true b e = (refl, e)
both_true false b e = absurd cc

last_trees : (days : List (List ℕ)) (first G : Form) → is_plain G ≡ true → plain_arguments (old.tree_of days first) ≡ trees_of days first
    → and_more (plain_arguments (old.tree_of days first)) (after_comma (old.tree_of days G) (plain_arguments (old.tree_of days G)))
    ≡ and_more (trees_of days first) (alone (single (trees_of days G)))
last_trees days first (Number b digits decimals) e is = ap (λ (xs : syntax.Arguments). and_more xs (trees_of days (Number b digits decimals))) is
last_trees days first (Item b form word) e is = ap (λ (xs : syntax.Arguments). and_more xs (trees_of days (Item b form word))) is
last_trees days first (Bracket b inner c) e is = absurd cc
last_trees days first (Power atom b c digits) e is = absurd cc
last_trees days first (Sign b sign operand) e is = absurd cc
last_trees days first (Chain left b operator right) e is = absurd cc
last_trees days first (Arguments one b other) e is = absurd cc
last_trees days first (If b c test d one e' other f) e is = absurd cc
last_trees days first (Condition b c d test e' f one g other i) e is = absurd cc
last_trees days first (DaysBetween b c one d other e') e is = absurd cc
last_trees days first (Apply b name c arguments d) e is = absurd cc

plain_trees : (days : List (List ℕ)) (F : Form) → all_plain F ≡ true → plain_arguments (old.tree_of days F) ≡ trees_of days F
plain_trees days (Number b digits decimals) h = refl
plain_trees days (Item b form word) h = refl
plain_trees days (Arguments first b last) h =
    let e = both_true (all_plain first) (is_plain last) h in
    last_trees days first last e.1 (plain_trees days first e.0)
plain_trees days (Bracket b inner c) h = absurd cc
plain_trees days (Power atom b c digits) h = absurd cc
plain_trees days (Sign b sign operand) h = absurd cc
plain_trees days (Chain left b operator right) h = absurd cc
plain_trees days (If b c test d one e other f) h = absurd cc
plain_trees days (Condition b c d test e f one g other i) h = absurd cc
plain_trees days (DaysBetween b c one d other e) h = absurd cc
plain_trees days (Apply b name c arguments d) h = absurd cc

one_more_plain : (xs : syntax.Arguments) (it : Leaf) → ArePlain xs → ArePlain (and_more xs (alone (syntax.Operand it)))
one_more_plain End it c = tt
one_more_plain (Argument (syntax.Operand i) xs) it c = one_more_plain xs it c
one_more_plain (Argument (syntax.Signed sign x) xs) it c = absurd c
one_more_plain (Argument (syntax.Power x n) xs) it c = absurd c
one_more_plain (Argument (syntax.Between operator x y) xs) it c = absurd c
one_more_plain (Argument (syntax.Call function zs) xs) it c = absurd c

last_clean : (days : List (List ℕ)) (first G : Form) → is_plain G ≡ true → ArePlain (trees_of days first)
    → ArePlain (and_more (trees_of days first) (alone (single (trees_of days G))))
last_clean days first (Number b digits decimals) e c = one_more_plain (trees_of days first) (leaf.Number (number_value digits decimals)) c
last_clean days first (Item b form word) e c = one_more_plain (trees_of days first) (item_leaf days (item_from form word)) c
last_clean days first (Bracket b inner c) e is = absurd cc
last_clean days first (Power atom b c digits) e is = absurd cc
last_clean days first (Sign b sign operand) e is = absurd cc
last_clean days first (Chain left b operator right) e is = absurd cc
last_clean days first (Arguments one b other) e is = absurd cc
last_clean days first (If b c test d one e' other f) e is = absurd cc
last_clean days first (Condition b c d test e' f one g other i) e is = absurd cc
last_clean days first (DaysBetween b c one d other e') e is = absurd cc
last_clean days first (Apply b name c arguments d) e is = absurd cc

plain_clean : (days : List (List ℕ)) (F : Form) → all_plain F ≡ true → ArePlain (trees_of days F)
plain_clean days (Number b digits decimals) h = tt
plain_clean days (Item b form word) h = tt
plain_clean days (Arguments first b last) h =
    let e = both_true (all_plain first) (is_plain last) h in
    last_clean days first last e.1 (plain_clean days first e.0)
plain_clean days (Bracket b inner c) h = absurd cc
plain_clean days (Power atom b c digits) h = absurd cc
plain_clean days (Sign b sign operand) h = absurd cc
plain_clean days (Chain left b operator right) h = absurd cc
plain_clean days (If b c test d one e other f) h = absurd cc
plain_clean days (Condition b c d test e f one g other i) h = absurd cc
plain_clean days (DaysBetween b c one d other e) h = absurd cc
plain_clean days (Apply b name c arguments d) h = absurd cc

item_not_list : (F : Form) → is_item F ≡ true → NotList F
item_not_list (Number b digits decimals) h = tt
item_not_list (Item b form word) h = tt
item_not_list (Bracket b inner c) h = tt
item_not_list (Power atom b c digits) h = tt
item_not_list (Sign b sign operand) h = tt
item_not_list (Chain left b operator right) h = tt
item_not_list (Arguments first b last) h = absurd cc
item_not_list (If b c test d one e other f) h = tt
item_not_list (Condition b c d test e f one g other i) h = tt
item_not_list (DaysBetween b c one d other e) h = tt
item_not_list (Apply b name c arguments d) h = tt

-- a call in memory of one argument
single_call : (function : syntax.Function) (xs : syntax.Arguments) (s : Shape) → Listed xs s → IsAlone xs s
    → alone (syntax.Call function (alone (single (trees_in s)))) ≡ alone (syntax.Call function xs)
single_call function xs s l i =
    ap (λ (zs : syntax.Arguments). alone (syntax.Call function (alone (single zs)))) l.trees
    ∙ ap (λ (zs : syntax.Arguments). alone (syntax.Call function zs)) (sym i.alone)

abbrev IsApplied : List (List ℕ) → Call → Form → Type 0
IsApplied days name arguments =
    Same (syntax.Call (function_of name) (trees_of days arguments)) (One (applied name) (old.tree_of days arguments))
    × (trees_in (One (applied name) (old.tree_of days arguments)) ≡ alone (syntax.Call (function_of name) (trees_of days arguments)))

apply_is : (days : List (List ℕ)) (p : Place) (q : Bool) (name : Call) (arguments : Form) → Takes name arguments
    → IsForm p q (arguments_level name) arguments → Facts days arguments → IsApplied days name arguments
apply_is days p q call.IsNull arguments h is f =
    let i = f.one (item_not_list arguments h) in (
      record {
        depth = ap suc f.listed.deepest;
        sort = refl;
        fits = asked_fit (trees_of days arguments) (old.tree_of days arguments) i;
        items = f.listed.items;
        number = refl;
        clean = asked_clean (trees_of days arguments) (old.tree_of days arguments) i syntax.IsNull (λ y c. c);
      },
      single_call syntax.IsNull (trees_of days arguments) (old.tree_of days arguments) f.listed i,
    )
apply_is days p q call.IsNotNull arguments h is f =
    let i = f.one (item_not_list arguments h) in (
      record {
        depth = ap suc f.listed.deepest;
        sort = refl;
        fits = asked_fit (trees_of days arguments) (old.tree_of days arguments) i;
        items = f.listed.items;
        number = refl;
        clean = asked_clean (trees_of days arguments) (old.tree_of days arguments) i syntax.IsNotNull (λ y c. c);
      },
      single_call syntax.IsNotNull (trees_of days arguments) (old.tree_of days arguments) f.listed i,
    )
apply_is days p q call.HasValue arguments h is f =
    let i = f.one (item_not_list arguments h) in (
      record {
        depth = ap suc f.listed.deepest;
        sort = refl;
        fits = asked_fit (trees_of days arguments) (old.tree_of days arguments) i;
        items = f.listed.items;
        number = refl;
        clean = asked_clean (trees_of days arguments) (old.tree_of days arguments) i syntax.HasValue (λ y c. c);
      },
      single_call syntax.HasValue (trees_of days arguments) (old.tree_of days arguments) f.listed i,
    )
apply_is days p q call.FirstNonNull arguments h is f = (
  record {
    depth = ap suc f.listed.deepest;
    sort = refl;
    fits = f.listed.fit;
    items = f.listed.items;
    number = refl;
    clean = plain_clean days arguments h;
  },
  ap (λ (zs : syntax.Arguments). alone (syntax.Call syntax.FirstNonNull zs)) (plain_trees days arguments h),
)
apply_is days p q call.Greatest arguments h is f = (
  record { depth = ap suc f.listed.deepest; sort = refl; fits = f.listed.fit; items = f.listed.items; number = refl; clean = f.listed.clean },
  ap (λ (zs : syntax.Arguments). alone (syntax.Call syntax.Greatest zs)) f.listed.trees,
)
apply_is days p q call.Least arguments h is f = (
  record { depth = ap suc f.listed.deepest; sort = refl; fits = f.listed.fit; items = f.listed.items; number = refl; clean = f.listed.clean },
  ap (λ (zs : syntax.Arguments). alone (syntax.Call syntax.Least zs)) f.listed.trees,
)
apply_is days p q call.Zing arguments h is f =
    let i = f.one (not_list p q 1 arguments (omega arith) is) in (
      record {
        depth = ap suc f.listed.deepest;
        sort = refl;
        fits = f.listed.fit;
        items = f.listed.items;
        number = refl;
        clean = asked_clean (trees_of days arguments) (old.tree_of days arguments) i syntax.Zing (λ y c. c);
      },
      single_call syntax.Zing (trees_of days arguments) (old.tree_of days arguments) f.listed i,
    )
apply_is days p q call.Oizp arguments h is f =
    let i = f.one (not_list p q 1 arguments (omega arith) is) in (
      record {
        depth = ap suc f.listed.deepest;
        sort = refl;
        fits = f.listed.fit;
        items = f.listed.items;
        number = refl;
        clean = asked_clean (trees_of days arguments) (old.tree_of days arguments) i syntax.Oizp (λ y c. c);
      },
      single_call syntax.Oizp (trees_of days arguments) (old.tree_of days arguments) f.listed i,
    )
apply_is days p q call.If arguments h is f = absurd h
apply_is days p q call.Condition arguments h is f = absurd h
apply_is days p q call.DaysBetween arguments h is f = absurd h

-- ---- forms

pub operand_same : (it : Leaf) → Same (syntax.Operand it) (Operand it)
operand_same (leaf.Number n) = record { depth = refl; sort = refl; fits = refl; items = refl; number = refl; clean = tt }
operand_same (leaf.Item i) = record { depth = refl; sort = refl; fits = refl; items = refl; number = refl; clean = tt }
operand_same (leaf.Day i) = record { depth = refl; sort = refl; fits = refl; items = refl; number = refl; clean = tt }

abbrev At : List (List ℕ) → Form → Syntax
At days F = single (trees_of days F)

-- what lies in memory for one operand
abbrev single_in : (xs : syntax.Arguments) (s : Shape) → Listed xs s → syntax_of s ≡ single xs
single_in xs s l = ap single l.trees

three_trees : (days : List (List ℕ)) (test one other : Form) → Facts days test → Facts days one → Facts days other
    → trees_in (Choice (old.tree_of days test) (old.tree_of days one) (old.tree_of days other))
    ≡ alone (syntax.Call syntax.If (Argument (At days test) (Argument (At days one) (alone (At days other)))))
three_trees days test one other f g h =
    ap (λ (x : Syntax). alone (syntax.Call syntax.If (Argument x (Argument (syntax_of (old.tree_of days one)) (alone (syntax_of (old.tree_of days other)))))))
    (single_in (trees_of days test) (old.tree_of days test) f.listed)
    ∙ ap (λ (x : Syntax). alone (syntax.Call syntax.If (Argument (At days test) (Argument x (alone (syntax_of (old.tree_of days other)))))))
    (single_in (trees_of days one) (old.tree_of days one) g.listed)
    ∙ ap (λ (x : Syntax). alone (syntax.Call syntax.If (Argument (At days test) (Argument (At days one) (alone x)))))
    (single_in (trees_of days other) (old.tree_of days other) h.listed)

choice_facts : (days : List (List ℕ)) (F test one other : Form)
    → old.tree_of days F ≡ Choice (old.tree_of days test) (old.tree_of days one) (old.tree_of days other)
    → trees_of days F ≡ alone (syntax.Call syntax.If (Argument (At days test) (Argument (At days one) (alone (At days other)))))
    → Facts days test → Facts days one → Facts days other → NotList test → NotList one → NotList other → Facts days F
choice_facts days F test one other shape trees f g h a b c =
    made days F (syntax.Call syntax.If (Argument (At days test) (Argument (At days one) (alone (At days other))))) trees
    (subst (λ (s : Shape). Same (syntax.Call syntax.If (Argument (At days test) (Argument (At days one) (alone (At days other))))) s) (sym shape)
    (choice_same (At days test) (At days one) (At days other) (old.tree_of days test) (old.tree_of days one) (old.tree_of days other) (f.one a).same
    (g.one b).same (h.one c).same))
    (ap trees_in shape ∙ three_trees days test one other f g h)

pub facts : (days : List (List ℕ)) (p : Place) (q : Bool) (least : ℕ) (F : Form) → IsForm p q least F → Facts days F
facts days p q least (Number b digits decimals) h =
    made days (Number b digits decimals) (syntax.Operand (leaf.Number (number_value digits decimals))) refl
    (operand_same (leaf.Number (number_value digits decimals))) refl
facts days p q least (Item b form word) h =
    made days (Item b form word) (syntax.Operand (item_leaf days (item_from form word))) refl (operand_same (item_leaf days (item_from form word))) refl
facts days p q least (Bracket b inner c) h =
    let f = facts days p q 1 inner h.1 in
    record { listed = f.listed; one = λ n. f.one (not_list p q 1 inner (omega arith) h.1) }
facts days p q least (Power atom b c digits) h =
    let f = facts days p q 8 atom h.1 in
    let a = f.one (not_list p q 8 atom (omega arith) h.1) in
    made days (Power atom b c digits) (syntax.Power (At days atom) (digits_value 10 digits)) refl
    (power_same (digits_value 10 digits) (At days atom) (old.tree_of days atom) a.same)
    (ap (λ (zs : syntax.Arguments). alone (syntax.Power (single zs) (digits_value 10 digits))) f.listed.trees)
facts days p q least (Sign b sign operand) h =
    let f = facts days p q 6 operand h.3 in
    let a = f.one (not_list p q 6 operand (omega arith) h.3) in
    made days (Sign b sign operand) (syntax.Signed (sign_of sign) (At days operand)) refl
    (sign_same sign h.2 (At days operand) (old.tree_of days operand) a.same)
    (ap (λ (zs : syntax.Arguments). alone (of_one sign (old.tree_of days operand) zs)) f.listed.trees
    ∙ sign_trees sign h.2 (old.tree_of days operand) (trees_of days operand))
facts days p q least (Chain left b operator right) h =
    let f = facts days p q (left_level_of operator) left h.2 in
    let g = facts days p q (right_level_of operator) right h.4 in
    let l = levels operator h.0 in
    let a = f.one (not_list p q (left_level_of operator) left l.0 h.2) in
    let c = g.one (not_list p q (right_level_of operator) right l.1 h.4) in
    made days (Chain left b operator right) (syntax.Between (operator_of operator) (At days left) (At days right)) refl
    (chain_same operator h.0 (At days left) (At days right) (old.tree_of days left) (old.tree_of days right) a.same c.same)
    (ap (λ (zs : syntax.Arguments). of_two operator zs (trees_in (old.tree_of days right))) f.listed.trees
    ∙ ap (of_two operator (trees_of days left)) g.listed.trees
    ∙ chain_trees operator h.0 (trees_of days left) (trees_of days right))
  where
    levels : (o : Binary) → 1 ≤ level_of o → (1 ≤ left_level_of o) × (1 ≤ right_level_of o)
    levels binary.Or k = (omega arith, omega arith)
    levels binary.And k = (omega arith, omega arith)
    levels binary.Equal k = (omega arith, omega arith)
    levels binary.NotEqual k = (omega arith, omega arith)
    levels binary.Less k = (omega arith, omega arith)
    levels binary.AtMost k = (omega arith, omega arith)
    levels binary.Greater k = (omega arith, omega arith)
    levels binary.AtLeast k = (omega arith, omega arith)
    levels binary.Add k = (omega arith, omega arith)
    levels binary.Subtract k = (omega arith, omega arith)
    levels binary.Multiply k = (omega arith, omega arith)
    levels binary.Divide k = (omega arith, omega arith)
    levels binary.Remainder k = (omega arith, omega arith)
    levels binary.DaysBetween k = absurd (omega (arith, k))
    levels binary.Comma k = absurd (omega (arith, k))
facts days p q least (Arguments first b last) h =
    let f = facts days p q 0 first h.1 in
    let g = facts days p q 1 last h.3 in
    let a = g.one (not_list p q 1 last (omega arith) h.3) in
    record {
      listed = listed_more (trees_of days first) (At days last) (old.tree_of days first) (old.tree_of days last) f.listed a.same (ap single g.listed.trees);
      one = λ n. absurd n;
    }
facts days p q least (If b c test d one e other f) h =
    choice_facts days (If b c test d one e other f) test one other refl refl (facts days p q 1 test h.3) (facts days p q 1 one h.5)
    (facts days p q 1 other h.7) (not_list p q 1 test (omega arith) h.3) (not_list p q 1 one (omega arith) h.5) (not_list p q 1 other (omega arith) h.7)
facts days p q least (Condition b c d test e f one g other i) h =
    choice_facts days (Condition b c d test e f one g other i) test one other refl refl (facts days p true 1 test h.5) (facts days p q 1 one h.8)
    (facts days p q 1 other h.10) (not_list p true 1 test (omega arith) h.5) (not_list p q 1 one (omega arith) h.8) (not_list p q 1 other (omega arith) h.10)
facts days p q least (DaysBetween b c one d other e) h =
    let f = facts days p q 1 one h.3 in
    let g = facts days p q 1 other h.5 in
    let x = f.one (not_list p q 1 one (omega arith) h.3) in
    let y = g.one (not_list p q 1 other (omega arith) h.5) in
    made days (DaysBetween b c one d other e) (syntax.Call syntax.DaysBetween (Argument (At days one) (alone (At days other)))) refl
    (days_same (At days one) (At days other) (old.tree_of days one) (old.tree_of days other) x.same y.same)
    (ap (λ (zs : syntax.Arguments). of_two binary.DaysBetween zs (trees_in (old.tree_of days other))) f.listed.trees
    ∙ ap (of_two binary.DaysBetween (trees_of days one)) g.listed.trees)
facts days p q least (Apply b name c arguments d) h =
    let r = apply_is days p q name arguments h.4 h.3 (facts days p q (arguments_level name) arguments h.3) in
    made days (Apply b name c arguments d) (syntax.Call (function_of name) (trees_of days arguments)) refl r.0 r.1

-- ---- whole texts

pub record Told (days : List (List ℕ)) (F : Form) : Type 0 where
  pub same : Same (tree_of days F) (old.tree_of days F)
  pub stored : syntax_of (old.tree_of days F) ≡ tree_of days F

told_form : (days : List (List ℕ)) (p : Place) (F : Form) → IsForm p false 1 F → Told days F
told_form days p F h =
    let f = facts days p false 1 F h in
    record { same = (f.one (not_list p false 1 F (omega arith) h)).same; stored = ap single f.listed.trees }

pub told : (days : List (List ℕ)) (p : Place) (F : Form) → IsWhole p F → Told days F
told days p (Item b form word) h = record { same = operand_same (item_leaf days (item_from form word)); stored = refl }
told days p (Number b digits decimals) h = told_form days p (Number b digits decimals) h
told days p (Bracket b inner c) h = told_form days p (Bracket b inner c) h
told days p (Power atom b c digits) h = told_form days p (Power atom b c digits) h
told days p (Sign b sign operand) h = told_form days p (Sign b sign operand) h
told days p (Chain left b operator right) h = told_form days p (Chain left b operator right) h
told days p (Arguments first b last) h = told_form days p (Arguments first b last) h
told days p (If b c test d one e other f) h = told_form days p (If b c test d one e other f) h
told days p (Condition b c d test e f one g other i) h = told_form days p (Condition b c d test e f one g other i) h
told days p (DaysBetween b c one d other e) h = told_form days p (DaysBetween b c one d other e) h
told days p (Apply b name c arguments d) h = told_form days p (Apply b name c arguments d) h

-- the tree of a text tells which lies in memory for it
pub stored_apart : (days : List (List ℕ)) (p : Place) (F : Form) (s : Shape) → IsWhole p F → tree_of days F ≡ syntax_of s → old.tree_of days F ≡ s
stored_apart days p F s h e =
    let t = told days p F h in
    sym (told_apart s (old.tree_of days F) (subst IsClean (sym t.stored) t.same.clean) (t.stored ∙ e))
