-- The expression of a text is a function of it.
use Rattle.std.proofs.Common.{◌≡◌, ℕ, Bool, true, false, cond, ◌&&◌, List, [], ◌∷◌, ◌++◌, get_or, Option, Some, None, Result, Ok, Err, refl, sym, ap, subst}
use Rattle.std.proofs.Common.{◌∙◌, inl, inr, true≢false}
use Rattle.std.specs.Prelude.{Contains, nat_eq, nat_lt}
use Rattle.std.specs.List.{list_any}
use Rattle.std.specs.Bool.{Decides}
use Rattle.std.specs.Cmp.{unsigned_Decides}
use Rattle.std.specs.Cmp.Lexicographic.{pointwise, pointwise_decides, bytes_decides}
use Rattle.std.proofs.lemmas.List.Folds.{list_any_at}
use Rattle.std.proofs.lemmas.Map.Views.{Contains-from_any}
use Rattle.dh_base.specs.declared.plain.Rate.{Rate}
use Rattle.dh_base.specs.declared.plain.Rate.TheVariants as rates
use Rattle.expr_lang.specs.declared.tree.Item.{Item}
use Rattle.expr_lang.specs.declared.tree.Item.TheVariants as item
use Rattle.expr_lang.specs.declared.tree.Place.{Place}
use Rattle.expr_lang.specs.declared.tree.Sort.{Sort}
use Rattle.expr_lang.specs.declared.reading.Nodes.{Nodes}
use Rattle.expr_lang.specs.declared.expr.Expr.{Expr}
use Rattle.expr_lang.specs.declared.fault.ExprFault.{ExprFault}
use Rattle.expr_lang.specs.declared.fault.ExprFault.TheVariants as fault
use Rattle.expr_lang.specs.Expression.{Expression}
use Rattle.dh_base.specs.Memory.{Answers}
use Rattle.expr_lang.specs.Causes.{cause_of}
use Rattle.expr_lang.specs.Expr.{IsOf, expression_of, expression_from, parse_of}
use Rattle.expr_lang.specs.Items.{Occurrence, occurrences, ListsFrom, Lists, item_key, is_one_key, is_one, listed_from, listed}
use Rattle.expr_lang.specs.Parse.{accepted, Accepts}

-- ---- an item is known by its key

abbrev first : List (List ℕ) → List ℕ
first uids = get_or uids 0 []

abbrev second : List (List ℕ) → List ℕ
second uids = get_or uids 1 []

abbrev third : List (List ℕ) → List ℕ
third uids = get_or uids 2 []

abbrev rate_from : ℕ → Rate
rate_from n =
    cond (nat_eq n 6) rates.Expected (cond (nat_eq n 7) rates.Actual (cond (nat_eq n 8) rates.OnTime (cond (nat_eq n 9) rates.Reported rates.ReportedOnTime)))

abbrev plain_from : ℕ → Item
plain_from n =
    cond (nat_eq n 13) item.Days (cond (nat_eq n 14) item.EventDate (cond (nat_eq n 15) item.EnrollmentDate
    (cond (nat_eq n 16) item.EventCount (cond (nat_eq n 17) item.EnrollmentCount item.EntityCount))))

abbrev named_from : ℕ → List (List ℕ) → Item
named_from n uids =
    cond (nat_eq n 0) (item.Element (first uids) None None)
    (cond (nat_eq n 1) (item.Element (first uids) (Some (second uids)) None)
    (cond (nat_eq n 2) (item.Element (first uids) None (Some (second uids)))
    (cond (nat_eq n 3) (item.Element (first uids) (Some (second uids)) (Some (third uids)))
    (cond (nat_eq n 4) (item.Constant (first uids))
    (cond (nat_eq n 5) (item.Group (first uids))
    (cond (nat_eq n 11) (item.StageElement (first uids) (second uids))
    (cond (nat_eq n 12) (item.Attribute (first uids))
    (cond (nat_lt n 11) (item.Rate (first uids) (rate_from n)) (plain_from n)))))))))

abbrev item_of_key : ℕ × List (List ℕ) → Item
item_of_key key = named_from key.0 key.1

item_of_key-item_key : (i : Item) → item_of_key (item_key i) ≡ i
item_of_key-item_key (item.Element element None None) = refl
item_of_key-item_key (item.Element element (Some combo) None) = refl
item_of_key-item_key (item.Element element None (Some attribute)) = refl
item_of_key-item_key (item.Element element (Some combo) (Some attribute)) = refl
item_of_key-item_key (item.Constant uid) = refl
item_of_key-item_key (item.Group uid) = refl
item_of_key-item_key (item.Rate set rates.Expected) = refl
item_of_key-item_key (item.Rate set rates.Actual) = refl
item_of_key-item_key (item.Rate set rates.OnTime) = refl
item_of_key-item_key (item.Rate set rates.Reported) = refl
item_of_key-item_key (item.Rate set rates.ReportedOnTime) = refl
item_of_key-item_key (item.StageElement stage element) = refl
item_of_key-item_key (item.Attribute uid) = refl
item_of_key-item_key item.Days = refl
item_of_key-item_key item.EventDate = refl
item_of_key-item_key item.EnrollmentDate = refl
item_of_key-item_key item.EventCount = refl
item_of_key-item_key item.EnrollmentCount = refl
item_of_key-item_key item.EntityCount = refl

both_true : (a b : Bool) → (a && b) ≡ true → (a ≡ true) × (b ≡ true)
both_true true true e = (refl, refl)
both_true true false e = absurd (true≢false (sym e))
both_true false b e = absurd (true≢false (sym e))

uids_decide : (a b : List (List ℕ)) → Decides (pointwise (pointwise nat_eq) a b) (a ≡ b)
uids_decide = pointwise_decides bytes_decides

keys-same : (a b : ℕ × List (List ℕ)) → is_one_key a b ≡ true → a ≡ b
keys-same a b e =
    let parts = both_true (nat_eq a.0 b.0) (pointwise (pointwise nat_eq) a.1 b.1) e in
    λ i. ((unsigned_Decides a.0 b.0).0 parts.0 i, (uids_decide a.1 b.1).0 parts.1 i)

key-self : (a : ℕ × List (List ℕ)) → is_one_key a a ≡ true
key-self a = λ i. (unsigned_Decides a.0 a.0).1 refl i && (uids_decide a.1 a.1).1 refl i

pub is_one-same : (a b : Item) → is_one a b ≡ true → a ≡ b
unfolding is_one
is_one-same a b e = sym (item_of_key-item_key a) ∙ ap item_of_key (keys-same (item_key a) (item_key b) e) ∙ item_of_key-item_key b

is_one-self : (a : Item) → is_one a a ≡ true
unfolding is_one
is_one-self a = key-self (item_key a)

known-listed : (i : Item) (items : List Item) → Contains items i → list_any (is_one i) items ≡ true
known-listed i items there = list_any_at (is_one i) items there.0 i there.1 (subst (λ (j : Item). is_one i j ≡ true) (sym there.2) (is_one-self i))

unknown-listed : (i : Item) (items : List Item) → (¬ Contains items i) → list_any (is_one i) items ≡ false
unknown-listed i items absent = unless (list_any (is_one i) items) refl
  where
    unless : (known : Bool) → list_any (is_one i) items ≡ known → known ≡ false
    unless true e = absurd (absent (Contains-from_any is_one-same i items e))
    unless false e = refl

-- ---- the lists are a function of what occurs

listed-turn : (known : Bool) (there else : List Item × List ℕ) (found : Bool) → found ≡ known → cond known there else ≡ cond found there else
listed-turn known there else found e = ap (λ (b : Bool). cond b there else) (sym e)

lists_are : (occurring : List Occurrence) (items : List Item) (places : List ℕ) (all : List Item) (all_places : List ℕ)
    → ListsFrom occurring items places all all_places → (all, all_places) ≡ listed_from occurring items places
lists_are [] items places all all_places is = λ i. (is.0 i, is.1 i)
lists_are (o ∷ others) items places all all_places (inl is) =
    lists_are others items places all all_places is.1
    ∙ listed-turn true (listed_from others items places) (listed_from others (items ++ o.item ∷ []) (places ++ o.at ∷ [])) (list_any (is_one o.item) items)
    (known-listed o.item items is.0)
lists_are (o ∷ others) items places all all_places (inr is) =
    lists_are others (items ++ o.item ∷ []) (places ++ o.at ∷ []) all all_places is.1
    ∙ listed-turn false (listed_from others items places) (listed_from others (items ++ o.item ∷ []) (places ++ o.at ∷ [])) (list_any (is_one o.item) items)
    (unknown-listed o.item items is.0)

Lists-are : (occurring : List Occurrence) (items : List Item) (places : List ℕ) → Lists occurring items places → (items, places) ≡ listed occurring
unfolding Lists listed
Lists-are occurring items places is = lists_are occurring [] [] items places is

lists_so : (occurring : List Occurrence) (items : List Item) (places : List ℕ)
    → ListsFrom occurring items places (listed_from occurring items places).0 (listed_from occurring items places).1
lists_so [] items places = (refl, refl)
lists_so (o ∷ others) items places =
    by (list_any (is_one o.item) items) refl (lists_so others items places) (lists_so others (items ++ o.item ∷ []) (places ++ o.at ∷ []))
  where
    by : (known : Bool) → list_any (is_one o.item) items ≡ known
        → ListsFrom others items places (listed_from others items places).0 (listed_from others items places).1
        → ListsFrom others (items ++ o.item ∷ []) (places ++ o.at ∷ []) (listed_from others (items ++ o.item ∷ []) (places ++ o.at ∷ [])).0
        (listed_from others (items ++ o.item ∷ []) (places ++ o.at ∷ [])).1
        → ListsFrom (o ∷ others) items places (cond known (listed_from others items places) (listed_from others (items ++ o.item ∷ []) (places ++ o.at ∷ []))).0
        (cond known (listed_from others items places) (listed_from others (items ++ o.item ∷ []) (places ++ o.at ∷ []))).1
    by true e there absent = inl (Contains-from_any is_one-same o.item items e, there)
    by false e there absent = inr ((λ has. true≢false (sym (known-listed o.item items has) ∙ e)), absent)

Lists-listed : (occurring : List Occurrence) → Lists occurring (listed occurring).0 (listed occurring).1
unfolding Lists listed
Lists-listed occurring = lists_so occurring [] []

-- ---- an expression is a function of its text

pub IsOf-expression_of : (text : List ℕ) (days : List (List ℕ)) (nodes : Nodes) → IsOf text days (expression_of text days nodes) nodes
unfolding expression_of
IsOf-expression_of text days nodes = record { tree = refl; items = Lists-listed (occurrences text days nodes.nodes) }

pub IsOf-is : (text : List ℕ) (days : List (List ℕ)) (expr : Expr) (nodes : Nodes) → IsOf text days expr nodes → expr ≡ expression_of text days nodes
unfolding expression_of
IsOf-is text days expr nodes is = λ i.
    record {
      tree = is.tree i;
      items = (Lists-are (occurrences text days nodes.nodes) expr.items expr.places is.items i).0;
      places =
          (Lists-are (occurrences text days nodes.nodes) expr.items expr.places is.items i).1;
    }

accepts_so : (text : List ℕ) (days : List (List ℕ)) (r : Result Expr ExprFault) (answer : Result Nodes ExprFault)
    → Accepts (λ expr nodes. IsOf text days expr nodes) r answer → Answers cause_of (expression_from text days answer) r
accepts_so text days (Ok expr) (Ok nodes) is = ap (λ (e : Expression). Ok e) (sym (IsOf-is text days expr nodes is))
accepts_so text days (Ok expr) (Err f) is = absurd is
accepts_so text days (Err fault.Memory) answer is = tt
accepts_so text days (Err (fault.Syntax at)) answer is = ap (expression_from text days) is
accepts_so text days (Err (fault.TooDeep at)) answer is = ap (expression_from text days) is
accepts_so text days (Err (fault.Sort at)) answer is = ap (expression_from text days) is

pub parse_answers : (place : Place) (days : List (List ℕ)) (wanted : Option Sort) (text : List ℕ) (r : Result Expr ExprFault)
    → Accepts (λ expr nodes. IsOf text days expr nodes) r (accepted place days wanted text) → Answers cause_of (parse_of place days wanted text) r
unfolding parse_of
parse_answers place days wanted text r is = accepts_so text days r (accepted place days wanted text) is
