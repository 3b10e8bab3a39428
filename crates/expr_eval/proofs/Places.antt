-- Where the items of a list stand.
use Rattle.std.proofs.Common.{◌≡◌, ℕ, zero, suc, ◌+◌, ◌<◌, Bool, true, false, cond, ◌&&◌, List, [], ◌∷◌, Option, Some, None, refl, sym, ap, ◌∙◌, true≢false}
use Rattle.std.proofs.Common.{arith}
use Rattle.std.specs.Prelude.{nat_eq, slice_get, length, get_or, map}
use Rattle.std.proofs.lemmas.Option.{slice_get_read}
use Rattle.std.proofs.Math.Nat.{suc-ne-zero}
use Rattle.std.specs.Cmp.{unsigned_Decides}
use Rattle.std.specs.Cmp.Lexicographic.{bytes_decides}
use Rattle.dh_base.specs.declared.plain.Rate.{Rate}
use Rattle.dh_base.specs.declared.plain.Rate.TheVariants as rates
use Rattle.expr_lang.specs.declared.tree.Item.{Item}
use Rattle.expr_lang.specs.declared.tree.Item.TheVariants as item
use Rattle.expr_lang.specs.declared.tree.Leaf.{Leaf}
use Rattle.expr_lang.specs.declared.tree.Leaf.TheVariants as leaf
use Rattle.expr_lang.specs.Branches.{AreDifferent, item_shape}
use Rattle.expr_lang.specs.Shape.{Shape, Operand}
use Rattle.expr_eval.specs.Applied.{plain_items}
use Rattle.expr_eval.specs.Meaning.{can_miss}
use Rattle.expr_eval.specs.Given.{same_uid, same_option, rate_number, same_item, index_from, index_in}

-- ---- items that are the same are one

both : (a b : Bool) → (a && b) ≡ true → (a ≡ true) × (b ≡ true)
both true true e = (refl, refl)
both true false e = absurd (true≢false (sym e))
both false b e = absurd (true≢false (sym e))

uid_is : (a b : List ℕ) → same_uid a b ≡ true → a ≡ b
uid_is a b e = (bytes_decides a b).0 e

uid_self : (a : List ℕ) → same_uid a a ≡ true
uid_self a = (bytes_decides a a).1 refl

option_is : (a b : Option (List ℕ)) → same_option a b ≡ true → a ≡ b
option_is None None e = refl
option_is (Some a) (Some b) e = ap (λ u. Some u) (uid_is a b e)
option_is None (Some b) e = absurd (true≢false (sym e))
option_is (Some a) None e = absurd (true≢false (sym e))

option_self : (a : Option (List ℕ)) → same_option a a ≡ true
option_self None = refl
option_self (Some a) = uid_self a

abbrev rate_of : ℕ → Rate
rate_of zero = rates.Expected
rate_of (suc zero) = rates.Actual
rate_of (suc (suc zero)) = rates.OnTime
rate_of (suc (suc (suc zero))) = rates.Reported
rate_of (suc (suc (suc (suc n)))) = rates.ReportedOnTime

rate_back : (r : Rate) → rate_of (rate_number r) ≡ r
rate_back rates.Expected = refl
rate_back rates.Actual = refl
rate_back rates.OnTime = refl
rate_back rates.Reported = refl
rate_back rates.ReportedOnTime = refl

rate_is : (r s : Rate) → nat_eq (rate_number r) (rate_number s) ≡ true → r ≡ s
rate_is r s e = sym (rate_back r) ∙ ap rate_of ((unsigned_Decides (rate_number r) (rate_number s)).0 e) ∙ rate_back s

rate_self : (r : Rate) → nat_eq (rate_number r) (rate_number r) ≡ true
rate_self r = (unsigned_Decides (rate_number r) (rate_number r)).1 refl

item-self : (i : Item) → same_item i i ≡ true
unfolding same_item
item-self (item.Element a b c) = λ k. uid_self a k && (option_self b k && option_self c k)
item-self (item.Constant a) = uid_self a
item-self (item.Group a) = uid_self a
item-self item.Days = refl
item-self (item.Rate a b) = λ k. uid_self a k && rate_self b k
item-self (item.StageElement a b) = λ k. uid_self a k && uid_self b k
item-self (item.Attribute a) = uid_self a
item-self item.EventDate = refl
item-self item.EnrollmentDate = refl
item-self item.EventCount = refl
item-self item.EnrollmentCount = refl
item-self item.EntityCount = refl

item-is : (i j : Item) → same_item i j ≡ true → i ≡ j
unfolding same_item
item-is (item.Element a b c) (item.Element p q r) e = let parts = both _ _ e in let more =
    both _ _ parts.1 in λ k. item.Element (uid_is a p parts.0 k) (option_is b q more.0 k) (option_is c r more.1 k)
item-is (item.Element a b c) (item.Constant p) e = absurd (true≢false (sym e))
item-is (item.Element a b c) (item.Group p) e = absurd (true≢false (sym e))
item-is (item.Element a b c) item.Days e = absurd (true≢false (sym e))
item-is (item.Element a b c) (item.Rate p q) e = absurd (true≢false (sym e))
item-is (item.Element a b c) (item.StageElement p q) e = absurd (true≢false (sym e))
item-is (item.Element a b c) (item.Attribute p) e = absurd (true≢false (sym e))
item-is (item.Element a b c) item.EventDate e = absurd (true≢false (sym e))
item-is (item.Element a b c) item.EnrollmentDate e = absurd (true≢false (sym e))
item-is (item.Element a b c) item.EventCount e = absurd (true≢false (sym e))
item-is (item.Element a b c) item.EnrollmentCount e = absurd (true≢false (sym e))
item-is (item.Element a b c) item.EntityCount e = absurd (true≢false (sym e))
item-is (item.Constant a) (item.Element p q r) e = absurd (true≢false (sym e))
item-is (item.Constant a) (item.Constant p) e = ap (λ u. item.Constant u) (uid_is a p e)
item-is (item.Constant a) (item.Group p) e = absurd (true≢false (sym e))
item-is (item.Constant a) item.Days e = absurd (true≢false (sym e))
item-is (item.Constant a) (item.Rate p q) e = absurd (true≢false (sym e))
item-is (item.Constant a) (item.StageElement p q) e = absurd (true≢false (sym e))
item-is (item.Constant a) (item.Attribute p) e = absurd (true≢false (sym e))
item-is (item.Constant a) item.EventDate e = absurd (true≢false (sym e))
item-is (item.Constant a) item.EnrollmentDate e = absurd (true≢false (sym e))
item-is (item.Constant a) item.EventCount e = absurd (true≢false (sym e))
item-is (item.Constant a) item.EnrollmentCount e = absurd (true≢false (sym e))
item-is (item.Constant a) item.EntityCount e = absurd (true≢false (sym e))
item-is (item.Group a) (item.Element p q r) e = absurd (true≢false (sym e))
item-is (item.Group a) (item.Constant p) e = absurd (true≢false (sym e))
item-is (item.Group a) (item.Group p) e = ap (λ u. item.Group u) (uid_is a p e)
item-is (item.Group a) item.Days e = absurd (true≢false (sym e))
item-is (item.Group a) (item.Rate p q) e = absurd (true≢false (sym e))
item-is (item.Group a) (item.StageElement p q) e = absurd (true≢false (sym e))
item-is (item.Group a) (item.Attribute p) e = absurd (true≢false (sym e))
item-is (item.Group a) item.EventDate e = absurd (true≢false (sym e))
item-is (item.Group a) item.EnrollmentDate e = absurd (true≢false (sym e))
item-is (item.Group a) item.EventCount e = absurd (true≢false (sym e))
item-is (item.Group a) item.EnrollmentCount e = absurd (true≢false (sym e))
item-is (item.Group a) item.EntityCount e = absurd (true≢false (sym e))
item-is item.Days (item.Element p q r) e = absurd (true≢false (sym e))
item-is item.Days (item.Constant p) e = absurd (true≢false (sym e))
item-is item.Days (item.Group p) e = absurd (true≢false (sym e))
item-is item.Days item.Days e = refl
item-is item.Days (item.Rate p q) e = absurd (true≢false (sym e))
item-is item.Days (item.StageElement p q) e = absurd (true≢false (sym e))
item-is item.Days (item.Attribute p) e = absurd (true≢false (sym e))
item-is item.Days item.EventDate e = absurd (true≢false (sym e))
item-is item.Days item.EnrollmentDate e = absurd (true≢false (sym e))
item-is item.Days item.EventCount e = absurd (true≢false (sym e))
item-is item.Days item.EnrollmentCount e = absurd (true≢false (sym e))
item-is item.Days item.EntityCount e = absurd (true≢false (sym e))
item-is (item.Rate a b) (item.Element p q r) e = absurd (true≢false (sym e))
item-is (item.Rate a b) (item.Constant p) e = absurd (true≢false (sym e))
item-is (item.Rate a b) (item.Group p) e = absurd (true≢false (sym e))
item-is (item.Rate a b) item.Days e = absurd (true≢false (sym e))
item-is (item.Rate a b) (item.Rate p q) e = let parts = both _ _ e in λ k. item.Rate (uid_is a p parts.0 k) (rate_is b q parts.1 k)
item-is (item.Rate a b) (item.StageElement p q) e = absurd (true≢false (sym e))
item-is (item.Rate a b) (item.Attribute p) e = absurd (true≢false (sym e))
item-is (item.Rate a b) item.EventDate e = absurd (true≢false (sym e))
item-is (item.Rate a b) item.EnrollmentDate e = absurd (true≢false (sym e))
item-is (item.Rate a b) item.EventCount e = absurd (true≢false (sym e))
item-is (item.Rate a b) item.EnrollmentCount e = absurd (true≢false (sym e))
item-is (item.Rate a b) item.EntityCount e = absurd (true≢false (sym e))
item-is (item.StageElement a b) (item.Element p q r) e = absurd (true≢false (sym e))
item-is (item.StageElement a b) (item.Constant p) e = absurd (true≢false (sym e))
item-is (item.StageElement a b) (item.Group p) e = absurd (true≢false (sym e))
item-is (item.StageElement a b) item.Days e = absurd (true≢false (sym e))
item-is (item.StageElement a b) (item.Rate p q) e = absurd (true≢false (sym e))
item-is (item.StageElement a b) (item.StageElement p q) e = let parts = both _ _ e in λ k. item.StageElement (uid_is a p parts.0 k) (uid_is b q parts.1 k)
item-is (item.StageElement a b) (item.Attribute p) e = absurd (true≢false (sym e))
item-is (item.StageElement a b) item.EventDate e = absurd (true≢false (sym e))
item-is (item.StageElement a b) item.EnrollmentDate e = absurd (true≢false (sym e))
item-is (item.StageElement a b) item.EventCount e = absurd (true≢false (sym e))
item-is (item.StageElement a b) item.EnrollmentCount e = absurd (true≢false (sym e))
item-is (item.StageElement a b) item.EntityCount e = absurd (true≢false (sym e))
item-is (item.Attribute a) (item.Element p q r) e = absurd (true≢false (sym e))
item-is (item.Attribute a) (item.Constant p) e = absurd (true≢false (sym e))
item-is (item.Attribute a) (item.Group p) e = absurd (true≢false (sym e))
item-is (item.Attribute a) item.Days e = absurd (true≢false (sym e))
item-is (item.Attribute a) (item.Rate p q) e = absurd (true≢false (sym e))
item-is (item.Attribute a) (item.StageElement p q) e = absurd (true≢false (sym e))
item-is (item.Attribute a) (item.Attribute p) e = ap (λ u. item.Attribute u) (uid_is a p e)
item-is (item.Attribute a) item.EventDate e = absurd (true≢false (sym e))
item-is (item.Attribute a) item.EnrollmentDate e = absurd (true≢false (sym e))
item-is (item.Attribute a) item.EventCount e = absurd (true≢false (sym e))
item-is (item.Attribute a) item.EnrollmentCount e = absurd (true≢false (sym e))
item-is (item.Attribute a) item.EntityCount e = absurd (true≢false (sym e))
item-is item.EventDate (item.Element p q r) e = absurd (true≢false (sym e))
item-is item.EventDate (item.Constant p) e = absurd (true≢false (sym e))
item-is item.EventDate (item.Group p) e = absurd (true≢false (sym e))
item-is item.EventDate item.Days e = absurd (true≢false (sym e))
item-is item.EventDate (item.Rate p q) e = absurd (true≢false (sym e))
item-is item.EventDate (item.StageElement p q) e = absurd (true≢false (sym e))
item-is item.EventDate (item.Attribute p) e = absurd (true≢false (sym e))
item-is item.EventDate item.EventDate e = refl
item-is item.EventDate item.EnrollmentDate e = absurd (true≢false (sym e))
item-is item.EventDate item.EventCount e = absurd (true≢false (sym e))
item-is item.EventDate item.EnrollmentCount e = absurd (true≢false (sym e))
item-is item.EventDate item.EntityCount e = absurd (true≢false (sym e))
item-is item.EnrollmentDate (item.Element p q r) e = absurd (true≢false (sym e))
item-is item.EnrollmentDate (item.Constant p) e = absurd (true≢false (sym e))
item-is item.EnrollmentDate (item.Group p) e = absurd (true≢false (sym e))
item-is item.EnrollmentDate item.Days e = absurd (true≢false (sym e))
item-is item.EnrollmentDate (item.Rate p q) e = absurd (true≢false (sym e))
item-is item.EnrollmentDate (item.StageElement p q) e = absurd (true≢false (sym e))
item-is item.EnrollmentDate (item.Attribute p) e = absurd (true≢false (sym e))
item-is item.EnrollmentDate item.EventDate e = absurd (true≢false (sym e))
item-is item.EnrollmentDate item.EnrollmentDate e = refl
item-is item.EnrollmentDate item.EventCount e = absurd (true≢false (sym e))
item-is item.EnrollmentDate item.EnrollmentCount e = absurd (true≢false (sym e))
item-is item.EnrollmentDate item.EntityCount e = absurd (true≢false (sym e))
item-is item.EventCount (item.Element p q r) e = absurd (true≢false (sym e))
item-is item.EventCount (item.Constant p) e = absurd (true≢false (sym e))
item-is item.EventCount (item.Group p) e = absurd (true≢false (sym e))
item-is item.EventCount item.Days e = absurd (true≢false (sym e))
item-is item.EventCount (item.Rate p q) e = absurd (true≢false (sym e))
item-is item.EventCount (item.StageElement p q) e = absurd (true≢false (sym e))
item-is item.EventCount (item.Attribute p) e = absurd (true≢false (sym e))
item-is item.EventCount item.EventDate e = absurd (true≢false (sym e))
item-is item.EventCount item.EnrollmentDate e = absurd (true≢false (sym e))
item-is item.EventCount item.EventCount e = refl
item-is item.EventCount item.EnrollmentCount e = absurd (true≢false (sym e))
item-is item.EventCount item.EntityCount e = absurd (true≢false (sym e))
item-is item.EnrollmentCount (item.Element p q r) e = absurd (true≢false (sym e))
item-is item.EnrollmentCount (item.Constant p) e = absurd (true≢false (sym e))
item-is item.EnrollmentCount (item.Group p) e = absurd (true≢false (sym e))
item-is item.EnrollmentCount item.Days e = absurd (true≢false (sym e))
item-is item.EnrollmentCount (item.Rate p q) e = absurd (true≢false (sym e))
item-is item.EnrollmentCount (item.StageElement p q) e = absurd (true≢false (sym e))
item-is item.EnrollmentCount (item.Attribute p) e = absurd (true≢false (sym e))
item-is item.EnrollmentCount item.EventDate e = absurd (true≢false (sym e))
item-is item.EnrollmentCount item.EnrollmentDate e = absurd (true≢false (sym e))
item-is item.EnrollmentCount item.EventCount e = absurd (true≢false (sym e))
item-is item.EnrollmentCount item.EnrollmentCount e = refl
item-is item.EnrollmentCount item.EntityCount e = absurd (true≢false (sym e))
item-is item.EntityCount (item.Element p q r) e = absurd (true≢false (sym e))
item-is item.EntityCount (item.Constant p) e = absurd (true≢false (sym e))
item-is item.EntityCount (item.Group p) e = absurd (true≢false (sym e))
item-is item.EntityCount item.Days e = absurd (true≢false (sym e))
item-is item.EntityCount (item.Rate p q) e = absurd (true≢false (sym e))
item-is item.EntityCount (item.StageElement p q) e = absurd (true≢false (sym e))
item-is item.EntityCount (item.Attribute p) e = absurd (true≢false (sym e))
item-is item.EntityCount item.EventDate e = absurd (true≢false (sym e))
item-is item.EntityCount item.EnrollmentDate e = absurd (true≢false (sym e))
item-is item.EntityCount item.EventCount e = absurd (true≢false (sym e))
item-is item.EntityCount item.EnrollmentCount e = absurd (true≢false (sym e))
item-is item.EntityCount item.EntityCount e = refl

-- ---- the place of an item is the one at which it stands

some_same : {A : Type 0} (x y : A) → Some x ≡ Some y → x ≡ y
some_same x y e = cc

found : (b : Bool) (n m : ℕ) → b ≡ true → cond b n m ≡ n
found true n m e = refl
found false n m e = absurd (true≢false (sym e))

passed : (b : Bool) (n m : ℕ) → (¬ (b ≡ true)) → cond b n m ≡ m
passed true n m e = absurd (e refl)
passed false n m e = refl

abbrev Apart : List Item → Type 0
Apart items = (j k : ℕ) (i : Item) → slice_get items j ≡ Some i → slice_get items k ≡ Some i → j ≡ k

index_at : (at : ℕ) (items : List Item) (k : ℕ) (i : Item) → Apart items → slice_get items k ≡ Some i → index_from at items i ≡ at + k
index_at at [] k i apart there = absurd (no_item k i there)
  where
    no_item : (k : ℕ) (i : Item) → slice_get [] k ≡ Some i → ⊥
    no_item k i e = cc
index_at at (x ∷ xs) zero i apart there =
    let same : x ≡ i = some_same x i there in
    let is : same_item x i ≡ true = ap (λ j. same_item x j) (sym same) ∙ item-self x in
    found (same_item x i) at (index_from (at + 1) xs i) is ∙ omega arith
index_at at (x ∷ xs) (suc k) i apart there =
    let other : ¬ (same_item x i ≡ true) = λ e. suc-ne-zero k (apart (suc k) 0 i there (ap (λ j. Some j) (item-is x i e))) in
    let rest : Apart xs = λ j l y a b. suc-inj (apart (suc j) (suc l) y a b) in
    passed (same_item x i) at (index_from (at + 1) xs i) other ∙ index_at (at + 1) xs k i rest there ∙ omega arith
  where
    suc-inj : {a b : ℕ} → suc a ≡ suc b → a ≡ b
    suc-inj e = omega (arith, e)

pub index-is : (items : List Item) (k : ℕ) (i : Item) → AreDifferent items → slice_get items k ≡ Some i → index_in items i ≡ k
unfolding AreDifferent index_in
index-is items k i different there = index_at 0 items k i different there ∙ omega arith

-- ---- what is said of an item at a place

member : (items : List Item) (k : ℕ) → k < length items → (i : Item) × (slice_get items k ≡ Some i)
member [] k h = absurd (omega (arith, h))
member (x ∷ xs) zero h = (x, refl)
member (x ∷ xs) (suc k) h = member xs k (omega (arith, h))

-- what is known of each item as an operand, from its place in the list
pub at-place : {B : Type 0} (f : Shape → B) (h : ℕ → B) (make : Item → Leaf) (items : List Item) (k : ℕ) → k < length items → AreDifferent items
    → ((i : Item) → f (Operand (make i)) ≡ h (index_in items i)) → f (item_shape make (slice_get items k)) ≡ h k
at-place f h make items k within different each = by (member items k within)
  where
    by : (i : Item) × (slice_get items k ≡ Some i) → f (item_shape make (slice_get items k)) ≡ h k
    by there = ap (λ (o : Option Item). f (item_shape make o)) there.1 ∙ each there.0 ∙ ap h (index-is items k there.0 different there.1)

alone : (index : Item → ℕ) (x : Item) (k : ℕ) (b : Bool) → index x ≡ k → map index (cond b (x ∷ []) []) ≡ cond b (k ∷ []) []
alone index x k true e = ap (λ n. n ∷ []) e
alone index x k false e = refl

-- an item is plain if it can be missing
pub plain-at : (items : List Item) (k : ℕ) (x : Item) (b : Bool) → k < length items → AreDifferent items → x ≡ get_or items k x → b ≡ can_miss x
    → map (index_in items) (plain_items (item_shape (λ i. leaf.Item i) (slice_get items k))) ≡ cond b (k ∷ []) []
plain-at items k x b within different is misses =
    let there : slice_get items k ≡ Some x = slice_get_read items (length items) k x refl within is in
    ap (λ (o : Option Item). map (index_in items) (plain_items (item_shape (λ i. leaf.Item i) o))) there
    ∙ alone (index_in items) x k (can_miss x) (index-is items k x different there)
    ∙ ap (λ (t : Bool). cond t (k ∷ []) []) (sym misses)
