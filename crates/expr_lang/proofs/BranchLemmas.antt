-- Trees as lists of nodes.
use Rattle.std.proofs.Common.{◌≡◌, ℕ, zero, suc, ◌<◌, ◌≤◌, Bool, false, cond, List, [], ◌∷◌, ◌++◌, length, reverse, Some}
use Rattle.std.proofs.Common.{refl, sym, ap, subst, ◌∙◌, inl, inr, arith}
use Rattle.std.specs.Prelude.{nat_eq, slice_get, Contains}
use Rattle.std.proofs.lemmas.Bool.{cases_lt, eq-eqb}
use Rattle.std.proofs.lemmas.Bool.Decides.{nat_tests}
use Rattle.std.proofs.lemmas.List.{length-append, length-reverse, reverse-append, reverse-reverse}
use Rattle.std.proofs.lemmas.Option.{slice_get_within, get_or_from_slice_get}
use Rattle.expr_lang.specs.declared.tree.Item.{Item}
use Rattle.expr_lang.specs.declared.tree.Leaf.TheVariants as leaf
use Rattle.expr_lang.specs.declared.tree.Branch.{Branch}
use Rattle.expr_lang.specs.declared.tree.Branch.TheVariants as branch
use Rattle.expr_lang.specs.Branches.{item_shape, branch_shape, shapes_from, shape_in, IsEarlier, AreEarlier, AreSound, AreDifferent}
use Rattle.expr_lang.specs.Shape.{Shape, One, Two, Choice}

-- ---- lists

some_same : {A : Type 0} (x y : A) → Some x ≡ Some y → x ≡ y
some_same x y e = cc

front_get : {A : Type 0} (xs ys : List A) (n : ℕ) → n < length xs → slice_get (xs ++ ys) n ≡ slice_get xs n
front_get [] ys n h = absurd (omega (arith, h))
front_get (x ∷ xs) ys zero h = refl
front_get (x ∷ xs) ys (suc n) h = front_get xs ys n (omega (arith, h))

last_get : {A : Type 0} (xs : List A) (y : A) → slice_get (xs ++ y ∷ []) (length xs) ≡ Some y
last_get [] y = refl
last_get (x ∷ xs) y = last_get xs y

apart : (n k : ℕ) → n < k → nat_eq n k ≡ false
apart n k h = grind (arith, nat_tests)

-- ---- the newest node, and those before it

at_top : (items : List Item) (b : Branch) (older : List Branch) → shapes_from items (b ∷ older) (length older) ≡ branch_shape items (shapes_from items older) b
at_top items b older =
    ap (λ (t : Bool). cond t (branch_shape items (shapes_from items older) b) (shapes_from items older (length older)))
    (eq-eqb (length older) (length older) refl)

at_older : (items : List Item) (b : Branch) (older : List Branch) (n : ℕ) → n < length older → shapes_from items (b ∷ older) n ≡ shapes_from items older n
at_older items b older n h =
    ap (λ (t : Bool). cond t (branch_shape items (shapes_from items older) b) (shapes_from items older n)) (apart n (length older) h)

same_shape : (count n : ℕ) (items more : List Item) (f g : ℕ → Shape) (b : Branch) → ((k : ℕ) → k < count → slice_get items k ≡ slice_get more k)
    → ((k : ℕ) → k < n → f k ≡ g k) → IsEarlier count n b → branch_shape items f b ≡ branch_shape more g b
same_shape count n items more f g (branch.Number x) is same e = refl
same_shape count n items more f g (branch.Item k) is same e = ap (item_shape (λ i. leaf.Item i)) (is k e)
same_shape count n items more f g (branch.Day k) is same e = ap (item_shape (λ i. leaf.Day i)) (is k e)
same_shape count n items more f g (branch.Unary o x) is same e = ap (λ (s : Shape). One o s) (same x e)
same_shape count n items more f g (branch.Binary o x y) is same e = λ i. Two o (same x e.0 i) (same y e.1 i)
same_shape count n items more f g (branch.If x y z) is same e = λ i. Choice (same x e.0 i) (same y e.1 i) (same z e.2 i)

abbrev IsStep : List Item → List Branch → ℕ → Branch → Type 0
IsStep items all n b = (shapes_from items all n ≡ branch_shape items (shapes_from items all) b) × IsEarlier (length items) n b

older_step : (items : List Item) (top : Branch) (older : List Branch) (n : ℕ) (b : Branch) → n < length older → IsStep items older n b
    → IsStep items (top ∷ older) n b
older_step items top older n b h is = (
  at_older items top older n h
      ∙ is.0
      ∙ same_shape (length items) n items items (shapes_from items older) (shapes_from items (top ∷ older)) b (λ k within. refl)
      (λ k before. sym (at_older items top older k (omega (arith, h, before)))) is.1,
  is.1,
)

top_step : (items : List Item) (top : Branch) (older : List Branch) → IsEarlier (length items) (length older) top
    → IsStep items (top ∷ older) (length older) top
top_step items top older is = (
  at_top items top older
      ∙ same_shape (length items) (length older) items items (shapes_from items older) (shapes_from items (top ∷ older)) top (λ k within. refl)
      (λ k before. sym (at_older items top older k before)) is,
  is,
)

step_from : (items : List Item) (all : List Branch) (n : ℕ) (b : Branch) → slice_get (reverse all) n ≡ Some b → AreEarlier (length items) all
    → IsStep items all n b
step_from items [] n b h sound = absurd cc
step_from items (top ∷ older) n b h sound =
    let e : slice_get (reverse older ++ top ∷ []) n ≡ Some b = ap (λ (l : List Branch). slice_get l n) (sym (reverse-append (top ∷ []) older)) ∙ h in
    elim (cases_lt n (length older)) [
      | inl before ↦
          older_step items top older n b before
          (step_from items older n b (sym (front_get (reverse older) (top ∷ []) n (omega (arith, before, length-reverse older))) ∙ e) sound.1)
      | inr after ↦
          let k : length older ≡ n =
          omega (arith, after, slice_get_within (reverse older ++ top ∷ []) n b e, length-append (reverse older) (top ∷ []), length-reverse older) in
          let t : top ≡ b = some_same top b
          (sym (last_get (reverse older) top) ∙ ap (slice_get (reverse older ++ top ∷ [])) (length-reverse older ∙ k) ∙ e) in
          subst (λ (p : ℕ × Branch). IsStep items (top ∷ older) p.0 p.1) (λ i. (k i, t i)) (top_step items top older sound.0)
    ]

-- what the node at a place is
pub step_at : (items : List Item) (branches : List Branch) (n : ℕ) (b : Branch) → slice_get branches n ≡ Some b → AreSound (length items) branches
    → (shape_in items branches n ≡ branch_shape items (shape_in items branches) b) × IsEarlier (length items) n b
unfolding shape_in AreSound
step_at items branches n b h sound =
    step_from items (reverse branches) n b (ap (λ (l : List Branch). slice_get l n) (reverse-reverse branches) ∙ h) sound

-- ---- more items

more_items : (items more : List Item) (all : List Branch) (n : ℕ) → ((k : ℕ) → k < length items → slice_get items k ≡ slice_get more k)
    → AreEarlier (length items) all → shapes_from items all n ≡ shapes_from more all n
more_items items more [] n is sound = refl
more_items items more (b ∷ older) n is sound = λ i.
    cond (nat_eq n (length older))
    (same_shape (length items) (length older) items more (shapes_from items older) (shapes_from more older) b is
    (λ k before. more_items items more older k is sound.1) sound.0 i) (more_items items more older n is sound.1 i)

earlier_more : (count more n : ℕ) (b : Branch) → count ≤ more → IsEarlier count n b → IsEarlier more n b
earlier_more count more n (branch.Number x) h e = e
earlier_more count more n (branch.Item k) h e = omega (arith, h, e)
earlier_more count more n (branch.Day k) h e = omega (arith, h, e)
earlier_more count more n (branch.Unary o x) h e = e
earlier_more count more n (branch.Binary o x y) h e = e
earlier_more count more n (branch.If x y z) h e = e

are_earlier_more : (count more : ℕ) (all : List Branch) → count ≤ more → AreEarlier count all → AreEarlier more all
are_earlier_more count more [] h e = e
are_earlier_more count more (b ∷ older) h e = (earlier_more count more (length older) b h e.0, are_earlier_more count more older h e.1)

pub shape_kept : (items more : List Item) (branches : List Branch) (n : ℕ) → ((k : ℕ) → k < length items → slice_get items k ≡ slice_get more k)
    → AreSound (length items) branches → shape_in items branches n ≡ shape_in more branches n
unfolding shape_in AreSound
shape_kept items more branches n is sound = more_items items more (reverse branches) n is sound

pub sound_kept : (count more : ℕ) (branches : List Branch) → count ≤ more → AreSound count branches → AreSound more branches
unfolding AreSound
sound_kept count more branches h sound = are_earlier_more count more (reverse branches) h sound

-- the items, and those after one was listed
pub record IsLonger (items : List Item) (places : List ℕ) (more : List Item) (more_places : List ℕ) : Type 0 where
  pub kept : (k : ℕ) → k < length items → slice_get items k ≡ slice_get more k
  pub longer : length items ≤ length more
  pub different : AreDifferent items → AreDifferent more
  pub paired : length items ≡ length places → length more ≡ length more_places

pub longer_same : (items : List Item) (places : List ℕ) → IsLonger items places items places
longer_same items places = record { kept = λ k h. refl; longer = omega arith; different = λ d. d; paired = λ p. p }

at_end : (items : List Item) (i : Item) (k : ℕ) (x : Item) → length items ≤ k → slice_get (items ++ i ∷ []) k ≡ Some x → (k ≡ length items) × (x ≡ i)
at_end items i k x h e =
    let last : k ≡ length items = omega (arith, h, slice_get_within (items ++ i ∷ []) k x e, length-append items (i ∷ [])) in
    (last, some_same x i (sym e ∙ ap (slice_get (items ++ i ∷ [])) last ∙ last_get items i))

there_at : (items : List Item) (i : Item) (k : ℕ) → slice_get items k ≡ Some i → Contains items i
there_at items i k e = (k, slice_get_within items k i e, get_or_from_slice_get items k i i e)

different_more : (items : List Item) (i : Item) → (¬ Contains items i) → AreDifferent items → AreDifferent (items ++ i ∷ [])
unfolding AreDifferent
different_more items i absent different j k x at_j at_k =
    elim (cases_lt j (length items)) [
      | inl jn ↦ elim (cases_lt k (length items)) [
        | inl kn ↦ different j k x (sym (front_get items (i ∷ []) j jn) ∙ at_j) (sym (front_get items (i ∷ []) k kn) ∙ at_k)
        | inr kn ↦
            absurd (absent (there_at items i j (sym (front_get items (i ∷ []) j jn) ∙ at_j ∙ ap (λ (y : Item). Some y) (at_end items i k x kn at_k).1)))
      ]
      | inr jn ↦ elim (cases_lt k (length items)) [
        | inl kn ↦
            absurd (absent (there_at items i k (sym (front_get items (i ∷ []) k kn) ∙ at_k ∙ ap (λ (y : Item). Some y) (at_end items i j x jn at_j).1)))
        | inr kn ↦ (at_end items i j x jn at_j).0 ∙ sym (at_end items i k x kn at_k).0
      ]
    ]

pub longer_one : (items : List Item) (places : List ℕ) (i : Item) (at : ℕ) → (¬ Contains items i) → IsLonger items places (items ++ i ∷ []) (places ++ at ∷ [])
longer_one items places i at absent = record {
  kept = λ k h. sym (front_get items (i ∷ []) k h);
  longer = omega (arith, length-append items (i ∷ []));
  different = different_more items i absent;
  paired = λ p. omega (arith, p, length-append items (i ∷ []), length-append places (at ∷ []));
}

-- ---- one node more

turned : (branches : List Branch) (b : Branch) → reverse (branches ++ b ∷ []) ≡ b ∷ reverse branches
turned branches b = reverse-append branches (b ∷ [])

pub last_shape : (items : List Item) (branches : List Branch) (b : Branch)
    → shape_in items (branches ++ b ∷ []) (length branches) ≡ branch_shape items (shape_in items branches) b
unfolding shape_in
last_shape items branches b =
    ap (λ (l : List Branch). shapes_from items l (length branches)) (turned branches b)
    ∙ ap (shapes_from items (b ∷ reverse branches)) (sym (length-reverse branches))
    ∙ at_top items b (reverse branches)

pub earlier_shape : (items : List Item) (branches : List Branch) (b : Branch) (n : ℕ) → n < length branches
    → shape_in items (branches ++ b ∷ []) n ≡ shape_in items branches n
unfolding shape_in
earlier_shape items branches b n h =
    ap (λ (l : List Branch). shapes_from items l n) (turned branches b) ∙ at_older items b (reverse branches) n (omega (arith, h, length-reverse branches))

pub sound_more : (count : ℕ) (branches : List Branch) (b : Branch) → IsEarlier count (length branches) b → AreSound count branches
    → AreSound count (branches ++ b ∷ [])
unfolding AreSound
sound_more count branches b is sound =
    subst (AreEarlier count) (sym (turned branches b)) (subst (λ (n : ℕ). IsEarlier count n b) (sym (length-reverse branches)) is, sound)
