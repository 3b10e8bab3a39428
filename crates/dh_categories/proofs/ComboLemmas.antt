-- Counts of a combination's option combinations, and the first that is bad.
use Rattle.std.proofs.Common.{◌≡◌, ℕ, ◌+◌, ◌<◌, ◌≤◌, Bool, true, false, cond, ◌==◌, ◌&&◌, List, [], ◌∷◌, map, length, get_or, take, set, Option, Some, None}
use Rattle.std.proofs.Common.{refl, sym, ap, ◌∙◌, subst, inl, inr, arith, get_or-set_same, get_or-set_other}
use Rattle.std.specs.Prelude.{count_by, position, nat_lt}
use Rattle.std.specs.List.{list_all, position_or_len}
use Rattle.std.proofs.lemmas.Bool.{cases_eq, cases_Bool, eq-eqb, ne_eqb, lt-ltb, le-ltb}
use Rattle.std.proofs.lemmas.List.{length-set, length-map, take_all}
use Rattle.std.proofs.lemmas.List.Sums.{count_by_more_yes, count_by_more_no, position_or_len_is}
use Rattle.std.specs.Prelude.{Vec}
use Rattle.std.specs.declared.alloc.Global.{Global}
use Rattle.dh_categories.specs.Combos.{has_one_of, is_one_of_each, is_of, only_of}
use Rattle.dh_categories.specs.declared.single.Single.{Single}
use Rattle.dh_categories.specs.declared.single.Single.TheVariants.{Absent, At, Several}
use Rattle.dh_categories.specs.Single.{Tells, AreSingles, CombosBelow, one_more}

pub list_all-map : {X Y : Type 0} (test : Y → Bool) (f : X → Y) (xs : List X) → list_all test (map f xs) ≡ list_all (λ x. test (f x)) xs
list_all-map test f [] = refl
list_all-map test f (x ∷ xs) = ap (λ b. test (f x) && b) (list_all-map test f xs)

-- a search by place
pub position_found : {X : Type 0} (test : X → Bool) (xs : List X) (i : ℕ) (d : X) → i < length xs → ((k : ℕ) → k < i → test (get_or xs k d) ≡ false)
    → test (get_or xs i d) ≡ true → position test xs ≡ Some i
position_found test xs i d h before here =
    let at : position_or_len test xs ≡ i = position_or_len_is test xs i d (omega arith) before (λ _. here) in
    ap (λ (v : ℕ). cond (nat_lt v (length xs)) (Some v) None) at ∙ ap (λ b. cond b (Some i) None) (lt-ltb i (length xs) h)

pub position_none : {X : Type 0} (test : X → Bool) (xs : List X) (d : X) → ((k : ℕ) → k < length xs → test (get_or xs k d) ≡ false) → position test xs ≡ None
position_none test xs d before =
    let at : position_or_len test xs ≡ length xs = position_or_len_is test xs (length xs) d (omega arith) before (λ l. absurd (omega arith)) in
    ap (λ (v : ℕ). cond (nat_lt v (length xs)) (Some v) None) at ∙ ap (λ b. cond b (Some (length xs)) None) (le-ltb (length xs) (length xs) (omega arith))

-- one option combination more, of the combination
Tells-yes : (ocs : List (ℕ × List ℕ)) (i combo : ℕ) (single : Single) → i < length ocs → is_of combo (get_or ocs i (0, [])) ≡ true → Tells ocs i combo single
    → Tells ocs (i + 1) combo (one_more single i)
Tells-yes ocs i combo Absent h hit tells =
    (count_by_more_yes (is_of combo) ocs i (0, []) h hit ∙ ap (λ v. v + 1) tells.0, omega arith, hit, tells.1)
Tells-yes ocs i combo (At place) h hit tells =
    (let e = count_by_more_yes (is_of combo) ocs i (0, []) h hit in let f = tells.0 in omega arith)
Tells-yes ocs i combo Several h hit tells =
    (let e = count_by_more_yes (is_of combo) ocs i (0, []) h hit in omega arith)

-- and of another one
Tells-no : (ocs : List (ℕ × List ℕ)) (i combo : ℕ) (single : Single) → i < length ocs → is_of combo (get_or ocs i (0, [])) ≡ false → Tells ocs i combo single
    → Tells ocs (i + 1) combo single
Tells-no ocs i combo Absent h other tells = (
  count_by_more_no (is_of combo) ocs i (0, []) h other ∙ tells.0,
  λ k l. elim (cases_eq k i) [
    | inl last ↦ subst (λ (v : ℕ). is_of combo (get_or ocs v (0, [])) ≡ false) (sym last) other
    | inr before ↦ tells.1 k (omega arith)
  ],
)
Tells-no ocs i combo (At place) h other tells =
    (count_by_more_no (is_of combo) ocs i (0, []) h other ∙ tells.0, (let l = tells.1 in omega arith), tells.2, tells.3)
Tells-no ocs i combo Several h other tells =
    (let e = count_by_more_no (is_of combo) ocs i (0, []) h other in omega arith)

pub AreSingles-more : (ocs : List (ℕ × List ℕ)) (count i combo : ℕ) (singles : List Single) → i < length ocs → combo ≡ (get_or ocs i (0, [])).0 → combo < count
    → AreSingles ocs count i singles → AreSingles ocs count (i + 1) (set singles combo (one_more (get_or singles combo Absent) i))
AreSingles-more ocs count i combo singles h at inside so_far = record {
  same_length = length-set singles combo (one_more (get_or singles combo Absent) i) ∙ so_far.same_length;
  each = λ c l.
      elim (cases_eq c combo) [
        | inl same ↦
            let hit : is_of combo (get_or ocs i (0, [])) ≡ true = eq-eqb (get_or ocs i (0, [])).0 combo (sym at) in
            let now : Tells ocs (i + 1) combo (one_more (get_or singles combo Absent) i) =
            Tells-yes ocs i combo (get_or singles combo Absent) h hit (so_far.each combo inside) in
            let read : get_or (set singles combo (one_more (get_or singles combo Absent) i)) combo Absent ≡ one_more (get_or singles combo Absent) i =
            get_or-set_same singles combo (one_more (get_or singles combo Absent) i) Absent (let e = so_far.same_length in omega arith) in
            subst (λ (v : ℕ). Tells ocs (i + 1) v (get_or (set singles combo (one_more (get_or singles combo Absent) i)) v Absent)) (sym same)
            (subst (λ (s : Single). Tells ocs (i + 1) combo s) (sym read) now)
        | inr other ↦
            let no_match : is_of c (get_or ocs i (0, [])) ≡ false = ne_eqb (get_or ocs i (0, [])).0 c (λ e. other (sym (at ∙ e))) in
            subst (λ (s : Single). Tells ocs (i + 1) c s) (sym (get_or-set_other singles combo c (one_more (get_or singles combo Absent) i) Absent other))
            (Tells-no ocs i c (get_or singles c Absent) h no_match (so_far.each c l))
      ];
}

abbrev pub single_of : Single → Option ℕ
single_of Absent = None
single_of (At place) = Some place
single_of Several = None

only_from_tells : (ocs : List (ℕ × List ℕ)) (combo : ℕ) (single : Single) → Tells ocs (length ocs) combo single → only_of ocs combo ≡ single_of single
only_from_tells ocs combo Absent tells =
    let count : count_by (is_of combo) ocs ≡ 0 = ap (count_by (is_of combo)) (sym (take_all (length ocs) ocs (omega arith))) ∙ tells.0 in
    ap (λ (v : ℕ). cond (v == 1) (position (is_of combo) ocs) None) count
only_from_tells ocs combo (At place) tells =
    let count : count_by (is_of combo) ocs ≡ 1 = ap (count_by (is_of combo)) (sym (take_all (length ocs) ocs (omega arith))) ∙ tells.0 in
    ap (λ (v : ℕ). cond (v == 1) (position (is_of combo) ocs) None) count ∙ position_found (is_of combo) ocs place (0, []) tells.1 tells.3 tells.2
only_from_tells ocs combo Several tells =
    let count : count_by (is_of combo) ocs ≡ count_by (is_of combo) (take (length ocs) ocs) =
    ap (count_by (is_of combo)) (sym (take_all (length ocs) ocs (omega arith))) in
    let many : (count_by (is_of combo) ocs == 1) ≡ false = ne_eqb (count_by (is_of combo) ocs) 1 (λ e. omega arith) in
    ap (λ b. cond b (position (is_of combo) ocs) None) many

pub only_at : (ocs : List (ℕ × List ℕ)) (count combo : ℕ) (singles : List Single) (single : Single) → AreSingles ocs count (length ocs) singles → combo < count
    → single ≡ get_or singles combo Absent → only_of ocs combo ≡ single_of single
only_at ocs count combo singles single are h read =
    only_from_tells ocs combo single (subst (λ (s : Single). Tells ocs (length ocs) combo s) (sym read) (are.each combo h))

-- a combination that isn't there has no option combination
pub only_past : (ocs : List (ℕ × List ℕ)) (count combo : ℕ) → CombosBelow count ocs → count ≤ combo → only_of ocs combo ≡ None
only_past ocs count combo below past =
    elim (cases_Bool (count_by (is_of combo) ocs == 1)) [
      | inl one ↦
          ap (λ b. cond b (position (is_of combo) ocs) None) one
          ∙ position_none (is_of combo) ocs (0, []) (λ k h. ne_eqb (get_or ocs k (0, [])).0 combo (λ e. (let l = below.below k h in omega arith)))
      | inr other ↦ ap (λ b. cond b (position (is_of combo) ocs) None) other
    ]

-- a combination's lists, as they are shown, and as they are kept
pub each_of_shown : (categories : List (Vec ℕ Global)) (options : List ℕ) → length options ≡ length categories
    → is_one_of_each (map (λ category. category.items) categories) options ≡ list_all (λ category. has_one_of options category.items) categories
each_of_shown categories options same =
    ap (λ b. b && list_all (has_one_of options) (map (λ (category : Vec ℕ Global). category.items) categories))
    (eq-eqb (length options) (length (map (λ (category : Vec ℕ Global). category.items) categories)) (same
    ∙ sym (length-map categories (λ (category : Vec ℕ Global). category.items))))
    ∙ list_all-map (has_one_of options) (λ (category : Vec ℕ Global). category.items) categories
