-- What is kept of an element's workflows.
use Rattle.std.proofs.Common.{◌≡◌, ℕ, suc, ◌+◌, ◌<◌, Bool, true, false, not, cond, ◌==◌, ◌||◌, List, [], ◌∷◌, ◌++◌, map, length, get_or, take, set}
use Rattle.std.proofs.Common.{Some, None, refl, sym, ap, ◌∙◌, subst, inl, inr, arith, get_or-set_same, get_or-set_other, append_assoc}
use Rattle.std.specs.Prelude.{slice_get}
use Rattle.std.specs.List.{list_any}
use Rattle.std.proofs.lemmas.Bool.{cases_eq, eq-eqb, ne_eqb}
use Rattle.std.proofs.lemmas.List.{length-set, take_more, get_or-map}
use Rattle.std.proofs.lemmas.List.Folds.{list_any_more}
use Rattle.org_tree.specs.Count.{first_below}
use Rattle.org_tree.proofs.CountLemmas.{first_below-agree, first_below_tells}
use Rattle.dh_metadata.specs.declared.records.DataSet.{DataSet}
use Rattle.meta_rules.specs.declared.workflows.Seen.{Seen}
use Rattle.meta_rules.specs.declared.workflows.Seen.TheVariants.{Nothing, One, Several}
use Rattle.dh_metadata.specs.Workflows.{workflow_by, workflows_by, AreWorkflows}
use Rattle.meta_rules.specs.Workflows.{have_several, is_torn}
use Rattle.meta_rules.specs.Seen.{met, all_met, one_seen, is_several, seen_at, several_at, TakesEntries, TakesSet, HaveSeen}

-- to meet a workflow once more changes nothing
met-again : (seen : Seen) (w : ℕ) → met (met seen w) w ≡ met seen w
met-again Nothing w = ap (λ b. cond b (One w) Several) (eq-eqb w w refl)
met-again (One v) w =
    elim (v == w) as (λ b. (v == w) ≡ b → met (cond b (One v) Several) w ≡ cond b (One v) Several)
    [ true ↦ λ is. ap (λ b. cond b (One v) Several) is | false ↦ λ is. refl ] refl
met-again Several w = refl

pub all_met-append : (seen : Seen) (xs ys : List ℕ) → all_met seen (xs ++ ys) ≡ all_met (all_met seen xs) ys
all_met-append seen [] ys = refl
all_met-append seen (x ∷ xs) ys = all_met-append (met seen x) xs ys

workflows_by-append : (xs ys : List DataSet) (e : ℕ) → workflows_by (xs ++ ys) e ≡ workflows_by xs e ++ workflows_by ys e
workflows_by-append [] ys e = refl
workflows_by-append (x ∷ xs) ys e =
    ap (λ l. workflow_by e x ++ l) (workflows_by-append xs ys e) ∙ sym (append_assoc (workflow_by e x) (workflows_by xs e) (workflows_by ys e))

append-none : (xs : List ℕ) → xs ++ [] ≡ xs
append-none [] = refl
append-none (x ∷ xs) = ap (λ l. x ∷ l) (append-none xs)

-- one data set more
workflows_by-more : (sets : List DataSet) (i : ℕ) (d : DataSet) (e : ℕ) → i < length sets
    → workflows_by (take (i + 1) sets) e ≡ workflows_by (take i sets) e ++ workflow_by e (get_or sets i d)
workflows_by-more sets i d e within =
    ap (λ l. workflows_by l e) (take_more sets i d within) ∙ workflows_by-append (take i sets) (get_or sets i d ∷ []) e
    ∙ ap (λ l. workflows_by (take i sets) e ++ l) (append-none (workflow_by e (get_or sets i d)))

pub HaveSeen-more : (sets : List DataSet) (i : ℕ) (d : DataSet) (count : ℕ) (old new : List Seen) → i < length sets → HaveSeen (take i sets) count old
    → TakesSet old new (get_or sets i d) → HaveSeen (take (i + 1) sets) count new
HaveSeen-more sets i d count old new within so_far takes = record {
  same_length = takes.same_length ∙ so_far.same_length;
  each = λ e below.
      let inside : e < length old = let l = so_far.same_length in omega arith in
      takes.each e inside ∙ ap (λ s. all_met s (workflow_by e (get_or sets i d))) (so_far.each e below)
      ∙ sym (all_met-append Nothing (workflows_by (take i sets) e) (workflow_by e (get_or sets i d)))
      ∙ ap (all_met Nothing) (sym (workflows_by-more sets i d e within));
}

-- one element more
pub TakesEntries-more : (old mid new : List Seen) (elements : List ℕ) (i w x : ℕ) → i < length elements → x ≡ get_or elements i x
    → x < length old → new ≡ set mid x (met (seen_at mid x) w) → TakesEntries old mid (take i elements) w → TakesEntries old new (take (i + 1) elements) w
TakesEntries-more old mid new elements i w x within at inside is so_far = record {
  same_length = ap length is ∙ length-set mid x (met (seen_at mid x) w) ∙ so_far.same_length;
  each = λ e below.
      let long : length mid ≡ length old = so_far.same_length in
      let more : list_any (λ o. o == e) (take (i + 1) elements) ≡ (list_any (λ o. o == e) (take i elements) || (x == e)) =
      list_any_more (λ o. o == e) elements i x within ∙ ap (λ y. list_any (λ o. o == e) (take i elements) || (y == e)) (sym at) in
      elim (cases_eq e x) [
        | inl same ↦
            let hit : (x == e) ≡ true = eq-eqb x e (sym same) in
            let new_here : seen_at new e ≡ met (seen_at mid e) w =
            ap (λ l. seen_at l e) is ∙ ap (λ n. seen_at (set mid x (met (seen_at mid x) w)) n) same
            ∙ get_or-set_same mid x (met (seen_at mid x) w) Nothing (omega arith) ∙ ap (λ n. met (seen_at mid n) w) (sym same) in
            new_here ∙ ap (λ s. met s w) (so_far.each e below)
            ∙ here (list_any (λ o. o == e) (take i elements)) (seen_at old e)
            ∙ sym (ap (λ b. cond b (met (seen_at old e) w) (seen_at old e)) (more ∙ ap (λ b. list_any (λ o. o == e) (take i elements) || b) hit
            ∙ or-true (list_any (λ o. o == e) (take i elements))))
        | inr other ↦
            let miss : (x == e) ≡ false = ne_eqb x e (λ q. other (sym q)) in
            ap (λ l. seen_at l e) is ∙ get_or-set_other mid x e (met (seen_at mid x) w) Nothing other
            ∙ so_far.each e below
            ∙ sym (ap (λ b. cond b (met (seen_at old e) w) (seen_at old e)) (more ∙ ap (λ b. list_any (λ o. o == e) (take i elements) || b) miss
            ∙ or-false (list_any (λ o. o == e) (take i elements))))
      ];
}
  where
    here : (b : Bool) (s : Seen) → met (cond b (met s w) s) w ≡ met s w
    here true s = met-again s w
    here false s = refl

    or-true : (b : Bool) → (b || true) ≡ true
    or-true true = refl
    or-true false = refl

    or-false : (b : Bool) → (b || false) ≡ b
    or-false true = refl
    or-false false = refl

-- an element out of range
pub TakesEntries-past : (old mid : List Seen) (elements : List ℕ) (i w x : ℕ) → i < length elements → x ≡ get_or elements i x
    → ¬ (x < length old) → TakesEntries old mid (take i elements) w → TakesEntries old mid (take (i + 1) elements) w
TakesEntries-past old mid elements i w x within at outside so_far = record {
  same_length = so_far.same_length;
  each = λ e below.
      let miss : (x == e) ≡ false = ne_eqb x e (λ q. outside (subst (λ (n : ℕ). n < length old) (sym q) below)) in
      so_far.each e below
      ∙ sym (ap (λ b. cond b (met (seen_at old e) w) (seen_at old e))
      (list_any_more (λ o. o == e) elements i x within ∙ ap (λ y. list_any (λ o. o == e) (take i elements) || (y == e)) (sym at)
      ∙ ap (λ b. list_any (λ o. o == e) (take i elements) || b) miss ∙ or-false (list_any (λ o. o == e) (take i elements))));
}
  where
    or-false : (b : Bool) → (b || false) ≡ b
    or-false true = refl
    or-false false = refl

all_met-several : (ws : List ℕ) → all_met Several ws ≡ Several
all_met-several [] = refl
all_met-several (w ∷ ws) = all_met-several ws

-- what stands after a first workflow
all_met-one : (first : ℕ) (ws : List ℕ) → all_met (One first) ws ≡ cond (list_any (λ o. not (o == first)) ws) Several (One first)
all_met-one first [] = refl
all_met-one first (w ∷ ws) =
    elim (cases_eq first w) [
      | inl same ↦
          ap (λ b. all_met (cond b (One first) Several) ws) (eq-eqb first w same) ∙ all_met-one first ws
          ∙ sym (ap (λ b. cond (not b || list_any (λ o. not (o == first)) ws) Several (One first)) (eq-eqb w first (sym same)))
      | inr other ↦
          ap (λ b. all_met (cond b (One first) Several) ws) (ne_eqb first w other) ∙ all_met-several ws
          ∙ sym (ap (λ b. cond (not b || list_any (λ o. not (o == first)) ws) Several (One first)) (ne_eqb w first (λ q. other (sym q))))
    ]

several-told : (ws : List ℕ) → is_several (all_met Nothing ws) ≡ have_several ws
several-told [] = refl
several-told (w ∷ ws) = ap is_several (all_met-one w ws) ∙ which (list_any (λ o. not (o == w)) ws)
  where
    which : (b : Bool) → is_several (cond b Several (One w)) ≡ b
    which true = refl
    which false = refl

one-told : (ws : List ℕ) → have_several ws ≡ false → one_seen (all_met Nothing ws) ≡ slice_get ws 0
one-told [] single = refl
one-told (w ∷ ws) single = ap one_seen (all_met-one w ws ∙ ap (λ b. cond b Several (One w)) single)

-- the search over what was seen is the search over the elements
pub torn-seen : (sets : List DataSet) (count : ℕ) (seen : List Seen) → HaveSeen sets count seen
    → first_below (several_at seen) (length seen) ≡ first_below (is_torn sets) count
torn-seen sets count seen have =
    ap (first_below (several_at seen)) have.same_length
    ∙ first_below-agree (several_at seen) (is_torn sets) count (λ e below. ap is_several (have.each e below) ∙ several-told (workflows_by sets e))

none-below : (p : ℕ → Bool) (n e : ℕ) → first_below p n ≡ None → e < n → p e ≡ false
none-below p n e none below =
    elim (first_below_tells p n) [
      | inl found ↦ absurd (let both : Some found.0 ≡ None = sym found.1 ∙ none in cc)
      | inr never ↦ never.1 e below
    ]

mapped-length : (seen : List Seen) → length (map one_seen seen) ≡ length seen
mapped-length [] = refl
mapped-length (s ∷ seen) = ap suc (mapped-length seen)

-- where no element is torn, what was seen gives each element's workflow
pub AreWorkflows-seen : (sets : List DataSet) (count : ℕ) (seen : List Seen) → HaveSeen sets count seen → first_below (is_torn sets) count ≡ None
    → AreWorkflows sets count (map one_seen seen)
AreWorkflows-seen sets count seen have none = record {
  same_length = mapped-length seen ∙ have.same_length;
  each = λ e below.
      get_or-map one_seen seen e Nothing None (let l = have.same_length in omega arith)
      ∙ ap one_seen (have.each e below)
      ∙ one-told (workflows_by sets e) (none-below (is_torn sets) count e none below);
}
