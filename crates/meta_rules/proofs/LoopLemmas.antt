-- Loops that make a list of what stands for each member.
use Rattle.std.proofs.Common.{◌≡◌, ◌∙◌, ℕ, ◌+◌, ◌<◌, Bool, true, false, cond, List, [], ◌∷◌, ◌++◌, length, get_or, take, map, Option, Some, None, refl, sym, ap}
use Rattle.std.proofs.lemmas.List.{map-append, map_more}
use Rattle.dh_metadata.specs.declared.records.ApprovalLevel.{ApprovalLevel}
use Rattle.dh_metadata.specs.declared.records.Workflow.{Workflow}
use Rattle.dh_base.specs.Memory.{IsFirst}
use Rattle.meta_rules.specs.declared.fault.RuleFault.{RuleFault}
use Rattle.meta_rules.specs.Levels.{are_uneven, level_broken, levels_broken}

-- one more, seen as what it is
pub viewed-more : {X Y Z : Type 0} (view : Z → Y) (f : X → Y) (xs : List X) (held after : List Z) (i : ℕ) (x : X) (z : Z) → i < length xs
    → x ≡ get_or xs i x → map view held ≡ map f (take i xs) → after ≡ held ++ z ∷ [] → view z ≡ f x → map view after ≡ map f (take (i + 1) xs)
viewed-more view f xs held after i x z within at before is made =
    ap (map view) is
    ∙ map-append view held (z ∷ [])
    ∙ ap (λ l. l ++ view z ∷ []) before
    ∙ ap (λ y. map f (take i xs) ++ y ∷ []) (made ∙ ap f at)
    ∙ sym (map_more f xs i x within)

-- the same, where a member is a number
pub viewed-more-at : {X Y Z : Type 0} (view : Z → Y) (f : X → Y) (xs : List X) (held after : List Z) (i : ℕ) (d : X) (z : Z) → i < length xs
    → map view held ≡ map f (take i xs) → after ≡ held ++ z ∷ [] → view z ≡ f (get_or xs i d) → map view after ≡ map f (take (i + 1) xs)
viewed-more-at view f xs held after i d z within before is made =
    ap (map view) is
    ∙ map-append view held (z ∷ [])
    ∙ ap (λ l. l ++ view z ∷ []) before
    ∙ ap (λ y. map f (take i xs) ++ y ∷ []) made
    ∙ sym (map_more f xs i d within)

pub mapped-more : {X Y : Type 0} (f : X → Y) (xs : List X) (found more : List Y) (i : ℕ) (x : X) (y : Y) → i < length xs → x ≡ get_or xs i x
    → found ≡ map f (take i xs) → more ≡ found ++ y ∷ [] → y ≡ f x → more ≡ map f (take (i + 1) xs)
mapped-more f xs found more i x y within at before is made =
    is
    ∙ ap (λ v. found ++ v ∷ []) (made ∙ ap f at)
    ∙ ap (λ all. all ++ f (get_or xs i x) ∷ []) before
    ∙ sym (map_more f xs i x within)

spared : {A : Type 0} (b : Bool) (x : A) (rest : Option A) → cond b (Some x) None ≡ None → cond b (Some x) rest ≡ rest
spared true x rest is = absurd (cc)
spared false x rest is = refl

-- a workflow whose levels fit
pub fitting : (levels : List ApprovalLevel) (workflow : Workflow) (more : List Workflow) → level_broken levels workflow ≡ None
    → levels_broken levels (workflow ∷ more) ≡ levels_broken levels more
fitting levels workflow more fits = spared (are_uneven levels workflow.data_approval_levels) _ (levels_broken levels more) fits

-- a workflow whose levels don't fit
pub unfit : (levels : List ApprovalLevel) (workflow : Workflow) (more : List Workflow) (cause : Option RuleFault)
    → IsFirst (level_broken levels workflow) cause → IsFirst (levels_broken levels (workflow ∷ more)) cause
unfit levels workflow more None met = tt
unfit levels workflow more (Some cause) met = still (are_uneven levels workflow.data_approval_levels) _ (levels_broken levels more) cause met
  where
    still : (b : Bool) (x : RuleFault) (rest : Option RuleFault) (cause : RuleFault) → cond b (Some x) None ≡ Some cause → cond b (Some x) rest ≡ Some cause
    still true x rest cause is = is
    still false x rest cause is = absurd (cc)
