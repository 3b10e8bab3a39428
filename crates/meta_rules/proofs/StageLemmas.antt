-- The first program indicator that breaks a rule; and what holds of a stage that was named just before.
use Rattle.std.proofs.Common.{◌≡◌, ◌∙◌, ℕ, suc, ◌+◌, ◌<◌, true, false, List, ◌∷◌, length, get_or, drop, Option, Some, None, is_some, refl, sym, ap, subst, arith, add-one}
use Rattle.std.proofs.Common.{drop-cons}
use Rattle.std.specs.Option.{option_or}
use Rattle.dh_metadata.specs.declared.records.Stage.{Stage}
use Rattle.dh_metadata.specs.declared.records.ProgramIndicator.{ProgramIndicator}
use Rattle.std.specs.Prelude.{Bool, cond, not, ◌||◌, ◌-◌, IfSome, nat_eq, slice_get, option_and_then}
use Rattle.std.proofs.lemmas.Bool.Decides.{nat_tests}
use Rattle.std.specs.List.{list_any}
use Rattle.std.proofs.lemmas.Option.{slice_get_read}
use Rattle.dh_metadata.specs.declared.kind.Kind.TheVariants.{ProgramStage, DataElement}
use Rattle.expr_lang.specs.declared.tree.Item.{Item}
use Rattle.expr_lang.specs.declared.tree.Item.TheVariants as item
use Rattle.meta_rules.specs.Names.{KindIds, is_there, is_missing, stage_named, stage_before, IsStageThere}
use Rattle.meta_rules.specs.Stages.{is_stage_of, IsStageOf, is_foreign, indicator_broken, stages_broken}

or_some : {T : Type 0} (o rest : Option T) → is_some o ≡ true → option_or o rest ≡ o
or_some (Some x) rest some = refl
or_some None rest some = absurd (cc)

or_none : {T : Type 0} (o rest : Option T) → is_some o ≡ false → option_or o rest ≡ rest
or_none (Some x) rest none = absurd (cc)
or_none None rest none = refl

split : (inds : List ProgramIndicator) (i : ℕ) (x : ProgramIndicator) → i < length inds → x ≡ get_or inds i x → drop i inds ≡ x ∷ drop (i + 1) inds
split inds i x within at = rw add-one (drop-cons inds i x within ∙ ap (λ y. y ∷ drop (suc i) inds) (sym at))

pub stages_broken-here : (ids : KindIds) (stages : List Stage) (inds : List ProgramIndicator) (i : ℕ) (x : ProgramIndicator) → i < length inds
    → x ≡ get_or inds i x
    → is_some (indicator_broken ids stages x) ≡ true → stages_broken ids stages (drop i inds) ≡ indicator_broken ids stages x
stages_broken-here ids stages inds i x within at some =
    ap (stages_broken ids stages) (split inds i x within at) ∙ or_some (indicator_broken ids stages x) (stages_broken ids stages (drop (i + 1) inds)) some

pub stages_broken-next : (ids : KindIds) (stages : List Stage) (inds : List ProgramIndicator) (i : ℕ) (x : ProgramIndicator) → i < length inds
    → x ≡ get_or inds i x
    → is_some (indicator_broken ids stages x) ≡ false → stages_broken ids stages (drop i inds) ≡ stages_broken ids stages (drop (i + 1) inds)
stages_broken-next ids stages inds i x within at none =
    ap (stages_broken ids stages) (split inds i x within at) ∙ or_none (indicator_broken ids stages x) (stages_broken ids stages (drop (i + 1) inds)) none

-- ---- a stage that was named just before

there_or : (a b : Bool) → not a || not b ≡ false → a ≡ true
there_or true b e = refl
there_or false b e = absurd cc

there_not : (a : Bool) → not a ≡ false → a ≡ true
there_not true e = refl
there_not false e = absurd cc

-- what holds of the stage that an item names
of_named : (P : List ℕ → Type 0) (x : Item) → ((stage element : List ℕ) → x ≡ item.StageElement stage element → P stage) → IfSome (stage_named x) P
of_named P (item.StageElement stage element) so = so stage element refl
of_named P (item.Element element combo attribute) so = tt
of_named P (item.Constant uid) so = tt
of_named P (item.Group uid) so = tt
of_named P item.Days so = tt
of_named P (item.Rate set rate) so = tt
of_named P (item.Attribute uid) so = tt
of_named P item.EventDate so = tt
of_named P item.EnrollmentDate so = tt
of_named P item.EventCount so = tt
of_named P item.EnrollmentCount so = tt
of_named P item.EntityCount so = tt

-- the item before the next place
before_next : (items : List Item) (n : ℕ) (x : Item) → n < length items → x ≡ get_or items n x → stage_before items (n + 1) ≡ stage_named x
unfolding stage_before
before_next items n x within at =
    let some : nat_eq (n + 1) 0 ≡ false = grind (arith, nat_tests) in
    let back : n + 1 - 1 ≡ n = omega arith in
    ap (λ (b : Bool). cond b None (option_and_then stage_named (slice_get items (n + 1 - 1)))) some
    ∙ ap (λ (k : ℕ). option_and_then stage_named (slice_get items k)) back
    ∙ ap (option_and_then stage_named) (slice_get_read items (length items) n x refl within at)

pub none_before : (P : List ℕ → Type 0) (items : List Item) → IfSome (stage_before items 0) P
unfolding stage_before
none_before P items = tt

pub there_so : (ids : KindIds) (known : Option (List ℕ)) (stage : List ℕ) → IsStageThere ids known → known ≡ Some stage → is_there ids ProgramStage stage ≡ true
there_so ids known stage there is = subst (λ (k : Option (List ℕ)). IsStageThere ids k) is there

pub there_next : (ids : KindIds) (items : List Item) (n : ℕ) (x : Item) → n < length items → x ≡ get_or items n x → is_missing ids x ≡ false
    → IsStageThere ids (stage_before items (n + 1))
there_next ids items n x within at off =
    subst (IsStageThere ids) (sym (before_next items n x within at))
    (of_named (λ (stage : List ℕ). is_there ids ProgramStage stage ≡ true) x
    (λ (stage element : List ℕ) (e : x ≡ item.StageElement stage element).
    there_or (is_there ids ProgramStage stage) (is_there ids DataElement element) (sym (ap (is_missing ids) e) ∙ off)))

pub own_so : (ids : KindIds) (stages : List Stage) (program : ℕ) (known : Option (List ℕ)) (stage : List ℕ) → IsStageOf ids stages program known
    → known ≡ Some stage → is_stage_of ids stages program stage ≡ true
own_so ids stages program known stage own is = subst (λ (k : Option (List ℕ)). IsStageOf ids stages program k) is own

pub own_next : (ids : KindIds) (stages : List Stage) (program : ℕ) (items : List Item) (n : ℕ) (x : Item) → n < length items → x ≡ get_or items n x
    → is_foreign ids stages program x ≡ false → IsStageOf ids stages program (stage_before items (n + 1))
own_next ids stages program items n x within at off =
    subst (IsStageOf ids stages program) (sym (before_next items n x within at))
    (of_named (λ (stage : List ℕ). is_stage_of ids stages program stage ≡ true) x
    (λ (stage element : List ℕ) (e : x ≡ item.StageElement stage element).
    there_not (is_stage_of ids stages program stage) (sym (ap (is_foreign ids stages program) e) ∙ off)))

-- ---- an item after the others

any_from : (f : Item → Bool) (items : List Item) (n : ℕ) (x : Item) → n < length items → x ≡ get_or items n x
    → list_any f (drop n items) ≡ f x || list_any f (drop (n + 1) items)
any_from f items n x within at =
    let here : drop n items ≡ x ∷ drop (n + 1) items = rw add-one (drop-cons items n x within ∙ ap (λ y. y ∷ drop (suc n) items) (sym at)) in
    ap (list_any f) here

pub any_here : (f : Item → Bool) (items : List Item) (n : ℕ) (x : Item) → n < length items → x ≡ get_or items n x → f x ≡ true
    → list_any f (drop n items) ≡ true
any_here f items n x within at is = any_from f items n x within at ∙ ap (λ (b : Bool). b || list_any f (drop (n + 1) items)) is

pub any_later : (f : Item → Bool) (items : List Item) (n : ℕ) (x : Item) → n < length items → x ≡ get_or items n x → f x ≡ false
    → list_any f (drop n items) ≡ list_any f (drop (n + 1) items)
any_later f items n x within at is = any_from f items n x within at ∙ ap (λ (b : Bool). b || list_any f (drop (n + 1) items)) is
