-- Approvals that aren't asked for a value leave its position as it was.
use Rattle.std.proofs.Common.{◌≡◌, ◌∙◌, ◌⊎◌, ℕ, ◌+◌, Bool, true, false, cond, List, [], ◌∷◌, inl, inr, Option, Some, None, map, refl, sym, ap}
use Rattle.std.specs.Prelude.{slice_get}
use Rattle.std.specs.List.{position_from}
use Rattle.std.specs.Option.{is_some, option_and_then, option_map_or, option_or, unwrap_or}
use Rattle.std.proofs.lemmas.Bool.{false≢true}
use Rattle.dh_changes.specs.declared.change.Write.{Write}
use Rattle.dh_changes.specs.declared.change.Write.TheVariants as write
use Rattle.dh_changes.specs.declared.keys.ApprovalKey.{ApprovalKey}
use Rattle.dh_changes.specs.declared.keys.ValueKey.{ValueKey}
use Rattle.dh_changes.specs.Keys.{same_approval_key}
use Rattle.dh_changes.proofs.KeyLemmas.{same_approval_key-Decides}
use Rattle.dh_periods.specs.declared.name.PeriodName.{PeriodName}
use Rattle.dh_periods.specs.Days.{first_day, last_day}
use Rattle.dh_periods.specs.Places.{containing_of}
use Rattle.org_tree.specs.Units.{ancestor_of}
use Rattle.dh_metadata.specs.declared.held.Records.{Records}
use Rattle.dh_metadata.specs.declared.kind.Kind.TheVariants.{DataElement, OrganisationUnit}
use Rattle.dh_metadata.specs.declared.records.Unit.{Unit as OrgUnit}
use Rattle.dh_metadata.specs.declared.records.Workflow.{Workflow}
use Rattle.dh_metadata.specs.Workflows.{workflow_of}
use Rattle.dh_metadata.specs.Approval.{levels_at, unit_rows}
use Rattle.dh_metadata.specs.Objects.{find_of}
use Rattle.dh_changes.specs.declared.said.ApprovalState.TheVariants as state
use Rattle.dh_changes.specs.Said.{said_by, last_said, of_approval}
use Rattle.dh_changes.specs.Facts.{Facts, facts_in}
use Rattle.dh_records.specs.declared.approved.Scope.{Scope}
use Rattle.dh_records.specs.Access.{tree}
use Rattle.dh_records.specs.Approved.{approved_at, approved_by, approved_by_element, approved_in, approved_of, counts, is_approved, is_approved_as}
use Rattle.dh_records.specs.Approved.{is_approved_at, key_of, least_position, scope_of}
use Rattle.table_build.proofs.MemberLemmas.{IsIn}
use Rattle.latest_build.specs.Touches.{approvals_named, approved_alone, is_decided}

-- ---- a log that approves some keys and no others

-- all that it says of a key is that it is approved
only-approved : (asked : ApprovalKey) (keys : List ApprovalKey)
    → (last_said (of_approval asked) (map said_by (map write.Approve keys)) ≡ None)
    ⊎ (last_said (of_approval asked) (map said_by (map write.Approve keys)) ≡ Some state.Approved)
only-approved asked [] = inl refl
only-approved asked (key ∷ keys) = by_rest (only-approved asked keys)
  where
    here : (b : Bool) → (cond b (Some state.Approved) None ≡ None) ⊎ (cond b (Some state.Approved) None ≡ Some state.Approved)
    here true = inr refl
    here false = inl refl

    by_rest : (last_said (of_approval asked) (map said_by (map write.Approve keys)) ≡ None)
        ⊎ (last_said (of_approval asked) (map said_by (map write.Approve keys)) ≡ Some state.Approved)
        → (option_or (last_said (of_approval asked) (map said_by (map write.Approve keys))) (of_approval asked (said_by (write.Approve key))) ≡ None)
        ⊎ (option_or (last_said (of_approval asked) (map said_by (map write.Approve keys))) (of_approval asked (said_by (write.Approve key)))
        ≡ Some state.Approved)
    by_rest (inr e) = inr (ap (λ o. option_or o (of_approval asked (said_by (write.Approve key)))) e)
    by_rest (inl e) =
        elim (here (same_approval_key key asked)) [
          | inl none ↦ inl (ap (λ o. option_or o (of_approval asked (said_by (write.Approve key)))) e ∙ none)
          | inr some ↦ inr (ap (λ o. option_or o (of_approval asked (said_by (write.Approve key)))) e ∙ some)
        ]

said-approved : (asked : ApprovalKey) (keys : List ApprovalKey) → IsIn asked keys
    → last_said (of_approval asked) (map said_by (map write.Approve keys)) ≡ Some state.Approved
said-approved asked [] none = absurd none
said-approved asked (key ∷ keys) (inr later) =
    ap (λ o. option_or o (of_approval asked (said_by (write.Approve key)))) (said-approved asked keys later)
said-approved asked (key ∷ keys) (inl e) =
    let here : of_approval asked (said_by (write.Approve key)) ≡ Some state.Approved
    = ap (λ b. cond b (Some state.Approved) None) ((same_approval_key-Decides key asked).1 (sym e)) in
    elim (only-approved asked keys) [
      | inl none ↦ ap (λ o. option_or o (of_approval asked (said_by (write.Approve key)))) none ∙ here
      | inr some ↦ ap (λ o. option_or o (of_approval asked (said_by (write.Approve key)))) some
    ]

alone-counts : (asked : ApprovalKey) (keys : List ApprovalKey) → IsIn asked keys → counts ((approved_alone keys).approval asked) ≡ true
unfolding facts_in
alone-counts asked keys there = ap (λ o. counts (unwrap_or o state.None)) (said-approved asked keys there)

-- ---- positions by facts that agree on the approvals that a third log doesn't have

first-same : {K : Type 0} (d t u : K → Bool) → ((x : K) → d x ≡ false → t x ≡ u x) → (at : ℕ) (xs : List K)
    → is_some (position_from d at xs) ≡ false → position_from t at xs ≡ position_from u at xs
first-same d t u same at [] e = refl
first-same d t u same at (x ∷ xs) e = by_first (d x) refl e (λ rest. first-same d t u same (at + 1) xs rest)
  where
    by_first : (b : Bool) → d x ≡ b → is_some (cond b (Some at) (position_from d (at + 1) xs)) ≡ false
        → (is_some (position_from d (at + 1) xs) ≡ false → position_from t (at + 1) xs ≡ position_from u (at + 1) xs)
        → cond (t x) (Some at) (position_from t (at + 1) xs) ≡ cond (u x) (Some at) (position_from u (at + 1) xs)
    by_first true is e rest = absurd (false≢true (sym e))
    by_first false is e rest =
        let tail = rest e in
        λ i. cond (same x is i) (Some at) (tail i)

then-same : {A B : Type 0} (d f g : A → Option B) (o : Option A) → ((a : A) → is_some (d a) ≡ false → f a ≡ g a)
    → is_some (option_and_then d o) ≡ false → option_and_then f o ≡ option_and_then g o
then-same d f g (Some a) one e = one a e
then-same d f g None one e = refl

test-same : {A : Type 0} (d f g : A → Bool) (o : Option A) → ((a : A) → d a ≡ false → f a ≡ g a)
    → option_map_or d o false ≡ false → option_map_or f o false ≡ option_map_or g o false
test-same d f g (Some a) one e = one a e
test-same d f g None one e = refl

module _ (r : Records) (d f g : Facts) (same : (key : ApprovalKey) → counts (d.approval key) ≡ false → f.approval key ≡ g.approval key) where
  unit-same : (scope : Scope) (unit : ℕ) → is_approved_as d r scope unit ≡ false → is_approved_as f r scope unit ≡ is_approved_as g r scope unit
  unit-same scope unit =
      test-same (λ (found : OrgUnit). is_approved d scope found.id) (λ (found : OrgUnit). is_approved f scope found.id)
      (λ (found : OrgUnit). is_approved g scope found.id) (slice_get r.organisation_units unit)
      (λ found e. ap counts (same (key_of scope found.id) e))

  level-same : (unit : ℕ) (scope : Scope) (level : ℕ) → is_approved_at d r unit scope level ≡ false
      → is_approved_at f r unit scope level ≡ is_approved_at g r unit scope level
  unfolding tree
  level-same unit scope level =
      test-same (is_approved_as d r scope) (is_approved_as f r scope) (is_approved_as g r scope) (ancestor_of (unit_rows r) unit level) (unit-same scope)

  least-same : (unit : ℕ) (scope : Scope) (levels : List ℕ) → is_some (least_position d r unit scope levels) ≡ false
      → least_position f r unit scope levels ≡ least_position g r unit scope levels
  least-same unit scope levels =
      first-same (is_approved_at d r unit scope) (is_approved_at f r unit scope) (is_approved_at g r unit scope) (level-same unit scope) 0 levels

  by-same : (number : ℕ) (workflow : Workflow) (unit : ℕ) (period : PeriodName) (attribute : List ℕ)
      → is_some (approved_by d r number workflow unit period attribute) ≡ false
      → approved_by f r number workflow unit period attribute ≡ approved_by g r number workflow unit period attribute
  by-same number workflow unit period attribute =
      then-same (λ around. least_position d r unit (scope_of workflow attribute around) (levels_at r number))
      (λ around. least_position f r unit (scope_of workflow attribute around) (levels_at r number))
      (λ around. least_position g r unit (scope_of workflow attribute around) (levels_at r number))
      (containing_of workflow.period_type (first_day period) (last_day period))
      (λ around. least-same unit (scope_of workflow attribute around) (levels_at r number))

  in-same : (number unit : ℕ) (period : PeriodName) (attribute : List ℕ) → is_some (approved_in d r number unit period attribute) ≡ false
      → approved_in f r number unit period attribute ≡ approved_in g r number unit period attribute
  unfolding approved_in
  in-same number unit period attribute =
      then-same (λ (workflow : Workflow). approved_by d r number workflow unit period attribute)
      (λ (workflow : Workflow). approved_by f r number workflow unit period attribute)
      (λ (workflow : Workflow). approved_by g r number workflow unit period attribute) (slice_get r.data_approval_workflows number)
      (λ workflow. by-same number workflow unit period attribute)

  of-same : (element unit : ℕ) (period : PeriodName) (attribute : List ℕ) → is_some (approved_of d r element unit period attribute) ≡ false
      → approved_of f r element unit period attribute ≡ approved_of g r element unit period attribute
  unfolding approved_of
  of-same element unit period attribute =
      then-same (λ number. approved_in d r number unit period attribute) (λ number. approved_in f r number unit period attribute)
      (λ number. approved_in g r number unit period attribute) (workflow_of r.data_sets element)
      (λ number. in-same number unit period attribute)

  at-same : (key : ValueKey) → is_some (approved_at d r key) ≡ false → approved_at f r key ≡ approved_at g r key
  unfolding approved_at
  at-same key =
      then-same (approved_by_element d r key) (approved_by_element f r key) (approved_by_element g r key) (find_of r DataElement key.element)
      (λ element. then-same (λ unit. approved_of d r element unit key.period key.attribute)
      (λ unit. approved_of f r element unit key.period key.attribute) (λ unit. approved_of g r element unit key.period key.attribute)
      (find_of r OrganisationUnit key.unit) (λ unit. of-same element unit key.period key.attribute))

-- where writes don't decide a value, facts that differ in no approval but those that the writes name have one position of it
pub undecided-same : (r : Records) (writes : List Write) (f g : Facts)
    → ((key : ApprovalKey) → (IsIn key (approvals_named writes) → ⊥) → f.approval key ≡ g.approval key) → (key : ValueKey)
    → is_decided r writes key ≡ false → approved_at f r key ≡ approved_at g r key
undecided-same r writes f g same =
    at-same r (approved_alone (approvals_named writes)) f g
    (λ key none. same key (λ there. false≢true (sym none ∙ alone-counts key (approvals_named writes) there)))
