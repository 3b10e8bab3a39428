-- What the maps beside a verdict say of its writes.
use Rattle.std.proofs.Common.{◌≡◌, ◌∙◌, ℕ, ℤ, Bool, true, false, cond, List, [], ◌∷◌, ◌++◌, Option, Some, None, refl, sym, ap, map}
use Rattle.std.specs.Option.{unwrap_or, is_some, option_or, option_map}
use Rattle.std.specs.HashMap.{HashMap, get}
use Rattle.dh_changes.specs.Keys.{same_value_key, same_reg_key}
use Rattle.dh_changes.specs.declared.change.Write.{Write}
use Rattle.dh_changes.specs.declared.keys.ValueKey.{ValueKey}
use Rattle.dh_changes.specs.declared.keys.RegKey.{RegKey}
use Rattle.dh_changes.specs.declared.said.Said.{Said}
use Rattle.dh_changes.specs.declared.said.Said.TheVariants as said
use Rattle.dh_changes.specs.Said.{said_by, last_said, of_value, of_registration}
use Rattle.value_import.specs.Said.{AreSaid, IsNoted}

-- what is put at a key is what is said there
put : {V : Type 0} (same : Bool) (value : Option V) (before : Option Bool)
    → cond same (Some (is_some value)) before ≡ option_or (option_map is_some (cond same (Some value) None)) before
put true value before = refl
put false value before = refl

-- a write of a value is noted where its key is updated
pub noted-value : {S T : Type 0} (w : Write) (key : ValueKey) (value : Option (List ℕ)) (old new : HashMap ValueKey Bool S) (regs : HashMap RegKey Bool T)
    → said_by w ≡ said.Value key value
    → ((q : ValueKey) → get same_value_key new q ≡ cond (same_value_key key q) (Some (is_some value)) (get same_value_key old q))
    → IsNoted w (old, regs) (new, regs)
noted-value w key value old new regs is update = record {
  values = λ q. update q ∙ put (same_value_key key q) value (get same_value_key old q)
      ∙ ap (λ s. option_or (option_map is_some (of_value q s)) (get same_value_key old q)) (sym is);
  registrations = λ q. ap (λ s. option_or (option_map is_some (of_registration q s)) (get same_reg_key regs q)) (sym is);
}

-- the same of a registration
pub noted-registration : {S T : Type 0} (w : Write) (key : RegKey) (day : Option ℤ) (values : HashMap ValueKey Bool S) (old new : HashMap RegKey Bool T)
    → said_by w ≡ said.Registration key day
    → ((q : RegKey) → get same_reg_key new q ≡ cond (same_reg_key key q) (Some (is_some day)) (get same_reg_key old q))
    → IsNoted w (values, old) (values, new)
noted-registration w key day values old new is update = record {
  values = λ q. ap (λ s. option_or (option_map is_some (of_value q s)) (get same_value_key values q)) (sym is);
  registrations = λ q. update q ∙ put (same_reg_key key q) day (get same_reg_key old q)
      ∙ ap (λ s. option_or (option_map is_some (of_registration q s)) (get same_reg_key old q)) (sym is);
}

-- what is said last with one write more
last-end : {A : Type 0} (of : Said → Option A) (writes : List Write) (w : Write)
    → last_said of (map said_by (writes ++ w ∷ [])) ≡ option_or (of (said_by w)) (last_said of (map said_by writes))
last-end of [] w = elim (of (said_by w)) as (λ o. option_or None o ≡ option_or o None) [ Some a ↦ refl | None ↦ refl ]
last-end of (x ∷ writes) w =
    ap (λ o. option_or o (of (said_by x))) (last-end of writes w)
    ∙ elim (of (said_by w)) as (λ o. option_or (option_or o (last_said of (map said_by writes))) (of (said_by x))
    ≡ option_or o (option_or (last_said of (map said_by writes)) (of (said_by x))))
    [ Some a ↦ refl | None ↦ refl ]

either-some : {V : Type 0} (a b : Option (Option V)) → option_or (option_map is_some a) (option_map is_some b) ≡ option_map is_some (option_or a b)
either-some (Some v) b = refl
either-some None b = refl

more : {V : Type 0} (of : Said → Option (Option V)) (writes : List Write) (w : Write) (before after : Option Bool)
    → after ≡ option_or (option_map is_some (of (said_by w))) before → before ≡ option_map is_some (last_said of (map said_by writes))
    → after ≡ option_map is_some (last_said of (map said_by (writes ++ w ∷ [])))
more of writes w before after noted was =
    noted ∙ ap (λ o. option_or (option_map is_some (of (said_by w))) o) was ∙ either-some (of (said_by w)) (last_said of (map said_by writes))
    ∙ ap (option_map is_some) (sym (last-end of writes w))

-- one write more
pub said-more : {S T : Type 0} (writes longer : List Write) (w : Write) (values new_values : HashMap ValueKey Bool S) (regs new_regs : HashMap RegKey Bool T)
    → AreSaid values regs writes → IsNoted w (values, regs) (new_values, new_regs) → longer ≡ writes ++ w ∷ [] → AreSaid new_values new_regs longer
said-more writes longer w values new_values regs new_regs was noted is = record {
  values = λ q. more (of_value q) writes w (get same_value_key values q) (get same_value_key new_values q) (noted.values q) (was.values q)
      ∙ ap (λ ws. option_map is_some (last_said (of_value q) (map said_by ws))) (sym is);
  registrations = λ q. more (of_registration q) writes w (get same_reg_key regs q) (get same_reg_key new_regs q) (noted.registrations q) (was.registrations q)
      ∙ ap (λ ws. option_map is_some (last_said (of_registration q) (map said_by ws))) (sym is);
}

-- what is said goes before what the log says
pub held-here : {V : Type 0} (o : Option (Option V)) (log : Option V) (held : Bool) → Some held ≡ option_map is_some o → held ≡ is_some (unwrap_or o log)
held-here (Some v) log held is = cc
held-here None log held is = cc

pub held-else : {V : Type 0} (o : Option (Option V)) (log : Option V) → None ≡ option_map (is_some {T = V}) o → is_some log ≡ is_some (unwrap_or o log)
held-else (Some v) log is = cc
held-else None log is = refl
