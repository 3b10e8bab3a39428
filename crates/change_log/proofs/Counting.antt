-- Reading things of one kind one after the other, as a loop does.
use Rattle.std.proofs.Common.{◌≡◌, ℕ, suc, ◌-◌, ◌+◌, ◌≤◌, ◌<◌, List, [], ◌∷◌, ◌++◌, Option, None, Some, Err, refl, sym, ap, ◌∙◌, append_assoc, arith}
use Rattle.std.specs.Prelude.{option_map}
use Rattle.std.proofs.lemmas.List.{append-nil}
use Rattle.change_log.specs.declared.fault.ReadFault.{ReadFault}
use Rattle.change_log.specs.declared.fault.ReadFault.TheVariants as fault
use Rattle.change_log.specs.ReadWords.{Reads, times_at}
use Rattle.change_log.specs.Given.{Gives}

-- what was read before, and what is still read
abbrev pub with_front : {A : Type 0} → List A → Option (List A × List ℕ) → Option (List A × List ℕ)
with_front front read = option_map (λ x. (front ++ x.0, x.1)) read

regroup : {A : Type 0} (front : List A) (x : A) (read : Option (List A × List ℕ))
    → with_front front (option_map (λ y. (x ∷ y.0, y.1)) read) ≡ with_front (front ++ x ∷ []) read
regroup front x (Some y) = ap (λ xs. Some (xs, y.1)) (sym (append_assoc front (x ∷ []) y.0))
regroup front x None = refl

pub goes_on : {A : Type 0} (each : Reads A) (front : List A) (count i : ℕ) (bytes : List ℕ) (x : A) (after : List ℕ) (total : Option (List A × List ℕ))
    → i < count → each bytes ≡ Some (x, after)
    → with_front front (times_at (count - i) each bytes) ≡ total → with_front (front ++ x ∷ []) (times_at (count - (i + 1)) each after) ≡ total
unfolding times_at
goes_on each front count i bytes x after total lt h so_far =
    let k : count - i ≡ suc (count - (i + 1)) = omega arith in
    let one : with_front front (times_at (count - i) each bytes) ≡ with_front (front ++ x ∷ []) (times_at (count - (i + 1)) each after) =
    rw (k, h) (regroup front x (times_at (count - (i + 1)) each after)) in
    sym one ∙ so_far

-- nothing is read where one of them isn't
pub ends : {A : Type 0} (each : Reads A) (front : List A) (count i : ℕ) (bytes : List ℕ) (total : Option (List A × List ℕ)) → i < count → each bytes ≡ None
    → with_front front (times_at (count - i) each bytes) ≡ total → total ≡ None
unfolding times_at
ends each front count i bytes total lt h so_far =
    let k : count - i ≡ suc (count - (i + 1)) = omega arith in
    let one : with_front front (times_at (count - i) each bytes) ≡ None = rw (k, h) refl in
    sym so_far ∙ one

pub is_done : {A : Type 0} (each : Reads A) (front : List A) (count i : ℕ) (bytes : List ℕ) (total : Option (List A × List ℕ)) → count ≤ i
    → with_front front (times_at (count - i) each bytes) ≡ total → total ≡ Some (front, bytes)
unfolding times_at
is_done each front count i bytes total le so_far =
    let k : count - i ≡ 0 = omega arith in
    let one : with_front front (times_at (count - i) each bytes) ≡ Some (front, bytes) = rw k (ap (λ xs. Some (xs, bytes)) (append-nil front)) in
    sym so_far ∙ one

-- the same of what a reader answers
pub fails : {A : Type 0} (each : Reads A) (front : List A) (count i : ℕ) (bytes after : List ℕ) (total : Option (List A × List ℕ)) (e : ReadFault) → i < count
    → Gives (each bytes) (Err e) after
    → with_front front (times_at (count - i) each bytes) ≡ total → Gives total (Err e) after
fails each front count i bytes after total fault.Bad lt h so_far = ends each front count i bytes total lt h so_far
fails each front count i bytes after total fault.Memory lt h so_far = tt
