-- A log that grows.
use Rattle.std.proofs.Common.{◌≡◌, ◌∙◌, ◌≤◌, ◌<◌, ◌+◌, ℕ, List, [], ◌∷◌, ◌++◌, length, sym, ap, subst, refl, arith, option_map, rules}
use Rattle.std.specs.Prelude.{Option, None, Some, Result, Ok, Err, IfSome, IsErrAnd}
use Rattle.std.specs.List.{All}
use Rattle.std.proofs.lemmas.Grind.{flat_map-append}
use Rattle.std.proofs.lemmas.Bool.Decides.{nat_tests}
use Rattle.std.proofs.lemmas.List.{append-nil, length-append}
use Rattle.std.specs.Int.{w32, to_be_bytes}
use Rattle.std.proofs.lemmas.List.Elements.{All-append}
use Rattle.dh_changes.specs.declared.change.Change.{Change}
use Rattle.change_log.specs.Bytes.{change_bytes, body_bytes}
use Rattle.change_log.specs.Forms.{WriteFits}
use Rattle.change_log.specs.Held.{Keeps}
use Rattle.change_log.specs.LogBytes.{log_bytes}
use Rattle.change_log.proofs.Logs.{log-more}
use Rattle.change_log.specs.declared.limits.AppendFault.{AppendFault}
use Rattle.change_log.specs.declared.limits.AppendFault.TheVariants.{LogFull, StoreFault, Memory}
use Rattle.change_log.specs.declared.limits.Limits.{Limits}
use Rattle.change_log.specs.Log.{writes_of, passed, over, LogSeen, IsWhole, AreLimits, Appends, with_change}

-- the writes of one more change come last
pub writes-more : (changes : List Change) (c : Change) → writes_of (changes ++ c ∷ []) ≡ writes_of changes ++ c.writes
writes-more changes c =
    flat_map-append (λ (change : Change). change.writes) changes (c ∷ []) ∙ ap (λ t. writes_of changes ++ t) (append-nil c.writes)

pub writes-length : (changes : List Change) (c : Change) → length (writes_of (changes ++ c ∷ [])) ≡ length (writes_of changes) + length c.writes
writes-length changes c = ap length (writes-more changes c) ∙ length-append (writes_of changes) c.writes

pub bytes-length : (changes : List Change) (c : Change)
    → length (log_bytes (changes ++ c ∷ [])) ≡ length (log_bytes changes) + length (change_bytes (length changes + 1) c)
bytes-length changes c = ap length (log-more changes c) ∙ length-append (log_bytes changes) (change_bytes (length changes + 1) c)

-- the limit that so much more passes is that of the longer log
pub passed-more : (limits : Limits) (changes : List Change) (c : Change) (w b : ℕ) → w ≡ length (writes_of changes) → b ≡ length (log_bytes changes)
    → over limits (w + length c.writes) (b + length (change_bytes (length changes + 1) c)) ≡ passed limits (changes ++ c ∷ [])
unfolding passed
passed-more limits changes c w b h k =
    ap (λ n. over limits n (b + length (change_bytes (length changes + 1) c))) (ap (λ n. n + length c.writes) h ∙ sym (writes-length changes c))
    ∙ ap (λ n. over limits (length (writes_of (changes ++ c ∷ []))) n) (ap (λ n. n + length (change_bytes (length changes + 1) c)) k
    ∙ sym (bytes-length changes c))

kept-more : (kept : Option (List ℕ)) (changes : List Change) (c : Change) → IfSome kept (λ b. b ≡ log_bytes changes)
    → IfSome (option_map (λ b. b ++ change_bytes (length changes + 1) c) kept) (λ b. b ≡ log_bytes (changes ++ c ∷ []))
kept-more None changes c h = h
kept-more (Some bytes) changes c h = ap (λ t. t ++ change_bytes (length changes + 1) c) h ∙ sym (log-more changes c)

whole-more : (log : LogSeen) (c : Change) (faults : ℕ) → IsWhole log → passed log.limits (log.changes ++ c ∷ []) ≡ None → All WriteFits c.writes
    → 0 < length c.writes
    → IsWhole (with_change log c faults)
unfolding with_change
whole-more log c faults h within fits some = record {
  acknowledged = refl;
  kept = kept-more log.kept log.changes c h.kept;
  within = within;
  limits = h.limits;
  few = let e = writes-length log.changes c in let f = length-append log.changes (c ∷ []) in let g = h.few in omega arith;
  fits = subst (λ w. All WriteFits w) (sym (writes-more log.changes c)) (All-append WriteFits (writes_of log.changes) c.writes h.fits fits);
}

-- whatever comes of bringing a change, the log stays whole
pub whole_after : (old new : LogSeen) (c : Change) (result : Result ℕ AppendFault) → IsWhole old → All WriteFits c.writes → 0 < length c.writes
    → Appends old c result new
    → IsWhole new
whole_after old new c (Ok n) h fits some step = subst IsWhole (sym step.1.1.1) (whole-more old c new.faults h step.0 fits some)
whole_after old new c (Err (LogFull limit)) h fits some step = subst IsWhole (sym step.1) h
whole_after old new c (Err StoreFault) h fits some step =
    subst IsWhole (sym step.1.1.1) (record { acknowledged = h.acknowledged; kept = h.kept; within = h.within; limits = h.limits; few = h.few; fits = h.fits })
whole_after old new c (Err Memory) h fits some step = subst IsWhole (sym step) h

-- a fault of memory that leaves the log as it was
pub memory_leaves : (old new : LogSeen) (c : Change) (result : Result ℕ AppendFault) → IsErrAnd result (λ fault. fault ≡ Memory) → new ≡ old
    → Appends old c result new
memory_leaves old new c (Ok n) is same = absurd is
memory_leaves old new c (Err fault) is same = subst (λ (f : AppendFault). Appends old c (Err f) new) (sym is) same

abbrev pub log_of : List Change → ℕ → Option (List ℕ) → ℕ → Limits → LogSeen
log_of changes acknowledged kept faults limits =
    record { changes = changes; acknowledged = acknowledged; kept = kept; faults = faults; limits = limits }

left_but_faults : (old : LogSeen) (changes : List Change) (acknowledged : ℕ) (kept : Option (List ℕ)) (faults : ℕ) → changes ≡ old.changes
    → acknowledged ≡ old.acknowledged → kept ≡ old.kept
    → log_of changes acknowledged kept faults old.limits ≡ log_of old.changes old.acknowledged old.kept faults old.limits
left_but_faults old changes acknowledged kept faults p q r =
    ap (λ (x : List Change). log_of x acknowledged kept faults old.limits) p ∙ ap (λ (x : ℕ). log_of old.changes x kept faults old.limits) q
    ∙ ap (λ (x : Option (List ℕ)). log_of old.changes old.acknowledged x faults old.limits) r

-- a fault of the keeper
pub keeper_leaves : (old : LogSeen) (changes : List Change) (acknowledged : ℕ) (kept : Option (List ℕ)) (faults : ℕ) (c : Change) (bytes : List ℕ)
    (fault : AppendFault) (result : Result ℕ AppendFault)
    → IsErrAnd result (λ f. f ≡ fault) → changes ≡ old.changes → passed old.limits (old.changes ++ c ∷ []) ≡ None
    → Keeps old.acknowledged acknowledged old.kept kept old.faults faults bytes (Err fault)
    → Appends old c result (log_of changes acknowledged kept faults old.limits)
keeper_leaves old changes acknowledged kept faults c bytes fault (Ok n) is same within keeps = absurd is
keeper_leaves old changes acknowledged kept faults c bytes fault (Err f) is same within keeps =
    subst (λ (x : AppendFault). Appends old c (Err x) (log_of changes acknowledged kept faults old.limits)) (sym is) (by_fault fault keeps)
  where
    by_fault : (fault : AppendFault) → Keeps old.acknowledged acknowledged old.kept kept old.faults faults bytes (Err fault)
        → Appends old c (Err fault) (log_of changes acknowledged kept faults old.limits)
    by_fault (LogFull limit) keeps = absurd keeps
    by_fault StoreFault keeps =
        (within, (keeps.1.1.0, (keeps.1.1.1, left_but_faults old changes acknowledged kept faults same keeps.0 keeps.1.0)))
    by_fault Memory keeps =
        left_but_faults old changes acknowledged kept faults same keeps.0 keeps.1.0
        ∙ ap (λ (x : ℕ). log_of old.changes old.acknowledged old.kept x old.limits) keeps.1.1

-- ---- an empty log

pub no-bytes : length (log_bytes []) ≡ 0
unfolding log_bytes
no-bytes = refl

nothing-kept : (kept : Option (List ℕ)) (n : ℕ) → n ≡ 0 → IfSome kept (λ bytes. n ≡ length bytes) → IfSome kept (λ bytes. bytes ≡ log_bytes [])
unfolding log_bytes
nothing-kept None n e h = h
nothing-kept (Some []) n e h = refl
nothing-kept (Some (b ∷ bytes)) n e h = absurd (omega arith)

none-over : (limits : Limits) → over limits 0 0 ≡ None
none-over limits = grind (arith, nat_tests)

nothing-passed : (limits : Limits) → passed limits [] ≡ None
unfolding passed log_bytes
nothing-passed limits = none-over limits

pub whole-nothing : (n faults : ℕ) (kept : Option (List ℕ)) (limits : Limits) → n ≡ 0 → IfSome kept (λ bytes. n ≡ length bytes) → AreLimits limits
    → IsWhole (record { changes = []; acknowledged = n; kept = kept; faults = faults; limits = limits })
whole-nothing n faults kept limits e h l = record {
  acknowledged = e ∙ sym no-bytes;
  kept = nothing-kept kept n e h;
  within = nothing-passed limits;
  limits = l;
  few = omega arith;
  fits = search rules;
}

-- ---- how long a change may be

over-none : (limits : Limits) (w b : ℕ) → over limits w b ≡ None → (w ≤ limits.writes) × (b ≤ limits.bytes)
over-none limits w b h = grind (arith, nat_tests)

pub within-limits : (limits : Limits) (changes : List Change) (c : Change) → AreLimits limits → passed limits (changes ++ c ∷ []) ≡ None
    → (length (writes_of changes) + length c.writes ≤ 4194304) × (length (log_bytes changes) + length (change_bytes (length changes + 1) c) ≤ 536870912)
unfolding passed
within-limits limits changes c l h =
    let f = over-none limits _ _ h in let e = writes-length changes c in let g = bytes-length changes c in let a = l.writes in let b = l.bytes in
    (omega arith, omega arith)

pub change-length : (n : ℕ) (c : Change) → 4 + length (body_bytes n c) ≡ length (change_bytes n c)
unfolding change_bytes
change-length n c = sym (length-append (to_be_bytes w32 (length (body_bytes n c))) (body_bytes n c))

-- the log with the change as it shows itself
pub grown-is : (changes changes' : List Change) (c : Change) (acknowledged acknowledged' faults faults' : ℕ) (kept kept' : Option (List ℕ)) (limits : Limits)
    (bytes : List ℕ)
    → changes' ≡ changes ++ c ∷ [] → acknowledged ≡ length (log_bytes changes) → bytes ≡ change_bytes (length changes + 1) c
    → acknowledged' ≡ acknowledged + length bytes → kept' ≡ option_map (λ b. b ++ bytes) kept
    → ◌≡◌ {A = LogSeen} (record { changes = changes'; acknowledged = acknowledged'; kept = kept'; faults = faults'; limits = limits })
    (with_change (record { changes = changes; acknowledged = acknowledged; kept = kept; faults = faults; limits = limits }) c faults')
unfolding with_change
grown-is changes changes' c n n' f f' kept kept' limits bytes same before are after told =
    let e = bytes-length changes c in
    let k : n' ≡ length (log_bytes (changes ++ c ∷ [])) = rw are at after ∙ ap (λ m. m + length (change_bytes (length changes + 1) c)) before ∙ sym e in
    let t : kept' ≡ option_map (λ b. b ++ change_bytes (length changes + 1) c) kept = told ∙ ap (λ x. option_map (λ b. b ++ x) kept) are in
    cc
