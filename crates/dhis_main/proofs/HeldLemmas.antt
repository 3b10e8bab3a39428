-- Sessions over a metadata file, told as what a run of the command may do.
use Rattle.std.proofs.Common.{◌≡◌, ◌≢◌, ◌<◌, inr, ℕ, ℤ, true, false, zero, suc, List, [], ◌∷◌, length, Option, None, Some, IfSome, refl, sym, ap, subst}
use Rattle.std.proofs.Common.{arith}
use Rattle.dh_outside.specs.Faults.{Rose}
use Rattle.request_session.specs.declared.ended.Ended.{Ended}
use Rattle.request_session.specs.declared.ended.Ended.TheVariants as ended
use Rattle.request_replies.specs.OverFile.{SessionOver, SessionOverAll}
use Rattle.request_replies.specs.declared.over_file.SessionEnd.{SessionEnd}
use Rattle.request_replies.specs.declared.over_file.SessionEnd.TheVariants as end
use Rattle.request_replies.specs.SessionText.{is_over, WritesOne}
use Rattle.request_replies.proofs.OverLemmas.{over_told}
use Rattle.request_replies.proofs.TextLemmas.{text_over}
use Rattle.dhis_main.specs.Shown.{Shown}
use Rattle.dhis_main.specs.Session.{status_of, status_over, Came, SessionRuns, SessionAnswers}
use Rattle.dhis_main.specs.declared.status.Outcome.{Outcome}
use Rattle.dhis_main.specs.declared.status.Status.{Status}
use Rattle.dhis_main.specs.declared.status.Status.TheVariants as status

-- ---- what came of a session

-- the faults of a session are those of its sides
pub record HasCauses (shown : Shown) (how : SessionEnd) : Type 0 where
  pub read : how ≡ end.Ended ended.ReadFault → Rose shown.input.faults shown.input.faults_after
  pub write : how ≡ end.Ended ended.WriteFault → Rose shown.output.faults shown.output.faults_after
  pub unwritten : how ≡ end.Unwritten → Rose shown.output.faults shown.output.faults_after

over-ended : (shows : ℤ → Type 0) (name : List ℕ) (shown : Shown) (how : Ended) → HasCauses shown (end.Ended how) → Came shows name shown (status_of how)
    → SessionRuns shows name shown (status_of how)
over-ended shows name shown ended.Closed causes came = came
over-ended shows name shown ended.Limit causes came = came
over-ended shows name shown ended.Truncated causes came = came
over-ended shows name shown (ended.Refused code) causes came = came
over-ended shows name shown ended.ReadFault causes came = inr (causes.read refl, came)
over-ended shows name shown ended.WriteFault causes came = (causes.write refl, came)
over-ended shows name shown ended.Memory causes came = inr came

over-end : (shows : ℤ → Type 0) (name : List ℕ) (shown : Shown) (how : SessionEnd) → HasCauses shown how → Came shows name shown (status_over how)
    → SessionRuns shows name shown (status_over how)
over-end shows name shown end.Refused causes came = came
over-end shows name shown end.Unwritten causes came = (causes.unwritten refl, came)
over-end shows name shown (end.Ended how) causes came = over-ended shows name shown how causes came
over-end shows name shown end.Memory causes came = inr came

-- a session over the bytes of the file
pub held : (shows : ℤ → Type 0) (name : List ℕ) (shown : Shown) (bytes : List ℕ) (how : SessionEnd) (result : Status) → result ≡ status_over how
    → IfSome (shown.files.file name) (λ all. bytes ≡ all)
    → SessionOver shows bytes shown.input.before shown.input.after shown.output.before shown.output.after how → HasCauses shown how
    → SessionRuns shows name shown result
held shows name shown bytes how result is told over causes =
    subst (SessionRuns shows name shown) (sym is) (over-end shows name shown how causes (record {
      bytes = bytes;
      told = told;
      how = how;
      over = over;
      status_is = refl;
    }))

-- ---- a file that is too long

longer : (n : ℕ) → (bytes : List ℕ) × (n < length bytes)
longer zero = (0 ∷ [], omega arith)
longer (suc n) = let rest = longer n in (0 ∷ rest.0, omega (arith, rest.1))

-- it is that which is told, or some
pub long_file : (most : ℕ) (file : Option (List ℕ)) → IfSome file (λ bytes. most < length bytes)
    → (bytes : List ℕ) × IfSome file (λ all. bytes ≡ all) × (most < length bytes)
long_file most None long = let some = longer most in (some.0, tt, some.1)
long_file most (Some bytes) long = (bytes, refl, long)

-- ---- over bytes that are told

is-over : (outcome : Outcome) (how : SessionEnd) → status.Done outcome ≡ status_over how → is_over how ≡ true
is-over outcome end.Refused is = refl
is-over outcome end.Unwritten is = absurd (cc)
is-over outcome (end.Ended ended.Closed) is = refl
is-over outcome (end.Ended ended.Limit) is = refl
is-over outcome (end.Ended ended.Truncated) is = refl
is-over outcome (end.Ended (ended.Refused code)) is = refl
is-over outcome (end.Ended ended.ReadFault) is = absurd (cc)
is-over outcome (end.Ended ended.WriteFault) is = absurd (cc)
is-over outcome (end.Ended ended.Memory) is = absurd (cc)
is-over outcome end.Memory is = absurd (cc)

no-fault : (how : SessionEnd) → is_over how ≡ true → how ≢ end.Ended ended.ReadFault
no-fault how over is = absurd (let same : is_over how ≡ false = ap is_over is in cc)

told-over : (shows : ℤ → Type 0) (file left left' written written' : Option (List ℕ)) (bytes : List ℕ) (how : SessionEnd) (result : Status)
    → IfSome file (λ all. bytes ≡ all) → is_over how ≡ true → result ≡ status_over how → SessionOver shows bytes left left' written written' how
    → IfSome file (λ b. IfSome left (λ all.
    ((h : SessionEnd) × SessionOverAll shows b all written written' h × (result ≡ status_over h)) × WritesOne shows b all written written'))
told-over shows None left left' written written' bytes how result told over_is is over = tt
told-over shows (Some file) None left' written written' bytes how result told over_is is over = tt
told-over shows (Some file) (Some all) left' written written' bytes how result told over_is is over =
    let whole = subst (λ b. SessionOverAll shows b all written written' how) told
    (over_told shows bytes (Some all) left' written written' how all refl (no-fault how over_is) over) in
    ((how, whole, is), text_over shows file all written written' how over_is whole)

-- a session that is done over a file and an input that are told
pub session_answers : (shows : ℤ → Type 0) (name : List ℕ) (shown : Shown) (result : Status) → SessionRuns shows name shown result
    → SessionAnswers shows name shown result
session_answers shows name shown (status.Done outcome) came =
    told-over shows (shown.files.file name) shown.input.before shown.input.after shown.output.before shown.output.after came.bytes came.how
    (status.Done outcome)
    came.told (is-over outcome came.how came.status_is) came.status_is came.over
session_answers shows name shown status.ReadFault came = tt
session_answers shows name shown status.WriteFault came = tt
session_answers shows name shown status.Memory came = tt
session_answers shows name shown status.ListenFault came = tt
