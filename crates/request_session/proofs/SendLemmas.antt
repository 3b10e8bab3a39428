-- Texts that were written, or fronts of them.
use Rattle.std.proofs.Common.{◌∙◌, ◌≤◌, ℕ, List, ◌++◌, Option, Result, Ok, Err, length, take, drop, sym, ap, append_assoc, take-append-drop}
use Rattle.std.specs.Prelude.{OnOk, OnErr}
use Rattle.std.specs.Io.KnownBytes.{Appends}
use Rattle.std.proofs.KnownBytes.{Appends-trans}
use Rattle.dh_outside.specs.Talk.{Talk, Says}
use Rattle.dh_outside.specs.declared.Failed.{Failed}
use Rattle.dh_outside.proofs.TalkLemmas.{says_on}
use Rattle.request_session.specs.Session.{AppendsFront}
use Rattle.request_session.specs.Turn.{Sent, Speaks}

pub front_of_text : (old new : Option (List ℕ)) (text : List ℕ) (count : ℕ) → Appends old new (take count text) → AppendsFront old new text
front_of_text old new text count front = (take count text, drop count text, sym (take-append-drop count text), front)

pub sent_by : {T : Type 0} (result : Result T Failed) (old new : Option (List ℕ)) (talk talk' : Option Talk) (text : List ℕ)
    → OnOk result (Appends old new text) → OnOk result (Says talk talk' text)
    → OnErr result ((count : ℕ) × (count ≤ length text) × Appends old new (take count text) × Says talk talk' (take count text))
    → Sent result old new talk talk' text
sent_by (Ok v) old new talk talk' text all told front = (all, told)
sent_by (Err e) old new talk talk' text all told front = (front_of_text old new text front.0 front.2, (take front.0 text, front.3))

-- a prefix of the first text is one of both
pub front_first : (old new : Option (List ℕ)) (first second : List ℕ) → AppendsFront old new first → AppendsFront old new (first ++ second)
front_first old new first second front =
    (front.0, front.1 ++ second, ap (λ text. text ++ second) front.2 ∙ append_assoc front.0 front.1 second, front.3)

-- the first text is written, and a prefix of the second
pub front_behind : (old mid new : Option (List ℕ)) (first second : List ℕ) → Appends old mid first → AppendsFront mid new second
    → AppendsFront old new (first ++ second)
front_behind old mid new first second whole front = (
  first ++ front.0,
  front.1,
  ap (λ text. first ++ text) front.2
      ∙ sym (append_assoc first front.0 front.1),
  Appends-trans old mid new first front.0 whole front.3,
)

-- a prefix of the first text was written
pub sent_first : (old new : Option (List ℕ)) (talk talk' : Option Talk) (first second : List ℕ)
    → AppendsFront old new first × Speaks talk talk' → AppendsFront old new (first ++ second) × Speaks talk talk'
sent_first old new talk talk' first second sent = (front_first old new first second sent.0, sent.1)

pub sent_behind : {T : Type 0} (result : Result T Failed) (old mid new : Option (List ℕ)) (talk between talk' : Option Talk) (first second : List ℕ)
    → Appends old mid first × Says talk between first → Sent result mid new between talk' second → Sent result old new talk talk' (first ++ second)
sent_behind (Ok v) old mid new talk between talk' first second whole sent =
    (Appends-trans old mid new first second whole.0 sent.0, says_on talk between talk' first second whole.1 sent.1)
sent_behind (Err e) old mid new talk between talk' first second whole sent =
    (front_behind old mid new first second whole.0 sent.0, (first ++ sent.1.0, says_on talk between talk' first sent.1.0 whole.1 sent.1.1))
