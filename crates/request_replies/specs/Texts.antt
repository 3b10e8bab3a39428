-- The texts of replies by what the machine answered. A call out of memory has none.
use Rattle.std.specs.Prelude.{◌≡◌, ℕ, Bool, List, [], decimal, Option, None, Some, Result, Ok, Err, ⊤}
use Rattle.dh_base.specs.Codes.{status_of}
use Rattle.dh_base.specs.declared.codes.Code.TheVariants.{F18, F19, F22, F23, F30, F32}
use Rattle.dh_base.specs.declared.codes.Refusal.{Refusal}
use Rattle.dh_base.specs.declared.memory.Memory.{Memory}
use Rattle.dh_base.specs.declared.plain.CutKind.{CutKind}
use Rattle.query_lang.specs.Given.{refusal}
use Rattle.request_session.specs.Bodies.{error_text, update_text}
use Rattle.request_session.specs.Replies.{text_in, reply_text, memory_reply}
use Rattle.request_session.specs.declared.reply.Reply.{Reply}
use Rattle.engine.specs.declared.machine.Report.{Report}
use Rattle.engine.specs.declared.machine.ChangeFault.{ChangeFault}
use Rattle.engine.specs.declared.machine.ChangeFault.TheVariants as change
use Rattle.engine.specs.declared.machine.CutFault.{CutFault}
use Rattle.engine.specs.declared.machine.CutFault.TheVariants as cut

-- the text of the reply that a call answered, or none out of memory
abbrev pub told : Result Reply Memory → Option (List ℕ)
told (Ok reply) = Some (text_in reply)
told (Err fault) = None

-- the text that stands for it
abbrev pub text_of : Bool → Option (List ℕ) → List ℕ
text_of keep (Some text) = text
text_of keep None = memory_reply keep

-- this text, unless memory ran out
abbrev pub IsTold : Option (List ℕ) → Option (List ℕ) → Type 0
IsTold (Some text) meant = meant ≡ Some text
IsTold None meant = ⊤

-- the reply that refuses a request; it says how many changes are published if the tables were asked
unfoldable pub refusal_reply : Option ℕ → Bool → Refusal → List ℕ
refusal_reply published keep refused = reply_text (status_of refused.code) published None keep (error_text refused)

-- the text of the reply to this refusal, unless memory ran out; there is none without one
abbrev pub Refuses : Bool → Option Refusal → Option (List ℕ) → Type 0
Refuses keep None text = text ≡ None
Refuses keep (Some refused) text = IsTold text (Some (refusal_reply None keep refused))

-- ---- a query

-- the answer over tables that stand for so many changes
unfoldable pub answer_reply : ℕ → Bool → Result (List ℕ) (List ℕ) → List ℕ
answer_reply published keep (Ok body) = reply_text 200 (Some published) None keep body
answer_reply published keep (Err id) = refusal_reply (Some published) keep (refusal F18 id)

-- only so many changes are published
abbrev pub not_yet_reply : ℕ → Bool → List ℕ
not_yet_reply published keep = refusal_reply None keep (refusal F19 (decimal published))

-- ---- a change

unfoldable pub report_reply : Bool → Report → List ℕ
report_reply keep report = reply_text report.status None (Some report.number) keep report.body

abbrev pub change_text : Bool → Result Report ChangeFault → Option (List ℕ)
change_text keep (Ok report) = Some (report_reply keep report)
change_text keep (Err (change.Refused refused)) = Some (refusal_reply None keep refused)
change_text keep (Err (change.LogFull limit)) = Some (refusal_reply None keep (refusal F22 (decimal limit)))
change_text keep (Err change.StoreFault) = Some (refusal_reply None keep (refusal F23 []))
change_text keep (Err change.Memory) = None

-- ---- an update

-- the update was made, and the tables stand for so many changes
unfoldable pub update_reply : ℕ → Bool → CutKind → List ℕ
update_reply published keep kind = reply_text 200 (Some published) None keep (update_text kind published)

-- no update was begun
abbrev pub cut_text : Bool → CutFault → Option (List ℕ)
cut_text keep (cut.Busy ticket) = Some (refusal_reply None keep (refusal F30 (decimal ticket)))
cut_text keep (cut.UpdatesSpent limit) = Some (refusal_reply None keep (refusal F32 (decimal limit)))
cut_text keep cut.Memory = None
