-- The texts of replies: a head and a body.
use Rattle.std.specs.Prelude.{◌≡◌, ◌⊎◌, ℕ, Bool, false, List, [], ◌++◌, Option, None, length}
use Rattle.request_session.specs.Heads.{head_of}
use Rattle.dh_base.specs.Codes.{status_of}
use Rattle.dh_base.specs.declared.codes.Code.{Code}
use Rattle.request_session.specs.Bodies.{error_text, memory_text}
use Rattle.request_session.specs.declared.reply.Reply.{Reply}

-- all the bytes of a reply
abbrev pub text_in : Reply → List ℕ
text_in reply = reply.head ++ reply.body.items

-- a whole reply: its head, which tells how long the body is, and the body
unfoldable pub reply_text : ℕ → Option ℕ → Option ℕ → Bool → List ℕ → List ℕ
reply_text status published change keep body = head_of status (length body) published change keep ++ body

-- the reply for a lack of memory
unfoldable pub memory_reply : Bool → List ℕ
memory_reply keep = reply_text 507 None None keep memory_text

-- the reply that refuses what isn't a request, after which the connection ends
unfoldable pub refused_text : Code → List ℕ
refused_text code = reply_text (status_of code) None None false (error_text (record { code = code; detail = [] }))

-- the same, or the one for a lack of memory in its place
abbrev pub RefusesBy : Code → List ℕ → Type 0
RefusesBy code text = (text ≡ refused_text code) ⊎ (text ≡ memory_reply false)
