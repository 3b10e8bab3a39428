-- The head of a reply (RFC 9112, section 4).
use Rattle.std.specs.Prelude.{ℕ, Bool, true, false, List, [], ◌∷◌, ◌++◌, Option, None, Some, codes, decimal, nat_eq}
use Rattle.std.specs.List.{list_any}
use Rattle.request_session.specs.Bodies.{phrase_of}

-- the status is one that a reply may have
unfoldable pub is_reply_status : ℕ → Bool
is_reply_status status =
    list_any (nat_eq status) (200 ∷ 400 ∷ 401 ∷ 403 ∷ 404 ∷ 405 ∷ 409 ∷ 413 ∷ 415 ∷ 431 ∷ 501 ∷ 503 ∷ 507 ∷ [])

-- the lines that every head has
unfoldable pub front_of : ℕ → ℕ → List ℕ
front_of status length =
    codes "HTTP/1.1 " ++ decimal status ++ codes " " ++ phrase_of status
    ++ codes "\r\nContent-Type: application/json;charset=UTF-8\r\nContent-Length: " ++ decimal length ++ codes "\r\n"

-- a line with a number, where there is one
abbrev pub number_line : List ℕ → Option ℕ → List ℕ
number_line name None = []
number_line name (Some number) = name ++ decimal number ++ codes "\r\n"

abbrev pub closing : Bool → List ℕ
closing true = codes "Connection: keep-alive\r\n\r\n"
closing false = codes "Connection: close\r\n\r\n"

-- the lines after those that are there
abbrev pub after_front : List ℕ → Option ℕ → Option ℕ → Bool → List ℕ
after_front front published change keep =
    front ++ number_line (codes "X-Published: ") published ++ number_line (codes "X-Change: ") change ++ closing keep

-- the head of a reply whose body has so many bytes
abbrev pub head_of : ℕ → ℕ → Option ℕ → Option ℕ → Bool → List ℕ
head_of status length published change keep = after_front (front_of status length) published change keep
