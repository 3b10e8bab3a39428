-- The statuses of replies and their phrases.
use Rattle.std.proofs.Common.{◌≡◌, ◌≤◌, ◌<◌, ◌||◌, ℕ, Bool, true, false, List, [], ◌∷◌, length, refl, subst, arith, nat_eq}
use Rattle.std.specs.Prelude.{⊤}
use Rattle.std.specs.List.{list_any}
use Rattle.std.proofs.lemmas.Bool.Decides.{nat_tests}
use Rattle.http.specs.StatusCode.{IsStatusCode}
use Rattle.dh_base.specs.Codes.{status_of}
use Rattle.dh_base.specs.declared.codes.Code.{Code}
use Rattle.dh_base.specs.declared.codes.Code.TheVariants.{F1, F2, F3, F4, F5, F6, F7, F8, F10, F11, F12, F13, F14, F15, F16, F17, F18, F19, F20, F21}
use Rattle.dh_base.specs.declared.codes.Code.TheVariants.{F22, F23, F30, F31, F32, F40, F41, F42, F43, F44, F45, C1, C2, C3, C4, C5, C6, C7, C8, C9, C10}
use Rattle.dh_base.specs.declared.codes.Code.TheVariants.{C11, C12, C13, C14, C15, T1, T2, T3, T4, T5, T6, T7, T8, T9, T10, T11, T12, T13, T14}
use Rattle.request_session.specs.Bodies.{phrase_of}
use Rattle.request_session.specs.Heads.{is_reply_status}

-- the fact holds of each
Each : (ℕ → Type 0) → List ℕ → Type 0
Each P [] = ⊤
Each P (x ∷ xs) = P x × Each P xs

listed : (P : ℕ → Type 0) (s : ℕ) (xs : List ℕ) → Each P xs → list_any (nat_eq s) xs ≡ true → P s
unfolding Each
listed P s [] all is = absurd (cc)
listed P s (x ∷ xs) all is = pick (nat_eq s x) refl is (λ e. listed P s xs all.1 e)
  where
    pick : (t : Bool) → nat_eq s x ≡ t → (t || list_any (nat_eq s) xs) ≡ true → (list_any (nat_eq s) xs ≡ true → P s) → P s
    pick true e is later = let same : x ≡ s = grind (arith, nat_tests) in subst P same all.0
    pick false e is later = later is

abbrev Fits : ℕ → Type 0
Fits s = (length (phrase_of s) ≤ 31) × IsStatusCode s

row : (s : ℕ) → length (phrase_of s) ≤ 31 → 100 ≤ s → s < 1000 → Fits s
row s short low high = (short, (low, high))

reply_fits : (s : ℕ) → is_reply_status s ≡ true → Fits s
unfolding Each is_reply_status phrase_of
reply_fits s is =
    listed Fits s (200 ∷ 400 ∷ 401 ∷ 403 ∷ 404 ∷ 405 ∷ 409 ∷ 413 ∷ 415 ∷ 431 ∷ 501 ∷ 503 ∷ 507 ∷ []) (
      row 200 (omega arith) (omega arith) (omega arith),
      (
        row 400 (omega arith) (omega arith) (omega arith),
        (
          row 401 (omega arith) (omega arith) (omega arith),
          (
            row 403 (omega arith) (omega arith) (omega arith),
            (
              row 404 (omega arith) (omega arith) (omega arith),
              (
                row 405 (omega arith) (omega arith) (omega arith),
                (
                  row 409 (omega arith) (omega arith) (omega arith),
                  (
                    row 413 (omega arith) (omega arith) (omega arith),
                    (
                      row 415 (omega arith) (omega arith) (omega arith),
                      (
                        row 431 (omega arith) (omega arith) (omega arith),
                        (
                          row 501 (omega arith) (omega arith) (omega arith),
                          (
                            row 503 (omega arith) (omega arith) (omega arith),
                            (row 507 (omega arith) (omega arith) (omega arith), tt),
                          ),
                        ),
                      ),
                    ),
                  ),
                ),
              ),
            ),
          ),
        ),
      ),
    ) is

pub short_phrase : (s : ℕ) → is_reply_status s ≡ true → length (phrase_of s) ≤ 31
short_phrase s is = (reply_fits s is).0

pub valid_status : (s : ℕ) → is_reply_status s ≡ true → IsStatusCode s
valid_status s is = (reply_fits s is).1

-- ---- the statuses of codes

pub has_reply : (code : Code) → is_reply_status (status_of code) ≡ true
unfolding is_reply_status
has_reply F1 = refl
has_reply F2 = refl
has_reply F3 = refl
has_reply F4 = refl
has_reply F5 = refl
has_reply F6 = refl
has_reply F7 = refl
has_reply F8 = refl
has_reply F10 = refl
has_reply F11 = refl
has_reply F12 = refl
has_reply F13 = refl
has_reply F14 = refl
has_reply F15 = refl
has_reply F16 = refl
has_reply F17 = refl
has_reply F18 = refl
has_reply F19 = refl
has_reply F20 = refl
has_reply F21 = refl
has_reply F22 = refl
has_reply F23 = refl
has_reply F30 = refl
has_reply F31 = refl
has_reply F32 = refl
has_reply F40 = refl
has_reply F41 = refl
has_reply F42 = refl
has_reply F43 = refl
has_reply F44 = refl
has_reply F45 = refl
has_reply C1 = refl
has_reply C2 = refl
has_reply C3 = refl
has_reply C4 = refl
has_reply C5 = refl
has_reply C6 = refl
has_reply C7 = refl
has_reply C8 = refl
has_reply C9 = refl
has_reply C10 = refl
has_reply C11 = refl
has_reply C12 = refl
has_reply C13 = refl
has_reply C14 = refl
has_reply C15 = refl
has_reply T1 = refl
has_reply T2 = refl
has_reply T3 = refl
has_reply T4 = refl
has_reply T5 = refl
has_reply T6 = refl
has_reply T7 = refl
has_reply T8 = refl
has_reply T9 = refl
has_reply T10 = refl
has_reply T11 = refl
has_reply T12 = refl
has_reply T13 = refl
has_reply T14 = refl

-- the status of each code is one
pub has_status : (code : Code) → IsStatusCode (status_of code)
has_status code = valid_status (status_of code) (has_reply code)

pub memory_status : is_reply_status 507 ≡ true
unfolding is_reply_status
memory_status = refl

pub ok_status : is_reply_status 200 ≡ true
unfolding is_reply_status
ok_status = refl
