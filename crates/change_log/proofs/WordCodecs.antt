-- What is read was written so, and what was written is read again, whatever follows.
use Rattle.std.proofs.Common.{◌≡◌, ℕ, zero, suc, ◌+◌, ◌^◌, ◌<◌, ◌≤◌, Bool, true, false, cond, ltb, List, [], ◌∷◌, ◌++◌, length, get_or, take, drop, Option}
use Rattle.std.proofs.Common.{None, Some, refl, sym, ap, subst, ◌∙◌, append_assoc, arith, inl, inr}
use Rattle.std.specs.Prelude.{option_map, option_and_then}
use Rattle.std.specs.List.{flat_map, AllByRecursion, All}
use Rattle.std.specs.Prelude.{bytes_eq, nat_eq, IfSome, ◌&&◌}
use Rattle.std.specs.List.{list_all}
use Rattle.std.specs.Char.{is_ascii_alphabetic, is_ascii_alphanumeric}
use Rattle.std.specs.Prelude.{slice_index}
use Rattle.std.proofs.lemmas.Bool.{and_parts, eqb-true}
use Rattle.std.proofs.lemmas.Slice.Eq.{bytes_eq-Decides}
use Rattle.std.proofs.lemmas.List.Elements.{All-from_recursion, recursion_from_All}
use Rattle.std.proofs.Math.Facts.{sfits_to_z, Fits-of_z}
use mir.Val.{Fits, bits}
use Rattle.dh_base.specs.Uid.{is_uid, uid_of}
use Rattle.std.specs.Int.{Width, w8, w16, w32, w64, byte_len, from_be_bytes, to_be_bytes, cast_signed, cast_unsigned}
use Rattle.std.specs.Int.RustNames.{FitsSigned}
use Rattle.std.proofs.lemmas.Bool.{cases_lt, ltb-false, le-ltb}
use Rattle.std.proofs.lemmas.Int.{to_z-of_z, of_z-to_z}
use Rattle.std.proofs.lemmas.List.{take_at, drop_at, take-append-drop, length-append, length-take, get_or-drop, get_or_append_left, get_or_past}
use Rattle.std.proofs.lemmas.Nat.{be_bytes_2, be_bytes_4, be_bytes_8, from_be_bytes-to_be_bytes_2, from_be_bytes-to_be_bytes_4, from_be_bytes-to_be_bytes_8}
use Rattle.change_log.specs.ReadWords.{Reads, ◌⊗◌, mapped, refined, bytes_at, number_at, signed_at, text_at, times_at, listed_at, id_at, optional_id_of}
use Rattle.change_log.specs.ReadWords.{optional_id_at, id_text_at}
use Rattle.change_log.specs.Words.{number, signed, text, listed, no_id, optional_id, id_text, IsId, IsIdText}

abbrev pub IsBytes : List ℕ → Type 0
IsBytes bytes = (i : ℕ) → get_or bytes i 0 < 256

IsBytes-drop : (n : ℕ) (bytes : List ℕ) → IsBytes bytes → IsBytes (drop n bytes)
IsBytes-drop n bytes h i = rw get_or-drop (h (n + i))

pub IsBytes-front : (front rest : List ℕ) → IsBytes (front ++ rest) → IsBytes front
IsBytes-front front rest h i =
    elim (cases_lt i (length front)) [
      | inl lt ↦ rw (← get_or_append_left front rest 0 i lt) (h i)
      | inr le ↦ rw (get_or_past front i 0 le) (omega arith)
    ]

-- what a reader took from the front
pub record Takes (bytes text rest : List ℕ) : Type 0 where
  pub parts : bytes ≡ text ++ rest
  pub rest_fits : IsBytes rest

pub Takes-then : (a x b y c : List ℕ) → Takes a x b → Takes b y c → Takes a (x ++ y) c
Takes-then a x b y c p q = record { parts = p.parts ∙ ap (λ (t : List ℕ). x ++ t) q.parts ∙ sym (append_assoc x y c); rest_fits = q.rest_fits }

Takes-front : (bytes text rest : List ℕ) → IsBytes bytes → Takes bytes text rest → IsBytes text
Takes-front bytes text rest fits t = IsBytes-front text rest (subst IsBytes t.parts fits)

-- a reader and a writer of one form
pub record IsCodec {A : Type 0} (text : A → List ℕ) (at : Reads A) (Good : A → Type 0) : Type 0 where
  pub takes : (bytes : List ℕ) (x : A) (rest : List ℕ) → IsBytes bytes → at bytes ≡ Some (x, rest) → Takes bytes (text x) rest × Good x
  pub again : (x : A) (rest : List ℕ) → Good x → at (text x ++ rest) ≡ Some (x, rest)

-- ---- steps that may fail

pub and_then-some : {A B : Type 0} (f : A → Option B) (o : Option A) (z : B) → option_and_then f o ≡ Some z → (x : A) × (o ≡ Some x) × (f x ≡ Some z)
and_then-some f (Some x) z e = (x, refl, e)
and_then-some f None z e = absurd (cc)

pub map-some : {A B : Type 0} (f : A → B) (o : Option A) (z : B) → option_map f o ≡ Some z → (x : A) × (o ≡ Some x) × (f x ≡ z)
map-some f (Some x) z e = (x, refl, cc)
map-some f None z e = absurd (cc)

pub cond-some : {A : Type 0} (b : Bool) (x z : A) → cond b None (Some x) ≡ Some z → (b ≡ false) × (x ≡ z)
cond-some true x z e = absurd (cc)
cond-some false x z e = (refl, cc)

-- ---- two things, and a thing seen as another

pub both_codec : {A B : Type 0} {s : A → List ℕ} {a : Reads A} {G : A → Type 0} {t : B → List ℕ} {b : Reads B} {H : B → Type 0}
    → IsCodec s a G → IsCodec t b H → IsCodec (λ (p : A × B). s p.0 ++ t p.1) (a ⊗ b) (λ (p : A × B). G p.0 × H p.1)
both_codec {A} {B} {s} {a} {G} {t} {b} {H} c d = record {
  takes = λ bytes p rest fits e.
      let first = and_then-some (λ (x : A × List ℕ). option_map (λ (y : B × List ℕ). ((x.0, y.0), y.1)) (b x.1)) (a bytes) (p, rest) e in
      let x = first.0 in
      let second = map-some (λ (y : B × List ℕ). ((x.0, y.0), y.1)) (b x.1) (p, rest) first.2 in
      let y = second.0 in
      let front = c.takes bytes x.0 x.1 fits first.1 in
      let back = d.takes x.1 y.0 y.1 front.0.rest_fits second.1 in
      let P : (A × B) × List ℕ → Type 0 = λ z. Takes bytes (s z.0.0 ++ t z.0.1) z.1 × (G z.0.0 × H z.0.1) in
      subst P second.2 (Takes-then bytes (s x.0) x.1 (t y.0) y.1 front.0 back.0, (front.1, back.1));
  again = λ p rest good. rw (append_assoc (s p.0) (t p.1) rest, c.again p.0 (t p.1 ++ rest) good.0, d.again p.1 rest good.1) refl;
}

pub refined_codec : {A B : Type 0} {s : A → List ℕ} {a : Reads A} {G : A → Type 0} (f : A → Option B) (back : B → A) (H : B → Type 0) → IsCodec s a G
    → ((x : A) (y : B) → IsBytes (s x) → G x → f x ≡ Some y → (back y ≡ x) × H y) → ((y : B) → H y → (f (back y) ≡ Some y) × G (back y))
    → IsCodec (λ y. s (back y)) (refined f a) H
refined_codec {A} {B} {s} {a} {G} f back H c meant written = record {
  takes = λ bytes y rest fits e.
      let first = and_then-some (λ (x : A × List ℕ). option_map (λ (z : B). (z, x.1)) (f x.0)) (a bytes) (y, rest) e in
      let x = first.0 in
      let second = map-some (λ (z : B). (z, x.1)) (f x.0) (y, rest) first.2 in
      let front = c.takes bytes x.0 x.1 fits first.1 in
      let means = meant x.0 second.0 (Takes-front bytes (s x.0) x.1 fits front.0) front.1 second.1 in
      let P : B × List ℕ → Type 0 = λ z. Takes bytes (s (back z.0)) z.1 × H z.0 in
      subst P second.2 (subst (λ w. Takes bytes (s w) x.1) (sym means.0) front.0, means.1);
  again = λ y rest good. rw (c.again (back y) rest (written y good).1, (written y good).0) refl;
}

pub mapped_codec : {A B : Type 0} {s : A → List ℕ} {a : Reads A} {G : A → Type 0} (f : A → B) (back : B → A) (H : B → Type 0) → IsCodec s a G
    → ((x : A) → IsBytes (s x) → G x → (back (f x) ≡ x) × H (f x)) → ((y : B) → H y → (f (back y) ≡ y) × G (back y))
    → IsCodec (λ y. s (back y)) (mapped f a) H
mapped_codec {A} {B} {s} {a} {G} f back H c meant written = record {
  takes = λ bytes y rest fits e.
      let first = map-some (λ (x : A × List ℕ). (f x.0, x.1)) (a bytes) (y, rest) e in
      let x = first.0 in
      let front = c.takes bytes x.0 x.1 fits first.1 in
      let means = meant x.0 (Takes-front bytes (s x.0) x.1 fits front.0) front.1 in
      let P : B × List ℕ → Type 0 = λ z. Takes bytes (s (back z.0)) z.1 × H z.0 in
      subst P first.2 (subst (λ w. Takes bytes (s w) x.1) (sym means.0) front.0, means.1);
  again = λ y rest good. rw (c.again (back y) rest (written y good).1, (written y good).0) refl;
}

-- ---- bytes, numbers and texts

pub bytes_codec : (n : ℕ) → IsCodec (λ x. x) (bytes_at n) (λ x. length x ≡ n)
unfolding bytes_at
bytes_codec n = record {
  takes = λ bytes x rest fits e.
      let g = cond-some (ltb (length bytes) n) (take n bytes, drop n bytes) (x, rest) e in
      let long : n ≤ length bytes = ltb-false _ _ g.0 in
      let P : List ℕ × List ℕ → Type 0 = λ z. Takes bytes z.0 z.1 × (length z.0 ≡ n) in
      subst P g.1 (record { parts = sym (take-append-drop n bytes); rest_fits = IsBytes-drop n bytes fits }, omega (arith, length-take n bytes));
  again = λ x rest len.
      let long : ltb (length (x ++ rest)) n ≡ false = le-ltb _ _ (omega (arith, length-append x rest)) in
      rw (long, take_at x rest n len, drop_at x rest n len) refl;
}

pub record IsWide (w : Width) (limit : ℕ) : Type 0 where
  pub len : (n : ℕ) → length (to_be_bytes w n) ≡ byte_len w
  pub back : (bytes : List ℕ) → length bytes ≡ byte_len w → IsBytes bytes → to_be_bytes w (from_be_bytes w bytes) ≡ bytes
  pub again : (n : ℕ) → n < limit → from_be_bytes w (to_be_bytes w n) ≡ n
  pub below : (bytes : List ℕ) → IsBytes bytes → from_be_bytes w bytes < limit

one_byte : (bytes : List ℕ) → length bytes ≡ 1 → IsBytes bytes → to_be_bytes w8 (from_be_bytes w8 bytes) ≡ bytes
one_byte [] len fits = absurd (omega arith)
one_byte (b ∷ []) len fits = ap (λ n. n ∷ []) (omega (arith, fits 0))
one_byte (b ∷ c ∷ bytes) len fits = absurd (omega arith)

pub wide8 : IsWide w8 (2 ^ 8)
wide8 = record {
  len = λ n. refl;
  back = one_byte;
  again = λ n lt. omega arith;
  below = λ bytes fits. omega (arith, fits 0);
}

pub wide16 : IsWide w16 (2 ^ 16)
wide16 = record {
  len = λ n. refl;
  back = λ bytes len fits. be_bytes_2 bytes _ len fits refl;
  again = λ n lt. from_be_bytes-to_be_bytes_2 n lt;
  below = λ bytes fits. omega (arith, fits 0, fits 1);
}

pub wide32 : IsWide w32 (2 ^ 32)
wide32 = record {
  len = λ n. refl;
  back = λ bytes len fits. be_bytes_4 bytes _ len fits refl;
  again = λ n lt. from_be_bytes-to_be_bytes_4 n lt;
  below = λ bytes fits. omega (arith, fits 0, fits 1, fits 2, fits 3);
}

pub wide64 : IsWide w64 (2 ^ 64)
wide64 = record {
  len = λ n. refl;
  back = λ bytes len fits. be_bytes_8 bytes _ len fits refl;
  again = λ n lt. from_be_bytes-to_be_bytes_8 n lt;
  below = λ bytes fits. omega (arith, fits 0, fits 1, fits 2, fits 3, fits 4, fits 5, fits 6, fits 7);
}

pub number_codec : (w : Width) (limit : ℕ) → IsWide w limit → IsCodec (number w) (number_at w) (λ n. n < limit)
unfolding number_at
number_codec w limit wide =
    mapped_codec (from_be_bytes w) (to_be_bytes w) (λ n. n < limit) (bytes_codec (byte_len w)) (λ x fits len. (wide.back x len fits, wide.below x fits))
    (λ n lt. (wide.again n lt, wide.len n))

pub text_codec : (w : Width) (limit : ℕ) → IsWide w limit → IsCodec (text w) (text_at w) (λ t. length t < limit)
unfolding text_at
text_codec w limit wide = record {
  takes = λ bytes t rest fits e.
      let first = and_then-some (λ (n : ℕ × List ℕ). bytes_at n.0 n.1) (number_at w bytes) (t, rest) e in
      let n = first.0 in
      let front = (number_codec w limit wide).takes bytes n.0 n.1 fits first.1 in
      let back = (bytes_codec n.0).takes n.1 t rest front.0.rest_fits first.2 in
      let whole = Takes-then bytes (number w n.0) n.1 t rest front.0 back.0 in
      (subst (λ k. Takes bytes (number w k ++ t) rest) (sym back.1) whole, subst (λ k. k < limit) (sym back.1) front.1);
  again =
      λ t rest lt. rw (
        append_assoc (number w (length t)) t rest,
        (number_codec w limit wide).again (length t) (t ++ rest) lt,
      ) ((bytes_codec (length t)).again t rest refl);
}

-- ---- lists

pub times_takes : {A : Type 0} {s : A → List ℕ} {a : Reads A} {G : A → Type 0} → IsCodec s a G → (n : ℕ) (bytes : List ℕ) (xs : List A) (rest : List ℕ)
    → IsBytes bytes
    → times_at n a bytes ≡ Some (xs, rest) → Takes bytes (flat_map s xs) rest × (length xs ≡ n) × AllByRecursion G xs
unfolding times_at
times_takes {A} {s} {a} {G} c zero bytes xs rest fits e =
    let P : List A × List ℕ → Type 0 = λ z. Takes bytes (flat_map s z.0) z.1 × (length z.0 ≡ 0) × AllByRecursion G z.0 in
    let same : ([], bytes) ≡ (xs, rest) = cc in
    subst P same (record { parts = refl; rest_fits = fits }, refl, tt)
times_takes {A} {s} {a} {G} c (suc n) bytes xs rest fits e =
    let first = and_then-some (λ (x : A × List ℕ). option_map (λ (ys : List A × List ℕ). (x.0 ∷ ys.0, ys.1)) (times_at n a x.1)) (a bytes) (xs, rest) e in
    let x = first.0 in
    let second = map-some (λ (ys : List A × List ℕ). (x.0 ∷ ys.0, ys.1)) (times_at n a x.1) (xs, rest) first.2 in
    let ys = second.0 in
    let front = c.takes bytes x.0 x.1 fits first.1 in
    let back = times_takes c n x.1 ys.0 ys.1 front.0.rest_fits second.1 in
    let P : List A × List ℕ → Type 0 = λ z. Takes bytes (flat_map s z.0) z.1 × (length z.0 ≡ suc n) × AllByRecursion G z.0 in
    let longer : length (x.0 ∷ ys.0) ≡ suc n = omega (arith, back.1) in
    subst P second.2 (Takes-then bytes (s x.0) x.1 (flat_map s ys.0) ys.1 front.0 back.0, longer, (front.1, back.2))

pub times_again : {A : Type 0} {s : A → List ℕ} {a : Reads A} {G : A → Type 0} → IsCodec s a G → (xs : List A) (rest : List ℕ) → AllByRecursion G xs
    → times_at (length xs) a (flat_map s xs ++ rest) ≡ Some (xs, rest)
unfolding times_at
times_again c [] rest good = refl
times_again {A} {s} {a} {G} c (x ∷ xs) rest good =
    rw (append_assoc (s x) (flat_map s xs) rest, c.again x (flat_map s xs ++ rest) good.0, times_again c xs rest good.1) refl

pub listed_codec : {A : Type 0} {s : A → List ℕ} {a : Reads A} {G : A → Type 0} (w : Width) (limit : ℕ) → IsWide w limit → IsCodec s a G
    → IsCodec (listed w s) (listed_at w a) (λ xs. (length xs < limit) × All G xs)
unfolding listed_at
listed_codec {A} {s} {a} {G} w limit wide c = record {
  takes = λ bytes xs rest fits e.
      let first = and_then-some (λ (n : ℕ × List ℕ). times_at n.0 a n.1) (number_at w bytes) (xs, rest) e in
      let n = first.0 in
      let front = (number_codec w limit wide).takes bytes n.0 n.1 fits first.1 in
      let back = times_takes c n.0 n.1 xs rest front.0.rest_fits first.2 in
      let whole = Takes-then bytes (number w n.0) n.1 (flat_map s xs) rest front.0 back.0 in (
        subst (λ k. Takes bytes (number w k ++ flat_map s xs) rest) (sym back.1) whole,
        (subst (λ k. k < limit) (sym back.1) front.1, All-from_recursion G xs back.2),
      );
  again = λ xs rest good.
      rw (
        append_assoc (number w (length xs)) (flat_map s xs) rest,
        (number_codec w limit wide).again (length xs) (flat_map s xs ++ rest) good.0,
      ) (times_again c xs rest (recursion_from_All G xs good.1));
}

-- ---- signed numbers and identifiers

pub signed_codec : (w : Width) → IsWide w (2 ^ bits w) → IsCodec (signed w) (signed_at w) (λ z. FitsSigned w z)
unfolding signed_at
signed_codec w wide =
    mapped_codec (cast_signed w) (cast_unsigned w) (λ z. FitsSigned w z) (number_codec w (2 ^ bits w) wide)
    (λ n fits lt. let small : Fits w n = record { fits = lt } in (of_z-to_z w n lt, sfits_to_z small))
    (λ z good. (to_z-of_z w z good, (Fits-of_z good).fits))

id_length : (id : List ℕ) → is_uid id ≡ true → length id ≡ 11
id_length id valid =
    let long = and_parts (nat_eq (length id) 11 && is_ascii_alphabetic (slice_index id 0)) (list_all is_ascii_alphanumeric id) valid in
    eqb-true (length id) 11 (and_parts (nat_eq (length id) 11) (is_ascii_alphabetic (slice_index id 0)) long.0).0

some-if : {A : Type 0} (b : Bool) (x z : A) → cond b (Some x) None ≡ Some z → (b ≡ true) × (x ≡ z)
some-if true x z e = (refl, cc)
some-if false x z e = absurd (cc)

uid_of-valid : (id : List ℕ) → is_uid id ≡ true → uid_of id ≡ Some id
uid_of-valid id valid = ap (λ b. cond b (Some id) None) valid

pub id_codec : IsCodec (λ id. id) id_at IsId
unfolding id_at
id_codec =
    refined_codec uid_of (λ id. id) IsId (bytes_codec 11)
    (λ x y fits len e. let p = some-if (is_uid x) x y e in (sym p.1, sym (ap is_uid p.1) ∙ p.0))
    (λ id valid. (uid_of-valid id valid, id_length id valid))

id-not_zeros : (id : List ℕ) → is_uid id ≡ true → bytes_eq id no_id ≡ false
id-not_zeros id valid =
    elim (bytes_eq id no_id) as (λ b. bytes_eq id no_id ≡ b → b ≡ false) [
      | true ↦ λ same.
          let zeros : id ≡ no_id = (bytes_eq-Decides id no_id).0 same in
          let none : is_uid no_id ≡ true = sym (ap is_uid zeros) ∙ valid in
          absurd (cc)
      | false ↦ λ other. refl
    ] refl

optional-meant : (x : List ℕ) (o : Option (List ℕ)) → optional_id_of x ≡ Some o → (optional_id o ≡ x) × IfSome o IsId
optional-meant x o e =
    elim (bytes_eq x no_id) as (λ b. bytes_eq x no_id ≡ b → cond b (Some None) (option_map Some (uid_of x)) ≡ Some o → (optional_id o ≡ x) × IfSome o IsId) [
      | true ↦ λ zeros found.
          let same : None ≡ o = cc in
          subst (λ (p : Option (List ℕ)). (optional_id p ≡ x) × IfSome p IsId) same (sym ((bytes_eq-Decides x no_id).0 zeros), tt)
      | false ↦ λ other found.
          let first = map-some Some (uid_of x) o found in
          let p = some-if (is_uid x) x first.0 first.1 in
          subst (λ (q : Option (List ℕ)). (optional_id q ≡ x) × IfSome q IsId) first.2 (sym p.1, sym (ap is_uid p.1) ∙ p.0)
    ] refl e

optional-written : (o : Option (List ℕ)) → IfSome o IsId → (optional_id_of (optional_id o) ≡ Some o) × (length (optional_id o) ≡ 11)
optional-written None valid = (refl, refl)
optional-written (Some id) valid = (rw (id-not_zeros id valid, valid) refl, id_length id valid)

pub optional_id_codec : IsCodec optional_id optional_id_at (λ o. IfSome o IsId)
unfolding optional_id_at
optional_id_codec =
    refined_codec optional_id_of optional_id (λ o. IfSome o IsId) (bytes_codec 11) (λ x o fits len e. optional-meant x o e) optional-written

pub id_text_codec : IsCodec id_text id_text_at IsIdText
id_text_codec = both_codec id_codec (text_codec w16 (2 ^ 16) wide16)
