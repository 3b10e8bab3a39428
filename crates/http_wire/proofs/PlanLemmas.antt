-- What the tests of the fields, one after another, say of the framing.
use Rattle.std.proofs.Common.{◌≡◌, ◌∙◌, ℕ, ◌≤◌, Bool, true, false, List, sym, ap}
use Rattle.std.proofs.lemmas.Bool.{le-ltb}
use Rattle.std.specs.Prelude.{◌&&◌, ◌||◌, codes, nat_lt}
use Rattle.std.specs.List.{list_any}
use Rattle.http_wire.specs.Fields.{Field, count_named, gives_length, gives_bad_length, names_transfer, names_other_transfer}
use Rattle.http_wire.specs.Plan.{is_badly_framed}

-- a length beside a transfer coding
abbrev pub both : List Field → Bool
both fields = list_any gives_length fields && list_any names_transfer fields

-- by its two tests, of which the second isn't made where the first fails
pub both_tested : (fields : List Field) (one v : Bool) → one ≡ list_any gives_length fields → one ≡ true → v ≡ list_any names_transfer fields
    → v ≡ both fields
both_tested fields one v is held told = told ∙ sym (ap (λ b. b && list_any names_transfer fields) (sym is ∙ held))

pub one_tested : (fields : List Field) (one v : Bool) → one ≡ list_any gives_length fields → one ≡ false → v ≡ one → v ≡ both fields
one_tested fields one v is failed same = same ∙ failed ∙ sym (ap (λ b. b && list_any names_transfer fields) (sym is ∙ failed))

-- one length at most, and none that is bad
pub framed_by : (fields : List Field) (n : ℕ) (bad v : Bool) → n ≡ count_named (codes "content-length") fields → n ≤ 1
    → bad ≡ list_any gives_bad_length fields → bad ≡ false → v ≡ (both fields || list_any names_other_transfer fields) → v ≡ is_badly_framed fields
unfolding is_badly_framed
framed_by fields n bad v counted few is failed told =
    let rest : Bool = both fields || list_any names_other_transfer fields in
    told
    ∙ sym (ap (λ k. nat_lt 1 k || (list_any gives_bad_length fields || rest)) (sym counted)
    ∙ ap (λ b. b || (list_any gives_bad_length fields || rest)) (le-ltb 1 n few) ∙ ap (λ b. b || rest) (sym is ∙ failed))

-- such fields where a length stands beside a transfer coding, and where none does
pub framed_both : (fields : List Field) (n : ℕ) (bad v : Bool) → n ≡ count_named (codes "content-length") fields → n ≤ 1
    → bad ≡ list_any gives_bad_length fields → bad ≡ false → v ≡ true → v ≡ both fields → v ≡ is_badly_framed fields
framed_both fields n bad v counted few is failed held told =
    framed_by fields n bad v counted few is failed (held ∙ sym (ap (λ b. b || list_any names_other_transfer fields) (sym told ∙ held)))

pub framed_other : (fields : List Field) (n : ℕ) (bad u v : Bool) → n ≡ count_named (codes "content-length") fields → n ≤ 1
    → bad ≡ list_any gives_bad_length fields → bad ≡ false → u ≡ false → v ≡ list_any names_other_transfer fields → u ≡ both fields
    → v ≡ is_badly_framed fields
framed_other fields n bad u v counted few is failed none told same =
    framed_by fields n bad v counted few is failed (told ∙ sym (ap (λ b. b || list_any names_other_transfer fields) (sym same ∙ none)))
