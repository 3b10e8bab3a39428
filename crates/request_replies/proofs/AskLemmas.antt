-- A query that is read can be answered.
use Rattle.std.proofs.Common.{◌≡◌, ◌∙◌, ℕ, ◌<◌, true, ◌&&◌, List, [], ◌∷◌, length, nat_lt, refl, ap, arith}
use Rattle.std.specs.List.{AllByRecursion, list_all}
use Rattle.dh_metadata.specs.declared.held.Records.{Records}
use Rattle.query_lang.specs.declared.plain.Dx.{Dx}
use Rattle.query_lang.specs.declared.plain.DxKind.{DxKind}
use Rattle.query_lang.specs.declared.plain.DxKind.TheVariants as dx
use Rattle.query_lang.specs.declared.plain.Query.{Query}
use Rattle.dh_metadata.specs.Objects.{count_of}
use Rattle.query_lang.specs.Askable.{kind_of, IsAsked, IsAskable}
use Rattle.query_answer.specs.Asked.{can_answer_kind, can_answer_dx, CanAnswer}

lt-test : (m n : ℕ) → m < n → nat_lt m n ≡ true
lt-test m n less = grind arith

kind-can : (r : Records) (k : DxKind) (n : ℕ) → n < count_of r (kind_of k) → can_answer_kind r n k ≡ true
kind-can r dx.Element n below = lt-test n (length r.data_elements) below
kind-can r dx.Indicator n below = lt-test n (length r.indicators) below
kind-can r dx.ProgramIndicator n below = lt-test n (length r.program_indicators) below
kind-can r (dx.Rate figure) n below = lt-test n (length r.data_sets) below

dx-can : (r : Records) (user : ℕ) (d : Dx) → IsAsked r user d → can_answer_dx r d ≡ true
unfolding can_answer_dx
dx-can r user d is = kind-can r d.kind d.number is.seen.in_range

all-can : (r : Records) (user : ℕ) (ds : List Dx) → AllByRecursion (IsAsked r user) ds → list_all (can_answer_dx r) ds ≡ true
all-can r user [] all = refl
all-can r user (d ∷ ds) all = ap (λ b. b && list_all (can_answer_dx r) ds) (dx-can r user d all.0) ∙ all-can r user ds all.1

-- a query that is read has items that can be answered, a period and units that are there
pub can_answer : (r : Records) (user : ℕ) (query : Query) → IsAskable r user query → CanAnswer r query
can_answer r user query is = record { dx = all-can r user query.dx is.dx; periods = is.periods; units = record { each = is.in_range } }
