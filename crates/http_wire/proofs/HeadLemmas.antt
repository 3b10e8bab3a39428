-- A head of few lines has few fields, and what is read of it is one thing.
use Rattle.std.proofs.Common.{◌≡◌, ◌≢◌, ◌∙◌, ℕ, ◌+◌, ◌≤◌, List, [], ◌∷◌, ◌++◌, length, drop, map, Option, Some, None, Result, Ok, Err, refl, sym}
use Rattle.std.proofs.Common.{ap, subst, arith, append-nil, append_assoc, nat_eq, cond, Bool, IfOk}
use Rattle.std.specs.Prelude.{codes}
use Rattle.std.proofs.lemmas.List.Sums.{sum_by-append}
use Rattle.std.proofs.Math.Seq.{drop-length}
use Rattle.std.specs.List.{count_by, flat_map}
use Rattle.httparse.specs.Grammar.{RequestHead, ReadsRequest, Field, LineEnd, lf, crlf, print_end, print_field, print_section, print_request, print_blank}
use Rattle.httparse.specs.Grammar.{print_version}
use Rattle.httparse.specs.Spans.{RequestOverflows, name_and_value}
use Rattle.httparse.specs.declared.Error.{Error}
use Rattle.httparse.specs.declared.Status.{Status}
use Rattle.httparse.specs.declared.Status.TheVariants.{Complete}
use Rattle.httparse.specs.Outcome.{IfComplete}
use Rattle.httparse.proofs.GrammarLemmas.{request_unique}
use Rattle.dh_base.specs.Memory.{Answers}
use Rattle.dh_base.specs.declared.codes.Code.{Code}
use Rattle.http_wire.specs.Fields as fields
use Rattle.http_wire.specs.Lines.{field_lines}
use Rattle.http_wire.specs.Head.{Parts, parts_of, IsRead, said_by, meant_by, cause_of, Tells, head_with}
use Rattle.http_wire.specs.Fields.{path_of, query_of, token_of, last_named, is_kept}
use Rattle.http_wire.specs.declared.plan.Plan.{Plan}
use Rattle.http_wire.specs.declared.head.Head.{Head}
use Rattle.http_wire.specs.declared.head.HeadFault.{HeadFault}
use Rattle.http_wire.specs.declared.head.HeadFault.TheVariants as fault

-- the line feeds of a text
abbrev feeds : List ℕ → ℕ
feeds text = count_by (λ b. nat_eq b 10) text

feeds_append : (a b : List ℕ) → feeds (a ++ b) ≡ feeds a + feeds b
feeds_append a b = sum_by-append (λ x. cond (nat_eq x 10) 1 0) a b

feeds_end : (end : LineEnd) → feeds (print_end end) ≡ 1
feeds_end crlf = refl
feeds_end lf = refl

feeds_field : (f : Field) → 1 ≤ feeds (print_field f)
feeds_field f =
    let e = feeds_end f.end in
    let whole : print_field f ≡ (f.name ++ 58 ∷ f.raw) ++ print_end f.end = refl in
    let parted : feeds (print_field f) ≡ feeds (f.name ++ 58 ∷ f.raw) + feeds (print_end f.end) = ap feeds whole
    ∙ feeds_append (f.name ++ 58 ∷ f.raw) (print_end f.end) in
    omega arith

feeds_fields : (fs : List Field) → length fs ≤ feeds (flat_map print_field fs)
feeds_fields [] = omega arith
feeds_fields (f ∷ fs) =
    let more = feeds_fields fs in
    let here = feeds_field f in
    let sum = feeds_append (print_field f) (flat_map print_field fs) in
    omega arith

feeds_head : (h : RequestHead) → length h.fields + 2 ≤ feeds (print_request h)
unfolding print_request
feeds_head h =
    let front : List ℕ = print_blank h.blank ++ h.method ++ 32 ∷ h.target ++ 32 ∷ print_version h.minor in
    let all : print_request h ≡ front ++ (print_end h.line_end ++ print_section h.fields h.last) =
    append_assoc front (print_end h.line_end) (print_section h.fields h.last) in
    let parted : feeds (print_request h) ≡ feeds front + feeds (print_end h.line_end ++ print_section h.fields h.last) =
    ap feeds all ∙ feeds_append front (print_end h.line_end ++ print_section h.fields h.last) in
    let line = feeds_append (print_end h.line_end) (print_section h.fields h.last) in
    let section : feeds (print_section h.fields h.last) ≡ feeds (flat_map print_field h.fields) + feeds (print_end h.last) =
    feeds_append (flat_map print_field h.fields) (print_end h.last) in
    let one = feeds_end h.line_end in
    let two = feeds_end h.last in
    let fs = feeds_fields h.fields in
    omega arith

few_fields : (bytes : List ℕ) (h : RequestHead) → ReadsRequest bytes h [] → field_lines bytes ≤ 64 → length h.fields ≤ 64
few_fields bytes h reads few =
    let same : feeds bytes ≡ feeds (print_request h) = ap feeds (reads.1 ∙ append-nil (print_request h)) in
    let many = feeds_head h in
    omega arith

-- an answer that ends elsewhere
pub none_whole : (bytes : List ℕ) (k : RequestHead) (end : ℕ) → ReadsRequest bytes k (drop end bytes) → end ≡ length (print_request k) → end ≢ length bytes
    → IsRead bytes None
none_whole bytes k end reads len apart h whole =
    let same = request_unique bytes k h (drop end bytes) [] reads whole in
    let all : bytes ≡ print_request k = whole.1 ∙ append-nil (print_request h) ∙ ap print_request (sym same.0) in
    apart (len ∙ ap length (sym all))

-- no room for the fields
pub none_roomy : (bytes : List ℕ) (room : ℕ) → field_lines bytes ≤ 64 → room ≡ 64 → RequestOverflows room bytes → IsRead bytes None
none_roomy bytes room few at over h whole =
    let fits = few_fields bytes h whole few in
    let many = over [] h [] (subst (λ text. ReadsRequest text h []) (sym (append-nil bytes)) whole) in
    absurd (omega arith)

-- what is said by a head that was read
pub whole_read : (bytes : List ℕ) (k : RequestHead) (end : ℕ) (parts : Parts) → ReadsRequest bytes k (drop end bytes) → end ≡ length bytes → parts ≡ parts_of k
    → (meant : Result Head Code) → meant ≡ said_by parts → (found : Option Parts) × IsRead bytes found × (meant ≡ meant_by found)
whole_read bytes k end parts reads all same meant said =
    let nothing : drop end bytes ≡ [] = ap (λ n. drop n bytes) all ∙ drop-length bytes in
    (Some parts, (k, subst (λ rest. ReadsRequest bytes k rest) nothing reads, same), said)

-- what holds of what is meant holds of what the answer says
pub tells : (Meant : Result Head Code → Type 0) (meant : Result Head Code) (r : Result Head HeadFault) → Meant meant → Answers cause_of meant r → Tells Meant r
tells Meant meant (Ok head) holds is = subst Meant is holds
tells Meant meant (Err (fault.Refused code)) holds is = subst Meant is holds
tells Meant meant (Err fault.Memory) holds is = tt

-- what a whole head is, where the answer is known by an equation
pub held_by : (status : Status ℕ) (end : ℕ) (Held : ℕ → Type 0) → status ≡ Complete end → IfComplete {A = ℕ} {E = Error} (Ok status) Held → Held end
held_by status end Held same held = subst (λ s. IfComplete {A = ℕ} {E = Error} (Ok s) Held) same held

-- the parts that were read are those of the head
pub parts_held : (k : RequestHead) (method target : List ℕ) (minor : ℕ) (parts : List fields.Field) → Some method ≡ Some k.method → Some target ≡ Some k.target
    → Some minor ≡ Some k.minor
    → parts ≡ map name_and_value k.fields → ◌≡◌ {A = Parts} (record { method = method; target = target; minor = minor; fields = parts }) (parts_of k)
parts_held k method target minor parts a b m f =
    let aa : method ≡ k.method = cc in
    let bb : target ≡ k.target = cc in
    let mm : minor ≡ k.minor = cc in
    ap (λ x. record { method = x; target = target; minor = minor; fields = parts }) aa
    ∙ ap (λ x. record { method = k.method; target = x; minor = minor; fields = parts }) bb
    ∙ ap (λ x. record { method = k.method; target = k.target; minor = x; fields = parts }) mm
    ∙ ap (λ x. record { method = k.method; target = k.target; minor = k.minor; fields = x }) f

-- ---- what a head says, copied

pub ok_of : {A E : Type 0} (r : Result A E) (Holds : A → Type 0) (a : A) → IfOk r Holds → r ≡ Ok a → Holds a
ok_of r Holds a holds is = subst (λ x. IfOk x Holds) is holds

pub both_ok : {A B E : Type 0} (first : Result A E) (second : Result B E) (both : Result (A × B) E) (pair : A × B)
    → IfOk both (λ p. (first ≡ Ok p.0) × (second ≡ Ok p.1)) → both ≡ Ok pair → (first ≡ Ok pair.0) × (second ≡ Ok pair.1)
both_ok first second both pair holds is = subst (λ x. IfOk x (λ p. (first ≡ Ok p.0) × (second ≡ Ok p.1))) is holds

pub head_from : (parts : Parts) (plan : Plan) (method path query : List ℕ) (token asked : Option (List ℕ)) (keep : Bool) → method ≡ parts.method
    → path ≡ path_of parts.target → query ≡ query_of parts.target → token ≡ token_of parts.fields
    → asked ≡ last_named (codes "x-min-change") parts.fields → keep ≡ is_kept parts.minor parts.fields
    → head_with parts plan
    ≡ record { method = method; path = path; query = query; token = token; asked = asked; keep = keep; plan = plan }
head_from parts plan method path query token asked keep m p q t a k = rw (m, p, q, t, a, k) refl
