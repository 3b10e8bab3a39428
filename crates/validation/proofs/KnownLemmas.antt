-- Values that are known, each that of the item that its key stands for.
use Rattle.std.proofs.Common.{◌≡◌, ◌∙◌, Bool, true, false, cond, List, [], Option, Some, None, Ordering, Less, Equal, Greater, refl, sym, ap, subst}
use Rattle.std.specs.Prelude.{IfSome}
use Rattle.std.specs.BTreeMap.{is_at}
use Rattle.std.specs.Cmp.Lexicographic.{slice_cmp}
use Rattle.std.specs.FinMap.{IsAntisymmetric, nat_cmp-IsAntisymmetric, slice_cmp-IsAntisymmetric}
use Rattle.std.specs.Map.{lookup}
use Rattle.std.specs.Option.{option_cmp}
use Rattle.std.specs.Ordering.{is_eq, nat_cmp, ordering_then}
use Rattle.std.proofs.lemmas.Bool.{false≢true}
use Rattle.dh_base.specs.Fractions.{Fraction}
use Rattle.expr_lang.specs.declared.tree.Item.{Item}
use Rattle.validation.specs.declared.known.ItemKey.{ItemKey}
use Rattle.validation.specs.Known.{item_of, key_cmp, AreKnown, IsNoted}

-- ---- keys that stand equal are one

both_equal : (o rest : Ordering) → ordering_then o rest ≡ Equal → (o ≡ Equal) × (rest ≡ Equal)
both_equal Less rest e = absurd (cc)
both_equal Equal rest e = (refl, e)
both_equal Greater rest e = absurd (cc)

same_option : {K : Type 0} (cmp : K → K → Ordering) → IsAntisymmetric cmp → IsAntisymmetric (option_cmp cmp)
same_option cmp same None None e = refl
same_option cmp same None (Some y) e = absurd (cc)
same_option cmp same (Some x) None e = absurd (cc)
same_option cmp same (Some x) (Some y) e = ap Some (same x y e)

same_id : IsAntisymmetric (slice_cmp nat_cmp)
same_id = slice_cmp-IsAntisymmetric nat_cmp-IsAntisymmetric

same_key : IsAntisymmetric key_cmp
same_key a b e =
    let combos = option_cmp (slice_cmp nat_cmp) a.combo b.combo in
    let attributes = option_cmp (slice_cmp nat_cmp) a.attribute b.attribute in
    let one = both_equal (nat_cmp a.code b.code) (ordering_then (slice_cmp nat_cmp a.id b.id) (ordering_then combos attributes)) e in
    let two = both_equal (slice_cmp nat_cmp a.id b.id) (ordering_then combos attributes) one.1 in
    let three = both_equal combos attributes two.1 in
    let code = nat_cmp-IsAntisymmetric a.code b.code one.0 in
    let id = same_id a.id b.id two.0 in
    let combo = same_option (slice_cmp nat_cmp) same_id a.combo b.combo three.0 in
    let attribute = same_option (slice_cmp nat_cmp) same_id a.attribute b.attribute three.1 in
    λ i. record { code = code i; id = id i; combo = combo i; attribute = attribute i }

is_equal : (o : Ordering) → is_eq o ≡ true → o ≡ Equal
is_equal Less e = absurd (false≢true e)
is_equal Equal e = refl
is_equal Greater e = absurd (false≢true e)

-- ---- what is known

pub AreKnown-start : (value : Item → Option Fraction) → AreKnown value []
unfolding AreKnown
AreKnown-start value key = tt

-- one value more
pub AreKnown-more : (value : Item → Option Fraction) (old new : List (ItemKey × Option Fraction)) (key : ItemKey) (found : Option Fraction)
    → AreKnown value old → found ≡ value (item_of key)
    → IsNoted old new key found → AreKnown value new
unfolding AreKnown
AreKnown-more value old new key found known is updates q =
    subst (λ (o : Option (Option Fraction)). IfSome o (λ v. v ≡ value (item_of q))) (sym (updates q)) (by_test (is_at (key_cmp key) q) refl)
  where
    by_test : (b : Bool) → is_at (key_cmp key) q ≡ b → IfSome (cond b (Some found) (lookup (is_at (key_cmp q)) old)) (λ v. v ≡ value (item_of q))
    by_test true same = is ∙ ap (λ (k : ItemKey). value (item_of k)) (same_key key q (is_equal (key_cmp key q) same))
    by_test false other = known q

-- what is found under the key of an item
pub AreKnown-found : (value : Item → Option Fraction) (entries : List (ItemKey × Option Fraction)) (key : ItemKey) (item : Item) (found : Option Fraction)
    → AreKnown value entries → item_of key ≡ item → lookup (is_at (key_cmp key)) entries ≡ Some found → found ≡ value item
unfolding AreKnown
AreKnown-found value entries key item found known is at =
    subst (λ (o : Option (Option Fraction)). IfSome o (λ v. v ≡ value (item_of key))) at (known key) ∙ ap value is
