-- Users by token, and the places in a list of holders.
use Rattle.std.proofs.Common.{◌≡◌, ◌∙◌, ◌+◌, ◌<◌, ◌++◌, ◌∷◌, [], ℕ, Bool, true, false, List, Option, None, Some, cond, length, get_or, map, refl, sym, ap}
use Rattle.std.proofs.Common.{subst, take, arith, find, IfSome, option_map, is_some, Vec, zero, suc, ltb}
use Rattle.std.specs.List.{slice_get}
use Rattle.std.specs.Option.{option_or, option_copied}
use denote.Ref.{Bor}
use Rattle.std.specs.HashMap as hash
use Rattle.std.specs.HashMap.{HashMap}
use Rattle.std.specs.Map.{lookup, IsKeyTest, AreApart, KeepsOthers}
use Rattle.std.specs.declared.alloc.Global.{Global}
use Rattle.std.specs.Cmp.Lexicographic.{nat_list_eq_equiv, bytes_decides}
use Rattle.std.proofs.lemmas.List.{take_more, length-append}
use Rattle.std.proofs.lemmas.Bool.{ltb-true, ltb-false}
use Rattle.dh_metadata.specs.Places.{same_id}
use Rattle.dh_metadata.specs.Linked.{AreBelow, IsBelow}
use Rattle.dh_sharing.specs.declared.rule.UserFacts.{UserFacts}
use Rattle.dh_metadata.specs.declared.held.Records.{Records}
use Rattle.dh_metadata.specs.Users.{user_in, facts_of, AreTokens, TakesToken, AreFactsUpto}

below_tail : (end x : ℕ) (xs : List ℕ) → AreBelow end (x ∷ xs) → AreBelow end xs
below_tail end x xs below = record { each = λ k d within. below.each (suc k) d (omega arith) }

get_end : {A : Type 0} (xs : List A) (x : A) → slice_get (xs ++ x ∷ []) (length xs) ≡ Some x
get_end [] x = refl
get_end (y ∷ xs) x = get_end xs x

get_before : {A : Type 0} (xs : List A) (x : A) (k : ℕ) → k < length xs → slice_get (xs ++ x ∷ []) k ≡ slice_get xs k
get_before [] x k within = absurd (omega arith)
get_before (y ∷ xs) x zero within = refl
get_before (y ∷ xs) x (suc k) within = get_before xs x k (omega arith)

or_none : {A : Type 0} (o : Option A) → option_or o None ≡ o
or_none None = refl
or_none (Some x) = refl

or_there : {A : Type 0} (o p : Option A) → is_some o ≡ true → option_or o p ≡ o
or_there None p there = absurd (cc)
or_there (Some x) p there = refl

pub none_copied : {A : Type 0} (o : Option (Bor A)) → is_some o ≡ false → option_copied o ≡ None
none_copied None none = refl
none_copied (Some x) none = absurd (cc)

pub some_copied : {A : Type 0} (o : Option (Bor A)) → is_some o ≡ true → is_some (option_copied o) ≡ true
some_copied None some = absurd (cc)
some_copied (Some x) some = refl

one_user : (x : List ℕ × ℕ) (token : List ℕ) → cond (same_id token x.0) (Some x.1) None ≡ user_in (x ∷ []) token
one_user x token =
    elim (same_id token x.0) as (λ b. cond b (Some x.1) None ≡ option_map (λ (e : List ℕ × ℕ). e.1) (cond b (Some x) None)) [ true ↦ refl | false ↦ refl ]

user_append : (xs ys : List (List ℕ × ℕ)) (token : List ℕ) → user_in (xs ++ ys) token ≡ option_or (user_in xs token) (user_in ys token)
user_append [] ys token = refl
user_append (x ∷ xs) ys token =
    elim (same_id token x.0) as (λ b. option_map (λ (e : List ℕ × ℕ). e.1) (cond b (Some x) (find (λ e. same_id token e.0) (xs ++ ys)))
    ≡ option_or (option_map (λ (e : List ℕ × ℕ). e.1) (cond b (Some x) (find (λ e. same_id token e.0) xs))) (user_in ys token)) [
      | true ↦ refl
      | false ↦ user_append xs ys token
    ]

-- the user of a token is one of the tokens' users
pub user_below : (end : ℕ) (tokens : List (List ℕ × ℕ)) (token : List ℕ) → AreBelow end (map (λ entry. entry.1) tokens) → IsBelow end (user_in tokens token)
user_below end [] token below = tt
user_below end (entry ∷ tokens) token below =
    elim (same_id token entry.0) as (λ b. IfSome (option_map (λ (e : List ℕ × ℕ). e.1) (cond b (Some entry) (find (λ e. same_id token e.0) tokens))) (λ n.
    n < end)) [
      | true ↦ below.each 0 0 (omega arith)
      | false ↦ user_below end tokens token (below_tail end entry.1 (map (λ e. e.1) tokens) below)
    ]

-- facts of one user more
pub facts_more : (r : Records) (count : ℕ) (facts : List UserFacts) (fact : UserFacts) → AreFactsUpto r count facts → fact ≡ facts_of r count
    → AreFactsUpto r (count + 1) (facts ++ fact ∷ [])
facts_more r count facts fact so_far is = record {
  same_length = omega (arith, so_far.same_length, length-append facts (fact ∷ []));
  each = λ user below.
      elim (ltb user count) as (λ b. ltb user count ≡ b → slice_get (facts ++ fact ∷ []) user ≡ Some (facts_of r user)) [
        | true ↦ λ less.
            let before : user < count = ltb-true user count less in
            let inside : user < length facts = omega (arith, so_far.same_length) in
            get_before facts fact user inside ∙ so_far.each user before
        | false ↦ λ more.
            let last : user ≡ count = omega (arith, ltb-false user count more) in
            let end : user ≡ length facts = last ∙ sym so_far.same_length in
            ap (slice_get (facts ++ fact ∷ [])) end ∙ get_end facts fact ∙ ap (λ f. Some f) (is ∙ ap (facts_of r) (sym last))
      ] refl;
}

apart : (bs cs ks : List ℕ) → same_id bs cs ≡ false → same_id bs ks ≡ true → same_id cs ks ≡ false
apart bs cs ks n y = nat_list_eq_equiv.symm cs ks ∙ sym (nat_list_eq_equiv.congr bs ks cs y) ∙ n

module _ {K : Type 0} (eq : K → K → Bool) (test : K → Bool) where
  other_entries : {X : Type 0} (old new : List (K × X)) → KeepsOthers eq test old new → (other : K → Bool) → IsKeyTest eq other → AreApart test other
      → lookup other new ≡ lookup other old
  unfolding KeepsOthers
  other_entries old new h = h

-- a token more that isn't there
pub token_put : {S : Type 0} (old new : HashMap (Vec ℕ Global) ℕ S) (key : Vec ℕ Global) (user : ℕ)
    → hash.UpdatesBy (λ (x y : Vec ℕ Global). same_id x.items y.items) (λ (k : Vec ℕ Global). same_id key.items k.items) old new (Some user)
    → hash.get_by (λ (k : Vec ℕ Global). same_id key.items k.items) old ≡ None → TakesToken key.items user old new
token_put old new key user h absent other =
    elim (same_id other key.items) as (λ b. same_id other key.items ≡ b → hash.get_by (λ (k : Vec ℕ Global). same_id other k.items) new
    ≡ option_or (hash.get_by (λ (k : Vec ℕ Global). same_id other k.items) old) (cond b (Some user) None)) [
      | true ↦ λ same.
          let equal : other ≡ key.items = (bytes_decides other key.items).0 same in
          subst (λ q. hash.get_by (λ (k : Vec ℕ Global). same_id q k.items) new
          ≡ option_or (hash.get_by (λ (k : Vec ℕ Global). same_id q k.items) old) (Some user)) (sym equal)
          (h.1 ∙ sym (ap (λ o. option_or o (Some user)) absent))
      | false ↦ λ differ.
          let back : same_id key.items other ≡ false = nat_list_eq_equiv.symm key.items other ∙ differ in
          other_entries _ _ _ _ h.3 _ (λ x y. nat_list_eq_equiv.congr other x.items y.items) (λ k. apart key.items other k.items back)
          ∙ sym (or_none (hash.get_by (λ (k : Vec ℕ Global). same_id other k.items) old))
    ] refl

-- a token that is there
pub token_kept : {S : Type 0} (users : HashMap (Vec ℕ Global) ℕ S) (token : List ℕ) (user : ℕ)
    → is_some (hash.get_by (λ (k : Vec ℕ Global). same_id token k.items) users) ≡ true → TakesToken token user users users
token_kept users token user there other =
    elim (same_id other token) as (λ b. same_id other token ≡ b → hash.get_by (λ (k : Vec ℕ Global). same_id other k.items) users
    ≡ option_or (hash.get_by (λ (k : Vec ℕ Global). same_id other k.items) users) (cond b (Some user) None)) [
      | true ↦ λ same.
          let equal : other ≡ token = (bytes_decides other token).0 same in
          sym (or_there (hash.get_by (λ (k : Vec ℕ Global). same_id other k.items) users) (Some user)
          (subst (λ q. is_some (hash.get_by (λ (k : Vec ℕ Global). same_id q k.items) users) ≡ true) (sym equal) there))
      | false ↦ λ differ. sym (or_none (hash.get_by (λ (k : Vec ℕ Global). same_id other k.items) users))
    ] refl

-- the tokens so far and one more
pub tokens_more : {S : Type 0} (tokens : List (List ℕ × ℕ)) (i : ℕ) (x : List ℕ × ℕ) (old new : HashMap (Vec ℕ Global) ℕ S) → i < length tokens
    → x ≡ get_or tokens i x
    → AreTokens (take i tokens) old → TakesToken x.0 x.1 old new → AreTokens (take (i + 1) tokens) new
tokens_more tokens i x old new within is so_far takes token =
    takes token ∙ ap (λ o. option_or o (cond (same_id token x.0) (Some x.1) None)) (so_far token)
    ∙ ap (λ o. option_or (user_in (take i tokens) token) o) (one_user x token)
    ∙ sym (user_append (take i tokens) (x ∷ []) token)
    ∙ ap (λ l. user_in l token) (sym (take_more tokens i x within ∙ ap (λ y. take i tokens ++ y ∷ []) (sym is)))
