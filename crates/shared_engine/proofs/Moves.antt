-- Each step keeps the rule of the two words.
use Rattle.std.proofs.Common.{◌≡◌, ◌≢◌, ◌⊎◌, ℕ, zero, suc, ◌+◌, ◌%◌, ◌^◌, ◌<◌, ◌≤◌, max, List, [], ◌∷◌, ◌++◌, length, set}
use Rattle.std.proofs.Common.{Option, Some, None, IfSome, IsSome, All}
use Rattle.std.proofs.Common.{refl, sym, ap, ◌∙◌, subst, ⊎_elim, inl, inr, arith, length-append, append_assoc, append-nil, le_refl, le_trans}
use Rattle.std.specs.Prelude.{slice_index, unwrap_or}
use mathlib.Core.Option.{none, some, some-injective, some-ne-none}
use mathlib.Core.List.{IsPrefix}
use native.Mathlib.Nat.{max-eq_right}
use lib.ListN.{get_elem?}
use Rattle.atomic_table.specs.Table.{State, Me, Step, Allows, Splits, Joins, step, keeps}
use Rattle.atomic_table.proofs.Lists.{at_set, set_here, set_else}
use Rattle.std.specs.Prelude.{map}
use Rattle.std.proofs.lemmas.List.Elements.{All-cons, All-head, All-map, All-nil, All-push, All-tail, All-weaker}
use Rattle.shared_engine.specs.Views.{own, AreApart, IsOneOf, Settled}
use Rattle.shared_engine.specs.Rule.{Names, IsTold, Fits, FitsOld, IsOut, IsKeptBy, IsKept}
use Rattle.shared_engine.specs.Steps.{opening, spent, with_more, with_caller, new_token, with_nobody, token_back, with_token, with_gone}
use Rattle.shared_engine.specs.Steps.{Stamped, Told, Met, Asked}
use Rattle.shared_engine.specs.declared.views.Known.{Known}
use Rattle.shared_engine.specs.declared.views.View.{View}
use Rattle.shared_engine.specs.declared.views.Old.{Old}
use Rattle.shared_engine.specs.declared.views.Role.TheVariants.{Caller, Lock, Spent}
use Rattle.shared_engine.proofs.ApartLemmas.{apart_push}
use Rattle.shared_engine.proofs.Histories.{wraps, own_other, told_more}

-- a step of which nothing is read
abbrev pub no_step : Step (Unit {0})
no_step = step 0 0 0 0 none

differ : Lock ≡ Caller → ⊥
differ e = absurd (cc)

no_spent : Spent ≡ Caller → ⊥
no_spent e = absurd (cc)

some_same : {A : Type 0} (a b : A) → Some a ≡ Some b → a ≡ b
some_same a b e = cc

no_some : {A : Type 0} (a : A) → None ≡ Some a → ⊥
no_some a e = absurd (cc)

module _ {A : Type 0} where
  there : (l : List A) (a : A) (i : ℕ) → get_elem? l i ≡ some a → i < length l
  there [] a i e = absurd (some-ne-none a (sym e))
  there (x ∷ xs) a zero e = omega arith
  there (x ∷ xs) a (suc i) e = let r : i < length xs = there xs a i e in omega arith

  -- a place in a longer list
  at_snoc : (l : List A) (a b : A) (j : ℕ) → get_elem? (l ++ a ∷ []) j ≡ some b → (get_elem? l j ≡ some b) ⊎ ((j ≡ length l) × (a ≡ b))
  at_snoc [] a b zero e = inr (refl, some-injective a b e)
  at_snoc [] a b (suc j) e = absurd (some-ne-none b (sym e))
  at_snoc (x ∷ xs) a b zero e = inl e
  at_snoc (x ∷ xs) a b (suc j) e = ⊎_elim (λ was. inl was) (λ last. inr (ap suc last.0, last.1)) (at_snoc xs a b j e)

  at_front : (l : List A) (a b : A) → get_elem? l 0 ≡ some b → get_elem? (l ++ a ∷ []) 0 ≡ some b
  at_front [] a b e = absurd (some-ne-none b (sym e))
  at_front (x ∷ xs) a b e = e

  set_twice : (l : List A) (j : ℕ) (a b : A) → j ≢ 0 → set (set l 0 a) j b ≡ set (set l j b) 0 a
  set_twice [] j a b ne = refl
  set_twice (x ∷ xs) zero a b ne = absurd (ne refl)
  set_twice (x ∷ xs) (suc j) a b ne = refl

module _ {E : Type 0} (caller : E → ℕ) (named : E → Option ℕ) where
  by_lock : (v : View E) (s : State (Unit {0}) (View E)) → IsKept caller named s → get_elem? s.views 0 ≡ some v → IsKeptBy caller named v s
  by_lock v s kept at = subst (λ (u : View E). IsKeptBy caller named u s) (some-injective kept.0 v (sym kept.1.at ∙ at)) kept.1

  -- a token's place is not the lock's, and what stood there still stands there
  elsewhere : (views : List (View E)) (w u : View E) (i : ℕ) → w.role ≡ Lock → get_elem? (set views 0 w) i ≡ some u → u.role ≡ Caller
      → (i ≢ 0) × (get_elem? views i ≡ some u)
  elsewhere views w u i lock at is =
      ⊎_elim
      (λ (same : (i ≡ 0) × (w ≡ u)). absurd (differ (sym lock ∙ ap (λ (x : View E). x.role) same.1 ∙ is)))
      (λ (other : (i ≢ 0) × (get_elem? views i ≡ some u)). other)
      (at_set views 0 i w u at)

  -- ---- the tokens and the callers, beside a lock that goes on

  fits_same : (v w : View E) (c : ℕ) (list : List E) (told : ℕ) → w.list ≡ v.list → v.told ≤ w.told → v.count ≤ w.count
      → Fits caller named v c list told → Fits caller named w c list told
  fits_same v w c list told same up more f = record {
    front = subst (λ (l : List E). IsPrefix list l) (sym same) f.front;
    before = le_trans f.before up;
    counted = (let lt : c < v.count = f.counted in omega arith);
    same = ap (λ l. own caller c l) same ∙ f.same;
  }

  fits_more : (v w : View E) (c : ℕ) (list : List E) (told : ℕ) (e : E) → w.list ≡ v.list ++ e ∷ [] → w.told ≡ v.told → w.count ≡ v.count
      → caller e ≢ c → Fits caller named v c list told → Fits caller named w c list told
  fits_more v w c list told e grown same count ne f = record {
    front = subst (λ (l : List E). IsPrefix list l) (sym grown)
        (f.front.0 ++ e ∷ [], sym (append_assoc list f.front.0 (e ∷ [])) ∙ ap (λ l. l ++ e ∷ []) f.front.1);
    before = subst (λ (n : ℕ). told ≤ n) (sym same) f.before;
    counted = subst (λ (n : ℕ). c < n) (sym count) f.counted;
    same = ap (λ l. own caller c l) grown ∙ own_other caller c v.list e ne ∙ f.same;
  }

  -- nobody else's token is touched while the lock's history, callers and who is gone stay
  out_same : (v w u : View E) → w.list ≡ v.list → v.told ≤ w.told → w.count ≡ v.count → w.gone ≡ v.gone → w.taken ≢ Some u.caller
      → IsOut caller named v u → IsOut caller named w u
  out_same v w u list up count gone away o = record {
    fits = fits_same v w u.caller u.list u.told list up (subst (λ (n : ℕ). v.count ≤ n) (sym count) (le_refl v.count)) o.fits;
    first = λ zero_is. ((o.first zero_is).0 ∙ sym count, (o.first zero_is).1 ∙ sym gone);
    away = away;
    here = subst (λ (l : List (Known E)). All (λ (known : Known E). known.caller ≢ u.caller) l) (sym gone) o.here;
  }

  none_kept : (v w : View E) → v.old ≡ None → w.old ≡ v.old → FitsOld caller named w w.old
  none_kept v w blank same = subst (λ (o : Option (Old E)). FitsOld caller named w o) (sym (same ∙ blank)) tt

  -- who is gone, after an entry of another caller
  settled_more : (count : ℕ) (gone : List (Known E)) (list : List E) (e : E) → caller e < count
      → All (λ (known : Known E). known.caller ≢ caller e) gone → Settled caller count gone list → Settled caller count gone (list ++ e ∷ [])
  settled_more count gone list e below others s = record {
    all = all gone others s.all;
    apart = s.apart;
    fresh = λ number late. own_other caller number list e (λ same. let lt : caller e < count = below in omega (arith, same)) ∙ s.fresh number late;
  }
    where
      Knows : List E → Known E → Type 0
      Knows l known = IsPrefix known.list l × (own caller known.caller l ≡ own caller known.caller known.list) × (known.caller < count) × (known.caller ≢ 0)

      knows_more : (known : Known E) → known.caller ≢ caller e → Knows list known → Knows (list ++ e ∷ []) known
      knows_more known other knows = (
        (knows.0.0 ++ e ∷ [], sym (append_assoc known.list knows.0.0 (e ∷ [])) ∙ ap (λ l. l ++ e ∷ []) knows.0.1),
        own_other caller known.caller list e (λ same. other (sym same)) ∙ knows.1,
        knows.2,
        knows.3,
      )

      all : (gone : List (Known E)) → All (λ (known : Known E). known.caller ≢ caller e) gone → All (Knows list) gone → All (Knows (list ++ e ∷ [])) gone
      all [] others knows = All-nil (Knows (list ++ e ∷ []))
      all (known ∷ gone) others knows =
          All-cons (Knows (list ++ e ∷ [])) known gone
          (knows_more known (All-head (λ (one : Known E). one.caller ≢ caller e) known gone others) (All-head (Knows list) known gone knows))
          (all gone (All-tail (λ (one : Known E). one.caller ≢ caller e) known gone others) (All-tail (Knows list) known gone knows))

  settled_count : (count : ℕ) (gone : List (Known E)) (list : List E) → Settled caller count gone list → Settled caller (count + 1) gone list
  settled_count count gone list s = record {
    all = All-weaker (λ (known : Known E). IsPrefix known.list list × (own caller known.caller list ≡ own caller known.caller known.list)
        × (known.caller < count) × (known.caller ≢ 0))
        (λ (known : Known E). IsPrefix known.list list × (own caller known.caller list ≡ own caller known.caller known.list)
        × (known.caller < count + 1) × (known.caller ≢ 0))
        (λ known knows. (knows.0, knows.1, (let lt : known.caller < count = knows.2 in omega arith), knows.3)) gone s.all;
    apart = s.apart;
    fresh = λ number late. s.fresh number (omega arith);
  }

  numbers_push : (gone : List (Known E)) (known : Known E)
      → map (λ (one : Known E). one.caller) (gone ++ known ∷ []) ≡ map (λ (one : Known E). one.caller) gone ++ known.caller ∷ []
  numbers_push [] known = refl
  numbers_push (one ∷ gone) known = ap (λ l. one.caller ∷ l) (numbers_push gone known)

  -- one caller more is gone
  settled_gone : (v w : View E) → w.caller ≢ 0 → IsOut caller named v w → Settled caller v.count v.gone v.list
      → Settled caller v.count (v.gone ++ record { caller = w.caller; list = w.list } ∷ []) v.list
  settled_gone v w other o s = record {
    all = All-push (λ (known : Known E). IsPrefix known.list v.list × (own caller known.caller v.list ≡ own caller known.caller known.list)
        × (known.caller < v.count) × (known.caller ≢ 0)) v.gone (record { caller = w.caller; list = w.list }) s.all
        (o.fits.front, o.fits.same, o.fits.counted, other);
    apart = subst (λ (l : List ℕ). AreApart l) (sym (numbers_push v.gone (record { caller = w.caller; list = w.list })))
        (apart_push (map (λ (one : Known E). one.caller) v.gone) w.caller s.apart
        (All-map (λ (n : ℕ). n ≢ w.caller) (λ (one : Known E). one.caller) v.gone o.here));
    fresh = s.fresh;
  }

  -- the lock's seat moves on
  moved : (s : State (Unit {0}) (View E)) (v w : View E) (ws : List ℕ) → IsKeptBy caller named v s → w.role ≡ Lock
      → ws ≡ (length w.list % 2 ^ 64) ∷ w.told ∷ [] → IsTold caller named w.list w.told
      → ((i : ℕ) (u : View E) → get_elem? s.views i ≡ some u → u.role ≡ Caller → IsOut caller named w u)
      → Settled caller w.count w.gone w.list
      → IfSome w.taken (λ number. (number < w.count) × All (λ (known : Known E). known.caller ≢ number) w.gone)
      → FitsOld caller named w w.old
      → IsKeptBy caller named w (record { words = ws; homes = s.homes; views = set s.views 0 w })
  moved s v w ws k lock words told tokens settled taken old = record {
    at = set_here s.views 0 w (there s.views v 0 k.at);
    role = lock;
    words = words;
    told = told;
    tokens = λ i u e is. let was = elsewhere s.views w u i lock e is in tokens i u was.1 is;
    apart = λ i j x y ei ej xi yi same. k.apart i j x y (elsewhere s.views w x i lock ei xi).1 (elsewhere s.views w y j lock ej yi).1 xi yi same;
    settled = settled;
    taken = taken;
    old = old;
  }

  -- a token's view, or that of one that is spent, takes the place of a token's
  replaced : (s : State (Unit {0}) (View E)) (lock p q : View E) (seat : ℕ) → IsKeptBy caller named lock s → seat ≢ 0
      → get_elem? s.views seat ≡ some p
      → (q.role ≡ Caller → (p.role ≡ Caller) × (q.caller ≡ p.caller) × IsOut caller named lock q)
      → IsKeptBy caller named lock (record { words = s.words; homes = s.homes; views = set s.views seat q })
  replaced s lock p q seat k off at fits = record {
    at = set_else s.views seat 0 q (λ e. off (sym e)) ∙ k.at;
    role = k.role;
    words = k.words;
    told = k.told;
    tokens = λ i u e is. tokens i u e is;
    apart = λ i j x y ei ej xi yi same.
        let a = was i x ei xi in let b = was j y ej yi in
        k.apart i j a.0 b.0 a.1 b.1 a.2 b.2 (sym a.3 ∙ same ∙ b.3);
    settled = k.settled;
    taken = k.taken;
    old = k.old;
  }
    where
      was : (i : ℕ) (u : View E) → get_elem? (set s.views seat q) i ≡ some u → u.role ≡ Caller
          → (x : View E) × (get_elem? s.views i ≡ some x) × (x.role ≡ Caller) × (u.caller ≡ x.caller)
      was i u e is =
          ⊎_elim
          (λ (same : (i ≡ seat) × (q ≡ u)).
          let f = fits (ap (λ (x : View E). x.role) same.1 ∙ is) in
          (p, subst (λ (n : ℕ). get_elem? s.views n ≡ some p) (sym same.0) at, f.0, sym (ap (λ (x : View E). x.caller) same.1) ∙ f.1))
          (λ (other : (i ≢ seat) × (get_elem? s.views i ≡ some u)). (u, other.1, is, refl))
          (at_set s.views seat i q u e)

      tokens : (i : ℕ) (u : View E) → get_elem? (set s.views seat q) i ≡ some u → u.role ≡ Caller → IsOut caller named lock u
      tokens i u e is =
          ⊎_elim
          (λ (same : (i ≡ seat) × (q ≡ u)).
          subst (λ (x : View E). IsOut caller named lock x) same.1 (fits (ap (λ (x : View E). x.role) same.1 ∙ is)).2)
          (λ (other : (i ≢ seat) × (get_elem? s.views i ≡ some u)). k.tokens i u other.1 is)
          (at_set s.views seat i q u e)

  -- a new token comes last
  split : (s : State (Unit {0}) (View E)) (lock q : View E) → IsKeptBy caller named lock s → IsOut caller named lock q
      → ((i : ℕ) (u : View E) → get_elem? s.views i ≡ some u → u.role ≡ Caller → u.caller ≢ q.caller)
      → IsKeptBy caller named lock (record { words = s.words; homes = s.homes; views = s.views ++ q ∷ [] })
  split s lock q k out new = record {
    at = at_front s.views q lock k.at;
    role = k.role;
    words = k.words;
    told = k.told;
    tokens = λ i u e is.
        ⊎_elim (λ (was : get_elem? s.views i ≡ some u). k.tokens i u was is)
        (λ (last : (i ≡ length s.views) × (q ≡ u)). subst (λ (x : View E). IsOut caller named lock x) last.1 out)
        (at_snoc s.views q u i e);
    apart = λ i j x y ei ej xi yi same. apart i j x y xi yi same (at_snoc s.views q x i ei) (at_snoc s.views q y j ej);
    settled = k.settled;
    taken = k.taken;
    old = k.old;
  }
    where
      apart : (i j : ℕ) (x y : View E) → x.role ≡ Caller → y.role ≡ Caller → x.caller ≡ y.caller
          → (get_elem? s.views i ≡ some x) ⊎ ((i ≡ length s.views) × (q ≡ x))
          → (get_elem? s.views j ≡ some y) ⊎ ((j ≡ length s.views) × (q ≡ y)) → i ≡ j
      apart i j x y xi yi same (inl a) (inl b) = k.apart i j x y a b xi yi same
      apart i j x y xi yi same (inl a) (inr b) = absurd (new i x a xi (same ∙ sym (ap (λ (z : View E). z.caller) b.1)))
      apart i j x y xi yi same (inr a) (inl b) = absurd (new j y b yi (sym same ∙ sym (ap (λ (z : View E). z.caller) a.1)))
      apart i j x y xi yi same (inr a) (inr b) = a.0 ∙ sym b.0

  -- ---- the steps of the lock's seat

  stamped : (s : State (Unit {0}) (View E)) (v : View E) (e : E) → v.old ≡ None → v.taken ≡ Some (caller e) → IsKeptBy caller named v s
      → IsKeptBy caller named (with_more (e ∷ []) v)
      (record { words = set s.words 0 ((slice_index s.words 0 + 1) % 2 ^ 64); homes = s.homes; views = set s.views 0 (with_more (e ∷ []) v) })
  stamped s v e blank taken k =
      moved s v (with_more (e ∷ []) v) (set s.words 0 ((slice_index s.words 0 + 1) % 2 ^ 64)) k k.role
      (ap (λ ws. set ws 0 ((slice_index ws 0 + 1) % 2 ^ 64)) k.words
      ∙ ap (λ (n : ℕ). n ∷ v.told ∷ []) (wraps (length v.list) (2 ^ 64) ∙ ap (λ (n : ℕ). n % 2 ^ 64) (sym (length-append v.list (e ∷ [])))))
      (told_more named caller v.list (e ∷ []) v.told k.told)
      (λ i u at is. let o = k.tokens i u at is in record {
        fits = fits_more v (with_more (e ∷ []) v) u.caller u.list u.told e refl refl refl (λ same. o.away (taken ∙ ap (λ (n : ℕ). Some n) same)) o.fits;
        first = o.first;
        away = o.away;
        here = o.here;
      })
      (settled_more v.count v.gone v.list e here.0 here.1 k.settled)
      k.taken
      (none_kept v (with_more (e ∷ []) v) blank refl)
    where
      here : (caller e < v.count) × All (λ (known : Known E). known.caller ≢ caller e) v.gone
      here = subst (λ (o : Option ℕ). IfSome o (λ number. (number < v.count) × All (λ (known : Known E). known.caller ≢ number) v.gone)) taken k.taken

  pub stamps : (slots seat : ℕ) (me : Me (Unit {0}) (View E)) (added : List E) → seat ≡ 0 → me.0.old ≡ None → IsOneOf caller me.0.taken added
      → Allows (IsKept caller named) slots seat me 0 (λ n. (n + 1) % 2 ^ 64) (Stamped added no_step me)
  stamps slots seat me added first blank one =
      subst (λ (n : ℕ). Allows (IsKept caller named) slots n me 0 (λ n. (n + 1) % 2 ^ 64) (Stamped added no_step me)) (sym first)
      (λ s kept long at small.
      let w = with_more added me.0 in (
        w,
        keeps,
        tt,
        (
          w,
          subst (λ (l : List E). IsKeptBy caller named (with_more l me.0)
              (record { words = set s.words 0 ((slice_index s.words 0 + 1) % 2 ^ 64); homes = s.homes; views = set s.views 0 (with_more l me.0) }))
              (sym one.1) (stamped s me.0 one.0 blank one.2 (by_lock me.0 s kept at)),
        ),
        refl,
      ))

  told_now : (s : State (Unit {0}) (View E)) (v : View E) (number : ℕ) → v.old ≡ None → Names caller named v.list number → v.told ≤ number
      → IsKeptBy caller named v s
      → IsKeptBy caller named (record v { told = number })
      (record { words = set s.words 1 (max (slice_index s.words 1) number); homes = s.homes; views = set s.views 0 (record v { told = number }) })
  told_now s v number blank named_one up k =
      let w : View E = record v { told = number } in
      moved s v w (set s.words 1 (max (slice_index s.words 1) number)) k k.role
      (ap (λ ws. set ws 1 (max (slice_index ws 1) number)) k.words ∙ ap (λ (n : ℕ). (length v.list % 2 ^ 64) ∷ n ∷ []) (max-eq_right up))
      (inr named_one)
      (λ i u at is. let o = k.tokens i u at is in out_same v w u refl up refl refl o.away o)
      k.settled k.taken (none_kept v w blank refl)

  pub tells : (slots seat : ℕ) (me : Me (Unit {0}) (View E)) (number : ℕ) → seat ≡ 0 → me.0.old ≡ None
      → Names caller named me.0.list number → me.0.told ≤ number
      → Allows (IsKept caller named) slots seat me 1 (λ n. max n number) (Told (step 0 0 number 0 none) me)
  tells slots seat me number first nothing named_one up =
      subst (λ (n : ℕ). Allows (IsKept caller named) slots n me 1 (λ n. max n number) (Told (step 0 0 number 0 none) me)) (sym first)
      (λ s kept long at small.
      let w : View E = record me.0 { told = number } in (
        w,
        keeps,
        tt,
        (w, told_now s me.0 number nothing named_one up (by_lock me.0 s kept at)),
        refl,
      ))

  met_now : (s : State (Unit {0}) (View E)) (v : View E) → IsKeptBy caller named v s
      → IsKeptBy caller named (record v { old = None })
      (record { words = set s.words 0 (slice_index s.words 0); homes = s.homes; views = set s.views 0 (record v { old = None }) })
  met_now s v k =
      let w : View E = record v { old = None } in
      moved s v w (set s.words 0 (slice_index s.words 0)) k k.role
      (ap (λ ws. set ws 0 (slice_index ws 0)) k.words)
      k.told
      (λ i u at is. let o = k.tokens i u at is in out_same v w u refl (le_refl v.told) refl refl o.away o)
      k.settled k.taken tt

  pub meets : (slots seat : ℕ) (me : Me (Unit {0}) (View E)) → seat ≡ 0
      → Allows (IsKept caller named) slots seat me 0 (λ n. n) (Met caller named no_step me)
  meets slots seat me first =
      subst (λ (n : ℕ). Allows (IsKept caller named) slots n me 0 (λ n. n) (Met caller named no_step me)) (sym first)
      (λ s kept long at small.
      let w : View E = record me.0 { old = None } in
      let k = by_lock me.0 s kept at in
      (w, keeps, tt, (w, met_now s me.0 k), (refl, k.old, k.settled)))

  -- ---- a token is split off, and taken in

  not_first : (v : View E) (c : ℕ) → v.taken ≡ Some 0 → v.taken ≢ Some c → c ≢ 0
  not_first v c first away zero_is = away (first ∙ ap (λ (n : ℕ). Some n) (sym zero_is))

  counted_now : (s : State (Unit {0}) (View E)) (v : View E) → v.old ≡ None → v.taken ≡ Some 0 → IsKeptBy caller named v s
      → IsKeptBy caller named (with_caller v) (record { words = s.words; homes = s.homes; views = set s.views 0 (with_caller v) })
  counted_now s v blank first k =
      moved s v (with_caller v) s.words k k.role k.words k.told
      (λ i u at is. let o = k.tokens i u at is in record {
        fits = fits_same v (with_caller v) u.caller u.list u.told refl (le_refl v.told) (omega arith) o.fits;
        first = λ zero_is. absurd (not_first v u.caller first o.away zero_is);
        away = o.away;
        here = o.here;
      })
      (settled_count v.count v.gone v.list k.settled)
      (grown v.taken k.taken)
      (none_kept v (with_caller v) blank refl)
    where
      grown : (o : Option ℕ) → IfSome o (λ number. (number < v.count) × All (λ (known : Known E). known.caller ≢ number) v.gone)
          → IfSome o (λ number. (number < v.count + 1) × All (λ (known : Known E). known.caller ≢ number) v.gone)
      grown None h = tt
      grown (Some n) h = ((let lt : n < v.count = h.0 in omega arith), h.1)

  whole : (w : View E) (c : ℕ) → c < w.count → Fits caller named w c w.list w.told
  whole w c lt = record { front = ([], append-nil w.list); before = le_refl w.told; counted = lt; same = refl }

  -- who isn't there yet isn't gone
  not_gone : (count : ℕ) (list : List E) (gone : List (Known E)) → All (λ (known : Known E). IsPrefix known.list list
      × (own caller known.caller list ≡ own caller known.caller known.list) × (known.caller < count) × (known.caller ≢ 0)) gone
      → All (λ (known : Known E). known.caller ≢ count) gone
  not_gone count list gone all =
      All-weaker (λ (known : Known E). IsPrefix known.list list × (own caller known.caller list ≡ own caller known.caller known.list)
      × (known.caller < count) × (known.caller ≢ 0)) (λ (known : Known E). known.caller ≢ count)
      (λ known knows same. let lt : known.caller < count = knows.2 in omega (arith, same)) gone all

  first_below : (s : State (Unit {0}) (View E)) (v : View E) (c : ℕ) → v.taken ≡ Some c → IsKeptBy caller named v s
      → (c < v.count) × All (λ (known : Known E). known.caller ≢ c) v.gone
  first_below s v c taken k =
      subst (λ (o : Option ℕ). IfSome o (λ number. (number < v.count) × All (λ (known : Known E). known.caller ≢ number) v.gone)) taken k.taken

  pub adds : (seat : ℕ) (v : View E) → seat ≡ 0 → v.role ≡ Lock → v.old ≡ None → v.taken ≡ Some 0
      → Splits {S = Unit {0}} (IsKept caller named) seat v (with_caller v) (new_token v)
  adds seat v first lock blank taken =
      subst (λ (n : ℕ). Splits {S = Unit {0}} (IsKept caller named) n v (with_caller v) (new_token v)) (sym first)
      (λ s kept at.
      let k = by_lock v s kept at in
      let some_one : 0 < v.count = (first_below s v 0 taken k).0 in
      let t : State (Unit {0}) (View E) = record { words = s.words; homes = s.homes; views = set s.views 0 (with_caller v) } in (
        with_caller v,
        split t (with_caller v) (new_token v) (counted_now s v blank taken k)
            (record {
              fits = whole (with_caller v) v.count (omega arith);
              first = λ zero_is. absurd (omega (arith, zero_is, some_one));
              away = λ e. let same : 0 ≡ v.count = some_same 0 v.count (sym taken ∙ e) in omega (arith, same, some_one);
              here = not_gone v.count v.list v.gone k.settled.all;
            })
            (λ i u e is same.
            let was = elsewhere s.views (with_caller v) u i lock e is in
            let lt : u.caller < v.count = (k.tokens i u was.1 is).fits.counted in
            omega (arith, same)),
      ))

  alone_now : (s : State (Unit {0}) (View E)) (v : View E) → v.old ≡ None → IsKeptBy caller named v s
      → IsKeptBy caller named (with_nobody v) (record { words = s.words; homes = s.homes; views = set s.views 0 (with_nobody v) })
  alone_now s v blank k =
      moved s v (with_nobody v) s.words k k.role k.words k.told
      (λ i u at is. let o = k.tokens i u at is in out_same v (with_nobody v) u refl (le_refl v.told) refl refl (λ e. no_some u.caller e) o)
      k.settled tt (none_kept v (with_nobody v) blank refl)

  pub returns_at : (seat : ℕ) (v : View E) (c : ℕ) → seat ≡ 0 → v.role ≡ Lock → v.old ≡ None → v.taken ≡ Some c
      → Splits {S = Unit {0}} (IsKept caller named) seat v (with_nobody v) (token_back v)
  returns_at seat v c first lock blank taken =
      subst (λ (n : ℕ). Splits {S = Unit {0}} (IsKept caller named) n v (with_nobody v) (token_back v)) (sym first)
      (λ s kept at.
      let k = by_lock v s kept at in
      let back : unwrap_or v.taken 0 ≡ c = ap (λ (o : Option ℕ). unwrap_or o 0) taken in
      let one = first_below s v c taken k in
      let t : State (Unit {0}) (View E) = record { words = s.words; homes = s.homes; views = set s.views 0 (with_nobody v) } in (
        with_nobody v,
        split t (with_nobody v) (token_back v) (alone_now s v blank k)
            (record {
              fits = whole (with_nobody v) (unwrap_or v.taken 0) (subst (λ (n : ℕ). n < v.count) (sym back) one.0);
              first = λ zero_is. (refl, refl);
              away = λ e. no_some (unwrap_or v.taken 0) e;
              here = subst (λ (n : ℕ). All (λ (known : Known E). known.caller ≢ n) v.gone) (sym back) one.1;
            })
            (λ i u e is same.
            let was = elsewhere s.views (with_nobody v) u i lock e is in
            (k.tokens i u was.1 is).away (taken ∙ ap (λ (n : ℕ). Some n) (sym back ∙ sym same))),
      ))

  pub returns_some : (seat : ℕ) (v : View E) → seat ≡ 0 → v.role ≡ Lock → v.old ≡ None → IsSome v.taken
      → Splits {S = Unit {0}} (IsKept caller named) seat v (with_nobody v) (token_back v)
  returns_some seat v first lock blank full = go v.taken refl full
    where
      go : (o : Option ℕ) → v.taken ≡ o → IsSome o → Splits {S = Unit {0}} (IsKept caller named) seat v (with_nobody v) (token_back v)
      go None e h = absurd (cc)
      go (Some c) e h = returns_at seat v c first lock blank e

  -- the place of a token that is spent has no token
  not_spent : (s : State (Unit {0}) (View E)) (w u : View E) (i other : ℕ) → get_elem? (set s.views other spent) i ≡ some u → u.role ≡ Caller
      → (i ≢ other) × (get_elem? s.views i ≡ some u)
  not_spent s w u i other e iu =
      ⊎_elim
      (λ (same : (i ≡ other) × (spent ≡ u)). absurd (no_spent (ap (λ (x : View E). x.role) same.1 ∙ iu)))
      (λ (apart : (i ≢ other) × (get_elem? s.views i ≡ some u)). apart)
      (at_set s.views other i spent u e)

  joined : (s : State (Unit {0}) (View E)) (v w : View E) (other : ℕ) → v.taken ≡ None → w.role ≡ Caller → other ≢ 0
      → get_elem? s.views other ≡ some w
      → IsKeptBy caller named v s
      → IsKeptBy caller named (with_token v w)
      (record { words = s.words; homes = s.homes; views = set (set s.views other spent) 0 (with_token v w) })
  joined s v w other nobody is off at k =
      let own_out = k.tokens other w at is in
      let t : State (Unit {0}) (View E) = record { words = s.words; homes = s.homes; views = set s.views other spent } in
      moved t v (with_token v w) s.words (replaced s v w spent other k off at (λ e. absurd (no_spent e))) k.role k.words k.told
      (λ i u e iu.
      let apart = not_spent s w u i other e iu in
      out_same v (with_token v w) u refl (le_refl v.told) refl refl
      (λ e. apart.0 (k.apart i other u w apart.1 at iu is (sym (some_same w.caller u.caller e)))) (k.tokens i u apart.1 iu))
      k.settled (own_out.fits.counted, own_out.here)
      (w.caller, refl, fits_same v (with_token v w) w.caller w.list w.told refl (le_refl v.told) (le_refl v.count) own_out.fits, own_out.first)

  pub takes : (seat : ℕ) (v : View E) (other : ℕ) (w : View E) → seat ≡ 0 → v.role ≡ Lock → v.taken ≡ None → w.role ≡ Caller
      → Joins {S = Unit {0}} (IsKept caller named) seat v other w (with_token v w) spent
  takes seat v other w first lock nobody is =
      subst (λ (n : ℕ). Joins {S = Unit {0}} (IsKept caller named) n v other w (with_token v w) spent) (sym first)
      (λ s kept at off there_is.
      let k = by_lock v s kept at in
      let was = elsewhere s.views (with_token v w) w other lock there_is is in (
        with_token v w,
        subst (λ (l : List (View E)). IsKeptBy caller named (with_token v w) (record { words = s.words; homes = s.homes; views = l }))
            (sym (set_twice s.views other (with_token v w) spent off)) (joined s v w other nobody is off was.1 k),
      ))

  -- a token is taken back for good
  gone_now : (s : State (Unit {0}) (View E)) (v w : View E) (other : ℕ) → v.old ≡ None → v.taken ≡ Some 0 → w.role ≡ Caller → other ≢ 0
      → get_elem? s.views other ≡ some w
      → IsKeptBy caller named v s
      → IsKeptBy caller named (with_gone v w)
      (record { words = s.words; homes = s.homes; views = set (set s.views other spent) 0 (with_gone v w) })
  gone_now s v w other blank first is off at k =
      let own_out = k.tokens other w at is in
      let not_zero = not_first v w.caller first own_out.away in
      let t : State (Unit {0}) (View E) = record { words = s.words; homes = s.homes; views = set s.views other spent } in
      moved t v (with_gone v w) s.words (replaced s v w spent other k off at (λ e. absurd (no_spent e))) k.role k.words k.told
      (λ i u e iu.
      let apart = not_spent s w u i other e iu in
      let o = k.tokens i u apart.1 iu in record {
        fits = fits_same v (with_gone v w) u.caller u.list u.told refl (le_refl v.told) (le_refl v.count) o.fits;
        first = λ zero_is. absurd (not_first v u.caller first o.away zero_is);
        away = o.away;
        here = All-push (λ (known : Known E). known.caller ≢ u.caller) v.gone (record { caller = w.caller; list = w.list }) o.here
            (λ same. apart.0 (k.apart i other u w apart.1 at iu is (sym same)));
      })
      (settled_gone v w not_zero own_out k.settled)
      (subst (λ (o : Option ℕ). IfSome o (λ number. (number < v.count) × All (λ (known : Known E). known.caller ≢ number)
      (v.gone ++ record { caller = w.caller; list = w.list } ∷ []))) (sym first) (
        (first_below s v 0 first k).0,
        All-push (λ (known : Known E). known.caller ≢ 0) v.gone (record { caller = w.caller; list = w.list })
            (first_below s v 0 first k).1 not_zero,
      ))
      (none_kept v (with_gone v w) blank refl)

  pub forgets : (seat : ℕ) (v : View E) (other : ℕ) (w : View E) → seat ≡ 0 → v.role ≡ Lock → v.old ≡ None → v.taken ≡ Some 0 → w.role ≡ Caller
      → Joins {S = Unit {0}} (IsKept caller named) seat v other w (with_gone v w) spent
  forgets seat v other w first lock blank taken is =
      subst (λ (n : ℕ). Joins {S = Unit {0}} (IsKept caller named) n v other w (with_gone v w) spent) (sym first)
      (λ s kept at off there_is.
      let k = by_lock v s kept at in
      let was = elsewhere s.views (with_gone v w) w other lock there_is is in (
        with_gone v w,
        subst (λ (l : List (View E)). IsKeptBy caller named (with_gone v w) (record { words = s.words; homes = s.homes; views = l }))
            (sym (set_twice s.views other (with_gone v w) spent off)) (gone_now s v w other blank taken is off was.1 k),
      ))

  -- ---- a token looks at the second word

  asked_now : (s : State (Unit {0}) (View E)) (lock p : View E) (seat : ℕ) → p.role ≡ Caller → seat ≢ 0 → get_elem? s.views seat ≡ some p
      → IsKeptBy caller named lock s
      → IsKeptBy caller named lock
      (record { words = s.words; homes = s.homes; views = set s.views seat (record p { told = slice_index s.words 1 }) })
  asked_now s lock p seat is off at k =
      let o = k.tokens seat p at is in
      let now : slice_index s.words 1 ≡ lock.told = ap (λ ws. slice_index ws 1) k.words in
      replaced s lock p (record p { told = slice_index s.words 1 }) seat k off at
      (let low = subst (λ (n : ℕ). slice_index s.words 1 ≤ n) now (le_refl _) in
      λ e. (
        is,
        refl,
        record {
          fits = record { front = o.fits.front; before = low; counted = o.fits.counted; same = o.fits.same };
          first = o.first;
          away = o.away;
          here = o.here;
        },
      ))

  pub asks : (slots seat : ℕ) (me : Me (Unit {0}) (View E)) → me.0.role ≡ Caller
      → Allows (IsKept caller named) slots seat me 1 (λ n. n) (Asked no_step me)
  asks slots seat me is s kept long at small =
      let k = kept.1 in
      let first : seat ≡ 0 → kept.0 ≡ me.0 =
      λ e. some-injective kept.0 me.0 (sym k.at ∙ subst (λ (n : ℕ). get_elem? s.views n ≡ some me.0) e at) in
      let off : seat ≢ 0 = λ e. differ (sym k.role ∙ ap (λ (x : View E). x.role) (first e) ∙ is) in
      let now : slice_index s.words 1 ≡ kept.0.told = ap (λ ws. slice_index ws 1) k.words in
      let same : set s.words 1 (slice_index s.words 1) ≡ s.words = ap (λ ws. set ws 1 (slice_index ws 1)) k.words ∙ sym k.words in (
        record me.0 { told = slice_index s.words 1 },
        keeps,
        tt,
        (
          kept.0,
          subst (λ (ws : List ℕ). IsKeptBy caller named kept.0
              (record { words = ws; homes = s.homes; views = set s.views seat (record me.0 { told = slice_index s.words 1 }) })) (sym same)
              (asked_now s kept.0 me.0 seat is off at k),
        ),
        (refl, subst (λ (n : ℕ). me.0.told ≤ n) (sym now) (k.tokens seat me.0 at is).fits.before),
      )

  -- ---- the start

  pub begins : (homes : List (mathlib.Core.Option.Option (Unit {0})))
      → IsKept caller named (record { words = 0 ∷ 0 ∷ []; homes = homes; views = opening ∷ [] })
  begins homes = (
    opening,
    record {
      at = refl;
      role = refl;
      words = refl;
      told = inl refl;
      tokens = λ i u e is. absurd (alone i u e is);
      apart = λ i j x y ei ej xi yi same. absurd (alone i x ei xi);
      settled = record { all = All-nil _; apart = tt; fresh = λ number late. refl };
      taken = (omega arith, All-nil _);
      old = tt;
    },
  )
    where
      alone : (i : ℕ) (u : View E) → get_elem? (opening ∷ []) i ≡ some u → u.role ≡ Caller → ⊥
      alone zero u e is = differ (ap (λ (x : View E). x.role) (some-injective opening u e) ∙ is)
      alone (suc i) u e is = some-ne-none u (sym e)
