-- A pass is taken back: the history stays, and the first caller knows of it.
use Rattle.std.proofs.Common.{◌≡◌, List, [], ◌∷◌, ◌++◌, Option, Some, sym, ap, ◌∙◌, subst}
use Rattle.std.specs.Prelude.{unwrap_or}
use Rattle.shared_engine.specs.Views.{own, known_of, LockView, TokenView, FirstView, Settled}
use Rattle.shared_engine.specs.declared.views.Known.{Known}
use Rattle.engine.specs.Seen.{Seen}
use Rattle.shared_engine.specs.Entries.{Entry, caller_of}
use Rattle.shared_engine.specs.Histories.{Made, IsLegal, IsRunning}
use Rattle.shared_engine.specs.Calls.{no_token, no_first, IsFirst}

-- the token of a pass that is taken apart
pub pass_token : (held : Option (TokenView Entry)) (token pass : TokenView Entry) → held ≡ Some token → unwrap_or held no_token ≡ pass → token ≡ pass
pass_token held token pass is view = sym (ap (λ (o : Option (TokenView Entry)). unwrap_or o no_token) is) ∙ view

-- the first caller's token, which was taken out
pub first_out : (held taken : Option (FirstView Entry)) (first callers : FirstView Entry) → taken ≡ held → taken ≡ Some first
    → unwrap_or held no_first ≡ callers → first ≡ callers
first_out held taken first callers same is view =
    ap (λ (o : Option (FirstView Entry)). unwrap_or o no_first) (sym is ∙ same) ∙ view

module _ (made : Made) (engine : Seen) (l0 l1 l2 : LockView Entry) (first now : FirstView Entry) (token : TokenView Entry)
    (running : IsRunning made engine l0) (taken : l1 ≡ record l0 { taken = Some 0 })
    (forgot : l2 ≡ record l1 { gone = l1.gone ++ record { caller = token.caller; list = token.list } ∷ [] })
    (given : now ≡ record { table = l2.table; list = l2.list; count = l2.count; gone = l2.gone }) where
  forgot_is : l2 ≡ record l0 { taken = Some 0; gone = l0.gone ++ known_of token ∷ [] }
  forgot_is = forgot ∙ ap (λ (l : LockView Entry). record l { gone = l.gone ++ known_of token ∷ [] }) taken

  now_is : now ≡ record { table = l0.table; list = l0.list; count = l0.count; gone = l0.gone ++ known_of token ∷ [] }
  now_is = given ∙ ap (λ (l : LockView Entry). record { table = l.table; list = l.list; count = l.count; gone = l.gone }) forgot_is

  -- it has no entry still
  pub still_first : own caller_of 0 l0.list ≡ own caller_of 0 first.list → own caller_of 0 first.list ≡ []
      → Settled caller_of now.count now.gone now.list → IsFirst made now
  still_first same none settled =
      let list = ap (λ (f : FirstView Entry). f.list) now_is in record {
        table = ap (λ (f : FirstView Entry). f.table) now_is ∙ running.table;
        legal = subst (λ (l : List Entry). IsLegal made l) (sym list) running.stands.legal;
        none = ap (λ l. own caller_of 0 l) list ∙ same ∙ none;
        settled = settled;
      }

  -- one more is gone
  pub one_gone : (callers : FirstView Entry) (pass : TokenView Entry) → first ≡ callers → token ≡ pass → (first.count ≡ l0.count) × (first.gone ≡ l0.gone)
      → (now.count ≡ callers.count) × (now.gone ≡ callers.gone ++ known_of pass ∷ [])
  one_gone callers pass was is knows = (
    ap (λ (f : FirstView Entry). f.count) now_is ∙ sym knows.0 ∙ ap (λ (f : FirstView Entry). f.count) was,
    ap (λ (f : FirstView Entry). f.gone) now_is
        ∙ ap (λ (l : List (Known Entry)). l ++ known_of token ∷ []) (sym knows.1 ∙ ap (λ (f : FirstView Entry). f.gone) was)
        ∙ ap (λ (t : TokenView Entry). callers.gone ++ known_of t ∷ []) is,
  )
