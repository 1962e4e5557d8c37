-- The steps of the machine: a declaration, and the work that is left.
use Rattle.std.proofs.Common.{◌≡◌, ◌∙◌, ap, sym, refl, subst, arith, ℕ, zero, suc, ◌-◌, ◌<◌, Result, Ok, Err, List, [], ◌∷◌, ◌++◌, Option, None, Some, IfSome}
use Rattle.dn_scope.specs.Uses.{Visibility, Work, line_of_work}
use Rattle.dn_module.specs.Expand.{ExpansionState, with_drafts, item_rewriting, rewriting, all_rewritings, most_steps}
use Rattle.dn_module.specs.Machine.{with_declaration, works_in_front}
use Rattle.dn_kind.specs.Kind.{Meaning}
use Rattle.dn_scope.specs.Values.{◌>>=◌}
use Rattle.dn_scope.specs.Replace.{Replacement, in_declaration, in_item}
use Rattle.dn_scope.specs.Faults.{ExpansionFault, passes_limit, expand_fault_view}
use Rattle.dn_module.specs.Drafts.{draft_of_declaration, with_draft}
use Rattle.dn_module.specs.declared.draft.Draft.{Draft}
use Rattle.dn_scope.specs.declared.fault.ExpandFault.{ExpandFault}
use Rattle.dn_base.specs.Answers.{Answers}
use Rattle.dn_parse.specs.Tree.{Declaration, Item, declared}
use Rattle.dn_parse.specs.declared.syntax.Decl.{Decl}
use Rattle.dn_parse.specs.declared.syntax.Stmt.TheVariants.{Decl as DeclCase, rolls-Decl}
use Rattle.dn_parse.specs.declared.syntax.Stmt.TheOpen.{Decl as StmtDecl}
use Rattle.dn_parse.specs.declared.syntax.Stmt.TheFolds.{fold-roll-Stmt}
use Rattle.dn_parse.specs.Views.{declaration_view, item_view, stmt_step}

-- a step, by what comes in the place of the first work
module _ (kinds : List Meaning) (left : ℕ) (w : Work) (ws : List Work) (st : ExpansionState) where
  pub step_on : (next : List Work × ExpansionState) → 0 < left → works_in_front ws (rewriting kinds st w) ≡ Ok next → all_rewritings kinds left (w ∷ ws) st ≡ all_rewritings kinds (left - 1) next.0 next.1
  step_on next more h = go left more where
    by : (k : ℕ) (r : Result (List Work × ExpansionState) ExpansionFault) → works_in_front ws r ≡ Ok next → (r >>= (λ n. all_rewritings kinds k (n.0 ++ ws) n.1)) ≡ all_rewritings kinds k next.0 next.1
    by k (Err e) h = cc
    by k (Ok n) h = let same : (n.0 ++ ws, n.1) ≡ next = cc in ap (λ m. all_rewritings kinds k m.0 m.1) same

    go : (n : ℕ) → 0 < n → all_rewritings kinds n (w ∷ ws) st ≡ all_rewritings kinds (n - 1) next.0 next.1
    go zero more = absurd (omega arith)
    go (suc k) more = by k (rewriting kinds st w) h ∙ ap (λ j. all_rewritings kinds j next.0 next.1) (omega arith)

  pub step_err : (e : ExpansionFault) → 0 < left → works_in_front ws (rewriting kinds st w) ≡ Err e → all_rewritings kinds left (w ∷ ws) st ≡ Err e
  step_err e more h = go left more where
    by : (k : ℕ) (r : Result (List Work × ExpansionState) ExpansionFault) → works_in_front ws r ≡ Err e → (r >>= (λ n. all_rewritings kinds k (n.0 ++ ws) n.1)) ≡ Err e
    by k (Err f) h = let same : f ≡ e = cc in ap (λ e. Err e) same
    by k (Ok n) h = cc

    go : (n : ℕ) → 0 < n → all_rewritings kinds n (w ∷ ws) st ≡ Err e
    go zero more = absurd (omega arith)
    go (suc k) more = by k (rewriting kinds st w) h

  -- a fault of a step is one of the whole
  pub fault_on : (fault : Option ExpansionFault) (whole : Result ExpansionState ExpansionFault) → 0 < left → whole ≡ all_rewritings kinds left (w ∷ ws) st → IfSome fault (λ g. works_in_front ws (rewriting kinds st w) ≡ Err g) → IfSome fault (λ g. whole ≡ Err g)
  fault_on None whole more same is = tt
  fault_on (Some g) whole more same is = same ∙ step_err g more is

-- no step is left
pub steps_out : (kinds : List Meaning) (left : ℕ) (w : Work) (ws : List Work) (st : ExpansionState) → left ≡ 0 → all_rewritings kinds left (w ∷ ws) st ≡ Err (passes_limit (line_of_work w) 65536)
steps_out kinds left w ws st none = rw none refl

pub most_steps_are : most_steps ≡ 65536
unfolding most_steps
most_steps_are = refl

-- a declaration as a statement of the tree
pub declaration_item : (r : Replacement) (line : ℕ) (d : Decl) → in_item r (item_view (DeclCase line d)) ≡ declared line (in_declaration r (declaration_view d))
declaration_item r line d = ap (in_item r) (ap item_view (sym (rolls-Decl line d)) ∙ fold-roll-Stmt Item stmt_step (StmtDecl line d))

-- a declaration is recorded, and the work that is left stays
module _ (kinds : List Meaning) (s : Visibility) (works : List Work) (state : ExpansionState) (line : ℕ) (d : Declaration) where
  abbrev declaration_step : Result (List Work × ExpansionState) ExpansionFault
  declaration_step = works_in_front works (item_rewriting kinds s state (declared line d))

  recorded : (drafts : List Draft) → with_declaration kinds state.drafts line d ≡ Ok drafts → declaration_step ≡ Ok (works, with_drafts state drafts)
  recorded drafts h = go (draft_of_declaration kinds line d) h
    where
      go : (r : Result Draft ExpansionFault) → (r >>= λ draft. with_draft state.drafts draft) ≡ Ok drafts → works_in_front works (r >>= λ draft. with_draft state.drafts draft >>= λ ds. Ok ([], with_drafts state ds)) ≡ Ok (works, with_drafts state drafts)
      go (Err e) h = cc
      go (Ok draft) h = ap (λ q. works_in_front works (q >>= λ ds. Ok ([], with_drafts state ds))) h

  not_recorded : (f : ExpansionFault) → with_declaration kinds state.drafts line d ≡ Err f → declaration_step ≡ Err f
  not_recorded f h = go (draft_of_declaration kinds line d) h
    where
      go : (r : Result Draft ExpansionFault) → (r >>= λ draft. with_draft state.drafts draft) ≡ Err f → works_in_front works (r >>= λ draft. with_draft state.drafts draft >>= λ ds. Ok ([], with_drafts state ds)) ≡ Err f
      go (Err e) h = let same : e ≡ f = cc in ap (λ q. Err q) same
      go (Ok draft) h = ap (λ q. works_in_front works (q >>= λ ds. Ok ([], with_drafts state ds))) h

  declaration_answer : {X : Type 0} (r : Result X ExpandFault) (drafts : List Draft) → Answers (λ _. drafts) expand_fault_view r (with_declaration kinds state.drafts line d) → Answers (λ _. (works, with_drafts state drafts)) expand_fault_view r declaration_step
  declaration_answer (Ok x) drafts h = recorded drafts h
  declaration_answer (Err e) drafts h = go (expand_fault_view e) h
    where
      go : (o : Option ExpansionFault) → IfSome o (λ f. with_declaration kinds state.drafts line d ≡ Err f) → IfSome o (λ f. declaration_step ≡ Err f)
      go None h = tt
      go (Some f) h = not_recorded f h

  pub declaration_taken : {X : Type 0} (r : Result X ExpandFault) (drafts : List Draft) (item : Item) (left : List Work) (now : ExpansionState) → item ≡ declared line d → left ≡ works → now ≡ with_drafts state drafts → Answers (λ _. drafts) expand_fault_view r (with_declaration kinds state.drafts line d) → Answers (λ _. (left, now)) expand_fault_view r (works_in_front works (item_rewriting kinds s state item))
  declaration_taken r drafts item left now is same new h =
      subst (λ i. Answers (λ _. (left, now)) expand_fault_view r (works_in_front works (item_rewriting kinds s state i))) (sym is)
      (subst (λ n. Answers (λ _. (left, n)) expand_fault_view r declaration_step) (sym new)
      (subst (λ l. Answers (λ _. (l, with_drafts state drafts)) expand_fault_view r declaration_step) (sym same) (declaration_answer r drafts h)))

-- the same work in another form
pub work_first : (kinds : List Meaning) (left : ℕ) (ws vs : List Work) (st : ExpansionState) → ws ≡ vs → all_rewritings kinds left ws st ≡ all_rewritings kinds left vs st
work_first kinds left ws vs st e = ap (λ w. all_rewritings kinds left w st) e

-- the beginning
pub begun : (kinds : List Meaning) (n m : ℕ) (ws vs : List Work) (st tt' : ExpansionState) → n ≡ m → ws ≡ vs → st ≡ tt' → all_rewritings kinds n ws st ≡ all_rewritings kinds m vs tt'
begun kinds n m ws vs st tt' e f g = λ i. all_rewritings kinds (e i) (f i) (g i)
