-- A net past a node has the views of the net.
use Rattle.std.proofs.Common.{◌≡◌, ℕ, zero, suc, ◌+◌, ◌≤◌, ◌⊎◌, ◌↔◌, inl, inr, Bool, true, false, not, if◌then◌else◌, ◌&&◌, ◌||◌, nat_le, nat_lt, ◌==◌, List, [], ◌∷◌, length, slice_get, Option, Some, None, option_map, is_some, refl, sym, ap, ◌∙◌, subst, arith, eqb-true, lt-ltb}
use Rattle.std.specs.List.{list_any}
use Rattle.std.proofs.lemmas.Bool.{false≢true}
use Rattle.dn_base.specs.Members.{Member}
use Rattle.dn_base.proofs.Booleans.{or_parts}
use Rattle.dn_net.specs.declared.node.Block.{Block}
use Rattle.dn_net.specs.declared.node.Dest.{Dest}
use Rattle.dn_net.specs.declared.node.Name.{Name}
use Rattle.dn_net.specs.declared.node.NodeDecl.{NodeDecl}
use Rattle.dn_net.specs.declared.node.Unit.{Unit as UnitPart}
use Rattle.dn_net.specs.Chain.{IsChain, ReachesWithin}
use Rattle.dn_net.specs.Decode.{top, in_some_block, is_accepted, is_accepted_at, is_stop, is_stop_at, unit_of, is_agent, decode, sent_names, steps, Step, step_limit, Resolves, StopsAt}
use Rattle.dn_net.specs.Legal.{IsLegalNet}
use Rattle.dn_net.specs.Rules.{is_vectors}
use Rattle.dn_net.specs.Walks.{Choice, mapped_by, over_gap, ChoiceLeads}
use Rattle.dn_net.proofs.Chains.{chain_front}
use Rattle.dn_net.proofs.Choices.{choice_of_step}
use Rattle.dn_net.proofs.Members.{some_same}
use Rattle.dn_shape.specs.declared.fault.Why.TheVariants.{Accepts, Agent, Unit, Port, SelfStep}
use Rattle.dn_shape.specs.Absorb.{is_over_to, maps_to, leads_to, is_port, why_not, names_past, steps_past, is_rewritten, node_led_past, node_past, nodes_past, net_past}
use Rattle.dn_shape.specs.Views.{AbsorbKeepsViews}
use Rattle.dn_shape.proofs.Passing.{past_in, led_steps}

-- what is left of a node that can be absorbed
pub record Fit (m : ℕ) (n : NodeDecl) : Type 0 where
  pub accepts : nat_lt 0 (length n.accepts) ≡ false
  pub plain : is_vectors n.role ≡ false
  pub unit : is_some n.unit ≡ false
  pub self : leads_to m n ≡ false

pub fit_of : (net : List NodeDecl) (m : ℕ) (n : NodeDecl) → why_not net m n ≡ None → Fit m n
fit_of net m n h = by (nat_lt 0 (length n.accepts)) refl (is_vectors n.role) refl (is_agent n.role) (is_some n.unit) refl (is_port net m) (leads_to m n) refl h
  where
    by : (a : Bool) → nat_lt 0 (length n.accepts) ≡ a → (v : Bool) → is_vectors n.role ≡ v → (g : Bool) → (u : Bool) → is_some n.unit ≡ u → (p : Bool) → (s : Bool) → leads_to m n ≡ s → (if a || v then Some Accepts else (if g then Some Agent else (if u then Some Unit else (if p then Some Port else (if s then Some SelfStep else None))))) ≡ None → Fit m n
    by false a false v false false u false false s h = record { accepts = a; plain = v; unit = u; self = s }
    by true a w v g b u p s t h = cc
    by false a true v g b u p s t h = cc
    by false a false v true b u p s t h = cc
    by false a false v false true u p s t h = cc
    by false a false v false false u true s t h = cc
    by false a false v false false u false true t h = cc

-- a node of the net past another
pub past_at : (net : List NodeDecl) (m k : ℕ) (ns : List NodeDecl) (i : ℕ) → slice_get (nodes_past net m k ns) i ≡ option_map (node_past net m (k + i)) (slice_get ns i)
past_at net m k [] i = refl
past_at net m k (n ∷ ns) zero = let e : k ≡ k + 0 = omega arith in ap (λ j. Some (node_past net m j n)) e
past_at net m k (n ∷ ns) (suc i) =
    let e : suc k + i ≡ k + suc i = omega arith in
    past_at net m (suc k) ns i ∙ ap (λ j. option_map (node_past net m j) (slice_get ns i)) e

pub net_past_at : (net : List NodeDecl) (m i : ℕ) → slice_get (net_past net m) i ≡ option_map (node_past net m i) (slice_get net i)
net_past_at net m i =
    let e : 0 + i ≡ i = omega arith in
    past_at net m 0 net i ∙ ap (λ j. option_map (node_past net m j) (slice_get net i)) e

-- what each node accepts, and which unit it is, stays
pub accepted_kept : (net : List NodeDecl) (m : ℕ) (x : Name) → is_accepted (net_past net m) x ≡ is_accepted net x
accepted_kept net m x = ap (is_accepted_at x.addr) (net_past_at net m x.node) ∙ go (slice_get net x.node)
  where
    one : (n : NodeDecl) (b : Bool) → is_accepted_at x.addr (Some (if b then node_led_past net m x.node n else n)) ≡ is_accepted_at x.addr (Some n)
    one n true = refl
    one n false = refl

    go : (o : Option NodeDecl) → is_accepted_at x.addr (option_map (node_past net m x.node) o) ≡ is_accepted_at x.addr o
    go None = refl
    go (Some n) = one n (is_rewritten m x.node n)

pub stop_kept : (net : List NodeDecl) (m : ℕ) (x : Name) → is_stop (net_past net m) x ≡ is_stop net x
stop_kept net m x = ap (λ o. is_stop_at x.addr (unit_of o)) (net_past_at net m x.node) ∙ go (slice_get net x.node)
  where
    one : (n : NodeDecl) (b : Bool) → is_stop_at x.addr (unit_of (Some (if b then node_led_past net m x.node n else n))) ≡ is_stop_at x.addr n.unit
    one n true = refl
    one n false = refl

    go : (o : Option NodeDecl) → is_stop_at x.addr (unit_of (option_map (node_past net m x.node) o)) ≡ is_stop_at x.addr (unit_of o)
    go None = refl
    go (Some n) = one n (is_rewritten m x.node n)

-- where no item passes, the one at a place does not
none_at : {X : Type 0} (p : X → Bool) (xs : List X) (i : ℕ) (x : X) → list_any p xs ≡ false → slice_get xs i ≡ Some x → p x ≡ false
none_at p [] i x h at = cc
none_at p (y ∷ ys) zero x h at = ap p (sym (some_same y x at)) ∙ (or_parts (p y) (list_any p ys) h).0
none_at p (y ∷ ys) (suc i) x h at = none_at p ys i x (or_parts (p y) (list_any p ys) h).1 at

-- a node that does not lead to another has no step to it
pub never_leads : (m a : ℕ) (n : NodeDecl) (y : Name) → leads_to m n ≡ false → Member y (sent_names (decode a (Some n))) → (y.node == m) ≡ false
never_leads m a n y h s =
    let c = choice_of_step (Some n) a y s in
    ap (λ (z : Name). z.node == m) (sym c.to) ∙ by c.choice c.block c.name c.leads
  where
    parts : (list_any (maps_to m) n.entries ≡ false) × (is_over_to m n.over ≡ false)
    parts = or_parts (list_any (maps_to m) n.entries) (is_over_to m n.over) h

    by : (c : Choice) (b : Block) (d : Name) → ChoiceLeads (Some n) c b d → (d.node == m) ≡ false
    by (mapped_by i j) b d l = ap (λ (z : Name). z.node == m) l.5 ∙ none_at (λ (t : Dest). t.node == m) l.0.dests j l.1 (none_at (maps_to m) n.entries i l.0 parts.0 l.2) l.3
    by (over_gap lo hi) b d l = ap (λ (z : Name). z.node == m) l.4 ∙ (ap (is_over_to m) (sym l.1) ∙ parts.1)

module _ (net : List NodeDecl) (legal : IsLegalNet net) (m : ℕ) (n : NodeDecl) (at : slice_get net m ≡ Some n) (fit : Fit m n) where
  -- the steps of a name of the absorbed node stay, and none is to the node itself
  own_steps : (x : Name) → (x.node == m) ≡ true → steps (net_past net m) x ≡ steps net x
  own_steps x e = ap (λ o. sent_names (decode x.addr o)) (net_past_at net m x.node ∙ same (slice_get net x.node))
    where
      kept : (k : NodeDecl) → node_past net m x.node k ≡ k
      kept k = ap (λ b. if not b && leads_to m k then node_led_past net m x.node k else k) e

      same : (o : Option NodeDecl) → option_map (node_past net m x.node) o ≡ o
      same None = refl
      same (Some k) = ap Some (kept k)

  pub own_never : (x y : Name) → (x.node == m) ≡ true → Step net x y → (y.node == m) ≡ false
  own_never x y e s =
      let here : slice_get net x.node ≡ Some n = ap (slice_get net) (eqb-true x.node m e) ∙ at in
      never_leads m x.addr n y fit.self (subst (λ o. Member y (sent_names (decode x.addr o))) here s)

  -- a step of another node is one past the absorbed node
  other_steps : (x y : Name) → (x.node == m) ≡ false → Step (net_past net m) x y ↔ Member y (steps_past net m x)
  other_steps x y e = by (slice_get net x.node) refl
    where
      start : (o : Option NodeDecl) → slice_get net x.node ≡ o → steps (net_past net m) x ≡ sent_names (decode x.addr (option_map (node_past net m x.node) o))
      start o f = ap (λ t. sent_names (decode x.addr t)) (net_past_at net m x.node ∙ ap (option_map (node_past net m x.node)) f)

      -- a node that does not lead to the absorbed one
      plain : (k : NodeDecl) → slice_get net x.node ≡ Some k → leads_to m k ≡ false → Member y (sent_names (decode x.addr (Some k))) ↔ Member y (steps_past net m x)
      plain k f h = (there, back)
        where
          one : (z : Name) → (z.node == m) ≡ false → names_past net m z ≡ z ∷ []
          one z g = ap (λ b. if b then steps net z else z ∷ []) g

          there : Member y (sent_names (decode x.addr (Some k))) → Member y (steps_past net m x)
          there s = (past_in net m x y).1 (y, subst (λ o. Member y (sent_names (decode x.addr o))) (sym f) s, subst (λ l. Member y l) (sym (one y (never_leads m x.addr k y h s))) (inl refl))

          single : (z : Name) → Member y (z ∷ []) → z ≡ y
          single z (inl g) = g
          single z (inr g) = absurd g

          back : Member y (steps_past net m x) → Member y (sent_names (decode x.addr (Some k)))
          back s =
              let r = (past_in net m x y).0 s in
              let t : Member r.0 (sent_names (decode x.addr (Some k))) = subst (λ o. Member r.0 (sent_names (decode x.addr o))) f r.1 in
              let g = single r.0 (subst (λ l. Member y l) (one r.0 (never_leads m x.addr k r.0 h t)) r.2) in
              subst (λ z. Member z (sent_names (decode x.addr (Some k)))) g t

      leading : (k : NodeDecl) → slice_get net x.node ≡ Some k → (b : Bool) → leads_to m k ≡ b → Member y (sent_names (decode x.addr (Some (if b then node_led_past net m x.node k else k)))) ↔ Member y (steps_past net m x)
      leading k f true h = led_steps net m x.node x.addr k y f
      leading k f false h = plain k f h

      is : (k : NodeDecl) → (if leads_to m k then node_led_past net m x.node k else k) ≡ node_past net m x.node k
      is k = sym (ap (λ b. if not b && leads_to m k then node_led_past net m x.node k else k) e)

      none : steps net x ≡ [] → ⊥ ↔ Member y (steps_past net m x)
      none f = ((λ g. absurd g), (λ s. let r = (past_in net m x y).0 s in subst (λ l. Member r.0 l) f r.1))

      by : (o : Option NodeDecl) → slice_get net x.node ≡ o → Step (net_past net m) x y ↔ Member y (steps_past net m x)
      by None f =
          let g = none (ap (λ o. sent_names (decode x.addr o)) f) in
          ((λ s. g.0 (subst (λ l. Member y l) (start None f) s)), (λ s. absurd (g.1 s)))
      by (Some k) f =
          let g = leading k f (leads_to m k) refl in
          let s : steps (net_past net m) x ≡ sent_names (decode x.addr (Some (if leads_to m k then node_led_past net m x.node k else k))) = start (Some k) f ∙ ap (λ t. sent_names (decode x.addr (Some t))) (sym (is k)) in
          ((λ h. g.0 (subst (λ l. Member y l) s h)), (λ h. subst (λ l. Member y l) (sym s) (g.1 h)))

  -- a chain that does not end in the absorbed node goes past it, with no more steps
  chain_past : (most k : ℕ) → k ≤ most → (x y : Name) → (y.node == m) ≡ false → IsChain (Step net) k x y → (j : ℕ) × (j ≤ k) × IsChain (Step (net_past net m)) j x y
  chain_past most zero l x y e c = (0, omega arith, c)
  chain_past zero (suc k) l x y e c = absurd (omega arith)
  chain_past (suc most) (suc k) l x y e c = by (chain_past most) (x.node == m) refl
    where
      onward : Step (net_past net m) x c.0 → (j : ℕ) × (j ≤ k) × IsChain (Step (net_past net m)) j c.0 y → (j : ℕ) × (j ≤ suc k) × IsChain (Step (net_past net m)) j x y
      onward s r = let b : r.0 ≤ k = r.1 in (suc r.0, omega arith, (c.0, s, r.2))

      through : ((i : ℕ) → i ≤ most → (v z : Name) → (z.node == m) ≡ false → IsChain (Step net) i v z → (j : ℕ) × (j ≤ i) × IsChain (Step (net_past net m)) j v z) → (x.node == m) ≡ false → (c.0.node == m) ≡ true → (i : ℕ) → i ≡ k → IsChain (Step net) i c.0 y → (j : ℕ) × (j ≤ suc k) × IsChain (Step (net_past net m)) j x y
      through ih f g zero h d = absurd (false≢true (sym e ∙ (ap (λ (z : Name). z.node == m) (sym d) ∙ g)))
      through ih f g (suc i) h d =
          let s : Step (net_past net m) x d.0 = (other_steps x d.0 f).1 ((past_in net m x d.0).1 (c.0, c.1, subst (λ b. Member d.0 (if b then steps net c.0 else c.0 ∷ [])) (sym g) d.1)) in
          let r = ih i (omega arith) d.0 y e d.2 in
          let b : r.0 ≤ i = r.1 in
          (suc r.0, omega arith, (d.0, s, r.2))

      step : ((i : ℕ) → i ≤ most → (v z : Name) → (z.node == m) ≡ false → IsChain (Step net) i v z → (j : ℕ) × (j ≤ i) × IsChain (Step (net_past net m)) j v z) → (x.node == m) ≡ false → (b : Bool) → (c.0.node == m) ≡ b → (j : ℕ) × (j ≤ suc k) × IsChain (Step (net_past net m)) j x y
      step ih f true g = through ih f g k refl c.2
      step ih f false g =
          let s : Step (net_past net m) x c.0 = (other_steps x c.0 f).1 ((past_in net m x c.0).1 (c.0, c.1, subst (λ b. Member c.0 (if b then steps net c.0 else c.0 ∷ [])) (sym g) (inl refl))) in
          onward s (ih k (omega arith) c.0 y e c.2)

      by : ((i : ℕ) → i ≤ most → (v z : Name) → (z.node == m) ≡ false → IsChain (Step net) i v z → (j : ℕ) × (j ≤ i) × IsChain (Step (net_past net m)) j v z) → (b : Bool) → (x.node == m) ≡ b → (j : ℕ) × (j ≤ suc k) × IsChain (Step (net_past net m)) j x y
      by ih true f = onward (subst (λ l. Member c.0 l) (sym (own_steps x f)) c.1) (ih k (omega arith) c.0 y e c.2)
      by ih false f = step ih f (c.0.node == m) refl

  -- a chain past the absorbed node is one of the net, with no fewer steps
  chain_through : (k : ℕ) (x y : Name) → IsChain (Step (net_past net m)) k x y → (j : ℕ) × (k ≤ j) × IsChain (Step net) j x y
  chain_through zero x y c = (0, omega arith, c)
  chain_through (suc k) x y c = by (x.node == m) refl (chain_through k c.0 y c.2)
    where
      onward : Step net x c.0 → (j : ℕ) × (k ≤ j) × IsChain (Step net) j c.0 y → (j : ℕ) × (suc k ≤ j) × IsChain (Step net) j x y
      onward s r = let b : k ≤ r.0 = r.1 in (suc r.0, omega arith, (c.0, s, r.2))

      past : (z : Name) → Step net x z → (b : Bool) → Member c.0 (if b then steps net z else z ∷ []) → (j : ℕ) × (k ≤ j) × IsChain (Step net) j c.0 y → (j : ℕ) × (suc k ≤ j) × IsChain (Step net) j x y
      past z s true t r = let b : k ≤ r.0 = r.1 in (suc (suc r.0), omega arith, (z, s, (c.0, t, r.2)))
      past z s false (inl g) r = onward (subst (λ w. Step net x w) g s) r
      past z s false (inr g) r = absurd g

      by : (b : Bool) → (x.node == m) ≡ b → (j : ℕ) × (k ≤ j) × IsChain (Step net) j c.0 y → (j : ℕ) × (suc k ≤ j) × IsChain (Step net) j x y
      by true f r = onward (subst (λ l. Member c.0 l) (own_steps x f) c.1) r
      by false f r =
          let s = (past_in net m x c.0).0 ((other_steps x c.0 f).0 c.1) in
          past s.0 s.1 (s.0.node == m) s.2 r

  -- a chain of the net has fewer steps than resolution follows
  short : (j : ℕ) (x y : Name) → IsChain (Step net) j x y → j ≤ step_limit
  short j x y c = by (cases j step_limit)
    where
      cases : (j n : ℕ) → (j ≤ n) ⊎ (n ≤ j)
      cases j n = grind arith

      by : (j ≤ step_limit) ⊎ (step_limit ≤ j) → j ≤ step_limit
      by (inl l) = l
      by (inr l) = let r = chain_front (Step net) step_limit j x y l c in absurd (legal.walks.shallow x r.0 r.1)

  -- what is accepted, and what is a stop, is not in the absorbed node
  accepted_apart : (y : Name) → is_accepted net y ≡ true → (y.node == m) ≡ false
  accepted_apart y h = by (y.node == m) refl
    where
      none : (p : Bool) → (ns : List Block) → nat_lt 0 (length ns) ≡ false → (p && in_some_block y.addr ns) ≡ false
      none true [] e = refl
      none false ns e = refl
      none true (b ∷ ns) e = let t : nat_lt 0 (length (b ∷ ns)) ≡ true = lt-ltb 0 (length (b ∷ ns)) (omega arith) in absurd (false≢true (sym e ∙ t))

      by : (b : Bool) → (y.node == m) ≡ b → b ≡ false
      by false e = refl
      by true e =
          let here : slice_get net y.node ≡ Some n = ap (slice_get net) (eqb-true y.node m e) ∙ at in
          absurd (false≢true (sym (ap (is_accepted_at y.addr) here ∙ none (nat_le y.addr top) n.accepts fit.accepts) ∙ h))

  stop_apart : (y : Name) → is_stop net y ≡ true → (y.node == m) ≡ false
  stop_apart y h = by (y.node == m) refl
    where
      none : (u : Option UnitPart) → is_some u ≡ false → is_stop_at y.addr u ≡ false
      none None e = refl
      none (Some u) e = cc

      by : (b : Bool) → (y.node == m) ≡ b → b ≡ false
      by false e = refl
      by true e =
          let here : slice_get net y.node ≡ Some n = ap (slice_get net) (eqb-true y.node m e) ∙ at in
          absurd (false≢true (sym (ap (λ o. is_stop_at y.addr (unit_of o)) here ∙ none n.unit fit.unit) ∙ h))

  -- what is reached outside of the absorbed node is the same
  reach_past : (x y : Name) → (y.node == m) ≡ false → ReachesWithin (Step net) step_limit x y → ReachesWithin (Step (net_past net m)) step_limit x y
  reach_past x y e (k, l, c) =
      let r = chain_past k k (omega arith) x y e c in
      let b : r.0 ≤ k = r.1 in
      (r.0, omega (arith, b, l), r.2)

  reach_through : (x y : Name) → ReachesWithin (Step (net_past net m)) step_limit x y → ReachesWithin (Step net) step_limit x y
  reach_through x y (k, l, c) =
      let r = chain_through k x y c in
      (r.0, short r.0 x y r.2, r.2)

  resolve_same : (x y : Name) → Resolves (net_past net m) x y ↔ Resolves net x y
  resolve_same x y = (
    λ r. (sym (accepted_kept net m y) ∙ r.0, reach_through x y r.1),
    λ r. (accepted_kept net m y ∙ r.0, reach_past x y (accepted_apart y r.0) r.1),
  )

  stops_same : (x y : Name) → StopsAt (net_past net m) x y ↔ StopsAt net x y
  stops_same x y = (
    λ r. (sym (stop_kept net m y) ∙ r.0, reach_through x y r.1),
    λ r. (stop_kept net m y ∙ r.0, reach_past x y (stop_apart y r.0) r.1),
  )

pub absorb_keeps_views : AbsorbKeepsViews
absorb_keeps_views net legal m n at none =
    let fit = fit_of net m n none in
    record {
      resolve = λ x y there.
          let same = resolve_same net legal m n at fit x y in (
            λ r. (y, same.0 r, refl),
            λ r. subst (λ w. Resolves (net_past net m) x w) r.2 ((resolve_same net legal m n at fit x r.0).1 r.1),
          );
      stops = λ x y there. stops_same net legal m n at fit x y;
    }
