-- What names resolve to under records, unit by unit.
use Rattle.std.proofs.Common.{◌≡◌, ℕ, zero, suc, ◌+◌, ◌/◌, ◌^◌, ◌≤◌, ◌⊎◌, ◌↔◌, inl, inr, true, false, if◌then◌else◌, List, [], ◌∷◌, length, slice_get, Option, Some, None, is_some, IsSome, IsTrue, refl, sym, ap, ◌∙◌, subst, arith}
use Rattle.dn_net.specs.declared.node.Name.{Name}
use Rattle.dn_net.specs.declared.node.NodeDecl.{NodeDecl}
use Rattle.dn_net.specs.declared.node.Unit.{Unit as UnitPart}
use Rattle.dn_net.specs.Chain.{Member, IsChain, Reaches, ReachesWithin}
use Rattle.dn_net.specs.Decode.{is_formed, is_accepted, is_stop, is_stop_at, unit_of, unit_at, sent_names, steps, step_limit, Step, Resolves, StopsAt}
use Rattle.dn_net.specs.Legal.{IsLegalNet}
use Rattle.dn_net.specs.UnitRules.{LeadsOn, LeadsTo, IsUnitRow}
use Rattle.dn_net.proofs.Steps.{unit_is_bare, node_at}
use Rattle.dn_net.proofs.Stops.{shallow_reach}
use Rattle.dn_net.proofs.Chains.{chain_more, chain_join}
use Rattle.dn_kind.specs.Tables.{Held, output, steps_by_unit, step_limit_under, StepUnder, ResolvesUnder, AreHeld}
use Rattle.dn_kind.proofs.Bounds.{Led, leads_by, led, reach_under_is_within}
use Rattle.dn_kind.proofs.Ways.{legal_one_way_to_unit, stop_from_step}
use Rattle.dn_view.specs.Passes.{outputs, outputs_by}
use Rattle.dn_view.specs.Through.{Through, ComesThrough}

-- a name comes to an accepted name through at most so many units
abbrev pub UpTo : List NodeDecl → Held → ℕ → Name → Name → Type 0
UpTo net h n x z = Resolves net x z ⊎ ((t : Name) × StopsAt net x t × Through net h n t z)

-- a unit has no step of the net
bare : (net : List NodeDecl) → IsLegalNet net → (x : Name) (u : UnitPart) → unit_at net x.node ≡ Some u → steps net x ≡ []
bare net legal x u e =
    let some : is_some (unit_of (slice_get net x.node)) ≡ true = ap is_some e in
    ap sent_names (unit_is_bare (slice_get net x.node) x.addr (λ n at. node_at is_formed net x.node legal.is_net.formed n at) some).1

pub stop_not_accepted : (net : List NodeDecl) → IsLegalNet net → (x : Name) → IsTrue (is_stop net x) → IsTrue (is_accepted net x) → ⊥
stop_not_accepted net legal x stop accepted = by (unit_at net x.node) refl stop
  where
    by : (o : Option UnitPart) → unit_at net x.node ≡ o → IsTrue (is_stop_at x.addr o) → ⊥
    by None e s = cc
    by (Some u) e s =
        let some : is_some (unit_of (slice_get net x.node)) ≡ true = ap is_some e in
        let f : false ≡ true = sym (unit_is_bare (slice_get net x.node) x.addr (λ n at. node_at is_formed net x.node legal.is_net.formed n at) some).0 ∙ accepted in
        cc

-- what is reached at all by steps of the net is reached within the limit
pub within_limit : (net : List NodeDecl) → IsLegalNet net → (x y : Name) → Reaches (Step net) x y → ReachesWithin (Step net) step_limit x y
within_limit net legal x y r = shallow_reach net legal.walks.shallow x y r

within_both : (k : ℕ) → k ≤ step_limit → k ≤ step_limit_under
unfolding step_limit step_limit_under
within_both k l = omega (arith, l)

module _ (net : List NodeDecl) (legal : IsLegalNet net) (h : Held) where
  -- a step of the net is a step under records
  fixed_under : (x y : Name) → Step net x y → StepUnder net h x y
  fixed_under x y s = by (unit_at net x.node) refl
    where
      by : (o : Option UnitPart) → unit_at net x.node ≡ o → Member y (steps_by_unit net h x o)
      by None e = s
      by (Some u) e = absurd (subst (λ l. Member y l) (bare net legal x u e) s)

  pub net_chain : (k : ℕ) (x y : Name) → IsChain (Step net) k x y → IsChain (StepUnder net h) k x y
  net_chain k x y c = chain_more (Step net) (StepUnder net h) fixed_under k x y c

  -- the output of a stop is a step under records, and none else is
  pub stop_step : (s w : Name) → IsTrue (is_stop net s) → Member w (outputs net h s) → StepUnder net h s w
  stop_step s w stop m = by (unit_at net s.node) stop m
    where
      by : (o : Option UnitPart) → IsTrue (is_stop_at s.addr o) → Member w (outputs_by h s o) → Member w (steps_by_unit net h s o)
      by None t n = absurd n
      by (Some u) t n = subst (λ b. Member w (if b then output u (h s.node (s.addr / 2 ^ u.page)) s.addr else [])) (sym t) n

  pub step_stop : (s w : Name) (u : UnitPart) → unit_at net s.node ≡ Some u → StepUnder net h s w → IsTrue (is_stop net s) × Member w (outputs net h s)
  step_stop s w u e m =
      let n : Member w (steps_by_unit net h s (Some u)) = subst (λ o. Member w (steps_by_unit net h s o)) e m in
      let t : IsTrue (is_stop_at s.addr (Some u)) = stop_from_step net h s w u n in
      (subst (λ o. IsTrue (is_stop_at s.addr o)) (sym e) t, subst (λ o. Member w (outputs_by h s o)) (sym e) (subst (λ b. Member w (if b then output u (h s.node (s.addr / 2 ^ u.page)) s.addr else [])) t n))

  -- nothing goes on from a stop in whose slots there are no records, so a chain from it ends there
  stays_at : ((n q : ℕ) → h n q ≡ None) → (k : ℕ) (s t : Name) → IsTrue (is_stop net s) → IsChain (StepUnder net h) k s t → s ≡ t
  stays_at none zero s t stop c = c
  stays_at none (suc k) s t stop c = by (unit_at net s.node) refl stop
    where
      by : (o : Option UnitPart) → unit_at net s.node ≡ o → IsTrue (is_stop_at s.addr o) → s ≡ t
      by None e is = cc
      by (Some u) e is =
          let out : Member c.0 (outputs_by h s (Some u)) = subst (λ o. Member c.0 (outputs_by h s o)) e (step_stop s c.0 u e c.1).1 in
          absurd (subst (λ o. Member c.0 (output u o s.addr)) (none s.node (s.addr / 2 ^ u.page)) out)

  -- a name comes to an accepted name through exactly so many units
  abbrev Exactly : ℕ → Name → Name → Type 0
  Exactly zero x z = Resolves net x z
  Exactly (suc n) x z = (t : Name) × StopsAt net x t × ((w : Name) × Member w (outputs net h t) × Exactly n w z)

  onward : (n : ℕ) (x y z : Name) → Step net x y → Exactly n y z → Exactly n x z
  onward zero x y z s r = (r.0, within_limit net legal x z (suc r.1.0, (y, s, r.1.2)))
  onward (suc n) x y z s r = (r.0, (r.1.0, within_limit net legal x r.0 (suc r.1.1.0, (y, s, r.1.1.2))), r.2)

  here : (x : Name) → ReachesWithin (Step net) step_limit x x
  here x = within_limit net legal x x (0, refl)

  exactly : (k : ℕ) (x z : Name) → IsTrue (is_accepted net z) → IsChain (StepUnder net h) k x z → (n : ℕ) × Exactly n x z
  exactly zero x z is c = (0, (is, within_limit net legal x z (0, c)))
  exactly (suc k) x z is c = by (unit_at net x.node) refl c.1 (exactly k c.0 z is c.2)
    where
      by : (o : Option UnitPart) → unit_at net x.node ≡ o → Member c.0 (steps_by_unit net h x o) → ((n : ℕ) × Exactly n c.0 z) → (n : ℕ) × Exactly n x z
      by None e m r = (r.0, onward r.0 x c.0 z m r.1)
      by (Some u) e m r = let s = step_stop x c.0 u e c.1 in (suc r.0, (x, (s.0, here x), (c.0, s.1, r.1)))

  -- a name that reaches no unit resolves under records as in the net
  pub resolves_fixed : (x z : Name) → ((t : Name) → StopsAt net x t → ⊥) → ResolvesUnder net h x z ↔ Resolves net x z
  resolves_fixed x z none = (
    (λ r. let e = exactly r.1.0 x z r.0 r.1.2 in fixed e.0 e.1),
    (λ r. (r.0, (r.1.0, within_both r.1.0 r.1.1, net_chain r.1.0 x z r.1.2))),
  )
    where
      fixed : (n : ℕ) → Exactly n x z → Resolves net x z
      fixed zero e = e
      fixed (suc n) e = absurd (none e.0 e.1)

  module _ (held : AreHeld net h) where
    -- the units that it passes are a row
    abbrev First : Name → List ℕ → Type 0
    First x [] = Unit {0}
    First x (u ∷ us) = (t : Name) × StopsAt net x t × (t.node ≡ u)

    leads : (s w : Name) (u : UnitPart) → unit_at net s.node ≡ Some u → Led net s w u → (us : List ℕ) → First w us → LeadsOn net s.node us
    leads s w u e l [] f = tt
    leads s w u e l (v ∷ vs) f = subst (λ (m : ℕ). LeadsTo net s.node m) f.2 (leads_by net s w f.0 u f.1.1.0 e l f.1.1.2 f.1.0)

    more : (n : ℕ) (t w : Name) → IsTrue (is_stop net t) → Member w (outputs net h t) → ((us : List ℕ) × IsUnitRow net us × (length us ≡ n) × First w us) → (us : List ℕ) × IsUnitRow net (t.node ∷ us) × (length us ≡ n)
    more n t w stop m rest = by (unit_at net t.node) refl stop
      where
        by : (o : Option UnitPart) → unit_at net t.node ≡ o → IsTrue (is_stop_at t.addr o) → (us : List ℕ) × IsUnitRow net (t.node ∷ us) × (length us ≡ n)
        by None e s = cc
        by (Some u) e s =
            let k : Member w (steps_by_unit net h t (Some u)) = subst (λ o. Member w (steps_by_unit net h t o)) e (stop_step t w stop m) in
            let l : Led net t w u = led net legal h held t w u e k in
            (rest.0, (subst (λ o. IsSome o) (sym e) refl, leads t w u e l rest.0 rest.3, rest.1), rest.2)

    row : (n : ℕ) (x z : Name) → Exactly n x z → (us : List ℕ) × IsUnitRow net us × (length us ≡ n) × First x us
    row zero x z r = ([], tt, refl, tt)
    row (suc n) x z r =
        let s = more n r.0 r.2.0 r.1.0 r.2.1 (row n r.2.0 z r.2.2) in
        (r.0.node ∷ s.0, s.1, ap suc s.2, (r.0, r.1, refl))

    short : (n : ℕ) (x z : Name) → Exactly n x z → n ≤ 3
    short n x z r = let s = row n x z r in subst (λ k. k ≤ 3) s.2 (legal.units.rows.short s.0 s.1)

    up_of : (n m : ℕ) (x z : Name) → n ≤ m → Exactly n x z → UpTo net h m x z
    up_of zero m x z l r = inl r
    up_of (suc n) zero x z l r = absurd (omega arith)
    up_of (suc n) (suc m) x z l r = inr (r.0, r.1, (r.2.0, r.2.1, up_of n m r.2.0 z (omega arith) r.2.2))

    back : (m : ℕ) (x z : Name) → UpTo net h m x z → IsTrue (is_accepted net z) × Reaches (StepUnder net h) x z
    back m x z (inl r) = (r.0, (r.1.0, net_chain r.1.0 x z r.1.2))
    back zero x z (inr r) = absurd r.2
    back (suc m) x z (inr r) =
        let t : Name = r.0 in
        let later = back m r.2.0 z r.2.2 in
        let step : IsChain (StepUnder net h) (suc later.1.0) t z = (r.2.0, stop_step t r.2.0 r.1.0 r.2.1, later.1.1) in
        (later.0, (r.1.1.0 + suc later.1.0, chain_join (StepUnder net h) r.1.1.0 (suc later.1.0) x t z (net_chain r.1.1.0 x t r.1.1.2) step))

    -- what a name resolves to under records it comes to through at most three units
    pub up_to_three : (x z : Name) → ResolvesUnder net h x z ↔ UpTo net h 3 x z
    up_to_three x z = (
      (λ r. let e = exactly r.1.0 x z r.0 r.1.2 in up_of e.0 3 x z (short e.0 x z e.1) e.1),
      (λ u. let b = back 3 x z u in (b.0, reach_under_is_within net h legal held x z b.1)),
    )

    pub up_resolves : (m : ℕ) (x z : Name) → UpTo net h m x z → ResolvesUnder net h x z
    up_resolves m x z u = let b = back m x z u in (b.0, reach_under_is_within net h legal held x z b.1)

    pub resolves_through : (x z : Name) → ResolvesUnder net h x z ↔ (Resolves net x z ⊎ ((t : Name) × StopsAt net x t × ComesThrough net h t z))
    unfolding ComesThrough
    resolves_through x z = up_to_three x z

-- a name has one stop at most
pub one_stop : (net : List NodeDecl) → IsLegalNet net → (x s t : Name) → StopsAt net x s → StopsAt net x t → s ≡ t
one_stop net legal x s t a b = by (legal_one_way_to_unit net none legal x s t a.1.0 b.1.0 a.0 (net_chain net legal none a.1.0 x s a.1.2) (net_chain net legal none b.1.0 x t b.1.2))
  where
    none : Held
    none n q = None

    by : (((d : ℕ) × (a.1.0 ≡ b.1.0 + d) × IsChain (StepUnder net none) d t s) ⊎ ((d : ℕ) × (b.1.0 ≡ a.1.0 + d) × IsChain (StepUnder net none) d s t)) → s ≡ t
    by (inl d) = sym (stays_at net legal none (λ n q. refl) d.0 t s b.0 d.2)
    by (inr d) = stays_at net legal none (λ n q. refl) d.0 s t a.0 d.2
