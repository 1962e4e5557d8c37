-- What names come to through units, in rounds: in the net, and then on from each stop.
use Rattle.std.proofs.Common.{◌≡◌, ℕ, zero, suc, ◌⊎◌, ◌↔◌, inl, inr, List, Option, Some, None, IsTrue, refl}
use Rattle.dn_net.specs.declared.node.Name.{Name}
use Rattle.dn_net.specs.declared.node.NodeDecl.{NodeDecl}
use Rattle.dn_net.specs.declared.node.Unit.{Unit as UnitPart}
use Rattle.dn_net.specs.Chain.{Member}
use Rattle.dn_net.specs.Decode.{is_stop, is_stop_at, unit_at, Resolves, StopsAt}
use Rattle.dn_net.specs.Legal.{IsLegalNet}
use Rattle.dn_kind.specs.Tables.{AreHeld, Held, ResolvesUnder, StepUnder}
use Rattle.dn_view.specs.Passes.{outputs}
use Rattle.dn_view.proofs.Ways.{UpTo, step_stop, stop_step, up_to_three}

-- a name comes to an accepted name in so many rounds
abbrev pub Rounds : List NodeDecl → Held → ℕ → Name → Name → Type 0
Rounds net h zero x z = ⊥
Rounds net h (suc n) x z = Resolves net x z ⊎ ((t : Name) × StopsAt net x t × ((w : Name) × StepUnder net h t w × Rounds net h n w z))

module _ (net : List NodeDecl) (legal : IsLegalNet net) (h : Held) where
  step_output : (t w : Name) → IsTrue (is_stop net t) → StepUnder net h t w → Member w (outputs net h t)
  step_output t w stop step = by (unit_at net t.node) refl stop
    where
      by : (o : Option UnitPart) → unit_at net t.node ≡ o → IsTrue (is_stop_at t.addr o) → Member w (outputs net h t)
      by None e s = cc
      by (Some u) e s = (step_stop net legal h t w u e step).1

  of_up : (n : ℕ) (x z : Name) → UpTo net h n x z → Rounds net h (suc n) x z
  of_up n x z (inl r) = inl r
  of_up zero x z (inr u) = absurd u.2
  of_up (suc n) x z (inr u) = inr (u.0, u.1, (u.2.0, stop_step net legal h u.0 u.2.0 u.1.0 u.2.1, of_up n u.2.0 z u.2.2))

  to_up : (n : ℕ) (x z : Name) → Rounds net h (suc n) x z → UpTo net h n x z
  to_up n x z (inl r) = inl r
  to_up zero x z (inr u) = absurd u.2.2
  to_up (suc n) x z (inr u) = inr (u.0, u.1, (u.2.0, step_output u.0 u.2.0 u.1.0 u.2.1, to_up n u.2.0 z u.2.2))

  -- four rounds are all: there are three units in a row at most
  pub four_rounds : AreHeld net h → (x z : Name) → ResolvesUnder net h x z ↔ Rounds net h 4 x z
  four_rounds held x z =
      let three = up_to_three net legal h held x z in
      ((λ r. of_up 3 x z (three.0 r)), (λ r. three.1 (to_up 3 x z r)))
