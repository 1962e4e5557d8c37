-- Where a lookup comes to from a name: by the records that it read so far, and to each name to which records lead that stand all the while.
use Rattle.std.proofs.Common.{◌≡◌, ◌∙◌, sym, subst, refl, ℕ, zero, suc, ◌+◌, ◌≤◌, ◌⊎◌, inl, inr, true, false, List, [], ◌∷◌, length, Option, Some, None, is_some, slice_get, IsTrue}
use Rattle.dn_base.proofs.Members.{one_member}
use Rattle.dn_net.specs.declared.node.Name.{Name}
use Rattle.dn_net.specs.declared.node.NodeDecl.{NodeDecl}
use Rattle.dn_net.specs.declared.node.Unit.{Unit as UnitPart}
use Rattle.dn_net.specs.Chain.{IsChain, Member, Reaches}
use Rattle.dn_net.specs.Decode.{Step, is_accepted, is_formed, is_stop, is_stop_at, step_limit, steps, unit_at}
use Rattle.dn_net.specs.Legal.{IsLegalNet}
use Rattle.dn_net.specs.Names.{is_ascending, resolved_names, stop_names}
use Rattle.dn_net.proofs.Ascending.{end_names_ascend}
use Rattle.dn_net.proofs.Chains.{chain_join, chain_more}
use Rattle.dn_net.proofs.Resolution.{end_names_are_ends}
use Rattle.dn_net.proofs.Steps.{node_at, unit_is_bare}
use Rattle.dn_net.proofs.Stops.{listed_stop, shallow_reach, stop_listed, stop_unit}
use Rattle.dn_kind.specs.Tables.{Extends, Held, StepUnder, steps_by_unit, steps_under}
use Rattle.dn_kind.proofs.Ways.{ends_here, few_in_unit, legal_one_way_to_unit, step_more, step_under, stop_from_step}
use Rattle.dn_flight.specs.declared.lookup.LookState.{LookState}
use Rattle.dn_flight.specs.declared.lookup.LookState.TheVariants.{At, Ended}
use Rattle.dn_flight.specs.Flight.{sent_on, settled, settled_by}

-- a lookup from a name came to where it stands by steps of a relation: to a unit, or to each of its names
abbrev pub Came : List NodeDecl → (Name → Name → Type 0) → Name → LookState → Type 0
Came net S x (At s) = IsTrue (is_stop net s) × Reaches S x s
Came net S x (Ended names) = (y : Name) → Member y names → IsTrue (is_accepted net y) × Reaches S x y

-- where a lookup stands the records still lead to a name: from its unit, or it has ended with it
abbrev pub IsOn : List NodeDecl → Held → LookState → Name → Type 0
IsOn net low (At s) y = Reaches (StepUnder net low) s y
IsOn net low (Ended names) y = Member y names

-- the names with which a lookup has ended ascend
abbrev pub Ascends : LookState → Type 0
Ascends (At s) = Unit {0}
Ascends (Ended names) = is_ascending names ≡ true

pub settled_ascends : (net : List NodeDecl) (w : Name) → Ascends (settled net w)
settled_ascends net w = go (stop_names net w)
  where
    go : (l : List Name) → Ascends (settled_by l (resolved_names net w))
    go [] = end_names_ascend (steps net) (is_accepted net) step_limit w
    go (s ∷ ss) = tt

pub sent_ascends : (net : List NodeDecl) (l : List Name) → Ascends (sent_on net l)
sent_ascends net [] = refl
sent_ascends net (x ∷ xs) = settled_ascends net x

reaches_join : (S : Name → Name → Type 0) (x y z : Name) → Reaches S x y → Reaches S y z → Reaches S x z
reaches_join S x y z r s = (r.0 + s.0, chain_join S r.0 s.0 x y z r.1 s.1)

reaches_more : (S Q : Name → Name → Type 0) → ((a b : Name) → S a b → Q a b) → (x y : Name) → Reaches S x y → Reaches Q x y
reaches_more S Q f x y r = (r.0, chain_more S Q f r.0 x y r.1)

-- a chain under records is one of the net, or the net comes to a unit first
split_stop : (net : List NodeDecl) (h : Held) (k : ℕ) (x y : Name) → IsChain (StepUnder net h) k x y → Reaches (Step net) x y ⊎ ((s : Name) × IsTrue (is_stop net s) × Reaches (Step net) x s × Reaches (StepUnder net h) s y)
split_stop net h zero x y c = inl (zero, c)
split_stop net h (suc k) x y c = go (unit_at net x.node) refl c.1 (split_stop net h k c.0 y c.2)
  where
    go : (v : Option UnitPart) → unit_at net x.node ≡ v → Member c.0 (steps_by_unit net h x v) → (Reaches (Step net) c.0 y ⊎ ((s : Name) × IsTrue (is_stop net s) × Reaches (Step net) c.0 s × Reaches (StepUnder net h) s y)) → Reaches (Step net) x y ⊎ ((s : Name) × IsTrue (is_stop net s) × Reaches (Step net) x s × Reaches (StepUnder net h) s y)
    go None e m (inl r) = inl (suc r.0, (c.0, m, r.1))
    go None e m (inr t) = inr (t.0, t.1, (suc t.2.0, (c.0, m, t.2.1)), t.3)
    go (Some u) e m r = inr (x, subst (λ v. IsTrue (is_stop_at x.addr v)) (sym e) (stop_from_step net h x c.0 u m), (zero, refl), (suc k, c))

-- a name in a unit is not accepted
stop_not_accepted : (net : List NodeDecl) → IsLegalNet net → (s : Name) → IsTrue (is_stop net s) → IsTrue (is_accepted net s) → ⊥
stop_not_accepted net legal s is a =
    let some = (stop_unit net s is).0 in
    let bare = unit_is_bare (slice_get net s.node) s.addr (λ n at. node_at is_formed net s.node legal.is_net.formed n at) some in
    let f : true ≡ false = sym a ∙ bare.0 in
    cc

pub settle_came : (net : List NodeDecl) (S : Name → Name → Type 0) → ((a b : Name) → Step net a b → S a b) → (x w : Name) → Reaches S x w → Came net S x (settled net w)
settle_came net S wide x w r = go (stop_names net w) refl
  where
    go : (l : List Name) → stop_names net w ≡ l → Came net S x (settled_by l (resolved_names net w))
    go [] e = λ y m.
        let d = (end_names_are_ends (steps net) (is_accepted net) step_limit w y).0 m in
        (d.0, reaches_join S x w y r (reaches_more (Step net) S wide w y (d.1.0, d.1.2)))
    go (s ∷ ss) e =
        let t = listed_stop net w s (subst (Member s) (sym e) (inl refl)) in
        (t.0, reaches_join S x w s r (reaches_more (Step net) S wide w s t.1))

pub settle_keeps : (net : List NodeDecl) → IsLegalNet net → (low : Held) (w y : Name) → IsTrue (is_accepted net y) → Reaches (StepUnder net low) w y → IsOn net low (settled net w) y
settle_keeps net legal low w y a r = go (stop_names net w) refl
  where
    go : (l : List Name) → stop_names net w ≡ l → IsOn net low (settled_by l (resolved_names net w)) y
    go [] e = elim (split_stop net low r.0 w y r.1) [
      | inl c ↦ (end_names_are_ends (steps net) (is_accepted net) step_limit w y).1 (a, shallow_reach net legal.walks.shallow w y c)
      | inr t ↦ absurd (subst (Member t.0) e (stop_listed net legal.walks.shallow w t.0 t.1 t.2))
    ]
    go (s ∷ ss) e = by (legal_one_way_to_unit net low legal w s y c.0 r.0 t.0 c.1 r.1)
      where
        t : IsTrue (is_stop net s) × Reaches (Step net) w s
        t = listed_stop net w s (subst (Member s) (sym e) (inl refl))

        c : Reaches (StepUnder net low) w s
        c = reaches_more (Step net) (StepUnder net low) (step_under net legal.is_net.formed low) w s t.1

        by : (((d : ℕ) × (c.0 ≡ r.0 + d) × IsChain (StepUnder net low) d y s) ⊎ ((d : ℕ) × (r.0 ≡ c.0 + d) × IsChain (StepUnder net low) d s y)) → Reaches (StepUnder net low) s y
        by (inr d) = (d.0, d.2)
        by (inl d) = back d.0 d.2
          where
            back : (d : ℕ) → IsChain (StepUnder net low) d y s → Reaches (StepUnder net low) s y
            back zero f = (zero, sym f)
            back (suc d) f = absurd (subst (Member f.0) (ends_here net low legal.is_net.formed y a) f.1)

-- the record that a lookup reads leads on
pub sent_came : (net : List NodeDecl) (S : Name → Name → Type 0) → ((a b : Name) → Step net a b → S a b) → (h : Held) (x s : Name) → ((z : Name) → StepUnder net h s z → S s z) → Reaches S x s → Came net S x (sent_on net (steps_under net h s))
sent_came net S wide h x s one r = go (steps_under net h s) refl
  where
    go : (l : List Name) → steps_under net h s ≡ l → Came net S x (sent_on net l)
    go [] e = λ y m. absurd m
    go (z ∷ zs) e = settle_came net S wide x z (reaches_join S x s z r (suc zero, (z, one z (subst (Member z) (sym e) (inl refl)), refl)))

pub sent_keeps : (net : List NodeDecl) → IsLegalNet net → (low h : Held) → Extends low h → (s y : Name) → IsTrue (is_stop net s) → IsTrue (is_accepted net y) → Reaches (StepUnder net low) s y → IsOn net low (sent_on net (steps_under net h s)) y
sent_keeps net legal low h ex s y is a r = first r.0 r.1
  where
    few : length (steps_under net h s) ≤ 1
    few = by (unit_at net s.node) (stop_unit net s is).0
      where
        by : (o : Option UnitPart) → is_some o ≡ true → length (steps_by_unit net h s o) ≤ 1
        by None e = cc
        by (Some u) e = few_in_unit net h s u

    go : (z : Name) → Member z (steps_under net h s) → Reaches (StepUnder net low) z y → (l : List Name) → steps_under net h s ≡ l → IsOn net low (sent_on net l) y
    go z m c [] e = absurd (subst (Member z) e m)
    go z m c (v ∷ vs) e =
        let same : z ≡ v = one_member (steps_under net h s) z v few m (subst (Member v) (sym e) (inl refl)) in
        settle_keeps net legal low v y a (subst (λ (t : Name). Reaches (StepUnder net low) t y) same c)

    first : (k : ℕ) → IsChain (StepUnder net low) k s y → IsOn net low (sent_on net (steps_under net h s)) y
    first zero c = absurd (stop_not_accepted net legal s is (subst (λ (t : Name). IsTrue (is_accepted net t)) (sym c) a))
    first (suc k) c = go c.0 (step_more net low h ex s c.0 c.1) (k, c.2) (steps_under net h s) refl
