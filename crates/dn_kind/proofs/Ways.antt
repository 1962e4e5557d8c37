-- More records take no name away, and a name that reaches a unit has one way to it.
use Rattle.std.proofs.Common.{◌≡◌, ℕ, zero, suc, ◌+◌, ◌/◌, ◌^◌, ◌≤◌, ◌⊎◌, inl, inr, Bool, true, false, if◌then◌else◌, List, [], ◌∷◌, ◌++◌, length, Option, Some, None, is_some, refl, sym, ap, ◌∙◌, subst, arith, zero-add, nat_le, slice_get, IsTrue}
use Rattle.std.specs.List.{list_all}
use Rattle.std.proofs.lemmas.Bool.{and_parts}
use Rattle.dn_base.proofs.Members.{one_member}
use Rattle.dn_net.specs.declared.node.Name.{Name}
use Rattle.dn_net.specs.declared.node.NodeDecl.{NodeDecl}
use Rattle.dn_net.specs.declared.node.Unit.{Unit as UnitPart}
use Rattle.dn_net.specs.Chain.{Member, IsChain, Reaches}
use Rattle.dn_net.specs.Decode.{top, in_some_block, is_formed, is_accepted, is_accepted_at, is_stop, is_stop_at, sent_names, unit_of, unit_at, steps, Step}
use Rattle.dn_net.proofs.Steps.{unit_is_bare, node_at}
use Rattle.dn_net.proofs.Chains.{chain_more}
use Rattle.dn_kind.specs.declared.rights.Access.{Access}
use Rattle.dn_kind.specs.declared.unit_kind.Record.{Record}
use Rattle.dn_kind.specs.Rights.{allows}
use Rattle.dn_kind.specs.Tables.{AreHeld, Held, IsHeld, allowing, record_allowing, name_at_port, output, steps_by_unit, steps_under, StepUnder, Extends, MoreRecordsKeepNames}
use Rattle.dn_kind.specs.Ways.{NoFork, Slot, slot_in, PassesIn, OneWayToUnit, ChainPassesSlots, OneRowOfSlots, LegalOneWayToUnit, LegalOneRowOfSlots}

-- of two chains from one name, where a name that reaches the end of the first has one step at most, one goes on with the other
one_way : {X : Type 0} (S : X → X → Type 0) (u : X) → ((x y z : X) (k : ℕ) → IsChain S k x u → S x y → S x z → y ≡ z) → (j k : ℕ) (x y : X) → IsChain S j x u → IsChain S k x y → ((d : ℕ) × (j ≡ k + d) × IsChain S d y u) ⊎ ((d : ℕ) × (k ≡ j + d) × IsChain S d u y)
one_way S u alone zero k x y c d = inr (k, sym (zero-add k), subst (λ w. IsChain S k w y) c d)
one_way S u alone (suc j) zero x y c d = inl (suc j, sym (zero-add (suc j)), subst (λ w. IsChain S (suc j) w u) d c)
one_way {X} S u alone (suc j) (suc k) x y c d =
    let e : c.0 ≡ d.0 = alone x c.0 d.0 (suc j) c c.1 d.1 in
    let c' : IsChain S j d.0 u = subst (λ w. IsChain S j w u) e c.2 in
    let r = one_way S u alone j k d.0 y c' d.2 in
    elim r [
      | inl a ↦ inl (a.0, (omega arith), a.2)
      | inr a ↦ inr (a.0, (omega arith), a.2)
    ]

-- a step under records is one under more
member_more : (net : List NodeDecl) (h h' : Held) → Extends h h' → (x y : Name) (u : Option UnitPart) → Member y (steps_by_unit net h x u) → Member y (steps_by_unit net h' x u)
member_more net h h' e x y None m = m
member_more net h h' e x y (Some u) m = go (nat_le x.addr top) (h x.node (x.addr / 2 ^ u.page)) refl m
  where
    go : (b : Bool) (r : Option _) → h x.node (x.addr / 2 ^ u.page) ≡ r → Member y (if b then output u r x.addr else []) → Member y (if b then output u (h' x.node (x.addr / 2 ^ u.page)) x.addr else [])
    go false r is n = n
    go true None is n = absurd n
    go true (Some r) is n = subst (λ s. Member y (output u s x.addr)) (sym (e x.node (x.addr / 2 ^ u.page) r is)) n

pub step_more : (net : List NodeDecl) (h h' : Held) → Extends h h' → (x y : Name) → StepUnder net h x y → StepUnder net h' x y
step_more net h h' ex x y m = member_more net h h' ex x y (unit_at net x.node) m

-- a step of the net is one under records too: a unit has no step in the net
pub step_under : (net : List NodeDecl) → IsTrue (list_all is_formed net) → (h : Held) (x y : Name) → Step net x y → StepUnder net h x y
step_under net formed h x y s = by (unit_at net x.node) refl
  where
    by : (o : Option UnitPart) → unit_at net x.node ≡ o → Member y (steps_by_unit net h x o)
    by None e = s
    by (Some u) e =
        let bare = unit_is_bare (slice_get net x.node) x.addr (λ n at. node_at is_formed net x.node formed n at) (ap is_some e) in
        absurd (subst (λ o. Member y (sent_names o)) bare.1 s)

-- records that allow an access can be held where all can
pub allowing_held : (net : List NodeDecl) (h : Held) (access : Access) → AreHeld net h → AreHeld net (allowing access h)
allowing_held net h access held n q r e = by (h n q) refl e
  where
    by : (o : Option Record) → h n q ≡ o → record_allowing access o ≡ Some r → IsHeld net n q r
    by None at e = cc
    by (Some t) at e = by_rights (allows t.rights access) e
      where
        by_rights : (b : Bool) → (if b then Some t else None) ≡ Some r → IsHeld net n q r
        by_rights true e = held n q r (at ∙ e)
        by_rights false e = cc

-- more records, more that allow an access
pub allowing_more : (h h' : Held) (access : Access) → Extends h h' → Extends (allowing access h) (allowing access h')
allowing_more h h' access ex n q r e = by (h n q) refl e
  where
    by : (o : Option Record) → h n q ≡ o → record_allowing access o ≡ Some r → record_allowing access (h' n q) ≡ Some r
    by None at e = cc
    by (Some t) at e = ap (record_allowing access) (ex n q t at) ∙ e

pub more_records_keep_names : MoreRecordsKeepNames
more_records_keep_names net h h' e x y r =
    (r.0, (r.1.0, r.1.1, chain_more (StepUnder net h) (StepUnder net h') (λ a b. member_more net h h' e a b (unit_at net a.node)) r.1.0 x y r.1.2))

few_to_port : (p : Option ℕ) (a : ℕ) → length (name_at_port p a) ≤ 1
few_to_port None a = omega arith
few_to_port (Some p) a = omega arith

few_output : (u : UnitPart) (r : Option _) (a : ℕ) → length (output u r a) ≤ 1
few_output u None a = omega arith
few_output u (Some r) a = few_to_port (slice_get u.ports r.port) _

-- a name of a unit has one step at most under records
pub few_in_unit : (net : List NodeDecl) (h : Held) (x : Name) (u : UnitPart) → length (steps_by_unit net h x (Some u)) ≤ 1
few_in_unit net h x u = go (nat_le x.addr top)
  where
    go : (b : Bool) → length (if b then output u (h x.node (x.addr / 2 ^ u.page)) x.addr else []) ≤ 1
    go true = few_output u _ x.addr
    go false = omega arith

-- a step from a unit's name shows that its address is no higher than the top
pub stop_from_step : (net : List NodeDecl) (h : Held) (x y : Name) (u : UnitPart) → Member y (steps_by_unit net h x (Some u)) → IsTrue (is_stop_at x.addr (Some u))
stop_from_step net h x y u m = go (nat_le x.addr top) m
  where
    go : (b : Bool) → Member y (if b then output u (h x.node (x.addr / 2 ^ u.page)) x.addr else []) → IsTrue b
    go true n = refl
    go false n = absurd n

-- a chain under records to a unit has a first unit, which the net itself reaches
pub first_stop : (net : List NodeDecl) (h : Held) (k : ℕ) (x u : Name) → IsTrue (is_stop net u) → IsChain (StepUnder net h) k x u → (s : Name) × IsTrue (is_stop net s) × Reaches (Step net) x s
first_stop net h zero x u is c = (u, is, (zero, c))
first_stop net h (suc k) x u is c = go (unit_at net x.node) refl c.1 (first_stop net h k c.0 u is c.2)
  where
    go : (v : Option UnitPart) → unit_at net x.node ≡ v → Member c.0 (steps_by_unit net h x v) → ((s : Name) × IsTrue (is_stop net s) × Reaches (Step net) c.0 s) → (s : Name) × IsTrue (is_stop net s) × Reaches (Step net) x s
    go None e m r = (r.0, r.1, (suc r.2.0, (c.0, m, r.2.1)))
    go (Some w) e m r = (x, subst (λ v. IsTrue (is_stop_at x.addr v)) (sym e) (stop_from_step net h x c.0 w m), (zero, refl))

-- where no name forks, a name that reaches a unit under records has one step at most
one_step : (net : List NodeDecl) (h : Held) → NoFork net → (x u : Name) (k : ℕ) → IsTrue (is_stop net u) → IsChain (StepUnder net h) k x u → length (steps_under net h x) ≤ 1
one_step net h nf x u k is c = go (unit_at net x.node)
  where
    r : (s : Name) × IsTrue (is_stop net s) × Reaches (Step net) x s
    r = first_stop net h k x u is c

    go : (v : Option UnitPart) → length (steps_by_unit net h x v) ≤ 1
    go None = nf x r.0 r.1 r.2
    go (Some w) = few_in_unit net h x w

pub one_way_to_unit : OneWayToUnit
one_way_to_unit net h nf x u y j k is c d =
    one_way (StepUnder net h) u (λ w a b i t p q. one_member (steps_under net h w) a b (one_step net h nf w u i is t) p q) j k x y c d

-- a chain passes a row of slots
slots_of : (net : List NodeDecl) (h : Held) (k : ℕ) (x y : Name) → IsChain (StepUnder net h) k x y → (slots : List Slot) × PassesIn net h k x y slots
slots_of net h zero x y c = ([], (c, refl))
slots_of net h (suc k) x y c =
    let r = slots_of net h k c.0 y c.2 in
    (slot_in x (unit_at net x.node) ++ r.0, (c.0, r.0, c.1, refl, r.1))

chain_of : (net : List NodeDecl) (h : Held) (k : ℕ) (x y : Name) (slots : List Slot) → PassesIn net h k x y slots → IsChain (StepUnder net h) k x y
chain_of net h zero x y slots p = p.0
chain_of net h (suc k) x y slots p = (p.0, p.2, chain_of net h k p.0 y p.1 p.4)

pub chain_passes_slots : ChainPassesSlots
chain_passes_slots net h k x y = (slots_of net h k x y, chain_of net h k x y)

-- what is no empty list passes a unit
reaches_stop : (net : List NodeDecl) (h : Held) (k : ℕ) (x y : Name) (s : Slot) (rest : List Slot) → PassesIn net h k x y (s ∷ rest) → (u : Name) × (j : ℕ) × IsTrue (is_stop net u) × IsChain (StepUnder net h) j x u
reaches_stop net h zero x y s rest p = let e : s ∷ rest ≡ [] = p.1 in cc
reaches_stop net h (suc k) x y s rest p = go (unit_at net x.node) refl p.2 p.3 (λ t ts q. reaches_stop net h k p.0 y t ts q)
  where
    later : (ts : List Slot) → s ∷ rest ≡ ts → PassesIn net h k p.0 y ts → ((t : Slot) (ts : List Slot) → PassesIn net h k p.0 y (t ∷ ts) → (u : Name) × (j : ℕ) × IsTrue (is_stop net u) × IsChain (StepUnder net h) j p.0 u) → (u : Name) × (j : ℕ) × IsTrue (is_stop net u) × IsChain (StepUnder net h) j x u
    later [] e q ih = cc
    later (t ∷ ts) e q ih = let r = ih t ts q in (r.0, suc r.1, r.2, (p.0, p.2, r.3))

    go : (v : Option UnitPart) → unit_at net x.node ≡ v → Member p.0 (steps_by_unit net h x v) → s ∷ rest ≡ slot_in x v ++ p.1 → ((t : Slot) (ts : List Slot) → PassesIn net h k p.0 y (t ∷ ts) → (u : Name) × (j : ℕ) × IsTrue (is_stop net u) × IsChain (StepUnder net h) j p.0 u) → (u : Name) × (j : ℕ) × IsTrue (is_stop net u) × IsChain (StepUnder net h) j x u
    go (Some w) e m f ih = (x, 0, subst (λ v. IsTrue (is_stop_at x.addr v)) (sym e) (stop_from_step net h x p.0 w m), refl)
    go None e m f ih = later p.1 f p.4 ih

-- an accepted name is in no unit and has no step
pub ends_here : (net : List NodeDecl) (h : Held) → IsTrue (list_all is_formed net) → (x : Name) → IsTrue (is_accepted net x) → steps_under net h x ≡ []
ends_here net h formed x is = go (unit_at net x.node) refl
  where
    fixed : (o : Option NodeDecl) → slice_get net x.node ≡ o → IsTrue (is_accepted_at x.addr o) → steps net x ≡ []
    fixed None e a = rw e refl
    fixed (Some n) e a =
        let b = and_parts (nat_le x.addr top) (in_some_block x.addr n.accepts) a in
        rw (e, b.0, b.1) refl

    go : (v : Option UnitPart) → unit_at net x.node ≡ v → steps_by_unit net h x v ≡ []
    go None e = fixed (slice_get net x.node) refl is
    go (Some u) e =
        let some : is_some (unit_of (slice_get net x.node)) ≡ true = ap is_some e in
        let bare = unit_is_bare (slice_get net x.node) x.addr (λ n at. node_at is_formed net x.node formed n at) some in
        let f : true ≡ false = sym is ∙ bare.0 in
        cc

no_step : (net : List NodeDecl) (h : Held) → IsTrue (list_all is_formed net) → (x y z : Name) → x ≡ y → IsTrue (is_accepted net y) → StepUnder net h x z → ⊥
no_step net h formed x y z e is s =
    let f : steps_under net h y ≡ [] = ends_here net h formed y is in
    subst (λ l. Member z l) f (subst (λ w. StepUnder net h w z) e s)

one_row : (net : List NodeDecl) (h : Held) → IsTrue (list_all is_formed net) → NoFork net → (y z : Name) → IsTrue (is_accepted net y) → IsTrue (is_accepted net z) → (j k : ℕ) (x : Name) (row other : List Slot) → PassesIn net h j x y row → PassesIn net h k x z other → row ≡ other
one_row net h formed nf y z a b zero zero x row other p q = p.1 ∙ sym q.1
one_row net h formed nf y z a b zero (suc k) x row other p q = absurd (no_step net h formed x y q.0 p.0 a q.2)
one_row net h formed nf y z a b (suc j) zero x row other p q = absurd (no_step net h formed x z p.0 q.0 b p.2)
one_row net h formed nf y z a b (suc j) (suc k) x row other p q =
    p.3 ∙ ap (λ r. slot_in x (unit_at net x.node) ++ r) (go p.1 q.1 p.4 q.4 (λ s t. one_row net h formed nf y z a b j k p.0 p.1 q.1 s t)) ∙ sym q.3
  where
    meet : (u : Name) (i : ℕ) → IsTrue (is_stop net u) → IsChain (StepUnder net h) i x u → p.0 ≡ q.0
    meet u i is c = one_member (steps_under net h x) p.0 q.0 (one_step net h nf x u i is c) p.2 q.2

    go : (r s : List Slot) → PassesIn net h j p.0 y r → PassesIn net h k q.0 z s → (PassesIn net h j p.0 y r → PassesIn net h k p.0 z s → r ≡ s) → r ≡ s
    go [] [] c d ih = refl
    go (t ∷ ts) s c d ih =
        let u = reaches_stop net h j p.0 y t ts c in
        let e : p.0 ≡ q.0 = meet u.0 (suc u.1) u.2 (p.0, p.2, u.3) in
        ih c (subst (λ w. PassesIn net h k w z s) (sym e) d)
    go [] (t ∷ ts) c d ih =
        let u = reaches_stop net h k q.0 z t ts d in
        let e : p.0 ≡ q.0 = meet u.0 (suc u.1) u.2 (q.0, q.2, u.3) in
        ih c (subst (λ w. PassesIn net h k w z (t ∷ ts)) (sym e) d)

pub one_row_of_slots : OneRowOfSlots
one_row_of_slots net h formed nf x y z row other a b p q = one_row net h formed nf y z a b p.0 q.0 x row other p.1 q.1

-- in a legal net no name forks on its way to a unit
pub legal_one_way_to_unit : LegalOneWayToUnit
legal_one_way_to_unit net h legal = one_way_to_unit net h legal.units.no_fork

pub legal_one_row_of_slots : LegalOneRowOfSlots
legal_one_row_of_slots net h legal = one_row_of_slots net h legal.is_net.formed legal.units.no_fork
