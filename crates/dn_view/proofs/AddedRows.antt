-- A chain under records is a row of hops: steps of the net to a unit, and one through the record of a
-- slot, again and again.
use Rattle.std.proofs.Common.{◌≡◌, ◌∙◌, sym, ap, refl, subst, ℕ, zero, suc, ◌+◌, ◌*◌, ◌/◌, ◌%◌, ◌^◌, ◌⊎◌, inl, inr, Bool, true, false, if◌then◌else◌, nat_le, List, [], ◌∷◌, Option, Some, None, is_some, slice_get, IsTrue, arith}
use Rattle.std.specs.List.{list_all}
use Rattle.std.proofs.lemmas.Bool.{and_parts}
use Rattle.dn_base.proofs.Members.{one_member}
use Rattle.dn_net.specs.declared.node.Name.{Name}
use Rattle.dn_net.specs.declared.node.NodeDecl.{NodeDecl}
use Rattle.dn_net.specs.declared.node.Unit.{Unit as UnitPart}
use Rattle.dn_net.specs.Chain.{IsChain, Member}
use Rattle.dn_net.specs.Decode.{Step, in_some_block, is_accepted, is_accepted_at, is_formed, is_stop, is_stop_at, sent_names, steps, top, unit_at}
use Rattle.dn_net.specs.UnitRules.{NoFork}
use Rattle.dn_net.proofs.Steps.{node_at, unit_is_bare}
use Rattle.dn_net.proofs.Chains.{chain_more, chain_join}
use Rattle.dn_kind.specs.declared.unit_kind.Record.{Record}
use Rattle.dn_kind.specs.Tables.{Held, StepUnder, name_at_port, output, steps_by_unit}
use Rattle.dn_kind.proofs.Ways.{step_under, few_in_unit, first_stop}
use Rattle.dn_tables.specs.declared.placement.Hop.{Hop}

-- CHAINS

-- of two chains from one name, the first to a name that all that reach it reach by one step each, one
-- goes on with the other; where the second is of a narrower relation, what it passes is its own
pub one_way_within : {X : Type 0} (S Q : X → X → Type 0) (u : X) → ((x y : X) → Q x y → S x y) →
    ((x y z : X) (k : ℕ) → IsChain S k x u → S x y → S x z → y ≡ z) → (j k : ℕ) (x y : X) →
    IsChain S j x u → IsChain Q k x y →
    ((d : ℕ) × IsChain S d y u) ⊎ ((d : ℕ) × IsChain Q j x u × IsChain Q d u y)
one_way_within S Q u sub single zero k x y c d = inr (k, c, subst (λ w. IsChain Q k w y) c d)
one_way_within S Q u sub single (suc j) zero x y c d =
    inl (suc j, subst (λ w. IsChain S (suc j) w u) d c)
one_way_within {X} S Q u sub single (suc j) (suc k) x y c d =
    let e : c.0 ≡ d.0 = single x c.0 d.0 (suc j) c c.1 (sub x d.0 d.1) in
    let c' : IsChain S j d.0 u = subst (λ w. IsChain S j w u) e c.2 in
    elim (one_way_within S Q u sub single j k d.0 y c' d.2) [
      | inl a ↦ inl (a.0, a.1)
      | inr a ↦ inr (a.0, (d.0, d.1, a.1), a.2)
    ]

-- STEPS

-- a name in a unit has no step of the net
pub unit_still : (net : List NodeDecl) → IsTrue (list_all is_formed net) → (x : Name) (u : UnitPart) →
    unit_at net x.node ≡ Some u → steps net x ≡ []
unit_still net formed x u e =
    let bare = unit_is_bare (slice_get net x.node) x.addr (λ n at. node_at is_formed net x.node formed n at) (ap is_some e) in
    ap sent_names bare.1

-- and is not accepted
pub unit_unaccepted : (net : List NodeDecl) → IsTrue (list_all is_formed net) → (x : Name) (u : UnitPart) →
    unit_at net x.node ≡ Some u → IsTrue (is_accepted net x) → ⊥
unit_unaccepted net formed x u e a =
    let bare = unit_is_bare (slice_get net x.node) x.addr (λ n at. node_at is_formed net x.node formed n at) (ap is_some e) in
    let f : true ≡ false = sym a ∙ bare.0 in
    cc

-- an accepted name has no step of the net
pub accepted_still : (net : List NodeDecl) (x : Name) → IsTrue (is_accepted net x) → steps net x ≡ []
accepted_still net x is = fixed (slice_get net x.node) refl is
  where
    fixed : (o : Option NodeDecl) → slice_get net x.node ≡ o → IsTrue (is_accepted_at x.addr o) →
        steps net x ≡ []
    fixed None e a = rw e refl
    fixed (Some n) e a =
        let b = and_parts (nat_le x.addr top) (in_some_block x.addr n.accepts) a in
        rw (e, b.0, b.1) refl

no_member : {X : Type 0} (xs : List X) (y : X) → xs ≡ [] → Member y xs → ⊥
no_member xs y e m = subst (λ l. Member y l) e m

-- nor one under records
pub accepted_ends : (net : List NodeDecl) → IsTrue (list_all is_formed net) → (h : Held) (x y : Name) →
    IsTrue (is_accepted net x) → StepUnder net h x y → ⊥
accepted_ends net formed h x y a s = go (unit_at net x.node) refl s
  where
    go : (v : Option UnitPart) → unit_at net x.node ≡ v → Member y (steps_by_unit net h x v) → ⊥
    go None e m = no_member (steps net x) y (accepted_still net x a) m
    go (Some u) e m = unit_unaccepted net formed x u e a

-- the unit of a stop
pub stop_part : (net : List NodeDecl) (x : Name) → IsTrue (is_stop net x) →
    (u : UnitPart) × (unit_at net x.node ≡ Some u)
stop_part net x s = go (unit_at net x.node) refl s
  where
    go : (v : Option UnitPart) → unit_at net x.node ≡ v → IsTrue (is_stop_at x.addr v) →
        (u : UnitPart) × (unit_at net x.node ≡ Some u)
    go None e s = cc
    go (Some u) e s = (u, e)

-- two steps from a stop are one
pub one_from_stop : (net : List NodeDecl) (h : Held) (s y z : Name) → IsTrue (is_stop net s) →
    StepUnder net h s y → StepUnder net h s z → y ≡ z
one_from_stop net h s y z is a b = go (unit_at net s.node) refl a b
  where
    go : (v : Option UnitPart) → unit_at net s.node ≡ v → Member y (steps_by_unit net h s v) →
        Member z (steps_by_unit net h s v) → y ≡ z
    go None e a b = let u = stop_part net s is in let f : None ≡ Some u.0 = sym e ∙ u.1 in cc
    go (Some w) e a b = one_member (steps_by_unit net h s (Some w)) y z (few_in_unit net h s w) a b

-- where no name forks, a name that reaches a stop under records has one step at most
pub one_to_stop : (net : List NodeDecl) (h : Held) → NoFork net → (u : Name) → IsTrue (is_stop net u) →
    (x y z : Name) (k : ℕ) → IsChain (StepUnder net h) k x u → StepUnder net h x y →
    StepUnder net h x z → y ≡ z
one_to_stop net h nf u is x y z k c a b = go (unit_at net x.node) refl a b
  where
    go : (v : Option UnitPart) → unit_at net x.node ≡ v → Member y (steps_by_unit net h x v) →
        Member z (steps_by_unit net h x v) → y ≡ z
    go None e a b =
        let r = first_stop net h k x u is c in
        one_member (steps net x) y z (nf x r.0 r.1 r.2) a b
    go (Some w) e a b = one_member (steps_by_unit net h x (Some w)) y z (few_in_unit net h x w) a b

-- ROWS

-- what a hop is whatever is held: its unit, and the record that sends its name to another
pub record HopOut (net : List NodeDecl) (hop : Hop) (to : Name) : Type 0 where
  pub unit : UnitPart
  pub is_unit : unit_at net hop.unit ≡ Some unit
  pub low : nat_le hop.x top ≡ true
  pub rec : Record
  pub is_rec : rec.port ≡ hop.port
  pub node : ℕ
  pub is_port : slice_get unit.ports hop.port ≡ Some node
  pub out : hop.y ≡ rec.page * 2 ^ unit.page + hop.x % 2 ^ unit.page
  pub to_is : ◌≡◌ {A = Name} (record { node = node; addr = hop.y }) to

-- from a name by so many steps of the net to the hop's unit, and through the record that is held there
-- to another name
pub record HopStep (net : List NodeDecl) (h : Held) (x : Name) (hop : Hop) (j : ℕ) (to : Name)
    : Type 0 where
  pub through : HopOut net hop to
  pub open through use *
  pub before : IsChain (Step net) j x (record { node = hop.unit; addr = hop.x })
  pub holds : h hop.unit (hop.x / 2 ^ unit.page) ≡ Some rec

abbrev pub Row : List NodeDecl → Held → Name → List Hop → Name → ℕ → Type 0
Row net h x [] y k = IsChain (Step net) k x y
Row net h x (hop ∷ hops) y k =
    (j : ℕ) × (i : ℕ) × (z : Name) × HopStep net h x hop j z × Row net h z hops y i × (k ≡ j + suc i)

longer : (net : List NodeDecl) (h : Held) (x z : Name) (hop : Hop) (j : ℕ) (to : Name) → Step net x z →
    HopStep net h z hop j to → HopStep net h x hop (suc j) to
longer net h x z hop j to m w = record { through = w.through; before = (z, m, w.before); holds = w.holds }

-- a chain is a row
pub row_of : (net : List NodeDecl) (h : Held) (k : ℕ) (x y : Name) → IsChain (StepUnder net h) k x y →
    (hops : List Hop) × Row net h x hops y k
row_of net h zero x y c = ([], c)
row_of net h (suc k) x y c = go (unit_at net x.node) refl c.1 (row_of net h k c.0 y c.2)
  where
    go : (v : Option UnitPart) → unit_at net x.node ≡ v → Member c.0 (steps_by_unit net h x v) →
        ((hops : List Hop) × Row net h c.0 hops y k) → (hops : List Hop) × Row net h x hops y (suc k)
    go None e m r = more r.0 r.1
      where
        more : (hops : List Hop) → Row net h c.0 hops y k → (hops' : List Hop) × Row net h x hops' y (suc k)
        more [] w = ([], (c.0, m, w))
        more (hop ∷ hops) w =
            (hop ∷ hops, (suc w.0, w.1, w.2, longer net h x c.0 hop w.0 w.2 m w.3, w.4, (omega arith)))
    go (Some u) e m r = through (nat_le x.addr top) refl (h x.node (x.addr / 2 ^ u.page)) refl m
      where
        out : (t : Record) → nat_le x.addr top ≡ true → h x.node (x.addr / 2 ^ u.page) ≡ Some t →
            (p : Option ℕ) → slice_get u.ports t.port ≡ p →
            Member c.0 (name_at_port p (t.page * 2 ^ u.page + x.addr % 2 ^ u.page)) →
            (hops : List Hop) × Row net h x hops y (suc k)
        out t eb et None ep m = absurd m
        out t eb et (Some p) ep (inr m) = absurd m
        out t eb et (Some p) ep (inl is) =
            let hop : Hop = record { unit = x.node; port = t.port; x = x.addr; y = t.page * 2 ^ u.page + x.addr % 2 ^ u.page } in (
              hop ∷ r.0,
              (
                0,
                k,
                c.0,
                record {
                  through = record {
                    unit = u;
                    is_unit = e;
                    low = eb;
                    rec = t;
                    is_rec = refl;
                    node = p;
                    is_port = ep;
                    out = refl;
                    to_is = is;
                  };
                  before = refl;
                  holds = et;
                },
                r.1,
                (omega arith),
              ),
            )

        through : (b : Bool) → nat_le x.addr top ≡ b → (t : Option Record) →
            h x.node (x.addr / 2 ^ u.page) ≡ t → Member c.0 (if b then output u t x.addr else []) →
            (hops : List Hop) × Row net h x hops y (suc k)
        through false eb t et m = absurd m
        through true eb None et m = absurd m
        through true eb (Some t) et m = out t eb et (slice_get u.ports t.port) refl m

-- the step through the record
pub through_record : (net : List NodeDecl) (h : Held) (x : Name) (hop : Hop) (j : ℕ) (z : Name) →
    HopStep net h x hop j z → StepUnder net h (record { node = hop.unit; addr = hop.x }) z
through_record net h x hop j z w =
    let P : Option UnitPart → Type 0 = λ v. Member z (steps_by_unit net h (record { node = hop.unit; addr = hop.x }) v) in
    let R : Option Record → Type 0 = λ r. Member z (output w.unit r hop.x) in
    let N : Option ℕ → Type 0 = λ p. Member z (name_at_port p (w.rec.page * 2 ^ w.unit.page + hop.x % 2 ^ w.unit.page)) in
    let B : Bool → Type 0 = λ b. Member z (if b then output w.unit (h hop.unit (hop.x / 2 ^ w.unit.page)) hop.x else []) in
    let Z : ℕ → Type 0 = λ a. ◌≡◌ {A = Name} (record { node = w.node; addr = a }) z in
    let at : Z (w.rec.page * 2 ^ w.unit.page + hop.x % 2 ^ w.unit.page) = subst Z w.out w.to_is in
    let n : N (Some w.node) = inl at in
    let port : slice_get w.unit.ports w.rec.port ≡ Some w.node = ap (slice_get w.unit.ports) w.is_rec ∙ w.is_port in
    let r : R (Some w.rec) = subst N (sym port) n in
    let b : B true = subst R (sym w.holds) r in
    subst P (sym w.is_unit) (subst B (sym w.low) b)

-- the name in the unit is a stop
pub stop_of_hop : (net : List NodeDecl) (h : Held) (x z : Name) (hop : Hop) (j : ℕ) →
    HopStep net h x hop j z → IsTrue (is_stop net (record { node = hop.unit; addr = hop.x }))
stop_of_hop net h x z hop j w =
    let P : Option UnitPart → Type 0 = λ v. IsTrue (is_stop_at hop.x v) in subst P (sym w.is_unit) w.low

-- a row is a chain
pub chain_of_row : (net : List NodeDecl) → IsTrue (list_all is_formed net) → (h : Held) (hops : List Hop)
    (x y : Name) (k : ℕ) → Row net h x hops y k → IsChain (StepUnder net h) k x y
chain_of_row net formed h [] x y k r =
    chain_more (Step net) (StepUnder net h) (step_under net formed h) k x y r
chain_of_row net formed h (hop ∷ hops) x y k r =
    let w : HopStep net h x hop r.0 r.2 = r.3 in
    let before = chain_more (Step net) (StepUnder net h) (step_under net formed h) r.0 x (record { node = hop.unit; addr = hop.x }) w.before in
    let rest : IsChain (StepUnder net h) (suc r.1) (record { node = hop.unit; addr = hop.x }) y =
    (r.2, through_record net h x hop r.0 r.2 w, chain_of_row net formed h hops r.2 y r.1 r.4) in
    subst (λ n. IsChain (StepUnder net h) n x y) (sym r.5)
    (chain_join (StepUnder net h) r.0 (suc r.1) x (record { node = hop.unit; addr = hop.x }) y before rest)
