-- A chain passes a unit once at most, so it goes by the records of one piece.
use Rattle.std.proofs.Common.{◌≡◌, ℕ, zero, suc, ◌+◌, ◌/◌, ◌^◌, ◌≤◌, ◌⊎◌, inl, inr, Bool, true, false, if◌then◌else◌, nat_le, List, [], ◌∷◌, slice_get, Option, Some, None, IsSome, IsTrue, refl, sym, ap, ◌∙◌, subst, arith}
use Rattle.dn_base.proofs.Orders.{cases_eq}
use Rattle.dn_net.specs.declared.node.Name.{Name}
use Rattle.dn_net.specs.declared.node.NodeDecl.{NodeDecl}
use Rattle.dn_net.specs.declared.node.Unit.{Unit as UnitPart}
use Rattle.dn_net.specs.Chain.{Member, IsChain, Reaches}
use Rattle.dn_net.specs.Decode.{top, is_accepted, is_stop, is_formed, unit_at, Step}
use Rattle.dn_net.specs.Legal.{IsLegalNet}
use Rattle.dn_net.specs.UnitRules.{LeadsOn, LeadsTo, IsUnitRow, HasShortRows}
use Rattle.dn_net.proofs.Chains.{chain_more}
use Rattle.dn_net.proofs.Steps.{node_at, unit_is_bare}
use Rattle.dn_net.proofs.Stops.{stop_unit}
use Rattle.std.specs.List.{list_all}
use Rattle.dn_kind.specs.declared.rights.Access.{Access}
use Rattle.dn_kind.specs.declared.unit_kind.Record.{Record}
use Rattle.dn_kind.specs.Rights.{allows}
use Rattle.dn_kind.specs.Tables.{AreHeld, Held, ResolvesUnder, StepUnder, allowing, output, record_allowing, steps_by_unit, steps_under}
use Rattle.dn_kind.proofs.Bounds.{Led, led, leads_by}
use Rattle.dn_kind.proofs.Ways.{allowing_more, ends_here, legal_one_way_to_unit, more_records_keep_names, step_under}
use Rattle.dn_gather.specs.Parts.{AreParts, EmptySlotGivesNothing, PiecesGiveTheirOwn}

-- no unit of a row of a legal net stands in it again
once : (net : List NodeDecl) → HasShortRows net → (u : ℕ) (us : List ℕ) → IsUnitRow net (u ∷ us) → Member u us → ⊥
once net rows u [] row m = m
once net rows u (w ∷ ws) row (inl e) =
    let on : LeadsTo net u u = subst (λ v. LeadsTo net u v) e row.1 in
    let few : 4 ≤ 3 = rows.short (u ∷ u ∷ u ∷ u ∷ []) (row.0, on, (row.0, on, (row.0, on, (row.0, tt, tt)))) in
    omega arith
once net rows u (w ∷ []) row (inr m) = m
once net rows u (w ∷ v ∷ []) row (inr (inl e)) =
    let there : LeadsTo net u w = row.1 in
    let back : LeadsTo net w u = subst (λ t. LeadsTo net w t) e row.2.1 in
    let few : 4 ≤ 3 = rows.short (u ∷ w ∷ u ∷ w ∷ []) (row.0, there, (row.2.0, back, (row.0, there, (row.2.0, tt, tt)))) in
    omega arith
once net rows u (w ∷ v ∷ []) row (inr (inr m)) = m
once net rows u (w ∷ v ∷ t ∷ ts) row (inr m) =
    let few = rows.short (u ∷ w ∷ v ∷ t ∷ ts) row in
    omega arith

-- a step in a unit is one under other records where the slot holds the same
same_step : (net : List NodeDecl) (h h' : Held) (x z : Name) (u : UnitPart) → ((r : Record) → h x.node (x.addr / 2 ^ u.page) ≡ Some r → h' x.node (x.addr / 2 ^ u.page) ≡ Some r) → Member z (steps_by_unit net h x (Some u)) → Member z (steps_by_unit net h' x (Some u))
same_step net h h' x z u f m = by (nat_le x.addr top) (h x.node (x.addr / 2 ^ u.page)) refl m
  where
    by : (b : Bool) (o : Option Record) → h x.node (x.addr / 2 ^ u.page) ≡ o → Member z (if b then output u o x.addr else []) → Member z (if b then output u (h' x.node (x.addr / 2 ^ u.page)) x.addr else [])
    by false o e n = n
    by true None e n = absurd n
    by true (Some r) e n = subst (λ o. Member z (output u o x.addr)) (sym (f r e)) n

-- a step in a unit goes by a record
its_record : (net : List NodeDecl) (h : Held) (x z : Name) (u : UnitPart) → Member z (steps_by_unit net h x (Some u)) → (r : Record) × (h x.node (x.addr / 2 ^ u.page) ≡ Some r)
its_record net h x z u m = by (nat_le x.addr top) (h x.node (x.addr / 2 ^ u.page)) refl m
  where
    by : (b : Bool) (o : Option Record) → h x.node (x.addr / 2 ^ u.page) ≡ o → Member z (if b then output u o x.addr else []) → (r : Record) × (h x.node (x.addr / 2 ^ u.page) ≡ Some r)
    by false o e n = absurd n
    by true None e n = absurd n
    by true (Some r) e n = (r, e)

module _ (net : List NodeDecl) (legal : IsLegalNet net) (unit : ℕ) (ha hb all : Held) (held : AreHeld net all) (parts : AreParts unit ha hb all) where
  -- where a row of units begins, some steps of the net from a name
  abbrev Begins : Name → List ℕ → Type 0
  Begins x [] = Unit {0}
  Begins x (u ∷ us) = (s : Name) × Reaches (Step net) x s × IsTrue (is_stop net s) × (s.node ≡ u)

  later : (x z : Name) (us : List ℕ) → Step net x z → Begins z us → Begins x us
  later x z [] s b = tt
  later x z (u ∷ us) s b = (b.0, (suc b.1.0, (z, s, b.1.1)), b.2, b.3)

  leads_on : (x z : Name) (u : UnitPart) (us : List ℕ) → unit_at net x.node ≡ Some u → Led net x z u → Begins z us → LeadsOn net x.node us
  leads_on x z u [] at l b = tt
  leads_on x z u (w ∷ ws) at l b = subst (λ (v : ℕ). LeadsTo net x.node v) b.3 (leads_by net x z b.0 u b.1.0 at l b.1.1 b.2)

  -- the units that a chain under all records passes: where the one unit is not among them it is a chain
  -- under the records of each, and in any case one under those of the one or of the other
  record Gone (k : ℕ) (x y : Name) : Type 0 where
    units : List ℕ
    row : IsUnitRow net units
    begins : Begins x units
    both : (Member unit units → ⊥) → IsChain (StepUnder net ha) k x y × IsChain (StepUnder net hb) k x y
    either : IsChain (StepUnder net ha) k x y ⊎ IsChain (StepUnder net hb) k x y

  gone : (k : ℕ) (x y : Name) → IsChain (StepUnder net all) k x y → Gone k x y
  gone zero x y c = record { units = []; row = tt; begins = tt; both = (λ n. (c, c)); either = inl c }
  gone (suc k) x y c = by (unit_at net x.node) refl c.1 (gone k c.0 y c.2)
    where
      by : (o : Option UnitPart) → unit_at net x.node ≡ o → Member c.0 (steps_by_unit net all x o) → Gone k c.0 y → Gone (suc k) x y
      by None at m g = record {
        units = g.units;
        row = g.row;
        begins = later x c.0 g.units m g.begins;
        both = (λ n. let b = g.both n in ((c.0, step ha, b.0), (c.0, step hb, b.1)));
        either = pick g.either;
      }
        where
          step : (h : Held) → StepUnder net h x c.0
          step h = subst (λ o. Member c.0 (steps_by_unit net h x o)) (sym at) m

          pick : IsChain (StepUnder net ha) k c.0 y ⊎ IsChain (StepUnder net hb) k c.0 y → IsChain (StepUnder net ha) (suc k) x y ⊎ IsChain (StepUnder net hb) (suc k) x y
          pick (inl p) = inl (c.0, step ha, p)
          pick (inr p) = inr (c.0, step hb, p)
      by (Some u) at m g = record {
        units = x.node ∷ g.units;
        row = row;
        begins = (x, (zero, refl), l.stop, refl);
        both = (λ n. let b = g.both (λ i. n (inr i)) in ((c.0, away ha (λ e. n (inl e)) first_there, b.0), (c.0, away hb (λ e. n (inl e)) second_there, b.1)));
        either = pick (cases_eq x.node unit);
      }
        where
          l : Led net x c.0 u
          l = led net legal all held x c.0 u at m

          row : IsUnitRow net (x.node ∷ g.units)
          row = (subst (λ o. IsSome o) (sym at) refl, leads_on x c.0 u g.units at l g.begins, g.row)

          first_there : (r : Record) → (x.node ≡ unit → ⊥) → all x.node (x.addr / 2 ^ u.page) ≡ Some r → ha x.node (x.addr / 2 ^ u.page) ≡ Some r
          first_there r n e = (parts.elsewhere x.node (x.addr / 2 ^ u.page) r n e).0

          second_there : (r : Record) → (x.node ≡ unit → ⊥) → all x.node (x.addr / 2 ^ u.page) ≡ Some r → hb x.node (x.addr / 2 ^ u.page) ≡ Some r
          second_there r n e = (parts.elsewhere x.node (x.addr / 2 ^ u.page) r n e).1

          step : (h : Held) → ((r : Record) → all x.node (x.addr / 2 ^ u.page) ≡ Some r → h x.node (x.addr / 2 ^ u.page) ≡ Some r) → StepUnder net h x c.0
          step h f = subst (λ o. Member c.0 (steps_by_unit net h x o)) (sym at) (same_step net all h x c.0 u f m)

          away : (h : Held) → (x.node ≡ unit → ⊥) → ((r : Record) → (x.node ≡ unit → ⊥) → all x.node (x.addr / 2 ^ u.page) ≡ Some r → h x.node (x.addr / 2 ^ u.page) ≡ Some r) → StepUnder net h x c.0
          away h n f = step h (λ r e. f r n e)

          here : (h : Held) (r : Record) → all x.node (x.addr / 2 ^ u.page) ≡ Some r → h x.node (x.addr / 2 ^ u.page) ≡ Some r → StepUnder net h x c.0
          here h r e f = step h (λ s d. f ∙ sym e ∙ d)

          last : x.node ≡ unit → Member unit g.units → ⊥
          last e i = once net legal.units.rows x.node g.units row (subst (λ v. Member v g.units) (sym e) i)

          in_unit : (r : Record) → all x.node (x.addr / 2 ^ u.page) ≡ Some r → x.node ≡ unit → (ha x.node (x.addr / 2 ^ u.page) ≡ Some r) ⊎ (hb x.node (x.addr / 2 ^ u.page) ≡ Some r) → IsChain (StepUnder net ha) (suc k) x y ⊎ IsChain (StepUnder net hb) (suc k) x y
          in_unit r e is (inl f) = inl (c.0, here ha r e f, (g.both (last is)).0)
          in_unit r e is (inr f) = inr (c.0, here hb r e f, (g.both (last is)).1)

          on : (x.node ≡ unit → ⊥) → IsChain (StepUnder net ha) k c.0 y ⊎ IsChain (StepUnder net hb) k c.0 y → IsChain (StepUnder net ha) (suc k) x y ⊎ IsChain (StepUnder net hb) (suc k) x y
          on n (inl p) = inl (c.0, away ha n first_there, p)
          on n (inr p) = inr (c.0, away hb n second_there, p)

          pick : (x.node ≡ unit) ⊎ (x.node ≡ unit → ⊥) → IsChain (StepUnder net ha) (suc k) x y ⊎ IsChain (StepUnder net hb) (suc k) x y
          pick (inl is) = let r = its_record net all x c.0 u m in in_unit r.0 r.1 is (parts.either x.node (x.addr / 2 ^ u.page) r.0 r.1)
          pick (inr n) = on n g.either

pub pieces_give_their_own : PiecesGiveTheirOwn
pieces_give_their_own net unit ha hb all legal held parts x z = (there, back)
  where
    there : ResolvesUnder net all x z → ResolvesUnder net ha x z ⊎ ResolvesUnder net hb x z
    there r = by (gone net legal unit ha hb all held parts r.1.0 x z r.1.2).either
      where
        by : IsChain (StepUnder net ha) r.1.0 x z ⊎ IsChain (StepUnder net hb) r.1.0 x z → ResolvesUnder net ha x z ⊎ ResolvesUnder net hb x z
        by (inl c) = inl (r.0, (r.1.0, r.1.1, c))
        by (inr c) = inr (r.0, (r.1.0, r.1.1, c))

    back : ResolvesUnder net ha x z ⊎ ResolvesUnder net hb x z → ResolvesUnder net all x z
    back (inl r) = more_records_keep_names net ha all parts.first_stands x z r
    back (inr r) = more_records_keep_names net hb all parts.second_stands x z r

-- a name in a unit is not accepted
apart : (net : List NodeDecl) → IsTrue (list_all is_formed net) → (s : Name) → IsTrue (is_stop net s) → IsTrue (is_accepted net s) → ⊥
apart net formed s stop accepted =
    let bare = unit_is_bare (slice_get net s.node) s.addr (λ n at. node_at is_formed net s.node formed n at) (stop_unit net s stop).0 in
    let f : true ≡ false = sym accepted ∙ bare.0 in
    cc

pub empty_slot_gives_nothing : EmptySlotGivesNothing
empty_slot_gives_nothing net h legal x z unit slot leads none r =
    by (legal_one_way_to_unit net h legal x leads.stop z leads.reaches.0 r.1.0 leads.is_stop (chain_more (Step net) (StepUnder net h) (λ a b s. step_under net legal.is_net.formed h a b s) leads.reaches.0 x leads.stop leads.reaches.1) r.1.2)
  where
    formed : IsTrue (list_all is_formed net)
    formed = legal.is_net.formed

    no_step : steps_under net h leads.stop ≡ []
    no_step =
        ap (λ o. steps_by_unit net h leads.stop o) (ap (unit_at net) leads.in_unit ∙ leads.is_part)
        ∙ empty (nat_le leads.stop.addr top) (ap (λ n. h n (leads.stop.addr / 2 ^ leads.part.page)) leads.in_unit ∙ ap (h unit) leads.in_slot ∙ none)
      where
        empty : (b : Bool) → h leads.stop.node (leads.stop.addr / 2 ^ leads.part.page) ≡ None → (if b then output leads.part (h leads.stop.node (leads.stop.addr / 2 ^ leads.part.page)) leads.stop.addr else []) ≡ []
        empty true e = ap (λ o. output leads.part o leads.stop.addr) e
        empty false e = refl

    on : (d : ℕ) → IsChain (StepUnder net h) d leads.stop z → ⊥
    on zero c = apart net formed leads.stop leads.is_stop (subst (λ y. IsTrue (is_accepted net y)) (sym c) r.0)
    on (suc d) c = subst (λ l. Member c.0 l) no_step c.1

    back : (d : ℕ) → IsChain (StepUnder net h) d z leads.stop → ⊥
    back zero c = apart net formed z (subst (λ y. IsTrue (is_stop net y)) (sym c) leads.is_stop) r.0
    back (suc d) c = subst (λ l. Member c.0 l) (ends_here net h formed z r.0) c.1

    by : ((d : ℕ) × (leads.reaches.0 ≡ r.1.0 + d) × IsChain (StepUnder net h) d z leads.stop) ⊎ ((d : ℕ) × (r.1.0 ≡ leads.reaches.0 + d) × IsChain (StepUnder net h) d leads.stop z) → ⊥
    by (inl p) = back p.0 p.2
    by (inr p) = on p.0 p.2

-- a record that allows the access, and the whole of it
allowed_is : (h : Held) (access : Access) (n q : ℕ) (r : Record) → allowing access h n q ≡ Some r → (h n q ≡ Some r) × ((h' : Held) → h' n q ≡ Some r → allowing access h' n q ≡ Some r)
allowed_is h access n q r e = by (h n q) refl e
  where
    by : (o : Option Record) → h n q ≡ o → record_allowing access o ≡ Some r → (h n q ≡ Some r) × ((h' : Held) → h' n q ≡ Some r → allowing access h' n q ≡ Some r)
    by None at f = cc
    by (Some t) at f = by_rights (allows t.rights access) refl f
      where
        by_rights : (b : Bool) → allows t.rights access ≡ b → (if b then Some t else None) ≡ Some r → (h n q ≡ Some r) × ((h' : Held) → h' n q ≡ Some r → allowing access h' n q ≡ Some r)
        by_rights false a g = cc
        by_rights true a g =
            let same : t ≡ r = cc in
            (at ∙ g, λ h' i. ap (record_allowing access) i ∙ ap (λ (s : Record). if allows s.rights access then Some s else None) (sym same) ∙ ap (λ b. if b then Some t else None) a ∙ g)

pub parts_allowing : (unit : ℕ) (ha hb all : Held) (access : Access) → AreParts unit ha hb all → AreParts unit (allowing access ha) (allowing access hb) (allowing access all)
parts_allowing unit ha hb all access p = record {
  first_stands = allowing_more ha all access p.first_stands;
  second_stands = allowing_more hb all access p.second_stands;
  either = (λ n q r e. let a = allowed_is all access n q r e in pick n q r a.1 (p.either n q r a.0));
  elsewhere = (λ n q r ne e. let a = allowed_is all access n q r e in let b = p.elsewhere n q r ne a.0 in (a.1 ha b.0, a.1 hb b.1));
}
  where
    pick : (n q : ℕ) (r : Record) → ((h' : Held) → h' n q ≡ Some r → allowing access h' n q ≡ Some r) → (ha n q ≡ Some r) ⊎ (hb n q ≡ Some r) → (allowing access ha n q ≡ Some r) ⊎ (allowing access hb n q ≡ Some r)
    pick n q r f (inl e) = inl (f ha e)
    pick n q r f (inr e) = inr (f hb e)

-- the two parts the other way round
pub other_way : {unit : ℕ} {ha hb all : Held} → AreParts unit ha hb all → AreParts unit hb ha all
other_way {unit} {ha} {hb} {all} p = record {
  first_stands = p.second_stands;
  second_stands = p.first_stands;
  either = (λ n q r e. turned n q r (p.either n q r e));
  elsewhere = (λ n q r ne e. let b = p.elsewhere n q r ne e in (b.1, b.0));
}
  where
    turned : (n q : ℕ) (r : Record) → (ha n q ≡ Some r) ⊎ (hb n q ≡ Some r) → (hb n q ≡ Some r) ⊎ (ha n q ≡ Some r)
    turned n q r (inl e) = inr e
    turned n q r (inr e) = inl e
