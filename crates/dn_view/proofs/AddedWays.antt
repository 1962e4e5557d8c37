-- Rows of a legal net under records that its units can hold: they have at most three hops, in different
-- units, and the name behind the last leads to the row's end alone.
use Rattle.std.proofs.Common.{◌≡◌, ◌∙◌, sym, ap, refl, subst, ℕ, zero, suc, ◌+◌, ◌-◌, ◌/◌, ◌%◌, ◌^◌, ◌<◌, ◌≤◌, ◌⊎◌, inl, inr, nat_lt, List, [], ◌∷◌, ◌++◌, map, length, Some, IsSome, slice_get, IsTrue, arith, ltb-true, pow_pos, mod-lt, append_assoc}
use Rattle.std.proofs.lemmas.List.{length-map}
use Rattle.std.proofs.lemmas.Option.{slice_get_within}
use Rattle.std.proofs.lemmas.Bool.{and_parts}
use Rattle.std.proofs.lemmas.Nat.{div-mul-add, mod-mul-add}
use Rattle.dn_base.proofs.Members.{member_right, member_at, one_member}
use Rattle.dn_net.specs.declared.node.Name.{Name}
use Rattle.dn_net.specs.declared.node.NodeDecl.{NodeDecl}
use Rattle.dn_net.specs.declared.node.Unit.{Unit as UnitPart}
use Rattle.dn_net.specs.Chain.{IsChain, Member, Reaches}
use Rattle.dn_net.specs.Decode.{Resolves, Step, StopsAt, is_accepted, is_stop, steps, unit_at}
use Rattle.dn_net.specs.Legal.{IsLegalNet}
use Rattle.dn_net.specs.UnitRules.{IsUnitRow, LeadsTo}
use Rattle.dn_net.proofs.Plain.{plain_at}
use Rattle.dn_net.proofs.Stops.{shallow_reach}
use Rattle.dn_net.proofs.Chains.{chain_more, chain_join}
use Rattle.dn_kind.specs.declared.unit_kind.Record.{Record}
use Rattle.dn_kind.specs.Kind.{is_within}
use Rattle.dn_kind.specs.Tables.{AreHeld, Held, IsHeld, ResolvesUnder, StepUnder}
use Rattle.dn_kind.specs.Units.{unit_shape}
use Rattle.dn_kind.specs.Ways.{Passes, PassesIn, Slot, slot_in}
use Rattle.dn_kind.proofs.Bounds.{low_output, low_page, reach_under_is_within}
use Rattle.dn_kind.proofs.Ways.{chain_passes_slots, step_under}
use Rattle.dn_tables.specs.declared.placement.Hop.{Hop}
use Rattle.dn_view.proofs.AddedRows.{HopStep, Row, accepted_still, chain_of_row, one_way_within, stop_of_hop, stop_part, through_record, unit_still, unit_unaccepted}

-- what the record of a hop says of it
pub record HopFits (unit : UnitPart) (hop : Hop) : Type 0 where
  pub inside : hop.x / 2 ^ unit.page < unit.slots
  pub below : hop.y < 2 ^ unit.reach
  pub same : hop.x % 2 ^ unit.page ≡ hop.y % 2 ^ unit.page

-- the page of the record is that of the output
pub page_of : (net : List NodeDecl) (h : Held) (x : Name) (hop : Hop) (j : ℕ) (z : Name)
    (w : HopStep net h x hop j z) → hop.y / 2 ^ w.unit.page ≡ w.rec.page
page_of net h x hop j z w =
    ap (λ n. n / 2 ^ w.unit.page) w.out ∙ div-mul-add w.rec.page (2 ^ w.unit.page) (hop.x % 2 ^ w.unit.page) (mod-lt hop.x (pow_pos w.unit.page))

-- a row under other records that hold the same in its slots
pub row_at : (net : List NodeDecl) (h g : Held) (hops : List Hop) (x y : Name) (k : ℕ) →
    Row net h x hops y k →
    ((hop : Hop) → Member hop hops → (u : UnitPart) → unit_at net hop.unit ≡ Some u → (r : Record) →
    h hop.unit (hop.x / 2 ^ u.page) ≡ Some r → g hop.unit (hop.x / 2 ^ u.page) ≡ Some r) →
    Row net g x hops y k
row_at net h g [] x y k r f = r
row_at net h g (hop ∷ hops) x y k r f =
    let w : HopStep net h x hop r.0 r.2 = r.3 in
    let w' : HopStep net g x hop r.0 r.2 = record {
      through = w.through;
      before = w.before;
      holds = f hop (inl refl) w.unit w.is_unit w.rec w.holds;
    } in
    (r.0, r.1, r.2, w', row_at net h g hops r.2 y r.1 r.4 (λ k m. f k (inr m)), r.5)

-- a hop of a row: what its step is, and that chains lead to its unit and on to the end
pub record OnRow (net : List NodeDecl) (h : Held) (x y : Name) (hop : Hop) : Type 0 where
  pub from : Name
  pub to : Name
  pub length : ℕ
  pub step : HopStep net h from hop length to
  pub comes : Reaches (StepUnder net h) x (record { node = hop.unit; addr = hop.x })
  pub goes : ℕ
  pub next : Name
  pub first : StepUnder net h (record { node = hop.unit; addr = hop.x }) next
  pub rest : IsChain (StepUnder net h) goes next y

module _ (net : List NodeDecl) (legal : IsLegalNet net) where
  pub on_row : (h : Held) (hops : List Hop) (x y : Name) (k : ℕ) → Row net h x hops y k → (hop : Hop) →
      Member hop hops → OnRow net h x y hop
  on_row h [] x y k r hop m = absurd m
  on_row h (g ∷ hops) x y k r hop m = go (on_row h hops r.2 y r.1 r.4 hop) m
    where
      w : HopStep net h x g r.0 r.2
      w = r.3

      s : Name
      s = record { node = g.unit; addr = g.x }

      before : IsChain (StepUnder net h) r.0 x s
      before = chain_more (Step net) (StepUnder net h) (step_under net legal.is_net.formed h) r.0 x s w.before

      step : StepUnder net h s r.2
      step = through_record net h x g r.0 r.2 w

      here : OnRow net h x y g
      here = record {
        from = x;
        to = r.2;
        length = r.0;
        step = w;
        comes = (r.0, before);
        goes = r.1;
        next = r.2;
        first = step;
        rest = chain_of_row net legal.is_net.formed h hops r.2 y r.1 r.4;
      }

      go : (Member hop hops → OnRow net h r.2 y hop) → (g ≡ hop) ⊎ Member hop hops → OnRow net h x y hop
      go ih (inl e) = subst (λ a. OnRow net h x y a) e here
      go ih (inr i) =
          let o = ih i in
          record {
            from = o.from;
            to = o.to;
            length = o.length;
            step = o.step;
            comes = (r.0 + suc o.comes.0, chain_join (StepUnder net h) r.0 (suc o.comes.0) x s (record { node = hop.unit; addr = hop.x }) before (r.2, step, o.comes.1));
            goes = o.goes;
            next = o.next;
            first = o.first;
            rest = o.rest;
          }

  -- a chain that comes by a name in a unit passes its slot
  pub passes_slot : (h : Held) (j k : ℕ) (x s t y : Name) (u : UnitPart) → unit_at net s.node ≡ Some u →
      IsChain (StepUnder net h) j x s → StepUnder net h s t → IsChain (StepUnder net h) k t y →
      (row : List Slot) × Passes net h x y row × Member (record { unit = s.node; slot = s.addr / 2 ^ u.page }) row
  passes_slot h j k x s t y u e c step d =
      let a = (chain_passes_slots net h j x s).0 c in
      let b = (chain_passes_slots net h k t y).0 d in
      let here : PassesIn net h (suc k) s y (slot_in s (unit_at net s.node) ++ b.0) = (t, b.0, step, refl, b.1) in
      let whole = join j x a.0 a.1 (suc k) (slot_in s (unit_at net s.node) ++ b.0) here in
      (a.0 ++ (slot_in s (unit_at net s.node) ++ b.0), (j + suc k, whole), member_right a.0 (slot_in s (unit_at net s.node) ++ b.0) _ (subst (λ o. Member (record { unit = s.node; slot = s.addr / 2 ^ u.page }) (slot_in s o ++ b.0)) (sym e) (inl refl)))
    where
      join : (j : ℕ) (x : Name) (row : List Slot) → PassesIn net h j x s row → (n : ℕ) (other : List Slot) →
          PassesIn net h n s y other → PassesIn net h (j + n) x y (row ++ other)
      join zero x row p n other q =
          let e : zero + n ≡ n = omega arith in
          subst (λ m. PassesIn net h m x y (row ++ other)) (sym e)
          (subst (λ r. PassesIn net h n x y (r ++ other)) (sym p.1) (subst (λ w. PassesIn net h n w y other) (sym p.0) q))
      join (suc j) x row p n other q =
          let e : suc j + n ≡ suc (j + n) = omega arith in
          subst (λ m. PassesIn net h m x y (row ++ other)) (sym e)
          (p.0, p.1 ++ other, p.2, ap (λ r. r ++ other) p.3 ∙ append_assoc (slot_in x (unit_at net x.node)) p.1 other, join j p.0 p.1 p.4 n other q)

  -- the facts of a hop's record
  pub hop_fits : (h : Held) → AreHeld net h → (x : Name) (hop : Hop) (j : ℕ) (z : Name)
      (w : HopStep net h x hop j z) → HopFits w.unit hop
  hop_fits h held x hop j z w =
      let k : IsHeld net hop.unit (hop.x / 2 ^ w.unit.page) w.rec = held hop.unit (hop.x / 2 ^ w.unit.page) w.rec w.holds in
      let same : k.unit.0 ≡ w.unit = (let f : Some k.unit.0 ≡ Some w.unit = sym k.unit.1 ∙ w.is_unit in cc) in
      let within : IsTrue (is_within (unit_shape w.unit) w.rec) = subst (λ (p : UnitPart). IsTrue (is_within (unit_shape p) w.rec)) same k.unit.3 in
      let page = ltb-true w.rec.page (2 ^ (w.unit.reach - w.unit.page)) (and_parts (nat_lt w.rec.port (length w.unit.ports)) (nat_lt w.rec.page (2 ^ (w.unit.reach - w.unit.page))) within).1 in
      record {
        inside = subst (λ (p : UnitPart). hop.x / 2 ^ w.unit.page < p.slots) same k.unit.2;
        below = subst (λ n. n < 2 ^ w.unit.reach) (sym w.out) (low_output w.rec.page hop.x w.unit.page w.unit.reach page (low_page w.unit (plain_at net hop.unit w.unit legal.shapes w.is_unit)));
        same = sym (ap (λ n. n % 2 ^ w.unit.page) w.out ∙ mod-mul-add w.rec.page (2 ^ w.unit.page) (hop.x % 2 ^ w.unit.page) (mod-lt hop.x (pow_pos w.unit.page)));
      }

  -- the unit of a hop leads to that of the next
  leads_next : (h : Held) → AreHeld net h → (x z t : Name) (hop hop' : Hop) (j j' : ℕ) →
      HopStep net h x hop j z → HopStep net h z hop' j' t → LeadsTo net hop.unit hop'.unit
  leads_next h held x z t hop hop' j j' w w' = record {
    part = w.unit;
    port = w.node;
    addr = hop.y;
    stop = record { node = hop'.unit; addr = hop'.x };
    is_part = w.is_unit;
    has_port = member_at w.unit.ports hop.port w.node w.is_port;
    below = (hop_fits h held x hop j z w).below;
    reaches = (j', subst (λ s. IsChain (Step net) j' s (record { node = hop'.unit; addr = hop'.x })) (sym w.to_is) w'.before);
    is_stop = stop_of_hop net h z t hop' j' w';
    is_end = refl;
  }

  pub row_units : (h : Held) → AreHeld net h → (hops : List Hop) (x y : Name) (k : ℕ) →
      Row net h x hops y k → IsUnitRow net (map (λ (hop : Hop). hop.unit) hops)
  row_units h held [] x y k r = tt
  row_units h held (a ∷ []) x y k r =
      let w : HopStep net h x a r.0 r.2 = r.3 in (subst (λ o. IsSome o) (sym w.is_unit) refl, tt, tt)
  row_units h held (a ∷ (b ∷ hops)) x y k r =
      let w : HopStep net h x a r.0 r.2 = r.3 in
      (subst (λ o. IsSome o) (sym w.is_unit) refl, leads_next h held x r.2 r.4.2 a b r.0 r.4.0 w r.4.3, row_units h held (b ∷ hops) r.2 y r.1 r.4)

  -- at most three units in a row
  pub few_hops : (h : Held) → AreHeld net h → (hops : List Hop) (x y : Name) (k : ℕ) →
      Row net h x hops y k → length hops ≤ 3
  few_hops h held hops x y k r =
      let s = legal.units.rows.short (map (λ (hop : Hop). hop.unit) hops) (row_units h held hops x y k r) in
      let e = length-map hops (λ (hop : Hop). hop.unit) in
      omega arith

  -- and they differ
  pub hops_differ : (h : Held) → AreHeld net h → (hops : List Hop) (x y : Name) (k : ℕ) →
      Row net h x hops y k → (i j : ℕ) (a b : Hop) → i < j → slice_get hops i ≡ Some a →
      slice_get hops j ≡ Some b → a.unit ≡ b.unit → ⊥
  hops_differ h held [] x y k r i j a b l ea eb s = cc
  hops_differ h held (c ∷ hops) x y k r i zero a b l ea eb s = absurd (omega arith)
  hops_differ h held (c ∷ hops) x y k r (suc i) (suc j) a b l ea eb s =
      hops_differ h held hops r.2 y r.1 r.4 i j a b (omega arith) ea eb s
  hops_differ h held (c ∷ []) x y k r zero (suc j) a b l ea eb s = cc
  hops_differ h held (c ∷ (d ∷ hops)) x y k r zero (suc zero) a b l ea eb s =
      let ec : c ≡ a = cc in
      let ed : d ≡ b = cc in
      let same : c.unit ≡ d.unit = ap (λ (z : Hop). z.unit) ec ∙ s ∙ sym (ap (λ (z : Hop). z.unit) ed) in
      let w : HopStep net h x c r.0 r.2 = r.3 in
      let some : IsSome (unit_at net c.unit) = subst (λ o. IsSome o) (sym w.is_unit) refl in
      let t : LeadsTo net c.unit c.unit = subst (λ n. LeadsTo net c.unit n) (sym same) (leads_next h held x r.2 r.4.2 c d r.0 r.4.0 w r.4.3) in
      let four = legal.units.rows.short (c.unit ∷ (c.unit ∷ (c.unit ∷ (c.unit ∷ [])))) (some, t, (some, t, (some, t, (some, tt, tt)))) in
      absurd (omega arith)
  hops_differ h held (c ∷ (d ∷ [])) x y k r zero (suc (suc j)) a b l ea eb s = cc
  hops_differ h held (c ∷ (d ∷ (e ∷ hops))) x y k r zero (suc (suc zero)) a b l ea eb s =
      let ec : c ≡ a = cc in
      let ed : e ≡ b = cc in
      let same : c.unit ≡ e.unit = ap (λ (z : Hop). z.unit) ec ∙ s ∙ sym (ap (λ (z : Hop). z.unit) ed) in
      let w : HopStep net h x c r.0 r.2 = r.3 in
      let v : HopStep net h r.2 d r.4.0 r.4.2 = r.4.3 in
      let some : IsSome (unit_at net c.unit) = subst (λ o. IsSome o) (sym w.is_unit) refl in
      let some' : IsSome (unit_at net d.unit) = subst (λ o. IsSome o) (sym v.is_unit) refl in
      let t : LeadsTo net c.unit d.unit = leads_next h held x r.2 r.4.2 c d r.0 r.4.0 w v in
      let t' : LeadsTo net d.unit c.unit = subst (λ n. LeadsTo net d.unit n) (sym same) (leads_next h held r.2 r.4.2 r.4.4.2 d e r.4.0 r.4.4.0 v r.4.4.3) in
      let four = legal.units.rows.short (c.unit ∷ (d.unit ∷ (c.unit ∷ (d.unit ∷ [])))) (some, t, (some', t', (some, t, (some', tt, tt)))) in
      absurd (omega arith)
  hops_differ h held (c ∷ (d ∷ (e ∷ hops))) x y k r zero (suc (suc (suc j))) a b l ea eb s =
      let few = few_hops h held (c ∷ (d ∷ (e ∷ hops))) x y k r in
      let within = slice_get_within hops j b eb in
      absurd (omega arith)

  -- the name behind the last record of a row, and how far the end is from it
  abbrev pub last_of : (h : Held) (x : Name) (hops : List Hop) (y : Name) (k : ℕ) →
      Row net h x hops y k → Name
  last_of h x [] y k r = x
  last_of h x (hop ∷ hops) y k r = last_of h r.2 hops y r.1 r.4

  abbrev pub last_length : (h : Held) (x : Name) (hops : List Hop) (y : Name) (k : ℕ) →
      Row net h x hops y k → ℕ
  last_length h x [] y k r = k
  last_length h x (hop ∷ hops) y k r = last_length h r.2 hops y r.1 r.4

  pub last_chain : (h : Held) (x : Name) (hops : List Hop) (y : Name) (k : ℕ) (r : Row net h x hops y k) →
      IsChain (Step net) (last_length h x hops y k r) (last_of h x hops y k r) y
  last_chain h x [] y k r = r
  last_chain h x (hop ∷ hops) y k r = last_chain h r.2 hops y r.1 r.4

  -- the row with another end
  pub other_end : (h : Held) (x : Name) (hops : List Hop) (y : Name) (k : ℕ) (r : Row net h x hops y k)
      (z : Name) (n : ℕ) → IsChain (Step net) n (last_of h x hops y k r) z → (m : ℕ) × Row net h x hops z m
  other_end h x [] y k r z n c = (n, c)
  other_end h x (hop ∷ hops) y k r z n c =
      let o = other_end h r.2 hops y r.1 r.4 z n c in (r.0 + suc o.0, (r.0, o.0, r.2, r.3, o.1, refl))

  -- a name that decodes to an accepted name decodes to no unit
  pub no_stops : (x y s : Name) (k j : ℕ) → IsTrue (is_accepted net y) → IsChain (Step net) k x y →
      IsTrue (is_stop net s) → IsChain (Step net) j x s → ⊥
  no_stops x y s k j a c is d =
      elim (one_way_within (Step net) (Step net) s (λ p q t. t) (λ p q t i u m n. one_member (steps net p) q t (legal.units.no_fork p s is (i, u)) m n) j k x y d c) [
        | inl l ↦ after l.0 l.1
        | inr l ↦ before l.0 l.2
      ]
    where
      both : IsTrue (is_accepted net s) → ⊥
      both b = let u = stop_part net s is in unit_unaccepted net legal.is_net.formed s u.0 u.1 b

      none : {X : Type 0} (xs : List X) (z : X) → xs ≡ [] → Member z xs → ⊥
      none xs z e m = subst (λ l. Member z l) e m

      after : (d : ℕ) → IsChain (Step net) d y s → ⊥
      after zero e = both (subst (λ w. IsTrue (is_accepted net w)) e a)
      after (suc d) e = none (steps net y) e.0 (accepted_still net y a) e.1

      before : (d : ℕ) → IsChain (Step net) d s y → ⊥
      before zero e = both (subst (λ w. IsTrue (is_accepted net w)) (sym e) a)
      before (suc d) e =
          let u = stop_part net s is in none (steps net s) e.0 (unit_still net legal.is_net.formed s u.0 u.1) e.1

  -- chains under records that units can hold are resolution
  pub resolves : (h : Held) → AreHeld net h → (x y : Name) (k : ℕ) → IsTrue (is_accepted net y) →
      IsChain (StepUnder net h) k x y → ResolvesUnder net h x y
  resolves h held x y k a c = (a, reach_under_is_within net h legal held x y (k, c))

  -- and steps of the net are resolution in the net
  pub resolves_fixed : (x y : Name) (k : ℕ) → IsTrue (is_accepted net y) → IsChain (Step net) k x y →
      Resolves net x y
  resolves_fixed x y k a c = (a, shallow_reach net legal.walks.shallow x y (k, c))

  pub stops_fixed : (x y : Name) (k : ℕ) → IsTrue (is_stop net y) → IsChain (Step net) k x y →
      StopsAt net x y
  stops_fixed x y k a c = (a, shallow_reach net legal.walks.shallow x y (k, c))
