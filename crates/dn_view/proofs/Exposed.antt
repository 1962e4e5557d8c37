-- An admissible placement is one whose added records show exactly what is asked for.
use Rattle.std.proofs.Common.{◌≡◌, ℕ, zero, suc, ◌+◌, ◌-◌, ◌*◌, ◌/◌, ◌%◌, ◌^◌, ◌<◌, ◌≤◌, ◌⊎◌, ◌↔◌, inl, inr, Bool, true, false, if◌then◌else◌, nat_le, List, [], ◌∷◌, slice_get, Option, Some, None, IsTrue, refl, sym, ap, ◌∙◌, subst, arith, pow_pos, leb-true}
use Rattle.std.specs.List.{All}
use Rattle.std.proofs.lemmas.Bool.{false≢true}
use Rattle.std.proofs.lemmas.List.Elements.{All-nil, All-cons}
use Rattle.dn_interval.specs.declared.row.End.{End}
use Rattle.dn_interval.specs.declared.span.TheConstants.{TOP}
use Rattle.dn_net.specs.declared.node.Name.{Name}
use Rattle.dn_net.specs.declared.node.NodeDecl.{NodeDecl}
use Rattle.dn_net.specs.declared.node.Unit.{Unit as UnitPart}
use Rattle.dn_net.specs.Chain.{Member, IsChain}
use Rattle.dn_net.specs.Decode.{top, is_agent_at, is_stop, is_stop_at, unit_at, decode, sent_names, Step, StopsAt}
use Rattle.dn_net.specs.Legal.{IsLegalNet}
use Rattle.dn_net.proofs.Chains.{chain_join}
use Rattle.dn_kind.specs.declared.rights.Access.{Access}
use Rattle.dn_kind.specs.declared.rights.Access.TheVariants.{Read, Write}
use Rattle.dn_kind.specs.Rights.{allows, both_rights, are_rights}
use Rattle.dn_kind.specs.Tables.{Held, output, name_at_port, StepUnder, ResolvesUnder, AreHeld, allowing, record_allowing}
use Rattle.dn_kind.proofs.Allowed.{both_allow}
use Rattle.dn_kind.proofs.Ways.{allowing_held}
use Rattle.dn_tables.specs.declared.placement.Hop.{Hop}
use Rattle.dn_tables.specs.Placement.{Place}
use Rattle.dn_placement.specs.declared.request.Request.{Request}
use Rattle.dn_placement.specs.Exposure.{Adds, IsAdmissible}
use Rattle.dn_placement.specs.Placement.{name_on, Meets, Joins, Leads, IsUsable, IsHolding, IsFreeHop, IsPlacement, is_free, is_shared}
use Rattle.dn_placement.specs.Records.{first_slot, last_slot, slot_record, placed_records, joined_records}
use Rattle.dn_placement.specs.Slots.{Slots}
use Rattle.dn_walk.specs.Ends.{end_of, name_of_end}
use Rattle.dn_view.specs.Exact.{IsAdded, IsAsked, IsExactAt, AreExact}
use Rattle.dn_view.specs.Passes.{outputs, outputs_by}
use Rattle.dn_view.specs.Records.{IsFitted, AreFitted}
use Rattle.dn_view.proofs.Newly.{blocked, resolves_all, newly_is_new}
use Rattle.dn_view.proofs.Pages.{pages_ascend, output_of_hop}
use Rattle.dn_view.proofs.Taken.{or_is, placed_are_held}
use Rattle.dn_view.proofs.Ways.{net_chain, stop_step, step_stop}

-- the hops of a placement fit their units
hops_fit : (net : List NodeDecl) (slots : Slots) (rq : Request) (hops : List Hop) → Leads net slots rq hops → All (IsFitted net rq.size) hops
hops_fit net slots rq [] l = All-nil (IsFitted net rq.size)
hops_fit net slots rq (hop ∷ hops) l =
    let j : Joins net slots rq hop hops = l.0 in
    All-cons (IsFitted net rq.size) hop hops (record { unit = j.unit; is_unit = j.is_unit; fits = j.fits }) (hops_fit net slots rq hops l.1)

pub placement_fits : (net : List NodeDecl) (slots : Slots) (rq : Request) (p : Place) → IsTrue (are_rights rq.rights) → IsPlacement net slots rq p → AreFitted net rq p
placement_fits net slots rq p are is = record { some = is.some; rights = are; hops = hops_fit net slots rq p.hops is.leads }

-- where a hop's slot holds its record, the names of the hop are passed on to those of its port
module _ (net : List NodeDecl) (slots : Slots) (rq : Request) (access : Access) where
  abbrev old : Held
  old = allowing access slots.held

  in_hop : (hop : Hop) (u : UnitPart) (i : ℕ) → i < rq.size → (first_slot u hop ≤ (hop.x + i) / 2 ^ u.page) × ((hop.x + i) / 2 ^ u.page ≤ last_slot u rq.size hop)
  in_hop hop u i l = (pages_ascend (2 ^ u.page) hop.x (hop.x + i) (pow_pos u.page) (omega arith), pages_ascend (2 ^ u.page) (hop.x + i) (hop.x + rq.size - 1) (pow_pos u.page) (omega arith))

  none_passed : (s w : Name) (u : UnitPart) → unit_at net s.node ≡ Some u → old s.node (s.addr / 2 ^ u.page) ≡ None → Member w (outputs net old s) → ⊥
  none_passed s w u e f m =
      let n : Member w (outputs_by old s (Some u)) = subst (λ o. Member w (outputs_by old s o)) e m in
      let k : Member w (output u None s.addr) = subst (λ o. Member w (output u o s.addr)) f n in
      absurd k

  passed_by : (hop : Hop) (u : UnitPart) (node i : ℕ) → unit_at net hop.unit ≡ Some u → slice_get u.ports hop.port ≡ Some node → hop.x % 2 ^ u.page ≡ hop.y % 2 ^ u.page → IsHolding slots u hop ((hop.x + i) / 2 ^ u.page) → Member (name_on node hop.y i) (outputs net old (name_on hop.unit hop.x i))
  passed_by hop u node i e port agree holds =
      let q : ℕ = (hop.x + i) / 2 ^ u.page in
      let held : old hop.unit q ≡ Some (slot_record u both_rights hop q) = ap (record_allowing access) holds ∙ ap (λ b. if b then Some (slot_record u both_rights hop q) else None) (both_allow access) in
      let at : (hop.y / 2 ^ u.page + (q - hop.x / 2 ^ u.page)) * 2 ^ u.page + (hop.x + i) % 2 ^ u.page ≡ hop.y + i = output_of_hop (2 ^ u.page) hop.x hop.y i (pow_pos u.page) agree in
      let here : Member (name_on node hop.y i) (name_at_port (Some node) ((hop.y / 2 ^ u.page + (q - hop.x / 2 ^ u.page)) * 2 ^ u.page + (hop.x + i) % 2 ^ u.page)) = inl (ap (λ n. record { node = node; addr = n }) at) in
      let sent : Member (name_on node hop.y i) (output u (Some (slot_record u both_rights hop q)) (hop.x + i)) = subst (λ o. Member (name_on node hop.y i) (name_at_port o ((hop.y / 2 ^ u.page + (q - hop.x / 2 ^ u.page)) * 2 ^ u.page + (hop.x + i) % 2 ^ u.page))) (sym port) here in
      let by_slot : Member (name_on node hop.y i) (outputs_by old (name_on hop.unit hop.x i) (Some u)) = subst (λ o. Member (name_on node hop.y i) (output u o (hop.x + i))) (sym held) sent in
      subst (λ o. Member (name_on node hop.y i) (outputs_by old (name_on hop.unit hop.x i) o)) (sym e) by_slot

  module _ (legal : IsLegalNet net) (held : AreHeld net (allowing access slots.held)) (free_is_empty : (node slot : ℕ) → IsTrue (slots.is_free node slot) → slots.held node slot ≡ None) where
    -- a name before the own hop's slots reaches an empty slot
    record IsShut (x : Name) : Type 0 where
      end : Name
      stop : IsTrue (is_stop net end)
      steps : ℕ
      chain : IsChain (StepUnder net old) steps x end
      none : (w : Name) → StepUnder net old end w → ⊥

    shut_here : (x : Name) (hop : Hop) (u : UnitPart) (i : ℕ) → StopsAt net x (name_on hop.unit hop.x i) → unit_at net hop.unit ≡ Some u → slots.held hop.unit ((hop.x + i) / 2 ^ u.page) ≡ None → IsShut x
    shut_here x hop u i st e f = record {
      end = name_on hop.unit hop.x i;
      stop = st.0;
      steps = st.1.0;
      chain = net_chain net legal old st.1.0 x (name_on hop.unit hop.x i) st.1.2;
      none = λ w k. none_passed (name_on hop.unit hop.x i) w u e (ap (record_allowing access) f) (step_stop net legal old (name_on hop.unit hop.x i) w u e k).1;
    }

    shut : (hops : List Hop) (own : ℕ) (hop : Hop) → slice_get hops own ≡ Some hop → IsFreeHop net slots rq hop → Leads net slots rq hops → (node addr i : ℕ) → i < rq.size → Meets net rq node addr hops → IsShut (name_on node addr i)
    shut [] own hop e free leads node addr i l m = cc
    shut (g ∷ hops) zero hop e free leads node addr i l m =
        let j : Joins net slots rq g hops = leads.0 in
        let same : g ≡ hop = cc in
        let q = in_hop g j.unit i l in
        let fr : IsFreeHop net slots rq g = subst (IsFreeHop net slots rq) (sym same) free in
        shut_here (name_on node addr i) g j.unit i (m i l) j.is_unit (free_is_empty g.unit ((g.x + i) / 2 ^ j.unit.page) (fr j.unit j.is_unit ((g.x + i) / 2 ^ j.unit.page) q.0 q.1))
    shut (g ∷ hops) (suc own) hop e free leads node addr i l m =
        let j : Joins net slots rq g hops = leads.0 in
        let q = in_hop g j.unit i l in
        by j (j.usable ((g.x + i) / 2 ^ j.unit.page) q.0 q.1) (shut hops own hop e free leads.1 j.fits.node g.y i l j.meets)
      where
        by : (j : Joins net slots rq g hops) → IsUsable slots j.unit g ((g.x + i) / 2 ^ j.unit.page) → IsShut (name_on j.fits.node g.y i) → IsShut (name_on node addr i)
        by j (is_free f) later = shut_here (name_on node addr i) g j.unit i (m i l) j.is_unit (free_is_empty g.unit ((g.x + i) / 2 ^ j.unit.page) f)
        by j (is_shared holds unowned) later =
            let st : StopsAt net (name_on node addr i) (name_on g.unit g.x i) = m i l in
            let step : StepUnder net old (name_on g.unit g.x i) (name_on j.fits.node g.y i) = stop_step net legal old (name_on g.unit g.x i) (name_on j.fits.node g.y i) st.0 (passed_by g j.unit j.fits.node i j.is_unit j.fits.is_port j.fits.agree holds) in
            let first : IsChain (StepUnder net old) st.1.0 (name_on node addr i) (name_on g.unit g.x i) = net_chain net legal old st.1.0 (name_on node addr i) (name_on g.unit g.x i) st.1.2 in
            record {
              end = later.end;
              stop = later.stop;
              steps = st.1.0 + suc later.steps;
              chain = chain_join (StepUnder net old) st.1.0 (suc later.steps) (name_on node addr i) (name_on g.unit g.x i) later.end first (name_on j.fits.node g.y i, step, later.chain);
              none = later.none;
            }

    -- so it resolves to nothing
    pub unreached : (p : Place) → IsPlacement net slots rq p → (added : Held) → AreHeld net (allowing access (joined_records slots.held added)) → (x z y : Name) → Adds rq p.v x z → ResolvesUnder net old x y → ⊥
    unreached p is added all x z y a r =
        let s : IsShut (name_on rq.agent p.v a.i) = shut p.hops p.own is.own is.is_own is.free is.leads rq.agent p.v a.i a.below is.meets in
        blocked slots.held added access net legal all (name_on rq.agent p.v a.i) s.end y s.stop (s.steps, s.chain) s.none (subst (λ n. ResolvesUnder net old n y) a.from r)

-- a name that reaches a stop has an address
pub stop_low : (net : List NodeDecl) (x t : Name) → StopsAt net x t → x.addr ≤ TOP
stop_low net x t st = by st.1.0 st.1.2
  where
    first : IsTrue (is_stop net x) → x.addr ≤ TOP
    first s = go (unit_at net x.node) s
      where
        go : (o : Option UnitPart) → IsTrue (is_stop_at x.addr o) → x.addr ≤ TOP
        go None k = cc
        go (Some u) k = leb-true x.addr top k

    stepped : (y : Name) → Step net x y → x.addr ≤ TOP
    stepped y s = go (slice_get net x.node) s
      where
        low : (b : Bool) (n : NodeDecl) → nat_le x.addr top ≡ b → Member y (sent_names (decode x.addr (Some n))) → x.addr ≤ TOP
        low true n e k = leb-true x.addr top e
        low false n e k = let none : decode x.addr (Some n) ≡ None = rw e refl in absurd (subst (λ s. Member y (sent_names s)) none k)

        go : (o : Option NodeDecl) → Member y (sent_names (decode x.addr o)) → x.addr ≤ TOP
        go None k = absurd k
        go (Some n) k = low (nat_le x.addr top) n refl k

    by : (k : ℕ) → IsChain (Step net) k x t → x.addr ≤ TOP
    by zero c = first (subst (λ n. IsTrue (is_stop net n)) (sym c) st.0)
    by (suc k) c = stepped c.0 c.1

-- admissible is exact for each access
pub admissible_is_exact : (net : List NodeDecl) (slots : Slots) (rq : Request) (p : Place) → IsLegalNet net → AreHeld net slots.held → IsTrue (are_rights rq.rights) → ((node slot : ℕ) → IsTrue (slots.is_free node slot) → slots.held node slot ≡ None) → IsPlacement net slots rq p → ((access : Access) → AreExact net slots.held rq p access) ↔ IsAdmissible net slots.held rq p
unfolding IsExactAt
admissible_is_exact net slots rq p legal held are empty is = (into, back)
  where
    added : Held
    added = placed_records net rq p

    all_held : (access : Access) → AreHeld net (allowing access (joined_records slots.held (placed_records net rq p)))
    all_held access = allowing_held net (joined_records slots.held (placed_records net rq p)) access (λ node slot r e. or_is (slots.held node slot) (placed_records net rq p node slot) (λ t f. held node slot t f) (λ t f. placed_are_held net rq p legal.shapes (placement_fits net slots rq p are is) node slot t f) r e)

    old_held : (access : Access) → AreHeld net (allowing access slots.held)
    old_held access = allowing_held net slots.held access held

    parted : (access : Access) (x z : Name) → ResolvesUnder net (allowing access (joined_records slots.held (placed_records net rq p))) x z ↔ (ResolvesUnder net (allowing access slots.held) x z ⊎ IsAdded net slots.held rq p access x z)
    parted access x z = resolves_all slots.held (placed_records net rq p) access net legal (all_held access) (old_held access) x z

    into : ((access : Access) (node : ℕ) → IsTrue (is_agent_at (slice_get net node)) → (a : ℕ) (z : End) → a ≤ TOP → IsAdded net slots.held rq p access (record { node = node; addr = a }) (name_of_end z) ↔ IsAsked rq p.v access (record { node = node; addr = a }) (name_of_end z)) → IsAdmissible net slots.held rq p
    into exact access x z agent = (to, from)
      where
        to : ResolvesUnder net (allowing access (joined_records slots.held (placed_records net rq p))) x z → ResolvesUnder net (allowing access slots.held) x z ⊎ (IsTrue (allows rq.rights access) × Adds rq p.v x z)
        to r = elim ((parted access x z).0 r) [ inl k ↦ inl k | inr k ↦ inr ((exact access x.node agent x.addr (end_of z) (stop_low net x k.0 k.1)).0 k) ]

        from : ResolvesUnder net (allowing access slots.held) x z ⊎ (IsTrue (allows rq.rights access) × Adds rq p.v x z) → ResolvesUnder net (allowing access (joined_records slots.held (placed_records net rq p))) x z
        from (inl k) = (parted access x z).1 (inl k)
        from (inr k) = (parted access x z).1 (inr ((exact access x.node agent x.addr (end_of z) (adds_low k.1)).1 k))
          where
            adds_low : Adds rq p.v x z → x.addr ≤ TOP
            adds_low a =
                let f : x.addr ≡ p.v + a.i = ap (λ (n : Name). n.addr) a.from in
                let b : a.i < rq.size = a.below in
                let t : p.v + rq.size ≤ top + 1 = is.fits in
                omega arith

    back : IsAdmissible net slots.held rq p → (access : Access) (node : ℕ) → IsTrue (is_agent_at (slice_get net node)) → (a : ℕ) (z : End) → a ≤ TOP → IsAdded net slots.held rq p access (record { node = node; addr = a }) (name_of_end z) ↔ IsAsked rq p.v access (record { node = node; addr = a }) (name_of_end z)
    back gives access node agent a z low = (to, from)
      where
        x : Name
        x = record { node = node; addr = a }

        to : IsAdded net slots.held rq p access (record { node = node; addr = a }) (name_of_end z) → IsAsked rq p.v access (record { node = node; addr = a }) (name_of_end z)
        to k = elim ((gives access (record { node = node; addr = a }) (name_of_end z) agent).0 ((parted access (record { node = node; addr = a }) (name_of_end z)).1 (inr k))) [
          | inl r ↦ absurd (newly_is_new slots.held (placed_records net rq p) access net legal (all_held access) (record { node = node; addr = a }) (name_of_end z) (name_of_end z) k r)
          | inr r ↦ r
        ]

        from : IsAsked rq p.v access (record { node = node; addr = a }) (name_of_end z) → IsAdded net slots.held rq p access (record { node = node; addr = a }) (name_of_end z)
        from k = elim ((parted access (record { node = node; addr = a }) (name_of_end z)).0 ((gives access (record { node = node; addr = a }) (name_of_end z) agent).1 (inr k))) [
          | inl r ↦ absurd (unreached net slots rq access legal (old_held access) empty p is (placed_records net rq p) (all_held access) (record { node = node; addr = a }) (name_of_end z) (name_of_end z) k.1 r)
          | inr r ↦ r
        ]

-- exact for reading and for writing is admissible
pub exact_both : {A : Type 0} (net : List NodeDecl) (h : Held) (rq : Request) (p : Place) → ((access : Access) → AreExact net h rq p access) ↔ A → (w : Bool) → AreExact net h rq p Read → ((w ≡ true) ↔ AreExact net h rq p Write) → (w ≡ true) ↔ A
exact_both net h rq p all w reads writes = ((λ e. all.0 (each (writes.0 e))), (λ a. writes.1 (all.1 a Write)))
  where
    each : AreExact net h rq p Write → (access : Access) → AreExact net h rq p access
    each ws Read = reads
    each ws Write = ws

-- what is not exact for reading is not admissible
pub not_exact : {A : Type 0} (net : List NodeDecl) (h : Held) (rq : Request) (p : Place) (access : Access) → ((access : Access) → AreExact net h rq p access) ↔ A → (r : Bool) → r ≡ false → ((r ≡ true) ↔ AreExact net h rq p access) → (false ≡ true) ↔ A
not_exact net h rq p access all r e reads = ((λ f. absurd (false≢true f)), (λ a. absurd (false≢true (sym e ∙ reads.1 (all.1 a access)))))
