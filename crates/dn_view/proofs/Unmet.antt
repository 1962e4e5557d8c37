-- A node from which no hop can be met shows nothing newly.
use Rattle.std.proofs.Common.{◌≡◌, ℕ, zero, suc, ◌+◌, ◌*◌, ◌/◌, ◌%◌, ◌^◌, ◌<◌, ◌≤◌, inl, inr, Bool, true, false, if◌then◌else◌, ◌&&◌, nat_eq, nat_lt, List, [], ◌∷◌, length, slice_get, Option, Some, None, refl, sym, ap, ◌∙◌, subst, eqb-true, ltb-true}
use Rattle.std.specs.List.{list_any}
use Rattle.std.proofs.lemmas.Bool.{false≢true}
use Rattle.dn_base.proofs.Lists.{list_all-at}
use Rattle.dn_base.proofs.Booleans.{or_parts}
use Rattle.dn_base.proofs.Members.{any_member, member_any, member_none}
use Rattle.dn_interval.specs.declared.row.End.{End}
use Rattle.dn_interval.specs.declared.row.Row.{Row}
use Rattle.dn_interval.specs.declared.span.TheConstants.{TOP}
use Rattle.dn_interval.specs.Strands.{rows_give}
use Rattle.dn_net.specs.declared.node.Name.{Name}
use Rattle.dn_net.specs.declared.node.NodeDecl.{NodeDecl}
use Rattle.dn_net.specs.declared.node.Unit.{Unit as UnitPart}
use Rattle.dn_net.specs.Chain.{Member}
use Rattle.dn_net.specs.Decode.{unit_at, StopsAt}
use Rattle.dn_net.specs.Legal.{IsLegalNet}
use Rattle.dn_net.proofs.Steps.{ports_at}
use Rattle.dn_kind.specs.declared.rights.Access.{Access}
use Rattle.dn_kind.specs.declared.rights.Rights.{Rights}
use Rattle.dn_kind.specs.declared.unit_kind.Record.{Record}
use Rattle.dn_kind.specs.Rights.{allows}
use Rattle.dn_kind.specs.Tables.{Held, allowing, name_at_port, output, record_allowing}
use Rattle.dn_flat.specs.Levels.{AreFlats, FlatsView, is_among, leads_to_units, levels_give, units_in}
use Rattle.dn_flat.proofs.Reached.{some_rows}
use Rattle.dn_tables.specs.declared.placement.Hop.{Hop}
use Rattle.dn_tables.specs.Placement.{Place}
use Rattle.dn_placement.specs.declared.request.Request.{Request}
use Rattle.dn_placement.specs.Records.{hop_record_by, hop_rights, hops_records, is_taken_by, joined_records, or_record, placed_records, slot_record}
use Rattle.dn_walk.specs.Ends.{end_of, name_of_end}
use Rattle.dn_flat.specs.Onward.{has_rows}
use Rattle.dn_view.specs.Exact.{IsAdded, IsExactAt}
use Rattle.dn_view.specs.Passes.{outputs, outputs_by, stops_of}
use Rattle.dn_view.specs.Records.{fresh_record, fresh_records}
use Rattle.dn_view.specs.Through.{ComesNewly, Newly}
use Rattle.dn_view.specs.Untouched.{can_meet, comes_on, has_hop, leads_to_hops}
use Rattle.dn_view.proofs.Added.{not_asked}
use Rattle.dn_view.proofs.Buffers.{exact_none}
use Rattle.dn_view.proofs.Cuts.{none_at}
use Rattle.dn_view.proofs.Exposed.{stop_low}
use Rattle.dn_view.proofs.Viewed.{node_stops, unit_listed}

-- in a node in which no hop stands the hops have no record
unplaced : (net : List NodeDecl) (size : ℕ) (rights : Rights) (own place : ℕ) (hops : List Hop) (node slot : ℕ) → has_hop hops node ≡ false → hops_records net size rights own place hops node slot ≡ None
unplaced net size rights own place [] node slot e = refl
unplaced net size rights own place (hop ∷ hops) node slot e =
    let n = or_parts (nat_eq node hop.unit) (has_hop hops node) e in
    ap (λ o. or_record o (hops_records net size rights own (suc place) hops node slot)) (here (unit_at net hop.unit) n.0)
    ∙ unplaced net size rights own (suc place) hops node slot n.1
  where
    here : (o : Option UnitPart) → nat_eq node hop.unit ≡ false → hop_record_by o size (hop_rights rights own place) hop node slot ≡ None
    here None f = refl
    here (Some u) f = ap (λ b. if b && is_taken_by u size hop slot then Some (slot_record u (hop_rights rights own place) hop slot) else None) f

layer_given : (layers : List (List Row)) (a : ℕ) (z : End) → levels_give layers a z ≡ true → list_any has_rows layers ≡ true
layer_given layers a z e = let r = any_member (λ (rows : List Row). rows_give rows a z) layers e in member_any has_rows layers r.0 r.1 (some_rows r.0 a z r.2)

-- what holds of no listed node does not hold of one that is listed
pub unlisted : (p : ℕ → Bool) (nodes : List ℕ) (n : ℕ) → list_any p nodes ≡ false → is_among n nodes ≡ true → p n ≡ false
unlisted p nodes n none there =
    let m = any_member (λ other. nat_eq other n) nodes there in
    subst (λ k. p k ≡ false) (eqb-true m.0 n m.2) (member_none p nodes m.0 none m.1)

module _ (net : List NodeDecl) (legal : IsLegalNet net) (flats : FlatsView) (are : AreFlats net flats) (rq : Request) (p : Place) (access : Access) (h : Held) where
  abbrev added : Held
  added = placed_records net rq p

  abbrev fresh : Held
  fresh = allowing access (fresh_records h added)

  abbrev joined : Held
  joined = allowing access (joined_records h added)

  -- what a record sends a name to is in the node of a port
  by_port : (g : Held) (t w : Name) (u : UnitPart) → Member w (outputs_by g t (Some u)) → (i : ℕ) × (slice_get u.ports i ≡ Some w.node)
  by_port g t w u m = on (g t.node (t.addr / 2 ^ u.page)) m
    where
      at : (o : Option ℕ) (i n : ℕ) → slice_get u.ports i ≡ o → Member w (name_at_port o n) → (i : ℕ) × (slice_get u.ports i ≡ Some w.node)
      at None i n e k = absurd k
      at (Some port) i n e (inr k) = absurd k
      at (Some port) i n e (inl k) = (i, e ∙ ap (λ (x : Name). Some x.node) k)

      on : (o : Option Record) → Member w (output u o t.addr) → (i : ℕ) × (slice_get u.ports i ≡ Some w.node)
      on None k = absurd k
      on (Some r) k = at (slice_get u.ports r.port) r.port (r.page * 2 ^ u.page + t.addr % 2 ^ u.page) refl k

  -- the node of a port is there
  port_there : (t : Name) (u : UnitPart) (i port : ℕ) → unit_at net t.node ≡ Some u → slice_get u.ports i ≡ Some port → port < length flats.nodes
  port_there t u i port e at = subst (λ n. port < n) (sym are.every) (ltb-true port (length net) (list_all-at (λ q. nat_lt q (length net)) u.ports i port (ports_at net t.node u legal.nodes.closed e) at))

  -- the layers of a node give its stops
  stop_given : (w v : Name) → w.node < length flats.nodes → StopsAt net w v → levels_give (stops_of flats w.node) w.addr (end_of v) ≡ true
  stop_given w v l st = (node_stops net flats are w.node l (levels_give (stops_of flats w.node) w.addr (end_of v)) w.addr (end_of v) (stop_low net w v st) refl).1 st

  -- what a name is sent to in a unit that leads on to no units has no stop
  pub no_stop_after : (g : Held) (t w v : Name) → leads_to_units flats.nodes (unit_at net t.node) ≡ false → Member w (outputs net g t) → StopsAt net w v → ⊥
  no_stop_after g t w v none m st = by (unit_at net t.node) refl none m
    where
      by : (o : Option UnitPart) → unit_at net t.node ≡ o → leads_to_units flats.nodes o ≡ false → Member w (outputs_by g t o) → ⊥
      by None e f m = absurd m
      by (Some u) e f m =
          let at = by_port g t w u m in
          let given = stop_given w v (port_there t u at.0 w.node e at.1) st in
          absurd (false≢true (sym (none_at (λ port. list_any has_rows (stops_of flats port)) u.ports at.0 w.node f at.1) ∙ layer_given (stops_of flats w.node) w.addr (end_of v) given))

  -- what goes on to no units comes to a name newly by the record of its own slot
  own_slot : (n : ℕ) (t z : Name) → leads_to_units flats.nodes (unit_at net t.node) ≡ false → Newly net (allowing access h) fresh joined n t z → (w : Name) × Member w (outputs_by fresh t (unit_at net t.node))
  own_slot zero t z none k = absurd k
  own_slot (suc n) t z none k = by k
    where
      by : Newly net (allowing access h) fresh joined (suc n) t z → (w : Name) × Member w (outputs_by fresh t (unit_at net t.node))
      by (inl m) = (m.0, m.1)
      by (inr m) = absurd (no_stop_after (allowing access h) t m.0 m.2.0 none m.1 m.2.1)

  pub by_own_slot : (t z : Name) → leads_to_units flats.nodes (unit_at net t.node) ≡ false → ComesNewly net (allowing access h) fresh (allowing access (joined_records h added)) t z → (w : Name) × Member w (outputs_by fresh t (unit_at net t.node))
  unfolding ComesNewly
  by_own_slot t z none k = own_slot 3 t z none k

  -- what stands where no hop can be met does not come to one
  not_newly : (n : ℕ) (t z : Name) → can_meet net flats p.hops t.node ≡ false → Newly net (allowing access h) fresh joined n t z → ⊥
  not_newly n t z none k = let m = own_slot n t z parts.1 k in not_fresh m.0 (unit_at net t.node) m.1
    where
      parts : (has_hop p.hops t.node ≡ false) × (leads_to_units flats.nodes (unit_at net t.node) ≡ false)
      parts = or_parts (has_hop p.hops t.node) (leads_to_units flats.nodes (unit_at net t.node)) none

      empty : (slot : ℕ) → fresh t.node slot ≡ None
      empty slot = ap (λ o. record_allowing access (fresh_record (h t.node slot) o)) (unplaced net rq.size rq.rights p.own 0 p.hops t.node slot parts.0) ∙ no_record (h t.node slot)
        where
          no_record : (o : Option Record) → record_allowing access (fresh_record o None) ≡ None
          no_record None = refl
          no_record (Some r) = refl

      not_fresh : (w : Name) (o : Option UnitPart) → Member w (outputs_by fresh t o) → ⊥
      not_fresh w None m = absurd m
      not_fresh w (Some u) m = absurd (subst (λ o. Member w (output u o t.addr)) (empty (t.addr / 2 ^ u.page)) m)

  never_newly : (t z : Name) → can_meet net flats p.hops t.node ≡ false → ComesNewly net (allowing access h) fresh (allowing access (joined_records h added)) t z → ⊥
  unfolding ComesNewly
  never_newly t z none k = not_newly 3 t z none k

  -- what stands in a unit whose ports lead to no unit from which a hop can be met comes to none through a first record
  not_onward : (n : ℕ) (s z : Name) → comes_on net flats p.hops (unit_at net s.node) ≡ false → ((w : Name) × Member w (outputs net (allowing access h) s) × ((t : Name) × StopsAt net w t × Newly net (allowing access h) fresh joined n t z)) → ⊥
  not_onward n s z none k = by (unit_at net s.node) refl none k.1
    where
      by : (o : Option UnitPart) → unit_at net s.node ≡ o → comes_on net flats p.hops o ≡ false → Member k.0 (outputs_by (allowing access h) s o) → ⊥
      by None e f m = absurd m
      by (Some u) e f m =
          let at = by_port (allowing access h) s k.0 u m in
          let there : k.0.node < length flats.nodes = port_there s u at.0 k.0.node e at.1 in
          let given = stop_given k.0 k.2.0 there k.2.1 in
          let unmet : list_any (can_meet net flats p.hops) (units_in (slice_get flats.nodes k.0.node)) ≡ false = none_at (leads_to_hops net flats p.hops) u.ports at.0 k.0.node f at.1 in
          not_newly n k.2.0 z (unlisted (can_meet net flats p.hops) (units_in (slice_get flats.nodes k.0.node)) k.2.0.node unmet (unit_listed net flats are k.0.node there k.0.addr (end_of k.2.0) (stop_low net k.0 k.2.0 k.2.1) given)) k.2.2

  -- so of the names that come to a hop through a first record each is kept
  pub kept_onward : (n : ℕ) (s z : Name) (kept : Bool) → (comes_on net flats p.hops (unit_at net s.node) ≡ true → kept ≡ true) → ((w : Name) × Member w (outputs net (allowing access h) s) × ((t : Name) × StopsAt net w t × Newly net (allowing access h) fresh joined n t z)) → kept ≡ true
  kept_onward n s z kept met k = by (comes_on net flats p.hops (unit_at net s.node)) refl
    where
      by : (b : Bool) → comes_on net flats p.hops (unit_at net s.node) ≡ b → kept ≡ true
      by true e = met e
      by false e = absurd (not_onward n s z e k)

  -- a node at which nothing is asked for, and from which no hop can be met, is exact
  pub untouched : (node : ℕ) → node < length flats.nodes → (nat_eq node rq.agent && allows rq.rights access) ≡ false → list_any (can_meet net flats p.hops) (units_in (slice_get flats.nodes node)) ≡ false → IsExactAt net h rq p access node
  untouched node l asked none = (exact_none net h rq p access node [] (not_asked net h rq p access node asked) (λ a z low. ((λ e. absurd (false≢true e)), (λ k. absurd (never a z low k))))).0 refl
    where
      never : (a : ℕ) (z : End) → a ≤ TOP → IsAdded net h rq p access (record { node = node; addr = a }) (name_of_end z) → ⊥
      never a z low k =
          let layers : List (List Row) = stops_of flats node in
          let given : levels_give layers a (end_of k.0) ≡ true = (node_stops net flats are node l (levels_give layers a (end_of k.0)) a (end_of k.0) low refl).1 k.1 in
          never_newly k.0 (name_of_end z) (unlisted (can_meet net flats p.hops) (units_in (slice_get flats.nodes node)) k.0.node none (unit_listed net flats are node l a (end_of k.0) low given)) k.2
