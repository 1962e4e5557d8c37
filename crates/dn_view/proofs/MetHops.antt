-- The rows with names of the slots of hops have each stop that comes to something newly, where nothing goes on to units.
use Rattle.std.proofs.Common.{◌≡◌, ℕ, suc, ◌+◌, ◌-◌, ◌*◌, ◌/◌, ◌%◌, ◌^◌, ◌<◌, ◌≤◌, inl, inr, true, List, [], ◌∷◌, Option, Some, None, refl, sym, ap, ◌∙◌, subst, arith, pow_pos, mod-lt}
use Rattle.std.proofs.Math.Nat.{div-add-mod', mul-le-mul_right}
use Rattle.std.proofs.lemmas.Option.{same_Some}
use Rattle.dn_base.proofs.Members.{any_member, member_any, member_of_all}
use Rattle.dn_interval.specs.declared.row.End.{End}
use Rattle.dn_interval.specs.declared.row.Row.{Row}
use Rattle.dn_interval.specs.Rows.{further_end}
use Rattle.dn_net.specs.declared.node.Name.{Name}
use Rattle.dn_net.specs.declared.node.NodeDecl.{NodeDecl}
use Rattle.dn_net.specs.declared.node.Unit.{Unit as UnitPart}
use Rattle.dn_net.specs.Chain.{Member}
use Rattle.dn_net.specs.Decode.{unit_at}
use Rattle.dn_kind.specs.declared.rights.Access.{Access}
use Rattle.dn_kind.specs.declared.rights.Rights.{Rights}
use Rattle.dn_kind.specs.declared.unit_kind.Record.{Record}
use Rattle.dn_kind.specs.Tables.{Held, allowing, output, record_allowing}
use Rattle.dn_flat.specs.Levels.{levels_give}
use Rattle.dn_tables.specs.declared.placement.Hop.{Hop}
use Rattle.dn_tables.specs.Placement.{Place}
use Rattle.dn_placement.specs.declared.request.Request.{Request}
use Rattle.dn_placement.specs.Records.{hop_record, hop_rights, hops_records, or_record, placed_records}
use Rattle.dn_walk.specs.Ends.{name_of_end}
use Rattle.dn_view.specs.Near.{first_slot_name, hop_near_by, hops_near, levels_near, name_count}
use Rattle.dn_view.specs.Passes.{outputs_by}
use Rattle.dn_view.specs.Records.{AreFitted, IsFitted, fresh_record, fresh_records}
use Rattle.dn_view.proofs.Fitted.{IsHopRecord, hop_record_is}
use Rattle.dn_view.proofs.Nearby.{levels_from, levels_to}

-- a record of hops is one of a hop among them
record IsOfHop (net : List NodeDecl) (size : ℕ) (hops : List Hop) (node slot : ℕ) (r : Record) : Type 0 where
  hop : Hop
  listed : Member hop hops
  rights : Rights
  is : hop_record net size rights hop node slot ≡ Some r

of_hop : (net : List NodeDecl) (size : ℕ) (rights : Rights) (own place : ℕ) (hops : List Hop) (node slot : ℕ) (r : Record) → hops_records net size rights own place hops node slot ≡ Some r → IsOfHop net size hops node slot r
of_hop net size rights own place [] node slot r e = cc
of_hop net size rights own place (hop ∷ hops) node slot r e = go (of_hop net size rights own (suc place) hops node slot r) (hop_record net size (hop_rights rights own place) hop node slot) refl e
  where
    go : (hops_records net size rights own (suc place) hops node slot ≡ Some r → IsOfHop net size hops node slot r) → (o : Option Record) → hop_record net size (hop_rights rights own place) hop node slot ≡ o → or_record o (hops_records net size rights own (suc place) hops node slot) ≡ Some r → IsOfHop net size (hop ∷ hops) node slot r
    go later None is f = let k = later f in record { hop = k.hop; listed = inr k.listed; rights = k.rights; is = k.is }
    go later (Some t) is f = record { hop = hop; listed = inl refl; rights = hop_rights rights own place; is = is ∙ f }

-- a name in a slot from the first to the last is one of so many from the first name of the first
in_slots : (w x size a : ℕ) → 0 < w → 1 ≤ size → x / w ≤ a / w → a / w ≤ (x + size - 1) / w → (i : ℕ) × (i < (((x + size - 1) - (x + size - 1) % w) + w) - (x - x % w)) × (a ≡ (x - x % w) + i)
in_slots w x size a pos some from to =
    let ex : x / w * w + x % w ≡ x = div-add-mod' x w in
    let el : (x + size - 1) / w * w + (x + size - 1) % w ≡ x + size - 1 = div-add-mod' (x + size - 1) w in
    let ea : a / w * w + a % w ≡ a = div-add-mod' a w in
    let la : a % w < w = mod-lt a pos in
    let f : x / w * w ≤ a / w * w = mul-le-mul_right w from in
    let t : a / w * w ≤ (x + size - 1) / w * w = mul-le-mul_right w to in
    (a - (x - x % w), omega arith, omega arith)

-- what the rows near the hops give the levels give
pub near_given : (net : List NodeDecl) (size : ℕ) (hops : List Hop) (levels : List (List Row)) (a : ℕ) (z : End) → hops_near net size hops levels a z ≡ true → levels_give levels a z ≡ true
near_given net size hops levels a z e =
    let m = any_member (λ (hop : Hop). hop_near_by (unit_at net hop.unit) size hop levels a z) hops e in
    by m.0 (unit_at net m.0.unit) m.2
  where
    by : (hop : Hop) (o : Option UnitPart) → hop_near_by o size hop levels a z ≡ true → levels_give levels a z ≡ true
    by hop None f = cc
    by hop (Some u) f = levels_to (first_slot_name u hop) (name_count u size hop) levels a z f

module _ (net : List NodeDecl) (rq : Request) (p : Place) (fitted : AreFitted net rq p) (access : Access) (h : Held) (levels : List (List Row)) where
  abbrev fresh : Held
  fresh = allowing access (fresh_records h (placed_records net rq p))

  -- a name of a slot of a hop that a level gives
  by_hop : (a : ℕ) (s : End) (u : UnitPart) (r : Record) → levels_give levels a s ≡ true → unit_at net s.node ≡ Some u → IsOfHop net rq.size p.hops s.node (s.base / 2 ^ u.page) r → hops_near net rq.size p.hops levels a s ≡ true
  by_hop a s u r given at k =
      member_any (λ (hop : Hop). hop_near_by (unit_at net hop.unit) rq.size hop levels a s) p.hops k.hop k.listed
      (subst (λ o. hop_near_by o rq.size k.hop levels a s ≡ true) (sym f.is_unit)
      (subst (λ (z : End). levels_near (first_slot_name f.unit k.hop) (name_count f.unit rq.size k.hop) levels a z ≡ true) (sym is)
      (levels_from (first_slot_name f.unit k.hop) (name_count f.unit rq.size k.hop) levels a i.0 i.1 (subst (λ (z : End). levels_give levels a z ≡ true) is given))))
    where
      f : IsFitted net rq.size k.hop
      f = member_of_all (IsFitted net rq.size) p.hops k.hop fitted.hops k.listed

      here : IsHopRecord net rq.size k.rights k.hop s.node (s.base / 2 ^ u.page) f.unit r
      here = hop_record_is net rq.size k.rights k.hop s.node (s.base / 2 ^ u.page) f.unit r f.is_unit k.is

      same : u ≡ f.unit
      same = same_Some u f.unit (sym at ∙ ap (unit_at net) here.here ∙ f.is_unit)

      page : s.base / 2 ^ u.page ≡ s.base / 2 ^ f.unit.page
      page = ap (λ (v : UnitPart). s.base / 2 ^ v.page) same

      i : (i : ℕ) × (i < name_count f.unit rq.size k.hop) × (s.base ≡ (k.hop.x - k.hop.x % 2 ^ f.unit.page) + i)
      i = in_slots (2 ^ f.unit.page) k.hop.x rq.size s.base (pow_pos f.unit.page) fitted.some (subst (λ n. k.hop.x / 2 ^ f.unit.page ≤ n) page here.from) (subst (λ n. n ≤ (k.hop.x + rq.size - 1) / 2 ^ f.unit.page) page here.to)

      is : s ≡ further_end i.0 (first_slot_name f.unit k.hop)
      is = ap (λ n. record { node = n; base = s.base }) here.here ∙ ap (λ n. record { node = k.hop.unit; base = n }) i.2

  -- what comes to something by the fresh record of its slot stands in a slot of a hop
  pub near_hops : (a : ℕ) (s : End) (w : Name) → levels_give levels a s ≡ true → Member w (outputs_by fresh (name_of_end s) (unit_at net s.node)) → hops_near net rq.size p.hops levels a s ≡ true
  near_hops a s w given m = go (unit_at net s.node) refl m
    where
      none : (u : UnitPart) (q : Option Record) → Member w (output u (record_allowing access (fresh_record q None)) s.base) → hops_near net rq.size p.hops levels a s ≡ true
      none u None k = absurd k
      none u (Some r) k = absurd k

      by : (u : UnitPart) (o : Option Record) → unit_at net s.node ≡ Some u → placed_records net rq p s.node (s.base / 2 ^ u.page) ≡ o → Member w (output u (record_allowing access (fresh_record (h s.node (s.base / 2 ^ u.page)) o)) s.base) → hops_near net rq.size p.hops levels a s ≡ true
      by u None at e k = none u (h s.node (s.base / 2 ^ u.page)) k
      by u (Some r) at e k = by_hop a s u r given at (of_hop net rq.size rq.rights p.own 0 p.hops s.node (s.base / 2 ^ u.page) r e)

      go : (o : Option UnitPart) → unit_at net s.node ≡ o → Member w (outputs_by fresh (name_of_end s) o) → hops_near net rq.size p.hops levels a s ≡ true
      go None at k = absurd k
      go (Some u) at k = by u (placed_records net rq p s.node (s.base / 2 ^ u.page)) at refl k
