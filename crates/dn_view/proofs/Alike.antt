-- Where each added record has both rights, and no unit to which a node leads goes on to units, the node shows newly for each
-- access the same.
use Rattle.std.proofs.Common.{◌≡◌, ℕ, suc, ◌/◌, ◌^◌, ◌<◌, inl, inr, Bool, true, false, if◌then◌else◌, ◌&&◌, nat_eq, List, [], ◌∷◌, length, slice_get, Option, Some, None, IsTrue, refl, sym, ap, ◌∙◌, subst}
use Rattle.std.specs.List.{list_any}
use Rattle.std.proofs.lemmas.Option.{same_Some}
use Rattle.dn_interval.specs.declared.row.Row.{Row}
use Rattle.dn_net.specs.declared.node.Name.{Name}
use Rattle.dn_net.specs.declared.node.NodeDecl.{NodeDecl}
use Rattle.dn_net.specs.declared.node.Unit.{Unit as UnitPart}
use Rattle.dn_net.specs.Chain.{Member}
use Rattle.dn_net.specs.Decode.{unit_at, StopsAt}
use Rattle.dn_net.specs.Legal.{IsLegalNet}
use Rattle.dn_kind.specs.declared.rights.Access.{Access}
use Rattle.dn_kind.specs.declared.rights.Rights.{Rights}
use Rattle.dn_kind.specs.declared.unit_kind.Record.{Record}
use Rattle.dn_kind.specs.Rights.{allows, both_rights}
use Rattle.dn_kind.specs.Tables.{Held, allowing, output, record_allowing}
use Rattle.dn_kind.proofs.Allowed.{both_allow}
use Rattle.dn_flat.specs.Levels.{AreFlats, FlatsView, leads_to_units, levels_give, units_in}
use Rattle.dn_tables.specs.declared.placement.Hop.{Hop}
use Rattle.dn_tables.specs.Placement.{Place}
use Rattle.dn_placement.specs.declared.request.Request.{Request}
use Rattle.dn_placement.specs.Records.{hop_record, hop_record_by, hop_rights, hops_records, is_taken_by, joined_records, or_record, placed_records, slot_record}
use Rattle.dn_walk.specs.Ends.{end_of, name_of_end}
use Rattle.dn_view.specs.Exact.{IsAdded, IsAsked, IsExactAt}
use Rattle.dn_view.specs.Passes.{outputs, outputs_by, stops_of}
use Rattle.dn_view.specs.Records.{fresh_record, fresh_records}
use Rattle.dn_view.specs.Through.{ComesNewly}
use Rattle.dn_view.specs.Untouched.{leads_on}
use Rattle.dn_view.proofs.Unmet.{no_stop_after, unlisted}
use Rattle.dn_view.proofs.Viewed.{node_stops, unit_listed}
use Rattle.dn_view.proofs.Ways.{resolves_fixed}

-- a hop that puts records with both rights puts no other
both_put : (o : Option UnitPart) (size : ℕ) (rights : Rights) (hop : Hop) (node slot : ℕ) (r : Record) → rights ≡ both_rights → hop_record_by o size rights hop node slot ≡ Some r → r.rights ≡ both_rights
both_put None size rights hop node slot r both e = cc
both_put (Some u) size rights hop node slot r both e = by (nat_eq node hop.unit && is_taken_by u size hop slot) e
  where
    by : (b : Bool) → (if b then Some (slot_record u rights hop slot) else None) ≡ Some r → r.rights ≡ both_rights
    by true f = ap (λ (k : Record). k.rights) (sym (same_Some (slot_record u rights hop slot) r f)) ∙ both
    by false f = cc

hop_both : (own place : ℕ) → hop_rights both_rights own place ≡ both_rights
hop_both own place = by (nat_eq place own)
  where
    by : (b : Bool) → (if b then both_rights else both_rights) ≡ both_rights
    by true = refl
    by false = refl

all_both : (net : List NodeDecl) (size : ℕ) (rights : Rights) (own place : ℕ) (hops : List Hop) (node slot : ℕ) (r : Record) → rights ≡ both_rights → hops_records net size rights own place hops node slot ≡ Some r → r.rights ≡ both_rights
all_both net size rights own place [] node slot r both e = cc
all_both net size rights own place (hop ∷ hops) node slot r both e = by (all_both net size rights own (suc place) hops node slot r both) (hop_record net size (hop_rights rights own place) hop node slot) refl e
  where
    by : (hops_records net size rights own (suc place) hops node slot ≡ Some r → r.rights ≡ both_rights) → (o : Option Record) → hop_record net size (hop_rights rights own place) hop node slot ≡ o → or_record o (hops_records net size rights own (suc place) hops node slot) ≡ Some r → r.rights ≡ both_rights
    by later None f g = later g
    by later (Some k) f g = both_put (unit_at net hop.unit) size (hop_rights rights own place) hop node slot r (ap (λ q. hop_rights q own place) both ∙ hop_both own place) (f ∙ g)

-- a record with both rights allows each access
kept_for : (a b : Access) (r : Record) → r.rights ≡ both_rights → record_allowing a (Some r) ≡ record_allowing b (Some r)
kept_for a b r both = one a ∙ sym (one b)
  where
    one : (access : Access) → record_allowing access (Some r) ≡ Some r
    one access = ap (λ q. if allows q access then Some r else None) both ∙ ap (λ t. if t then Some r else None) (both_allow access)

module _ (net : List NodeDecl) (legal : IsLegalNet net) (flats : FlatsView) (are : AreFlats net flats) (rq : Request) (p : Place) (both : rq.rights ≡ both_rights) (h : Held) where
  abbrev added : Held
  added = placed_records net rq p

  abbrev fresh : Access → Held
  fresh access = allowing access (fresh_records h added)

  abbrev joined : Access → Held
  joined access = allowing access (joined_records h added)

  -- the records that are added are the same for each access
  same_fresh : (a b : Access) (node slot : ℕ) → fresh a node slot ≡ fresh b node slot
  same_fresh a b node slot = by (h node slot) (added node slot) refl
    where
      by : (o k : Option Record) → added node slot ≡ k → record_allowing a (fresh_record o k) ≡ record_allowing b (fresh_record o k)
      by (Some r) k e = refl
      by None None e = refl
      by None (Some r) e = kept_for a b r (all_both net rq.size rq.rights p.own 0 p.hops node slot r both e)

  sent_alike : (a b : Access) (t w : Name) → Member w (outputs net (fresh a) t) → Member w (outputs net (fresh b) t)
  sent_alike a b t w m = by (unit_at net t.node) m
    where
      by : (o : Option UnitPart) → Member w (outputs_by (fresh a) t o) → Member w (outputs_by (fresh b) t o)
      by None n = n
      by (Some u) n = subst (λ o. Member w (output u o t.addr)) (same_fresh a b t.node (t.addr / 2 ^ u.page)) n

  -- what goes on to no units comes newly to the same for each access
  comes_alike : (a b : Access) (t z : Name) → leads_to_units flats.nodes (unit_at net t.node) ≡ false → ComesNewly net (allowing a h) (fresh a) (joined a) t z → ComesNewly net (allowing b h) (fresh b) (joined b) t z
  unfolding ComesNewly
  comes_alike a b t z none (inr k) = absurd (no_stop_after net legal flats are rq p a h (allowing a h) t k.0 k.2.0 none k.1 k.2.1)
  comes_alike a b t z none (inl k) =
      let unmet : (v : Name) → StopsAt net k.0 v → ⊥ = λ v st. no_stop_after net legal flats are rq p a h (fresh a) t k.0 v none k.1 st in
      inl (k.0, sent_alike a b t k.0 k.1, (resolves_fixed net legal (joined b) k.0 z unmet).1 ((resolves_fixed net legal (joined a) k.0 z unmet).0 k.2))

  pub alike : (a b : Access) (node : ℕ) → node < length flats.nodes → list_any (leads_on net flats) (units_in (slice_get flats.nodes node)) ≡ false → IsExactAt net h rq p a node → IsExactAt net h rq p b node
  unfolding IsExactAt
  alike a b node l none is addr z low = ((λ k. asked a b ((is addr z low).0 (turned b a k))), (λ k. turned a b ((is addr z low).1 (asked b a k))))
    where
      x : Name
      x = record { node = node; addr = addr }

      turned : (c d : Access) → IsAdded net h rq p c x (name_of_end z) → IsAdded net h rq p d x (name_of_end z)
      turned c d k =
          let layers : List (List Row) = stops_of flats node in
          let given : levels_give layers addr (end_of k.0) ≡ true = (node_stops net flats are node l (levels_give layers addr (end_of k.0)) addr (end_of k.0) low refl).1 k.1 in
          (k.0, k.1, comes_alike c d k.0 (name_of_end z) (unlisted (leads_on net flats) (units_in (slice_get flats.nodes node)) k.0.node none (unit_listed net flats are node l addr (end_of k.0) low given)) k.2)

      asked : (c d : Access) → IsAsked rq p.v c x (name_of_end z) → IsAsked rq p.v d x (name_of_end z)
      asked c d k = (subst (λ q. IsTrue (allows q d)) (sym both) (both_allow d), k.1)
