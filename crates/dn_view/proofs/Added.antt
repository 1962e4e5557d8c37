-- What an agent's addresses show newly, from the segments of its stops.
use Rattle.std.proofs.Common.{◌≡◌, ℕ, ◌<◌, ◌≤◌, ◌↔◌, true, false, ◌&&◌, nat_eq, List, length, IsTrue, refl, sym, ap, ◌∙◌, eq-eqb}
use Rattle.std.proofs.lemmas.Bool.{false≢true}
use Rattle.dn_interval.specs.declared.row.End.{End}
use Rattle.dn_interval.specs.declared.row.Seg.{Seg}
use Rattle.dn_interval.specs.declared.span.TheConstants.{TOP}
use Rattle.dn_interval.specs.Strands.{segs_give}
use Rattle.dn_net.specs.declared.node.NodeDecl.{NodeDecl}
use Rattle.dn_net.specs.Decode.{StopsAt}
use Rattle.dn_kind.specs.declared.rights.Access.{Access}
use Rattle.dn_kind.specs.Rights.{allows}
use Rattle.dn_kind.specs.Tables.{Held, allowing}
use Rattle.dn_flat.specs.Levels.{AreFlats, FlatsView, levels_give}
use Rattle.dn_tables.specs.Placement.{Place}
use Rattle.dn_placement.specs.declared.request.Request.{Request}
use Rattle.dn_placement.specs.Records.{joined_records, placed_records}
use Rattle.dn_walk.specs.Ends.{end_of, name_of_end}
use Rattle.dn_view.specs.Exact.{IsAdded}
use Rattle.dn_view.specs.Passes.{stops_of}
use Rattle.dn_view.specs.Records.{fresh_records}
use Rattle.dn_view.specs.Through.{ComesNewly}
use Rattle.dn_view.proofs.Viewed.{node_stops}

module _ (net : List NodeDecl) (h : Held) (rq : Request) (p : Place) (access : Access) (node : ℕ) where
  pub not_asked : (nat_eq node rq.agent && allows rq.rights access) ≡ false → node ≡ rq.agent → IsTrue (allows rq.rights access) → ⊥
  not_asked e own allowed = absurd (false≢true (sym e ∙ ap (λ b. b && allows rq.rights access) (eq-eqb node rq.agent own) ∙ allowed))

  -- what is shown newly of the node's stops, of which at least those are kept that come to something newly, is what
  -- is added at its addresses
  pub added_is : (flats : FlatsView) → AreFlats net flats → node < length flats.nodes → (stops shown : List Seg)
      → ((a : ℕ) (s : End) → a ≤ TOP → segs_give stops a s ≡ true → levels_give (stops_of flats node) a s ≡ true)
      → ((a : ℕ) (s z : End) → a ≤ TOP → levels_give (stops_of flats node) a s ≡ true → ComesNewly net (allowing access h) (allowing access (fresh_records h (placed_records net rq p))) (allowing access (joined_records h (placed_records net rq p))) (name_of_end s) (name_of_end z) → segs_give stops a s ≡ true)
      → ((a : ℕ) (z : End) → a ≤ TOP → IsTrue (segs_give shown a z) ↔ ((s : End) × IsTrue (segs_give stops a s) × ComesNewly net (allowing access h) (allowing access (fresh_records h (placed_records net rq p))) (allowing access (joined_records h (placed_records net rq p))) (name_of_end s) (name_of_end z)))
      → (a : ℕ) (z : End) → a ≤ TOP → (segs_give shown a z ≡ true) ↔ IsAdded net h rq p access (record { node = node; addr = a }) (name_of_end z)
  added_is flats are l stops shown given met is a z low = (into, back)
    where
      by_stops : (s : End) → (levels_give (stops_of flats node) a s ≡ true) ↔ StopsAt net (record { node = node; addr = a }) (name_of_end s)
      by_stops s = node_stops net flats are node l (levels_give (stops_of flats node) a s) a s low refl

      into : segs_give shown a z ≡ true → IsAdded net h rq p access (record { node = node; addr = a }) (name_of_end z)
      into e = let r = (is a z low).0 e in (name_of_end r.0, (by_stops r.0).0 (given a r.0 low r.1), r.2)

      back : IsAdded net h rq p access (record { node = node; addr = a }) (name_of_end z) → segs_give shown a z ≡ true
      back r = (is a z low).1 (end_of r.0, met a (end_of r.0) z low ((by_stops (end_of r.0)).1 r.1) r.2, r.2)
