-- What code finds of a name is where a lookup settles: any of the stops that it finds, or all accepted names in order.
use Rattle.std.proofs.Common.{◌≡◌, ◌↔◌, ap, sym, subst, refl, inl, List, [], ◌∷◌}
use Rattle.dn_net.specs.declared.node.Name.{Name}
use Rattle.dn_net.specs.declared.node.NodeDecl.{NodeDecl}
use Rattle.dn_net.specs.Chain.{Member}
use Rattle.dn_net.specs.Decode.{Resolves, StopsAt, is_accepted, is_stop, step_limit, steps}
use Rattle.dn_net.specs.Legal.{IsLegalNet}
use Rattle.dn_net.specs.Names.{resolved_names, sorted_names, stop_names}
use Rattle.dn_net.proofs.Ascending.{end_names_ascend, sorted_ascending}
use Rattle.dn_net.proofs.Resolution.{end_names_are_ends, names_in}
use Rattle.dn_kind.proofs.Sets.{ascending_same}
use Rattle.dn_view.proofs.Ways.{one_stop}
use Rattle.dn_flight.specs.declared.lookup.LookState.TheVariants.{Ended, At}
use Rattle.dn_flight.specs.Flight.{settled, settled_by}

-- the stops that were found, in any order, and the accepted names, in order, say where a lookup settles
pub found_settles : (net : List NodeDecl) → IsLegalNet net → (x : Name) (found others : List Name) → ((z : Name) → Member z found ↔ StopsAt net x z) → ((z : Name) → Member z others ↔ Resolves net x z) → settled_by found (sorted_names others) ≡ settled net x
found_settles net legal x found others stops accepts = by found stops (stop_names net x) refl
  where
    listed : (z : Name) → Member z (stop_names net x) ↔ StopsAt net x z
    listed z = end_names_are_ends (steps net) (is_stop net) step_limit x z

    names : sorted_names others ≡ resolved_names net x
    names = ascending_same (sorted_names others) (resolved_names net x) (sorted_ascending others) (end_names_ascend (steps net) (is_accepted net) step_limit x)
        (λ z. (
          (λ m. (end_names_are_ends (steps net) (is_accepted net) step_limit x z).1 ((accepts z).0 ((names_in others z).0 m))),
          (λ m. (names_in others z).1 ((accepts z).1 ((end_names_are_ends (steps net) (is_accepted net) step_limit x z).0 m))),
        ))

    by : (f : List Name) → ((z : Name) → Member z f ↔ StopsAt net x z) → (l : List Name) → stop_names net x ≡ l → settled_by f (sorted_names others) ≡ settled_by l (resolved_names net x)
    by [] m [] e = ap Ended names
    by [] m (t ∷ ts) e = absurd ((m t).1 ((listed t).0 (subst (Member t) (sym e) (inl refl))))
    by (s ∷ ss) m [] e = absurd (subst (Member s) e ((listed s).1 ((m s).0 (inl refl))))
    by (s ∷ ss) m (t ∷ ts) e =
        let a = (m s).0 (inl refl) in
        let b = (listed t).0 (subst (Member t) (sym e) (inl refl)) in
        ap At (one_stop net legal x s t a b)
