-- What the code finds of a name, as where a lookup settles.
use Rattle.std.proofs.Common.{◌≡◌, ◌∙◌, inl, inr, ap, sym, List, [], ◌∷◌, Some, None, slice_get}
use Rattle.std.proofs.lemmas.Option.{same_Some}
use Rattle.dn_net.specs.declared.node.Name.{Name}
use Rattle.dn_net.specs.declared.node.NodeDecl.{NodeDecl}
use Rattle.dn_net.specs.Decode.{is_accepted, step_limit, steps}
use Rattle.dn_net.specs.Legal.{IsLegalNet}
use Rattle.dn_net.specs.Names.{resolved_names, sorted_names}
use Rattle.dn_net.proofs.Resolution.{end_names_are_ends}
use Rattle.dn_view.specs.declared.part.FlatPart.TheVariants.{Accepts, Stops}
use Rattle.dn_view.specs.Named.{AddsPart}
use Rattle.dn_flight.specs.declared.lookup.LookState.TheVariants.{At, Ended}
use Rattle.dn_flight.specs.Flight.{settled}
use Rattle.dn_flight.proofs.Settling.{found_settles}

-- a stop that was found
pub found_stop : (net : List NodeDecl) → IsLegalNet net → (x s : Name) (stops : List Name) → AddsPart net Stops x [] stops → slice_get stops 0 ≡ Some s → At s ≡ settled net x
found_stop net legal x s [] a e = cc
found_stop net legal x s (t ∷ ts) a e =
    ap At (sym (same_Some t s e))
    ∙ found_settles net legal x (t ∷ ts) (resolved_names net x)
    (λ z. ((λ m. elim ((a z).0 m) [ inl n ↦ absurd n | inr n ↦ n ]), (λ n. (a z).1 (inr n))))
    (λ z. end_names_are_ends (steps net) (is_accepted net) step_limit x z)

-- or none
pub found_none : (net : List NodeDecl) → IsLegalNet net → (x : Name) (stops accepted : List Name) → AddsPart net Stops x [] stops → slice_get stops 0 ≡ None → AddsPart net Accepts x [] accepted → Ended (sorted_names accepted) ≡ settled net x
found_none net legal x (t ∷ ts) accepted a e b = let c : Some t ≡ None = e in cc
found_none net legal x [] accepted a e b =
    found_settles net legal x [] accepted
    (λ z. ((λ m. absurd m), (λ n. absurd ((a z).1 (inr n)))))
    (λ z. ((λ m. elim ((b z).0 m) [ inl n ↦ absurd n | inr n ↦ n ]), (λ n. (b z).1 (inr n))))
