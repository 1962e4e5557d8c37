-- The unit of a node, as a net shows it.
use Rattle.std.proofs.Common.{◌≡◌, ℕ, zero, suc, ◌+◌, ◌<◌, Bool, true, false, if◌then◌else◌, ◌&&◌, nat_lt, List, [], ◌∷◌, ◌++◌, drop, length, slice_get, Option, Some, option_map, is_some, IsTrue, sym, ap, ◌∙◌, subst, arith}
use Rattle.std.specs.List.{list_all}
use Rattle.std.proofs.lemmas.Bool.{and_parts}
use Rattle.std.proofs.lemmas.List.{append_assoc}
use Rattle.dn_net.specs.declared.node.NodeDecl.{NodeDecl}
use Rattle.dn_net.specs.declared.node.Unit.{Unit as UnitPart}
use Rattle.dn_net.specs.Decode.{unit_at, over_within, ports_within, refers_within, is_closed}
use Rattle.dn_net.specs.UnitRules.{units_from, unit_numbers}

-- its ports are of the net
pub ports_there : (net : List NodeDecl) (i : ℕ) (u : Option UnitPart) → IsTrue (is_closed net) → option_map (λ d. d.unit) (slice_get net i) ≡ Some u → IsTrue (ports_within (length net) u)
ports_there net i u closed at = within net i closed at
  where
    count : ℕ
    count = length net

    within : (ns : List NodeDecl) (i : ℕ) → IsTrue (list_all (refers_within count) ns) → option_map (λ d. d.unit) (slice_get ns i) ≡ Some u → IsTrue (ports_within count u)
    within [] i h at = cc
    within (n ∷ ns) zero h at =
        let e : n.unit ≡ u = cc in
        let p = and_parts (refers_within count n) (list_all (refers_within count) ns) h in
        let q = and_parts (list_all (λ e. list_all (λ d. nat_lt d.node count) e.dests) n.entries) (over_within count n.over && ports_within count n.unit) p.0 in
        subst (λ o. IsTrue (ports_within count o)) e (and_parts (over_within count n.over) (ports_within count n.unit) q.1).1
    within (n ∷ ns) (suc i) h at = within ns i (and_parts (refers_within count n) (list_all (refers_within count) ns) h).1 at

-- the numbers of the units from a node on
pub units_at : (net : List NodeDecl) (number i : ℕ) (b : Bool) → i < length net → b ≡ is_some (unit_at net i) → units_from number (drop i net) ≡ (if b then number ∷ units_from (suc number) (drop (i + 1) net) else units_from (suc number) (drop (i + 1) net))
units_at [] number i b l e = absurd (omega arith)
units_at (n ∷ ns) number zero b l e = ap (λ c. if c then number ∷ units_from (suc number) ns else units_from (suc number) ns) (sym e)
units_at (n ∷ ns) number (suc i) b l e =
    let s : suc i + 1 ≡ suc (i + 1) = omega arith in
    units_at ns number i b (omega arith) e
    ∙ ap (λ k. if b then number ∷ units_from (suc number) (drop k (n ∷ ns)) else units_from (suc number) (drop k (n ∷ ns))) (sym s)

-- a unit is put behind those so far, and a node that is none is passed over
pub units_pushed : (net : List NodeDecl) (i : ℕ) (units more : List ℕ) (b : Bool) → i < length net → b ≡ is_some (unit_at net i) → b ≡ true → unit_numbers net ≡ units ++ units_from i (drop i net) → more ≡ units ++ i ∷ [] → unit_numbers net ≡ more ++ units_from (i + 1) (drop (i + 1) net)
units_pushed net i units more b l e t h m =
    let s : suc i ≡ i + 1 = omega arith in
    h
    ∙ ap (λ us. units ++ us) (units_at net i i b l e ∙ ap (λ c. if c then i ∷ units_from (suc i) (drop (i + 1) net) else units_from (suc i) (drop (i + 1) net)) t ∙ ap (λ n. i ∷ units_from n (drop (i + 1) net)) s)
    ∙ sym (append_assoc units (i ∷ []) (units_from (i + 1) (drop (i + 1) net)))
    ∙ ap (λ us. us ++ units_from (i + 1) (drop (i + 1) net)) (sym m)

pub units_passed : (net : List NodeDecl) (i : ℕ) (units more : List ℕ) (b : Bool) → i < length net → b ≡ is_some (unit_at net i) → b ≡ false → unit_numbers net ≡ units ++ units_from i (drop i net) → more ≡ units → unit_numbers net ≡ more ++ units_from (i + 1) (drop (i + 1) net)
units_passed net i units more b l e t h m =
    let s : suc i ≡ i + 1 = omega arith in
    h
    ∙ ap (λ us. units ++ us) (units_at net i i b l e ∙ ap (λ c. if c then i ∷ units_from (suc i) (drop (i + 1) net) else units_from (suc i) (drop (i + 1) net)) t ∙ ap (λ n. units_from n (drop (i + 1) net)) s)
    ∙ ap (λ us. us ++ units_from (i + 1) (drop (i + 1) net)) (sym m)
