-- The list of the names that a book owes.
use Rattle.std.proofs.Common.{◌≡◌, ℕ, ◌+◌, ◌-◌, ◌<◌, ◌≤◌, inl, inr, ◌↔◌, Bool, true, false, if◌then◌else◌, ◌&&◌, nat_eq, nat_le, nat_lt, List, [], ◌∷◌, ◌++◌, IsTrue, refl, sym, ap, ◌∙◌, subst, arith, eqb-true, eq-eqb, leb-true, ltb-true}
use Rattle.dn_base.proofs.Booleans.{and_from, and_parts}
use Rattle.dn_base.proofs.Members.{member_cases, member_left, member_right}
use Rattle.dn_base.proofs.Orders.{le-leb, lt-ltb}
use Rattle.dn_net.specs.declared.node.Name.{Name}
use Rattle.dn_net.specs.Chain.{Member}
use Rattle.dn_net.specs.Decode.{is_accepted, step_limit, steps}
use Rattle.dn_net.specs.Names.{resolved_names}
use Rattle.dn_net.proofs.Ascending.{end_names_ascend, sorted_ascending}
use Rattle.dn_net.proofs.Resolution.{end_names_are_ends, names_in}
use Rattle.dn_kind.specs.declared.rights.Access.{Access}
use Rattle.dn_kind.specs.Rights.{allows}
use Rattle.dn_kind.proofs.Sets.{ascending_same}
use Rattle.dn_kind.specs.Tables.{allowing, resolved_names_under, step_limit_under, steps_under}
use Rattle.dn_placement.specs.Exposure.{Adds}
use Rattle.dn_placement.specs.Placement.{name_on}
use Rattle.dn_book.specs.declared.grant.Grant.{Grant}
use Rattle.dn_book.specs.Book.{IsGrantedName, granted_by, granted_names, owed_names, records_of}
use Rattle.dn_book.specs.Laws.{OwedNamesAreOwed, OwedNamesAreResolved}

-- the test of a name at which a grant gives one
gives_at : Access → Name → Grant → Bool
gives_at access x g = nat_eq x.node g.request.agent && (allows g.request.rights access && (nat_le g.placement.v x.addr && nat_lt x.addr (g.placement.v + g.request.size)))

-- what a grant gives at a name
by_grant : (access : Access) (x y : Name) (g : Grant) → Member y (granted_by access x g) ↔ (IsTrue (allows g.request.rights access) × Adds g.request g.placement.v x y)
unfolding gives_at
by_grant access x y g = (down (gives_at access x g) refl, up)
  where
    down : (b : Bool) → gives_at access x g ≡ b → Member y (if b then name_on g.request.node g.request.base (x.addr - g.placement.v) ∷ [] else []) → IsTrue (allows g.request.rights access) × Adds g.request g.placement.v x y
    down false e m = absurd m
    down true e (inr m) = absurd m
    down true e (inl same) =
        let p = and_parts (nat_eq x.node g.request.agent) (allows g.request.rights access && (nat_le g.placement.v x.addr && nat_lt x.addr (g.placement.v + g.request.size))) e in
        let q = and_parts (allows g.request.rights access) (nat_le g.placement.v x.addr && nat_lt x.addr (g.placement.v + g.request.size)) p.1 in
        let r = and_parts (nat_le g.placement.v x.addr) (nat_lt x.addr (g.placement.v + g.request.size)) q.1 in
        let low : g.placement.v ≤ x.addr = leb-true g.placement.v x.addr r.0 in
        let high : x.addr < g.placement.v + g.request.size = ltb-true x.addr (g.placement.v + g.request.size) r.1 in
        let addr : x.addr ≡ g.placement.v + (x.addr - g.placement.v) = omega arith in (
          q.0,
          record {
            i = x.addr - g.placement.v;
            below = omega arith;
            from = ap (λ n. record { node = n; addr = x.addr }) (eqb-true x.node g.request.agent p.0) ∙ ap (λ a. record { node = g.request.agent; addr = a }) addr;
            to = sym same;
          },
        )

    up : IsTrue (allows g.request.rights access) × Adds g.request g.placement.v x y → Member y (granted_by access x g)
    up h =
        let a = h.1 in
        let i : ℕ = a.i in
        let node : x.node ≡ g.request.agent = ap (λ (n : Name). n.node) a.from in
        let addr : x.addr ≡ g.placement.v + i = ap (λ (n : Name). n.addr) a.from in
        let below : i < g.request.size = a.below in
        let off : x.addr - g.placement.v ≡ i = omega arith in
        let test : gives_at access x g ≡ true = and_from (nat_eq x.node g.request.agent) (allows g.request.rights access && (nat_le g.placement.v x.addr && nat_lt x.addr (g.placement.v + g.request.size))) (eq-eqb x.node g.request.agent node) (and_from (allows g.request.rights access) (nat_le g.placement.v x.addr && nat_lt x.addr (g.placement.v + g.request.size)) h.0 (and_from (nat_le g.placement.v x.addr) (nat_lt x.addr (g.placement.v + g.request.size)) (le-leb g.placement.v x.addr (omega arith)) (lt-ltb x.addr (g.placement.v + g.request.size) (omega arith)))) in
        let here : Member y (name_on g.request.node g.request.base (x.addr - g.placement.v) ∷ []) = inl (ap (name_on g.request.node g.request.base) off ∙ sym a.to) in
        subst (λ b. Member y (if b then name_on g.request.node g.request.base (x.addr - g.placement.v) ∷ [] else [])) (sym test) here

-- what all grants give at it
by_grants : (book : List Grant) (access : Access) (x y : Name) → Member y (granted_names book access x) ↔ IsGrantedName book access x y
by_grants [] access x y = ((λ m. absurd m), (λ b. absurd b.is_grant))
by_grants (g ∷ gs) access x y = (down (by_grants gs access x y).0, up (λ h. (by_grants gs access x y).1 h))
  where
    down : (Member y (granted_names gs access x) → IsGrantedName gs access x y) → Member y (granted_names (g ∷ gs) access x) → IsGrantedName (g ∷ gs) access x y
    down later m = elim (member_cases (granted_by access x g) (granted_names gs access x) y m) [
      | inl n ↦ (let h = (by_grant access x y g).0 n in record { grant = g; is_grant = inl refl; allowed = h.0; adds = h.1 })
      | inr n ↦ (let h = later n in record { grant = h.grant; is_grant = inr h.is_grant; allowed = h.allowed; adds = h.adds })
    ]

    up : (IsGrantedName gs access x y → Member y (granted_names gs access x)) → IsGrantedName (g ∷ gs) access x y → Member y (granted_names (g ∷ gs) access x)
    up later b = elim b.is_grant [
      | inl e ↦ member_left (granted_by access x g) (granted_names gs access x) y ((by_grant access x y g).1 (subst (λ (k : Grant). IsTrue (allows k.request.rights access) × Adds k.request k.placement.v x y) (sym e) (b.allowed, b.adds)))
      | inr m ↦ member_right (granted_by access x g) (granted_names gs access x) y (later (record { grant = b.grant; is_grant = m; allowed = b.allowed; adds = b.adds }))
    ]

pub owed_names_are_owed : OwedNamesAreOwed
owed_names_are_owed net book access x y = (
  (λ m. elim (member_cases (resolved_names net x) (granted_names book access x) y ((names_in (resolved_names net x ++ granted_names book access x) y).0 m)) [
    | inl n ↦ inl ((end_names_are_ends (steps net) (is_accepted net) step_limit x y).0 n)
    | inr n ↦ inr ((by_grants book access x y).0 n)
  ]),
  (λ o. (names_in (resolved_names net x ++ granted_names book access x) y).1 (elim o [
    | inl r ↦ member_left (resolved_names net x) (granted_names book access x) y ((end_names_are_ends (steps net) (is_accepted net) step_limit x y).1 r)
    | inr b ↦ member_right (resolved_names net x) (granted_names book access x) y ((by_grants book access x y).1 b)
  ])),
)

pub owed_names_are_resolved : OwedNamesAreResolved
owed_names_are_resolved net book faithful access x agent =
    ascending_same (owed_names net book access x) (resolved_names_under net (allowing access (records_of net book)) x)
    (sorted_ascending (resolved_names net x ++ granted_names book access x))
    (end_names_ascend (steps_under net (allowing access (records_of net book))) (is_accepted net) step_limit_under x)
    (λ y. (
      (λ m. (end_names_are_ends (steps_under net (allowing access (records_of net book))) (is_accepted net) step_limit_under x y).1 ((faithful access x y agent).1 ((owed_names_are_owed net book access x y).0 m))),
      (λ m. (owed_names_are_owed net book access x y).1 ((faithful access x y agent).0 ((end_names_are_ends (steps_under net (allowing access (records_of net book))) (is_accepted net) step_limit_under x y).0 m))),
    ))
