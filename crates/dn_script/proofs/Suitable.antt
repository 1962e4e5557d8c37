-- Whether a placement is one that is looked for is decided, by the lists of what names resolve to.
use Rattle.std.proofs.Common.{◌≡◌, ◌∙◌, sym, ap, subst, refl, arith, ℕ, suc, ◌+◌, ◌-◌, ◌*◌, ◌%◌, ◌^◌, ◌<◌, ◌≤◌, ◌⊎◌, ◌↔◌, inl, inr, Bool, true, false, not, List, [], ◌∷◌, ◌++◌, length, slice_get, Option, Some, None, IsTrue}
use Rattle.std.proofs.lemmas.Bool.{cases_order}
use Rattle.std.proofs.lemmas.Option.{same_Some, slice_get_within}
use Rattle.dn_base.specs.Members.{Member}
use Rattle.dn_base.proofs.Members.{member_cases, member_left, member_right}
use Rattle.dn_net.specs.declared.node.Name.{Name}
use Rattle.dn_net.specs.declared.node.NodeDecl.{NodeDecl}
use Rattle.dn_net.specs.declared.node.Unit.{Unit as UnitPart}
use Rattle.dn_net.specs.Decode.{Resolves, StopsAt, is_accepted, is_agent_at, is_stop, step_limit, steps, top, unit_at}
use Rattle.dn_net.specs.Names.{resolved_names, stop_names}
use Rattle.dn_net.proofs.Resolution.{end_names_are_ends, name_is}
use Rattle.dn_kind.specs.declared.rights.Access.{Access}
use Rattle.dn_kind.specs.declared.rights.Access.TheVariants.{Read, Write}
use Rattle.dn_kind.specs.declared.rights.Rights.{Rights}
use Rattle.dn_kind.specs.declared.unit_kind.Record.{Record}
use Rattle.dn_kind.specs.Rights.{allows, both_rights}
use Rattle.dn_kind.specs.Tables.{Held, ResolvesUnder, allowing, resolved_names_under, step_limit_under, steps_under}
use Rattle.dn_tables.specs.declared.placement.Hop.{Hop}
use Rattle.dn_tables.specs.Placement.{Place}
use Rattle.dn_placement.specs.declared.request.Request.{Request}
use Rattle.dn_placement.specs.Exposure.{Adds, Gives, IsAdmissible}
use Rattle.dn_placement.specs.Order.{IsAt, IsSuited}
use Rattle.dn_placement.specs.Placement.{FitsUnit, IsFreeHop, IsHolding, IsPlacement, IsUsable, Joins, Leads, Meets, name_on}
use Rattle.dn_placement.specs.Placement.IsUsable.{is_free, is_shared}
use Rattle.dn_placement.specs.Records.{first_slot, joined_records, last_slot, placed_records, slot_record}
use Rattle.dn_placement.specs.Slots.{Slots}
use Rattle.dn_view.proofs.Single.{past_under}
use Rattle.dn_script.proofs.Decided.{IsDecided, all_below, all_in, at_most, both, either, implied, is_in, number_is, same, some_below, test_is}

-- whether two names are one, and two records
pub one_name : (x y : Name) → IsDecided (x ≡ y)
one_name x y = same (λ p. name_is x.node y.node x.addr y.addr p.0 p.1) (λ e. (ap (λ (z : Name). z.node) e, ap (λ (z : Name). z.addr) e)) (both (number_is x.node y.node) (number_is x.addr y.addr))

one_record : (r s : Record) → IsDecided (r ≡ s)
one_record r s = same (λ p. is r.port s.port r.page s.page r.rights.0 s.rights.0 p.0 p.1 p.2) (λ e. (ap (λ (z : Record). z.port) e, ap (λ (z : Record). z.page) e, ap (λ (z : Record). z.rights.0) e)) (three (number_is r.port s.port) (number_is r.page s.page) (number_is r.rights.0 s.rights.0))
  where
    is : (a b c d m n : ℕ) → a ≡ b → c ≡ d → m ≡ n → ◌≡◌ {A = Record} (record { port = a; page = c; rights = record { 0 = m } }) (record { port = b; page = d; rights = record { 0 = n } })
    is a b c d m n e f g = cc

    three : {P Q R : Type 0} → IsDecided P → IsDecided Q → IsDecided R → IsDecided (P × Q × R)
    three p q r = same (λ z. (z.0, z.1.0, z.1.1)) (λ z. (z.0, (z.1, z.2))) (both p (both q r))

some_record : (o : Option Record) (r : Record) → IsDecided (o ≡ Some r)
some_record None r = inr (λ e. cc)
some_record (Some s) r = same (λ e. ap Some e) (λ e. same_Some s r e) (one_record s r)

-- what a name resolves to, where it stops, and what it resolves to under records
names : {P : Type 0} (y : Name) (xs : List Name) → Member y xs ↔ P → IsDecided P
names y xs is = same is.0 is.1 (is_in y xs (λ z. one_name z y))

resolves : (net : List NodeDecl) (x y : Name) → IsDecided (Resolves net x y)
resolves net x y = names y (resolved_names net x) (end_names_are_ends (steps net) (is_accepted net) step_limit x y)

stops : (net : List NodeDecl) (x y : Name) → IsDecided (StopsAt net x y)
stops net x y = names y (stop_names net x) (end_names_are_ends (steps net) (is_stop net) step_limit x y)

-- whether the names of a buffer meet it, or the stops of a hop
meets_buffer : (net : List NodeDecl) (x w : Name) → IsDecided (((z : Name) → Resolves net x z ↔ (z ≡ w)) × ((z : Name) → StopsAt net x z → ⊥))
meets_buffer net x w =
    let is = λ (z : Name). end_names_are_ends (steps net) (is_accepted net) step_limit x z in
    let stopped = λ (z : Name). end_names_are_ends (steps net) (is_stop net) step_limit x z in
    let alone : IsDecided ((z : Name) → Member z (resolved_names net x) → z ≡ w) = all_in (λ (z : Name). z ≡ w) (resolved_names net x) (λ z. one_name z w) in
    let only : IsDecided ((z : Name) → Resolves net x z ↔ (z ≡ w)) = same (λ p z. ((λ r. p.0 z ((is z).1 r)), (λ e. subst (λ (y : Name). Resolves net x y) (sym e) p.1))) (λ f. ((λ z m. (f z).0 ((is z).0 m)), (f w).1 refl)) (both alone (resolves net x w)) in
    let none : IsDecided ((z : Name) → StopsAt net x z → ⊥) = same (λ f z r. f z ((stopped z).1 r)) (λ f z m. f z ((stopped z).0 m)) (all_in (λ (z : Name). ⊥) (stop_names net x) (λ z. inr (λ n. n))) in
    both only none

meets : (net : List NodeDecl) (rq : Request) (node addr : ℕ) (hops : List Hop) → IsDecided (Meets net rq node addr hops)
meets net rq node addr [] = all_below (λ i. ((z : Name) → Resolves net (name_on node addr i) z ↔ (z ≡ name_on rq.node rq.base i)) × ((z : Name) → StopsAt net (name_on node addr i) z → ⊥)) rq.size (λ i. meets_buffer net (name_on node addr i) (name_on rq.node rq.base i))
meets net rq node addr (hop ∷ hops) = all_below (λ i. StopsAt net (name_on node addr i) (name_on hop.unit hop.x i)) rq.size (λ i. stops net (name_on node addr i) (name_on hop.unit hop.x i))

-- at each slot from a first to a last one
each_slot : (P : ℕ → Type 0) (first last : ℕ) → ((slot : ℕ) → IsDecided (P slot)) → IsDecided ((slot : ℕ) → first ≤ slot → slot ≤ last → P slot)
each_slot P first last d = same (λ f slot l m. f slot (omega arith) l) (λ f slot m l. f slot l (omega arith)) (all_below (λ slot. first ≤ slot → P slot) (suc last) (λ slot. implied (at_most first slot) (d slot)))

-- whether a hop may take a slot
usable : (slots : Slots) (u : UnitPart) (hop : Hop) (slot : ℕ) → IsDecided (IsUsable slots u hop slot)
usable slots u hop slot = same from to (either (test_is (slots.is_free hop.unit slot)) (both (some_record (slots.held hop.unit slot) (slot_record u both_rights hop slot)) (test_is (not (slots.has_owner hop.unit slot)))))
  where
    from : IsTrue (slots.is_free hop.unit slot) ⊎ (IsHolding slots u hop slot × IsTrue (not (slots.has_owner hop.unit slot))) → IsUsable slots u hop slot
    from (inl e) = is_free e
    from (inr p) = is_shared p.0 p.1

    to : IsUsable slots u hop slot → IsTrue (slots.is_free hop.unit slot) ⊎ (IsHolding slots u hop slot × IsTrue (not (slots.has_owner hop.unit slot)))
    to (is_free e) = inl e
    to (is_shared h n) = inr (h, n)

-- whether a hop fits a unit
fits : (u : UnitPart) (size : ℕ) (hop : Hop) → IsDecided (FitsUnit u size hop)
fits u size hop = by (slice_get u.ports hop.port) refl
  where
    three : IsDecided ((hop.x % 2 ^ u.page ≡ hop.y % 2 ^ u.page) × ((hop.x + size ≤ u.slots * 2 ^ u.page) × (hop.y + size ≤ 2 ^ u.reach)))
    three = both (number_is (hop.x % 2 ^ u.page) (hop.y % 2 ^ u.page)) (both (at_most (hop.x + size) (u.slots * 2 ^ u.page)) (at_most (hop.y + size) (2 ^ u.reach)))

    by : (o : Option ℕ) → slice_get u.ports hop.port ≡ o → IsDecided (FitsUnit u size hop)
    by None e = inr (λ f. let g : None ≡ Some f.node = sym e ∙ f.is_port in cc)
    by (Some node) e = same (λ p. record { node = node; is_port = e; agree = p.0; within = p.1.0; reached = p.1.1 }) (λ f. (f.agree, (f.within, f.reached))) three

-- what a hop is through a unit that is known
record IsJoined (net : List NodeDecl) (slots : Slots) (rq : Request) (hop : Hop) (nearer : List Hop) (u : UnitPart) : Type 0 where
  fit : FitsUnit u rq.size hop
  usable : (slot : ℕ) → first_slot u hop ≤ slot → slot ≤ last_slot u rq.size hop → IsUsable slots u hop slot
  meets : Meets net rq fit.node hop.y nearer

-- whether a hop joins those nearer to memory
joins : (net : List NodeDecl) (slots : Slots) (rq : Request) (hop : Hop) (nearer : List Hop) → IsDecided (Joins net slots rq hop nearer)
joins net slots rq hop nearer = by (unit_at net hop.unit) refl
  where
    joined : (u : UnitPart) → unit_at net hop.unit ≡ Some u → Joins net slots rq hop nearer → IsJoined net slots rq hop nearer u
    joined u e j = subst (λ (v : UnitPart). IsJoined net slots rq hop nearer v) (same_Some j.unit u (sym j.is_unit ∙ e)) (record { fit = j.fits; usable = j.usable; meets = j.meets })

    fitted : (u : UnitPart) → unit_at net hop.unit ≡ Some u → FitsUnit u rq.size hop → IsDecided (Joins net slots rq hop nearer)
    fitted u e f = same (λ p. record { unit = u; is_unit = e; fits = f; usable = p.0; meets = p.1 })
        (λ j. let k = joined u e j in (k.usable, subst (λ (node : ℕ). Meets net rq node hop.y nearer) (same_Some k.fit.node f.node (sym k.fit.is_port ∙ f.is_port)) k.meets))
        (both (each_slot (IsUsable slots u hop) (first_slot u hop) (last_slot u rq.size hop) (usable slots u hop)) (meets net rq f.node hop.y nearer))

    known : (u : UnitPart) → unit_at net hop.unit ≡ Some u → IsDecided (FitsUnit u rq.size hop) → IsDecided (Joins net slots rq hop nearer)
    known u e (inl f) = fitted u e f
    known u e (inr n) = inr (λ j. n (joined u e j).fit)

    by : (o : Option UnitPart) → unit_at net hop.unit ≡ o → IsDecided (Joins net slots rq hop nearer)
    by None e = inr (λ j. let g : None ≡ Some j.unit = sym e ∙ j.is_unit in cc)
    by (Some u) e = known u e (fits u rq.size hop)

leads : (net : List NodeDecl) (slots : Slots) (rq : Request) (hops : List Hop) → IsDecided (Leads net slots rq hops)
leads net slots rq [] = inl tt
leads net slots rq (hop ∷ hops) = both (joins net slots rq hop hops) (leads net slots rq hops)

-- whether a hop is free
free_hop : (net : List NodeDecl) (slots : Slots) (rq : Request) (hop : Hop) → IsDecided (IsFreeHop net slots rq hop)
free_hop net slots rq hop = by (unit_at net hop.unit) refl
  where
    by : (o : Option UnitPart) → unit_at net hop.unit ≡ o → IsDecided (IsFreeHop net slots rq hop)
    by None e = inl (λ v f. let g : None ≡ Some v = sym e ∙ f in cc)
    by (Some u) e = same
        (λ all v f. subst (λ (w : UnitPart). (slot : ℕ) → first_slot w hop ≤ slot → slot ≤ last_slot w rq.size hop → IsTrue (slots.is_free hop.unit slot)) (same_Some u v (sym e ∙ f)) all)
        (λ all. all u e)
        (each_slot (λ slot. IsTrue (slots.is_free hop.unit slot)) (first_slot u hop) (last_slot u rq.size hop) (λ slot. test_is (slots.is_free hop.unit slot)))

-- whether the own hop is there, and free
record IsOwn (net : List NodeDecl) (slots : Slots) (rq : Request) (p : Place) : Type 0 where
  own : Hop
  is_own : slice_get p.hops p.own ≡ Some own
  free : IsFreeHop net slots rq own

own_hop : (net : List NodeDecl) (slots : Slots) (rq : Request) (p : Place) → IsDecided (IsOwn net slots rq p)
own_hop net slots rq p = by (slice_get p.hops p.own) refl
  where
    by : (o : Option Hop) → slice_get p.hops p.own ≡ o → IsDecided (IsOwn net slots rq p)
    by None e = inr (λ w. let g : None ≡ Some w.own = sym e ∙ w.is_own in cc)
    by (Some hop) e = same (λ f. record { own = hop; is_own = e; free = f }) (λ w. subst (λ (h : Hop). IsFreeHop net slots rq h) (same_Some w.own hop (sym w.is_own ∙ e)) w.free) (free_hop net slots rq hop)

-- whether it is a placement of a request
pub is_placement : (net : List NodeDecl) (slots : Slots) (rq : Request) (p : Place) → IsDecided (IsPlacement net slots rq p)
is_placement net slots rq p = same
    (λ z. record { some = z.0.0; fits = z.0.1; least = z.1.0.0; most = z.1.0.1; meets = z.1.1.0; leads = z.1.1.1.0; own = z.1.1.1.1.own; is_own = z.1.1.1.1.is_own; free = z.1.1.1.1.free })
    (λ is. ((is.some, is.fits), ((is.least, is.most), (is.meets, (is.leads, record { own = is.own; is_own = is.is_own; free = is.free })))))
    (both (both (at_most 1 rq.size) (at_most (p.v + rq.size) (top + 1))) (both (both (at_most 1 (length p.hops)) (at_most (length p.hops) 3)) (both (meets net rq rq.agent p.v p.hops) (both (leads net slots rq p.hops) (own_hop net slots rq p)))))

-- names by a property, as a list
pub record IsListed (A : Name → Type 0) : Type 0 where
  pub list : List Name
  pub is : (y : Name) → Member y list ↔ A y

pub none_listed : IsListed (λ y. ⊥)
none_listed = record { list = []; is = λ y. ((λ m. m), (λ m. m)) }

pub either_listed : (A B : Name → Type 0) → IsListed A → IsListed B → IsListed (λ y. A y ⊎ B y)
either_listed A B a b = record { list = a.list ++ b.list; is = λ y. ((λ m. from y (member_cases a.list b.list y m)), to y) }
  where
    from : (y : Name) → Member y a.list ⊎ Member y b.list → A y ⊎ B y
    from y (inl m) = inl ((a.is y).0 m)
    from y (inr m) = inr ((b.is y).0 m)

    to : (y : Name) → A y ⊎ B y → Member y (a.list ++ b.list)
    to y (inl m) = member_left a.list b.list y ((a.is y).1 m)
    to y (inr m) = member_right a.list b.list y ((b.is y).1 m)

-- what a request adds at a name
pub adds_listed : (rq : Request) (v : ℕ) (x : Name) → IsListed (Adds rq v x)
adds_listed rq v x = by (number_is x.node rq.agent) (at_most v x.addr) (at_most (suc x.addr) (v + rq.size))
  where
    none_at : ((y : Name) → Adds rq v x y → ⊥) → IsListed (Adds rq v x)
    none_at none = record { list = []; is = λ y. ((λ n. absurd n), (λ a. none y a)) }

    addr : (y : Name) (a : Adds rq v x y) → x.addr ≡ v + a.i
    addr y a = ap (λ (z : Name). z.addr) a.from

    by : IsDecided (x.node ≡ rq.agent) → IsDecided (v ≤ x.addr) → IsDecided (suc x.addr ≤ v + rq.size) → IsListed (Adds rq v x)
    by (inr n) l m = none_at (λ y a. n (ap (λ (z : Name). z.node) a.from))
    by (inl e) (inr n) m = none_at (λ y a. n (let g = addr y a in omega arith))
    by (inl e) (inl l) (inr n) = none_at (λ y a. n (let g = addr y a in let b = a.below in omega arith))
    by (inl e) (inl l) (inl m) =
        let i : ℕ = x.addr - v in
        let there : x.addr ≡ v + i = omega arith in
        let is_from : x ≡ name_on rq.agent v i = name_is x.node rq.agent x.addr (v + i) e there in
        record {
          list = name_on rq.node rq.base i ∷ [];
          is = λ y. (
            (λ n. elim n [ inl f ↦ record { i = i; below = omega arith; from = is_from; to = sym f } | inr f ↦ absurd f ]),
            (λ a. inl (let g = addr y a in ap (name_on rq.node rq.base) (omega arith) ∙ sym a.to)),
          );
        }

-- more records give exactly something more at a name
at_name : (net : List NodeDecl) (k k' : Held) (t : Bool) (A : Name → Type 0) (x : Name) → IsListed A → IsDecided ((y : Name) → ResolvesUnder net k' x y ↔ (ResolvesUnder net k x y ⊎ (IsTrue t × A y)))
at_name net k k' t A x l = same from to (both given (both kept (implied (test_is t) added)))
  where
    is : (y : Name) → Member y (resolved_names_under net k x) ↔ ResolvesUnder net k x y
    is y = end_names_are_ends (steps_under net k) (is_accepted net) step_limit_under x y

    is' : (y : Name) → Member y (resolved_names_under net k' x) ↔ ResolvesUnder net k' x y
    is' y = end_names_are_ends (steps_under net k') (is_accepted net) step_limit_under x y

    given : IsDecided ((y : Name) → Member y (resolved_names_under net k' x) → ResolvesUnder net k x y ⊎ (IsTrue t × A y))
    given = all_in (λ y. ResolvesUnder net k x y ⊎ (IsTrue t × A y)) (resolved_names_under net k' x) (λ y. either (names y (resolved_names_under net k x) (is y)) (both (test_is t) (names y l.list (l.is y))))

    kept : IsDecided ((y : Name) → Member y (resolved_names_under net k x) → ResolvesUnder net k' x y)
    kept = all_in (λ y. ResolvesUnder net k' x y) (resolved_names_under net k x) (λ y. names y (resolved_names_under net k' x) (is' y))

    added : IsDecided ((y : Name) → Member y l.list → ResolvesUnder net k' x y)
    added = all_in (λ y. ResolvesUnder net k' x y) l.list (λ y. names y (resolved_names_under net k' x) (is' y))

    from : ((y : Name) → Member y (resolved_names_under net k' x) → ResolvesUnder net k x y ⊎ (IsTrue t × A y)) × (((y : Name) → Member y (resolved_names_under net k x) → ResolvesUnder net k' x y) × (IsTrue t → (y : Name) → Member y l.list → ResolvesUnder net k' x y)) → (y : Name) → ResolvesUnder net k' x y ↔ (ResolvesUnder net k x y ⊎ (IsTrue t × A y))
    from z y = ((λ r. z.0 y ((is' y).1 r)), back)
      where
        back : ResolvesUnder net k x y ⊎ (IsTrue t × A y) → ResolvesUnder net k' x y
        back (inl r) = z.1.0 y ((is y).1 r)
        back (inr a) = z.1.1 a.0 y ((l.is y).1 a.1)

    to : ((y : Name) → ResolvesUnder net k' x y ↔ (ResolvesUnder net k x y ⊎ (IsTrue t × A y))) → ((y : Name) → Member y (resolved_names_under net k' x) → ResolvesUnder net k x y ⊎ (IsTrue t × A y)) × (((y : Name) → Member y (resolved_names_under net k x) → ResolvesUnder net k' x y) × (IsTrue t → (y : Name) → Member y l.list → ResolvesUnder net k' x y))
    to f = ((λ y m. (f y).0 ((is' y).0 m)), ((λ y m. (f y).1 (inl ((is y).0 m))), (λ e y m. (f y).1 (inr (e, (l.is y).0 m)))))

-- no name past the last address resolves
past : (net : List NodeDecl) (k : Held) (x y : Name) → top < x.addr → ResolvesUnder net k x y → ⊥
past net k x y l r = subst (λ (ns : List Name). Member y ns) (sym (past_under net k x l)) ((end_names_are_ends (steps_under net k) (is_accepted net) step_limit_under x y).1 r)

agent_there : (net : List NodeDecl) (node : ℕ) → IsTrue (is_agent_at (slice_get net node)) → node < length net
agent_there net node agent = by (slice_get net node) refl agent
  where
    by : (n : Option NodeDecl) → slice_get net node ≡ n → IsTrue (is_agent_at n) → node < length net
    by None e t = cc
    by (Some n) e t = slice_get_within net node n e

-- more records give every agent exactly something more, for the accesses that a test allows
abbrev GivesMore : List NodeDecl → Held → Held → (Access → Bool) → (Name → Name → Type 0) → Type 0
GivesMore net h h' allowed A = (access : Access) (x y : Name) → IsTrue (is_agent_at (slice_get net x.node)) →
    ResolvesUnder net (allowing access h') x y
    ↔ (ResolvesUnder net (allowing access h) x y ⊎ (IsTrue (allowed access) × A x y))

pub gives_more : (net : List NodeDecl) (h h' : Held) (allowed : Access → Bool) (A : Name → Name → Type 0) → ((x : Name) → IsListed (A x)) → ((x y : Name) → A x y → x.addr ≤ top) → IsDecided (GivesMore net h h' allowed A)
gives_more net h h' allowed A listed within = same (λ p access x y agent. whole p access x y agent (at_most x.addr top)) (λ f. ((λ node l agent addr m y. f Read (record { node = node; addr = addr }) y agent), (λ node l agent addr m y. f Write (record { node = node; addr = addr }) y agent))) (both (each Read) (each Write))
  where
    At : Access → ℕ → ℕ → Type 0
    At access node addr = (y : Name) → ResolvesUnder net (allowing access h') (record { node = node; addr = addr }) y ↔ (ResolvesUnder net (allowing access h) (record { node = node; addr = addr }) y ⊎ (IsTrue (allowed access) × A (record { node = node; addr = addr }) y))

    Each : Access → Type 0
    Each access = (node : ℕ) → node < length net → IsTrue (is_agent_at (slice_get net node)) → (addr : ℕ) → addr < top + 1 → At access node addr

    each : (access : Access) → IsDecided (Each access)
    each access = all_below (λ node. IsTrue (is_agent_at (slice_get net node)) → (addr : ℕ) → addr < top + 1 → At access node addr) (length net) (λ node. implied (test_is (is_agent_at (slice_get net node))) (all_below (At access node) (top + 1) (λ addr. at_name net (allowing access h) (allowing access h') (allowed access) (A (record { node = node; addr = addr })) (record { node = node; addr = addr }) (listed (record { node = node; addr = addr })))))

    chosen : Each Read × Each Write → (access : Access) → Each access
    chosen p Read = p.0
    chosen p Write = p.1

    whole : Each Read × Each Write → (access : Access) (x y : Name) → IsTrue (is_agent_at (slice_get net x.node)) → IsDecided (x.addr ≤ top) → ResolvesUnder net (allowing access h') x y ↔ (ResolvesUnder net (allowing access h) x y ⊎ (IsTrue (allowed access) × A x y))
    whole p access x y agent (inl l) = chosen p access x.node (agent_there net x.node agent) agent x.addr (omega arith) y
    whole p access x y agent (inr n) = ((λ r. absurd (past net (allowing access h') x y (omega arith) r)), none)
      where
        none : ResolvesUnder net (allowing access h) x y ⊎ (IsTrue (allowed access) × A x y) → ResolvesUnder net (allowing access h') x y
        none (inl r) = absurd (past net (allowing access h) x y (omega arith) r)
        none (inr a) = absurd (n (within x y a.1))

-- what a request adds is within the addresses, where it fits there
pub adds_within : (rq : Request) (v : ℕ) → v + rq.size ≤ top + 1 → (x y : Name) → Adds rq v x y → x.addr ≤ top
adds_within rq v fits x y a = let e : x.addr ≡ v + a.i = ap (λ (z : Name). z.addr) a.from in let b = a.below in omega arith

is_at : (at : Option ℕ) (v : ℕ) → IsDecided (IsAt at v)
is_at None v = inl tt
is_at (Some a) v = number_is v a

-- whether a placement is looked for
pub suited : (net : List NodeDecl) (slots : Slots) (rq : Request) (at : Option ℕ) (p : Place) → IsDecided (IsSuited net slots rq at p)
suited net slots rq at p = by (is_placement net slots rq p)
  where
    by : IsDecided (IsPlacement net slots rq p) → IsDecided (IsSuited net slots rq at p)
    by (inl is) = same (λ z. record { is_placement = is; is_at = z.0; admissible = z.1 }) (λ s. (s.is_at, s.admissible)) (both (is_at at p.v) (gives_more net slots.held (joined_records slots.held (placed_records net rq p)) (allows rq.rights) (Adds rq p.v) (adds_listed rq p.v) (adds_within rq p.v is.fits)))
    by (inr n) = inr (λ s. n s.is_placement)
