-- What a node that is there says of the step of a name.
use Rattle.std.proofs.Common.{◌≡◌, refl, subst, ℕ, ◌+◌, ◌-◌, ◌≤◌, List, [], ◌∷◌, true, false, Bool, not, ◌&&◌, nat_le, nat_lt, length, arith, slice_get, Option, None, Some, option_map, is_some, IsTrue, leb-true, if◌then◌else◌}
use Rattle.std.proofs.lemmas.Bool.{le-leb}
use Rattle.std.specs.List.{list_all}
use Rattle.dn_base.proofs.Booleans.{and_parts}
use Rattle.dn_base.proofs.Lists.{nil_from_leb, list_all-at, list_all-implied}
use Rattle.dn_net.specs.declared.node.Block.{Block}
use Rattle.dn_net.specs.declared.node.Dest.{Dest}
use Rattle.dn_net.specs.declared.node.Entry.{Entry}
use Rattle.dn_net.specs.declared.node.NodeDecl.{NodeDecl}
use Rattle.dn_net.specs.declared.node.Unit.{Unit as UnitPart}
use Rattle.dn_net.specs.Decode.{top, within, in_some_block, Sent, by_entries, is_formed, formed_by, is_bare, is_unit, unit_at, unit_of, is_accepted_at, refers_within, over_within, ports_within, is_closed, decode}
use Rattle.dn_net.specs.Rules.{is_in_range, block_in_range, entry_in_range, dest_in_range}
use Rattle.dn_net.specs.Parts.{over_dests}

-- the unit of a number, of what its node says
pub unit_is : (net : List NodeDecl) (i : ℕ) (o : Option UnitPart) → option_map (λ d. d.unit) (slice_get net i) ≡ Some o → unit_at net i ≡ o
unit_is net i o e = by (slice_get net i) e
  where
    by : (d : Option NodeDecl) → option_map (λ d. d.unit) d ≡ Some o → unit_of d ≡ o
    by None f = cc
    by (Some d) f = cc

-- the ports of a unit are nodes of the net
pub ports_at : (net : List NodeDecl) (i : ℕ) (u : UnitPart) → IsTrue (is_closed net) → unit_at net i ≡ Some u → IsTrue (list_all (λ p. nat_lt p (length net)) u.ports)
ports_at net i u closed e = go (slice_get net i) refl e
  where
    go : (o : Option NodeDecl) → slice_get net i ≡ o → unit_of o ≡ Some u → IsTrue (list_all (λ p. nat_lt p (length net)) u.ports)
    go None at f = cc
    go (Some n) at f =
        let r : IsTrue (refers_within (length net) n) = list_all-at (refers_within (length net)) net i n closed at in
        let b = and_parts (list_all (λ (e : Entry). list_all (λ d. nat_lt d.node (length net)) e.dests) n.entries) (over_within (length net) n.over && ports_within (length net) n.unit) r in
        let p = and_parts (over_within (length net) n.over) (ports_within (length net) n.unit) b.1 in
        subst (λ o. IsTrue (ports_within (length net) o)) f p.1

within_both : (lo hi a : ℕ) → IsTrue (nat_le lo a && nat_le a hi) → (lo ≤ a) × (a ≤ hi)
within_both lo hi a w = let b = and_parts (nat_le lo a) (nat_le a hi) w in (leb-true lo a b.0, leb-true a hi b.1)

reaches : (start lo hi a limit : ℕ) → (lo ≤ a) × (a ≤ hi) → IsTrue (nat_le (start + (hi - lo)) limit) → IsTrue (nat_le (start + (a - lo)) limit)
reaches start lo hi a limit w h =
    let m : start + (hi - lo) ≤ limit = leb-true _ _ h in
    let n : start + (a - lo) ≤ limit = omega arith in
    le-leb _ _ n

reaches_from_zero : (start a limit : ℕ) → a ≤ limit → IsTrue (nat_le start 0) → IsTrue (nat_le (start + a) limit)
reaches_from_zero start a limit below h =
    let m : start ≤ 0 = leb-true _ _ h in
    let n : start + a ≤ limit = omega arith in
    le-leb _ _ n

-- an address of a block is sent where a destination of the block reaches
pub dests_reach : (b : Block) (a : ℕ) (ds : List Dest) → IsTrue (within a b) → IsTrue (list_all (dest_in_range b) ds) → IsTrue (list_all (λ d. nat_le (d.addr + (a - b.lo)) top) ds)
dests_reach b a ds w all = list_all-implied (dest_in_range b) (λ d. nat_le (d.addr + (a - b.lo)) top) (λ d h. reaches d.addr b.lo b.hi a top (within_both b.lo b.hi a w) h) ds all

pub over_reaches : (a : ℕ) (ds : List Dest) → a ≤ top → IsTrue (list_all (λ d. nat_le d.addr 0) ds) → IsTrue (list_all (λ d. nat_le (d.addr + a) top) ds)
over_reaches a ds below all = list_all-implied (λ d. nat_le d.addr 0) (λ d. nat_le (d.addr + a) top) (λ d h. reaches_from_zero d.addr a top below h) ds all

absent : {X : Type 0} (o : Option X) → IsTrue (not (is_some o)) → o ≡ None
absent None h = refl
absent (Some x) h = cc

bare_parts : (here : Bool) (a : ℕ) (accepts : List Block) (entries : List Entry) (over : Option ℕ) → accepts ≡ [] → entries ≡ [] → over ≡ None → (here && in_some_block a accepts ≡ false) × (◌≡◌ {A = Option Sent} (if here then (if in_some_block a accepts then None else by_entries a over entries) else None) None)
bare_parts true a [] [] None e f g = (refl, refl)
bare_parts false a [] [] None e f g = (refl, refl)
bare_parts here a (x ∷ xs) entries over e f g = cc
bare_parts here a [] (x ∷ xs) over e f g = cc
bare_parts here a [] [] (Some m) e f g = cc

bare_node : (n : NodeDecl) (a : ℕ) → IsTrue (is_bare n) → (is_accepted_at a (Some n) ≡ false) × (decode a (Some n) ≡ None)
bare_node n a bare =
    let first = and_parts (nat_le (length n.accepts) 0) (nat_le (length n.entries) 0 && not (is_some n.over)) bare in
    let second = and_parts (nat_le (length n.entries) 0) (not (is_some n.over)) first.1 in
    bare_parts (nat_le a top) a n.accepts n.entries n.over (nil_from_leb n.accepts first.0) (nil_from_leb n.entries second.0) (absent n.over second.1)

unit_node : (n : NodeDecl) (a : ℕ) (u : Option UnitPart) → n.unit ≡ u → IsTrue (formed_by n u) → is_some u ≡ true → (is_accepted_at a (Some n) ≡ false) × (decode a (Some n) ≡ None)
unit_node n a None is formed some = cc
unit_node n a (Some u) is formed some = bare_node n a (and_parts (is_unit n.role) (is_bare n) formed).1

-- a node that is a unit neither accepts nor leads anywhere
pub unit_is_bare : (o : Option NodeDecl) (a : ℕ) → ((n : NodeDecl) → o ≡ Some n → IsTrue (is_formed n)) → is_some (unit_of o) ≡ true → (is_accepted_at a o ≡ false) × (decode a o ≡ None)
unit_is_bare None a formed some = cc
unit_is_bare (Some n) a formed some = unit_node n a n.unit refl (formed n refl) some

-- what is true of each node of a net, at a node
pub node_at : (p : NodeDecl → Bool) (net : List NodeDecl) (i : ℕ) → IsTrue (list_all p net) → (n : NodeDecl) → slice_get net i ≡ Some n → IsTrue (p n)
node_at p net i all n at = list_all-at p net i n all at

pub entries_in_range : (o : Option NodeDecl) (es : List Entry) → ((n : NodeDecl) → o ≡ Some n → IsTrue (is_in_range n)) → option_map (λ d. d.entries) o ≡ Some es → IsTrue (list_all entry_in_range es)
entries_in_range None es range at = cc
entries_in_range (Some n) es range at =
    let e : n.entries ≡ es = cc in
    subst (λ l. IsTrue (list_all entry_in_range l)) e (and_parts (list_all block_in_range n.accepts) (list_all entry_in_range n.entries) (range n refl)).1

pub entries_closed : (count : ℕ) (o : Option NodeDecl) (es : List Entry) → ((n : NodeDecl) → o ≡ Some n → IsTrue (refers_within count n)) → option_map (λ d. d.entries) o ≡ Some es → IsTrue (list_all (λ e. list_all (λ d. nat_lt d.node count) e.dests) es)
entries_closed count None es closed at = cc
entries_closed count (Some n) es closed at =
    let e : n.entries ≡ es = cc in
    let P : Entry → Bool = λ e. list_all (λ d. nat_lt d.node count) e.dests in
    subst (λ l. IsTrue (list_all P l)) e (and_parts (list_all P n.entries) (over_within count n.over && ports_within count n.unit) (closed n refl)).0

dests_of_over : (count : ℕ) (o : Option ℕ) → IsTrue (over_within count o) → IsTrue (list_all (λ d. nat_lt d.node count) (over_dests o))
dests_of_over count None h = refl
dests_of_over count (Some m) h = rw h refl

pub over_closed : (count : ℕ) (o : Option NodeDecl) (ds : List Dest) → ((n : NodeDecl) → o ≡ Some n → IsTrue (refers_within count n)) → option_map (λ d. over_dests d.over) o ≡ Some ds → IsTrue (list_all (λ d. nat_lt d.node count) ds)
over_closed count None ds closed at = cc
over_closed count (Some n) ds closed at =
    let e : over_dests n.over ≡ ds = cc in
    let P : Entry → Bool = λ e. list_all (λ d. nat_lt d.node count) e.dests in
    let rest = (and_parts (list_all P n.entries) (over_within count n.over && ports_within count n.unit) (closed n refl)).1 in
    subst (λ l. IsTrue (list_all (λ d. nat_lt d.node count) l)) e (dests_of_over count n.over (and_parts (over_within count n.over) (ports_within count n.unit) rest).0)
