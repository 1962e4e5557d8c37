-- The nodes of the names to which steps lead are there.
use Rattle.std.proofs.Common.{◌≡◌, refl, arith, ℕ, zero, suc, ◌+◌, ◌-◌, ◌*◌, ◌/◌, ◌%◌, ◌^◌, ◌<◌, if◌then◌else◌, Bool, true, false, ◌&&◌, nat_le, nat_lt, List, [], ◌∷◌, ◌++◌, map, length, slice_get, Option, Some, None, IsTrue, lt-ltb}
use Rattle.std.specs.List.{list_all}
use Rattle.dn_base.proofs.Booleans.{and_from, and_parts}
use Rattle.dn_base.proofs.Lists.{list_all-at}
use Rattle.dn_net.specs.declared.node.Name.{Name}
use Rattle.dn_net.specs.declared.node.Dest.{Dest}
use Rattle.dn_net.specs.declared.node.Entry.{Entry}
use Rattle.dn_net.specs.declared.node.NodeDecl.{NodeDecl}
use Rattle.dn_net.specs.Decode.{within, dest_name, by_over, by_entries, decode, sent_names, in_some_block, steps, is_accepted, is_accepted_at, refers_within, over_within, ports_within, is_closed, top, unit_at}
use Rattle.dn_net.specs.Names.{name_lt, name_eq, with_name, sorted_names, each_step, passing_names, reached_names}
use Rattle.dn_net.proofs.Latest.{sent_by}
use Rattle.dn_net.specs.declared.node.Unit.{Unit as UnitPart}
use Rattle.dn_net.proofs.Steps.{ports_at}
use Rattle.dn_kind.specs.declared.unit_kind.Record.{Record}
use Rattle.dn_kind.specs.Tables.{Held, name_at_port, output, steps_by_unit, steps_under, step_limit_under, resolved_names_under}
use Rattle.dn_kind.specs.Levels.{are_there}

there_append : (count : ℕ) (xs ys : List Name) → IsTrue (are_there count xs) → IsTrue (are_there count ys) → IsTrue (are_there count (xs ++ ys))
there_append count [] ys h k = k
there_append count (x ∷ xs) ys h k =
    let b = and_parts (nat_lt x.node count) (are_there count xs) h in
    and_from _ _ b.0 (there_append count xs ys b.1 k)

moved_there : (count offset : ℕ) (ds : List Dest) → IsTrue (list_all (λ d. nat_lt d.node count) ds) → IsTrue (are_there count (map (dest_name offset) ds))
moved_there count offset [] h = refl
moved_there count offset (d ∷ ds) h =
    let b = and_parts (nat_lt d.node count) (list_all (λ (d : Dest). nat_lt d.node count) ds) h in
    and_from _ _ b.0 (moved_there count offset ds b.1)

over_there : (count a : ℕ) (over : Option ℕ) → IsTrue (over_within count over) → IsTrue (are_there count (sent_names (by_over a over)))
over_there count a None h = refl
over_there count a (Some m) h = and_from _ _ h refl

entries_there : (count a : ℕ) (over : Option ℕ) (es : List Entry) → IsTrue (list_all (λ e. list_all (λ d. nat_lt d.node count) e.dests) es) → IsTrue (over_within count over) → IsTrue (are_there count (sent_names (by_entries a over es)))
entries_there count a over [] h k = over_there count a over k
entries_there count a over (e ∷ es) h k = go (entries_there count a over es b.1 k) (within a e.block)
  where
    b : IsTrue (list_all (λ d. nat_lt d.node count) e.dests) × IsTrue (list_all (λ e. list_all (λ d. nat_lt d.node count) e.dests) es)
    b = and_parts (list_all (λ (d : Dest). nat_lt d.node count) e.dests) (list_all (λ (e : Entry). list_all (λ d. nat_lt d.node count) e.dests) es) h

    go : IsTrue (are_there count (sent_names (by_entries a over es))) → (w : Bool) → IsTrue (are_there count (sent_names (if w then sent_by a e else by_entries a over es)))
    go later true = moved_there count (a - e.block.lo) e.dests b.0
    go later false = later

sent_there : (count a : ℕ) (o : Option NodeDecl) → ((n : NodeDecl) → o ≡ Some n → IsTrue (refers_within count n)) → IsTrue (are_there count (sent_names (decode a o)))
sent_there count a None closed = refl
sent_there count a (Some n) closed = go (nat_le a top) (in_some_block a n.accepts)
  where
    first : IsTrue (list_all (λ e. list_all (λ d. nat_lt d.node count) e.dests) n.entries) × IsTrue (over_within count n.over && ports_within count n.unit)
    first = and_parts (list_all (λ (e : Entry). list_all (λ d. nat_lt d.node count) e.dests) n.entries) (over_within count n.over && ports_within count n.unit) (closed n refl)

    go : (p q : Bool) → IsTrue (are_there count (sent_names (if p then (if q then None else by_entries a n.over n.entries) else None)))
    go false q = refl
    go true true = refl
    go true false = entries_there count a n.over n.entries first.0 (and_parts (over_within count n.over) (ports_within count n.unit) first.1).0

-- a step leads to nodes that are there
pub steps_there : (net : List NodeDecl) (x : Name) → IsTrue (is_closed net) → IsTrue (are_there (length net) (steps net x))
steps_there net x closed = sent_there (length net) x.addr (slice_get net x.node) (λ n e. list_all-at (refers_within (length net)) net x.node n closed e)

pub each_there : (net : List NodeDecl) (xs : List Name) → IsTrue (is_closed net) → IsTrue (are_there (length net) (each_step (steps net) xs))
each_there net [] closed = refl
each_there net (x ∷ xs) closed = there_append (length net) (steps net x) (each_step (steps net) xs) (steps_there net x closed) (each_there net xs closed)

with_there : (count : ℕ) (x : Name) (ys : List Name) → IsTrue (nat_lt x.node count) → IsTrue (are_there count ys) → IsTrue (are_there count (with_name x ys))
with_there count x [] h k = and_from _ _ h refl
with_there count x (y ∷ ys) h k = go (with_there count x ys h b.1) (name_lt x y) (name_eq x y)
  where
    b : IsTrue (nat_lt y.node count) × IsTrue (are_there count ys)
    b = and_parts (nat_lt y.node count) (are_there count ys) k

    go : IsTrue (are_there count (with_name x ys)) → (p q : Bool) → IsTrue (are_there count (if p then x ∷ (y ∷ ys) else (if q then y ∷ ys else y ∷ with_name x ys)))
    go later true q = and_from _ _ h k
    go later false true = k
    go later false false = and_from _ _ b.0 later

pub sorted_there : (count : ℕ) (xs : List Name) → IsTrue (are_there count xs) → IsTrue (are_there count (sorted_names xs))
sorted_there count [] h = refl
sorted_there count (x ∷ xs) h =
    let b = and_parts (nat_lt x.node count) (are_there count xs) h in
    with_there count x (sorted_names xs) b.0 (sorted_there count xs b.1)

-- an accepted name is in a node that is there
there : (net : List NodeDecl) (i : ℕ) (n : NodeDecl) → slice_get net i ≡ Some n → i < length net
there [] i n e = cc
there (d ∷ ds) zero n e = omega arith
there (d ∷ ds) (suc i) n e = let l = there ds i n e in omega arith

accepted_there : (net : List NodeDecl) (y : Name) → is_accepted net y ≡ true → IsTrue (nat_lt y.node (length net))
accepted_there net y e = go (slice_get net y.node) refl e
  where
    go : (o : Option NodeDecl) → slice_get net y.node ≡ o → is_accepted_at y.addr o ≡ true → IsTrue (nat_lt y.node (length net))
    go None at h = cc
    go (Some n) at h = lt-ltb y.node (length net) (there net y.node n at)

passing_there : (net : List NodeDecl) (xs : List Name) → IsTrue (are_there (length net) (passing_names (is_accepted net) xs))
passing_there net [] = refl
passing_there net (x ∷ xs) = go (passing_there net xs) (is_accepted net x) refl
  where
    go : IsTrue (are_there (length net) (passing_names (is_accepted net) xs)) → (b : Bool) → is_accepted net x ≡ b → IsTrue (are_there (length net) (if b then x ∷ passing_names (is_accepted net) xs else passing_names (is_accepted net) xs))
    go later true e = and_from _ _ (accepted_there net x e) later
    go later false e = later

-- steps under records

port_there : (count : ℕ) (ports : List ℕ) (i a : ℕ) → IsTrue (list_all (λ p. nat_lt p count) ports) → IsTrue (are_there count (name_at_port (slice_get ports i) a))
port_there count ports i a all = go (slice_get ports i) refl
  where
    go : (o : Option ℕ) → slice_get ports i ≡ o → IsTrue (are_there count (name_at_port o a))
    go None e = refl
    go (Some p) e = and_from _ _ (list_all-at (λ p. nat_lt p count) ports i p all e) refl

output_there : (count : ℕ) (u : UnitPart) (o : Option Record) (a : ℕ) → IsTrue (list_all (λ p. nat_lt p count) u.ports) → IsTrue (are_there count (output u o a))
output_there count u None a all = refl
output_there count u (Some r) a all = port_there count u.ports r.port (r.page * 2 ^ u.page + a % 2 ^ u.page) all

pub steps_under_there : (net : List NodeDecl) (h : Held) (x : Name) → IsTrue (is_closed net) → IsTrue (are_there (length net) (steps_under net h x))
steps_under_there net h x closed = go (unit_at net x.node) refl
  where
    in_unit : (u : UnitPart) → unit_at net x.node ≡ Some u → (b : Bool) → IsTrue (are_there (length net) (if b then output u (h x.node (x.addr / 2 ^ u.page)) x.addr else []))
    in_unit u e true = output_there (length net) u (h x.node (x.addr / 2 ^ u.page)) x.addr (ports_at net x.node u closed e)
    in_unit u e false = refl

    go : (o : Option UnitPart) → unit_at net x.node ≡ o → IsTrue (are_there (length net) (steps_by_unit net h x o))
    go None e = steps_there net x closed
    go (Some u) e = in_unit u e (nat_le x.addr top)

pub each_under_there : (net : List NodeDecl) (h : Held) (xs : List Name) → IsTrue (is_closed net) → IsTrue (are_there (length net) (each_step (steps_under net h) xs))
each_under_there net h [] closed = refl
each_under_there net h (x ∷ xs) closed = there_append (length net) (steps_under net h x) (each_step (steps_under net h) xs) (steps_under_there net h x closed) (each_under_there net h xs closed)

-- what a name resolves to is there
pub resolved_under_there : (net : List NodeDecl) (h : Held) (x : Name) → IsTrue (are_there (length net) (resolved_names_under net h x))
resolved_under_there net h x = sorted_there (length net) (passing_names (is_accepted net) (reached_names (steps_under net h) step_limit_under (x ∷ []))) (passing_there net (reached_names (steps_under net h) step_limit_under (x ∷ [])))
