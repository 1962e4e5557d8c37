-- What names reach, as live walks: where a name comes to, a walk leads, and each name of a walk has as many steps as its first.
use Rattle.std.proofs.Common.{◌≡◌, ℕ, zero, suc, ◌+◌, ◌-◌, ◌<◌, ◌≤◌, ◌⊎◌, inl, inr, false, if◌then◌else◌, List, [], ◌∷◌, length, slice_get, Option, Some, None, IsTrue, refl, sym, ap, ◌∙◌, subst, arith}
use Rattle.std.proofs.lemmas.Bool.{le-leb, or_parts}
use Rattle.dn_base.proofs.Lists.{length-map}
use Rattle.dn_net.specs.declared.node.Block.{Block}
use Rattle.dn_net.specs.declared.node.Entry.{Entry}
use Rattle.dn_net.specs.declared.node.Name.{Name}
use Rattle.dn_net.specs.declared.node.NodeDecl.{NodeDecl}
use Rattle.dn_net.specs.Chain.{Member, IsChain, Reaches}
use Rattle.dn_net.specs.Decode.{top, within, in_some_block, dest_name, by_over, by_entries, decode, sent_names, steps, step_limit, Step}
use Rattle.dn_net.specs.Rules.{KeepsRules, KeepsNodeRules}
use Rattle.dn_net.specs.UnitRules.{IsShallow}
use Rattle.dn_net.specs.Walks.{Choice, mapped_by, over_gap, in_some_entry, IsGap, ChoiceLeads, Follows, moved_name, Walk, level, live_walks}
use Rattle.dn_net.proofs.Apart.{IsApart, node_apart}
use Rattle.dn_net.proofs.Chains.{chain_front}
use Rattle.dn_net.proofs.Choices.{free_parts}
use Rattle.dn_net.proofs.Cycles.{stepping_in_range, row_of_chain, chain_of_row}
use Rattle.dn_net.proofs.Kept.{kept_at, few_maps}
use Rattle.dn_net.proofs.Latest.{found_by, not_found}
use Rattle.dn_net.proofs.Least.{within_to}
use Rattle.dn_net.proofs.Legs.{leads_once}
use Rattle.dn_net.proofs.Levels.{IsRow, level_is_row}
use Rattle.dn_walk.proofs.Listed.{level_of_listed, listed_of_level}

-- a live walk that leads a name to another
pub record Arrives (net : List NodeDecl) (x s : Name) (w : Walk) : Type 0 where
  pub listed : Member w (live_walks net step_limit)
  pub start : w.start ≡ x.node
  pub inside : IsTrue (within x.addr w.span)
  pub to : moved_name (x.addr - w.span.lo) w.to ≡ s

-- what a name reaches is itself, or where a live walk leads it
pub arrival : (net : List NodeDecl) → KeepsNodeRules net → IsShallow net → (x s : Name) → Reaches (Step net) x s → (x ≡ s) ⊎ ((w : Walk) × Arrives net x s w)
arrival net checked shallow x s r = by r.0 r.1
  where
    order : (k n : ℕ) → (k ≤ n) ⊎ (n ≤ k)
    order k n = grind arith

    short : (k : ℕ) → IsChain (Step net) k x s → (k ≤ step_limit) ⊎ (step_limit ≤ k) → k ≤ step_limit
    short k c (inl l) = l
    short k c (inr l) = let f = chain_front (Step net) step_limit k x s l c in absurd (shallow x f.0 f.1)

    by : (k : ℕ) → IsChain (Step net) k x s → (x ≡ s) ⊎ ((w : Walk) × Arrives net x s w)
    by zero c = inl c
    by (suc k) c =
        let i = stepping_in_range net checked (suc k) x s (omega arith) c in
        let w = row_of_chain net checked (suc k) x s i.0 i.1 c in
        inr (w.0, record { listed = listed_of_level net step_limit (suc k) w.0 (omega arith) (short (suc k) c (order (suc k) step_limit)) w.1.row; start = w.1.start; inside = w.1.inside; to = w.1.to })

-- and where a live walk leads a name is reached
pub departure : (net : List NodeDecl) → KeepsNodeRules net → (w : Walk) → Member w (live_walks net step_limit) → (a : ℕ) → IsTrue (within a w.span) → Reaches (Step net) (record { node = w.start; addr = a }) (moved_name (a - w.span.lo) w.to) × (w.to.addr + (a - w.span.lo) ≤ top)
departure net checked w m a i =
    let l = level_of_listed net step_limit w m in
    let row = level_is_row net checked l.0 w l.3 in
    let c = chain_of_row net checked l.0 (record { node = w.start; addr = a }) (moved_name (a - w.span.lo) w.to) w (record { row = l.3; start = refl; inside = i; to = refl }) in
    let out : w.to.addr + (w.span.hi - w.span.lo) ≤ top = row.out in
    let p : a ≤ w.span.hi = (within_to a w.span i).1 in
    ((l.0, c.2), (omega arith))

-- a live walk has a first address
pub first_inside : (net : List NodeDecl) → KeepsNodeRules net → (w : Walk) → Member w (live_walks net step_limit) → w.span.lo ≤ w.span.hi
first_inside net checked w m = let l = level_of_listed net step_limit w m in (level_is_row net checked l.0 w l.3).order

-- its ends are nodes of the net
pub nodes_there : (net : List NodeDecl) → KeepsNodeRules net → (w : Walk) → Member w (live_walks net step_limit) → (w.start < length net) × (w.to.node < length net)
nodes_there net checked w m =
    let l = level_of_listed net step_limit w m in
    let row = level_is_row net checked l.0 w l.3 in
    (row.start, row.node)

-- no entry has the address
no_entry_has : (a : ℕ) (es : List Entry) → in_some_entry a es ≡ false → (i : ℕ) (e : Entry) → slice_get es i ≡ Some e → within a e.block ≡ false
no_entry_has a [] h i e at = cc
no_entry_has a (f ∷ es) h zero e at =
    let s : f ≡ e = cc in
    ap (λ (g : Entry). within a g.block) (sym s) ∙ (or_parts (within a f.block) (in_some_entry a es) h).0
no_entry_has a (f ∷ es) h (suc i) e at = no_entry_has a es (or_parts (within a f.block) (in_some_entry a es) h).1 i e at

-- the addresses that a choice leads on have equally many steps
fan : (n : NodeDecl) → IsApart n → KeepsRules n → (c : Choice) (b : Block) (d : Name) → ChoiceLeads (Some n) c b d → (count : ℕ) × ((a : ℕ) → IsTrue (within a b) → length (sent_names (decode a (Some n))) ≡ count)
fan n apart kept (mapped_by i j) b d f = (length f.0.dests, each)
  where
    each : (a : ℕ) → IsTrue (within a b) → length (sent_names (decode a (Some n))) ≡ length f.0.dests
    each a w =
        let v : IsTrue (within a f.0.block) = subst (λ k. IsTrue (within a k)) f.4 w in
        let r = apart.block i f.0 f.2 in
        let p = within_to a f.0.block v in
        let q : f.0.block.hi ≤ top = r.1 in
        let t : a ≤ f.0.block.hi = p.1 in
        ap (λ v. length (sent_names (if v then (if in_some_block a n.accepts then None else by_entries a n.over n.entries) else None))) (le-leb a top (omega arith))
        ∙ ap (λ v. length (sent_names (if v then None else by_entries a n.over n.entries))) (apart.accept_apart i a f.0 f.2 v)
        ∙ ap (λ o. length (sent_names o)) (found_by a n.entries i f.0 (few_maps n kept a) f.2 v n.over)
        ∙ length-map f.0.dests (dest_name (a - f.0.block.lo))
fan n apart kept (over_gap lo hi) b d f = (1, each)
  where
    each : (a : ℕ) → IsTrue (within a b) → length (sent_names (decode a (Some n))) ≡ 1
    each a w =
        let g : IsGap n lo hi = f.2 in
        let p = within_to a (record { lo = lo; hi = hi }) (subst (λ k. IsTrue (within a k)) f.3 w) in
        let q : hi ≤ top = g.low in
        let l : lo ≤ a = p.0 in
        let t : a ≤ hi = p.1 in
        let free = free_parts n a (g.free a l t) in
        ap (λ v. length (sent_names (if v then (if in_some_block a n.accepts then None else by_entries a n.over n.entries) else None))) (le-leb a top (omega arith))
        ∙ ap (λ v. length (sent_names (if v then None else by_entries a n.over n.entries))) free.0
        ∙ ap (λ o. length (sent_names o)) (not_found a n.entries (no_entry_has a n.entries free.1) n.over)
        ∙ ap (λ o. length (sent_names (by_over a o))) f.1

fan_at : (net : List NodeDecl) → KeepsNodeRules net → (i : ℕ) (c : Choice) (b : Block) (d : Name) → ChoiceLeads (slice_get net i) c b d → (count : ℕ) × ((a : ℕ) → IsTrue (within a b) → length (steps net (record { node = i; addr = a })) ≡ count)
fan_at net checked i c b d f = by (slice_get net i) refl f
  where
    by : (o : Option NodeDecl) → slice_get net i ≡ o → ChoiceLeads o c b d → (count : ℕ) × ((a : ℕ) → IsTrue (within a b) → length (sent_names (decode a o)) ≡ count)
    by None e g = absurd g
    by (Some n) e g = fan n (node_apart net checked.each i n e) (kept_at net i checked.each n e) c b d g

-- the addresses of a live walk have equally many steps
pub as_many : (net : List NodeDecl) → KeepsNodeRules net → (w : Walk) → Member w (live_walks net step_limit) → (a b : ℕ) → IsTrue (within a w.span) → IsTrue (within b w.span) → length (steps net (record { node = w.start; addr = a })) ≡ length (steps net (record { node = w.start; addr = b }))
as_many net checked w m a b i j = by w.choices row.long (follow a i) (follow b j)
  where
    l : (k : ℕ) × (1 ≤ k) × (k ≤ step_limit) × Member w (level net k)
    l = level_of_listed net step_limit w m

    row : IsRow net l.0 w
    row = level_is_row net checked l.0 w l.3

    follow : (a : ℕ) → IsTrue (within a w.span) → Follows net (record { node = w.start; addr = a }) w.choices (moved_name (a - w.span.lo) w.to)
    follow a i =
        let p : a ≤ w.span.hi = (within_to a w.span i).1 in
        let q : w.span.hi ≤ top = row.low in
        (row.follows a (moved_name (a - w.span.lo) w.to) (omega arith)).1 (i, refl)

    by : (cs : List Choice) → length cs ≡ l.0 → Follows net (record { node = w.start; addr = a }) cs (moved_name (a - w.span.lo) w.to) → Follows net (record { node = w.start; addr = b }) cs (moved_name (b - w.span.lo) w.to) → length (steps net (record { node = w.start; addr = a })) ≡ length (steps net (record { node = w.start; addr = b }))
    by [] e f g = let o : 1 ≤ l.0 = l.1 in absurd (omega arith)
    by (c ∷ cs) e f g =
        let same = leads_once (slice_get net w.start) c f.0 g.0 f.1 g.1 f.2 g.2 in
        let n = fan_at net checked w.start c f.0 f.1 f.2 in
        n.1 a f.3 ∙ sym (n.1 b (subst (λ k. IsTrue (within b k)) (sym same.0) g.3))
