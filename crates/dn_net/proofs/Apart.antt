-- What the node rules say of the blocks of one node.
use Rattle.std.proofs.Common.{◌≡◌, ℕ, zero, suc, ◌+◌, ◌-◌, ◌≤◌, Bool, true, false, if◌then◌else◌, nat_le, nat_lt, List, [], ◌∷◌, Option, Some, refl, sym, ap, ◌∙◌, arith, IsTrue, leb-true, true≢false, slice_get}
use Rattle.std.proofs.lemmas.Bool.{lt-ltb}
use Rattle.std.specs.List.{All, list_all}
use Rattle.dn_base.proofs.Booleans.{or_right, and_from, and_parts}
use Rattle.dn_base.proofs.Lists.{list_all-at}
use Rattle.dn_net.specs.declared.node.Dest.{Dest}
use Rattle.dn_net.specs.declared.node.Entry.{Entry}
use Rattle.dn_net.specs.declared.node.NodeDecl.{NodeDecl}
use Rattle.dn_net.specs.Decode.{top, within, in_some_block}
use Rattle.dn_net.specs.Rules.{block_in_range, dest_in_range, entry_in_range, KeepsRules}
use Rattle.dn_net.proofs.Kept.{kept_at, few_maps}
use Rattle.dn_net.proofs.Least.{maps_at, maps_at-cons}
use Rattle.dn_net.proofs.Members.{some_same}
use Rattle.dn_net.proofs.Latest.{only_one}

-- the blocks of a node are in range, and no address lies in two map blocks, or in a map block and an accept block
pub record IsApart (n : NodeDecl) : Type 0 where
  pub accepts : IsTrue (list_all block_in_range n.accepts)
  pub block : (i : ℕ) (e : Entry) → slice_get n.entries i ≡ Some e → (e.block.lo ≤ e.block.hi) × (e.block.hi ≤ top)
  pub dest : (i j : ℕ) (e : Entry) (d : Dest) → slice_get n.entries i ≡ Some e → slice_get e.dests j ≡ Some d → d.addr + (e.block.hi - e.block.lo) ≤ top
  pub accept_apart : (i a : ℕ) (e : Entry) → slice_get n.entries i ≡ Some e → IsTrue (within a e.block) → in_some_block a n.accepts ≡ false
  pub map_apart : (i j a : ℕ) (e f : Entry) → slice_get n.entries i ≡ Some e → slice_get n.entries j ≡ Some f → IsTrue (within a e.block) → IsTrue (within a f.block) → i ≡ j

-- an entry that has an address is counted
counted : (es : List Entry) (i a : ℕ) (e : Entry) → slice_get es i ≡ Some e → IsTrue (within a e.block) → 1 ≤ maps_at es a
counted [] i a e at w = cc
counted (f ∷ es) zero a e at w =
    let s : within a f.block ≡ true = ap (λ t. within a t.block) (some_same f e at) ∙ w in
    let c : maps_at (f ∷ es) a ≡ 1 + maps_at es a = maps_at-cons f es a ∙ ap (λ b. (if b then 1 else 0) + maps_at es a) s in
    omega arith
counted (f ∷ es) (suc i) a e at w =
    let r : 1 ≤ maps_at es a = counted es i a e at w in
    let c = maps_at-cons f es a in
    more (if within a f.block then 1 else 0) (maps_at es a) (maps_at (f ∷ es) a) c r
  where
    more : (x y z : ℕ) → z ≡ x + y → 1 ≤ y → 1 ≤ z
    more x y z e l = omega arith

-- behind one that is counted there is no other
none_behind : (g e : Entry) (es : List Entry) (j a : ℕ) (f : Entry) → maps_at (g ∷ es) a ≤ 1 → ◌≡◌ {A = Option Entry} (Some g) (Some e) → IsTrue (within a e.block) → slice_get es j ≡ Some f → IsTrue (within a f.block) → ⊥
none_behind g e es j a f few at w bt v =
    let s : within a g.block ≡ true = ap (λ t. within a t.block) (some_same g e at) ∙ w in
    let c : maps_at (g ∷ es) a ≡ 1 + maps_at es a = maps_at-cons g es a ∙ ap (λ b. (if b then 1 else 0) + maps_at es a) s in
    many (maps_at es a) (maps_at (g ∷ es) a) c (counted es j a f bt v) few
  where
    many : (y z : ℕ) → z ≡ 1 + y → 1 ≤ y → z ≤ 1 → ⊥
    many y z e l m = omega arith

apart_of_kept : (n : NodeDecl) → KeepsRules n → IsApart n
apart_of_kept n c = record { accepts = parts.0; block = block; dest = dest; accept_apart = accept_apart; map_apart = map_apart }
  where
    parts : IsTrue (list_all block_in_range n.accepts) × IsTrue (list_all entry_in_range n.entries)
    parts = and_parts (list_all block_in_range n.accepts) (list_all entry_in_range n.entries) c.in_range

    entry : (i : ℕ) (e : Entry) → slice_get n.entries i ≡ Some e → IsTrue (block_in_range e.block) × IsTrue (list_all (dest_in_range e.block) e.dests)
    entry i e at = and_parts (block_in_range e.block) (list_all (dest_in_range e.block) e.dests) (list_all-at entry_in_range n.entries i e parts.1 at)

    block : (i : ℕ) (e : Entry) → slice_get n.entries i ≡ Some e → (e.block.lo ≤ e.block.hi) × (e.block.hi ≤ top)
    block i e at =
        let r = and_parts (nat_le e.block.lo e.block.hi) (nat_le e.block.hi top) (entry i e at).0 in
        (leb-true e.block.lo e.block.hi r.0, leb-true e.block.hi top r.1)

    dest : (i j : ℕ) (e : Entry) (d : Dest) → slice_get n.entries i ≡ Some e → slice_get e.dests j ≡ Some d → d.addr + (e.block.hi - e.block.lo) ≤ top
    dest i j e d at dt = leb-true (d.addr + (e.block.hi - e.block.lo)) top (list_all-at (dest_in_range e.block) e.dests j d (entry i e at).1 dt)

    accept_apart : (i a : ℕ) (e : Entry) → slice_get n.entries i ≡ Some e → IsTrue (within a e.block) → in_some_block a n.accepts ≡ false
    accept_apart i a e at w = by (in_some_block a n.accepts) refl
      where
        by : (b : Bool) → in_some_block a n.accepts ≡ b → b ≡ false
        by false f = refl
        by true f = absurd (true≢false (sym (or_right (nat_lt 1 (maps_at n.entries a)) _ (and_from (nat_lt 0 (maps_at n.entries a)) (in_some_block a n.accepts) (lt-ltb 0 (maps_at n.entries a) (counted n.entries i a e at w)) f)) ∙ c.apart a))

    map_apart : (i j a : ℕ) (e f : Entry) → slice_get n.entries i ≡ Some e → slice_get n.entries j ≡ Some f → IsTrue (within a e.block) → IsTrue (within a f.block) → i ≡ j
    map_apart i j a e f at bt w v = only_one a n.entries i j e f (few_maps n c a) at bt w v

-- each node of a net that keeps the node rules
pub node_apart : (net : List NodeDecl) → All KeepsRules net → (i : ℕ) (n : NodeDecl) → slice_get net i ≡ Some n → IsApart n
node_apart net each i n at = apart_of_kept n (kept_at net i each n at)
