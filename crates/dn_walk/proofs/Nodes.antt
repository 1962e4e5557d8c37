-- The legs of a node of a checked net, without the choices.
use Rattle.std.proofs.Common.{◌≡◌, ℕ, zero, suc, ◌+◌, ◌-◌, ◌<◌, ◌≤◌, Bool, true, false, not, ◌&&◌, ◌||◌, nat_le, nat_lt, List, [], ◌∷◌, ◌++◌, map, length, get_or, take, slice_get, Option, Some, None, option_map, refl, sym, ap, ◌∙◌, subst, arith, le-leb, IsTrue}
use Rattle.std.specs.List.{All, list_all}
use Rattle.std.specs.List.Sorted.{IsPermutation}
use Rattle.std.proofs.lemmas.List.{take_more, map-append, get_or-map}
use Rattle.std.proofs.lemmas.List.Sorted.{IsPermutation-map}
use Rattle.std.proofs.lemmas.Option.{get_or_from_slice_get, slice_get-get_or}
use Rattle.dn_base.proofs.Booleans.{and_parts}
use Rattle.dn_base.proofs.Lists.{item_there}
use Rattle.dn_base.proofs.Members.{map_member, member_get_or}
use Rattle.dn_net.specs.declared.entries.Place.{Place}
use Rattle.dn_net.specs.declared.node.Block.{Block}
use Rattle.dn_net.specs.declared.node.Dest.{Dest}
use Rattle.dn_net.specs.declared.node.Entry.{Entry}
use Rattle.dn_net.specs.declared.node.NodeDecl.{NodeDecl}
use Rattle.dn_net.specs.Chain.{Member}
use Rattle.dn_net.specs.Decode.{top, in_some_block, is_accepted_at, refers_within}
use Rattle.dn_net.specs.Order.{places_from}
use Rattle.dn_net.specs.Rules.{block_in_range, entry_in_range, KeepsRules, KeepsNodeRules}
use Rattle.dn_net.specs.Walks.{Leg as NetLeg, in_order, dest_legs, entry_legs, gap_legs, gaps, legs}
use Rattle.dn_net.proofs.Apart.{node_apart}
use Rattle.dn_net.proofs.Gaps.{in_append}
use Rattle.dn_net.proofs.Kept.{kept_at}
use Rattle.dn_net.proofs.Latest.{place_blocks}
use Rattle.dn_net.proofs.Legs.{leads_of_leg, leads_in_range, leads_within}
use Rattle.dn_net.proofs.Members.{some_same}
use Rattle.dn_walk.proofs.Order.{legs_rise}
use Rattle.dn_walk.proofs.Pairs.{pairs_map, pairs_more, pairs_rise}
use Rattle.dn_net.proofs.Places.{length-map}
use Rattle.dn_net.proofs.Steps.{node_at}
use Rattle.dn_net.proofs.Stretch.{moved_same}
use Rattle.dn_interval.specs.declared.span.Span.{Span}
use Rattle.dn_interval.specs.Spans.{has, AreMaximal}
use Rattle.dn_walk.specs.Legs.{BareLeg, bare_leg, bare_legs, dest_leg, bare_entry_legs, gap_leg, bare_gap_legs, leg_before, gaps_by, span_view, IsLegOf, AreLegs}
use Rattle.dn_walk.proofs.Holes.{spans_are_left}
use Rattle.dn_walk.proofs.Sorting.{map_in_order}

-- the legs of a node of these parts, made without choices
abbrev pub legs_by : List Block → List Entry → Option ℕ → List BareLeg
legs_by accepts entries over = in_order leg_before (bare_entry_legs entries ++ bare_gap_legs over (gaps_by accepts entries))

bare_dests : (i j : ℕ) (b : Block) (ds : List Dest) → map bare_leg (dest_legs i j b ds) ≡ map (dest_leg b) ds
bare_dests i j b [] = refl
bare_dests i j b (d ∷ ds) = ap (λ l. dest_leg b d ∷ l) (bare_dests i (suc j) b ds)

bare_entries : (i : ℕ) (es : List Entry) → map bare_leg (entry_legs i es) ≡ bare_entry_legs es
bare_entries i [] = refl
bare_entries i (e ∷ es) = map-append bare_leg (dest_legs i 0 e.block e.dests) (entry_legs (suc i) es) ∙ ap (λ l. l ++ map bare_leg (entry_legs (suc i) es)) (bare_dests i 0 e.block e.dests) ∙ ap (λ l. map (dest_leg e.block) e.dests ++ l) (bare_entries (suc i) es)

bare_gaps : (o : Option ℕ) (spans : List Block) → map bare_leg (gap_legs o spans) ≡ bare_gap_legs o spans
bare_gaps None spans = refl
bare_gaps (Some m) spans = each spans
  where
    each : (spans : List Block) → map bare_leg (gap_legs (Some m) spans) ≡ map (gap_leg m) spans
    each [] = refl
    each (b ∷ spans) = ap (λ l. gap_leg m b ∷ l) (each spans)

pub legs_are : (n : NodeDecl) → bare_legs n ≡ legs_by n.accepts n.entries n.over
legs_are n =
    map_in_order bare_leg (λ l m. nat_lt l.block.lo m.block.lo) leg_before (λ l m. refl) (entry_legs 0 n.entries ++ gap_legs n.over (gaps n))
    ∙ ap (in_order leg_before) (map-append bare_leg (entry_legs 0 n.entries) (gap_legs n.over (gaps n)) ∙ ap (λ l. l ++ map bare_leg (gap_legs n.over (gaps n))) (bare_entries 0 n.entries) ∙ ap (λ l. bare_entry_legs n.entries ++ l) (bare_gaps n.over (gaps n)))

-- the legs of one node more
pub legs_at : (net : List NodeDecl) (i : ℕ) (ls : List BareLeg) → i < length net → option_map bare_legs (slice_get net i) ≡ Some ls → map bare_legs (take (i + 1) net) ≡ map bare_legs (take i net) ++ ls ∷ []
legs_at net i ls l e =
    let n = item_there net i l in
    let s : ◌≡◌ {A = Option (List BareLeg)} (Some (bare_legs n.0)) (Some ls) = ap (option_map bare_legs) (sym n.1) ∙ e in
    let t : bare_legs n.0 ≡ ls = some_same (bare_legs n.0) ls s in
    ap (map bare_legs) (take_more net i n.0 l ∙ ap (λ x. take i net ++ x ∷ []) (get_or_from_slice_get net i n.0 n.0 n.1))
    ∙ map-append bare_legs (take i net) (n.0 ∷ [])
    ∙ ap (λ x. map bare_legs (take i net) ++ x ∷ []) t

-- the legs of a node, from those of its entries and of its gaps in order
pub legs_of_parts : (n : NodeDecl) (entries : List Entry) (made gaps : List BareLeg) → n.entries ≡ entries → bare_gap_legs n.over (gaps_by n.accepts n.entries) ≡ gaps → made ≡ in_order leg_before (bare_entry_legs entries ++ gaps) → bare_legs n ≡ made
legs_of_parts n entries made gaps e g m = legs_are n ∙ (λ i. in_order leg_before (bare_entry_legs (e i) ++ g i)) ∙ sym m

-- the blocks and the entries of a node that keeps the rules
pub node_in_range : (net : List NodeDecl) → All KeepsRules net → (i : ℕ) (n : NodeDecl) → slice_get net i ≡ Some n → IsTrue (list_all block_in_range n.accepts) × IsTrue (list_all entry_in_range n.entries)
node_in_range net each i n at = and_parts (list_all block_in_range n.accepts) (list_all entry_in_range n.entries) (kept_at net i each n at).in_range

-- they lead on in range, and neither their first nor their last addresses descend
pub legs_of_node : (net : List NodeDecl) → KeepsNodeRules net → (i : ℕ) (n : NodeDecl) → slice_get net i ≡ Some n → AreLegs (length net) (bare_legs n)
legs_of_node net rules i n at =
    let apart = node_apart net rules.each i n at in
    let rise = legs_rise n apart in
    record {
      firsts = pairs_rise (λ (l : BareLeg). l.lo) (bare_legs n) (pairs_map (λ (l m : BareLeg). l.lo ≤ m.lo) bare_leg (legs n) (pairs_more (λ (l m : NetLeg). (l.block.lo ≤ m.block.lo) × (l.block.hi ≤ m.block.hi)) (λ (l m : NetLeg). l.block.lo ≤ m.block.lo) (legs n) (λ l m a b r. r.0) rise));
      lasts = pairs_rise (λ (l : BareLeg). l.hi) (bare_legs n) (pairs_map (λ (l m : BareLeg). l.hi ≤ m.hi) bare_leg (legs n) (pairs_more (λ (l m : NetLeg). (l.block.lo ≤ m.block.lo) × (l.block.hi ≤ m.block.hi)) (λ (l m : NetLeg). l.block.hi ≤ m.block.hi) (legs n) (λ l m a b r. r.1) rise));
      each = λ k d l. member_is (get_or (bare_legs n) k d) (member_get_or (bare_legs n) k d l);
    }
  where
    one : (l : NetLeg) → Member l (legs n) → IsLegOf (length net) (bare_leg l)
    one l m =
        let f = leads_of_leg (Some n) (λ k e. node_apart net rules.each i k (at ∙ e)) l m in
        let r = leads_in_range (Some n) (λ k e. node_apart net rules.each i k (at ∙ e)) l.choice l.block l.to f in
        let w = leads_within (length net) (Some n) (λ k e. node_at (refers_within (length net)) net i rules.closed k (at ∙ e)) l.choice l.block l.to f in
        record { order = r.0; low = r.1; node = w; reach = r.2 }

    member_is : (l : BareLeg) → Member l (bare_legs n) → IsLegOf (length net) l
    member_is l m = let r = map_member bare_leg (legs n) l m in subst (λ k. IsLegOf (length net) k) r.2 (one r.0 r.1)

pub all_legs : (net : List NodeDecl) → KeepsNodeRules net → All (AreLegs (length net)) (map bare_legs net)
all_legs net rules = λ k d l.
    let n = map_length net in
    let k' : k < length net = omega arith in
    at k d k' (slice_get net k) refl
  where
    map_length : (ns : List NodeDecl) → length (map bare_legs ns) ≡ length ns
    map_length [] = refl
    map_length (n ∷ ns) = ap suc (map_length ns)

    at : (k : ℕ) (d : List BareLeg) → k < length net → (u : Option NodeDecl) → slice_get net k ≡ u → AreLegs (length net) (get_or (map bare_legs net) k d)
    at k d l None u = absurd (there net k l u)
      where
        there : (ns : List NodeDecl) (k : ℕ) → k < length ns → slice_get ns k ≡ None → ⊥
        there [] k l e = absurd (omega arith)
        there (n ∷ ns) zero l e = cc
        there (n ∷ ns) (suc k) l e = there ns k (omega arith) e
    at k d l (Some n) u =
        let s : ◌≡◌ {A = Option NodeDecl} (Some (get_or net k n)) (Some n) = sym (slice_get-get_or net k n l) ∙ u in
        let g : get_or net k n ≡ n = cc in
        subst (λ x. AreLegs (length net) x) (sym (get_or-map bare_legs net k n d l ∙ ap bare_legs g)) (legs_of_node net rules k n u)

pub all_legs_of : (net : List NodeDecl) → KeepsNodeRules net → (xs : List (List BareLeg)) → xs ≡ map bare_legs net → All (AreLegs (length xs)) xs
all_legs_of net rules xs e = subst (λ x. All (AreLegs (length x)) x) (sym e) (subst (λ n. All (AreLegs n) (map bare_legs net)) (sym (length-map bare_legs net)) (all_legs net rules))

blocks_in_range : (entries : List Entry) (accepts : List Block) → IsTrue (list_all entry_in_range entries) → IsTrue (list_all block_in_range accepts) → IsTrue (list_all block_in_range (map (λ e. e.block) entries ++ accepts))
blocks_in_range [] accepts e a = a
blocks_in_range (x ∷ xs) accepts e a =
    let r = and_parts (entry_in_range x) (list_all entry_in_range xs) e in
    let b = (and_parts (block_in_range x.block) (list_all (λ d. nat_le (d.addr + (x.block.hi - x.block.lo)) top) x.dests) r.0).0 in
    rw b (blocks_in_range xs accepts r.1 a)

neither : (p q : Bool) → (not p && not q) ≡ not (q || p)
neither true true = refl
neither true false = refl
neither false true = refl
neither false false = refl

-- the gaps between the blocks of a node are what neither its accept blocks nor its map blocks have
module _ (n : NodeDecl) (range : IsTrue (list_all block_in_range n.accepts) × IsTrue (list_all entry_in_range n.entries)) (order : List Place) (every : IsPermutation (places_from 0 n.entries) order) (accepted mapped unaccepted unmapped : List Span) (acc : (a : ℕ) → has accepted a ≡ is_accepted_at a (Some n)) (maps : (a : ℕ) → has mapped a ≡ in_some_block a (map (λ p. p.block) order)) (unacc : (a : ℕ) → a ≤ top → has unaccepted a ≡ not (has accepted a)) (unmap : (a : ℕ) → a ≤ top → has unmapped a ≡ not (has mapped a)) where
  accepts_have : (a : ℕ) → a ≤ top → has accepted a ≡ in_some_block a n.accepts
  accepts_have a l = acc a ∙ ap (λ t. t && in_some_block a n.accepts) (le-leb a top l)

  entries_have : (a : ℕ) → has mapped a ≡ in_some_block a (map (λ e. e.block) n.entries)
  entries_have a =
      maps a
      ∙ moved_same (map (λ (p : Place). p.block) (places_from 0 n.entries)) (map (λ (p : Place). p.block) order) (IsPermutation-map (λ (p : Place). p.block) (places_from 0 n.entries) order every) a
      ∙ ap (in_some_block a) (place_blocks 0 n.entries)

  free : (met : List Span) (a : ℕ) → a ≤ top → has met a ≡ (has unaccepted a && has unmapped a) → has met a ≡ not (in_some_block a (map (λ e. e.block) n.entries ++ n.accepts))
  free met a l same =
      same
      ∙ (λ i. unacc a l i && unmap a l i)
      ∙ (λ i. not (accepts_have a l i) && not (entries_have a i))
      ∙ neither (in_some_block a n.accepts) (in_some_block a (map (λ e. e.block) n.entries))
      ∙ ap not (sym (in_append a (map (λ e. e.block) n.entries) n.accepts))

  pub gaps_are : (met : List Span) → ((a : ℕ) → has met a ≡ (has unaccepted a && has unmapped a)) → AreMaximal met → map span_view met ≡ gaps_by n.accepts n.entries
  gaps_are met same maximal = spans_are_left (map (λ e. e.block) n.entries ++ n.accepts) (blocks_in_range n.entries n.accepts range.1 range.0) met maximal (λ a l. free met a l (same a))
