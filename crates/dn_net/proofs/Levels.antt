-- The walks of a level are the live walks of so many choices, each with the addresses that follow it.
use Rattle.std.proofs.Common.{◌≡◌, ℕ, zero, suc, ◌+◌, ◌-◌, ◌<◌, ◌≤◌, ◌⊎◌, ◌↔◌, inl, inr, Bool, true, false, if◌then◌else◌, nat_le, nat_lt, List, [], ◌∷◌, ◌++◌, filter, length, slice_get, Some, refl, sym, ap, ◌∙◌, subst, arith, IsTrue, ltb-true, leb-true, le-leb}
use Rattle.std.proofs.lemmas.Bool.{ltb-false}
use Rattle.std.proofs.lemmas.List.{append-nil, append_assoc, length-append}
use Rattle.dn_net.specs.declared.node.Block.{Block}
use Rattle.dn_net.specs.declared.node.Name.{Name}
use Rattle.dn_net.specs.declared.node.NodeDecl.{NodeDecl}
use Rattle.dn_net.specs.Chain.{Member}
use Rattle.dn_net.specs.Decode.{top, within, refers_within}
use Rattle.dn_net.specs.Walks.{Choice, ChoiceLeads, Follows, IsLive, moved_name, all_addresses, Leg, legs_of, Walk, last_out, meets, greater_of, lesser_of, onto, extensions_of, still_walk, still_walks, level}
use Rattle.dn_net.specs.Rules.{KeepsNodeRules}
use Rattle.dn_net.proofs.Least.{within_from, within_to}
use Rattle.dn_net.proofs.Apart.{IsApart, node_apart}
use Rattle.dn_net.proofs.Legs.{leads_of_leg, leg_of_leads, leads_once, leads_in_range, leads_within}
use Rattle.dn_base.proofs.Members.{map_member, member_map}
use Rattle.dn_base.proofs.Booleans.{and_parts, and_from}
use Rattle.dn_base.proofs.Lists.{list_all-at}
use Rattle.dn_net.proofs.Members.{member_filter, filter_member, member_flat_map, flat_map_member}
use Rattle.dn_net.proofs.Resolution.{name_is}

-- what each walk of a level keeps
pub record IsRow (net : List NodeDecl) (k : ℕ) (w : Walk) : Type 0 where
  pub start : w.start < length net
  pub node : w.to.node < length net
  pub long : length w.choices ≡ k
  pub order : w.span.lo ≤ w.span.hi
  pub low : w.span.hi ≤ top
  pub out : last_out w ≤ top
  pub follows : (a : ℕ) (y : Name) → a ≤ top → Follows net (record { node = w.start; addr = a }) w.choices y ↔ (IsTrue (within a w.span) × (moved_name (a - w.span.lo) w.to ≡ y))

-- choices followed one after another
follows_split : (net : List NodeDecl) (cs ds : List Choice) (x y : Name) → Follows net x (cs ++ ds) y → (z : Name) × Follows net x cs z × Follows net z ds y
follows_split net [] ds x y f = (x, refl, f)
follows_split net (c ∷ cs) ds x y f =
    let r = follows_split net cs ds (moved_name (x.addr - f.0.lo) f.1) y f.4 in
    (r.0, (f.0, f.1, f.2, f.3, r.1), r.2)

follows_join : (net : List NodeDecl) (cs ds : List Choice) (x y z : Name) → Follows net x cs z → Follows net z ds y → Follows net x (cs ++ ds) y
follows_join net [] ds x y z f g = subst (λ w. Follows net w ds y) (sym f) g
follows_join net (c ∷ cs) ds x y z f g = (f.0, f.1, f.2, f.3, follows_join net cs ds (moved_name (x.addr - f.0.lo) f.1) y z f.4 g)

-- the greater and the lesser of two
greater_is : (a b : ℕ) → (a ≤ greater_of a b) × (b ≤ greater_of a b) × ((greater_of a b ≡ a) ⊎ (greater_of a b ≡ b))
greater_is a b = by (nat_lt a b) refl
  where
    by : (p : Bool) → nat_lt a b ≡ p → (a ≤ (if p then b else a)) × (b ≤ (if p then b else a)) × (((if p then b else a) ≡ a) ⊎ ((if p then b else a) ≡ b))
    by true e = let l = ltb-true a b e in ((omega arith), (omega arith), inr refl)
    by false e = let l = ltb-false a b e in ((omega arith), (omega arith), inl refl)

lesser_is : (a b : ℕ) → (lesser_of a b ≤ a) × (lesser_of a b ≤ b) × ((lesser_of a b ≡ a) ⊎ (lesser_of a b ≡ b))
lesser_is a b = by (nat_lt b a) refl
  where
    by : (p : Bool) → nat_lt b a ≡ p → ((if p then b else a) ≤ a) × ((if p then b else a) ≤ b) × (((if p then b else a) ≡ a) ⊎ ((if p then b else a) ≡ b))
    by true e = let l = ltb-true b a e in ((omega arith), (omega arith), inr refl)
    by false e = let l = ltb-false b a e in ((omega arith), (omega arith), inl refl)

-- an address of a span s to u that goes to t on, and there into a block from p to q: it lies between the cut ends l and h
cut_there : (s u t p q l h a : ℕ) → (l ≡ t) ⊎ (l ≡ p) → (h ≡ t + (u - s)) ⊎ (h ≡ q) → s ≤ a → a ≤ u → p ≤ t + (a - s) → t + (a - s) ≤ q → (s + (l - t) ≤ a) × (a ≤ s + (h - t))
cut_there s u t p q l h a (inl e) (inl f) b c d g = ((omega arith), (omega arith))
cut_there s u t p q l h a (inl e) (inr f) b c d g = ((omega arith), (omega arith))
cut_there s u t p q l h a (inr e) (inl f) b c d g = ((omega arith), (omega arith))
cut_there s u t p q l h a (inr e) (inr f) b c d g = ((omega arith), (omega arith))

-- and back
cut_back : (s u t p q l h a : ℕ) → t ≤ l → p ≤ l → h ≤ t + (u - s) → h ≤ q → t ≤ h → s ≤ u → s + (l - t) ≤ a → a ≤ s + (h - t) → (s ≤ a) × (a ≤ u) × (p ≤ t + (a - s)) × (t + (a - s) ≤ q)
cut_back s u t p q l h a b c d e f g i j = ((omega arith), (omega arith), (omega arith), (omega arith))

-- it goes to the same address by either count
cut_same : (s t p l a d : ℕ) → t ≤ l → p ≤ l → s + (l - t) ≤ a → d + (l - p) + (a - (s + (l - t))) ≡ d + (t + (a - s) - p)
cut_same s t p l a d b c e = omega arith

-- the ends are in order where the walk and the block meet
cut_order : (s u t p q l h : ℕ) → (l ≡ t) ⊎ (l ≡ p) → (h ≡ t + (u - s)) ⊎ (h ≡ q) → s ≤ u → p ≤ q → t ≤ q → p ≤ t + (u - s) → (l ≤ h) × (t ≤ h)
cut_order s u t p q l h (inl e) (inl f) b c d g = ((omega arith), (omega arith))
cut_order s u t p q l h (inl e) (inr f) b c d g = ((omega arith), (omega arith))
cut_order s u t p q l h (inr e) (inl f) b c d g = ((omega arith), (omega arith))
cut_order s u t p q l h (inr e) (inr f) b c d g = ((omega arith), (omega arith))

cut_range : (s u t p q l h d limit : ℕ) → u ≤ limit → d + (q - p) ≤ limit → s ≤ u → t ≤ l → p ≤ l → l ≤ h → h ≤ q → h ≤ t + (u - s) → (s + (l - t) ≤ s + (h - t)) × (s + (h - t) ≤ limit) × (d + (l - p) + (s + (h - t) - (s + (l - t))) ≤ limit)
cut_range s u t p q l h d limit a b c e f g i j = ((omega arith), (omega arith), (omega arith))

module _ (net : List NodeDecl) (checked : KeepsNodeRules net) where
  apart_at : (i : ℕ) (n : NodeDecl) → slice_get net i ≡ Some n → IsApart n
  apart_at i n at = node_apart net checked.each i n at

  closed_at : (i : ℕ) (n : NodeDecl) → slice_get net i ≡ Some n → IsTrue (refers_within (length net) n)
  closed_at i n at = list_all-at (refers_within (length net)) net i n checked.closed at

  -- an address of a walk with one more leg follows the walk, and then the leg
  pub onto_within : (k : ℕ) (w : Walk) → IsRow net k w → (l : Leg) → ChoiceLeads (slice_get net w.to.node) l.choice l.block l.to → IsTrue (meets w l) → (a : ℕ) → IsTrue (within a (onto w l).span) → IsTrue (within a w.span) × IsTrue (within (w.to.addr + (a - w.span.lo)) l.block)
  onto_within k w r l leads met a inside =
      let g = greater_is w.to.addr l.block.lo in
      let h = lesser_is (last_out w) l.block.hi in
      let c = within_to a (onto w l).span inside in
      let m = and_parts (nat_le w.to.addr l.block.hi) (nat_le l.block.lo (last_out w)) met in
      let range = leads_in_range (slice_get net w.to.node) (λ n e. apart_at w.to.node n e) l.choice l.block l.to leads in
      let o = cut_order w.span.lo w.span.hi w.to.addr l.block.lo l.block.hi (greater_of w.to.addr l.block.lo) (lesser_of (last_out w) l.block.hi) g.2 h.2 r.order range.0 (leb-true _ _ m.0) (leb-true _ _ m.1) in
      let b = cut_back w.span.lo w.span.hi w.to.addr l.block.lo l.block.hi (greater_of w.to.addr l.block.lo) (lesser_of (last_out w) l.block.hi) a g.0 g.1 h.0 h.1 o.1 r.order c.0 c.1 in
      (within_from a w.span b.0 b.1, within_from (w.to.addr + (a - w.span.lo)) l.block b.2 b.3)

  -- the addresses of a walk with one more leg
  more_addresses : (k : ℕ) (w : Walk) → IsRow net k w → (l : Leg) → ChoiceLeads (slice_get net w.to.node) l.choice l.block l.to → IsTrue (meets w l) → (a : ℕ) (y : Name) → a ≤ top → Follows net (record { node = w.start; addr = a }) (w.choices ++ l.choice ∷ []) y ↔ (IsTrue (within a (onto w l).span) × (moved_name (a - (onto w l).span.lo) (onto w l).to ≡ y))
  more_addresses k w r l leads met a y below = (there, back)
    where
      g : (w.to.addr ≤ greater_of w.to.addr l.block.lo) × (l.block.lo ≤ greater_of w.to.addr l.block.lo) × ((greater_of w.to.addr l.block.lo ≡ w.to.addr) ⊎ (greater_of w.to.addr l.block.lo ≡ l.block.lo))
      g = greater_is w.to.addr l.block.lo

      h : (lesser_of (last_out w) l.block.hi ≤ last_out w) × (lesser_of (last_out w) l.block.hi ≤ l.block.hi) × ((lesser_of (last_out w) l.block.hi ≡ last_out w) ⊎ (lesser_of (last_out w) l.block.hi ≡ l.block.hi))
      h = lesser_is (last_out w) l.block.hi

      name : w.span.lo + (greater_of w.to.addr l.block.lo - w.to.addr) ≤ a → moved_name (a - (onto w l).span.lo) (onto w l).to ≡ moved_name (w.to.addr + (a - w.span.lo) - l.block.lo) l.to
      name q = ap (λ n. record { node = l.to.node; addr = n }) (cut_same w.span.lo w.to.addr l.block.lo (greater_of w.to.addr l.block.lo) a l.to.addr g.0 g.1 q)

      there : Follows net (record { node = w.start; addr = a }) (w.choices ++ l.choice ∷ []) y → IsTrue (within a (onto w l).span) × (moved_name (a - (onto w l).span.lo) (onto w l).to ≡ y)
      there f =
          let s = follows_split net w.choices (l.choice ∷ []) (record { node = w.start; addr = a }) y f in
          let t = (r.follows a s.0 below).0 s.1 in
          let here = within_to a w.span t.0 in
          let u : Follows net (moved_name (a - w.span.lo) w.to) (l.choice ∷ []) y = subst (λ z. Follows net z (l.choice ∷ []) y) (sym t.1) s.2 in
          let same = leads_once (slice_get net w.to.node) l.choice u.0 l.block u.1 l.to u.2 leads in
          let v = within_to (w.to.addr + (a - w.span.lo)) l.block (subst (λ b. IsTrue (within (w.to.addr + (a - w.span.lo)) b)) same.0 u.3) in
          let c = cut_there w.span.lo w.span.hi w.to.addr l.block.lo l.block.hi (greater_of w.to.addr l.block.lo) (lesser_of (last_out w) l.block.hi) a g.2 h.2 here.0 here.1 v.0 v.1 in
          let e : moved_name (w.to.addr + (a - w.span.lo) - l.block.lo) l.to ≡ y = subst (λ (d : Name). moved_name (w.to.addr + (a - w.span.lo) - l.block.lo) d ≡ y) same.1 (subst (λ (b : Block). moved_name (w.to.addr + (a - w.span.lo) - b.lo) u.1 ≡ y) same.0 u.4) in
          (within_from a (onto w l).span c.0 c.1, name c.0 ∙ e)

      back : IsTrue (within a (onto w l).span) × (moved_name (a - (onto w l).span.lo) (onto w l).to ≡ y) → Follows net (record { node = w.start; addr = a }) (w.choices ++ l.choice ∷ []) y
      back f =
          let c = within_to a (onto w l).span f.0 in
          let b = onto_within k w r l leads met a f.0 in
          let z : Name = moved_name (a - w.span.lo) w.to in
          let first : Follows net (record { node = w.start; addr = a }) w.choices z = (r.follows a z below).1 (b.0, refl) in
          let last : Follows net z (l.choice ∷ []) y = (l.block, l.to, leads, b.1, sym (name c.0) ∙ f.1) in
          follows_join net w.choices (l.choice ∷ []) (record { node = w.start; addr = a }) y z first last

  onto_is_row : (k : ℕ) (w : Walk) → IsRow net k w → (l : Leg) → ChoiceLeads (slice_get net w.to.node) l.choice l.block l.to → IsTrue (meets w l) → IsRow net (suc k) (onto w l)
  onto_is_row k w r l leads met =
      let g = greater_is w.to.addr l.block.lo in
      let h = lesser_is (last_out w) l.block.hi in
      let m = and_parts (nat_le w.to.addr l.block.hi) (nat_le l.block.lo (last_out w)) met in
      let range = leads_in_range (slice_get net w.to.node) (λ n e. apart_at w.to.node n e) l.choice l.block l.to leads in
      let o = cut_order w.span.lo w.span.hi w.to.addr l.block.lo l.block.hi (greater_of w.to.addr l.block.lo) (lesser_of (last_out w) l.block.hi) g.2 h.2 r.order range.0 (leb-true _ _ m.0) (leb-true _ _ m.1) in
      let q = cut_range w.span.lo w.span.hi w.to.addr l.block.lo l.block.hi (greater_of w.to.addr l.block.lo) (lesser_of (last_out w) l.block.hi) l.to.addr top r.low range.2 r.order g.0 g.1 o.0 h.1 h.0 in
      let n : length w.choices ≡ k = r.long in
      let one : length w.choices + 1 ≡ suc k = omega arith in
      record {
        start = r.start;
        node = leads_within (length net) (slice_get net w.to.node) (λ n e. closed_at w.to.node n e) l.choice l.block l.to leads;
        long = (length-append w.choices (l.choice ∷ []) ∙ one);
        order = q.0;
        low = q.1;
        out = q.2;
        follows = more_addresses k w r l leads met;
      }

  member_stills : (n : ℕ) (ds : List NodeDecl) (w : Walk) → Member w (still_walks n ds) → (i : ℕ) × (i < length ds) × (still_walk (n + i) ≡ w)
  member_stills n [] w m = absurd m
  member_stills n (d ∷ ds) w (inl e) = let s : n + 0 ≡ n = omega arith in (0, (omega arith), ap still_walk s ∙ e)
  member_stills n (d ∷ ds) w (inr m) =
      let r = member_stills (suc n) ds w m in
      let l : r.0 < length ds = r.1 in
      let s : n + suc r.0 ≡ suc n + r.0 = omega arith in
      (suc r.0, (omega arith), ap still_walk s ∙ r.2)

  still_is_row : (n : ℕ) → n < length net → IsRow net 0 (still_walk n)
  still_is_row n l = record { start = l; node = l; long = refl; order = (omega arith); low = (omega arith); out = (omega arith); follows = follows }
    where
      follows : (a : ℕ) (y : Name) → a ≤ top → (◌≡◌ {A = Name} (record { node = n; addr = a }) y) ↔ (IsTrue (within a all_addresses) × (moved_name (a - 0) (record { node = n; addr = 0 }) ≡ y))
      follows a y below =
          let s : 0 + (a - 0) ≡ a = omega arith in
          let z : 0 ≤ a = omega arith in
          ((λ e. (within_from a all_addresses z below, name_is n n (0 + (a - 0)) a refl s ∙ e)), (λ f. sym (name_is n n (0 + (a - 0)) a refl s) ∙ f.1))

  -- each walk of a level is a live walk, with its addresses
  pub level_is_row : (k : ℕ) (w : Walk) → Member w (level net k) → IsRow net k w
  level_is_row zero w m =
      let r = member_stills 0 net w m in
      let l : r.0 < length net = r.1 in
      let l' : 0 + r.0 < length net = omega arith in
      subst (λ v. IsRow net 0 v) r.2 (still_is_row (0 + r.0) l')
  level_is_row (suc k) w m =
      let p = member_flat_map (extensions_of net) (level net k) w m in
      let v = p.0 in
      let q = map_member (onto v) (filter (meets v) (legs_of (slice_get net v.to.node))) w p.2 in
      let f = member_filter (meets v) (legs_of (slice_get net v.to.node)) q.0 q.1 in
      let leads = leads_of_leg (slice_get net v.to.node) (λ n e. apart_at v.to.node n e) q.0 f.0 in
      subst (λ u. IsRow net (suc k) u) q.2 (onto_is_row k v (level_is_row k v p.1) q.0 leads f.1)

  pub live_of_row : (k : ℕ) (w : Walk) → IsRow net k w → IsLive net w.start w.choices
  live_of_row k w r =
      let o : w.span.lo ≤ w.span.hi = r.order in
      let t : w.span.hi ≤ top = r.low in
      let l : w.span.lo ≤ top = omega arith in
      let k : w.span.lo ≤ w.span.lo = omega arith in
      (w.span.lo, moved_name (w.span.lo - w.span.lo) w.to, l, (r.follows w.span.lo (moved_name (w.span.lo - w.span.lo) w.to) l).1 (within_from w.span.lo w.span k o, refl))

  -- a walk of a level goes on by each list of choices that an address of it follows
  pub row_onward : (j : ℕ) (w : Walk) → Member w (level net j) → (cs : List Choice) (a : ℕ) (y : Name) → IsTrue (within a w.span) → Follows net (moved_name (a - w.span.lo) w.to) cs y → (v : Walk) × Member v (level net (j + length cs)) × (v.start ≡ w.start) × (v.choices ≡ w.choices ++ cs) × IsTrue (within a v.span)
  row_onward j w m [] a y here f = let s : j ≡ j + 0 = omega arith in (w, subst (λ n. Member w (level net n)) s m, refl, sym (append-nil w.choices), here)
  row_onward j w m (c ∷ cs) a y here f =
      let l : Leg = record { choice = c; block = f.0; to = f.1 } in
      let r = level_is_row j w m in
      let i = within_to a w.span here in
      let lo : w.span.lo ≤ a = i.0 in
      let hi : a ≤ w.span.hi = i.1 in
      let v = within_to (w.to.addr + (a - w.span.lo)) f.0 f.3 in
      let v0 : f.0.lo ≤ w.to.addr + (a - w.span.lo) = v.0 in
      let v1 : w.to.addr + (a - w.span.lo) ≤ f.0.hi = v.1 in
      let m0 : w.to.addr ≤ f.0.hi = omega arith in
      let m1 : f.0.lo ≤ w.to.addr + (w.span.hi - w.span.lo) = omega arith in
      let met : IsTrue (meets w l) = and_from (nat_le w.to.addr f.0.hi) (nat_le f.0.lo (last_out w)) (le-leb w.to.addr f.0.hi m0) (le-leb f.0.lo (last_out w) m1) in
      let leg : Member l (legs_of (slice_get net w.to.node)) = leg_of_leads (slice_get net w.to.node) (λ n e. apart_at w.to.node n e) c f.0 f.1 f.2 in
      let next : Member (onto w l) (level net (suc j)) = flat_map_member (extensions_of net) (level net j) w (onto w l) m (member_map (onto w) (filter (meets w) (legs_of (slice_get net w.to.node))) l (filter_member (meets w) (legs_of (slice_get net w.to.node)) l leg met)) in
      let low : w.span.hi ≤ top = r.low in
      let below : a ≤ top = omega arith in
      let z : Name = moved_name (a - w.span.lo) w.to in
      let y1 : Name = moved_name (w.to.addr + (a - w.span.lo) - f.0.lo) f.1 in
      let first : Follows net (record { node = w.start; addr = a }) w.choices z = (r.follows a z below).1 (here, refl) in
      let one : Follows net z (c ∷ []) y1 = (f.0, f.1, f.2, f.3, refl) in
      let both = (more_addresses j w r l f.2 met a y1 below).0 (follows_join net w.choices (c ∷ []) (record { node = w.start; addr = a }) y1 z first one) in
      let rest : Follows net (moved_name (a - (onto w l).span.lo) (onto w l).to) cs y = subst (λ u. Follows net u cs y) (sym both.1) f.4 in
      let ih = row_onward (suc j) (onto w l) next cs a y both.0 rest in
      let s : suc j + length cs ≡ j + suc (length cs) = omega arith in
      (ih.0, subst (λ n. Member ih.0 (level net n)) s ih.1, ih.2, ih.3 ∙ append_assoc w.choices (c ∷ []) cs, ih.4)

  stills_member : (n i : ℕ) (ds : List NodeDecl) → i < length ds → Member (still_walk (n + i)) (still_walks n ds)
  stills_member n i [] l = absurd (omega arith)
  stills_member n zero (d ∷ ds) l = let s : n ≡ n + 0 = omega arith in inl (ap still_walk s)
  stills_member n (suc i) (d ∷ ds) l = let s : suc n + i ≡ n + suc i = omega arith in inr (subst (λ x. Member (still_walk x) (still_walks (suc n) ds)) s (stills_member (suc n) i ds (omega arith)))

  -- choices that a name follows are those of a walk of their level
  pub row_of_choices : (x y : Name) (cs : List Choice) → x.node < length net → x.addr ≤ top → Follows net x cs y → (w : Walk) × Member w (level net (length cs)) × (w.start ≡ x.node) × (w.choices ≡ cs) × IsTrue (within x.addr w.span) × (moved_name (x.addr - w.span.lo) w.to ≡ y)
  row_of_choices x y cs l t f =
      let e : 0 + x.node ≡ x.node = omega arith in
      let m : Member (still_walk x.node) (level net 0) = subst (λ n. Member (still_walk n) (still_walks 0 net)) e (stills_member 0 x.node net l) in
      let z : 0 ≤ x.addr = omega arith in
      let s : x.addr ≡ 0 + (x.addr - 0) = omega arith in
      let g : Follows net (moved_name (x.addr - 0) (record { node = x.node; addr = 0 })) cs y = subst (λ u. Follows net u cs y) (name_is x.node x.node x.addr (0 + (x.addr - 0)) refl s) f in
      let r = row_onward 0 (still_walk x.node) m cs x.addr y (within_from x.addr all_addresses z t) g in
      let k : 0 + length cs ≡ length cs = omega arith in
      let n : Member r.0 (level net (length cs)) = subst (λ n. Member r.0 (level net n)) k r.1 in
      let c : r.0.choices ≡ cs = r.3 in
      let h : Follows net (record { node = r.0.start; addr = x.addr }) r.0.choices y = subst (λ v. Follows net (record { node = v; addr = x.addr }) r.0.choices y) (sym r.2) (subst (λ d. Follows net x d y) (sym c) f) in
      (r.0, n, r.2, c, r.4, (((level_is_row (length cs) r.0 n).follows x.addr y t).0 h).1)
