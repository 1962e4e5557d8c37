-- A chain of steps is a list of choices that its first name follows, and back.
use Rattle.std.proofs.Common.{All, ◌≡◌, ℕ, zero, suc, ◌+◌, ◌-◌, ◌<◌, ◌≤◌, ◌⊎◌, inl, inr, Bool, true, false, if◌then◌else◌, not, ◌&&◌, ◌||◌, List, [], ◌∷◌, length, map, Option, Some, None, refl, sym, ap, ◌∙◌, subst, arith, nat_le, slice_get, IsTrue, leb-true, le-leb}
use Rattle.dn_net.specs.declared.node.Block.{Block}
use Rattle.dn_net.specs.declared.node.Dest.{Dest}
use Rattle.dn_net.specs.declared.node.Entry.{Entry}
use Rattle.dn_net.specs.declared.node.Name.{Name}
use Rattle.dn_net.specs.declared.node.NodeDecl.{NodeDecl}
use Rattle.dn_net.specs.Chain.{Member, IsChain}
use Rattle.dn_net.specs.Decode.{top, within, in_some_block, by_over, by_entries, decode, sent_names, dest_name, Step}
use Rattle.dn_net.specs.Rules.{KeepsRules}
use Rattle.dn_net.specs.Walks.{Choice, mapped_by, over_gap, in_some_entry, is_in_no_block, IsGap, ChoiceLeads, Follows, moved_name}
use Rattle.dn_net.specs.WalkRules.{ChainIsWalk}
use Rattle.dn_net.proofs.Least.{within_from, within_to}
use Rattle.dn_net.proofs.Apart.{IsApart, node_apart}
use Rattle.dn_net.proofs.Latest.{sent_by}
use Rattle.dn_net.proofs.Members.{some_same}

-- a free address lies in a gap: its end below
gap_below : (n : NodeDecl) (a : ℕ) → is_in_no_block n a ≡ true → (lo : ℕ) × (lo ≤ a) × ((b : ℕ) → lo ≤ b → b ≤ a → is_in_no_block n b ≡ true) × ((b : ℕ) → lo ≡ suc b → is_in_no_block n b ≡ false)
gap_below n zero f = (0, (omega arith), (λ b l m. let e : 0 ≡ b = omega arith in subst (λ c. is_in_no_block n c ≡ true) e f), (λ b e. absurd (omega arith)))
gap_below n (suc a) f = go (is_in_no_block n a) refl (gap_below n a)
  where
    go : (v : Bool) → is_in_no_block n a ≡ v → (is_in_no_block n a ≡ true → (lo : ℕ) × (lo ≤ a) × ((b : ℕ) → lo ≤ b → b ≤ a → is_in_no_block n b ≡ true) × ((b : ℕ) → lo ≡ suc b → is_in_no_block n b ≡ false)) → (lo : ℕ) × (lo ≤ suc a) × ((b : ℕ) → lo ≤ b → b ≤ suc a → is_in_no_block n b ≡ true) × ((b : ℕ) → lo ≡ suc b → is_in_no_block n b ≡ false)
    go false e ih = (suc a, (omega arith), (λ b l m. let e' : suc a ≡ b = omega arith in subst (λ c. is_in_no_block n c ≡ true) e' f), (λ b e'. let s : a ≡ b = omega arith in subst (λ c. is_in_no_block n c ≡ false) s e))
    go true e ih = (r.0, (let l : r.0 ≤ a = r.1 in omega arith), each, r.3)
      where
        r : (lo : ℕ) × (lo ≤ a) × ((b : ℕ) → lo ≤ b → b ≤ a → is_in_no_block n b ≡ true) × ((b : ℕ) → lo ≡ suc b → is_in_no_block n b ≡ false)
        r = ih e

        each : (b : ℕ) → r.0 ≤ b → b ≤ suc a → is_in_no_block n b ≡ true
        each b l m = here (cases b m)
          where
            cases : (b : ℕ) → b ≤ suc a → (b ≤ a) ⊎ (suc a ≡ b)
            cases b m = grind arith

            here : (b ≤ a) ⊎ (suc a ≡ b) → is_in_no_block n b ≡ true
            here (inl k) = r.2 b l k
            here (inr k) = subst (λ c. is_in_no_block n c ≡ true) k f

-- its end above
gap_above : (n : NodeDecl) (d a : ℕ) → a + d ≡ top → is_in_no_block n a ≡ true → (hi : ℕ) × (a ≤ hi) × (hi ≤ top) × ((b : ℕ) → a ≤ b → b ≤ hi → is_in_no_block n b ≡ true) × (hi < top → is_in_no_block n (suc hi) ≡ false)
gap_above n zero a e f = (a, (omega arith), (omega arith), (λ b l m. let s : a ≡ b = omega arith in subst (λ c. is_in_no_block n c ≡ true) s f), (λ l. absurd (omega arith)))
gap_above n (suc d) a e f = go (is_in_no_block n (suc a)) refl (gap_above n d (suc a) (omega arith))
  where
    go : (v : Bool) → is_in_no_block n (suc a) ≡ v → (is_in_no_block n (suc a) ≡ true → (hi : ℕ) × (suc a ≤ hi) × (hi ≤ top) × ((b : ℕ) → suc a ≤ b → b ≤ hi → is_in_no_block n b ≡ true) × (hi < top → is_in_no_block n (suc hi) ≡ false)) → (hi : ℕ) × (a ≤ hi) × (hi ≤ top) × ((b : ℕ) → a ≤ b → b ≤ hi → is_in_no_block n b ≡ true) × (hi < top → is_in_no_block n (suc hi) ≡ false)
    go false ev ih = (a, (omega arith), (omega arith), (λ b l m. let s : a ≡ b = omega arith in subst (λ c. is_in_no_block n c ≡ true) s f), (λ l. ev))
    go true ev ih = (r.0, (let l : suc a ≤ r.0 = r.1 in omega arith), r.2, each, r.4)
      where
        r : (hi : ℕ) × (suc a ≤ hi) × (hi ≤ top) × ((b : ℕ) → suc a ≤ b → b ≤ hi → is_in_no_block n b ≡ true) × (hi < top → is_in_no_block n (suc hi) ≡ false)
        r = ih ev

        each : (b : ℕ) → a ≤ b → b ≤ r.0 → is_in_no_block n b ≡ true
        each b l m = here (cases b l)
          where
            cases : (b : ℕ) → a ≤ b → (suc a ≤ b) ⊎ (a ≡ b)
            cases b l = grind arith

            here : (suc a ≤ b) ⊎ (a ≡ b) → is_in_no_block n b ≡ true
            here (inl k) = r.3 b k m
            here (inr k) = subst (λ c. is_in_no_block n c ≡ true) k f

pub gap_at : (n : NodeDecl) (a : ℕ) → a ≤ top → is_in_no_block n a ≡ true → (lo hi : ℕ) × IsGap n lo hi × (lo ≤ a) × (a ≤ hi)
gap_at n a l f =
    let b = gap_below n a f in
    let t = gap_above n (top - a) a (omega arith) f in (
      b.0,
      t.0,
      record {
        order = (let p : b.0 ≤ a = b.1 in let q : a ≤ t.0 = t.1 in omega arith);
        low = t.2;
        free = (λ c p q. both b t c p q (cases a c));
        below = b.3;
        above = t.4;
      },
      b.1,
      t.1,
    )
  where
    cases : (a c : ℕ) → (c ≤ a) ⊎ (a ≤ c)
    cases a c = grind arith

    both : (b : (lo : ℕ) × (lo ≤ a) × ((b : ℕ) → lo ≤ b → b ≤ a → is_in_no_block n b ≡ true) × ((b : ℕ) → lo ≡ suc b → is_in_no_block n b ≡ false)) (t : (hi : ℕ) × (a ≤ hi) × (hi ≤ top) × ((b : ℕ) → a ≤ b → b ≤ hi → is_in_no_block n b ≡ true) × (hi < top → is_in_no_block n (suc hi) ≡ false)) (c : ℕ) → b.0 ≤ c → c ≤ t.0 → (c ≤ a) ⊎ (a ≤ c) → is_in_no_block n c ≡ true
    both b t c p q (inl k) = b.2 c p k
    both b t c p q (inr k) = t.3 c k q

-- a member of a list of moved names stands at some place
member_moved : (y : Name) (k : ℕ) (ds : List Dest) → Member y (map (dest_name k) ds) → (j : ℕ) × (d : Dest) × (slice_get ds j ≡ Some d) × (dest_name k d ≡ y)
member_moved y k [] m = elim m [ ]
member_moved y k (d ∷ ds) (inl e) = (0, d, refl, e)
member_moved y k (d ∷ ds) (inr m) = let r = member_moved y k ds m in (suc r.0, r.1, r.2, r.3)

-- where a mapped address leads: through an entry, or by `over`, if no entry has it
record ByEntry (a : ℕ) (es : List Entry) (y : Name) : Type 0 where
  entry : ℕ
  dest : ℕ
  e : Entry
  d : Dest
  is_entry : slice_get es entry ≡ Some e
  is_dest : slice_get e.dests dest ≡ Some d
  inside : IsTrue (within a e.block)
  to : dest_name (a - e.block.lo) d ≡ y

record ByOver (a : ℕ) (over : Option ℕ) (es : List Entry) (y : Name) : Type 0 where
  node : ℕ
  is_over : over ≡ Some node
  none : in_some_entry a es ≡ false
  to : ◌≡◌ {A = Name} (record { node = node; addr = a }) y

-- by `over` it goes to the same address
over_moved : (a m : ℕ) → ◌≡◌ {A = Name} (dest_name a (record { node = m; addr = 0 })) (record { node = m; addr = a })
over_moved a m = let e : 0 + a ≡ a = omega arith in λ i. record { node = m; addr = e i }

by_mapped : (a : ℕ) (over : Option ℕ) (es : List Entry) (y : Name) → Member y (sent_names (by_entries a over es)) → ByEntry a es y ⊎ ByOver a over es y
by_mapped a over [] y m = go over m
  where
    go : (v : Option ℕ) → Member y (sent_names (by_over a v)) → ByEntry a [] y ⊎ ByOver a v [] y
    go None m = elim m [ ]
    go (Some n) (inr m) = elim m [ ]
    go (Some n) (inl e) = inr (record { node = n; is_over = refl; none = refl; to = (sym (over_moved a n) ∙ e) })
by_mapped a over (e ∷ es) y m = go (by_mapped a over es y) (within a e.block) refl m
  where
    go : (Member y (sent_names (by_entries a over es)) → ByEntry a es y ⊎ ByOver a over es y) → (b : Bool) → within a e.block ≡ b → Member y (sent_names (if b then sent_by a e else by_entries a over es)) → ByEntry a (e ∷ es) y ⊎ ByOver a over (e ∷ es) y
    go ih true eb m =
        let r = member_moved y (a - e.block.lo) e.dests m in
        inl (record { entry = 0; dest = r.0; e = e; d = r.1; is_entry = refl; is_dest = r.2; inside = eb; to = r.3 })
    go ih false eb m = elim (ih m) [
      | inl r ↦ inl (record { entry = suc r.entry; dest = r.dest; e = r.e; d = r.d; is_entry = r.is_entry; is_dest = r.is_dest; inside = r.inside; to = r.to })
      | inr r ↦ inr (record { node = r.node; is_over = r.is_over; none = (ap (λ b. b || in_some_entry a es) eb ∙ r.none); to = r.to })
    ]

-- a choice of a node that an address follows to a name
pub record ChosenBy (o : Option NodeDecl) (a : ℕ) (y : Name) : Type 0 where
  pub choice : Choice
  pub block : Block
  pub name : Name
  pub leads : ChoiceLeads o choice block name
  pub inside : IsTrue (within a block)
  pub to : moved_name (a - block.lo) name ≡ y

-- a step is a choice that the address follows
pub choice_of_step : (o : Option NodeDecl) (a : ℕ) (y : Name) → Member y (sent_names (decode a o)) → ChosenBy o a y
choice_of_step None a y m = elim m [ ]
choice_of_step (Some n) a y m = tests (nat_le a top) (in_some_block a n.accepts) refl refl m
  where
    over : nat_le a top ≡ true → in_some_block a n.accepts ≡ false → ByOver a n.over n.entries y → ChosenBy (Some n) a y
    over eb ec r =
        let free : is_in_no_block n a ≡ true = ap (λ b. not b && not (in_some_entry a n.entries)) ec ∙ ap not r.none in
        let low : a ≤ top = leb-true a top eb in
        let g = gap_at n a low free in
        let p : g.0 ≤ a = g.3 in
        let q : a ≤ g.1 = g.4 in
        let e : g.0 + (a - g.0) ≡ a = omega arith in
        record {
          choice = over_gap g.0 g.1;
          block = record { lo = g.0; hi = g.1 };
          name = record { node = r.node; addr = g.0 };
          leads = (r.node, r.is_over, g.2, refl, refl);
          inside = within_from a (record { lo = g.0; hi = g.1 }) p q;
          to = (ap (λ c. record { node = r.node; addr = c }) e ∙ r.to);
        }

    tests : (b c : Bool) → nat_le a top ≡ b → in_some_block a n.accepts ≡ c → Member y (sent_names (if b then (if c then None else by_entries a n.over n.entries) else None)) → ChosenBy (Some n) a y
    tests false c eb ec m = elim m [ ]
    tests true true eb ec m = elim m [ ]
    tests true false eb ec m = elim (by_mapped a n.over n.entries y m) [
      | inl r ↦ record { choice = mapped_by r.entry r.dest; block = r.e.block; name = record { node = r.d.node; addr = r.d.addr }; leads = (r.e, r.d, r.is_entry, r.is_dest, refl, refl); inside = r.inside; to = r.to }
      | inr r ↦ over eb ec r
    ]

-- a chain is a list of choices that its first name follows
pub choices_of_chain : (net : List NodeDecl) (k : ℕ) (x y : Name) → IsChain (Step net) k x y → (cs : List Choice) × (length cs ≡ k) × Follows net x cs y
choices_of_chain net zero x y c = ([], refl, c)
choices_of_chain net (suc k) x y c =
    let s = choice_of_step (slice_get net x.node) x.addr c.0 c.1 in
    let r = choices_of_chain net k c.0 y c.2 in
    (s.choice ∷ r.0, ap suc r.1, (s.block, s.name, s.leads, s.inside, subst (λ w. Follows net w r.0 y) (sym s.to) r.2))

moved_member : (k : ℕ) (ds : List Dest) (j : ℕ) (d : Dest) → slice_get ds j ≡ Some d → Member (dest_name k d) (map (dest_name k) ds)
moved_member k [] j d e = cc
moved_member k (x ∷ ds) zero d e = inl (ap (dest_name k) (some_same x d e))
moved_member k (x ∷ ds) (suc j) d e = inr (moved_member k ds j d e)

-- the entry that has an address is the one that maps it, where no two do
by_entry : (a : ℕ) (over : Option ℕ) (es : List Entry) (i j : ℕ) (e : Entry) (d : Dest) → ((p q : ℕ) (f g : Entry) → slice_get es p ≡ Some f → slice_get es q ≡ Some g → IsTrue (within a f.block) → IsTrue (within a g.block) → p ≡ q) → slice_get es i ≡ Some e → slice_get e.dests j ≡ Some d → IsTrue (within a e.block) → Member (dest_name (a - e.block.lo) d) (sent_names (by_entries a over es))
by_entry a over [] i j e d apart ei ed w = cc
by_entry a over (f ∷ es) zero j e d apart ei ed w =
    let s : f ≡ e = some_same f e ei in
    let m : Member (dest_name (a - e.block.lo) d) (map (dest_name (a - e.block.lo)) e.dests) = moved_member (a - e.block.lo) e.dests j d ed in
    let w' : within a f.block ≡ true = ap (λ t. within a t.block) s ∙ w in
    subst (λ b. Member (dest_name (a - e.block.lo) d) (sent_names (if b then sent_by a f else by_entries a over es))) (sym w') (subst (λ t. Member (dest_name (a - e.block.lo) d) (map (dest_name (a - t.block.lo)) t.dests)) (sym s) m)
by_entry a over (f ∷ es) (suc i) j e d apart ei ed w = go (by_entry a over es i j e d (λ p q g k x y u v. suc_same p q (apart (suc p) (suc q) g k x y u v)) ei ed w) (within a f.block) refl
  where
    suc_same : (p q : ℕ) → suc p ≡ suc q → p ≡ q
    suc_same p q e = omega arith

    go : Member (dest_name (a - e.block.lo) d) (sent_names (by_entries a over es)) → (b : Bool) → within a f.block ≡ b → Member (dest_name (a - e.block.lo) d) (sent_names (if b then sent_by a f else by_entries a over es))
    go m false eb = m
    go m true eb = (let z : 0 ≡ suc i = apart 0 (suc i) f e refl ei eb w in absurd (omega arith))

no_entry : (a : ℕ) (m : ℕ) (es : List Entry) → in_some_entry a es ≡ false → sent_names (by_entries a (Some m) es) ≡ record { node = m; addr = a } ∷ []
no_entry a m [] e = ap (λ (x : Name). x ∷ []) (over_moved a m)
no_entry a m (f ∷ es) e = go (no_entry a m es) (within a f.block) e
  where
    go : (in_some_entry a es ≡ false → sent_names (by_entries a (Some m) es) ≡ record { node = m; addr = a } ∷ []) → (b : Bool) → (b || in_some_entry a es) ≡ false → sent_names (if b then sent_by a f else by_entries a (Some m) es) ≡ record { node = m; addr = a } ∷ []
    go ih true x = cc
    go ih false x = ih x

-- what is free is in no block
pub free_parts : (n : NodeDecl) (a : ℕ) → is_in_no_block n a ≡ true → (in_some_block a n.accepts ≡ false) × (in_some_entry a n.entries ≡ false)
free_parts n a f = by (in_some_block a n.accepts) (in_some_entry a n.entries) f
  where
    by : (p q : Bool) → (not p && not q) ≡ true → (p ≡ false) × (q ≡ false)
    by false false x = (refl, refl)
    by false true x = cc
    by true q x = cc

-- a choice that an address follows is a step, in a node whose blocks are apart
step_of_choice : (o : Option NodeDecl) → ((n : NodeDecl) → o ≡ Some n → IsApart n) → (a : ℕ) (c : Choice) (b : Block) (d : Name) → ChoiceLeads o c b d → IsTrue (within a b) → Member (moved_name (a - b.lo) d) (sent_names (decode a o))
step_of_choice None apart a c b d e w = absurd e
step_of_choice (Some n) apart a c b d e w = by c e
  where
    y : Name
    y = moved_name (a - b.lo) d

    parts : (b.lo ≤ a) × (a ≤ b.hi)
    parts = within_to a b w

    decodes : nat_le a top ≡ true → in_some_block a n.accepts ≡ false → Member y (sent_names (by_entries a n.over n.entries)) → Member y (sent_names (decode a (Some n)))
    decodes low acc m = subst (λ p. Member y (sent_names (if p then (if in_some_block a n.accepts then None else by_entries a n.over n.entries) else None))) (sym low) (subst (λ p. Member y (sent_names (if p then None else by_entries a n.over n.entries))) (sym acc) m)

    by : (c : Choice) → ChoiceLeads (Some n) c b d → Member y (sent_names (decode a (Some n)))
    by (mapped_by i j) e =
        let r = apart n refl in
        let hi : a ≤ b.hi = parts.1 in
        let bh : b.hi ≡ e.0.block.hi = ap (λ t. t.hi) e.4 in
        let top' : e.0.block.hi ≤ top = (r.block i e.0 e.2).1 in
        let low : nat_le a top ≡ true = le-leb a top (omega arith) in
        let we : IsTrue (within a e.0.block) = subst (λ t. IsTrue (within a t)) e.4 w in
        let acc : in_some_block a n.accepts ≡ false = r.accept_apart i a e.0 e.2 we in
        let m = by_entry a n.over n.entries i j e.0 e.1 (λ p q f g s t u v. r.map_apart p q a f g s t u v) e.2 e.3 we in
        let m1 : Member (moved_name (a - e.0.block.lo) d) (sent_names (by_entries a n.over n.entries)) = subst (λ z. Member (moved_name (a - e.0.block.lo) z) (sent_names (by_entries a n.over n.entries))) (sym e.5) m in
        decodes low acc (subst (λ t. Member (moved_name (a - t.lo) d) (sent_names (by_entries a n.over n.entries))) (sym e.4) m1)
    by (over_gap lo hi) e =
        let g : IsGap n lo hi = e.2 in
        let bl : b.lo ≡ lo = ap (λ t. t.lo) e.3 in
        let bh : b.hi ≡ hi = ap (λ t. t.hi) e.3 in
        let p : b.lo ≤ a = parts.0 in
        let q : a ≤ b.hi = parts.1 in
        let t : hi ≤ top = g.low in
        let low : nat_le a top ≡ true = le-leb a top (omega arith) in
        let f = free_parts n a (g.free a (omega arith) (omega arith)) in
        let dn : d.node ≡ e.0 = ap (λ t. t.node) e.4 in
        let da : d.addr ≡ lo = ap (λ t. t.addr) e.4 in
        let s : d.addr + (a - b.lo) ≡ a = omega arith in
        let yz : record { node = e.0; addr = a } ≡ y = ap (λ t. record { node = t; addr = a }) (sym dn) ∙ ap (λ t. record { node = d.node; addr = t }) (sym s) in
        decodes low f.0 (subst (λ o. Member y (sent_names (by_entries a o n.entries))) (sym e.1) (subst (λ l. Member y l) (sym (no_entry a e.0 n.entries f.1)) (inl yz)))

-- a name that follows choices makes as many steps
pub chain_of_choices : (net : List NodeDecl) → All KeepsRules net → (cs : List Choice) (x y : Name) → Follows net x cs y → IsChain (Step net) (length cs) x y
chain_of_choices net none [] x y f = f
chain_of_choices net none (c ∷ cs) x y f =
    let z : Name = moved_name (x.addr - f.0.lo) f.1 in
    let s : Step net x z = step_of_choice (slice_get net x.node) (λ n e. node_apart net none x.node n e) x.addr c f.0 f.1 f.2 f.3 in
    (z, s, chain_of_choices net none cs z y f.4)

pub chain_is_walk : ChainIsWalk
chain_is_walk net checked k x y = ((λ c. choices_of_chain net k x y c), (λ w. subst (λ n. IsChain (Step net) n x y) w.1 (chain_of_choices net checked.each w.0 x y w.2)))
