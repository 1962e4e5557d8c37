-- The steps of a split net are those of the net, but that an address which a divided node accepted goes to its new node.
use Rattle.std.proofs.Common.{◌≡◌, ℕ, zero, suc, ◌+◌, ◌-◌, ◌<◌, ◌≤◌, ◌⊎◌, inl, inr, Bool, true, false, if◌then◌else◌, ◌&&◌, ◌||◌, nat_le, List, [], ◌∷◌, ◌++◌, map, length, take, slice_get, Option, Some, None, refl, sym, ap, ◌∙◌, subst, arith, IsTrue}
use Rattle.std.proofs.lemmas.Bool.{false≢true}
use Rattle.dn_base.proofs.Booleans.{or_cases}
use Rattle.dn_base.proofs.Lists.{item_there}
use Rattle.dn_net.specs.declared.node.Block.{Block}
use Rattle.dn_net.specs.declared.node.Entry.{Entry}
use Rattle.dn_net.specs.declared.node.Name.{Name}
use Rattle.dn_net.specs.declared.node.NodeDecl.{NodeDecl}
use Rattle.dn_net.specs.Chain.{Member, IsChain}
use Rattle.dn_net.specs.Decode.{top, within, in_some_block, is_accepted, is_accepted_at, is_stop, is_stop_at, unit_of, refers_within, Sent, by_over, by_entries, decode, sent_names, steps, Step, step_limit, Resolves, StopsAt}
use Rattle.dn_net.specs.Legal.{IsLegalNet}
use Rattle.dn_net.specs.Rules.{KeepsNodeRules}
use Rattle.dn_net.specs.Walks.{in_some_entry}
use Rattle.dn_net.proofs.Apart.{IsApart, node_apart}
use Rattle.dn_net.proofs.Choices.{choice_of_step}
use Rattle.dn_net.proofs.Least.{within_to}
use Rattle.dn_net.proofs.Legs.{leads_within}
use Rattle.dn_net.proofs.Steps.{node_at}
use Rattle.dn_shape.specs.Split.{maximal_spans, is_divided, divided_count, entry_onto, sender_to, split_net, renamed_at, split_name}
use Rattle.dn_shape.specs.Views.{SplitKeepsViews}
use Rattle.dn_shape.proofs.Divided.{split_old_at, split_new_at}
use Rattle.dn_shape.proofs.Maximal.{spans_have}

-- an entry that has an address
entry_has : (a : ℕ) (es : List Entry) → in_some_entry a es ≡ true → (i : ℕ) × (e : Entry) × (slice_get es i ≡ Some e) × IsTrue (within a e.block)
entry_has a [] h = cc
entry_has a (e ∷ es) h = elim (or_cases (within a e.block) (in_some_entry a es) h) [
  | inl w ↦ (0, e, refl, w)
  | inr m ↦ (let r = entry_has a es m in (suc r.0, r.1, r.2, r.3))
]

-- no entry has an address that is accepted
pub none_maps : (n : NodeDecl) → IsApart n → (a : ℕ) → in_some_block a n.accepts ≡ true → in_some_entry a n.entries ≡ false
none_maps n apart a h = by (in_some_entry a n.entries) refl
  where
    by : (b : Bool) → in_some_entry a n.entries ≡ b → b ≡ false
    by false e = refl
    by true e = let r = entry_has a n.entries e in absurd (false≢true (sym (apart.accept_apart r.0 a r.1 r.2 r.3) ∙ h))

-- spans that do not have the address change nothing
pub not_sent : (m a : ℕ) (over : Option ℕ) (es : List Entry) (bs : List Block) → in_some_block a bs ≡ false → by_entries a over (es ++ map (entry_onto m) bs) ≡ by_entries a over es
not_sent m a over [] [] h = refl
not_sent m a over [] (b ∷ bs) h = by (within a b) h (not_sent m a over [] bs)
  where
    by : (p : Bool) → (p || in_some_block a bs) ≡ false → (in_some_block a bs ≡ false → by_entries a over (map (entry_onto m) bs) ≡ by_over a over) → ◌≡◌ {A = Option Sent} (if p then Some (record { dests = (entry_onto m b).dests; offset = a - b.lo }) else by_entries a over (map (entry_onto m) bs)) (by_over a over)
    by true h ih = cc
    by false h ih = ih h
not_sent m a over (e ∷ es) bs h = ap (λ (t : Option Sent). if within a e.block then Some (record { dests = e.dests; offset = a - e.block.lo }) else t) (not_sent m a over es bs h)

-- the first span that has the address sends it to the same address of the node
pub sent_on : (m a : ℕ) (over : Option ℕ) (es : List Entry) (bs : List Block) → in_some_entry a es ≡ false → in_some_block a bs ≡ true → sent_names (by_entries a over (es ++ map (entry_onto m) bs)) ≡ record { node = m; addr = a } ∷ []
sent_on m a over [] [] f h = cc
sent_on m a over [] (b ∷ bs) f h = by (within a b) refl h (sent_on m a over [] bs f)
  where
    by : (p : Bool) → within a b ≡ p → (p || in_some_block a bs) ≡ true → (in_some_block a bs ≡ true → sent_names (by_entries a over (map (entry_onto m) bs)) ≡ record { node = m; addr = a } ∷ []) → sent_names (if p then Some (record { dests = (entry_onto m b).dests; offset = a - b.lo }) else by_entries a over (map (entry_onto m) bs)) ≡ record { node = m; addr = a } ∷ []
    by true w h ih =
        let l : b.lo ≤ a = (within_to a b w).0 in
        let e : b.lo + (a - b.lo) ≡ a = omega arith in
        ap (λ k. record { node = m; addr = k } ∷ []) e
    by false w h ih = ih h
sent_on m a over (e ∷ es) bs f h = by (within a e.block) f (sent_on m a over es bs)
  where
    by : (p : Bool) → (p || in_some_entry a es) ≡ false → (in_some_entry a es ≡ false → in_some_block a bs ≡ true → sent_names (by_entries a over (es ++ map (entry_onto m) bs)) ≡ record { node = m; addr = a } ∷ []) → sent_names (if p then Some (record { dests = e.dests; offset = a - e.block.lo }) else by_entries a over (es ++ map (entry_onto m) bs)) ≡ record { node = m; addr = a } ∷ []
    by true f ih = cc
    by false f ih = ih f h

-- where a divided node accepted an address, it sends it to its new node
pub accepted_goes : (m a : ℕ) (n : NodeDecl) → IsApart n → is_accepted_at a (Some n) ≡ true → sent_names (decode a (Some (sender_to m n))) ≡ record { node = m; addr = a } ∷ []
accepted_goes m a n apart h = by (nat_le a top) refl (in_some_block a n.accepts) refl h
  where
    by : (p : Bool) → nat_le a top ≡ p → (q : Bool) → in_some_block a n.accepts ≡ q → (p && q) ≡ true → sent_names (if p then by_entries a n.over (n.entries ++ map (entry_onto m) (maximal_spans n.accepts)) else None) ≡ record { node = m; addr = a } ∷ []
    by false e q f h = cc
    by true e false f h = cc
    by true e true f h = sent_on m a n.over n.entries (maximal_spans n.accepts) (none_maps n apart a f) (spans_have a n.accepts ∙ ap (λ p. p && in_some_block a n.accepts) e ∙ f)

-- and any other address goes where it went
pub other_goes : (m a : ℕ) (n : NodeDecl) → is_accepted_at a (Some n) ≡ false → decode a (Some (sender_to m n)) ≡ decode a (Some n)
other_goes m a n h = by (nat_le a top) refl (in_some_block a n.accepts) refl h
  where
    by : (p : Bool) → nat_le a top ≡ p → (q : Bool) → in_some_block a n.accepts ≡ q → (p && q) ≡ false → ◌≡◌ {A = Option Sent} (if p then by_entries a n.over (n.entries ++ map (entry_onto m) (maximal_spans n.accepts)) else None) (if p then (if q then None else by_entries a n.over n.entries) else None)
    by false e q f h = refl
    by true e true f h = cc
    by true e false f h = not_sent m a n.over n.entries (maximal_spans n.accepts) (spans_have a n.accepts ∙ ap (λ p. p && in_some_block a n.accepts) e ∙ f)

-- an address that is accepted goes nowhere
pub accepted_stays : (a : ℕ) (n : NodeDecl) → is_accepted_at a (Some n) ≡ true → decode a (Some n) ≡ None
accepted_stays a n h = by (nat_le a top) (in_some_block a n.accepts) h
  where
    by : (p q : Bool) → (p && q) ≡ true → ◌≡◌ {A = Option Sent} (if p then (if q then None else by_entries a n.over n.entries) else None) None
    by true true h = refl
    by true false h = cc
    by false q h = cc

-- a chain of one step more
pub chain_last : {X : Type 0} (S : X → X → Type 0) (k : ℕ) (x y z : X) → IsChain S k x y → S y z → IsChain S (suc k) x z
chain_last S zero x y z c s = (z, subst (λ w. S w z) (sym c) s, refl)
chain_last S (suc k) x y z c s = (c.0, c.1, chain_last S k c.0 y z c.2 s)

-- a step leads to a node that is there
pub step_there : (net : List NodeDecl) → KeepsNodeRules net → (x y : Name) → Step net x y → y.node < length net
step_there net rules x y s =
    let c = choice_of_step (slice_get net x.node) x.addr y s in
    let w = leads_within (length net) (slice_get net x.node) (λ n e. node_at (refers_within (length net)) net x.node rules.closed n e) c.choice c.block c.name c.leads in
    subst (λ (z : Name). z.node < length net) c.to w

module _ (net : List NodeDecl) (legal : IsLegalNet net) where
  -- the number of the new node of a node
  abbrev new_number : ℕ → ℕ
  new_number i = length net + divided_count (take i net)

  abbrev new_name : Name → Name
  new_name x = record { node = new_number x.node; addr = x.addr }

  apart_at : (i : ℕ) (n : NodeDecl) → slice_get net i ≡ Some n → IsApart n
  apart_at i n at = node_apart net legal.nodes.each i n at

  -- a node that is not divided stays, and a divided one sends to its new node
  plain_at : (i : ℕ) (n : NodeDecl) → slice_get net i ≡ Some n → is_divided n ≡ false → slice_get (split_net net) i ≡ Some n
  plain_at i n at d = split_old_at net i n at ∙ ap (λ b. Some (if b then sender_to (new_number i) n else n)) d

  divided_at : (i : ℕ) (n : NodeDecl) → slice_get net i ≡ Some n → is_divided n ≡ true → slice_get (split_net net) i ≡ Some (sender_to (new_number i) n)
  divided_at i n at d = split_old_at net i n at ∙ ap (λ b. Some (if b then sender_to (new_number i) n else n)) d

  -- a name that is not accepted, or whose node is not divided, has the same steps
  other_steps : (x : Name) (n : NodeDecl) → slice_get net x.node ≡ Some n → is_accepted_at x.addr (Some n) ≡ false → steps (split_net net) x ≡ steps net x
  other_steps x n at no_accept = by (is_divided n) refl
    where
      by : (b : Bool) → is_divided n ≡ b → steps (split_net net) x ≡ steps net x
      by false d = ap (λ o. sent_names (decode x.addr o)) (plain_at x.node n at d ∙ sym at)
      by true d =
          ap (λ o. sent_names (decode x.addr o)) (divided_at x.node n at d)
          ∙ ap sent_names (other_goes (new_number x.node) x.addr n no_accept)
          ∙ sym (ap (λ o. sent_names (decode x.addr o)) at)

  plain_steps : (x : Name) (n : NodeDecl) → slice_get net x.node ≡ Some n → is_divided n ≡ false → steps (split_net net) x ≡ steps net x
  plain_steps x n at d = ap (λ o. sent_names (decode x.addr o)) (plain_at x.node n at d ∙ sym at)

  -- a name that a divided node accepted has a step to its new node alone
  new_steps : (x : Name) (n : NodeDecl) → slice_get net x.node ≡ Some n → is_divided n ≡ true → is_accepted_at x.addr (Some n) ≡ true → steps (split_net net) x ≡ new_name x ∷ []
  new_steps x n at d h = ap (λ o. sent_names (decode x.addr o)) (divided_at x.node n at d) ∙ accepted_goes (new_number x.node) x.addr n (apart_at x.node n at) h

  -- a new node has no step
  ends_there : (x : Name) (n : NodeDecl) (y : Name) → slice_get net x.node ≡ Some n → is_divided n ≡ true → Step (split_net net) (new_name x) y → ⊥
  ends_there x n y at d s =
      let r = split_new_at net x.node n at d in
      go (nat_le x.addr top) (in_some_block x.addr (maximal_spans n.accepts)) (subst (λ o. Member y (sent_names (decode x.addr o))) r.at s)
    where
      go : (p q : Bool) → Member y (sent_names (if p then (if q then None else None) else None)) → ⊥
      go true true m = m
      go true false m = m
      go false q m = m

  -- a step of the net is one of the split net
  step_kept : (x y : Name) → Step net x y → Step (split_net net) x y
  step_kept x y s = by (slice_get net x.node) refl s
    where
      accepting : (n : NodeDecl) → slice_get net x.node ≡ Some n → Member y (sent_names (decode x.addr (Some n))) → (b : Bool) → is_accepted_at x.addr (Some n) ≡ b → Step (split_net net) x y
      accepting n at m true e = absurd (subst (λ t. Member y (sent_names t)) (accepted_stays x.addr n e) m)
      accepting n at m false e = subst (λ l. Member y l) (sym (other_steps x n at e)) s

      by : (o : Option NodeDecl) → slice_get net x.node ≡ o → Member y (sent_names (decode x.addr o)) → Step (split_net net) x y
      by None e m = absurd m
      by (Some n) e m = accepting n e m (is_accepted_at x.addr (Some n)) refl

  chain_kept : (k : ℕ) (x y : Name) → IsChain (Step net) k x y → IsChain (Step (split_net net)) k x y
  chain_kept zero x y c = c
  chain_kept (suc k) x y c = (c.0, step_kept x c.0 c.1, chain_kept k c.0 y c.2)

  -- a chain of the split net that ends at the new node of a divided one
  record Renamed (k : ℕ) (x y : Name) : Type 0 where
    count : ℕ
    most : count ≤ k
    end : Name
    chain : IsChain (Step net) count x end
    node : NodeDecl
    at : slice_get net end.node ≡ Some node
    divided : is_divided node ≡ true
    accepted : is_accepted_at end.addr (Some node) ≡ true
    is : new_name end ≡ y

  -- a chain of the split net is one of the net, or ends so
  chain_back : (k : ℕ) (x y : Name) → x.node < length net → IsChain (Step (split_net net)) k x y → (IsChain (Step net) k x y × (y.node < length net)) ⊎ Renamed k x y
  chain_back zero x y l c = inl (c, subst (λ (z : Name). z.node < length net) c l)
  chain_back (suc k) x y l c = by (λ v there d. chain_back k v y there d) (item_there net x.node l)
    where
      later : Step net x c.0 → (IsChain (Step net) k c.0 y × (y.node < length net)) ⊎ Renamed k c.0 y → (IsChain (Step net) (suc k) x y × (y.node < length net)) ⊎ Renamed (suc k) x y
      later s (inl r) = inl ((c.0, s, r.0), r.1)
      later s (inr r) = inr record { count = suc r.count; most = (let m : r.count ≤ k = r.most in omega arith); end = r.end; chain = (c.0, s, r.chain); node = r.node; at = r.at; divided = r.divided; accepted = r.accepted; is = r.is }

      same : ((v : Name) → v.node < length net → IsChain (Step (split_net net)) k v y → (IsChain (Step net) k v y × (y.node < length net)) ⊎ Renamed k v y) → (n : NodeDecl) → steps (split_net net) x ≡ steps net x → (IsChain (Step net) (suc k) x y × (y.node < length net)) ⊎ Renamed (suc k) x y
      same ih n e =
          let s : Step net x c.0 = subst (λ l. Member c.0 l) e c.1 in
          later s (ih c.0 (step_there net legal.nodes x c.0 s) c.2)

      here : (n : NodeDecl) → slice_get net x.node ≡ Some n → is_divided n ≡ true → is_accepted_at x.addr (Some n) ≡ true → new_name x ≡ c.0 → (j : ℕ) → j ≡ k → IsChain (Step (split_net net)) j c.0 y → Renamed (suc k) x y
      here n at d h e zero f r = record { count = 0; most = omega arith; end = x; chain = refl; node = n; at = at; divided = d; accepted = h; is = e ∙ r }
      here n at d h e (suc j) f r = absurd (ends_there x n r.0 at d (subst (λ w. Step (split_net net) w r.0) (sym e) r.1))

      only : {X : Type 0} (u v : X) → Member u (v ∷ []) → v ≡ u
      only u v (inl e) = e
      only u v (inr m) = absurd m

      accepting : ((v : Name) → v.node < length net → IsChain (Step (split_net net)) k v y → (IsChain (Step net) k v y × (y.node < length net)) ⊎ Renamed k v y) → (n : NodeDecl) → slice_get net x.node ≡ Some n → is_divided n ≡ true → (b : Bool) → is_accepted_at x.addr (Some n) ≡ b → (IsChain (Step net) (suc k) x y × (y.node < length net)) ⊎ Renamed (suc k) x y
      accepting ih n at d false h = same ih n (other_steps x n at h)
      accepting ih n at d true h = inr (here n at d h (only c.0 (new_name x) (subst (λ l. Member c.0 l) (new_steps x n at d h) c.1)) k refl c.2)

      dividing : ((v : Name) → v.node < length net → IsChain (Step (split_net net)) k v y → (IsChain (Step net) k v y × (y.node < length net)) ⊎ Renamed k v y) → (n : NodeDecl) → slice_get net x.node ≡ Some n → (b : Bool) → is_divided n ≡ b → (IsChain (Step net) (suc k) x y × (y.node < length net)) ⊎ Renamed (suc k) x y
      dividing ih n at false d = same ih n (plain_steps x n at d)
      dividing ih n at true d = accepting ih n at d (is_accepted_at x.addr (Some n)) refl

      by : ((v : Name) → v.node < length net → IsChain (Step (split_net net)) k v y → (IsChain (Step net) k v y × (y.node < length net)) ⊎ Renamed k v y) → (n : NodeDecl) × (slice_get net x.node ≡ Some n) → (IsChain (Step net) (suc k) x y × (y.node < length net)) ⊎ Renamed (suc k) x y
      by ih (n, at) = dividing ih n at (is_divided n) refl

  -- no chain of the net has so many steps as resolution follows
  fewer : (k : ℕ) (x y : Name) → k ≤ step_limit → IsChain (Step net) k x y → suc k ≤ step_limit
  fewer k x y l c = by (cases k step_limit l)
    where
      cases : (k n : ℕ) → k ≤ n → (k ≡ n) ⊎ (suc k ≤ n)
      cases k n l = grind arith

      by : (k ≡ step_limit) ⊎ (suc k ≤ step_limit) → suc k ≤ step_limit
      by (inl e) = absurd (legal.walks.shallow x y (subst (λ j. IsChain (Step net) j x y) e c))
      by (inr m) = m

  -- the new node accepts what the divided one did
  new_accepts : (x : Name) (n : NodeDecl) → slice_get net x.node ≡ Some n → is_divided n ≡ true → is_accepted_at x.addr (Some n) ≡ true → is_accepted (split_net net) (new_name x) ≡ true
  new_accepts x n at d h =
      let r = split_new_at net x.node n at d in
      ap (is_accepted_at x.addr) r.at ∙ ap (λ p. nat_le x.addr top && p) (spans_have x.addr n.accepts) ∙ go (nat_le x.addr top) (in_some_block x.addr n.accepts) h
    where
      go : (p q : Bool) → (p && q) ≡ true → (p && (p && q)) ≡ true
      go true q h = h
      go false q h = h

  resolve_there : (x z : Name) → Resolves net x z → Resolves (split_net net) x (split_name net z)
  resolve_there x z (h, (k, l, c)) = by (slice_get net z.node) refl h
    where
      dividing : (n : NodeDecl) → slice_get net z.node ≡ Some n → is_accepted_at z.addr (Some n) ≡ true → (b : Bool) → is_divided n ≡ b → Resolves (split_net net) x (if b then new_name z else z)
      dividing n at a true d =
          let s : Step (split_net net) z (new_name z) = subst (λ l. Member (new_name z) l) (sym (new_steps z n at d a)) (inl refl) in
          (new_accepts z n at d a, (suc k, fewer k x z l c, chain_last (Step (split_net net)) k x z (new_name z) (chain_kept k x z c) s))
      dividing n at a false d = (ap (is_accepted_at z.addr) (plain_at z.node n at d) ∙ a, (k, l, chain_kept k x z c))

      by : (o : Option NodeDecl) → slice_get net z.node ≡ o → is_accepted_at z.addr o ≡ true → Resolves (split_net net) x (renamed_at net z o)
      by None e a = absurd (false≢true a)
      by (Some n) e a = dividing n e a (is_divided n) refl

  named_new : (z : Name) (n : NodeDecl) → slice_get net z.node ≡ Some n → is_divided n ≡ true → split_name net z ≡ new_name z
  named_new z n at d = ap (renamed_at net z) at ∙ ap (λ b. if b then new_name z else z) d

  named_same : (z : Name) (n : NodeDecl) → slice_get net z.node ≡ Some n → is_divided n ≡ false → split_name net z ≡ z
  named_same z n at d = ap (renamed_at net z) at ∙ ap (λ b. if b then new_name z else z) d

  resolve_back : (x y : Name) → x.node < length net → Resolves (split_net net) x y → (z : Name) × Resolves net x z × (split_name net z ≡ y)
  resolve_back x y there (h, (k, l, c)) = by (chain_back k x y there c)
    where
      nothing : (p : Bool) → (p && false) ≡ true → ⊥
      nothing true e = false≢true e
      nothing false e = false≢true e

      dividing : IsChain (Step net) k x y → (n : NodeDecl) → slice_get net y.node ≡ Some n → (b : Bool) → is_divided n ≡ b → (z : Name) × Resolves net x z × (split_name net z ≡ y)
      dividing r n at true d = absurd (nothing (nat_le y.addr top) (sym (ap (is_accepted_at y.addr) (divided_at y.node n at d)) ∙ h))
      dividing r n at false d = (y, (ap (is_accepted_at y.addr) (at ∙ sym (plain_at y.node n at d)) ∙ h, (k, l, r)), named_same y n at d)

      by : (IsChain (Step net) k x y × (y.node < length net)) ⊎ Renamed k x y → (z : Name) × Resolves net x z × (split_name net z ≡ y)
      by (inl (r, m)) = let t = item_there net y.node m in dividing r t.0 t.1 (is_divided t.0) refl
      by (inr r) =
          let m : r.count ≤ k = r.most in
          (r.end, (ap (is_accepted_at r.end.addr) r.at ∙ r.accepted, (r.count, omega arith, r.chain)), named_new r.end r.node r.at r.divided ∙ r.is)

  -- the unit that a node is stays
  unit_kept : (i : ℕ) (n : NodeDecl) → slice_get net i ≡ Some n → unit_of (slice_get (split_net net) i) ≡ unit_of (slice_get net i)
  unit_kept i n at = by (is_divided n) refl
    where
      by : (b : Bool) → is_divided n ≡ b → unit_of (slice_get (split_net net) i) ≡ unit_of (slice_get net i)
      by true d = ap unit_of (divided_at i n at d) ∙ sym (ap unit_of at)
      by false d = ap unit_of (plain_at i n at d ∙ sym at)

  stop_there : (x y : Name) → StopsAt net x y → StopsAt (split_net net) x y
  stop_there x y (h, (k, l, c)) = by (slice_get net y.node) refl h
    where
      by : (o : Option NodeDecl) → slice_get net y.node ≡ o → is_stop_at y.addr (unit_of o) ≡ true → StopsAt (split_net net) x y
      by None e a = absurd (false≢true a)
      by (Some n) e a = (ap (is_stop_at y.addr) (unit_kept y.node n e) ∙ h, (k, l, chain_kept k x y c))

  stop_back : (x y : Name) → x.node < length net → StopsAt (split_net net) x y → StopsAt net x y
  stop_back x y there (h, (k, l, c)) = by (chain_back k x y there c)
    where
      by : (IsChain (Step net) k x y × (y.node < length net)) ⊎ Renamed k x y → StopsAt net x y
      by (inl (r, m)) =
          let t = item_there net y.node m in
          (ap (is_stop_at y.addr) (sym (unit_kept y.node t.0 t.1)) ∙ h, (k, l, r))
      by (inr r) =
          let q = split_new_at net r.end.node r.node r.at r.divided in
          let g : is_stop (split_net net) (new_name r.end) ≡ true = subst (λ w. is_stop (split_net net) w ≡ true) (sym r.is) h in
          absurd (false≢true (sym (ap (λ o. is_stop_at r.end.addr (unit_of o)) q.at) ∙ g))

pub split_keeps_views : SplitKeepsViews
split_keeps_views net legal = record {
  resolve = λ x y there. (
    λ r. resolve_back net legal x y there r,
    λ r. subst (λ w. Resolves (split_net net) x w) r.2 (resolve_there net legal x r.0 r.1),
  );
  stops = λ x y there. (λ r. stop_back net legal x y there r, λ r. stop_there net legal x y r);
}
