-- The levels that the code makes are those of the net, and the tests over rows are the tests over names.
use Rattle.std.proofs.Common.{◌≡◌, ℕ, zero, suc, ◌+◌, ◌-◌, ◌<◌, ◌≤◌, ◌⊎◌, inl, inr, Bool, true, false, cond, not, ◌&&◌, ◌||◌, ◌==◌, List, [], ◌∷◌, ◌++◌, map, length, get_or, slice_get, Option, Some, None, refl, sym, ap, ◌∙◌, subst, arith, eqb-true}
use Rattle.std.specs.List.{filter, flat_map}
use Rattle.std.proofs.lemmas.Bool.{eq-eqb}
use Rattle.std.proofs.lemmas.List.{map-append, length_push}
use Rattle.dn_net.specs.declared.node.Name.{Name}
use Rattle.dn_net.specs.declared.node.NodeDecl.{NodeDecl}
use Rattle.dn_net.specs.Chain.{Member}
use Rattle.dn_net.specs.Decode.{top}
use Rattle.dn_net.specs.Walks.{Leg as NetLeg, legs_of, in_order, Walk, meets, onto, extensions_of, still_walks, level, starts_before, live_walks}
use Rattle.dn_net.specs.WalkRules.{least_name, comes_to, comes_back, goes_on}
use Rattle.dn_net.specs.Rules.{KeepsNodeRules}
use Rattle.dn_net.proofs.Least.{within_to, within_from}
use Rattle.dn_walk.specs.declared.way.Goal.TheVariants.{Anywhere, To}
use Rattle.dn_walk.specs.Rows.{BareWalk, bare_walk}
use Rattle.dn_walk.specs.Legs.{BareLeg, bare_leg, bare_legs}
use Rattle.dn_walk.specs.Levels.{bare_meets, bare_onto, bare_extensions_by, bare_extensions, bare_still_walk, bare_still_walks, bare_level, bare_before, bare_walks}
use Rattle.dn_walk.specs.Ways.{least_of, start_name, start_names, is_cyclic, bare_leads, level_leads, has_addr, meets_goal}
use Rattle.dn_net.proofs.Cycles.{IsLed, HasName, comes_to_is_row, goes_on_is_row}
use Rattle.dn_net.proofs.Firsts.{NoLater, lower_addr, IsLeastNameOr, least_name_is}
use Rattle.dn_walk.proofs.Least.{same_place, least_is, least_none}
use Rattle.dn_net.proofs.Levels.{level_is_row}
use Rattle.dn_base.proofs.Members.{map_member, member_map, any_member, member_any}
use Rattle.dn_base.proofs.Booleans.{and_parts, and_from, same_tests}
use Rattle.dn_net.proofs.Members.{member_filter, filter_member, member_order}
use Rattle.dn_walk.proofs.Sorting.{map_in_order}
use Rattle.dn_walk.proofs.BareWalks.{level-zero, level-suc, walks-zero, walks-suc}

-- the first level
bare_firsts : (n : ℕ) (net : List NodeDecl) → bare_still_walks n (length (map bare_legs net)) ≡ map bare_walk (still_walks n net)
bare_firsts n [] = refl
bare_firsts n (d ∷ net) = ap (λ l. bare_still_walk n ∷ l) (bare_firsts (suc n) net)

-- the legs of a node
legs_bare : (net : List NodeDecl) (i : ℕ) → get_or (map bare_legs net) i [] ≡ map bare_leg (legs_of (slice_get net i))
legs_bare [] i = refl
legs_bare (n ∷ net) zero = refl
legs_bare (n ∷ net) (suc i) = legs_bare net i

pub met_bare : (w : Walk) (ls : List NetLeg) → filter (bare_meets (bare_walk w)) (map bare_leg ls) ≡ map bare_leg (filter (meets w) ls)
met_bare w [] = refl
met_bare w (l ∷ ls) = by (meets w l) (met_bare w ls)
  where
    by : (b : Bool) → filter (bare_meets (bare_walk w)) (map bare_leg ls) ≡ map bare_leg (filter (meets w) ls) → cond b (bare_leg l ∷ filter (bare_meets (bare_walk w)) (map bare_leg ls)) (filter (bare_meets (bare_walk w)) (map bare_leg ls)) ≡ map bare_leg (cond b (l ∷ filter (meets w) ls) (filter (meets w) ls))
    by true e = ap (λ x. bare_leg l ∷ x) e
    by false e = e

onto_bare : (w : Walk) (l : NetLeg) → bare_onto (bare_walk w) (bare_leg l) ≡ bare_walk (onto w l)
onto_bare w l = λ i. record {
  start = w.start;
  lo = (onto w l).span.lo;
  hi = (onto w l).span.hi;
  end = l.to.node;
  base = (onto w l).to.addr;
  len = sym (length_push w.choices l.choice) i;
}

pub each_onto : (w : Walk) (ls : List NetLeg) → map (bare_onto (bare_walk w)) (map bare_leg ls) ≡ map bare_walk (map (onto w) ls)
each_onto w [] = refl
each_onto w (l ∷ ls) = ap (λ t. t ∷ map (bare_onto (bare_walk w)) (map bare_leg ls)) (onto_bare w l) ∙ ap (λ x. bare_walk (onto w l) ∷ x) (each_onto w ls)

extensions_bare : (net : List NodeDecl) (w : Walk) → bare_extensions (map bare_legs net) (bare_walk w) ≡ map bare_walk (extensions_of net w)
extensions_bare net w =
    ap (told_on' (bare_walk w)) (legs_bare net w.to.node)
    ∙ ap (map (bare_onto (bare_walk w))) (met_bare w (legs_of (slice_get net w.to.node)))
    ∙ each_onto w (filter (meets w) (legs_of (slice_get net w.to.node)))
  where
    told_on' : BareWalk → List BareLeg → List BareWalk
    told_on' t ls = bare_extensions_by ls t

flat_bare : (net : List NodeDecl) (ws : List Walk) → flat_map (bare_extensions (map bare_legs net)) (map bare_walk ws) ≡ map bare_walk (flat_map (extensions_of net) ws)
flat_bare net [] = refl
flat_bare net (w ∷ ws) = ap (λ x. x ++ flat_map (bare_extensions (map bare_legs net)) (map bare_walk ws)) (extensions_bare net w) ∙ ap (λ x. map bare_walk (extensions_of net w) ++ x) (flat_bare net ws) ∙ sym (map-append bare_walk (extensions_of net w) (flat_map (extensions_of net) ws))

pub level_bare : (net : List NodeDecl) (k : ℕ) → bare_level (map bare_legs net) k ≡ map bare_walk (level net k)
level_bare net zero = level-zero (map bare_legs net) ∙ bare_firsts 0 net
level_bare net (suc k) = level-suc (map bare_legs net) k ∙ ap (flat_map (bare_extensions (map bare_legs net))) (level_bare net k) ∙ flat_bare net (level net k)

pub walks_bare : (net : List NodeDecl) (k : ℕ) → bare_walks (map bare_legs net) k ≡ map bare_walk (live_walks net k)
walks_bare net zero = walks-zero (map bare_legs net)
walks_bare net (suc k) =
    walks-suc (map bare_legs net) k
    ∙ ap (λ x. x ++ in_order bare_before (bare_level (map bare_legs net) (suc k))) (walks_bare net k)
    ∙ ap (λ x. map bare_walk (live_walks net k) ++ in_order bare_before x) (level_bare net (suc k))
    ∙ ap (λ x. map bare_walk (live_walks net k) ++ x) (sym (map_in_order bare_walk starts_before bare_before (λ w v. refl) (level net (suc k))))
    ∙ sym (map-append bare_walk (live_walks net k) (in_order starts_before (level net (suc k))))

-- a row of a level is told by a walk of it
walk_of : (net : List NodeDecl) (k : ℕ) (t : BareWalk) → Member t (bare_level (map bare_legs net) k) → (w : Walk) × Member w (level net k) × (bare_walk w ≡ t)
walk_of net k t m = map_member bare_walk (level net k) t (subst (λ l. Member t l) (level_bare net k) m)

row_of : (net : List NodeDecl) (k : ℕ) (w : Walk) → Member w (level net k) → Member (bare_walk w) (bare_level (map bare_legs net) k)
row_of net k w m = subst (λ l. Member (bare_walk w) l) (sym (level_bare net k)) (member_map bare_walk (level net k) w m)

-- the least name that passes a test, from names that pass it among which each that passes has one no later
record Least (net : List NodeDecl) (p : Name → Bool) (names : List Name) : Type 0 where
  passes : (x : Name) → Member x names → (p x ≡ true) × (x.node < length net) × (x.addr ≤ top)
  covers : (x : Name) → x.node < length net → x.addr ≤ top → p x ≡ true → (y : Name) × Member y names × NoLater y x

least_name_of : (net : List NodeDecl) (p : Name → Bool) (names : List Name) → Least net p names → least_name net p ≡ least_of names
least_name_of net p names h = by (least_name net p) refl (least_name_is net p (least_name net p) refl)
  where
    by : (o : Option Name) → least_name net p ≡ o → IsLeastNameOr p (length net) o → o ≡ least_of names
    by None e f = sym (least_none names (λ x m. let r = h.passes x m in f x r.1 r.2 r.0))
    by (Some x) e f =
        let c = h.covers x f.node f.addr f.passes in
        let q = h.passes c.0 c.1 in
        let s : c.0 ≡ x = same_place c.0 x c.2 (f.least c.0 q.1 q.2 q.0) in
        sym (least_is names x record {
          member = subst (λ y. Member y names) s c.1;
          least = λ z m. let r = h.passes z m in f.least z r.1 r.2 r.0;
        })

no_later : (x : Name) (lo : ℕ) → lo ≤ x.addr → NoLater (record { node = x.node; addr = lo }) x
no_later x lo l = by (cases lo x.addr l)
  where
    cases : (a b : ℕ) → a ≤ b → (a < b) ⊎ (a ≡ b)
    cases a b l = grind arith

    by : (lo < x.addr) ⊎ (lo ≡ x.addr) → NoLater (record { node = x.node; addr = lo }) x
    by (inl m) = inl (lower_addr (record { node = x.node; addr = lo }) x refl m)
    by (inr e) = inr (λ i. record { node = x.node; addr = e i })

cyclic_parts : (t : BareWalk) → is_cyclic t ≡ true → (t.start ≡ t.end) × (t.base ≡ t.lo)
cyclic_parts t h = let b = and_parts (t.start == t.end) (t.base == t.lo) h in (eqb-true _ _ b.0, eqb-true _ _ b.1)

cyclic_from : (t : BareWalk) → t.start ≡ t.end → t.base ≡ t.lo → is_cyclic t ≡ true
cyclic_from t e f = and_from _ _ (eq-eqb t.start t.end e) (eq-eqb t.base t.lo f)

start_from : (b : Bool) (rows : List BareWalk) (x : Name) → Member x (start_names b rows) → (t : BareWalk) × Member t rows × (start_name t ≡ x) × ((not b || is_cyclic t) ≡ true)
start_from b rows x m =
    let p = map_member start_name (filter (λ t. not b || is_cyclic t) rows) x m in
    let q = member_filter (λ t. not b || is_cyclic t) rows p.0 p.1 in
    (p.0, q.0, p.2, q.1)

start_to : (b : Bool) (rows : List BareWalk) (t : BareWalk) → Member t rows → (not b || is_cyclic t) ≡ true → Member (start_name t) (start_names b rows)
start_to b rows t m h = member_map start_name (filter (λ t. not b || is_cyclic t) rows) t (filter_member (λ t. not b || is_cyclic t) rows t m h)

-- of the names that come back
pub least_back : (net : List NodeDecl) → KeepsNodeRules net → (k : ℕ) → least_name net (comes_back net k) ≡ least_of (start_names true (bare_level (map bare_legs net) k))
least_back net checked k = least_name_of net (comes_back net k) (start_names true (bare_level (map bare_legs net) k)) record { passes = passes; covers = covers }
  where
    back : (w : Walk) → Member w (level net k) → is_cyclic (bare_walk w) ≡ true → (comes_back net k (start_name (bare_walk w)) ≡ true) × (w.start < length net) × (w.span.lo ≤ top)
    back w m h =
        let r = level_is_row net checked k w m in
        let o : w.span.lo ≤ w.span.hi = r.order in
        let t : w.span.hi ≤ top = r.low in
        let l : w.span.lo ≤ top = omega arith in
        let c = cyclic_parts (bare_walk w) h in
        let n : w.start ≡ w.to.node = c.0 in
        let b : w.to.addr ≡ w.span.lo = c.1 in
        let a : w.to.addr + (w.span.lo - w.span.lo) ≡ w.span.lo = omega arith in
        let x : Name = record { node = w.start; addr = w.span.lo } in
        let led : IsLed net k x x w = record { row = m; start = refl; inside = within_from w.span.lo w.span (omega arith) o; to = (λ i. record { node = sym n i; addr = a i }) } in
        ((comes_to_is_row net checked k x x r.start l).1 (w, led), r.start, l)

    passes : (x : Name) → Member x (start_names true (bare_level (map bare_legs net) k)) → (comes_back net k x ≡ true) × (x.node < length net) × (x.addr ≤ top)
    passes x m =
        let s = start_from true (bare_level (map bare_legs net) k) x m in
        let v = walk_of net k s.0 s.1 in
        let c : is_cyclic (bare_walk v.0) ≡ true = ap is_cyclic v.2 ∙ s.3 in
        let n : start_name (bare_walk v.0) ≡ x = ap start_name v.2 ∙ s.2 in
        subst (λ y. (comes_back net k y ≡ true) × (y.node < length net) × (y.addr ≤ top)) n (back v.0 v.1 c)

    covers : (x : Name) → x.node < length net → x.addr ≤ top → comes_back net k x ≡ true → (y : Name) × Member y (start_names true (bare_level (map bare_legs net) k)) × NoLater y x
    covers x l t h =
        let r = (comes_to_is_row net checked k x x l t).0 h in
        let w = r.0 in
        let i = within_to x.addr w.span r.1.inside in
        let lo : w.span.lo ≤ x.addr = i.0 in
        let n : w.to.node ≡ x.node = ap (λ n. n.node) r.1.to in
        let a : w.to.addr + (x.addr - w.span.lo) ≡ x.addr = ap (λ n. n.addr) r.1.to in
        let b : w.to.addr ≡ w.span.lo = omega arith in
        let s : w.start ≡ x.node = r.1.start in
        let y : Name = record { node = w.start; addr = w.span.lo } in
        (y, start_to true (bare_level (map bare_legs net) k) (bare_walk w) (row_of net k w r.1.row) (cyclic_from (bare_walk w) (s ∙ sym n) b), subst (λ m. NoLater (record { node = m; addr = w.span.lo }) x) (sym s) (no_later x w.span.lo lo))

-- of the names from which so many steps go on
pub least_onward : (net : List NodeDecl) → KeepsNodeRules net → (k : ℕ) → least_name net (goes_on net k) ≡ least_of (start_names false (bare_level (map bare_legs net) k))
least_onward net checked k = least_name_of net (goes_on net k) (start_names false (bare_level (map bare_legs net) k)) record { passes = passes; covers = covers }
  where
    on : (w : Walk) → Member w (level net k) → (goes_on net k (start_name (bare_walk w)) ≡ true) × (w.start < length net) × (w.span.lo ≤ top)
    on w m =
        let r = level_is_row net checked k w m in
        let o : w.span.lo ≤ w.span.hi = r.order in
        let t : w.span.hi ≤ top = r.low in
        let l : w.span.lo ≤ top = omega arith in
        let x : Name = record { node = w.start; addr = w.span.lo } in
        let has : HasName net k x w = record { row = m; start = refl; inside = within_from w.span.lo w.span (omega arith) o } in
        ((goes_on_is_row net checked k x r.start l).1 (w, has), r.start, l)

    passes : (x : Name) → Member x (start_names false (bare_level (map bare_legs net) k)) → (goes_on net k x ≡ true) × (x.node < length net) × (x.addr ≤ top)
    passes x m =
        let s = start_from false (bare_level (map bare_legs net) k) x m in
        let v = walk_of net k s.0 s.1 in
        let n : start_name (bare_walk v.0) ≡ x = ap start_name v.2 ∙ s.2 in
        subst (λ y. (goes_on net k y ≡ true) × (y.node < length net) × (y.addr ≤ top)) n (on v.0 v.1)

    covers : (x : Name) → x.node < length net → x.addr ≤ top → goes_on net k x ≡ true → (y : Name) × Member y (start_names false (bare_level (map bare_legs net) k)) × NoLater y x
    covers x l t h =
        let r = (goes_on_is_row net checked k x l t).0 h in
        let w = r.0 in
        let lo : w.span.lo ≤ x.addr = (within_to x.addr w.span r.1.inside).0 in
        let s : w.start ≡ x.node = r.1.start in
        let y : Name = record { node = w.start; addr = w.span.lo } in
        (y, start_to false (bare_level (map bare_legs net) k) (bare_walk w) (row_of net k w r.1.row) refl, subst (λ m. NoLater (record { node = m; addr = w.span.lo }) x) (sym s) (no_later x w.span.lo lo))

row_among : (net : List NodeDecl) (k : ℕ) (t : BareWalk) → Member t (in_order bare_before (bare_level (map bare_legs net) k)) → (w : Walk) × Member w (level net k) × (bare_walk w ≡ t)
row_among net k t m = walk_of net k t ((member_order bare_before (bare_level (map bare_legs net) k) t).0 m)

among_row : (net : List NodeDecl) (k : ℕ) (w : Walk) → Member w (level net k) → Member (bare_walk w) (in_order bare_before (bare_level (map bare_legs net) k))
among_row net k w m = (member_order bare_before (bare_level (map bare_legs net) k) (bare_walk w)).1 (row_of net k w m)

pub leads_to_name : (net : List NodeDecl) → KeepsNodeRules net → (k : ℕ) (x y : Name) → x.node < length net → x.addr ≤ top → level_leads (To y) (in_order bare_before (bare_level (map bare_legs net) k)) x ≡ comes_to net y k x
leads_to_name net checked k x y l t = same_tests (level_leads (To y) rows x) (comes_to net y k x) there back
  where
    rows : List BareWalk
    rows = in_order bare_before (bare_level (map bare_legs net) k)

    led : (w : Walk) → Member w (level net k) → bare_leads (To y) x (bare_walk w) ≡ true → IsLed net k x y w
    led w m h =
        let a = and_parts (w.start == x.node) (has_addr (bare_walk w) x.addr && meets_goal (To y) x.addr (bare_walk w)) h in
        let b = and_parts (has_addr (bare_walk w) x.addr) (meets_goal (To y) x.addr (bare_walk w)) a.1 in
        let c = and_parts (w.to.node == y.node) ((w.to.addr + (x.addr - w.span.lo)) == y.addr) b.1 in
        record { row = m; start = eqb-true _ _ a.0; inside = b.0; to = (λ i. record { node = eqb-true _ _ c.0 i; addr = eqb-true _ _ c.1 i }) }

    there : level_leads (To y) rows x ≡ true → comes_to net y k x ≡ true
    there h =
        let r = any_member (bare_leads (To y) x) rows h in
        let v = row_among net k r.0 r.1 in
        (comes_to_is_row net checked k x y l t).1 (v.0, led v.0 v.1 (ap (bare_leads (To y) x) v.2 ∙ r.2))

    back : comes_to net y k x ≡ true → level_leads (To y) rows x ≡ true
    back h =
        let r = (comes_to_is_row net checked k x y l t).0 h in
        let w = r.0 in
        let goal = and_from (w.to.node == y.node) ((w.to.addr + (x.addr - w.span.lo)) == y.addr) (eq-eqb _ _ (ap (λ n. n.node) r.1.to)) (eq-eqb _ _ (ap (λ n. n.addr) r.1.to)) in
        member_any (bare_leads (To y) x) rows (bare_walk w) (among_row net k w r.1.row) (and_from (w.start == x.node) (has_addr (bare_walk w) x.addr && meets_goal (To y) x.addr (bare_walk w)) (eq-eqb _ _ r.1.start) (and_from (has_addr (bare_walk w) x.addr) (meets_goal (To y) x.addr (bare_walk w)) r.1.inside goal))

pub leads_anywhere : (net : List NodeDecl) → KeepsNodeRules net → (k : ℕ) (x : Name) → x.node < length net → x.addr ≤ top → level_leads Anywhere (in_order bare_before (bare_level (map bare_legs net) k)) x ≡ goes_on net k x
leads_anywhere net checked k x l t = same_tests (level_leads Anywhere rows x) (goes_on net k x) there back
  where
    rows : List BareWalk
    rows = in_order bare_before (bare_level (map bare_legs net) k)

    has : (w : Walk) → Member w (level net k) → bare_leads Anywhere x (bare_walk w) ≡ true → HasName net k x w
    has w m h =
        let a = and_parts (w.start == x.node) (has_addr (bare_walk w) x.addr && true) h in
        let b = and_parts (has_addr (bare_walk w) x.addr) true a.1 in
        record { row = m; start = eqb-true _ _ a.0; inside = b.0 }

    there : level_leads Anywhere rows x ≡ true → goes_on net k x ≡ true
    there h =
        let r = any_member (bare_leads Anywhere x) rows h in
        let v = row_among net k r.0 r.1 in
        (goes_on_is_row net checked k x l t).1 (v.0, has v.0 v.1 (ap (bare_leads Anywhere x) v.2 ∙ r.2))

    back : goes_on net k x ≡ true → level_leads Anywhere rows x ≡ true
    back h =
        let r = (goes_on_is_row net checked k x l t).0 h in
        let w = r.0 in
        member_any (bare_leads Anywhere x) rows (bare_walk w) (among_row net k w r.1.row) (and_from (w.start == x.node) (has_addr (bare_walk w) x.addr && true) (eq-eqb _ _ r.1.start) (and_from (has_addr (bare_walk w) x.addr) true r.1.inside refl))
