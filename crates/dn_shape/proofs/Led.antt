-- The nodes of a net past another keep the node rules, and none leads to that one.
use Rattle.std.proofs.Common.{◌≡◌, ℕ, suc, ◌+◌, ◌-◌, ◌<◌, ◌≤◌, ◌⊎◌, inl, inr, Bool, true, false, not, if◌then◌else◌, ◌&&◌, ◌||◌, nat_le, nat_lt, ◌==◌, List, [], ◌∷◌, map, length, slice_get, Option, Some, None, option_map, is_some, refl, sym, ap, ◌∙◌, subst, arith, IsTrue, leb-true, le-leb, ltb-true, eqb-true}
use Rattle.std.specs.List.{list_all, list_any}
use Rattle.std.proofs.lemmas.Bool.{false≢true, true≢false, lt-ltb}
use Rattle.dn_base.specs.Members.{Member}
use Rattle.dn_base.proofs.Booleans.{and_parts, and_from}
use Rattle.dn_interval.specs.declared.row.End.{End}
use Rattle.dn_interval.specs.declared.span.TheConstants.{TOP}
use Rattle.dn_interval.specs.Rows.{further_end as end_moved, AllAbove, Ascending, HasEnds}
use Rattle.dn_interval.specs.Listed.{Seen, SeenApart, SeenGive}
use Rattle.dn_interval.proofs.Fronts.{listed_are_normal}
use Rattle.dn_interval.proofs.Normal.{member_moved}
use Rattle.dn_net.specs.declared.node.Dest.{Dest}
use Rattle.dn_net.specs.declared.node.Entry.{Entry}
use Rattle.dn_net.specs.declared.node.Name.{Name}
use Rattle.dn_net.specs.declared.node.NodeDecl.{NodeDecl}
use Rattle.dn_net.specs.declared.node.Unit.{Unit as UnitPart}
use Rattle.dn_net.specs.Decode.{top, within, in_some_block, decode, sent_names, steps, Step, is_formed, formed_by, is_unit, is_bare, refers_within, over_within, ports_within, is_closed}
use Rattle.dn_net.specs.Legal.{IsLegalNet, node_limit}
use Rattle.dn_net.specs.Rules.{block_in_range, dest_in_range, entry_in_range, same_dest, dests_repeat, unit_repeats, is_vectors, accepted_count, KeepsRules, KeepsNodeRules}
use Rattle.dn_net.proofs.Apart.{node_apart}
use Rattle.dn_net.proofs.Choices.{choice_of_step}
use Rattle.dn_net.proofs.Kept.{kept_at}
use Rattle.dn_net.proofs.Least.{maps_at, maps_at-cons, within_to}
use Rattle.dn_net.proofs.Legs.{leads_in_range}
use Rattle.dn_net.proofs.Steps.{node_at}
use Rattle.dn_walk.proofs.Ends.{end_in}
use Rattle.dn_shape.specs.Absorb.{is_over_to, maps_to, leads_to, steps_past, rows_past, dest_of_end, entry_of_row, is_rewritten, node_led_past, node_past, nodes_past, net_past}
use Rattle.dn_shape.specs.Views.{AbsorbKeepsRules}
use Rattle.dn_shape.proofs.Absorbed.{Fit, fit_of, net_past_at, own_never}
use Rattle.dn_shape.proofs.Named.{NamesDiffer, texts, differ_as}
use Rattle.dn_shape.proofs.Passing.{end_name, ends_past, ends_past_ascend, past_in}
use Rattle.dn_shape.proofs.Ruled.{sends_no_vectors}
use Rattle.dn_shape.proofs.Renamed.{step_there, accepted_stays}
use Rattle.dn_shape.proofs.Sending.{all_of_each, none_of_each, all_each, part_stays}

-- a step keeps in range
step_low : (net : List NodeDecl) → KeepsNodeRules net → (x y : Name) → Step net x y → y.addr ≤ top
step_low net rules x y s =
    let c = choice_of_step (slice_get net x.node) x.addr y s in
    let r = leads_in_range (slice_get net x.node) (λ n e. node_apart net rules.each x.node n e) c.choice c.block c.name c.leads in
    let w = within_to x.addr c.block c.inside in
    let lo : c.block.lo ≤ x.addr = w.0 in
    let hi : x.addr ≤ c.block.hi = w.1 in
    let far : c.name.addr + (c.block.hi - c.block.lo) ≤ top = r.2 in
    let near : c.name.addr + (x.addr - c.block.lo) ≤ top = omega arith in
    subst (λ (z : Name). z.addr ≤ top) c.to near

-- a row among rows that stand apart
row_apart : (from : ℕ) (rows : List Seen) (r : Seen) → SeenApart from rows → Member r rows → (from ≤ r.lo) × (r.lo ≤ r.hi) × (r.hi ≤ TOP) × HasEnds r.ends × Ascending r.ends
row_apart from [] r apart m = absurd m
row_apart from (s ∷ rows) r apart (inl e) = subst (λ q. (from ≤ q.lo) × (q.lo ≤ q.hi) × (q.hi ≤ TOP) × HasEnds q.ends × Ascending q.ends) e (apart.0, apart.1, apart.2, apart.3, apart.4)
row_apart from (s ∷ rows) r apart (inr m) =
    let h = row_apart (suc s.hi) rows r apart.6 m in
    let l : from ≤ s.lo = apart.0 in
    let k : s.lo ≤ s.hi = apart.1 in
    let j : suc s.hi ≤ r.lo = h.0 in
    (omega arith, h.1, h.2, h.3, h.4)

row_gives : (rows : List Seen) (r : Seen) (a : ℕ) (y : End) → Member r rows → r.lo ≤ a → a ≤ r.hi → Member y (map (end_moved (a - r.lo)) r.ends) → SeenGive rows a y
row_gives [] r a y m l h g = absurd m
row_gives (s ∷ rows) r a y (inl e) l h g = inl (subst (λ q. (q.lo ≤ a) × (a ≤ q.hi) × Member y (map (end_moved (a - q.lo)) q.ends)) (sym e) (l, h, g))
row_gives (s ∷ rows) r a y (inr m) l h g = inr (row_gives rows r a y m l h g)

-- a row as an entry, among entries
row_of_entry : (rows : List Seen) (e : Entry) → Member e (map entry_of_row rows) → (r : Seen) × Member r rows × (entry_of_row r ≡ e)
row_of_entry [] e m = absurd m
row_of_entry (r ∷ rows) e (inl s) = (r, inl refl, s)
row_of_entry (r ∷ rows) e (inr m) = let q = row_of_entry rows e m in (q.0, inr q.1, q.2)

-- an address below rows lies in none
maps_below : (from : ℕ) (rows : List Seen) (a : ℕ) → SeenApart from rows → a < from → maps_at (map entry_of_row rows) a ≡ 0
maps_below from [] a apart l = refl
maps_below from (r ∷ rows) a apart l = by (λ m. maps_below (suc r.hi) rows a apart.6 m) (within a (record { lo = r.lo; hi = r.hi })) refl
  where
    by : (a < suc r.hi → maps_at (map entry_of_row rows) a ≡ 0) → (b : Bool) → within a (record { lo = r.lo; hi = r.hi }) ≡ b → maps_at (map entry_of_row (r ∷ rows)) a ≡ 0
    by ih true w =
        let k : r.lo ≤ a = (within_to a (record { lo = r.lo; hi = r.hi }) w).0 in
        let f : from ≤ r.lo = apart.0 in
        absurd (omega arith)
    by ih false w =
        let f : from ≤ r.lo = apart.0 in
        let o : r.lo ≤ r.hi = apart.1 in
        let c : maps_at (map entry_of_row (r ∷ rows)) a ≡ 0 + maps_at (map entry_of_row rows) a = maps_at-cons (entry_of_row r) (map entry_of_row rows) a ∙ ap (λ p. (if p then 1 else 0) + maps_at (map entry_of_row rows) a) w in
        let d = ih (omega arith) in
        omega arith

-- an address lies in no row, or in one
record InRow (rows : List Seen) (a : ℕ) : Type 0 where
  row : Seen
  member : Member row rows
  first : row.lo ≤ a
  last : a ≤ row.hi

maps_once : (from : ℕ) (rows : List Seen) (a : ℕ) → SeenApart from rows → (maps_at (map entry_of_row rows) a ≡ 0) ⊎ ((maps_at (map entry_of_row rows) a ≡ 1) × InRow rows a)
maps_once from [] a apart = inl refl
maps_once from (r ∷ rows) a apart = by (within a (record { lo = r.lo; hi = r.hi })) refl (maps_once (suc r.hi) rows a apart.6)
  where
    later : InRow rows a → InRow (r ∷ rows) a
    later h = record { row = h.row; member = inr h.member; first = h.first; last = h.last }

    by : (b : Bool) → within a (record { lo = r.lo; hi = r.hi }) ≡ b → (maps_at (map entry_of_row rows) a ≡ 0) ⊎ ((maps_at (map entry_of_row rows) a ≡ 1) × InRow rows a) → (maps_at (map entry_of_row (r ∷ rows)) a ≡ 0) ⊎ ((maps_at (map entry_of_row (r ∷ rows)) a ≡ 1) × InRow (r ∷ rows) a)
    by true w ih =
        let k = within_to a (record { lo = r.lo; hi = r.hi }) w in
        let hi : a ≤ r.hi = k.1 in
        let c : maps_at (map entry_of_row (r ∷ rows)) a ≡ 1 + maps_at (map entry_of_row rows) a = maps_at-cons (entry_of_row r) (map entry_of_row rows) a ∙ ap (λ p. (if p then 1 else 0) + maps_at (map entry_of_row rows) a) w in
        let d = maps_below (suc r.hi) rows a apart.6 (omega arith) in
        inr (omega arith, record { row = r; member = inl refl; first = k.0; last = k.1 })
    by false w ih =
        let c : maps_at (map entry_of_row (r ∷ rows)) a ≡ 0 + maps_at (map entry_of_row rows) a = maps_at-cons (entry_of_row r) (map entry_of_row rows) a ∙ ap (λ p. (if p then 1 else 0) + maps_at (map entry_of_row rows) a) w in
        go c ih
      where
        go : maps_at (map entry_of_row (r ∷ rows)) a ≡ 0 + maps_at (map entry_of_row rows) a → (maps_at (map entry_of_row rows) a ≡ 0) ⊎ ((maps_at (map entry_of_row rows) a ≡ 1) × InRow rows a) → (maps_at (map entry_of_row (r ∷ rows)) a ≡ 0) ⊎ ((maps_at (map entry_of_row (r ∷ rows)) a ≡ 1) × InRow (r ∷ rows) a)
        go c (inl e) = inl (omega arith)
        go c (inr (e, h)) = inr (omega arith, later h)

-- names that ascend are different
apart_dests : (x : End) (xs : List End) → AllAbove x xs → list_any (same_dest (dest_of_end x)) (map dest_of_end xs) ≡ false
apart_dests x [] up = refl
apart_dests x (y ∷ ys) up = by (apart_dests x ys up.1) (same_dest (dest_of_end x) (dest_of_end y)) refl
  where
    never : nat_lt x.node y.node ≡ true → x.node ≡ y.node → ⊥
    never h e = let l = ltb-true x.node y.node h in omega arith

    never' : nat_lt x.base y.base ≡ true → x.base ≡ y.base → ⊥
    never' h e = let l = ltb-true x.base y.base h in omega arith

    or : (p q r : Bool) → (p || (q && r)) ≡ true → (p ≡ true) ⊎ (r ≡ true)
    or true q r h = inl refl
    or false true r h = inr h
    or false false r h = absurd (false≢true h)

    by : list_any (same_dest (dest_of_end x)) (map dest_of_end ys) ≡ false → (b : Bool) → same_dest (dest_of_end x) (dest_of_end y) ≡ b → (b || list_any (same_dest (dest_of_end x)) (map dest_of_end ys)) ≡ false
    by ih false e = ih
    by ih true e =
        let s = and_parts (x.node == y.node) (x.base == y.base) e in
        absurd (elim (or (nat_lt x.node y.node) (x.node == y.node) (nat_lt x.base y.base) up.0) [
          | inl h ↦ never h (eqb-true x.node y.node s.0)
          | inr h ↦ never' h (eqb-true x.base y.base s.1)
        ])

once_dests : (xs : List End) → Ascending xs → dests_repeat (map dest_of_end xs) ≡ false
once_dests [] up = refl
once_dests (x ∷ xs) up = ap (λ p. p || dests_repeat (map dest_of_end xs)) (apart_dests x xs up.0) ∙ once_dests xs up.1

once_rows : (from : ℕ) (rows : List Seen) → SeenApart from rows → list_any (λ (e : Entry). dests_repeat e.dests) (map entry_of_row rows) ≡ false
once_rows from [] apart = refl
once_rows from (r ∷ rows) apart = ap (λ p. p || list_any (λ (e : Entry). dests_repeat e.dests) (map entry_of_row rows)) (once_dests r.ends apart.4) ∙ once_rows (suc r.hi) rows apart.6

all_dests : (p : Dest → Bool) (xs : List End) → ((x : End) → Member x xs → IsTrue (p (dest_of_end x))) → IsTrue (list_all p (map dest_of_end xs))
all_dests p [] each = refl
all_dests p (x ∷ xs) each = rw (each x (inl refl), all_dests p xs (λ y m. each y (inr m))) refl

no_dests : (p : Dest → Bool) (xs : List End) → ((x : End) → Member x xs → p (dest_of_end x) ≡ false) → list_any p (map dest_of_end xs) ≡ false
no_dests p [] each = refl
no_dests p (x ∷ xs) each = rw (each x (inl refl), no_dests p xs (λ y m. each y (inr m))) refl

-- at most one map block has an address, and none that is accepted
not_overlapping : (x : ℕ) (b : Bool) → (x ≡ 0) ⊎ ((x ≡ 1) × (b ≡ false)) → (nat_lt 1 x || (nat_lt 0 x && b)) ≡ false
not_overlapping x b (inl e) = subst (λ y. (nat_lt 1 y || (nat_lt 0 y && b)) ≡ false) (sym e) refl
not_overlapping x b (inr (e, f)) = subst (λ y. (nat_lt 1 y || (nat_lt 0 y && b)) ≡ false) (sym e) f

-- a node that leads to another is no unit
pub led_formed : (net : List NodeDecl) (m i : ℕ) (d : NodeDecl) → IsTrue (is_formed d) → leads_to m d ≡ true → IsTrue (is_formed (node_led_past net m i d))
led_formed net m i d formed leads = by d.unit refl formed
  where
    nowhere : (es : List Entry) (o : Option ℕ) → nat_le (length es) 0 ≡ true → not (is_some o) ≡ true → (list_any (maps_to m) es || is_over_to m o) ≡ false
    nowhere [] None h k = refl
    nowhere [] (Some t) h k = absurd (false≢true k)
    nowhere (e ∷ es) o h k = let l = leb-true (length (e ∷ es)) 0 h in absurd (omega arith)

    by : (u : Option UnitPart) → d.unit ≡ u → IsTrue (formed_by d u) → IsTrue (formed_by (node_led_past net m i d) u)
    by None e f = f
    by (Some u) e f =
        let bare = (and_parts (is_unit d.role) (is_bare d) f).1 in
        let p = (and_parts (nat_le (length d.accepts) 0) (nat_le (length d.entries) 0 && not (is_some d.over)) bare).1 in
        let q = and_parts (nat_le (length d.entries) 0) (not (is_some d.over)) p in
        absurd (true≢false (sym leads ∙ nowhere d.entries d.over q.0 q.1))

pub past_formed : (net : List NodeDecl) (m i : ℕ) (d : NodeDecl) → IsTrue (is_formed d) → IsTrue (is_formed (node_past net m i d))
past_formed net m i d formed = by (i == m) (leads_to m d) refl
  where
    by : (b c : Bool) → leads_to m d ≡ c → IsTrue (is_formed (if not b && c then node_led_past net m i d else d))
    by true c h = formed
    by false true h = led_formed net m i d formed h
    by false false h = formed

module _ (net : List NodeDecl) (legal : IsLegalNet net) (m : ℕ) (n : NodeDecl) (at : slice_get net m ≡ Some n) (fit : Fit m n) where
  -- the names past the node are of nodes that are there, in range, and none of them in the node
  past_facts : (x y : Name) → Member y (steps_past net m x) → (y.node < length net) × (y.addr ≤ top) × ((y.node == m) ≡ false)
  past_facts x y h =
      let r = (past_in net m x y).0 h in
      by r.0 r.1 (r.0.node == m) refl r.2
    where
      by : (z : Name) → Step net x z → (b : Bool) → (z.node == m) ≡ b → Member y (if b then steps net z else z ∷ []) → (y.node < length net) × (y.addr ≤ top) × ((y.node == m) ≡ false)
      by z s true e t = (step_there net legal.nodes z y t, step_low net legal.nodes z y t, own_never net legal m n at fit z y e t)
      by z s false e (inr t) = absurd t
      by z s false e (inl t) = subst (λ (w : Name). (w.node < length net) × (w.addr ≤ top) × ((w.node == m) ≡ false)) t (step_there net legal.nodes x z s, step_low net legal.nodes x z s, e)

  module _ (i : ℕ) where
    apart : SeenApart 0 (rows_past net m i)
    apart = (listed_are_normal (ends_past net m i) (ends_past_ascend net m i)).0

    -- the name that a row gives to an address of it is one past the node
    row_name : (r : Seen) → Member r (rows_past net m i) → (a : ℕ) → r.lo ≤ a → a ≤ r.hi → (e : End) → Member e r.ends → Member (end_name (end_moved (a - r.lo) e)) (steps_past net m (record { node = i; addr = a }))
    row_name r h a l k e g =
        let q = row_apart 0 (rows_past net m i) r apart h in
        let t : r.hi ≤ TOP = q.2 in
        let give = row_gives (rows_past net m i) r a (end_moved (a - r.lo) e) h l k (member_moved (a - r.lo) r.ends e g) in
        (end_in (steps_past net m (record { node = i; addr = a })) (end_name (end_moved (a - r.lo) e))).0 (((listed_are_normal (ends_past net m i) (ends_past_ascend net m i)).1 a (end_moved (a - r.lo) e) (omega arith)).1 give)

    row_in_range : (r : Seen) → Member r (rows_past net m i) → IsTrue (entry_in_range (entry_of_row r))
    row_in_range r h =
        let q = row_apart 0 (rows_past net m i) r apart h in
        let o : r.lo ≤ r.hi = q.1 in
        let t : r.hi ≤ TOP = q.2 in
        let last : (e : End) → Member e r.ends → IsTrue (nat_le (e.base + (r.hi - r.lo)) top) = λ e g. le-leb (e.base + (r.hi - r.lo)) top (past_facts (record { node = i; addr = r.hi }) (end_name (end_moved (r.hi - r.lo) e)) (row_name r h r.hi o (omega arith) e g)).1 in
        and_from (nat_le r.lo r.hi && nat_le r.hi top) (list_all (dest_in_range (record { lo = r.lo; hi = r.hi })) (map dest_of_end r.ends)) (and_from (nat_le r.lo r.hi) (nat_le r.hi top) (le-leb r.lo r.hi o) (le-leb r.hi top t)) (all_dests (dest_in_range (record { lo = r.lo; hi = r.hi })) r.ends last)

    -- the node and the address of each destination at the first address of its row
    row_first : (r : Seen) → Member r (rows_past net m i) → (e : End) → Member e r.ends → (e.node < length net) × ((e.node == m) ≡ false)
    row_first r h e g =
        let q = row_apart 0 (rows_past net m i) r apart h in
        let o : r.lo ≤ r.hi = q.1 in
        let f = past_facts (record { node = i; addr = r.lo }) (end_name (end_moved (r.lo - r.lo) e)) (row_name r h r.lo (omega arith) o e g) in
        (f.0, f.2)

    some_end : (es : List End) → HasEnds es → (e : End) × Member e es
    some_end [] h = absurd h
    some_end (e ∷ es) h = (e, inl refl)

    -- an address of a row is not accepted
    row_not_accepted : (d : NodeDecl) → slice_get net i ≡ Some d → (a : ℕ) → InRow (rows_past net m i) a → in_some_block a d.accepts ≡ false
    row_not_accepted d here a h =
        let q = row_apart 0 (rows_past net m i) h.row apart h.member in
        let t : h.row.hi ≤ TOP = q.2 in
        let k : a ≤ h.row.hi = h.last in
        let low : a ≤ top = omega arith in
        let e = some_end h.row.ends q.3 in
        let p = (past_in net m (record { node = i; addr = a }) (end_name (end_moved (a - h.row.lo) e.0))).0 (row_name h.row h.member a h.first h.last e.0 e.1) in
        by (in_some_block a d.accepts) refl low p.0 (subst (λ o. Member p.0 (sent_names (decode a o))) here p.1)
      where
        by : (b : Bool) → in_some_block a d.accepts ≡ b → a ≤ top → (z : Name) → Member z (sent_names (decode a (Some d))) → b ≡ false
        by false f l z s = refl
        by true f l z s = absurd (subst (λ t. Member z (sent_names t)) (accepted_stays a d (ap (λ p. p && in_some_block a d.accepts) (le-leb a top l) ∙ f)) s)

    led_keeps : (d : NodeDecl) → slice_get net i ≡ Some d → leads_to m d ≡ true → KeepsRules (node_led_past net m i d)
    led_keeps d here leads = record {
      in_range = and_from (list_all block_in_range d.accepts) (list_all entry_in_range (map entry_of_row (rows_past net m i))) (and_parts (list_all block_in_range d.accepts) (list_all entry_in_range d.entries) kept.in_range).0 (all_of_each entry_in_range (map entry_of_row (rows_past net m i)) (λ e h. let r = row_of_entry (rows_past net m i) e h in subst (λ f. IsTrue (entry_in_range f)) r.2 (row_in_range r.0 r.1)));
      apart = λ a. not_overlapping (maps_at (map entry_of_row (rows_past net m i)) a) (in_some_block a d.accepts) (elim (maps_once 0 (rows_past net m i) a apart) [ inl e ↦ inl e | inr h ↦ inr (h.0, row_not_accepted d here a h.1) ]);
      once = ap (λ p. p || unit_repeats d.unit) (once_rows 0 (rows_past net m i) apart) ∙ unit_once;
      space = ap (λ b. not b || ((nat_le (length (map entry_of_row (rows_past net m i))) 0 && not (is_some (node_led_past net m i d).over)) && nat_le (accepted_count (node_led_past net m i d)) 4096)) no_vectors;
    }
      where
        kept : KeepsRules d
        kept = kept_at net i legal.nodes.each d here

        right : (p q : Bool) → (p || q) ≡ false → q ≡ false
        right true q e = absurd (true≢false e)
        right false q e = e

        unit_once : unit_repeats d.unit ≡ false
        unit_once = right (list_any (λ (e : Entry). dests_repeat e.dests) d.entries) (unit_repeats d.unit) kept.once

        nowhere : (es : List Entry) (o : Option ℕ) → nat_le (length es) 0 ≡ true → not (is_some o) ≡ true → (list_any (maps_to m) es || is_over_to m o) ≡ false
        nowhere [] None h k = refl
        nowhere [] (Some t) h k = absurd (false≢true k)
        nowhere (e ∷ es) o h k = let l = leb-true (length (e ∷ es)) 0 h in absurd (omega arith)

        no_vectors : is_vectors d.role ≡ false
        no_vectors = sends_no_vectors d kept (λ p q. true≢false (sym leads ∙ nowhere d.entries d.over p q))

    led_refers : (d : NodeDecl) → IsTrue (refers_within (length net) d) → IsTrue (refers_within (length net) (node_led_past net m i d))
    led_refers d h =
        let r = and_parts (list_all (λ (e : Entry). list_all (λ (t : Dest). nat_lt t.node (length net)) e.dests) d.entries) (over_within (length net) d.over && ports_within (length net) d.unit) h in
        let ports = (and_parts (over_within (length net) d.over) (ports_within (length net) d.unit) r.1).1 in
        and_from (list_all (λ (e : Entry). list_all (λ (t : Dest). nat_lt t.node (length net)) e.dests) (map entry_of_row (rows_past net m i))) (ports_within (length net) d.unit) (all_of_each (λ (e : Entry). list_all (λ (t : Dest). nat_lt t.node (length net)) e.dests) (map entry_of_row (rows_past net m i)) (λ e g. let q = row_of_entry (rows_past net m i) e g in subst (λ f. IsTrue (list_all (λ (t : Dest). nat_lt t.node (length net)) f.dests)) q.2 (all_dests (λ t. nat_lt t.node (length net)) q.0.ends (λ x k. lt-ltb x.node (length net) (row_first q.0 q.1 x k).0)))) ports

    led_away : (d : NodeDecl) → leads_to m (node_led_past net m i d) ≡ false
    led_away d = ap (λ p. p || false) (none_of_each (maps_to m) (map entry_of_row (rows_past net m i)) (λ e g. let q = row_of_entry (rows_past net m i) e g in subst (λ f. maps_to m f ≡ false) q.2 (no_dests (λ t. t.node == m) q.0.ends (λ x k. (row_first q.0 q.1 x k).1))))

  -- a node of the net past the node, in each case
  past_each : (P : NodeDecl → Type 0) → ((i : ℕ) (d : NodeDecl) → slice_get net i ≡ Some d → (leads_to m d ≡ false) → P d) → ((i : ℕ) (d : NodeDecl) → slice_get net i ≡ Some d → leads_to m d ≡ true → P (node_led_past net m i d)) → (e : NodeDecl) → Member e (net_past net m) → P e
  past_each P same led e h =
      let p = place (net_past net m) e h in
      by p.0 (slice_get net p.0) refl (sym (net_past_at net m p.0) ∙ p.1)
    where
      place : (ns : List NodeDecl) (d : NodeDecl) → Member d ns → (i : ℕ) × (slice_get ns i ≡ Some d)
      place [] d g = absurd g
      place (c ∷ ns) d (inl f) = (0, ap Some f)
      place (c ∷ ns) d (inr g) = let r = place ns d g in (suc r.0, r.1)

      self : (i : ℕ) (d : NodeDecl) → slice_get net i ≡ Some d → (i == m) ≡ true → leads_to m d ≡ false
      self i d here f =
          let s : Some n ≡ Some d = sym at ∙ (ap (slice_get net) (sym (eqb-true i m f)) ∙ here) in
          let t : n ≡ d = cc in
          ap (leads_to m) (sym t) ∙ fit.self

      one : (i : ℕ) (d : NodeDecl) → slice_get net i ≡ Some d → (b : Bool) → (i == m) ≡ b → (c : Bool) → leads_to m d ≡ c → P (if not b && c then node_led_past net m i d else d)
      one i d here true f c g = same i d here (self i d here f)
      one i d here false f true g = led i d here g
      one i d here false f false g = same i d here g

      by : (i : ℕ) (o : Option NodeDecl) → slice_get net i ≡ o → option_map (node_past net m i) o ≡ Some e → P e
      by i None f g = cc
      by i (Some d) f g =
          let s : node_past net m i d ≡ e = cc in
          subst P s (one i d f (i == m) refl (leads_to m d) refl)

past_length : (net : List NodeDecl) (m k : ℕ) (ns : List NodeDecl) → length (nodes_past net m k ns) ≡ length ns
past_length net m k [] = refl
past_length net m k (n ∷ ns) = ap suc (past_length net m (suc k) ns)

one_text : (net : List NodeDecl) (m i : ℕ) (d : NodeDecl) → (node_past net m i d).text ≡ d.text
one_text net m i d = part_stays (λ n. n.text) (is_rewritten m i d) (node_led_past net m i d) d refl

pub past_texts : (net : List NodeDecl) (m k : ℕ) (ns : List NodeDecl) → texts (nodes_past net m k ns) ≡ texts ns
past_texts net m k [] = refl
past_texts net m k (d ∷ ns) = ap (λ t. t ∷ texts (nodes_past net m (suc k) ns)) (one_text net m k d) ∙ ap (λ l. d.text ∷ l) (past_texts net m (suc k) ns)

pub net_past_length : (net : List NodeDecl) (m : ℕ) → length (net_past net m) ≡ length net
net_past_length net m = past_length net m 0 net

-- it has no more nodes than a net may have
pub few_past : (net : List NodeDecl) → IsLegalNet net → (m : ℕ) → length (net_past net m) ≤ node_limit
few_past net legal m = let l = net_past_length net m in let f = legal.is_net.few in omega (arith, l, f)

pub past_closed : (net : List NodeDecl) → IsLegalNet net → (m : ℕ) (n : NodeDecl) → slice_get net m ≡ Some n → Fit m n → IsTrue (is_closed (net_past net m))
past_closed net legal m n at fit =
    subst (λ c. IsTrue (list_all (refers_within c) (net_past net m))) (sym (net_past_length net m))
    (all_of_each (refers_within (length net)) (net_past net m) (past_each net legal m n at fit (λ d. IsTrue (refers_within (length net) d)) (λ i d here h. node_at (refers_within (length net)) net i legal.nodes.closed d here) (λ i d here h. led_refers net legal m n at fit i d (node_at (refers_within (length net)) net i legal.nodes.closed d here))))

pub absorb_keeps_rules : AbsorbKeepsRules
absorb_keeps_rules net legal m n at none = (
  record {
    is_net = record {
      few = few_past net legal m;
      formed = all_of_each is_formed (net_past net m) (past_each net legal m n at fit (λ d. IsTrue (is_formed d)) (λ i d here h. node_at is_formed net i legal.is_net.formed d here) (λ i d here h. led_formed net m i d (node_at is_formed net i legal.is_net.formed d here) h));
      names_differ = differ_as (net_past net m) net (past_texts net m 0 net) legal.is_net.names_differ;
    };
    nodes = record {
      closed = past_closed net legal m n at fit;
      each = all_each KeepsRules (net_past net m) (past_each net legal m n at fit KeepsRules (λ i d here h. kept_at net i legal.nodes.each d here) (λ i d here h. led_keeps net legal m n at fit i d here h));
    };
  },
  none_of_each (leads_to m) (net_past net m) (past_each net legal m n at fit (λ d. leads_to m d ≡ false) (λ i d here h. h) (λ i d here h. led_away net legal m n at fit i d)),
)
  where
    fit : Fit m n
    fit = fit_of net m n none

-- the names of the nodes past another differ
pub past_differ : (net : List NodeDecl) (m : ℕ) → NamesDiffer net → NamesDiffer (net_past net m)
past_differ net m differ = differ_as (net_past net m) net (past_texts net m 0 net) differ
