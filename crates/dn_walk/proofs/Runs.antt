-- The rows of one start stand together.
use Rattle.std.proofs.Common.{◌≡◌, ℕ, zero, suc, ◌+◌, ◌-◌, ◌<◌, ◌≤◌, ◌⊎◌, inl, inr, Bool, true, false, ◌&&◌, ◌||◌, ◌==◌, ◌++◌, nat_le, ltb, leb, List, [], ◌∷◌, map, length, get_or, take, drop, refl, sym, ap, ◌∙◌, arith, ltb-true, le-leb, eqb-true}
use Rattle.std.proofs.lemmas.Bool.{leb-false, cases_lt}
use Rattle.std.proofs.lemmas.List.{take_more, map-append}
use Rattle.std.specs.List.{filter, list_any}
use Rattle.std.specs.List.Sorted.{IsPartitionPoint}
use Rattle.dn_base.proofs.Orders.{not_lt-le, lt-not_le}
use Rattle.dn_base.proofs.Lists.{list_any-map}
use Rattle.dn_net.specs.declared.node.Name.{Name}
use Rattle.dn_walk.specs.declared.walks.WalkRow.{WalkRow}
use Rattle.dn_walk.specs.declared.way.Goal.{Goal}
use Rattle.dn_walk.specs.Rows.{row_view}
use Rattle.dn_walk.specs.Ways.{bare_leads, level_leads, has_addr, meets_goal}
use Rattle.dn_walk.proofs.Picks.{between_is, any_picked}

abbrev pub Starts : ℕ → List WalkRow → ℕ → Type 0
Starts node rows i = IsPartitionPoint (λ (r : WalkRow). ltb r.start node ≡ true) (λ (r : WalkRow). ltb r.start node ≡ false) rows i

abbrev pub Started : ℕ → List WalkRow → ℕ → Type 0
Started node rows j = IsPartitionPoint (λ (r : WalkRow). leb r.start node ≡ true) (λ (r : WalkRow). leb r.start node ≡ false) rows j

pub starts_in_turn : (node : ℕ) (rows : List WalkRow) (i j : ℕ) → i ≤ length rows → Starts node rows i → Started node rows j → i ≤ j
starts_in_turn node [] i j w e b = omega arith
starts_in_turn node (r ∷ rows) i j w e b = by (cases_lt j i)
  where
    by : (j < i) ⊎ (i ≤ j) → i ≤ j
    by (inr l) = l
    by (inl l) =
        let g = get_or (r ∷ rows) j r in
        let p : g.start < node = ltb-true _ _ (e.0 j r (omega arith) l) in
        let q : node < g.start = leb-false _ _ (b.1 j r (omega arith) (omega arith)) in
        absurd (omega arith)

abbrev is_of : ℕ → WalkRow → Bool
is_of node r = nat_le node r.start && nat_le r.start node

between : (node : ℕ) (rows : List WalkRow) (i j : ℕ) → i ≤ length rows → j ≤ length rows → Starts node rows i → Started node rows j → take (j - i) (drop i rows) ≡ filter (is_of node) rows
between node rows i j w v e b =
    between_is (λ (r : WalkRow). nat_le node r.start) (λ (r : WalkRow). nat_le r.start node) rows i j (starts_in_turn node rows i j w e b) v
    record {
      low = λ k d l. lt-not_le _ _ (e.0 k d (omega arith) l);
      high = λ k d l m. not_lt-le _ _ (e.1 k d l m);
      begun = λ k d l. b.0 k d (omega arith) l;
      over = λ k d l m. b.1 k d l m;
    }

leads_of : (goal : Goal) (x : Name) (r : WalkRow) → bare_leads goal x (row_view r) ≡ true → is_of x.node r ≡ true
leads_of goal x r h = by (r.start == x.node) refl h
  where
    both : (a b : ℕ) → a ≡ b → (nat_le b a && nat_le a b) ≡ true
    both a b e = rw (le-leb b a (omega arith), le-leb a b (omega arith)) refl

    by : (b : Bool) → (r.start == x.node) ≡ b → (b && (has_addr (row_view r) x.addr && meets_goal goal x.addr (row_view r))) ≡ true → is_of x.node r ≡ true
    by true e k = both r.start x.node (eqb-true r.start x.node e)
    by false e k = cc

-- only they can lead on from a name of the start
pub leads_between : (goal : Goal) (x : Name) (rows : List WalkRow) (i j : ℕ) → i ≤ length rows → j ≤ length rows → Starts x.node rows i → Started x.node rows j → level_leads goal (map row_view (take (j - i) (drop i rows))) x ≡ level_leads goal (map row_view rows) x
leads_between goal x rows i j w v e b =
    ap (λ l. level_leads goal (map row_view l) x) (between x.node rows i j w v e b)
    ∙ list_any-map row_view (bare_leads goal x) (filter (is_of x.node) rows)
    ∙ any_picked (λ r. bare_leads goal x (row_view r)) (is_of x.node) (leads_of goal x) rows
    ∙ sym (list_any-map row_view (bare_leads goal x) rows)

-- one more row
any_append : {X : Type 0} (p : X → Bool) (xs : List X) (x : X) → list_any p (xs ++ x ∷ []) ≡ (list_any p xs || p x)
any_append p [] x = by (p x)
  where
    by : (b : Bool) → (b || false) ≡ b
    by true = refl
    by false = refl
any_append p (y ∷ xs) x = by (p y) (any_append p xs x)
  where
    by : (b : Bool) → list_any p (xs ++ x ∷ []) ≡ (list_any p xs || p x) → (b || list_any p (xs ++ x ∷ [])) ≡ ((b || list_any p xs) || p x)
    by true e = refl
    by false e = e

row_more : (goal : Goal) (x : Name) (rows : List WalkRow) (i : ℕ) (r : WalkRow) → i < length rows → r ≡ get_or rows i r → level_leads goal (map row_view (take (i + 1) rows)) x ≡ (level_leads goal (map row_view (take i rows)) x || bare_leads goal x (row_view r))
row_more goal x rows i r l e =
    ap (λ l. level_leads goal l x) (ap (map row_view) (take_more rows i r l ∙ ap (λ y. take i rows ++ y ∷ []) (sym e)) ∙ map-append row_view (take i rows) (r ∷ []))
    ∙ any_append (bare_leads goal x) (map row_view (take i rows)) (row_view r)

pub none_more : (goal : Goal) (x : Name) (rows : List WalkRow) (i : ℕ) (r : WalkRow) → i < length rows → r ≡ get_or rows i r → level_leads goal (map row_view (take i rows)) x ≡ false → bare_leads goal x (row_view r) ≡ false → level_leads goal (map row_view (take (i + 1) rows)) x ≡ false
none_more goal x rows i r l e p q = row_more goal x rows i r l e ∙ ap (λ b. b || bare_leads goal x (row_view r)) p ∙ q

pub one_leads : (goal : Goal) (x : Name) (rows : List WalkRow) (i : ℕ) (r : WalkRow) → i < length rows → r ≡ get_or rows i r → bare_leads goal x (row_view r) ≡ true → level_leads goal (map row_view rows) x ≡ true
one_leads goal x [] i r l e h = absurd (omega arith)
one_leads goal x (s ∷ rows) zero r l e h = ap (λ b. b || level_leads goal (map row_view rows) x) (ap (λ y. bare_leads goal x (row_view y)) (sym e) ∙ h)
one_leads goal x (s ∷ rows) (suc i) r l e h = by (bare_leads goal x (row_view s)) (one_leads goal x rows i r (omega arith) e h)
  where
    by : (b : Bool) → level_leads goal (map row_view rows) x ≡ true → (b || level_leads goal (map row_view rows) x) ≡ true
    by true k = refl
    by false k = k
