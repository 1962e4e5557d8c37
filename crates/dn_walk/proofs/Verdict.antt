-- From the levels to the rule on walks that a net breaks.
use Rattle.std.proofs.Common.{◌≡◌, ℕ, zero, suc, ◌+◌, ◌-◌, ◌<◌, ◌≤◌, ◌⊎◌, inl, inr, Bool, true, false, cond, if◌then◌else◌, ◌&&◌, ◌||◌, ◌==◌, nat_lt, List, [], ◌∷◌, ◌++◌, map, length, get_or, Option, Some, None, option_map, is_some, refl, sym, ap, ◌∙◌, subst, arith}
use Rattle.std.specs.List.{filter, flat_map, All}
use Rattle.std.specs.List.Sorted.{IsNonDecreasingBy}
use Rattle.std.proofs.lemmas.Bool.{lt-ltb, le-ltb, cases_lt}
use Rattle.std.proofs.lemmas.List.{length-append, get_or-map}
use Rattle.dn_net.specs.declared.node.Name.{Name}
use Rattle.dn_net.specs.declared.node.NodeDecl.{NodeDecl}
use Rattle.dn_net.specs.Chain.{Member}
use Rattle.dn_net.specs.Decode.{top, steps, step_limit}
use Rattle.dn_net.specs.Names.{sorted_names}
use Rattle.dn_net.specs.Walks.{in_order, level, live_walks, starts_before}
use Rattle.dn_net.specs.WalkRules.{is_wide, has_loop, is_deep, walk_limit, endless_fault, counted_length, cycle_or_path, shortest_cycle, shortest_within, has_cycle, or_else, first_of, names_behind, way_by, comes_to, goes_on, cycle_from, cycle_names, path_from, path_names}
use Rattle.dn_net.specs.Rules.{KeepsNodeRules}
use Rattle.dn_walk.proofs.Endless.{endless_fault_is}
use Rattle.dn_net.proofs.Places.{length-map}
use Rattle.dn_walk.specs.declared.walks.WalkRow.{WalkRow}
use Rattle.dn_walk.specs.declared.way.Goal.TheVariants.{Anywhere, To}
use Rattle.dn_walk.specs.Rows.{BareWalk, bare_walk, row_view}
use Rattle.dn_walk.specs.Legs.{BareLeg, bare_legs}
use Rattle.dn_walk.specs.Levels.{bare_extensions, bare_level, bare_walks, bare_levels, bare_before}
use Rattle.dn_walk.specs.Ways.{least_of, start_names, start_name, level_leads, walk_levels_lead, shown_cycle, shown_path}
use Rattle.dn_walk.proofs.Bridge.{walks_bare, least_back, least_onward, leads_to_name, leads_anywhere}
use Rattle.dn_walk.proofs.Keys.{before_weak}
use Rattle.dn_walk.proofs.Least.{none_least}
use Rattle.dn_walk.proofs.Onward.{step_in_range}
use Rattle.dn_walk.proofs.Pairs.{pairs_more, pairs_rise}
use Rattle.dn_net.proofs.Firsts.{shortest_is}
use Rattle.dn_walk.proofs.Sorting.{in_order_pairs}
use Rattle.dn_walk.proofs.BareWalks.{rise_back, level-suc, walks-suc, levels-suc, length_levels}

pub steps_are : step_limit ≡ 65
unfolding step_limit
steps_are = refl

pub limit_is : walk_limit ≡ 1048576
unfolding walk_limit
limit_is = refl

-- no walk of up to so many choices comes back
abbrev pub Acyclic : List NodeDecl → ℕ → Type 0
Acyclic net k = (j : ℕ) → 1 ≤ j → j ≤ k → least_of (start_names true (bare_level (map bare_legs net) j)) ≡ None

cycle_none : (net : List NodeDecl) → KeepsNodeRules net → (j : ℕ) → least_of (start_names true (bare_level (map bare_legs net) j)) ≡ None → has_cycle net j ≡ false
cycle_none net checked j e = ap is_some (least_back net checked j ∙ e)

cycle_some : (net : List NodeDecl) → KeepsNodeRules net → (j : ℕ) (x : Name) → least_of (start_names true (bare_level (map bare_legs net) j)) ≡ Some x → has_cycle net j ≡ true
cycle_some net checked j x e = ap is_some (least_back net checked j ∙ e)

none_within : (net : List NodeDecl) → KeepsNodeRules net → (n : ℕ) → Acyclic net n → shortest_within net n ≡ None
none_within net checked zero a = refl
none_within net checked (suc n) a =
    ap (λ o. or_else o (if has_cycle net (suc n) then Some (suc n) else None)) (none_within net checked n (λ j l m. a j l (omega arith)))
    ∙ ap (λ b. if b then Some (suc n) else None) (cycle_none net checked (suc n) (a (suc n) (omega arith) (omega arith)))

first_within : (net : List NodeDecl) → KeepsNodeRules net → (k n : ℕ) (x : Name) → Acyclic net k → least_of (start_names true (bare_level (map bare_legs net) (suc k))) ≡ Some x → suc k ≤ n → shortest_within net n ≡ Some (suc k)
first_within net checked k zero x a e l = absurd (omega arith)
first_within net checked k (suc n) x a e l = by (last k n l) (first_within net checked k n x a e)
  where
    last : (k n : ℕ) → suc k ≤ suc n → (k ≡ n) ⊎ (suc k ≤ n)
    last k n l = grind arith

    here : Acyclic net k → least_of (start_names true (bare_level (map bare_legs net) (suc k))) ≡ Some x → shortest_within net (suc k) ≡ Some (suc k)
    here a e =
        ap (λ o. or_else o (if has_cycle net (suc k) then Some (suc k) else None)) (none_within net checked k a)
        ∙ ap (λ b. if b then Some (suc k) else None) (cycle_some net checked (suc k) x e)

    by : (k ≡ n) ⊎ (suc k ≤ n) → (suc k ≤ n → shortest_within net n ≡ Some (suc k)) → shortest_within net (suc n) ≡ Some (suc k)
    by (inl s) ih = ap (λ m. shortest_within net (suc m)) (sym s) ∙ here a e
    by (inr m) ih = ap (λ o. or_else o (if has_cycle net (suc n) then Some (suc n) else None)) (ih m)

found_within : (net : List NodeDecl) (n c : ℕ) → shortest_within net n ≡ Some c → (has_cycle net c ≡ true) × (1 ≤ c)
found_within net zero c e = cc
found_within net (suc n) c e = by (found_within net n c) (shortest_within net n) refl (has_cycle net (suc n)) refl e
  where
    by : (shortest_within net n ≡ Some c → (has_cycle net c ≡ true) × (1 ≤ c)) → (o : Option ℕ) → shortest_within net n ≡ o → (b : Bool) → has_cycle net (suc n) ≡ b → or_else o (if b then Some (suc n) else None) ≡ Some c → (has_cycle net c ≡ true) × (1 ≤ c)
    by ih (Some d) f b g e = let s : d ≡ c = cc in ih (f ∙ ap Some s)
    by ih None f true g e = let s : suc n ≡ c = cc in (ap (has_cycle net) (sym s) ∙ g, omega arith)
    by ih None f false g e = cc

-- the walks up to a length are among those up to a greater one
walks_rise : (net : List NodeDecl) (m n : ℕ) → m ≤ n → length (live_walks net m) ≤ length (live_walks net n)
walks_rise net m zero l = let e : m ≡ 0 = omega arith in subst (λ k. length (live_walks net m) ≤ length (live_walks net k)) e (omega arith)
walks_rise net m (suc n) l = by (last m n l) (walks_rise net m n)
  where
    last : (m n : ℕ) → m ≤ suc n → (m ≡ suc n) ⊎ (m ≤ n)
    last m n l = grind arith

    by : (m ≡ suc n) ⊎ (m ≤ n) → (m ≤ n → length (live_walks net m) ≤ length (live_walks net n)) → length (live_walks net m) ≤ length (live_walks net (suc n))
    by (inl s) ih = subst (λ k. length (live_walks net m) ≤ length (live_walks net k)) s (omega arith)
    by (inr k) ih = let r = ih k in let a = length-append (live_walks net n) (in_order starts_before (level net (suc n))) in omega arith

count_is : (net : List NodeDecl) (k : ℕ) → length (bare_walks (map bare_legs net) k) ≡ length (live_walks net k)
count_is net k = ap length (walks_bare net k) ∙ length-map bare_walk (live_walks net k)

-- too many walks
pub wide_is : (net : List NodeDecl) → KeepsNodeRules net → (k : ℕ) → Acyclic net k → k ≤ 64 → walk_limit < length (bare_walks (map bare_legs net) (k + 1)) → endless_fault net ≡ Some is_wide
wide_is net checked k a l w = endless_fault_is net ∙ by (shortest_cycle net) refl
  where
    many : (c : ℕ) → k + 1 ≤ c → nat_lt walk_limit (length (live_walks net c)) ≡ true
    many c m = let r = walks_rise net (k + 1) c m in let e = count_is net (k + 1) in lt-ltb _ _ (omega arith)

    later : (c : ℕ) → has_cycle net c ≡ true → 1 ≤ c → (c ≤ k) ⊎ (k + 1 ≤ c) → k + 1 ≤ c
    later c h o (inr m) = m
    later c h o (inl m) = let g : true ≡ false = sym h ∙ cycle_none net checked c (a c o m) in cc

    order : (c : ℕ) → (c ≤ k) ⊎ (k + 1 ≤ c)
    order c = grind arith

    by : (o : Option ℕ) → shortest_cycle net ≡ o → (if nat_lt walk_limit (length (live_walks net (counted_length o))) then Some is_wide else cycle_or_path net o) ≡ Some is_wide
    by None e = ap (λ b. if b then Some is_wide else cycle_or_path net None) (many step_limit (let s = steps_are in omega arith))
    by (Some c) e =
        let f = found_within net (step_limit - 1) c (sym (shortest_is net) ∙ e) in
        ap (λ b. if b then Some is_wide else cycle_or_path net (Some c)) (many c (later c f.0 f.1 (order c)))

-- ways by tests that agree are one
filter_same : (p q : Name → Bool) (xs : List Name) → ((z : Name) → Member z xs → p z ≡ q z) → filter p xs ≡ filter q xs
filter_same p q [] f = refl
filter_same p q (x ∷ xs) f = ap (λ b. cond b (x ∷ filter p xs) (filter p xs)) (f x (inl refl)) ∙ ap (λ l. cond (q x) (x ∷ l) l) (filter_same p q xs (λ z m. f z (inr m)))

way_same : (net : List NodeDecl) → KeepsNodeRules net → (l l' : ℕ → Name → Bool) (n : ℕ) → ((j : ℕ) (z : Name) → j < n → z.node < length net → z.addr ≤ top → l j z ≡ l' j z) → (k : ℕ) → k ≤ n → (x : Name) → way_by (steps net) l k x ≡ way_by (steps net) l' k x
way_same net checked l l' n f zero m x = refl
way_same net checked l l' n f (suc k) m x =
    let e = filter_same (l k) (l' k) (steps net x) (λ z h. let r = step_in_range net checked x z h in f k z (omega arith) r.0 r.1) in
    ap (λ ys. names_behind (first_of (sorted_names ys)) (λ z. way_by (steps net) l k z)) e
    ∙ (λ i. names_behind (first_of (sorted_names (filter (l' k) (steps net x)))) (λ z. way_same net checked l l' n f k (omega arith) z i))

-- a level among the levels
get_front : {X : Type 0} (xs ys : List X) (j : ℕ) (d : X) → j < length xs → get_or (xs ++ ys) j d ≡ get_or xs j d
get_front [] ys j d l = absurd (omega arith)
get_front (x ∷ xs) ys zero d l = refl
get_front (x ∷ xs) ys (suc j) d l = get_front xs ys j d (omega arith)

get_seam : {X : Type 0} (xs : List X) (y : X) (j : ℕ) (d : X) → j ≡ length xs → get_or (xs ++ y ∷ []) j d ≡ y
get_seam [] y j d e = ap (λ i. get_or (y ∷ []) i d) e
get_seam (x ∷ xs) y zero d e = absurd (omega arith)
get_seam (x ∷ xs) y (suc j) d e = get_seam xs y j d (omega arith)

pub level_among : (legs : List (List BareLeg)) (n j : ℕ) (d : List BareWalk) → j < n → get_or (bare_levels legs n) j d ≡ in_order bare_before (bare_level legs j)
level_among legs zero j d l = absurd (omega arith)
level_among legs (suc n) j d l = ap (λ x. get_or x j d) (levels-suc legs n) ∙ by (last j n l) (level_among legs n j d)
  where
    last : (j n : ℕ) → j < suc n → (j ≡ n) ⊎ (j < n)
    last j n l = grind arith

    by : (j ≡ n) ⊎ (j < n) → (j < n → get_or (bare_levels legs n) j d ≡ in_order bare_before (bare_level legs j)) → get_or (bare_levels legs n ++ in_order bare_before (bare_level legs n) ∷ []) j d ≡ in_order bare_before (bare_level legs j)
    by (inl e) ih = get_seam (bare_levels legs n) (in_order bare_before (bare_level legs n)) j d (e ∙ sym (length_levels legs n)) ∙ ap (λ m. in_order bare_before (bare_level legs m)) (sym e)
    by (inr m) ih = let s = length_levels legs n in get_front (bare_levels legs n) (in_order bare_before (bare_level legs n) ∷ []) j d (omega arith) ∙ ih m

lead_to : (net : List NodeDecl) → KeepsNodeRules net → (y : Name) (n j : ℕ) (z : Name) → j < n → z.node < length net → z.addr ≤ top → walk_levels_lead (To y) (bare_levels (map bare_legs net) n) j z ≡ comes_to net y j z
lead_to net checked y n j z l h t = ap (λ rows. level_leads (To y) rows z) (level_among (map bare_legs net) n j [] l) ∙ leads_to_name net checked j z y h t

lead_on : (net : List NodeDecl) → KeepsNodeRules net → (n j : ℕ) (z : Name) → j < n → z.node < length net → z.addr ≤ top → walk_levels_lead Anywhere (bare_levels (map bare_legs net) n) j z ≡ goes_on net j z
lead_on net checked n j z l h t = ap (λ rows. level_leads Anywhere rows z) (level_among (map bare_legs net) n j [] l) ∙ leads_anywhere net checked j z h t

-- the names of the cycle
cycle_names_are : (net : List NodeDecl) → KeepsNodeRules net → (c : ℕ) (x : Name) → least_of (start_names true (bare_level (map bare_legs net) c)) ≡ Some x → x ∷ way_by (steps net) (walk_levels_lead (To x) (bare_levels (map bare_legs net) c)) (length (bare_levels (map bare_legs net) c)) x ≡ cycle_names net c
cycle_names_are net checked c x e =
    ap (λ n. x ∷ way_by (steps net) (walk_levels_lead (To x) (bare_levels (map bare_legs net) c)) n x) (length_levels (map bare_legs net) c)
    ∙ ap (λ l. x ∷ l) (way_same net checked (walk_levels_lead (To x) (bare_levels (map bare_legs net) c)) (comes_to net x) c (lead_to net checked x c) c (omega arith) x)
    ∙ ap (cycle_from net c) (sym (least_back net checked c ∙ e))

path_names_are : (net : List NodeDecl) → KeepsNodeRules net → (c : ℕ) (x : Name) → least_of (start_names false (bare_level (map bare_legs net) c)) ≡ Some x → Some (x ∷ way_by (steps net) (walk_levels_lead Anywhere (bare_levels (map bare_legs net) c)) (length (bare_levels (map bare_legs net) c)) x) ≡ path_names net c
path_names_are net checked c x e =
    ap (λ n. Some (x ∷ way_by (steps net) (walk_levels_lead Anywhere (bare_levels (map bare_legs net) c)) n x)) (length_levels (map bare_legs net) c)
    ∙ ap (λ l. Some (x ∷ l)) (way_same net checked (walk_levels_lead Anywhere (bare_levels (map bare_legs net) c)) (goes_on net) c (lead_on net checked c) c (omega arith) x)
    ∙ ap (path_from net c) (sym (least_onward net checked c ∙ e))

not_many : (net : List NodeDecl) (c : ℕ) → length (bare_walks (map bare_legs net) c) ≤ walk_limit → nat_lt walk_limit (length (live_walks net c)) ≡ false
not_many net c l = let e = count_is net c in le-ltb _ _ (omega arith)

-- the least name that is told of, where there are names
mapped_none : {X : Type 0} (f : Name → X) (o : Option Name) → option_map f o ≡ None → o ≡ None
mapped_none f None e = refl
mapped_none f (Some x) e = cc

pub cycle_shown : (net : List NodeDecl) (sorted : List (List BareWalk)) (newest : List BareWalk) → shown_cycle net sorted newest ≡ None → least_of (start_names true newest) ≡ None
cycle_shown net sorted newest e = mapped_none (λ x. x ∷ way_by (steps net) (walk_levels_lead (To x) sorted) (length sorted) x) (least_of (start_names true newest)) e

pub path_shown : (net : List NodeDecl) (sorted : List (List BareWalk)) (newest : List BareWalk) → shown_path net sorted newest ≡ None → least_of (start_names false newest) ≡ None
path_shown net sorted newest e = mapped_none (λ x. x ∷ way_by (steps net) (walk_levels_lead Anywhere sorted) (length sorted) x) (least_of (start_names false newest)) e

-- a walk that comes back
pub loop_is : (net : List NodeDecl) → KeepsNodeRules net → (k c : ℕ) (names : List Name) → c ≡ suc k → Acyclic net k → c ≤ 64 → length (bare_walks (map bare_legs net) c) ≤ walk_limit → shown_cycle net (bare_levels (map bare_legs net) c) (bare_level (map bare_legs net) c) ≡ Some names → endless_fault net ≡ Some (has_loop names)
loop_is net checked k c names s a l m told = subst (λ d. d ≤ 64 → length (bare_walks (map bare_legs net) d) ≤ walk_limit → shown_cycle net (bare_levels (map bare_legs net) d) (bare_level (map bare_legs net) d) ≡ Some names → endless_fault net ≡ Some (has_loop names)) (sym s) at l m told
  where
    at : suc k ≤ 64 → length (bare_walks (map bare_legs net) (suc k)) ≤ walk_limit → shown_cycle net (bare_levels (map bare_legs net) (suc k)) (bare_level (map bare_legs net) (suc k)) ≡ Some names → endless_fault net ≡ Some (has_loop names)
    at l m told = by (least_of (start_names true (bare_level (map bare_legs net) (suc k)))) refl told
      where
        by : (o : Option Name) → least_of (start_names true (bare_level (map bare_legs net) (suc k))) ≡ o → option_map (λ x. x ∷ way_by (steps net) (walk_levels_lead (To x) (bare_levels (map bare_legs net) (suc k))) (length (bare_levels (map bare_legs net) (suc k))) x) o ≡ Some names → endless_fault net ≡ Some (has_loop names)
        by None e told = cc
        by (Some x) e told =
            let u = steps_are in
            let short : shortest_cycle net ≡ Some (suc k) = shortest_is net ∙ first_within net checked k (step_limit - 1) x a e (omega arith) in
            let same : x ∷ way_by (steps net) (walk_levels_lead (To x) (bare_levels (map bare_legs net) (suc k))) (length (bare_levels (map bare_legs net) (suc k))) x ≡ names = cc in
            endless_fault_is net
            ∙ ap (λ o. if nat_lt walk_limit (length (live_walks net (counted_length o))) then Some is_wide else cycle_or_path net o) short
            ∙ ap (λ b. if b then Some is_wide else cycle_or_path net (Some (suc k))) (not_many net (suc k) m)
            ∙ ap (λ l. Some (has_loop l)) (sym (cycle_names_are net checked (suc k) x e) ∙ same)

-- the verdict where no walk of up to 64 choices comes back
endless_is : (net : List NodeDecl) → KeepsNodeRules net → Acyclic net (step_limit - 1) → length (bare_walks (map bare_legs net) step_limit) ≤ walk_limit → endless_fault net ≡ option_map is_deep (path_names net step_limit)
endless_is net checked a m =
    endless_fault_is net
    ∙ ap (λ o. if nat_lt walk_limit (length (live_walks net (counted_length o))) then Some is_wide else cycle_or_path net o) (shortest_is net ∙ none_within net checked (step_limit - 1) a)
    ∙ ap (λ b. if b then Some is_wide else cycle_or_path net None) (not_many net step_limit m)

-- a walk of 65 choices
pub deep_is : (net : List NodeDecl) → KeepsNodeRules net → (c : ℕ) (names : List Name) → c ≡ step_limit → Acyclic net (step_limit - 1) → length (bare_walks (map bare_legs net) c) ≤ walk_limit → shown_path net (bare_levels (map bare_legs net) c) (bare_level (map bare_legs net) c) ≡ Some names → endless_fault net ≡ Some (is_deep names)
deep_is net checked c names s a m told = by (least_of (start_names false (bare_level (map bare_legs net) c))) refl told
  where
    by : (o : Option Name) → least_of (start_names false (bare_level (map bare_legs net) c)) ≡ o → option_map (λ x. x ∷ way_by (steps net) (walk_levels_lead Anywhere (bare_levels (map bare_legs net) c)) (length (bare_levels (map bare_legs net) c)) x) o ≡ Some names → endless_fault net ≡ Some (is_deep names)
    by None e told = cc
    by (Some x) e told =
        endless_is net checked a (subst (λ d. length (bare_walks (map bare_legs net) d) ≤ walk_limit) s m)
        ∙ ap (λ d. option_map is_deep (path_names net d)) (sym s)
        ∙ ap (option_map is_deep) (sym (path_names_are net checked c x e) ∙ told)

-- levels behind an empty one are empty
pub empty_on : (legs : List (List BareLeg)) (m n : ℕ) → bare_level legs m ≡ [] → m ≤ n → bare_level legs n ≡ []
empty_on legs m zero e l = let s : 0 ≡ m = omega arith in ap (bare_level legs) s ∙ e
empty_on legs m (suc n) e l = by (last m n l) (empty_on legs m n e)
  where
    last : (m n : ℕ) → m ≤ suc n → (m ≡ suc n) ⊎ (m ≤ n)
    last m n l = grind arith

    by : (m ≡ suc n) ⊎ (m ≤ n) → (m ≤ n → bare_level legs n ≡ []) → bare_level legs (suc n) ≡ []
    by (inl s) ih = ap (bare_level legs) (sym s) ∙ e
    by (inr k) ih = level-suc legs n ∙ ap (flat_map (bare_extensions legs)) (ih k)

nothing_more : (legs : List (List BareLeg)) (k : ℕ) → bare_level legs (suc k) ≡ [] → bare_walks legs (suc k) ≡ bare_walks legs k
nothing_more legs k e = walks-suc legs k ∙ ap (λ l. bare_walks legs k ++ in_order bare_before l) e ∙ none (bare_walks legs k)
  where
    none : (xs : List BareWalk) → xs ++ [] ≡ xs
    none [] = refl
    none (x ∷ xs) = ap (λ l. x ∷ l) (none xs)

walks_on : (legs : List (List BareLeg)) (m n : ℕ) → bare_level legs (suc m) ≡ [] → m ≤ n → bare_walks legs n ≡ bare_walks legs m
walks_on legs m zero e l = let s : 0 ≡ m = omega arith in ap (bare_walks legs) s
walks_on legs m (suc n) e l = by (last m n l) (walks_on legs m n e)
  where
    last : (m n : ℕ) → m ≤ suc n → (m ≡ suc n) ⊎ (m ≤ n)
    last m n l = grind arith

    by : (m ≡ suc n) ⊎ (m ≤ n) → (m ≤ n → bare_walks legs n ≡ bare_walks legs m) → bare_walks legs (suc n) ≡ bare_walks legs m
    by (inl s) ih = ap (bare_walks legs) (sym s)
    by (inr k) ih = nothing_more legs n (empty_on legs (suc m) (suc n) e (omega arith)) ∙ ih k

-- a list of which no row is told is empty
none_shown : (rows : List BareWalk) → least_of (start_names false rows) ≡ None → rows ≡ []
none_shown [] e = refl
none_shown (t ∷ rows) e = absurd (some (start_names false rows) e)
  where
    some : (xs : List Name) → least_of (start_name t ∷ xs) ≡ None → ⊥
    some xs e = let n = none_least (start_name t ∷ xs) e in cc

-- a net whose levels end
pub record Legal (net : List NodeDecl) (k : ℕ) : Type 0 where
  pub none : endless_fault net ≡ None
  pub rows : bare_walks (map bare_legs net) k ≡ map bare_walk (live_walks net step_limit)

pub legal_is : (net : List NodeDecl) → KeepsNodeRules net → (k c : ℕ) → c ≡ suc k → Acyclic net k → k ≤ 64 → length (bare_walks (map bare_legs net) c) ≤ walk_limit → least_of (start_names false (bare_level (map bare_legs net) c)) ≡ None → Legal net k
legal_is net checked k c s a l m e = record { none = none; rows = rows }
  where
    legs : List (List BareLeg)
    legs = map bare_legs net

    empty : bare_level legs (suc k) ≡ []
    empty = ap (bare_level legs) (sym s) ∙ none_shown (bare_level legs c) e

    order : (j : ℕ) → (j ≤ k) ⊎ (suc k ≤ j)
    order j = grind arith

    acyclic : Acyclic net (step_limit - 1)
    acyclic j o p = elim (order j) [
      | inl q ↦ a j o q
      | inr q ↦ ap (λ rows. least_of (start_names true rows)) (empty_on legs (suc k) j empty q)
    ]

    all : bare_walks legs step_limit ≡ bare_walks legs k
    all = let u = steps_are in walks_on legs k step_limit empty (omega arith)

    last : bare_level legs step_limit ≡ []
    last = let u = steps_are in empty_on legs (suc k) step_limit empty (omega arith)

    fits : length (bare_walks legs step_limit) ≤ walk_limit
    fits = subst (λ n. n ≤ walk_limit) (ap length (ap (bare_walks legs) s ∙ nothing_more legs k empty ∙ sym all)) m

    none : endless_fault net ≡ None
    none = endless_is net checked acyclic fits ∙ ap (option_map is_deep) (ap (path_from net step_limit) (least_onward net checked step_limit ∙ ap (λ rows. least_of (start_names false rows)) last))

    rows : bare_walks legs k ≡ map bare_walk (live_walks net step_limit)
    rows = sym all ∙ walks_bare net step_limit

-- the rows of each sorted level stand by start
starts_rise : (rows : List BareWalk) → IsNonDecreasingBy (λ (t : BareWalk). t.start) (in_order bare_before rows)
starts_rise rows = pairs_rise (λ (t : BareWalk). t.start) (in_order bare_before rows) (pairs_more (λ t u. bare_before u t ≡ false) (λ (t u : BareWalk). t.start ≤ u.start) (in_order bare_before rows) (λ t u m n h. no_less t u (cases_lt u.start t.start) h) (in_order_pairs bare_before (before_weak (λ t. t)) rows))
  where
    no_less : (t u : BareWalk) → (u.start < t.start) ⊎ (t.start ≤ u.start) → bare_before u t ≡ false → t.start ≤ u.start
    no_less t u (inr l) h = l
    no_less t u (inl l) h = let e : true ≡ false = sym (ap (λ b. b || ((u.start == t.start) && (nat_lt u.lo t.lo || ((u.lo == t.lo) && nat_lt u.hi t.hi)))) (lt-ltb u.start t.start l)) ∙ h in cc

pub sorted_by_start : (legs : List (List BareLeg)) (n : ℕ) (sorted : List (List WalkRow)) → n ≡ length sorted → map (map row_view) sorted ≡ bare_levels legs n → All (λ level. IsNonDecreasingBy (λ (r : WalkRow). r.start) level) sorted
sorted_by_start legs n sorted s e k d l =
    let a : map row_view (get_or sorted k d) ≡ in_order bare_before (bare_level legs k) = sym (get_or-map (map row_view) sorted k d [] l) ∙ ap (λ x. get_or x k []) e ∙ level_among legs n k [] (omega arith) in
    rise_back row_view (λ (t : BareWalk). t.start) (get_or sorted k d) (subst (IsNonDecreasingBy (λ (t : BareWalk). t.start)) (sym a) (starts_rise (bare_level legs k)))
