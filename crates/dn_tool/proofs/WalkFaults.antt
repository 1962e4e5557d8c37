-- The nodes that the rules on walks name are there.
use Rattle.std.proofs.Common.{◌≡◌, ◌∙◌, ap, sym, subst, refl, arith, ℕ, zero, suc, ◌+◌, ◌<◌, if◌then◌else◌, Bool, true, false, nat_lt, List, [], ◌∷◌, ◌++◌, map, filter, flat_map, length, Option, IfSome, Some, None, option_map, IsTrue, lt-ltb}
use Rattle.std.proofs.lemmas.Option.{none-some, same_Some}
use Rattle.std.specs.List.{list_all}
use Rattle.std.specs.Option.{is_some}
use Rattle.dn_base.proofs.Booleans.{and_from, and_parts}
use Rattle.dn_net.specs.declared.node.Name.{Name}
use Rattle.dn_net.specs.declared.node.NodeDecl.{NodeDecl}
use Rattle.dn_net.specs.Decode.{top, steps, step_limit, is_closed}
use Rattle.dn_net.specs.Names.{sorted_names, stop_names}
use Rattle.dn_net.specs.WalkRules.{Broken, is_wide, has_loop, is_deep, has_chain, or_else, first_below, least_below, least_name, goes_on, comes_to, comes_back, shortest_cycle, first_of, names_behind, way_by, cycle_from, cycle_names, path_from, path_names, cycle_or_path, fork_broken, endless_fault, unit_fault, walk_fault}
use Rattle.dn_net.specs.UnitRules.{Fork, is_fork, fork_at, least_fork, unit_leads, units_from, unit_numbers, next_units, unit_rows_from, unit_rows, is_large, first_row, large_row, first_chain}
use Rattle.dn_walk.proofs.Endless.{is_wide_net, endless_fault_is}
use Rattle.dn_net.proofs.Stops.{IsFirstStopOr, first_stop_is, listed_stop, stop_there}
use Rattle.dn_kind.specs.Levels.{are_there}
use Rattle.dn_kind.proofs.Nodes.{steps_there, sorted_there}
use Rattle.dn_tool.specs.Refused.{AreNodesWithin}

-- what passes a test of a list
filter_there : {X : Type 0} (p q : X → Bool) (xs : List X) → IsTrue (list_all q xs) → IsTrue (list_all q (filter p xs))
filter_there p q [] h = refl
filter_there {X} p q (x ∷ xs) h = go (filter_there p q xs b.1) (p x) refl
  where
    b : IsTrue (q x) × IsTrue (list_all q xs)
    b = and_parts (q x) (list_all q xs) h

    go : IsTrue (list_all q (filter p xs)) → (c : Bool) → p x ≡ c → IsTrue (list_all q (filter p (x ∷ xs)))
    go later true e = rw e (and_from _ _ b.0 later)
    go later false e = rw e later

-- the names of a way
behind_exist : (count : ℕ) (xs : List Name) (rest : Name → List Name) → IsTrue (are_there count xs) → ((z : Name) → IsTrue (are_there count (rest z))) → IsTrue (are_there count (names_behind (first_of xs) rest))
behind_exist count [] rest h later = refl
behind_exist count (x ∷ xs) rest h later = and_from _ _ (and_parts (nat_lt x.node count) (are_there count xs) h).0 (later x)

way_exist : (net : List NodeDecl) → IsTrue (is_closed net) → (leads : ℕ → Name → Bool) (k : ℕ) (x : Name) → IsTrue (are_there (length net) (way_by (steps net) leads k x))
way_exist net closed leads zero x = refl
way_exist net closed leads (suc k) x =
    behind_exist (length net) (sorted_names (filter (leads k) (steps net x))) (λ z. way_by (steps net) leads k z)
    (sorted_there (length net) (filter (leads k) (steps net x)) (filter_there (leads k) (λ y. nat_lt y.node (length net)) (steps net x) (steps_there net x closed)))
    (λ z. way_exist net closed leads k z)

-- the least name is in a node below the bound
least_there : (p : Name → Bool) (n : ℕ) (x : Name) → least_below p n ≡ Some x → x.node < n
least_there p zero x e = absurd (none-some x e)
least_there p (suc n) x e = go (least_there p n x) (least_below p n) refl (first_below (λ a. p (record { node = n; addr = a })) (suc top)) e
  where
    here : (o : Option ℕ) → option_map (λ a. record { node = n; addr = a }) o ≡ Some x → x.node < suc n
    here None f = absurd (none-some x f)
    here (Some a) f = let s : n ≡ x.node = ap (λ w. w.node) (same_Some (record { node = n; addr = a }) x f) in omega arith

    go : (least_below p n ≡ Some x → x.node < n) → (o : Option Name) → least_below p n ≡ o → (r : Option ℕ) → or_else o (option_map (λ a. record { node = n; addr = a }) r) ≡ Some x → x.node < suc n
    go later (Some y) at r f = let l = later (at ∙ f) in omega arith
    go later None at r f = here r f

least_name_there : (net : List NodeDecl) (p : Name → Bool) (x : Name) → least_name net p ≡ Some x → IsTrue (nat_lt x.node (length net))
least_name_there net p x e = lt-ltb x.node (length net) (least_there p (length net) x e)

cycle_exist : (net : List NodeDecl) → IsTrue (is_closed net) → (c : ℕ) → IsTrue (are_there (length net) (cycle_names net c))
cycle_exist net closed c = go (least_name net (comes_back net c)) refl
  where
    go : (o : Option Name) → least_name net (comes_back net c) ≡ o → IsTrue (are_there (length net) (cycle_from net c o))
    go None at = refl
    go (Some x) at = and_from _ _ (least_name_there net (comes_back net c) x at) (way_exist net closed (comes_to net x) c x)

path_exist : (net : List NodeDecl) → IsTrue (is_closed net) → (k : ℕ) (b : Broken) → option_map is_deep (path_names net k) ≡ Some b → AreNodesWithin (length net) b
path_exist net closed k b e = go (least_name net (goes_on net k)) refl e
  where
    go : (o : Option Name) → least_name net (goes_on net k) ≡ o → option_map is_deep (path_from net k o) ≡ Some b → AreNodesWithin (length net) b
    go None at f = absurd (none-some b f)
    go (Some x) at f =
        let xs : List Name = x ∷ way_by (steps net) (goes_on net) k x in
        subst (AreNodesWithin (length net)) (same_Some (is_deep xs) b f) (and_from _ _ (least_name_there net (goes_on net k) x at) (way_exist net closed (goes_on net) k x))

endless_exist : (net : List NodeDecl) → IsTrue (is_closed net) → (o : Option ℕ) (b : Broken) → cycle_or_path net o ≡ Some b → AreNodesWithin (length net) b
endless_exist net closed (Some c) b e = subst (AreNodesWithin (length net)) (same_Some (has_loop (cycle_names net c)) b e) (cycle_exist net closed c)
endless_exist net closed None b e = path_exist net closed step_limit b e

-- a fork: the name and the unit that it reaches
first_there : (net : List NodeDecl) (x s : Name) → first_of (stop_names net x) ≡ Some s → s.node < length net
first_there net x s e =
    let f : IsFirstStopOr net x (Some s) = subst (IsFirstStopOr net x) e (first_stop_is net x) in
    stop_there net s (listed_stop net x s f.listed).0

abbrev IsForkThere : List NodeDecl → Fork → Type 0
IsForkThere net f = (f.name.node < length net) × (f.unit < length net)

fork_there : (net : List NodeDecl) (f : Fork) → least_fork net ≡ Some f → IsForkThere net f
unfolding least_fork
fork_there net f e = go (least_name net (is_fork net)) refl e
  where
    at : (x : Name) → x.node < length net → (o : Option Name) → first_of (stop_names net x) ≡ o → option_map (λ s. record { name = x; unit = s.node }) o ≡ Some f → IsForkThere net f
    at x l None is g = absurd (none-some f g)
    at x l (Some s) is g = subst (IsForkThere net) (same_Some (record { name = x; unit = s.node }) f g) (l, first_there net x s is)

    go : (o : Option Name) → least_name net (is_fork net) ≡ o → fork_at net o ≡ Some f → IsForkThere net f
    go None is g = absurd (none-some f g)
    go (Some x) is g = at x (least_there (is_fork net) (length net) x is) (first_of (stop_names net x)) refl g

-- a row of units
abbrev are_units_there : ℕ → List ℕ → Bool
are_units_there count us = list_all (λ u. nat_lt u count) us

abbrev rows_there : ℕ → List (List ℕ) → Bool
rows_there count rows = list_all (are_units_there count) rows

both_there : (count : ℕ) (xs ys : List (List ℕ)) → IsTrue (rows_there count xs) → IsTrue (rows_there count ys) → IsTrue (rows_there count (xs ++ ys))
both_there count [] ys h k = k
both_there count (x ∷ xs) ys h k =
    let b = and_parts (are_units_there count x) (rows_there count xs) h in
    and_from _ _ b.0 (both_there count xs ys b.1 k)

front_there : (count u : ℕ) (rows : List (List ℕ)) → IsTrue (nat_lt u count) → IsTrue (rows_there count rows) → IsTrue (rows_there count (map (λ us. u ∷ us) rows))
front_there count u [] h k = refl
front_there count u (us ∷ rows) h k =
    let b = and_parts (are_units_there count us) (rows_there count rows) k in
    and_from _ _ (and_from _ _ h b.0) (front_there count u rows h b.1)

each_there : (count : ℕ) (rows : ℕ → List (List ℕ)) → ((u : ℕ) → IsTrue (rows_there count (rows u))) → (first : List ℕ) → IsTrue (are_units_there count first) → IsTrue (rows_there count (flat_map (λ u. map (λ us. u ∷ us) (rows u)) first))
each_there count rows good [] h = refl
each_there count rows good (u ∷ us) h =
    let b = and_parts (nat_lt u count) (are_units_there count us) h in
    both_there count (map (λ vs. u ∷ vs) (rows u)) (flat_map (λ v. map (λ vs. v ∷ vs) (rows v)) us) (front_there count u (rows u) b.0 (good u)) (each_there count rows good us b.1)

rows_from_there : (count : ℕ) (next : ℕ → List ℕ) → ((u : ℕ) → IsTrue (are_units_there count (next u))) → (k : ℕ) (first : List ℕ) → IsTrue (are_units_there count first) → IsTrue (rows_there count (unit_rows_from next k first))
unfolding unit_rows_from
rows_from_there count next good zero first h = refl
rows_from_there count next good (suc k) first h = each_there count (λ u. unit_rows_from next k (next u)) (λ u. rows_from_there count next good k (next u) (good u)) first h

numbers_there : (number : ℕ) (net : List NodeDecl) → IsTrue (are_units_there (number + length net) (units_from number net))
numbers_there number [] = refl
numbers_there number (n ∷ ns) = go (let e : suc number + length ns ≡ number + length (n ∷ ns) = omega arith in subst (λ (c : ℕ). IsTrue (are_units_there c (units_from (suc number) ns))) e (numbers_there (suc number) ns)) (is_some n.unit)
  where
    go : IsTrue (are_units_there (number + length (n ∷ ns)) (units_from (suc number) ns)) → (b : Bool) → IsTrue (are_units_there (number + length (n ∷ ns)) (if b then number ∷ units_from (suc number) ns else units_from (suc number) ns))
    go later true = and_from _ _ (lt-ltb number (number + length (n ∷ ns)) (omega arith)) later
    go later false = later

units_there : (net : List NodeDecl) → IsTrue (are_units_there (length net) (unit_numbers net))
units_there net = let e : 0 + length net ≡ length net = omega arith in subst (λ (c : ℕ). IsTrue (are_units_there c (unit_numbers net))) e (numbers_there 0 net)

next_there : (net : List NodeDecl) (u : ℕ) → IsTrue (are_units_there (length net) (next_units net u))
next_there net u = filter_there (unit_leads net u) (λ w. nat_lt w (length net)) (unit_numbers net) (units_there net)

unit_rows_there : (net : List NodeDecl) (k : ℕ) → IsTrue (rows_there (length net) (unit_rows net k))
unit_rows_there net k = rows_from_there (length net) (next_units net) (next_there net) k (unit_numbers net) (units_there net)

first_row_there : (count : ℕ) (rows : List (List ℕ)) (us : List ℕ) → IsTrue (rows_there count rows) → first_row rows ≡ Some us → IsTrue (are_units_there count us)
first_row_there count [] us h e = absurd (none-some us e)
first_row_there count (vs ∷ rows) us h e = subst (λ (ws : List ℕ). IsTrue (are_units_there count ws)) (same_Some vs us e) (and_parts (are_units_there count vs) (rows_there count rows) h).0

large_there : (net : List NodeDecl) (k : ℕ) (us : List ℕ) → large_row net k ≡ Some us → IsTrue (are_units_there (length net) us)
large_there net k us e = first_row_there (length net) (filter (is_large net) (unit_rows net k)) us (filter_there (is_large net) (are_units_there (length net)) (unit_rows net k) (unit_rows_there net k)) e

or_else_there : {A : Type 0} (P : A → Type 0) (o r : Option A) → ((a : A) → o ≡ Some a → P a) → ((a : A) → r ≡ Some a → P a) → (a : A) → or_else o r ≡ Some a → P a
or_else_there P (Some b) r one other a e = one a e
or_else_there P None r one other a e = other a e

chain_there : (net : List NodeDecl) (us : List ℕ) → first_chain net ≡ Some us → IsTrue (are_units_there (length net) us)
unfolding first_chain
chain_there net us e =
    let P : List ℕ → Type 0 = λ vs. IsTrue (are_units_there (length net) vs) in
    or_else_there P (first_row (unit_rows net 4)) (or_else (large_row net 1) (or_else (large_row net 2) (large_row net 3)))
    (λ vs f. first_row_there (length net) (unit_rows net 4) vs (unit_rows_there net 4) f)
    (λ vs f. or_else_there P (large_row net 1) (or_else (large_row net 2) (large_row net 3)) (large_there net 1) (λ ws g. or_else_there P (large_row net 2) (large_row net 3) (large_there net 2) (large_there net 3) ws g) vs f)
    us e

unit_exist : (net : List NodeDecl) (b : Broken) → unit_fault net ≡ Some b → AreNodesWithin (length net) b
unfolding unit_fault
unit_exist net b e = go (least_fork net) refl (first_chain net) refl e
  where
    go : (f : Option Fork) → least_fork net ≡ f → (c : Option (List ℕ)) → first_chain net ≡ c → or_else (option_map fork_broken f) (option_map has_chain c) ≡ Some b → AreNodesWithin (length net) b
    go (Some f) at c is g = subst (AreNodesWithin (length net)) (same_Some (fork_broken f) b g) (fork_there net f at)
    go None at (Some us) is g = subst (AreNodesWithin (length net)) (same_Some (has_chain us) b g) (chain_there net us is)
    go None at None is g = absurd (none-some b g)

-- the first rule that is broken
wide_or_endless : (net : List NodeDecl) → IsTrue (is_closed net) → (b : Broken) → endless_fault net ≡ Some b → AreNodesWithin (length net) b
wide_or_endless net closed b e = go (is_wide_net net) (sym (endless_fault_is net) ∙ e)
  where
    go : (w : Bool) → (if w then Some is_wide else cycle_or_path net (shortest_cycle net)) ≡ Some b → AreNodesWithin (length net) b
    go true f = subst (AreNodesWithin (length net)) (same_Some is_wide b f) tt
    go false f = endless_exist net closed (shortest_cycle net) b f

walk_exist : (net : List NodeDecl) → IsTrue (is_closed net) → (b : Broken) → walk_fault net ≡ Some b → AreNodesWithin (length net) b
walk_exist net closed b e = or_else_there (AreNodesWithin (length net)) (endless_fault net) (unit_fault net) (wide_or_endless net closed) (unit_exist net) b e

-- the nodes that the broken rule names are there
pub walk_fault_within : (net : List NodeDecl) (v : Option Broken) → IsTrue (is_closed net) → IfSome v (λ b. walk_fault net ≡ Some b) → IfSome v (AreNodesWithin (length net))
walk_fault_within net None closed h = tt
walk_fault_within net (Some b) closed h = walk_exist net closed b h
