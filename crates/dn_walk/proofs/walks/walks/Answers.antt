-- The levels of the code are those of the net, so what they show is the rule that the net breaks.
use Rattle.std.proofs.Common.{◌≡◌, ◌∙◌, ℕ, Option, option_map, IfSome, get_or, refl, suc, ◌+◌, ◌-◌, ◌<◌, ◌≤◌, ◌⊎◌, inl, inr, List, [], map, drop, length, vec_len, true, false, None, Some, Result, Err, sym, ap, subst, arith, rules}
use Rattle.std.specs.List.{All, flat_map}
use Rattle.std.specs.List.Sorted.{IsNonDecreasingBy}
use Rattle.std.proofs.lemmas.Bool.Decides.{nat_tests}
use Rattle.std.proofs.lemmas.Result.{err_from_is_err_and}
use Rattle.dn_base.specs.Answers.{Checks}
use Rattle.dn_base.proofs.Lists.{nil_from_length}
use Rattle.dn_net.specs.Decode.{step_limit}
use Rattle.dn_net.specs.Rules.{KeepsNodeRules}
use Rattle.dn_net.specs.WalkRules.{Broken, walk_limit, endless_fault, unit_fault, walk_fault, is_wide, has_loop, is_deep}
use Rattle.dn_net.specs.Walks.{live_walks}
use Rattle.dn_net.specs.declared.node.NodeDecl.{NodeDecl}
use Rattle.dn_net.specs.declared.node.Name.{Name}
use Rattle.dn_walk.specs.declared.fault.WalkFault.{WalkFault}
use Rattle.dn_walk.specs.declared.level.WalkLevels.{WalkLevels}
use Rattle.dn_walk.specs.declared.walks.WalkRow.{WalkRow}
use Rattle.dn_walk.specs.Rows.{bare_walk, row_view, walk_fault_view}
use Rattle.dn_walk.specs.Legs.{BareLeg, bare_legs}
use Rattle.dn_walk.specs.Levels.{AreWalkLevels, IsWideWhere, bare_level, bare_levels, bare_walks}
use Rattle.dn_walk.specs.Ways.{least_of, shown_cycle, shown_path, start_names}
use Rattle.dn_net.proofs.Kept.{none_broken}
use Rattle.dn_walk.proofs.Endless.{no_fault_is_shallow}
use Rattle.dn_walk.proofs.Legal.{first_part, second_part, legal_breaks_no_rule}
use Rattle.dn_net.proofs.Places.{length-map}
use Rattle.dn_walk.proofs.Nodes.{all_legs_of}
use Rattle.dn_walk.proofs.BareWalks.{rows_are, table_is}
use Rattle.dn_walk.proofs.Verdict.{Acyclic, Legal, steps_are, limit_is, wide_is, loop_is, deep_is, legal_is, cycle_shown, path_shown, sorted_by_start, empty_on}
use Rattle.dn_walk.proofs.walks.walks.Goals as goal
use Rattle.dn_walk.proofs.walks.walks.Goals.{In_ok-levels-2, In_ok-levels-3, In_ok-check_newest-2, then-levels-test+else-not-is_empty, else-levels-test}

-- levels made from the legs of the net
same_levels : (net : List NodeDecl) (legs : List (List BareLeg)) (l : WalkLevels) → legs ≡ map bare_legs net → AreWalkLevels legs l → AreWalkLevels (map bare_legs net) l
same_levels net legs l e h = subst (λ x. AreWalkLevels x l) e h

wide_broken : (P : Type 0) (found o : Option Broken) → (P → found ≡ Some is_wide) → IfSome o (λ b. (b ≡ is_wide) × P) → IfSome o (λ b. found ≡ Some b)
wide_broken P found None f h = tt
wide_broken P found (Some b) f h = f h.1 ∙ ap (λ x. Some x) (sym h.0)

-- the names of a cycle or of a path are those that the broken rule carries
names_broken : (carries : List Name → Broken) (found : Option Broken) (o o' : Option (List Name)) (v : Option Broken) → o ≡ o' → ((names : List Name) → o' ≡ Some names → found ≡ Some (carries names)) → IfSome v (λ b. option_map carries o ≡ Some b) → IfSome v (λ b. found ≡ Some b)
names_broken carries found o o' None s f h = tt
names_broken carries found None o' (Some b) s f h = cc
names_broken carries found (Some names) o' (Some b) s f h = f names (sym s) ∙ h

no_names : (carries : List Name → Broken) (o : Option (List Name)) → option_map carries o ≡ None → o ≡ None
no_names carries None h = refl
no_names carries (Some names) h = cc

-- a fault of the second part is the one that is broken where none of the first is
unit_broken : (net : List NodeDecl) (o : Option Broken) → endless_fault net ≡ None → IfSome o (λ b. unit_fault net ≡ Some b) → IfSome o (λ b. walk_fault net ≡ Some b)
unit_broken net None e h = tt
unit_broken net (Some b) e h = second_part net e ∙ h

-- the rows of the newest level begin at nodes of the net
starts_there : (net : List NodeDecl) → KeepsNodeRules net → (l : WalkLevels) → AreWalkLevels (map bare_legs net) l → length l.sorted.items ≤ 65 → All (λ (r : WalkRow). r.start < length net) l.newest.items
starts_there net rules l h m = λ k d b.
    let r = rows_are (map bare_legs net) (all_legs_of net rules (map bare_legs net) refl) (length l.sorted.items) 65 m l.newest.items h.newest k d b in
    subst (λ n. (get_or l.newest.items k d).start < n) (length-map bare_legs net) r.start

sorted_starts : (net : List NodeDecl) (l : WalkLevels) → AreWalkLevels (map bare_legs net) l → All (λ level. IsNonDecreasingBy (λ (r : WalkRow). r.start) level) l.sorted.items
sorted_starts net l h = sorted_by_start (map bare_legs net) (length l.sorted.items) l.sorted.items refl h.sorted

-- how many walks there are
few : (net : List NodeDecl) (l : WalkLevels) → AreWalkLevels (map bare_legs net) l → length (bare_walks (map bare_legs net) (length l.sorted.items)) ≤ walk_limit
few net l h = let r = h.room in omega arith

cycle_same : (net : List NodeDecl) (l : WalkLevels) → AreWalkLevels (map bare_legs net) l → shown_cycle net (map (map row_view) l.sorted.items) (map row_view l.newest.items) ≡ shown_cycle net (bare_levels (map bare_legs net) (length l.sorted.items)) (bare_level (map bare_legs net) (length l.sorted.items))
cycle_same net l h = ap (λ x. shown_cycle net x (map row_view l.newest.items)) h.sorted ∙ ap (shown_cycle net (bare_levels (map bare_legs net) (length l.sorted.items))) h.newest

path_same : (net : List NodeDecl) (l : WalkLevels) → AreWalkLevels (map bare_legs net) l → shown_path net (map (map row_view) l.sorted.items) (map row_view l.newest.items) ≡ shown_path net (bare_levels (map bare_legs net) (length l.sorted.items)) (bare_level (map bare_legs net) (length l.sorted.items))
path_same net l h = ap (λ x. shown_path net x (map row_view l.newest.items)) h.sorted ∙ ap (shown_path net (bare_levels (map bare_legs net) (length l.sorted.items))) h.newest

acyclic_more : (net : List NodeDecl) (k c : ℕ) → c ≡ k + 1 → Acyclic net k → least_of (start_names true (bare_level (map bare_legs net) c)) ≡ None → Acyclic net c
acyclic_more net k c s a e = λ j l m. by j l (last j m)
  where
    last : (j : ℕ) → j ≤ c → (j ≡ c) ⊎ (j ≤ k)
    last j m = grind arith

    by : (j : ℕ) → 1 ≤ j → (j ≡ c) ⊎ (j ≤ k) → least_of (start_names true (bare_level (map bare_legs net) j)) ≡ None
    by j l (inl t) = ap (λ n. least_of (start_names true (bare_level (map bare_legs net) n))) t ∙ e
    by j l (inr m) = a j l m

-- the loop ends at level 64, or at an empty level
abbrev Ended : List NodeDecl → ℕ → Type 0
Ended net k = (64 ≤ k) ⊎ (bare_level (map bare_legs net) k ≡ [])

deep_at : (net : List NodeDecl) → KeepsNodeRules net → (k c : ℕ) (names : List Name) → c ≡ k + 1 → k ≤ 64 → Ended net k → Acyclic net k → length (bare_walks (map bare_legs net) c) ≤ walk_limit → shown_path net (bare_levels (map bare_legs net) c) (bare_level (map bare_legs net) c) ≡ Some names → endless_fault net ≡ Some (is_deep names)
deep_at net checked k c names s l (inl m) a w told =
    let u = steps_are in
    let t : c ≡ step_limit = omega arith in
    let n : k ≡ step_limit - 1 = omega arith in
    deep_is net checked c names t (subst (Acyclic net) n a) w told
deep_at net checked k c names s l (inr e) a w told =
    let f = empty_on (map bare_legs net) k c e (omega arith) in
    let g : shown_path net (bare_levels (map bare_legs net) c) [] ≡ Some names = subst (λ rows. shown_path net (bare_levels (map bare_legs net) c) rows ≡ Some names) f told in
    cc

-- a level more that is too wide breaks the rule on how many walks there are
too_wide : (net : List NodeDecl) (legs : List (List BareLeg)) (k : ℕ) → KeepsNodeRules net → legs ≡ map bare_legs net → Acyclic net k → k ≤ 64 → walk_limit < length (bare_walks legs (k + 1)) → walk_fault net ≡ Some is_wide
too_wide net legs k rules e acyclic shallow w =
    first_part net is_wide (wide_is net rules k acyclic shallow (subst (λ x. walk_limit < length (bare_walks x (k + 1))) e w))

-- and it is the rule that is told
wide_told : {T : Type 0} (net : List NodeDecl) (legs : List (List BareLeg)) (k : ℕ) → KeepsNodeRules net → legs ≡ map bare_legs net → Acyclic net k → k ≤ 64 → (r : Result T WalkFault) (fault : WalkFault) → ((y : WalkFault) × (r ≡ Err y) × (y ≡ fault)) → IsWideWhere (walk_limit < length (bare_walks legs (k + 1))) fault → Checks walk_fault_view r (walk_fault net)
wide_told net legs k rules e acyclic shallow r fault p wide =
    rw (p.1, p.2) (wide_broken _ _ _ (too_wide net legs k rules e acyclic shallow) wide)

-- the levels after a turn are those of the net, and there are 64 of them at most
turned : (c : In_ok-levels-2) → AreWalkLevels (map bare_legs c.args.net.now) c.in_ok-levels-2.levels
turned c = same_levels c.args.net.now c.in_ok-legs.legs c.in_ok-levels-2.levels c.in_ok-legs.ensures c.in_ok-levels-2.ensures.levels

turned_few : (c : In_ok-levels-2) → length c.levels.levels.sorted.items < 64
turned_few c =
    let size : vec_len c.levels.levels.sorted ≡ length c.levels.levels.sorted.items = search rules in
    omega (arith, c.len.ensures, c.levels-test.true)

-- so are those with the last one
ended : (c : In_ok-levels-3) → AreWalkLevels (map bare_legs c.args.net.now) c.in_ok-levels-3.levels
ended c = same_levels c.args.net.now c.in_ok-legs.legs c.in_ok-levels-3.levels c.in_ok-legs.ensures c.in_ok-levels-3.ensures.levels

-- where the last one has no walk, no rule on cycles and depth is broken
sound : (c : In_ok-check_newest-2) → AreWalkLevels (map bare_legs c.args.net.now) c.in_ok-levels-3.levels → Legal c.args.net.now (length c.levels.levels.sorted.items)
sound c h =
    let net = c.args.net.now in
    let l = c.in_ok-levels-3.levels in
    let one = c.in_ok-levels-3.ensures.one_more in
    let none = path_shown net (map (map row_view) l.sorted.items) (map row_view l.newest.items) (no_names is_deep _ c.in_ok-check_newest-2.ensures) in
    legal_is net c.requires.rules (length c.levels.levels.sorted.items) (length l.sorted.items) (omega arith) c.levels.invariant.acyclic c.levels.invariant.shallow (few net l h) (ap (λ rows. least_of (start_names false rows)) (sym h.newest) ∙ none)

-- and the rows of all levels but the first are the live walks
tabled : (net : List NodeDecl) (l : WalkLevels) (k : ℕ) → length l.sorted.items ≡ k + 1 → AreWalkLevels (map bare_legs net) l → Legal net k → map row_view (flat_map (λ x. x) (drop 1 l.sorted.items)) ≡ map bare_walk (live_walks net step_limit)
tabled net l k one h legal =
    let pred : length l.sorted.items - 1 ≡ k = omega arith in
    let some : 0 < length l.sorted.items = omega arith in
    table_is (map bare_legs net) (length l.sorted.items) l.sorted.items some h.sorted ∙ ap (bare_walks (map bare_legs net)) pred ∙ legal.rows

pub with_next-requires-clause-legs : goal.with_next-requires-clause-legs
with_next-requires-clause-legs c =
    all_legs_of c.args.net.now c.requires.rules c.in_ok-legs.legs c.in_ok-legs.ensures

pub with_next-requires-2-clause-legs : goal.with_next-requires-2-clause-legs
with_next-requires-2-clause-legs c =
    all_legs_of c.args.net.now c.requires.rules c.in_ok-legs.legs c.in_ok-legs.ensures

pub levels-preserved : goal.levels-preserved
levels-preserved c =
    let net = c.args.net.now in
    let old = c.levels.levels in
    let l = c.in_ok-levels-2.levels in
    let place = (goal.at.levels-preserved c).In_ok-levels-2 in
    let h = turned place in
    let k = turned_few place in
    let one = c.in_ok-levels-2.ensures.one_more in
    let none = cycle_shown net (map (map row_view) l.sorted.items) (map row_view l.newest.items) (no_names has_loop _ c.in_ok-check_newest.ensures) in
    record {
      levels = h;
      shallow = omega arith;
      acyclic = acyclic_more net (length old.sorted.items) (length l.sorted.items) one c.levels.invariant.acyclic (ap (λ rows. least_of (start_names true rows)) (sym h.newest) ∙ none);
    }

pub returns-in_err-levels-2-clause-checks : goal.returns-in_err-levels-2-clause-checks
returns-in_err-levels-2-clause-checks c =
    wide_told c.args.net.now c.in_ok-legs.legs (length c.levels.levels.sorted.items) c.requires.rules c.in_ok-legs.ensures c.levels.invariant.acyclic c.levels.invariant.shallow _ _ (err_from_is_err_and _ c.from_residual-in_err-levels-2.ensures.1) c.in_err-levels-2.ensures.wide

pub returns-in_err-levels-3-clause-checks : goal.returns-in_err-levels-3-clause-checks
returns-in_err-levels-3-clause-checks c =
    wide_told c.args.net.now c.in_ok-legs.legs (length c.levels.levels.sorted.items) c.requires.rules c.in_ok-legs.ensures c.levels.invariant.acyclic c.levels.invariant.shallow _ _ (err_from_is_err_and _ c.from_residual-in_err-levels-3.ensures.1) c.in_err-levels-3.ensures.wide

pub check_newest-requires-clause-there : goal.check_newest-requires-clause-there
check_newest-requires-clause-there c =
    let place = (goal.at.check_newest-requires-clause-there c).In_ok-levels-2 in
    let one = c.in_ok-levels-2.ensures.one_more in
    let k = turned_few place in
    starts_there c.args.net.now c.requires.rules c.in_ok-levels-2.levels (turned place) (omega arith)

pub check_newest-requires-clause-sorted : goal.check_newest-requires-clause-sorted
check_newest-requires-clause-sorted c =
    sorted_starts c.args.net.now c.in_ok-levels-2.levels (turned (goal.at.check_newest-requires-clause-sorted c).In_ok-levels-2)

pub check_newest-requires-2-clause-there : goal.check_newest-requires-2-clause-there
check_newest-requires-2-clause-there c =
    let one = c.in_ok-levels-3.ensures.one_more in
    let k = c.levels.invariant.shallow in
    starts_there c.args.net.now c.requires.rules c.in_ok-levels-3.levels (ended (goal.at.check_newest-requires-2-clause-there c).In_ok-levels-3) (omega arith)

pub check_newest-requires-2-clause-sorted : goal.check_newest-requires-2-clause-sorted
check_newest-requires-2-clause-sorted c =
    sorted_starts c.args.net.now c.in_ok-levels-3.levels (ended (goal.at.check_newest-requires-2-clause-sorted c).In_ok-levels-3)

pub returns-in_err-check_newest-clause-checks : goal.returns-in_err-check_newest-clause-checks
returns-in_err-check_newest-clause-checks c =
    let net = c.args.net.now in
    let l = c.in_ok-levels-2.levels in
    let place = (goal.at.returns-in_err-check_newest-clause-checks c).In_ok-levels-2 in
    let h = turned place in
    let k = turned_few place in
    let suc_is : length l.sorted.items ≡ suc (length c.levels.levels.sorted.items) = c.in_ok-levels-2.ensures.one_more ∙ omega arith in
    let loop : (names : List Name) → shown_cycle net (bare_levels (map bare_legs net) (length l.sorted.items)) (bare_level (map bare_legs net) (length l.sorted.items)) ≡ Some names → walk_fault net ≡ Some (has_loop names) = λ names told. first_part net (has_loop names) (loop_is net c.requires.rules (length c.levels.levels.sorted.items) (length l.sorted.items) names suc_is c.levels.invariant.acyclic (omega arith) (few net l h) told) in
    let p = err_from_is_err_and c.from_residual-in_err-check_newest.result c.from_residual-in_err-check_newest.ensures.1 in
    rw (p.1, p.2) (names_broken has_loop _ _ _ _ (cycle_same net l h) loop c.in_err-check_newest.ensures)

pub returns-in_err-check_newest-2-clause-checks : goal.returns-in_err-check_newest-2-clause-checks
returns-in_err-check_newest-2-clause-checks c =
    let net = c.args.net.now in
    let old = c.levels.levels in
    let inv = c.levels.invariant in
    let l = c.in_ok-levels-3.levels in
    let h = ended (goal.at.returns-in_err-check_newest-2-clause-checks c).In_ok-levels-3 in
    let size : vec_len old.sorted ≡ length old.sorted.items = search rules in
    let ended : Ended net (length old.sorted.items) = elim c.levels-test.branch [
      | then-levels-test+else-not-is_empty w ↦ (let none : length old.newest.items ≡ 0 = grind (arith, nat_tests, w.is_empty.ensures, w.if-not-is_empty.false) in inr (sym inv.levels.newest ∙ ap (map row_view) (nil_from_length old.newest.items none)))
      | else-levels-test w ↦ inl (omega (arith, c.len.ensures, w.levels-test.false))
    ] in
    let deep : (names : List Name) → shown_path net (bare_levels (map bare_legs net) (length l.sorted.items)) (bare_level (map bare_legs net) (length l.sorted.items)) ≡ Some names → walk_fault net ≡ Some (is_deep names) = λ names told. first_part net (is_deep names) (deep_at net c.requires.rules (length old.sorted.items) (length l.sorted.items) names c.in_ok-levels-3.ensures.one_more inv.shallow ended inv.acyclic (few net l h) told) in
    let p = err_from_is_err_and c.from_residual-in_err-check_newest-2.result c.from_residual-in_err-check_newest-2.ensures.1 in
    rw (p.1, p.2) (names_broken is_deep _ _ _ _ (path_same net l h) deep c.in_err-check_newest-2.ensures)

pub checked_rows-requires-clause-room : goal.checked_rows-requires-clause-room
checked_rows-requires-clause-room c =
    let h = ended (goal.at.checked_rows-requires-clause-room c).In_ok-levels-3 in
    let r = h.room in let e = limit_is in omega arith

pub checked_rows-requires-clause-shallow : goal.checked_rows-requires-clause-shallow
checked_rows-requires-clause-shallow c =
    let at = goal.at.checked_rows-requires-clause-shallow c in
    no_fault_is_shallow c.args.net.now c.requires.rules (sound at.In_ok-check_newest-2 (ended at.In_ok-levels-3)).none

pub checked_rows-requires-clause-walks : goal.checked_rows-requires-clause-walks
checked_rows-requires-clause-walks c =
    let at = goal.at.checked_rows-requires-clause-walks c in
    let h = ended at.In_ok-levels-3 in
    tabled c.args.net.now c.in_ok-levels-3.levels (length c.levels.levels.sorted.items) c.in_ok-levels-3.ensures.one_more h (sound at.In_ok-check_newest-2 h)

pub returns-in_err-pieces-clause-checks : goal.returns-in_err-pieces-clause-checks
returns-in_err-pieces-clause-checks c =
    let at = goal.at.returns-in_err-pieces-clause-checks c in
    let p = err_from_is_err_and c.from_residual-in_err-pieces.result c.from_residual-in_err-pieces.ensures.1 in
    rw (p.1, p.2) (unit_broken c.args.net.now _ (sound at.In_ok-check_newest-2 (ended at.In_ok-levels-3)).none c.in_err-pieces.ensures.checks)

pub returns-clause-checks : goal.returns-clause-checks
returns-clause-checks c =
    let at = goal.at.returns-clause-checks c in
    second_part c.args.net.now (sound at.In_ok-check_newest-2 (ended at.In_ok-levels-3)).none ∙ c.in_ok-pieces.ensures.checks

pub returns-clause-walks : goal.returns-clause-walks
returns-clause-walks c =
    let net = c.args.net.now in
    let at = goal.at.returns-clause-walks c in
    let h = ended at.In_ok-levels-3 in
    let legal = sound at.In_ok-check_newest-2 h in
    record {
      legal = (legal_breaks_no_rule net c.facts.ensures c.requires.rules.closed).0 (none_broken net c.requires.rules.each, c.requires.shapes, second_part net legal.none ∙ c.in_ok-pieces.ensures.checks);
      same = ap (map row_view) c.in_ok-pieces.ensures.rows ∙ tabled net c.in_ok-levels-3.levels (length c.levels.levels.sorted.items) c.in_ok-levels-3.ensures.one_more h legal;
      accepted = c.in_ok-accepted_sets.ensures;
      legs = c.in_ok-legs.ensures;
    }
