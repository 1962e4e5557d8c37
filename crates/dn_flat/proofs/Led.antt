-- A node whose addresses all go on to those of another reaches what that one reaches.
use Rattle.std.proofs.Common.{◌≡◌, ◌∙◌, ℕ, zero, suc, ◌+◌, ◌-◌, ◌<◌, ◌≤◌, ◌⊎◌, ◌↔◌, inl, inr, Bool, List, [], ◌∷◌, ◌++◌, map, length, get_or, slice_get, Option, Some, None, IfSome, refl, sym, ap, subst, arith, IsTrue}
use Rattle.std.proofs.lemmas.Option.{slice_get-get_or}
use Rattle.dn_base.proofs.Orders.{cases_lt}
use Rattle.dn_base.proofs.Booleans.{means_then}
use Rattle.dn_interval.specs.declared.row.End.{End}
use Rattle.dn_interval.specs.declared.row.Row.{Row}
use Rattle.dn_interval.specs.declared.span.TheConstants.{TOP}
use Rattle.dn_interval.specs.Rows.{AreNormal, GivenBy, Member, further_end}
use Rattle.dn_interval.proofs.Membership.{in_from}
use Rattle.dn_net.specs.declared.node.Name.{Name}
use Rattle.dn_net.specs.declared.node.NodeDecl.{NodeDecl}
use Rattle.dn_net.specs.Chain.{IsChain, Ends, ReachesWithin}
use Rattle.dn_net.specs.Decode.{Step, steps, step_limit, is_accepted, is_stop}
use Rattle.dn_net.specs.Legal.{IsLegalNet}
use Rattle.dn_net.proofs.Chains.{chain_front}
use Rattle.dn_walk.specs.Ends.{end_of, name_of_end}
use Rattle.dn_flat.specs.declared.levels.Levels.{Levels}
use Rattle.dn_flat.specs.declared.reach.Reach.{Reach}
use Rattle.dn_flat.specs.Levels.{AreLevelsBelow, IsLevels}
use Rattle.dn_flat.specs.Shared.{no_levels}
use Rattle.dn_flat.specs.Stages.{EndsBefore, GoesIn, IsReach, AreReaches, IsLedBy, IsLedTo}
use Rattle.dn_flat.proofs.Bounds.{limit_is}
use Rattle.dn_flat.proofs.Lists.{each_pushed, length_pushed}

pub one_item : (xs : List Row) (x : Row) → 1 ≤ length xs → length xs < 2 → x ≡ get_or xs 0 x → xs ≡ x ∷ []
one_item [] x l m is = absurd (omega arith)
one_item (y ∷ []) x l m is = ap (λ r. r ∷ []) (sym is)
one_item (y ∷ z ∷ xs) x l m is = absurd (omega arith)

-- where the one row of a node leads each address to that address of another
pub led_is : (o : Option ℕ) (reach : Reach) (row : Row) → reach.done.accepts ≡ [] → reach.done.stops ≡ [] → reach.go ≡ row ∷ [] → IfSome o (λ x. IsLedBy x row) → IfSome o (λ x. IsLedTo x reach)
led_is None reach row accepts stops go led = led
led_is (Some x) reach row accepts stops go led = record { accepts = accepts; stops = stops; row = row; go = go; led = led }

-- rows that are none give nothing
none_given : (f : ℕ → End → Type 0) (rows : List Row) → rows ≡ [] → AreNormal f rows → (a : ℕ) (y : End) → a ≤ TOP → f a y → ⊥
none_given f [] e n a y low h = (n.exact a y low).0 h
none_given f (r ∷ rows) e n a y low h = cc

-- one row over all addresses gives to each the same address of its node

abbrev end_in : ℕ → ℕ → End
end_in node a = record { node = node; base = a }

at_end : (other a lo : ℕ) → lo ≡ 0 → further_end (a - lo) (end_in other 0) ≡ end_in other a
at_end other a lo e = let d : 0 + (a - lo) ≡ a = omega arith in ap (end_in other) d

one_to : (rows : List Row) (r : Row) (other a : ℕ) (y : End) → rows ≡ r ∷ [] → r.span.lo ≡ 0 → r.ends ≡ end_in other 0 ∷ [] → GivenBy rows a y → end_in other a ≡ y
one_to rows r other a y go lo ends g = by (subst (λ rs. GivenBy rs a y) go g)
  where
    named : Member y (further_end (a - r.span.lo) (end_in other 0) ∷ []) → end_in other a ≡ y
    named (inl e) = sym (at_end other a r.span.lo lo) ∙ e
    named (inr h) = absurd h

    by : GivenBy (r ∷ []) a y → end_in other a ≡ y
    by (inl h) = named (subst (λ es. Member y (map (further_end (a - r.span.lo)) es)) ends h.1)
    by (inr h) = absurd h

one_from : (rows : List Row) (r : Row) (other a : ℕ) → rows ≡ r ∷ [] → r.span.lo ≡ 0 → r.span.hi ≡ TOP → r.ends ≡ end_in other 0 ∷ [] → a ≤ TOP → GivenBy rows a (end_in other a)
one_from rows r other a go lo hi ends low =
    let named : Member (end_in other a) (map (further_end (a - r.span.lo)) r.ends) = subst (λ es. Member (end_in other a) (map (further_end (a - r.span.lo)) es)) (sym ends) (inl (at_end other a r.span.lo lo)) in
    subst (λ rs. GivenBy rs a (end_in other a)) (sym go) (inl (in_from r.span a (omega arith) (omega arith), named))

module _ (net : List NodeDecl) (legal : IsLegalNet net) (node other : ℕ) (reach : Reach) (is : IsReach net 1 node reach) (led : IsLedTo other reach) where
  abbrev here : ℕ → Name
  here a = record { node = node; addr = a }

  abbrev there : ℕ → Name
  there a = record { node = other; addr = a }

  step_to : (a : ℕ) (z : Name) → a ≤ TOP → Step net (here a) z → there a ≡ z
  step_to a z low s = ap name_of_end (one_to reach.go led.row other a (end_of z) led.go led.lo led.ends ((is.go.exact a (end_of z) low).0 (z, s, refl)))

  step_from : (a : ℕ) → a ≤ TOP → Step net (here a) (there a)
  step_from a low =
      let c : GoesIn net 1 node a (end_in other a) = (is.go.exact a (end_in other a) low).1 (one_from reach.go led.row other a led.go led.lo led.hi led.ends low) in
      subst (λ w. Step net (here a) w) c.2 c.1

  on : (a : ℕ) (y : Name) → a ≤ TOP → ReachesWithin (Step net) step_limit (there a) y → ReachesWithin (Step net) step_limit (here a) y
  on a y low h = by (cases_lt h.0 65)
    where
      by : (h.0 < 65) ⊎ (65 ≤ h.0) → ReachesWithin (Step net) step_limit (here a) y
      by (inl l) = let e : step_limit ≡ 65 = limit_is in (suc h.0, omega arith, (there a, step_from a low, h.2))
      by (inr l) =
          let e : step_limit ≡ 65 = limit_is in
          let f = chain_front (Step net) step_limit h.0 (there a) y (omega arith) h.2 in
          absurd (legal.walks.shallow (there a) f.0 f.1)

  module _ (passes : Name → Bool) (a : ℕ) (y : End) (low : a ≤ TOP) (nothing : EndsBefore net passes 1 node a y → ⊥) where
    back : (k : ℕ) → k ≤ step_limit → IsTrue (passes (name_of_end y)) → IsChain (Step net) k (here a) (name_of_end y) → Ends (steps net) passes step_limit (there a) (name_of_end y)
    back zero l p c = absurd (nothing (p, (0, omega arith, c)))
    back (suc k) l p c = (p, (k, omega arith, subst (λ w. IsChain (Step net) k w (name_of_end y)) (sym (step_to a c.0 low c.1)) c.2))

    led_ends : Ends (steps net) passes step_limit (there a) (name_of_end y) ↔ Ends (steps net) passes step_limit (here a) (name_of_end y)
    led_ends = ((λ h. (h.0, on a (name_of_end y) low h.1)), (λ h. back h.1.0 h.1.1 h.0 h.1.2))

  pub same_levels : (levels : Levels) → IsLevels net other levels → IsLevels net node levels
  same_levels levels f = record {
    reached = record {
      reached = λ a y low e. on a (name_of_end y) low (f.reached.reached a y low e);
      accepted = λ a y low h. f.reached.accepted a y low ((led_ends (is_accepted net) a y low (none_given (EndsBefore net (is_accepted net) 1 node) reach.done.accepts led.accepts is.done.accepts a y low)).1 h);
    };
    stops = λ a y t. means_then (f.stops a y t) (led_ends (is_stop net) a y t (none_given (EndsBefore net (is_stop net) 1 node) reach.done.stops led.stops is.done.stops a y t));
    stops_within = f.stops_within;
    units = f.units;
  }

-- one node more

none_at : (net : List NodeDecl) (m : ℕ) (levels : Levels) → ◌≡◌ {A = Option Levels} (slice_get [] m) (Some levels) → IsLevels net m levels
none_at net zero levels e = cc
none_at net (suc m) levels e = cc

pub none_below : (net : List NodeDecl) → AreLevelsBelow net 0 []
none_below net = record { every = refl; each = none_at net }

pub one_below : (net : List NodeDecl) (node : ℕ) (all : List Levels) (levels : Levels) → AreLevelsBelow net node all → IsLevels net node levels → AreLevelsBelow net (node + 1) (all ++ levels ∷ [])
one_below net node all levels below is = record {
  every = length_pushed all levels node below.every;
  each = each_pushed (IsLevels net) all levels below.each (subst (λ n. IsLevels net n levels) (sym below.every) is);
}

pub shared_below : (net : List NodeDecl) → IsLegalNet net → (nodes : List Reach) → AreReaches net 1 nodes → (node other : ℕ) → node < length net → other < node → ((reach : Reach) → slice_get nodes node ≡ Some reach → IsLedTo other reach) → (all new : List Levels) → AreLevelsBelow net node all → ((levels : Levels) → slice_get all other ≡ Some levels → new ≡ all ++ levels ∷ []) → AreLevelsBelow net (node + 1) new
shared_below net legal nodes are node other l m led all new below is =
    let every : length all ≡ node = below.every in
    let there : length nodes ≡ length net = are.every in
    let at = slice_get-get_or all other no_levels (omega arith) in
    let from = slice_get-get_or nodes node (record { done = record { accepts = []; stops = [] }; go = [] }) (omega arith) in
    subst (AreLevelsBelow net (node + 1)) (sym (is _ at)) (one_below net node all _ below (same_levels net legal node other _ (are.each node _ from) (led _ from) _ (below.each other _ at)))
