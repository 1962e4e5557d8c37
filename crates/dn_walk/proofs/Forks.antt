-- The fork that is carried is the least.
use Rattle.std.proofs.Common.{◌≡◌, ℕ, ◌<◌, ◌≤◌, ◌⊎◌, inl, inr, true, false, nat_lt, List, [], ◌∷◌, length, Option, Some, None, option_map, is_some, IsTrue, refl, sym, ap, ◌∙◌, subst, arith, ltb-true}
use Rattle.std.proofs.lemmas.Bool.{lt-ltb, and_parts, and_from}
use Rattle.dn_net.specs.declared.node.Name.{Name}
use Rattle.dn_net.specs.declared.node.NodeDecl.{NodeDecl}
use Rattle.dn_net.specs.Chain.{Member, Reaches}
use Rattle.dn_net.specs.Decode.{top, is_stop, unit_at, steps, Step}
use Rattle.dn_net.specs.Names.{name_lt, stop_names}
use Rattle.dn_net.specs.Rules.{KeepsNodeRules}
use Rattle.dn_net.specs.Firsts.{first_of, least_name}
use Rattle.dn_net.specs.UnitRules.{Fork, is_fork, fork_at, least_fork, IsShallow, IsFork, IsLeastFork, ForkIsLeast}
use Rattle.dn_net.proofs.Cycles.{stepping_in_range}
use Rattle.dn_net.proofs.Firsts.{NoLater, IsLeastName, least_name_is}
use Rattle.dn_net.proofs.Stops.{stop_listed, listed_stop, stop_there, stop_unit, IsFirstStop, IsFirstStopOr, first_stop_is}
use Rattle.dn_net.proofs.Ascending.{lower_is}

least_fork_is : (net : List NodeDecl) → least_fork net ≡ fork_at net (least_name net (is_fork net))
unfolding least_fork
least_fork_is net = refl

-- several items have a first
some_item : {X : Type 0} (xs : List X) → 1 < length xs → (x : X) × Member x xs
some_item [] l = absurd (omega arith)
some_item (x ∷ xs) l = (x, inl refl)

-- a name with a step has a node and an address
forking_in_range : (net : List NodeDecl) → KeepsNodeRules net → (x : Name) → 1 < length (steps net x) → (x.node < length net) × (x.addr ≤ top)
forking_in_range net checked x l =
    let s = some_item (steps net x) l in
    stepping_in_range net checked 1 x s.0 (omega arith) (s.0, s.1, refl)

-- a fork is found by the test
fork_found : (net : List NodeDecl) → IsShallow net → (x : Name) (u : ℕ) → IsFork net x u → is_fork net x ≡ true
fork_found net shallow x u f = and_from (nat_lt 1 (length (steps net x))) (is_some (first_of (stop_names net x))) (lt-ltb 1 (length (steps net x)) f.several) (by (first_of (stop_names net x)) (first_stop_is net x))
  where
    by : (o : Option Name) → IsFirstStopOr net x o → is_some o ≡ true
    by (Some s) g = refl
    by None g = absurd (g f.reaches.0 (stop_listed net shallow x f.reaches.0 f.reaches.2 f.reaches.3))

-- the node of a name that comes no later is no greater
node_no_later : (s z : Name) → NoLater s z → s.node ≤ z.node
node_no_later s z (inr e) = let f : s.node ≡ z.node = ap (λ n. n.node) e in omega arith
node_no_later s z (inl l) = elim (lower_is s z l) [ inl k ↦ omega arith | inr k ↦ (let e = k.0 in omega arith) ]

pub fork_is_least : ForkIsLeast
fork_is_least net checked shallow = (
  (λ f e. some f (least_name net (is_fork net)) refl (sym (least_fork_is net) ∙ e)),
  (λ e x u g. none (least_name net (is_fork net)) refl (sym (least_fork_is net) ∙ e) x u g),
)
  where
    found : (x : Name) → IsLeastName (is_fork net) (length net) x → (s : Name) → IsFirstStop net x s → IsLeastFork net x s.node
    found x name s stop = record { fork = record { several = ltb-true 1 (length (steps net x)) parts.0; reaches = (s, refl, reached.0, reached.1) }; least = least }
      where
        parts : (nat_lt 1 (length (steps net x)) ≡ true) × (is_some (first_of (stop_names net x)) ≡ true)
        parts = and_parts (nat_lt 1 (length (steps net x))) (is_some (first_of (stop_names net x))) name.passes

        reached : IsTrue (is_stop net s) × Reaches (Step net) x s
        reached = listed_stop net x s stop.listed

        least : (y : Name) (w : ℕ) → IsFork net y w → IsTrue (name_lt x y) ⊎ ((x ≡ y) × (s.node ≤ w))
        least y w g =
            let i = forking_in_range net checked y g.several in
            elim (name.least y i.0 i.1 (fork_found net shallow y w g)) [
              | inl l ↦ inl l
              | inr e ↦ (
                  let z = g.reaches in
                  let m : Member z.0 (stop_names net x) = subst (λ v. Member z.0 (stop_names net v)) (sym e) (stop_listed net shallow y z.0 z.2 z.3) in
                  let l : s.node ≤ z.0.node = node_no_later s z.0 (stop.first z.0 m) in
                  let n : z.0.node ≡ w = z.1 in
                  inr (e, omega arith))
            ]

    some : (f : Fork) (o : Option Name) → least_name net (is_fork net) ≡ o → fork_at net o ≡ Some f → IsLeastFork net f.name f.unit
    some f None e g = cc
    some f (Some x) e g = at (first_of (stop_names net x)) (first_stop_is net x) g
      where
        at : (o : Option Name) → IsFirstStopOr net x o → option_map (λ s. record { name = x; unit = s.node }) o ≡ Some f → IsLeastFork net f.name f.unit
        at None stop h = cc
        at (Some s) stop h =
            let is : record { name = x; unit = s.node } ≡ f = cc in
            subst (λ (k : Fork). IsLeastFork net k.name k.unit) is (found x (least_name_is net (is_fork net) (Some x) e) s stop)

    none : (o : Option Name) → least_name net (is_fork net) ≡ o → fork_at net o ≡ None → (x : Name) (u : ℕ) → IsFork net x u → ⊥
    none None e g x u f =
        let i = forking_in_range net checked x f.several in
        least_name_is net (is_fork net) None e x i.0 i.1 (fork_found net shallow x u f)
    none (Some y) e g x u f = at (first_of (stop_names net y)) refl g
      where
        at : (o : Option Name) → first_of (stop_names net y) ≡ o → ◌≡◌ {A = Option Fork} (option_map (λ s. record { name = y; unit = s.node }) o) None → ⊥
        at (Some s) h k = cc
        at None h k =
            let name : IsLeastName (is_fork net) (length net) y = least_name_is net (is_fork net) (Some y) e in
            let p = and_parts (nat_lt 1 (length (steps net y))) (is_some (first_of (stop_names net y))) name.passes in
            let q : false ≡ true = sym (ap is_some h) ∙ p.1 in
            cc

-- the nodes of the fork that is carried are there, and the second is a unit
pub record IsThere (net : List NodeDecl) (f : Fork) : Type 0 where
  pub node : f.name.node < length net
  pub unit : f.unit < length net
  pub is_unit : is_some (unit_at net f.unit) ≡ true

pub fork_there : (net : List NodeDecl) (f : Fork) → least_fork net ≡ Some f → IsThere net f
fork_there net f e = by (least_name net (is_fork net)) refl (sym (least_fork_is net) ∙ e)
  where
    by : (o : Option Name) → least_name net (is_fork net) ≡ o → fork_at net o ≡ Some f → IsThere net f
    by None h g = cc
    by (Some x) h g = at (first_of (stop_names net x)) (first_stop_is net x) g
      where
        at : (o : Option Name) → IsFirstStopOr net x o → option_map (λ s. record { name = x; unit = s.node }) o ≡ Some f → IsThere net f
        at None stop k = cc
        at (Some s) stop k =
            let is : record { name = x; unit = s.node } ≡ f = cc in
            let name : IsLeastName (is_fork net) (length net) x = least_name_is net (is_fork net) (Some x) h in
            let reached = listed_stop net x s stop.listed in
            subst (λ (q : Fork). IsThere net q) is (record { node = name.node; unit = stop_there net s reached.0; is_unit = (stop_unit net s reached.0).0 })
