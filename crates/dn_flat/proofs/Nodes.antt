-- The nodes of a stage, one after another.
use Rattle.std.proofs.Common.{◌≡◌, ℕ, ◌+◌, ◌-◌, ◌*◌, ◌<◌, ◌≤◌, Bool, true, ◌&&◌, ◌||◌, List, drop, length, get_or, slice_get, Some, sym, ap, ◌∙◌, subst, arith, nat_lt, ltb-true}
use Rattle.std.specs.List.{list_all}
use Rattle.std.proofs.lemmas.List.{get_or_default}
use Rattle.std.proofs.lemmas.Option.{slice_get-get_or}
use Rattle.dn_base.proofs.Lists.{slice_get-at, list_all-at}
use Rattle.dn_interval.specs.declared.row.End.{End}
use Rattle.dn_interval.specs.declared.row.Row.{Row}
use Rattle.dn_interval.specs.declared.span.Span.{Span}
use Rattle.dn_interval.specs.Spans.{in_span}
use Rattle.dn_interval.specs.Strands.{rows_give}
use Rattle.dn_interval.specs.Onward.{ends_go, gives_by, rows_of}
use Rattle.dn_net.specs.declared.node.NodeDecl.{NodeDecl}
use Rattle.dn_flat.specs.declared.reach.Reach.{Reach}
use Rattle.dn_flat.specs.Stages.{IsReach, AreReaches}
use Rattle.dn_flat.proofs.Lists.{pushed}

-- the name at a place of a row
abbrev pub end_at : List End → ℕ → End
end_at ends i = get_or ends i (record { node = 0; base = 0 })

-- is in a node that is there, of which the reach is found
pub node_there : (count : ℕ) (ends : List End) (i : ℕ) → i < length ends → list_all (λ (e : End). nat_lt e.node count) ends ≡ true → (end_at ends i).node < count
node_there count ends i l all = ltb-true (end_at ends i).node count (list_all-at (λ (e : End). nat_lt e.node count) ends i (end_at ends i) all (slice_get-get_or ends i (record { node = 0; base = 0 }) l))

pub reach_there : (nodes : List Reach) (n m : ℕ) (reach : Reach) → n ≡ m → m < length nodes → reach ≡ get_or nodes n reach → slice_get nodes m ≡ Some reach
reach_there nodes n m reach e l is = sym (slice_get-at nodes m reach l (subst (λ k. reach ≡ get_or nodes k reach) e is))

-- one name of a row more
pub end_pushed : (f : Reach → List Row) (nodes : List Reach) (span : Span) (ends : List End) (i : ℕ) (reach : Reach) (a : ℕ) (z : End) (now new whole : Bool) → i < length ends → slice_get nodes (end_at ends i).node ≡ Some reach → (now || (in_span span a && ends_go (gives_by f nodes) (drop i ends) span.lo a z)) ≡ whole → new ≡ (now || (in_span span a && rows_give (f reach) ((end_at ends i).base + (a - span.lo)) z)) → (new || (in_span span a && ends_go (gives_by f nodes) (drop (i + 1) ends) span.lo a z)) ≡ whole
end_pushed f nodes span ends i reach a z now new whole l at was is =
    pushed (λ (x : End). gives_by f nodes x.node (x.base + (a - span.lo)) z) (in_span span a) ends i (end_at ends i) now new whole l
    (get_or_default ends i (record { node = 0; base = 0 }) (end_at ends i) l) was
    (is ∙ ap (λ o. now || (in_span span a && rows_give (rows_of f o) ((end_at ends i).base + (a - span.lo)) z)) (sym at))

-- all nodes for twice as many steps
pub doubled_are : (net : List NodeDecl) (k : ℕ) (all made : List Reach) (i : ℕ) → AreReaches net k all → length made ≡ i → i ≤ length all → length all ≤ i → ((m : ℕ) (r : Reach) → slice_get made m ≡ Some r → IsReach net (k + k) m r) → AreReaches net (2 * k) made
doubled_are net k all made i are long most least each =
    let every : length all ≡ length net = are.every in
    let twice : k + k ≡ 2 * k = omega arith in
    record {
      every = omega arith;
      each = λ m r e. subst (λ n. IsReach net n m r) twice (each m r e);
    }
