-- A node from its parts, as they are read one by one.
use Rattle.std.proofs.Common.{◌≡◌, ℕ, ◌+◌, ◌-◌, ◌<◌, ◌≤◌, Bool, true, false, nat_lt, List, ◌∷◌, length, slice_get, drop, get_or, Option, Some, option_map, refl, sym, ap, ◌∙◌, arith}
use Rattle.dn_base.proofs.Lists.{drop_at, item_there}
use Rattle.std.proofs.lemmas.Bool.{lt-ltb, ltb-true, ltb-false}
use Rattle.std.proofs.lemmas.Option.{slice_get-get_or}
use Rattle.dn_net.specs.declared.node.Entry.{Entry}
use Rattle.dn_net.specs.declared.node.Unit.{Unit as UnitPart}
use Rattle.dn_net.specs.declared.node.NodeDecl.{NodeDecl}
use Rattle.dn_net.proofs.Faults.{part_is}
use Rattle.dn_shape.specs.Absorb.{has_port}
use Rattle.dn_shape.specs.Limits.{dest_limit, has_long_entry}
use Rattle.std.specs.List.{list_any}

-- the rest of the nodes from one on
pub record Rest (net : List NodeDecl) (i : ℕ) : Type 0 where
  pub node : NodeDecl
  pub at : slice_get net i ≡ Some node
  pub rest : drop i net ≡ node ∷ drop (i + 1) net

pub rest_at : (net : List NodeDecl) (i : ℕ) → i < length net → Rest net i
rest_at net i l =
    let r = item_there net i l in
    let s : ◌≡◌ {A = Option NodeDecl} (Some (get_or net i r.0)) (Some r.0) = sym (slice_get-get_or net i r.0 l) ∙ r.1 in
    let g : r.0 ≡ get_or net i r.0 = cc in
    record { node = r.0; at = r.1; rest = drop_at net i r.0 l g }

-- two nodes of one place
pub one_node : (o : Option NodeDecl) (n m : NodeDecl) → o ≡ Some n → o ≡ Some m → n ≡ m
one_node o n m e f = let s : ◌≡◌ {A = Option NodeDecl} (Some n) (Some m) = sym e ∙ f in cc

-- an entry of the node is too long where one of those that were read is
pub long_by : (n : NodeDecl) (o : Option NodeDecl) (es : List Entry) → o ≡ Some n → option_map (λ d. d.entries) o ≡ Some es → has_long_entry n ≡ list_any (λ e. nat_lt dest_limit (length e.dests)) es
long_by n o es e h = ap (λ l. list_any (λ (e : Entry). nat_lt dest_limit (length e.dests)) l) (part_is (λ d. d.entries) o n es e h)

-- the limit is passed by one node, or by the rest of them
pub passed_now : (room x y : ℕ) → room < x → nat_lt room (x + y) ≡ true
passed_now room x y l = lt-ltb room (x + y) (omega arith)

pub passed_later : (room x k y : ℕ) → x ≡ k → k ≤ room → nat_lt room (x + y) ≡ nat_lt (room - k) y
passed_later room x k y e l = same (nat_lt room (x + y)) refl (nat_lt (room - k) y) refl
  where
    same : (p : Bool) → nat_lt room (x + y) ≡ p → (q : Bool) → nat_lt (room - k) y ≡ q → p ≡ q
    same true f true g = refl
    same false f false g = refl
    same true f false g =
        let a = ltb-true room (x + y) f in
        let b = ltb-false (room - k) y g in
        absurd (omega (arith, a, b, e, l))
    same false f true g =
        let a = ltb-false room (x + y) f in
        let b = ltb-true (room - k) y g in
        absurd (omega (arith, a, b, e, l))

-- whether the unit that a node is has the port
pub port_by : (m : ℕ) (n : NodeDecl) (o : Option NodeDecl) (u : Option UnitPart) → o ≡ Some n → option_map (λ d. d.unit) o ≡ Some u → has_port m n.unit ≡ has_port m u
port_by m n o u e h = ap (has_port m) (part_is (λ d. d.unit) o n u e h)
