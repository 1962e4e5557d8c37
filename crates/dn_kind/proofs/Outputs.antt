-- Where the record of a slot sends an address.
use Rattle.std.proofs.Common.{◌≡◌, ℕ, zero, suc, ◌+◌, ◌-◌, ◌*◌, ◌/◌, ◌%◌, ◌^◌, ◌<◌, ◌≤◌, true, false, if◌then◌else◌, nat_le, nat_lt, List, [], ◌∷◌, length, get_or, slice_get, Option, Some, None, IsTrue, refl, sym, ap, ◌∙◌, subst, arith, ltb-true, pow-add}
use Rattle.std.specs.Option.{option_map}
use Rattle.std.specs.List.{All}
use Rattle.std.proofs.Math.Nat.{pow-le-pow_right, one-le-pow, mul-le-mul_right, mod-lt}
use Rattle.std.proofs.lemmas.Option.{same_Some}
use Rattle.dn_base.proofs.Booleans.{and_parts}
use Rattle.dn_net.specs.declared.node.Name.{Name}
use Rattle.dn_net.specs.declared.node.NodeDecl.{NodeDecl}
use Rattle.dn_net.specs.declared.node.Unit.{Unit as UnitPart}
use Rattle.dn_net.specs.Decode.{top, unit_at, is_stop, is_stop_at}
use Rattle.dn_kind.specs.declared.shape.Shape.{Shape}
use Rattle.dn_kind.specs.declared.unit_kind.Record.{Record}
use Rattle.dn_kind.specs.Kind.{Meaning, IsLawful, is_plain_unit_shape, is_within}
use Rattle.dn_kind.specs.Tables.{Held, IsHeld, record_held, name_at_port, output, steps_by_unit, steps_under}
use Rattle.dn_kind.specs.Units.{unit_shape}
use Rattle.dn_net.proofs.Steps.{unit_is}
use Rattle.dn_kind.proofs.Held.{held_records_fit}

-- what a plain shape says of page and reach
pub record HasPages (s : Shape) : Type 0 where
  pub page : s.page ≤ 40
  pub order : s.page ≤ s.reach
  pub reach : s.reach ≤ 56

pub has_pages : (s : Shape) → IsTrue (is_plain_unit_shape s) → HasPages s
has_pages s p = record { page = grind arith; order = grind arith; reach = grind arith }

-- the size of a page, as it is shifted
pub page_is : (p : ℕ) → p ≤ 40 → 1 * 2 ^ p % 18446744073709551616 ≡ 2 ^ p
page_is p l =
    let small : 2 ^ p ≤ 2 ^ 40 = pow-le-pow_right (omega arith) l in
    omega arith

pub page_some : (p : ℕ) → p ≤ 40 → 0 < 1 * 2 ^ p % 18446744073709551616
page_some p l = let e = page_is p l in let o : 1 ≤ 2 ^ p = one-le-pow p 2 (omega arith) in omega arith

-- the output is below 2^56
pub output_small : (s : Shape) (r : Record) (a : ℕ) → IsTrue (is_plain_unit_shape s) → IsTrue (is_within s r) → r.page * 2 ^ s.page + a % 2 ^ s.page < 72057594037927936
output_small s r a plain within =
    let h : HasPages s = has_pages s plain in
    let w = and_parts (nat_lt r.port s.ports) (nat_lt r.page (2 ^ (s.reach - s.page))) within in
    let page : r.page < 2 ^ (s.reach - s.page) = ltb-true r.page (2 ^ (s.reach - s.page)) w.1 in
    let one : 1 ≤ 2 ^ s.page = one-le-pow s.page 2 (omega arith) in
    let more : (r.page + 1) * 2 ^ s.page ≤ 2 ^ (s.reach - s.page) * 2 ^ s.page = mul-le-mul_right (2 ^ s.page) (omega arith) in
    let whole : 2 ^ (s.reach - s.page + s.page) ≡ 2 ^ (s.reach - s.page) * 2 ^ s.page = pow-add 2 (s.reach - s.page) s.page in
    let sum : s.reach - s.page + s.page ≡ s.reach = let o = h.order in omega arith in
    let same : 2 ^ (s.reach - s.page + s.page) ≡ 2 ^ s.reach = ap (λ n. 2 ^ n) sum in
    let top_is : 2 ^ s.reach ≤ 2 ^ 56 = pow-le-pow_right (omega arith) h.reach in
    let rest : a % 2 ^ s.page < 2 ^ s.page = mod-lt a (omega arith) in
    let split : (r.page + 1) * 2 ^ s.page ≡ r.page * 2 ^ s.page + 2 ^ s.page = omega arith in
    omega arith

pub port_there : (s : Shape) (r : Record) → IsTrue (is_within s r) → r.port < s.ports
port_there s r within = ltb-true r.port s.ports (and_parts (nat_lt r.port s.ports) (nat_lt r.page (2 ^ (s.reach - s.page))) within).0

-- so it fits, with the size of a page as it is shifted
pub output_fits : (s : Shape) (r : Record) (a : ℕ) → IsTrue (is_plain_unit_shape s) → IsTrue (is_within s r) → r.page * (1 * 2 ^ s.page % 18446744073709551616) + a % (1 * 2 ^ s.page % 18446744073709551616) < 72057594037927936
output_fits s r a plain within = subst (λ n. r.page * n + a % n < 72057594037927936) (sym (page_is s.page (has_pages s plain).page)) (output_small s r a plain within)

-- the name that is sent
pub sent_is : (u : UnitPart) (r : Record) (a port p : ℕ) (d : ℕ) → IsTrue (is_plain_unit_shape (unit_shape u)) → r.port < length u.ports → port ≡ get_or u.ports r.port d → ◌≡◌ {A = List Name} (record { node = port; addr = r.page * (1 * 2 ^ u.page % 18446744073709551616) + a % (1 * 2 ^ u.page % 18446744073709551616) } ∷ []) (output u (Some r) a)
sent_is u r a port p d plain l at =
    let h : HasPages (unit_shape u) = has_pages (unit_shape u) plain in
    let e : 1 * 2 ^ u.page % 18446744073709551616 ≡ 2 ^ u.page = page_is u.page h.page in
    let there : Some (get_or u.ports r.port d) ≡ slice_get u.ports r.port = slice_get-at' u.ports r.port d l in
    ap (λ n. record { node = port; addr = r.page * n + a % n } ∷ []) e
    ∙ ap (λ n. record { node = n; addr = r.page * 2 ^ u.page + a % 2 ^ u.page } ∷ []) at
    ∙ ap (λ o. name_at_port o (r.page * 2 ^ u.page + a % 2 ^ u.page)) there
  where
    slice_get-at' : (xs : List ℕ) (i d : ℕ) → i < length xs → Some (get_or xs i d) ≡ slice_get xs i
    slice_get-at' [] i d l = absurd (omega arith)
    slice_get-at' (x ∷ xs) zero d l = refl
    slice_get-at' (x ∷ xs) (suc i) d l = slice_get-at' xs i d (omega arith)

-- the step of a name in a unit
pub record IsStopIn (net : List NodeDecl) (x : Name) (u : UnitPart) : Type 0 where
  pub unit : unit_at net x.node ≡ Some u
  pub within : nat_le x.addr top ≡ true

pub stop_in : (net : List NodeDecl) (x : Name) (u : UnitPart) → IsTrue (is_stop net x) → option_map (λ d. d.unit) (slice_get net x.node) ≡ Some (Some u) → IsStopIn net x u
stop_in net x u stop e =
    let at : unit_at net x.node ≡ Some u = unit_is net x.node (Some u) e in
    record { unit = at; within = subst (λ o. IsTrue (is_stop_at x.addr o)) at stop }

pub no_stop : (net : List NodeDecl) (x : Name) → IsTrue (is_stop net x) → option_map (λ d. d.unit) (slice_get net x.node) ≡ Some None → ⊥
no_stop net x stop e = let f : false ≡ true = subst (λ o. IsTrue (is_stop_at x.addr o)) (unit_is net x.node None e) stop in cc

-- is to the output of the record of its slot
pub step_in : (net : List NodeDecl) (h : Held) (x : Name) (u : UnitPart) (o : Option Record) → IsStopIn net x u → h x.node (x.addr / 2 ^ u.page) ≡ o → steps_under net h x ≡ output u o x.addr
step_in net h x u o s e =
    ap (steps_by_unit net h x) s.unit
    ∙ ap (λ b. if b then output u (h x.node (x.addr / 2 ^ u.page)) x.addr else []) s.within
    ∙ ap (λ r. output u r x.addr) e

-- a record that is held is within its unit
pub within_unit : (net : List NodeDecl) (kinds : List Meaning) (words : List (List ℕ)) (x : Name) (slot : ℕ) (u : UnitPart) (r : Record) → All IsLawful kinds → unit_at net x.node ≡ Some u → record_held net kinds words x.node slot ≡ Some r → IsTrue (is_within (unit_shape u) r)
within_unit net kinds words x slot u r lawful at e =
    let i : IsHeld net x.node slot r = held_records_fit net kinds words lawful x.node slot r e in
    let v = i.unit in
    subst (λ w. IsTrue (is_within (unit_shape w) r)) (same_Some v.0 u (sym v.1 ∙ at)) v.3
