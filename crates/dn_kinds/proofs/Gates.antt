-- Gate words: their bits, and the rights that they leave.
use Rattle.std.proofs.Common.{◌≡◌, ℕ, zero, suc, ◌+◌, ◌*◌, ◌%◌, ◌^◌, ◌-◌, ◌<◌, ◌≤◌, Bool, true, false, ◌&&◌, if◌then◌else◌, ◌==◌, Option, Some, None, IsTrue, refl, subst, ap, ◌∙◌, arith}
use Rattle.std.proofs.Math.Pow.{pow_mono}
use Rattle.std.proofs.lemmas.Bool.{and_parts, leb-true, ltb-true}
use Rattle.dn_kind.specs.declared.rights.Access.{Access}
use Rattle.dn_kind.specs.declared.rights.Access.TheVariants.{Read, Write}
use Rattle.dn_kind.specs.declared.rights.Rights.{Rights}
use Rattle.dn_kind.specs.declared.shape.Shape.{Shape}
use Rattle.dn_kind.specs.declared.unit_kind.Record.{Record}
use Rattle.dn_kind.specs.Rights.{allows, are_rights, both_rights}
use Rattle.dn_kind.specs.Kind.{Meaning, IsPackable, is_plain_unit_shape}
use Rattle.dn_kinds.specs.Layouts.{bits, denial, denials, read_right, write_right, rights_left, record_with, gate_bits, gated}

-- a shape that a unit may have has at most 8 ports, and outputs below 2^56
pub few_ports : (shape : Shape) → IsTrue (is_plain_unit_shape shape) → shape.ports ≤ 8
few_ports shape plain = leb-true _ _ (and_parts _ _ plain).1

pub low_reach : (shape : Shape) → IsTrue (is_plain_unit_shape shape) → shape.reach ≤ 56
low_reach shape plain = leb-true _ _ (and_parts _ _ (and_parts _ _ (and_parts _ _ plain).0).0).1

-- a record that may be packed has a port below 8, and an output address below 2^56
pub port_small : (kind : Meaning) (shape : Shape) (r : Record) → IsPackable kind shape r → r.port < 8
port_small kind shape r p =
    let few : shape.ports ≤ 8 = few_ports shape p.plain in
    let there : r.port < shape.ports = ltb-true _ _ (and_parts _ _ p.within).0 in
    omega arith

pub page_below : (count : ℕ) (kind : Meaning) (shape : Shape) (r : Record) → IsPackable kind shape r → 56 ≤ shape.page + count → r.page < 2 ^ count
page_below count kind shape r p most =
    let low : shape.reach ≤ 56 = low_reach shape p.plain in
    let less : shape.reach - shape.page ≤ count = omega arith in
    let bound : 2 ^ (shape.reach - shape.page) ≤ 2 ^ count = pow_mono less in
    let there : r.page < 2 ^ (shape.reach - shape.page) = ltb-true _ _ (and_parts _ _ p.within).1 in
    omega arith

pub page_small : (kind : Meaning) (shape : Shape) (r : Record) → IsPackable kind shape r → r.page < 2 ^ 56
page_small kind shape r p = page_below 56 kind shape r p (omega arith)

-- a denial is one bit
pub denied_small : (access : Access) (rights : Rights) → denial access rights ≤ 1
denied_small access rights = by (allows rights access)
  where
    by : (b : Bool) → (if b then 0 else 1) ≤ 1
    by true = omega arith
    by false = omega arith

-- so what a gate word has of a record is below 64
pub gate_small : (r : Record) → r.port < 8 → gate_bits r < 64
gate_small r port =
    let read = denied_small Read r.rights in
    let write = denied_small Write r.rights in
    omega arith

-- rights that are reading, writing or both are what their denials leave
pub rights_back : (rights : Rights) (word : ℕ) → IsTrue (are_rights rights) → bits word 4 1 ≡ denial Read rights → bits word 5 1 ≡ denial Write rights → rights_left word ≡ Some rights
rights_back rights word are e f = by rights.0 are e f
  where
    by : (n : ℕ) → IsTrue (are_rights (record { 0 = n })) → bits word 4 1 ≡ denial Read (record { 0 = n }) → bits word 5 1 ≡ denial Write (record { 0 = n }) → rights_left word ≡ Some (record { 0 = n })
    by zero are e f = cc
    by (suc zero) are e f = rw (e, f) refl
    by (suc (suc zero)) are e f = rw (e, f) refl
    by (suc (suc (suc zero))) are e f = rw (e, f) refl
    by (suc (suc (suc (suc n)))) are e f =
        let l : suc (suc (suc (suc n))) ≤ 3 = leb-true _ _ (and_parts _ _ are).1 in
        absurd (omega arith)

-- what a gate word leaves is reading, writing or both
pub left_are_rights : (word : ℕ) (rights : Rights) → rights_left word ≡ Some rights → IsTrue (are_rights rights)
left_are_rights word rights e = by (bits word 4 1 == 0) (bits word 5 1 == 0) e
  where
    same : (x y : Rights) → IsTrue (are_rights x) → ◌≡◌ {A = Option Rights} (Some x) (Some y) → IsTrue (are_rights y)
    same x y h e = let f : x ≡ y = cc in subst (λ z. IsTrue (are_rights z)) f h

    by : (b c : Bool) → (if b then (if c then Some both_rights else Some read_right) else (if c then Some write_right else None)) ≡ Some rights → IsTrue (are_rights rights)
    by true true e = same both_rights rights refl e
    by true false e = same read_right rights refl e
    by false true e = same write_right rights refl e
    by false false e = cc

-- and so are the rights of a record that is read
pub read_are_rights : (zeros : Bool) (w page : ℕ) (r : Record) → gated zeros w page ≡ Some r → IsTrue (are_rights r.rights)
read_are_rights zeros w page r e = by (zeros && (bits w 0 1 == 1)) (rights_left w) refl e
  where
    by : (b : Bool) (o : Option Rights) → rights_left w ≡ o → (if b then record_with (bits w 1 3) page o else None) ≡ Some r → IsTrue (are_rights r.rights)
    by false o f e = cc
    by true None f e = cc
    by true (Some rights) f e =
        let s : ◌≡◌ {A = Record} (record { port = bits w 1 3; page = page; rights = rights }) r = cc in
        subst (λ (q : Record). IsTrue (are_rights q.rights)) s (left_are_rights w rights f)

-- a clear gate
pub gate_clear : (zeros : Bool) (w page : ℕ) → w % 2 ≡ 0 → gated zeros w page ≡ None
gate_clear false w page e = refl
gate_clear true w page e =
    let clear : bits w 0 1 ≡ 0 = omega arith in
    ap (λ n. if n == 1 then record_with (bits w 1 3) page (rights_left w) else None) clear

-- the record comes back from a word that ends in what a gate word has of it, and from its page
pub gated_back : (kind : Meaning) (shape : Shape) (r : Record) → IsPackable kind shape r → (zeros : Bool) (w page : ℕ) → zeros ≡ true → w % 64 ≡ gate_bits r → page ≡ r.page → gated zeros w page ≡ Some r
gated_back kind shape r p zeros w page clear ends at =
    let few : r.port < 8 = port_small kind shape r p in
    let reads = denied_small Read r.rights in
    let writes = denied_small Write r.rights in
    let gate : bits w 0 1 ≡ 1 = omega arith in
    let port : bits w 1 3 ≡ r.port = omega arith in
    let read : bits w 4 1 ≡ denial Read r.rights = omega arith in
    let write : bits w 5 1 ≡ denial Write r.rights = omega arith in
    let left : rights_left w ≡ Some r.rights = rights_back r.rights w p.rights read write in
    ap (λ b. gated b w page) clear
    ∙ ap (λ n. if n == 1 then record_with (bits w 1 3) page (rights_left w) else None) gate
    ∙ ap (λ n. record_with n page (rights_left w)) port
    ∙ ap (λ n. record_with r.port n (rights_left w)) at
    ∙ ap (record_with r.port r.page) left
