-- The limits on nodes, on agents, on units and on parts, as one node more is added.
use Rattle.std.proofs.Common.{◌≡◌, ◌∙◌, ap, sym, refl, arith, ℕ, ◌+◌, ◌≤◌, nat_lt, ◌&&◌, Bool, true, false, cond, List, [], ◌∷◌, ◌++◌, length, map, Option, Some, None, Err, Ok, sum, position, is_some}
use Rattle.std.proofs.lemmas.Bool.Decides.{nat_tests}
use Rattle.std.proofs.lemmas.Bool.{ltb-false}
use Rattle.std.proofs.lemmas.List.{map-append}
use Rattle.std.proofs.lemmas.List.Sums.{sum_by-append}
use Rattle.std.specs.Str.{bytes_eq}
use mir.Val.{bool_byte}
use Rattle.dn_net.specs.Decode.{is_agent, is_unit}
use Rattle.dn_module.specs.declared.draft.Draft.{Draft}
use Rattle.dn_module.specs.Drafts.{agents_among, units_among, parts_of_draft, all_parts, limit_passed, with_draft, names}
use Rattle.dn_scope.specs.Numbered.{is_known}
use Rattle.dn_module.specs.Machine.{limit_by}
use Rattle.dn_scope.proofs.Known.{found_is}
use Rattle.dn_scope.specs.Faults.{is_duplicate, passes_limit}

abbrev pub one_if : Bool → ℕ
one_if true = 1
one_if false = 0

from_zero : (n : ℕ) → 0 + n ≡ n
from_zero n = omega arith

counted : (b : Bool) → cond b 1 0 ≡ one_if b
counted true = refl
counted false = refl

-- a test as a number
pub as_number : (b : Bool) → bool_byte b ≡ one_if b
as_number true = refl
as_number false = refl

pub agents_more : (ds : List Draft) (d : Draft) → agents_among (ds ++ d ∷ []) ≡ agents_among ds + one_if (is_agent d.role)
agents_more ds d =
    sum_by-append (λ (e : Draft). cond (is_agent e.role) 1 0) ds (d ∷ [])
    ∙ ap (λ n. agents_among ds + n) (from_zero (cond (is_agent d.role) 1 0) ∙ counted (is_agent d.role))

pub units_more : (ds : List Draft) (d : Draft) → units_among (ds ++ d ∷ []) ≡ units_among ds + one_if (is_unit d.role)
units_more ds d =
    sum_by-append (λ (e : Draft). cond (is_unit e.role) 1 0) ds (d ∷ [])
    ∙ ap (λ n. units_among ds + n) (from_zero (cond (is_unit d.role) 1 0) ∙ counted (is_unit d.role))

pub parts_more : (ds : List Draft) (d : Draft) → all_parts (ds ++ d ∷ []) ≡ all_parts ds + parts_of_draft d
parts_more ds d =
    ap sum (map-append parts_of_draft ds (d ∷ []))
    ∙ sum_by-append (λ n. n) (map parts_of_draft ds) (parts_of_draft d ∷ [])
    ∙ ap (λ n. all_parts ds + n) (from_zero (parts_of_draft d))

-- a limit on the nodes of a role counts in a node of that role alone
role_test : (b : Bool) (count all : ℕ) → all ≤ 64 → count ≡ all + one_if b → nat_lt 64 count ≡ (b && nat_lt 64 (all + 1))
role_test true count all few is = ap (nat_lt 64) is
role_test false count all few is = grind (arith, nat_tests)

pub limit_is : (ds : List Draft) (d : Draft) (nodes agents units parts : ℕ) → nodes ≡ length ds
    → agents_among ds ≤ 64 → agents ≡ agents_among ds + one_if (is_agent d.role)
    → units_among ds ≤ 64 → units ≡ units_among ds + one_if (is_unit d.role)
    → parts ≡ all_parts ds → limit_by nodes agents units parts (parts_of_draft d) ≡ limit_passed ds d
limit_is ds d nodes agents units parts n few a few_units u p =
    rw (n, p, role_test (is_agent d.role) agents (agents_among ds) few a, role_test (is_unit d.role) units (units_among ds) few_units u) refl

pub known_fault : (ds : List Draft) (d : Draft) → is_known (names ds) d.name ≡ true → with_draft ds d ≡ Err (is_duplicate d.line)
known_fault ds d e = rw e refl

pub limit_fault : (ds : List Draft) (d : Draft) (limit : ℕ) → is_known (names ds) d.name ≡ false → limit_passed ds d ≡ Some limit → with_draft ds d ≡ Err (passes_limit d.line limit)
limit_fault ds d limit e l = rw (e, l) refl

pub no_fault : (ds : List Draft) (d : Draft) → is_known (names ds) d.name ≡ false → limit_passed ds d ≡ None → with_draft ds d ≡ Ok (ds ++ d ∷ [])
no_fault ds d e l = rw (e, l) refl

-- no limit is passed
pub record AreWithin (nodes agents units parts : ℕ) : Type 0 where
  pub nodes_fit : nodes ≤ 1024
  pub agents_fit : agents ≤ 64
  pub units_fit : units ≤ 64
  pub parts_fit : parts ≤ 16384

-- the first of some tests fails
first_fails : (b : Bool) (limit : ℕ) (rest : Option ℕ) → cond {A = Option ℕ} b (Some limit) rest ≡ None → (b ≡ false) × (rest ≡ None)
first_fails true limit rest e = cc
first_fails false limit rest e = (refl, e)

-- one node more of a role, or of another
role_fits : (b : Bool) (all : ℕ) → all ≤ 64 → (b && nat_lt 64 (all + 1)) ≡ false → all + one_if b ≤ 64
role_fits true all few e = let h = ltb-false 64 (all + 1) e in omega arith
role_fits false all few e = omega arith

within_step : (nodes agents units parts more : ℕ) (a u : Bool) → agents ≤ 64 → units ≤ 64
    → cond {A = Option ℕ} (nat_lt 1024 (nodes + 1)) (Some 1024) (cond {A = Option ℕ} (a && nat_lt 64 (agents + 1)) (Some 64) (cond {A = Option ℕ} (u && nat_lt 64 (units + 1)) (Some 64) (cond {A = Option ℕ} (nat_lt 16384 (parts + more)) (Some 16384) None))) ≡ None
    → AreWithin (nodes + 1) (agents + one_if a) (units + one_if u) (parts + more)
within_step nodes agents units parts more a u few_agents few_units e =
    let first = first_fails (nat_lt 1024 (nodes + 1)) 1024 _ e in
    let second = first_fails (a && nat_lt 64 (agents + 1)) 64 _ first.1 in
    let third = first_fails (u && nat_lt 64 (units + 1)) 64 _ second.1 in
    let last = first_fails (nat_lt 16384 (parts + more)) 16384 _ third.1 in
    record {
      nodes_fit = ltb-false 1024 (nodes + 1) first.0;
      agents_fit = role_fits a agents few_agents second.0;
      units_fit = role_fits u units few_units third.0;
      parts_fit = ltb-false 16384 (parts + more) last.0;
    }

pub within_limits : (ds : List Draft) (d : Draft) → agents_among ds ≤ 64 → units_among ds ≤ 64 → limit_passed ds d ≡ None
    → AreWithin (length ds + 1) (agents_among ds + one_if (is_agent d.role)) (units_among ds + one_if (is_unit d.role)) (all_parts ds + parts_of_draft d)
within_limits ds d few few_units none = within_step (length ds) (agents_among ds) (units_among ds) (all_parts ds) (parts_of_draft d) (is_agent d.role) (is_unit d.role) few few_units none

-- whether a full name is there, by the table of names
pub known_test : (now items : List Draft) (known : List (List ℕ)) (name text : List ℕ) (r : Option ℕ) → items ≡ now → known ≡ names items → text ≡ name → r ≡ position (bytes_eq text) known → is_known (names now) name ≡ is_some r
known_test now items known name text r i k t e =
    ap (λ ds. is_known (names ds) name) (sym i)
    ∙ ap (λ l. is_known l name) (sym k)
    ∙ ap (is_known known) (sym t)
    ∙ found_is known text r e
