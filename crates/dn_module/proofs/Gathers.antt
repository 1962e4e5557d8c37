-- A gather has one to eight pieces, as it is read and as it is made.
use Rattle.std.proofs.Common.{◌≡◌, ap, refl, ℕ, suc, ◌≤◌, ◌&&◌, nat_le, List, [], ◌∷◌, length, Result, Ok, Err, IsTrue, arith}
use Rattle.std.specs.List.{list_all}
use Rattle.std.proofs.lemmas.Bool.{and_parts, le-leb}
use Rattle.dn_base.proofs.Booleans.{and_from}
use Rattle.dn_base.proofs.Lists.{Each}
use Rattle.dn_parse.specs.declared.script.Script.{Script}
use Rattle.dn_parse.specs.Tree.{Piece, Order, resolve, lookup, view, grant, route, revoke, dump, split, absorb, radix, gather, Command as CommandOf}
use Rattle.dn_parse.specs.Script.{script_view}
use Rattle.dn_parse.proofs.Gathers.{FewOrder, script_few}
use Rattle.dn_module.specs.declared.command.Command.{Command}
use Rattle.dn_module.specs.declared.command.PieceTarget.{PieceTarget}
use Rattle.dn_scope.specs.Values.{each, value}
use Rattle.dn_scope.specs.Faults.{ExpansionFault, at_line}
use Rattle.dn_module.specs.Commands.{target_of, piece_target, command_of, commands_of, commands_or_none, nodes_within, has_few_pieces, names_within}
use Rattle.dn_module.proofs.Yields.{Yields, any, bind, given, at_yields}

-- what is made of the commands of a script
abbrev IsFew : Command → Type 0
IsFew c = IsTrue (has_few_pieces c)

as_many : (known : List (List ℕ)) (ps : List Piece) → Yields (λ made. length made ≡ length ps) (each (piece_target known) ps)
as_many known [] = given refl
as_many known (p ∷ ps) = bind (piece_target known p) _ (any (piece_target known p)) (λ q u. bind (each (piece_target known) ps) _ (as_many known ps) (λ qs l. given (ap suc l)))

few_of : (made : List PieceTarget) (ps : List Piece) → length made ≡ length ps → (1 ≤ length ps) × (length ps ≤ 8) → IsTrue (nat_le 1 (length made) && nat_le (length made) 8)
few_of made ps l h =
    let low : 1 ≤ length made = omega (arith, l, h.0) in
    let high : length made ≤ 8 = omega (arith, l, h.1) in
    and_from (nat_le 1 (length made)) (nat_le (length made) 8) (le-leb 1 (length made) low) (le-leb (length made) 8 high)

made_few : (known : List (List ℕ)) (o : Order) → FewOrder o → Yields IsFew (command_of known o)
made_few known (resolve name e m) h = bind (target_of known name) _ (any (target_of known name)) (λ t u. bind (value e) _ (any (value e)) (λ n v. given refl))
made_few known (lookup name e m) h = bind (target_of known name) _ (any (target_of known name)) (λ t u. bind (value e) _ (any (value e)) (λ n v. given refl))
made_few known (view name m) h = bind (target_of known name) _ (any (target_of known name)) (λ t u. given refl)
made_few known (grant id agent name e f m) h = bind (target_of known agent) _ (any (target_of known agent)) (λ a u. bind (target_of known name) _ (any (target_of known name)) (λ t v. bind (value e) _ (any (value e)) (λ n w. bind (value f) _ (any (value f)) (λ z x. given refl))))
made_few known (route id agent e name) h = bind (target_of known agent) _ (any (target_of known agent)) (λ a u. bind (value e) _ (any (value e)) (λ n v. bind (target_of known name) _ (any (target_of known name)) (λ t w. given refl)))
made_few known (revoke id) h = given refl
made_few known dump h = given refl
made_few known split h = given refl
made_few known (absorb name) h = bind (target_of known name) _ (any (target_of known name)) (λ t u. given refl)
made_few known (radix name e) h = bind (target_of known name) _ (any (target_of known name)) (λ t u. bind (value e) _ (any (value e)) (λ n v. given refl))
made_few known (gather agent ps m) h = bind (target_of known agent) _ (any (target_of known agent)) (λ a u. bind (each (piece_target known) ps) _ (as_many known ps) (λ made l. given (few_of made ps l h)))

all_few : (known : List (List ℕ)) (cs : List CommandOf) → Each (λ c. FewOrder c.order) cs → Yields (λ made. IsTrue (list_all has_few_pieces made)) (commands_of known cs)
all_few known [] h = given refl
all_few known (c ∷ cs) h = bind (at_line c.line (command_of known c.order)) _ (at_yields IsFew c.line (command_of known c.order) (made_few known c.order h.0)) (λ made f. bind (commands_of known cs) _ (all_few known cs h.1) (λ more g. given (rw f g)))

-- where each node that commands name is there, and none has too few or too many pieces
both : (count : ℕ) (cs : List Command) → IsTrue (list_all has_few_pieces cs) → IsTrue (list_all (nodes_within count) cs) → IsTrue (list_all (names_within count) cs)
both count [] f n = refl
both count (c ∷ cs) f n =
    let p = and_parts (has_few_pieces c) _ f in
    let q = and_parts (nodes_within count c) _ n in
    rw (p.0, q.0) (both count cs p.1 q.1)

pub all_within : (count : ℕ) (known : List (List ℕ)) (s : Script) → IsTrue (list_all (nodes_within count) (commands_or_none (commands_of known (script_view s)))) → IsTrue (list_all (names_within count) (commands_or_none (commands_of known (script_view s))))
all_within count known s n = go (commands_of known (script_view s)) (all_few known (script_view s) (script_few s)) n
  where
    go : (r : Result (List Command) ExpansionFault) → Yields (λ made. IsTrue (list_all has_few_pieces made)) r → IsTrue (list_all (nodes_within count) (commands_or_none r)) → IsTrue (list_all (names_within count) (commands_or_none r))
    go (Ok cs) h m = both count cs h.it m
    go (Err e) h m = refl
