-- What is read of each statement is what the machine does with its form.
use Rattle.std.proofs.Common.{◌≡◌, ◌∙◌, ap, sym, refl, ℕ, suc, Bool, true, false, cond, not, ◌&&◌, ◌||◌, List, [], ◌∷◌, ◌++◌, length, codes, Option, Some, None, Ok, Err, arith}
use Rattle.dn_parse.specs.declared.syntax.Mode.TheVariants.{Unsaid, Read as ForRead, Write as ForWrite}
use Rattle.std.specs.Str.{bytes_eq}
use Rattle.std.proofs.lemmas.Slice.Eq.{bytes_eq-Decides}
use Rattle.dn_token.specs.declared.token.Keyword.{Keyword}
use Rattle.dn_token.specs.declared.token.Keyword.TheVariants.{Agent, Vectors, Unit as UnitWord, Module, Use, For, In, End, Begin, Is, Accept, Map, To, And, At, Over, Kind, Page, Slots, Reach, As, Num, Node, Resolve, Lookup, View, Grant, Route, Revoke, Dump, Split, Absorb}
use Rattle.dn_token.specs.declared.token.Sign.{Sign}
use Rattle.dn_token.specs.declared.token.Sign.TheVariants.{Comma, OpenParenthesis, CloseParenthesis, Dots}
use Rattle.dn_token.specs.Token.{Lexeme, Token, word, keyword, number, sign}
use Rattle.dn_parse.specs.Tree.{Expression, Part, Role, plain_role, agent_role, vectors_role, Spec, Param, Arg, number_arg, node_arg, Declaration, node, unit, Order, revoke, absorb, gather, Piece, Statement, declares, heads_module, uses, orders}
use Rattle.dn_parse.specs.Actions.{Value, Action, perform, text, expression, name, names, spec, param, params, arg, args, mode, piece, pieces, statement, put_word, make_part, first_item, next_item, make_number_param, make_node_param, no_params, make_number_arg, make_node_arg, no_args, make_plain, make_agent, make_vectors, make_unit, make_module, make_use, make_loop, make_end, make_begin, no_access, for_read, for_write, make_resolve, make_lookup, make_view, make_grant, make_route, make_revoke, make_dump, make_split, make_absorb, make_radix, make_piece, make_gather}
use Rattle.dn_parse.specs.Forms.{Form, takes, does, either, one_of, Sort, a_word, a_node_word, any_word, the_keyword, the_sign, is, is_sign, is_command_word, values_with_token}
use Rattle.dn_parse.specs.Forms.{and_then as both}
use Rattle.dn_parse.specs.Syntax.{the, this, mark, factor, term, expr, part_form, name_form, spec_form, more_names, param_form, more_params, params_form, arg_form, more_args, args_form, plain_form, agent_form, vectors_form, unit_form, module_form, use_form, loop_form, access_form, maybe_access, command_form, radix_form, piece_form, more_pieces, gather_form, part_with, name_by, plain_by, index, more_parts, minus_expr, more_terms, more_factors, accept, map_form, over, block_form, upper_bound, more_blocks, entry_form, more_entries, dest_form, at_addr, more_dests, statement_form}
use Rattle.dn_parse.specs.Machine.{Move, to, skips, refuses, move_of_token, move_and_then, move_or_else, move, Fed, on, stuck, fed_by_move, inside, run, go, feed, refused}
use Rattle.dn_parse.specs.Descent.{and_then, if_there, Read, Reader, sign_at, keyword_at, word_at, any_word_at, row, with_front, after_sign, after_keyword, the_word_at, name_at, expr_at, spec_at, param_at, next_param_at, params_at, closed_params_at, arg_at, next_arg_at, args_at, closed_args_at, next_port_at, ports_at, node_at, measure_at, unit_declaration_at, module_at, use_at, loop_at, mode_at, access_at, resolve_at, lookup_at, view_at, grant_at, route_at, radix_at, piece_at, next_piece_at, pieces_at, gather_at, order_at, as_declared, as_ordered, keyword_statement_at, is_free, begins_word, word_order_at, word_statement_at, statement_by, statement_at}
use Rattle.dn_parse.proofs.Does.{Does, Row, does_by, seq, pass, last, act, keyword_after, sign_after, word_does, any_word_does, if_keyword, if_word, the_word_after, seq_on, does_same, assoc, most_row_does}
use Rattle.dn_parse.proofs.Readers.{bind_same, sign_row, keyword_row, row_read, expr_read, expr_does, name_read, name_does, spec_does}
use Rattle.dn_parse.proofs.Sets.{none_of, may_skip, starts, fits, among, one_left, keyword_is, sign_is}
use Rattle.dn_parse.proofs.Begins.{at_start, at_other}
use Rattle.dn_parse.proofs.Turns.{run_fed, run_then, run_does, run_first, run_second}

-- a value made of what was read
pub mapped : {X Y : Type 0} {f : Form} {n m : ℕ} {ts : List Token} {ws : List Value} (val : Y → Value) (g : X → Y) (r : Read X) → Does f n m ts ws (λ x. val (g x)) r → Does f n m ts ws val (and_then r (λ p. Ok (g p.0, p.1)))
mapped val g (Ok p) h = record { it = h.it }
mapped val g (Err z) h = record { it = h.it }

-- a list that may be empty, before a closing parenthesis
abbrev close_list : {X : Type 0} → List X × List Token → Read (List X)
close_list l = and_then (sign_at CloseParenthesis l.1) (λ rest. Ok (l.0, rest))

abbrev Listed : {X Y : Type 0} → Form → Action → Form → List Token → List Value → (Y → Value) → Reader (List X) → (List X × List Token → Read Y) → Option (List Token) → Type 0
Listed P a M ts ws val reader fin o = Does (both (either P (does a)) (both (mark CloseParenthesis) M)) 1 0 ts ws val (and_then (if_there o (λ rest. Ok ([], rest)) (and_then (reader ts) close_list)) fin)

record ClosedList {X Y : Type 0} (P M : Form) (a : Action) (listV : List X → Value) (ws : List Value) (val : Y → Value) (reader : Reader (List X)) (fin : List X × List Token → Read Y) : Type 0 where
  pub reads : (ts : List Token) → Does P 1 1 ts [] listV (reader ts)
  pub empties : (vs : List Value) → perform a vs ≡ listV [] ∷ vs
  pub refusing : (vs : List Value) → move P vs (sign CloseParenthesis) ≡ refuses
  pub ending : (xs : List X) (ts : List Token) → Does M 0 0 ts (listV xs ∷ ws) val (fin (xs, ts))

some_listed : {X Y : Type 0} (P M : Form) (a : Action) (listV : List X → Value) (ws : List Value) (val : Y → Value) (reader : Reader (List X)) (fin : List X × List Token → Read Y) → ClosedList P M a listV ws val reader fin → (ts : List Token) → Does (both P (both (mark CloseParenthesis) M)) 1 0 ts ws val (and_then (and_then (reader ts) close_list) fin)
some_listed P M a listV ws val reader fin c ts =
    let same = bind_same (reader ts) _ _ (λ l. assoc (sign_at CloseParenthesis l.1) (λ rest. Ok (l.0, rest)) fin) ∙ assoc (reader ts) close_list fin in
    does_same _ _ same (seq (reader ts) _ (c.reads ts) (λ xs rest. pass (sign_at CloseParenthesis rest) _ (sign_after CloseParenthesis 1 0 rest refl refl) (λ r. c.ending xs r)))

feeds_alike : (m : Move) (a : Action) (M : Form) (k : List Form) (vs : List Value) (l : Lexeme) → is (the_sign CloseParenthesis) l ≡ false → fed_by_move (move_and_then (move_or_else m (move (does a) vs l)) (both (mark CloseParenthesis) M) (λ us. move (both (mark CloseParenthesis) M) us l)) k (λ us. feed k us l) ≡ fed_by_move (move_and_then m (both (mark CloseParenthesis) M) (λ us. move (both (mark CloseParenthesis) M) us l)) k (λ us. feed k us l)
feeds_alike (to j us) a M k vs l e = refl
feeds_alike (skips us) a M k vs l e = refl
feeds_alike refuses a M k vs l e = ap (λ b. fed_by_move (move_and_then (move_of_token b [] (perform a vs)) M (λ us. move M us l)) k (λ us. feed k us l)) e

listed_token : {X Y : Type 0} (P M : Form) (a : Action) (listV : List X → Value) (ws : List Value) (val : Y → Value) (reader : Reader (List X)) (fin : List X × List Token → Read Y) → ClosedList P M a listV ws val reader fin → (t : Token) (ts : List Token) (b : Bool) → is_sign CloseParenthesis t.lexeme ≡ b → Listed P a M (t ∷ ts) ws val reader fin (cond b (Some ts) None)
listed_token P M a listV ws val reader fin c t ts true e =
    let l = sign_is CloseParenthesis t.lexeme e in
    does_by (both (either P (does a)) (both (mark CloseParenthesis) M)) M 1 0 0 (t ∷ ts) ts ws (listV [] ∷ ws) val (fin ([], ts))
    (λ line k vs. ap (λ u. go (feed (both (either P (does a)) (both (mark CloseParenthesis) M) ∷ k) (ws ++ vs) u) line 1 u (suc (length ts)) (λ p. run p ts)) l ∙ ap (λ m. go (fed_by_move (move_and_then (move_or_else m (move (does a) (ws ++ vs) (sign CloseParenthesis))) (both (mark CloseParenthesis) M) (λ us. move (both (mark CloseParenthesis) M) us (sign CloseParenthesis))) k (λ us. feed k us (sign CloseParenthesis))) line 1 (sign CloseParenthesis) (suc (length ts)) (λ p. run p ts)) (c.refusing (ws ++ vs)) ∙ ap (λ us. run (inside line 0 (M ∷ k) us) ts) (c.empties (ws ++ vs)))
    (omega arith)
    (c.ending [] ts)
listed_token P M a listV ws val reader fin c t ts false e =
    does_by (both (either P (does a)) (both (mark CloseParenthesis) M)) (both P (both (mark CloseParenthesis) M)) 1 1 0 (t ∷ ts) (t ∷ ts) ws ws val (and_then (and_then (reader (t ∷ ts)) close_list) fin)
    (λ line k vs. run_fed line 1 (both (either P (does a)) (both (mark CloseParenthesis) M) ∷ k) (both P (both (mark CloseParenthesis) M) ∷ k) (ws ++ vs) (ws ++ vs) t ts (feeds_alike (move P (ws ++ vs) t.lexeme) a M k (ws ++ vs) t.lexeme e))
    (omega arith)
    (some_listed P M a listV ws val reader fin c (t ∷ ts))

listed : {X Y : Type 0} (P M : Form) (a : Action) (listV : List X → Value) (ws : List Value) (val : Y → Value) (reader : Reader (List X)) (fin : List X × List Token → Read Y) → ClosedList P M a listV ws val reader fin → (ts : List Token) → Listed P a M ts ws val reader fin (after_sign CloseParenthesis ts)
unfolding after_sign
listed P M a listV ws val reader fin c [] = does_by (both (either P (does a)) (both (mark CloseParenthesis) M)) (both P (both (mark CloseParenthesis) M)) 1 1 0 [] [] ws ws val (and_then (and_then (reader []) close_list) fin) (λ line k vs. refl) (omega arith) (some_listed P M a listV ws val reader fin c [])
listed P M a listV ws val reader fin c (t ∷ ts) = listed_token P M a listV ws val reader fin c t ts (is_sign CloseParenthesis t.lexeme) refl

-- parameters and modules
param_does : (ts : List Token) → Does param_form 1 1 ts [] param (param_at ts)
unfolding param_form param_at
param_does ts = if_keyword _ _ Num ts (λ r. seq (word_at r) _ (word_does 1 r) (λ w r'. last _ make_number_param (λ vs. refl))) (pass (keyword_at Node ts) _ (keyword_after Node 1 ts) (λ r. seq (word_at r) _ (word_does 1 r) (λ w r'. last _ make_node_param (λ vs. refl))))

params_does : (ts : List Token) → Does (both param_form (both (does first_item) more_params)) 1 1 ts [] params (params_at ts)
unfolding more_params params_at next_param_at after_sign
params_does ts = row_read Comma param_form 1 param params param_at next_param_at refl refl (λ ts. refl) param_does (λ x vs. refl) (λ es x vs. refl) ts

params_refuse : (vs : List Value) → move (both param_form (both (does first_item) more_params)) vs (sign CloseParenthesis) ≡ refuses
unfolding param_form
params_refuse vs = refl

abbrev module_end : List ℕ → List Param × List Token → Read Statement
module_end w ps = Ok (heads_module w ps.0, ps.1)

module_list : (w : List ℕ) → ClosedList (both param_form (both (does first_item) more_params)) (does make_module) no_params params (text w ∷ []) statement params_at (module_end w)
module_list w = record {
  reads = params_does;
  empties = λ vs. refl;
  refusing = params_refuse;
  ending = λ ps ts. last _ make_module (λ vs. refl);
}

abbrev after_module : Form
after_module = both (takes a_word) (both (mark OpenParenthesis) (both params_form (both (mark CloseParenthesis) (does make_module))))

module_does : (ts : List Token) → Does after_module 0 0 ts [] statement (module_at ts)
unfolding params_form module_at closed_params_at
module_does ts = seq (word_at ts) _ (word_does 0 ts) (λ w rest. pass (sign_at OpenParenthesis rest) _ (sign_after OpenParenthesis 0 1 rest refl refl) (λ r. listed (both param_form (both (does first_item) more_params)) (does make_module) no_params params (text w ∷ []) statement params_at (module_end w) (module_list w) r))

-- arguments and instances
abbrev number_arg_form : Form
number_arg_form = both expr (does make_number_arg)

abbrev node_arg_form : Form
node_arg_form = both name_form (does make_node_arg)

abbrev arg_by : Option (List Token) → List Token → Read Arg
arg_by o ts = if_there o (λ rest. and_then (name_at 31 rest) (λ n. Ok (node_arg n.0, n.1))) (and_then (expr_at 31 ts) (λ e. Ok (number_arg e.0, e.1)))

number_arg_does : (ts : List Token) → Does number_arg_form 1 1 ts [] arg (and_then (expr_at 31 ts) (λ e. Ok (number_arg e.0, e.1)))
number_arg_does ts = seq (expr_at 31 ts) _ (expr_read 31 1 refl ts) (λ e r. last _ make_number_arg (λ vs. refl))

no_expr_at_node : (vs : List Value) → move number_arg_form vs (keyword Node) ≡ refuses
unfolding expr term factor
no_expr_at_node vs = refl

arg_alike : (m : Move) (k : List Form) (vs : List Value) (l : Lexeme) → is (the_keyword Node) l ≡ false → fed_by_move (move_or_else m (move (both (the Node) node_arg_form) vs l)) k (λ us. feed k us l) ≡ fed_by_move m k (λ us. feed k us l)
arg_alike (to j us) k vs l e = refl
arg_alike (skips us) k vs l e = refl
arg_alike refuses k vs l e = ap (λ b. fed_by_move (move_and_then (move_of_token b [] vs) node_arg_form (λ us. move node_arg_form us l)) k (λ us. feed k us l)) e

arg_token : (t : Token) (ts : List Token) (b : Bool) → is (the_keyword Node) t.lexeme ≡ b → Does (either number_arg_form (both (the Node) node_arg_form)) 1 1 (t ∷ ts) [] arg (arg_by (cond b (Some ts) None) (t ∷ ts))
arg_token t ts true e =
    does_by (either number_arg_form (both (the Node) node_arg_form)) node_arg_form 1 1 1 (t ∷ ts) ts [] [] arg (and_then (name_at 31 ts) (λ n. Ok (node_arg n.0, n.1)))
    (λ line k vs. ap (λ u. go (feed (either number_arg_form (both (the Node) node_arg_form) ∷ k) vs u) line 1 u (suc (length ts)) (λ p. run p ts)) (keyword_is Node t.lexeme e) ∙ ap (λ m. go (fed_by_move (move_or_else m (move (both (the Node) node_arg_form) vs (keyword Node))) k (λ us. feed k us (keyword Node))) line 1 (keyword Node) (suc (length ts)) (λ p. run p ts)) (no_expr_at_node vs))
    (omega arith)
    (seq (name_at 31 ts) _ (name_read 1 31 refl ts) (λ n r. last _ make_node_arg (λ vs. refl)))
arg_token t ts false e =
    does_by (either number_arg_form (both (the Node) node_arg_form)) number_arg_form 1 1 1 (t ∷ ts) (t ∷ ts) [] [] arg (and_then (expr_at 31 (t ∷ ts)) (λ x. Ok (number_arg x.0, x.1)))
    (λ line k vs. run_fed line 1 (either number_arg_form (both (the Node) node_arg_form) ∷ k) (number_arg_form ∷ k) vs vs t ts (arg_alike (move number_arg_form vs t.lexeme) k vs t.lexeme e))
    (omega arith)
    (number_arg_does (t ∷ ts))

arg_does : (ts : List Token) → Does arg_form 1 1 ts [] arg (arg_at ts)
unfolding arg_form arg_at after_keyword
arg_does [] = does_by (either number_arg_form (both (the Node) node_arg_form)) number_arg_form 1 1 1 [] [] [] [] arg (and_then (expr_at 31 []) (λ x. Ok (number_arg x.0, x.1))) (λ line k vs. refl) (omega arith) (number_arg_does [])
arg_does (t ∷ ts) = arg_token t ts (is (the_keyword Node) t.lexeme) refl

args_does : (ts : List Token) → Does (both arg_form (both (does first_item) more_args)) 1 1 ts [] args (args_at ts)
unfolding more_args args_at next_arg_at after_sign
args_does ts = row_read Comma arg_form 1 arg args arg_at next_arg_at refl refl (λ ts. refl) arg_does (λ x vs. refl) (λ es x vs. refl) ts

args_refuse : (vs : List Value) → move (both arg_form (both (does first_item) more_args)) vs (sign CloseParenthesis) ≡ refuses
unfolding arg_form expr term factor
args_refuse vs = refl

abbrev use_end : List ℕ → List Arg × List Token → Read Statement
use_end w xs = and_then (keyword_at As xs.1) (λ rest. and_then (name_at 32 rest) (λ prefix. Ok (uses w xs.0 prefix.0, prefix.1)))

use_list : (w : List ℕ) → ClosedList (both arg_form (both (does first_item) more_args)) (both (the As) (both name_form (does make_use))) no_args args (text w ∷ []) statement args_at (use_end w)
use_list w = record {
  reads = args_does;
  empties = λ vs. refl;
  refusing = args_refuse;
  ending = λ xs ts. pass (keyword_at As ts) _ (keyword_after As 0 ts) (λ r. seq (name_at 32 r) _ (name_does r) (λ n r'. last _ make_use (λ vs. refl)));
}

abbrev after_use : Form
after_use = both (takes a_word) (both (mark OpenParenthesis) (both args_form (both (mark CloseParenthesis) (both (the As) (both name_form (does make_use))))))

use_does : (ts : List Token) → Does after_use 0 0 ts [] statement (use_at ts)
unfolding args_form use_at closed_args_at
use_does ts = seq (word_at ts) _ (word_does 0 ts) (λ w rest. pass (sign_at OpenParenthesis rest) _ (sign_after OpenParenthesis 0 1 rest refl refl) (λ r. listed (both arg_form (both (does first_item) more_args)) (both (the As) (both name_form (does make_use))) no_args args (text w ∷ []) statement args_at (use_end w) (use_list w) r))

-- nodes
abbrev node_rest : Action → Form
node_rest a = both name_form (both (the Is) (both spec_form (does a)))

node_does : (role : Role) (a : Action) → ((n : List Part) (s : Spec) (vs : List Value) → perform a (spec s ∷ name n ∷ vs) ≡ statement (declares (node role n s)) ∷ vs) → (ts : List Token) → Does (node_rest a) 0 0 ts [] statement (as_declared (node_at role ts))
unfolding node_at
node_does role a e ts = mapped statement declares (node_at role ts) (seq (name_at 32 ts) _ (name_does ts) (λ n r. pass (keyword_at Is r) _ (keyword_after Is 0 r) (λ r'. seq (spec_at r') _ (spec_does r') (λ s r''. last _ a (λ vs. e n s vs)))))

-- units
measure_seq : {X : Type 0} {g : Form} {ws : List Value} {val : X → Value} (k : Keyword) (ts : List Token) (next : Expression × List Token → Read X) → ((e : Expression) (rest : List Token) → Does g 0 0 rest (expression e ∷ ws) val (next (e, rest))) → Does (both (the k) (both expr g)) 0 0 ts ws val (and_then (measure_at k ts) next)
unfolding measure_at
measure_seq k ts next h = does_same _ _ (assoc (keyword_at k ts) (λ rest. expr_at 32 rest) next) (pass (keyword_at k ts) _ (keyword_after k 0 ts) (λ r. seq (expr_at 32 r) _ (expr_does r) h))

port_row : Row (the_sign Comma) (both name_form (does next_item)) 0 names (name_at 32) next_port_at
unfolding next_port_at after_sign
port_row = sign_row Comma name_form 0 name names (name_at 32) next_port_at refl refl (λ ts. refl) name_does (λ es x vs. refl)

abbrev unit_with : List Part → List ℕ → Expression → Expression → Expression → List (List Part) × List Token → Read Declaration
unit_with n kind page slots reach ps = Ok (unit n kind page slots reach ps.0, ps.1)

ports_same : (f : List (List Part) × List Token → Read Declaration) (ts : List Token) → and_then (name_at 32 ts) (λ first. and_then (with_front (first.0 ∷ []) (row next_port_at 7 first.1)) f) ≡ and_then (ports_at ts) f
unfolding ports_at
ports_same f ts = assoc (name_at 32 ts) _ _

abbrev declared_statement : Declaration → Value
declared_statement d = statement (declares d)

ports_does : (n : List Part) (kind : List ℕ) (page slots reach : Expression) (ts : List Token) → Does (both name_form (both (does first_item) (both (more_names 7) (does make_unit)))) 0 0 ts (expression reach ∷ expression slots ∷ expression page ∷ text kind ∷ name n ∷ []) declared_statement (and_then (ports_at ts) (unit_with n kind page slots reach))
unfolding more_names
ports_does n kind page slots reach ts = does_same _ _ (ports_same (unit_with n kind page slots reach) ts) (seq (name_at 32 ts) _ (name_does ts) (λ p rest. act (names (p ∷ []) ∷ expression reach ∷ expression slots ∷ expression page ∷ text kind ∷ name n ∷ []) first_item _ (λ vs. refl) (seq_on (with_front (p ∷ []) (row next_port_at 7 rest)) _ (most_row_does (the_sign Comma) _ 0 names (name_at 32) next_port_at port_row 7 rest (p ∷ [])) (λ ps r. last _ make_unit (λ vs. refl)))))

abbrev after_unit : Form
after_unit = both name_form (both (the Kind) (both (takes any_word) (both (the Page) (both expr (both (the Slots) (both expr (both (the Reach) (both expr (both (the To) (both name_form (both (does first_item) (both (more_names 7) (does make_unit)))))))))))))

unit_does : (ts : List Token) → Does after_unit 0 0 ts [] statement (as_declared (unit_declaration_at ts))
unfolding unit_declaration_at
unit_does ts = mapped statement declares (unit_declaration_at ts) (seq (name_at 32 ts) _ (name_does ts) (λ n r. pass (keyword_at Kind r) _ (keyword_after Kind 0 r) (λ r1. seq (any_word_at r1) _ (any_word_does 0 r1) (λ kind r2. measure_seq Page r2 _ (λ page r3. measure_seq Slots r3 _ (λ slots r4. measure_seq Reach r4 _ (λ reach r5. pass (keyword_at To r5) _ (keyword_after To 0 r5) (λ r6. ports_does n kind page slots reach r6))))))))

-- loops
abbrev after_for : Form
after_for = both (takes a_word) (both (the In) (both expr (both (mark Dots) (both expr (does make_loop)))))

loop_does : (ts : List Token) → Does after_for 0 0 ts [] statement (loop_at ts)
unfolding loop_at
loop_does ts = seq (word_at ts) _ (word_does 0 ts) (λ w r. measure_seq In r _ (λ from r1. pass (sign_at Dots r1) _ (sign_after Dots 0 0 r1 refl refl) (λ r2. seq (expr_at 32 r2) _ (expr_does r2) (λ upto r3. last _ make_loop (λ vs. refl)))))

-- commands
abbrev ordered : Order → Value
ordered o = statement (orders o)

mode_does : (ts : List Token) → Does (either (both (this (codes "read")) (does for_read)) (both (this (codes "write")) (does for_write))) 0 0 ts [] mode (mode_at ts)
unfolding mode_at
mode_does ts = if_word _ _ (codes "read") ts (λ r. last ForRead for_read (λ vs. refl)) (pass (the_word_at (codes "write") ts) _ (the_word_after (codes "write") 0 ts) (λ r. last ForWrite for_write (λ vs. refl)))

access_does : (ts : List Token) → Does maybe_access 0 0 ts [] mode (access_at ts)
unfolding maybe_access access_form access_at
access_does ts = if_keyword _ _ For ts mode_does (last Unsaid no_access (λ vs. refl))

resolve_does : (ts : List Token) → Does (both name_form (both expr (both maybe_access (does make_resolve)))) 0 0 ts [] ordered (resolve_at ts)
unfolding resolve_at
resolve_does ts = seq (name_at 32 ts) _ (name_does ts) (λ n r. seq (expr_at 32 r) _ (expr_does r) (λ e r1. seq (access_at r1) _ (access_does r1) (λ m r2. last _ make_resolve (λ vs. refl))))

lookup_does : (ts : List Token) → Does (both name_form (both expr (both maybe_access (does make_lookup)))) 0 0 ts [] ordered (lookup_at ts)
unfolding lookup_at
lookup_does ts = seq (name_at 32 ts) _ (name_does ts) (λ n r. seq (expr_at 32 r) _ (expr_does r) (λ e r1. seq (access_at r1) _ (access_does r1) (λ m r2. last _ make_lookup (λ vs. refl))))

view_does : (ts : List Token) → Does (both name_form (both maybe_access (does make_view))) 0 0 ts [] ordered (view_at ts)
unfolding view_at
view_does ts = seq (name_at 32 ts) _ (name_does ts) (λ n r. seq (access_at r) _ (access_does r) (λ m r1. last _ make_view (λ vs. refl)))

name_order : (a : Action) (g : List Part → Order) → ((n : List Part) (vs : List Value) → perform a (name n ∷ vs) ≡ ordered (g n) ∷ vs) → (ts : List Token) → Does (both name_form (does a)) 0 0 ts [] ordered (and_then (name_at 32 ts) (λ n. Ok (g n.0, n.1)))
name_order a g e ts = seq (name_at 32 ts) _ (name_does ts) (λ n r. last _ a (λ vs. e n vs))

grant_does : (ts : List Token) → Does (both (takes a_word) (both name_form (both name_form (both expr (both expr (both maybe_access (does make_grant))))))) 0 0 ts [] ordered (grant_at ts)
unfolding grant_at
grant_does ts = seq (word_at ts) _ (word_does 0 ts) (λ w r. seq (name_at 32 r) _ (name_does r) (λ a r1. seq (name_at 32 r1) _ (name_does r1) (λ n r2. seq (expr_at 32 r2) _ (expr_does r2) (λ b r3. seq (expr_at 32 r3) _ (expr_does r3) (λ z r4. seq (access_at r4) _ (access_does r4) (λ m r5. last _ make_grant (λ vs. refl)))))))

route_does : (ts : List Token) → Does (both (takes a_word) (both name_form (both expr (both name_form (does make_route))))) 0 0 ts [] ordered (route_at ts)
unfolding route_at
route_does ts = seq (word_at ts) _ (word_does 0 ts) (λ w r. seq (name_at 32 r) _ (name_does r) (λ a r1. seq (expr_at 32 r1) _ (expr_does r1) (λ x r2. seq (name_at 32 r2) _ (name_does r2) (λ n r3. last _ make_route (λ vs. refl)))))

abbrev after_radix : Form
after_radix = both name_form (both expr (does make_radix))

radix_does : (ts : List Token) → Does after_radix 0 0 ts [] ordered (radix_at ts)
unfolding radix_at
radix_does ts = seq (name_at 32 ts) _ (name_does ts) (λ n r. seq (expr_at 32 r) _ (expr_does r) (λ e r1. last _ make_radix (λ vs. refl)))

piece_does : (ts : List Token) → Does piece_form 0 0 ts [] piece (piece_at ts)
unfolding piece_form piece_at
piece_does ts = seq (word_at ts) _ (word_does 0 ts) (λ w r. seq (name_at 32 r) _ (name_does r) (λ n r1. seq (expr_at 32 r1) _ (expr_does r1) (λ b r2. seq (expr_at 32 r2) _ (expr_does r2) (λ z r3. last _ make_piece (λ vs. refl)))))

piece_row : Row (the_keyword And) (both piece_form (does next_item)) 0 pieces piece_at next_piece_at
unfolding next_piece_at after_keyword
piece_row = keyword_row And piece_form piece pieces piece_at next_piece_at (λ ts. refl) piece_does (λ es x vs. refl)

abbrev gather_end : List Part → List Piece × List Token → Read Order
gather_end n ps = and_then (access_at ps.1) (λ m. Ok (gather n ps.0 m.0, m.1))

pieces_same : (n : List Part) (ts : List Token) → and_then (piece_at ts) (λ first. and_then (with_front (first.0 ∷ []) (row next_piece_at 7 first.1)) (gather_end n)) ≡ and_then (pieces_at ts) (gather_end n)
unfolding pieces_at
pieces_same n ts = assoc (piece_at ts) _ _

abbrev after_agent : Form
after_agent = both piece_form (both (does first_item) (both (more_pieces 7) (both maybe_access (does make_gather))))

pieces_does : (n : List Part) (ts : List Token) → Does after_agent 0 0 ts (name n ∷ []) ordered (and_then (pieces_at ts) (gather_end n))
unfolding more_pieces
pieces_does n ts = does_same _ _ (pieces_same n ts) (seq (piece_at ts) _ (piece_does ts) (λ p rest. act (pieces (p ∷ []) ∷ name n ∷ []) first_item _ (λ vs. refl) (seq_on (with_front (p ∷ []) (row next_piece_at 7 rest)) _ (most_row_does (the_keyword And) _ 0 pieces piece_at next_piece_at piece_row 7 rest (p ∷ [])) (λ ps r. seq (access_at r) _ (access_does r) (λ m r1. last _ make_gather (λ vs. refl))))))

abbrev after_gather : Form
after_gather = both name_form after_agent

gather_does : (ts : List Token) → Does after_gather 0 0 ts [] ordered (gather_at ts)
unfolding gather_at
gather_does ts = seq (name_at 32 ts) _ (name_does ts) (λ n r. pieces_does n r)

revoke_does : (ts : List Token) → Does (both (takes a_word) (does make_revoke)) 0 0 ts [] ordered (and_then (word_at ts) (λ w. Ok (revoke w.0, w.1)))
revoke_does ts = seq (word_at ts) _ (word_does 0 ts) (λ w r. last _ make_revoke (λ vs. refl))

-- the statement that a first token begins
by_word : (f : Form) (j : Keyword) (t : Token) (ts : List Token) (r : Read Statement) → t.lexeme ≡ keyword j → ((k : List Form) (vs : List Value) → feed (statement_form ∷ k) vs (keyword j) ≡ on (f ∷ k) vs) → Does f 0 0 ts [] statement r → Does statement_form 0 0 (t ∷ ts) [] statement r
by_word f j t ts r e h d = does_by statement_form f 0 0 0 (t ∷ ts) ts [] [] statement r (λ line k vs. ap (λ u. go (feed (statement_form ∷ k) vs u) line 0 u (suc (length ts)) (λ p. run p ts)) e ∙ ap (λ (x : Fed). go x line 0 (keyword j) (suc (length ts)) (λ p. run p ts)) (h k vs)) (omega arith) d

refused_word : (l : Lexeme) (t : Token) (ts : List Token) → t.lexeme ≡ l → ((k : List Form) (vs : List Value) → feed (statement_form ∷ k) vs l ≡ stuck) → Does statement_form 0 0 (t ∷ ts) [] statement (Err (refused (suc (length ts))))
refused_word l t ts e h = record { it = λ line k vs. ap (λ u. go (feed (statement_form ∷ k) vs u) line 0 u (suc (length ts)) (λ p. run p ts)) e ∙ ap (λ (x : Fed). go x line 0 l (suc (length ts)) (λ p. run p ts)) (h k vs) }

order_word : (f : Form) (j : Keyword) (t : Token) (ts : List Token) (r : Read Order) → t.lexeme ≡ keyword j → ((k : List Form) (vs : List Value) → feed (statement_form ∷ k) vs (keyword j) ≡ on (f ∷ k) vs) → Does f 0 0 ts [] ordered r → Does statement_form 0 0 (t ∷ ts) [] statement (and_then r (λ o. Ok (orders o.0, o.1)))
order_word f j t ts r e h d = by_word f j t ts (and_then r (λ o. Ok (orders o.0, o.1))) e h (mapped statement orders r d)

-- a node by the form of the first word of its name: that form, and what follows it
abbrev after_first_word : List Form → List Form
after_first_word k = both index (does make_part) ∷ both (does first_item) more_parts ∷ both (the Is) (both spec_form (does make_plain)) ∷ k

plain_parts : (f : Form) (line : ℕ) (k : List Form) (vs : List Value) (ts : List Token) → run (inside line 0 (plain_by f ∷ k) vs) ts ≡ run (inside line 0 (f ∷ after_first_word k) vs) ts
plain_parts f line k vs ts = run_then line 0 (name_by f) _ k vs ts ∙ run_then line 0 (part_with f) _ _ vs ts ∙ run_then line 0 f _ _ vs ts

word_taken : (s : Sort) (w : List ℕ) (t : Token) (ts : List Token) → t.lexeme ≡ word w → is s (word w) ≡ true → (line : ℕ) (k : List Form) (vs : List Value) → values_with_token s (word w) vs ≡ text w ∷ vs → run (inside line 0 (takes s ∷ k) vs) (t ∷ ts) ≡ run (inside line 0 k (text w ∷ vs)) ts
word_taken s w t ts e h line k vs q =
    ap (λ l. go (feed (takes s ∷ k) vs l) line 0 l (suc (length ts)) (λ p. run p ts)) e
    ∙ ap (λ b. go (fed_by_move (move_of_token b [] (values_with_token s (word w) vs)) k (λ us. feed k us (word w))) line 0 (word w) (suc (length ts)) (λ p. run p ts)) h
    ∙ ap (λ us. run (inside line 0 k us) ts) q

-- a name begins with this word
node_first : (w : List ℕ) (t : Token) (ts : List Token) → t.lexeme ≡ word w → (line : ℕ) (k : List Form) (vs : List Value) → run (inside line 0 (node_rest make_plain ∷ k) vs) (t ∷ ts) ≡ run (inside line 0 (after_first_word k) (text w ∷ vs)) ts
unfolding name_form part_form
node_first w t ts e line k vs = plain_parts (takes a_word) line k vs (t ∷ ts) ∙ word_taken a_word w t ts e refl line (after_first_word k) vs refl

-- a word that begins no command
plain_fits : fits plain_form ≡ true
unfolding plain_form index expr term factor minus_expr more_terms more_factors more_parts part_form spec_form accept map_form over block_form upper_bound more_blocks entry_form more_entries dest_form at_addr more_dests name_form
plain_fits = refl

abbrev other_forms : Form
other_forms = one_of agent_form (vectors_form ∷ unit_form ∷ module_form ∷ use_form ∷ loop_form ∷ both (the End) (does make_end) ∷ both (the Begin) (does make_begin) ∷ command_form ∷ radix_form ∷ gather_form ∷ [])

node_word_first : (w : List ℕ) (t : Token) (ts : List Token) → t.lexeme ≡ word w → is_command_word w ≡ false → (line : ℕ) (k : List Form) (vs : List Value) → run (inside line 0 (statement_form ∷ k) vs) (t ∷ ts) ≡ run (inside line 0 (node_rest make_plain ∷ k) vs) (t ∷ ts)
unfolding statement_form plain_form
node_word_first w t ts e h line k vs =
    let is_one : is a_node_word (word w) ≡ true = ap not h in
    let begins : among (starts plain_form) t.lexeme ≡ true = ap (among (starts plain_form)) e ∙ one_left (is a_node_word (word w)) false is_one in
    let p = at_start plain_form plain_fits vs t.lexeme begins in
    run_first line 0 plain_form other_forms k p.next vs p.values t ts p.taking
    ∙ plain_parts (takes a_node_word) line k vs (t ∷ ts)
    ∙ word_taken a_node_word w t ts e is_one line (after_first_word k) vs refl
    ∙ sym (node_first w t ts e line k vs)

-- what may follow a reserved word with which a statement begins
abbrev head : Keyword → Option Form
head Agent = Some (node_rest make_agent)
head Vectors = Some (node_rest make_vectors)
head UnitWord = Some after_unit
head Module = Some after_module
head Use = Some after_use
head For = Some after_for
head End = Some (does make_end)
head Begin = Some (does make_begin)
head Resolve = Some (both name_form (both expr (both maybe_access (does make_resolve))))
head Lookup = Some (both name_form (both expr (both maybe_access (does make_lookup))))
head View = Some (both name_form (both maybe_access (does make_view)))
head Grant = Some (both (takes a_word) (both name_form (both name_form (both expr (both expr (both maybe_access (does make_grant)))))))
head Route = Some (both (takes a_word) (both name_form (both expr (both name_form (does make_route)))))
head Revoke = Some (both (takes a_word) (does make_revoke))
head Dump = Some (does make_dump)
head Split = Some (does make_split)
head Absorb = Some (both name_form (does make_absorb))
head _ = None

abbrev by_head : Option Form → List Form → List Value → Fed
by_head (Some f) k vs = on (f ∷ k) vs
by_head None k vs = stuck

feeds : (j : Keyword) (k : List Form) (vs : List Value) → feed (statement_form ∷ k) vs (keyword j) ≡ by_head (head j) k vs
unfolding statement_form plain_form agent_form vectors_form unit_form module_form use_form loop_form command_form radix_form gather_form name_form part_form
feeds Agent k vs = refl
feeds Vectors k vs = refl
feeds UnitWord k vs = refl
feeds Module k vs = refl
feeds Use k vs = refl
feeds For k vs = refl
feeds In k vs = refl
feeds End k vs = refl
feeds Begin k vs = refl
feeds Is k vs = refl
feeds Accept k vs = refl
feeds Map k vs = refl
feeds To k vs = refl
feeds And k vs = refl
feeds At k vs = refl
feeds Over k vs = refl
feeds Kind k vs = refl
feeds Page k vs = refl
feeds Slots k vs = refl
feeds Reach k vs = refl
feeds As k vs = refl
feeds Num k vs = refl
feeds Node k vs = refl
feeds Resolve k vs = refl
feeds Lookup k vs = refl
feeds View k vs = refl
feeds Grant k vs = refl
feeds Route k vs = refl
feeds Revoke k vs = refl
feeds Dump k vs = refl
feeds Split k vs = refl
feeds Absorb k vs = refl

feeds_number : (x : ℕ) (k : List Form) (vs : List Value) → feed (statement_form ∷ k) vs (number x) ≡ stuck
unfolding statement_form plain_form agent_form vectors_form unit_form module_form use_form loop_form command_form radix_form gather_form name_form part_form
feeds_number x k vs = refl

feeds_sign : (s : Sign) (k : List Form) (vs : List Value) → feed (statement_form ∷ k) vs (sign s) ≡ stuck
unfolding statement_form plain_form agent_form vectors_form unit_form module_form use_form loop_form command_form radix_form gather_form name_form part_form
feeds_sign s k vs = refl

keyword_token : (j : Keyword) (t : Token) (ts : List Token) → t.lexeme ≡ keyword j → Does statement_form 0 0 (t ∷ ts) [] statement (keyword_statement_at j (t ∷ ts) ts)
unfolding keyword_statement_at order_at
keyword_token Agent t ts e = by_word (node_rest make_agent) Agent t ts _ e (feeds Agent) (node_does agent_role make_agent (λ n s vs. refl) ts)
keyword_token Vectors t ts e = by_word (node_rest make_vectors) Vectors t ts _ e (feeds Vectors) (node_does vectors_role make_vectors (λ n s vs. refl) ts)
keyword_token UnitWord t ts e = by_word (after_unit) UnitWord t ts _ e (feeds UnitWord) (unit_does ts)
keyword_token Module t ts e = by_word (after_module) Module t ts _ e (feeds Module) (module_does ts)
keyword_token Use t ts e = by_word (after_use) Use t ts _ e (feeds Use) (use_does ts)
keyword_token For t ts e = by_word (after_for) For t ts _ e (feeds For) (loop_does ts)
keyword_token In t ts e = refused_word (keyword In) t ts e (feeds In)
keyword_token End t ts e = by_word (does make_end) End t ts _ e (feeds End) (last _ make_end (λ vs. refl))
keyword_token Begin t ts e = by_word (does make_begin) Begin t ts _ e (feeds Begin) (last _ make_begin (λ vs. refl))
keyword_token Is t ts e = refused_word (keyword Is) t ts e (feeds Is)
keyword_token Accept t ts e = refused_word (keyword Accept) t ts e (feeds Accept)
keyword_token Map t ts e = refused_word (keyword Map) t ts e (feeds Map)
keyword_token To t ts e = refused_word (keyword To) t ts e (feeds To)
keyword_token And t ts e = refused_word (keyword And) t ts e (feeds And)
keyword_token At t ts e = refused_word (keyword At) t ts e (feeds At)
keyword_token Over t ts e = refused_word (keyword Over) t ts e (feeds Over)
keyword_token Kind t ts e = refused_word (keyword Kind) t ts e (feeds Kind)
keyword_token Page t ts e = refused_word (keyword Page) t ts e (feeds Page)
keyword_token Slots t ts e = refused_word (keyword Slots) t ts e (feeds Slots)
keyword_token Reach t ts e = refused_word (keyword Reach) t ts e (feeds Reach)
keyword_token As t ts e = refused_word (keyword As) t ts e (feeds As)
keyword_token Num t ts e = refused_word (keyword Num) t ts e (feeds Num)
keyword_token Node t ts e = refused_word (keyword Node) t ts e (feeds Node)
keyword_token Resolve t ts e = order_word (both name_form (both expr (both maybe_access (does make_resolve)))) Resolve t ts _ e (feeds Resolve) (resolve_does ts)
keyword_token Lookup t ts e = order_word (both name_form (both expr (both maybe_access (does make_lookup)))) Lookup t ts _ e (feeds Lookup) (lookup_does ts)
keyword_token View t ts e = order_word (both name_form (both maybe_access (does make_view))) View t ts _ e (feeds View) (view_does ts)
keyword_token Grant t ts e = order_word (both (takes a_word) (both name_form (both name_form (both expr (both expr (both maybe_access (does make_grant))))))) Grant t ts _ e (feeds Grant) (grant_does ts)
keyword_token Route t ts e = order_word (both (takes a_word) (both name_form (both expr (both name_form (does make_route))))) Route t ts _ e (feeds Route) (route_does ts)
keyword_token Revoke t ts e = order_word (both (takes a_word) (does make_revoke)) Revoke t ts _ e (feeds Revoke) (revoke_does ts)
keyword_token Dump t ts e = order_word (does make_dump) Dump t ts _ e (feeds Dump) (last _ make_dump (λ vs. refl))
keyword_token Split t ts e = order_word (does make_split) Split t ts _ e (feeds Split) (last _ make_split (λ vs. refl))
keyword_token Absorb t ts e = order_word (both name_form (does make_absorb)) Absorb t ts _ e (feeds Absorb) (name_order make_absorb absorb (λ n vs. refl) ts)

-- a word that begins a command where a word follows it: the form of what follows it there, and how that is read
record CommandWord (w : List ℕ) (f : Form) (reader : Reader Order) : Type 0 where
  pub begins : (l : Lexeme) → among (starts f) l ≡ is_free l
  pub fitting : fits f ≡ true
  pub needed : may_skip f ≡ false
  pub feeding : (k : List Form) (vs : List Value) → feed (statement_form ∷ k) vs (word w) ≡ on (either f (plain_by (does (put_word w))) ∷ k) vs
  pub reading : (ts : List Token) → Does f 0 0 ts [] ordered (reader ts)

-- a name begins with a word that is not reserved
name_begins : (l : Lexeme) → among (starts name_form) l ≡ is_free l
unfolding name_form part_form
name_begins (word w) = refl
name_begins (keyword j) = refl
name_begins (number x) = refl
name_begins (sign s) = refl

radix_word : CommandWord (codes "radix") after_radix radix_at
unfolding statement_form plain_form agent_form vectors_form unit_form module_form use_form loop_form command_form radix_form gather_form name_form part_form more_parts index expr term factor minus_expr more_terms more_factors
radix_word = record { begins = name_begins; fitting = refl; needed = refl; feeding = λ k vs. refl; reading = radix_does }

gather_word : CommandWord (codes "gather") after_gather gather_at
unfolding statement_form plain_form agent_form vectors_form unit_form module_form use_form loop_form command_form radix_form gather_form piece_form more_pieces maybe_access access_form name_form part_form more_parts index expr term factor minus_expr more_terms more_factors
gather_word = record { begins = name_begins; fitting = refl; needed = refl; feeding = λ k vs. refl; reading = gather_does }

abbrev plain_node : List Token → Read Statement
plain_node ts = as_declared (node_at plain_role ts)

module _ (w : List ℕ) (f : Form) (reader : Reader Order) (c : CommandWord w f reader) where
  abbrev node_instead : Form
  node_instead = plain_by (does (put_word w))

  command_word_first : (t : Token) (ts : List Token) → t.lexeme ≡ word w → (line : ℕ) (k : List Form) (vs : List Value) → run (inside line 0 (statement_form ∷ k) vs) (t ∷ ts) ≡ run (inside line 0 (either f node_instead ∷ k) vs) ts
  command_word_first t ts e line k vs =
      ap (λ u. go (feed (statement_form ∷ k) vs u) line 0 u (suc (length ts)) (λ p. run p ts)) e
      ∙ ap (λ (x : Fed). go x line 0 (word w) (suc (length ts)) (λ p. run p ts)) (c.feeding k vs)

  order_there : (ts : List Token) → begins_word ts ≡ true → (line : ℕ) (k : List Form) (vs : List Value) → run (inside line 0 (either f node_instead ∷ k) vs) ts ≡ run (inside line 0 (f ∷ k) vs) ts
  order_there [] b line k vs = cc
  order_there (u ∷ us) b line k vs =
      let p = at_start f c.fitting vs u.lexeme (c.begins u.lexeme ∙ b) in
      run_first line 0 f node_instead k p.next vs p.values u us p.taking

  node_there : (ts : List Token) → begins_word ts ≡ false → (line : ℕ) (k : List Form) (vs : List Value) → run (inside line 0 (either f node_instead ∷ k) vs) ts ≡ run (inside line 0 (after_first_word k) (text w ∷ vs)) ts
  node_there [] b line k vs = refl
  node_there (u ∷ us) b line k vs =
      run_second line 0 f node_instead k vs u us ((at_other f c.fitting vs u.lexeme (c.begins u.lexeme ∙ b)).refused c.needed)
      ∙ plain_parts (does (put_word w)) line k vs (u ∷ us)
      ∙ run_does line 0 (put_word w) (after_first_word k) vs (u ∷ us)

  command_token : (t : Token) (ts : List Token) → t.lexeme ≡ word w → (b : Bool) → begins_word ts ≡ b → Does statement_form 0 0 (t ∷ ts) [] statement (cond b (as_ordered (reader ts)) (plain_node (t ∷ ts)))
  command_token t ts e true q = does_by statement_form f 0 0 0 (t ∷ ts) ts [] [] statement (as_ordered (reader ts)) (λ line k vs. command_word_first t ts e line k vs ∙ order_there ts q line k vs) (omega arith) (mapped statement orders (reader ts) (c.reading ts))
  command_token t ts e false q = does_by statement_form (node_rest make_plain) 0 0 0 (t ∷ ts) (t ∷ ts) [] [] statement (plain_node (t ∷ ts)) (λ line k vs. command_word_first t ts e line k vs ∙ node_there ts q line k vs ∙ sym (node_first w t ts e line k vs)) (omega arith) (node_does plain_role make_plain (λ n s vs. refl) (t ∷ ts))

word_token : (w : List ℕ) (t : Token) (ts : List Token) → t.lexeme ≡ word w → (r g : Bool) → bytes_eq w (codes "radix") ≡ r → bytes_eq w (codes "gather") ≡ g → Does statement_form 0 0 (t ∷ ts) [] statement (cond ((r || g) && begins_word ts) (as_ordered (cond r (radix_at ts) (gather_at ts))) (plain_node (t ∷ ts)))
word_token w t ts e true g p q = command_token (codes "radix") after_radix radix_at radix_word t ts (e ∙ ap word ((bytes_eq-Decides w (codes "radix")).0 p)) (begins_word ts) refl
word_token w t ts e false true p q = command_token (codes "gather") after_gather gather_at gather_word t ts (e ∙ ap word ((bytes_eq-Decides w (codes "gather")).0 q)) (begins_word ts) refl
word_token w t ts e false false p q = does_by statement_form (node_rest make_plain) 0 0 0 (t ∷ ts) (t ∷ ts) [] [] statement (plain_node (t ∷ ts)) (λ line k vs. node_word_first w t ts e (none_of (bytes_eq w (codes "radix")) (bytes_eq w (codes "gather")) p q) line k vs) (omega arith) (node_does plain_role make_plain (λ n s vs. refl) (t ∷ ts))

by_token : (l : Lexeme) (t : Token) (ts : List Token) → t.lexeme ≡ l → Does statement_form 0 0 (t ∷ ts) [] statement (statement_by l (t ∷ ts) ts)
unfolding word_statement_at word_order_at
by_token (word w) t ts e = word_token w t ts e (bytes_eq w (codes "radix")) (bytes_eq w (codes "gather")) refl refl
by_token (keyword j) t ts e = keyword_token j t ts e
by_token (number x) t ts e = refused_word (number x) t ts e (feeds_number x)
by_token (sign s) t ts e = refused_word (sign s) t ts e (feeds_sign s)

pub statement_does : (ts : List Token) → Does statement_form 0 0 ts [] statement (statement_at ts)
unfolding statement_at
statement_does [] = record { it = λ line k vs. refl }
statement_does (t ∷ ts) = by_token t.lexeme t ts refl
