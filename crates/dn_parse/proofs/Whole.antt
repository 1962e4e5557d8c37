-- A whole text: one token decides at each place, and each spelling is read as its statements.
use Rattle.std.proofs.Common.{◌≡◌, ◌∙◌, ◌⊎◌, inl, inr, ap, sym, refl, subst, ℕ, suc, true, false, List, [], ◌∷◌, ◌++◌, length}
use Rattle.dn_token.specs.declared.token.Sign.TheVariants.{Semicolon}
use Rattle.dn_token.specs.Token.{Token, sign}
use Rattle.dn_parse.specs.Tree.{Placed, Statement}
use Rattle.dn_parse.specs.Forms.{is_sign}
use Rattle.dn_parse.specs.Syntax.{statement_form, statement_of, SpellsStatement, SpellsText, expr, term, factor, minus_expr, more_terms, more_factors, index, part_form, more_parts, name_form, upper_bound, block_form, at_addr, dest_form, more_dests, entry_form, more_blocks, accept, more_entries, map_form, over, spec_form, plain_form, agent_form, vectors_form, more_names, unit_form, param_form, more_params, params_form, module_form, arg_form, more_args, args_form, use_form, loop_form, access_form, maybe_access, command_form, radix_form, piece_form, more_pieces, gather_form}
use Rattle.dn_parse.specs.Machine.{whole, Outcome, with_statement, between, inside, run, go, fed_at_end}
use Rattle.dn_parse.specs.Laws.{IsDeep}
use Rattle.dn_parse.proofs.Sets.{may_skip, goes_on, fits, among}
use Rattle.dn_parse.proofs.Counted.{opened}
use Rattle.dn_parse.proofs.Turns.{Upto, upto_then}
use Rattle.dn_parse.proofs.Spelled.{Calm, form_read}

pub statement_fits : fits statement_form ≡ true
unfolding expr term factor minus_expr more_terms more_factors index part_form more_parts name_form upper_bound block_form at_addr dest_form more_dests entry_form more_blocks accept more_entries map_form over spec_form plain_form agent_form vectors_form more_names unit_form param_form more_params params_form module_form arg_form more_args args_form use_form loop_form access_form maybe_access command_form radix_form piece_form more_pieces gather_form statement_form
statement_fits = refl

pub statement_needed : may_skip statement_form ≡ false
unfolding expr term factor minus_expr more_terms more_factors index part_form more_parts name_form upper_bound block_form at_addr dest_form more_dests entry_form more_blocks accept more_entries map_form over spec_form plain_form agent_form vectors_form more_names unit_form param_form more_params params_form module_form arg_form more_args args_form use_form loop_form access_form maybe_access command_form radix_form piece_form more_pieces gather_form statement_form
statement_needed = refl

pub semicolon_ends : among (goes_on statement_form) (sign Semicolon) ≡ false
unfolding expr term factor minus_expr more_terms more_factors index part_form more_parts name_form upper_bound block_form at_addr dest_form more_dests entry_form more_blocks accept more_entries map_form over spec_form plain_form agent_form vectors_form more_names unit_form param_form more_params params_form module_form arg_form more_args args_form use_form loop_form access_form maybe_access command_form radix_form piece_form more_pieces gather_form statement_form
semicolon_ends = refl

-- one statement, with its `;`
pub statement_read : (first : Token) (xs : List Token) (s : Statement) (stop : Token) (ys : List Token) → SpellsStatement (first ∷ xs) s → stop.lexeme ≡ sign Semicolon → Upto (run between (first ∷ xs ++ stop ∷ ys)) (with_statement (record { line = first.line; statement = s }) (run between ys))
statement_read first xs s stop ys (d, vs, spelled, e) semi =
    let calm : Calm (goes_on statement_form) (stop ∷ ys) = ap (among (goes_on statement_form)) semi ∙ semicolon_ends in
    let read = form_read d statement_form statement_fits (first ∷ xs) [] vs spelled (stop ∷ ys) calm first.line 0 [] in
    let last : run (inside first.line (opened 0 (first ∷ xs)) [] vs) (stop ∷ ys) ≡ with_statement (record { line = first.line; statement = statement_of vs }) (run between ys) = ap (λ l. go (fed_at_end (is_sign Semicolon l) vs) first.line (opened 0 (first ∷ xs)) l (suc (length ys)) (λ q. run q ys)) semi in
    let same : with_statement (record { line = first.line; statement = statement_of vs }) (run between ys) ≡ with_statement (record { line = first.line; statement = s }) (run between ys) = ap (λ (r : Statement). with_statement (record { line = first.line; statement = r }) (run between ys)) (sym e) in
    upto_then _ _ _ read (inl (last ∙ same))

-- what is left of a run
abbrev Read : List Placed → Outcome → Type 0
Read ss o = ((o.stop ≡ whole) × (o.statements ≡ ss)) ⊎ IsDeep o.stop

read_more : (o p : Outcome) (s : Placed) (ss : List Placed) → Upto o (with_statement s p) → Read ss p → Read (s ∷ ss) o
read_more o p s ss (inl e) (inl r) = inl (ap (λ (q : Outcome). q.stop) e ∙ r.0, ap (λ (q : Outcome). q.statements) e ∙ ap (λ (l : List Placed). s ∷ l) r.1)
read_more o p s ss (inl e) (inr d) = inr (subst (λ (q : Outcome). IsDeep q.stop) (sym e) d)
read_more o p s ss (inr d) r = inr d

pub spelled_is_read : (ts : List Token) (ss : List Placed) → SpellsText ts ss → ((run between ts).stop ≡ whole) × ((run between ts).statements ≡ ss) ⊎ IsDeep (run between ts).stop
spelled_is_read ts [] s = subst (λ (l : List Token). Read [] (run between l)) (sym s) (inl (refl, refl))
spelled_is_read ts (p ∷ ps) (first, xs, stop, ys, e, l, spelled, semi, more) =
    let r = read_more _ _ (record { line = first.line; statement = p.statement }) ps (statement_read first xs p.statement stop ys spelled semi) (spelled_is_read ys ps more) in
    let same : record { line = first.line; statement = p.statement } ∷ ps ≡ p ∷ ps = ap (λ (n : ℕ). record { line = n; statement = p.statement } ∷ ps) (sym l) in
    subst (λ (q : List Token). Read (p ∷ ps) (run between q)) (sym e) (subst (λ (q : List Placed). Read q (run between (first ∷ xs ++ stop ∷ ys))) same r)
