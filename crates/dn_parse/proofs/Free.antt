-- No form of a statement takes a `;`: a token with which the machine stays inside a statement is none.
use Rattle.std.proofs.Common.{◌≡◌, ap, refl, Bool, true, false, not, ◌&&◌, List, [], ◌∷◌, ◌++◌}
use Rattle.dn_token.specs.declared.token.Sign.TheVariants.{Semicolon, OpenParenthesis}
use Rattle.dn_token.specs.Token.{Lexeme, sign}
use Rattle.dn_parse.specs.Actions.{Value}
use Rattle.dn_parse.specs.Forms.{Form, takes, does, and_then, either, many, parenthesised, Sort, is, is_sign, values_with_token}
use Rattle.dn_parse.specs.Syntax.{after_open, statement_form, expr, term, factor, minus_expr, more_terms, more_factors, index, part_form, more_parts, name_form, upper_bound, block_form, at_addr, dest_form, more_dests, entry_form, more_blocks, accept, more_entries, map_form, over, spec_form, plain_form, agent_form, vectors_form, more_names, unit_form, param_form, more_params, params_form, module_form, arg_form, more_args, args_form, use_form, loop_form, access_form, maybe_access, command_form, radix_form, piece_form, more_pieces, gather_form}
use Rattle.dn_parse.specs.Machine.{Move, to, skips, refuses, move_of_token, move_and_then, move_or_else, move_again, move, Fed, on, stuck, fed_at_end, fed_by_move, feed}
use Rattle.dn_parse.specs.Machine.{over as ended}
use Rattle.dn_parse.proofs.Sets.{both_left, both_right, sign_is}

-- a form that takes no `;`
abbrev pub is_free : Form → Bool
is_free (takes s) = not (is s (sign Semicolon))
is_free (does a) = true
is_free (and_then f g) = is_free f && is_free g
is_free (either f g) = is_free f && is_free g
is_free (many f) = is_free f
is_free parenthesised = true

-- several forms of which none takes one
abbrev pub AllFree : List Form → Type 0
AllFree [] = Unit {0}
AllFree (f ∷ k) = (is_free f ≡ true) × AllFree k

all_free_append : (j k : List Form) → AllFree j → AllFree k → AllFree (j ++ k)
all_free_append [] k h g = g
all_free_append (f ∷ j) k h g = (h.0, all_free_append j k h.1 g)

pub statement_free : is_free statement_form ≡ true
unfolding expr term factor minus_expr more_terms more_factors index part_form more_parts name_form upper_bound block_form at_addr dest_form more_dests entry_form more_blocks accept more_entries map_form over spec_form plain_form agent_form vectors_form more_names unit_form param_form more_params params_form module_form arg_form more_args args_form use_form loop_form access_form maybe_access command_form radix_form piece_form more_pieces gather_form statement_form
statement_free = refl

open_free : is_free after_open ≡ true
unfolding after_open expr term factor minus_expr more_terms more_factors
open_free = refl

-- what a move to other forms says of the token
abbrev FreeMove : Lexeme → Move → Type 0
FreeMove l (to k ws) = (is_sign Semicolon l ≡ false) × AllFree k
FreeMove l (skips ws) = Unit {0}
FreeMove l refuses = Unit {0}

-- a token that is taken by a sort without `;` is none
other_token : (s : Sort) (l : Lexeme) (b : Bool) → is_sign Semicolon l ≡ b → is s l ≡ true → not (is s (sign Semicolon)) ≡ true → is_sign Semicolon l ≡ false
other_token s l true e i h = absurd (clash (is s (sign Semicolon)) (told i) h)
  where
    told : is s l ≡ true → is s (sign Semicolon) ≡ true
    told i = rw (sign_is Semicolon l e) at i

    clash : (b : Bool) → b ≡ true → not b ≡ true → ⊥
    clash true e f = cc
    clash false e f = cc
other_token s l false e i h = e

takes_free : (s : Sort) (vs : List Value) (l : Lexeme) (b : Bool) → is s l ≡ b → not (is s (sign Semicolon)) ≡ true → FreeMove l (move_of_token b [] (values_with_token s l vs))
takes_free s vs l true e h = (other_token s l (is_sign Semicolon l) refl e h, tt)
takes_free s vs l false e h = tt

parenthesised_free : (vs : List Value) (l : Lexeme) (b : Bool) → is_sign OpenParenthesis l ≡ b → FreeMove l (move_of_token b (after_open ∷ []) vs)
parenthesised_free vs l true e = (ap (is_sign Semicolon) (sign_is OpenParenthesis l e), (open_free, tt))
parenthesised_free vs l false e = tt

followed_free : (m : Move) (g : Form) (l : Lexeme) → is_free g ≡ true → FreeMove l m → ((ws : List Value) → FreeMove l (move g ws l)) → FreeMove l (move_and_then m g (λ ws. move g ws l))
followed_free (to k ws) g l h p n = (p.0, all_free_append k (g ∷ []) p.1 (h, tt))
followed_free (skips ws) g l h p n = n ws
followed_free refuses g l h p n = tt

either_free : (m n : Move) (l : Lexeme) → FreeMove l m → FreeMove l n → FreeMove l (move_or_else m n)
either_free (to k ws) n l p q = p
either_free (skips ws) n l p q = p
either_free refuses n l p q = q

repeated_free : (m : Move) (f : Form) (vs : List Value) (l : Lexeme) → is_free f ≡ true → FreeMove l m → FreeMove l (move_again m f vs)
repeated_free (to k ws) f vs l h p = (p.0, all_free_append k (f ∷ []) p.1 (h, tt))
repeated_free (skips ws) f vs l h p = tt
repeated_free refuses f vs l h p = tt

move_free : (f : Form) (vs : List Value) (l : Lexeme) → is_free f ≡ true → FreeMove l (move f vs l)
move_free (takes s) vs l h = takes_free s vs l (is s l) refl h
move_free (does a) vs l h = tt
move_free (and_then f g) vs l h = followed_free (move f vs l) g l (both_right (is_free f) (is_free g) h) (move_free f vs l (both_left (is_free f) (is_free g) h)) (λ ws. move_free g ws l (both_right (is_free f) (is_free g) h))
move_free (either f g) vs l h = either_free (move f vs l) (move g vs l) l (move_free f vs l (both_left (is_free f) (is_free g) h)) (move_free g vs l (both_right (is_free f) (is_free g) h))
move_free (many f) vs l h = repeated_free (move f vs l) (many f) vs l h (move_free f vs l h)
move_free parenthesised vs l h = parenthesised_free vs l (is_sign OpenParenthesis l) refl

-- the same of several forms
abbrev pub FreeFed : Lexeme → Fed → Type 0
FreeFed l (on k ws) = (is_sign Semicolon l ≡ false) × AllFree k
FreeFed l (ended ws) = Unit {0}
FreeFed l stuck = Unit {0}

closed_free : (vs : List Value) (l : Lexeme) (b : Bool) → FreeFed l (fed_at_end b vs)
closed_free vs l true = tt
closed_free vs l false = tt

fed_free : (m : Move) (k : List Form) (l : Lexeme) → AllFree k → FreeMove l m → ((ws : List Value) → FreeFed l (feed k ws l)) → FreeFed l (fed_by_move m k (λ ws. feed k ws l))
fed_free (to j ws) k l h p n = (p.0, all_free_append j k p.1 h)
fed_free (skips ws) k l h p n = n ws
fed_free refuses k l h p n = tt

-- a token with which the machine stays inside a statement is no `;`
pub feed_free : (k : List Form) (vs : List Value) (l : Lexeme) → AllFree k → FreeFed l (feed k vs l)
feed_free [] vs l h = closed_free vs l (is_sign Semicolon l)
feed_free (f ∷ k) vs l h = fed_free (move f vs l) k l h.1 (move_free f vs l h.0) (λ ws. feed_free k ws l h.1)
