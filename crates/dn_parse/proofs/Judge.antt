-- What is still to be said of a text, one statement after the other.
use Rattle.std.proofs.Common.{◌≡◌, ◌∙◌, ap, sym, refl, subst, ℕ, suc, ◌-◌, ◌<◌, ◌≤◌, Bool, true, false, cond, List, [], ◌∷◌, ◌++◌, length, Some, None, IfSome, Result, Ok, Err, MatchResult, arith, map, reverse, drop, le-leb}
use Rattle.std.proofs.lemmas.List.{length-map, length-reverse, map-append, reverse-append}
use Rattle.dn_token.specs.declared.token.Sign.TheVariants.{Semicolon}
use Rattle.dn_token.specs.Token.{Token, tokens}
use Rattle.dn_parse.specs.Tree.{Statement, Command, Tree, items}
use Rattle.dn_parse.specs.Actions.{statement}
use Rattle.dn_parse.specs.Forms.{is_sign}
use Rattle.dn_parse.specs.Syntax.{statement_form}
use Rattle.dn_parse.specs.Machine.{Stop, whole, refused, deep, Outcome, stop_outcome, with_statement, between, inside, run, go, fed_at_end}
use Rattle.dn_parse.specs.Whole.{TextFault, block_fault, first_line, Frame, Blocks, BlockStep, by_step, step, before_begin, after_begin, at_stop, judgement_of, judge, without_frame, closed_block, line_of, line_at, reading, no_blocks_yet, last_line, too_long, bad_token, of_token_list, text_reading}
use Rattle.dn_parse.specs.Descent.{and_then, Read, or_refused, after_sign, sign_at, statement_at, whole_statement_at}
use Rattle.dn_parse.specs.declared.cursor.Halt.{Halt}
use Rattle.dn_parse.specs.declared.cursor.Halt.TheVariants.{Refused, Deep as DeepHalt, OutOfMemory as HaltMemory}
use Rattle.dn_parse.specs.declared.blocks.Misplaced.{Misplaced}
use Rattle.dn_parse.specs.declared.blocks.Misplaced.TheVariants.{Forbidden, Crowded, OutOfMemory as NoRoom}
use Rattle.dn_parse.specs.declared.blocks.Trouble.{Trouble}
use Rattle.dn_parse.specs.declared.blocks.Trouble.TheVariants.{Misplaced as MisplacedAt}
use Rattle.dn_parse.specs.declared.blocks.Blocks.{Blocks as CodeBlocks}
use Rattle.dn_parse.specs.declared.blocks.Frame.{Frame as CodeFrame}
use Rattle.dn_parse.specs.declared.syntax.Tree.{Tree as CodeTree}
use Rattle.dn_parse.specs.declared.reader.ParseFault.{ParseFault}
use Rattle.dn_base.specs.Answers.{Answers}
use Rattle.dn_base.proofs.Orders.{lt-leb}
use Rattle.dn_parse.specs.Views.{frame_view, blocks_view, item_view, tree_view}
use Rattle.dn_parse.specs.Commands.{with_commands}
use Rattle.dn_parse.specs.Faults.{halt_view, misplaced_view, parse_fault_view, halt_fault, misplaced_fault, Places}
use Rattle.dn_parse.proofs.Does.{DoesBy}
use Rattle.dn_parse.proofs.Heads.{statement_does}

-- what a whole statement is to the machine
abbrev Whole : Token → List Token → Read Statement → Type 0
Whole t ts (Ok p) = (run between (t ∷ ts) ≡ with_statement (record { line = t.line; statement = p.0 }) (run between p.1)) × (length p.1 < length (t ∷ ts))
Whole t ts (Err s) = run between (t ∷ ts) ≡ stop_outcome s

at_semicolon : (line : ℕ) (s : Statement) (u : Token) (us : List Token) (b : Bool) → is_sign Semicolon u.lexeme ≡ b → (t : Token) (ts : List Token) → line ≡ t.line → length (u ∷ us) ≤ length (t ∷ ts) → run between (t ∷ ts) ≡ run (inside line 0 [] (statement s ∷ [])) (u ∷ us) → Whole t ts (and_then (or_refused (cond b (Some us) None) (u ∷ us)) (λ rest. Ok (s, rest)))
at_semicolon line s u us true e t ts l h g =
    (g ∙ ap (λ b. go (fed_at_end b (statement s ∷ [])) line 0 u.lexeme (suc (length us)) (λ q. run q us)) e ∙ ap (λ (j : ℕ). with_statement (record { line = j; statement = s }) (run between us)) l, (omega arith))
at_semicolon line s u us false e t ts l h g = g ∙ ap (λ b. go (fed_at_end b (statement s ∷ [])) line 0 u.lexeme (suc (length us)) (λ q. run q us)) e

after_statement : (t : Token) (ts : List Token) (r : Read Statement) → DoesBy statement_form 0 0 (t ∷ ts) [] statement r → Whole t ts (and_then r (λ p. and_then (sign_at Semicolon p.1) (λ rest. Ok (p.0, rest))))
unfolding sign_at after_sign
after_statement t ts (Ok (s, [])) h = h.runs t.line [] []
after_statement t ts (Ok (s, u ∷ us)) h = at_semicolon t.line s u us (is_sign Semicolon u.lexeme) refl t ts refl h.no_longer (h.runs t.line [] [])
after_statement t ts (Err z) h = h t.line [] []

whole_does : (t : Token) (ts : List Token) → Whole t ts (whole_statement_at (t ∷ ts))
unfolding whole_statement_at
whole_does t ts = after_statement t ts (statement_at (t ∷ ts)) (statement_does (t ∷ ts)).it

whole_by : (t : Token) (ts : List Token) (r : Read Statement) → whole_statement_at (t ∷ ts) ≡ r → Whole t ts r
whole_by t ts r e = subst (Whole t ts) e (whole_does t ts)

-- the next statement
pub judge_step : (last : ℕ) (all : List Token) (b : Blocks) (t : Token) (ts : List Token) (s : Statement) (after : List Token) → whole_statement_at (t ∷ ts) ≡ Ok (s, after) → judge last all b (t ∷ ts) ≡ by_step (step b (record { line = t.line; statement = s })) t.line (λ c. judge last all c after)
unfolding judge
judge_step last all b t ts s after e = ap (λ (o : Outcome). judgement_of o.statements (at_stop o.stop last all) b) (whole_by t ts (Ok (s, after)) e).0

pub judge_stop : (last : ℕ) (all : List Token) (b : Blocks) (t : Token) (ts : List Token) (z : Stop) → whole_statement_at (t ∷ ts) ≡ Err z → judge last all b (t ∷ ts) ≡ at_stop z last all b
unfolding judge
judge_stop last all b t ts z e = ap (λ (o : Outcome). judgement_of o.statements (at_stop o.stop last all) b) (whole_by t ts (Err z) e)

pub judge_end : (last : ℕ) (all : List Token) (b : Blocks) → judge last all b [] ≡ at_stop whole last all b
unfolding judge
judge_end last all b = refl

pub statement_shorter : (t : Token) (ts : List Token) (s : Statement) (after : List Token) → whole_statement_at (t ∷ ts) ≡ Ok (s, after) → length after < length (t ∷ ts)
statement_shorter t ts s after e = (whole_by t ts (Ok (s, after)) e).1

no_longer_by : (ts : List Token) (r : Read Statement) → DoesBy statement_form 0 0 ts [] statement r → (s : Statement) (rest : List Token) → r ≡ Ok (s, rest) → length rest ≤ length ts
no_longer_by ts (Ok p) h s rest e = let same : p.1 ≡ rest = cc in subst (λ (l : List Token). length l ≤ length ts) same h.no_longer
no_longer_by ts (Err z) h s rest e = cc

pub statement_no_longer : (ts : List Token) (s : Statement) (rest : List Token) → statement_at ts ≡ Ok (s, rest) → length rest ≤ length ts
statement_no_longer ts s rest e = no_longer_by ts (statement_at ts) (statement_does ts).it s rest e

-- the next statement, where the tokens are known up to an equation
pub next_step : (last : ℕ) (all : List Token) (b : Blocks) (ts : List Token) (line : ℕ) (s : Statement) (after : List Token) → first_line ts ≡ Some line → whole_statement_at ts ≡ Ok (s, after) → judge last all b ts ≡ by_step (step b (record { line = line; statement = s })) line (λ c. judge last all c after)
next_step last all b [] line s after h e = cc
next_step last all b (t ∷ ts) line s after h e =
    let same : t.line ≡ line = cc in
    judge_step last all b t ts s after e ∙ ap (λ (j : ℕ). by_step (step b (record { line = j; statement = s })) j (λ c. judge last all c after)) same

pub next_stop : (last : ℕ) (all : List Token) (b : Blocks) (ts : List Token) (line : ℕ) (z : Stop) → first_line ts ≡ Some line → whole_statement_at ts ≡ Err z → judge last all b ts ≡ at_stop z last all b
next_stop last all b [] line z h e = cc
next_stop last all b (t ∷ ts) line z h e = judge_stop last all b t ts z e

-- the faults of the code
pub fault_halted : (last : ℕ) (all : List Token) (b : Blocks) (ts : List Token) (line : ℕ) (h : Halt) → first_line ts ≡ Some line → IfSome (halt_view h) (λ z. whole_statement_at ts ≡ Err z) → IfSome (halt_fault h last all) (λ f. judge last all b ts ≡ Err f)
fault_halted last all b ts line (Refused n) s e = next_stop last all b ts line (refused n) s e
fault_halted last all b ts line (DeepHalt n) s e = next_stop last all b ts line (deep n) s e
fault_halted last all b ts line HaltMemory s e = tt

step_going : {X : Type 0} (v : X → Blocks) (r : Result X Misplaced) (x : X) (s : BlockStep) → Answers v misplaced_view r s → r ≡ Ok x → s ≡ Ok (v x)
step_going v (Ok y) x s h e = let same : y ≡ x = cc in h ∙ ap (λ z. Ok (v z)) same
step_going v (Err m) x s h e = cc

misplaced_by : (m : Misplaced) (s : BlockStep) (line : ℕ) (next : Blocks → Result Tree TextFault) → IfSome (misplaced_view m) (λ r. s ≡ Err r) → IfSome (misplaced_fault m line) (λ f. by_step s line next ≡ Err f)
misplaced_by Forbidden s line next h = ap (λ (x : BlockStep). by_step x line next) h
misplaced_by Crowded s line next h = ap (λ (x : BlockStep). by_step x line next) h
misplaced_by NoRoom s line next h = tt

fault_misplaced : {X : Type 0} (v : X → Blocks) (last : ℕ) (all : List Token) (b : Blocks) (ts : List Token) (line : ℕ) (s : Statement) (after : List Token) (r : Result X Misplaced) (m : Misplaced) → first_line ts ≡ Some line → whole_statement_at ts ≡ Ok (s, after) → Answers v misplaced_view r (step b (record { line = line; statement = s })) → r ≡ Err m → IfSome (misplaced_fault m line) (λ f. judge last all b ts ≡ Err f)
fault_misplaced {X} v last all b ts line s after r m h e st is =
    let stepped = subst (λ (x : Result X Misplaced). Answers v misplaced_view x (step b (record { line = line; statement = s }))) is st in
    subst (λ (q : Result Tree TextFault). IfSome (misplaced_fault m line) (λ f. q ≡ Err f)) (sym (next_step last all b ts line s after h e)) (misplaced_by m (step b (record { line = line; statement = s })) line (λ c. judge last all c after) stepped)

placed_on : {X : Type 0} (v : X → Blocks) (last : ℕ) (all : List Token) (b : Blocks) (ts : List Token) (line : ℕ) (s : Statement) (after : List Token) (r : Result X Misplaced) (x : X) → first_line ts ≡ Some line → whole_statement_at ts ≡ Ok (s, after) → Answers v misplaced_view r (step b (record { line = line; statement = s })) → r ≡ Ok x → judge last all b ts ≡ judge last all (v x) after
placed_on v last all b ts line s after r x h e st is =
    next_step last all b ts line s after h e ∙ ap (λ (q : BlockStep). by_step q line (λ d. judge last all d after)) (step_going v r x (step b (record { line = line; statement = s })) st is)

-- the next statement before the commands
before_steps : {X : Type 0} (v : X → Blocks) (r : Result X Misplaced) (b : Blocks) (line : ℕ) (s : Statement) → b.begun ≡ false → Answers v misplaced_view r (before_begin b line s) → Answers v misplaced_view r (step b (record { line = line; statement = s }))
before_steps v r b line s g st =
    let same : step b (record { line = line; statement = s }) ≡ before_begin b line s = ap (λ (t : Bool). cond t (after_begin b line s) (before_begin b line s)) g in
    subst (λ (q : BlockStep). Answers v misplaced_view r q) (sym same) st

pub put_before : {X : Type 0} (v : X → Blocks) (b : Blocks) (ts : List Token) (line : ℕ) (s : Statement) (after : List Token) (r : Result X Misplaced) (t : Result X Trouble) → first_line ts ≡ Some line → whole_statement_at ts ≡ Ok (s, after) → b.begun ≡ false → Answers v misplaced_view r (before_begin b line s) → MatchResult r (λ x. t ≡ Ok x) (λ m. t ≡ Err (MisplacedAt m line)) → Places v t after b ts
put_before {X} v b ts line s after (Ok x) t h e g st is = subst (λ (q : Result X Trouble). Places v q after b ts) (sym is) (λ last all. placed_on v last all b ts line s after (Ok x) x h e (before_steps v (Ok x) b line s g st) refl)
put_before {X} v b ts line s after (Err m) t h e g st is = subst (λ (q : Result X Trouble). Places v q after b ts) (sym is) (λ last all. fault_misplaced v last all b ts line s after (Err m) m h e (before_steps v (Err m) b line s g st) refl)

-- the open blocks at the end
reverse_none : (fs : List CodeFrame) → length fs ≡ 0 → reverse (map frame_view fs) ≡ []
reverse_none [] e = refl
reverse_none (f ∷ fs) e = absurd (omega arith)

pub finished_seen : (b : CodeBlocks) (cs : List Command) (last : ℕ) (ts : List Token) → length b.frames.items ≡ 0 → at_stop whole last ts (with_commands (blocks_view b) cs) ≡ Ok (record { body = items (map item_view b.body.items); commands = cs })
finished_seen b cs last ts e = finished_by (reverse (map frame_view b.frames.items)) (reverse_none b.frames.items e)
  where
    finished_by : (fs : List Frame) → fs ≡ [] → at_stop whole last ts (record { frames = fs; body = map item_view b.body.items; begun = b.begun; commands = cs }) ≡ Ok (record { body = items (map item_view b.body.items); commands = cs })
    finished_by [] e = refl
    finished_by (f ∷ fs) e = cc

unfinished_by : (b : Blocks) (last : ℕ) (ts : List Token) → 0 < length b.frames → at_stop whole last ts b ≡ Err (block_fault last)
unfinished_by b last ts h = go b.frames h
  where
    go : (fs : List Frame) → 0 < length fs → at_stop whole last ts (record { frames = fs; body = b.body; begun = b.begun; commands = b.commands }) ≡ Err (block_fault last)
    go [] h = absurd (omega arith)
    go (f ∷ fs) h = refl

pub unfinished_seen : (b : CodeBlocks) (cs : List Command) (last : ℕ) (ts : List Token) → 0 < length b.frames.items → at_stop whole last ts (with_commands (blocks_view b) cs) ≡ Err (block_fault last)
unfinished_seen b cs last ts h = unfinished_by (with_commands (blocks_view b) cs) last ts (omega (arith, length-reverse (map frame_view b.frames.items), length-map b.frames.items frame_view))

-- the innermost block closed
pub without_last : (b : Blocks) (front : List CodeFrame) (f : CodeFrame) (frames : List CodeFrame) → frames ≡ front ++ f ∷ [] → without_frame b (reverse (map frame_view frames)) ≡ Ok (record { frames = reverse (map frame_view front); body = (frame_view f).before ++ closed_block (frame_view f) b.body ∷ []; begun = b.begun; commands = b.commands })
without_last b front f frames e =
    let turned : reverse (map frame_view frames) ≡ frame_view f ∷ reverse (map frame_view front) = ap (λ (l : List CodeFrame). reverse (map frame_view l)) e ∙ ap reverse (map-append frame_view front (f ∷ [])) ∙ reverse-append (map frame_view front) (frame_view f ∷ []) in
    ap (without_frame b) turned

-- the line of a token
pub line_on : (last : ℕ) (ts : List Token) (t : Token) (rest : List Token) (left : ℕ) → ts ≡ t ∷ rest → left < length ts → line_at last ts left ≡ line_at last rest left
line_on last [] t rest left e h = cc
line_on last (u ∷ us) t rest left e h =
    let same : us ≡ rest = cc in
    let more : length (u ∷ us) - left ≡ suc (length us - left) = omega (arith, h) in
    ap (λ (n : ℕ). line_of last (drop n (u ∷ us))) more ∙ ap (λ (l : List Token). line_at last l left) same

-- a whole text
short_enough : (text : List ℕ) → length text ≤ 4194304 → text_reading text ≡ of_token_list (last_line text) (tokens text)
unfolding text_reading
short_enough text h = ap (λ b. cond b (of_token_list (last_line text) (tokens text)) (Err too_long)) (le-leb (length text) 4194304 h)

pub text_too_long : (text : List ℕ) → 4194304 < length text → text_reading text ≡ Err too_long
unfolding text_reading
text_too_long text h = ap (λ b. cond b (of_token_list (last_line text) (tokens text)) (Err too_long)) (lt-leb (length text) 4194304 h)

reading_judged : (last : ℕ) (ts : List Token) → reading last ts ≡ judge last ts no_blocks_yet ts
unfolding reading judge
reading_judged last ts = refl

pub text_reads : (text : List ℕ) (ts : List Token) (r : Result CodeTree ParseFault) → length text ≤ 4194304 → tokens text ≡ Ok ts → Answers tree_view parse_fault_view r (judge (last_line text) ts no_blocks_yet ts) → Answers tree_view parse_fault_view r (text_reading text)
text_reads text ts r short e h =
    let same : text_reading text ≡ judge (last_line text) ts no_blocks_yet ts = short_enough text short ∙ ap (of_token_list (last_line text)) e ∙ reading_judged (last_line text) ts in
    subst (Answers tree_view parse_fault_view r) (sym same) h

pub text_bad : (text : List ℕ) (line : ℕ) → length text ≤ 4194304 → tokens text ≡ Err line → text_reading text ≡ Err (bad_token line)
text_bad text line short e = short_enough text short ∙ ap (of_token_list (last_line text)) e
