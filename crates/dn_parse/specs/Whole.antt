-- The whole reading of a text: its tree, or the first fault with its line.
use Rattle.std.specs.Prelude.{ℕ, ◌+◌, ◌-◌, Bool, true, false, if◌then◌else◌, nat_le, nat_lt, List, [], ◌∷◌, ◌++◌, length, drop, Option, None, Some, Result, Ok, Err}
use Rattle.dn_token.specs.Token.{Token, tokens, is_line_feed}
use Rattle.dn_parse.specs.Tree.{Statement, declares, heads_module, uses, heads_loop, ends, begins, orders, Placed, Item, declared, module_of, instance, loop, Items, items, Command, Tree, Param, Expression}
use Rattle.dn_parse.specs.Machine.{Stop, whole, refused, deep, between, run}

-- what opened a block: the line of a module, or that of a loop
pub data Opener : Type 0 where
  opens_module : List ℕ → List Param → Opener
  opens_loop : List ℕ → Expression → Expression → Opener

-- an open block: what opened it with its line, and the statements before it
pub record Frame : Type 0 where
  pub line : ℕ
  pub opener : Opener
  pub before : List Item

-- what the statements so far came to: the open blocks, the last one first, the statements in the innermost block, whether `begin` was there, and the commands
pub record Blocks : Type 0 where
  pub frames : List Frame
  pub body : List Item
  pub begun : Bool
  pub commands : List Command

-- no statement was read
abbrev pub no_blocks_yet : Blocks
no_blocks_yet = record { frames = []; body = []; begun = false; commands = [] }

-- a block that is closed, as one statement
abbrev pub closed_block : Frame → List Item → Item
closed_block f body = closed_by f.opener f.line (items body)
  where
    closed_by : Opener → ℕ → Items → Item
    closed_by (opens_module w ps) line is = module_of line w ps is
    closed_by (opens_loop w from upto) line is = loop line w from upto is

-- why a whole statement is not placed: it stands where it is forbidden, or it opens a 17th block
pub data Misplacement : Type 0 where
  forbidden : Misplacement
  crowded : Misplacement

-- what a whole statement does to the blocks
abbrev pub BlockStep : Type 0
BlockStep = Result Blocks Misplacement

-- one statement more in the innermost block
abbrev pub with_item : Blocks → Item → BlockStep
with_item b i = Ok (record { frames = b.frames; body = b.body ++ i ∷ []; begun = b.begun; commands = b.commands })

-- one block more is open, of which there may be 16
abbrev pub with_frame : Blocks → ℕ → Opener → BlockStep
with_frame b line o = if nat_lt (length b.frames) 16 then Ok (record { frames = record { line = line; opener = o; before = b.body } ∷ b.frames; body = []; begun = b.begun; commands = b.commands }) else Err crowded

-- the innermost block is closed
abbrev pub without_frame : Blocks → List Frame → BlockStep
without_frame b [] = Err forbidden
without_frame b (f ∷ fs) = Ok (record { frames = fs; body = f.before ++ closed_block f b.body ∷ []; begun = b.begun; commands = b.commands })

-- the commands begin
abbrev pub with_begin : Blocks → BlockStep
with_begin b = Ok (record { frames = b.frames; body = b.body; begun = true; commands = b.commands })

-- a statement that is forbidden in a block
abbrev pub outside_blocks : List Frame → BlockStep → BlockStep
outside_blocks [] s = s
outside_blocks (f ∷ fs) s = Err forbidden

-- before `begin`: `end` with no open block, `module` or `begin` with an open block, and a command are forbidden
abbrev pub before_begin : Blocks → ℕ → Statement → BlockStep
before_begin b line (declares d) = with_item b (declared line d)
before_begin b line (heads_module w ps) = outside_blocks b.frames (with_frame b line (opens_module w ps))
before_begin b line (uses w xs n) = with_item b (instance line w xs n)
before_begin b line (heads_loop w from upto) = with_frame b line (opens_loop w from upto)
before_begin b line ends = without_frame b b.frames
before_begin b line begins = outside_blocks b.frames (with_begin b)
before_begin b line (orders o) = Err forbidden

-- after `begin` any statement but a command is forbidden
abbrev pub after_begin : Blocks → ℕ → Statement → BlockStep
after_begin b line (orders o) = Ok (record { frames = b.frames; body = b.body; begun = b.begun; commands = b.commands ++ record { line = line; order = o } ∷ [] })
after_begin b line _ = Err forbidden

-- what a whole statement does, before `begin` or after it
abbrev pub step : Blocks → Placed → BlockStep
step b p = if b.begun then after_begin b p.line p.statement else before_begin b p.line p.statement

-- why a text is not read: it is too long, it is no list of tokens, or its tokens are no tree; each fault but the first has its line
pub data TextFault : Type 0 where
  too_long : TextFault
  bad_token : ℕ → TextFault
  statement_fault : ℕ → TextFault
  block_fault : ℕ → TextFault
  nesting_fault : ℕ → TextFault

-- the line of the first token, where there is one
abbrev pub first_line : List Token → Option ℕ
first_line [] = None
first_line (t ∷ ts) = Some t.line

-- the line of the token with which a list begins; the last line, where there is none
abbrev pub line_of : ℕ → List Token → ℕ
line_of last [] = last
line_of last (t ∷ ts) = t.line

-- the line of the token with so many left from it on
abbrev pub line_at : ℕ → List Token → ℕ → ℕ
line_at last ts left = line_of last (drop (length ts - left) ts)

-- the fault of a reading that stops there; at the end of the text it is that of a block that is open
abbrev pub stop_fault : Stop → ℕ → List Token → TextFault
stop_fault (refused left) last ts = statement_fault (line_at last ts left)
stop_fault (deep left) last ts = nesting_fault (line_at last ts left)
stop_fault whole last ts = block_fault last

-- all statements were read without a block fault: what follows from where the reading stopped
abbrev pub at_stop : Stop → ℕ → List Token → Blocks → Result Tree TextFault
at_stop (refused left) last ts b = Err (stop_fault (refused left) last ts)
at_stop (deep left) last ts b = Err (stop_fault (deep left) last ts)
at_stop whole last ts b = ended b.frames
  where
    ended : List Frame → Result Tree TextFault
    ended [] = Ok (record { body = items b.body; commands = b.commands })
    ended (f ∷ fs) = Err (stop_fault whole last ts)

-- the fault of a statement that begins in a line and is not placed
abbrev pub misplacement_fault : Misplacement → ℕ → TextFault
misplacement_fault forbidden line = block_fault line
misplacement_fault crowded line = nesting_fault line

-- the statements one by one: a block fault counts at the `;` of its statement, and so before the place where the reading stopped
abbrev pub by_step : BlockStep → ℕ → (Blocks → Result Tree TextFault) → Result Tree TextFault
by_step (Ok b) line next = next b
by_step (Err m) line next = Err (misplacement_fault m line)

-- the statements one after another, and then where the reading stopped
abbrev pub judgement_of : List Placed → (Blocks → Result Tree TextFault) → Blocks → Result Tree TextFault
judgement_of [] at b = at b
judgement_of (p ∷ ps) at b = by_step (step b p) p.line (judgement_of ps at)

-- the tree of a list of tokens, or its first fault; the last line is that of the end of the text
unfoldable pub reading : ℕ → List Token → Result Tree TextFault
reading last ts = judgement_of (run between ts).statements (at_stop (run between ts).stop last ts) no_blocks_yet

-- what is still to be said, from a place between statements on, with these blocks so far
unfoldable pub judge : ℕ → List Token → Blocks → List Token → Result Tree TextFault
judge last ts b rest = judgement_of (run between rest).statements (at_stop (run between rest).stop last ts) b

-- so many line feeds are in a text
abbrev pub line_feeds : List ℕ → ℕ
line_feeds [] = 0
line_feeds (b ∷ s) = if is_line_feed b then 1 + line_feeds s else line_feeds s

-- the line of the end of a text
unfoldable pub last_line : List ℕ → ℕ
last_line text = 1 + line_feeds text

-- the tree of what the tokenizer gives, or the first fault
abbrev pub of_token_list : ℕ → Result (List Token) ℕ → Result Tree TextFault
of_token_list last (Ok ts) = reading last ts
of_token_list last (Err line) = Err (bad_token line)

-- the reading of a text: it is not too long, it is a list of tokens, and these are a tree; or the first fault
unfoldable pub text_reading : List ℕ → Result Tree TextFault
text_reading text = if nat_le (length text) 4194304 then of_token_list (last_line text) (tokens text) else Err too_long
