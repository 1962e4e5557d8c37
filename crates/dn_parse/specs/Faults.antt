-- The faults of the code as those of the definitions, and what a call that reads a part answers.
-- Want of memory is none of the faults: it may befall any call.
use Rattle.std.specs.Prelude.{◌≡◌, ℕ, ◌<◌, ◌≤◌, Bool, true, false, List, length, Option, None, Some, IfSome, option_map, Result, Ok, Err}
use Rattle.dn_base.specs.Answers.{Answers}
use Rattle.dn_token.specs.declared.cursor.Cursor.{Cursor}
use Rattle.dn_token.specs.Cursor.{cursor_view}
use Rattle.dn_parse.specs.declared.cursor.Halt.{Halt}
use Rattle.dn_parse.specs.declared.cursor.Halt.TheVariants.{Refused, Deep, OutOfMemory as NoParts}
use Rattle.dn_parse.specs.declared.blocks.Misplaced.{Misplaced}
use Rattle.dn_parse.specs.declared.blocks.Misplaced.TheVariants.{Forbidden, Crowded, OutOfMemory as NoBlocks}
use Rattle.dn_parse.specs.declared.blocks.Trouble.{Trouble}
use Rattle.dn_parse.specs.declared.blocks.Trouble.TheVariants.{Halted, Misplaced as MisplacedAt}
use Rattle.dn_parse.specs.declared.reader.ParseFault.{ParseFault}
use Rattle.dn_parse.specs.declared.reader.ParseFault.TheVariants.{Length, Token as BadToken, Statement, Block, Nesting, OutOfMemory}
use Rattle.dn_token.specs.Token.{Token}
use Rattle.dn_parse.specs.Machine.{Stop, refused, deep}
use Rattle.dn_parse.specs.Descent.{Read, Next}
use Rattle.dn_parse.specs.Whole.{Blocks, judge, Misplacement, forbidden, crowded, TextFault, too_long, bad_token, statement_fault, block_fault, nesting_fault, stop_fault, misplacement_fault}

-- where the reading of a part stops
abbrev pub halt_view : Halt → Option Stop
halt_view (Refused n) = Some (refused n)
halt_view (Deep n) = Some (deep n)
halt_view NoParts = None

-- a part was read, and these tokens follow it; or this is where the reading stops
abbrev pub Reads : {X Y : Type 0} → (X → Y) → Result X Halt → Cursor → Read Y → Type 0
Reads view result rest read = Answers (λ x. (view x, cursor_view rest)) halt_view result read

-- the same of a part that may be left out
abbrev pub ReadsNext : {X Y : Type 0} → (X → Y) → Result (Option X) Halt → Cursor → Next Y → Type 0
ReadsNext view result rest next = Answers (λ o. option_map (λ x. (view x, cursor_view rest)) o) halt_view result next

-- a token was found, and these tokens follow it; or it was not, and the tokens are as they were
abbrev pub GoesOn : Bool → List Token → List Token → Option (List Token) → Type 0
GoesOn true before after found = found ≡ Some after
GoesOn false before after found = (found ≡ None) × (after ≡ before)

-- fewer tokens are left
abbrev pub IsShorter : Cursor → Cursor → Type 0
IsShorter rest tokens = length (cursor_view rest) < length (cursor_view tokens)

-- fewer tokens are left, where a part was read; where it was left out, they are as they were
abbrev pub Shortens : {X : Type 0} → Option X → Cursor → Cursor → Type 0
Shortens None rest tokens = cursor_view rest ≡ cursor_view tokens
Shortens (Some x) rest tokens = IsShorter rest tokens

-- no more tokens are left
abbrev pub IsNoLonger : Cursor → Cursor → Type 0
IsNoLonger rest tokens = length (cursor_view rest) ≤ length (cursor_view tokens)

-- why a statement is not placed
abbrev pub misplaced_view : Misplaced → Option Misplacement
misplaced_view Forbidden = Some forbidden
misplaced_view Crowded = Some crowded
misplaced_view NoBlocks = None

-- why a text is not read
abbrev pub parse_fault_view : ParseFault → Option TextFault
parse_fault_view Length = Some too_long
parse_fault_view (BadToken line) = Some (bad_token line)
parse_fault_view (Statement line) = Some (statement_fault line)
parse_fault_view (Block line) = Some (block_fault line)
parse_fault_view (Nesting line) = Some (nesting_fault line)
parse_fault_view OutOfMemory = None

-- the fault of a list of tokens whose part stops so
abbrev pub halt_fault : Halt → ℕ → List Token → Option TextFault
halt_fault h last ts = option_map (λ s. stop_fault s last ts) (halt_view h)

-- the fault of a statement that begins in a line and is misplaced so
abbrev pub misplaced_fault : Misplaced → ℕ → Option TextFault
misplaced_fault m line = option_map (λ r. misplacement_fault r line) (misplaced_view m)

-- the fault of a list of tokens whose statements are not all placed
abbrev pub trouble_view : Trouble → ℕ → List Token → Option TextFault
trouble_view (Halted h) last ts = halt_fault h last ts
trouble_view (MisplacedAt m line) last ts = misplaced_fault m line

-- statements were placed, and what is still to be said of the text is to be said from these blocks and tokens on; or this is its first fault
abbrev pub Places : {X : Type 0} → (X → Blocks) → Result X Trouble → List Token → Blocks → List Token → Type 0
Places view (Ok x) rest blocks ts = (last : ℕ) (all : List Token) → judge last all blocks ts ≡ judge last all (view x) rest
Places view (Err e) rest blocks ts = (last : ℕ) (all : List Token) → IfSome (trouble_view e last all) (λ f. judge last all blocks ts ≡ Err f)
