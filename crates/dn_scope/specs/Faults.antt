-- Why a tree expands to no net, and the faults of the code as those. Want of memory is none of them: it may befall any call.
use Rattle.std.specs.Prelude.{ℕ, Option, None, Some, Result, Ok, Err}
use Rattle.dn_scope.specs.declared.values.Flaw.{Flaw as CodeFlaw}
use Rattle.dn_scope.specs.declared.values.Flaw.TheVariants.{Unknown as UnknownFlaw, Range}
use Rattle.dn_scope.specs.declared.values.NameFault.{NameFault}
use Rattle.dn_scope.specs.declared.values.NameFault.TheVariants.{Flawed, OutOfMemory as NoText}
use Rattle.dn_scope.specs.declared.fault.ExpandFault.{ExpandFault}
use Rattle.dn_scope.specs.declared.fault.ExpandFault.TheVariants.{Duplicate, Unknown, Arguments, Value, TooMany, OutOfMemory}
use Rattle.dn_scope.specs.Values.{Flaw, unknown_word, out_of_range}

-- Why a tree expands to no net, each with the line of its statement: a name was there before; a name is not there; a use has
-- other arguments than its module has parameters; a value is not from 0 to 2^64 - 1; or a statement passes a limit.
pub data ExpansionFault : Type 0 where
  is_duplicate : (line : ℕ) → ExpansionFault
  is_unknown : (line : ℕ) → ExpansionFault
  has_other_arguments : (line : ℕ) → ExpansionFault
  has_no_value : (line : ℕ) → ExpansionFault
  passes_limit : (line : ℕ) → (limit : ℕ) → ExpansionFault

-- a flaw in a statement of this line
abbrev pub flaw_fault : ℕ → Flaw → ExpansionFault
flaw_fault line unknown_word = is_unknown line
flaw_fault line out_of_range = has_no_value line

-- why a tree expands to no net
abbrev pub expand_fault_view : ExpandFault → Option ExpansionFault
expand_fault_view (Duplicate line) = Some (is_duplicate line)
expand_fault_view (Unknown line) = Some (is_unknown line)
expand_fault_view (Arguments line) = Some (has_other_arguments line)
expand_fault_view (Value line) = Some (has_no_value line)
expand_fault_view (TooMany line limit) = Some (passes_limit line limit)
expand_fault_view OutOfMemory = None

-- why a part of a statement is not made
abbrev pub flaw_view : CodeFlaw → Flaw
flaw_view UnknownFlaw = unknown_word
flaw_view Range = out_of_range

-- the same, as a fault that is no want of memory
abbrev pub flaw_fault_view : CodeFlaw → Option Flaw
flaw_fault_view f = Some (flaw_view f)

-- why a part of one statement is not made
abbrev pub name_fault_view : NameFault → Option Flaw
name_fault_view (Flawed f) = Some (flaw_view f)
name_fault_view NoText = None

-- a flaw is a fault of its statement
abbrev pub at_line : {A : Type 0} → ℕ → Result A Flaw → Result A ExpansionFault
at_line line (Ok a) = Ok a
at_line line (Err f) = Err (flaw_fault line f)
