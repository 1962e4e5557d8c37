-- The parts of a step of the machine of expansion.
use Rattle.std.specs.Prelude.{ℕ, ◌+◌, if◌then◌else◌, nat_lt, List, ◌++◌, Option, Some, None, Result, Ok}
use Rattle.dn_parse.specs.Tree.{Declaration}
use Rattle.dn_kind.specs.Kind.{Meaning}
use Rattle.dn_module.specs.declared.draft.Draft.{Draft}
use Rattle.dn_module.specs.declared.machine.Made.{Made}
use Rattle.dn_module.specs.Drafts.{draft_of_declaration, with_draft}
use Rattle.dn_scope.specs.Uses.{Work}
use Rattle.dn_module.specs.Expand.{ExpansionState}
use Rattle.dn_scope.specs.Stack.{modules_view}
use Rattle.dn_scope.specs.Values.{◌>>=◌}
use Rattle.dn_scope.specs.Faults.{ExpansionFault}

-- the modules and the nodes so far
abbrev pub expansion_state_view : Made → ExpansionState
expansion_state_view m = record { modules = modules_view m.modules; drafts = m.drafts }

-- what a rewriting gives, before the work that is left
abbrev pub works_in_front : List Work → Result (List Work × ExpansionState) ExpansionFault → Result (List Work × ExpansionState) ExpansionFault
works_in_front works made = do
  next ← made
  Ok (next.0 ++ works, next.1)

-- the nodes with one that is declared
abbrev pub with_declaration : List Meaning → List Draft → ℕ → Declaration → Result (List Draft) ExpansionFault
with_declaration kinds drafts line d = do
  draft ← draft_of_declaration kinds line d
  with_draft drafts draft

-- the limit that one more node passes: so many nodes before it, so many agents and units with it, so
-- many parts before it and in it
abbrev pub limit_by : ℕ → ℕ → ℕ → ℕ → ℕ → Option ℕ
limit_by nodes agents units parts more =
    if nat_lt 1024 (nodes + 1) then Some 1024
    else (if nat_lt 64 agents then Some 64
    else (if nat_lt 64 units then Some 64
    else (if nat_lt 16384 (parts + more) then Some 16384 else None)))
