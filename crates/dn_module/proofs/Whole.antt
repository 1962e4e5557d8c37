-- The whole of expansion, in two parts.
use Rattle.std.proofs.Common.{◌≡◌, ◌∙◌, ap, sym, refl, List, Option, Some, None, IfSome, Result, Ok, Err}
use Rattle.dn_parse.specs.Tree.{Tree}
use Rattle.dn_module.specs.Expand.{ExpansionState, Expansion, all_rewritings, most_steps, nothing_yet, expansion_of}
use Rattle.dn_scope.specs.Uses.{statements, outside}
use Rattle.dn_kind.specs.Kind.{Meaning}
use Rattle.dn_module.specs.Finish.{outcome_of}
use Rattle.dn_scope.specs.Values.{◌>>=◌}
use Rattle.dn_scope.specs.Faults.{ExpansionFault}

-- what the statements make
abbrev pub body_state : List Meaning → Tree → Result ExpansionState ExpansionFault
body_state kinds tree = all_rewritings kinds most_steps (statements outside tree.body) nothing_yet

abbrev pub outcome_by : Tree → ExpansionState → Result Expansion ExpansionFault
outcome_by tree state = outcome_of state.drafts tree.commands

pub whole : (kinds : List Meaning) (tree : Tree) → expansion_of kinds tree ≡ (body_state kinds tree >>= outcome_by tree)
unfolding expansion_of
whole kinds tree = refl

fault_first : {X Y : Type 0} (fault : Option ExpansionFault) (made : Result X ExpansionFault) (f : X → Result Y ExpansionFault) (all : Result Y ExpansionFault) → all ≡ (made >>= f) → IfSome fault (λ g. made ≡ Err g) → IfSome fault (λ g. all ≡ Err g)
fault_first None made f all e is = tt
fault_first (Some g) made f all e is = e ∙ ap (λ m. m >>= f) is

-- a fault of a statement
pub body_fault : (kinds : List Meaning) (tree : Tree) (fault : Option ExpansionFault) → IfSome fault (λ g. body_state kinds tree ≡ Err g) → IfSome fault (λ g. expansion_of kinds tree ≡ Err g)
body_fault kinds tree fault is = fault_first fault (body_state kinds tree) (outcome_by tree) (expansion_of kinds tree) (whole kinds tree) is

-- what is left, once the statements have made a state
pub body_made : (kinds : List Meaning) (tree : Tree) (state : ExpansionState) → body_state kinds tree ≡ Ok state → outcome_of state.drafts tree.commands ≡ expansion_of kinds tree
body_made kinds tree state is = sym (whole kinds tree ∙ ap (λ m. m >>= outcome_by tree) is)
