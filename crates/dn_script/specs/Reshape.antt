-- The replies to the commands that make another net of the net.
use Rattle.std.specs.Prelude.{ℕ, List, ◌++◌, length, codes, Option, Some, None, Result, Ok, Err}
use Rattle.std.specs.Fmt.{decimal}
use Rattle.dn_net.specs.declared.node.NodeDecl.{NodeDecl}
use Rattle.dn_kind.specs.Kind.{Meaning}
use Rattle.dn_module.specs.declared.command.Target.{Target}
use Rattle.dn_print.specs.Statement.{net_text}
use Rattle.dn_shape.specs.declared.fault.Why.{Why}
use Rattle.dn_shape.specs.declared.fault.Why.TheVariants.{Accepts, Agent, Unit, Port, SelfStep}
use Rattle.dn_shape.specs.Absorb.{Refusal, is_unfit, passes, absorb_outcome}
use Rattle.dn_shape.specs.Split.{split_outcome}

-- a net that a command of this word made, below a heading that has the number of its nodes
abbrev pub made_text : List Meaning → List ℕ → List NodeDecl → List ℕ
made_text kinds word net = word ++ (codes " nodes " ++ (decimal (length net) ++ (codes "\n" ++ net_text kinds net)))

-- the reply where the net that would be made passes a limit
abbrev pub limit_text : List ℕ → ℕ → List ℕ
limit_text name limit = name ++ (codes " refused: TooMany " ++ (decimal limit ++ codes "\n"))

-- the reply to `split` by what splitting comes to
abbrev pub divided_text : List Meaning → Result (List NodeDecl) ℕ → List ℕ
divided_text kinds (Ok made) = made_text kinds (codes "split") made
divided_text kinds (Err limit) = limit_text (codes "split") limit

-- the reply to `split`
abbrev pub split_text : List Meaning → List NodeDecl → List ℕ
split_text kinds net = divided_text kinds (split_outcome net)

-- the reply by the word for the reason for which the node of this name cannot be absorbed
abbrev pub reason_text : List ℕ → List ℕ → List ℕ
reason_text name word = name ++ (codes " refused: NotAbsorbable " ++ (word ++ codes "\n"))

-- the reply where the node of this name cannot be absorbed
abbrev pub unfit_text : List ℕ → Why → List ℕ
unfit_text name Accepts = reason_text name (codes "accepts")
unfit_text name Agent = reason_text name (codes "agent")
unfit_text name Unit = reason_text name (codes "unit")
unfit_text name Port = reason_text name (codes "port")
unfit_text name SelfStep = reason_text name (codes "self")

-- the reply where the node of this name is not absorbed
abbrev pub refusal_text : List ℕ → Refusal → List ℕ
refusal_text name (is_unfit why) = unfit_text name why
refusal_text name (passes limit) = limit_text name limit

-- the reply to `absorb` by what absorbing the node of this name comes to
abbrev pub absorbed_text : List Meaning → List ℕ → Result (List NodeDecl) Refusal → List ℕ
absorbed_text kinds name (Ok made) = made_text kinds (codes "absorb") made
absorbed_text kinds name (Err refusal) = refusal_text name refusal

-- the reply where there is no node of this name
abbrev pub no_node_text : List ℕ → List ℕ
no_node_text name = name ++ codes " refused: no such node\n"

-- the reply to `absorb` of the node of this name, where there is one
abbrev pub absorb_by : List Meaning → List NodeDecl → List ℕ → Option ℕ → List ℕ
absorb_by kinds net name None = no_node_text name
absorb_by kinds net name (Some n) = absorbed_text kinds name (absorb_outcome net n)

-- the reply to `absorb`
abbrev pub absorb_text : List Meaning → List NodeDecl → Target → List ℕ
absorb_text kinds net target = absorb_by kinds net target.text target.node
