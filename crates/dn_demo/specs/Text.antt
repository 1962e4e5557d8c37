-- The generated text of a demonstration: a platform with so many agents, their grants, and revokes.
use Rattle.std.specs.Prelude.{ℕ, zero, suc, false, ◌+◌, ◌-◌, ◌*◌, List, [], ◌++◌, codes}
use Rattle.std.specs.Fmt.{decimal, digits}
use Rattle.dn_demo.specs.declared.text.CommandKind.{CommandKind}
use Rattle.dn_demo.specs.declared.text.CommandKind.TheVariants.{Grants, Revokes}

-- the texts of the numbers below a count, one after the other
abbrev pub texts_below : (ℕ → List ℕ) → ℕ → List ℕ
texts_below text zero = []
texts_below text (suc count) = texts_below text count ++ text count

-- a memory, and a bus that leads to it
abbrev pub memory_text : List ℕ
memory_text = codes "dram is accept [0x0-0xffffffff];\nbus is map [0x100000000-0x1ffffffff to dram at 0x0];\n"

-- the head of the loop over the numbers of the agents, of which this is the last
abbrev pub loop_text : ℕ → List ℕ
loop_text last = codes "for i in 0.." ++ (decimal last ++ codes ";\n")

-- the body of the loop: an agent whose addresses go through a unit of its own to the bus; then the commands begin
abbrev pub agent_text : List ℕ
agent_text = codes "agent a[i] is map [0x0-0xffffff to u[i] at 0x0];\nunit u[i] kind pages page 12 slots 4096 reach 40 to bus;\nend;\nbegin;\n"

-- the platform with so many agents
abbrev pub platform_text : ℕ → List ℕ
platform_text agents = memory_text ++ (loop_text (agents - 1) ++ agent_text)

-- the id of a grant, which tells the agent and the number of the buffer
abbrev pub id_text : ℕ → ℕ → List ℕ
id_text agent buffer = codes "g_" ++ (decimal agent ++ (codes "_" ++ decimal buffer))

-- the first address of a buffer: all buffers stand 0x4000 bytes apart, sixteen for each agent
abbrev pub buffer_base : ℕ → ℕ → ℕ
buffer_base agent buffer = (agent * 16 + buffer) * 0x4000

-- the grant of a buffer of 0x3000 bytes to an agent
abbrev pub grant_text : ℕ → ℕ → List ℕ
grant_text agent buffer =
    codes "grant " ++ (id_text agent buffer ++ (codes " a[" ++ (decimal agent ++ (codes "] dram 0x" ++ (
    digits 16 false (buffer_base agent buffer) ++ codes " 0x3000;\n")))))

-- the grants of an agent: buffers 0 to 15
unfoldable pub agent_grants : ℕ → List ℕ
agent_grants agent = texts_below (grant_text agent) 16

-- the revoke of the grant of a buffer of an agent
abbrev pub revoke_text : ℕ → ℕ → List ℕ
revoke_text agent buffer = codes "revoke " ++ (id_text agent buffer ++ codes ";\n")

-- the revokes of an agent: buffers 1, 3, 5 and so on to 15
unfoldable pub revokes_of : ℕ → List ℕ
revokes_of agent = texts_below (λ pair. revoke_text agent (2 * pair + 1)) 8

-- the commands of a sort of an agent
abbrev pub agent_commands : CommandKind → ℕ → List ℕ
agent_commands Grants = agent_grants
agent_commands Revokes = revokes_of

-- the text of the demonstration with so many agents
abbrev pub demo_text : ℕ → List ℕ
demo_text agents = platform_text agents ++ (texts_below agent_grants agents ++ texts_below revokes_of agents)
