-- The answer of the program: a status and what is written, or a script that is run, or a demonstration.
use Rattle.std.specs.Prelude.{◌≡◌, ◌≢◌, ℕ, ◌==◌, Bool, true, false, if◌then◌else◌, not, List, ◌++◌, codes, take, Option, Some, None, Result, Ok, Err}
use Rattle.std.specs.Option.{IfSome}
use Rattle.dn_base.specs.declared.device.TableEvent.{TableEvent}
use Rattle.dn_base.specs.declared.device.UnitWords.{UnitWords}
use Rattle.dn_base.specs.Device.{UnitSize}
use Rattle.dn_base.specs.Outside.{IsWritten}
use Rattle.dn_net.specs.declared.node.NodeDecl.{NodeDecl}
use Rattle.dn_kind.specs.Kind.{Meaning}
use Rattle.dn_print.specs.Statement.{net_text}
use Rattle.dn_module.specs.declared.command.Command.{Command}
use Rattle.dn_words.specs.declared.words.Task.{Task}
use Rattle.dn_words.specs.declared.words.Task.TheVariants.{Run, Check, Audit, Demo}
use Rattle.dn_words.specs.Words.{task_of}
use Rattle.dn_demo.specs.Text.{demo_text}
use Rattle.dn_module.specs.Expand.{Expansion}
use Rattle.dn_tool.specs.Audited.{AuditOutcome, image_answer}
use Rattle.dn_tool.specs.Compiled.{compilation, with_refusal}
use Rattle.dn_tool.specs.Demo.{IsShown}
use Rattle.dn_script.specs.Halt.{is_free_status}
use Rattle.dn_tool.specs.Input.{Parts, is_too_long, limit_for, parts_of}
use Rattle.dn_script.specs.Played.{IsPlayed}
use Rattle.dn_tool.specs.declared.refusal.Refusal.{Refusal}

-- a status and the output; or a net, whose commands are answered one after the other, or gone through
-- for a demonstration with so many agents
pub data Answer : Type 0 where
  said : ℕ → List ℕ → Answer
  played : List NodeDecl → List Command → Answer
  shown : ℕ → List NodeDecl → List Command → Answer

-- the answer is a script that is run
abbrev pub is_script : Answer → Bool
is_script (said status output) = false
is_script (played net commands) = true
is_script (shown agents net commands) = true

-- the line that says how the program is used
abbrev pub usage : List ℕ
usage = codes "usage: netconf COMMAND [N]\n"

-- whether a task reads the source
abbrev pub task_reads : Task → Bool
task_reads Run = true
task_reads Check = true
task_reads Audit = true
task_reads (Demo agents) = false

-- the bytes that a task is about: those that are read, or the text of the demonstration
abbrev pub task_bytes : Task → List ℕ → List ℕ
task_bytes Run bytes = bytes
task_bytes Check bytes = bytes
task_bytes Audit bytes = bytes
task_bytes (Demo agents) bytes = demo_text agents

-- whether what is asked for reads the source; where nothing is, nothing is read
abbrev pub some_task_reads : Option Task → Bool
some_task_reads None = false
some_task_reads (Some task) = task_reads task

-- whether the words are of a form that reads the source
abbrev pub reads : List (List ℕ) → Bool
reads words = some_task_reads (task_of words)

-- commands that are answered, or gone through for a demonstration with so many agents
abbrev pub commands_answer : Option ℕ → List NodeDecl → List Command → Answer
commands_answer None net commands = played net commands
commands_answer (Some agents) net commands = shown agents net commands

-- `run` answers the commands, `check` prints the net, `audit` says what agents see under the image, and
-- `demo N` goes through the commands
abbrev pub task_answer : Task → List Meaning → Option (List ℕ) → List NodeDecl → List Command → Answer
task_answer Run kinds image net commands = commands_answer None net commands
task_answer Check kinds image net commands = said 0 (net_text kinds net)
task_answer Audit kinds image net commands =
    said (image_answer kinds net image).status (image_answer kinds net image).output
task_answer (Demo agents) kinds image net commands = commands_answer (Some agents) net commands

-- the answer to what a text comes to: the line of its refusal, or what the task makes of it
abbrev pub compiled_answer : Task → List Meaning → Option (List ℕ) → Result Expansion Refusal → Answer
compiled_answer task kinds image (Err r) = said 4 (r.text ++ codes "\n")
compiled_answer task kinds image (Ok o) = task_answer task kinds image o.net o.commands

-- the answer to a text, and an image after it
abbrev pub text_answer : Task → List Meaning → Parts → Answer
text_answer task kinds parts =
    compiled_answer task kinds parts.image (with_refusal (compilation kinds parts.text))

-- the line that refuses an input that is too long
abbrev pub too_long_line : List ℕ
too_long_line = codes "refused: InputLength\n"

-- the answer to the bytes that a task is about
abbrev pub bytes_answer : Task → List Meaning → List ℕ → Answer
bytes_answer task kinds bytes =
    if is_too_long task bytes then said 4 too_long_line
    else text_answer task kinds (parts_of task bytes)

-- the answer to a demonstration with so many agents
abbrev pub demo_answer : ℕ → List Meaning → Answer
demo_answer agents kinds = bytes_answer (Demo agents) kinds (demo_text agents)

-- the answer to what is asked for, and the usage line where nothing is
abbrev pub asked_answer : Option Task → List Meaning → List ℕ → Answer
asked_answer None kinds bytes = said 1 usage
asked_answer (Some task) kinds bytes = bytes_answer task kinds (task_bytes task bytes)

-- the answer to words and the bytes of the source, where these kinds of units are known
abbrev pub answer : List (List ℕ) → List Meaning → List ℕ → Answer
answer words kinds bytes = asked_answer (task_of words) kinds bytes

-- A status and an output were the answer of a run: a status that is not free is the answer's, and
-- exactly the output was written then. At any other a prefix of it was, and at status 3 not all of it. No call of
-- the device was asked for, so the status is not 6.
pub record IsSaid (own : ℕ) (output : List ℕ) (status : ℕ) (before after : Option (List ℕ))
    : Type 0 where
  pub exact : is_free_status status ≡ false → status ≡ own
  pub written : IsWritten before after (not (is_free_status status)) (status == 3) output
  pub no_device : status ≢ 6

-- the same of an outcome
abbrev pub IsOutcome : AuditOutcome → ℕ → Option (List ℕ) → Option (List ℕ) → Type 0
IsOutcome o status before after = IsSaid o.status o.output status before after

-- a run with this status gave an answer, as far as it came
abbrev pub IsAnswered : List Meaning → Answer → ℕ → Option (List ℕ) → Option (List ℕ) →
    Option (List TableEvent) → Option (List TableEvent) → List UnitSize → Option (List UnitWords) → Type 0
IsAnswered kinds (said own output) status before after log log' units' told' =
    IsSaid own output status before after
IsAnswered kinds (played net commands) status before after log log' units' told' =
    IsPlayed kinds net commands status before after log log' units' told'
IsAnswered kinds (shown agents net commands) status before after log log' units' told' =
    IsShown kinds net agents commands status before after log log' units' told'

-- There are bytes to whose answer a run with this status came. Where the words read the source they are those that it told,
-- where it tells them; and wherever the run came past reading its reads gave exactly these bytes, or as many of them as
-- the limit. Where that answer is no script the device is as it was.
pub record IsRunAnswered {S D : Type 0} (words : List (List ℕ)) (kinds : List Meaning)
    (left : S → Option (List ℕ)) (given : S → List ℕ) (source source' : S) (status : ℕ)
    (before after : Option (List ℕ)) (units : D → List UnitSize)
    (told : D → Option (List UnitWords)) (log : D → Option (List TableEvent)) (device device' : D)
    : Type 0 where
  pub bytes : List ℕ
  pub read : reads words ≡ true → IfSome (left source) (λ whole. whole ≡ bytes)
  pub gave : reads words ≡ true → (status ≢ 2) → (status ≢ 7) →
      given source' ≡ given source ++ take (limit_for (task_of words)) bytes
  pub answered : IsAnswered kinds (answer words kinds bytes) status before after (log device)
      (log device') (units device') (told device')
  pub untouched : is_script (answer words kinds bytes) ≡ false → device' ≡ device
