-- What the words after the program's name ask for.
use Rattle.std.specs.Prelude.{ℕ, ◌≤◌, ◌==◌, Bool, true, not, if◌then◌else◌, List, [], ◌∷◌, codes, Option, Some, None, option_map, find}
use Rattle.std.specs.List.{range_with_len}
use Rattle.std.specs.Fmt.{decimal}
use Rattle.std.specs.Str.{bytes_eq}
use Rattle.dn_words.specs.declared.words.Task.{Task}
use Rattle.dn_words.specs.declared.words.Task.TheVariants.{Run, Check, Audit, Demo}

-- a word that does not begin with `-`
abbrev pub is_plain_word : List ℕ → Bool
is_plain_word [] = true
is_plain_word (x ∷ xs) = not (x == 45)

-- the number from 1 to 64 of which this is the decimal text
unfoldable pub agents_of : List ℕ → Option ℕ
agents_of word = find (λ n. bytes_eq word (decimal n)) (range_with_len 1 64)

-- what a single word asks for
abbrev pub task_of_word : List ℕ → Option Task
task_of_word word =
    if bytes_eq word (codes "run") then Some Run
    else (if bytes_eq word (codes "check") then Some Check
    else (if bytes_eq word (codes "audit") then Some Audit else None))

-- what a word and a number behind it ask for
abbrev pub task_of_two : List ℕ → List ℕ → Option Task
task_of_two word number =
    if bytes_eq word (codes "demo") then option_map (λ n. Demo n) (agents_of number) else None

-- what a word asks for, and another one behind it, where there is one
abbrev pub task_of_parts : List ℕ → Option (List ℕ) → Option Task
task_of_parts word None = task_of_word word
task_of_parts word (Some number) = task_of_two word number

-- what the words ask for: they are `run`, `check` or `audit` alone, or `demo` and a number from 1 to 64 after it
abbrev pub task_of : List (List ℕ) → Option Task
task_of (word ∷ []) = task_of_word word
task_of (word ∷ number ∷ []) = task_of_two word number
task_of _ = None

-- a demonstration that is asked for has from 1 to 64 agents
abbrev pub HasAgents : Option Task → Type 0
HasAgents (Some (Demo n)) = (1 ≤ n) × (n ≤ 64)
HasAgents _ = Unit {0}
