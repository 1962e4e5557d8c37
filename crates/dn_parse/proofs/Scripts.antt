-- Commands one behind the other: as they are counted, as they are read again, and what they add to the blocks.
use Rattle.std.proofs.Common.{◌≡◌, ◌∙◌, ap, sym, refl, subst, ℕ, zero, suc, ◌+◌, ◌-◌, ◌<◌, Bool, true, cond, List, [], ◌∷◌, length, Option, Some, None, option_map, IfSome, Result, Ok, Err, arith}
use Rattle.std.proofs.lemmas.List.{append-nil, append_assoc}
use Rattle.dn_base.proofs.Told.{if_some_then}
use Rattle.dn_token.specs.Token.{Token}
use Rattle.dn_parse.specs.Tree.{Statement, declares, heads_module, uses, heads_loop, ends, begins, orders, Order, Command, Tree}
use Rattle.dn_parse.specs.Machine.{Stop, whole, refused, deep}
use Rattle.dn_parse.specs.Whole.{TextFault, block_fault, first_line, Blocks, BlockStep, by_step, step, before_begin, after_begin, at_stop, judge, forbidden}
use Rattle.dn_parse.specs.Descent.{Read, Next, and_then, whole_statement_at}
use Rattle.dn_parse.specs.Commands.{command_of_statement, command_at, command_read, next_in, next_command, with_more, commands_from, with_commands}
use Rattle.dn_parse.specs.Views.{command_view}
use Rattle.dn_parse.specs.declared.syntax.Cmd.{Cmd}
use Rattle.dn_parse.specs.declared.cursor.Halt.{Halt}
use Rattle.dn_parse.specs.declared.cursor.Halt.TheVariants.{Refused, Deep as DeepHalt, OutOfMemory as HaltMemory}
use Rattle.dn_parse.specs.Faults.{halt_view, halt_fault}
use Rattle.dn_parse.proofs.Judge.{next_step, fault_halted, judge_end}

-- the tokens behind a command and those after it, of which there is none where no command stands
abbrev pub tokens_past : Option (Command × List Token) → (List Token → List Token) → List Token
tokens_past None more = []
tokens_past (Some c) more = more c.1

-- the tokens behind the first so many commands
unfoldable pub behind_commands : ℕ → List Token → List Token
behind_commands zero ts = ts
behind_commands (suc n) ts = tokens_past (next_command ts) (behind_commands n)

-- a command and the tokens behind it
abbrev Found : Type 0
Found = Option (Command × List Token)

-- what stands in front
pub no_line : (ts : List Token) → first_line ts ≡ None → next_command ts ≡ None
unfolding next_command
no_line ts h = ap (λ (l : Option ℕ). next_in l ts) h

pub next_is : (ts : List Token) (line : ℕ) (o : Found) → first_line ts ≡ Some line → command_at line ts ≡ Ok o → next_command ts ≡ o
unfolding next_command
next_is ts line o h e = ap (λ (l : Option ℕ). next_in l ts) h ∙ ap command_read e

-- the same of what a reading answers
pub answered_is : (ts : List Token) (line : ℕ) (o asked : Option Cmd) (after : List Token) → first_line ts ≡ Some line → command_at line ts ≡ Ok (option_map (λ c. (command_view c, after)) o) → o ≡ asked → next_command ts ≡ option_map (λ c. (command_view c, after)) asked
answered_is ts line o asked after h e is = next_is ts line _ h e ∙ ap (λ (q : Option Cmd). option_map (λ (c : Cmd). (command_view c, after)) q) is

pub next_stops : (ts : List Token) (line : ℕ) (z : Stop) → first_line ts ≡ Some line → command_at line ts ≡ Err z → next_command ts ≡ None
unfolding next_command
next_stops ts line z h e = ap (λ (l : Option ℕ). next_in l ts) h ∙ ap command_read e

-- the first of several
pub more_is : (n : ℕ) (ts : List Token) (o : Found) → next_command ts ≡ o → commands_from (suc n) ts ≡ with_more o (commands_from n)
unfolding commands_from
more_is n ts o e = ap (λ (p : Found). with_more p (commands_from n)) e

pub past_is : (n : ℕ) (ts : List Token) (o : Found) → next_command ts ≡ o → behind_commands (suc n) ts ≡ tokens_past o (behind_commands n)
unfolding behind_commands
past_is n ts o e = ap (λ (p : Found). tokens_past p (behind_commands n)) e

pub fewer : (n : ℕ) (ts : List Token) (c : Command × List Token) → length (commands_from (suc n) ts) ≡ suc n → next_command ts ≡ Some c → length (commands_from n c.1) ≡ n
fewer n ts c l e =
    let longer : length (commands_from (suc n) ts) ≡ suc (length (commands_from n c.1)) = ap length (more_is n ts (Some c) e) in
    omega (arith, longer, l)

pub none_fewer : (n : ℕ) (ts : List Token) → length (commands_from (suc n) ts) ≡ suc n → next_command ts ≡ None → ⊥
none_fewer n ts l e =
    let none : length (commands_from (suc n) ts) ≡ 0 = ap length (more_is n ts None e) in
    absurd (omega (arith, none, l))

pub stands : (n : ℕ) (ts : List Token) → 0 < n → length (commands_from n ts) ≡ n → next_command ts ≡ None → ⊥
stands zero ts h l e = absurd (omega arith)
stands (suc n) ts h l e = none_fewer n ts l e

-- only memory can be wanted where a command stands
pub memory_alone : (n : ℕ) (ts : List Token) (line : ℕ) (h : Halt) → 0 < n → length (commands_from n ts) ≡ n → first_line ts ≡ Some line → IfSome (halt_view h) (λ z. command_at line ts ≡ Err z) → h ≡ HaltMemory
memory_alone n ts line (Refused k) h l s e = absurd (stands n ts h l (next_stops ts line (refused k) s e))
memory_alone n ts line (DeepHalt k) h l s e = absurd (stands n ts h l (next_stops ts line (deep k) s e))
memory_alone n ts line HaltMemory h l s e = refl

pub others : (n : ℕ) (ts : List Token) (c : Command × List Token) → 0 < n → length (commands_from n ts) ≡ n → next_command ts ≡ Some c → length (commands_from (n - 1) c.1) ≡ n - 1
others zero ts c h l e = absurd (omega arith)
others (suc n) ts c h l e =
    let same : n ≡ suc n - 1 = omega arith in
    subst (λ (m : ℕ). length (commands_from m c.1) ≡ m) same (fewer n ts c l e)

pub front_is : (n : ℕ) (ts : List Token) (c : Command × List Token) → 0 < n → next_command ts ≡ Some c → commands_from n ts ≡ c.0 ∷ commands_from (n - 1) c.1
front_is zero ts c h e = absurd (omega arith)
front_is (suc n) ts c h e =
    let same : n ≡ suc n - 1 = omega arith in
    more_is n ts (Some c) e ∙ ap (λ (m : ℕ). c.0 ∷ commands_from m c.1) same

-- one command more at the end
abbrev pub AreCommands : ℕ → List Token → List Token → Type 0
AreCommands n ts rest = (length (commands_from n ts) ≡ n) × (behind_commands n ts ≡ rest)

pub none_yet : (ts : List Token) → AreCommands 0 ts ts
unfolding commands_from behind_commands
none_yet ts = (refl, refl)

one_alone : (o : Found) (rest : List Token) → option_map (λ (c : Command × List Token). c.1) o ≡ Some rest → (length (with_more o (commands_from zero)) ≡ 1) × (tokens_past o (behind_commands zero) ≡ rest)
unfolding commands_from behind_commands
one_alone None rest e = cc
one_alone (Some c) rest e = let same : c.1 ≡ rest = cc in (refl, same)

one_begun : (ts rest : List Token) → option_map (λ (c : Command × List Token). c.1) (next_command ts) ≡ Some rest → AreCommands (suc zero) ts rest
unfolding commands_from behind_commands
one_begun ts rest e = one_alone (next_command ts) rest e

pub behind_zero : (ts : List Token) → behind_commands zero ts ≡ ts
unfolding behind_commands
behind_zero ts = refl

one_more_suc : (n : ℕ) (ts rest : List Token) → length (commands_from n ts) ≡ n → option_map (λ (c : Command × List Token). c.1) (next_command (behind_commands n ts)) ≡ Some rest → AreCommands (suc n) ts rest
one_more_suc zero ts rest l e = one_begun ts rest (ap (λ (us : List Token). option_map (λ (c : Command × List Token). c.1) (next_command us)) (sym (behind_zero ts)) ∙ e)
one_more_suc (suc n) ts rest l e = go (next_command ts) refl (one_more_suc n)
  where
    go : (o : Found) → next_command ts ≡ o → ((us vs : List Token) → length (commands_from n us) ≡ n → option_map (λ (c : Command × List Token). c.1) (next_command (behind_commands n us)) ≡ Some vs → AreCommands (suc n) us vs) → AreCommands (suc (suc n)) ts rest
    go None q more = absurd (none_fewer n ts l q)
    go (Some c) q more =
        let there = ap (λ (us : List Token). option_map (λ (c : Command × List Token). c.1) (next_command us)) (sym (past_is n ts (Some c) q)) ∙ e in
        let rest_is = more c.1 rest (fewer n ts c l q) there in
        (ap length (more_is (suc n) ts (Some c) q) ∙ ap suc rest_is.0, past_is (suc n) ts (Some c) q ∙ rest_is.1)

pub one_more : (n : ℕ) (ts before rest : List Token) → AreCommands n ts before → option_map (λ (c : Command × List Token). c.1) (next_command before) ≡ Some rest → AreCommands (n + 1) ts rest
one_more n ts before rest are e =
    let same : suc n ≡ n + 1 = omega arith in
    subst (λ (m : ℕ). AreCommands m ts rest) same (one_more_suc n ts rest are.0 (ap (λ (us : List Token). option_map (λ (c : Command × List Token). c.1) (next_command us)) are.1 ∙ e))

-- what a command adds to the blocks
step_begun : (b : Blocks) (line : ℕ) (o : Order) → b.begun ≡ true → step b (record { line = line; statement = orders o }) ≡ Ok (with_commands b (record { line = line; order = o } ∷ []))
step_begun b line o h = ap (λ (t : Bool). cond t (after_begin b line (orders o)) (before_begin b line (orders o))) h

step_barred : (b : Blocks) (line : ℕ) (s : Statement) → b.begun ≡ true → after_begin b line s ≡ Err forbidden → step b (record { line = line; statement = s }) ≡ Err forbidden
step_barred b line s h e = ap (λ (t : Bool). cond t (after_begin b line s) (before_begin b line s)) h ∙ e

abbrev Ordered : ℕ → Read Statement → Next Command
Ordered line r = and_then r (λ s. Ok (command_of_statement line s.1 s.0))

command_on : (last : ℕ) (all : List Token) (b : Blocks) (ts : List Token) (line : ℕ) (c : Command × List Token) (r : Read Statement) → b.begun ≡ true → first_line ts ≡ Some line → whole_statement_at ts ≡ r → command_read (Ordered line r) ≡ Some c → judge last all b ts ≡ judge last all (with_commands b (c.0 ∷ [])) c.1
command_on last all b ts line c (Err z) g h e q = cc
command_on last all b ts line c (Ok (orders o, after)) g h e q =
    let same : (record { line = line; order = o }, after) ≡ c = cc in
    next_step last all b ts line (orders o) after h e
    ∙ ap (λ (s : BlockStep). by_step s line (λ d. judge last all d after)) (step_begun b line o g)
    ∙ ap (λ (d : Command × List Token). judge last all (with_commands b (d.0 ∷ [])) d.1) same
command_on last all b ts line c (Ok (declares d, after)) g h e q = cc
command_on last all b ts line c (Ok (heads_module w ps, after)) g h e q = cc
command_on last all b ts line c (Ok (uses w xs n, after)) g h e q = cc
command_on last all b ts line c (Ok (heads_loop w from upto, after)) g h e q = cc
command_on last all b ts line c (Ok (ends, after)) g h e q = cc
command_on last all b ts line c (Ok (begins, after)) g h e q = cc

judge_command : (last : ℕ) (all : List Token) (b : Blocks) (ts : List Token) (c : Command × List Token) → b.begun ≡ true → next_command ts ≡ Some c → judge last all b ts ≡ judge last all (with_commands b (c.0 ∷ [])) c.1
unfolding next_command command_at
judge_command last all b [] c g e = cc
judge_command last all b (t ∷ ts) c g e = command_on last all b (t ∷ ts) t.line c (whole_statement_at (t ∷ ts)) g refl refl e

none_added : (last : ℕ) (all : List Token) (b : Blocks) (ts rest : List Token) → behind_commands zero ts ≡ rest → judge last all b ts ≡ judge last all (with_commands b (commands_from zero ts)) rest
unfolding commands_from behind_commands
none_added last all b ts rest e =
    ap (λ (cs : List Command). judge last all (record { frames = b.frames; body = b.body; begun = b.begun; commands = cs }) ts) (sym (append-nil b.commands))
    ∙ ap (judge last all (with_commands b [])) e

pub judge_commands : (last : ℕ) (all : List Token) (n : ℕ) (b : Blocks) (ts rest : List Token) → b.begun ≡ true → AreCommands n ts rest → judge last all b ts ≡ judge last all (with_commands b (commands_from n ts)) rest
judge_commands last all zero b ts rest g are = none_added last all b ts rest are.1
judge_commands last all (suc n) b ts rest g are = go (next_command ts) refl (judge_commands last all n)
  where
    go : (o : Found) → next_command ts ≡ o → ((d : Blocks) (us vs : List Token) → d.begun ≡ true → AreCommands n us vs → judge last all d us ≡ judge last all (with_commands d (commands_from n us)) vs) → judge last all b ts ≡ judge last all (with_commands b (commands_from (suc n) ts)) rest
    go None q more = absurd (none_fewer n ts are.0 q)
    go (Some c) q more =
        let here : AreCommands n c.1 rest = (fewer n ts c are.0 q, sym (past_is n ts (Some c) q) ∙ are.1) in
        judge_command last all b ts c g q
        ∙ more (with_commands b (c.0 ∷ [])) c.1 rest g here
        ∙ ap (λ (cs : List Command). judge last all (record { frames = b.frames; body = b.body; begun = b.begun; commands = cs }) rest) (append_assoc b.commands (c.0 ∷ []) (commands_from n c.1))
        ∙ ap (λ (cs : List Command). judge last all (with_commands b cs) rest) (sym (more_is n ts (Some c) q))

-- where no command stands
stops_by : (line : ℕ) (r : Read Statement) (z : Stop) → Ordered line r ≡ Err z → r ≡ Err z
stops_by line (Ok s) z e = cc
stops_by line (Err y) z e = let same : y ≡ z = cc in ap (λ x. Err x) same

whole_stops : (line : ℕ) (ts : List Token) (z : Stop) → command_at line ts ≡ Err z → whole_statement_at ts ≡ Err z
unfolding command_at
whole_stops line ts z e = stops_by line (whole_statement_at ts) z e

pub command_halts : (last : ℕ) (all : List Token) (b : Blocks) (ts : List Token) (line : ℕ) (h : Halt) → first_line ts ≡ Some line → IfSome (halt_view h) (λ z. command_at line ts ≡ Err z) → IfSome (halt_fault h last all) (λ f. judge last all b ts ≡ Err f)
command_halts last all b ts line h s e =
    fault_halted last all b ts line h s (if_some_then (halt_view h) (λ (z : Stop). command_at line ts ≡ Err z) (λ (z : Stop). whole_statement_at ts ≡ Err z) (λ z. whole_stops line ts z) e)

barred_by : (last : ℕ) (all : List Token) (b : Blocks) (ts : List Token) (line : ℕ) (s : Statement) (after : List Token) → b.begun ≡ true → first_line ts ≡ Some line → whole_statement_at ts ≡ Ok (s, after) → after_begin b line s ≡ Err forbidden → judge last all b ts ≡ Err (block_fault line)
barred_by last all b ts line s after g h e q =
    next_step last all b ts line s after h e ∙ ap (λ (x : BlockStep). by_step x line (λ d. judge last all d after)) (step_barred b line s g q)

barred_read : (last : ℕ) (all : List Token) (b : Blocks) (ts : List Token) (line : ℕ) (r : Read Statement) → b.begun ≡ true → first_line ts ≡ Some line → whole_statement_at ts ≡ r → Ordered line r ≡ Ok None → judge last all b ts ≡ Err (block_fault line)
barred_read last all b ts line (Err z) g h e q = cc
barred_read last all b ts line (Ok (orders o, after)) g h e q = cc
barred_read last all b ts line (Ok (declares d, after)) g h e q = barred_by last all b ts line (declares d) after g h e refl
barred_read last all b ts line (Ok (heads_module w ps, after)) g h e q = barred_by last all b ts line (heads_module w ps) after g h e refl
barred_read last all b ts line (Ok (uses w xs n, after)) g h e q = barred_by last all b ts line (uses w xs n) after g h e refl
barred_read last all b ts line (Ok (heads_loop w from upto, after)) g h e q = barred_by last all b ts line (heads_loop w from upto) after g h e refl
barred_read last all b ts line (Ok (ends, after)) g h e q = barred_by last all b ts line ends after g h e refl
barred_read last all b ts line (Ok (begins, after)) g h e q = barred_by last all b ts line begins after g h e refl

pub no_command : (last : ℕ) (all : List Token) (b : Blocks) (ts : List Token) (line : ℕ) → b.begun ≡ true → first_line ts ≡ Some line → command_at line ts ≡ Ok None → judge last all b ts ≡ Err (block_fault line)
unfolding command_at
no_command last all b ts line g h e = barred_read last all b ts line (whole_statement_at ts) g h refl e

-- all commands of a text
pub judge_script : (last : ℕ) (all : List Token) (n : ℕ) (b : Blocks) (ts rest : List Token) → b.begun ≡ true → AreCommands n ts rest → rest ≡ [] → judge last all b ts ≡ at_stop whole last all (with_commands b (commands_from n ts))
judge_script last all n b ts rest g are e =
    judge_commands last all n b ts rest g are
    ∙ ap (judge last all (with_commands b (commands_from n ts))) e
    ∙ judge_end last all (with_commands b (commands_from n ts))

-- a fault at a later place is one at an earlier place
pub fault_before : (o : Option TextFault) (p q : Result Tree TextFault) → p ≡ q → IfSome o (λ f. q ≡ Err f) → IfSome o (λ f. p ≡ Err f)
fault_before None p q e h = tt
fault_before (Some f) p q e h = e ∙ h
