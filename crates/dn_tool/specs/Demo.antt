-- A demonstration: the commands of its text are gone through as those of a script, but their replies are
-- told to no one, and one line sums up what came of them.
use Rattle.std.specs.Prelude.{◌≡◌, ◌⊎◌, ℕ, zero, suc, ◌+◌, ◌==◌, ◌&&◌, Bool, true, false, if◌then◌else◌, nat_lt, List, ◌∷◌, length, slice_get, Option, Some, None, is_some}
use Rattle.dn_base.specs.declared.device.TableEvent.{TableEvent}
use Rattle.dn_base.specs.declared.device.UnitWords.{UnitWords}
use Rattle.dn_base.specs.Device.{Logged, UnitSize}
use Rattle.dn_base.specs.Outside.{IsWritten}
use Rattle.dn_net.specs.declared.node.NodeDecl.{NodeDecl}
use Rattle.dn_net.specs.declared.node.Unit.{Unit as UnitPart}
use Rattle.dn_net.specs.Decode.{is_agent_at, unit_at}
use Rattle.dn_net.specs.Rules.{count_below}
use Rattle.dn_kind.specs.declared.rights.Access.TheVariants.{Read as reading}
use Rattle.dn_kind.specs.Kind.{Meaning}
use Rattle.dn_kind.specs.Tables.{Held, record_held}
use Rattle.dn_image.specs.Image.{image}
use Rattle.dn_module.specs.declared.command.Command.{Command}
use Rattle.dn_module.specs.declared.command.Command.TheVariants.{Grant, Revoke}
use Rattle.dn_book.specs.declared.grant.Grant.{Grant as GrantPart}
use Rattle.dn_book.specs.Tables.{tables_of}
use Rattle.dn_demo.specs.declared.summary.Summary.{Summary}
use Rattle.dn_demo.specs.Summary.{summary_text}
use Rattle.dn_script.specs.Played.{IsPlayed, make_turn}
use Rattle.dn_script.specs.Turn.{State, Turn, start, state_after}
use Rattle.dn_script.specs.Viewed.{owed_rows}

-- the command is `grant`
abbrev pub is_grant : Command → Bool
is_grant (Grant id agent node base size m) = true
is_grant _ = false

-- the command is `revoke`
abbrev pub is_revoke : Command → Bool
is_revoke (Revoke id) = true
is_revoke _ = false

-- a grant was made: behind the command more grants live than before
abbrev pub has_granted : Command → ℕ → ℕ → Bool
has_granted c before after = is_grant c && nat_lt before after

-- a grant was revoked: behind the command fewer live
abbrev pub has_revoked : Command → ℕ → ℕ → Bool
has_revoked c before after = is_revoke c && nat_lt after before

-- how many commands pass a test of the command and of how many grants live before its turn and behind it
abbrev pub passing_turns : (Command → ℕ → ℕ → Bool) → State → List Command → List Turn → ℕ
passing_turns p s (c ∷ cs) (t ∷ ts) =
    (if p c (length s.book) (length t.next.book) then 1 else 0) + passing_turns p t.next cs ts
passing_turns p s _ _ = 0

-- the sum of a number for each number below a count; no proof unfolds it at a numeral
unfoldable pub sum_below : (ℕ → ℕ) → ℕ → ℕ
sum_below f zero = 0
sum_below f (suc k) = sum_below f k + f k

-- how many rows a node is owed for reading, where it is an agent
abbrev pub agent_rows : List NodeDecl → List GrantPart → ℕ → ℕ
agent_rows net book n =
    if is_agent_at (slice_get net n) then length (owed_rows net book reading n) else 0

-- how many slots of a unit, or of none, hold a record
abbrev pub held_slots : Held → ℕ → Option UnitPart → ℕ
held_slots h node None = 0
held_slots h node (Some u) = count_below (λ slot. is_some (h node slot)) u.slots

-- how many slots of a net hold a record
abbrev pub held_records : List NodeDecl → Held → ℕ
held_records net h = sum_below (λ n. held_slots h n (unit_at net n)) (length net)

-- what is counted where so many grants were made and revoked, and these live
abbrev pub summary_with : List Meaning → List NodeDecl → ℕ → ℕ → ℕ → List GrantPart → Summary
summary_with kinds net agents granted revoked book = record {
  agents = agents;
  nodes = length net;
  grants = granted;
  revoked = revoked;
  rows = sum_below (agent_rows net book) (length net);
  records = held_records net (record_held net kinds (tables_of net kinds book));
  image = length (image net kinds (tables_of net kinds book));
}

-- what is counted once commands were gone through in these turns
abbrev pub summary_of : List Meaning → List NodeDecl → ℕ → List Command → List Turn → Summary
summary_of kinds net agents commands turns = summary_with kinds net agents
    (passing_turns has_granted start commands turns)
    (passing_turns has_revoked start commands turns) (state_after start turns).book

-- all commands were gone through, and then the line was written: all of it at status 0, not all of it
-- at status 3, and in any case a prefix
pub record IsSummedUp (kinds : List Meaning) (net : List NodeDecl) (agents : ℕ)
    (commands : List Command) (status : ℕ) (before after : Option (List ℕ))
    (log log' : Option (List TableEvent)) (units' : List UnitSize) (told' : Option (List UnitWords))
    : Type 0 where
  pub played : IsPlayed kinds net commands 0 None None log log' units' told'
  pub written : IsWritten before after (status == 0) (status == 3)
      (summary_text (summary_of kinds net agents commands played.turns))
  pub ended : (status ≡ 0) ⊎ ((status ≡ 3) ⊎ (status ≡ 7))

-- the commands were gone through as far as the status tells: there was a fault of the device, or no
-- memory, and nothing was written
pub record IsBrokenOff (kinds : List Meaning) (net : List NodeDecl) (commands : List Command)
    (status : ℕ) (before after : Option (List ℕ)) (log log' : Option (List TableEvent))
    (units' : List UnitSize) (told' : Option (List UnitWords)) : Type 0 where
  pub played : IsPlayed kinds net commands status None None log log' units' told'
  pub why : (status ≡ 6) ⊎ (status ≡ 7)
  pub unwritten : after ≡ before

-- a run with this status over a demonstration with so many agents
abbrev pub IsShown : List Meaning → List NodeDecl → ℕ → List Command → ℕ → Option (List ℕ) →
    Option (List ℕ) → Option (List TableEvent) → Option (List TableEvent) → List UnitSize →
    Option (List UnitWords) → Type 0
IsShown kinds net agents commands status before after log log' units' told' =
    IsSummedUp kinds net agents commands status before after log log' units' told'
    ⊎ IsBrokenOff kinds net commands status before after log log' units' told'

-- the same where the units are made already, with this log: whatever the log was before they were made
abbrev pub IsShownOn : List Meaning → List NodeDecl → ℕ → List Command → ℕ → Option (List ℕ) →
    Option (List ℕ) → Option (List TableEvent) → Option (List TableEvent) → List UnitSize →
    Option (List UnitWords) → Type 0
IsShownOn kinds net agents commands status before after made log' units' told' =
    (log : Option (List TableEvent)) → Logged log made (make_turn kinds net).events →
    IsShown kinds net agents commands status before after log log' units' told'
