-- What a demonstration counts, number by number, and commands of which no reply is told.
use Rattle.std.proofs.Common.{◌≡◌, ◌∙◌, ap, sym, refl, subst, arith, ℕ, suc, ◌+◌, ◌<◌, ◌≤◌, ◌==◌, Bool, true, false, if◌then◌else◌, List, [], ◌∷◌, ◌++◌, take, length, get_or, Option, None, Result, Ok, Err, is_ok, ◌⊎◌, inl, inr, add_assoc}
use Rattle.std.specs.Option.{IfSome}
use Rattle.std.proofs.lemmas.List.{take_more}
use Rattle.std.proofs.Math.Seq.{take-length}
use Rattle.dn_base.specs.declared.device.TableEvent.{TableEvent}
use Rattle.dn_base.specs.declared.device.UnitWords.{UnitWords}
use Rattle.dn_base.specs.declared.device.DeviceOrMemory.{DeviceOrMemory}
use Rattle.dn_base.specs.declared.device.DeviceOrMemory.TheVariants.{Device, OutOfMemory}
use Rattle.dn_base.specs.Device.{Logged, UnitSize, is_device_fault, sizes_of}
use Rattle.dn_base.specs.Outside.{IsWritten}
use Rattle.dn_base.proofs.Logs.{Logged-none}
use Rattle.dn_net.specs.declared.node.NodeDecl.{NodeDecl}
use Rattle.dn_net.specs.Rules.{count_below}
use Rattle.dn_net.proofs.Tally.{count_below-suc}
use Rattle.dn_kind.specs.Kind.{Meaning}
use Rattle.dn_module.specs.declared.command.Command.{Command}
use Rattle.dn_tables.specs.Set.{fresh_set, tables_of_set}
use Rattle.dn_tables.specs.Writes.{AreUnitsMade}
use Rattle.dn_demo.specs.declared.summary.Summary.{Summary}
use Rattle.dn_demo.specs.Summary.{summary_text}
use Rattle.dn_script.specs.declared.halt.RunHalt.{RunHalt}
use Rattle.dn_script.specs.declared.halt.RunHalt.TheVariants.{WriteFault, DeviceFault, NoMemory}
use Rattle.dn_script.specs.Books.{GivesOwed}
use Rattle.dn_tool.specs.Demo.{IsShown, IsSummedUp, has_granted, has_revoked, passing_turns, sum_below, summary_of, summary_with}
use Rattle.dn_script.specs.Halt.{ending_status, is_device_halt, is_write_halt, make_halt}
use Rattle.dn_script.specs.Played.{IsPlayed, make_turn}
use Rattle.dn_script.specs.State.{CameThrough, IsChanged, IsTurned}
use Rattle.dn_script.specs.Turn.{IsTurn, State, Turn, is_change, reply, reply_turn, start, state_after}
use Rattle.dn_script.proofs.Played.{IsGone, gone_more, gone_start, halted_by, halted_unmade, more_turns, played_whole, turns_count, unmade_by, whole_turns}
use Rattle.dn_script.proofs.Changes.{still_turn}
use Rattle.dn_script.proofs.Kept.{IsLawfulNet}
use Rattle.dn_script.proofs.Sizes.{HasTables}

-- a test that passes counts one at most
pub one_at_most : (b : Bool) → (if b then 1 else 0) ≤ 1
one_at_most true = omega arith
one_at_most false = omega arith

pub count_more : (p : ℕ → Bool) (k : ℕ) → count_below p (k + 1) ≡ count_below p k + (if p k then 1 else 0)
count_more p k = let next : k + 1 ≡ suc k = omega arith in ap (count_below p) next ∙ count_below-suc p k

pub sum_none : (f : ℕ → ℕ) → sum_below f 0 ≡ 0
unfolding sum_below
sum_none f = refl

pub sum_more : (f : ℕ → ℕ) (k : ℕ) → sum_below f (k + 1) ≡ sum_below f k + f k
unfolding sum_below
sum_more f k = let next : k + 1 ≡ suc k = omega arith in ap (sum_below f) next

-- it was gone through, where its reply is told to no one
pub quiet_still : (kinds : List Meaning) (net : List NodeDecl) (s : State) (c : Command) (log : Option (List TableEvent)) → is_change c ≡ false → IsTurned (IsTurn kinds net s c) s None None log log
quiet_still kinds net s c log e = record {
  turn = reply_turn (reply kinds net s.book c) s;
  is_turn = still_turn kinds net s c e;
  logged = Logged-none log log refl;
  written = refl;
  left = refl;
}

-- so was a change
pub quiet_changed : (P : Turn → Type 0) (next : State) (told : List ℕ) (log log' : Option (List TableEvent)) → IsChanged P next told log log' → IsTurned P next None None log log'
quiet_changed P next told log log' c = record {
  turn = c.turn;
  is_turn = c.is_turn;
  logged = c.logged;
  written = refl;
  left = c.left;
}

-- one command more of those that pass a test
passing_more : (p : Command → ℕ → ℕ → Bool) (s : State) (cs : List Command) (ts : List Turn) (c : Command) (t : Turn) → length ts ≡ length cs → passing_turns p s (cs ++ c ∷ []) (ts ++ t ∷ []) ≡ passing_turns p s cs ts + (if p c (length (state_after s ts).book) (length t.next.book) then 1 else 0)
passing_more p s [] [] c t e = turned (if p c (length s.book) (length t.next.book) then 1 else 0)
  where
    turned : (n : ℕ) → n + 0 ≡ 0 + n
    turned n = omega arith
passing_more p s [] (u ∷ us) c t e = absurd (omega (arith, e))
passing_more p s (d ∷ ds) [] c t e = absurd (omega (arith, e))
passing_more p s (d ∷ ds) (u ∷ us) c t e =
    let rest : length us ≡ length ds = omega (arith, e) in
    let here : ℕ = if p d (length s.book) (length u.next.book) then 1 else 0 in
    ap (λ (n : ℕ). here + n) (passing_more p u.next ds us c t rest)
    ∙ sym (add_assoc here (passing_turns p u.next ds us) (if p c (length (state_after u.next us).book) (length t.next.book) then 1 else 0))

-- so many commands of a demonstration were gone through, and so many grants were made and revoked
pub record IsTallied (kinds : List Meaning) (net : List NodeDecl) (commands : List Command) (count : ℕ) (s : State) (log log' : Option (List TableEvent)) (granted revoked : ℕ) : Type 0 where
  pub gone : IsGone kinds net commands count s None None log log'
  pub granted_are : granted ≡ passing_turns has_granted start (take count commands) gone.turns
  pub revoked_are : revoked ≡ passing_turns has_revoked start (take count commands) gone.turns

-- the same where the units are made already, with this log: whatever the log was before they were made
abbrev pub IsTalliedOn : List Meaning → List NodeDecl → List Command → ℕ → State → Option (List TableEvent) → Option (List TableEvent) → ℕ → ℕ → Type 0
IsTalliedOn kinds net commands count s made log' granted revoked = (log : Option (List TableEvent)) → Logged log made (make_turn kinds net).events → IsTallied kinds net commands count s log log' granted revoked

-- the units were made, and no command was gone through
pub tallied_start : (kinds : List Meaning) (net : List NodeDecl) (commands : List Command) (i : ℕ) (s : State) (log log' : Option (List TableEvent)) → IsLawfulNet kinds net → i ≡ 0 → s ≡ start → GivesOwed kinds net s.book → Logged log log' (make_turn kinds net).events → IsTallied kinds net commands i s log log' 0 0
tallied_start kinds net commands i s log log' known first is owed made =
    let empty : GivesOwed kinds net [] = subst (λ (z : State). GivesOwed kinds net z.book) is owed in
    let begun : IsTallied kinds net commands 0 start log log' 0 0 = record {
      gone = gone_start kinds net commands 0 start None None log log' known refl refl empty refl made;
      granted_are = refl;
      revoked_are = refl;
    } in
    subst (λ (n : ℕ). IsTallied kinds net commands n s log log' 0 0) (sym first) (subst (λ (z : State). IsTallied kinds net commands 0 z log log' 0 0) (sym is) begun)

-- one command more was gone through
pub tallied_more : (kinds : List Meaning) (net : List NodeDecl) (commands : List Command) (i : ℕ) (s : State) (c : Command) (log log' log'' : Option (List TableEvent)) (granted revoked granted' revoked' : ℕ) (next : State) → IsTallied kinds net commands i s log log' granted revoked → i < length commands → c ≡ get_or commands i c → IsTurned (IsTurn kinds net s c) next None None log' log'' → GivesOwed kinds net next.book
    → granted' ≡ granted + (if has_granted c (length s.book) (length next.book) then 1 else 0)
    → revoked' ≡ revoked + (if has_revoked c (length s.book) (length next.book) then 1 else 0)
    → IsTallied kinds net commands (i + 1) next log log'' granted' revoked'
tallied_more kinds net commands i s c log log' log'' granted revoked granted' revoked' next f within at turned owed one other =
    subst (λ (z : State). IsTallied kinds net commands (i + 1) z log log'' granted' revoked') turned.left (record {
      gone = gone;
      granted_are = one ∙ ap (λ (n : ℕ). n + (if has_granted c (length s.book) (length next.book) then 1 else 0)) f.granted_are ∙ counted has_granted;
      revoked_are = other ∙ ap (λ (n : ℕ). n + (if has_revoked c (length s.book) (length next.book) then 1 else 0)) f.revoked_are ∙ counted has_revoked;
    })
  where
    owed_there : GivesOwed kinds net turned.turn.next.book
    owed_there = subst (λ (z : State). GivesOwed kinds net z.book) (sym turned.left) owed

    gone : IsGone kinds net commands (i + 1) turned.turn.next None None log log''
    gone = gone_more kinds net commands i s c turned.turn None None None log log' log'' f.gone within at turned.is_turn owed_there turned.written turned.logged

    turns : gone.turns ≡ f.gone.turns ++ turned.turn ∷ []
    turns = more_turns kinds net commands i s c turned.turn None None None log log' log'' f.gone within at turned.is_turn owed_there turned.written turned.logged

    first : take (i + 1) commands ≡ take i commands ++ c ∷ []
    first = take_more commands i c within ∙ ap (λ (e : Command). take i commands ++ e ∷ []) (sym at)

    counted : (p : Command → ℕ → ℕ → Bool) → passing_turns p start (take i commands) f.gone.turns + (if p c (length s.book) (length next.book) then 1 else 0) ≡ passing_turns p start (take (i + 1) commands) gone.turns
    counted p =
        ap (λ (z : State). passing_turns p start (take i commands) f.gone.turns + (if p c (length z.book) (length next.book) then 1 else 0)) (sym f.gone.left)
        ∙ ap (λ (z : State). passing_turns p start (take i commands) f.gone.turns + (if p c (length (state_after start f.gone.turns).book) (length z.book) then 1 else 0)) (sym turned.left)
        ∙ sym (passing_more p start (take i commands) f.gone.turns c turned.turn (turns_count kinds net start (take i commands) f.gone.turns f.gone.happened))
        ∙ ap (λ (cs : List Command). passing_turns p start cs (f.gone.turns ++ turned.turn ∷ [])) (sym first)
        ∙ ap (passing_turns p start (take (i + 1) commands)) (sym turns)

-- a demonstration that was gone through, and whose line was written as far as the status tells
pub summed_up : (kinds : List Meaning) (net : List NodeDecl) (agents : ℕ) (commands : List Command) (i status : ℕ) (s : State) (before after : Option (List ℕ)) (log log' : Option (List TableEvent)) (sizes : List UnitSize) (told' : Option (List UnitWords)) (granted revoked : ℕ) (done failed : Bool) → i ≡ length commands → HasTables kinds net s.book sizes told' → IsTallied kinds net commands i s log log' granted revoked → (status == 0) ≡ done → (status == 3) ≡ failed → (status ≡ 0) ⊎ ((status ≡ 3) ⊎ (status ≡ 7))
    → IsWritten before after done failed (summary_text (summary_with kinds net agents granted revoked s.book))
    → IsSummedUp kinds net agents commands status before after log log' sizes told'
summed_up kinds net agents commands i status s before after log log' sizes told' granted revoked done failed over has f is_done is_failed ended w = record {
  played = played;
  written = subst (λ (t : List ℕ). IsWritten before after (status == 0) (status == 3) t) (ap summary_text counts) here;
  ended = ended;
}
  where
    here : IsWritten before after (status == 0) (status == 3) (summary_text (summary_with kinds net agents granted revoked s.book))
    here = subst (λ (b : Bool). IsWritten before after (status == 0) b (summary_text (summary_with kinds net agents granted revoked s.book))) (sym is_failed) (subst (λ (b : Bool). IsWritten before after b failed (summary_text (summary_with kinds net agents granted revoked s.book))) (sym is_done) w)

    played : IsPlayed kinds net commands 0 None None log log' sizes told'
    played = played_whole kinds net commands i 0 s None None log log' sizes told' over refl has f.gone

    turns : played.turns ≡ f.gone.turns
    turns = whole_turns kinds net commands i 0 s None None log log' sizes told' over refl has f.gone

    all : take i commands ≡ commands
    all = ap (λ n. take n commands) over ∙ take-length commands

    counted : (p : Command → ℕ → ℕ → Bool) (n : ℕ) → n ≡ passing_turns p start (take i commands) f.gone.turns → n ≡ passing_turns p start commands played.turns
    counted p n e = e ∙ ap (λ (cs : List Command). passing_turns p start cs f.gone.turns) all ∙ ap (passing_turns p start commands) (sym turns)

    book : s.book ≡ (state_after start played.turns).book
    book = ap (λ (z : State). z.book) (sym f.gone.left) ∙ ap (λ (ts : List Turn). (state_after start ts).book) (sym turns)

    counts : ◌≡◌ {A = Summary} (summary_with kinds net agents granted revoked s.book) (summary_of kinds net agents commands played.turns)
    counts = λ j. summary_with kinds net agents (counted has_granted granted f.granted_are j) (counted has_revoked revoked f.revoked_are j) (book j)

-- by what ended it

-- the units were not made
pub shown_unmade : {X : Type 0} (kinds : List Meaning) (net : List NodeDecl) (agents : ℕ) (commands : List Command) (r : Result X DeviceOrMemory) (fault : DeviceOrMemory) (ended : Result ℕ RunHalt) (before : Option (List ℕ)) (log log' : Option (List TableEvent)) (sizes : List UnitSize) (told told' : Option (List UnitWords)) → IsLawfulNet kinds net → r ≡ Err fault → ended ≡ Err (make_halt fault) → IfSome told (λ ts. sizes_of ts ≡ []) → AreUnitsMade (tables_of_set (fresh_set kinds net)) (is_ok r) (is_device_fault r) log log' sizes told told' → IsShown kinds net agents commands (ending_status ended) before before log log' sizes told'
shown_unmade kinds net agents commands r fault ended before log log' sizes told told' known is by none made = inr (record {
  played = unmade_by kinds net commands r fault ended None None log log' sizes told told' known is by refl none made;
  why = subst (λ (e : Result ℕ RunHalt). (ending_status e ≡ 6) ⊎ (ending_status e ≡ 7)) (sym by) (either fault);
  unwritten = refl;
})
  where
    either : (f : DeviceOrMemory) → (ending_status (Err (make_halt f)) ≡ 6) ⊎ (ending_status (Err (make_halt f)) ≡ 7)
    either Device = inl refl
    either OutOfMemory = inr refl

-- a command was left inside its turn, or before it, on a device that had the tables of the book
pub shown_halted : {D : Type 0} (kinds : List Meaning) (net : List NodeDecl) (agents : ℕ) (commands : List Command) (i : ℕ) (c : Command) (s next : State) (r : Result (Unit {0}) RunHalt) (halt : RunHalt) (ended : Result ℕ RunHalt) (before : Option (List ℕ)) (log : Option (List TableEvent)) (units : D → List UnitSize) (words : D → Option (List UnitWords)) (logged : D → Option (List TableEvent)) (d d' : D) (granted revoked : ℕ) → r ≡ Err halt → ended ≡ Err halt → is_write_halt r ≡ false → i < length commands → c ≡ get_or commands i c → HasTables kinds net s.book (units d) (words d) → IsTallied kinds net commands i s log (logged d) granted revoked → CameThrough kinds net s.book (IsTurn kinds net s c) r next None None units words logged d d' → IsShown kinds net agents commands (ending_status ended) before before log (logged d') (units d') (words d')
shown_halted kinds net agents commands i c s next r halt ended before log units words logged d d' granted revoked is by no_write within at has f came = inr (record {
  played = halted_by kinds net commands i c s next r halt ended None None None log units words logged d d' is by within at has f.gone came;
  why = subst (λ (e : Result ℕ RunHalt). (ending_status e ≡ 6) ⊎ (ending_status e ≡ 7)) (sym by) (either halt (subst (λ (q : Result (Unit {0}) RunHalt). is_write_halt q ≡ false) is no_write));
  unwritten = refl;
})
  where
    either : (h : RunHalt) → is_write_halt {A = Unit {0}} (Err h) ≡ false → (ending_status (Err h) ≡ 6) ⊎ (ending_status (Err h) ≡ 7)
    either WriteFault e = cc
    either DeviceFault e = inl refl
    either NoMemory e = inr refl

-- there was no memory to make a command
pub shown_unread : (kinds : List Meaning) (net : List NodeDecl) (agents : ℕ) (commands : List Command) (i : ℕ) (s : State) (ended : Result ℕ RunHalt) (before : Option (List ℕ)) (log log' : Option (List TableEvent)) (sizes : List UnitSize) (told' : Option (List UnitWords)) (granted revoked : ℕ) → ended ≡ Err NoMemory → i ≤ length commands → HasTables kinds net s.book sizes told' → IsTallied kinds net commands i s log log' granted revoked → IsShown kinds net agents commands (ending_status ended) before before log log' sizes told'
shown_unread kinds net agents commands i s ended before log log' sizes told' granted revoked by within has f = inr (record {
  played = halted_unmade kinds net commands i s ended None None log log' sizes told' by within has f.gone;
  why = inr (ap ending_status by);
  unwritten = refl;
})

-- how a run ends that wrote its line
abbrev pub line_status : Result (Unit {0}) RunHalt → ℕ
line_status (Ok a) = 0
line_status (Err h) = ending_status (Err h)

-- all commands were gone through, and the line was written as far as it was
pub shown_written : (kinds : List Meaning) (net : List NodeDecl) (agents : ℕ) (commands : List Command) (i status : ℕ) (s : State) (r : Result (Unit {0}) RunHalt) (before after : Option (List ℕ)) (log log' : Option (List TableEvent)) (sizes : List UnitSize) (told' : Option (List UnitWords)) (granted revoked : ℕ) → length commands ≤ i → i ≤ length commands → HasTables kinds net s.book sizes told' → IsTallied kinds net commands i s log log' granted revoked → status ≡ line_status r → is_device_halt r ≡ false
    → IsWritten before after (is_ok r) (is_write_halt r) (summary_text (summary_with kinds net agents granted revoked s.book))
    → IsShown kinds net agents commands status before after log log' sizes told'
shown_written kinds net agents commands i status s r before after log log' sizes told' granted revoked over few has f is no_device w =
    inl (summed_up kinds net agents commands i status s before after log log' sizes told' granted revoked (is_ok r) (is_write_halt r) (omega (arith, over, few)) has f (zero_by r no_device is) (three_by r no_device is) (ended_by r no_device is) w)
  where
    zero_by : (q : Result (Unit {0}) RunHalt) → is_device_halt q ≡ false → status ≡ line_status q → (status == 0) ≡ is_ok q
    zero_by (Ok a) d e = ap (λ n. n == 0) e
    zero_by (Err WriteFault) d e = ap (λ n. n == 0) e
    zero_by (Err DeviceFault) d e = ap (λ n. n == 0) e
    zero_by (Err NoMemory) d e = ap (λ n. n == 0) e

    three_by : (q : Result (Unit {0}) RunHalt) → is_device_halt q ≡ false → status ≡ line_status q → (status == 3) ≡ is_write_halt q
    three_by (Ok a) d e = ap (λ n. n == 3) e
    three_by (Err WriteFault) d e = ap (λ n. n == 3) e
    three_by (Err DeviceFault) d e = ap (λ n. n == 3) e
    three_by (Err NoMemory) d e = ap (λ n. n == 3) e

    ended_by : (q : Result (Unit {0}) RunHalt) → is_device_halt q ≡ false → status ≡ line_status q → (status ≡ 0) ⊎ ((status ≡ 3) ⊎ (status ≡ 7))
    ended_by (Ok a) d e = inl e
    ended_by (Err WriteFault) d e = inr (inl e)
    ended_by (Err DeviceFault) d e = absurd (cc)
    ended_by (Err NoMemory) d e = inr (inr e)
