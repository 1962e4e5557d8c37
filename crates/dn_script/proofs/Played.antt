-- How far a run comes over a script, turn by turn.
use Rattle.std.proofs.Common.{◌≡◌, ◌≢◌, ◌∙◌, ap, sym, subst, refl, arith, ℕ, zero, suc, ◌+◌, ◌<◌, ◌≤◌, ◌⊎◌, inl, inr, Bool, true, false, List, [], ◌∷◌, ◌++◌, map, take, length, get_or, Option, Some, None, Result, Err, is_ok, append-nil, length-append}
use Rattle.std.specs.Option.{IfSome, option_map}
use Rattle.std.proofs.lemmas.List.{take_more, take-append-le, length-map, length-take-le, take_at}
use Rattle.std.proofs.lemmas.Grind.{flat_map-append}
use Rattle.std.proofs.Math.Seq.{take-length}
use Rattle.dn_base.specs.declared.device.TableEvent.{TableEvent}
use Rattle.dn_base.specs.declared.device.UnitWords.{UnitWords}
use Rattle.dn_base.specs.declared.device.DeviceOrMemory.{DeviceOrMemory}
use Rattle.dn_base.specs.declared.device.DeviceOrMemory.TheVariants.{Device, OutOfMemory}
use Rattle.dn_base.specs.Device.{Logged, UnitSize, is_device_fault, sizes_of}
use Rattle.dn_base.specs.Outside.{Added}
use Rattle.dn_base.proofs.Lists.{take_past}
use Rattle.dn_base.proofs.Logs.{Logged-then}
use Rattle.dn_base.proofs.Orders.{cases_lt}
use Rattle.dn_base.proofs.Told.{Added-none, Added-then}
use Rattle.dn_net.specs.declared.node.NodeDecl.{NodeDecl}
use Rattle.dn_kind.specs.Kind.{Meaning}
use Rattle.dn_tables.specs.Set.{fresh_set, tables_of_set}
use Rattle.dn_tables.specs.Writes.{AreUnitsMade, make_event}
use Rattle.dn_tables.proofs.Devices.{device_told}
use Rattle.dn_tables.proofs.Fresh.{fresh_units}
use Rattle.dn_book.specs.Tables.{tables_of}
use Rattle.dn_module.specs.declared.command.Command.{Command}
use Rattle.dn_script.specs.declared.halt.RunHalt.{RunHalt}
use Rattle.dn_script.specs.declared.halt.RunHalt.TheVariants.{WriteFault, DeviceFault, NoMemory}
use Rattle.dn_script.specs.Books.{GivesOwed}
use Rattle.dn_script.specs.Halt.{ending_status, is_free_status, make_halt}
use Rattle.dn_script.specs.Made.{AreMadeSoFar, TellsBook, made_tables}
use Rattle.dn_script.specs.Played.{CameIn, CameTo, IsPlayed, make_turn, turn_at}
use Rattle.dn_script.specs.State.{CameThrough, IsHalted, IsTurned}
use Rattle.dn_script.specs.Stopped.{AreCaught, AreLeft}
use Rattle.dn_script.specs.Turn.{AreTurns, IsTurn, State, Turn, events_of, replies_of, reply_turn, start, state_after}
use Rattle.dn_script.proofs.Empty.{fresh_tables}
use Rattle.dn_script.proofs.Kept.{IsLawfulNet}
use Rattle.dn_script.proofs.Scripts.{added_given}
use Rattle.dn_script.proofs.Sizes.{HasTables}

-- the units as they are made are those of a fresh set
making_tables : (kinds : List Meaning) (net : List NodeDecl) → tables_of_set (fresh_set kinds net) ≡ made_tables kinds net
making_tables kinds net = device_told (fresh_set kinds net) net (tables_of net kinds []) (fresh_units kinds net) (fresh_tables kinds net)

-- the events of the making
making_events : (kinds : List Meaning) (net : List NodeDecl) → map make_event (tables_of_set (fresh_set kinds net)) ≡ (make_turn kinds net).events
making_events kinds net = ap (map make_event) (making_tables kinds net)

-- turns

state_last : (s : State) (ts : List Turn) (t : Turn) → state_after s (ts ++ t ∷ []) ≡ t.next
state_last s [] t = refl
state_last s (u ∷ us) t = state_last u.next us t

-- one more turn
turns_more : (kinds : List Meaning) (net : List NodeDecl) (s : State) (cs : List Command) (ts : List Turn) (c : Command) (t : Turn) → AreTurns kinds net s cs ts → IsTurn kinds net (state_after s ts) c t → AreTurns kinds net s (cs ++ c ∷ []) (ts ++ t ∷ [])
turns_more kinds net s [] ts c t h is =
    (t, [], ap (λ l. l ++ t ∷ []) h, subst (λ l. IsTurn kinds net (state_after s l) c t) h is, refl)
turns_more kinds net s (d ∷ ds) ts c t h is =
    let later = turns_more kinds net h.0.next ds h.1 c t h.4 (subst (λ l. IsTurn kinds net (state_after s l) c t) h.2 is) in
    (h.0, h.1 ++ t ∷ [], ap (λ l. l ++ t ∷ []) h.2, h.3, later)

-- as many turns as commands
pub turns_count : (kinds : List Meaning) (net : List NodeDecl) (s : State) (cs : List Command) (ts : List Turn) → AreTurns kinds net s cs ts → length ts ≡ length cs
turns_count kinds net s [] ts h = ap length h
turns_count kinds net s (d ∷ ds) ts h = ap length h.2 ∙ ap suc (turns_count kinds net h.0.next ds h.1 h.4)

events_more : (ts : List Turn) (t : Turn) → events_of (ts ++ t ∷ []) ≡ events_of ts ++ t.events
events_more ts t = flat_map-append (λ u. u.events) ts (t ∷ []) ∙ ap (λ l. events_of ts ++ l) (append-nil t.events)

replies_more : (ts : List Turn) (t : Turn) → replies_of (ts ++ t ∷ []) ≡ replies_of ts ++ t.reply
replies_more ts t = flat_map-append (λ u. u.reply) ts (t ∷ []) ∙ ap (λ l. replies_of ts ++ l) (append-nil t.reply)

-- the book gives what it owes after each number of turns
abbrev pub AreBooks : List Meaning → List NodeDecl → List Turn → Type 0
AreBooks kinds net ts = (count : ℕ) → count ≤ length ts → GivesOwed kinds net (state_after start (take count ts)).book

-- the same for one more turn
books_more : (kinds : List Meaning) (net : List NodeDecl) (ts : List Turn) (t : Turn) → AreBooks kinds net ts → GivesOwed kinds net t.next.book → AreBooks kinds net (ts ++ t ∷ [])
books_more kinds net ts t before last count l = by (cases_lt (length ts) count)
  where
    size : length (ts ++ t ∷ []) ≡ length ts + 1
    size = length-append ts (t ∷ [])

    by : (length ts < count) ⊎ (count ≤ length ts) → GivesOwed kinds net (state_after start (take count (ts ++ t ∷ []))).book
    by (inr few) = subst (λ (l : List Turn). GivesOwed kinds net (state_after start l).book) (sym (take-append-le count ts (t ∷ []) few)) (before count few)
    by (inl more) =
        let whole : take count (ts ++ t ∷ []) ≡ ts ++ t ∷ [] = take_past (ts ++ t ∷ []) count (omega (arith, size, more)) in
        subst (λ (s : State). GivesOwed kinds net s.book) (sym (ap (state_after start) whole ∙ state_last start ts t)) last

-- the units were made, and so many commands were answered, which left a state
pub record IsGone (kinds : List Meaning) (net : List NodeDecl) (commands : List Command) (count : ℕ) (s : State) (before after : Option (List ℕ)) (log log' : Option (List TableEvent)) : Type 0 where
  pub known : IsLawfulNet kinds net
  pub turns : List Turn
  pub happened : AreTurns kinds net start (take count commands) turns
  pub left : state_after start turns ≡ s
  pub books : AreBooks kinds net turns
  pub written : Added before after (replies_of (make_turn kinds net ∷ turns))
  pub logged : Logged log log' (events_of (make_turn kinds net ∷ turns))

-- the same where the units are made already, with this log: whatever the log was before they were made
abbrev pub IsGoneOn : List Meaning → List NodeDecl → List Command → ℕ → State → Option (List ℕ) → Option (List ℕ) → Option (List TableEvent) → Option (List TableEvent) → Type 0
IsGoneOn kinds net commands count s before after made log' = (log : Option (List TableEvent)) → Logged log made (make_turn kinds net).events → IsGone kinds net commands count s before after log log'

-- its events were added, where each unit was made
pub making_told : (kinds : List Meaning) (net : List NodeDecl) (log log' : Option (List TableEvent)) (sizes : List UnitSize) (told told' : Option (List UnitWords)) → AreUnitsMade (tables_of_set (fresh_set kinds net)) true false log log' sizes told told' → Logged log log' (make_turn kinds net).events
making_told kinds net log log' sizes told told' made =
    let tables : List UnitWords = tables_of_set (fresh_set kinds net) in
    let whole : take made.made tables ≡ tables = ap (λ n. take n tables) (made.all refl) ∙ take-length tables in
    subst (λ es. Logged log log' es) (ap (map make_event) whole ∙ making_events kinds net) made.logged

-- the units were made, and no command was answered
pub gone_start : (kinds : List Meaning) (net : List NodeDecl) (commands : List Command) (i : ℕ) (s : State) (a b : Option (List ℕ)) (log log' : Option (List TableEvent)) → IsLawfulNet kinds net → i ≡ 0 → s ≡ start → GivesOwed kinds net s.book → b ≡ a → Logged log log' (make_turn kinds net).events → IsGone kinds net commands i s a b log log'
gone_start kinds net commands i s a b log log' known first is owed same made =
    let empty : GivesOwed kinds net [] = subst (λ (z : State). GivesOwed kinds net z.book) is owed in
    let begun : IsGone kinds net commands 0 start a b log log' = record {
      known = known;
      turns = [];
      happened = refl;
      left = refl;
      books = λ count l. (let none : count ≡ 0 = omega (arith, l) in subst (λ n. GivesOwed kinds net (state_after start (take n [])).book) (sym none) empty);
      written = Added-none a b same;
      logged = subst (λ es. Logged log log' es) (sym (append-nil (make_turn kinds net).events)) made;
    } in
    subst (λ (n : ℕ). IsGone kinds net commands n s a b log log') (sym first) (subst (λ (z : State). IsGone kinds net commands 0 z a b log log') (sym is) begun)

-- one more command was answered
pub gone_more : (kinds : List Meaning) (net : List NodeDecl) (commands : List Command) (i : ℕ) (s : State) (c : Command) (t : Turn) (a b d : Option (List ℕ)) (log log' log'' : Option (List TableEvent)) → IsGone kinds net commands i s a b log log' → i < length commands → c ≡ get_or commands i c → IsTurn kinds net s c t → GivesOwed kinds net t.next.book → Added b d t.reply → Logged log' log'' t.events → IsGone kinds net commands (i + 1) t.next a d log log''
gone_more kinds net commands i s c t a b d log log' log'' g within at is owed w l =
    let next : take (i + 1) commands ≡ take i commands ++ c ∷ [] = take_more commands i c within ∙ ap (λ (e : Command). take i commands ++ e ∷ []) (sym at) in
    record {
      known = g.known;
      books = books_more kinds net g.turns t g.books owed;
      turns = g.turns ++ t ∷ [];
      happened = subst (λ cs. AreTurns kinds net start cs (g.turns ++ t ∷ [])) (sym next) (turns_more kinds net start (take i commands) g.turns c t g.happened (subst (λ z. IsTurn kinds net z c t) (sym g.left) is));
      left = state_last start g.turns t;
      written = subst (λ r. Added a d r) (sym (replies_more (make_turn kinds net ∷ g.turns) t)) (Added-then a b d _ _ g.written w);
      logged = subst (λ es. Logged log log'' es) (sym (events_more (make_turn kinds net ∷ g.turns) t)) (Logged-then log log' log'' _ _ g.logged l);
    }

-- the same where the state behind the turn has another form
pub gone_turned : (kinds : List Meaning) (net : List NodeDecl) (commands : List Command) (i : ℕ) (s next : State) (c : Command) (a b d : Option (List ℕ)) (log log' log'' : Option (List TableEvent)) → IsGone kinds net commands i s a b log log' → i < length commands → c ≡ get_or commands i c → IsTurned (IsTurn kinds net s c) next b d log' log'' → GivesOwed kinds net next.book → IsGone kinds net commands (i + 1) next a d log log''
gone_turned kinds net commands i s next c a b d log log' log'' g within at turned owed =
    let there : GivesOwed kinds net turned.turn.next.book = subst (λ (z : State). GivesOwed kinds net z.book) (sym turned.left) owed in
    subst (λ (z : State). IsGone kinds net commands (i + 1) z a d log log'') turned.left (gone_more kinds net commands i s c turned.turn a b d log log' log'' g within at turned.is_turn there turned.written turned.logged)

-- places of turns

turn_past : (ts : List Turn) → turn_at ts (length ts) ≡ reply_turn [] start
turn_past [] = refl
turn_past (t ∷ ts) = turn_past ts

turn_last : (ts : List Turn) (t : Turn) → turn_at (ts ++ t ∷ []) (length ts) ≡ t
turn_last [] t = refl
turn_last (u ∷ us) t = turn_last us t

-- the run stopped between two turns, or came to the end
pub came_whole : (ts : List Turn) (status : ℕ) (a b : Option (List ℕ)) (log log' : Option (List TableEvent)) → status ≢ 3 → status ≢ 6 → Added a b (replies_of ts) → Logged log log' (events_of ts) → (c : CameTo ts status a b log log') × (c.whole ≡ length ts)
came_whole ts status a b log log' not_sink not_device w l =
    let all : take (length ts) ts ≡ ts = take-length ts in (
      record {
        whole = length ts;
        events = 0;
        bytes = 0;
        logged = subst (λ es. Logged log log' es) (sym (append-nil (events_of (take (length ts) ts)) ∙ ap events_of all)) l;
        written = subst (λ r. Added a b r) (sym (append-nil (replies_of (take (length ts) ts)) ∙ ap replies_of all)) w;
        last = omega arith;
        in_order = λ _. refl;
        done = λ _. refl;
        sink = λ e. absurd (not_sink e);
        device = λ e. absurd (not_device e);
        between = λ _ _. sym (ap (λ (t : Turn). length t.events) (turn_past ts));
      },
      refl,
    )

-- the run stopped in a turn
pub came_in : (ts : List Turn) (t : Turn) (status : ℕ) (a b d : Option (List ℕ)) (log log' log'' : Option (List TableEvent)) → status ≢ 0 → Added a b (replies_of ts) → Logged log log' (events_of ts) → CameIn t status b d log' log'' → (c : CameTo (ts ++ t ∷ []) status a d log log'') × (c.whole ≡ length ts)
came_in ts t status a b d log log' log'' going w l c =
    let all : List Turn = ts ++ t ∷ [] in
    let front : take (length ts) all ≡ ts = take_at ts (t ∷ []) (length ts) refl in
    let here : turn_at all (length ts) ≡ t = turn_last ts t in
    let size : length all ≡ length ts + 1 = length-append ts (t ∷ []) in
    let es : events_of (take (length ts) all) ++ take c.events (turn_at all (length ts)).events ≡ events_of ts ++ take c.events t.events =
    ap (λ (us : List Turn). events_of us ++ take c.events (turn_at all (length ts)).events) front
    ∙ ap (λ (u : Turn). events_of ts ++ take c.events u.events) here in
    let rs : replies_of (take (length ts) all) ++ take c.bytes (turn_at all (length ts)).reply ≡ replies_of ts ++ take c.bytes t.reply =
    ap (λ (us : List Turn). replies_of us ++ take c.bytes (turn_at all (length ts)).reply) front
    ∙ ap (λ (u : Turn). replies_of ts ++ take c.bytes u.reply) here in (
      record {
        whole = length ts;
        events = c.events;
        bytes = c.bytes;
        logged = subst (λ x. Logged log log'' x) (sym es) (Logged-then log log' log'' _ _ l c.logged);
        written = subst (λ x. Added a d x) (sym rs) (Added-then a b d _ _ w c.written);
        last = omega (arith, size);
        in_order = λ less. c.in_order (subst (λ (u : Turn). c.events < length u.events) here less);
        done = λ e. absurd (going e);
        sink = λ e. subst (λ (u : Turn). c.bytes < length u.reply) (sym here) (c.sink e);
        device = λ e. subst (λ (u : Turn). c.events < length u.events) (sym here) (c.device e);
        between = λ _ e. subst (λ (u : Turn). c.events ≡ length u.events) (sym here) (c.between e);
      },
      refl,
    )

-- the run over a script

-- a status that is free is not one that is not
not_exact : (status : ℕ) → is_free_status status ≡ true → is_free_status status ≡ false → status ≡ 0
not_exact status free e = let f : true ≡ false = sym free ∙ e in cc

-- what is told of a device on which units were made, which had none
made_told : (tables : List UnitWords) (told told' : Option (List UnitWords)) → IfSome told (λ ts. sizes_of ts ≡ []) → told' ≡ option_map (λ before. before ++ tables) told → IfSome told' (λ ts. ts ≡ tables)
made_told tables told told' none is = subst (λ (o : Option (List UnitWords)). IfSome o (λ ts. ts ≡ tables)) (sym is) (by told none)
  where
    by : (o : Option (List UnitWords)) → IfSome o (λ ts. sizes_of ts ≡ []) → IfSome (option_map (λ before. before ++ tables) o) (λ ts. ts ≡ tables)
    by None e = tt
    by (Some []) e = refl
    by (Some (t ∷ ts)) e = absurd (cc)

-- not all units were made
pub played_unmade : (kinds : List Meaning) (net : List NodeDecl) (commands : List Command) (status : ℕ) (failed : Bool) (a b : Option (List ℕ)) (log log' : Option (List TableEvent)) (sizes : List UnitSize) (told told' : Option (List UnitWords)) → is_free_status status ≡ true → status ≢ 0 → status ≢ 3 → (status ≡ 6 → failed ≡ true) → IsLawfulNet kinds net → b ≡ a → IfSome told (λ ts. sizes_of ts ≡ []) → AreUnitsMade (tables_of_set (fresh_set kinds net)) false failed log log' sizes told told' → IsPlayed kinds net commands status a b log log' sizes told'
played_unmade kinds net commands status failed a b log log' sizes told told' free going not_sink device known same none made =
    let tables : List UnitWords = tables_of_set (fresh_set kinds net) in
    let first : take made.made tables ≡ take made.made (made_tables kinds net) = ap (take made.made) (making_tables kinds net) in
    let events : map make_event (take made.made tables) ≡ take made.made (make_turn kinds net).events = sym (take-map made.made tables) ∙ ap (take made.made) (making_events kinds net) in
    let count : length (make_turn kinds net).events ≡ length tables = ap length (sym (making_events kinds net)) ∙ length-map tables make_event in
    record {
      turns = [];
      few = omega arith;
      happened = refl;
      came = record {
        whole = 0;
        events = made.made;
        bytes = 0;
        logged = subst (λ es. Logged log log' es) events made.logged;
        written = Added-none a b same;
        last = omega arith;
        in_order = λ _. refl;
        done = λ e. absurd (going e);
        sink = λ e. absurd (not_sink e);
        device = λ e. let l = made.less (device e) in omega (arith, l, count);
        between = λ l _. absurd (omega (arith, l));
      };
      exact = not_exact status free;
      all = λ e. absurd (going e);
      made = record {
        all = λ l. absurd (omega (arith, l));
        first = λ _. made.units ∙ ap sizes_of first;
        unwritten = λ _. subst (λ (l : List UnitWords). IfSome told' (λ ts. ts ≡ l)) first (made_told (take made.made tables) told told' none made.on_device);
      };
      tables = λ _ l. absurd (omega (arith, l));
      books = λ count l. absurd (omega (arith, l));
      stopped = λ _ count e. absurd (omega (arith, e));
      flown = added_given kinds net [] [] known.lawful known.legal refl 0 made.made;
    }
  where
    take-map : (n : ℕ) (ts : List UnitWords) → take n (map make_event ts) ≡ map make_event (take n ts)
    take-map zero ts = refl
    take-map (suc n) [] = refl
    take-map (suc n) (t ∷ ts) = ap (λ l. make_event t ∷ l) (take-map n ts)

-- what was made where the first turn was gone through
made_whole : (kinds : List Meaning) (net : List NodeDecl) (whole events : ℕ) (sizes : List UnitSize) (told : Option (List UnitWords)) → 1 ≤ whole → sizes ≡ sizes_of (made_tables kinds net) → AreMadeSoFar kinds net whole events sizes told
made_whole kinds net whole events sizes told some all = record {
  all = λ _. all;
  first = λ none. absurd (omega (arith, some, none));
  unwritten = λ none. absurd (omega (arith, some, none));
}

-- so many turns are those of so many commands
happened_first : (kinds : List Meaning) (net : List NodeDecl) (commands : List Command) (i : ℕ) (ts : List Turn) → i ≤ length commands → AreTurns kinds net start (take i commands) ts → (length ts ≡ i) × AreTurns kinds net start (take (length ts) commands) ts
happened_first kinds net commands i ts l h =
    let size : length ts ≡ i = turns_count kinds net start (take i commands) ts h ∙ length-take-le i commands l in
    (size, subst (λ n. AreTurns kinds net start (take n commands) ts) (sym size) h)

-- all commands were answered
pub played_whole : (kinds : List Meaning) (net : List NodeDecl) (commands : List Command) (i status : ℕ) (s : State) (a b : Option (List ℕ)) (log log' : Option (List TableEvent)) (sizes : List UnitSize) (told' : Option (List UnitWords)) → i ≡ length commands → status ≡ 0 → HasTables kinds net s.book sizes told' → IsGone kinds net commands i s a b log log' → IsPlayed kinds net commands status a b log log' sizes told'
played_whole kinds net commands i status s a b log log' sizes told' over none has g =
    let h = happened_first kinds net commands i g.turns (omega (arith, over)) g.happened in
    let came = came_whole (make_turn kinds net ∷ g.turns) status a b log log' (λ e. let x = none in absurd (omega (arith, e, x))) (λ e. let x = none in absurd (omega (arith, e, x))) g.written g.logged in
    record {
      turns = g.turns;
      few = let e = h.0 in omega (arith, e, over);
      happened = h.1;
      came = came.0;
      exact = λ _. none;
      all = λ _. h.0 ∙ over;
      made = made_whole kinds net came.0.whole came.0.events sizes told' (let e = came.1 in omega (arith, e)) has.units;
      books = λ count l. (let e = came.1 in g.books count (omega (arith, l, e)));
      tables = λ _ _. subst (λ (z : State). TellsBook kinds net z.book told') (sym g.left) has.tables;
      stopped = λ six _ _. (let x = none in absurd (omega (arith, six, x)));
      flown = added_given kinds net _ g.turns g.known.lawful g.known.legal h.1 came.0.whole came.0.events;
    }

-- it stopped before a command for want of memory
pub played_before : (kinds : List Meaning) (net : List NodeDecl) (commands : List Command) (i status : ℕ) (s : State) (a b : Option (List ℕ)) (log log' : Option (List TableEvent)) (sizes : List UnitSize) (told' : Option (List UnitWords)) → i ≤ length commands → status ≡ 7 → HasTables kinds net s.book sizes told' → IsGone kinds net commands i s a b log log' → IsPlayed kinds net commands status a b log log' sizes told'
played_before kinds net commands i status s a b log log' sizes told' within is has g =
    let h = happened_first kinds net commands i g.turns within g.happened in
    let came = came_whole (make_turn kinds net ∷ g.turns) status a b log log' (λ e. absurd (omega (arith, e, is))) (λ e. absurd (omega (arith, e, is))) g.written g.logged in
    record {
      turns = g.turns;
      few = let e = h.0 in omega (arith, e, within);
      happened = h.1;
      came = came.0;
      books = λ count l. (let e = came.1 in g.books count (omega (arith, l, e)));
      exact = not_exact status (ap is_free_status is);
      all = λ e. absurd (omega (arith, e, is));
      made = made_whole kinds net came.0.whole came.0.events sizes told' (let e = came.1 in omega (arith, e)) has.units;
      tables = λ _ _. subst (λ (z : State). TellsBook kinds net z.book told') (sym g.left) has.tables;
      stopped = λ six _ _. absurd (omega (arith, six, is));
      flown = added_given kinds net _ g.turns g.known.lawful g.known.legal h.1 came.0.whole came.0.events;
    }

-- what is told inside the last turn, by the books before it and after it
caught_last : (kinds : List Meaning) (net : List NodeDecl) (ts : List Turn) (t : Turn) (s : State) (count : ℕ) (told : Option (List UnitWords)) → state_after start ts ≡ s → count ≡ length ts → IfSome told (AreCaught kinds net s.book t.next.book) → IfSome told (AreCaught kinds net (state_after start (take count (ts ++ t ∷ []))).book (state_after start (take (suc count) (ts ++ t ∷ []))).book)
caught_last kinds net ts t s count told left n caught =
    let all : List Turn = ts ++ t ∷ [] in
    let size : length all ≡ length ts + 1 = length-append ts (t ∷ []) in
    let first : take count all ≡ ts = ap (λ k. take k all) n ∙ take_at ts (t ∷ []) (length ts) refl in
    let whole : take (suc count) all ≡ ts ++ t ∷ [] = take_past all (suc count) (omega (arith, size, n)) in
    let before : state_after start (take count all) ≡ s = ap (state_after start) first ∙ left in
    let after : state_after start (take (suc count) all) ≡ t.next = ap (state_after start) whole ∙ state_last start ts t in
    subst (λ (z : State). IfSome told (AreCaught kinds net (state_after start (take count all)).book z.book)) (sym after)
    (subst (λ (z : State). IfSome told (AreCaught kinds net z.book t.next.book)) (sym before) caught)

-- it stopped in the turn of a command
pub played_in : (kinds : List Meaning) (net : List NodeDecl) (commands : List Command) (i status : ℕ) (s : State) (c : Command) (t : Turn) (a b d : Option (List ℕ)) (log log' log'' : Option (List TableEvent)) (sizes : List UnitSize) (told' : Option (List UnitWords)) → i < length commands → c ≡ get_or commands i c → is_free_status status ≡ true → status ≢ 0 → IsGone kinds net commands i s a b log log' → IsTurn kinds net s c t → CameIn t status b d log' log'' → AreLeft kinds net s.book t.next.book status sizes told' → IsPlayed kinds net commands status a d log log'' sizes told'
played_in kinds net commands i status s c t a b d log log' log'' sizes told' within at free going g is came left =
    let next : take (i + 1) commands ≡ take i commands ++ c ∷ [] = take_more commands i c within ∙ ap (λ (e : Command). take i commands ++ e ∷ []) (sym at) in
    let turns : AreTurns kinds net start (take (i + 1) commands) (g.turns ++ t ∷ []) = subst (λ cs. AreTurns kinds net start cs (g.turns ++ t ∷ [])) (sym next) (turns_more kinds net start (take i commands) g.turns c t g.happened (subst (λ z. IsTurn kinds net z c t) (sym g.left) is)) in
    let h = happened_first kinds net commands (i + 1) (g.turns ++ t ∷ []) (omega (arith, within)) turns in
    let stop = came_in (make_turn kinds net ∷ g.turns) t status a b d log log' log'' going g.written g.logged came in
    record {
      turns = g.turns ++ t ∷ [];
      few = let e = h.0 in omega (arith, e, within);
      happened = h.1;
      came = stop.0;
      books = λ count l. (let e = stop.1 in
          let few : count ≤ length g.turns = omega (arith, l, e) in
          subst (λ (ts : List Turn). GivesOwed kinds net (state_after start ts).book) (sym (take-append-le count g.turns (t ∷ []) few)) (g.books count few));
      exact = not_exact status free;
      all = λ e. absurd (going e);
      made = made_whole kinds net stop.0.whole stop.0.events sizes told' (let e = stop.1 in omega (arith, e)) left.units;
      tables = λ other _. subst (λ (z : State). TellsBook kinds net z.book told') (sym (state_last start g.turns t)) (left.tables other);
      stopped = λ six count e. (let w = stop.1 in caught_last kinds net g.turns t s count told' g.left (omega (arith, e, w)) (left.stopped six));
      flown = added_given kinds net _ (g.turns ++ t ∷ []) g.known.lawful g.known.legal h.1 stop.0.whole stop.0.events;
    }

-- by what stopped it

-- the units were not made
pub unmade_by : {X : Type 0} (kinds : List Meaning) (net : List NodeDecl) (commands : List Command) (r : Result X DeviceOrMemory) (fault : DeviceOrMemory) (ended : Result ℕ RunHalt) (a b : Option (List ℕ)) (log log' : Option (List TableEvent)) (sizes : List UnitSize) (told told' : Option (List UnitWords)) → IsLawfulNet kinds net → r ≡ Err fault → ended ≡ Err (make_halt fault) → b ≡ a → IfSome told (λ ts. sizes_of ts ≡ []) → AreUnitsMade (tables_of_set (fresh_set kinds net)) (is_ok r) (is_device_fault r) log log' sizes told told' → IsPlayed kinds net commands (ending_status ended) a b log log' sizes told'
unmade_by {X} kinds net commands r fault ended a b log log' sizes told told' known is by same none made =
    let given : AreUnitsMade (tables_of_set (fresh_set kinds net)) false (is_device_fault {A = X} (Err fault)) log log' sizes told told' = subst (λ (q : Result X DeviceOrMemory). AreUnitsMade (tables_of_set (fresh_set kinds net)) (is_ok q) (is_device_fault q) log log' sizes told told') is made in
    subst (λ (e : Result ℕ RunHalt). IsPlayed kinds net commands (ending_status e) a b log log' sizes told') (sym by) (go fault given)
  where
    go : (f : DeviceOrMemory) → AreUnitsMade (tables_of_set (fresh_set kinds net)) false (is_device_fault {A = X} (Err f)) log log' sizes told told' → IsPlayed kinds net commands (ending_status (Err (make_halt f))) a b log log' sizes told'
    go Device m = played_unmade kinds net commands 6 true a b log log' sizes told told' refl (λ e. absurd (omega (arith, e))) (λ e. absurd (omega (arith, e))) (λ e. refl) known same none m
    go OutOfMemory m = played_unmade kinds net commands 7 false a b log log' sizes told told' refl (λ e. absurd (omega (arith, e))) (λ e. absurd (omega (arith, e))) (λ e. absurd (omega (arith, e))) known same none m

-- a command was left inside its turn, or before it, on a device that had the tables of the book
pub halted_by : {X D : Type 0} (kinds : List Meaning) (net : List NodeDecl) (commands : List Command) (i : ℕ) (c : Command) (s next : State) (r : Result X RunHalt) (halt : RunHalt) (ended : Result ℕ RunHalt) (a b e : Option (List ℕ)) (log : Option (List TableEvent)) (units : D → List UnitSize) (words : D → Option (List UnitWords)) (logged : D → Option (List TableEvent)) (d d' : D) → r ≡ Err halt → ended ≡ Err halt → i < length commands → c ≡ get_or commands i c → HasTables kinds net s.book (units d) (words d) → IsGone kinds net commands i s a b log (logged d) → CameThrough kinds net s.book (IsTurn kinds net s c) r next b e units words logged d d' → IsPlayed kinds net commands (ending_status ended) a e log (logged d') (units d') (words d')
halted_by {X} {D} kinds net commands i c s next r halt ended a b e log units words logged d d' is by within at has g came =
    let given : IsHalted kinds net s.book (IsTurn kinds net s c) halt b e units words logged d d' = subst (λ (q : Result X RunHalt). CameThrough kinds net s.book (IsTurn kinds net s c) q next b e units words logged d d') is came in
    subst (λ (x : Result ℕ RunHalt). IsPlayed kinds net commands (ending_status x) a e log (logged d') (units d') (words d')) (sym by) (go given)
  where
    going : (h : RunHalt) → ending_status (Err h) ≢ 0
    going WriteFault x = absurd (omega (arith, x))
    going DeviceFault x = absurd (omega (arith, x))
    going NoMemory x = absurd (omega (arith, x))

    free : (h : RunHalt) → is_free_status (ending_status (Err h)) ≡ true
    free WriteFault = refl
    free DeviceFault = refl
    free NoMemory = refl

    go : IsHalted kinds net s.book (IsTurn kinds net s c) halt b e units words logged d d' → IsPlayed kinds net commands (ending_status (Err halt)) a e log (logged d') (units d') (words d')
    go (inl z) =
        let here : IsGone kinds net commands i s a e log (logged d') = record {
          known = g.known;
          books = g.books;
          turns = g.turns;
          happened = g.happened;
          left = g.left;
          written = subst (λ x. Added a x (replies_of (make_turn kinds net ∷ g.turns))) (sym z.sink_is) g.written;
          logged = subst (λ (x : D). Logged log (logged x) (events_of (make_turn kinds net ∷ g.turns))) (sym z.device_is) g.logged;
        } in
        let still : HasTables kinds net s.book (units d') (words d') = subst (λ (x : D). HasTables kinds net s.book (units x) (words x)) (sym z.device_is) has in
        played_before kinds net commands i (ending_status (Err halt)) s a e log (logged d') (units d') (words d') (omega (arith, within)) (ap (λ (h : RunHalt). ending_status (Err h)) z.memory) still here
    go (inr z) = played_in kinds net commands i (ending_status (Err halt)) s c z.turn a b e log (logged d) (logged d') (units d') (words d') within at (free halt) (going halt) g z.is_turn z.came z.left

-- it stopped for want of memory, before a command was made
pub halted_unmade : (kinds : List Meaning) (net : List NodeDecl) (commands : List Command) (i : ℕ) (s : State) (ended : Result ℕ RunHalt) (a b : Option (List ℕ)) (log log' : Option (List TableEvent)) (sizes : List UnitSize) (told' : Option (List UnitWords)) → ended ≡ Err NoMemory → i ≤ length commands → HasTables kinds net s.book sizes told' → IsGone kinds net commands i s a b log log' → IsPlayed kinds net commands (ending_status ended) a b log log' sizes told'
halted_unmade kinds net commands i s ended a b log log' sizes told' by within has g =
    subst (λ (e : Result ℕ RunHalt). IsPlayed kinds net commands (ending_status e) a b log log' sizes told') (sym by) (played_before kinds net commands i 7 s a b log log' sizes told' within refl has g)

-- the turns of what was gone through

pub more_turns : (kinds : List Meaning) (net : List NodeDecl) (commands : List Command) (i : ℕ) (s : State) (c : Command) (t : Turn) (a b d : Option (List ℕ)) (log log' log'' : Option (List TableEvent)) (g : IsGone kinds net commands i s a b log log') (within : i < length commands) (at : c ≡ get_or commands i c) (is : IsTurn kinds net s c t) (owed : GivesOwed kinds net t.next.book) (w : Added b d t.reply) (l : Logged log' log'' t.events) → (gone_more kinds net commands i s c t a b d log log' log'' g within at is owed w l).turns ≡ g.turns ++ t ∷ []
unfolding gone_more
more_turns kinds net commands i s c t a b d log log' log'' g within at is owed w l = refl

pub whole_turns : (kinds : List Meaning) (net : List NodeDecl) (commands : List Command) (i status : ℕ) (s : State) (a b : Option (List ℕ)) (log log' : Option (List TableEvent)) (sizes : List UnitSize) (told' : Option (List UnitWords)) (over : i ≡ length commands) (none : status ≡ 0) (has : HasTables kinds net s.book sizes told') (g : IsGone kinds net commands i s a b log log') → (played_whole kinds net commands i status s a b log log' sizes told' over none has g).turns ≡ g.turns
unfolding played_whole
whole_turns kinds net commands i status s a b log log' sizes told' over none has g = refl
