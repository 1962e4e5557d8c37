-- What the code keeps of a script: the book with its tables, the ids, and what is made of them once.
use Rattle.std.specs.Prelude.{◌≡◌, ◌<◌, ◌⊎◌, ℕ, true, List, length, Option, Result, Ok, Err, IsTrue, OnOk}
use Rattle.std.specs.List.{list_all}
use Rattle.std.specs.Option.{IfSome}
use Rattle.dn_base.specs.declared.device.TableEvent.{TableEvent}
use Rattle.dn_base.specs.declared.device.UnitWords.{UnitWords}
use Rattle.dn_base.specs.Device.{Logged, UnitSize}
use Rattle.dn_base.specs.Outside.{Added, Faults}
use Rattle.dn_net.specs.declared.node.NodeDecl.{NodeDecl}
use Rattle.dn_kind.specs.Kind.{Meaning}
use Rattle.dn_kind.specs.Kinded.{kinds_of}
use Rattle.dn_flat.specs.Levels.{AreFlats}
use Rattle.dn_flat.specs.Stages.{IsFlat}
use Rattle.dn_tables.specs.Set.{IsOnDevice, words_of}
use Rattle.dn_image.specs.Image.{image}
use Rattle.dn_module.specs.declared.command.Command.{Command}
use Rattle.dn_module.specs.Commands.{names_within}
use Rattle.dn_book.specs.declared.grant.Grant.{Grant}
use Rattle.dn_book.specs.Book.{IsFaithful}
use Rattle.dn_book.specs.Tables.{IsKept}
use Rattle.dn_script.specs.declared.halt.RunHalt.{RunHalt}
use Rattle.dn_script.specs.declared.halt.RunHalt.TheVariants.{NoMemory}
use Rattle.dn_script.specs.declared.machine.Machine.{Machine}
use Rattle.dn_script.specs.declared.state.FirstView.{FirstView}
use Rattle.dn_script.specs.declared.state.Session.{Session as Kept}
use Rattle.dn_script.specs.Halt.{HaltsByDevice, ending_status}
use Rattle.dn_script.specs.Machine.{IsMachine}
use Rattle.dn_script.specs.Played.{CameIn}
use Rattle.dn_script.specs.Stopped.{AreLeft}
use Rattle.dn_script.specs.Turn.{State, Turn, start}
use Rattle.dn_script.specs.Unmade.{AreUnmade}

-- the state of the script
abbrev pub state_view : Kept → State
state_view k = record { book = k.book.grants; cleared = k.book.cleared; ids = k.ids }

-- the first agent is there, and what is kept of it is what it sees
pub record IsFirstView (net : List NodeDecl) (first : FirstView) : Type 0 where
  pub there : first.agent < length net
  pub flat : IsFlat net first.agent first.flat

-- no call of the device failed, the book is faithful and the tables keep it, the bytes are the image of
-- the tables, the views are those of the net, where they were made, and the nets that were not made are
-- such
pub record IsState (kinds : List Meaning) (net : List NodeDecl) (k : Kept) : Type 0 where
  pub unfailed : k.book.unfailed ≡ true
  pub faithful : IsFaithful net k.book.grants
  pub kept : IsKept net kinds k.book.grants k.book.set
  pub bytes : IfSome k.image (λ bytes. bytes ≡ image net kinds (words_of k.book.set))
  pub first : IfSome k.first (IsFirstView net)
  pub flat : IfSome k.flats (AreFlats net)
  pub unmade : AreUnmade net k.unmade

-- a machine, and the state in which a command meets it
pub record IsReady {K : Type 0} {V : K → Type 0} (means : (k : K) × V k → Meaning)
    (m : Machine K V) (k : Kept) : Type 0 where
  pub machine : IsMachine means m
  pub state : IsState (kinds_of means m.on.kinds.now) m.on.net.now k

-- the same where a device has the tables, with these units and words
pub record IsReadyOn {K : Type 0} {V : K → Type 0} (means : (k : K) × V k → Meaning)
    (m : Machine K V) (k : Kept) (units : List UnitSize) (words : Option (List UnitWords))
    : Type 0 where
  pub machine : IsMachine means m
  pub state : IsState (kinds_of means m.on.kinds.now) m.on.net.now k
  pub on_device : IsOnDevice k.book.set units words

-- a script may be gone through: its commands name nodes that are there, a gather has one to eight pieces, and the state
-- is that before the first of them
pub record MayBegin {K : Type 0} {V : K → Type 0} (means : (k : K) × V k → Meaning)
    (m : Machine K V) (k : Kept) (commands : List Command) (units : List UnitSize)
    (words : Option (List UnitWords)) : Type 0 where
  pub known : IsTrue (list_all (names_within (length m.on.net.now)) commands)
  pub ready : IsReadyOn means m k units words
  pub starts : state_view k ≡ start

-- the state behind a command that changes nothing: no more than what is kept of it may be new
pub record IsStill {K : Type 0} {V : K → Type 0} (means : (k : K) × V k → Meaning)
    (m : Machine K V) (k k' : Kept) : Type 0 where
  pub state : IsState (kinds_of means m.on.kinds.now) m.on.net.now k'
  pub book : k'.book ≡ k.book
  pub ids : k'.ids ≡ k.ids

-- a turn of this sort was gone through whole
pub record IsTurned (P : Turn → Type 0) (next : State) (before after : Option (List ℕ))
    (log log' : Option (List TableEvent)) : Type 0 where
  pub turn : Turn
  pub is_turn : P turn
  pub logged : Logged log log' turn.events
  pub written : Added before after turn.reply
  pub left : turn.next ≡ next

-- a run with this status stopped inside a turn of this sort, which begins at this book
pub record IsInside (kinds : List Meaning) (net : List NodeDecl) (book : List Grant)
    (P : Turn → Type 0) (status : ℕ) (before after : Option (List ℕ))
    (log log' : Option (List TableEvent)) (units' : List UnitSize) (told' : Option (List UnitWords))
    : Type 0 where
  pub turn : Turn
  pub is_turn : P turn
  pub came : CameIn turn status before after log log'
  pub left : AreLeft kinds net book turn.next.book status units' told'

-- for want of memory nothing was done to the device and nothing written
pub record IsBefore {D : Type 0} (halt : RunHalt) (before after : Option (List ℕ)) (device device' : D)
    : Type 0 where
  pub memory : halt ≡ NoMemory
  pub device_is : device' ≡ device
  pub sink_is : after ≡ before

-- a halt came inside a turn of this sort, which begins at this book, or before it
abbrev pub IsHalted : {D : Type 0} → List Meaning → List NodeDecl → List Grant → (Turn → Type 0) → RunHalt →
    Option (List ℕ) → Option (List ℕ) → (D → List UnitSize) → (D → Option (List UnitWords)) →
    (D → Option (List TableEvent)) → D → D → Type 0
IsHalted kinds net book P h before after units words log device device' =
    IsBefore h before after device device'
    ⊎ IsInside kinds net book P (ending_status (Err h)) before after (log device) (log device')
    (units device') (words device')

-- how far a command came whose turns are of this sort and begin at this book
abbrev pub CameThrough : {A D : Type 0} → List Meaning → List NodeDecl → List Grant → (Turn → Type 0) →
    Result A RunHalt → State → Option (List ℕ) → Option (List ℕ) → (D → List UnitSize) →
    (D → Option (List UnitWords)) → (D → Option (List TableEvent)) → D → D → Type 0
CameThrough kinds net book P (Ok a) next before after units words log device device' =
    IsTurned P next before after (log device) (log device')
CameThrough kinds net book P (Err h) next before after units words log device device' =
    IsHalted kinds net book P h before after units words log device device'

-- the events of a turn of this sort were added: its reply is to be written still
pub record IsChanged (P : Turn → Type 0) (next : State) (reply : List ℕ)
    (log log' : Option (List TableEvent)) : Type 0 where
  pub turn : Turn
  pub is_turn : P turn
  pub logged : Logged log log' turn.events
  pub replied : turn.reply ≡ reply
  pub left : turn.next ≡ next

-- how far a change came whose turns are of this sort and begin at this book, whatever was written before
abbrev pub CameThroughChange : {D : Type 0} → List Meaning → List NodeDecl → List Grant → (Turn → Type 0) →
    Result (List ℕ) RunHalt → State → (D → List UnitSize) → (D → Option (List UnitWords)) →
    (D → Option (List TableEvent)) → D → D → Type 0
CameThroughChange kinds net book P (Ok reply) next units words log device device' =
    IsChanged P next reply (log device) (log device')
CameThroughChange kinds net book P (Err h) next units words log device device' =
    (told : Option (List ℕ)) → IsHalted kinds net book P h told told units words log device device'

-- What a change leaves whose turns are of this sort: how far it came; where it was made, what the next
-- command meets; and the device counted its fault.
pub record IsChangeDone {K : Type 0} {V : K → Type 0} {D : Type 0} (means : (k : K) × V k → Meaning)
    (m : Machine K V) (P : Turn → Type 0) (result : Result (List ℕ) RunHalt) (k k' : Kept)
    (units : D → List UnitSize) (words : D → Option (List UnitWords)) (faults : D → Faults)
    (log : D → Option (List TableEvent)) (device device' : D) : Type 0 where
  pub changed : CameThroughChange (kinds_of means m.on.kinds.now) m.on.net.now k.book.grants P result
      (state_view k') units words log device device'
  pub ready : OnOk result (IsReadyOn means m k' (units device') (words device'))
  pub halted : HaltsByDevice result (faults device) (faults device')
