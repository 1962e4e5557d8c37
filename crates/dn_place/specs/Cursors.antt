-- Where a search stands among the hops that can come next.
use Rattle.std.specs.Prelude.{◌≡◌, ℕ, suc, ◌+◌, ◌-◌, ◌*◌, ◌/◌, ◌%◌, ◌^◌, ◌<◌, ◌≤◌, ◌⊎◌, true, false, List, [], ◌∷◌, ◌++◌, drop, length, Option, Some, None, IfSome}
use Rattle.std.specs.List.{All}
use Rattle.dn_net.specs.declared.node.Unit.{Unit as UnitPart}
use Rattle.dn_net.specs.Decode.{unit_at}
use Rattle.dn_flat.specs.Levels.{is_among}
use Rattle.dn_tables.specs.declared.placement.Hop.{Hop}
use Rattle.dn_tables.specs.Placement.{Place}
use Rattle.dn_placement.specs.Order.{precedes}
use Rattle.dn_place.specs.declared.cursor.HopCursor.{HopCursor}
use Rattle.dn_place.specs.declared.cursor.Inputs.{Inputs}
use Rattle.dn_place.specs.declared.exits.Exit.{Exit}
use Rattle.dn_place.specs.declared.slots.Input.{Input}
use Rattle.dn_place.specs.Candidates.{IsChosen, IsUnder, key_of_hops, to_output, to_unit}
use Rattle.dn_place.specs.Exits.{Ascend, IsOutput, IsSooner, has_exit}
use Rattle.dn_place.specs.Marks.{AreUnitsFrom}
use Rattle.dn_place.specs.Slots.{AreFreeTo, AreUsable, AreUseless}
use Rattle.dn_place.specs.Sought.{Sought}

-- a placement goes on with one of the inputs, or with one past them
pub record GoesByInput (s : Sought) (count : ℕ) (nearer : List Hop) (i : Inputs) (q : Place) : Type 0 where
  pub x : ℕ
  pub from : i.x ≤ x
  pub under : IsUnder s (to_output count nearer i.unit i.port i.y ++ x ∷ []) q

-- so it does where there are inputs
abbrev pub GoesByInputs : Sought → ℕ → List Hop → Option Inputs → Place → Type 0
GoesByInputs s count nearer None q = ⊥
GoesByInputs s count nearer (Some i) q = GoesByInput s count nearer i q

-- a placement goes on with an output of the unit that is listed
pub record GoesByExit (s : Sought) (count : ℕ) (nearer : List Hop) (unit : ℕ) (exits : List Exit) (q : Place)
    : Type 0 where
  pub port : ℕ
  pub y : ℕ
  pub listed : has_exit port y exits ≡ true
  pub under : IsUnder s (to_output count nearer unit port y) q

-- a placement goes on with a unit that is listed
pub record GoesByUnit (s : Sought) (count : ℕ) (nearer : List Hop) (units : List ℕ) (q : Place) : Type 0 where
  pub unit : ℕ
  pub listed : is_among unit units ≡ true
  pub under : IsUnder s (to_unit count nearer unit) q

-- a placement goes on with a hop that the cursor has yet to give
abbrev pub IsToCome : Sought → ℕ → List Hop → List ℕ → HopCursor → Place → Type 0
IsToCome s count nearer units c q =
    GoesByInputs s count nearer c.inputs q
    ⊎ (GoesByExit s count nearer c.unit (drop c.at c.exits.items) q
    ⊎ GoesByUnit s count nearer (drop c.begun units) q)

-- each placement that ends with the nearer hops goes on with a hop that the cursor has yet to give
abbrev pub AreAllToCome : Sought → ℕ → List Hop → List ℕ → HopCursor → Type 0
AreAllToCome s count nearer units c =
    (q : Place) → IsUnder s (key_of_hops count nearer) q → IsToCome s count nearer units c q

-- the inputs are those of this unit: each agrees with the output modulo the page, and ends within the slots
pub record IsInputRange (s : Sought) (u : UnitPart) (i : Inputs) : Type 0 where
  pub is_unit : unit_at s.net i.unit ≡ Some u
  pub page : i.page ≡ 2 ^ u.page
  pub agree : i.x % 2 ^ u.page ≡ i.y % 2 ^ u.page
  pub few : i.x ≤ 2 ^ 60
  pub within : i.last + s.request.size ≤ u.slots * 2 ^ u.page
  pub reached : i.y + s.request.size ≤ 2 ^ u.reach
  pub free : AreFreeTo s.slots i.unit (i.x / 2 ^ u.page) i.free

-- the inputs are those of an output that leads on, and no placement goes on with one past the last of them
pub record AreInputs (s : Sought) (count : ℕ) (nearer : List Hop) (i : Inputs) : Type 0 where
  pub u : UnitPart
  pub range : IsInputRange s u i
  pub output : IsOutput s.net u s.request nearer i.port i.y
  pub most : (q : Place) (x : ℕ) → IsUnder s (to_output count nearer i.unit i.port i.y ++ x ∷ []) q → i.x ≤ x →
      x ≤ i.last

-- an output of a unit that is there leads on
pub record IsOutputIn (s : Sought) (nearer : List Hop) (unit port y : ℕ) : Type 0 where
  pub u : UnitPart
  pub is_unit : unit_at s.net unit ≡ Some u
  pub leads : IsOutput s.net u s.request nearer port y

-- the outputs are those of a unit that lead on, they ascend, and each placement that goes on with the unit goes on with
-- one of them
pub record AreExitsOf (s : Sought) (count : ℕ) (nearer : List Hop) (unit : ℕ) (exits : List Exit) : Type 0 where
  pub each : All (λ e. IsOutputIn s nearer unit e.port e.y) exits
  pub order : Ascend exits
  pub all : (q : Place) → IsUnder s (to_unit count nearer unit) q → GoesByExit s count nearer unit exits q

-- the inputs are those of an output of this unit, before a bound on units, and before these outputs
pub record AreAtHand (s : Sought) (count : ℕ) (nearer : List Hop) (unit bound : ℕ) (rest : List Exit) (i : Inputs)
    : Type 0 where
  pub inputs : AreInputs s count nearer i
  pub same : i.unit ≡ unit
  pub below : unit < bound
  pub order : All (λ e. IsSooner i.port i.y e.port e.y) rest

-- an output of a unit before the bound leads on
pub record IsBelow (s : Sought) (nearer : List Hop) (unit bound : ℕ) (e : Exit) : Type 0 where
  pub below : unit < bound
  pub output : IsOutputIn s nearer unit e.port e.y

-- The units that are left are all from a bound on. The outputs of the unit that was begun last, and the inputs of its
-- output, lead on; these outputs ascend, and come after that of the inputs.
pub record IsCursor (s : Sought) (count : ℕ) (nearer : List Hop) (units : List ℕ) (c : HopCursor) : Type 0 where
  pub bound : ℕ
  pub left : AreUnitsFrom s.net bound (drop c.begun units)
  pub each : All (IsBelow s nearer c.unit bound) (drop c.at c.exits.items)
  pub order : Ascend (drop c.at c.exits.items)
  pub few : length c.exits.items < 2 ^ 64
  pub inputs : IfSome c.inputs (AreAtHand s count nearer c.unit bound (drop c.at c.exits.items))

-- how many inputs there are, at most
abbrev pub inputs_left : Option Inputs → ℕ
inputs_left None = 0
inputs_left (Some i) = suc i.last - i.x

-- What decreases as hops are given: the units left, then the outputs of the unit, then the inputs of the output. Of the
-- outputs there are fewer than 2 to the 64, of the inputs fewer than 2 to the 61.
abbrev pub hops_left : List ℕ → HopCursor → ℕ
hops_left units c = ((length units - c.begun) * 2 ^ 64 + (length c.exits.items - c.at)) * 2 ^ 61 + inputs_left c.inputs

-- The cursor has gone on without giving a hop: what was to come is to come yet, and less is left.
pub record GoesOnWithoutHop (s : Sought) (count : ℕ) (nearer : List Hop) (units : List ℕ) (old new : HopCursor) : Type 0 where
  pub cursor : IsCursor s count nearer units new
  pub keeps : (q : Place) → IsToCome s count nearer units old q → IsToCome s count nearer units new q
  pub fewer : hops_left units new < hops_left units old

-- The inputs at hand are gone through: what was to come is to come yet.
pub record LeavesInputs (s : Sought) (count : ℕ) (nearer : List Hop) (units : List ℕ) (old new : HopCursor)
    : Type 0 where
  pub cursor : IsCursor s count nearer units new
  pub none : new.inputs ≡ None
  pub keeps : (q : Place) → IsToCome s count nearer units old q → IsToCome s count nearer units new q
  pub fewer : hops_left units new ≤ hops_left units old

-- The cursor has given a hop, which can come next: each placement that was to come has this hop, or is to come yet and
-- stands after those that have it.
pub record GivesHop (s : Sought) (count : ℕ) (nearer : List Hop) (units : List ℕ) (old new : HopCursor) (hop : Hop)
    : Type 0 where
  pub cursor : IsCursor s count nearer units new
  pub chosen : IsChosen s count (hop ∷ nearer)
  pub parts : (q : Place) → IsToCome s count nearer units old q →
      IsUnder s (key_of_hops count (hop ∷ nearer)) q ⊎ IsToCome s count nearer units new q
  pub later : (p q : Place) → IsUnder s (key_of_hops count (hop ∷ nearer)) p → IsToCome s count nearer units new q →
      precedes s.net q p ≡ false
  pub fewer : hops_left units new < hops_left units old

-- an input is the first of them that may serve a hop at this place from the agent's end: it finds its slots usable
pub record IsUsableInput (s : Sought) (u : UnitPart) (place : ℕ) (i : Inputs) (input : Input) : Type 0 where
  pub from : i.x ≤ input.x
  pub to : input.x ≤ i.last
  pub agree : input.x % 2 ^ u.page ≡ i.y % 2 ^ u.page
  pub useless : AreUseless s u place (record { unit = i.unit; port = i.port; x = i.x; y = i.y }) input.x
  pub usable : AreUsable s.slots i.unit (input.x / 2 ^ u.page) ((input.x + s.request.size - 1) / 2 ^ u.page) i.port
      (i.y / 2 ^ u.page)
  pub free : AreFreeTo s.slots i.unit (input.x / 2 ^ u.page) input.free

-- so it is of inputs of a unit that is there
pub record IsNextUsable (s : Sought) (place : ℕ) (i : Inputs) (input : Input) : Type 0 where
  pub u : UnitPart
  pub is_unit : unit_at s.net i.unit ≡ Some u
  pub found : IsUsableInput s u place i input

-- the inputs are those of a unit that is there
pub record HasRange (s : Sought) (i : Inputs) : Type 0 where
  pub u : UnitPart
  pub range : IsInputRange s u i

-- none of the inputs serves a hop at this place
abbrev pub AreAllUseless : Sought → UnitPart → ℕ → Inputs → Type 0
AreAllUseless s u place i = AreUseless s u place (record { unit = i.unit; port = i.port; x = i.x; y = i.y }) (suc i.last)

-- so it is of inputs of a unit that is there
pub record HasNoneUsable (s : Sought) (place : ℕ) (i : Inputs) : Type 0 where
  pub u : UnitPart
  pub is_unit : unit_at s.net i.unit ≡ Some u
  pub useless : AreAllUseless s u place i
