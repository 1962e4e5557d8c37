-- What a call answers, held against its definition. Allocation failure is unspecified: the answer then says nothing.
-- Each type of faults has one function `fault_view` into the definition's faults, which gives none for allocation failure.
use Rattle.std.specs.Prelude.{◌≡◌, Option, Some, None, IfSome, Result, Ok, Err}

-- the value, seen by `view`, is what the definition makes; the fault is the definition's
abbrev pub Answers : {X Y E F : Type 0} → (X → Y) → (E → Option F) → Result X E → Result Y F → Type 0
Answers view fault_view (Ok x) made = made ≡ Ok (view x)
Answers view fault_view (Err e) made = IfSome (fault_view e) (λ f. made ≡ Err f)

-- a test passes where the definition finds no fault; the fault is the one that it finds
abbrev pub Checks : {X E F : Type 0} → (E → Option F) → Result X E → Option F → Type 0
Checks fault_view (Ok x) found = found ≡ None
Checks fault_view (Err e) found = IfSome (fault_view e) (λ f. found ≡ Some f)
