-- What a search answers, by what it found.
use Rattle.std.proofs.Common.{◌≡◌, refl, Option, Some, None, Result, Ok, Err, IfOk, IfSome}
use Rattle.dn_vector.specs.Search.{IsFoundOr}

-- of what was found, and of there being none
pub found_or : {F E : Type 0} {Is Of : F → Type 0} {absent none : Type 0} (r : Result (Option F) E) → IfOk r (λ o. IfSome o Is) → IfOk r (λ o. o ≡ None → absent) → ((f : F) → Is f → Of f) → (absent → none) → IfOk r (IsFoundOr Of none)
found_or (Ok (Some f)) is away of off = of f is
found_or (Ok None) is away of off = off (away refl)
found_or (Err e) is away of off = tt

-- the same of a search that says both at once
pub found_on : {F E : Type 0} {Is Of : F → Type 0} {absent none : Type 0} (r : Result (Option F) E) → IfOk r (IsFoundOr Is absent) → ((f : F) → Is f → Of f) → (absent → none) → IfOk r (IsFoundOr Of none)
found_on (Ok (Some f)) is of off = of f is
found_on (Ok None) is of off = off is
found_on (Err e) is of off = tt
