-- The uses of slots, and the users that they are kept by.
use Rattle.std.proofs.Common.{◌≡◌, ◌<◌, ℕ, zero, suc, List, ◌∷◌, map, length, get_or, replicate, refl, sym, ap, ◌∙◌, arith}
use Rattle.std.proofs.lemmas.List.{get_or-map, length-map}
use Rattle.dn_tables.specs.declared.table.SlotUse.{SlotUse}
use Rattle.dn_tables.specs.declared.uses.Users.{Users}
use Rattle.dn_tables.specs.declared.uses.Users.TheVariants.{Sharing}
use Rattle.dn_tables.specs.Set.{no_use}
use Rattle.dn_tables.specs.Uses.{use_by}

-- slots that no live grant uses
pub unused_is : (n : ℕ) → map use_by (replicate n (Sharing 0)) ≡ replicate n no_use
unused_is zero = refl
unused_is (suc n) = ap (λ (l : List SlotUse). no_use ∷ l) (unused_is n)

-- a slot whose use is there has users
pub users_there : (users : List Users) (uses : List SlotUse) (slot : ℕ) → map use_by users ≡ uses → slot < length uses → slot < length users
users_there users uses slot view l =
    let same : length uses ≡ length users = sym (ap length view) ∙ length-map users use_by in
    omega arith

-- the use of a slot is that of its users
pub use_there : (users : List Users) (uses : List SlotUse) (slot : ℕ) (d : Users) (e : SlotUse) → map use_by users ≡ uses → slot < length uses → use_by (get_or users slot d) ≡ get_or uses slot e
use_there users uses slot d e view l =
    sym (get_or-map use_by users slot d e (users_there users uses slot view l)) ∙ ap (λ (u : List SlotUse). get_or u slot e) view
