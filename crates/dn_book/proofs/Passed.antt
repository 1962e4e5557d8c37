-- Rows of slots that are passed under some records are passed under others that hold the same there.
use Rattle.std.proofs.Common.{◌≡◌, ◌∙◌, sym, subst, refl, ℕ, zero, suc, ◌/◌, ◌^◌, inl, Bool, true, false, if◌then◌else◌, nat_le, List, [], Option, Some, None, IsTrue}
use Rattle.dn_base.proofs.Members.{member_left, member_right}
use Rattle.dn_net.specs.declared.node.Name.{Name}
use Rattle.dn_net.specs.declared.node.NodeDecl.{NodeDecl}
use Rattle.dn_net.specs.declared.node.Unit.{Unit as UnitPart}
use Rattle.dn_net.specs.Chain.{IsChain, Member}
use Rattle.dn_net.specs.Decode.{is_accepted, top, unit_at}
use Rattle.dn_net.specs.Legal.{IsLegalNet}
use Rattle.dn_kind.specs.declared.unit_kind.Record.{Record}
use Rattle.dn_kind.specs.Tables.{Extends, Held, StepUnder, output, steps_by_unit}
use Rattle.dn_kind.specs.Ways.{PassesIn, Slot, slot_in}
use Rattle.dn_kind.proofs.Ways.{chain_passes_slots, legal_one_row_of_slots}
use Rattle.dn_book.proofs.Through.{passed_held, passes_more}

-- the records hold in the slots of a row what others hold there
abbrev pub HoldAlong : Held → Held → List Slot → Type 0
HoldAlong h h' row = (s : Slot) → Member s row → (r : Record) → h s.unit s.slot ≡ Some r → h' s.unit s.slot ≡ Some r

-- a step by the record of a slot
step_where : (net : List NodeDecl) (h h' : Held) (x y : Name) (u : Option UnitPart) → HoldAlong h h' (slot_in x u) → Member y (steps_by_unit net h x u) → Member y (steps_by_unit net h' x u)
step_where net h h' x y None f m = m
step_where net h h' x y (Some u) f m = go (nat_le x.addr top) (h x.node (x.addr / 2 ^ u.page)) refl m
  where
    go : (b : Bool) (r : Option Record) → h x.node (x.addr / 2 ^ u.page) ≡ r → Member y (if b then output u r x.addr else []) → Member y (if b then output u (h' x.node (x.addr / 2 ^ u.page)) x.addr else [])
    go false r is n = n
    go true None is n = absurd n
    go true (Some r) is n = subst (λ s. Member y (output u s x.addr)) (sym (f (record { unit = x.node; slot = x.addr / 2 ^ u.page }) (inl refl) r is)) n

pub passes_where : (net : List NodeDecl) (h h' : Held) (k : ℕ) (x y : Name) (row : List Slot) → HoldAlong h h' row → PassesIn net h k x y row → PassesIn net h' k x y row
passes_where net h h' zero x y row f p = p
passes_where net h h' (suc k) x y row f p = (
  p.0,
  p.1,
  step_where net h h' x p.0 (unit_at net x.node) (λ s m. f s (subst (Member s) (sym p.3) (member_left (slot_in x (unit_at net x.node)) p.1 s m))) p.2,
  p.3,
  passes_where net h h' k p.0 y p.1 (λ s m. f s (subst (Member s) (sym p.3) (member_right (slot_in x (unit_at net x.node)) p.1 s m))) p.4,
)

-- A chain under more records stands under fewer too, where these bring the name to something: the name has one row of slots,
-- and each slot of it holds a record under the fewer.
pub chain_under_fewer : (net : List NodeDecl) (few more : Held) → IsLegalNet net → Extends few more → (x y z : Name) → IsTrue (is_accepted net y) → IsTrue (is_accepted net z) → (j k : ℕ) → IsChain (StepUnder net few) j x z → IsChain (StepUnder net more) k x y → IsChain (StepUnder net few) k x y
chain_under_fewer net few more legal ex x y z ay az j k c d = (chain_passes_slots net few k x y).1 high.0 (passes_where net more few k x y high.0 along high.1)
  where
    low : (row : List Slot) × PassesIn net few j x z row
    low = (chain_passes_slots net few j x z).0 c

    high : (row : List Slot) × PassesIn net more k x y row
    high = (chain_passes_slots net more k x y).0 d

    same : high.0 ≡ low.0
    same = legal_one_row_of_slots net more legal x y z high.0 low.0 ay az (k, high.1) (j, passes_more net few more ex j x z low.0 low.1)

    along : HoldAlong more few high.0
    along s m r e =
        let t = passed_held net few j x z low.0 s low.1 (subst (Member s) same m) in
        let f : Some t.0 ≡ Some r = sym (ex s.unit s.slot t.0 t.1) ∙ e in
        t.1 ∙ f
