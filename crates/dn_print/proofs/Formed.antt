-- Nodes whose names are full names and whose numbers fit in 64 bits: those that a text makes.
use Rattle.std.proofs.Common.{◌≡◌, ◌⊎◌, ℕ, ◌<◌, ◌≤◌, ◌^◌, List, [], ◌∷◌, ◌++◌, length, Option, Some, None, arith}
use Rattle.std.proofs.lemmas.List.{length-map}
use Rattle.dn_base.proofs.Lists.{Each}
use Rattle.dn_parse.specs.Tree.{Role as RoleOf}
use Rattle.dn_net.specs.declared.node.Block.{Block}
use Rattle.dn_net.specs.declared.node.Role.TheVariants.{Unit as UnitRole}
use Rattle.dn_kind.specs.Kind.{Meaning}
use Rattle.dn_module.specs.declared.draft.Draft.{Draft}
use Rattle.dn_module.specs.declared.draft.DraftEntry.{DraftEntry}
use Rattle.dn_module.specs.declared.draft.DraftDest.{DraftDest}
use Rattle.dn_module.specs.declared.draft.DraftUnit.{DraftUnit}
use Rattle.dn_module.specs.Drafts.{bare_draft, node_number_of, role_of, unit_by_numbers}
use Rattle.dn_print.specs.Printable.{IsPrintableUnit}
use Rattle.dn_print.proofs.Titles.{IsFullName}

pub each_both : {X : Type 0} (P : X → Type 0) (xs ys : List X) → Each P xs → Each P ys → Each P (xs ++ ys)
each_both P [] ys h g = g
each_both P (x ∷ xs) ys h g = (h.0, each_both P xs ys h.1 g)

-- what may be left out is so, where it is there
abbrev pub Maybe : {X : Type 0} → (X → Type 0) → Option X → Type 0
Maybe P None = Unit {0}
Maybe P (Some x) = P x

abbrev pub GoodBlock : Block → Type 0
GoodBlock b = (b.lo < 2 ^ 64) × (b.hi < 2 ^ 64)

abbrev pub GoodDest : DraftDest → Type 0
GoodDest d = IsFullName d.to × (d.addr < 2 ^ 64)

abbrev pub GoodEntry : DraftEntry → Type 0
GoodEntry e = GoodBlock e.block × Each GoodDest e.dests × (1 ≤ length e.dests) × (length e.dests ≤ 8)

-- a node that is no unit
pub record GoodNode (d : Draft) : Type 0 where
  pub role : RoleOf
  pub roles : d.role ≡ role_of role
  pub name : IsFullName d.name
  pub accepts : Each GoodBlock d.accepts
  pub entries : Each GoodEntry d.entries
  pub over : Maybe IsFullName d.over
  pub no_unit : d.unit ≡ None

-- the parts of a unit: a text can say them, whatever the numbers of its ports
pub record GoodParts (kinds : List Meaning) (u : DraftUnit) : Type 0 where
  pub printable : (known : List (List ℕ)) → IsPrintableUnit kinds (unit_by_numbers known u)
  pub ports : Each IsFullName u.ports

-- it has 1 to 8 ports
pub some_ports : (kinds : List Meaning) (u : DraftUnit) → GoodParts kinds u → 1 ≤ length u.ports
some_ports kinds u h = let said = h.printable [] in let n = length-map u.ports (node_number_of []) in let s = said.some in omega (arith, n, s)

pub few_ports : (kinds : List Meaning) (u : DraftUnit) → GoodParts kinds u → length u.ports ≤ 8
few_ports kinds u h = let said = h.printable [] in let n = length-map u.ports (node_number_of []) in let f = said.few in omega (arith, n, f)

-- a unit of these parts
abbrev pub unit_with : ℕ → List ℕ → DraftUnit → Draft
unit_with line name u = bare_draft line UnitRole name (Some u)

pub record GoodUnit (kinds : List Meaning) (d : Draft) : Type 0 where
  pub line : ℕ
  pub name : List ℕ
  pub unit : DraftUnit
  pub is : d ≡ unit_with line name unit
  pub full : IsFullName name
  pub parts : GoodParts kinds unit

abbrev pub GoodDraft : List Meaning → Draft → Type 0
GoodDraft kinds d = GoodNode d ⊎ GoodUnit kinds d
