-- The laws above `split`, `absorb` and the printed net: the text of the net that they make is read back.
use Rattle.std.specs.Prelude.{◌≡◌, ℕ, ◌<◌, ◌≤◌, List, length, Ok}
use Rattle.dn_net.specs.declared.node.NodeDecl.{NodeDecl}
use Rattle.dn_net.specs.Legal.{IsLegalNet}
use Rattle.dn_kind.specs.Kind.{Meaning}
use Rattle.dn_module.specs.Expand.{Expansion}
use Rattle.dn_print.specs.Statement.{net_text}
use Rattle.dn_print.specs.Printable.{IsPrintable, GivesBack}
use Rattle.dn_shape.specs.Absorb.{absorb_outcome}
use Rattle.dn_shape.specs.Split.{split_outcome}
use Rattle.dn_tool.specs.Compiled.{compilation}

-- A net that a text can say, where units are of these kinds; its text, which `split` and `absorb`
-- print below their heading, gives that net back where it is no longer than a text may be.
pub record IsReadBack (kinds : List Meaning) (net : List NodeDecl) : Type 0 where
  pub printable : IsPrintable kinds net
  pub back : length (net_text kinds net) ≤ 4194304 → GivesBack kinds (net_text kinds net) net

-- The net that splitting makes of a printable legal net is printable, and its text is read back.
abbrev pub SplitIsReadBack : Type 0
SplitIsReadBack = (kinds : List Meaning) (net made : List NodeDecl) → IsLegalNet net →
    IsPrintable kinds net → split_outcome net ≡ Ok made → IsReadBack kinds made

-- The net that absorbing a node of a printable legal net makes is printable, and its text is read
-- back.
abbrev pub AbsorbIsReadBack : Type 0
AbsorbIsReadBack = (kinds : List Meaning) (net : List NodeDecl) (m : ℕ) (made : List NodeDecl) →
    IsLegalNet net → m < length net → IsPrintable kinds net → absorb_outcome net m ≡ Ok made →
    IsReadBack kinds made

-- The net and all nets that the two commands make of it are read back.
pub record AreReadBack (kinds : List Meaning) (net : List NodeDecl) : Type 0 where
  pub itself : IsReadBack kinds net
  pub split : (made : List NodeDecl) → split_outcome net ≡ Ok made → IsReadBack kinds made
  pub absorbed : (m : ℕ) (made : List NodeDecl) → m < length net → absorb_outcome net m ≡ Ok made →
      IsReadBack kinds made

-- The net of a text that breaks no rule is read back, and so is each net that the commands make of
-- it.
abbrev pub CompiledIsReadBack : Type 0
CompiledIsReadBack = (kinds : List Meaning) (text : List ℕ) (o : Expansion) →
    compilation kinds text ≡ Ok o → AreReadBack kinds o.net
