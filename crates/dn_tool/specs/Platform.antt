-- What contracts see of a compiled text, and what is true of every one.
use Rattle.std.specs.Prelude.{List, length, IsTrue}
use Rattle.std.specs.List.{list_all}
use Rattle.dn_net.specs.declared.node.NodeDecl.{NodeDecl}
use Rattle.dn_module.specs.declared.command.Command.{Command}
use Rattle.dn_module.specs.Commands.{names_within}
use Rattle.dn_walk.specs.Rows.{AreWalksOf, Table}

-- a compiled text: its net, the table of its live walks, and its commands
pub record PlatformState : Type 0 where
  pub net : List NodeDecl
  pub walks : Table
  pub commands : List Command

-- the net is legal, the table is that of its live walks, and the commands name nodes that are there
pub record IsPlatform (p : PlatformState) : Type 0 where
  pub walked : AreWalksOf p.net p.walks
  pub known : IsTrue (list_all (names_within (length p.net)) p.commands)
