-- A placement, as contracts see it.
use Rattle.std.specs.Prelude.{ℕ, ◌<◌, ◌≤◌, List, length}
use Rattle.dn_tables.specs.declared.placement.Hop.{Hop}

-- where a buffer is placed: the agent's first address, the hops from the agent's end, and which of them is its own
pub record Place : Type 0 where
  pub v : ℕ
  pub hops : List Hop
  pub own : ℕ

-- one to three hops, and the own one is among them
pub record IsPlace (hops : List Hop) (own : ℕ) : Type 0 where
  pub few : length hops ≤ 3
  pub among : own < length hops
