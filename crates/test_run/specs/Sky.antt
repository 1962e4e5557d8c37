-- What the helpers of these tests carry from call to call.
use Rattle.std.specs.Prelude.{List}
use Rattle.dn_kind.specs.Kind.{Meaning}
use Rattle.dn_kind.specs.Units.{IsLegalWith}
use Rattle.dn_flat.specs.Levels.{AreFlats}
use Rattle.test_run.specs.declared.sky.Sky.{Sky}

-- a net that is legal with kinds, and what each node of it sees
pub record IsSky (kinds : List Meaning) (s : Sky) : Type 0 where
  pub legal : IsLegalWith kinds s.net
  pub flat : AreFlats s.net s.flats
