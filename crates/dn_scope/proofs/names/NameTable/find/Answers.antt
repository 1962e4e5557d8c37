use Rattle.std.specs.Rc.{rc_str_bytes}
use Rattle.dn_scope.proofs.Known.{place_seen}
use Rattle.dn_scope.proofs.names.NameTable.find.Goals as goal

pub returns-in-Some : goal.returns-in-Some
returns-in-Some c = place_seen (λ s. rc_str_bytes s) _ _ c.self.view_is c.in-Some.ensures.index

pub returns-in-None : goal.returns-in-None
returns-in-None c = place_seen (λ s. rc_str_bytes s) _ _ c.self.view_is c.in-None.ensures.index
