use Rattle.test_tables.proofs.Keeping.{desk_after, granted_keeps}
use Rattle.test_tables.proofs.at_desk.grant_on.Goals as goal

pub returns : goal.returns
returns g c =
    desk_after c.requires.system
    (granted_keeps _ _ _ _ _ c.grant.result c.requires.kept c.grant.ensures.changed.kept c.grant.ensures.unchanged c.grant.ensures.changed.unfailed)
    c.grant.ensures.changed.fits c.grant.ensures.changed.on_device
