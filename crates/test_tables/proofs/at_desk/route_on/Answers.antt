use Rattle.test_tables.proofs.Keeping.{desk_after, granted_keeps}
use Rattle.test_tables.proofs.at_desk.route_on.Goals as goal

pub returns : goal.returns
returns g c =
    desk_after c.requires.system
    (granted_keeps _ _ _ _ _ c.route.result c.requires.kept c.route.ensures.changed.kept c.route.ensures.unchanged c.route.ensures.changed.unfailed)
    c.route.ensures.changed.fits c.route.ensures.changed.on_device
