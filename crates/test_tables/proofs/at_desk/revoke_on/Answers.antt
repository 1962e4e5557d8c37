use Rattle.test_tables.proofs.Keeping.{desk_after, revoked_keeps}
use Rattle.test_tables.proofs.at_desk.revoke_on.Goals as goal

pub returns : goal.returns
returns g c =
    desk_after c.requires.system
    (revoked_keeps _ _ _ _ _ c.revoke.result c.requires.kept c.revoke.ensures.changed.kept c.revoke.ensures.unchanged c.revoke.ensures.changed.unfailed)
    c.revoke.ensures.changed.fits c.revoke.ensures.changed.on_device
