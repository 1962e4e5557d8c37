use Rattle.dn_script.proofs.Numbers.{put_id}
use Rattle.dn_script.proofs.ids.Ids.add.Goals as goal

pub returns-clause-ids : goal.returns-clause-ids
returns-clause-ids c = rw (← c.self.view_is) (put_id c.self.inside.ids c.add.new.self c.args.id.now c.in_ok-_is_new._is_new c.in_ok-_is_new.ensures.added c.in_ok-_is_new.ensures.is_new)
