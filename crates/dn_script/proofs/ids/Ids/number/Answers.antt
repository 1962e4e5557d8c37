use Rattle.std.proofs.Common.{rules, ◌≡◌, position, Some}
use Rattle.std.specs.Str.{bytes_eq}
use Rattle.dn_script.proofs.Numbers.{known_stays}
use Rattle.dn_script.proofs.ids.Ids.number.Goals as goal

pub returns-in-Some-clause-ids : goal.returns-in-Some-clause-ids
returns-in-Some-clause-ids c =
    let at : position (bytes_eq c.args.id.now) c.args.self.now ≡ Some c.in-Some.number = search rules in
    known_stays c.args.self.now c.args.id.now c.in-Some.number at
