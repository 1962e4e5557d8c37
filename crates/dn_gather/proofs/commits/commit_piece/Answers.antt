use Rattle.std.proofs.Common.{Err, ap}
use Rattle.dn_base.specs.declared.device.DeviceOrMemory.{DeviceOrMemory}
use Rattle.dn_gather.proofs.commits.commit_piece.Goals as goal

pub returns-in-Err-Device-clause-caught : goal.returns-in-Err-Device-clause-caught
returns-in-Err-Device-clause-caught g c = λ e. c.in-Err-Device.ensures.caught (ap (λ (x : DeviceOrMemory). Err x) c.in-Err-Device.field-0-is)
