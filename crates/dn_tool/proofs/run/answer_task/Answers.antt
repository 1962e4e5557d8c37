use Rattle.dn_script.proofs.Kept.{platform_machine}
use Rattle.dn_tool.proofs.run.answer_task.Goals as goal

pub run_commands-requires-clause-machine : goal.run_commands-requires-clause-machine
run_commands-requires-clause-machine g c = platform_machine _ _ c.requires.kinds.lawful (rw (← c.platform.view_is) at c.requires.shaped) c.platform.invariant.walked

pub print_net-requires : goal.print_net-requires
print_net-requires g c = record { machine = platform_machine _ _ c.requires.kinds.lawful (rw (← c.platform.view_is) at c.requires.shaped) c.platform.invariant.walked }

pub answer_image-requires : goal.answer_image-requires
answer_image-requires g c = record { machine = platform_machine _ _ c.requires.kinds.lawful (rw (← c.platform.view_is) at c.requires.shaped) c.platform.invariant.walked }

pub run_commands-requires-in-Demo-clause-machine : goal.run_commands-requires-in-Demo-clause-machine
run_commands-requires-in-Demo-clause-machine g c = platform_machine _ _ c.requires.kinds.lawful (rw (← c.platform.view_is) at c.requires.shaped) c.platform.invariant.walked
