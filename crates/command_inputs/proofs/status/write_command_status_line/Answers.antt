use Rattle.command_inputs.proofs.status.write_command_status_line.Goals as goal

pub returns-in-Input-clause-after : goal.returns-in-Input-clause-after
returns-in-Input-clause-after g c = rw c.in-Input.is c.write_input_line.ensures

pub returns-in-ReadFault-clause-after : goal.returns-in-ReadFault-clause-after
returns-in-ReadFault-clause-after g c = rw c.in-ReadFault.is c.write_whole-in-ReadFault.ensures.after

pub returns-in-WriteFault-clause-after : goal.returns-in-WriteFault-clause-after
returns-in-WriteFault-clause-after g c = rw c.in-WriteFault.is c.write_whole-in-WriteFault.ensures.after

pub returns-in-NoMemory-clause-after : goal.returns-in-NoMemory-clause-after
returns-in-NoMemory-clause-after g c = rw c.in-NoMemory.is c.write_whole-in-NoMemory.ensures.after

pub returns-in-Full-clause-after : goal.returns-in-Full-clause-after
returns-in-Full-clause-after g c = rw c.in-Full.is c.write_numbered_status-in-Full.ensures

pub returns-in-No-clause-after : goal.returns-in-No-clause-after
returns-in-No-clause-after g c = rw c.in-No.is c.write_numbered_status.ensures
