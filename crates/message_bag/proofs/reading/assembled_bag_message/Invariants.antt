use Rattle.ctrl_msg.specs.declared.message.Message.{Message}
use Rattle.message_bag.proofs.BagMessagesOut.{IsFedTo}
use Rattle.message_bag.proofs.reading.assembled_bag_message.Given as goal

abbrev pub invariant-loop-place : goal.invariant-loop-place
invariant-loop-place l = (m : Message) × IsFedTo l.first l.frames l.assembler l.frame l.place m
