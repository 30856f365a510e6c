use Rattle.plx_text.proofs.print_reply.push_reply.Goals as goal

pub returns-in-NotAttached : goal.returns-in-NotAttached
returns-in-NotAttached c = rw c.in-NotAttached.is c.push_word-in-NotAttached.ensures

pub returns-in-WriteFault : goal.returns-in-WriteFault
returns-in-WriteFault c = rw c.in-WriteFault.is c.push_block-in-WriteFault.ensures
