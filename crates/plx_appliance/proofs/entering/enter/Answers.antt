use Rattle.plx_appliance.proofs.entering.enter.Goals as goal

pub returns-in-Attach-clause-process : goal.returns-in-Attach-clause-process
returns-in-Attach-clause-process c = rw c.in-Attach.is c.enter_attach.ensures.process

pub returns-in-Image-clause-process : goal.returns-in-Image-clause-process
returns-in-Image-clause-process c = rw c.in-Image.is c.enter_image.ensures.process

pub returns-in-Renew-clause-process : goal.returns-in-Renew-clause-process
returns-in-Renew-clause-process c = rw c.in-Renew.is c.enter_renew.ensures.process

pub returns-in-Reserve-clause-process : goal.returns-in-Reserve-clause-process
returns-in-Reserve-clause-process c = rw c.in-Reserve.is c.enter_reserve.ensures.process

pub returns-in-Retire-clause-process : goal.returns-in-Retire-clause-process
returns-in-Retire-clause-process c = rw c.in-Retire.is c.enter_retire.ensures.process
