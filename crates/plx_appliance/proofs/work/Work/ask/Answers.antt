use Rattle.plx_appliance.proofs.work.Work.ask.Goals as goal

pub returns-in-Detach-clause-ask : goal.returns-in-Detach-clause-ask
returns-in-Detach-clause-ask c = λ lent. rw c.in-Detach.is (c.ask-in-Detach.ensures.ask lent.known)

pub returns-in-Renew-clause-ask : goal.returns-in-Renew-clause-ask
returns-in-Renew-clause-ask c = λ lent. rw c.in-Renew.is (c.ask-in-Renew.ensures.ask lent.known)

pub returns-in-Retire-clause-within : goal.returns-in-Retire-clause-within
returns-in-Retire-clause-within c = rw c.in-Retire.is (λ space holds sample found suits same inside.
    c.ask-in-Retire.ensures.within space suits same)
