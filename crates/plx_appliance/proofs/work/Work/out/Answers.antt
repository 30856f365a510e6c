use Rattle.plx_appliance.proofs.work.Work.out.Goals as goal

pub returns-in-Detach-clause-bytes : goal.returns-in-Detach-clause-bytes
returns-in-Detach-clause-bytes c = λ lent. rw c.in-Detach.is (c.out-in-Detach.ensures.bytes lent.known)

pub returns-in-Detach-clause-whole : goal.returns-in-Detach-clause-whole
returns-in-Detach-clause-whole c = λ lent. rw c.in-Detach.is (c.out-in-Detach.ensures.whole lent.known)

pub returns-in-Renew-clause-bytes : goal.returns-in-Renew-clause-bytes
returns-in-Renew-clause-bytes c = λ lent. rw c.in-Renew.is (c.out-in-Renew.ensures.bytes lent.known)

pub returns-in-Renew-clause-whole : goal.returns-in-Renew-clause-whole
returns-in-Renew-clause-whole c = λ lent. rw c.in-Renew.is (c.out-in-Renew.ensures.whole lent.known)

pub returns-in-Retire-clause-bytes : goal.returns-in-Retire-clause-bytes
returns-in-Retire-clause-bytes c = λ lent. rw c.in-Retire.is (c.out-in-Retire.ensures.bytes lent)

pub returns-in-Retire-clause-whole : goal.returns-in-Retire-clause-whole
returns-in-Retire-clause-whole c = λ lent. rw c.in-Retire.is (c.out-in-Retire.ensures.whole lent)

pub returns-in-Reserve-clause-bytes : goal.returns-in-Reserve-clause-bytes
returns-in-Reserve-clause-bytes c = λ lent. rw c.in-Reserve.is (c.out-in-Reserve.ensures.bytes lent)

pub returns-in-Reserve-clause-whole : goal.returns-in-Reserve-clause-whole
returns-in-Reserve-clause-whole c = λ lent. rw c.in-Reserve.is (c.out-in-Reserve.ensures.whole lent)
