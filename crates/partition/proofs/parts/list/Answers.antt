use Rattle.partition.proofs.EndLemmas.{parts_ended}
use Rattle.partition.proofs.PartLemmas.{numbered_length, parts_decide, parts_sound}
use Rattle.partition.proofs.parts.list.Goals as goal

pub returns-clause-count : goal.returns-clause-count
returns-clause-count c =
    rw (rw c.new-parts.ensures.items at c.in_ok-push_leaves.ensures) (numbered_length 0 _)

pub returns-clause-decide : goal.returns-clause-decide
returns-clause-decide c = λ rules most defined.
    let is = rw c.new-parts.ensures.items at c.in_ok-push_leaves.ensures in
    rw is (parts_decide rules most _ defined)

pub returns-clause-sound : goal.returns-clause-sound
returns-clause-sound c = λ rows most policy defined.
    let is = rw c.new-parts.ensures.items at c.in_ok-push_leaves.ensures in
    rw is (parts_sound rows most _ policy defined)

pub returns-clause-ended : goal.returns-clause-ended
returns-clause-ended c = λ rows most policy defined.
    let is = rw c.new-parts.ensures.items at c.in_ok-push_leaves.ensures in
    rw is (parts_ended rows most _ policy defined)
