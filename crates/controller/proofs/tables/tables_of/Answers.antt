use Rattle.controller.proofs.tables.tables_of.Goals as goal

pub returns-clause-sound : goal.returns-clause-sound
returns-clause-sound c =
    let plan = c.args.plan.now in
    let is = c.hosted.ensures.sound in
    rw (
      c.in_ok-clone.ensures.cases,
      c.rows.ensures,
      c.in_ok-new.ensures,
      c.in_ok-own.ensures,
      c.hosted.ensures.hosted,
    )
    (c.tables_laws.ensures.sound plan.policy plan.hosted c.args.version c.args.s is.sound is.covers
    is.few is.few_rules)
