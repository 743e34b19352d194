use Rattle.std.proofs.Common.{◌+◌, ◌∙◌, ◌≡◌, arith}
use Rattle.base.proofs.Exports.{map-range_with_len_more}
use Rattle.switch_table.specs.Exports.{tables_of}
use Rattle.controller.proofs.version.make_switch_tables.Goals as goal

pub loop-s-preserved : goal.loop-s-preserved
loop-s-preserved c = let first : 0 + c.loop-s.s ≡ c.loop-s.s = omega arith in
    c.in_ok-push.ensures.items
    ∙ cc (
      c.loop-s.invariant,
      c.in_ok-new.ensures,
      c.in_ok-tables.ensures.tables,
      map-range_with_len_more (tables_of c.args.plan.now.hosted c.args.version) 0 c.loop-s.s
          c.loop-s.s first,
    )
