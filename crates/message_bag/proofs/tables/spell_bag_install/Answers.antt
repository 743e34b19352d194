use Rattle.std.proofs.Common.{[], ◌++◌, ◌∙◌, List, ap, get_or, length, subst, ℕ}
use Rattle.base.proofs.Exports.{get_or_read}
use Rattle.wire.specs.Exports.{frame, wire_spelled_front}
use Rattle.switch_table.specs.declared.tables.Tables.{Tables}
use Rattle.message_bag.specs.Exports.{BagFramesCarryTables}
use Rattle.message_bag.proofs.BagPostedMessages.{tables_are, tables_fit}
use Rattle.message_bag.proofs.tables.spell_bag_install.Goals as goal

its : (c : goal.In_ok-put_first) → BagFramesCarryTables c.args.tables.now
    (get_or c.keep.new.kept.items c.in_ok-number.number [])
its c = let fs = get_or c.keep.new.kept.items c.in_ok-number.number [] in
    subst (λ (t : Tables). BagFramesCarryTables t fs) c.tables.ensures c.in_ok-number.ensures.carry

pub returns-clause-fits : goal.returns-clause-fits
returns-clause-fits c = tables_fit c.args.message.now c.args.boot c.args.tables.now
    c.requires.carries c.in_ok-put_first.ensures.fits (its c).behind.fits c.requires.spelling.spelling.suits

pub returns-clause-own : goal.returns-clause-own
returns-clause-own c =
    let kept = c.keep.new.kept.items in
    let number = c.in_ok-number.number in
    tables_are c.args.message.now kept number c.args.boot c.args.tables.now c.put_first.new.out.items
    c.requires.carries (its c)
    (c.in_ok-put_first.ensures.put
    ∙ ap (λ (b : List ℕ). b ++ frame 0 (length c.index.result.now) (wire_spelled_front c.args.message.now.to c.args.boot))
    c.clear.ensures.items
    ∙ ap (λ (own : List (List ℕ)). frame 0 (length own) (wire_spelled_front c.args.message.now.to c.args.boot))
    (get_or_read kept number c.index.result.now c.in_ok-number.ensures.there c.index.ensures []))
