use Rattle.std.proofs.Common.{[], ◌++◌, ◌∙◌, ◌∷◌, ◌≡◌, refl, take}
use Rattle.base.proofs.Exports.{err_from_is_err_and}
use Rattle.journal_text.specs.Lines.{journal_item_line, journal_text}
use Rattle.journal_text.proofs.JournalLineGains.{IsHeld, gathers_no_more, held_first, held_more, held_nothing, lines_more, some_items}
use Rattle.journal_text.proofs.write.write_text.Goals.{then-bytes-gt-ROOMY_BYTES+in_ok-push, else-bytes-gt-ROOMY_BYTES}
use Rattle.journal_text.proofs.write.write_text.Goals as goal

pub returns-in_err-push-clause-after : goal.returns-in_err-push-clause-after
returns-in_err-push-clause-after g c =
    let errs = c.in_err-push.ensures in
    let given = err_from_is_err_and c.from_residual.result c.from_residual.ensures.1 in
    rw (given.1, given.2) (gathers_no_more c.args.net.now c.loop-item.item-index
    g.K.Sink.takes_memory (g.K.Sink.state c.args.sink.now) (g.K.Sink.state c.loop-item.sink)
    (g.K.Sink.state c.push.new.sink) _ c.items-items.ensures c.loop-item.invariant.held
    c.loop-item.invariant.faults c.bytes-then-bytes-gt-ROOMY_BYTES.ensures.held errs.part
    errs.faults errs.calm errs.failed errs.no_memory)

pub returns-in_err-push-2-clause-after : goal.returns-in_err-push-2-clause-after
returns-in_err-push-2-clause-after g c =
    let errs = c.in_err-push-2.ensures in
    let given = err_from_is_err_and c.from_residual-in_err-push-2.result
    c.from_residual-in_err-push-2.ensures.1 in
    rw (given.1, given.2) (gathers_no_more c.args.net.now c.loop-item.item-index g.K.Sink.takes_memory
    (g.K.Sink.state c.args.sink.now) (g.K.Sink.state c.loop-item.sink)
    (g.K.Sink.state c.push-2.new.sink) _ c.items-items.ensures
    c.loop-item.invariant.held c.loop-item.invariant.faults c.bytes-2.ensures.held errs.part
    errs.faults errs.calm errs.failed errs.no_memory)

pub loop-item-init : goal.loop-item-init
loop-item-init g c = record {
  held = held_first (g.K.Sink.state c.args.sink.now).bytes c.new-block.result c.new-line.result
      c.new-block.ensures c.new-line.ensures;
  texts = c.new-texts.ensures c.args.net.now;
  faults = refl;
}

pub loop-item-preserved : goal.loop-item-preserved
loop-item-preserved g c =
    let net = c.args.net.now in
    let items = c.items-items.result.now in
    let first = g.K.Sink.state c.args.sink.now in
    let old = g.K.Sink.state c.loop-item.sink in
    let now = g.K.Sink.state c.if-bytes-gt-ROOMY_BYTES.sink in
    let text = journal_text net (take c.loop-item.item-index items) in
    let item = c.item-item.result in
    let is = c.loop-item.invariant in
    let kept : IsHeld text first.bytes now.bytes c.if-bytes-gt-ROOMY_BYTES.block
    c.if-bytes-gt-ROOMY_BYTES.line × (now.faults ≡ first.faults) =
    elim c.if-bytes-gt-ROOMY_BYTES.branch [
      | then-bytes-gt-ROOMY_BYTES+in_ok-push w ↦ rw (w.sink-is, w.block-is, w.line-is, w.clear.ensures) (
        held_nothing text first.bytes old.bytes (g.K.Sink.state w.push.new.sink).bytes
            c.loop-item.block c.loop-item.line w.push.new.self
            w.bytes-then-bytes-gt-ROOMY_BYTES.result.now is.held
            w.bytes-then-bytes-gt-ROOMY_BYTES.ensures.held
            (w.in_ok-push.ensures.gathered is.held.front first.bytes is.held.gathered),
        w.in_ok-push.ensures.calm (λ e. cc) ∙ is.faults,
      )
      | else-bytes-gt-ROOMY_BYTES w ↦ rw (w.sink-is, w.block-is, w.line-is) (is.held, is.faults)
    ] in record {
      held = rw (
        c.push_journal_line.ensures.text,
        lines_more net items c.loop-item.item-index item c.loop-item-test.true c.item-item.is,
      ) (held_more text (journal_item_line net item ++ 10 ∷ []) first.bytes now.bytes
          c.if-bytes-gt-ROOMY_BYTES.block c.if-bytes-gt-ROOMY_BYTES.line kept.0);
      texts = c.push_journal_line.ensures.texts;
      faults = kept.1;
    }

pub returns-in_err-push-clause-no_text : goal.returns-in_err-push-clause-no_text
returns-in_err-push-clause-no_text g c = λ none.
    absurd (some_items c.args.net.now c.items-items.ensures c.is_empty.ensures c.if-is_empty.false none)

pub returns-clause-no_text : goal.returns-clause-no_text
returns-clause-no_text g c = λ none.
    absurd (some_items c.args.net.now c.items-items.ensures c.is_empty.ensures c.if-is_empty.false none)

pub returns-in_err-push-2-clause-no_text : goal.returns-in_err-push-2-clause-no_text
returns-in_err-push-2-clause-no_text g c = λ none.
    absurd (some_items c.args.net.now c.items-items.ensures c.is_empty.ensures c.if-is_empty.false none)
