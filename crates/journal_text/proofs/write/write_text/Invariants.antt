use Rattle.std.proofs.Common.{◌≡◌, take}
use Rattle.journal_text.specs.Lines.{journal_text}
use Rattle.journal_text.specs.AdvertTexts.{AreJournalAdvertTexts}
use Rattle.journal_text.proofs.JournalLineGains.{IsHeld}
use Rattle.journal_text.proofs.write.write_text.Given as goal

abbrev pub invariant-loop-item : goal.invariant-loop-item
invariant-loop-item g l = record {
  held : IsHeld (journal_text l.net (take l.item-index l.items))
      (g.K.Sink.state l.initial.sink).bytes (g.K.Sink.state l.sink).bytes l.block l.line;
  texts : AreJournalAdvertTexts l.net l.texts;
  faults : (g.K.Sink.state l.sink).faults ≡ (g.K.Sink.state l.initial.sink).faults;
}
