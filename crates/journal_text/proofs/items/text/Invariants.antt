use Rattle.std.proofs.Common.{◌≡◌, take}
use Rattle.journal_text.specs.Lines.{journal_text}
use Rattle.journal_text.specs.AdvertTexts.{AreJournalAdvertTexts}
use Rattle.journal_text.proofs.items.text.Given as goal

abbrev pub invariant-loop-item : goal.invariant-loop-item
invariant-loop-item l = record {
  text : l.text.items ≡ journal_text l.net (take l.item-index l.items);
  texts : AreJournalAdvertTexts l.net l.texts;
}
