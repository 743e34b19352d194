use Rattle.base.proofs.Exports.{All-replicate}
use Rattle.std.proofs.Common.{None}
use Rattle.journal_text.specs.AdvertTexts.{IsJournalAdvertTextIfKept}
use Rattle.journal_text.proofs.advert_texts.AdvertTexts.new.Goals as goal

pub returns : goal.returns
returns c = λ net. All-replicate (IsJournalAdvertTextIfKept net) 64 None tt
