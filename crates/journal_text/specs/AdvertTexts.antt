-- Adverts that were written before, each with its text, as much of it as a line holds.
use Rattle.std.specs.Prelude.{[], ◌≡◌, ◌≤◌, All, None, Option, Some, take, ⊤}
use Rattle.net_file.specs.declared.net.Net.{Net}
use Rattle.journal_text.specs.Lines.{journal_advert_text}
use Rattle.journal_text.specs.declared.advert_texts.JournalAdvertText.{JournalAdvertText}
use Rattle.journal_text.specs.declared.advert_texts.AdvertTexts.{AdvertTexts}
use Rattle.lines.specs.Sizes.{IsNumberInPrintedLine}
use Rattle.lines.specs.Pushes.{line_with}

pub record IsKeptJournalAdvertText (net : Net) (kept : JournalAdvertText) : Type 0 where
  pub within : kept.len ≤ 512
  pub boot : IsNumberInPrintedLine kept.advert.boot
  pub seq : IsNumberInPrintedLine kept.advert.seq
  pub text : take kept.len kept.bytes ≡ line_with [] (journal_advert_text net kept.advert)

abbrev pub IsJournalAdvertTextIfKept : Net → Option JournalAdvertText → Type 0
IsJournalAdvertTextIfKept net None = ⊤
IsJournalAdvertTextIfKept net (Some kept) = IsKeptJournalAdvertText net kept

abbrev pub AreJournalAdvertTexts : Net → AdvertTexts → Type 0
AreJournalAdvertTexts net texts = All (IsJournalAdvertTextIfKept net) texts.kept
