use Rattle.std.proofs.Common.{◌∙◌, ap, subst}
use Rattle.failover.specs.declared.advert.Advert.{Advert}
use Rattle.journal_text.specs.Lines.{journal_advert_text}
use Rattle.journal_text.proofs.JournalLineTexts.{held_text}
use Rattle.journal_text.proofs.advert_texts.AdvertTexts.push.Goals as goal
use Rattle.lines.specs.Sizes.{IsNumberInPrintedLine}
use Rattle.lines.specs.Pushes.{line_with}

pub shared_ref_as_front-push_bytes : goal.shared_ref_as_front-push_bytes
shared_ref_as_front-push_bytes c = (c.in-Some.ensures.text c.args.net.now c.requires).within

pub returns-in-Some-clause-text : goal.returns-in-Some-clause-text
returns-in-Some-clause-text c =
    let net = c.args.net.now in
    let line = c.args.line.now in
    c.push_bytes.ensures
    ∙ ap (line_with line) (c.in-Some.ensures.text net c.requires).text
    ∙ held_text line (journal_advert_text net c.in-Some.kept.now.advert)
    ∙ ap (λ advert. line_with line (journal_advert_text net advert)) c.in-Some.ensures.advert

pub returns-in-None-clause-text : goal.returns-in-None-clause-text
returns-in-None-clause-text c = let line = c.args.line.now in
    c.push_bytes-in-None.ensures
    ∙ ap (line_with line) (c.bytes.ensures.held ∙ c.write.ensures.own)
    ∙ held_text line (journal_advert_text c.args.net.now c.args.advert.now)

pub returns-in-Some-clause-of_type : goal.returns-in-Some-clause-of_type
returns-in-Some-clause-of_type c = let kept = c.in-Some.ensures.text c.args.net.now c.requires in
    subst (λ (advert : Advert). IsNumberInPrintedLine advert.boot × IsNumberInPrintedLine advert.seq) c.in-Some.ensures.advert
    (kept.boot, kept.seq)
