use Rattle.std.proofs.Common.{◌∙◌, ◌≡◌, sym, true}
use Rattle.switch_core.specs.Exports.{is_news_to_switch}
use Rattle.switch_core.proofs.SwitchOwnAdverts.{news_is_of_another, own_others}
use Rattle.switch_core.proofs.switch.Switch.inform.Goals as goal

pub invariant_of-self : goal.invariant_of-self
invariant_of-self c =
    let news : is_news_to_switch c.args.self.now c.args.advert.now ≡ true =
    sym c.is_news.ensures ∙ c.if-is_news.true in record {
      number = c.self.invariant.number;
      sound = c.self.invariant.sound;
      own = rw c.hear.ensures.after (own_others c.self.inside.database c.args.advert.now
          c.self.inside.number c.self.inside.boot c.self.inside.seq (rw (← c.self.view_is) at
          (news_is_of_another c.args.self.now c.args.advert.now news)) c.self.invariant.own);
    }
