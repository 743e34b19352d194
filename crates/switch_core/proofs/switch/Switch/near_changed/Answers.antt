use Rattle.std.proofs.Common.{◌+◌, ◌≡◌, true}
use Rattle.failover.specs.Exports.{is_advert_news}
use Rattle.failover.proofs.FailoverHeldAdverts.{after_news}
use Rattle.switch_core.specs.Exports.{own_advert}
use Rattle.switch_core.proofs.SwitchOwnAdverts.{next_is_news, own_next}
use Rattle.switch_core.proofs.switch.Switch.near_changed.Goals as goal

pub invariant_of-self : goal.invariant_of-self
invariant_of-self c =
    let s = c.self.inside in
    let advert = own_advert s.number s.boot (s.seq + 1) c.args.near in
    let news : is_advert_news s.database advert ≡ true = next_is_news s.database s.number s.boot s.seq
    c.args.near c.self.invariant.number c.self.invariant.own in record {
      number = c.self.invariant.number;
      sound = c.self.invariant.sound;
      own = rw (c.hear.ensures.after, after_news s.database advert news)
          (own_next s.database s.number s.boot (s.seq + 1) c.args.near);
    }

pub returns-clause-after : goal.returns-clause-after
returns-clause-after c =
    let s = c.self.inside in
    let advert = own_advert s.number s.boot (s.seq + 1) c.args.near in
    let news : is_advert_news s.database advert ≡ true = next_is_news s.database s.number s.boot s.seq
    c.args.near c.self.invariant.number c.self.invariant.own in
    rw (← c.self.view_is, c.hear.ensures.after, after_news s.database advert news)
