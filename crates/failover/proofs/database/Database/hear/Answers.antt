use Rattle.std.proofs.Common.{◌∙◌, Some, ap, set, sym}
use Rattle.base.proofs.Exports.{map-set}
use Rattle.failover.specs.Exports.{neighbours_named_by_advert}
use Rattle.failover.proofs.FailoverHeldAdverts.{after_no_news, after_news, by_origin-set}
use Rattle.failover.proofs.database.Database.hear.Goals as goal

pub invariant_of-self : goal.invariant_of-self
invariant_of-self c = record {
  by_origin = by_origin-set c.self.inside.adverts c.args.advert.now c.self.invariant.by_origin
      c.if-not-is_news.ensures.switch;
  neighbours = ap (λ named. set named c.args.advert.now.origin c.args.advert.now.up)
      c.self.invariant.neighbours ∙ sym (map-set neighbours_named_by_advert c.self.inside.adverts
      c.args.advert.now.origin (Some c.args.advert.now));
}

pub returns-then-not-is_news-clause-after : goal.returns-then-not-is_news-clause-after
returns-then-not-is_news-clause-after c =
    sym (after_no_news _ _ (sym c.is_news.ensures.news ∙ c.if-not-is_news.true))

pub returns-clause-after : goal.returns-clause-after
returns-clause-after c = rw c.self.view_is
    (sym (after_news _ _ (sym c.is_news.ensures.news ∙ c.if-not-is_news.false)))
