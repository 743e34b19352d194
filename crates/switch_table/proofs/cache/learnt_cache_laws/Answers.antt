use Rattle.switch_table.proofs.CacheLemmas.{cache_accepted, cache_begun, cache_cleared, cache_expired, cache_raised}
use Rattle.switch_table.proofs.CacheCarryLemmas.{cache_carried}
use Rattle.switch_table.proofs.cache.learnt_cache_laws.Goals as goal

pub returns : goal.returns
returns c = record {
  begun = cache_begun;
  kept_by_accept = cache_accepted;
  kept_by_expire = cache_expired;
  kept_by_raise = cache_raised;
  kept_by_clear = cache_cleared;
  kept_by_carry = cache_carried;
}
