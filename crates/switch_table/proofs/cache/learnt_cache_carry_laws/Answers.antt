use Rattle.switch_table.proofs.CacheCarryLemmas.{all_carried, only_carried, untouched_stays}
use Rattle.switch_table.proofs.cache.learnt_cache_carry_laws.Goals as goal

pub returns : goal.returns
returns c = record { untouched = untouched_stays; only = only_carried; all = all_carried }
