use Rattle.std.proofs.Common.{ap, arith, length}
use Rattle.switch_table.proofs.SwitchTableLemmas.{place_fits}
use Rattle.switch_table.proofs.search.authority.Goals as goal

pub overflow_cast-result : goal.overflow_cast-result
overflow_cast-result c =
    let fits = place_fits c.first_hit.result (length c.items.result.now) c.first_hit.ensures.bound
    (omega (arith, c.requires, ap length c.items.ensures)) in
    omega (arith, fits, c.unwrap_or-place.ensures)
