use Rattle.std.proofs.Common.{refl}
use Rattle.toml.specs.View.{table_view}
use Rattle.net_file.proofs.NetFileFreshPorts.{ports_tested}
use Rattle.net_file.proofs.switches.read_ports.Goals as goal

pub returns-then-not-are_integers : goal.returns-then-not-are_integers
returns-then-not-are_integers c = rw c.if-not-are_integers.true at
    (ports_tested (table_view c.args.keys.now) _ _ _ _ c.in-Some.ensures c.in_ok-values.ensures
    c.are_integers.ensures refl)

pub returns-then-not-are_ports : goal.returns-then-not-are_ports
returns-then-not-are_ports c = rw (c.if-not-are_integers.false, c.if-not-are_ports.true) at
    (ports_tested (table_view c.args.keys.now) _ _ _ _ c.in-Some.ensures c.in_ok-values.ensures
    c.are_integers.ensures c.are_ports.ensures)

pub returns : goal.returns
returns c = rw (c.if-not-are_integers.false, c.if-not-are_ports.false) at
    (ports_tested (table_view c.args.keys.now) _ _ _ _ c.in-Some.ensures c.in_ok-values.ensures
    c.are_integers.ensures c.are_ports.ensures)
