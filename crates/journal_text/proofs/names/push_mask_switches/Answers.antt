use Rattle.std.proofs.Common.{◌++◌, ◌^◌, ◌∙◌, List, ap, arith, bit_xor, codes, filter, refl, sym, ℕ}
use Rattle.base.specs.Exports.{has, least_in_number_set, switches}
use Rattle.failover.proofs.RouteRowLoop.{fewer_left}
use Rattle.net_file.specs.Exports.{net_switch_name_of, net_switch_names_text}
use Rattle.lines.proofs.LinesCallerLemmas.{pushed_append}
use Rattle.lines.specs.Pushes.{line_with}
use Rattle.journal_text.proofs.JournalLineMasks.{least_first}
use Rattle.journal_text.proofs.names.push_mask_switches.Goals as goal

pub loop-rest-preserved : goal.loop-rest-preserved
unfolding least_in_number_set
loop-rest-preserved c =
    let net = c.args.net.now in
    let rest = c.loop-rest.rest in
    let line = c.loop-rest.line in
    let is = c.loop-rest.invariant in
    let own : List ℕ = codes " " ++ net_switch_name_of net (least_in_number_set rest) in
    let left : List ℕ = net_switch_names_text net (filter (has (bit_xor rest (2 ^ least_in_number_set rest))) switches) in
    let fewer = fewer_left rest (2 ^ least_in_number_set rest) is.fits c.loop-rest-test.true refl in record {
      fits = omega (arith, ap (bit_xor rest) c.only_if-rest.ensures, fewer, is.fits);
      text = ap (λ m. line_with c.push_journal_name_behind_blank.new.line
          (net_switch_names_text net (filter (has (bit_xor rest m)) switches))) c.only_if-rest.ensures
          ∙ ap (λ l. line_with l left) c.push_journal_name_behind_blank.ensures ∙ pushed_append line own left
          ∙ ap (λ list. line_with line (net_switch_names_text net list))
          (sym (least_first rest is.fits c.loop-rest-test.true)) ∙ is.text;
    }

pub loop-rest-smaller : goal.loop-rest-smaller
unfolding least_in_number_set
loop-rest-smaller c =
    fewer_left _ _ c.loop-rest.invariant.fits c.loop-rest-test.true c.only_if-rest.ensures
