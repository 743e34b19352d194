use Rattle.std.proofs.Common.{◌<◌, ◌==◌, ◌∙◌, IsSomeAnd, IsTrue, List, ap, find, get_or, length, option_and_then, position, slice_get, subst, sym}
use Rattle.policy_rules.specs.Exports.{is_in_policy_partition}
use Rattle.policy_rules.specs.declared.rules.Partition.{Partition}
use Rattle.switch_table.specs.Exports.{switch_table_lookup}
use Rattle.switch_table.specs.declared.search.Found.TheVariants.{Authority, Redirect}
use Rattle.switch_table.specs.declared.tables.PartRow.{PartRow}
use Rattle.switch_table.specs.declared.tables.Tables.{Tables}
use Rattle.table_tree.specs.Finding.{TableTreeFinderValue}
use Rattle.table_tree.proofs.TableTreeFinder.{first_in, none_there, own_decides, own_has, place_is, place_within, row_decides}
use Rattle.table_tree.proofs.finder.Finder.table_lookup.Goals as goal

pub first_at-requires : goal.first_at-requires
first_at-requires c =
    let tables = c.self.inside.tables.value in
    let place = c.end_of-place.result.now in
    let at = place_is tables c.self.inside.trees.value c.deref.result.now c.args.header.now c.number.result place
    c.self.invariant.sound c.self.invariant.tree c.deref.ensures c.number.ensures.header c.number.ensures.number
    c.end_of-place.ensures in
    let there = sym (c.in-Some.ensures ∙ ap (position (λ (p : Partition). p.number == place))
    (c.items.ensures ∙ ap (λ (t : Tables). t.auth) c.deref-2.ensures)) in
    subst (λ (v : TableTreeFinderValue). IsSomeAnd (slice_get v.tables.auth c.in-Some.own)
    (λ (part : Partition). IsTrue (is_in_policy_partition c.args.header.now part))) c.self.view_is
    (own_has tables c.args.header.now place c.in-Some.own c.self.invariant.sound
    c.number.ensures.header at there)

pub bounds-items-place : goal.bounds-items-place
bounds-items-place c =
    let tables = c.self.inside.tables.value in
    let at = place_is tables c.self.inside.trees.value c.deref.result.now c.args.header.now c.number.result
    c.end_of-place.result.now c.self.invariant.sound c.self.invariant.tree c.deref.ensures c.number.ensures.header
    c.number.ensures.number c.end_of-place.ensures in
    subst (λ (rows : List PartRow). c.end_of-place.result.now < length rows)
    (sym (c.items-in-None.ensures ∙ ap (λ (t : Tables). t.parts) c.deref-in-None.ensures))
    (place_within c.args.header.now tables.parts c.end_of-place.result.now at)

pub bounds-items-place-in-None : goal.bounds-items-place-in-None
bounds-items-place-in-None c = bounds-items-place c

pub returns-in-Some : goal.returns-in-Some
returns-in-Some c =
    let tables = c.self.inside.tables.value in
    let header = c.args.header.now in
    let place = c.end_of-place.result.now in
    let at = place_is tables c.self.inside.trees.value c.deref.result.now header c.number.result place
    c.self.invariant.sound c.self.invariant.tree c.deref.ensures c.number.ensures.header c.number.ensures.number
    c.end_of-place.ensures in
    let there = sym (c.in-Some.ensures ∙ ap (position (λ (p : Partition). p.number == place))
    (c.items.ensures ∙ ap (λ (t : Tables). t.auth) c.deref-2.ensures)) in
    let first = c.first_at.ensures.place ∙ sym (ap (λ (v : TableTreeFinderValue). option_and_then
    (first_in header) (slice_get v.tables.auth c.in-Some.own)) c.self.view_is) in
    ap (Authority place) c.unwrap_or.ensures
    ∙ own_decides tables header place c.in-Some.own c.first_at.result c.self.invariant.sound
    c.number.ensures.header at there first
    ∙ ap (λ (v : TableTreeFinderValue). switch_table_lookup v.tables header) c.self.view_is

pub returns-in-None : goal.returns-in-None
returns-in-None c =
    let tables = c.self.inside.tables.value in
    let header = c.args.header.now in
    let place = c.end_of-place.result.now in
    let d = c.index-items-place.result in
    let at = place_is tables c.self.inside.trees.value c.deref.result.now header c.number.result place
    c.self.invariant.sound c.self.invariant.tree c.deref.ensures c.number.ensures.header c.number.ensures.number
    c.end_of-place.ensures in
    let none = none_there c.items.result.now place c.in-None.ensures
    ∙ ap (find (λ (p : Partition). p.number == place))
    (c.items.ensures ∙ ap (λ (t : Tables). t.auth) c.deref-2.ensures) in
    ap (λ (rows : List PartRow). Redirect place (get_or rows place d).targets)
    (c.items-in-None.ensures ∙ ap (λ (t : Tables). t.parts) c.deref-in-None.ensures)
    ∙ row_decides tables header place d c.self.invariant.sound c.number.ensures.header at none
    ∙ ap (λ (v : TableTreeFinderValue). switch_table_lookup v.tables header) c.self.view_is
