-- What a switch has and knows: the tables of its versions, what they say of headers, and routes.
use Rattle.std.specs.Prelude.{if◌then◌else◌, ◌≡◌, IsTrue, List, None, Some, ℕ}
use Rattle.failover.specs.Exports.{is_failover_target_isolated, route_of}
use Rattle.update_machine.specs.Exports.{Header, IsMachineSetting, Item, Setting, holds_version as holds_in, is_cut_off_in_journal, machine_lookup_at, near, journal_route_from, journal_stamp_of, journal_tables_at}
use Rattle.switch_core.specs.Exports.{switch_held_tables, holds_version, switch_stamp_tables}
use Rattle.switch_table.specs.Exports.{switch_table_lookup_of}
use Rattle.control_laws.specs.Exports.{ControlBodiesNameThere, ControlTablesArePlanned, ControlVersionsArePlanned}
use Rattle.refinement.specs.SwitchOf.{refined_switch_of}

-- what is known of versions and their tables
pub record RefinementTablesAreKnown (setting : Setting) (journal : List Item) : Type 0 where
  pub sound : IsMachineSetting setting
  pub versions : ControlVersionsArePlanned setting journal
  pub tables : ControlTablesArePlanned setting journal
  pub names : ControlBodiesNameThere setting journal

pub record KnowledgeRefines : Type 0 where
  -- which versions it has
  pub held : (setting : Setting) (journal : List Item) (s v : ℕ) →
      holds_version (refined_switch_of setting journal s) v ≡ holds_in journal s v
  -- and their tables
  pub tables : (setting : Setting) (journal : List Item) (s v : ℕ) →
      RefinementTablesAreKnown setting journal → switch_held_tables (refined_switch_of setting journal s) v
      ≡ (if holds_in journal s v then Some (journal_tables_at setting journal v s) else None)
  -- what its cache and the tables of its stamp, which it has, say about a header
  pub lookup : (setting : Setting) (journal : List Item) (s : ℕ) (header : Header) →
      RefinementTablesAreKnown setting journal → IsTrue (holds_in journal s (journal_stamp_of journal s)) →
      switch_table_lookup_of (refined_switch_of setting journal s).cache.entries
      (switch_stamp_tables (refined_switch_of setting journal s)) header
      ≡ machine_lookup_at setting journal s header
  -- its routes over its usable links and those of its adverts, and which targets are isolated there
  pub route : (setting : Setting) (journal : List Item) (s : ℕ) (targets down : List ℕ) →
      route_of (refined_switch_of setting journal s).database s targets (near setting journal s) down
      ≡ journal_route_from setting journal s targets down
  pub cut_off : (setting : Setting) (journal : List Item) (s target : ℕ) (down : List ℕ) →
      is_failover_target_isolated (refined_switch_of setting journal s).database s target (near setting journal s) down
      ≡ is_cut_off_in_journal setting journal s down target
