-- What a switch holds once a message was heard: tables by their version, a stamp, adverts.
use Rattle.std.proofs.Common.{[], ◌&&◌, ◌++◌, ◌==◌, ◌∷◌, ◌≡◌, Bool, List, None, Option, Some, arith, cond, eqb-true, filter, find, is_some, max, nat_lt, true, ℕ, rules}
use Rattle.base.proofs.Exports.{find-append, nat_tests, option_or}
use Rattle.failover.specs.declared.advert.Advert.{Advert}
use Rattle.failover.specs.Exports.{adverts_after_hearing}
use Rattle.failover.proofs.FailoverHeldAdverts.{after_no_news}
use Rattle.switch_table.specs.declared.tables.Tables.{Tables}
use Rattle.switch_core.specs.Exports.{SwitchValue, switch_collected_to, switch_held_tables, is_news_to_switch, switch_stamp_raised_to, switch_stamped_with, switch_after_advert, switch_with_installed}
use Rattle.ternary.specs.Exports.{WordValue}

-- ---- tables

abbrev is_version : ℕ → Tables → Bool
is_version version tables = tables.version == version

abbrev above : ℕ → List Tables → List Tables
above mark list = filter (λ tables. nat_lt mark tables.version) list

abbrev with_tables : SwitchValue → Tables → SwitchValue
with_tables s tables = record s { tables = s.tables ++ tables ∷ [] }

-- those of one version, among those above a mark
found_above : (mark version : ℕ) (list : List Tables) →
    find (λ tables. tables.version == version) (filter (λ tables. nat_lt mark tables.version) list)
    ≡ cond (nat_lt mark version) (find (λ tables. tables.version == version) list) None
found_above mark version [] = search rules
found_above mark version (first ∷ list) = search (rules, eqb-true, found_above mark version list)

pub held_once_collected : (s : SwitchValue) (mark version : ℕ) → switch_held_tables (switch_collected_to s mark)
    version ≡ cond (nat_lt (max s.collected mark) version) (switch_held_tables s version) None
unfolding switch_collected_to
held_once_collected s mark version = found_above (max s.collected mark) version s.tables

or_none : (o : Option Tables) → option_or o None ≡ o
or_none o = search rules

some_or : (o other : Option Tables) → is_some o ≡ true → o ≡ option_or o other
some_or o other is = search rules

pub held_once_installed : (s : SwitchValue) (tables : Tables) (version : ℕ)
    → switch_held_tables (switch_with_installed s tables) version ≡ option_or (switch_held_tables s version)
    (cond ((tables.version == version) && nat_lt s.collected version) (Some tables) None)
unfolding switch_with_installed
held_once_installed s tables version = search (rules, nat_tests, eqb-true, find-append)

-- ---- a stamp, and adverts

pub stamp_once_raised : (s : SwitchValue) (version : ℕ) →
    (switch_stamp_raised_to s version).stamp ≡ max s.stamp version
unfolding switch_stamp_raised_to
stamp_once_raised s version = grind (arith, nat_tests)

pub stamp_once_told : (s : SwitchValue) (version : ℕ) (touched : List WordValue) →
    (switch_stamped_with s version touched).stamp ≡ max s.stamp version
unfolding switch_stamped_with
stamp_once_told s version touched = grind (arith, nat_tests)

pub database_once_informed : (s : SwitchValue) (advert : Advert) → (switch_after_advert s advert).database
    ≡ cond (advert.origin == s.number) s.database (adverts_after_hearing s.database advert)
unfolding switch_after_advert is_news_to_switch
database_once_informed s advert = search (rules, after_no_news)
