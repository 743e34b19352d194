-- What caches and lookups are said to be, on journals of few items.
use Rattle.std.proofs.Common.{[], ◌++◌, ◌∷◌, ◌≡◌, List, None, Ok, Some, codes, false, refl, ℕ}
use Rattle.update_machine.specs.Exports.{Add, Body, CacheEntry, CacheRule, Change, Drop, Header, How, Is, Item, Net, Out, Redirect, Row, Rule, Setting, Stamp, Step, Whole, journal_boot_of, journal_cache_of, journal_version_file, heard, is_up, machine_lookup_at, journal_message_of, journal_plan_at, machine_policy_in, machine_cache_raised_from, journal_stamp_of, machine_touched_by}
use Rattle.five_tuple.specs.Exports.{port_range_cover_of, header_of}
use Rattle.policy_rules.specs.Exports.{word_of_policy_row}
use Rattle.switch_table.specs.Exports.{cache_all_touched, same_cache_key}
use Rattle.switch_table.specs.declared.search.Found.TheVariants.{Authority, Cached}
use Rattle.ternary.specs.Exports.{WordValue, holds, word_meets}
use Rattle.update_machine.proofs.JournalExampleNetworks.{advert, all_dropped, all_to, answered, any_word, cached as apart, at, by_action, delivered, denied, leaving, left_by, link, on, one, out_or_drop, plan_p, rule, switch, tables_of, to, two_switches, web}
use Rattle.partition.specs.Plan.{HostedPolicyPartition}

-- a and b; the plan of the first policy is on b, that of the second on a
abbrev moved : Setting
moved = record {
  net = two_switches;
  files = out_or_drop;
  plan = by_action (Ok plan_p) (Ok (on (0 ∷ []) all_dropped));
}

-- a hears a cache rule of this version and word, or a stamp
abbrev cached : ℕ → ℕ → WordValue → List Item
cached number version word =
    Item.Sent number (to 0 (CacheRule version word (Some 100) Drop)) ∷ Item.Delivered number ∷ []

abbrev stamped : ℕ → ℕ → List Item
stamped number version =
    Item.Sent number (to 0 (Stamp 1 version cache_all_touched)) ∷ Item.Delivered number ∷ []

abbrev entry : ℕ → ℕ → WordValue → CacheEntry
entry number version word = record {
  version = version;
  word = word;
  rule = Some 100;
  action = Drop;
  message = number;
}

-- ---- the cache of a

-- two versions of one word are beside each other; the same version once more changes nothing
pub by_version_and_word : (journal_cache_of moved (cached 1 1 web ++ cached 2 2 web ++ cached 3 1 web)
    0).entries ≡ entry 1 1 web ∷ entry 2 2 web ∷ []
unfolding journal_cache_of journal_stamp_of heard is_up journal_boot_of journal_message_of same_cache_key
by_version_and_word = refl

-- a stamp removes what is of a lower version, and no more of it is taken in
pub below_the_stamp : (journal_cache_of moved
    (cached 1 1 web ++ cached 2 2 web ++ stamped 3 2 ++ cached 4 1 any_word) 0).entries
    ≡ entry 2 2 web ∷ []
unfolding journal_cache_of machine_touched_by journal_version_file machine_policy_in word_meets journal_stamp_of heard is_up journal_boot_of journal_message_of same_cache_key
below_the_stamp = refl

-- an equal or a lower stamp, which comes late, doesn't rise and removes nothing
pub no_rise : machine_cache_raised_from 2 2 (record { entries = entry 1 1 web ∷ []; capacity = 4 })
    ≡ record { entries = entry 1 1 web ∷ []; capacity = 4 }
no_rise = refl

pub a_rise : machine_cache_raised_from 1 2 (record { entries = entry 1 1 web ∷ []; capacity = 4 })
    ≡ record { entries = []; capacity = 4 }
a_rise = refl

-- of two entries the one at the place goes
pub second_expires : (journal_cache_of moved
    (cached 1 1 web ++ cached 2 1 any_word ++ Item.Expired 0 1 2 ∷ []) 0).entries
    ≡ entry 1 1 web ∷ []
unfolding journal_cache_of journal_stamp_of heard is_up journal_boot_of journal_message_of same_cache_key
second_expires = refl

-- it has room for four
pub first_goes : (journal_cache_of moved (cached 1 1 web ++ cached 2 1 any_word ++ cached 3 2 web
    ++ cached 4 2 any_word ++ cached 5 3 web) 0).entries
    ≡ entry 2 1 any_word ∷ entry 3 2 web ∷ entry 4 2 any_word ∷ entry 5 3 web ∷ []
unfolding journal_cache_of journal_stamp_of heard is_up journal_boot_of journal_message_of same_cache_key
first_goes = refl

-- a crash empties it
pub empty_after_crash :
    (journal_cache_of moved (cached 1 1 web ++ Item.Down 0 ∷ Item.Booted 0 2 ∷ []) 0).entries ≡ []
unfolding journal_cache_of journal_stamp_of heard is_up journal_boot_of journal_message_of same_cache_key
empty_after_crash = refl

-- another switch's cache is its own
pub empty_at_b : (journal_cache_of moved (cached 1 1 web) 1).entries ≡ []
unfolding journal_cache_of journal_stamp_of heard is_up journal_boot_of journal_message_of same_cache_key
empty_at_b = refl

-- ---- a change: the second file adds `200,any,10.1.0.0/16,any,80,tcp,drop`

abbrev web_row : Row
web_row = record (all_to Drop) {
  priority = 200;
  dst = record { address = 167837696; len = 16 };
  dport = record { low = 80; high = 80 };
  proto = Is 6;
}

abbrev amended : Setting
amended = record moved { files = Whole (all_to (Out 2) ∷ []) ∷ Change (Add web_row ∷ []) ∷ [] }

pub touches_its_row : machine_touched_by amended (Item.Submitted 2 2 ∷ []) 2 ≡ web ∷ []
unfolding machine_touched_by machine_policy_in journal_version_file port_range_cover_of word_of_policy_row
touches_its_row = refl

-- what the stamp of its version leaves of these entries
abbrev left_of : List Item → List CacheEntry
left_of entries = (journal_cache_of amended (entries ++ Item.Submitted 2 2
    ∷ Item.Sent 4 (to 0 (Stamp 1 2 (web ∷ []))) ∷ Item.Delivered 4 ∷ []) 0).entries

-- what meets the row goes, what doesn't goes over, and the earlier one of its word before it
pub goes_over_alone : left_of (cached 1 1 web ++ cached 2 1 apart) ≡ entry 2 2 apart ∷ []
unfolding journal_cache_of machine_touched_by machine_policy_in journal_version_file port_range_cover_of word_of_policy_row word_meets journal_stamp_of heard is_up journal_boot_of journal_message_of same_cache_key
goes_over_alone = refl

pub stays_before_it : left_of (cached 1 1 apart ++ cached 2 2 apart ++ cached 3 2 web)
    ≡ entry 2 2 apart ∷ entry 3 2 web ∷ []
unfolding journal_cache_of machine_touched_by machine_policy_in journal_version_file port_range_cover_of word_of_policy_row word_meets journal_stamp_of heard is_up journal_boot_of journal_message_of same_cache_key
stays_before_it = refl

-- ---- what a says of a header

-- a version that was submitted says nothing before its stamp
pub by_the_stamp : machine_lookup_at moved (Item.Submitted 2 2 ∷ []) 0 one ≡ Redirect 0 (1 ∷ [])
unfolding machine_lookup_at journal_plan_at journal_cache_of journal_stamp_of heard is_up journal_boot_of journal_message_of journal_version_file machine_policy_in holds
by_the_stamp = refl

pub by_the_next_stamp : machine_lookup_at moved (Item.Submitted 2 2 ∷ stamped 1 2) 0 one ≡ Authority 0 0
unfolding machine_lookup_at journal_plan_at journal_cache_of machine_touched_by word_meets journal_stamp_of heard is_up journal_boot_of journal_message_of journal_version_file machine_policy_in holds
by_the_next_stamp = refl

-- nor do entries of another version than the stamp
pub no_entry_of_the_stamp :
    machine_lookup_at moved (Item.Submitted 2 2 ∷ cached 1 2 any_word) 0 one ≡ Redirect 0 (1 ∷ [])
unfolding machine_lookup_at journal_plan_at journal_cache_of journal_stamp_of heard is_up journal_boot_of journal_message_of journal_version_file machine_policy_in holds same_cache_key
no_entry_of_the_stamp = refl

pub entry_of_the_stamp : machine_lookup_at moved (Item.Submitted 2 2 ∷ cached 1 2 any_word ++ stamped 2 2) 0
    one ≡ Cached (entry 1 2 any_word)
unfolding machine_lookup_at journal_plan_at journal_cache_of machine_touched_by word_meets journal_stamp_of heard is_up journal_boot_of journal_message_of journal_version_file machine_policy_in holds same_cache_key
entry_of_the_stamp = refl

-- of two entries that hold a header the first one, and none where none holds it
pub first_entry_first :
    machine_lookup_at moved (cached 1 1 web ++ cached 2 1 any_word) 0 denied ≡ Cached (entry 1 1 web)
unfolding machine_lookup_at journal_plan_at journal_cache_of journal_stamp_of heard is_up journal_boot_of journal_message_of journal_version_file machine_policy_in holds same_cache_key
first_entry_first = refl

pub entry_without_it : machine_lookup_at moved (cached 1 1 web) 0 one ≡ Redirect 0 (1 ∷ [])
unfolding machine_lookup_at journal_plan_at journal_cache_of journal_stamp_of heard is_up journal_boot_of journal_message_of journal_version_file machine_policy_in holds same_cache_key
entry_without_it = refl

-- ---- a whole day of a small campus, computed: cache rules, a link that fails, an update

abbrev header_1 : Header
header_1 =
    header_of (record { src = 167772421; dst = 167772682; sport = 40000; dport = 443; proto = 6 })

abbrev header_2 : Header
header_2 =
    header_of (record { src = 167772422; dst = 167772682; sport = 40001; dport = 443; proto = 6 })

abbrev header_3 : Header
header_3 =
    header_of (record { src = 167772421; dst = 134744072; sport = 5353; dport = 53; proto = 17 })

abbrev word_1 : WordValue
word_1 = record { value = 184468014682165328646; mask = 4722366481770150363135 }

abbrev word_2 : WordValue
word_2 = record { value = 792281625142643375935439516945; mask = 20282100118678742567025962385407 }

-- the rule of row 500, in parts; the first policy and the second differ in their first rule, and
-- their plans are on b and c
abbrev to_web : ℕ → ℕ → ℕ → Rule
to_web rank value mask = rule (record { value = value; mask = mask }) rank (Some 500) (Out 2)

abbrev later_rules : List Rule
later_rules = to_web 1 792282834252930994268843021830 20282408399448217011795093618687
    ∷ to_web 2 792282834252930994286022891014 20282408399448217011777913749503
    ∷ to_web 3 792282834252930994320382629382 20282408399448217011743554011135
    ∷ to_web 4 792282834252930994389102106118 20282408399448217011674834534399
    ∷ to_web 5 792282834252930994526541059590 20282408399448217011537395580927
    ∷ to_web 6 792282834252930994801418966534 20282408399448217011262517673983
    ∷ rule (record { value = 184468003687048937472; mask = 4722366201394668503040 }) 7 (Some 400)
    Drop ∷ rule (record {
      value = 792281625142643375935439516945;
      mask = 20282100118641849078878543282175;
    })
    8 (Some 300) (Out 3)
    ∷ rule (record {
      value = 792281625142643375935439503360;
      mask = 20282100118641849078878526504960;
    })
    9 (Some 200) (Out 3)
    ∷ rule any_word 10 None Drop ∷ []

abbrev plan_1 : List HostedPolicyPartition
plan_1 = on (1 ∷ 2 ∷ []) (rule word_1 0 (Some 600) (Out 2) ∷ later_rules)

abbrev plan_2 : List HostedPolicyPartition
plan_2 = on (1 ∷ 2 ∷ []) (rule word_1 0 (Some 600) Drop ∷ later_rules)

abbrev campus_net : Net
campus_net = record {
  switches = switch (codes "a") 2 0 ∷ switch (codes "b") 0 1000 ∷ switch (codes "c") 0 1000
      ∷ switch (codes "d") 12 0 ∷ [];
  links = link 0 1 ∷ link 0 2 ∷ link 1 3 ∷ link 2 3 ∷ [];
  leaf_rules = 64;
  backups = 1;
  cache = 256;
}

abbrev campus : Setting
campus = record { net = campus_net; files = out_or_drop; plan = by_action (Ok plan_1) (Ok plan_2) }

-- four switches in a ring; the journal is that of the whole day
pub campus_rows : left_by campus
    (at 1 (Step.Packet 0 header_1) ∷ at 2 (Step.Hop 1) ∷ at 2 (Step.Hop 1) ∷ at 2 (Step.Hop 1)
    ∷ at 2 (Step.Hop 1) ∷ at 3 (Step.Deliver 1) ∷ at 4 (Step.Packet 0 header_2) ∷ at 5 (Step.Hop 2)
    ∷ at 5 (Step.Hop 2) ∷ at 5 (Step.Hop 2) ∷ at 6 (Step.LinkDown 1 3) ∷ at 7 (Step.Deliver 2)
    ∷ at 7 (Step.Deliver 3) ∷ at 7 (Step.Deliver 4) ∷ at 7 (Step.Deliver 5) ∷ at 7 (Step.Deliver 6)
    ∷ at 7 (Step.Deliver 7) ∷ at 7 (Step.Deliver 8) ∷ at 7 (Step.Deliver 9) ∷ at 7 (Step.Deliver 10)
    ∷ at 7 (Step.Deliver 11) ∷ at 7 (Step.Deliver 12) ∷ at 7 (Step.Deliver 13)
    ∷ at 8 (Step.Packet 0 header_3) ∷ at 9 (Step.Hop 3) ∷ at 9 (Step.Hop 3) ∷ at 9 (Step.Hop 3)
    ∷ at 9 (Step.Hop 3) ∷ at 9 (Step.Hop 3) ∷ at 9 (Step.Hop 3) ∷ at 10 (Step.Update 2) ∷ at 11
    (Step.Deliver 14) ∷ at 11 (Step.Deliver 15) ∷ at 11 (Step.Deliver 16) ∷ at 11 (Step.Deliver 17)
    ∷ at 11 (Step.Deliver 18) ∷ at 11 (Step.Deliver 19) ∷ at 11 (Step.Deliver 20)
    ∷ at 11 (Step.Deliver 21) ∷ at 11 (Step.Deliver 22) ∷ at 11 (Step.Deliver 23)
    ∷ at 11 (Step.Deliver 24) ∷ at 11 (Step.Deliver 25) ∷ at 11 (Step.Deliver 26)
    ∷ at 11 (Step.Deliver 27) ∷ at 11 (Step.Deliver 28) ∷ at 11 (Step.Deliver 29)
    ∷ at 11 (Step.Deliver 30) ∷ at 11 (Step.Deliver 31) ∷ at 11 (Step.Deliver 32)
    ∷ at 11 (Step.Deliver 33) ∷ at 11 (Step.Deliver 34) ∷ at 12 (Step.Packet 0 header_2)
    ∷ at 13 (Step.Hop 4) ∷ at 13 (Step.Hop 4) ∷ at 14 (Step.Deliver 35) ∷ [])
    ≡ Item.Row 1 (Step.Packet 0 header_1) ∷ Item.Entered 1 0 header_1
    ∷ Item.Seeking 1 1 0 (0 ∷ 1 ∷ []) ∷ Item.Row 2 (Step.Hop 1) ∷ Item.Hopped 1 1
    ∷ Item.Row 2 (Step.Hop 1) ∷ Item.Decided 1 1 (Some 600) (Out 2) (How.Authority 1 0)
    ∷ Item.Sent 1 (to 0 (Body.CacheRule 1 word_1 (Some 600) (Out 2)))
    ∷ Item.Exiting 1 (1 ∷ 3 ∷ []) ∷ Item.Row 2 (Step.Hop 1) ∷ Item.Hopped 1 3
    ∷ Item.Row 2 (Step.Hop 1) ∷ Item.Left 1 2 (leaving 1 header_1 1 (Some 600)) ∷ delivered 3 1
    ++ Item.Row 4 (Step.Packet 0 header_2) ∷ Item.Entered 2 0 header_2 ∷ Item.Decided 2 1 (Some 600)
    (Out 2) (How.Cached 1) ∷ Item.Exiting 2 (0 ∷ 1 ∷ 3 ∷ []) ∷ Item.Row 5 (Step.Hop 2)
    ∷ Item.Hopped 2 1 ∷ Item.Row 5 (Step.Hop 2) ∷ Item.Hopped 2 3 ∷ Item.Row 5 (Step.Hop 2)
    ∷ Item.Left 2 2 (leaving 2 header_2 1 (Some 600)) ∷ Item.Row 6 (Step.LinkDown 1 3)
    ∷ Item.LinkIs 1 3 false ∷ Item.Sent 2 (to 0 (advert 1 1 2 1))
    ∷ Item.Sent 3 (to 2 (advert 3 1 2 4)) ∷ delivered 7 2 ++ Item.Sent 4 (to 1 (advert 1 1 2 1))
    ∷ Item.Sent 5 (to 2 (advert 1 1 2 1)) ∷ delivered 7 3 ++ Item.Sent 6 (to 0 (advert 3 1 2 4))
    ∷ Item.Sent 7 (to 3 (advert 3 1 2 4)) ∷ delivered 7 4 ++ delivered 7 5
    ++ Item.Sent 8 (to 0 (advert 1 1 2 1)) ∷ Item.Sent 9 (to 3 (advert 1 1 2 1)) ∷ delivered 7 6
    ++ Item.Sent 10 (to 1 (advert 3 1 2 4)) ∷ Item.Sent 11 (to 2 (advert 3 1 2 4)) ∷ delivered 7 7
    ++ delivered 7 8 ++ delivered 7 9 ++ Item.Sent 12 (to 2 (advert 1 1 2 1)) ∷ delivered 7 10
    ++ Item.Sent 13 (to 0 (advert 3 1 2 4)) ∷ delivered 7 11 ++ delivered 7 12 ++ delivered 7 13
    ++ Item.Row 8 (Step.Packet 0 header_3) ∷ Item.Entered 3 0 header_3
    ∷ Item.Seeking 3 1 0 (0 ∷ 1 ∷ []) ∷ Item.Row 9 (Step.Hop 3) ∷ Item.Hopped 3 1
    ∷ Item.Row 9 (Step.Hop 3) ∷ Item.Decided 3 1 (Some 300) (Out 3) (How.Authority 1 0)
    ∷ Item.Sent 14 (to 0 (Body.CacheRule 1 word_2 (Some 300) (Out 3))) ∷ Item.Exiting 3
    (1 ∷ 0 ∷ 2 ∷ 3 ∷ []) ∷ Item.Row 9 (Step.Hop 3) ∷ Item.Hopped 3 0 ∷ Item.Row 9 (Step.Hop 3)
    ∷ Item.Hopped 3 2 ∷ Item.Row 9 (Step.Hop 3) ∷ Item.Hopped 3 3 ∷ Item.Row 9 (Step.Hop 3)
    ∷ Item.Left 3 3 (leaving 3 header_3 1 (Some 300)) ∷ Item.Row 10 (Step.Update 2)
    ∷ Item.Submitted 2 2 ∷ Item.Sent 15 (to 0 (Body.Install 1 (tables_of plan_2 2 0)))
    ∷ Item.Sent 16 (to 1 (Body.Install 1 (tables_of plan_2 2 1)))
    ∷ Item.Sent 17 (to 2 (Body.Install 1 (tables_of plan_2 2 2)))
    ∷ Item.Sent 18 (to 3 (Body.Install 1 (tables_of plan_2 2 3))) ∷ delivered 11 14
    ++ answered 11 15 19 (Body.Installed 0 1 2) ++ answered 11 16 20 (Body.Installed 1 1 2)
    ++ answered 11 17 21 (Body.Installed 2 1 2) ++ answered 11 18 22 (Body.Installed 3 1 2)
    ++ delivered 11 19 ++ delivered 11 20 ++ delivered 11 21 ++ delivered 11 22 ++ Item.Current 2
    ∷ Item.Sent 23 (to 0 (Body.Stamp 1 2 cache_all_touched)) ∷ Item.Sent 24
    (to 1 (Body.Stamp 1 2 cache_all_touched)) ∷ Item.Sent 25 (to 2 (Body.Stamp 1 2 cache_all_touched))
    ∷ Item.Sent 26 (to 3 (Body.Stamp 1 2 cache_all_touched)) ∷ answered 11 23 27 (Body.Stamped 0 1 2)
    ++ answered 11 24 28 (Body.Stamped 1 1 2) ++ answered 11 25 29 (Body.Stamped 2 1 2)
    ++ answered 11 26 30 (Body.Stamped 3 1 2) ++ delivered 11 27 ++ delivered 11 28
    ++ delivered 11 29 ++ delivered 11 30 ++ Item.Retired 1 ∷ Item.Sent 31 (to 0 (Body.Collect 1 1))
    ∷ Item.Sent 32 (to 1 (Body.Collect 1 1)) ∷ Item.Sent 33 (to 2 (Body.Collect 1 1))
    ∷ Item.Sent 34 (to 3 (Body.Collect 1 1)) ∷ delivered 11 31 ++ delivered 11 32 ++ delivered 11 33
    ++ delivered 11 34 ++ Item.Row 12 (Step.Packet 0 header_2) ∷ Item.Entered 4 0 header_2
    ∷ Item.Seeking 4 2 0 (0 ∷ 1 ∷ []) ∷ Item.Row 13 (Step.Hop 4) ∷ Item.Hopped 4 1
    ∷ Item.Row 13 (Step.Hop 4) ∷ Item.Decided 4 2 (Some 600) Drop (How.Authority 1 0) ∷ Item.Sent 35
    (to 0 (Body.CacheRule 2 word_1 (Some 600) Drop)) ∷ Item.Dropped 4 ∷ delivered 14 35
unfolding left_by
campus_rows = refl
