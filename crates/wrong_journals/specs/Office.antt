-- Two switches with two policies, on which small journals are judged, and how these journals begin.
use Rattle.std.specs.Prelude.{[], ◌++◌, ◌∷◌, List, Some, codes, flat_map, ℕ}
use Rattle.five_tuple.specs.Exports.{AddressBlock, header_of}
use Rattle.update_machine.specs.Exports.{Action, Any, Authority, Drop, Header, Item, Net, Out, Packet, Row, Setting, Update, Whole, machine_setting_of}
use Rattle.journal.specs.declared.item.Item.TheVariants as item

-- the switch a has the port 1, and room for 100 rules; b has the port 2; a link joins them
abbrev pub wrong_journals_net : Net
wrong_journals_net = record {
  switches = record { name = codes "a"; ports = 2; room = 100 }
      ∷ record { name = codes "b"; ports = 4; room = 0 } ∷ [];
  links = record { one = 0; two = 1 } ∷ [];
  leaf_rules = 64;
  backups = 0;
  cache = 256;
}

-- a row for all packets to these addresses
abbrev pub wrong_journal_row : ℕ → AddressBlock → Action → Row
wrong_journal_row priority addresses action = record {
  priority = priority;
  src = record { address = 0; len = 0 };
  dst = addresses;
  sport = record { low = 0; high = 65535 };
  dport = record { low = 0; high = 65535 };
  proto = Any;
  action = action;
}

abbrev pub wrong_journal_everywhere : AddressBlock
wrong_journal_everywhere = record { address = 0; len = 0 }

-- 10.1.0.0/16
abbrev pub wrong_journal_server_room : AddressBlock
wrong_journal_server_room = record { address = 167837696; len = 16 }

-- `200,any,10.1.0.0/16,any,any,any,drop` and `100,any,any,any,any,any,out:2`
abbrev pub wrong_journals_policy : List Row
wrong_journals_policy = wrong_journal_row 200 wrong_journal_server_room Drop ∷ wrong_journal_row 100 wrong_journal_everywhere (Out 2) ∷ []

-- `100,any,any,any,any,any,drop`
abbrev pub wrong_journals_second_policy : List Row
wrong_journals_second_policy = wrong_journal_row 100 wrong_journal_everywhere Drop ∷ []

abbrev pub wrong_journal_office : Setting
wrong_journal_office = machine_setting_of wrong_journals_net (Whole wrong_journals_policy ∷ Whole wrong_journals_second_policy ∷ [])

-- from 1.2.3.4 to this address, by TCP from port 5000 to port 80
abbrev pub wrong_journal_header : ℕ → Header
wrong_journal_header address = header_of (record {
  src = 16909060;
  dst = address;
  sport = 5000;
  dport = 80;
  proto = 6;
})

-- to 10.2.0.1, which the first policy lets out by port 2
abbrev pub wrong_journal_allowed : Header
wrong_journal_allowed = wrong_journal_header 167903233

-- to 10.1.5.5, which it drops
abbrev pub wrong_journal_denied : Header
wrong_journal_denied = wrong_journal_header 167838981

-- ---- how journals begin

-- a packet enters at a
abbrev pub wrong_journals_in_at_a : Header → List Item
wrong_journals_in_at_a header = item.Row 1 (Packet 0 header) ∷ item.Entered 1 0 header ∷ []

-- an allowed packet enters at a, after an update
abbrev pub wrong_journals_behind_update : List Item
wrong_journals_behind_update =
    item.Row 1 (Update 2) ∷ item.Submitted 2 2 ∷ item.Row 2 (Packet 0 wrong_journal_allowed)
    ∷ item.Entered 1 0 wrong_journal_allowed ∷ []

-- the packet gets rule 100 of a version at a, with this action
abbrev pub wrong_journal_gets : ℕ → Action → Item
wrong_journal_gets version action = item.Decided 1 version (Some 100) action (Authority 0 0)

-- ---- in print

-- an allowed packet enters at a
abbrev pub wrong_journal_printed_in : List (List ℕ)
wrong_journal_printed_in = codes "row 1: packet a 1.2.3.4 10.2.0.1 5000 80 tcp" ∷ codes "  entered 1 a" ∷ []

-- the same after an update
abbrev pub wrong_journal_printed_behind : List (List ℕ)
wrong_journal_printed_behind =
    codes "row 1: update 2" ∷ codes "  submitted file 2 version 2"
    ∷ codes "row 2: packet a 1.2.3.4 10.2.0.1 5000 80 tcp" ∷ codes "  entered 1 a" ∷ []

-- these lines, each with its line feed
abbrev pub wrong_journal_text : List (List ℕ) → List ℕ
wrong_journal_text lines = flat_map (λ line. line ++ 10 ∷ []) lines
