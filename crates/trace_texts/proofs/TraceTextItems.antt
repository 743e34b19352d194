-- What the line of an item tells: printing and reading are inverse.
use Rattle.std.proofs.Common.{[], ◌++◌, ◌<◌, ◌==◌, ◌^◌, ◌||◌, ◌∙◌, ◌∷◌, ◌≡◌, ◌≤◌, Bool, List, None, Option, Some, ap, append_assoc, arith, bytes_eq, cond, false, le-leb, length, option_map, refl, sym, true, ℕ}
use Rattle.base.proofs.Exports.{codes, decimal, length-slice_split, onto_first, ⊤}
use Rattle.five_tuple.specs.Exports.{IsHeader, address_of, address_text, tuple_fields_from, header_fields_text, header_of, tuple_number_up_to, tuple_fields_of, tuple_text_parts_round_byte, proto_number_of, proto_number_text}
use Rattle.update_machine.specs.Exports.{Action, Authority, Cached, Dropped, Fields, Header, How, Item, LeftBy, Lost, Net, Packet, Step, Stuck}
use Rattle.net_file.specs.Exports.{IsNet, NetNameLaws, is_net_name, net_switch_name_of}
use Rattle.policy_rules.specs.Exports.{policy_action_text, policy_rule_text}
use Rattle.journal.specs.declared.item.Item.TheVariants as item
use Rattle.journal_text.specs.Lines.{journal_body_text, journal_cause_text, journal_how_text, journal_item_line, journal_packet_at_text, journal_receiver_text, journal_cached_rule_text, journal_state_text, journal_step_text, journal_two_numbers_text, journal_text_via, journal_text_with_name, journal_text_with_number}
use Rattle.steps.specs.Exports.{StepSwitchExists, max_events, max_step_number}
use Rattle.trace_audit.specs.Exports.{AuditTold, audit_any_told, is_trace_row_number, audit_item_told, trace_number_of_word, audit_packet_row_told, audit_pair_told, audit_row_told, audit_told_by_words, audit_told_of, audit_words_of}
use Rattle.trace_audit.specs.Told as told
use Rattle.trace_texts.proofs.TraceTextPieces.{action_word, address_word, first_word, name_is, name_word, number_word, one_word, proto_word, row_parts, row_word, rule_word}

-- what is read back, and what names are made of
pub record TextLaws : Type 0 where
  pub names : NetNameLaws
  pub number : (most n : ℕ) → n ≤ most → n < 2 ^ 64 → tuple_number_up_to most (decimal n) ≡ Some n
  pub address : (a : ℕ) → a < 2 ^ 32 → address_of (address_text a) ≡ Some a
  pub proto_number : (n : ℕ) → n < 2 ^ 8 → proto_number_of (proto_number_text n) ≡ Some n

-- what the line of an item tells
abbrev told_row : Step → AuditTold
told_row (Packet switch header) = told.Row (Some header)
told_row _ = told.Row None

abbrev pub told_item : Item → AuditTold
told_item (item.Row row step) = told_row step
told_item (item.Entered packet switch header) = told.Entered packet
told_item (item.Submitted file version) = told.Submitted file version
told_item (item.Retired version) = told.Retired version
told_item (item.Decided packet version rule action how) =
    told.Decided packet version (policy_rule_text rule) (policy_action_text action)
told_item (item.Left packet port leaving) = told.Ended packet (LeftBy port)
told_item (item.Dropped packet) = told.Ended packet Dropped
told_item (item.Lost packet) = told.Ended packet Lost
told_item (item.Stuck packet switch cause leg down) = told.Ended packet Stuck
told_item _ = told.Nothing

-- the numbers that a reader looks at are within its bounds, and the switches have names
abbrev IsReadableRow : Net → ℕ → Step → Type 0
IsReadableRow net row (Packet switch header) =
    (1 ≤ row) × (row ≤ max_events) × StepSwitchExists net switch × IsHeader header
IsReadableRow net row _ = ⊤

abbrev pub IsReadable : Net → Item → Type 0
IsReadable net (item.Row row step) = IsReadableRow net row step
IsReadable net (item.Entered packet switch header) = (packet ≤ max_step_number) × StepSwitchExists net switch
IsReadable net (item.Submitted file version) = (file ≤ max_step_number) × (version ≤ max_step_number)
IsReadable net (item.Retired version) = version ≤ max_step_number
IsReadable net (item.Decided packet version rule action how) =
    (packet ≤ max_step_number) × (version ≤ max_step_number)
IsReadable net (item.Left packet port leaving) = (packet ≤ max_step_number) × (port ≤ 4294967295)
IsReadable net (item.Dropped packet) = packet ≤ max_step_number
IsReadable net (item.Lost packet) = packet ≤ max_step_number
IsReadable net (item.Stuck packet switch cause leg down) = packet ≤ max_step_number
IsReadable net _ = ⊤

-- ---- words

onto_more : (byte : ℕ) (parts more : List (List ℕ)) → 0 < length parts
    → onto_first byte (parts ++ more) ≡ onto_first byte parts ++ more
onto_more byte [] more some = absurd (omega (arith, some))
onto_more byte (part ∷ parts) more some = refl

some_words : (text : List ℕ) → 0 < length (audit_words_of text)
some_words text = omega (arith, length-slice_split (λ b. b == 32) text)

-- a blank is between the words before it and those after it
words_blank : (xs ys : List ℕ) → audit_words_of (xs ++ 32 ∷ ys) ≡ audit_words_of xs ++ audit_words_of ys
words_blank [] ys = refl
words_blank (byte ∷ xs) ys = by (byte == 32) (words_blank xs ys) where
  by : (blank : Bool) → audit_words_of (xs ++ 32 ∷ ys) ≡ audit_words_of xs ++ audit_words_of ys
      → cond blank ([] ∷ audit_words_of (xs ++ 32 ∷ ys)) (onto_first byte (audit_words_of (xs ++ 32 ∷ ys)))
      ≡ cond blank ([] ∷ audit_words_of xs) (onto_first byte (audit_words_of xs)) ++ audit_words_of ys
  by true e = ap (λ (ws : List (List ℕ)). [] ∷ ws) e
  by false e = cc (e, onto_more byte (audit_words_of xs) (audit_words_of ys) (some_words xs))

words_next : (xs next ys : List ℕ)
    → audit_words_of ((xs ++ 32 ∷ next) ++ ys) ≡ audit_words_of xs ++ audit_words_of (next ++ ys)
words_next xs next ys = cc (append_assoc xs (32 ∷ next) ys, words_blank xs (next ++ ys))

-- behind these words
behind : (before : List (List ℕ)) (xs ys : List (List ℕ)) → xs ≡ ys → before ++ xs ≡ before ++ ys
behind before xs ys e = ap (λ ws. before ++ ws) e

words_number : (text : List ℕ) (n : ℕ)
    → audit_words_of (journal_text_with_number text n) ≡ audit_words_of text ++ decimal n ∷ []
words_number text n = words_next text [] (decimal n) ∙ behind (audit_words_of text) (audit_words_of (decimal n))
    (decimal n ∷ []) (one_word (decimal n) (number_word n))

-- of two numbers, the second with a text before it that begins with a blank
words_two : (text next : List ℕ) (n m : ℕ) → audit_words_of (journal_two_numbers_text text n (32 ∷ next) m)
    ≡ (audit_words_of text ++ decimal n ∷ []) ++ audit_words_of (next ++ decimal m)
unfolding journal_two_numbers_text
words_two text next n m = cc (words_next (journal_text_with_number text n) next (decimal m), words_number text n)

-- the second behind these words
words_both : (text words : List ℕ) (n m : ℕ)
    → audit_words_of (journal_two_numbers_text text n (32 ∷ (words ++ 32 ∷ [])) m)
    ≡ (audit_words_of text ++ decimal n ∷ []) ++ (audit_words_of words ++ decimal m ∷ [])
words_both text words n m = words_two text (words ++ 32 ∷ []) n m
    ∙ behind (audit_words_of text ++ decimal n ∷ []) (audit_words_of ((words ++ 32 ∷ []) ++ decimal m))
    (audit_words_of words ++ decimal m ∷ []) (words_number words m)

row_words : (row : ℕ) (step : List ℕ)
    → audit_words_of ((decimal row ++ codes ": ") ++ step) ≡ (decimal row ++ 58 ∷ []) ∷ audit_words_of step
row_words row step = ap audit_words_of (append_assoc (decimal row) (58 ∷ 32 ∷ []) step
    ∙ sym (append_assoc (decimal row) (58 ∷ []) (32 ∷ step)))
    ∙ first_word (decimal row ++ 58 ∷ []) step (row_word row)

fields_words : (f : Fields) → audit_words_of (header_fields_text f) ≡ address_text f.src ∷ address_text f.dst
    ∷ decimal f.sport ∷ decimal f.dport ∷ proto_number_text f.proto ∷ []
unfolding header_fields_text
fields_words f =
    let proto = one_word (proto_number_text f.proto) (proto_word f.proto) in
    let dport = first_word (decimal f.dport) (proto_number_text f.proto) (number_word f.dport)
    ∙ ap (λ (ws : List (List ℕ)). decimal f.dport ∷ ws) proto in
    let sport = first_word (decimal f.sport) (decimal f.dport ++ 32 ∷ proto_number_text f.proto)
    (number_word f.sport) ∙ ap (λ (ws : List (List ℕ)). decimal f.sport ∷ ws) dport in
    let dst = first_word (address_text f.dst)
    (decimal f.sport ++ 32 ∷ (decimal f.dport ++ 32 ∷ proto_number_text f.proto))
    (address_word f.dst) ∙ ap (λ (ws : List (List ℕ)). address_text f.dst ∷ ws) sport in
    first_word (address_text f.src)
    (address_text f.dst ++ 32 ∷ (decimal f.sport ++ 32 ∷ (decimal f.dport ++ 32
    ∷ proto_number_text f.proto))) (address_word f.src)
    ∙ ap (λ (ws : List (List ℕ)). address_text f.src ∷ ws) dst

-- ---- lines that tell nothing

any_some : (parts : List (List ℕ)) → 0 < length parts → audit_any_told parts ≡ Some told.Nothing
any_some [] some = absurd (omega (arith, some))
any_some (part ∷ parts) some = refl

-- whatever follows the first word
pub silent : (text : List ℕ) → audit_any_told (audit_words_of text) ≡ Some told.Nothing
silent text = any_some (audit_words_of text) (some_words text)

-- ---- lines that tell moves

pair_both : (tells : ℕ → ℕ → AuditTold) (a b : Option ℕ) (n m : ℕ) → a ≡ Some n → b ≡ Some m
    → audit_pair_told tells a b ≡ Some (tells n m)
pair_both tells a b n m e f = rw (e, f) refl

fields_both : (src dst sport dport proto : Option ℕ) (f : Fields) → src ≡ Some f.src
    → dst ≡ Some f.dst → sport ≡ Some f.sport → dport ≡ Some f.dport → proto ≡ Some f.proto
    → tuple_fields_from src dst sport dport proto ≡ Some f
fields_both src dst sport dport proto f a b c d e = rw (a, b, c, d, e) refl

row_first : (digits : List ℕ) (row : ℕ) → tuple_number_up_to max_events digits ≡ Some row → 1 ≤ row
    → is_trace_row_number (digits ∷ [] ∷ []) ≡ true
row_first digits row e above = cc (e, le-leb 1 row above)

row_packet : (row switch src dst sport dport proto : List ℕ) (f : Fields)
    → is_trace_row_number (tuple_text_parts_round_byte 58 row) ≡ true → is_net_name switch ≡ true
    → tuple_fields_of src dst sport dport proto ≡ Some f → audit_packet_row_told row
    (switch ∷ src ∷ dst ∷ sport ∷ dport ∷ proto ∷ []) ≡ Some (told.Row (Some (header_of f)))
row_packet row switch src dst sport dport proto f a b c = rw (a, b, c) refl

row_told_by : (row : ℕ) (step : List ℕ)
    → audit_told_of ((journal_text_with_number (codes "row") row ++ codes ": ") ++ step)
    ≡ audit_row_told ((decimal row ++ 58 ∷ []) ∷ audit_words_of step)
unfolding audit_told_of
row_told_by row step = ap audit_row_told (row_words row step)

-- one of the two words for how a packet was decided, and something behind it
record IsHowText (text : List ℕ) : Type 0 where
  how : List ℕ
  more : List ℕ
  others : List (List ℕ)
  words : audit_words_of text ≡ how ∷ more ∷ others
  known : (bytes_eq how (codes "cache") || bytes_eq how (codes "authority")) ≡ true

module _ (laws : TextLaws) (net : Net) (sound : IsNet net) where
  number : (n : ℕ) → n ≤ max_step_number → trace_number_of_word (decimal n) ≡ Some n
  number n most = laws.number max_step_number n most (omega (arith, most))

  words_name : (text : List ℕ) (s : ℕ)
      → audit_words_of (journal_text_with_name net text s) ≡ audit_words_of text ++ net_switch_name_of net s ∷ []
  words_name text s = words_next text [] (net_switch_name_of net s)
      ∙ behind (audit_words_of text) (audit_words_of (net_switch_name_of net s))
      (net_switch_name_of net s ∷ []) (one_word (net_switch_name_of net s) (name_word laws.names net sound s))

  words_at : (text : List ℕ) (packet s : ℕ) → audit_words_of (journal_packet_at_text net text packet s)
      ≡ (audit_words_of text ++ decimal packet ∷ []) ++ net_switch_name_of net s ∷ []
  words_at text packet s = cc (words_name (journal_text_with_number text packet) s, words_number text packet)

  -- ---- rows

  packet_words : (switch : ℕ) (header : Header) → audit_words_of (journal_step_text net (Packet switch header))
      ≡ codes "packet" ∷ net_switch_name_of net switch ∷ address_text header.fields.src
      ∷ address_text header.fields.dst ∷ decimal header.fields.sport
      ∷ decimal header.fields.dport ∷ proto_number_text header.fields.proto ∷ []
  packet_words switch header =
      words_next (journal_text_with_name net (codes "packet") switch) [] (header_fields_text header.fields)
      ∙ ap (λ ws. ws ++ audit_words_of (header_fields_text header.fields)) (words_name (codes "packet") switch)
      ∙ ap (λ (ws : List (List ℕ)). codes "packet" ∷ net_switch_name_of net switch ∷ ws)
      (fields_words header.fields)

  fields_back : (header : Header) → IsHeader header
      → tuple_fields_of (address_text header.fields.src) (address_text header.fields.dst)
      (decimal header.fields.sport) (decimal header.fields.dport)
      (proto_number_text header.fields.proto) ≡ Some header.fields
  fields_back header is = fields_both _ _ _ _ _ header.fields
      (laws.address header.fields.src is.src) (laws.address header.fields.dst is.dst)
      (laws.number 65535 header.fields.sport (omega (arith, is.sport)) (omega (arith, is.sport)))
      (laws.number 65535 header.fields.dport (omega (arith, is.dport)) (omega (arith, is.dport)))
      (laws.proto_number header.fields.proto is.proto)

  row_number_is : (row : ℕ) → 1 ≤ row → row ≤ max_events
      → is_trace_row_number (tuple_text_parts_round_byte 58 (decimal row ++ 58 ∷ [])) ≡ true
  row_number_is row above most = ap is_trace_row_number (row_parts row)
      ∙ row_first (decimal row) row (laws.number max_events row most (omega arith)) above

  row_line_told : (row : ℕ) (step : Step) → IsReadableRow net row step
      → audit_told_of (journal_item_line net (item.Row row step)) ≡ Some (told_row step)
  row_line_told row (Packet switch header) is =
      row_told_by row (journal_step_text net (Packet switch header)) ∙ ap (λ (ws : List (List ℕ)). audit_row_told
      ((decimal row ++ 58 ∷ []) ∷ ws)) (packet_words switch header)
      ∙ row_packet (decimal row ++ 58 ∷ []) (net_switch_name_of net switch) (address_text header.fields.src)
      (address_text header.fields.dst) (decimal header.fields.sport) (decimal header.fields.dport)
      (proto_number_text header.fields.proto) header.fields (row_number_is row is.0 is.1)
      (name_is laws.names net sound switch is.2) (fields_back header is.3)
  row_line_told row step is = row_told_by row (journal_step_text net step)

  -- ---- moves

  entered_line_told : (packet switch : ℕ) → packet ≤ max_step_number → StepSwitchExists net switch
      → audit_told_of (journal_packet_at_text net (codes "  entered") packet switch) ≡ Some (told.Entered packet)
  unfolding audit_told_of audit_item_told
  entered_line_told packet switch most there =
      ap audit_told_by_words (words_at (codes "  entered") packet switch)
      ∙ ap (λ (b : Bool). cond b (option_map told.Entered (trace_number_of_word (decimal packet))) None)
      (name_is laws.names net sound switch there)
      ∙ ap (option_map told.Entered) (number packet most)

  submitted_line_told : (file version : ℕ) → file ≤ max_step_number → version ≤ max_step_number
      → audit_told_of (journal_two_numbers_text (codes "  submitted file") file (codes " version ") version)
      ≡ Some (told.Submitted file version)
  unfolding audit_told_of audit_item_told
  submitted_line_told file version some few =
      ap audit_told_by_words (words_both (codes "  submitted file") (codes "version") file version)
      ∙ pair_both told.Submitted _ _ file version (number file some) (number version few)

  -- of one number alone
  number_line_told : (text : List ℕ) (tells : ℕ → AuditTold) (n : ℕ) → n ≤ max_step_number
      → audit_told_by_words (audit_words_of text ++ decimal n ∷ []) ≡ option_map tells (trace_number_of_word (decimal n))
      → audit_told_of (journal_text_with_number text n) ≡ Some (tells n)
  unfolding audit_told_of
  number_line_told text tells n most is = cc (words_number text n, is, number n most)

  left_line_told : (packet port : ℕ) → packet ≤ max_step_number → port ≤ 4294967295
      → audit_told_of (journal_two_numbers_text (codes "  out") packet (codes " port ") port)
      ≡ Some (told.Ended packet (LeftBy port))
  unfolding audit_told_of audit_item_told
  left_line_told packet port most small =
      ap audit_told_by_words (words_both (codes "  out") (codes "port") packet port)
      ∙ pair_both (λ i p. told.Ended i (LeftBy p)) _ _ packet port (number packet most)
      (laws.number 4294967295 port small (omega (arith, small)))

  stuck_line_told : (packet switch : ℕ) (cause : List ℕ) → packet ≤ max_step_number
      → audit_told_of ((journal_packet_at_text net (codes "  stuck") packet switch ++ codes " ") ++ cause)
      ≡ Some (told.Ended packet Stuck)
  unfolding audit_told_of audit_item_told
  stuck_line_told packet switch cause most =
      ap audit_told_by_words (words_next (journal_packet_at_text net (codes "  stuck") packet switch) [] cause
      ∙ ap (λ ws. ws ++ audit_words_of cause) (words_at (codes "  stuck") packet switch))
      ∙ ap (option_map (λ i. told.Ended i Stuck)) (number packet most)

  -- ---- decisions

  how_is : (how : How) → IsHowText (journal_how_text net how)
  how_is (Cached message) = record {
    how = codes "cache";
    more = decimal message;
    others = [];
    words = words_number (codes "cache") message;
    known = refl;
  }
  how_is (Authority switch partition) = record {
    how = codes "authority";
    more = net_switch_name_of net switch;
    others = audit_words_of (codes "part " ++ decimal partition);
    words = words_next (journal_text_with_name net (codes "authority") switch) (codes "part ")
        (decimal partition)
        ∙ ap (λ ws. ws ++ audit_words_of (codes "part " ++ decimal partition))
        (words_name (codes "authority") switch);
    known = refl;
  }

  ruled_words : (rule : Option ℕ) (action : Action)
      → audit_words_of (((codes "rule " ++ policy_rule_text rule) ++ codes " ") ++ policy_action_text action)
      ≡ codes "rule" ∷ policy_rule_text rule ∷ policy_action_text action ∷ []
  ruled_words rule action =
      words_next (codes "rule " ++ policy_rule_text rule) [] (policy_action_text action)
      ∙ ap (λ (ws : List (List ℕ)). (codes "rule" ∷ ws) ++ audit_words_of (policy_action_text action))
      (one_word (policy_rule_text rule) (rule_word rule))
      ∙ ap (λ (ws : List (List ℕ)). codes "rule" ∷ policy_rule_text rule ∷ ws)
      (one_word (policy_action_text action) (action_word action))

  version_words : (version : ℕ) → audit_words_of (118 ∷ decimal version) ≡ (118 ∷ decimal version) ∷ []
  version_words version = cc (one_word (decimal version) (number_word version))

  decided_words : (packet version : ℕ) (rule : Option ℕ) (action : Action) (how : List ℕ)
      → audit_words_of (((journal_two_numbers_text (codes "  decided") packet (codes " v") version
      ++ journal_cached_rule_text rule action) ++ codes " ") ++ how)
      ≡ [] ∷ [] ∷ codes "decided" ∷ decimal packet ∷ (118 ∷ decimal version) ∷ codes "rule"
      ∷ policy_rule_text rule ∷ policy_action_text action ∷ audit_words_of how
  unfolding journal_cached_rule_text
  decided_words packet version rule action how =
      let two = journal_two_numbers_text (codes "  decided") packet (codes " v") version in
      words_next (two ++ journal_cached_rule_text rule action) [] how
      ∙ ap (λ ws. ws ++ audit_words_of how)
      (words_blank two (((codes "rule " ++ policy_rule_text rule) ++ codes " ") ++ policy_action_text action)
      ∙ ap (λ ws. ws ++ audit_words_of (((codes "rule " ++ policy_rule_text rule) ++ codes " ")
      ++ policy_action_text action))
      (words_two (codes "  decided") (codes "v") packet version
      ∙ behind (audit_words_of (codes "  decided") ++ decimal packet ∷ [])
      (audit_words_of (118 ∷ decimal version)) ((118 ∷ decimal version) ∷ []) (version_words version))
      ∙ ap (λ (ws : List (List ℕ)). [] ∷ [] ∷ codes "decided" ∷ decimal packet
      ∷ (118 ∷ decimal version) ∷ ws) (ruled_words rule action))

  -- what is read of the words of a decision
  decided_read : (packet version : ℕ) (rule action how more : List ℕ) (others : List (List ℕ))
      → packet ≤ max_step_number → version ≤ max_step_number
      → (bytes_eq how (codes "cache") || bytes_eq how (codes "authority")) ≡ true
      → audit_told_by_words ([] ∷ [] ∷ codes "decided" ∷ decimal packet ∷ (118 ∷ decimal version)
      ∷ codes "rule" ∷ rule ∷ action ∷ how ∷ more ∷ others)
      ≡ Some (told.Decided packet version rule action)
  unfolding audit_item_told
  decided_read packet version rule action how more others most few known =
      ap (λ (b : Bool). cond b (audit_pair_told (λ i v. told.Decided i v rule action)
      (trace_number_of_word (decimal packet)) (trace_number_of_word (decimal version))) None) known
      ∙ pair_both (λ i v. told.Decided i v rule action) _ _ packet version (number packet most)
      (number version few)

  decided_line_told : (packet version : ℕ) (rule : Option ℕ) (action : Action) (how : How)
      → packet ≤ max_step_number → version ≤ max_step_number
      → audit_told_of (journal_item_line net (item.Decided packet version rule action how))
      ≡ Some (told.Decided packet version (policy_rule_text rule) (policy_action_text action))
  unfolding audit_told_of
  decided_line_told packet version rule action how most few = let h = how_is how in
      ap audit_told_by_words (decided_words packet version rule action (journal_how_text net how)
      ∙ ap (λ (ws : List (List ℕ)). [] ∷ [] ∷ codes "decided" ∷ decimal packet
      ∷ (118 ∷ decimal version) ∷ codes "rule" ∷ policy_rule_text rule ∷ policy_action_text action ∷ ws) h.words)
      ∙ decided_read packet version (policy_rule_text rule) (policy_action_text action) h.how h.more h.others
      most few h.known

  -- ---- all items

  pub line_told : (item : Item) → IsReadable net item
      → audit_told_of (journal_item_line net item) ≡ Some (told_item item)
  unfolding audit_told_of audit_item_told journal_two_numbers_text
  line_told (item.Row row step) is = row_line_told row step is
  line_told (item.Entered packet switch header) is = entered_line_told packet switch is.0 is.1
  line_told (item.Submitted file version) is = submitted_line_told file version is.0 is.1
  line_told (item.Retired version) is =
      number_line_told (codes "  retired") told.Retired version is refl
  line_told (item.Decided packet version rule action how) is =
      decided_line_told packet version rule action how is.0 is.1
  line_told (item.Left packet port leaving) is = left_line_told packet port is.0 is.1
  line_told (item.Dropped packet) is =
      number_line_told (codes "  dropped") (λ i. told.Ended i Dropped) packet is refl
  line_told (item.Lost packet) is =
      number_line_told (codes "  lost") (λ i. told.Ended i Lost) packet is refl
  line_told (item.Stuck packet switch cause leg down) is =
      stuck_line_told packet switch (journal_cause_text cause) is
  line_told (item.Closed packet switch) is =
      silent ((decimal packet ++ codes " ") ++ net_switch_name_of net switch)
  line_told (item.Seeking packet version partition route) is =
      silent ((((decimal packet ++ codes " v") ++ decimal version)
      ++ journal_text_with_number (codes " part") partition) ++ journal_text_via net route)
  line_told (item.Exiting packet route) is = silent (decimal packet ++ journal_text_via net route)
  line_told (item.Hopped packet switch) is =
      silent ((decimal packet ++ codes " ") ++ net_switch_name_of net switch)
  line_told (item.FoundDown packet one two) is =
      silent ((((decimal packet ++ codes " ") ++ net_switch_name_of net one) ++ codes " ") ++ net_switch_name_of net two)
  line_told (item.Rerouted packet route) is = silent (decimal packet ++ journal_text_via net route)
  line_told (item.Sent number message) is =
      silent ((((decimal number ++ codes " ") ++ journal_receiver_text net message.to) ++ codes " ")
      ++ journal_body_text net message.body)
  line_told (item.Delivered number) is = silent (decimal number)
  line_told (item.Forgotten number) is = silent (decimal number)
  line_told (item.Expired switch place message) is =
      silent ((((net_switch_name_of net switch ++ codes " ") ++ decimal place) ++ codes " message ")
      ++ decimal message)
  line_told (item.Refused file code) is =
      silent (((codes "file " ++ decimal file) ++ codes " code ") ++ decimal code)
  line_told (item.Current version) is = silent (decimal version)
  line_told (item.Booted switch boot) is =
      silent ((net_switch_name_of net switch ++ codes " ") ++ decimal boot)
  line_told (item.Opened switch version) is =
      silent ((net_switch_name_of net switch ++ codes " version ") ++ decimal version)
  line_told (item.Down switch) is = silent (net_switch_name_of net switch)
  line_told (item.OverNow switch) is = silent (net_switch_name_of net switch)
  line_told (item.LinkIs one two up) is =
      silent ((((net_switch_name_of net one ++ codes " ") ++ net_switch_name_of net two) ++ codes " ") ++ journal_state_text up)
  line_told item.Nothing is = refl
