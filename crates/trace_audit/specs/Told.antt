-- What a line of a printed trace says, by its first words. A line is cut at each single blank, so
-- that two blanks make an empty word. A number is decimal, without sign or leading zero.
use Rattle.std.specs.Prelude.{[], if◌then◌else◌, ◌&&◌, ◌==◌, ◌||◌, ◌∷◌, ◌≡◌, ◌⊎◌, Bool, List, MatchOption, None, Option, Some, bytes_eq, codes, drop, false, nat_le, not, option_map, take, ℕ}
use Rattle.base.specs.Exports.{Bor, list_all, list_any, option_map_or}
use Rattle.five_tuple.specs.Exports.{header_of, tuple_number_up_to, tuple_fields_of, tuple_text_parts_round_byte}
use Rattle.update_machine.specs.Exports.{Dropped, MachinePacketEnd, Header, LeftBy, Lost, Stuck}
use Rattle.net_file.specs.Exports.{is_net_name}
use Rattle.steps.specs.Exports.{max_events, max_step_number}

pub data AuditTold : Type 0 where
  -- a row of a schedule, with its header if it is a packet's
  Row : (header : Option Header) → AuditTold
  -- a move of the abstract machine; a decision has its rule and its action as texts
  Entered : (packet : ℕ) → AuditTold
  Submitted : (file version : ℕ) → AuditTold
  Retired : (version : ℕ) → AuditTold
  Decided : (packet version : ℕ) (rule action : List ℕ) → AuditTold
  Ended : (packet : ℕ) (end : MachinePacketEnd) → AuditTold
  -- an item that is no move, a meter's line, or the verdict of `--quiet`
  Nothing : AuditTold

-- ---- words

-- the parts of the text before and after the first such byte; none if it has no such byte
abbrev pub IsAuditTextCut : ℕ → List ℕ → Option (Bor (List ℕ) × Bor (List ℕ)) → Type 0
IsAuditTextCut byte text cut = MatchOption cut
    (tuple_text_parts_round_byte byte text ≡ text ∷ [])
    (λ r. tuple_text_parts_round_byte byte text ≡ r.0.now ∷ tuple_text_parts_round_byte byte r.1.now)

abbrev pub audit_words_of : List ℕ → List (List ℕ)
audit_words_of line = tuple_text_parts_round_byte 32 line

-- the words of the text that is left, if one is left
abbrev pub trace_words_left : Option (Bor (List ℕ)) → List (List ℕ)
trace_words_left None = []
trace_words_left (Some text) = audit_words_of text.now

-- the word has no blank
abbrev pub trace_word_lacks_blank : List ℕ → Bool
trace_word_lacks_blank word = list_all (λ b. not (b == 32)) word

-- this is the first word, and more words follow it
abbrev pub audit_line_begins_with : List ℕ → List (List ℕ) → Bool
audit_line_begins_with word (first ∷ next ∷ more) = bytes_eq first word
audit_line_begins_with word _ = false

-- the part of the text after the word and a blank, if it begins with them
abbrev pub IsTraceRestAfter : List ℕ → List ℕ → Option (Bor (List ℕ)) → Type 0
IsTraceRestAfter word text after = MatchOption after
    (audit_line_begins_with word (audit_words_of text) ≡ false) (λ rest. audit_words_of text ≡ word ∷ audit_words_of rest.now)

-- the first word is this one and was taken, and more words follow
abbrev pub IsTraceWordTaken : List ℕ → List (List ℕ) → List (List ℕ) → Type 0
IsTraceWordTaken word old new = (next : List ℕ) × (more : List (List ℕ))
    × (old ≡ word ∷ next ∷ more) × (new ≡ next ∷ more)

-- the first word was taken, and `said` is whether it passes the test
abbrev pub TakesAuditWord : List (List ℕ) → (List ℕ → Bool) → List (List ℕ) → Bool → Type 0
TakesAuditWord old passes new said = (next : List ℕ) × (old ≡ next ∷ new) × (said ≡ passes next)

-- there is no word, or more than one
abbrev pub IsNoSingleAuditWord : List (List ℕ) → Type 0
IsNoSingleAuditWord words = (words ≡ []) ⊎ ((one : List ℕ) × (two : List ℕ) × (more : List (List ℕ))
    × (words ≡ one ∷ two ∷ more))

-- the number of a packet, a file or a version
abbrev pub trace_number_of_word : List ℕ → Option ℕ
trace_number_of_word word = tuple_number_up_to max_step_number word

-- the version of the word `vV`
abbrev pub trace_version_of_word : List ℕ → Option ℕ
trace_version_of_word word =
    if bytes_eq (take 1 word) (codes "v") then trace_number_of_word (drop 1 word) else None

-- the parts of a word cut at its colons are the number of a row and nothing after it
abbrev pub is_trace_row_number : List (List ℕ) → Bool
is_trace_row_number (number ∷ [] ∷ []) = option_map_or (nat_le 1) (tuple_number_up_to max_events number) false
is_trace_row_number _ = false

abbrev pub audit_pair_told : (ℕ → ℕ → AuditTold) → Option ℕ → Option ℕ → Option AuditTold
audit_pair_told told (Some one) (Some two) = Some (told one two)
audit_pair_told told _ _ = None

-- ---- rows

-- the words of `row R: packet S SRC DST SPORT DPORT PROTO` after `packet`
abbrev pub audit_packet_row_told : List ℕ → List (List ℕ) → Option AuditTold
audit_packet_row_told row (switch ∷ src ∷ dst ∷ sport ∷ dport ∷ proto ∷ []) =
    if is_trace_row_number (tuple_text_parts_round_byte 58 row) && is_net_name switch
    then option_map (λ fields. Row (Some (header_of fields)))
    (tuple_fields_of src dst sport dport proto) else None
audit_packet_row_told row _ = None

-- a row of another kind may have any form
abbrev pub audit_row_told : List (List ℕ) → Option AuditTold
audit_row_told (row ∷ kind ∷ fields) =
    if bytes_eq kind (codes "packet") then audit_packet_row_told row fields else Some (Row None)
audit_row_told (row ∷ []) = Some (Row None)
audit_row_told [] = None

-- ---- moves, by the words after the first one

-- `entered I S`
abbrev pub audit_entered_told : List (List ℕ) → Option AuditTold
audit_entered_told (packet ∷ switch ∷ []) =
    if is_net_name switch then option_map Entered (trace_number_of_word packet) else None
audit_entered_told _ = None

-- `submitted file F version V`
abbrev pub audit_submitted_told : List (List ℕ) → Option AuditTold
audit_submitted_told (first ∷ file ∷ second ∷ version ∷ []) =
    if bytes_eq first (codes "file") && bytes_eq second (codes "version")
    then audit_pair_told Submitted (trace_number_of_word file) (trace_number_of_word version) else None
audit_submitted_told _ = None

-- `retired V`
abbrev pub audit_retired_told : List (List ℕ) → Option AuditTold
audit_retired_told (version ∷ []) = option_map Retired (trace_number_of_word version)
audit_retired_told _ = None

-- `decided I vV rule RULE ACTION cache ` or with ` authority `, and any bytes
abbrev pub audit_decided_told : List (List ℕ) → Option AuditTold
audit_decided_told (packet ∷ version ∷ word ∷ rule ∷ action ∷ how ∷ more ∷ others) =
    if bytes_eq word (codes "rule") && (bytes_eq how (codes "cache") || bytes_eq how (codes "authority"))
    then audit_pair_told (λ i v. Decided i v rule action) (trace_number_of_word packet) (trace_version_of_word version)
    else None
audit_decided_told _ = None

-- `dropped I`, `lost I`
abbrev pub audit_ended_told : MachinePacketEnd → List (List ℕ) → Option AuditTold
audit_ended_told end (packet ∷ []) = option_map (λ i. Ended i end) (trace_number_of_word packet)
audit_ended_told end _ = None

-- `out I port P`
abbrev pub audit_left_told : List (List ℕ) → Option AuditTold
audit_left_told (packet ∷ word ∷ port ∷ []) =
    if bytes_eq word (codes "port")
    then audit_pair_told (λ i p. Ended i (LeftBy p)) (trace_number_of_word packet) (tuple_number_up_to 4294967295 port)
    else None
audit_left_told _ = None

-- `stuck I ` and any bytes
abbrev pub audit_stuck_told : List (List ℕ) → Option AuditTold
audit_stuck_told (packet ∷ more ∷ others) = option_map (λ i. Ended i Stuck) (trace_number_of_word packet)
audit_stuck_told _ = None

-- ---- lines

-- a blank and any bytes follow
abbrev pub audit_any_told : List (List ℕ) → Option AuditTold
audit_any_told (more ∷ others) = Some Nothing
audit_any_told [] = None

-- nothing follows
abbrev pub audit_alone_told : List (List ℕ) → Option AuditTold
audit_alone_told [] = Some Nothing
audit_alone_told _ = None

-- the first words of items that are no moves
abbrev pub audit_silent_words : List (List ℕ)
audit_silent_words = codes "closed" ∷ codes "tunnelled" ∷ codes "exit" ∷ codes "hopped" ∷ codes "found"
    ∷ codes "rerouted" ∷ codes "sent" ∷ codes "delivered" ∷ codes "forgotten" ∷ codes "expired"
    ∷ codes "refused" ∷ codes "current" ∷ codes "booted" ∷ codes "opened" ∷ codes "down"
    ∷ codes "over" ∷ codes "link" ∷ []

-- an item that is no move
abbrev pub audit_silent_told : List (List ℕ) → Option AuditTold
audit_silent_told (word ∷ args) =
    if bytes_eq word (codes "nothing") then audit_alone_told args else
    if list_any (bytes_eq word) audit_silent_words then audit_any_told args else None
audit_silent_told [] = None

-- an item, by its word and the words after it
unfoldable pub audit_item_told : List ℕ → List (List ℕ) → Option AuditTold
audit_item_told word args =
    if bytes_eq word (codes "nothing") then audit_alone_told args else
    if bytes_eq word (codes "entered") then audit_entered_told args else
    if bytes_eq word (codes "submitted") then audit_submitted_told args else
    if bytes_eq word (codes "retired") then audit_retired_told args else
    if bytes_eq word (codes "decided") then audit_decided_told args else
    if bytes_eq word (codes "dropped") then audit_ended_told Dropped args else
    if bytes_eq word (codes "out") then audit_left_told args else
    if bytes_eq word (codes "lost") then audit_ended_told Lost args else
    if bytes_eq word (codes "stuck") then audit_stuck_told args else
    if list_any (bytes_eq word) audit_silent_words then audit_any_told args else None

-- after a first empty word: an item follows two blanks
abbrev pub audit_indented_told : List (List ℕ) → Option AuditTold
audit_indented_told (second ∷ word ∷ args) = if bytes_eq second [] then audit_item_told word args else None
audit_indented_told _ = None

abbrev pub audit_told_by_words : List (List ℕ) → Option AuditTold
audit_told_by_words (first ∷ args) =
    if bytes_eq first (codes "row") then audit_row_told args else
    if bytes_eq first (codes "meter") || bytes_eq first (codes "quiet") then audit_any_told args else
    if bytes_eq first [] then audit_indented_told args else None
audit_told_by_words [] = None

-- what a line says; none if it is bad whatever precedes it
unfoldable pub audit_told_of : List ℕ → Option AuditTold
audit_told_of line = audit_told_by_words (audit_words_of line)
