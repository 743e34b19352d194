-- What a step does to links, and how many messages it sends: links stay as they are, or those of
-- one switch change and are told of, or a switch begins a boot.
use Rattle.std.proofs.Common.{[], ◌++◌, ◌+◌, ◌∙◌, ◌∷◌, ◌≡◌, ◌≤◌, ◌⊎◌, Bool, IsFalse, List, None, Option, Some, ap, append-nil, append_assoc, arith, false, inl, inr, length, map, max, min, refl, subst, sym, true, ℕ}
use Rattle.base.proofs.Exports.{beq}
use Rattle.update_machine.specs.Exports.{Body, Confirm, Crash, Deliver, Item, LinkDown, LinkUp, Message, NoMachineItemConcerns, Packet, Place, Resend, Restart, Setting, Step, Update, journal_body_to_switch, journal_boot_of, machine_item_concerns_links, machine_controller_items, journal_crash_items, machine_deliver_items, machine_delivery_items, machine_hello_of, is_deliverable, is_link_up_in_journal, is_up, journal_items_then, journal_link_changes, machine_link_items, journal_message_of, journal_next_packet, nothing, journal_packets_at, machine_advert_passed_on, piece, machine_received_items, machine_resend_items, machine_restart_items, machine_send_items, journal_stamp_of, machine_step_items, journal_switch_items, journal_version_count}
use Rattle.net_file.specs.Exports.{IsNet}
use Rattle.control_laws.proofs.ControlCommands.{confirm_control, controller_control, resends_any, update_has}
use Rattle.control_laws.proofs.ControlStampingSwitches.{IsPlain, control_is_plain, control_plain, losts_have, packet_plain, plain_keeps_links, sends_silent, step_plain}
use Rattle.control_laws.proofs.ControlFactsGrown.{count_more}
use Rattle.control_laws.proofs.ControlSaidToController.{ChangedNoLinks, opening_items, switch_cases}
use Rattle.control_laws.proofs.ControlAllAdverts.{delivered_first, row_first}
use Rattle.control_laws.proofs.ControlMessageCounts.{confirm_few, controller_few, packet_few, passed_few, put_few, resend_few, sends_count, sent, sent_more, step_few, update_few}
use Rattle.control_laws.proofs.ControlLinkSends.{all_adverts_sent, changes_few}
use Rattle.control_laws.proofs.ControlLinkPieces.{IsLinkPiece, link_piece}

-- ---- pieces that begin a boot

-- a switch that was down begins a boot, and tells the controller
pub record IsBootPiece (before items : List Item) : Type 0 where
  pub row : ℕ
  pub step : Step
  pub switch : ℕ
  pub boot : ℕ
  pub hello : List Item
  pub next : boot ≡ journal_boot_of (before ++ Item.Row row step ∷ []) switch + 1
  pub told : sent hello ≡ 1
  pub silent : NoMachineItemConcerns machine_item_concerns_links
      ((before ++ Item.Row row step ∷ []) ++ Item.Booted switch boot ∷ []) hello
  pub written : items ≡ Item.Row row step ∷ Item.Booted switch boot ∷ hello

-- ---- what each step does

-- links stay as they are, and few messages are sent
pub record IsQuietPiece (setting : Setting) (before items : List Item) : Type 0 where
  pub none : NoMachineItemConcerns machine_item_concerns_links before items
  pub few : IsNet setting.net → journal_version_count before ≤ 64 → sent items ≤ 5000

-- links stay, or change at one switch, or a switch begins a boot
abbrev pub PieceKind : Setting → List Item → List Item → Type 0
PieceKind setting before items = IsQuietPiece setting before items
    ⊎ (IsLinkPiece setting before items ⊎ IsBootPiece before items)

behind_row : (setting : Setting) (before : List Item) (row : ℕ) (step : Step) (items : List Item)
    → NoMachineItemConcerns machine_item_concerns_links (before ++ Item.Row row step ∷ []) items → (IsNet setting.net
    → journal_version_count (before ++ Item.Row row step ∷ []) ≤ 64 → sent items ≤ 5000) → PieceKind setting
    before (Item.Row row step ∷ items)
behind_row setting before row step items none few = inl (record {
  none = (refl, none);
  few = λ net versions. omega (arith, sent_more, few net (omega (arith, count_more)));
})

behind_delivered : (setting : Setting) (before : List Item) (row number : ℕ) (step : Step)
    (items : List Item)
    → let now = (before ++ Item.Row row step ∷ []) ++ Item.Delivered number ∷ [] in
    NoMachineItemConcerns machine_item_concerns_links now items
    → (IsNet setting.net → journal_version_count now ≤ 64 → sent items ≤ 5000)
    → PieceKind setting before (Item.Row row step ∷ Item.Delivered number ∷ items)
behind_delivered setting before row number step items none few =
    let here : List Item = before ++ Item.Row row step ∷ [] in
    behind_row setting before row step (Item.Delivered number ∷ items) (refl, none)
    (λ net versions. omega (
      arith,
      sent_more (Item.Delivered number) items,
      few net (omega (arith, count_more here (Item.Delivered number), versions)),
    ))

nothing_happens : (setting : Setting) (before : List Item) (row : ℕ) (step : Step)
    → PieceKind setting before (Item.Row row step ∷ nothing)
nothing_happens setting before row step =
    behind_row setting before row step nothing (refl, tt) (λ net versions. omega arith)

nothing_caused : (setting : Setting) (before : List Item) (row number : ℕ) (step : Step)
    → PieceKind setting before (Item.Row row step ∷ Item.Delivered number ∷ [])
nothing_caused setting before row number step =
    behind_delivered setting before row number step [] tt (λ net versions. omega arith)

sends_few : (journal : List Item) (messages : List Message) (most : ℕ) → length messages ≤ most
    → sent (machine_send_items journal messages) ≤ most
sends_few journal messages most few = omega (arith, few, sends_count journal messages)

link_kind : (setting : Setting) (before : List Item) (row : ℕ) (step : Step) (one two : ℕ)
    (up : Bool) → let here = before ++ Item.Row row step ∷ [] in
    PieceKind setting before (Item.Row row step ∷ machine_link_items setting before one two up here)
unfolding machine_link_items
link_kind setting before row step one two up = by_test (beq (is_link_up_in_journal before one two) up) where
  here : List Item
  here = before ++ Item.Row row step ∷ []

  by_test : (same : Bool) → PieceKind setting before (Item.Row row step ∷ elim same [
    | true ↦ nothing
    | false ↦ journal_items_then (Item.LinkIs (min one two) (max one two) up ∷ [])
        (journal_link_changes setting before) (before ++ Item.Row row step ∷ [])
  ])
  by_test true = nothing_happens setting before row step
  by_test false =
      inr (inl (link_piece setting before (Item.Row row step ∷ []) (Item.LinkIs (min one two)
      (max one two) up) [] (min one two) refl (row_first before row step) (refl, tt) tt refl _
      (ap (λ now. Item.Row row step ∷ Item.LinkIs (min one two) (max one two) up
      ∷ journal_link_changes setting before now) (sym (append-nil
      ((before ++ Item.Row row step ∷ []) ++ Item.LinkIs (min one two) (max one two) up ∷ []))))))

lost_unsent : (packets : List ℕ) → sent (map Item.Lost packets) ≡ 0
lost_unsent [] = refl
lost_unsent (i ∷ packets) =
    sent_more (Item.Lost i) (map Item.Lost packets) ∙ omega (arith, lost_unsent packets)

crash_kind : (setting : Setting) (before : List Item) (row : ℕ) (step : Step) (s : ℕ)
    → let here = before ++ Item.Row row step ∷ [] in
    PieceKind setting before (Item.Row row step ∷ journal_crash_items setting before s here)
unfolding journal_crash_items
crash_kind setting before row step s = by_up (is_up before s) where
  by_up : (up : Bool) → PieceKind setting before (Item.Row row step ∷ elim up [
    | false ↦ nothing
    | true ↦ journal_items_then (Item.Down s ∷ map Item.Lost (journal_packets_at before s))
        (journal_link_changes setting before) (before ++ Item.Row row step ∷ [])
  ])
  by_up false = nothing_happens setting before row step
  by_up true = inr (inl (link_piece setting before (Item.Row row step ∷ []) (Item.Down s)
      (map Item.Lost (journal_packets_at before s)) s refl (row_first before row step) (refl, tt)
      (losts_have (λ now next. IsFalse (machine_item_concerns_links now next)) (λ now i. refl)
      (journal_packets_at before s) ((before ++ Item.Row row step ∷ []) ++ Item.Down s ∷ []))
      (sent_more (Item.Row row step) (Item.Down s ∷ map Item.Lost (journal_packets_at before s)) ∙ omega (
        arith,
        sent_more (Item.Down s) (map Item.Lost (journal_packets_at before s)),
        lost_unsent (journal_packets_at before s),
      )) _
      (ap (λ now. Item.Row row step ∷ Item.Down s ∷ map Item.Lost (journal_packets_at before s) ++
      journal_link_changes setting before now) (sym (append_assoc (before ++ Item.Row row step ∷ [])
      (Item.Down s ∷ []) (map Item.Lost (journal_packets_at before s)))))))

restart_kind : (setting : Setting) (before : List Item) (row : ℕ) (step : Step) (s : ℕ)
    → let here = before ++ Item.Row row step ∷ [] in
    PieceKind setting before (Item.Row row step ∷ machine_restart_items s here)
unfolding machine_restart_items
restart_kind setting before row step s = by_up (is_up (before ++ Item.Row row step ∷ []) s) where
  by_up : (up : Bool) → PieceKind setting before (Item.Row row step ∷ elim up [
    | true ↦ nothing
    | false ↦ journal_items_then (Item.Booted s (journal_boot_of (before ++ Item.Row row step ∷ []) s + 1) ∷ [])
        (λ booted. machine_send_items booted (machine_hello_of booted s ∷ [])) (before ++ Item.Row row step ∷ [])
  ])
  by_up true = nothing_happens setting before row step
  by_up false = inr (inr (record {
    row = row;
    step = step;
    switch = s;
    boot = journal_boot_of (before ++ Item.Row row step ∷ []) s + 1;
    hello = machine_send_items booted (machine_hello_of booted s ∷ []);
    next = refl;
    told = sends_count booted (machine_hello_of booted s ∷ []);
    silent = sends_silent booted (machine_hello_of booted s ∷ []);
    written = refl;
  }))
    where
      booted : List Item
      booted = (before ++ Item.Row row step ∷ [])
          ++ Item.Booted s (journal_boot_of (before ++ Item.Row row step ∷ []) s + 1) ∷ []

-- ---- deliveries

switch_kind : (setting : Setting) (before : List Item) (row number : ℕ) (step : Step) (s : ℕ)
    (body : Body)
    → let now = (before ++ Item.Row row step ∷ []) ++ Item.Delivered number ∷ [] in
    PieceKind setting before (Item.Row row step ∷ Item.Delivered number
    ∷ journal_switch_items setting before s body now)
switch_kind setting before row number step s body = switch_cases (λ items. PieceKind setting before
    (Item.Row row step ∷ Item.Delivered number ∷ items)) setting before s body now
    (λ boot version. answered _) (λ boot version. answered _) (λ boot version is. opened)
    (λ advert is news. sent_behind (machine_advert_passed_on setting now s advert)
    (λ net. omega (arith, passed_few setting net now s advert)))
    (nothing_caused setting before row number step)
  where
    here : List Item
    here = before ++ Item.Row row step ∷ []

    now : List Item
    now = here ++ Item.Delivered number ∷ []

    sent_behind : (messages : List Message) → (IsNet setting.net → length messages ≤ 5000)
        → PieceKind setting before (Item.Row row step ∷ Item.Delivered number
        ∷ machine_send_items now messages)
    sent_behind messages few = behind_delivered setting before row number step _
        (sends_silent now messages) (λ net versions. sends_few now messages 5000 (few net))

    answered : (message : Message) → PieceKind setting before (Item.Row row step
        ∷ Item.Delivered number ∷ machine_send_items now (message ∷ []))
    answered message = sent_behind (message ∷ []) (λ net. omega arith)

    opened : PieceKind setting before (Item.Row row step ∷ Item.Delivered number
        ∷ opening_items setting before s now)
    opened =
        let whole : before ++ (Item.Row row step ∷ Item.Delivered number ∷ []) ≡ now =
        sym (append_assoc before (Item.Row row step ∷ []) (Item.Delivered number ∷ [])) in
        inr (inl (link_piece setting before
        (Item.Row row step ∷ Item.Delivered number ∷ []) (Item.Opened s (journal_stamp_of now s)) [] s refl
        (subst ChangedNoLinks (sym whole) (delivered_first here number (row_first before row step)))
        (refl, (refl, tt)) tt refl _ (ap (λ later. Item.Row row step ∷ Item.Delivered number
        ∷ Item.Opened s (journal_stamp_of now s) ∷ journal_link_changes setting before later) (sym (append-nil
        ((before ++ (Item.Row row step ∷ Item.Delivered number ∷ [])) ++ Item.Opened s (journal_stamp_of now
        s) ∷ []) ∙ ap (λ journal. journal ++ Item.Opened s (journal_stamp_of now s) ∷ []) whole)))))

received_kind : (setting : Setting) (before : List Item) (row number : ℕ) (step : Step)
    (message : Message)
    → let now = (before ++ Item.Row row step ∷ []) ++ Item.Delivered number ∷ [] in
    PieceKind setting before (Item.Row row step ∷ Item.Delivered number
    ∷ machine_received_items setting before number message now)
received_kind setting before row number step message = by_receiver message.to where
  now : List Item
  now = (before ++ Item.Row row step ∷ []) ++ Item.Delivered number ∷ []

  by_said : (s : ℕ) (said : Option Body)
      → PieceKind setting before (Item.Row row step ∷ Item.Delivered number ∷ elim said [
        | None ↦ []
        | Some body ↦ journal_switch_items setting before s body now
      ])
  by_said s None = nothing_caused setting before row number step
  by_said s (Some body) = switch_kind setting before row number step s body

  by_receiver : (to : Place)
      → PieceKind setting before (Item.Row row step ∷ Item.Delivered number ∷ elim to [
        | Place.Controller ↦ machine_controller_items setting before message.body now
        | Place.Switch s ↦ elim (journal_body_to_switch before s number) [
          | None ↦ []
          | Some body ↦ journal_switch_items setting before s body now
        ]
      ])
  by_receiver Place.Controller = behind_delivered setting before row number step
      (machine_controller_items setting before message.body now) (plain_keeps_links now _
      (control_plain now _ (controller_control setting before message.body now)))
      (λ net versions. omega (arith, versions, controller_few setting net before message.body now))
  by_receiver (Place.Switch s) = by_said s (journal_body_to_switch before s number)

deliver_kind : (setting : Setting) (before : List Item) (row number : ℕ) (step : Step)
    → let here = before ++ Item.Row row step ∷ [] in
    PieceKind setting before (Item.Row row step ∷ machine_deliver_items setting before number here)
unfolding machine_deliver_items machine_delivery_items
deliver_kind setting before row number step =
    by_test (is_deliverable before number) (journal_message_of before number)
  where
    here : List Item
    here = before ++ Item.Row row step ∷ []

    now : List Item
    now = here ++ Item.Delivered number ∷ []

    by_test : (can : Bool) (message : Option Message)
        → PieceKind setting before (Item.Row row step ∷ elim can [
          | false ↦ nothing
          | true ↦ Item.Delivered number ∷ [] ++ elim message [
            | None ↦ []
            | Some sent ↦ machine_received_items setting before number sent now
          ]
        ])
    by_test false message = nothing_happens setting before row step
    by_test true None = nothing_caused setting before row number step
    by_test true (Some message) = received_kind setting before row number step message

-- ---- all steps

resend_silent : (setting : Setting) (s : ℕ) (journal : List Item)
    → NoMachineItemConcerns machine_item_concerns_links journal (machine_resend_items setting s journal)
resend_silent setting s journal = resends_any (λ before next. IsFalse (machine_item_concerns_links before next))
    (λ before n message. refl) setting s journal refl

step_kind : (setting : Setting) (before : List Item) (row : ℕ) (step : Step)
    → let here = before ++ Item.Row row step ∷ [] in
    PieceKind setting before (Item.Row row step ∷ machine_step_items setting before step here)
step_kind setting before row (Packet s header) = behind_row setting before row _ _
    (plain_keeps_links _ _ (packet_plain setting (journal_next_packet before) s header _))
    (λ net versions. omega (
      arith,
      packet_few setting (journal_next_packet before) s header
          (before ++ Item.Row row (Packet s header) ∷ []),
    ))
step_kind setting before row (Deliver number) =
    deliver_kind setting before row number (Deliver number)
step_kind setting before row (Update file) = behind_row setting before row _ _
    (plain_keeps_links _ _ (update_has IsPlain control_is_plain setting file _ (λ version. tt)))
    (λ net versions. omega (
      arith,
      update_few setting net file (before ++ Item.Row row (Update file) ∷ []),
    ))
step_kind setting before row (LinkDown one two) =
    link_kind setting before row (LinkDown one two) one two false
step_kind setting before row (LinkUp one two) =
    link_kind setting before row (LinkUp one two) one two true
step_kind setting before row (Crash s) = crash_kind setting before row (Crash s) s
step_kind setting before row (Restart s) = restart_kind setting before row (Restart s) s
step_kind setting before row (Confirm s) = behind_row setting before row _ _
    (plain_keeps_links _ _ (control_plain _ _ (confirm_control setting s _)))
    (λ net versions. omega (
      arith,
      confirm_few setting net s (before ++ Item.Row row (Confirm s) ∷ []),
    ))
step_kind setting before row (Resend s) = behind_row setting before row _ _
    (resend_silent setting s _) (λ net versions. omega (
      arith,
      resend_few setting net s (before ++ Item.Row row (Resend s) ∷ []),
    ))
step_kind setting before row step = behind_row setting before row _ _
    (plain_keeps_links _ _ (step_plain setting before step _ tt)) (λ net versions. omega
    (arith, step_few setting before step (before ++ Item.Row row step ∷ []) tt))

pub piece_kind : (setting : Setting) (before : List Item) (row : ℕ) (step : Step)
    → PieceKind setting before (piece setting before row step)
unfolding piece
piece_kind setting before row step = step_kind setting before row step

-- ---- messages

pub link_changes_few : (setting : Setting) (before now : List Item)
    → sent (journal_link_changes setting before now) ≡ length (all_adverts_sent setting before now)
unfolding journal_link_changes
link_changes_few setting before now = sends_count now _

-- a step sends few messages
pub piece_few : (setting : Setting) → IsNet setting.net → (before : List Item)
    → journal_version_count before ≤ 64 → (row : ℕ) (step : Step)
    → sent (piece setting before row step) ≤ 10_000
piece_few setting net before versions row step = by_kind (piece_kind setting before row step) where
  by_kind : PieceKind setting before (piece setting before row step)
      → sent (piece setting before row step) ≤ 10_000
  by_kind (inl quiet) = omega (arith, quiet.few net versions)
  by_kind (inr (inl links)) = omega (
    arith,
    ap sent links.written,
    put_few links.changes (λ journal. journal_link_changes setting before links.now) before,
    links.silent,
    link_changes_few setting before links.now,
    changes_few setting before links.now links.switch net links.at,
  )
  by_kind (inr (inr boots)) = omega (
    arith,
    ap sent boots.written,
    sent_more (Item.Row boots.row boots.step) (Item.Booted boots.switch boots.boot ∷ boots.hello),
    sent_more (Item.Booted boots.switch boots.boot) boots.hello,
    boots.told,
  )
