-- What the controller writes: versions, marks, and commands to switches.
use Rattle.std.proofs.Common.{[], ◌++◌, ◌+◌, ◌==◌, ◌∙◌, ◌∷◌, ◌≡◌, Bool, IsTrue, List, None, Option, Some, ap, arith, false, filter, filter_map, flat_map, inl, inr, is_some, map, not, refl, sym, true, ℕ}
use Rattle.base.proofs.Exports.{⊤, AllByRecursion, each_always, each_filter, each_flat_map, each_flat_map_in, each_given, each_map, filter_map-append}
use Rattle.update_machine.specs.Exports.{Advert, Advertise, Body, Collect, JournalItemsHaveCauses, Hello, Install, Item, JournalKnownKeeps, MachineLinksKeep, Message, OpenAt, Setting, Stamp, JournalSwitchKeeps, machine_advert_to, journal_adverts_known, machine_after_hello, machine_confirm_items, journal_controller_heard, machine_controller_items, has_acked, journal_usable_links_changed, heard, journal_held_adverts, machine_hello_of, journal_install_for, machine_installs_to, machine_installs_to_all, is_member, is_over, is_up, journal_items_then, journal_known_boot, journal_link_changes, machine_messages_of, machine_messages_over_link, near, journal_opened_at, machine_advert_of_other, own_advert, machine_advert_passed_on, machine_resend_items, journal_resent_by_switch, machine_send_items, machine_sends_or_nothing, machine_settling, machine_submitted_items, machine_switches_in, machine_switches_of, journal_unacked_installs, machine_update_code, machine_update_items, journal_version_count, journal_versions_from_current}
use Rattle.control_laws.proofs.ControlMessageSends.{PartsHave, acked_same, parts_have, sends_kept, settling_has}
use Rattle.update_machine.proofs.Exports.{have_first, have_in_turn, known_keeps, links_keep, switch_keeps}
use Rattle.control_laws.proofs.ControlFactsGrown.{count_more, fact_on, have_weaker, known_more, over_more, told_more}
use Rattle.control_laws.proofs.ControlSwitchOpenings.{each_by_controller, each_to_member, later_versions, member_on, resent_has, still_opened}
use Rattle.failover.specs.Exports.{held_advert}
use Rattle.base.specs.Exports.{has, switches}
use Rattle.control_laws.proofs.ControlSaidToController.{HasLinkCause, HaveLinkCauses, IsHeard, IsHeld, IsTold, IsToldIn}

-- ---- messages that are sent one after another

-- each has the cause that follows from a property of messages
pub sends_each : (cause : List Item → Item → Type 0) (P : Message → Type 0)
    → ((before : List Item) (n : ℕ) (message : Message) → P message
    → cause before (Item.Sent n message)) → (journal : List Item) (messages : List Message)
    → AllByRecursion P messages → JournalItemsHaveCauses cause journal (machine_send_items journal messages)
sends_each cause P has = sends_kept cause (λ before. P) has (λ before n message other new is. is)

-- where any message has it
pub sends_any : (cause : List Item → Item → Type 0) →
    ((before : List Item) (n : ℕ) (message : Message) → cause before (Item.Sent n message)) →
    (journal : List Item) (messages : List Message)
    → JournalItemsHaveCauses cause journal (machine_send_items journal messages)
sends_any cause has journal messages =
    sends_each cause (λ message. ⊤) (λ before n message any. has before n message) journal messages
    (each_always (λ message. ⊤) (λ message. tt) messages)

-- and the same of what is sent again
pub resends_any : (cause : List Item → Item → Type 0) →
    ((before : List Item) (n : ℕ) (message : Message) → cause before (Item.Sent n message)) →
    (setting : Setting) (s : ℕ) (journal : List Item) → cause journal Item.Nothing
    → JournalItemsHaveCauses cause journal (machine_resend_items setting s journal)
unfolding machine_resend_items
resends_any cause has setting s journal none = by_messages _ where
  by_messages : (messages : List Message)
      → JournalItemsHaveCauses cause journal (machine_sends_or_nothing journal messages)
  by_messages [] = (none, tt)
  by_messages (message ∷ messages) = sends_any cause has journal (message ∷ messages)

-- ---- what a switch sends again: its hello, and to each neighbour the adverts that it holds

pub each_by_switch : (P : Message → Type 0) (setting : Setting) (journal : List Item) (s : ℕ)
    → (is_up journal s ≡ true → P (machine_hello_of journal s)) → AllByRecursion P
    (flat_map (λ neighbour. map (machine_advert_to neighbour) (journal_held_adverts setting journal s))
    (machine_switches_in setting (near setting journal s)))
    → AllByRecursion P (journal_resent_by_switch setting journal s)
each_by_switch P setting journal s hello adverts = by_up (is_up journal s) refl where
  by_up : (up : Bool) → is_up journal s ≡ up → AllByRecursion P (elim up [
    | false ↦ []
    | true ↦ machine_hello_of journal s
        ∷ flat_map (λ neighbour. map (machine_advert_to neighbour) (journal_held_adverts setting journal s))
        (machine_switches_in setting (near setting journal s))
  ])
  by_up false e = tt
  by_up true e = (hello e, adverts)

-- ---- controller commands

-- what the controller tells switches
abbrev pub IsCommand : Body → Type 0
IsCommand (Install boot tables) = ⊤
IsCommand (OpenAt boot version) = ⊤
IsCommand (Stamp boot version touched) = ⊤
IsCommand (Collect boot version) = ⊤
IsCommand _ = ⊥

abbrev pub AreCommands : List Message → Type 0
AreCommands messages = AllByRecursion (λ message. IsCommand message.body) messages

-- one to each
pub each_command : {X : Type 0} (to : X → Message) → ((x : X) → IsCommand (to x).body)
    → (xs : List X) → AreCommands (map to xs)
each_command to commands xs = each_map (λ message. IsCommand message.body) to xs
    (each_always (λ x. IsCommand (to x).body) commands xs)

-- ---- settling

-- an item that settling writes
abbrev pub IsOfSettling : List Item → Item → Type 0
IsOfSettling before (Item.Current version) = ⊤
IsOfSettling before (Item.Retired version) = ⊤
IsOfSettling before (Item.Sent number message) = IsCommand message.body
IsOfSettling before _ = ⊥

pub parts_settle : (setting : Setting) → PartsHave IsOfSettling setting
parts_settle setting =
    parts_have IsOfSettling (λ journal message. IsCommand message.body) setting (record {
      sends = sends_each IsOfSettling (λ message. IsCommand message.body)
          (λ before n message is. is);
      rises = λ journal rises. record { may = tt; told = λ s there to member. tt };
      opens = λ journal s there joins. tt;
      retires = λ journal rises. record { may = tt; told = λ s there to member. tt };
    })

pub settling_settles : (setting : Setting) (journal : List Item)
    → JournalItemsHaveCauses IsOfSettling journal (machine_settling setting journal)
settling_settles setting = settling_has IsOfSettling setting (parts_settle setting)

-- ---- what settling leaves, and what grows

pub record Grows (before after : List Item) : Type 0 where
  pub count : journal_version_count after ≡ journal_version_count before
  pub acked : (s v : ℕ) → has_acked after s v ≡ has_acked before s v
  pub known : (s : ℕ) → journal_known_boot after s ≡ journal_known_boot before s
  pub over : (s : ℕ) → is_over after s ≡ is_over before s
  pub opened : (s : ℕ) → IsTrue (is_some (journal_opened_at before s))
      → IsTrue (is_some (journal_opened_at after s))
  pub member : (s : ℕ) → IsTrue (is_member before s) → IsTrue (is_member after s)

grows_by : (before : List Item) (next : Item)
    → journal_version_count (before ++ next ∷ []) ≡ journal_version_count before
    → journal_controller_heard (before ++ next ∷ []) ≡ journal_controller_heard before
    → ((s : ℕ) → journal_known_boot (before ++ next ∷ []) s ≡ journal_known_boot before s)
    → ((s : ℕ) → is_over (before ++ next ∷ []) s ≡ is_over before s)
    → Grows before (before ++ next ∷ [])
grows_by before next count heard known over = record {
  count = count;
  acked = λ s v. acked_same (before ++ next ∷ []) before s v heard;
  known = known;
  over = over;
  opened = λ s. still_opened before next s (known s);
  member = λ s member. member_on before next s (known s) (over s) member;
}

grows_one : (before : List Item) (next : Item) → IsOfSettling before next
    → Grows before (before ++ next ∷ [])
grows_one before (Item.Current version) of = let next : Item = Item.Current version in
    grows_by before next (count_more before next) (told_more before next) (known_more before next)
    (over_more before next)
grows_one before (Item.Retired version) of = let next : Item = Item.Retired version in
    grows_by before next (count_more before next) (told_more before next) (known_more before next)
    (over_more before next)
grows_one before (Item.Sent n message) of = let next : Item = Item.Sent n message in
    grows_by before next (count_more before next) (told_more before next) (known_more before next)
    (over_more before next)
grows_one before _ of = absurd of

pub grows : (before items : List Item) → JournalItemsHaveCauses IsOfSettling before items
    → Grows before (before ++ items)
grows before items have = fact_on IsOfSettling (Grows before)
    (λ now next of so_far. grows_on before now (now ++ next ∷ []) so_far (grows_one now next of))
    before items have itself
  where
    itself : Grows before before
    itself = record {
      count = refl;
      acked = λ s v. refl;
      known = λ s. refl;
      over = λ s. refl;
      opened = λ s opened. opened;
      member = λ s member. member;
    }

    grows_on : (one two three : List Item) → Grows one two → Grows two three → Grows one three
    grows_on one two three first later = record {
      count = later.count ∙ first.count;
      acked = λ s v. later.acked s v ∙ first.acked s v;
      known = λ s. later.known s ∙ first.known s;
      over = λ s. later.over s ∙ first.over s;
      opened = λ s opened. later.opened s (first.opened s opened);
      member = λ s member. later.member s (first.member s member);
    }

-- ---- all that the controller writes, except a version that is submitted

abbrev pub IsControl : List Item → Item → Type 0
IsControl before (Item.Refused file code) = ⊤
IsControl before (Item.OverNow s) = ⊤
IsControl before Item.Nothing = ⊤
IsControl before next = IsOfSettling before next

abbrev pub Control : List Item → List Item → Type 0
Control journal items = JournalItemsHaveCauses IsControl journal items

settling_is : (before : List Item) (next : Item) → IsOfSettling before next → IsControl before next
settling_is before (Item.Current version) of = tt
settling_is before (Item.Retired version) of = tt
settling_is before (Item.Sent number message) of = of
settling_is before _ of = absurd of

pub settling_control : (setting : Setting) (journal : List Item)
    → Control journal (machine_settling setting journal)
settling_control setting journal =
    have_weaker IsOfSettling IsControl settling_is journal _ (settling_settles setting journal)

commands_control : (journal : List Item) (messages : List Message) → AreCommands messages
    → Control journal (machine_send_items journal messages)
commands_control =
    sends_each IsControl (λ message. IsCommand message.body) (λ before n message is. is)

pub installs_control : (setting : Setting) (s : ℕ) (journal : List Item)
    → Control journal (machine_installs_to setting s journal)
unfolding machine_installs_to
installs_control setting s journal = commands_control journal _
    (each_command (λ version. journal_install_for setting journal version s) (λ version. tt) _)

pub all_installs_control : (setting : Setting) (journal : List Item)
    → Control journal (machine_installs_to_all setting journal)
unfolding machine_installs_to_all
all_installs_control setting journal = commands_control journal _ (each_command _ (λ s. tt) _)

submitted_control : (setting : Setting) (journal : List Item)
    → Control journal (machine_submitted_items setting journal)
submitted_control setting journal = have_in_turn IsControl (machine_installs_to_all setting
    ∷ machine_settling setting ∷ []) (all_installs_control setting, (settling_control setting, tt)) journal

-- an update has causes that what the controller writes has, and the version that is submitted
pub update_has : (cause : List Item → Item → Type 0)
    → ((before : List Item) (next : Item) → IsControl before next → cause before next)
    → (setting : Setting) (file : ℕ) (journal : List Item)
    → ((version : ℕ) → cause journal (Item.Submitted file version))
    → JournalItemsHaveCauses cause journal (machine_update_items setting file journal)
unfolding machine_update_items
update_has cause weaker setting file journal submits = by_code (machine_update_code setting journal file)
  where
    by_code : (o : Option ℕ) → JournalItemsHaveCauses cause journal (elim o [
      | Some code ↦ Item.Refused file code ∷ []
      | None ↦ journal_items_then
          (Item.Submitted file (journal_version_count journal + 1) ∷ []) (machine_submitted_items setting) journal
    ])
    by_code (Some code) = (weaker journal (Item.Refused file code) tt, tt)
    by_code None =
        have_first cause (Item.Submitted file (journal_version_count journal + 1)) (machine_submitted_items setting)
        journal (submits (journal_version_count journal + 1))
        (have_weaker IsControl cause weaker _ _ (submitted_control setting _))

pub confirm_control : (setting : Setting) (s : ℕ) (journal : List Item)
    → Control journal (machine_confirm_items setting s journal)
unfolding machine_confirm_items
confirm_control setting s journal = grind (arith, have_first, settling_control)

hello_control : (setting : Setting) (before : List Item) (body : Body) (journal : List Item)
    → Control journal (machine_after_hello setting before body journal)
hello_control setting before (Hello s boot) journal = grind (arith, installs_control)
hello_control setting before _ journal = tt

pub controller_control : (setting : Setting) (before : List Item) (body : Body)
    (journal : List Item) → Control journal (machine_controller_items setting before body journal)
unfolding machine_controller_items
controller_control setting before body journal =
    have_in_turn IsControl (machine_settling setting ∷ machine_after_hello setting before body ∷ [])
    (settling_control setting, (hello_control setting before body, tt)) journal

-- ---- the blocks of a piece in which adverts are sent have their causes

-- ---- what is told stays so while other messages are sent

held_sent : (setting : Setting) (before : List Item) (n s : ℕ) (message : Message) (advert : Advert)
    → IsHeld setting before s advert → IsHeld setting (before ++ Item.Sent n message ∷ []) s advert
held_sent setting before n s message advert is = record {
  origin = is.origin;
  small = is.small;
  held = cc ((known_keeps setting s before (Item.Sent n message ∷ []) (refl, tt)).known, is.held);
}

heard_sent : (setting : Setting) (before : List Item) (n s : ℕ) (message : Message)
    (advert : Advert) → IsHeard before s advert
    → IsHeard (before ++ Item.Sent n message ∷ []) s advert
heard_sent setting before n s message advert is = record {
  earlier = is.earlier;
  heard = ap (filter_map (machine_advert_of_other s))
      (switch_keeps setting s before (Item.Sent n message ∷ []) (refl, tt)).heard ∙ is.heard;
}

told_sent : (setting : Setting) (before : List Item) (n : ℕ) (message : Message) (advert : Advert)
    → IsTold setting before advert → IsTold setting (before ++ Item.Sent n message ∷ []) advert
told_sent setting before n message advert is =
    let same = links_keep setting before (Item.Sent n message ∷ []) (refl, tt) in record {
      switch = is.switch;
      neighbour = is.neighbour;
      near = rw (same.near is.switch) is.near;
      which = elim is.which [
        | inl own ↦ inl (own ∙ sym (same.advert is.switch))
        | inr other ↦ elim other [
          | inl held ↦ inr (inl (held_sent setting before n is.switch message advert held))
          | inr last ↦ inr (inr (heard_sent setting before n is.switch message advert last))
        ]
      ];
    }

told_in_sent : (setting : Setting) (before : List Item) (n : ℕ) (message : Message) (body : Body)
    → IsToldIn setting before body → IsToldIn setting (before ++ Item.Sent n message ∷ []) body
told_in_sent setting before n message (Advertise advert) is =
    told_sent setting before n message advert is
told_in_sent setting before n message _ is = tt

-- ---- messages that are sent one after another

abbrev pub Tells : Setting → List Item → Message → Type 0
Tells setting before message = IsToldIn setting before message.body

pub sends_told : (setting : Setting) (journal : List Item) (messages : List Message)
    → AllByRecursion (Tells setting journal) messages
    → HaveLinkCauses setting journal (machine_send_items journal messages)
sends_told setting =
    sends_kept (HasLinkCause setting) (Tells setting) (λ before n message told. told)
    (λ before n message other new told. told_in_sent setting before n message other.body told)

-- ---- what a switch holds

-- each advert that it holds is told by it, where it has a neighbour
each_held : (setting : Setting) (journal : List Item) (s neighbour : ℕ)
    → IsTrue (has (near setting journal s) neighbour)
    → AllByRecursion (IsTold setting journal) (journal_held_adverts setting journal s)
unfolding journal_held_adverts switches
each_held setting journal s neighbour linked =
    each_given (IsTold setting journal) (held_advert (journal_adverts_known setting journal s)) 0 64
    (λ origin above small advert holds. record {
      switch = s;
      neighbour = neighbour;
      near = linked;
      which = inr (inl (record { origin = origin; small = small; held = holds }));
    })

pub held_told : (setting : Setting) (journal : List Item) (s neighbour : ℕ)
    → IsTrue (has (near setting journal s) neighbour) → AllByRecursion (Tells setting journal)
    (map (machine_advert_to neighbour) (journal_held_adverts setting journal s))
held_told setting journal s neighbour linked =
    each_map (Tells setting journal) (machine_advert_to neighbour) (journal_held_adverts setting journal s)
    (each_held setting journal s neighbour linked)

-- what a switch tells each of its neighbours
pub each_neighbour : (setting : Setting) (journal : List Item) (s : ℕ) (told : ℕ → List Message)
    → ((neighbour : ℕ) → IsTrue (has (near setting journal s) neighbour)
    → AllByRecursion (Tells setting journal) (told neighbour))
    → AllByRecursion (Tells setting journal)
    (flat_map told (machine_switches_in setting (near setting journal s)))
each_neighbour setting journal s told all =
    each_flat_map_in (Tells setting journal) told (machine_switches_in setting (near setting journal s))
    (each_filter (λ neighbour. AllByRecursion (Tells setting journal) (told neighbour))
    (has (near setting journal s)) all (machine_switches_of setting))

-- ---- changed links

own_told : (setting : Setting) (journal : List Item) (s neighbour : ℕ)
    → IsTrue (has (near setting journal s) neighbour)
    → IsTold setting journal (own_advert setting journal s)
own_told setting journal s neighbour linked =
    record { switch = s; neighbour = neighbour; near = linked; which = inl refl }

over_told : (setting : Setting) (before journal : List Item) (s neighbour : ℕ)
    → IsTrue (has (near setting journal s) neighbour)
    → AllByRecursion (Tells setting journal) (machine_messages_over_link setting before journal s neighbour)
over_told setting before journal s neighbour linked =
    by_link (has (near setting before s) neighbour)
  where
    by_link : (old : Bool) → AllByRecursion (Tells setting journal) (elim old [
      | true ↦ machine_advert_to neighbour (own_advert setting journal s) ∷ []
      | false ↦ map (machine_advert_to neighbour) (journal_held_adverts setting journal s)
    ])
    by_link true = (own_told setting journal s neighbour linked, tt)
    by_link false = held_told setting journal s neighbour linked

pub changes_controller_heard : (setting : Setting) (before journal : List Item)
    → HaveLinkCauses setting journal (journal_link_changes setting before journal)
unfolding journal_link_changes
changes_controller_heard setting before journal = sends_told setting journal _
    (each_flat_map (Tells setting journal) (machine_messages_of setting before journal) (λ s. each_neighbour
    setting journal s (machine_messages_over_link setting before journal s) (over_told setting before journal s))
    (filter (journal_usable_links_changed setting before journal) (machine_switches_of setting)))

-- ---- adverts that are passed on

pub passed_told : (setting : Setting) (journal : List Item) (s : ℕ) (advert : Advert)
    → IsHeard journal s advert
    → HaveLinkCauses setting journal (machine_send_items journal (machine_advert_passed_on setting journal s advert))
passed_told setting journal s advert last = sends_told setting journal
    (machine_advert_passed_on setting journal s advert) (each_map (Tells setting journal)
    (λ neighbour. machine_advert_to neighbour advert) (machine_switches_in setting (near setting journal s))
    (each_filter (λ neighbour. Tells setting journal (machine_advert_to neighbour advert))
    (has (near setting journal s)) (λ neighbour linked. record
    { switch = s; neighbour = neighbour; near = linked; which = inr (inr last) })
    (machine_switches_of setting)))

-- an advert of another switch is the last that is heard once it is delivered
pub last_heard : (before now : List Item) (s : ℕ) (bodies : List Body) (advert : Advert)
    → heard now s ≡ bodies ++ Advertise advert ∷ [] → (advert.origin == s) ≡ false
    → IsHeard now s advert
last_heard before now s bodies advert heard other = record {
  earlier = filter_map (machine_advert_of_other s) bodies;
  heard = cc (heard, filter_map-append (machine_advert_of_other s) bodies (Advertise advert ∷ []), told);
} where
  told : filter_map (machine_advert_of_other s) (Advertise advert ∷ []) ≡ advert ∷ []
  told = rw other refl

-- ---- what is sent again has its causes: a switch tells what it holds, the controller no advert

unacked_told : (setting : Setting) (journal : List Item) (s : ℕ) (versions : List ℕ)
    → AllByRecursion (Tells setting journal) (journal_unacked_installs setting journal s versions)
unacked_told setting journal s versions =
    each_map (Tells setting journal) (λ version. journal_install_for setting journal version s)
    (filter (λ version. not (has_acked journal s version)) versions)
    (each_always (λ version. Tells setting journal (journal_install_for setting journal version s))
    (λ version. tt) (filter (λ version. not (has_acked journal s version)) versions))

pub resend_caused : (setting : Setting) (s : ℕ) (journal : List Item)
    → HaveLinkCauses setting journal (machine_resend_items setting s journal)
resend_caused setting s journal = resent_has (HasLinkCause setting) (Tells setting journal) setting
    s journal tt (sends_told setting journal) (each_by_switch (Tells setting journal) setting
    journal s (λ up. tt) (each_neighbour setting journal s (λ neighbour. map (machine_advert_to neighbour)
    (journal_held_adverts setting journal s)) (held_told setting journal s)))
    (each_by_controller (Tells setting journal) setting journal s
    (λ none member. each_to_member (Tells setting journal) setting journal s tt
    (unacked_told setting journal s (later_versions journal)) tt (λ some. tt))
    (λ none. unacked_told setting journal s (journal_versions_from_current journal)))
