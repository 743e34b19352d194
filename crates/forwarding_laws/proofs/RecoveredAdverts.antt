-- After recovery neighbours agree: each switch was asked to send all that it holds, passed on what
-- it learnt then, and all of that was delivered.
use Rattle.std.proofs.Common.{[], ◌++◌, ◌+◌, ◌-◌, ◌<◌, ◌==◌, ◌∙◌, ◌∷◌, ◌≡◌, ◌≢◌, ◌≤◌, Bool, IsFalse, IsTrue, List, None, Some, ap, append-nil, append_assoc, arith, false, filter, flat_map, if◌then◌else◌, inl, inr, length, map, nat_lt, not, refl, subst, sym, true, ℕ}
use Rattle.base.proofs.Exports.{nat_tests}
use Rattle.update_machine.specs.Exports.{Advert, Advertise, JournalItemsHaveCauses, Item, Message, Resend, Setting, MachineStepOfRow, acked_stamp, machine_advert_to, journal_after_steps, journal_boot_of, machine_collect_for, journal_current_mark, has_acked, heard, journal_held_adverts, machine_hello_of, journal_install_for, is_member, is_over, is_up, near, journal_next_message, journal_open_for, open_version, machine_advert_of_other, own_advert, piece, machine_resend_items, journal_resent_by_controller, journal_resent_by_switch, journal_resent_to_member, journal_retired_mark, machine_sends_or_nothing, journal_stamp_for, machine_switches_in, machine_switches_of, journal_unacked_installs, journal_version_count, journal_versions_from_current}
use Rattle.control_laws.proofs.Exports.{behind_piece, ends_serve, later_versions, resends_any, same_seq}
use Rattle.convergence_laws.proofs.Exports.{AreSpread, HasNews, IsGivenNew, IsHad, IsIn, IsStill, IsToldTo, Leaves, Spread, TellsOwn, as_new_itself, ends_there, had_back, heard_in_boot, held_in, in_filter, in_filter_map, in_flat_map, in_left, in_map, in_range, in_right, newest_held, next_grows, own_held, sends_tell, spread_agree, stills_leave, told_stills}
use Rattle.forwarding_laws.proofs.RecoveryDeliveries.{IsFlushed, IsSince, sends_since, since_delivered}
use Rattle.base.specs.Exports.{has}
use Rattle.net_file.specs.Exports.{IsNet}
use Rattle.steps.specs.Exports.{StepSwitchExists}
use Rattle.convergence_laws.specs.Exports.{IsConvergenceAdvertAsNew, ConvergenceNeighboursAgree}
use Rattle.update_machine.proofs.Exports.{have_append}
use Rattle.forwarding_laws.proofs.RecoveryRows.{AreEach, IsAmong}

-- ---- what each switch sends again, and what is sent to it again

-- ---- by the switch

-- what it sends where it is up
abbrev sent_by : Setting → List Item → ℕ → List Message
sent_by setting here s = machine_hello_of here s
    ∷ flat_map (λ neighbour. map (machine_advert_to neighbour) (journal_held_adverts setting here s))
    (machine_switches_in setting (near setting here s))

pub hello_resent : (setting : Setting) (here : List Item) (s : ℕ) → IsTrue (is_up here s)
    → IsIn (machine_hello_of here s) (journal_resent_by_switch setting here s)
hello_resent setting here s up = subst (λ b. IsIn (machine_hello_of here s) (elim b [
  | false ↦ []
  | true ↦ sent_by setting here s
])) (sym up) (inl refl)

pub advert_resent : (setting : Setting) (here : List Item) (s neighbour : ℕ) (advert : Advert)
    → IsTrue (is_up here s) → IsIn neighbour (machine_switches_in setting (near setting here s))
    → IsIn advert (journal_held_adverts setting here s)
    → IsIn (machine_advert_to neighbour advert) (journal_resent_by_switch setting here s)
advert_resent setting here s neighbour advert up linked held =
    subst (λ b. IsIn (machine_advert_to neighbour advert) (elim b [
      | false ↦ []
      | true ↦ sent_by setting here s
    ])) (sym up)
    (inr (in_flat_map (λ to. map (machine_advert_to to) (journal_held_adverts setting here s)) neighbour
    (machine_advert_to neighbour advert) (machine_switches_in setting (near setting here s)) linked
    (in_map (machine_advert_to neighbour) advert (journal_held_adverts setting here s) held)))

-- ---- by the controller

-- what it sends to a switch that is over or isn't, and is a member or isn't
abbrev sent_where : Setting → List Item → ℕ → Bool → Bool → List Message
sent_where setting here s over member = elim over [
  | true ↦ []
  | false ↦ elim member [
    | true ↦ journal_resent_to_member setting here s
    | false ↦ journal_unacked_installs setting here s (journal_versions_from_current here)
  ]
]

to_member : (setting : Setting) (here : List Item) (s : ℕ) (message : Message)
    → IsFalse (is_over here s) → IsTrue (is_member here s)
    → IsIn message (journal_resent_to_member setting here s)
    → IsIn message (journal_resent_by_controller setting here s)
unfolding journal_resent_by_controller
to_member setting here s message over member is =
    subst (λ o. IsIn message (sent_where setting here s o (is_member here s))) (sym over)
    (subst (λ m. IsIn message (sent_where setting here s false m)) (sym member) is)

to_other : (setting : Setting) (here : List Item) (s : ℕ) (message : Message)
    → IsFalse (is_over here s) → IsFalse (is_member here s)
    → IsIn message (journal_unacked_installs setting here s (journal_versions_from_current here))
    → IsIn message (journal_resent_by_controller setting here s)
unfolding journal_resent_by_controller
to_other setting here s message over member is =
    subst (λ o. IsIn message (sent_where setting here s o (is_member here s))) (sym over)
    (subst (λ m. IsIn message (sent_where setting here s false m)) (sym member) is)

unacked : (setting : Setting) (here : List Item) (s version : ℕ) (versions : List ℕ)
    → IsIn version versions → IsFalse (has_acked here s version)
    → IsIn (journal_install_for setting here version s) (journal_unacked_installs setting here s versions)
unacked setting here s version versions is acked = in_map (λ v. journal_install_for setting here v s)
    version (filter (λ v. not (has_acked here s v)) versions)
    (in_filter (λ v. not (has_acked here s v)) version versions is (ap not acked))

-- the tables of each version that it didn't acknowledge: of a member above the current one
pub table_resent : (setting : Setting) (here : List Item) (s version : ℕ) → IsFalse (is_over here s)
    → journal_current_mark here ≤ version → version ≤ journal_version_count here
    → IsFalse (has_acked here s version) → (IsTrue (is_member here s) → journal_current_mark here < version)
    → IsIn (journal_install_for setting here version s) (journal_resent_by_controller setting here s)
table_resent setting here s version over above below acked later = by_member (is_member here s) refl
  where
    stamps : List Message
    stamps = if nat_lt (acked_stamp here s) (journal_current_mark here)
        then journal_stamp_for setting here (journal_current_mark here) s ∷ [] else []

    by_member : (b : Bool) → is_member here s ≡ b
        → IsIn (journal_install_for setting here version s) (journal_resent_by_controller setting here s)
    by_member true e = let more = later e in
        to_member setting here s _ over e
        (inr (in_left _ (journal_unacked_installs setting here s (later_versions here) ++ stamps) _ (in_left
        _ (journal_unacked_installs setting here s (later_versions here)) stamps (unacked setting here s
        version (later_versions here) (in_range version (journal_current_mark here + 1) (journal_version_count here
        - journal_current_mark here) (omega (arith, more)) (omega (arith, more, below))) acked))))
    by_member false e = to_other setting here s _ over e (unacked setting here s version
        (journal_versions_from_current here) (in_range version (journal_current_mark here)
        (journal_version_count here + 1 - journal_current_mark here) above (omega (arith, above, below))) acked)

-- to a member its opening
pub opening_resent : (setting : Setting) (here : List Item) (s : ℕ) → IsFalse (is_over here s)
    → IsTrue (is_member here s)
    → IsIn (journal_open_for here (open_version here s) s) (journal_resent_by_controller setting here s)
opening_resent setting here s over member = to_member setting here s _ over member (inl refl)

-- and the current stamp, where it isn't known to stamp with that
pub stamp_resent : (setting : Setting) (here : List Item) (s : ℕ) → IsFalse (is_over here s)
    → IsTrue (is_member here s) → acked_stamp here s < journal_current_mark here
    → IsIn (journal_stamp_for setting here (journal_current_mark here) s) (journal_resent_by_controller setting here s)
stamp_resent setting here s over member behind = to_member setting here s _ over member
    (inr (in_left _ (journal_unacked_installs setting here s (later_versions here) ++ stamps) _
    (in_right _ (journal_unacked_installs setting here s (later_versions here)) stamps (rw is (inl refl)))))
  where
    is : nat_lt (acked_stamp here s) (journal_current_mark here) ≡ true
    is = grind (arith, nat_tests)

    stamps : List Message
    stamps = if nat_lt (acked_stamp here s) (journal_current_mark here)
        then journal_stamp_for setting here (journal_current_mark here) s ∷ [] else []

-- and what is retired, if anything is
pub collect_resent : (setting : Setting) (here : List Item) (s : ℕ) → IsFalse (is_over here s)
    → IsTrue (is_member here s) → (journal_retired_mark here == 0) ≡ false
    → IsIn (machine_collect_for here (journal_retired_mark here) s) (journal_resent_by_controller setting here s)
collect_resent setting here s over member some = to_member setting here s _ over member
    (inr (in_right _ (journal_unacked_installs setting here s (later_versions here) ++ stamps) collects
    (rw some (inl refl))))
  where
    stamps : List Message
    stamps = if nat_lt (acked_stamp here s) (journal_current_mark here)
        then journal_stamp_for setting here (journal_current_mark here) s ∷ [] else []

    collects : List Message
    collects = if journal_retired_mark here == 0 then [] else machine_collect_for here (journal_retired_mark here) s ∷ []

-- ---- all of it is sent

-- what is sent again by the row of the switch
abbrev pub resent : Setting → List Item → ℕ → List Message
resent setting here s = journal_resent_by_switch setting here s ++ journal_resent_by_controller setting here s

resend_sends : (since : ℕ) (setting : Setting) (here : List Item) (s : ℕ) (message : Message)
    → since ≤ journal_next_message here → IsIn message (resent setting here s)
    → IsSince since (here ++ machine_resend_items setting s here) message
unfolding machine_resend_items
resend_sends since setting here s message late is =
    by_messages (journal_resent_by_switch setting here s ++ journal_resent_by_controller setting here s) is
  where
    by_messages : (messages : List Message) → IsIn message messages
        → IsSince since (here ++ machine_sends_or_nothing here messages) message
    by_messages [] is = absurd is
    by_messages (first ∷ messages) is = sends_since since here (first ∷ messages) message late is

pub piece_resends : (since : ℕ) (setting : Setting) (at : List Item) (row s : ℕ)
    (message : Message) → let here = at ++ Item.Row row (Resend s) ∷ [] in
    since ≤ journal_next_message here → IsIn message (resent setting here s)
    → IsSince since (at ++ piece setting at row (Resend s)) message
piece_resends since setting at row s message late is =
    behind_piece setting at row (Resend s) (λ j. IsSince since j message)
    (resend_sends since setting (at ++ Item.Row row (Resend s) ∷ []) s message late is)

-- ---- recovered adverts

-- ---- resends change neither links nor what switches heard

-- the later journal is the earlier one and then such items
record Stilly (before after : List Item) : Type 0 where
  items : List Item
  is : after ≡ before ++ items
  have : JournalItemsHaveCauses IsStill before items

still_through : (one two three : List Item) → Stilly one two → Stilly two three → Stilly one three
still_through one two three first later = record {
  items = first.items ++ later.items;
  is = cc (later.is, first.is, append_assoc one first.items later.items);
  have = have_append IsStill one first.items later.items first.have (rw first.is at later.have);
}

still_rest : (setting : Setting) (at : List Item) (row s : ℕ)
    → Stilly (at ++ Item.Row row (Resend s) ∷ []) (at ++ piece setting at row (Resend s))
unfolding piece
still_rest setting at row s = let here : List Item = at ++ Item.Row row (Resend s) ∷ [] in record {
  items = machine_resend_items setting s here;
  is = sym (append_assoc at (Item.Row row (Resend s) ∷ []) (machine_resend_items setting s here));
  have = resends_any IsStill (λ now n message. tt) setting s here tt;
}

still_piece : (setting : Setting) (at : List Item) (row s : ℕ)
    → Stilly at (at ++ piece setting at row (Resend s))
still_piece setting at row s =
    still_through at (at ++ Item.Row row (Resend s) ∷ []) (at ++ piece setting at row (Resend s))
    (record { items = Item.Row row (Resend s) ∷ []; is = refl; have = (tt, tt) })
    (still_rest setting at row s)

still_steps : (setting : Setting) (before : List Item) (steps : List MachineStepOfRow)
    → AreEach Resend steps → Stilly before (journal_after_steps setting before steps)
still_steps setting before [] are = record { items = []; is = sym (append-nil before); have = tt }
still_steps setting before (next ∷ steps) are =
    let behind : List Item = before ++ piece setting before next.row next.step in
    still_through before behind (journal_after_steps setting behind steps)
    (rw are.0.1 (still_piece setting before next.row are.0.0))
    (still_steps setting behind steps are.1)

-- where a switch is asked
record AskedStill (setting : Setting) (before after : List Item) (s : ℕ) : Type 0 where
  at : List Item
  row : ℕ
  late : journal_next_message before ≤ journal_next_message at
  rest : Stilly (at ++ piece setting at row (Resend s)) after

asked_still : (setting : Setting) (s : ℕ) (before : List Item) (steps : List MachineStepOfRow)
    → AreEach Resend steps → IsAmong (Resend s) steps
    → AskedStill setting before (journal_after_steps setting before steps) s
asked_still setting s before [] are is = absurd is
asked_still setting s before (next ∷ steps) are is = elim is [
  | inl here ↦ record {
    at = before;
    row = next.row;
    late = omega arith;
    rest = subst (λ step. Stilly (before ++ piece setting before next.row step)
        (journal_after_steps setting before (next ∷ steps))) here
        (still_steps setting (before ++ piece setting before next.row next.step) steps are.1);
  }
  | inr later ↦ let behind : List Item = before ++ piece setting before next.row next.step in
      let found = asked_still setting s behind steps are.1 later in record {
        at = found.at;
        row = found.row;
        late = omega (arith, found.late, next_grows before (piece setting before next.row next.step));
        rest = found.rest;
      }
]

-- ---- behind the resends each neighbour was told what a switch holds

resend_tells : {since : ℕ} (setting : Setting) (here : List Item) (s neighbour : ℕ)
    (advert : Advert) → since ≤ journal_next_message here
    → IsIn (machine_advert_to neighbour advert) (resent setting here s)
    → IsToldTo since (here ++ machine_resend_items setting s here) neighbour advert
unfolding machine_resend_items
resend_tells {since = since} setting here s neighbour advert late is =
    by_messages (journal_resent_by_switch setting here s ++ journal_resent_by_controller setting here s) is
  where
    by_messages : (messages : List Message) → IsIn (machine_advert_to neighbour advert) messages
        → IsToldTo since (here ++ machine_sends_or_nothing here messages) neighbour advert
    by_messages [] is = absurd is
    by_messages (first ∷ messages) is = sends_tell here (first ∷ messages) neighbour advert late is

-- what the switch holds as it is asked
record IsHeldAsNew (setting : Setting) (here : List Item) (s : ℕ) (than : Advert) : Type 0 where
  advert : Advert
  as_new : IsConvergenceAdvertAsNew advert than
  held : IsIn advert (journal_held_adverts setting here s)

pub resends_spread : (setting : Setting) (before : List Item) (steps : List MachineStepOfRow)
    → IsNet setting.net → AreEach Resend steps
    → ((s : ℕ) → StepSwitchExists setting.net s → IsAmong (Resend s) steps)
    → TellsOwn setting (journal_after_steps setting before steps)
    → Spread setting (journal_next_message before) (journal_after_steps setting before steps)
resends_spread setting before steps net are each tells =
    record { each = λ s neighbour a linked had other. inr (news s neighbour a linked had) }
  where
    after : List Item
    after = journal_after_steps setting before steps

    news : (s neighbour : ℕ) (a : Advert) → IsTrue (has (near setting after s) neighbour)
        → IsHad setting after s a → HasNews setting (journal_next_message before) after neighbour a
    news s neighbour a linked had_after = record {
      advert = best.advert;
      as_new = best.as_new;
      had = inr (subst (λ j. IsToldTo (journal_next_message before) j neighbour best.advert)
          (sym asked.rest.is)
          (told_stills setting behind asked.rest.items neighbour best.advert asked.rest.have told));
    } where
      there : StepSwitchExists setting.net s
      there = (ends_there setting after s neighbour net linked).one

      asked : AskedStill setting before after s
      asked = asked_still setting s before steps are (each s there)

      here : List Item
      here = asked.at ++ Item.Row asked.row (Resend s) ∷ []

      behind : List Item
      behind = asked.at ++ piece setting asked.at asked.row (Resend s)

      still : Stilly here after
      still = still_through here behind after (still_rest setting asked.at asked.row s) asked.rest

      left : Leaves setting here after
      left = subst (Leaves setting here) (sym still.is)
          (stills_leave setting here still.items still.have)

      small : s < 64
      small = omega (arith, there, net.few_switches)

      best : IsHeldAsNew setting here s a
      best = by_had (had_back setting here after s a left had_after) where
        by_had : IsHad setting here s a → IsHeldAsNew setting here s a
        by_had (inl own) =
            let told = tells.tells s neighbour linked in
            let seq = same_seq setting after here s (left.advert s) in record {
              advert = own_advert setting here s;
              as_new = subst (IsConvergenceAdvertAsNew (own_advert setting here s)) (sym own)
                  (as_new_itself (own_advert setting here s));
              held = held_in setting here s s (own_advert setting here s) small
                  (own_held setting here s small (omega (arith, told, seq)));
            }
        by_had (inr of) = let found = newest_held setting here s a of in record {
          advert = found.advert;
          as_new = found.as_new;
          held = held_in setting here s a.origin found.advert of.small found.held;
        }

      sent : IsIn (machine_advert_to neighbour best.advert) (resent setting here s)
      sent =
          let up : IsTrue (is_up here s) = sym (left.up s)
          ∙ (tells.known.serving s).up (ends_serve setting after s neighbour linked).0 in
          let near_here : IsTrue (has (near setting here s) neighbour) =
          subst (λ mask. IsTrue (has mask neighbour)) (left.links s) linked in
          let fits = (ends_there setting after s neighbour net linked).other in
          in_left _ (journal_resent_by_switch setting here s) (journal_resent_by_controller setting here s)
          (advert_resent setting here s neighbour best.advert up
          (in_filter (has (near setting here s)) neighbour (machine_switches_of setting) (in_range neighbour
          0 (length setting.net.switches) (omega arith) (omega (arith, fits))) near_here) best.held)

      told : IsToldTo (journal_next_message before) behind neighbour best.advert
      told = behind_piece setting asked.at asked.row (Resend s)
          (λ j. IsToldTo (journal_next_message before) j neighbour best.advert)
          (resend_tells setting here s neighbour best.advert (omega
          (arith, asked.late, next_grows asked.at (Item.Row asked.row (Resend s) ∷ []))) sent)

-- ---- what was told since then was delivered

told_given : (setting : Setting) (before journal : List Item) → IsFlushed setting before journal
    → (s : ℕ) (b : Advert) → IsTrue (is_up journal s) → b.origin ≢ s
    → IsToldTo (journal_next_message before) journal s b → IsGivenNew setting journal s b
told_given setting before journal are s b up other told = record {
  advert = b;
  as_new = as_new_itself b;
  given = inr (in_filter_map (machine_advert_of_other s) (Advertise b) b (heard journal s)
      (heard_in_boot journal s told.number (journal_boot_of journal s) (Advertise b) are.traced told.is up
      refl refl (since_delivered setting before journal are told.number (journal_boot_of journal s)
      (machine_advert_to s b) told.late told.is)) (ap (λ c. if c then None else Some b) apart));
} where
  apart : (b.origin == s) ≡ false
  apart = grind (arith, nat_tests)

pub recovered_agree : (setting : Setting) (before journal : List Item)
    → IsFlushed setting before journal → AreSpread setting (journal_next_message before) journal
    → ConvergenceNeighboursAgree setting journal
recovered_agree setting before journal are spread = spread_agree setting journal spread
    (λ s b there up other told. told_given setting before journal are s b up other told)
