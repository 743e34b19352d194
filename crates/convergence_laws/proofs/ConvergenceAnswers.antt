-- At the end of each step a switch has answered what it heard in its boot, and has told the
-- controller of that boot.
use Rattle.std.proofs.Common.{[], if◌then◌else◌, ◌++◌, ◌+◌, ◌==◌, ◌∙◌, ◌∷◌, ◌≡◌, ◌⊎◌, Bool, IfSome, IsFalse, IsTrue, List, None, Option, Some, ap, append-nil, append_assoc, arith, eq-eqb, eqb-true, false, inl, inr, refl, subst, sym, true, unwrap_or, ℕ, rules}
use Rattle.base.proofs.Exports.{IfSome_then, nat_tests, option_map_or}
use Rattle.update_machine.specs.Exports.{Body, Deliver, Hello, Install, Installed, Item, OpenAt, Restart, Setting, Stamp, Stamped, Step, journal_body_to_switch, journal_boot_of, machine_deliver_items, machine_delivery_items, heard, machine_hello_of, is_up, journal_items_then, journal_link_changes, journal_message_of, nothing, piece, machine_restart_items, machine_send_items, serves, journal_stamp_of, machine_step_items, journal_switch_items, machine_message_to_switch}
use Rattle.ctrl_msg.specs.Exports.{message_to_controller}
use Rattle.update_machine.proofs.Exports.{start_laws}
use Rattle.control_laws.proofs.Exports.{AreKept, IsTraffic, behind_piece, boot_more, deliver_cases, fact_on, heard_more, is_delivered, links_traffic, restart_cases, said_parts, said_row, serving_more, up_more}
use Rattle.convergence_laws.proofs.ConvergencePlainItems.{IsIn, IsPlain, Plain, delivery_plain, in_either, is_plain, sends_plain, step_plain}
use Rattle.convergence_laws.proofs.ConvergenceMessages.{IsSent, sends_all, sent_stays}

-- ---- what is said

-- the acknowledgement that the switch owes for tables and for a stamp
abbrev pub answer_of : ℕ → Body → Option Body
answer_of s (Install boot tables) = Some (Installed s boot tables.version)
answer_of s (Stamp boot version touched) = Some (Stamped s boot version)
answer_of s _ = None

-- the switch sent it, and serves once it was told to open
abbrev pub IsAnswered : List Item → ℕ → Body → Type 0
IsAnswered journal s (OpenAt boot version) = IsTrue (serves journal s)
IsAnswered journal s body =
    IfSome (answer_of s body) (λ answer. IsSent journal (message_to_controller answer))

-- all that was heard is answered, but what is still owed
pub record AreAnswered (Owed : ℕ → Body → Type 0) (journal : List Item) : Type 0 where
  pub each : (s : ℕ) (body : Body) → IsIn body (heard journal s)
      → Owed s body ⊎ IsAnswered journal s body

-- the controller was told of the boot of each switch that is up, but of those that still owe it
pub record AreGreeted (Owed : ℕ → Type 0) (journal : List Item) : Type 0 where
  pub each : (s : ℕ) → IsTrue (is_up journal s) → Owed s ⊎ ((journal_boot_of journal s ≡ 1)
      ⊎ IsSent journal (message_to_controller (Hello s (journal_boot_of journal s))))

pub record HaveSpoken (journal : List Item) : Type 0 where
  pub answers : AreAnswered (λ s body. ⊥) journal
  pub hellos : AreGreeted (λ s. ⊥) journal

-- ---- items that keep it

abbrev is_booted : Item → Bool
is_booted (Item.Booted s boot) = true
is_booted _ = false

-- what was heard before an item that is no delivery
record WasIn (before : List Item) (next : Item) (s : ℕ) (body : Body) : Type 0 where
  is : IsIn body (heard before s)
  serving : IsTrue (serves before s) → IsTrue (serves (before ++ next ∷ []) s)

-- an item behind which one switch has heard nothing, and the others are as they were
was_apart : (before : List Item) (next : Item) (t s : ℕ) (body : Body)
    → heard (before ++ next ∷ []) s ≡ (if t == s then [] else heard before s)
    → ((t == s) ≡ false → serves (before ++ next ∷ []) s ≡ serves before s)
    → IsIn body (heard (before ++ next ∷ []) s) → WasIn before next s body
was_apart before next t s body forgets same is = by_test (t == s) refl where
  by_test : (b : Bool) → (t == s) ≡ b → WasIn before next s body
  by_test true e = let none : IsIn body [] = rw (forgets, e) at is in absurd none
  by_test false e = record { is = rw (forgets, e) at is; serving = λ serving. same e ∙ serving }

was_in : (before : List Item) (next : Item) (s : ℕ) (body : Body) → IsFalse (is_delivered next)
    → IsIn body (heard (before ++ next ∷ []) s) → WasIn before next s body
was_in before (Item.Down t) s body plain is = was_apart before (Item.Down t) t s body
    (heard_more before (Item.Down t) s) (λ e. rw (serving_more before (Item.Down t) s, e) refl) is
was_in before (Item.Booted t boot) s body plain is = was_apart before (Item.Booted t boot) t s body
    (heard_more before _ s) (λ e. rw (serving_more before (Item.Booted t boot) s, e) refl) is
was_in before (Item.Opened t version) s body plain is = record {
  is = rw (heard_more before (Item.Opened t version) s) at is;
  serving = λ serving. rw (serving_more before _ s) (by_test (t == s) serving);
} where
  by_test : (b : Bool) → IsTrue (serves before s)
      → IsTrue (unwrap_or (if b then Some true else None) (serves before s))
  by_test true serving = refl
  by_test false serving = serving
was_in before (Item.Delivered number) s body plain is = absurd cc
was_in before next s body plain is = record {
  is = rw (heard_more before next s) at is;
  serving = λ serving. rw (serving_more before next s) serving;
}

answered_stays : (before : List Item) (next : Item) (s : ℕ) (body : Body)
    → (IsTrue (serves before s) → IsTrue (serves (before ++ next ∷ []) s))
    → IsAnswered before s body → IsAnswered (before ++ next ∷ []) s body
answered_stays before next s body serving is = search (rules, IfSome_then, sent_stays)

answers_on : (Owed : ℕ → Body → Type 0) (before : List Item) (next : Item)
    → IsFalse (is_delivered next) → AreAnswered Owed before → AreAnswered Owed (before ++ next ∷ [])
answers_on Owed before next plain are = record {
  each = λ s body is. let was = was_in before next s body plain is in
      elim (are.each s body was.is) [
        | inl owed ↦ inl owed
        | inr answered ↦ inr (answered_stays before next s body was.serving answered)
      ];
}

hellos_on : (Owed : ℕ → Type 0) (before : List Item) (next : Item) → IsFalse (is_booted next)
    → AreGreeted Owed before → AreGreeted Owed (before ++ next ∷ [])
hellos_on Owed before next plain are = record {
  each = λ s up. let same = boot_same next s plain in
      elim (are.each s (was_up next s plain up)) [
        | inl owed ↦ inl owed
        | inr known ↦ elim known [
          | inl first ↦ inr (inl (same ∙ first))
          | inr sent ↦ inr (inr (rw same (sent_stays before next _ sent)))
        ]
      ];
} where
  boot_same : (next : Item) (s : ℕ) → IsFalse (is_booted next)
      → journal_boot_of (before ++ next ∷ []) s ≡ journal_boot_of before s
  boot_same (Item.Booted t boot) s plain = absurd cc
  boot_same next s plain = boot_more before next s

  was_up : (next : Item) (s : ℕ) → IsFalse (is_booted next)
      → IsTrue (is_up (before ++ next ∷ []) s) → IsTrue (is_up before s)
  was_up (Item.Booted t boot) s plain up = absurd cc
  was_up (Item.Down t) s plain up = grind (arith, nat_tests, up_more)
  was_up next s plain up = rw (up_more before next s) at up

plain_answers : (Owed : ℕ → Body → Type 0) → AreKept IsPlain (AreAnswered Owed)
plain_answers Owed before next plain are = search (rules, answers_on)

plain_hellos : (Owed : ℕ → Type 0) → AreKept IsPlain (AreGreeted Owed)
plain_hellos Owed before next plain are = search (rules, hellos_on)

answers_stay : (Owed : ℕ → Body → Type 0) (journal items : List Item) → Plain journal items
    → AreAnswered Owed journal → AreAnswered Owed (journal ++ items)
answers_stay Owed journal items plain are = fact_on _ _ (plain_answers Owed) journal items plain are

hellos_stay : (Owed : ℕ → Type 0) (journal items : List Item) → Plain journal items
    → AreGreeted Owed journal → AreGreeted Owed (journal ++ items)
hellos_stay Owed journal items plain are = fact_on _ _ (plain_hellos Owed) journal items plain are

spoken_stay : (journal items : List Item) → Plain journal items → HaveSpoken journal
    → HaveSpoken (journal ++ items)
spoken_stay journal items plain spoken = search (rules, answers_stay, hellos_stay)

boot_kept : (s boot : ℕ) → AreKept IsPlain (λ journal. journal_boot_of journal s ≡ boot)
boot_kept s boot before next plain is = search (rules, boot_more)

boot_stays : (journal items : List Item) → Plain journal items → (s : ℕ)
    → journal_boot_of (journal ++ items) s ≡ journal_boot_of journal s
boot_stays journal items plain s = fact_on IsPlain _ (boot_kept s _) journal items plain refl

-- ---- a delivery

-- the delivery is owed its answers
delivered_owed : (here : List Item) (number : ℕ) → AreAnswered (λ s body. ⊥) here
    → AreAnswered (λ s body. journal_body_to_switch here s number ≡ Some body)
    (here ++ Item.Delivered number ∷ [])
delivered_owed here number are = record {
  each = λ s body is. by_said s body _ refl (rw (heard_more here (Item.Delivered number) s) at is);
} where
  next : Item
  next = Item.Delivered number

  old : (s : ℕ) (body : Body) → IsIn body (heard here s)
      → (journal_body_to_switch here s number ≡ Some body) ⊎ IsAnswered (here ++ next ∷ []) s body
  old s body is = elim (are.each s body is) [
    | inl owed ↦ absurd owed
    | inr answered ↦ inr (answered_stays here next s body
        (λ serving. rw (serving_more here next s) serving) answered)
  ]

  by_said : (s : ℕ) (body : Body) (o : Option Body) → journal_body_to_switch here s number ≡ o
      → IsIn body (option_map_or (λ b. heard here s ++ b ∷ []) o (heard here s))
      → (journal_body_to_switch here s number ≡ Some body) ⊎ IsAnswered (here ++ next ∷ []) s body
  by_said s body None e is = old s body is
  by_said s body (Some said) e is = elim (in_either body (heard here s) (said ∷ []) is) [
    | inl earlier ↦ old s body earlier
    | inr now ↦ elim now [ inl same ↦ inl (e ∙ ap Some same) | inr none ↦ absurd none ]
  ]

-- a switch that serves does so behind such items
serving_on : (setting : Setting) (s : ℕ)
    → AreKept (IsTraffic setting) (λ journal. IsTrue (serves journal s))
serving_on setting s before next is serving = search (rules, serving_more)

pub opens : (setting : Setting) (before : List Item) (s : ℕ) (now : List Item)
    → serves now s ≡ serves before s → (boot version : ℕ)
    → IsTrue (serves (now ++ journal_switch_items setting before s (OpenAt boot version) now) s)
unfolding journal_switch_items
opens setting before s now same boot version = by_serving (serves before s) refl where
  next : Item
  next = Item.Opened s (journal_stamp_of now s)

  opened : IsTrue (serves (now ++ next ∷ []) s)
  opened = rw (serving_more now next s, eq-eqb s s refl) refl

  by_serving : (b : Bool) → serves before s ≡ b → IsTrue (serves (now ++ elim b [
    | true ↦ []
    | false ↦ journal_items_then (next ∷ []) (journal_link_changes setting before) now
  ]) s)
  by_serving true e = ap (λ j. serves j s) (append-nil now) ∙ same ∙ e
  by_serving false e =
      rw (append_assoc now (next ∷ []) (journal_link_changes setting before (now ++ next ∷ []))) at
      (fact_on (IsTraffic setting) (λ j. IsTrue (serves j s)) (serving_on setting s)
      (now ++ next ∷ []) _ (links_traffic setting before (now ++ next ∷ [])) opened)

switch_answers : (setting : Setting) (before : List Item) (s : ℕ) (body : Body)
    (now : List Item) → serves now s ≡ serves before s
    → IsAnswered (now ++ journal_switch_items setting before s body now) s body
unfolding journal_switch_items
switch_answers setting before s (Install boot tables) now same = search (rules, sends_all)
switch_answers setting before s (Stamp boot version touched) now same = search (rules, sends_all)
switch_answers setting before s (OpenAt boot version) now same = opens _ _ s now same boot version
switch_answers setting before s _ now same = tt

-- what is sent to a switch is answered in the step, if it is said
pub sent_items : (setting : Setting) (before : List Item) (number s : ℕ) (body : Body)
    (now : List Item) → journal_message_of before number ≡ Some (machine_message_to_switch s body) → (said : Option Body)
    → journal_body_to_switch before s number ≡ said → machine_delivery_items setting before number now ≡ elim said [
      | None ↦ []
      | Some told ↦ journal_switch_items setting before s told now
    ]
unfolding machine_delivery_items
sent_items setting before number s body now sent said is = search rules

pub delivery_is : (setting : Setting) (before : List Item) (number : ℕ) (now : List Item)
    (s : ℕ) (body : Body) → journal_body_to_switch before s number ≡ Some body
    → machine_delivery_items setting before number now ≡ journal_switch_items setting before s body now
delivery_is setting before number now s body said = sent_items setting before number s body now
    (said_parts before s number body said).sent (Some body) said

delivery_answers : (setting : Setting) (before : List Item) (number : ℕ) (now : List Item)
    (s : ℕ) (body : Body) → journal_body_to_switch before s number ≡ Some body
    → serves now s ≡ serves before s
    → IsAnswered (now ++ machine_delivery_items setting before number now) s body
delivery_answers setting before number now s body said same =
    rw (delivery_is _ before number now s body said) (switch_answers setting before s body now same)

deliver_spoken : (setting : Setting) (before : List Item) (row number : ℕ)
    → let here = before ++ Item.Row row (Deliver number) ∷ [] in HaveSpoken here
    → HaveSpoken (here ++ machine_deliver_items setting before number here)
deliver_spoken setting before row number spoken =
    let here : List Item = before ++ Item.Row row (Deliver number) ∷ [] in
    let now : List Item = here ++ Item.Delivered number ∷ [] in
    let items : List Item = machine_delivery_items setting before number now in
    let answers : AreAnswered (λ s body. ⊥) (now ++ items) = record {
      each = λ s body is. elim ((answers_stay (λ t b. journal_body_to_switch here t number ≡ Some b) now
          items (delivery_plain setting before number now)
          (delivered_owed here number spoken.answers)).each s body is) [
            | inl owed ↦ inr (delivery_answers setting before number now s body
                (sym (said_row before row s number (Deliver number)) ∙ owed) (serving_more here
                (Item.Delivered number) s ∙ serving_more before (Item.Row row (Deliver number)) s))
            | inr answered ↦ inr answered
          ];
    } in
    let hellos : AreGreeted (λ s. ⊥) (now ++ items) = hellos_stay (λ s. ⊥) now items
    (delivery_plain setting before number now)
    (hellos_on (λ s. ⊥) here (Item.Delivered number) refl spoken.hellos) in
    deliver_cases HaveSpoken setting before number here (spoken_stay here nothing (tt, tt) spoken)
    (record { answers = answers; hellos = hellos })

-- ---- a restart

-- a switch that began a boot heard nothing in it
booted_answers : (here : List Item) (s boot : ℕ) → AreAnswered (λ t body. ⊥) here
    → AreAnswered (λ t body. ⊥) (here ++ Item.Booted s boot ∷ [])
booted_answers here s boot are = answers_on (λ t body. ⊥) here (Item.Booted s boot) refl are

-- it owes its hello
booted_owed : (here : List Item) (s boot : ℕ) → AreGreeted (λ t. ⊥) here
    → AreGreeted (λ t. t ≡ s) (here ++ Item.Booted s boot ∷ [])
booted_owed here s boot are = search (rules, eqb-true, boot_more, up_more, sent_stays)

-- and sends it
restart_spoken : (s : ℕ) (here : List Item) → HaveSpoken here
    → HaveSpoken (here ++ machine_restart_items s here)
restart_spoken s here spoken =
    let next : Item = Item.Booted s (journal_boot_of here s + 1) in
    let hello : List Item → List Item = λ booted. machine_send_items booted (machine_hello_of booted s ∷ []) in
    let now : List Item = here ++ next ∷ [] in
    let plain : Plain now (hello now) = sends_plain now (machine_hello_of now s ∷ []) in
    let same : journal_boot_of (now ++ hello now) s ≡ journal_boot_of now s = boot_stays now (hello now) plain s in
    let answers : AreAnswered (λ t body. ⊥) (now ++ hello now) = answers_stay (λ t body. ⊥) now
    (hello now) plain (booted_answers here s (journal_boot_of here s + 1) spoken.answers) in
    let hellos : AreGreeted (λ t. ⊥) (now ++ hello now) = record {
      each = λ t up. elim ((hellos_stay (λ u. u ≡ s) now (hello now) plain
          (booted_owed here s (journal_boot_of here s + 1) spoken.hellos)).each t up) [
            | inl owed ↦ inr
                (inr (rw owed (rw same (sends_all now (machine_hello_of now s ∷ []) _ (inl refl)))))
            | inr known ↦ inr known
          ];
    } in
    restart_cases HaveSpoken s here (spoken_stay here nothing (tt, tt) spoken)
    (λ down. record { answers = answers; hellos = hellos })

-- ---- steps

step_spoken : (setting : Setting) (before : List Item) (row : ℕ) (step : Step) (b : Bool)
    → is_plain step ≡ b → let here = before ++ Item.Row row step ∷ [] in HaveSpoken here
    → HaveSpoken (here ++ machine_step_items setting before step here)
step_spoken setting before row step true is = λ spoken. spoken_stay _ _
    (step_plain setting before step (before ++ Item.Row row step ∷ []) is) spoken
step_spoken setting before row (Deliver number) false is = deliver_spoken setting before row number
step_spoken setting before row (Restart s) false is = search (rules, restart_spoken)
step_spoken setting before row step false is = absurd cc

pub piece_spoken : (setting : Setting) (before : List Item) (row : ℕ) (step : Step)
    → HaveSpoken before → HaveSpoken (before ++ piece setting before row step)
piece_spoken setting before row step spoken = behind_piece setting before row step HaveSpoken
    (step_spoken setting before row step _ refl (spoken_stay before _ (tt, tt) spoken))

pub spoken_at_first : HaveSpoken []
spoken_at_first = record {
  answers = record {
    each = λ s body is. absurd (subst (λ bodies. IsIn body bodies) (start_laws.heard s) is);
  };
  hellos = record { each = λ s up. inr (inl (start_laws.boot s)) };
}
