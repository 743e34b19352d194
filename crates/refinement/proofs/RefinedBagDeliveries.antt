-- What the bag says of a message, and a message that is forgotten.
use Rattle.std.proofs.Common.{[], ◌&&◌, ◌++◌, ◌<◌, ◌∙◌, ◌∷◌, ◌≡◌, Bool, IfSome, IsFalse, List, None, Option, Some, ap, append_assoc, arith, false, get_or, if◌then◌else◌, is_some, length, not, option_and_then, option_map, refl, rules, subst, sym, true, ℕ}
use Rattle.message_bag.specs.Exports.{IsBagMessageOf, Post, is_bag_post_deliverable, bag_posted_frames, bag_frames_remembered, bag_posts_with_forgotten}
use Rattle.message_bag.proofs.BagFramedMessages.{known_by_frames}
use Rattle.update_machine.specs.Exports.{Forget, Item, Message, Place, Setting, Step, machine_item_concerns_calls, machine_forget_items, is_deliverable, is_forgotten_in_journal, journal_message_of, near, nothing, piece, machine_message_to_switch, was_delivered_in_journal}
use Rattle.steps.specs.Exports.{IsStep}
use Rattle.update_machine.proofs.Exports.{message_keeps}
use Rattle.refinement.specs.Exports.{IsRefinedBagOf, RefinedNetworkState, RefineJournal, RefinementTablesAreKnown, refined_post_at}
use Rattle.refinement.proofs.RefinedSteps.{Known, WroteOne, reached_known, refines_one, switches_stay}
use Rattle.refinement.proofs.RefinedPostedFrames.{bag_forgotten, bag_on, some_within}
use Rattle.control_laws.specs.Exports.{ControlStepsSendFew}
use Rattle.control_laws.proofs.Exports.{piece_few, versions_few}
use Rattle.switch_core.specs.Exports.{IsSoundSwitchBody}
use Rattle.refinement.proofs.RefinedSwitchKnowledge.{requirements_hold}

-- ---- what the bag says of a message

abbrev flagged : Bool → Bool → Option Message → Option Post
flagged was gone o =
    option_map (λ (m : Message). (bag_posted_frames m, record { delivered = was; forgotten = gone })) o

pub deliverable_as : (journal : List Item) (posts : List Post) (n : ℕ) → IsRefinedBagOf journal posts
    → is_deliverable journal n ≡ is_bag_post_deliverable posts n
unfolding is_deliverable refined_post_at
deliverable_as journal posts n bag =
    sym (ap (λ o. is_some (option_and_then bag_frames_remembered o)) (bag.each n)
    ∙ by_flag (journal_message_of journal n) (was_delivered_in_journal journal n) (is_forgotten_in_journal journal n))
  where
    by_flag : (o : Option Message) (was gone : Bool)
        → is_some (option_and_then bag_frames_remembered (flagged was gone o)) ≡ (is_some o && not gone)
    by_flag None was gone = refl
    by_flag (Some m) was true = refl
    by_flag (Some m) was false = refl

pub sent_as : (journal : List Item) (posts : List Post) (n : ℕ) (message : Message)
    → IsRefinedBagOf journal posts → IsBagMessageOf posts n message → journal_message_of journal n ≡ Some message
unfolding refined_post_at
sent_as journal posts n message bag is =
    by_flag (journal_message_of journal n) (was_delivered_in_journal journal n) (is_forgotten_in_journal journal n)
    (sym (ap (option_and_then bag_frames_remembered) (bag.each n)) ∙ is.frames_are)
  where
    by_flag : (o : Option Message) (was gone : Bool)
        → option_and_then bag_frames_remembered (flagged was gone o) ≡ Some (bag_posted_frames message)
        → o ≡ Some message
    by_flag None was gone none = absurd cc
    by_flag (Some m) was true none = absurd cc
    by_flag (Some m) was false some = ap Some (known_by_frames message m is.fits cc)

-- a message that was found
pub found_there : (posts : List Post) (n : ℕ) (message : Message) (o : Option Message)
    → o ≡ Some message → IfSome o (IsBagMessageOf posts n) → IsBagMessageOf posts n message
found_there posts n message o is all = subst (λ o. IfSome o (IsBagMessageOf posts n)) is all

-- ---- pieces

forget_piece : (setting : Setting) (journal : List Item) (row n : ℕ)
    → piece setting journal row (Forget n) ≡ Item.Row row (Forget n)
    ∷ (if is_deliverable journal n then Item.Forgotten n ∷ [] else nothing)
unfolding piece machine_forget_items
forget_piece setting journal row n =
    ap (λ b. Item.Row row (Forget n) ∷ elim b [ false ↦ nothing | true ↦ Item.Forgotten n ∷ [] ])
    (message_keeps n journal (Item.Row row (Forget n) ∷ []) (refl, tt)).deliverable
    ∙ by_test (is_deliverable journal n)
  where
    by_test : (b : Bool) → Item.Row row (Forget n)
        ∷ elim b [ false ↦ nothing | true ↦ Item.Forgotten n ∷ [] ]
        ≡ Item.Row row (Forget n) ∷ (if b then Item.Forgotten n ∷ [] else nothing)
    by_test false = refl
    by_test true = refl

-- ---- a step that does nothing

module _ {setting : Setting} {journal : List Item} {state : RefinedNetworkState}
    (refines : RefineJournal setting journal state) where
  pub nothing_happens : (row : ℕ) (step : Step) → IsStep setting.net (length setting.files) step
      → ((q : ℕ) → IsFalse (machine_item_concerns_calls q journal (Item.Row row step)))
      → piece setting journal row step ≡ Item.Row row step ∷ nothing
      → WroteOne setting journal row step Item.Nothing state
  nothing_happens row step may uncalled is = (
    is,
    refines_one refines state.posts state.switches row step Item.Nothing
        (search (rules, switches_stay, bag_on)),
  )

-- ---- a message is forgotten

module _ {setting : Setting} {journal : List Item} {state : RefinedNetworkState}
    (refines : RefineJournal setting journal state) (row n : ℕ)
    (may : IsStep setting.net (length setting.files) (Forget n)) where
  abbrev first : Item
  first = Item.Row row (Forget n)

  abbrev one : Item
  one = Item.Forgotten n

  -- by whether the bag has it
  piece_by : (b : Bool) → is_bag_post_deliverable state.posts n ≡ b
      → piece setting journal row (Forget n) ≡ first ∷ (if b then one ∷ [] else nothing)
  piece_by b is =
      cc (forget_piece setting journal row n, deliverable_as journal state.posts n refines.bag, is)

  pub forgotten_refines : is_bag_post_deliverable state.posts n ≡ true → WroteOne setting journal row
      (Forget n) one (record state { posts = bag_posts_with_forgotten state.posts n })
  forgotten_refines there =
      let is = piece_by true there in
      let bag = subst (λ js. IsRefinedBagOf js (bag_posts_with_forgotten state.posts n))
      (append_assoc journal (first ∷ []) (one ∷ []))
      (bag_forgotten (journal ++ first ∷ []) state.posts n (some_within state.posts n there)
      (bag_on journal (first ∷ []) state.posts (refl, tt) refines.bag)) in (
        is,
        refines_one refines (bag_posts_with_forgotten state.posts n) state.switches row (Forget n) one
            (search (rules, switches_stay)),
      )

  -- no such message may be forgotten
  pub unforgotten : is_bag_post_deliverable state.posts n ≡ false
      → WroteOne setting journal row (Forget n) Item.Nothing state
  unforgotten none = nothing_happens refines row (Forget n) may (λ q. refl) (piece_by false none)

-- ---- what a delivered message finds: few messages are sent upon it, and its switch can hear it

pub sends_few : (setting : Setting) (journal : List Item) → Known setting journal
    → ControlStepsSendFew setting journal
sends_few setting journal knows = λ row step. piece_few setting knows.is.net journal
    (versions_few setting journal knows.caused) row step

module _ {setting : Setting} {journal : List Item} {state : RefinedNetworkState}
    (refines : RefineJournal setting journal state) where
  -- a message's switch is there, and the body is sound
  pub hear_ready : (n s : ℕ) (message : Message) → IsBagMessageOf state.posts n message
      → message.to ≡ Place.Switch s
      → (s < length state.switches) × (s < 64) × IsSoundSwitchBody message.body
  hear_ready n s message there to =
      let sent = sent_as journal state.posts n message refines.bag there
      ∙ ap (λ p. Some (record { to = p; body = message.body })) to in
      let tables : RefinementTablesAreKnown setting journal =
      (reached_known setting journal refines.sound refines.reached).tables in
      let own : s < length setting.net.switches =
      (tables.names.sent n (machine_message_to_switch s message.body) sent).addressed.0 in (
        omega (arith, own, refines.many),
        omega (arith, own, refines.sound.net.few_switches),
        requirements_hold.hear setting journal n s message.body tables sent,
      )

  -- the mask of its links
  pub usable_here : (s : ℕ) → s < 64 → get_or state.near s 0 ≡ near setting journal s
  usable_here s below = refines.usable s below
