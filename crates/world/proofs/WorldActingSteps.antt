-- What a step owes to the frame that writes one item, and then what is sent and done upon it.
use Rattle.std.proofs.Common.{[], ◌++◌, ◌+◌, ◌∷◌, ◌≡◌, IsErr, List, OnErr, OnOk, Result, append_assoc, length, refl, rules, subst, ℕ}
use Rattle.base.proofs.Exports.{both_ok, on_ok_weaker}
use Rattle.message_bag.specs.Exports.{Post}
use Rattle.controller.specs.declared.sends.Act.{Act}
use Rattle.update_machine.specs.Exports.{Item, Setting, Step, piece}
use Rattle.journal.specs.declared.item.Item.TheVariants as item
use Rattle.world.specs.Exports.{WorldBeginsStep, WorldStepGoes, WorldPartsKeepNet, WorldPartsKeepRest, world_packets_coming_in, world_setting_in, world_state_in}
use Rattle.refinement.specs.Exports.{RefineJournal}
use Rattle.travelling.specs.Travelling.{TravellingFlights}
use Rattle.world_log.specs.Exports.{IsLogPart, log_act_items, log_act_posts}
use Rattle.world_log.specs.declared.log.Log.{Log}
use Rattle.world.specs.declared.parts.WorldParts.{WorldParts}
use Rattle.world.proofs.WorldStepClauses.{Follows, goes, part_goes}
use Rattle.world_log.proofs.LogStepWrites.{step_part, step_written}

-- the journal behind the first item, what is written then, under which number the messages are,
-- and what they post behind these posts
pub record Tells {T E : Type 0} (r : Result T E) (before : List Item) (row : ℕ) (step : Step)
    (old new : WorldParts) (first : Item) (tail : ℕ → List Item) (begun : List Item) (number : ℕ)
    (posts more : List Post) : Type 0 where
  pub piece_is : piece (world_setting_in old) before row step
      ≡ item.Row row step ∷ first ∷ tail (length old.log.bag + 1)
  pub counted : new.packets ≡ old.packets + world_packets_coming_in step
  pub pushed : begun ≡ old.log.journal ++ first ∷ []
  pub number_is : number ≡ length old.log.bag
  pub travelling : new.log.travelling ≡ old.log.travelling
  pub written : OnOk r (new.log.journal ≡ begun ++ tail (number + 1))
  pub part : OnErr r (IsLogPart begun (tail (number + 1)) new.log.journal)
  pub posted : OnOk r (new.log.bag ≡ posts ++ more)
  pub refines : OnOk r (RefineJournal (world_setting_in old)
      (before ++ item.Row row step ∷ first ∷ tail (length old.log.bag + 1))
      (record (world_state_in new) { travelling = old.log.travelling; posts = posts ++ more }))

-- acts that were noted after this journal and these posts, under the numbers after this one
pub record AreNoted {T E : Type 0} (r : Result T E) (begun : List Item) (number : ℕ)
    (posts : List Post) (now : Log) (acts : List Act) : Type 0 where
  pub written : OnOk r (now.journal ≡ begun ++ log_act_items (number + 1) acts)
  pub posted : OnOk r (now.bag ≡ posts ++ log_act_posts acts)
  pub part : OnErr r (IsLogPart begun (log_act_items (number + 1) acts) now.journal)

-- the acts are these
pub as_noted : {T E : Type 0} (r : Result T E) (begun : List Item) (number : ℕ) (posts : List Post)
    (now : Log) (given acts : List Act) → given ≡ acts
    → OnOk r (now.journal ≡ begun ++ log_act_items (number + 1) given)
    → OnOk r (now.bag ≡ posts ++ log_act_posts given)
    → OnErr r (IsLogPart begun (log_act_items (number + 1) given) now.journal)
    → AreNoted r begun number posts now acts
as_noted r begun number posts now given acts same written posted part =
    subst (AreNoted r begun number posts now) same
    (record { written = written; posted = posted; part = part })

pub goes_told : {T E : Type 0} {r : Result T E} {before : List Item} {row : ℕ} {step : Step}
    {old new : WorldParts} (first : Item) (tail : ℕ → List Item) (begun : List Item) (number : ℕ)
    (posts more : List Post) → WorldBeginsStep before row step old → Follows old new
    → Tells r before row step old new first tail begun number posts more
    → WorldStepGoes r before row step old new
goes_told {r} {before} {row} {step} {old} {new} first tail begun number posts more begins keeps
    tells =
    let items : List Item = tail (length old.log.bag + 1) in
    goes begins keeps (first ∷ items) tells.piece_is
    (on_ok_weaker r (λ grown. tells.counted) tells.written)
    (step_written r old.log.journal begun new.log.journal items (first ∷ items) first refl
    tells.pushed (rw tells.number_is at tells.written))
    (step_part r old.log.journal begun new.log.journal items (first ∷ items) first refl tells.pushed
    (subst (λ k. OnErr r (IsLogPart begun (tail (k + 1)) new.log.journal)) tells.number_is tells.part))
    (both_ok r (λ all refines. rw all (rw tells.travelling refines)) tells.posted tells.refines)

-- where the controller's acts are what it writes then
pub goes_acting : {T E : Type 0} {r : Result T E} {before : List Item} {row : ℕ} {step : Step}
    {old new : WorldParts} (first : Item) (acts given : List Act) (begun : List Item)
    → WorldBeginsStep before row step old → Follows old new → new.packets ≡ old.packets + world_packets_coming_in step
    → piece (world_setting_in old) before row step
    ≡ item.Row row step ∷ first ∷ log_act_items (length old.log.bag + 1) acts
    → begun ≡ old.log.journal ++ first ∷ [] → given ≡ acts → new.log.travelling ≡ old.log.travelling
    → OnOk r (new.log.journal ≡ begun ++ log_act_items (length old.log.bag + 1) given)
    → OnOk r (new.log.bag ≡ old.log.bag ++ log_act_posts given)
    → OnErr r (IsLogPart begun (log_act_items (length old.log.bag + 1) given) new.log.journal)
    → RefineJournal (world_setting_in old) (before ++ item.Row row step
    ∷ first ∷ log_act_items (length old.log.bag + 1) acts) (record (world_state_in new) {
      travelling = old.log.travelling;
      posts = old.log.bag ++ log_act_posts acts;
    }) → WorldStepGoes r before row step old new
goes_acting {r} {old} {new} first acts given begun begins keeps counted is pushed same travelling
    written posted part refines =
    let all = on_ok_weaker r (λ done. refines) (as_noted r begun (length old.log.bag) old.log.bag
    new.log given acts same written posted part).written in
    goes_told first (λ k. log_act_items k acts) begun (length old.log.bag) old.log.bag (log_act_posts acts)
    begins keeps (search rules)

-- memory runs out behind the first item
pub first_goes : {T E : Type 0} {r : Result T E} {before : List Item} {row : ℕ} {step : Step}
    {old new : WorldParts} (first : Item) (rest : List Item) → WorldBeginsStep before row step old
    → WorldPartsKeepNet old new → piece (world_setting_in old) before row step ≡ item.Row row step ∷ first ∷ rest
    → IsErr r → new.log.journal ≡ old.log.journal ++ first ∷ [] → WorldStepGoes r before row step old new
first_goes {before} {row} {step} first rest begins keeps is failed pushed =
    part_goes keeps failed (record {
      written = item.Row row step ∷ first ∷ [];
      rest = rest;
      split = is;
      grown = cc (pushed, begins.rowed, append_assoc before (item.Row row step ∷ []) (first ∷ []));
    })

-- the parts refine the journal where only switches, messages and usable links changed
pub relinked_refines : {old new : WorldParts} {setting : Setting} {journal : List Item}
    {travelling : TravellingFlights} {posts : List Post} {near : List ℕ} → WorldPartsKeepRest old new → new.near ≡ near
    → RefineJournal setting journal (record (world_state_in old) {
      switches = new.switches.items;
      travelling = travelling;
      posts = posts;
      near = near;
    }) → RefineJournal setting journal
    (record (world_state_in new) { travelling = travelling; posts = posts })
relinked_refines keeps is refines = rw (keeps.packets, keeps.controller, keeps.links, is) refines
