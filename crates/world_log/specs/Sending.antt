-- Messages that are sent one after another, and what a controller does, as items of the journal.
use Rattle.std.specs.Prelude.{[], ◌++◌, ◌+◌, ◌<◌, ◌^◌, ◌∷◌, ◌≡◌, All, List, OnErr, OnOk, Result, length, ℕ, ⊤}
use Rattle.message_bag.specs.Exports.{HasShortBagSpelling, Post, new_bag_post}
use Rattle.controller.specs.declared.sends.Act.{Act}
use Rattle.controller.specs.declared.sends.Act.TheVariants as act
use Rattle.update_machine.specs.Exports.{Item, Message}
use Rattle.journal.specs.declared.item.Item.TheVariants as item
use Rattle.world_log.specs.Writing.{IsLogPart}
use Rattle.world_log.specs.declared.log.Log.{Log}

-- the item of an act, if the next message has this number
abbrev pub log_act_item : ℕ → Act → Item
log_act_item number (act.Current version) = item.Current version
log_act_item number (act.Retired version) = item.Retired version
log_act_item number (act.Post message) = item.Sent number message

-- the number of the next message after the act
abbrev pub log_number_after_act : ℕ → Act → ℕ
log_number_after_act number (act.Post message) = number + 1
log_number_after_act number _ = number

unfoldable pub log_act_items : ℕ → List Act → List Item
log_act_items number [] = []
log_act_items number (first ∷ acts) = log_act_item number first ∷ log_act_items (log_number_after_act number first) acts

-- what one act posts
abbrev pub log_act_post : Act → List Post
log_act_post (act.Post message) = new_bag_post message ∷ []
log_act_post _ = []

unfoldable pub log_act_posts : List Act → List Post
log_act_posts [] = []
log_act_posts (first ∷ acts) = log_act_post first ++ log_act_posts acts

-- ---- what may be sent

-- the bag has room for these messages, each of which has a short encoding
pub record LogMaySend (bag : List Post) (messages : List Message) : Type 0 where
  pub few : length bag + length messages < 2 ^ 32
  pub spelled : All HasShortBagSpelling messages

-- what the act sends, if it sends something, has a short encoding
abbrev pub IsLoggedActSpelled : Act → Type 0
IsLoggedActSpelled (act.Post message) = HasShortBagSpelling message
IsLoggedActSpelled _ = ⊤

-- the bag has room for all that these acts send, and each message has a short encoding
pub record LogMayNote (bag : List Post) (acts : List Act) : Type 0 where
  pub few : length bag + length (log_act_posts acts) < 2 ^ 32
  pub spelled : All IsLoggedActSpelled acts

-- the log after these acts; if memory ran out, a part of the items is written
pub record LogHasNoted {T E : Type 0} (result : Result T E) (acts : List Act) (old new : Log)
    : Type 0 where
  pub written : OnOk result (new.journal ≡ old.journal ++ log_act_items (length old.bag + 1) acts)
  pub posted : OnOk result (new.bag ≡ old.bag ++ log_act_posts acts)
  pub part : OnErr result (IsLogPart old.journal (log_act_items (length old.bag + 1) acts) new.journal)
  pub travelling : new.travelling ≡ old.travelling
