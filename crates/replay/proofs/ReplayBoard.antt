-- A board that notes what left in the items of a step, behind those of the steps before it.
use Rattle.std.proofs.Common.{[], ◌++◌, ◌-◌, ◌∙◌, ◌≡◌, List, ap, append-nil, append_assoc, arith, drop, length, length-drop, subst, sym, take, take_all, ℕ}
use Rattle.base.proofs.Exports.{drop-append_seam, flat_map-append}
use Rattle.update_machine.specs.Exports.{Item}
use Rattle.meters.specs.Exports.{MeterBoardValue, MeterPortLeavings, SeenMeter, meter_board_after}
use Rattle.replay.specs.Leavings.{ReplayMetersKeepUp, ReplayMetersStayOn, replay_left_by, replay_left_in}

left_append : (here items : List Item) → replay_left_in here ++ replay_left_in items ≡ replay_left_in (here ++ items)
left_append here items = sym (flat_map-append replay_left_by here items)

-- what follows the items that were there before
pub rest_is : (here after before items : List Item) → before ≡ here → items ≡ after
    → take (length items - length before) (drop (length before) items) ≡ drop (length here) after
rest_is here after before items old is = take_all (length items - length before)
    (drop (length before) items) (omega (arith, length-drop (length before) items))
    ∙ ap (λ (xs : List Item). drop (length xs) items) old ∙ ap (drop (length here)) is

-- they keep up with a step that wrote some items, which they noted
pub keep_up_next : (start here after items noted : List Item) (old now new : MeterBoardValue SeenMeter)
    → after ≡ here ++ items → ReplayMetersKeepUp start here old now → ReplayMetersStayOn (replay_left_in noted) now new
    → noted ≡ drop (length here) after → ReplayMetersKeepUp start after old new
keep_up_next start here after items noted old now new written keep stay own =
    let own_items : noted ≡ items =
    own ∙ ap (drop (length here)) written ∙ drop-append_seam here items in
    let whole : replay_left_in here ++ replay_left_in noted ≡ replay_left_in after =
    ap (λ more. replay_left_in here ++ replay_left_in more) own_items ∙ left_append here items
    ∙ ap replay_left_in (sym written) in record {
      more = keep.more ++ replay_left_in noted;
      left = sym whole ∙ ap (λ left. left ++ replay_left_in noted) keep.left
          ∙ append_assoc (replay_left_in start) keep.more (replay_left_in noted);
      stay = λ ports left meters is.
          subst (λ (all : MeterPortLeavings). new ≡ meter_board_after ports all meters)
          (append_assoc left keep.more (replay_left_in noted))
          (stay ports (left ++ keep.more) meters (keep.stay ports left meters is));
    }

-- while nothing happens
pub keep_up_none : (journal : List Item) (board : MeterBoardValue SeenMeter)
    → ReplayMetersKeepUp journal journal board board
keep_up_none journal board = record {
  more = [];
  left = sym (append-nil (replay_left_in journal));
  stay = λ ports left own is.
      subst (λ (all : MeterPortLeavings). board ≡ meter_board_after ports all own) (sym (append-nil left)) is;
}

-- where the old board was the one of a journal, the new one is the one of the longer journal
pub kept_up : (before after : List Item) (old new : MeterBoardValue SeenMeter) (ports : ℕ)
    (meters : List SeenMeter) → ReplayMetersKeepUp before after old new
    → old ≡ meter_board_after ports (replay_left_in before) meters
    → new ≡ meter_board_after ports (replay_left_in after) meters
kept_up before after old new ports meters keep is =
    subst (λ (left : MeterPortLeavings). new ≡ meter_board_after ports left meters) (sym keep.left)
    (keep.stay ports (replay_left_in before) meters is)
