-- What messages and acts write, one part after another.
use Rattle.std.proofs.Common.{[], ◌++◌, ◌+◌, ◌<◌, ◌^◌, ◌∙◌, ◌∷◌, ◌≡◌, ◌≤◌, All, IsErr, List, Result, ap, append-nil, append_assoc, arith, get_or-append-add, length, length-append, map, refl, subst, sym, ℕ}
use Rattle.base.proofs.Exports.{both_written, holds_next, get_or-map, get_or_append_left, length-map, map-append, on_err, on_ok_failed}
use Rattle.message_bag.specs.Exports.{HasShortBagSpelling, Post, new_bag_post}
use Rattle.controller.specs.declared.sends.Act.{Act}
use Rattle.controller.specs.declared.sends.Act.TheVariants as act
use Rattle.update_machine.specs.Exports.{Item, Message, machine_sent_items_from}
use Rattle.world_log.specs.Exports.{LogHasNoted, IsLogPart, IsLoggedActSpelled, LogMayNote, LogMaySend, log_act_item, log_act_items, log_act_post, log_act_posts, log_number_after_act}
use Rattle.world_log.specs.declared.log.Log.{Log}
use Rattle.world_log.proofs.LogStepWrites.{part_of_first, part_of_rest}

number_on : (number : ℕ) (one : Act) → log_number_after_act number one ≡ number + length (log_act_post one)
number_on number (act.Current version) = omega arith
number_on number (act.Retired version) = omega arith
number_on number (act.Post message) = refl

pub acts_append : (number : ℕ) (first later : List Act) → log_act_items number (first ++ later)
    ≡ log_act_items number first ++ log_act_items (number + length (log_act_posts first)) later
unfolding log_act_items log_act_posts
acts_append number [] later = ap (λ n. log_act_items n later) (omega arith)
acts_append number (one ∷ first) later =
    ap (λ items. log_act_item number one ∷ items) (acts_append (log_number_after_act number one) first later
    ∙ ap (λ n. log_act_items (log_number_after_act number one) first ++ log_act_items n later)
    (omega (arith, number_on number one, length-append (log_act_post one) (log_act_posts first))))

pub posts_append : (first later : List Act)
    → log_act_posts (first ++ later) ≡ log_act_posts first ++ log_act_posts later
unfolding log_act_posts
posts_append [] later = refl
posts_append (one ∷ first) later = ap (λ posts. log_act_post one ++ posts) (posts_append first later)
    ∙ sym (append_assoc (log_act_post one) (log_act_posts first) (log_act_posts later))

pub acts_one : (number : ℕ) (one : Act) → log_act_items number (one ∷ []) ≡ log_act_item number one ∷ []
unfolding log_act_items
acts_one number one = refl

pub posts_one : (one : Act) → log_act_posts (one ∷ []) ≡ log_act_post one
unfolding log_act_posts
posts_one (act.Current version) = refl
posts_one (act.Retired version) = refl
posts_one (act.Post message) = refl

-- ---- loops

-- the first items came, and the others are to come, so many
pub record HaveCome {A : Type 0} (all first rest : List A) (left : ℕ) : Type 0 where
  pub parts : first ++ rest ≡ all
  pub many : length first + left ≡ length all

pub come_next : {A : Type 0} (all first rest later : List A) (one : A) (left : ℕ)
    → HaveCome all first rest left → rest ≡ one ∷ later → first ++ one ∷ later ≡ all
come_next all first rest later one left come next = ap (λ xs. first ++ xs) (sym next) ∙ come.parts

pub come_more : {A : Type 0} (all first rest later : List A) (one : A) (left after : ℕ)
    → HaveCome all first rest left → (rest ≡ one ∷ later) × (after + 1 ≡ left)
    → HaveCome all (first ++ one ∷ []) later after
come_more all first rest later one left after come step = record {
  parts = append_assoc first (one ∷ []) later ∙ come_next all first rest later one left come step.0;
  many = omega (arith, length-append first (one ∷ []), come.many, step.1);
}

-- once none is left
pub come_all : {A : Type 0} (all first rest : List A) (left : ℕ) → HaveCome all first rest left
    → left ≡ 0 → first ≡ all
come_all all first [] left come none = sym (append-nil first) ∙ come.parts
come_all all first (one ∷ rest) left come none =
    absurd (omega (arith, come.many, none, ap length come.parts, length-append first (one ∷ rest)))

-- the first acts are done, after this journal and these posts
pub record AreDone (journal : List Item) (bag : List Post) (acts : List Act)
    (now : List Item) (posts : List Post) : Type 0 where
  pub written : now ≡ journal ++ log_act_items (length bag + 1) acts
  pub posted : posts ≡ bag ++ log_act_posts acts

pub done_begun : (journal : List Item) (bag : List Post) → AreDone journal bag [] journal bag
unfolding log_act_items log_act_posts
done_begun journal bag = record {
  written = sym (append-nil journal);
  posted = sym (append-nil bag);
}

module _ (journal now : List Item) (bag posts : List Post) (first : List Act)
    (so : AreDone journal bag first now posts) where
  pub done_more : (after : List Item) (later : List Post) (one : Act)
      → after ≡ now ++ log_act_item (length posts + 1) one ∷ [] → later ≡ posts ++ log_act_post one
      → AreDone journal bag (first ++ one ∷ []) after later
  done_more after later one done post =
      let number : length posts + 1 ≡ length bag + 1 + length (log_act_posts first) =
      omega (arith, ap length so.posted, length-append bag (log_act_posts first)) in record {
        written = both_written journal now after (log_act_items (length bag + 1) first)
            (log_act_item (length posts + 1) one ∷ []) so.written done
            ∙ ap (λ items. journal ++ (log_act_items (length bag + 1) first ++ items))
            (sym (acts_one (length posts + 1) one) ∙ ap (λ n. log_act_items n (one ∷ [])) number)
            ∙ ap (λ items. journal ++ items) (sym (acts_append (length bag + 1) first (one ∷ [])));
        posted = both_written bag posts later (log_act_posts first) (log_act_post one) so.posted post
            ∙ ap (λ more. bag ++ (log_act_posts first ++ more)) (sym (posts_one one))
            ∙ ap (λ more. bag ++ more) (sym (posts_append first (one ∷ [])));
      }

  pub done_part : (rest acts : List Act) → first ++ rest ≡ acts
      → IsLogPart journal (log_act_items (length bag + 1) acts) now
  done_part rest acts all = record {
    written = log_act_items (length bag + 1) first;
    rest = log_act_items (length bag + 1 + length (log_act_posts first)) rest;
    split = ap (log_act_items (length bag + 1)) (sym all) ∙ acts_append (length bag + 1) first rest;
    grown = so.written;
  }

  pub done_few : (rest acts : List Act) (one : Act) → first ++ one ∷ rest ≡ acts
      → length posts + length (log_act_post one) ≤ length bag + length (log_act_posts acts)
  unfolding log_act_posts
  done_few rest acts one all = omega (
    arith,
    ap length so.posted,
    length-append bag (log_act_posts first),
    ap length (ap log_act_posts (sym all) ∙ posts_append first (one ∷ rest)),
    length-append (log_act_posts first) (log_act_post one ++ log_act_posts rest),
    length-append (log_act_post one) (log_act_posts rest),
  )

-- memory ran out where a part was written
pub noting_failed : {T E : Type 0} (r : Result T E) (acts : List Act) (old new : Log) → IsErr r
    → IsLogPart old.journal (log_act_items (length old.bag + 1) acts) new.journal
    → new.travelling ≡ old.travelling → LogHasNoted r acts old new
noting_failed r acts old new failed part same = record {
  written = on_ok_failed _ r failed;
  posted = on_ok_failed _ r failed;
  part = on_err r part;
  travelling = same;
}

-- ---- a loop that notes each of these as an act

-- the first of them are noted, and the others are to come, so many
pub record IsNoting {A : Type 0} (act : A → Act) (all first rest : List A) (left : ℕ)
    (old now : Log) : Type 0 where
  pub done : AreDone old.journal old.bag (map act first) now.journal now.bag
  pub come : HaveCome all first rest left
  pub travelling : now.travelling ≡ old.travelling

module _ {A : Type 0} (act : A → Act) (all first rest : List A) (left : ℕ) (old now : Log)
    (so : IsNoting act all first rest left old now) where
  acts_of : (some : List A) → first ++ some ≡ all → map act first ++ map act some ≡ map act all
  acts_of some parts = sym (map-append act first some) ∙ ap (map act) parts

  module _ (later : List A) (one : A) (next : rest ≡ one ∷ later) where
    parts : map act first ++ act one ∷ map act later ≡ map act all
    parts = acts_of (one ∷ later) (come_next all first rest later one left so.come next)

    -- the next one may be noted
    pub noting_few : LogMayNote old.bag (map act all)
        → length now.bag + length (log_act_post (act one)) < 2 ^ 32
    noting_few may = omega (
      arith,
      may.few,
      done_few old.journal now.journal old.bag now.bag
          (map act first) so.done (map act later) (map act all) (act one) parts,
    )

    pub noting_spelled : LogMayNote old.bag (map act all) → IsLoggedActSpelled (act one)
    noting_spelled may = holds_next IsLoggedActSpelled (map act all) (map act first) (map act later)
        (act one) parts may.spelled

    -- and once it is
    pub noting_more : (after : ℕ) (new : Log) → after + 1 ≡ left
        → new.journal ≡ now.journal ++ log_act_item (length now.bag + 1) (act one) ∷ []
        → new.bag ≡ now.bag ++ log_act_post (act one) → new.travelling ≡ now.travelling
        → IsNoting act all (first ++ one ∷ []) later after old new
    noting_more after new fewer written posted travelling = record {
      done = subst (λ acts. AreDone old.journal old.bag acts new.journal new.bag)
          (sym (map-append act first (one ∷ []))) (done_more old.journal now.journal old.bag now.bag
          (map act first) so.done new.journal new.bag (act one) written posted);
      come = come_more all first rest later one left after so.come (next, fewer);
      travelling = travelling ∙ so.travelling;
    }

  -- memory ran out before the next one was written
  pub noting_stopped : (journal : List Item) → journal ≡ now.journal
      → IsLogPart old.journal (log_act_items (length old.bag + 1) (map act all)) journal
  noting_stopped journal same = rw same (done_part old.journal now.journal old.bag now.bag
      (map act first) so.done (map act rest) (map act all) (acts_of rest so.come.parts))

  -- none is left
  pub noting_all : left ≡ 0 → AreDone old.journal old.bag (map act all) now.journal now.bag
  noting_all none = subst (λ some. AreDone old.journal old.bag (map act some) now.journal now.bag)
      (come_all all first rest left so.come none) so.done

-- ---- messages, and then acts

-- if the acts are spelled, the messages of the first ones are
pub messages_spelled : (messages : List Message) (later : List Act)
    → All IsLoggedActSpelled (map act.Post messages ++ later) → All HasShortBagSpelling messages
messages_spelled messages later all = λ k d within. subst IsLoggedActSpelled
    (get_or_append_left (map act.Post messages) later (act.Post d) k
    (omega (arith, within, length-map messages act.Post))
    ∙ get_or-map act.Post messages k d (act.Post d) within) (all k (act.Post d) (omega (
      arith,
      within,
      length-map messages act.Post,
      length-append (map act.Post messages) later,
    )))

-- what may be done may be done one part after another
module _ (bag : List Post) (first later : List Act) (may : LogMayNote bag (first ++ later)) where
  counted : length (log_act_posts (first ++ later))
      ≡ length (log_act_posts first) + length (log_act_posts later)
  counted = ap length (posts_append first later) ∙ length-append (log_act_posts first) (log_act_posts later)

  pub may_later : (posts : List Post) → posts ≡ bag ++ log_act_posts first → LogMayNote posts later
  may_later posts posted = record {
    few = omega (arith, may.few, counted, ap length posted, length-append bag (log_act_posts first));
    spelled = λ k d within. subst IsLoggedActSpelled (get_or-append-add first later k d)
        (may.spelled (length first + k) d (omega (arith, within, length-append first later)));
  }

-- messages alone
pub sent_as_acts : (number : ℕ) (messages : List Message)
    → log_act_items number (map act.Post messages) ≡ machine_sent_items_from number messages
unfolding log_act_items machine_sent_items_from
sent_as_acts number [] = refl
sent_as_acts number (message ∷ messages) = cc (sent_as_acts (number + 1) messages)

pub posts_as_acts : (messages : List Message)
    → log_act_posts (map act.Post messages) ≡ map new_bag_post messages
unfolding log_act_posts
posts_as_acts [] = refl
posts_as_acts (message ∷ messages) = ap (λ posts. new_bag_post message ∷ posts) (posts_as_acts messages)

-- messages are acts too
pub spelled_as_acts : (messages : List Message) → All HasShortBagSpelling messages
    → All IsLoggedActSpelled (map act.Post messages)
spelled_as_acts [] all = λ k d within. absurd (omega (arith, within))
spelled_as_acts (message ∷ messages) all = λ k d within.
    let inside : k < length (message ∷ messages) =
    omega (arith, within, length-map (message ∷ messages) act.Post) in
    subst IsLoggedActSpelled (sym (get_or-map act.Post (message ∷ messages) k message d inside))
    (all k message inside)

pub may_as_acts : (bag : List Post) (messages : List Message) → LogMaySend bag messages
    → LogMayNote bag (map act.Post messages)
may_as_acts bag messages may = record {
  few = omega (arith, may.few, ap length (posts_as_acts messages), length-map messages new_bag_post);
  spelled = spelled_as_acts messages may.spelled;
}

-- the messages before these acts may be sent
pub may_sent : (bag : List Post) (messages : List Message) (later : List Act)
    → LogMayNote bag (map act.Post messages ++ later) → LogMaySend bag messages
may_sent bag messages later may = record {
  few = omega (
    arith,
    may.few,
    counted bag (map act.Post messages) later may,
    ap length (posts_as_acts messages),
    length-map messages new_bag_post,
  );
  spelled = messages_spelled messages later may.spelled;
}

module _ (journal now : List Item) (bag posts : List Post) (first later : List Act)
    (so : AreDone journal bag first now posts) where
  both_are : log_act_items (length bag + 1) (first ++ later)
      ≡ log_act_items (length bag + 1) first ++ log_act_items (length posts + 1) later
  both_are = acts_append (length bag + 1) first later
      ∙ ap (λ n. log_act_items (length bag + 1) first ++ log_act_items n later)
      (omega (arith, ap length so.posted, length-append bag (log_act_posts first)))

  pub done_both : (after : List Item) (final : List Post)
      → after ≡ now ++ log_act_items (length posts + 1) later → final ≡ posts ++ log_act_posts later
      → AreDone journal bag (first ++ later) after final
  done_both after final done post = record {
    written = both_written journal now after (log_act_items (length bag + 1) first)
        (log_act_items (length posts + 1) later) so.written done
        ∙ ap (λ items. journal ++ items) (sym both_are);
    posted = both_written bag posts final (log_act_posts first) (log_act_posts later) so.posted post
        ∙ ap (λ more. bag ++ more) (sym (posts_append first later));
  }

  -- memory runs out among the later ones
  pub later_part : (after : List Item) → IsLogPart now (log_act_items (length posts + 1) later) after
      → IsLogPart journal (log_act_items (length bag + 1) (first ++ later)) after
  later_part after part = rw both_are (part_of_rest journal now (log_act_items (length bag + 1) first)
      (log_act_items (length posts + 1) later) after so.written part)

-- or among the first ones
pub first_part : (journal now : List Item) (number : ℕ) (first later : List Act)
    → IsLogPart journal (log_act_items number first) now
    → IsLogPart journal (log_act_items number (first ++ later)) now
first_part journal now number first later part = subst (λ items. IsLogPart journal items now)
    (sym (acts_append number first later)) (part_of_first journal (log_act_items number first)
    (log_act_items (number + length (log_act_posts first)) later) now part)
