-- What is kept of a message that is posted, and that what was kept stays.
use Rattle.std.proofs.Common.{[], ◌++◌, ◌∙◌, ◌∷◌, ◌≡◌, All, List, None, Option, Result, Some, ap, arith, drop, get_or, get_or-take, length, length-take, map, refl, subst, sym, true, ℕ}
use Rattle.base.proofs.Exports.{All-head, All-tail}
use Rattle.ctrl_msg.specs.declared.message.Body.TheVariants.{Install}
use Rattle.ctrl_msg.specs.declared.message.Message.{Message}
use Rattle.wire.specs.Exports.{frame, frames, message, wire_message_front, n4, wire_spelled_front, wire_spelled_number, wire_body_suits_receiver, tables}
use Rattle.message_bag.specs.Exports.{AreBagKeptFrames, AreBagFramesOfMessage, BagFramesCarryTables, BagFirst, HasBagFrames, HasPosted, IsBagGrown, IsBagNumberThere, bag_install_frame_count, bag_frames_in, bag_posted_frames, bag_tables_version}
use Rattle.message_bag.proofs.BagFramedMessages.{framed_is}
use Rattle.message_bag.proofs.BagInstallationSpelling.{fits_whole}
use Rattle.message_bag.proofs.BagNumberedPosts.{all_posted, posted_mapped}
use Rattle.switch_table.specs.declared.tables.Tables.{Tables}
use Rattle.message_bag.proofs.BagInstallationFrames.{carried, only_frame}

-- ---- a message of one frame

header : (chunk : List ℕ) → frame 0 1 chunk ≡ (0 ∷ 0 ∷ 0 ∷ 0 ∷ 0 ∷ 0 ∷ 0 ∷ 1 ∷ []) ++ chunk
unfolding frame n4 wire_spelled_number
header chunk = refl

pub alone_is : (m : Message) (kept : List (List (List ℕ))) (bytes : List ℕ) → bag_tables_version m.body ≡ None
    → bytes ≡ (0 ∷ 0 ∷ 0 ∷ 0 ∷ 0 ∷ 0 ∷ 0 ∷ 1 ∷ []) ++ message.spell m → bag_frames_in kept (bytes, None) ≡ frames m
alone_is m kept bytes alone is = cc (is, header (message.spell m), only_frame m alone)

-- ---- what was kept

stays : (before after : List (List (List ℕ))) (first : BagFirst) → IsBagGrown before after → IsBagNumberThere before first.1
    → bag_frames_in after first ≡ bag_frames_in before first
stays before after (first, None) grown there = refl
stays before after (first, Some number) grown there =
    ap (λ fs. first ∷ drop 1 fs) (sym (get_or-take (length before) after number [] there) ∙ ap (λ kept. get_or kept number []) grown)

there_still : (before after : List (List (List ℕ))) (o : Option ℕ) → IsBagGrown before after → IsBagNumberThere before o → IsBagNumberThere after o
there_still before after None grown there = tt
there_still before after (Some number) grown there =
    omega (arith, there, length-take (length before) after, ap length grown)

pub all_stay : (before after : List (List (List ℕ))) (firsts : List BagFirst) → IsBagGrown before after
    → All (AreBagKeptFrames before) firsts → map (bag_frames_in after) firsts ≡ map (bag_frames_in before) firsts
all_stay before after [] grown kept = refl
all_stay before after (first ∷ firsts) grown kept =
    rw (stays before after first grown (All-head (AreBagKeptFrames before) first firsts kept).there)
    (ap (λ others. bag_frames_in before first ∷ others) (all_stay before after firsts grown (All-tail (AreBagKeptFrames before) first firsts kept)))

pub still_kept : (before after : List (List (List ℕ))) (firsts : List BagFirst) → IsBagGrown before after
    → All (AreBagKeptFrames before) firsts → All (AreBagKeptFrames after) firsts
still_kept before after firsts grown kept = λ k d lt. let is = kept k d lt in record {
  there = there_still before after _ grown is.there;
  are = subst AreBagFramesOfMessage (sym (stays before after _ grown is.there)) is.are;
}

-- ---- a first frame that is pushed, or not, if memory runs out

module _ {E : Type 0} (m : Message) (kept : List (List (List ℕ))) (first : BagFirst) (firsts longer : List BagFirst)
    (r : Result ℕ E) (post : HasPosted r first firsts longer) (has : HasBagFrames m) (is : bag_frames_in kept first ≡ frames m) where
  pub posted_after : (bag : List (List (List ℕ))) → map (bag_frames_in kept) firsts ≡ bag
      → HasPosted r (bag_posted_frames m) bag (map (bag_frames_in kept) longer)
  posted_after bag view = subst (λ fs. HasPosted r fs bag (map (bag_frames_in kept) longer))
      (is ∙ sym (framed_is m has.fits)) (posted_mapped first firsts longer (bag_frames_in kept) bag r post view)

  pub kept_after : All (AreBagKeptFrames kept) firsts → IsBagNumberThere kept first.1 → All (AreBagKeptFrames kept) longer
  kept_after all there = all_posted first firsts longer (AreBagKeptFrames kept) r post all
      (record { there = there; are = (m, has, is) })

-- ---- an installation

-- the first frame of its own, and the kept ones behind it
pub tables_are : (m : Message) (kept : List (List (List ℕ))) (number boot : ℕ) (t : Tables) (bytes : List ℕ)
    → m.body ≡ Install boot t → BagFramesCarryTables t (get_or kept number [])
    → bytes ≡ frame 0 (length (get_or kept number [])) (wire_spelled_front m.to boot)
    → bag_frames_in kept (bytes, Some number) ≡ frames m
tables_are m kept number boot t bytes carries carry is = let fs = get_or kept number [] in
    ap (λ f. f ∷ drop 1 fs) (is ∙ ap (λ n. frame 0 n (wire_spelled_front m.to boot)) carry.count)
    ∙ ap (λ others. frame 0 (bag_install_frame_count t) (wire_spelled_front m.to boot) ∷ others) carry.behind.are
    ∙ sym (carried m boot t carries)

pub tables_fit : (m : Message) (boot : ℕ) (t : Tables) → m.body ≡ Install boot t
    → wire_message_front.fits (m.to, (1, boot)) ≡ true
    → tables.fits t ≡ true → wire_body_suits_receiver m.to m.body ≡ true → message.fits m ≡ true
tables_fit m boot t carries head fits is =
    ap (λ b. message.fits (record { to = m.to; body = b })) carries
    ∙ fits_whole m.to boot t head fits (ap (wire_body_suits_receiver m.to) (sym carries) ∙ is)
