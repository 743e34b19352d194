use Rattle.std.proofs.Common.{[], ◌++◌, ◌∙◌, ◌∷◌, ◌≡◌, List, Option, ap, arith, length, length-append, map, ℕ}
use Rattle.base.proofs.Exports.{common_steps, length-map}
use Rattle.message_bag.specs.Exports.{BagFirst, bag_first_frame_in}
use Rattle.message_bag.specs.declared.firsts.Span.{Span}
use Rattle.message_bag.proofs.BagFirstFrameSpans.{all_stay, pushed}
use Rattle.message_bag.proofs.BagNumberedPosts.{post_failed}
use Rattle.message_bag.proofs.firsts.Firsts.push.Goals as goal

pub returns-in_err-push : goal.returns-in_err-push
returns-in_err-push c =
    let bytes = c.self.inside.bytes.items in
    let spans = c.self.inside.spans.items in
    let grown : c.extend_from_slice.new.self.items ≡ bytes ++ c.args.frame.now = grind (arith, common_steps) in
    let same : c.push.new.self.items ≡ spans = grind (arith, common_steps) in
    post_failed _ _ _ _ c.from_residual-in_err-push.ensures.0
    (ap (λ b. map (bag_first_frame_in b) c.push.new.self.items) grown ∙ ap (map (bag_first_frame_in (bytes ++ c.args.frame.now))) same
    ∙ all_stay bytes c.args.frame.now spans c.self.invariant ∙ c.self.view_is)

pub returns : goal.returns
returns c =
    let bytes = c.self.inside.bytes.items in
    let spans = c.self.inside.spans.items in
    let span : Span = c.in_ok-span.span in
    let grown : c.extend_from_slice.new.self.items ≡ bytes ++ c.args.frame.now = grind (arith, common_steps) in
    let longer : c.push.new.self.items ≡ spans ++ span ∷ [] =
    c.in_ok-push.ensures.items ∙ ap (λ (all : List Span). all ++ span ∷ []) c.make_bag_frame_room.ensures.spans in
    let many : c.len-2.result ≡ length c.push.new.self.items = grind (arith, common_steps) in
    record {
      number = omega (arith, many, ap length longer, length-append spans (span ∷ []), ap length c.self.view_is, length-map spans (bag_first_frame_in bytes));
      posted = pushed bytes c.args.frame.now c.extend_from_slice.new.self.items spans c.push.new.self.items span c.self.invariant
          grown longer (omega (arith, c.in_ok-span.ensures.start, ap length c.make_bag_frame_room.ensures.bytes)) c.in_ok-span.ensures.len
          ∙ ap (λ (firsts : List BagFirst). firsts ++ (c.args.frame.now, span.tables) ∷ []) c.self.view_is
          ∙ ap (λ (tables : Option ℕ). c.args.self.now ++ (c.args.frame.now, tables) ∷ []) c.in_ok-span.ensures.tables;
      unchanged = tt;
    }
