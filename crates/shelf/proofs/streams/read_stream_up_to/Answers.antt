use Rattle.std.proofs.Common.{[], ◌++◌, ◌<◌, ◌∙◌, ◌≡◌, IfSome, List, None, Option, Some, ap, arith, length, length-take, take, take_all, ℕ}
use Rattle.shelf.proofs.streams.read_stream_up_to.Goals as goal

-- where more of what is left might have been read, all of it was
whole : (known : Option (List ℕ)) (most : ℕ) (start read : List ℕ) → start ≡ []
    → IfSome known (λ left. read ≡ start ++ take most left)
    → length read < most → IfSome known (λ left. read ≡ left)
whole None most start read empty is fewer = tt
whole (Some left) most start read empty is fewer =
    let same : read ≡ take most left =
    is ∙ ap (λ (bytes : List ℕ). bytes ++ take most left) empty in
    same ∙ take_all most left (omega (arith, fewer, ap length same, length-take most left))

pub returns-in-Ok-2-clause-read : goal.returns-in-Ok-2-clause-read
returns-in-Ok-2-clause-read g c =
    let content = c.read_front.new.content in
    let most = c.saturating_add.result in
    let fewer : length content.items < most = omega (
      arith,
      c.saturating_add.ensures,
      c.len.ensures,
      c.if-len-limit.false,
      content.ok.0,
      content.ok.1,
      content.small,
    ) in
    whole (g.R.Reader.state c.args.reader.now).left most c.new-content.result.items content.items
    c.new-content.ensures.items c.in-Ok-2.ensures.front fewer
