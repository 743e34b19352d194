use Rattle.std.proofs.Common.{[], ◌++◌, ◌∙◌, ◌∷◌, ◌≡◌, Bool, ap, cond, false, filter, refl, subst, sym, take}
use Rattle.std.proofs.lemmas.List.Elements.{filter_more}
use Rattle.policy_rules.specs.Exports.{policy_row_matches}
use Rattle.policy_rules.specs.declared.policy.Row.{Row}
use Rattle.policy_rules.proofs.PolicyFirstMatch.{IsBest, best_keeps, best_takes}
use Rattle.policy_rules.proofs.policy.highest_match.Goals as goal
use Rattle.policy_rules.proofs.policy.highest_match.Goals.{then-matches+then-exceeds, else-matches, else-matches-via-then-matches+else-exceeds, else-matches-via-else-matches}

pub loop-row-preserved : goal.loop-row-preserved
loop-row-preserved c =
    let rows = c.args.rows.now in
    let i = c.loop-row.row-index in
    let row = c.row-item.result in
    let p : Row → Bool = λ row. policy_row_matches row c.args.fields.now in
    let more = filter_more p rows i row c.loop-row-test.true
    ∙ ap (λ x. filter p (take i rows) ++ cond (p x) (x ∷ []) []) (sym c.row-item.is) in
    let kept = filter p (take i rows) in
    let now = kept ++ cond (p row) (row ∷ []) [] in
    subst (λ kept. IsBest kept c.if-matches.best) (sym more) (
    elim c.if-matches.branch [
      | then-matches+then-exceeds w ↦ best_takes kept row c.loop-row.best _ (p row) _ w.best-is refl
          (sym c.matches.ensures ∙ w.if-matches.true) (sym w.exceeds.ensures ∙ w.if-exceeds.true)
          c.loop-row.invariant
      | else-matches w ↦ subst (IsBest now) (sym w.best-is) (elim w.else-matches.branch [
        | else-matches-via-then-matches+else-exceeds v ↦ best_keeps kept row c.loop-row.best (p row)
            (λ _. sym v.exceeds.ensures ∙ v.if-exceeds.false) c.loop-row.invariant
        | else-matches-via-else-matches v ↦ best_keeps kept row c.loop-row.best (p row)
            (λ matches. absurd (let no : p row ≡ false = sym c.matches.ensures
            ∙ v.if-matches.false in cc)) c.loop-row.invariant
      ])
    ])
