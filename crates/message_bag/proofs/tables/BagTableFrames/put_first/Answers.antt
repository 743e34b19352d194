use Rattle.std.proofs.Common.{◌++◌, ◌∙◌, ◌≡◌, List, OnOk, ap, length, subst, ℕ}
use Rattle.base.proofs.Exports.{on_ok_weaker}
use Rattle.wire.specs.Exports.{frame, wire_spelled_front}
use Rattle.message_bag.proofs.BagInstallationFrames.{first_put, own_long}
use Rattle.message_bag.proofs.tables.BagTableFrames.put_first.Goals as goal

pub split_at-requires : goal.split_at-requires
split_at-requires c =
    own_long c.self.inside.said c.self.inside.frames c.in-Some.own.now c.self.invariant c.in-Some.ensures.frame

pub returns-clause-put : goal.returns-clause-put
returns-clause-put c =
    let out = c.args.out.now.items in
    let front = wire_spelled_front c.args.to c.args.boot in
    subst (λ (fs : List (List ℕ)). OnOk c.append_install_front.result (c.append_install_front.new.out.items ≡ out ++ frame 0 (length fs) front))
    c.self.view_is
    (on_ok_weaker c.append_install_front.result (first_put c.self.inside.said c.self.inside.frames c.in-Some.own.now out
    c.extend_from_slice.new.self.items c.append_install_front.new.out.items front c.self.invariant c.in-Some.ensures.frame
    (c.in_ok-extend_from_slice-in-Some.ensures.items ∙ ap (λ (h : List ℕ). out ++ h) c.split_at.ensures.front))
    c.append_install_front.ensures.spelled)
