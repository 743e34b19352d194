use Rattle.std.proofs.Common.{◌∙◌, ◌∷◌, ◌≡◌, List, ap, arith, drop, subst, sym, ℕ}
use Rattle.ctrl_msg.specs.declared.message.Body.TheVariants.{Install}
use Rattle.switch_table.specs.declared.tables.Tables.{Tables}
use Rattle.message_bag.specs.Exports.{AreBagFramesOfMessage, bag_table_frames}
use Rattle.message_bag.proofs.BagMessagesOut.{rest_is}
use Rattle.message_bag.proofs.BagInstallationFrames.{again_installed, has_front, long_installed}
use Rattle.wire.specs.Exports.{AreWireFrames}
use Rattle.message_bag.proofs.tables.BagTableFrames.message.Goals as goal
use Rattle.message_bag.proofs.tables.BagTableFrames.message.Goals.{In_ok-tables}

-- the other frames are those of the tables
others : (c : In_ok-tables) → drop 1 c.args.self.now ≡ bag_table_frames c.self.inside.said
others c = ap (drop 1) (sym c.self.view_is) ∙ c.self.invariant.behind.are

are : (c : In_ok-tables) → AreBagFramesOfMessage (c.args.first.now ∷ bag_table_frames c.self.inside.said)
are c = rw (others c) at c.requires

pub slice_bounds-read_bag_install_front-count : goal.slice_bounds-read_bag_install_front-count
slice_bounds-read_bag_install_front-count c = let start = (goal.at.slice_bounds-read_bag_install_front-count c).In_ok-tables in
    omega (arith, long_installed c.args.first.now c.self.inside.said (are start))

pub slice_bounds-read_bag_install_front-start : goal.slice_bounds-read_bag_install_front-start
slice_bounds-read_bag_install_front-start c = let start = (goal.at.slice_bounds-read_bag_install_front-start c).In_ok-tables in
    omega (arith, long_installed c.args.first.now c.self.inside.said (are start))

pub read_bag_install_front-requires : goal.read_bag_install_front-requires
read_bag_install_front-requires c = let start = (goal.at.read_bag_install_front-requires c).In_ok-tables in
    has_front c.args.first.now _ c.self.inside.said (are start) (rest_is c.args.first.now)

pub returns : goal.returns
returns c =
    let start = (goal.at.returns c).In_ok-tables in
    let first = c.args.first.now in
    let t = c.self.inside.said in
    subst (λ (frames : List (List ℕ)). AreWireFrames (record {
      to = c.in_ok-to.to;
      body = Install c.in_ok-to.boot c.in_ok-tables.tables;
    }) (first ∷ frames)) (sym (others start))
    (subst (λ (u : Tables). AreWireFrames (record {
      to = c.in_ok-to.to;
      body = Install c.in_ok-to.boot u;
    }) (first ∷ bag_table_frames t)) (sym c.in_ok-tables.ensures.cases)
    (again_installed first _ t c.in_ok-to.to c.in_ok-to.boot (are start) c.self.invariant.behind.fits
    (rest_is first) c.in_ok-to.ensures))
