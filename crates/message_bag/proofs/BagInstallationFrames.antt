-- Messages with tables and without: of how many frames they are, and what the first one says.
use Rattle.std.proofs.Common.{[], ◌++◌, ◌+◌, ◌-◌, ◌<◌, ◌^◌, ◌∙◌, ◌∷◌, ◌≡◌, ◌≤◌, Err, IfOk, List, MatchResult, None, Ok, Result, Some, add-one, ap, append_assoc, arith, drop, get_or, length, length-append, length-take, refl, slice_get, subst, sym, take, take_all, take_at, true, ℕ}
use Rattle.base.proofs.Exports.{same_Some}
use Rattle.ctrl_msg.specs.declared.message.Body.{Body}
use Rattle.ctrl_msg.specs.declared.message.Body.TheVariants.{Install}
use Rattle.ctrl_msg.specs.declared.message.Message.{Message}
use Rattle.ctrl_msg.specs.declared.message.Place.{Place}
use Rattle.switch_table.specs.declared.tables.Tables.{Tables}
use Rattle.wire.specs.Exports.{AreWireFrames, IsWireFront, chunk_in_wire_frame, wire_chunks_behind_head, frame, frames, wire_frames_of, wire_frames_of_version, wire_first_chunk_len, message, wire_message_front, n4, wire_spelled_front, wire_body_suits_receiver, tables}
use Rattle.wire.proofs.WireFrameBytes.{length_frame, length_n4, chunk_of_frame}
use Rattle.wire.proofs.WireInstallationFronts.{one_front}
use Rattle.message_bag.specs.Exports.{AreBagFramesOfInstall, AreBagFramesOfMessage, BagFramesCarryTables, bag_install_frame_count, bag_install_frames, bag_table_frames, bag_tables_version}
use Rattle.message_bag.proofs.BagFrameArrivals.{same_message}
use Rattle.message_bag.proofs.BagTablesRestamped.{behind, fits_too, same_count}
use Rattle.message_bag.proofs.BagInstallationSpelling.{fits_parts, fits_whole, installed, length_behind, some_behind, suits_any}

-- ---- a message of one frame

whole : (bytes : List ℕ) → wire_chunks_behind_head (length bytes) bytes ≡ bytes ∷ []
whole bytes = let none : length bytes - length bytes ≡ 0 = omega arith in
    rw (none, take_all (length bytes) bytes (omega arith)) refl

head_of : (b : Body) (bytes : List ℕ) → bag_tables_version b ≡ None → wire_first_chunk_len b bytes ≡ length bytes
head_of (Install boot t) bytes alone = absurd cc
head_of b bytes alone = refl

pub only_frame : (m : Message) → bag_tables_version m.body ≡ None → frames m ≡ frame 0 1 (message.spell m) ∷ []
only_frame m alone =
    ap wire_frames_of (ap (λ head. wire_chunks_behind_head head (message.spell m))
    (head_of m.body (message.spell m) alone) ∙ whole (message.spell m))

-- ---- an installation

pub carried : (m : Message) (boot : ℕ) (t : Tables) → m.body ≡ Install boot t → frames m ≡ bag_install_frames m.to boot t
carried m boot t carries =
    ap (λ b. frames (record { to = m.to; body = b })) carries ∙ installed m.to boot t

tables_fit : (m : Message) (boot : ℕ) (t : Tables) → m.body ≡ Install boot t → message.fits m ≡ true → tables.fits t ≡ true
tables_fit m boot t carries fits =
    (fits_parts m.to boot t (ap (λ b. message.fits (record { to = m.to; body = b })) (sym carries) ∙ fits)).1

header_of : (place count : ℕ) (chunk : List ℕ) → take 8 (frame place count chunk) ≡ n4.spell place
    ++ n4.spell count
unfolding frame
header_of place count chunk =
    take_at (n4.spell place ++ n4.spell count) chunk 8
    (omega (arith, length-append (n4.spell place) (n4.spell count), length_n4 place, length_n4 count))

pub says : (m : Message) (fs : List (List ℕ)) (boot : ℕ) (t : Tables) → AreWireFrames m fs → m.body ≡ Install boot t
    → BagFramesCarryTables t fs
says m fs boot t are carries =
    subst (BagFramesCarryTables t) (sym (are.frames_are ∙ carried m boot t carries)) (record {
      behind = record { fits = tables_fit m boot t carries are.fits; are = refl };
      count = sym (add-one (length (bag_table_frames t))) ∙ length_behind t;
      header = header_of 0 (bag_install_frame_count t) (wire_spelled_front m.to boot);
    })

-- ---- the same tables under another version

pub says_too : (version : ℕ) (t : Tables) (fs : List (List ℕ)) → version < 2 ^ 32 → BagFramesCarryTables t fs
    → BagFramesCarryTables (record t { version = version }) (wire_frames_of_version version fs)
says_too version t [] few carry = absurd (omega (arith, carry.count, length_behind t))
says_too version t (first ∷ others) few carry = let u : Tables = record t { version = version } in
    subst (BagFramesCarryTables u) (sym (ap (λ fs. wire_frames_of_version version (first ∷ fs)) carry.behind.are
    ∙ behind version first t)) (record {
      behind = record { fits = fits_too version t few carry.behind.fits; are = refl };
      count = sym (add-one (length (bag_table_frames u))) ∙ length_behind u;
      header = carry.header ∙ ap (λ n. n4.spell 0 ++ n4.spell n) (sym (same_count version t));
    })

-- ---- the tables that come out of the frames of an installation

pub its_say : (fs : List (List ℕ)) → (of : AreBagFramesOfInstall fs) → BagFramesCarryTables of.tables fs
its_say fs of = says of.message_is fs of.boot of.tables (record { fits = of.has.fits; frames_are = of.are }) of.carries

pub not_none : (fs : List (List ℕ)) → AreBagFramesOfInstall fs → length fs ≤ 0 → ⊥
not_none fs of none = absurd (omega (arith, (its_say fs of).count, length_behind of.tables))

with_first : (fs : List (List ℕ)) (first : List ℕ) → slice_get fs 0 ≡ Some first → first ∷ drop 1 fs ≡ fs
with_first [] first at = absurd (cc at)
with_first (f ∷ fs) first at = ap (λ g. g ∷ fs) (sym (same_Some f first at))

pub of_message : (fs : List (List ℕ)) (first : List ℕ) → AreBagFramesOfInstall fs → slice_get fs 0 ≡ Some first
    → AreBagFramesOfMessage (first ∷ drop 1 fs)
of_message fs first of at = (of.message_is, of.has, with_first fs first at ∙ of.are)

pub out_says : (fs : List (List ℕ)) (first : List ℕ) (m : Message) (boot : ℕ) (t : Tables) → slice_get fs 0 ≡ Some first
    → AreWireFrames m (first ∷ drop 1 fs) → m.body ≡ Install boot t → BagFramesCarryTables t fs
out_says fs first m boot t at are carries =
    says m fs boot t (subst (AreWireFrames m) (with_first fs first at) are) carries

pub cloned_say : {E : Type 0} (N : E → Type 0) (r : Result Tables E) (t : Tables) (fs : List (List ℕ))
    → MatchResult r (λ copy. copy ≡ t) N → BagFramesCarryTables t fs → IfOk r (λ copy. BagFramesCarryTables copy fs)
cloned_say N (Ok copy) t fs is carry = subst (λ u. BagFramesCarryTables u fs) (sym is) carry
cloned_say N (Err e) t fs is carry = tt

-- another message doesn't come out
pub not_alone : (fs : List (List ℕ)) (first : List ℕ) (m : Message) → AreBagFramesOfInstall fs → slice_get fs 0 ≡ Some first
    → AreWireFrames m (first ∷ drop 1 fs) → bag_tables_version m.body ≡ None → ⊥
not_alone fs first m of at are alone =
    let same = same_message of.message_is m fs (record { fits = of.has.fits; frames_are = of.are })
    (subst (AreWireFrames m) (with_first fs first at) are) in
    absurd (cc (ap bag_tables_version (sym (ap (λ (n : Message). n.body) same ∙ of.carries)) ∙ alone))

-- ---- the first frame of an installation

own_is : (fs : List (List ℕ)) (own : List ℕ) → slice_get fs 0 ≡ Some own → get_or fs 0 [] ≡ own
own_is [] own at = absurd (cc at)
own_is (f ∷ fs) own at = same_Some f own at

own_header : (t : Tables) (fs : List (List ℕ)) (own : List ℕ) → BagFramesCarryTables t fs
    → slice_get fs 0 ≡ Some own → take 8 own ≡ n4.spell 0 ++ n4.spell (length fs)
own_header t fs own carry at = cc (own_is fs own at, carry.header, carry.count)

pub own_long : (t : Tables) (fs : List (List ℕ)) (own : List ℕ) → BagFramesCarryTables t fs → slice_get fs 0
    ≡ Some own → 8 ≤ length own
own_long t fs own carry at = omega (
  arith,
  length-take 8 own,
  ap length (own_header t fs own carry at),
  length-append (n4.spell 0) (n4.spell (length fs)),
  length_n4 0,
  length_n4 (length fs),
)

pub first_put : (t : Tables) (fs : List (List ℕ)) (own before with_header after chunk : List ℕ)
    → BagFramesCarryTables t fs → slice_get fs 0 ≡ Some own → with_header ≡ before ++ take 8 own
    → after ≡ with_header ++ chunk → after ≡ before ++ frame 0 (length fs) chunk
unfolding frame
first_put t fs own before with_header after chunk carry at put more =
    cc (more, put, append_assoc before (take 8 own) chunk, own_header t fs own carry at)

-- ---- an installation is known by its first frame and its tables

-- what the first frame says
pub record IsInstalled (first : List ℕ) (t : Tables) : Type 0 where
  pub to : Place
  pub boot : ℕ
  pub fits : wire_message_front.fits (to, (1, boot)) ≡ true
  pub suits_it : wire_body_suits_receiver to (Install boot t) ≡ true
  pub first_is : first ≡ frame 0 (bag_install_frame_count t) (wire_spelled_front to boot)

lone : (m : Message) (first : List ℕ) (t : Tables) → bag_tables_version m.body ≡ None → first ∷ bag_table_frames t ≡ frames m → ⊥
lone m first t alone are = absurd (omega (arith, ap length (are ∙ only_frame m alone), some_behind))

parts_of : (x y : List ℕ) (xs ys : List (List ℕ)) → x ∷ xs ≡ y ∷ ys → (x ≡ y) × (xs ≡ ys)
parts_of x y xs ys e = (cc, cc)

of_install : (to : Place) (boot : ℕ) (u : Tables) (first : List ℕ) (t : Tables)
    → message.fits (record { to = to; body = Install boot u }) ≡ true
    → first ∷ bag_table_frames t ≡ frames (record { to = to; body = Install boot u }) → IsInstalled first t
of_install to boot u first t fits are =
    let parts = parts_of first (frame 0 (bag_install_frame_count u) (wire_spelled_front to boot)) (bag_table_frames t) (bag_table_frames u)
    (are ∙ installed to boot u) in
    let fit = fits_parts to boot u fits in record {
      to = to;
      boot = boot;
      fits = fit.0;
      suits_it = suits_any to boot boot t u ∙ fit.2;
      first_is = parts.0 ∙ ap (λ n. frame 0 n (wire_spelled_front to boot)) (sym (length_behind u)
          ∙ ap (λ (fs : List (List ℕ)). length fs + 1) (sym parts.1) ∙ length_behind t);
    }

of_body : (to : Place) (b : Body) (first : List ℕ) (t : Tables) → message.fits (record { to = to; body = b }) ≡ true
    → first ∷ bag_table_frames t ≡ frames (record { to = to; body = b }) → IsInstalled first t
of_body to (Install boot u) first t fits are = of_install to boot u first t fits are
of_body to b first t fits are = absurd (lone (record { to = to; body = b }) first t refl are)

is_installed : (first : List ℕ) (t : Tables) → AreBagFramesOfMessage (first ∷ bag_table_frames t) → IsInstalled first t
is_installed first t of = of_body of.0.to of.0.body first t of.1.fits of.2

pub has_front : (first bytes : List ℕ) (t : Tables) → AreBagFramesOfMessage (first ∷ bag_table_frames t)
    → bytes ≡ chunk_in_wire_frame first → (to : Place) × (boot : ℕ) × IsWireFront to boot bytes
has_front first bytes t of is = let i = is_installed first t of in (
  i.to,
  i.boot,
  record {
    fits = i.fits;
    spelled = cc (is, i.first_is, chunk_of_frame 0 (bag_install_frame_count t) (wire_spelled_front i.to i.boot));
  },
)

pub again_installed : (first bytes : List ℕ) (t : Tables) (to : Place) (boot : ℕ) → AreBagFramesOfMessage (first ∷ bag_table_frames t)
    → tables.fits t ≡ true → bytes ≡ chunk_in_wire_frame first → IsWireFront to boot bytes
    → AreWireFrames (record { to = to; body = Install boot t }) (first ∷ bag_table_frames t)
unfolding has_front is_installed
again_installed first bytes t to boot of fits is front_is =
    let i = is_installed first t of in
    let whole : AreWireFrames (record { to = i.to; body = Install i.boot t }) (first ∷ bag_table_frames t) = record {
      fits = fits_whole i.to i.boot t i.fits fits i.suits_it;
      frames_are = ap (λ f. f ∷ bag_table_frames t) i.first_is ∙ sym (installed i.to i.boot t);
    } in
    subst (λ (p : Place × ℕ). AreWireFrames (record { to = p.0; body = Install p.1 t }) (first ∷ bag_table_frames t))
    (one_front bytes i.to to i.boot boot (has_front first bytes t of is).2 front_is) whole

pub long_installed : (first : List ℕ) (t : Tables) → AreBagFramesOfMessage (first ∷ bag_table_frames t) → 8 ≤ length first
long_installed first t of = let i = is_installed first t of in
    omega (arith, ap length i.first_is, length_frame 0 (bag_install_frame_count t) (wire_spelled_front i.to i.boot))
